-- A search for an atom finds the way down to it.
use Rattle.std.proofs.Common.{◌≡◌, ℕ, zero, suc, ◌+◌, ◌-◌, ◌<◌, ◌≤◌, ◌⊎◌, inl, inr, List, [], ◌∷◌, ◌++◌, map, length, arith, refl, sym, ◌∙◌, ap, subst, append_assoc, append-nil, true, false}
use Rattle.std.specs.Prelude.{reverse}
use Rattle.std.proofs.lemmas.List.{map-append}
use Rattle.std.proofs.lemmas.Grind.{reverse_onto}
use Rattle.bz_model.specs.Spec.{Spec, Node, node_at}
use Rattle.bz_model.specs.Object.{Object, Objects, none, more, count}
use Rattle.bz_model.specs.Object.Object.{Unit_, Dot}
use Rattle.bz_model.specs.Measures.{size, sizes}
use Rattle.object_store.specs.declared.token.Token.{Token}
use Rattle.object_store.specs.declared.visit.Visit.{Visit}
use Rattle.object_store.specs.Seen.{parts_at}
use Rattle.object_store.specs.Tokens.{BelongEach, AreOf}
use Rattle.object_store.specs.Waiting.{joined, AreWaiting, Shows, ShowsClass, ShowsTuple, ShowsLeaf, ShowsPick, ShowsList}
use Rattle.object_store.specs.Walking.{Walking, IsVisitOfWalk, IsEnd, HasNoObjects}
use Rattle.object_store.proofs.Waiting.{asked, nothing-waits}
use Rattle.pointing.specs.Ways.{here_or, way, way_among, place, level_places, finished, level_opened, Search, way_from, IsNearer, HasPassed}
use Rattle.pointing.specs.declared.ways.Level.{Level}

-- Where n is below m, the choice between two lists by m - n is the first.
pub here-is : (m n : ℕ) (a b : List ℕ) → n < m → here_or (m - n) a b ≡ a
here-is m n a b lt = at (m - n) refl
  where
    at : (d : ℕ) → m - n ≡ d → here_or d a b ≡ a
    at zero e = absurd (omega arith)
    at (suc d) e = refl

-- Where m is at most n, the choice between two lists by m - n is the second.
pub later-is : (m n : ℕ) (a b : List ℕ) → m ≤ n → here_or (m - n) a b ≡ b
later-is m n a b le = at (m - n) refl
  where
    at : (d : ℕ) → m - n ≡ d → here_or d a b ≡ b
    at zero e = refl
    at (suc d) e = absurd (omega arith)

-- Of two numbers m and n, either n is below m or m is at most n.
pub below-or : (m n : ℕ) → (n < m) ⊎ (m ≤ n)
below-or m n = at (m - n) refl
  where
    at : (d : ℕ) → m - n ≡ d → (n < m) ⊎ (m ≤ n)
    at zero e = inr (omega arith)
    at (suc d) e = inl (omega arith)

pub joined-sizes : (os ps : Objects) → sizes (joined os ps) ≡ sizes os + sizes ps
joined-sizes none ps = omega arith
joined-sizes (more o os) ps = let e = joined-sizes os ps in omega arith

-- Where each object belongs to its node, one by one, the nodes are as many as the objects.
pub as-many : (s : Spec) (es : List ℕ) (os : Objects) → BelongEach s es os → length es ≡ count os
as-many s [] none h = refl
as-many s (e ∷ es) (more o os) h = ap suc (as-many s es os h.1)
as-many s _ _ h = elim h [ ]

-- An inner level's place comes last.
places-more : (l : Level) (ls : List Level) → level_places (l ∷ ls) ≡ level_places ls ++ place l ∷ []
places-more l ls = ap (map place) (reverse_onto ls l []) ∙ map-append place (reverse ls) (l ∷ [])

abbrev level : (parts left : ℕ) → Level
level parts left = record { parts = parts; left = left }

-- A search among the parts of an open level: the first part holds the atom, or the search goes on.
module _ (ls : List Level) (parts i n : ℕ) (o : Object) (os others : Objects) where
  abbrev In : Type 0
  In = way_from (level parts (suc (count os)) ∷ ls) n (more o (joined os others))
      ≡ here_or (sizes (more o os) - n) (level_places ls ++ way_among i (more o os) n) (way_from (finished ls) (n - sizes (more o os)) others)

  in-first : parts ≡ i + suc (count os) → n < size o → In
  in-first e lt =
      here-is (size o) n (level_places (level parts (suc (count os)) ∷ ls) ++ way o n) (way_from (finished (level parts (suc (count os)) ∷ ls)) (n - size o) (joined os others)) lt
      ∙ ap (λ z. z ++ way o n) (places-more (level parts (suc (count os))) ls ∙ ap (λ z. level_places ls ++ z ∷ []) (let f : parts - suc (count os) ≡ i = omega arith in f))
      ∙ append_assoc (level_places ls) (i ∷ []) (way o n)
      ∙ ap (λ z. level_places ls ++ z) (sym (here-is (size o) n (i ∷ way o n) (way_among (suc i) os (n - size o)) lt))
      ∙ sym (here-is (sizes (more o os)) n (level_places ls ++ way_among i (more o os) n) (way_from (finished ls) (n - sizes (more o os)) others) (let f : sizes (more o os) ≡ size o + sizes os = refl in omega arith))

  in-later : size o ≤ n → way_from (finished (level parts (suc (count os)) ∷ ls)) (n - size o) (joined os others) ≡ here_or (sizes (more o os) - n) (level_places ls ++ way_among (suc i) os (n - size o)) (way_from (finished ls) (n - sizes (more o os)) others) → In
  in-later le h =
      later-is (size o) n (level_places (level parts (suc (count os)) ∷ ls) ++ way o n) (way_from (finished (level parts (suc (count os)) ∷ ls)) (n - size o) (joined os others)) le
      ∙ h
      ∙ ap (λ z. here_or (sizes (more o os) - n) (level_places ls ++ z) (way_from (finished ls) (n - sizes (more o os)) others)) (sym (later-is (size o) n (i ∷ way o n) (way_among (suc i) os (n - size o)) le))

way-in : (ls : List Level) (parts i n : ℕ) (o : Object) (os others : Objects) → parts ≡ i + suc (count os) → In ls parts i n o os others
way-in ls parts i n o none others e = elim (below-or (size o) n) [
  | inl lt ↦ in-first ls parts i n o none others e lt
  | inr le ↦ in-later ls parts i n o none others le
      (ap (λ m. way_from (finished ls) m others) (let f : n - size o ≡ n - (size o + 0) = omega arith in f)
      ∙ sym (later-is (sizes (more o none)) n (level_places ls ++ way_among (suc i) none (n - size o)) (way_from (finished ls) (n - sizes (more o none)) others) (let f : sizes (more o none) ≡ size o + 0 = refl in omega arith)))
]
way-in ls parts i n o (more p ps) others e = elim (below-or (size o) n) [
  | inl lt ↦ in-first ls parts i n o (more p ps) others e lt
  | inr le ↦ in-later ls parts i n o (more p ps) others le
      (way-in ls parts (suc i) (n - size o) p ps others (let f : count (more p ps) ≡ suc (count ps) = refl in omega arith)
      ∙ ap (λ m. here_or m (level_places ls ++ way_among (suc i) (more p ps) (n - size o)) (way_from (finished ls) ((n - size o) - sizes (more p ps)) others)) (let f : sizes (more p ps) - (n - size o) ≡ (size o + sizes (more p ps)) - n = omega arith in f)
      ∙ ap (λ m. here_or (sizes (more o (more p ps)) - n) (level_places ls ++ way_among (suc i) (more p ps) (n - size o)) (way_from (finished ls) m others)) (let f : (n - size o) - sizes (more p ps) ≡ n - (size o + sizes (more p ps)) = omega arith in f))
]

-- A search where an object with parts is begun.
opened-way : (ls : List Level) (k n : ℕ) (os others : Objects) → k ≡ count os
    → way_from (level_opened k ls) n (joined os others)
    ≡ here_or (sizes os - n) (level_places ls ++ way_among 0 os n) (way_from (finished ls) (n - sizes os) others)
opened-way ls zero n none others e =
    ap (λ m. way_from (finished ls) m others) (let f : n ≡ n - 0 = omega arith in f)
    ∙ sym (later-is 0 n (level_places ls ++ way_among 0 none n) (way_from (finished ls) (n - 0) others) (omega arith))
opened-way ls zero n (more o os) others e = absurd (omega arith)
opened-way ls (suc k) n none others e = absurd (omega arith)
opened-way ls (suc k) n (more o os) others e =
    ap (λ m. way_from (level (suc k) m ∷ ls) n (more o (joined os others))) e
    ∙ way-in ls (suc k) 0 n o os others (let f : count (more o os) ≡ suc (count os) = refl in omega arith)

module _ (s : Spec) (e : ℕ) (es : List ℕ) (os : Objects) (ts : List Token) (fs : List ℕ) (us : List Token) (ls : List Level) (n : ℕ) (within : n < sizes os) where
  abbrev pub begun : Search
  begun = record { levels = ls; before = n }

  pub class-passed : (body : ℕ) (now : Search) → now.levels ≡ ls → now.before ≡ n → ShowsClass s e es os ts body fs us → IsNearer s begun now os fs us
  class-passed body now l b k = record { objects = os; waits = k.waits; within = subst (λ m. m < sizes os) (sym b) within; same = ap (λ z. way_from z n os) (sym l) ∙ ap (λ m. way_from now.levels m os) (sym b) }

  pub pick-passed : (option part : ℕ) (now : Search) → now.levels ≡ ls → now.before ≡ n → ShowsPick s e es os ts option part fs us → IsNearer s begun now os fs us
  pick-passed option part now l b k =
      let sized : sizes os ≡ size k.object + sizes k.others = ap sizes k.is_pick in
      record {
        objects = more k.object k.others;
        waits = k.waits;
        within = subst (λ m. m < size k.object + sizes k.others) (sym b) (omega arith);
        same = ap (way_from ls n) k.is_pick ∙ ap (λ z. way_from z n (more k.object k.others)) (sym l) ∙ ap (λ m. way_from now.levels m (more k.object k.others)) (sym b);
      }

  -- a leaf without an atom is done
  pub empty-passed : (node : List ℕ → Node) (t : Token) (now : Search) → now.levels ≡ finished ls → now.before ≡ n → ShowsLeaf node Unit_ t s e es os ts fs us → IsNearer s begun now os fs us
  empty-passed node t now l b k =
      let sized : sizes os ≡ 0 + sizes k.others = ap sizes k.is_leaf in
      record {
        objects = k.others;
        waits = k.waits;
        within = omega arith;
        same = ap (way_from ls n) k.is_leaf
            ∙ later-is 0 n (level_places ls ++ []) (way_from (finished ls) (n - 0) k.others) (omega arith)
            ∙ ap (λ m. way_from (finished ls) m k.others) (let f : n - 0 ≡ now.before = omega arith in f)
            ∙ ap (λ z. way_from z now.before k.others) (sym l);
      }

  -- an atom before the one that is searched for is done
  pub atom-passed : (node : List ℕ → Node) (t : Token) (now : Search) → now.levels ≡ finished ls → now.before ≡ n - 1 → 0 < n → ShowsLeaf node Dot t s e es os ts fs us → IsNearer s begun now os fs us
  atom-passed node t now l b some k =
      let sized : sizes os ≡ 1 + sizes k.others = ap sizes k.is_leaf in
      record {
        objects = k.others;
        waits = k.waits;
        within = omega arith;
        same = ap (way_from ls n) k.is_leaf
            ∙ later-is 1 n (level_places ls ++ []) (way_from (finished ls) (n - 1) k.others) (omega arith)
            ∙ ap (λ m. way_from (finished ls) m k.others) (sym b)
            ∙ ap (λ z. way_from z now.before k.others) (sym l);
      }

  pub atom-found : (node : List ℕ → Node) (t : Token) (now : Search) → now.levels ≡ ls → n ≡ 0 → ShowsLeaf node Dot t s e es os ts fs us → way_from ls n os ≡ level_places now.levels
  atom-found node t now l zero_before k =
      ap (way_from ls n) k.is_leaf
      ∙ here-is 1 n (level_places ls ++ []) (way_from (finished ls) (n - 1) k.others) (omega arith)
      ∙ append-nil (level_places ls) ∙ ap level_places (sym l)

  -- an object with parts is begun
  parts-passed : (members others : Objects) (parts : ℕ) (now : Search) → now.levels ≡ level_opened parts ls → now.before ≡ n → parts ≡ count members → sizes os ≡ sizes members + sizes others → way_from ls n os ≡ here_or (sizes members - n) (level_places ls ++ way_among 0 members n) (way_from (finished ls) (n - sizes members) others) → AreWaiting s fs (joined members others) us → IsNearer s begun now os fs us
  parts-passed members others parts now l b many sized same_way waits =
      record {
        objects = joined members others;
        waits = waits;
        within = let j = joined-sizes members others in omega arith;
        same = same_way ∙ sym (opened-way ls parts n members others many) ∙ ap (λ z. way_from z n (joined members others)) (sym l) ∙ ap (λ m. way_from now.levels m (joined members others)) (sym b);
      }

  pub tuple-passed : (parts : ℕ) (now : Search) → now.levels ≡ level_opened parts ls → now.before ≡ n → parts ≡ length (parts_at (node_at s e)) → ShowsTuple s e es os ts fs us → IsNearer s begun now os fs us
  tuple-passed parts now l b many k =
      parts-passed k.members k.others parts now l b (many ∙ ap (λ z. length (parts_at z)) k.is_node ∙ as-many s k.parts k.members k.belong) (ap sizes k.is_tuple) (ap (way_from ls n) k.is_tuple) k.waits

  pub list-passed : (node : ℕ → Node) (form : Objects → Object) (parts part : ℕ) (now : Search) → now.levels ≡ level_opened parts ls → now.before ≡ n → ((ps : Objects) → size (form ps) ≡ sizes ps) → ((ps : Objects) → way (form ps) n ≡ way_among 0 ps n) → ShowsList node form s e es os ts parts part fs us → IsNearer s begun now os fs us
  list-passed node form parts part now l b sized ways k =
      parts-passed k.members k.others parts now l b (sym k.counted) (ap sizes k.is_list ∙ ap (λ m. m + sizes k.others) (sized k.members))
      (ap (way_from ls n) k.is_list
      ∙ ap (λ m. here_or (m - n) (level_places ls ++ way (form k.members) n) (way_from (finished ls) (n - m) k.others)) (sized k.members)
      ∙ ap (λ z. here_or (sizes k.members - n) (level_places ls ++ z) (way_from (finished ls) (n - sizes k.members) k.others)) (ways k.members))
      k.waits

-- What a search has come to in a walk over an object.
pub record IsSearching (s : Spec) (o : Object) (atom : ℕ) (walk : Walking) (now : Search) : Type 0 where
  pub objects : Objects
  pub waits : AreWaiting s walk.waiting objects walk.left
  pub within : now.before < sizes objects
  pub same : way_from now.levels now.before objects ≡ way o atom

-- A search without levels, with an object that has the atom waiting, is a search for that atom in
-- the object.
pub search-start : (s : Spec) (o : Object) (atom : ℕ) (walk : Walking) (now : Search) → now.levels ≡ [] → now.before ≡ atom → atom < size o → AreWaiting s walk.waiting (more o none) walk.left → IsSearching s o atom walk now
search-start s o atom walk now l b lt waits = record {
  objects = more o none;
  waits = waits;
  within = let f : sizes (more o none) ≡ size o + 0 = refl in omega arith;
  same = ap (λ z. way_from z now.before (more o none)) l ∙ ap (λ n. way_from [] n (more o none)) b ∙ here-is (size o) atom (way o atom) (way_from [] (atom - size o) none) lt;
}

-- Where a search passes a visit without finding the atom, it goes on as a search for the same atom.
pub search-on : (s : Spec) (o : Object) (atom : ℕ) (walk next : Walking) (e : ℕ) (v : Visit) (before now : Search) → walk.system ≡ s → IsVisitOfWalk walk next e v → HasPassed s e v before now false → IsSearching s o atom walk before → IsSearching s o atom next now
search-on s o atom walk next e v before now system k passed h =
    let shown : Shows walk.system e k.others h.objects walk.left v next.waiting next.left = k.shows h.objects (subst (λ z. AreWaiting z walk.waiting h.objects walk.left) (sym system) h.waits) in
    let g = passed.on k.others h.objects walk.left next.waiting next.left (subst (λ z. Shows z e k.others h.objects walk.left v next.waiting next.left) system shown) h.within in
    record { objects = g.objects; waits = g.waits; within = g.within; same = sym g.same ∙ h.same }

-- Where a search passes a visit and finds the atom there, the places at its levels are the way to
-- the atom.
pub search-found : (s : Spec) (o : Object) (atom : ℕ) (walk next : Walking) (e : ℕ) (v : Visit) (before now : Search) → walk.system ≡ s → IsVisitOfWalk walk next e v → HasPassed s e v before now true → IsSearching s o atom walk before → level_places now.levels ≡ way o atom
search-found s o atom walk next e v before now system k passed h =
    let shown : Shows walk.system e k.others h.objects walk.left v next.waiting next.left = k.shows h.objects (subst (λ z. AreWaiting z walk.waiting h.objects walk.left) (sym system) h.waits) in
    sym (passed.on k.others h.objects walk.left next.waiting next.left (subst (λ z. Shows z e k.others h.objects walk.left v next.waiting next.left) system shown) h.within) ∙ h.same

-- A walk doesn't come to its end while a search in it is going on, as the atom that is searched for
-- still waits.
pub never-ends : (s : Spec) (o : Object) (atom : ℕ) (walk next : Walking) (now : Search) → IsEnd walk next → IsSearching s o atom walk now → ⊥
never-ends s o atom walk next now k h =
    let nothing = nothing-waits s h.objects walk.left (subst (λ es. AreWaiting s es h.objects walk.left) k.nothing h.waits) in
    let none_there : sizes h.objects ≡ 0 = ap sizes nothing.0 in
    let within = h.within in absurd (omega arith)

-- A walk in which a search is going on doesn't come to tokens of no object.
pub never-without : (s : Spec) (o : Object) (atom : ℕ) (walk next : Walking) (now : Search) → walk.system ≡ s → HasNoObjects walk next → IsSearching s o atom walk now → ⊥
never-without s o atom walk next now system k h = k.never (subst (λ z. AreOf z walk.waiting walk.left) (sym system) (asked s walk.waiting h.objects walk.left h.waits))
