-- What runs stand for where one is put at the end, which is in front, or taken from there.
use Rattle.std.proofs.Common.{◌≡◌, ℕ, zero, suc, ◌+◌, ◌-◌, ◌<◌, ◌≤◌, List, [], ◌∷◌, ◌++◌, arith, refl, sym, ◌∙◌, ap, subst, append_assoc, append-nil, replicate, length, take, take_all, slice_get, Some, Bool, true, false, ◌≢◌}
use Rattle.std.specs.Prelude.{◌==◌, IsTrue}
use Rattle.std.proofs.lemmas.List.{length-append, length-replicate}
use Rattle.std.proofs.lemmas.Option.{slice_get_within}
use Rattle.class_system.proofs.Results.{take-at}
use Rattle.object_store.specs.declared.pending.Run.{Run}
use Rattle.object_store.specs.Runs.{unrolled, HaveSome}

-- A run put at the end stands for its node, as many times as it has, in front of the nodes of the
-- other runs.
pub unrolled-push : (runs : List Run) (r : Run) → unrolled (runs ++ r ∷ []) ≡ replicate r.times r.node.0 ++ unrolled runs
unrolled-push [] r = sym (append-nil (replicate r.times r.node.0))
unrolled-push (q ∷ runs) r = ap (λ es. es ++ replicate q.times q.node.0) (unrolled-push runs r) ∙ append_assoc (replicate r.times r.node.0) (unrolled runs) (replicate q.times q.node.0)

-- Where no run of a list is empty, none is after a run that isn't empty is put at the end.
pub HaveSome-push : (runs : List Run) (r : Run) → HaveSome runs → 0 < r.times → HaveSome (runs ++ r ∷ [])
HaveSome-push [] r h k = (k, tt)
HaveSome-push (q ∷ runs) r h k = (h.0, HaveSome-push runs r h.1 k)

-- Where no run of a list is empty, its last run isn't, and none of those before it is.
pub HaveSome-rest : (runs : List Run) (r : Run) → HaveSome (runs ++ r ∷ []) → HaveSome runs × (0 < r.times)
HaveSome-rest [] r h = (tt, h.0)
HaveSome-rest (q ∷ runs) r h = let k = HaveSome-rest runs r h.1 in ((h.0, k.0), k.1)

-- a run of some nodes begins with one
pub replicate-first : (n e : ℕ) → 0 < n → replicate n e ≡ e ∷ replicate (n - 1) e
replicate-first zero e h = absurd (omega arith)
replicate-first (suc n) e h = let k : suc n - 1 ≡ n = omega arith in ap (λ m. e ∷ replicate m e) (sym k)

-- the last run's node stands first
pub unrolled-first : (runs : List Run) (r : Run) → HaveSome runs → slice_get runs (length runs - 1) ≡ Some r → slice_get (unrolled runs) 0 ≡ Some r.node.0
unrolled-first runs r h at =
    let within = slice_get_within runs (length runs - 1) r at in
    let front = take (length runs - 1) runs in
    let all : take (length runs - 1 + 1) runs ≡ runs = take_all (length runs - 1 + 1) runs (omega arith) in
    let whole : runs ≡ front ++ r ∷ [] = sym all ∙ take-at runs (length runs - 1) r at in
    let some = HaveSome-rest front r (subst HaveSome whole h) in
    let is : unrolled runs ≡ (r.node.0 ∷ replicate (r.times - 1) r.node.0) ++ unrolled front = ap unrolled whole ∙ unrolled-push front r ∙ ap (λ es. es ++ unrolled front) (replicate-first r.times r.node.0 some.1) in
    ap (λ es. slice_get es 0) is

-- Where no run is empty, the runs stand for as many nodes as they are, or more.
many-unrolled : (runs : List Run) → HaveSome runs → length runs ≤ length (unrolled runs)
many-unrolled [] h = omega arith
many-unrolled (r ∷ runs) h = let before = many-unrolled runs h.1 in let some = h.0 in omega (arith, length-append (unrolled runs) (replicate r.times r.node.0), length-replicate r.times r.node.0)

-- How many runs stand before the last one, which isn't empty, and how many nodes there are.
pub record Counted (runs : List Run) (r : Run) : Type 0 where
  pub others : ℕ
  pub some : 0 < r.times
  pub runs_all : length runs ≡ others + 1
  pub at_least : r.times + others ≤ length (unrolled runs)
  pub alone : others ≡ 0 → length (unrolled runs) ≡ r.times

pub last-counted : (runs : List Run) (r : Run) → HaveSome runs → slice_get runs (length runs - 1) ≡ Some r → Counted runs r
last-counted runs r h at =
    let within = slice_get_within runs (length runs - 1) r at in
    let front = take (length runs - 1) runs in
    let all : take (length runs - 1 + 1) runs ≡ runs = take_all (length runs - 1 + 1) runs (omega arith) in
    let whole : runs ≡ front ++ r ∷ [] = sym all ∙ take-at runs (length runs - 1) r at in
    let some = HaveSome-rest front r (subst HaveSome whole h) in
    let is : length (unrolled runs) ≡ length (replicate r.times r.node.0 ++ unrolled front) = ap (λ rs. length (unrolled rs)) whole ∙ ap length (unrolled-push front r) in
    let parts = length-append (replicate r.times r.node.0) (unrolled front) in
    let times = length-replicate r.times r.node.0 in
    let count : length runs ≡ length front + 1 = ap length whole ∙ length-append front (r ∷ []) in
    let many = many-unrolled front some.0 in
    record {
      others = length front;
      some = some.1;
      runs_all = count;
      at_least = omega arith;
      alone = λ none. let nothing = no-runs front none in omega arith;
    }
  where
    no-runs : (front : List Run) → length front ≡ 0 → length (unrolled front) ≡ 0
    no-runs [] none = refl
    no-runs (q ∷ front) none = absurd (omega arith)

-- more than one node waits where the last run has more than one, or isn't the only run
pub waits-more : (runs : List Run) (r : Run) → HaveSome runs → slice_get runs (length runs - 1) ≡ Some r → 1 < r.times → 1 < length (unrolled runs)
waits-more runs r h at many = let l = (last-counted runs r h at).at_least in omega arith

pub waits-others : (runs : List Run) (r : Run) → HaveSome runs → slice_get runs (length runs - 1) ≡ Some r → r.times ≤ 1 → (1 < length runs → 1 < length (unrolled runs)) × (1 < length (unrolled runs) → 1 < length runs)
waits-others runs r h at few =
    let c = last-counted runs r h at in
    (λ more. waits c.others c.some c.runs_all c.at_least more, λ more. runs-too c.others c.runs_all c.alone more)
  where
    waits : (others : ℕ) → 0 < r.times → length runs ≡ others + 1 → r.times + others ≤ length (unrolled runs) → 1 < length runs → 1 < length (unrolled runs)
    waits others some here at_least more = omega arith

    runs-too : (others : ℕ) → length runs ≡ others + 1 → (others ≡ 0 → length (unrolled runs) ≡ r.times) → 1 < length (unrolled runs) → 1 < length runs
    runs-too zero here alone more = let is = alone refl in absurd (omega arith)
    runs-too (suc others) here alone more = omega arith

-- a run of some nodes is one of the first of them and one of the others
replicate-split : (n k e : ℕ) → k ≤ n → replicate n e ≡ replicate k e ++ replicate (n - k) e
replicate-split n zero e few = let all : n ≡ n - 0 = omega arith in ap (λ m. replicate m e) all
replicate-split zero (suc k) e few = absurd (omega arith)
replicate-split (suc n) (suc k) e few =
    let left : n - k ≡ suc n - suc k = omega arith in
    ap (λ es. e ∷ es) (replicate-split n k e (omega arith) ∙ ap (λ m. replicate k e ++ replicate m e) left)

-- So many equal nodes were taken from the front, and others wait.
pub record TakenEqual (old : List ℕ) (taken : ℕ) (new : List ℕ) : Type 0 where
  pub items : (first : ℕ) → slice_get old 0 ≡ Some first → old ≡ replicate taken first ++ new
  pub waits : new ≢ []
  pub some : old ≢ []

-- from how the nodes were, and are
taken-equal : (old rest new : List ℕ) (e taken : ℕ) → old ≡ e ∷ rest → old ≡ replicate taken e ++ new → new ≢ [] → TakenEqual old taken new
taken-equal old rest new e taken front split waits = record {
  items = λ first at. let same : e ≡ first = let told = at in let is = front in cc in subst (λ f. old ≡ replicate taken f ++ new) same split;
  waits = waits;
  some = λ none. let is = front in absurd (cc);
}

-- a part of the last run is taken
pub part-taken : (runs : List Run) (r : Run) (taken : ℕ) → HaveSome (runs ++ r ∷ []) → taken < r.times → TakenEqual (unrolled (runs ++ r ∷ [])) taken (unrolled (runs ++ record { node = r.node; times = r.times - taken } ∷ []))
part-taken runs r taken h few =
    let left : Run = record { node = r.node; times = r.times - taken } in
    let some = (HaveSome-rest runs r h).1 in
    let old = unrolled-push runs r in
    let new = unrolled-push runs left in
    let new_front = new ∙ ap (λ es. es ++ unrolled runs) (replicate-first (r.times - taken) r.node.0 (omega arith)) in
    let split = old
    ∙ ap (λ es. es ++ unrolled runs) (replicate-split r.times taken r.node.0 (omega arith))
    ∙ append_assoc (replicate taken r.node.0) (replicate (r.times - taken) r.node.0) (unrolled runs)
    ∙ ap (λ es. replicate taken r.node.0 ++ es) (sym new) in
    taken-equal (unrolled (runs ++ r ∷ [])) (replicate (r.times - 1) r.node.0 ++ unrolled runs) (unrolled (runs ++ left ∷ [])) r.node.0 taken
    (old ∙ ap (λ es. es ++ unrolled runs) (replicate-first r.times r.node.0 some))
    split (λ none. let is = new_front in absurd (cc))

-- the last run is taken whole, where it isn't the only one
pub run-taken : (runs : List Run) (r : Run) (taken : ℕ) → HaveSome (runs ++ r ∷ []) → taken ≡ r.times → 0 < length runs → TakenEqual (unrolled (runs ++ r ∷ [])) taken (unrolled runs)
run-taken runs r taken h all others =
    let rest = HaveSome-rest runs r h in
    let old = unrolled-push runs r in
    let many = many-unrolled runs rest.0 in
    taken-equal (unrolled (runs ++ r ∷ [])) (replicate (r.times - 1) r.node.0 ++ unrolled runs) (unrolled runs) r.node.0 taken
    (old ∙ ap (λ es. es ++ unrolled runs) (replicate-first r.times r.node.0 rest.1))
    (old ∙ ap (λ n. replicate n r.node.0 ++ unrolled runs) (sym all))
    (λ none. let nothing : length (unrolled runs) ≡ 0 = ap length none in absurd (omega arith))

-- where a run isn't taken whole though as many as there are could be, it is the only one
pub not-alone : (alone : Bool) (len free times : ℕ) → alone ≡ (len == 0) → 0 < times → (IsTrue alone → free ≡ times - 1) → times ≤ free → 0 < len
not-alone true len free times is some h many = let e = h (cc) in absurd (omega arith)
not-alone false zero free times is some h many = absurd (cc)
not-alone false (suc len) free times is some h many = omega arith
