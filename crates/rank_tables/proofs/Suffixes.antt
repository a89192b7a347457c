-- Setting the suffixes of a product, from the last part on.
use Rattle.std.proofs.Common.{◌≡◌, ◌≢◌, ℕ, zero, suc, ◌-◌, ◌*◌, ◌<◌, ◌≤◌, ◌⊎◌, inl, inr, List, [], ◌∷◌, map, length, drop, get_or, Option, arith, refl, sym, ◌∙◌, ap, subst}
use Rattle.std.specs.List.{AllByRecursion}
use Rattle.std.proofs.lemmas.Bool.{cases_lt}
use Rattle.bz_model.specs.Totals.{IsDistinct}
use Rattle.bz_laws.specs.Lists.{IsOneOf}
use Rattle.rank_tables.specs.Capped.{Tells}
use Rattle.class_system.specs.Views.{number}
use Rattle.class_system.specs.declared.ids.ExprId.{ExprId}
use Rattle.rank_tables.specs.Grids.{Cells, cell, number_at, AreSuffixes, TellRow}
use Rattle.rank_tables.proofs.Cells.{tells-itself}
use Rattle.rank_tables.specs.TableRule.{one_at, sum_below, tuples}

-- from the part number i on the suffixes are set, and nothing else was changed
pub record SetFrom (t : ℕ → ℕ → ℕ) (old now : Cells) (parts : List ℕ) (i n : ℕ) : Type 0 where
  pub few : i ≤ length parts
  pub nodes : now.nodes ≡ old.nodes
  pub sizes : now.sizes ≡ old.sizes
  pub suffixes : AreSuffixes t now (drop i parts) n
  pub others : (d m : ℕ) → m < old.sizes → (¬ (IsOneOf parts d)) ⊎ (m ≢ n) → cell now d m ≡ cell old d m

-- the suffix of the last part is its own row
pub nothing-before : (f : ℕ → ℕ) (n k : ℕ) → k ≤ n → sum_below k (λ j. f j * one_at 0 (n - j)) ≡ 0
nothing-before f n zero le = refl
nothing-before f n (suc k) le =
    let e = nothing-before f n k (omega arith) in
    let z : n - k ≡ suc (n - suc k) = omega arith in
    let o : one_at 0 (n - k) ≡ 0 = ap (one_at 0) z in
    let p : f k * one_at 0 (n - k) ≡ f k * 0 = ap (λ v. f k * v) o in
    let q : f k * 0 ≡ 0 = omega arith in
    omega arith

-- Tuples of a single part p of size n are as many as the objects of p of that size.
pub last-tuples : (t : ℕ → ℕ → ℕ) (p n : ℕ) → tuples t (p ∷ []) n ≡ t p n
last-tuples t p n =
    let e = nothing-before (t p) n n (omega arith) in
    let z : n - n ≡ 0 = omega arith in
    let o : t p n * one_at 0 (n - n) ≡ t p n * 1 = ap (λ v. t p n * one_at 0 v) z in
    let q : t p n * 1 ≡ t p n = omega arith in
    omega arith

-- a change elsewhere leaves suffixes as they were
pub suffixes-kept : (t : ℕ → ℕ → ℕ) (old now : Cells) (parts : List ℕ) (n : ℕ) → AllByRecursion (λ d. cell now d n ≡ cell old d n) parts → AreSuffixes t old parts n → AreSuffixes t now parts n
suffixes-kept t old now [] n same h = tt
suffixes-kept t old now (p ∷ parts) n same h = (subst (λ v. Tells v (tuples t (p ∷ parts) n)) (sym same.0) h.0, suffixes-kept t old now parts n same.1 h.1)

-- Where the tail numbers of a list of parts are right at size m, so are those of the parts that are
-- left after dropping k.
pub suffixes-drop : (t : ℕ → ℕ → ℕ) (g : Cells) (k m : ℕ) (parts : List ℕ) → AreSuffixes t g parts m → AreSuffixes t g (drop k parts) m
suffixes-drop t g zero m [] h = tt
suffixes-drop t g zero m (p ∷ parts) h = h
suffixes-drop t g (suc k) m [] h = tt
suffixes-drop t g (suc k) m (p ∷ parts) h = suffixes-drop t g k m parts h.1

drop-distinct : (k : ℕ) (parts : List ℕ) → IsDistinct parts → IsDistinct (drop k parts)
drop-distinct zero [] d = tt
drop-distinct zero (p ∷ parts) d = d
drop-distinct (suc k) [] d = tt
drop-distinct (suc k) (p ∷ parts) d = drop-distinct k parts d.1

drop-member : (k : ℕ) (parts : List ℕ) (p : ℕ) → IsOneOf (drop k parts) p → IsOneOf parts p
drop-member zero [] p m = elim m [ ]
drop-member zero (q ∷ parts) p m = m
drop-member (suc k) [] p m = elim m [ ]
drop-member (suc k) (q ∷ parts) p m = inr (drop-member k parts p m)

-- what the next part's suffix tells up to size n
pub next-row : (t : ℕ → ℕ → ℕ) (old now : Cells) (parts rest : List ℕ) (i n q : ℕ) → SetFrom t old now parts i n → n < old.sizes → ((m : ℕ) → m < n → AreSuffixes t old parts m) → drop i parts ≡ q ∷ rest → TellRow now q n (tuples t (q ∷ rest))
next-row t old now parts rest i n q from fits lesser is j le = elim (cases_lt j n) [
  | inl lt ↦ (let s : AreSuffixes t old (q ∷ rest) j = subst (λ z. AreSuffixes t old z j) is (suffixes-drop t old i j parts (lesser j lt)) in subst (λ v. Tells v (tuples t (q ∷ rest) j)) (sym (from.others q j (omega arith) (inr (λ same. let bad : j ≡ n = same in omega arith)))) s.0)
  | inr ge ↦ (let e : n ≡ j = omega arith in subst (λ m. Tells (cell now q m) (tuples t (q ∷ rest) m)) e (let s : AreSuffixes t now (q ∷ rest) n = subst (λ z. AreSuffixes t now z n) is from.suffixes in s.0))
]

kept-each : (mid new : Cells) (p n : ℕ) (rest : List ℕ) → ((d : ℕ) → d ≢ p → cell new d n ≡ cell mid d n) → AllByRecursion (λ d. d ≢ p) rest → AllByRecursion (λ d. cell new d n ≡ cell mid d n) rest
kept-each mid new p n [] same h = tt
kept-each mid new p n (d ∷ rest) same h = (same d h.0, kept-each mid new p n rest same h.1)

-- one part more
pub set-more : (t : ℕ → ℕ → ℕ) (old mid new : Cells) (parts : List ℕ) (i n p : ℕ) (v : Option ℕ) → SetFrom t old mid parts (suc i) n → drop i parts ≡ p ∷ drop (suc i) parts → IsDistinct parts → n < old.sizes → new.nodes ≡ mid.nodes → new.sizes ≡ mid.sizes → cell new p n ≡ v → ((d m : ℕ) → m < mid.sizes → (d ≢ p) ⊎ (m ≢ n) → cell new d m ≡ cell mid d m) → Tells v (tuples t (p ∷ drop (suc i) parts) n) → SetFrom t old new parts i n
set-more t old mid new parts i n p v from is apart fits nodes sizes here others tells = record {
  few = let k = from.few in omega arith;
  nodes = nodes ∙ from.nodes;
  sizes = sizes ∙ from.sizes;
  suffixes = subst (λ z. AreSuffixes t new z n) (sym is) (subst (λ z. Tells z (tuples t (p ∷ drop (suc i) parts) n)) (sym here) tells, suffixes-kept t mid new (drop (suc i) parts) n (kept-each mid new p n (drop (suc i) parts) (λ d ne. others d n (let e : mid.sizes ≡ old.sizes = from.sizes in omega arith) (inl ne)) d_apart.0) from.suffixes);
  others = λ d m lt no. others d m (let e : mid.sizes ≡ old.sizes = from.sizes in omega arith) (elim no [ inl out ↦ inl (λ same. out (subst (IsOneOf parts) (sym same) a_part)) | inr ne ↦ inr ne ]) ∙ from.others d m lt no;
}
  where
    d_apart : IsDistinct (p ∷ drop (suc i) parts)
    d_apart = subst (λ z. IsDistinct z) is (drop-distinct i parts apart)

    a_part : IsOneOf parts p
    a_part = drop-member i parts p (subst (λ z. IsOneOf z p) (sym is) (inl refl))

-- Taking the number of each part leaves the length of a list of parts as it is.
pub mapped-length : (parts : List ExprId) → length (map number parts) ≡ length parts
mapped-length [] = refl
mapped-length (p ∷ parts) = ap suc (mapped-length parts)

-- the parts from a place on begin with the part there
pub drop-at : (k : ℕ) (d : ExprId) (parts : List ExprId) → k < length parts → drop k (map number parts) ≡ (get_or parts k d).0 ∷ drop (suc k) (map number parts)
drop-at k d [] lt = absurd (omega arith)
drop-at zero d (p ∷ []) lt = refl
drop-at zero d (p ∷ q ∷ parts) lt = refl
drop-at (suc k) d (p ∷ parts) lt = drop-at k d parts (let e : length (p ∷ parts) ≡ suc (length parts) = refl in omega arith)

-- Dropping k parts from a list of at most k leaves nothing.
pub drop-end : (k : ℕ) (parts : List ExprId) → length parts ≤ k → drop k (map number parts) ≡ []
drop-end zero [] le = refl
drop-end (suc k) [] le = refl
drop-end zero (p ∷ parts) le = absurd (let e : length (p ∷ parts) ≡ suc (length parts) = refl in omega arith)
drop-end (suc k) (p ∷ parts) le = drop-end k parts (let e : length (p ∷ parts) ≡ suc (length parts) = refl in omega arith)

-- the suffix of a part before others, and of the last one
pub tells-more : (rows old mid : Cells) (parts rest : List ℕ) (k n p q : ℕ) (v : Option ℕ) → SetFrom (number_at rows) old mid parts k n → n < old.sizes → ((m : ℕ) → m < n → AreSuffixes (number_at rows) old parts m) → drop k parts ≡ q ∷ rest → ((f g : ℕ → ℕ) → TellRow rows p n f → TellRow mid q n g → Tells v (sum_below (suc n) (λ j. f j * g (n - j)))) → Tells v (tuples (number_at rows) (p ∷ drop k parts) n)
tells-more rows old mid parts rest k n p q v from fits lesser is sum = subst (λ z. Tells v (tuples (number_at rows) (p ∷ z) n)) (sym is) (sum (number_at rows p) (tuples (number_at rows) (q ∷ rest)) (λ j le. tells-itself (cell rows p j)) (next-row (number_at rows) old mid parts rest k n q from fits lesser is))

-- Where no part stands behind part p, the number of p at size n tells the number of tuples of p
-- alone.
pub tells-last : (rows : Cells) (behind : List ℕ) (n p : ℕ) (v : Option ℕ) → behind ≡ [] → v ≡ cell rows p n → Tells v (tuples (number_at rows) (p ∷ behind) n)
tells-last rows behind n p v is e = subst (λ z. Tells v (tuples (number_at rows) (p ∷ z) n)) (sym is) (subst (Tells v) (sym (last-tuples (number_at rows) p n)) (subst (λ z. Tells z (number_at rows p n)) (sym e) (tells-itself (cell rows p n))))
