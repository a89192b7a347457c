-- Sweeps that go on from sweeps.
use Rattle.std.proofs.Common.{◌≡◌, ℕ, zero, suc, ◌+◌, ◌≤◌, max, List, ◌++◌, length, take, replicate, sym, ap, subst, ◌∙◌, arith, Result, Ok, Err}
use Rattle.std.specs.Prelude.{slice_index, IfOk}
use Rattle.std.proofs.Math.ListN.{length-replicate}
use Rattle.std.proofs.lemmas.List.{length-map, take_all, take-append-le}
use Rattle.bz_model.specs.Fraction.{Fraction, ratio}
use Rattle.bz_model.specs.Spec.{Spec}
use Rattle.class_system.specs.Sound.{IsSound}
use Rattle.rounded_map.specs.RoundedMap.{Setting, setting, repeated, values_down, bodies_down, sweep_down}
use Rattle.rounded_map.specs.Bounding.{AreBelow}
use Rattle.rounded_map.proofs.Bounding.{length-at_each, sweep-below}
use Rattle.kleene_lower.specs.Lower.{Sweeps, AreSweepsFrom, swept_from, zeros}

-- One sweep more.
pub repeated-more : {V : Type 0} (f : V → V) (n m : ℕ) (v : V) → m ≡ n + 1 → repeated f m v ≡ f (repeated f n v)
repeated-more f n zero v same = absurd (omega arith)
repeated-more f n (suc m) v same = let here : m ≡ n = omega arith in ap (λ (k : ℕ). f (repeated f k v)) here

repeated-on : {V : Type 0} (f : V → V) (k n m : ℕ) (v : V) → m ≡ n + k → repeated f k (repeated f n v) ≡ repeated f m v
repeated-on f zero n m v same = let here : n ≡ m = omega arith in ap (λ (i : ℕ). repeated f i v) here
repeated-on f (suc k) n zero v same = absurd (omega arith)
repeated-on f (suc k) n (suc m) v same = ap f (repeated-on f k n m v (omega arith))

-- Sweeps that are done further.
pub advanced : (t : Setting) (start : List ℕ) (a b : Sweeps) (further : ℕ) → AreSweepsFrom t start a → b.entries ≡ repeated (sweep_down t) further a.entries → b.room ≡ a.room → b.done ≡ a.done + further → AreSweepsFrom t start b
advanced t start a b further before swept room done = record {
  one_per_class = before.one_per_class;
  entries = swept ∙ ap (repeated (sweep_down t) further) before.entries ∙ repeated-on (sweep_down t) further a.done b.done start done;
  room = room ∙ before.room;
}

-- There is an entry for each class.
pub length-swept : (t : Setting) (start : List ℕ) (n : ℕ) → length start ≡ length t.spec.bodies → length (swept_from t start n) ≡ length t.spec.bodies
length-swept t start zero same = same
length-swept t start (suc n) same =
    let v = repeated (sweep_down t) n start in
    let before : length v ≡ length t.spec.bodies = length-swept t start n same in
    length-at_each max v (bodies_down t (values_down t v)) (length-map t.spec.bodies (slice_index (values_down t v)) ∙ sym before) ∙ before

-- Sweeps that go on from a start have one entry for each class.
pub one_per_class : (t : Setting) (start : List ℕ) (a : Sweeps) → AreSweepsFrom t start a → length a.entries ≡ length t.spec.bodies
one_per_class t start a are = ap length are.entries ∙ length-swept t start a.done are.one_per_class

-- No sweep is done yet.
pub begun : (t : Setting) (start : List ℕ) (a : Sweeps) → length start ≡ length t.spec.bodies → a.entries ≡ start → a.room ≡ length t.spec.nodes → a.done ≡ 0 → AreSweepsFrom t start a
begun t start a lengths entries room done = record { one_per_class = lengths; entries = entries ∙ ap (λ (n : ℕ). swept_from t start n) (sym done); room = room }

-- The vector of zeros has one entry for each class.
pub length-zeros : (t : Setting) → length (zeros t) ≡ length t.spec.bodies
length-zeros t = length-replicate (length t.spec.bodies) 0

-- From a reached start on the entries are reached.
pub swept-below : (s : Spec) (x : Fraction) (F : ℕ) (start : List ℕ) → IsSound s → length start ≡ length s.bodies → AreBelow s x F start → (n : ℕ) → AreBelow s x F (swept_from (setting s x.num x.den F) start n)
swept-below s x F start sound lengths below zero = below
swept-below s x F start sound lengths below (suc n) = sweep-below s x F sound (swept_from (setting s x.num x.den F) start n) (length-swept (setting s x.num x.den F) start n lengths) (swept-below s x F start sound lengths below n)

at_least_one : (d : ℕ) → 1 ≤ d → max d 1 ≡ d
at_least_one d h = omega arith

-- In a sound specification, sweeps from a start of lower bounds of the classes have entries that
-- are lower bounds of them.
pub reached : (s : Spec) (num den F : ℕ) (start : List ℕ) (a : Sweeps) (entries : List ℕ) → IsSound s → 1 ≤ den → AreBelow s (ratio num den) F start → AreSweepsFrom (setting s num den F) start a → entries ≡ a.entries → AreBelow s (ratio num den) F entries
reached s num den F start a entries sound positive below are same =
    subst (λ es. AreBelow s (ratio num den) F es) (sym (same ∙ are.entries))
    (subst (λ d. AreBelow s (ratio num den) F (swept_from (setting s num d F) start a.done)) (at_least_one den positive) (swept-below s (ratio num den) F start sound are.one_per_class below a.done))

-- What was written over a whole list.
pub written-whole : (n : ℕ) (xs ys : List ℕ) → length xs ≡ n → take n (xs ++ ys) ≡ xs
written-whole n xs ys same = take-append-le n xs ys (omega arith) ∙ take_all n xs (omega arith)

-- A start of zeros.
pub zero-clause : {E : Type 0} (r : Result Sweeps E) (s : Spec) (F : ℕ) (items : List ℕ) (n : ℕ) → items ≡ replicate n 0 → n ≡ length s.bodies → IfOk r (λ lower. (num den : ℕ) → AreSweepsFrom (setting s num den F) items lower) → IfOk r (λ lower. (num den : ℕ) → AreSweepsFrom (setting s num den F) (zeros (setting s num den F)) lower)
zero-clause (Ok lower) s F items n items_are count h = λ num den. subst (λ v. AreSweepsFrom (setting s num den F) v lower) (items_are ∙ ap (λ (m : ℕ). replicate m 0) count) (h num den)
zero-clause (Err e) s F items n items_are count h = h
