-- A cell that decides nothing is the half of a cell that decides nothing, while both are looked at by the same options.
use Rattle.std.proofs.Common.{◌≡◌, ℕ, suc, ◌+◌, ◌-◌, ◌*◌, ◌^◌, ◌<◌, ◌≤◌, arith, refl, sym, ◌∙◌, ap, Bool, true, false, cond, ◌||◌, inl, inr, Option, Some, None}
use Rattle.std.proofs.Math.Nat.{pow-succ', mul-le-mul_right}
use Rattle.std.proofs.lemmas.Nat.{pow_pos}
use Rattle.std.proofs.lemmas.Bool.{cases_Bool, or_cases, or_left, or_right, or_parts, leb-true, le-leb}
use Rattle.bz_model.specs.declared.cell.Cell.{Cell}
use Rattle.bz_model.specs.Fraction.{Fraction}
use Rattle.bz_model.specs.Spec.{Spec}
use Rattle.bz_model.specs.Object.{Belongs}
use Rattle.bz_model.specs.Cell.{IsInCell}
use Rattle.bz_laws.proofs.Weights.{bound-pos}
use Rattle.bz_laws.proofs.Decide.{passes}
use Rattle.choice_draw.specs.Decision.{Options, Choice, is_last, ends_before, begins_after, is_reached, over_of, over_from, choice_from, choice_of, least_option}
use Rattle.choice_draw.specs.Draw.{halved, bit_number}
use Rattle.choice_draw.proofs.Choices.{choice-taken, choice-over, choice-is_taken}
use Rattle.choice_draw.proofs.SoundOptions.{AreSound, taken-ideal}

-- The number at a cell's begin, which lies in the cell.
abbrev pub begin : Cell → Fraction
begin cell = record { num = cell.k; den = 2 ^ cell.b; positive = pow_pos cell.b }

pub begin-inside : (cell : Cell) → IsInCell cell.k cell.b (begin cell)
begin-inside cell = record { from = omega arith; to = let pos = pow_pos cell.b in omega arith }

number-few : (v : Bool) → bit_number v ≤ 1
number-few true = omega arith
number-few false = omega arith

-- the tests of a half, in numbers
ends_nat : (k v hi p q d : ℕ) → v ≤ 1 → q ≡ 2 * p → suc k * hi ≤ p * d → suc (2 * k + v) * hi ≤ q * d
ends_nat k v hi p q d few twice h =
    let one : v * hi ≤ 1 * hi = mul-le-mul_right hi few in
    let e : q * d ≡ 2 * p * d = ap (λ n. n * d) twice in
    omega (arith, h, one, e)

begins_nat : (k v lo p q u : ℕ) → q ≡ 2 * p → p * u ≤ k * lo → q * u ≤ (2 * k + v) * lo
begins_nat k v lo p q u twice h = let e : q * u ≡ 2 * p * u = ap (λ n. n * u) twice in omega (arith, h, e)

from_nat : (k v p q : ℕ) → q ≡ 2 * p → k * q ≤ (2 * k + v) * p
from_nat k v p q twice = let e : k * q ≡ k * (2 * p) = ap (λ n. k * n) twice in omega (arith, e)

to_nat : (k v p q : ℕ) → v ≤ 1 → 0 < p → q ≡ 2 * p → (2 * k + v) * p < suc k * q
to_nat k v p q few pos twice =
    let e : k * q ≡ k * (2 * p) = ap (λ n. k * n) twice in
    let one : v * p ≤ 1 * p = mul-le-mul_right p few in
    omega (arith, e, one, pos, twice)

module _ (cell : Cell) (v : Bool) where
  -- the number at a half's begin lies in the cell
  begin-whole : IsInCell cell.k cell.b (begin (halved cell v))
  begin-whole = record {
    from = from_nat cell.k (bit_number v) (2 ^ cell.b) (2 ^ suc cell.b) (pow-succ' 2 cell.b);
    to = to_nat cell.k (bit_number v) (2 ^ cell.b) (2 ^ suc cell.b) (number-few v) (pow_pos cell.b) (pow-succ' 2 cell.b);
  }

  module _ (o : Options) where
    -- what passes a test of the cell passes that of its half
    half-ends : (i : ℕ) → ends_before o cell i ≡ true → ends_before o (halved cell v) i ≡ true
    half-ends i h = le-leb _ _ (ends_nat cell.k (bit_number v) o.whole.hi (2 ^ cell.b) (2 ^ suc cell.b) (o.upto_down i) (number-few v) (pow-succ' 2 cell.b) (leb-true _ _ h))

    half-begins : (i : ℕ) → begins_after o cell i ≡ true → begins_after o (halved cell v) i ≡ true
    half-begins i h = le-leb _ _ (begins_nat cell.k (bit_number v) o.whole.lo (2 ^ cell.b) (2 ^ suc cell.b) (o.upto_up i) (pow-succ' 2 cell.b) (leb-true _ _ h))

    half-passing : (i : ℕ) → (is_last o.last i || ends_before o cell i) ≡ true → (is_last o.last i || ends_before o (halved cell v) i) ≡ true
    half-passing i h = elim (or_cases _ _ h) [
      | inl is_the_last ↦ or_left _ _ is_the_last
      | inr ends ↦ or_right _ _ (half-ends i ends)
    ]

    half-reached : (i : ℕ) → is_reached o cell i ≡ true → is_reached o (halved cell v) i ≡ true
    half-reached i h = elim (or_cases _ _ h) [
      | inl is_first ↦ or_left _ _ is_first
      | inr after ↦ or_right _ _ (half-begins (i - 1) after)
    ]

-- where Over may be decided, something is
over-decides : (o : Options) (cell : Cell) (least : Option ℕ) → over_of o cell ≡ Some Choice.Over → choice_from o cell least ≡ None → ⊥
over-decides o cell None over none = let e : Some Choice.Over ≡ None = sym over ∙ none in cc
over-decides o cell (Some i) over none = elim (cases_Bool (is_reached o cell i)) [
  | inl holds ↦ let e : Some (Choice.Take i) ≡ None = sym (ap (λ b. cond b (Some (Choice.Take i)) (over_of o cell)) holds) ∙ none in cc
  | inr fails ↦ let e : Some Choice.Over ≡ None = sym over ∙ sym (ap (λ b. cond b (Some (Choice.Take i)) (over_of o cell)) fails) ∙ none in cc
]

module _ (s : Spec) (x : Fraction) (F e : ℕ) (o : Options) (sound : AreSound s x F e o) (cell : Cell) (v : Bool) where
  -- no option before a taken one passes in the half
  half-earlier : (i : ℕ) → choice_of o cell ≡ Some (Choice.Take i) → (j : ℕ) → o.first ≤ j → j < i → (is_last o.last j || ends_before o (halved cell v) j) ≡ false
  half-earlier i decided j from less =
      let taken = choice-taken o cell i decided in
      let not_last : is_last o.last j ≡ false = (or_parts _ _ (taken.least.none_before j from less)).0 in
      let ideal = taken-ideal s x (begin (halved cell v)) F e o sound cell (begin-whole cell v) i decided in
      let below = taken.least.below in
      elim (cases_Bool (ends_before o (halved cell v) j)) [
        | inl ends ↦ absurd (ideal.none_before j less
            (passes s x (begin (halved cell v)) (halved cell v).k (halved cell v).b F e j (o.upto_down j) o.whole.hi (bound-pos x F o.whole.hi (Belongs s e) sound.object sound.positive sound.belongs sound.whole.above) sound.whole.above (sound.reached j from (omega arith)) (leb-true _ _ ends) (begin-inside (halved cell v))))
        | inr fails ↦ ap (λ b. b || ends_before o (halved cell v) j) not_last ∙ fails
      ]

  half-taken : (i : ℕ) → choice_of o cell ≡ Some (Choice.Take i) → choice_of o (halved cell v) ≡ Some (Choice.Take i)
  half-taken i decided =
      let taken = choice-taken o cell i decided in
      choice-is_taken o (halved cell v) i (record {
        least = record {
          from = taken.least.from;
          below = taken.least.below;
          passing = half-passing cell v o i taken.least.passing;
          none_before = half-earlier i decided;
        };
        reached = half-reached cell v o i taken.reached;
      })

  half-over : choice_of o cell ≡ Some Choice.Over → over_of o (halved cell v) ≡ Some Choice.Over
  half-over decided =
      let over = choice-over o cell decided in
      ap (over_from o (halved cell v)) over.here ∙ ap (λ b. cond b (Some Choice.Over) None) (half-begins cell v o over.room over.after)

  -- What a cell decides by sound options, each half decides, if not the same.
  pub whole-undecided : choice_of o (halved cell v) ≡ None → (c : Option Choice) → choice_of o cell ≡ c → c ≡ None
  whole-undecided none None decided = refl
  whole-undecided none (Some (Choice.Take i)) decided = let e : Some (Choice.Take i) ≡ None = sym (half-taken i decided) ∙ none in let never : ⊥ = cc in absurd never
  whole-undecided none (Some Choice.Over) decided = absurd (over-decides o (halved cell v) (least_option o (halved cell v)) (half-over decided) none)
