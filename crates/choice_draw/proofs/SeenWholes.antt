-- A draw of a whole number by bits that are read ahead.
use Rattle.std.proofs.Common.{◌≡◌, ℕ, zero, suc, ◌+◌, ◌-◌, ◌*◌, ◌/◌, ◌^◌, ◌<◌, ◌≤◌, cond, ◌⊎◌, inl, inr, arith, refl, sym, ◌∙◌, ap, subst, Bool, Option, Some, None}
use Rattle.std.specs.Prelude.{IfSome}
use Rattle.std.proofs.Math.Nat.{div-mul-le_self, mul-le-mul_right}
use Rattle.std.proofs.Math.Pow.{pow_mono}
use Rattle.std.proofs.lemmas.Bool.{lt-leb, cases_lt}
use Rattle.std.proofs.lemmas.Nat.{pow-add, div_below, pow_pos, leading_top}
use lib.Count.{count_leading_zeros}
use Rattle.bz_model.specs.declared.cell.Cell.{Cell}
use Rattle.bz_model.specs.Cell.{IsCell}
use Rattle.bit_tape.specs.Bits.{peeked_bit}
use Rattle.choice_draw.specs.Draw.{Draw, bit_number, halved}
use Rattle.choice_draw.specs.Decision.{whole_decision}
use Rattle.choice_draw.specs.Answer.{IsDraw}
use Rattle.choice_draw.specs.Whole.{peeked_cell}
use Rattle.choice_draw.proofs.ToldDraws.{on_some}
use Rattle.choice_draw.proofs.DrawsOn.{whole_cell}
use Rattle.choice_draw.proofs.GivenDraws.{IsUnderWay, draw-begins, draw-on, draw-decides}
use Rattle.choice_draw.proofs.LeastDrawn.{none-above, next-number}

-- a number's place by the digits of the number before it
pub open-bits : (m b : ℕ) → 2 ≤ m → m < 2 ^ 64 → b ≡ 63 - count_leading_zeros 64 (m - 1) → (2 ^ b < m) × (m ≤ 2 ^ (b + 1))
open-bits m b two below is =
    let t = leading_top 64 (m - 1) (omega arith) (omega arith) in
    let digits = t.1 in
    let from = t.2 in
    let to = t.3 in
    let same : b ≡ t.0 = omega (arith, is, digits) in
    let here : 2 ^ b ≡ 2 ^ t.0 = ap (λ n. 2 ^ n) same in
    let next : 2 ^ (b + 1) ≡ 2 ^ suc t.0 = ap (λ n. 2 ^ n) (let e : b + 1 ≡ suc t.0 = omega (arith, same) in e) in
    (omega (arith, here, from, two), omega (arith, next, to, two))

-- the end of a short cell's whole number fits
pub short-end : (k b m w : ℕ) → k < 2 ^ b → b ≤ 16 → m ≤ 1000000 → w ≡ 2 ^ b → (k * m / 2 ^ b + 1) * w < 2 ^ 64
short-end k b m w below few most is =
    let wide : 2 ^ b ≤ 2 ^ 16 = pow_mono few in
    let begin : k * m / 2 ^ b * 2 ^ b ≤ k * m = div-mul-le_self (k * m) (2 ^ b) in
    let short : k ≤ 65536 = omega (arith, wide, below) in
    let product : k * m ≤ 65536 * m = mul-le-mul_right m short in
    subst (λ n. (k * m / 2 ^ b + 1) * n < 2 ^ 64) (sym is) (omega (arith, begin, product, wide, most))

-- a cell that is wider than a whole number's share decides none
pub too-wide : (m k b : ℕ) → 2 ^ b < m → whole_decision m (record { k = k; b = b }) ≡ None
too-wide m k b wide =
    let begin : k * m / 2 ^ b * 2 ^ b ≤ k * m = div-mul-le_self (k * m) (2 ^ b) in
    ap (λ t. cond t (Some (k * m / 2 ^ b)) None) (lt-leb (suc k * m) (suc (k * m / 2 ^ b) * 2 ^ b) (omega (arith, begin)))

-- so do the cells of fewer bits
pub few-open : (m word width b : ℕ) → 2 ^ width < m → b ≤ width → whole_decision m (peeked_cell word b) ≡ None
few-open m word width b wide few = too-wide m (word / 2 ^ (16 - b)) b (let le : 2 ^ b ≤ 2 ^ width = pow_mono few in omega arith)

-- the first b of sixteen bits are a number below 2^b
pub peeked-below : (word b : ℕ) → word < 65536 → b ≤ 16 → word / 2 ^ (16 - b) < 2 ^ b
peeked-below word b short few =
    let parts : 2 ^ (b + (16 - b)) ≡ 2 ^ b * 2 ^ (16 - b) = pow-add 2 b (16 - b) in
    let all : 2 ^ (b + (16 - b)) ≡ 65536 = ap (λ n. 2 ^ n) (let e : b + (16 - b) ≡ 16 = omega arith in e) in
    div_below word (2 ^ (16 - b)) (2 ^ b) (pow_pos (16 - b)) (omega (arith, parts, all))

pub shown-below : (word : ℕ) (cell : Cell) → word < 65536 → cell ≡ peeked_cell word cell.b → cell.b ≤ 16 → cell.k < 2 ^ cell.b
shown-below word cell short first few = subst (λ n. n < 2 ^ cell.b) (sym (ap (λ c. c.k) first)) (peeked-below word cell.b short few)

-- one bit more of the sixteen halves the cell
half-peeked : (word b : ℕ) → b < 16 → peeked_cell word (suc b) ≡ halved (peeked_cell word b) (peeked_bit word b)
half-peeked word b few =
    let more : suc (15 - b) ≡ 16 - b = omega arith in
    let less : 15 - b ≡ 16 - suc b = omega arith in
    sym (ap (λ k. record { k = k; b = suc b }) (subst (λ n. 2 * (word / 2 ^ n) + bit_number (peeked_bit word b) ≡ word / 2 ^ (15 - b)) more (next-number word (15 - b)) ∙ ap (λ n. word / 2 ^ n) less))

module _ {A : Type 0} (decide : Cell → Option A) (told : Option (ℕ → Option Bool)) (start word n : ℕ) (short : word < 65536) (most : n ≤ 16) (shown : IfSome told (λ bits. (i : ℕ) → i < n → bits (start + i) ≡ Some (peeked_bit word i))) where
  no-bits : whole_cell ≡ peeked_cell word 0
  no-bits = ap (λ k. record { k = k; b = 0 }) (none-above word (2 ^ 16) short)

  bit-shown : (b : ℕ) → b < n → IfSome told (λ bits. bits (start + b) ≡ Some (peeked_bit word b))
  bit-shown b held = on_some told (λ bits all. all b held) shown

  -- A draw goes on from the first of the bits, where the cell of no fewer of them decides, nor does theirs.
  pub shown-way : (b : ℕ) → b ≤ n → ((j : ℕ) → j ≤ b → decide (peeked_cell word j) ≡ None) → IsUnderWay decide told start (peeked_cell word b) (start + b)
  shown-way zero held none = subst (λ c. IsUnderWay decide told start c (start + 0)) no-bits (subst (λ p. IsUnderWay decide told start whole_cell p) (let e : start ≡ start + 0 = omega arith in e) (draw-begins decide told start))
  shown-way (suc b) held none =
      draw-on decide told start (peeked_cell word b) (start + b) (shown-way b (omega arith) (λ j few. none j (omega arith))) (peeked_bit word b) (peeked_cell word (suc b)) (start + suc b) (omega arith) (bit-shown b (omega arith)) (half-peeked word b (omega arith)) (omega arith) (none (suc b) (omega arith))

  shown-last : (b : ℕ) (answer : A) (used : ℕ) → b < n → IsCell (peeked_cell word (suc b)).k (suc b) → ((j : ℕ) → j < suc b → decide (peeked_cell word j) ≡ None) → decide (peeked_cell word (suc b)) ≡ Some answer → used ≡ start + suc b → IsDraw decide told start used (Draw.Decided answer (peeked_cell word (suc b)))
  shown-last b answer used held is_cell none decided is_used =
      draw-decides decide told start (peeked_cell word b) (start + b) (shown-way b (omega arith) (λ j few. none j (omega arith))) (peeked_bit word b) (peeked_cell word (suc b)) answer used (omega arith) refl (bit-shown b held) (half-peeked word b (omega arith)) is_cell (omega arith) decided

  -- A draw ends with the first of the bits that decide.
  pub shown-decides : (cell : Cell) (answer : A) (used : ℕ) → cell ≡ peeked_cell word cell.b → cell.b ≤ n → IsCell cell.k cell.b → ((j : ℕ) → j < cell.b → decide (peeked_cell word j) ≡ None) → decide cell ≡ Some answer → used ≡ start + cell.b → IsDraw decide told start used (Draw.Decided answer cell)
  shown-decides cell answer used first held is_cell none decided is_used =
      let m = cell.b - 1 in
      let all : cell.b ≡ suc m = let some = is_cell.some_bits in omega arith in
      let same : peeked_cell word (suc m) ≡ cell = sym (first ∙ ap (peeked_cell word) all) in
      subst (λ c. IsDraw decide told start used (Draw.Decided answer c)) same
      (shown-last m answer used (omega arith) (subst (λ c. IsCell c.k c.b) (sym same) is_cell) (λ j few. none j (omega arith)) (ap decide same ∙ decided) (omega arith))

  -- It goes on from all of them where none do.
  pub shown-on : (cell : Cell) (used : ℕ) → cell ≡ peeked_cell word cell.b → cell.b ≤ n → ((j : ℕ) → j < cell.b → decide (peeked_cell word j) ≡ None) → decide cell ≡ None → used ≡ start + cell.b → IsUnderWay decide told start cell used
  shown-on cell used first held none undecided is_used =
      subst (λ c. IsUnderWay decide told start c used) (sym first) (subst (λ p. IsUnderWay decide told start (peeked_cell word cell.b) p) (sym is_used)
      (shown-way cell.b held (λ j few. either j few (cases_lt j cell.b))))
    where
      either : (j : ℕ) → j ≤ cell.b → (j < cell.b) ⊎ (cell.b ≤ j) → decide (peeked_cell word j) ≡ None
      either j few (inl less) = none j less
      either j few (inr not) = subst (λ n. decide (peeked_cell word n) ≡ None) (let e : cell.b ≡ j = omega arith in e) (ap decide (sym first) ∙ undecided)
