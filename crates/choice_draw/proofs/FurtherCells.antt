-- Cells of further bits are halves of halves: where none of them decides a draw goes on from the last, and it ends where one does.
use Rattle.std.proofs.Common.{◌≡◌, ℕ, zero, suc, ◌+◌, ◌-◌, ◌*◌, ◌/◌, ◌%◌, ◌^◌, ◌<◌, ◌≤◌, arith, refl, sym, ◌∙◌, ap, subst, Bool, Option, Some, None, ⊎_elim}
use Rattle.std.specs.Prelude.{IfSome, nat_eq}
use Rattle.std.proofs.Math.Nat.{pow-succ', mul-le-mul_right, pow-le-pow_right, mod-eq_of_lt}
use Rattle.std.proofs.lemmas.Nat.{shr-shr, pow_pos, pow-add, mod_below, div-add-mod', div_below}
use Rattle.std.proofs.lemmas.Bool.{cases_lt}
use Rattle.bz_model.specs.declared.cell.Cell.{Cell}
use Rattle.bz_model.specs.Cell.{IsCell}
use Rattle.bit_tape.specs.Bits.{peeked_bit}
use Rattle.choice_draw.specs.Decision.{level_for, level_of}
use Rattle.choice_draw.specs.Draw.{Draw, halved, bit_number}
use Rattle.choice_draw.specs.Answer.{IsDraw}
use Rattle.choice_draw.specs.Further.{further_cell}
use Rattle.choice_draw.proofs.ToldDraws.{on_some}
use Rattle.choice_draw.proofs.GivenDraws.{IsUnderWay, draw-on, draw-decides}

bit-is : (r : ℕ) → r < 2 → bit_number (nat_eq r 1) ≡ r
bit-is zero few = refl
bit-is (suc zero) few = refl
bit-is (suc (suc r)) few = let never : ⊥ = omega arith in absurd never

half_nat : (k p q w h r g v : ℕ) → q ≡ 2 * p → h * 2 + r ≡ w → h ≡ g → v ≡ r → k * q + w ≡ 2 * (k * p + g) + v
half_nat k p q w h r g v twice parts same bit = let e : k * q ≡ k * (2 * p) = ap (λ n. k * n) twice in omega (arith, e, parts, same, bit)

module _ (cell : Cell) (word : ℕ) where
  -- One further bit halves a cell.
  pub further-halved : (j : ℕ) → j < 16 → further_cell cell word (suc j) ≡ halved (further_cell cell word j) (peeked_bit word j)
  further-halved j less =
      let w = word / 2 ^ (15 - j) in
      let one_more : 15 - j + 1 ≡ 16 - j = omega arith in
      let half : w / 2 ≡ word / 2 ^ (16 - j) = shr-shr word (15 - j) 1 ∙ ap (λ n. word / 2 ^ n) one_more in
      let bit : bit_number (peeked_bit word j) ≡ w % 2 = bit-is (w % 2) (mod_below w 2 (omega arith)) in
      let low : 16 - suc j ≡ 15 - j = omega arith in
      let ks : cell.k * 2 ^ suc j + word / 2 ^ (16 - suc j) ≡ 2 * (cell.k * 2 ^ j + word / 2 ^ (16 - j)) + bit_number (peeked_bit word j) =
      ap (λ n. cell.k * 2 ^ suc j + word / 2 ^ n) low ∙ half_nat cell.k (2 ^ j) (2 ^ suc j) w (w / 2) (w % 2) (word / 2 ^ (16 - j)) (bit_number (peeked_bit word j)) (pow-succ' 2 j) (div-add-mod' w 2) half bit in
      let bs : cell.b + suc j ≡ suc (cell.b + j) = omega arith in
      ap (λ k. record { k = k; b = cell.b + suc j }) ks ∙ ap (λ b. record { k = 2 * (cell.k * 2 ^ j + word / 2 ^ (16 - j)) + bit_number (peeked_bit word j); b = b }) bs

  -- No further bit leaves a cell as it is.
  pub further-none : word < 65536 → further_cell cell word 0 ≡ cell
  further-none small =
      let gone : word / 2 ^ 16 < 1 = div_below word (2 ^ 16) 1 (omega arith) (omega arith) in
      let ks : cell.k * 2 ^ 0 + word / 2 ^ (16 - 0) ≡ cell.k = omega (arith, gone) in
      let bs : cell.b + 0 ≡ cell.b = omega arith in
      ap (λ k. record { k = k; b = cell.b + 0 }) ks ∙ ap (λ b. record { k = cell.k; b = b }) bs

  -- Its number stays below the power of its bits.
  pub further-below : (j : ℕ) → j ≤ 16 → word < 65536 → cell.k < 2 ^ cell.b → cell.k * 2 ^ j + word / 2 ^ (16 - j) < 2 ^ (cell.b + j)
  further-below j few small below =
      let parts : 2 ^ 16 ≡ 2 ^ j * 2 ^ (16 - j) = ap (λ n. 2 ^ n) (let e : 16 ≡ j + (16 - j) = omega arith in e) ∙ pow-add 2 j (16 - j) in
      let low : word / 2 ^ (16 - j) < 2 ^ j = div_below word (2 ^ (16 - j)) (2 ^ j) (pow_pos (16 - j)) (subst (λ n. word < n) parts small) in
      let all : suc cell.k * 2 ^ j ≤ 2 ^ cell.b * 2 ^ j = mul-le-mul_right (2 ^ j) below in
      let whole : 2 ^ (cell.b + j) ≡ 2 ^ cell.b * 2 ^ j = pow-add 2 cell.b j in
      omega (arith, low, all, whole)

  -- The power of its bits has at most 60 bits.
  pub further-most : (j : ℕ) → cell.b + j ≤ 60 → 2 ^ (cell.b + j) ≤ 2 ^ 60
  further-most j total = pow-le-pow_right (let pos : 0 < 2 = omega arith in pos) total

  -- The number is shifted within 64 bits.
  pub further-kept : (j : ℕ) → cell.b + j ≤ 60 → cell.k < 2 ^ cell.b → cell.k * 2 ^ j % 18446744073709551616 ≡ cell.k * 2 ^ j
  further-kept j total below =
      let all : suc cell.k * 2 ^ j ≤ 2 ^ cell.b * 2 ^ j = mul-le-mul_right (2 ^ j) below in
      let whole : 2 ^ (cell.b + j) ≡ 2 ^ cell.b * 2 ^ j = pow-add 2 cell.b j in
      let most = further-most j total in
      let pos = pow_pos j in
      mod-eq_of_lt (let less : cell.k * 2 ^ j < 18446744073709551616 = omega (arith, all, whole, most, pos) in less)

module _ {A : Type 0} (decide : Cell → Option A) (told : Option (ℕ → Option Bool)) (start : ℕ) (cell : Cell) (used word n : ℕ) (way : IsUnderWay decide told start cell used) (small : word < 65536) (few : n ≤ 16) (shown : IfSome told (λ bits. (i : ℕ) → i < n → bits (used + i) ≡ Some (peeked_bit word i))) where
  -- Further bits that decide nothing lead a draw on.
  pub further-on : (m : ℕ) → m ≤ n → cell.b + m ≤ 60 → ((j : ℕ) → 1 ≤ j → j ≤ m → decide (further_cell cell word j) ≡ None) → IsUnderWay decide told start (further_cell cell word m) (used + m)
  further-on zero within total none =
      subst (λ c. IsUnderWay decide told start c (used + 0)) (sym (further-none cell word small)) (subst (IsUnderWay decide told start cell) (let e : used ≡ used + 0 = omega arith in e) way)
  further-on (suc m) within total none =
      draw-on decide told start (further_cell cell word m) (used + m) (further-on m (omega arith) (omega arith) (λ j some less. none j some (omega arith))) (peeked_bit word m) (further_cell cell word (suc m)) (used + suc m) (omega arith)
      (on_some told (λ bits all. all m (omega arith)) shown) (further-halved cell word m (omega arith)) (omega arith) (none (suc m) (omega arith) (omega arith))

  -- The first further bits that decide end the draw.
  pub further-ends : (m : ℕ) (answer : A) → decide cell ≡ None → m ≤ n → cell.b + m ≤ 60 → used ≡ start + cell.b → IsCell (further_cell cell word m).k (further_cell cell word m).b → ((j : ℕ) → 1 ≤ j → j < m → decide (further_cell cell word j) ≡ None) → decide (further_cell cell word m) ≡ Some answer → IsDraw decide told start (used + m) (Draw.Decided answer (further_cell cell word m))
  further-ends zero answer undecided within total so_far is_cell none decided =
      let both : None ≡ Some answer = sym undecided ∙ ap decide (sym (further-none cell word small)) ∙ decided in
      let never : ⊥ = cc in absurd never
  further-ends (suc m) answer undecided within total so_far is_cell none decided =
      draw-decides decide told start (further_cell cell word m) (used + m) (further-on m (omega arith) (omega arith) (λ j some less. none j some (omega arith))) (peeked_bit word m) (further_cell cell word (suc m)) answer (used + suc m) (omega arith) (omega arith)
      (on_some told (λ bits all. all m (omega arith)) shown) (further-halved cell word m (omega arith)) is_cell (omega arith) decided

module _ {A : Type 0} (decide : Cell → Option A) (halves : (d : Cell) (v : Bool) → 1 ≤ d.b → d.b ≤ 60 → level_for (suc d.b) ≡ level_of d → decide (halved d v) ≡ None → decide d ≡ None) (cell : Cell) (word : ℕ) (some_bits : 1 ≤ cell.b) where
  -- Where a cell decides if its half does, on one level, and all further bits decide nothing, the level being the cell's, fewer of them decide nothing.
  pub fronts-undecided : (m : ℕ) → m ≤ 16 → cell.b + m ≤ 60 → level_for (cell.b + m) ≡ level_of cell → decide (further_cell cell word m) ≡ None → (j : ℕ) → 1 ≤ j → j ≤ m → decide (further_cell cell word j) ≡ None
  fronts-undecided zero few total level none j some within = let never : ⊥ = omega arith in absurd never
  fronts-undecided (suc m) few total level none j some within = ⊎_elim
      (λ less.
      fronts-undecided m (omega arith) (omega arith) (omega arith)
      (halves (further_cell cell word m) (peeked_bit word m) (omega arith) (omega arith) (omega arith)
      (subst (λ c. decide c ≡ None) (further-halved cell word m (omega arith)) none)) j some (omega arith))
      (λ no_less. let same : suc m ≡ j = omega arith in subst (λ i. decide (further_cell cell word i) ≡ None) same none)
      (cases_lt j (suc m))
