-- What a cell takes with one room it takes with each room that isn't below the number taken, and what fewer of its bits decide then.
use Rattle.std.proofs.Common.{◌≡◌, ℕ, suc, ◌+◌, ◌-◌, ◌*◌, ◌/◌, ◌%◌, ◌^◌, ◌<◌, ◌≤◌, length, arith, refl, sym, ◌∙◌, ap, subst, Option, Some, None}
use Rattle.std.proofs.Math.Nat.{mul-lt-mul_of_pos_right}
use Rattle.std.proofs.lemmas.Nat.{pow_pos, pow-add, mod_below, div-add-mod', div_below}
use Rattle.bz_model.specs.declared.cell.Cell.{Cell}
use Rattle.bz_model.specs.declared.cell.Bounds.{Bounds}
use Rattle.bz_model.specs.Fraction.{Fraction}
use Rattle.bz_model.specs.Spec.{Spec, Range, IsWithinHigh}
use Rattle.bz_model.specs.Cell.{IsCell, IsInCell}
use Rattle.bz_model.specs.Ideal.{IsIdealOption}
use Rattle.bz_model.specs.Oracle.{IsSoundTable}
use Rattle.bz_laws.proofs.Options.{unique}
use Rattle.series_bounds.specs.Series.{Kind}
use Rattle.choice_draw.specs.Decision.{Choice, level_of}
use Rattle.choice_draw.specs.LeastCell.{front_of}
use Rattle.choice_draw.specs.KeptChoices.{TakesFirst}
use Rattle.choice_draw.proofs.Choices.{choice-taken, choice-is_taken}
use Rattle.choice_draw.proofs.Halves.{begin, begin-inside}
use Rattle.count_draw.specs.declared.kind.CountChoice.TheVariants as code
use Rattle.count_draw.specs.Decision.{top_option, counted_options, count_decision}
use Rattle.count_draw.specs.FirstCounts.{TakesAtRoom, counted_choice}
use Rattle.count_draw.proofs.CountedNodes.{IsCountedAs, decision-is}
use Rattle.count_draw.proofs.CountsSound.{within-top, up_to_room}
use Rattle.count_draw.proofs.CountsIdeal.{choice-ideal, choice-over_none}
use Rattle.count_draw.proofs.FirstBounds.{takes-decision}

-- a number within the high and the room is an option
is_option : (high : Option ℕ) (low room i : ℕ) → low ≤ i → IsWithinHigh i high → i ≤ room → i < low + (suc (top_option high room) - low)
is_option None low room i from within upto = omega arith
is_option (Some h) low room i from within upto = omega arith

-- a quotient and a divisor, both times a number
front_nat : (k v w p q r : ℕ) → w ≡ p * v → q * v + r ≡ k → r < v → 0 < p → (q * w ≤ k * p) × (k * p < suc q * w)
front_nat k v w p q r whole parts below pos =
    let e : q * w ≡ q * v * p = ap (λ n. q * n) whole ∙ omega arith in
    let g : k * p ≡ q * v * p + r * p = ap (λ n. n * p) (sym parts) ∙ omega arith in
    let l : r * p < v * p = mul-lt-mul_of_pos_right below pos in
    let h : v * p ≡ w = omega (arith, whole) in
    (omega (arith, e, g), omega (arith, e, g, l, h))

-- and in that of fewer of its bits
begin-in_front : (cell : Cell) (b : ℕ) → b ≤ cell.b → IsInCell (front_of cell b).k b (begin cell)
begin-in_front cell b few =
    let v : ℕ = 2 ^ (cell.b - b) in
    let pos = pow_pos (cell.b - b) in
    let split : 2 ^ cell.b ≡ 2 ^ b * 2 ^ (cell.b - b) = ap (λ n. 2 ^ n) (let e : cell.b ≡ b + (cell.b - b) = omega arith in e) ∙ pow-add 2 b (cell.b - b) in
    let both = front_nat cell.k (2 ^ (cell.b - b)) (2 ^ cell.b) (2 ^ b) (cell.k / 2 ^ (cell.b - b)) (cell.k % 2 ^ (cell.b - b)) split (div-add-mod' cell.k (2 ^ (cell.b - b))) (mod_below cell.k (2 ^ (cell.b - b)) pos) (pow_pos b) in
    record { from = both.0; to = both.1 }

-- fewer bits of a cell are a cell
front-is_cell : (cell : Cell) (b : ℕ) → 1 ≤ b → b < cell.b → IsCell cell.k cell.b → IsCell (front_of cell b).k b
front-is_cell cell b from less is_cell =
    let split : 2 ^ cell.b ≡ 2 ^ b * 2 ^ (cell.b - b) = ap (λ n. 2 ^ n) (let e : cell.b ≡ b + (cell.b - b) = omega arith in e) ∙ pow-add 2 b (cell.b - b) in
    let few = is_cell.few_bits in
    record { some_bits = from; few_bits = omega arith; below = div_below cell.k (2 ^ (cell.b - b)) (2 ^ b) (pow_pos (cell.b - b)) (subst (λ n. cell.k < n) split is_cell.below) }

module _ (s : Spec) (x : Fraction) (F e part : ℕ) (kind : Kind) (r : Range) (table : (level node : ℕ) → Bounds) (at : IsCountedAs s e part kind r) where
  -- what is taken with one room is taken with another that isn't below it
  taken-other : (room other i : ℕ) (cell : Cell) → count_decision s F table e room cell ≡ Some (Choice.Take i) → i ≤ other → count_decision s F table e other cell ≡ Some (Choice.Take i)
  taken-other room other i cell decided upto =
      let taken = choice-taken (counted_options kind F r (table (level_of cell) part) (table (level_of cell) e) room) cell i (sym (decision-is s F e part room kind r table cell at) ∙ decided) in
      decision-is s F e part other kind r table cell at
      ∙ choice-is_taken (counted_options kind F r (table (level_of cell) part) (table (level_of cell) e) other) cell i (record {
        least = record {
          from = taken.least.from;
          below = is_option r.high r.low other i taken.least.from (within-top r.high r.low room i taken.least.from taken.least.below) upto;
          passing = taken.least.passing;
          none_before = taken.least.none_before;
        };
        reached = taken.reached;
      })

  -- it isn't above its room
  taken-upto : (room i : ℕ) (cell : Cell) → count_decision s F table e room cell ≡ Some (Choice.Take i) → i ≤ room
  taken-upto room i cell decided =
      let taken = choice-taken (counted_options kind F r (table (level_of cell) part) (table (level_of cell) e) room) cell i (sym (decision-is s F e part room kind r table cell at) ∙ decided) in
      up_to_room r.high r.low room i taken.least.from taken.least.below

  module _ (sound : IsSoundTable s x F table) (part_in : part < length s.nodes) where
    -- a cell that holds a number whose ideal option is known, and decides nothing with one room, decides nothing with another where this option is within both
    none-other : (room other i : ℕ) (cell : Cell) (u : Fraction) → IsCell cell.k cell.b → IsInCell cell.k cell.b u → IsIdealOption s x u e i → i ≤ room → i ≤ other → count_decision s F table e room cell ≡ None → (c : Option Choice) → count_decision s F table e other cell ≡ c → c ≡ None
    none-other room other i cell u is_cell inside ideal within upto none None decided = refl
    none-other room other i cell u is_cell inside ideal within upto none (Some (Choice.Take j)) decided =
        let same : j ≡ i = unique s x u e j i (choice-ideal s x F e part kind r table at sound part_in other cell is_cell (Some (code.Take j)) decided u inside) ideal in
        let back = taken-other other room i cell (decided ∙ ap (λ n. Some (Choice.Take n)) same) within in
        let never : ⊥ = cc in absurd never
    none-other room other i cell u is_cell inside ideal within upto none (Some Choice.Over) decided =
        absurd (choice-over_none s x F e part kind r table at sound part_in other cell is_cell (Some code.Over) decided u inside i upto ideal)

    within-room : (room count : ℕ) (cell : Cell) → TakesAtRoom (count_decision s F table e) count cell → count ≤ room → TakesFirst (count_decision s F table e room) count cell
    within-room room count cell known upto =
        let first = known.takes in
        let some = first.is_cell in
        let within = taken-upto known.room count cell first.takes in
        let ideal = choice-ideal s x F e part kind r table at sound part_in known.room cell first.is_cell (Some (code.Take count)) first.takes (begin cell) (begin-inside cell) in
        record {
          is_cell = first.is_cell;
          few = first.few;
          takes = taken-other known.room room count cell first.takes upto;
          none_before = λ b from less. none-other known.room room count (front_of cell b) (begin cell) (front-is_cell cell b from less first.is_cell) (begin-in_front cell b (omega arith)) ideal within upto (first.none_before b from less) (count_decision s F table e room (front_of cell b)) refl;
        }

    -- what is taken first with some room is taken first with each room that isn't below it
    pub takes-within : (room count : ℕ) (cell : Cell) → TakesAtRoom (counted_choice kind F r table part e) count cell → count ≤ room → TakesFirst (count_decision s F table e room) count cell
    takes-within room count cell known upto = within-room room count cell (takes-decision s F e part kind r table at count cell known) upto
