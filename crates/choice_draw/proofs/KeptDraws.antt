-- A draw by what its bits took before, and what is kept of a draw.
use Rattle.std.proofs.Common.{◌≡◌, ℕ, zero, suc, ◌+◌, ◌-◌, ◌/◌, ◌%◌, ◌^◌, ◌<◌, ◌≤◌, Bool, false, List, [], ◌∷◌, length, arith, refl, sym, ◌∙◌, ap, subst, Option, Some, None}
use Rattle.std.specs.Prelude.{IfSome, slice_get, nat_eq}
use Rattle.std.proofs.lemmas.Nat.{shr-shr}
use Rattle.bz_model.specs.declared.cell.Cell.{Cell}
use Rattle.bz_model.specs.declared.cell.Bounds.{Bounds}
use Rattle.bz_model.specs.Cell.{bits_of}
use Rattle.bz_model.specs.Spec.{Spec, node_at}
use Rattle.bit_tape.specs.Bits.{peeked_bit}
use Rattle.bit_tape.specs.Given.{HasBits}
use Rattle.bit_tape.specs.Tape.{TapeState, BelongsToShelf, LeavesTape, SkipsBits}
use Rattle.choice_draw.specs.declared.drawn.Drawn.{Drawn}
use Rattle.choice_draw.specs.declared.drawn.Drawn.TheVariants.{Value, Straddles, Ended, ReadFault}
use Rattle.choice_draw.specs.Decision.{Choice, level_of, union_options, union_choice, union_parts, union_decision}
use Rattle.choice_draw.specs.Draw.{Draw}
use Rattle.choice_draw.specs.Answer.{IsDraw, OnValue, told_draw}
use Rattle.choice_draw.specs.KeptChoices.{TakesFirst}
use Rattle.choice_draw.proofs.Choices.{choice-taken}
use Rattle.choice_draw.proofs.ToldDraws.{on_some, on_any}
use Rattle.choice_draw.proofs.LeastCells.{bits-length, draws_least}
use Rattle.choice_draw.proofs.LeastDrawn.{least_is_drawn}

-- the last m of the first b of sixteen bits
last_bits : (bits : ℕ → Option Bool) (used word b m : ℕ) → b ≤ 16 → m ≤ b → ((i : ℕ) → i < b → bits (used + i) ≡ Some (peeked_bit word i)) → HasBits bits (used + (b - m)) (bits_of m (word / 2 ^ (16 - b)))
last_bits bits used word b zero few less shown = tt
last_bits bits used word b (suc m) few less shown =
    let place : 16 - b + m ≡ 15 - (b - suc m) = omega arith in
    let bit : word / 2 ^ (16 - b) / 2 ^ m % 2 ≡ word / 2 ^ (15 - (b - suc m)) % 2 = ap (λ n. n % 2) (shr-shr word (16 - b) m ∙ ap (λ n. word / 2 ^ n) place) in (
      shown (b - suc m) (omega arith) ∙ ap (λ n. Some (nat_eq n 1)) (sym bit),
      subst (λ n. HasBits bits n (bits_of m (word / 2 ^ (16 - b)))) (let e : used + (b - m) ≡ suc (used + (b - suc m)) = omega arith in e) (last_bits bits used word b m few (omega arith) shown),
    )

-- the bits of the cell of the first of sixteen bits
spelled : (bits : ℕ → Option Bool) (used word b n : ℕ) → b ≤ 16 → b ≤ n → ((i : ℕ) → i < n → bits (used + i) ≡ Some (peeked_bit word i)) → HasBits bits used (bits_of b (word / 2 ^ (16 - b)))
spelled bits used word b n few held shown = subst (λ m. HasBits bits m (bits_of b (word / 2 ^ (16 - b)))) (let e : used + (b - b) ≡ used = omega arith in e) (last_bits bits used word b b few (omega arith) (λ i less. shown i (omega arith)))

-- A draw whose first bits are the first of sixteen takes what they take.
pub draw-found : (decide : Cell → Option Choice) (told : Option (ℕ → Option Bool)) (start used word n option : ℕ) (cell : Cell) → TakesFirst decide option cell → cell.k ≡ word / 2 ^ (16 - cell.b) → cell.b ≤ n → IfSome told (λ bits. (i : ℕ) → i < n → bits (start + i) ≡ Some (peeked_bit word i)) → used ≡ start + cell.b → IsDraw decide told start used (Draw.Decided (Choice.Take option) cell)
draw-found decide told start used word n option cell takes is_first held shown is_used =
    let same : word / 2 ^ (16 - cell.b) ≡ cell.k = sym is_first in
    record {
      given = bits_of cell.b cell.k;
      gave = record {
        count = is_used ∙ ap (λ m. start + m) (sym (bits-length cell.b cell.k));
        are_told = on_some told (λ bits all. subst (λ k. HasBits bits start (bits_of cell.b k)) same (spelled bits start word cell.b n (let few = takes.few in omega arith) held all)) shown;
      };
      ended = on_any told (λ bits. tt);
      exact = λ bits have ends. sym (least_is_drawn decide bits None start (Choice.Take option) cell (record { is_cell = takes.is_cell; spells = have; decides = takes.takes; none_before = takes.none_before }) tt);
      cell = takes.is_cell;
      uses = is_used;
    }

-- a tape that has some bits from a place on
has_own : (bits : ℕ → Option Bool) (start : ℕ) (given : List Bool) → ((j : ℕ) → j < length given → bits (start + j) ≡ slice_get given j) → HasBits bits start given
has_own bits start [] same = tt
has_own bits start (v ∷ given) same = (
  ap bits (let e : start ≡ start + 0 = omega arith in e) ∙ same 0 (omega arith),
  has_own bits (suc start) given (λ j less. ap bits (let e : suc start + j ≡ start + suc j = omega arith in e) ∙ same (suc j) (omega arith)),
)

-- A draw that takes an option by few bits took it first.
taken-first : (decide : Cell → Option Choice) (told : Option (ℕ → Option Bool)) (start used option : ℕ) (cell : Cell) → IsDraw decide told start used (Draw.Decided (Choice.Take option) cell) → cell.b ≤ 11 → TakesFirst decide option cell
taken-first decide told start used option cell drawn few =
    let bits : ℕ → Option Bool = λ place. slice_get drawn.given (place - start) in
    let have : HasBits bits start drawn.given = has_own bits start drawn.given (λ j less. ap (slice_get drawn.given) (let e : start + j - start ≡ j = omega arith in e)) in
    let least = draws_least decide bits None start (Choice.Take option) cell (sym (drawn.exact bits have tt)) in
    record { is_cell = least.is_cell; few = few; takes = least.decides; none_before = least.none_before }

-- so what a drawer answers may be kept
pub draw-kept : (decide : Cell → Option Choice) (told : Option (ℕ → Option Bool)) (start used : ℕ) (drawn : Drawn) → IsDraw decide told start used (told_draw Choice.Take drawn used) → OnValue drawn (λ i cell. cell.b ≤ 11 → TakesFirst decide i cell)
draw-kept decide told start used (Value option cell) draw = λ few. taken-first decide told start used option cell draw few
draw-kept decide told start used (Straddles cell) draw = tt
draw-kept decide told start used Ended draw = tt
draw-kept decide told start used ReadFault draw = tt

-- An option that a union takes is one of its parts.
pub taken-below : (table : (level node : ℕ) → Bounds) (e : ℕ) (parts : List ℕ) (cell : Cell) (i : ℕ) → union_choice table e parts cell ≡ Some (Choice.Take i) → i < length parts
taken-below table e parts cell i taken = let least = (choice-taken (union_options (table (level_of cell)) e parts) cell i taken).least in let below = least.below in omega arith

-- What is taken first by the parts of a union is taken first by its decision.
pub takes-there : (s : Spec) (table : (level node : ℕ) → Bounds) (e : ℕ) (parts : List ℕ) (option : ℕ) (cell : Cell) → parts ≡ union_parts (node_at s e) → TakesFirst (union_choice table e parts) option cell → TakesFirst (union_decision s table e) option cell
takes-there s table e parts option cell same takes = subst (λ ps. TakesFirst (union_choice table e ps) option cell) same takes

-- what a call leaves that only passes over bits read ahead
pub leaves-skipped : {S : Type 0} (contents : S → List ℕ → Option (List ℕ)) (counts : S → List ℕ → ℕ) (shelf : S) (n : ℕ) (old new : TapeState) → BelongsToShelf (contents shelf) old → SkipsBits old n new → LeavesTape contents counts false shelf shelf old new
leaves-skipped contents counts shelf n old new belongs skips = record { source = skips.source; belongs = skips.belongs (contents shelf) belongs; content = refl; faults = refl; seeded = λ seed is_seed. refl }
