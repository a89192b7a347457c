-- A course that met its tape's end used all bits of a file.
use Rattle.std.proofs.Common.{◌≡◌, ℕ, ◌*◌, ◌^◌, ◌<◌, ◌≤◌, min, arith, List, length, sym, subst}
use Rattle.std.specs.Prelude.{Option, Some, None, IfSome, option_map}
use Rattle.std.proofs.Math.Nat.{mul-le-mul}
use Rattle.bz_model.specs.declared.cell.Bounds.{Bounds}
use Rattle.bz_model.specs.Fraction.{Fraction}
use Rattle.bz_model.specs.Spec.{Spec}
use Rattle.bit_tape.specs.Bits.{file_bit}
use Rattle.bit_tape.specs.Tape.{TapeSource, bits_of_source}
use Rattle.class_system.specs.Sound.{IsSound}
use Rattle.shape_sampler.specs.Answer.{ChoosesBy}
use Rattle.well_founded.specs.EmptyObjects.{has_empty}
use Rattle.size_window.specs.RunByBits.{Limits, Sampling, Course, Ending, after}
use Rattle.size_window.specs.Drawing.{AreLimits}
use Rattle.size_window.specs.Ideally.{chooser_of}
use Rattle.size_window.specs.TapeEnd.{bits_a_turn, UsesFewBits, FilesEndRightly, SeedsNeverEnd}
use Rattle.size_window.specs.Trace.{IsTrace}
use Rattle.sample_command.specs.Drawn.{sampling, AreAll}

-- the chooser of a drawing chooses by its table
abbrev pub Chosen : Spec → (F : ℕ) → ((level node : ℕ) → Bounds) → Type 0
Chosen s F table = ChoosesBy s F table (chooser_of s F table (has_empty s))

-- The laws of where a tape ends.
pub record EndLaws : Type 0 where
  pub few : (s : Sampling) (faults : ℕ → Option ℕ) (n : ℕ) → UsesFewBits s.limits (after s faults n)
  pub files : FilesEndRightly
  pub seeds : SeedsNeverEnd

-- the bits of all turns
below-limit : (limits : Limits) (c : Course) → AreLimits limits → UsesFewBits limits c → c.state.attempt.used < 2 ^ 63
below-limit limits c are few =
    let most : bits_a_turn limits ≤ 60000000 = let m = are.max in omega (arith, m) in
    let many : c.state.turns ≤ 50000000 = let t = are.turns in let n = few.turns in omega (arith, t, n) in
    let product : c.state.turns * bits_a_turn limits ≤ 50000000 * 60000000 = mul-le-mul many most in
    let bits = few.bits in
    omega (arith, bits, product)

module _ (laws : EndLaws) (s : Spec) (x : Fraction) (F : ℕ) (table : (level node : ℕ) → Bounds) (limits : Limits) (sound : IsSound s) (chosen : Chosen s F table) (are : AreLimits limits) (turns most : ℕ) (c : Course) (is : c.state.ending ≡ Some Ending.TapeEnded) where
  of-file : (o : Option (List ℕ)) → IsTrace s x F table limits (option_map file_bit o) turns most c → IfSome o (λ bytes. c.state.attempt.used ≡ 8 * length bytes)
  of-file None p = tt
  of-file (Some bytes) p =
      let over = p.exact (file_bit bytes) p.gave.are_told p.ended (chooser_of s F table (has_empty s)) chosen in
      let few = subst (UsesFewBits limits) (sym over.same) (laws.few (sampling s F table limits (file_bit bytes)) p.faults turns) in
      let below = below-limit limits c are few in
      let all : c.state.attempt.used ≡ min (8 * length bytes) (2 ^ 63) = laws.files s x F table limits bytes turns most c p is in
      omega (arith, below, all)

  pub all-used : (source : TapeSource) (contents : List ℕ → Option (List ℕ)) → IsTrace s x F table limits (bits_of_source source contents) turns most c → AreAll source contents c.state.attempt.used
  all-used (TapeSource.Named name) contents p = of-file (contents name) p
  all-used (TapeSource.Seeded seed) contents p = laws.seeds s x F table limits seed turns most c sound are p is
