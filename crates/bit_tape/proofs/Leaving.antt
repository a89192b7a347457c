-- What calls with a tape leave, one after another.
use Rattle.std.proofs.Common.{◌≡◌, ℕ, ◌≤◌, List, Option, Bool, true, false, refl, subst, ◌∙◌, ap, arith}
use Rattle.bit_tape.specs.Tape.{TapeSource, TapeState, BelongsToShelf, CountsFault, LeavesTape, HasFault}

-- no call falls short of a count
pub counts-kept : (failed : Bool) (source : TapeSource) (before now : List ℕ → ℕ) → CountsFault failed source before now → (other : List ℕ) → before other ≤ now other
counts-kept false source before now same other = let e : now other ≡ before other = ap (λ f. f other) same in omega arith
counts-kept true (TapeSource.Named name) before now failed other = failed.kept other
counts-kept true (TapeSource.Seeded seed) before now never other = absurd never

-- a failed read raised the count
pub fault-rose : (source : TapeSource) (before now : List ℕ → ℕ) → CountsFault true source before now → HasFault source before now
fault-rose (TapeSource.Named name) before now failed = let e = failed.here in omega arith
fault-rose (TapeSource.Seeded seed) before now never = never

-- a call that fails after calls that left the counts fails from the beginning
pub counts-after : (failed : Bool) (source first : TapeSource) (before middle now : List ℕ → ℕ) → source ≡ first → middle ≡ before → CountsFault failed source middle now → CountsFault failed first before now
counts-after failed source first before middle now same steady last = subst (λ s. CountsFault failed s before now) same (subst (λ m. CountsFault failed source m now) steady last)

-- nothing was done yet
pub leaves-none : {S : Type 0} (contents : S → List ℕ → Option (List ℕ)) (counts : S → List ℕ → ℕ) (shelf : S) (tape : TapeState) → BelongsToShelf (contents shelf) tape → LeavesTape contents counts false shelf shelf tape tape
leaves-none contents counts shelf tape belongs = record { source = refl; belongs = belongs; content = refl; faults = refl; seeded = λ seed is_seed. refl }

-- a call after calls that didn't fail
pub leaves-more : {S : Type 0} (contents : S → List ℕ → Option (List ℕ)) (counts : S → List ℕ → ℕ) (failed : Bool) (before middle now : S) (old between new : TapeState) → LeavesTape contents counts false before middle old between → LeavesTape contents counts failed middle now between new → LeavesTape contents counts failed before now old new
leaves-more contents counts failed before middle now old between new one two = record {
  source = two.source ∙ one.source;
  belongs = two.belongs;
  content = two.content ∙ one.content;
  faults = counts-after failed between.source old.source (counts before) (counts middle) (counts now) one.source one.faults two.faults;
  seeded = λ seed is_seed. two.seeded seed (one.source ∙ is_seed) ∙ one.seeded seed is_seed;
}
