-- What a test's answer says.
use Rattle.std.proofs.Common.{◌≡◌, Bool, true, false}
use Rattle.std.specs.Prelude.{IsTrue, ◌↔◌}

-- Where a test tells exactly whether P holds and its answer is false, P doesn't hold.
pub not-true : {P : Type 0} {b : Bool} → b ≡ false → (IsTrue b ↔ P) → ¬ P
not-true {P} {b} is h p = let t : b ≡ true = h.1 p in let none : ⊥ = cc in none

-- Where a test tells exactly whether P holds and its answer is true, P holds.
pub is-true : {P : Type 0} {b : Bool} → b ≡ true → (IsTrue b ↔ P) → P
is-true {P} {b} is h = h.0 is
