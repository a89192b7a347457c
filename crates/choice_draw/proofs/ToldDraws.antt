-- What holds of every tape holds of the one that is told.
use Rattle.std.proofs.Common.{◌≡◌, ℕ, Bool, Option, Some, None}
use Rattle.std.specs.Prelude.{IfSome}
use Rattle.bz_model.specs.declared.cell.Cell.{Cell}
use Rattle.choice_draw.specs.Draw.{Draw, bit_of, draw}
use Rattle.choice_draw.specs.Answer.{IsDraw, fault_of}

-- what follows for the value of an option from what holds of it
pub on_some : {X : Type 0} (o : Option X) {P Q : X → Type 0} → ((x : X) → P x → Q x) → IfSome o P → IfSome o Q
on_some None f p = tt
on_some (Some x) f p = f x p

pub on_both : {X : Type 0} (o : Option X) {P Q R : X → Type 0} → ((x : X) → P x → Q x → R x) → IfSome o P → IfSome o Q → IfSome o R
on_both None f p q = tt
on_both (Some x) f p q = f x p q

-- What holds of every value holds of an optional value, where it is there.
pub on_any : {X : Type 0} (o : Option X) {P : X → Type 0} → ((x : X) → P x) → IfSome o P
on_any None f = tt
on_any (Some x) f = f x

-- a draw over a tape that is told is the one that its bits fix
pub told-draw : {A : Type 0} (decide : Cell → Option A) (told : Option (ℕ → Option Bool)) (start used : ℕ) (answer : Draw A) → IsDraw decide told start used answer → IfSome told (λ bits. answer ≡ draw decide (bit_of bits (fault_of answer)) start)
told-draw decide told start used answer d = on_both told (λ bits have ends. d.exact bits have ends) d.gave.are_told d.ended
