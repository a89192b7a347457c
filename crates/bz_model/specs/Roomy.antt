-- Lists with spare room.
use Rattle.std.specs.Prelude.{ℕ, List}

-- A list of items, with how many more may be pushed without a refusal.
pub record Roomy (A : Type 0) : Type 0 where
  pub items : List A
  pub spare : ℕ
