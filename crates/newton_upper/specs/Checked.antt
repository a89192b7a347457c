-- What the test of a vector tells.
use Rattle.std.specs.Prelude.{ℕ, List}
use Rattle.rounded_map.specs.RoundedMap.{Setting, values_up, bodies_up, IsFirstAbove}
use Rattle.newton_upper.specs.declared.base.BaseFault.{BaseFault}
use Rattle.newton_upper.specs.declared.base.BaseFault.TheVariants.{NotPostFixed, OutOfMemory}

-- A fault tells the least class whose body has no upper value at the vector, or one above the
-- class's entry, and that value; want of memory tells nothing.
abbrev pub IsFaultOf : Setting → List ℕ → BaseFault → Type 0
IsFaultOf t vector (NotPostFixed fault) =
    IsFirstAbove (bodies_up t (values_up t vector)) vector fault.class_id.0 fault.got
IsFaultOf t vector OutOfMemory = Unit {0}
