-- The line that gives the bounds of a chance.
use Rattle.std.specs.Prelude.{ℕ, List, [], ◌∷◌, ◌++◌, decimal, codes}
use Rattle.std.specs.Fmt.{signed_decimal}
use Rattle.chance_law.specs.declared.scaled.ChanceBounds.{ChanceBounds}

-- The line of a chance: the lower and the upper bound, each with its digits and its exponent in
-- decimal, and a line feed.
abbrev pub chance_line : ChanceBounds → List ℕ
chance_line b =
    codes "chance lo " ++ (decimal b.lo.m ++ (codes " " ++ (signed_decimal b.lo.e
    ++ (codes " hi " ++ (decimal b.hi.m ++ (codes " " ++ (signed_decimal b.hi.e ++ (10 ∷ []))))))))
