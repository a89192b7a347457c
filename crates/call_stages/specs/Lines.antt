-- Lines of answers that are no certificate's, nor a refusal's, as lists of bytes.
use Rattle.std.specs.Prelude.{ℕ, zero, suc, List, [], ◌∷◌, ◌++◌, decimal, codes, slice_get}
use Rattle.std.specs.Prelude.{unwrap_or}
use Rattle.bz_model.specs.Spec.{Spec}

-- A line feed.
abbrev pub feed : List ℕ
feed = 10 ∷ []

-- The last line after a specification's canonical text.
abbrev pub spec_end_line : (classes nodes : ℕ) → List ℕ
spec_end_line classes nodes = codes "end done classes "
    ++ (decimal classes ++ (codes " nodes " ++ (decimal nodes ++ feed)))

-- The name of a class, and no bytes where there is no such class.
abbrev pub class_name : Spec → ℕ → List ℕ
class_name s c = unwrap_or (slice_get s.names c) []

-- The first line of a drawing whose lower sweeps start from a fast vector.
abbrev pub fast_format : List ℕ
fast_format = codes "boltzmann fast"

-- The line of a class's lower and upper entry at a level.
abbrev pub level_line : (level : ℕ) → (name : List ℕ) → (lo hi : ℕ) → List ℕ
level_line level name lo hi =
    codes "level "
    ++ (decimal level
    ++ (codes " " ++ (name ++ (codes " " ++ (decimal lo ++ (codes " " ++ (decimal hi ++ feed)))))))

-- The lines of the first so many things, in order, where each has its own.
unfoldable pub lines_below : (line : ℕ → List ℕ) → ℕ → List ℕ
lines_below line zero = []
lines_below line (suc n) = lines_below line n ++ line n

-- The last line of an answer that is done, where it tells nothing more.
abbrev pub end_done_line : List ℕ
end_done_line = codes "end done" ++ feed
