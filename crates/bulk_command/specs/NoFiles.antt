-- Files that nothing is read of: each is empty, and no read fails.
use Rattle.std.specs.Prelude.{ℕ, List, [], Option, Some}

-- Every name has no bytes.
abbrev pub empty_files : (name : List ℕ) → Option (List ℕ)
empty_files name = Some []

-- No read of any name ever failed.
abbrev pub no_faults : (name : List ℕ) → ℕ
no_faults name = 0
