-- Pending nodes as runs of equal ones.
use Rattle.std.specs.Prelude.{ℕ, ◌<◌, List, [], ◌∷◌, ◌++◌, replicate}
use Rattle.object_store.specs.declared.pending.Run.{Run}

-- The nodes that runs stand for, the last run first.
abbrev pub unrolled : List Run → List ℕ
unrolled [] = []
unrolled (r ∷ runs) = unrolled runs ++ replicate r.times r.node.0

-- No run is empty.
abbrev pub HaveSome : List Run → Type 0
HaveSome [] = Unit {0}
HaveSome (r ∷ runs) = (0 < r.times) × HaveSome runs
