-- The schedule of a pool: which drawing is asked for each turn, and in which order the drawings
-- end.
use Rattle.std.specs.Prelude.{ℕ, zero, suc, ◌+◌, ◌-◌, ◌%◌, nat_eq, List, [], ◌∷◌, ◌++◌, map}
use Rattle.std.specs.Prelude.{replicate, if◌then◌else◌}
use Rattle.session_pool.specs.Interleaving.{how_often}
use Rattle.size_window.specs.RunByBits.{Ending}

-- The drawings that a schedule's bytes name, among n: each byte modulo n.
abbrev pub drawings_named : (n : ℕ) → (bytes : List ℕ) → List ℕ
drawings_named n bytes = map (λ byte. byte % n) bytes

-- How often a drawing is asked for a turn until it ends: once for each turn that it made, and once
-- more where its ending costs no turn.
abbrev pub asks_to_end : Ending → (turns : ℕ) → ℕ
asks_to_end Ending.Done turns = turns + 1
asks_to_end Ending.TurnLimit turns = turns + 1
asks_to_end ending turns = turns

-- The drawings that are asked: those of a list, and then each of the first n, least number first,
-- as often as it takes to end it. `asks` is how often each is asked in all.
unfoldable pub all_asked : (asks : ℕ → ℕ) → List ℕ → (n : ℕ) → List ℕ
all_asked asks front zero = front
all_asked asks front (suc n) = all_asked asks front n ++ replicate (asks n - how_often n front) n

-- The drawing that ends where i is asked after the drawings of a list: i, if it is now asked for
-- the last time.
abbrev pub ends_now : (asks : ℕ → ℕ) → (before : List ℕ) → (i : ℕ) → List ℕ
ends_now asks before i = if nat_eq (asks i) (how_often i before + 1) then i ∷ [] else []

-- The drawings that end while those of a list are asked, others being asked before, in the order in
-- which they end.
unfoldable pub ends_in : (asks : ℕ → ℕ) → (before : List ℕ) → List ℕ → List ℕ
ends_in asks before [] = []
ends_in asks before (i ∷ more) = ends_now asks before i ++ ends_in asks (before ++ i ∷ []) more

-- The order in which n drawings end by a schedule's bytes.
abbrev pub order_of : (asks : ℕ → ℕ) → (n : ℕ) → (bytes : List ℕ) → List ℕ
order_of asks n bytes = ends_in asks [] (all_asked asks (drawings_named n bytes) n)
