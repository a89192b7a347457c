-- How many bits of a course are those of a number that was left open.
use Rattle.std.proofs.Common.{◌≡◌, ℕ, ◌+◌, Bool, List, [], length, length-append, Option, Some, arith, ap, subst}
use Rattle.bz_model.specs.Cell.{bits_of, spelled}
use Rattle.choice_draw.proofs.LeastCells.{bits-length}
use Rattle.size_window.specs.RunByBits.{Open, Ending, Course}
use Rattle.size_window.specs.Trace.{open_cell, AreOpen, IsSpelled}

-- the bits used are those that the cells spell, and the open ones
used-bits : (c : Course) (tape : ℕ → Option Bool) (h : IsSpelled c tape) (open_count : ℕ) → length h.open_bits ≡ open_count → c.state.attempt.used ≡ length (spelled c.cells) + open_count
used-bits c tape h open_count long = omega (arith, h.spelled_there.up_to, length-append (spelled c.cells) h.open_bits, long)

-- none, where the course is done or has met the limit of turns
pub none-left : (c : Course) (tape : ℕ → Option Bool) → IsSpelled c tape → (ending : Option Ending) → c.state.ending ≡ ending → ((bits : List Bool) → AreOpen ending bits → bits ≡ []) → c.state.attempt.used ≡ length (spelled c.cells)
none-left c tape h ending is closed =
    let none : length h.open_bits ≡ 0 = ap length (closed h.open_bits (subst (λ e. AreOpen e h.open_bits) is h.are_open)) in
    let used = used-bits c tape h 0 none in
    omega arith

-- 60, where it is undecided
pub sixty-left : (c : Course) (tape : ℕ → Option Bool) → IsSpelled c tape → (number : Open) → c.state.ending ≡ Some (Ending.Undecided number) → c.state.attempt.used ≡ length (spelled c.cells) + 60
sixty-left c tape h number is =
    let are : (h.open_bits ≡ bits_of (open_cell number).b (open_cell number).k) × ((open_cell number).b ≡ 60) = subst (λ e. AreOpen e h.open_bits) is h.are_open in
    let long : length h.open_bits ≡ 60 = omega (arith, ap length are.0, bits-length (open_cell number).b (open_cell number).k, are.1) in
    used-bits c tape h 60 long
