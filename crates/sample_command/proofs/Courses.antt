-- Courses that have come to their end.
use Rattle.std.proofs.Common.{◌≡◌, ℕ, zero, suc, ◌+◌, ◌-◌, ◌≤◌, arith, List, [], ◌++◌, append-nil, refl, sym, subst, ap, ◌∙◌}
use Rattle.std.specs.Prelude.{Option, Some, None}
use Rattle.std.proofs.Math.Decide.{dec_le}
use Rattle.bz_model.specs.declared.cell.Cell.{Cell}
use Rattle.size_window.specs.RunByBits.{Sampling, RunState, Entry, Course, Ending, quiet, turn_unless, followed_by, one_turn_on, after}

abbrev made : RunState → List Entry → List Cell → Course
made st entries cells = record { state = st; entries = entries; cells = cells }

-- a quiet turn changes no course
pub quiet-on : (c : Course) → followed_by c (quiet c.state) ≡ c
quiet-on c = ap (λ entries. made c.state entries (c.cells ++ [])) (append-nil c.entries) ∙ ap (λ cells. made c.state c.entries cells) (append-nil c.cells)

-- a turn after the end changes no course
ended-on : (s : Sampling) (fault : Option ℕ) (c : Course) (ending : Ending) → c.state.ending ≡ Some ending → one_turn_on s fault c ≡ c
ended-on s fault c ending e = ap (λ o. followed_by c (turn_unless s fault c.state o)) e ∙ quiet-on c

-- nor do any number of turns
pub stays : (s : Sampling) (faults : ℕ → Option ℕ) (n k : ℕ) (ending : Ending) → (after s faults n).state.ending ≡ Some ending → after s faults (k + n) ≡ after s faults n
stays s faults n zero ending e = let same : 0 + n ≡ n = omega arith in ap (after s faults) same
stays s faults n (suc k) ending e =
    let before = stays s faults n k ending e in
    let same : suc k + n ≡ suc (k + n) = omega arith in
    ap (after s faults) same ∙ ap (one_turn_on s (faults (k + n))) before ∙ ended-on s (faults (k + n)) (after s faults n) ending e

-- two ends of one drawing are the same
pub one_end : (s : Sampling) (faults : ℕ → Option ℕ) (n m : ℕ) (d e : Ending) → (after s faults n).state.ending ≡ Some d → (after s faults m).state.ending ≡ Some e → after s faults n ≡ after s faults m
one_end s faults n m d e at_n at_m = go (dec_le n m)
  where
    later : (a b : ℕ) (g : Ending) → a ≤ b → (after s faults a).state.ending ≡ Some g → after s faults b ≡ after s faults a
    later a b g h at_a = let same : (b - a) + a ≡ b = omega arith in subst (λ k. after s faults k ≡ after s faults a) same (stays s faults a (b - a) g at_a)

    go : Dec (n ≤ m) → after s faults n ≡ after s faults m
    go (yes h) = sym (later n m d h at_n)
    go (no h) = later m n e (omega (arith, h)) at_m

-- where no turn fails the course is undisturbed
pub unfailing : (s : Sampling) (faults : ℕ → Option ℕ) (n : ℕ) → ((k : ℕ) → faults k ≡ None) → after s faults n ≡ after s (λ k. None) n
unfailing s faults zero none = refl
unfailing s faults (suc n) none = ap (λ o. one_turn_on s o (after s faults n)) (none n) ∙ ap (one_turn_on s None) (unfailing s faults n none)
