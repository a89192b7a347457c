-- Traces over told bits: they are courses, and those that have ended are one.
use Rattle.std.proofs.Common.{◌≡◌, ℕ, zero, suc, ◌+◌, ◌-◌, max, arith, Bool, true, false, cond, [], ◌++◌, append-nil, refl, sym, ◌∙◌, ap}
use Rattle.std.specs.Prelude.{Option, Some, None, List, is_some}
use Rattle.std.proofs.Math.Decide.{dec_le}
use Rattle.bz_model.specs.declared.cell.Cell.{Cell}
use Rattle.size_window.specs.RunByBits.{Ending, Sampling, RunState, Entry, Course, quiet, turn_unless, followed_by, after}
use Rattle.size_window.specs.Trace.{bits_to_node, most_given, ToldTracesAreCourses, EndedTracesAreOne}
use Rattle.size_window.proofs.Tracing.{agree, agree-given}

-- no turn fails where the course didn't end so
unfailed : {Failed : Type 0} (o : Option ℕ) → ((given : ℕ) → o ≡ Some given → Failed) → (Failed → ⊥) → o ≡ None
unfailed None caused never = refl
unfailed (Some given) caused never = absurd (never (caused given refl))

-- A trace over a tape whose bits are told, with no failed read at its end, is the course over these
-- bits where none fails.
pub told_traces_are_courses : ToldTracesAreCourses
told_traces_are_courses s x F table limits tape turns most c p never k by =
    let smp : Sampling = record { chooser = k; limits = limits; tape = tape } in
    let over = p.exact tape p.gave.are_told p.ended k by in
    let none : (n : ℕ) → p.faults n ≡ None = λ n. unfailed (p.faults n) (p.disturbed n) never in
    record {
      same = over.same ∙ agree smp p.faults (λ n. None) turns (λ n lt. none n);
      most_is = over.most_is ∙ agree-given smp p.faults (λ n. None) turns (λ n lt. none n);
    }

abbrev course : RunState → List Entry → List Cell → Course
course st entries cells = record { state = st; entries = entries; cells = cells }

-- a quiet turn changes no course
pub quiet-on : (c : Course) (st : RunState) → c.state ≡ st → followed_by c (quiet st) ≡ c
quiet-on c st at = ap (λ s. course s (c.entries ++ []) (c.cells ++ [])) (sym at) ∙ (ap (λ entries. course c.state entries (c.cells ++ [])) (append-nil c.entries) ∙ ap (λ cells. course c.state c.entries cells) (append-nil c.cells))

module _ (s : Sampling) (faults : ℕ → Option ℕ) where
  -- a course that has ended stays as it is
  resting : (n : ℕ) (o : Option Ending) → (after s faults n).state.ending ≡ o → is_some o ≡ true → after s faults (suc n) ≡ after s faults n
  resting n None is e = absurd (cc)
  resting n (Some ending) is e = ap (λ o. followed_by (after s faults n) (turn_unless s (faults n) (after s faults n).state o)) is ∙ quiet-on (after s faults n) (after s faults n).state refl

  -- and gives no more bits
  no-bits : (st : RunState) → bits_to_node st st ≡ 0
  no-bits st = by st.awaits
    where
      by : (b : Bool) → cond b 0 (st.attempt.used - st.attempt.used) ≡ 0
      by true = refl
      by false = omega arith

  resting-bits : (n : ℕ) → after s faults (suc n) ≡ after s faults n → most_given s faults (suc n) ≡ most_given s faults n
  unfolding most_given
  resting-bits n same =
      ap (λ (c : Course). max (most_given s faults n) (bits_to_node (after s faults n).state c.state)) same
      ∙ ap (max (most_given s faults n)) (no-bits (after s faults n).state)
      ∙ (let z : max (most_given s faults n) 0 ≡ most_given s faults n = omega arith in z)

  still-ended : (n more : ℕ) → is_some (after s faults n).state.ending ≡ true → (after s faults (n + more) ≡ after s faults n) × (most_given s faults (n + more) ≡ most_given s faults n)
  still-ended n zero e = let z : n + 0 ≡ n = omega arith in (ap (after s faults) z, ap (most_given s faults) z)
  still-ended n (suc more) e =
      let earlier = still-ended n more e in
      let z : n + suc more ≡ suc (n + more) = omega arith in
      let rests = resting (n + more) (after s faults (n + more)).state.ending refl (ap (λ (k : Course). is_some k.state.ending) earlier.0 ∙ e) in
      (ap (after s faults) z ∙ rests ∙ earlier.0, ap (most_given s faults) z ∙ resting-bits (n + more) rests ∙ earlier.1)

  -- two courses that have ended are one
  both-ended : (m n : ℕ) → is_some (after s faults m).state.ending ≡ true → is_some (after s faults n).state.ending ≡ true → (after s faults m ≡ after s faults n) × (most_given s faults m ≡ most_given s faults n)
  both-ended m n one two = elim (dec_le m n) [
    | yes h ↦ let k = still-ended m (n - m) one in let z : m + (n - m) ≡ n = omega (arith, h) in (sym k.0 ∙ ap (after s faults) z, sym k.1 ∙ ap (most_given s faults) z)
    | no h ↦ let k = still-ended n (m - n) two in let z : m ≡ n + (m - n) = omega (arith, h) in (ap (after s faults) z ∙ k.0, ap (most_given s faults) z ∙ k.1)
  ]

-- Two traces over one tape of told bits that have both ended, neither with a failed read, are one
-- course.
pub ended_traces_are_one : EndedTracesAreOne
ended_traces_are_one s x F table limits tape k by turns most c p ended others greatest d q ended_too =
    let smp : Sampling = record { chooser = k; limits = limits; tape = tape } in
    let one = told_traces_are_courses s x F table limits tape turns most c p ended.undisturbed k by in
    let two = told_traces_are_courses s x F table limits tape others greatest d q ended_too.undisturbed k by in
    let both = both-ended smp (λ n. None) turns others (ap (λ (e : Course). is_some e.state.ending) (sym one.same) ∙ ended.ended) (ap (λ (e : Course). is_some e.state.ending) (sym two.same) ∙ ended_too.ended) in
    (one.same ∙ both.0 ∙ sym two.same, one.most_is ∙ both.1 ∙ sym two.most_is)
