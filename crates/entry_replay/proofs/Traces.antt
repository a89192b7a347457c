-- Each entry of a drawing's trace is made of its own cells.
use Rattle.std.proofs.Common.{◌≡◌, ℕ, ◌+◌, ◌≤◌, arith, Bool, List, [], ◌∷◌, length, refl, sym, subst}
use Rattle.std.proofs.lemmas.Option.{slice_get_past}
use Rattle.std.specs.List.{AllByRecursion}
use Rattle.std.specs.Prelude.{Option, Some, None, slice_get}
use Rattle.bz_model.specs.declared.cell.Bounds.{Bounds}
use Rattle.bz_model.specs.Cell.{spelled}
use Rattle.bz_model.specs.Fraction.{Fraction}
use Rattle.bz_model.specs.Spec.{Spec, Mode}
use Rattle.shape_sampler.specs.Answer.{ChoosesBy}
use Rattle.shape_sampler.specs.Visit.{Chooser, Attempt}
use Rattle.size_window.specs.Redrawn.{HasLabelsAgain, IsRedrawn, IsRedrawnAlone, AreRedrawn}
use Rattle.size_window.specs.RunByBits.{Limits, Entry, Course, Ending}
use Rattle.size_window.specs.Trace.{EndsAt, IsTrace}
use Rattle.size_window.proofs.Redrawing.{has-own, course-redrawn}
use Rattle.entry_replay.specs.Replay.{entry_with, AreMadeOf}

-- an entry's number and place don't matter
same-labels : (mode : Mode) (bits : ℕ → Option Bool) (made : Attempt) (e : Entry) (end : ℕ) → HasLabelsAgain mode bits made e end → HasLabelsAgain mode bits made (entry_with e.tokens e.labels e.cells) end
same-labels Mode.Unlabelled bits made e end h = h
same-labels Mode.Labelled bits made e end h = record { more = h.more; cells = h.cells; given = h.given }

alone : (c : Chooser) (greatest : ℕ) (e : Entry) → IsRedrawnAlone c greatest e → IsRedrawnAlone c greatest (entry_with e.tokens e.labels e.cells)
alone c greatest e r = record {
  number = r.number;
  made = r.made;
  comes = r.comes;
  rests = r.rests;
  tokens = r.tokens;
  size = refl;
  labels = same-labels c.spec.mode (slice_get (spelled e.cells)) r.made e (0 + length (spelled e.cells)) r.labels;
}

-- a tape that ends there ends there
ends-there : (o : Option Ending) (used : ℕ) (bits : ℕ → Option Bool) → bits used ≡ None → EndsAt o used bits
ends-there None used bits h = tt
ends-there (Some Ending.Done) used bits h = tt
ends-there (Some Ending.TapeEnded) used bits h = h
ends-there (Some (Ending.Undecided number)) used bits h = tt
ends-there (Some Ending.TurnLimit) used bits h = tt
ends-there (Some Ending.ReadFault) used bits h = tt

module _ (s : Spec) (F : ℕ) (table : (level node : ℕ) → Bounds) (greatest : ℕ) where
  -- what each chooser makes again is made of its cells
  all-made : (es : List Entry) → ((k : Chooser) → ChoosesBy s F table k → AreRedrawn k greatest es) → AllByRecursion (λ e. AreMadeOf s F table greatest e.cells e.tokens e.labels) es
  all-made [] h = tt
  all-made (e ∷ es) h = (record { redrawn = λ k by. alone k greatest e ((h k by).0.1) }, all-made es (λ k by. (h k by).1))

-- In the trace of a drawing, the tokens and labels of each kept entry are made of the entry's own
-- cells.
pub trace-makes : (s : Spec) (x : Fraction) (F : ℕ) (table : (level node : ℕ) → Bounds) (limits : Limits) (told : Option (ℕ → Option Bool)) (turns most : ℕ) (c : Course) → IsTrace s x F table limits told turns most c → AllByRecursion (λ e. AreMadeOf s F table limits.max e.cells e.tokens e.labels) c.entries
trace-makes s x F table limits told turns most c t =
    all-made s F table limits.max c.entries (λ k by.
    let used = c.state.attempt.used in
    let long = t.gave.count in
    let past : length t.given ≤ used = omega (arith, long) in
    let over = t.exact (slice_get t.given) (has-own t.given) (ends-there c.state.ending used (slice_get t.given) (slice_get_past t.given used past)) k by in
    subst (λ (q : Course). AreRedrawn k limits.max q.entries) (sym over.same) (course-redrawn (record { chooser = k; limits = limits; tape = slice_get t.given }) t.faults turns))
