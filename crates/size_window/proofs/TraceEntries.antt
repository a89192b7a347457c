-- The entries of a trace are those of a course by bits.
use Rattle.std.proofs.Common.{ℕ, Bool, arith, sym, subst}
use Rattle.std.specs.Prelude.{Option, slice_get}
use Rattle.bz_model.specs.declared.cell.Bounds.{Bounds}
use Rattle.bz_model.specs.Fraction.{Fraction}
use Rattle.bz_model.specs.Spec.{Spec}
use Rattle.class_system.specs.Sound.{IsSound}
use Rattle.well_founded.specs.EmptyObjects.{has_empty}
use Rattle.shape_sampler.specs.Visit.{Chooser}
use Rattle.shape_sampler.specs.Answer.{ChoosesBy}
use Rattle.size_window.specs.RunByBits.{Limits, Sampling, Course}
use Rattle.size_window.specs.Ideally.{chooser_of}
use Rattle.size_window.specs.InOrder.{IsInOrder}
use Rattle.size_window.specs.Redrawn.{AreRedrawn, AreEntriesOfTrace}
use Rattle.size_window.specs.Trace.{IsTrace, IsCourseOver}
use Rattle.size_window.proofs.Ordering.{course-in-order}
use Rattle.size_window.proofs.Redrawing.{has-own, course-redrawn}
use Rattle.size_window.proofs.Tracing.{table-chooser, ends-alone}

module _ (s : Spec) (x : Fraction) (F : ℕ) (table : (level node : ℕ) → Bounds) (limits : Limits) (told : Option (ℕ → Option Bool)) (turns most : ℕ) (c : Course) (p : IsTrace s x F table limits told turns most c) where
  -- the course over the tape of just the bits given
  alone : Chooser → Sampling
  alone k = record { chooser = k; limits = limits; tape = slice_get p.given }

  over-own : (k : Chooser) → ChoosesBy s F table k → IsCourseOver (alone k) p.faults turns c most
  unfolding alone
  over-own k by = p.exact (slice_get p.given) (has-own p.given) (ends-alone c.state.ending p.given c.state.attempt.used (let g = p.gave.count in omega arith)) k by

  pub trace-entries : IsSound s → AreEntriesOfTrace s F table limits c
  unfolding alone
  trace-entries sound = record {
    redrawn = λ k by. let over = over-own k by in subst (λ (d : Course). AreRedrawn k limits.max d.entries) (sym over.same) (course-redrawn (alone k) p.faults turns);
    in_order = let k = chooser_of s F table (has_empty s) in let over = over-own k (table-chooser s F table sound) in subst (IsInOrder limits) (sym over.same) (course-in-order (alone k) p.faults turns);
  }
