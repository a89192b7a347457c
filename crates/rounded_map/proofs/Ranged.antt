-- The values of a range, with a high or without.
use Rattle.std.proofs.Common.{◌≡◌, ℕ, Option, Some, None, sym, ap, ◌∙◌}
use Rattle.std.specs.Prelude.{option_and_then}
use Rattle.bz_model.specs.Spec.{Range}
use Rattle.series_bounds.specs.Series.{Kind, part_down, from_down, from_up, counted_down, counted_up, ranged_down, ranged_up}

-- Where a range has no high, the lower value from its low on without end is the lower value of the
-- range.
pub without_high-down : (kind : Kind) (f : ℕ) (r : Range) (a v : ℕ) → r.high ≡ None → v ≡ from_down kind f a r.low → v ≡ counted_down kind f r a
without_high-down kind f r a v none is = is ∙ ap (ranged_down kind f a r.low) (sym none)

pub with_high-down : (kind : Kind) (f : ℕ) (r : Range) (a v high : ℕ) → r.high ≡ Some high → v ≡ part_down kind f a r.low high → v ≡ counted_down kind f r a
with_high-down kind f r a v high some is = is ∙ ap (ranged_down kind f a r.low) (sym some)

-- The upper value of a range without a high, where the part's value is there.
pub without_high-up : (kind : Kind) (f : ℕ) (r : Range) (a : ℕ) (part v : Option ℕ) → part ≡ Some a → r.high ≡ None → v ≡ from_up kind f a r.low → v ≡ option_and_then (counted_up kind f r) part
without_high-up kind f r a part v there none is = is ∙ ap (ranged_up kind f a r.low) (sym none) ∙ sym (ap (option_and_then (counted_up kind f r)) there)
