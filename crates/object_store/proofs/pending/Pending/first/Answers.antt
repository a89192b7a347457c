-- The node of the last run is the first that waits.
use Rattle.std.proofs.Common.{◌-◌, length, slice_get, sym, ◌∙◌, ap}
use Rattle.object_store.proofs.Unrolled.{unrolled-first}
use Rattle.object_store.proofs.pending.Pending.first.Goals as goal

pub returns : goal.returns
returns c =
    let last = c.in_ok-run.ensures.value ∙ ap (λ runs. slice_get runs (length runs - 1)) c.deref.ensures.value in
    let first = unrolled-first c.self.inside.runs.items c.in_ok-run.run'.now c.self.invariant (sym last) in
    sym first ∙ ap (λ v. slice_get v.items 0) c.self.view_is
