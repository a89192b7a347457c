-- The last run has more than one node, or others stand before it.
use Rattle.std.proofs.Common.{◌-◌, length, slice_get, sym, ◌∙◌, ap, subst, ◌<◌}
use Rattle.std.proofs.lemmas.Bool.{lt-ltb, ltb-true}
use Rattle.object_store.proofs.Unrolled.{waits-more, waits-others}
use Rattle.object_store.proofs.pending.Pending.has_more.Goals as goal

pub returns-then-run-gt1 : goal.returns-then-run-gt1
returns-then-run-gt1 c =
    let last = c.in-Some.ensures.value ∙ ap (λ runs. slice_get runs (length runs - 1)) c.deref.ensures.value in
    let more = waits-more c.self.inside.runs.items c.in-Some.run'.now c.self.invariant (sym last) c.if-run-gt1.true in
    (λ told. subst (λ v. 1 < length v.items) c.self.view_is more, λ here. lt-ltb 1 c.in-Some.run'.now.times c.if-run-gt1.true)

pub returns-else-run-gt1 : goal.returns-else-run-gt1
returns-else-run-gt1 c =
    let last = c.in-Some.ensures.value ∙ ap (λ runs. slice_get runs (length runs - 1)) c.deref.ensures.value in
    let both = waits-others c.self.inside.runs.items c.in-Some.run'.now c.self.invariant (sym last) c.if-run-gt1.false in
    let len = c.len.ensures ∙ sym c.deref.ensures.len ∙ ap length c.deref.ensures.value in (
      λ told. subst (λ v. 1 < length v.items) c.self.view_is (both.0 (subst (λ n. 1 < n) len (ltb-true 1 c.len.result told))),
      λ here. lt-ltb 1 c.len.result (subst (λ n. 1 < n) (sym len) (both.1 (subst (λ v. 1 < length v.items) (sym c.self.view_is) here))),
    )
