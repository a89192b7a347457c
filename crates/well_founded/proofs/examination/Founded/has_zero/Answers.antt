use Rattle.std.proofs.Common.{◌≡◌, ◌∙◌, ap}
use Rattle.well_founded.specs.EmptyObjects.{answer_at}
use Rattle.well_founded.proofs.Judged.{zero-told, zero-computed}
use Rattle.well_founded.proofs.examination.Founded.has_zero.Goals as goal

pub returns : goal.returns
returns c =
    let told : c.is_marked.result ≡ answer_at c.self.inside.zero.items c.args.e.0 = c.is_marked.ensures ∙ ap (λ xs. answer_at xs c.args.e.0) c.deref.ensures.value in
    rw (← c.self.view_is) (record {
      exact = zero-told _ _ _ _ c.known.ensures.sound c.self.invariant.zeros told;
      computed = zero-computed _ _ _ _ c.known.ensures.sound c.self.invariant.zeros told;
    })
