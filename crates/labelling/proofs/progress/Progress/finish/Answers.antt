-- The label left is the last one given.
use Rattle.std.proofs.Common.{◌≡◌, [], ◌∷◌, ◌++◌, ◌≤◌, append-nil, length, refl, sym, ap, subst}
use Rattle.labelling.specs.Progress.{ProgressState}
use Rattle.labelling.proofs.RemainingLabels.{one-left, none-left}
use Rattle.labelling.proofs.progress.Progress.finish.Goals as goal
use Rattle.labelling.proofs.progress.Progress.finish.Goals.{then-not-is_empty, else-not-is_empty}

pub returns-clause-labels : goal.returns-clause-labels
returns-clause-labels c =
    let given = ap (λ (st : ProgressState). st.given) c.self.view_is in
    let left = ap (λ (st : ProgressState). st.remaining) c.self.view_is in
    let all = c.of.ensures.same in
    elim c.if-not-is_empty.branch [
      | then-not-is_empty w ↦
          let one = one-left c.self.inside.remaining (subst (λ xs. length xs ≤ 1) (sym left) c.requires.last) (λ zero. let told = w.if-not-is_empty.ensures.1 zero in absurd (cc)) in
          let is = w.given-is in
          let put = w.put_label.ensures.label in
          let label = w.take-label.ensures.label in
          cc
      | else-not-is_empty w ↦
          let none = none-left c.self.inside.remaining (w.if-not-is_empty.ensures.0 refl) in
          let is = w.given-is in
          let end = append-nil c.args.self.given in
          cc
    ]
