use Rattle.std.proofs.Common.{◌≡◌, ◌∙◌, ap, map, get_or, sym}
use Rattle.class_system.specs.Views.{number}
use Rattle.class_system.specs.CanonicalText.{part_text, shown_at}
use Rattle.class_system.proofs.Results.{mapped-at}
use Rattle.class_system.proofs.Texts.{joined-first, joined-next, shown-is}
use Rattle.class_system.proofs.canonical.joined.Goals as goal
use Rattle.class_system.proofs.canonical.joined.Goals.{then-i-gt0+in_ok-extend_from_slice, else-i-gt0}

pub bounds-before-part : goal.bounds-before-part
bounds-before-part c = c.requires.parts.at _ _ (mapped-at number c.args.parts.now c.loop-i.i (record { 0 = 0 }) c.loop-i-test.true)

pub loop-i-preserved : goal.loop-i-preserved
loop-i-preserved c =
    let at = mapped-at number c.args.parts.now c.loop-i.i (record { 0 = 0 }) c.loop-i-test.true in
    let seen : shown_at c.args.before.now (get_or c.args.parts.now c.loop-i.i (record { 0 = 0 })).0 ≡ c.index-before-part.result = shown-is _ _ _ (c.requires.parts.at _ _ at) c.index-before-part.is in
    let piece = ap (part_text c.args.form) (sym seen) in
    elim c.if-i-gt0.branch [
      | then-i-gt0+in_ok-extend_from_slice w ↦ joined-next c.args.separator.now (λ part. part_text c.args.form (shown_at c.args.before.now part)) (map number c.args.parts.now) c.loop-i.i _ c.loop-i.bytes.items c.if-i-gt0.bytes.items _ _ w.if-i-gt0.true at c.loop-i.invariant (ap (λ v. v.items) w.bytes-is ∙ w.in_ok-extend_from_slice.ensures.items) piece c.in_ok-push_part.ensures.part
      | else-i-gt0 w ↦ joined-first c.args.separator.now (λ part. part_text c.args.form (shown_at c.args.before.now part)) (map number c.args.parts.now) c.loop-i.i _ c.loop-i.bytes.items c.if-i-gt0.bytes.items _ _ w.if-i-gt0.false at c.loop-i.invariant (ap (λ v. v.items) w.bytes-is) piece c.in_ok-push_part.ensures.part
    ]
