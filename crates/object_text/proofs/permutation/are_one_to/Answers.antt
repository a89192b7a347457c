-- Label after label is marked.
use Rattle.std.proofs.Common.{◌≡◌, false, length, replicate, refl, subst, sym}
use Rattle.object_text.specs.Marks.{AreFree}
use Rattle.object_text.proofs.Marks.{one_to-free, marking-start, marking-on, marking-ends, marking-over}
use Rattle.object_text.proofs.permutation.are_one_to.Goals as goal

pub loop-label-init : goal.loop-label-init
loop-label-init c = marking-start c.in_ok-seen.seen.items c.args.labels.now

pub returns-then-not-mark : goal.returns-then-not-mark
returns-then-not-mark c =
    let none : c.in_ok-seen.seen.items ≡ replicate (length c.args.labels.now) false = c.in_ok-seen.ensures.items_if_clones_equal (λ y h. h) in
    (λ e. absurd (cc), λ h. absurd (marking-ends c.in_ok-seen.seen.items c.args.labels.now c.loop-label.label-index c.loop-label.seen.items c.loop-label-test.true c.loop-label.invariant c.if-not-mark.ensures (subst (λ s. AreFree s c.args.labels.now) (sym none) ((one_to-free c.args.labels.now).1 h))))

pub loop-label-preserved : goal.loop-label-preserved
loop-label-preserved c = marking-on c.in_ok-seen.seen.items c.args.labels.now c.loop-label.label-index c.loop-label.seen.items c.loop-label-test.true c.loop-label.invariant c.mark.new.seen.items c.if-not-mark.ensures

pub returns : goal.returns
returns c =
    let none : c.in_ok-seen.seen.items ≡ replicate (length c.args.labels.now) false = c.in_ok-seen.ensures.items_if_clones_equal (λ y h. h) in
    (λ e. (one_to-free c.args.labels.now).0 (subst (λ s. AreFree s c.args.labels.now) none (marking-over c.in_ok-seen.seen.items c.args.labels.now c.loop-label.label-index c.loop-label.seen.items c.loop-label-test.false c.loop-label.invariant)), λ h. refl)
