-- Behind the number sign no label begins.
use Rattle.std.proofs.lemmas.Result.{MatchResult-weaker}
use Rattle.object_text.specs.Scanning.{HasNoLabel}
use Rattle.object_text.proofs.Stops.{stops-weaker}
use Rattle.object_text.proofs.scan.read_label.Goals as goal

pub returns-clause-stop : goal.returns-clause-stop
returns-clause-stop c = MatchResult-weaker c.read_number.result c.read_number.ensures.stop (λ x h. h) (λ s h. stops-weaker _ (HasNoLabel c.args.text.now) (λ left k. HasNoLabel.no_digits c.in_ok-digits.digits.now c.in_ok-digits.ensures.ok k.0 k.1) s h)
