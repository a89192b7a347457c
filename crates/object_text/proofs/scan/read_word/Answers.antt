-- The word's byte isn't there.
use Rattle.std.proofs.lemmas.Result.{err_from_is_err_and}
use Rattle.object_text.specs.Scanning.{DiffersFrom}
use Rattle.object_text.proofs.Stops.{stops-weaker, differs-at}
use Rattle.object_text.proofs.scan.read_word.Goals as goal

pub returns-in_err-rest-clause-stop : goal.returns-in_err-rest-clause-stop
returns-in_err-rest-clause-stop c =
    let p = err_from_is_err_and c.from_residual.result c.from_residual.ensures.1 in
    rw (p.1, p.2) (stops-weaker _ (DiffersFrom c.args.word.now c.args.text.now) (λ left h. differs-at c.args.word.now c.args.text.now c.loop-byte.rest.now c.loop-byte.byte-index left c.loop-byte-test.true c.loop-byte.invariant h) c.in_err-rest.field-0.0 c.in_err-rest.ensures.stop)
