-- An option's number, and its full stop.
use Rattle.std.proofs.Common.{◌-◌, ◌<◌, refl, length, subst, arith}
use Rattle.std.proofs.lemmas.Result.{err_from_is_err_and}
use Rattle.std.proofs.lemmas.Option.{slice_get-get_or}
use Rattle.object_text.specs.Scanning.{BeginsWithNumber}
use Rattle.object_text.specs.Pieces.{IsNoOption}
use Rattle.object_text.proofs.Stops.{stops-weaker}
use Rattle.object_text.proofs.reader.Reader.option.Goals as goal

pub returns-in_err-rest-clause-stop : goal.returns-in_err-rest-clause-stop
returns-in_err-rest-clause-stop c =
    let p = err_from_is_err_and c.from_residual-in_err-rest.result c.from_residual-in_err-rest.ensures.1 in
    rw (p.1, p.2) (stops-weaker _ (IsNoOption c.args.parts.now c.args.text.now) (λ left h. IsNoOption.no_stop c.in_ok-option.option c.in_ok-option.dot.now c.in_ok-option.ensures.ok h.0 h.1) c.in_err-rest.field-0.0 c.in_err-rest.ensures.stop)

pub returns-clause-ok : goal.returns-clause-ok
returns-clause-ok c =
    let some = c.requires.some in
    let number = c.in_ok-option.ensures.ok in
    let greatest = number.greatest in
    let within : c.in_ok-option.option < length c.args.parts.now = omega arith in
    record {
      option = c.in_ok-option.option;
      number = subst (λ t. BeginsWithNumber 0 (length c.args.parts.now - 1) c.args.text.now c.in_ok-option.option t) c.in_ok-rest.ensures.ok number;
      part = slice_get-get_or c.args.parts.now c.in_ok-option.option (record { 0 = 0 }) within;
      taken = c.in_ok-push_token.ensures;
      stack = refl;
    }
