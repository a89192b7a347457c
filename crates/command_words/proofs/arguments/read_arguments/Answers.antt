use Rattle.std.proofs.Common.{subst}
use Rattle.command_words.specs.Views.{given_of}
use Rattle.command_words.proofs.Scanned.{IsScanned, scanned_more, scanned_nothing, handed_on}
use Rattle.command_words.proofs.arguments.read_arguments.Goals as goal

pub returns-in_err-rest-clause-err : goal.returns-in_err-rest-clause-err
returns-in_err-rest-clause-err c =
    handed_on c.from_residual.result c.in_err-rest.field-0.0 c.from_residual.ensures.1 c.in_err-rest.ensures.err
    (scanned_nothing c.args.name c.args.words.now (given_of c.arguments.given) c.in-Some.word.now c.in-Some.others.now (subst (IsScanned c.args.name c.args.words.now (given_of c.arguments.given)) c.in-Some.ensures.cases.0 c.arguments.invariant))

pub arguments-preserved : goal.arguments-preserved
arguments-preserved c =
    scanned_more c.args.name c.args.words.now (given_of c.arguments.given) (given_of c.read_argument.new.given) _ c.in_ok-rest.rest.now
    (subst (IsScanned c.args.name c.args.words.now (given_of c.arguments.given)) c.in-Some.ensures.cases.0 c.arguments.invariant)
    c.in_ok-rest.ensures.ok
