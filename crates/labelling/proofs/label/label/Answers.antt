-- Out of memory no bit was given.
use Rattle.bit_tape.specs.Tape.{bits_of_source}
use Rattle.labelling.proofs.GivenLabels.{given-nothing}
use Rattle.labelling.proofs.label.label.Goals as goal

pub returns-in-Err-clause-labelled : goal.returns-in-Err-clause-labelled
returns-in-Err-clause-labelled g c = given-nothing (bits_of_source c.args.tape.now.source (g.S.Shelf.content c.args.shelf.now)) c.args.n c.args.tape.now.used
