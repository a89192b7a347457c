use Rattle.command_words.specs.Views.{given_of}
use Rattle.command_words.proofs.Made.{tape-file, tape-seed}
use Rattle.command_words.proofs.read.tape_of.Goals as goal

pub returns-in_ok-from_bytes-in-Some : goal.returns-in_ok-from_bytes-in-Some
returns-in_ok-from_bytes-in-Some c = tape-file (given_of c.args.given.now) c.in_ok-from_bytes-in-Some.field-0 c.in-Some.tape.now c.in-Some.ensures c.in_ok-from_bytes-in-Some.ensures

pub returns-in-None : goal.returns-in-None
returns-in-None c = tape-seed (given_of c.args.given.now) c.args.seed c.in-None.ensures c.requires.either c.requires.set
