use Rattle.std.proofs.Common.{sym, ◌∙◌, ap, length}
use Rattle.spec_reader.proofs.ClassNumbers.{missing_number, found_number}
use Rattle.spec_reader.proofs.parser.Reader.class_number.Goals as goal

pub returns-in-Some : goal.returns-in-Some
returns-in-Some c = record { exact = sym (found_number c.args.self.now.sums.draft.names c.args.name.now c.in-Some.class.0 c.known.ensures.distinct c.in-Some.ensures.found) }

pub returns-in-None : goal.returns-in-None
returns-in-None c = record { exact = c.len.ensures.len ∙ ap length c.names.ensures.names ∙ sym (missing_number c.args.self.now.sums.draft.names c.args.name.now c.in-None.ensures.missing) }
