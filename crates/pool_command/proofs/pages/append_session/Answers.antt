use Rattle.std.proofs.Common.{◌∙◌}
use Rattle.pool_command.proofs.Appending.{printable-at, session-appended}
use Rattle.pool_command.proofs.pages.append_session.Goals as goal

-- the entries can be printed
pub append_entries-requires-clause-are_of : goal.append_entries-requires-clause-are_of
append_entries-requires-clause-are_of c = (printable-at c.args.founded.now c.args.pool.now c.args.number c.result.result.entries.now c.requires.printable c.requires.number c.result.ensures.entries).0

pub append_entries-requires-clause-labels : goal.append_entries-requires-clause-labels
append_entries-requires-clause-labels c = (printable-at c.args.founded.now c.args.pool.now c.args.number c.result.result.entries.now c.requires.printable c.requires.number c.result.ensures.entries).1

-- its lines are appended
pub returns : goal.returns
returns c = session-appended c.args.founded.now c.args.pool.now c.args.number c.result.result.entries.now c.args.text.now.items c.extend_from_slice.new.self.items c.append_entries.new.text.items c.append_end.new.text.items c.as_bytes.result.now c.result.ensures.entries (c.as_bytes.ensures.value ∙ c.in_ok-first.ensures) c.in_ok-extend_from_slice.ensures.items c.in_ok-append_entries.ensures c.in_ok-append_end.ensures
