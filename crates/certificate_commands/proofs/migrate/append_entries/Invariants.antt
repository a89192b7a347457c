-- The first entries' lines are written.
use Rattle.std.proofs.Common.{◌≡◌, ◌++◌, take}
use Rattle.std.specs.Prelude.{flat_map}
use Rattle.certificate_commands.specs.MigrateCommand.{entry_text}
use Rattle.certificate_commands.proofs.migrate.append_entries.Given as goal

abbrev pub invariant-loop-entry : goal.invariant-loop-entry
invariant-loop-entry l = l.text.items ≡ l.fn.text.items ++ flat_map entry_text (take l.entry-index l.entries)
