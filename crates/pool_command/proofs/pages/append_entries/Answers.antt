use Rattle.std.proofs.Common.{[], map, append-nil, refl, sym, subst, arith}
use Rattle.std.proofs.lemmas.List.{take_all}
use Rattle.size_window.specs.Turn.{entry_of}
use Rattle.sample_command.specs.Drawn.{Lists}
use Rattle.sample_command.specs.Drawn as drawn
use Rattle.pool_command.proofs.Appending.{entry-appended}
use Rattle.pool_command.proofs.pages.append_entries.Goals as goal

-- no line is appended yet
pub loop-entry-init : goal.loop-entry-init
loop-entry-init c = ([], drawn.none refl refl, sym (append-nil c.args.text.now.items))

-- those of one more entry are
pub loop-entry-preserved : goal.loop-entry-preserved
loop-entry-preserved c = entry-appended c.args.founded.now c.args.entries.now c.loop-entry.entry-index c.entry-item.result c.args.text.now.items c.loop-entry.text.items c.append_entry.new.page.items (omega arith) c.entry-item.is c.loop-entry.invariant c.in_ok-append_entry.ensures.ok

-- all are
pub returns : goal.returns
returns c =
    let p = c.loop-entry.invariant in
    (p.0, subst (λ es. Lists c.args.founded.now (map entry_of es) p.0) (take_all c.loop-entry.entry-index c.args.entries.now (omega arith)) p.1, p.2)
