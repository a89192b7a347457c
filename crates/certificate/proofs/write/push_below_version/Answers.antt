-- The lines above the window, the window, and the base.
use Rattle.certificate.proofs.Writing.{below-joined}
use Rattle.certificate.proofs.write.push_below_version.Goals as goal

pub returns : goal.returns
returns c = below-joined c.args.h.now c.args.text.now.items c.push_above_window.new.text.items c.push_line.new.text.items c.push_base.new.text.items c.in_ok-push_above_window.ensures c.in_ok-push_line.ensures c.in_ok-push_base.ensures
