use Rattle.std.proofs.Common.{◌≡◌, ◌-◌, false, true, refl}
use Rattle.certificate.proofs.HeaderTests.{fraction-fails, window-fails, limits-pass}
use Rattle.certificate.proofs.Tests.{not-true, is-true}
use Rattle.certificate.proofs.verify.test_limits.Goals as goal

pub returns-then-not-has_fraction : goal.returns-then-not-has_fraction
returns-then-not-has_fraction g c = fraction-fails g.row.F c.args.header.now c.first_base_line-line.result (c.first_base_line-line.result - 2) c.first_base_line-line.ensures.line refl (not-true c.if-not-has_fraction.true c.has_fraction.ensures)

pub returns-then-not-has_window : goal.returns-then-not-has_window
returns-then-not-has_window g c = window-fails g.row.F c.args.header.now c.first_base_line-line.result (c.first_base_line-line.result - 1) c.first_base_line-line.ensures.line refl (is-true c.if-not-has_fraction.false c.has_fraction.ensures) (not-true c.if-not-has_window.true c.has_window.ensures)

pub returns : goal.returns
returns g c = limits-pass g.row.F c.args.header.now (is-true c.if-not-has_fraction.false c.has_fraction.ensures) (is-true c.if-not-has_window.false c.has_window.ensures)
