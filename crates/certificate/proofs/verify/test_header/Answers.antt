use Rattle.std.proofs.Common.{◌≡◌, sym, ◌∙◌}
use Rattle.certificate.proofs.HeaderTests.{mode-fails, digest-fails, header-rest}
use Rattle.certificate.proofs.verify.test_header.Goals as goal

pub returns-then-not-are_same : goal.returns-then-not-are_same
returns-then-not-are_same g c = mode-fails c.args.system.now g.row.F c.args.header.now (λ e. c.are_same.ensures.other c.if-not-are_same.true (e ∙ sym c.mode.ensures.mode))

pub returns-then-not-has_digest : goal.returns-then-not-has_digest
returns-then-not-has_digest g c = digest-fails c.args.system.now g.row.F c.args.header.now (c.are_same.ensures.same c.if-not-are_same.false ∙ c.mode.ensures.mode) (c.in_ok-has_digest.ensures.other c.if-not-has_digest.true)

pub returns : goal.returns
returns g c = header-rest c.args.system.now g.row.F c.args.header.now c.test_limits.result (c.are_same.ensures.same c.if-not-are_same.false ∙ c.mode.ensures.mode) (c.in_ok-has_digest.ensures.same c.if-not-has_digest.false) c.test_limits.ensures
