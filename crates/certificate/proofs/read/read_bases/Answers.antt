-- One line of the base more.
use Rattle.certificate.proofs.Parts.{bases-first, bases-more}
use Rattle.certificate.proofs.read.read_bases.Goals as goal

pub bases-init : goal.bases-init
bases-init c = rw (c.new-names.ensures.empty, c.new-base.ensures.empty) (bases-first c.args.text.now)

pub bases-preserved : goal.bases-preserved
bases-preserved c =
    let f = rw c.in-Some.is at c.in_ok-name.ensures.found in
    rw (c.in_ok-push.ensures.ok, c.in_ok-push-2.ensures.ok) (bases-more c.args.text.now c.bases.names c.bases.base c.bases.rest.now c.in-Some.name c.in-Some.value c.in-Some.after.now c.bases.invariant f.1)
