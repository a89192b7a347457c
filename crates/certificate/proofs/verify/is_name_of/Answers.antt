use Rattle.std.proofs.Common.{◌<◌, ◌≤◌, arith}
use Rattle.certificate.proofs.verify.is_name_of.Goals as goal

pub overflow_cast-class : goal.overflow_cast-class
overflow_cast-class c = omega (arith, c.known.ensures.limits.classes, c.requires.in_classes)
