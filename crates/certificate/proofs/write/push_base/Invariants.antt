-- The lines of the first classes are written.
use Rattle.std.proofs.Common.{◌≡◌, ◌++◌, take}
use Rattle.certificate.specs.Lines.{text_of}
use Rattle.certificate.specs.Certificates.{base_lines}
use Rattle.certificate.proofs.write.push_base.Given as goal

abbrev pub invariant-loop-class : goal.invariant-loop-class
invariant-loop-class l = l.text.items ≡ l.fn.text.items ++ text_of (base_lines (take l.class l.h.names) (take l.class l.h.base))
