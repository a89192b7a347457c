use Rattle.std.proofs.Common.{◌∙◌}
use Rattle.certificate.proofs.Distinct.{copied-next}
use Rattle.certificate.proofs.header.names_of.Goals as goal

-- one more name is there
pub loop-class-preserved : goal.loop-class-preserved
loop-class-preserved c = copied-next c.args.system.now.names c.loop-class.names c.push.new.self c.loop-class.class c.name-name.result.now c.in_ok-from_bytes.field-0 c.loop-class.invariant c.name-name.ensures.name (c.in_ok-from_bytes.ensures ∙ c.bytes.ensures) c.in_ok-push.ensures.ok
