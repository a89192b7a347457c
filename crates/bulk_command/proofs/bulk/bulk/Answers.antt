use Rattle.std.proofs.Common.{◌∙◌}
use Rattle.command_words.specs.Fractions.{fraction_bits}
use Rattle.bulk_command.proofs.RunEnds.{no-specification, goes-on, ends-refused}
use Rattle.bulk_command.proofs.bulk.bulk.Goals as goal

-- there is no memory for the specification
pub returns-in_default-clause-ends : goal.returns-in_default-clause-ends
returns-in_default-clause-ends g c = no-specification c.args.n (fraction_bits c.args.fraction) _ _ _ _

-- it is accepted
pub returns-in-Ok-judged-clause-ends : goal.returns-in-Ok-judged-clause-ends
returns-in-Ok-judged-clause-ends g c = goes-on c.args.n (fraction_bits c.args.fraction) c.as_slice.result.now c.in-Ok-judged.founded _ _ _ _ _ _ _ (c.as_slice.ensures.value ∙ c.in-Ok.ensures) c.in-Ok-judged.ensures.accepted c.in-Ok-judged.ensures.founded c.run_at.ensures.ends

-- it is refused
pub returns-clause-ends : goal.returns-clause-ends
returns-clause-ends g c = ends-refused c.args.n (fraction_bits c.args.fraction) c.as_slice.result.now _ _ _ _ _ _ _ _ (c.as_slice.ensures.value ∙ c.in-Ok.ensures) c.in-Err.ensures.err c.refused.ensures.ends
