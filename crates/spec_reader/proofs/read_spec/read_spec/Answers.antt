use Rattle.std.proofs.Common.{length, ap, sym, subst, ◌∙◌, arith}
use Rattle.spec_reader.specs.Building.{EndsText}
use Rattle.spec_reader.proofs.Lexical.{AreLexical, are_lexical, are_ended, are_few}
use Rattle.spec_reader.proofs.Sounds.{stands_sound}
use Rattle.spec_reader.proofs.read_spec.read_spec.Goals as goal

pub read_tokens-requires-clause-few : goal.read_tokens-requires-clause-few
read_tokens-requires-clause-few c = omega (arith, ap length (c.as_slice.ensures.value ∙ c.in-Ok.ensures.exact), are_few c.args.bytes.now)

pub read_tokens-requires-clause-ended : goal.read_tokens-requires-clause-ended
read_tokens-requires-clause-ended c = subst (λ ts. EndsText ts) (sym (c.as_slice.ensures.value ∙ c.in-Ok.ensures.exact)) (are_ended c.args.bytes.now)

pub build-requires : goal.build-requires
build-requires c = record { sound = stands_sound c.as_slice.result.now c.in-Ok-read_tokens.draft (subst (λ ts. AreLexical ts) (sym (c.as_slice.ensures.value ∙ c.in-Ok.ensures.exact)) (are_lexical c.args.bytes.now)) c.in-Ok-read_tokens.ensures.ok }
