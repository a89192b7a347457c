use Rattle.std.proofs.Common.{◌≤◌, take, get_or, arith, ap, ◌∙◌}
use Rattle.std.proofs.lemmas.List.{take_more}
use Rattle.object_store.specs.Tokens.{size_of, token_size}
use Rattle.object_store.specs.declared.token.Token.{Token}
use Rattle.object_store.specs.declared.token.Token.TheVariants as token
use Rattle.object_store.proofs.Sizes.{size_of-push}
use Rattle.pointing.proofs.unmarking.dots_of.Goals as goal

at-most : (t : Token) → token_size t ≤ 1
at-most token.Unit = omega arith
at-most token.Dot = omega arith
at-most (token.Pick i) = omega arith
at-most (token.Count k) = omega arith

pub loop-token-preserved : goal.loop-token-preserved
loop-token-preserved c =
    let ts = c.args.tokens.now in
    let i = c.loop-token.token-index in
    let t = get_or ts i (token.Pick 0) in
    let more = ap size_of (take_more ts i (token.Pick 0) c.loop-token-test.true) ∙ size_of-push (take i ts) t in
    let one = at-most t in
    let so_far = c.loop-token.invariant.counted in
    let few = c.loop-token.invariant.few in
    let atoms = c.atoms-dots.ensures in
    record { counted = omega arith; few = omega arith }
