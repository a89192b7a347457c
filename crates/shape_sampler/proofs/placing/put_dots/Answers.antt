-- One dot more.
use Rattle.std.proofs.Common.{◌∷◌, [], ◌++◌, replicate, append_assoc, arith, ◌∙◌, ap}
use Rattle.std.proofs.lemmas.List.{replicate-append-replicate}
use Rattle.object_store.specs.declared.token.Token.TheVariants as token
use Rattle.shape_sampler.proofs.placing.put_dots.Goals as goal

pub loop-i-preserved : goal.loop-i-preserved
loop-i-preserved c =
    let before = c.loop-i.invariant.spare in
    let one = c.in-Ok.ensures.spare in
    record {
      items = c.in-Ok.ensures.ok
          ∙ ap (λ ts. ts ++ token.Dot ∷ []) c.loop-i.invariant.items
          ∙ append_assoc c.args.shape.now.items (replicate c.loop-i._i token.Dot) (token.Dot ∷ [])
          ∙ ap (λ ds. c.args.shape.now.items ++ ds) (replicate-append-replicate c.loop-i._i 1 token.Dot);
      spare = omega arith;
    }
