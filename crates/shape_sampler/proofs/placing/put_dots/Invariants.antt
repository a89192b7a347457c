-- So many dots were appended, and each took one of the spare places.
use Rattle.std.proofs.Common.{◌≡◌, ◌+◌, ◌≤◌, ◌++◌, replicate}
use Rattle.object_store.specs.declared.token.Token.TheVariants as token
use Rattle.shape_sampler.proofs.placing.put_dots.Given as goal

abbrev pub invariant-loop-i : goal.invariant-loop-i
invariant-loop-i l = record {
  items : l.shape.items ≡ l.initial.shape.items ++ replicate l._i token.Dot;
  spare : l.initial.shape.spare ≤ l.shape.spare + l._i;
}
