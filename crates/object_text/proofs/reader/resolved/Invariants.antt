-- The way so far has the same texts, and is as long as the counter says.
use Rattle.std.proofs.Common.{◌<◌, ◌∷◌, [], length}
use Rattle.object_store.proofs.Descent.{Descent}
use Rattle.object_text.specs.Expected.{SameTexts}
use Rattle.object_text.proofs.reader.resolved.Given as goal

abbrev pub invariant-loop-c : goal.invariant-loop-c
invariant-loop-c l = record {
  below : l.e.0 < length l.system.nodes;
  same : SameTexts l.system l.initial.e.0 l.e.0;
  way : Descent l.system (l.initial.e.0 ∷ []) (l.e.0 ∷ []) l.left;
}

abbrev pub decreases-loop-c : goal.decreases-loop-c
decreases-loop-c l = l.left
