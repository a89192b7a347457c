-- A well-founded specification without labels and bounds can be ranked.
use Rattle.std.proofs.Common.{◌≡◌, ◌≢◌, ℕ, refl, Some}
use Rattle.bz_model.specs.Spec.{Spec, Mode, Node, node_at, range_at, plain_range}
use Rattle.bz_model.specs.Measures.{HasZero}
use Rattle.bz_model.specs.WellFounded.{IsWellFounded}
use Rattle.class_system.specs.Sound.{IsSound}
use Rattle.well_founded.proofs.Orderly.{orderly}
use Rattle.well_founded.proofs.Least.{belongs-empty}
use Rattle.well_founded.proofs.Refused.{zero_part-unfounded}
use Rattle.rank_tables.specs.TableRule.{IsRankableNode, IsRankable}
use Rattle.rank_tables.specs.Refusals.{HasPlainRanges}

-- The unlabelled mode isn't the labelled one.
pub two-modes : Mode.Unlabelled ≢ Mode.Labelled
two-modes e = absurd (cc)

-- A sound, well-founded, unlabelled specification with plain ranges alone can be ranked.
pub rankable : (s : Spec) → IsSound s → IsWellFounded s → s.mode ≡ Mode.Unlabelled → HasPlainRanges s → IsRankable s
rankable s sound founded mode plain = record { nodes = nodes; parts = parts }
  where
    labelled : (e : ℕ) → s.mode ≡ Mode.Labelled → ⊥
    labelled e is = let both : Mode.Unlabelled ≡ Mode.Labelled = cc in two-modes both

    nodes : (e : ℕ) (node : Node) → node_at s e ≡ Some node → IsRankableNode node (range_at s e)
    nodes e (Node.Empty word) at = tt
    nodes e (Node.Atom word) at = tt
    nodes e (Node.Class c) at = tt
    nodes e (Node.Union ps) at = tt
    nodes e (Node.Product ps) at = tt
    nodes e (Node.Seq part) at = plain.plain e (Node.Seq part) at
    nodes e (Node.Set part) at = labelled e (sound.modes.at e (Node.Set part) at)
    nodes e (Node.Cyc part) at = labelled e (sound.modes.at e (Node.Cyc part) at)

    parts : (e part : ℕ) → node_at s e ≡ Some (Node.Seq part) → ¬ (HasZero s part)
    parts e part at zero = zero_part-unfounded s (orderly s sound) e (record {
      part = part;
      range = plain_range (Node.Seq part);
      counts = record { node = Node.Seq part; is_node = at; of_part = refl; is_range = plain.plain e (Node.Seq part) at };
      endless = refl;
      zero = belongs-empty s part zero;
    }) founded
