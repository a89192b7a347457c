-- Nodes whose kept bounds were compared, one after the other.
use Rattle.std.proofs.Common.{◌≡◌, ℕ, ◌<◌, ◌≤◌, ◌⊎◌, inl, inr, List, Bool, length, get_or, vec_len, arith, refl, sym, ◌∙◌, ap, subst}
use Rattle.std.specs.Prelude.{slice_index_or}
use Rattle.std.proofs.lemmas.List.{get_or_read_under}
use Rattle.bz_model.specs.declared.cell.Bounds.{Bounds}
use Rattle.bz_model.specs.Spec.{Spec, node_at}
use Rattle.choice_draw.specs.declared.kept.KeptUnions.{KeptUnions}
use Rattle.choice_draw.specs.Decision.{union_parts}
use Rattle.choice_draw.specs.KeptChoices.{KeptBounds, AreBoundsOf}
use Rattle.choice_draw.specs.Marks.{IsMarked}
use Rattle.choice_draw.specs.Compared.{AreCompared, kept_for, none_kept}

-- The bounds at a node's place are those that are kept for it.
pub kept-there : (kept : KeptUnions) (node place : ℕ) (table : KeptBounds) → slice_index_or kept.places.items node 0 ≡ place → place < vec_len kept.tables → table ≡ get_or kept.tables.items place table → table ≡ kept_for kept node
kept-there kept node place table is_place inside read =
    get_or_read_under kept.tables.items place (length kept.tables.items) table (record { first = none_kept; second = none_kept }) read (let len = kept.tables.ok.0 in omega (arith, inside, len)) refl
    ∙ ap (λ n. slice_index_or kept.tables.items n (record { first = none_kept; second = none_kept })) (sym is_place)

module _ (s : Spec) (table : (level node : ℕ) → Bounds) (highest : ℕ) (kept : KeptUnions) where
  -- Where no node is marked, none was compared.
  pub none-compared : (marks : List Bool) → ((node : ℕ) → ¬ IsMarked marks node) → AreCompared s table highest kept marks
  none-compared marks none = record {
    raised = λ node marked. absurd (none node marked);
    first = λ node marked. absurd (none node marked);
  }

  -- One more node is marked, whose kept bounds are the table's.
  pub more-compared : (old new : List Bool) (node : ℕ) → AreCompared s table highest kept old → ((other : ℕ) → IsMarked new other → (other ≡ node) ⊎ IsMarked old other) → 1 ≤ highest → AreBoundsOf (table 1) node (union_parts (node_at s node)) (kept_for kept node).first → AreCompared s table highest kept new
  more-compared old new node before marks raised here = record {
    raised = λ other marked. raised;
    first = λ other marked. elim (marks other marked) [
      | inl same ↦ subst (λ e. AreBoundsOf (table 1) e (union_parts (node_at s e)) (kept_for kept e).first) (sym same) here
      | inr was ↦ before.first other was
    ];
  }
