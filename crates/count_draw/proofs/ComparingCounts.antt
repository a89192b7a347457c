-- Sequences, sets and cycles whose kept bounds were compared, one after the other.
use Rattle.std.proofs.Common.{◌≡◌, ℕ, ◌<◌, ◌≤◌, ◌⊎◌, inl, inr, List, Bool, length, map, get_or, vec_len, arith, refl, sym, ◌∙◌, ap, subst}
use Rattle.std.specs.Prelude.{slice_index_or}
use Rattle.std.proofs.lemmas.List.{get_or_read_under, length-map}
use Rattle.std.proofs.Math.ListN.{get_or-map}
use Rattle.bz_model.specs.declared.cell.Bounds.{Bounds}
use Rattle.bz_model.specs.Spec.{Spec}
use Rattle.choice_draw.specs.Marks.{IsMarked}
use Rattle.count_draw.specs.declared.cache.KeptTables.{KeptTables}
use Rattle.count_draw.specs.declared.cache.NodeTables.{NodeTables}
use Rattle.count_draw.specs.FirstCounts.{CountBounds, none_kept}
use Rattle.count_draw.specs.ComparedCounts.{AreCountsCompared, IsKeptCount, kept_for}

-- The bounds at a node's place are those that are kept for it.
pub kept-there : (kept : KeptTables) (node place : ℕ) (tables : NodeTables) → slice_index_or kept.places.items node 0 ≡ place → place < vec_len kept.tables → tables ≡ get_or kept.tables.items place tables → tables.firsts ≡ kept_for kept node
kept-there kept node place tables is_place inside read =
    let firsts = map (λ (t : NodeTables). t.firsts) kept.tables.items in
    let there : tables.firsts ≡ get_or firsts place tables.firsts = ap (λ (t : NodeTables). t.firsts) read ∙ sym (get_or-map (λ (t : NodeTables). t.firsts) kept.tables.items place tables) in
    get_or_read_under firsts place (length kept.tables.items) tables.firsts none_kept there (let len = kept.tables.ok.0 in omega (arith, inside, len)) (sym (length-map kept.tables.items (λ (t : NodeTables). t.firsts)))
    ∙ ap (λ n. slice_index_or firsts n none_kept) (sym is_place)

module _ (s : Spec) (f : ℕ) (table : (level node : ℕ) → Bounds) where
  -- Bounds that are those of a node for some bits are so for at most ten.
  pub for-few : (e b few : ℕ) (by : CountBounds) → few ≤ 10 → IsKeptCount s f table e b by → IsKeptCount s f table e few by
  for-few e b few by within k = record {
    kind = k.kind;
    part = k.part;
    range = k.range;
    node = k.node;
    has_range = k.has_range;
    bounds = record { bits = k.bounds.bits; kind = k.bounds.kind; range = k.bounds.range; first = k.bounds.first; second = λ more. let never : ⊥ = omega arith in absurd never };
  }

  module _ (highest : ℕ) (kept : KeptTables) where
    -- Where no node is marked, none was compared.
    pub none-compared : (marks : List Bool) → ((node : ℕ) → ¬ IsMarked marks node) → AreCountsCompared s f table highest kept marks
    none-compared marks none = record {
      raised = λ node marked. absurd (none node marked);
      counts = λ node marked. absurd (none node marked);
    }

    -- One more node is marked, whose kept bounds are the table's.
    pub more-compared : (old new : List Bool) (node : ℕ) → AreCountsCompared s f table highest kept old → ((other : ℕ) → IsMarked new other → (other ≡ node) ⊎ IsMarked old other) → 1 ≤ highest → IsKeptCount s f table node 10 (kept_for kept node) → AreCountsCompared s f table highest kept new
    more-compared old new node before marks raised here = record {
      raised = λ other marked. raised;
      counts = λ other marked. elim (marks other marked) [
        | inl same ↦ subst (λ e. IsKeptCount s f table e 10 (kept_for kept e)) (sym same) here
        | inr was ↦ before.counts other was
      ];
    }
