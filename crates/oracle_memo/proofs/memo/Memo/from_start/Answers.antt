use Rattle.std.proofs.Common.{◌≡◌, ◌∙◌, List, ℕ, length, subst, sym, ap, arith}
use Rattle.std.proofs.lemmas.List.{length-map}
use Rattle.bz_model.specs.Spec.{Spec, Node}
use Rattle.class_system.specs.Views.{spec_node}
use Rattle.rounded_map.specs.RoundedMap.{setting}
use Rattle.kleene_lower.specs.Lower.{AreSweepsFrom}
use Rattle.oracle_memo.proofs.Raising.{level_up-start}
use Rattle.oracle_memo.proofs.RowByRow.{rows-none}
use Rattle.oracle_memo.proofs.memo.Memo.from_start.Goals as goal

pub invariant_of-result : goal.invariant_of-result
invariant_of-result g c =
    let t = setting c.args.founded.now c.args.x.num c.args.x.den g.row.F in
    let nodes : length c.nodes-nodes.result.now ≡ length c.args.founded.now.nodes =
    sym (length-map c.nodes-nodes.result.now spec_node) ∙ ap (λ (ns : List Node). length ns) c.nodes-nodes.ensures.nodes ∙ ap (λ (s : Spec). length s.nodes) c.system-system.ensures.system in
    record {
      bits = c.requires.fraction_bits;
      post_fixed = c.requires.belongs;
      few_levels = omega arith;
      few_nodes = let same : length c.system-system.result.now.nodes ≡ length c.args.founded.now.nodes = ap (λ (s : Spec). length s.nodes) c.system-system.ensures.system in omega (arith, c.known.ensures.limits.nodes);
      reached = c.requires.reached;
      lower_is = subst (λ (v : List ℕ). AreSweepsFrom t v c.in_ok-lower.lower) (c.in_ok-first.ensures.items_if_clones_equal (λ x y h. h) ∙ c.deref.ensures.value)
          (subst (λ (s : Spec). AreSweepsFrom (setting s c.args.x.num c.args.x.den g.row.F) c.in_ok-first.first.items c.in_ok-lower.lower) c.system-system.ensures.system (c.in_ok-lower.ensures.from c.args.x.num c.args.x.den));
      lower_done = c.in_ok-lower.ensures.none_done;
      upper_is = c.in_ok-upper.ensures.items_if_clones_equal (λ x y h. h) ∙ c.values.ensures.entries ∙ level_up-start t c.args.base;
      rows = rows-none t c.args.start.items c.args.base c.in_ok-table.table.items;
      room = omega (arith, c.in_ok-table.ensures.len, c.in_ok-table.table.ok.0);
      low_values = c.in_ok-low_values.ensures.len ∙ nodes;
      high_values = c.in_ok-high_values.ensures.len ∙ nodes;
    }
