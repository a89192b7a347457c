-- A pass node by node.
use Rattle.std.proofs.Common.{◌≡◌, ◌≢◌, ℕ, suc, ◌<◌, ◌≤◌, ◌⊎◌, inl, inr, List, Option, Some, arith, refl, sym, ◌∙◌, ap, subst}
use Rattle.std.proofs.lemmas.Bool.{cases_lt}
use Rattle.bz_model.specs.Spec.{Spec, Node, node_at}
use Rattle.bz_laws.specs.Lists.{IsOneOf}
use Rattle.bz_laws.proofs.Lists.{all-members}
use Rattle.bz_laws.proofs.Samples.{AllByRecursion-weaker, AllByRecursion-both}
use Rattle.class_system.specs.Sound.{IsSound}
use Rattle.rank_tables.specs.Capped.{Tells}
use Rattle.rank_tables.specs.Filling.{count_of_class, HasTails, ChangesSize}
use Rattle.rank_tables.specs.Grids.{Cells, cell, number_of, number_at, AreSuffixes}
use Rattle.rank_tables.specs.TableRule.{rule}
use Rattle.rank_tables.specs.Visits.{product_parts}
use Rattle.rank_tables.proofs.Apart.{other-product, parts-below}
use Rattle.rank_tables.proofs.LaidOut.{laid_out}
use Rattle.rank_tables.proofs.Same.{rule-same, suffixes-same, all-of}

-- The nodes below e have their numbers of the pass at size n.
pub record PassedTo (s : Spec) (classes : List (Option ℕ)) (old_rows old_tails rows tails : Cells) (n e : ℕ) : Type 0 where
  pub in_rows : ChangesSize n old_rows rows
  pub in_tails : ChangesSize n old_tails tails
  pub numbers : (d : ℕ) (node : Node) → d < e → node_at s d ≡ Some node → Tells (cell rows d n) (rule (λ c m. count_of_class classes c) (number_at rows) d node n)
  pub rests : (d : ℕ) → d < e → AreSuffixes (number_at rows) tails (product_parts (node_at s d)) n

-- Before the first node nothing is changed.
pub unchanged : (n : ℕ) (g : Cells) → ChangesSize n g g
unchanged n g = record { nodes = refl; sizes = refl; others = λ e m lt ne. refl }

-- One change of a size after another.
pub changed-twice : (n : ℕ) (g h k : Cells) → ChangesSize n g h → ChangesSize n h k → ChangesSize n g k
changed-twice n g h k a b = record {
  nodes = b.nodes ∙ a.nodes;
  sizes = b.sizes ∙ a.sizes;
  others = λ e m lt ne. b.others e m (let q : h.sizes ≡ g.sizes = a.sizes in omega arith) ne ∙ a.others e m lt ne;
}

-- The tails of a lesser size stay.
pub lesser-kept : (s : Spec) (old_rows old_tails rows tails : Cells) (n m : ℕ) → ChangesSize n old_rows rows → ChangesSize n old_tails tails → n < old_rows.sizes → n < old_tails.sizes → m < n → HasTails s old_rows old_tails m → HasTails s rows tails m
lesser-kept s old_rows old_tails rows tails n m in_rows in_tails fits tail_fits lt h e =
    suffixes-same (number_at old_rows) (number_at rows) old_tails tails (product_parts (node_at s e)) m
    (all-of (λ p. record {
      rows = λ k le. ap number_of (sym (in_rows.others p k (omega arith) (λ same. let z : k ≡ n = same in omega arith)));
      tail = in_tails.others p m (omega arith) (λ same. let z : m ≡ n = same in omega arith);
    }) (product_parts (node_at s e)))
    (h e)

module _ (s : Spec) (sound : IsSound s) (classes : List (Option ℕ)) (old_rows old_tails rows tails new_rows new_tails : Cells) (n e : ℕ) (v : Option ℕ)
    (fits : n < old_rows.sizes) (tail_fits : n < old_tails.sizes)
    (from : PassedTo s classes old_rows old_tails rows tails n e)
    (number : (node : Node) → node_at s e ≡ Some node → Tells v (rule (λ c m. count_of_class classes c) (number_at rows) e node n))
    (rest : AreSuffixes (number_at rows) new_tails (product_parts (node_at s e)) n)
    (tail_nodes : new_tails.nodes ≡ tails.nodes) (tail_sizes : new_tails.sizes ≡ tails.sizes)
    (other_tails : (d m : ℕ) → m < tails.sizes → (¬ (IsOneOf (product_parts (node_at s e)) d)) ⊎ (m ≢ n) → cell new_tails d m ≡ cell tails d m)
    (nodes : new_rows.nodes ≡ rows.nodes) (sizes : new_rows.sizes ≡ rows.sizes) (here : cell new_rows e n ≡ v)
    (other_rows : (d m : ℕ) → m < rows.sizes → (d ≢ e) ⊎ (m ≢ n) → cell new_rows d m ≡ cell rows d m) where
  row_fits : n < rows.sizes
  row_fits = let q : rows.sizes ≡ old_rows.sizes = from.in_rows.sizes in omega arith

  rest_fits : n < tails.sizes
  rest_fits = let q : tails.sizes ≡ old_tails.sizes = from.in_tails.sizes in omega arith

  -- the numbers of the nodes below e stay, and those of lesser sizes
  kept-number : (d m : ℕ) → m ≤ n → (d ≢ e) ⊎ (m ≢ n) → number_at rows d m ≡ number_at new_rows d m
  kept-number d m le apart = let lt = row_fits in ap number_of (sym (other_rows d m (omega arith) apart))

  kept-rule : (d : ℕ) (node : Node) → d ≤ e → node_at s d ≡ Some node → rule (λ c m. count_of_class classes c) (number_at rows) d node n ≡ rule (λ c m. count_of_class classes c) (number_at new_rows) d node n
  kept-rule d node le at = rule-same (λ c m. count_of_class classes c) (λ c m. count_of_class classes c) (number_at rows) (number_at new_rows) d n node ((laid_out s sound).below d node at)
      (λ p m lt small. kept-number p m small (inl (λ same. let z : p ≡ e = same in omega arith)))
      (λ m lt. kept-number d m (omega arith) (inr (λ same. let z : m ≡ n = same in omega arith)))
      (λ c. refl)

  numbers_below : (d : ℕ) (node : Node) → d < suc e → node_at s d ≡ Some node → Tells (cell new_rows d n) (rule (λ c m. count_of_class classes c) (number_at new_rows) d node n)
  numbers_below d node lt at = elim (cases_lt d e) [
    | inl less ↦ (let k = row_fits in subst (Tells (cell new_rows d n)) (kept-rule d node (omega arith) at) (subst (λ w. Tells w (rule (λ c m. count_of_class classes c) (number_at rows) d node n)) (sym (other_rows d n k (inl (λ same. let z : d ≡ e = same in omega arith)))) (from.numbers d node less at)))
    | inr ge ↦ (let q : e ≡ d = omega arith in
        subst (λ z. (node : Node) → node_at s z ≡ Some node → Tells (cell new_rows z n) (rule (λ c m. count_of_class classes c) (number_at new_rows) z node n)) q
        (λ k is. subst (Tells (cell new_rows e n)) (kept-rule e k (omega arith) is) (subst (λ w. Tells w (rule (λ c m. count_of_class classes c) (number_at rows) e k n)) (sym here) (number k is)))
        node at)
  ]

  -- the parts of e have rows that stay
  own_tails : AreSuffixes (number_at new_rows) new_tails (product_parts (node_at s e)) n
  own_tails = suffixes-same (number_at rows) (number_at new_rows) new_tails new_tails (product_parts (node_at s e)) n
      (AllByRecursion-weaker (λ p small. record { rows = λ m le. kept-number p m le (inl (λ same. let z : p ≡ e = same in omega arith)); tail = refl }) (product_parts (node_at s e)) (parts-below s (laid_out s sound) e))
      rest

  other-tails : (d : ℕ) → d < e → AreSuffixes (number_at new_rows) new_tails (product_parts (node_at s d)) n
  other-tails d lt = suffixes-same (number_at rows) (number_at new_rows) tails new_tails (product_parts (node_at s d)) n
      (AllByRecursion-weaker (λ p k. record {
        rows = λ m le. kept-number p m le (inl (λ same. let z : p ≡ e = same in let small : p < d = k.0 in omega arith));
        tail = other_tails p n rest_fits (inl (other-product s sound d e p (λ same. let z : d ≡ e = same in omega arith) k.1));
      }) (product_parts (node_at s d))
      (AllByRecursion-both (λ p. p < d) (IsOneOf (product_parts (node_at s d))) (product_parts (node_at s d)) (parts-below s (laid_out s sound) d) (all-members (product_parts (node_at s d)))))
      (from.rests d lt)

  pub pass-more : PassedTo s classes old_rows old_tails new_rows new_tails n (suc e)
  pass-more = record {
    in_rows = record { nodes = nodes ∙ from.in_rows.nodes; sizes = sizes ∙ from.in_rows.sizes; others = λ d m lt ne. other_rows d m (let q : rows.sizes ≡ old_rows.sizes = from.in_rows.sizes in omega arith) (inr ne) ∙ from.in_rows.others d m lt ne };
    in_tails = record { nodes = tail_nodes ∙ from.in_tails.nodes; sizes = tail_sizes ∙ from.in_tails.sizes; others = λ d m lt ne. other_tails d m (let q : tails.sizes ≡ old_tails.sizes = from.in_tails.sizes in omega arith) (inr ne) ∙ from.in_tails.others d m lt ne };
    numbers = numbers_below;
    rests = λ d lt. elim (cases_lt d e) [ inl less ↦ other-tails d less | inr ge ↦ (let q : e ≡ d = omega arith in subst (λ z. AreSuffixes (number_at new_rows) new_tails (product_parts (node_at s z)) n) q own_tails) ];
  }
