-- Results for nodes that stand in blocks of six.
use Rattle.std.proofs.Common.{◌≡◌, ℕ, zero, suc, ◌<◌, List, [], ◌∷◌, ◌++◌, map, refl, sym, ◌∙◌, ap, arith, append_assoc, append-nil}
use Rattle.std.specs.Prelude.{flat_map, zip}
use Rattle.std.specs.List.{range_with_len}
use Rattle.std.proofs.lemmas.List.{map-append}
use Rattle.bz_model.specs.Spec.{Node, Range, plain_range}
use Rattle.class_system.specs.NodeResults.{node_results}
use Rattle.class_system.proofs.Results.{node_results-append}
use Rattle.bulk_command.proofs.Blocks.{blocks-more}

-- a node with its plain range
abbrev pub with_range : Node → Node × Range
with_range n = (n, plain_range n)

-- Nodes zipped with their plain ranges are the nodes each paired with its plain range.
pub zip-plain : (nodes : List Node) → zip nodes (map plain_range nodes) ≡ map with_range nodes
zip-plain [] = refl
zip-plain (n ∷ nodes) = ap (λ z. (n, plain_range n) ∷ z) (zip-plain nodes)

-- the result of one node more
one-on : {V : Type 0} (result : List V → Node → Range → V) (before made : List V) (n : Node) (rest : List (Node × Range)) (v : V) → result (before ++ made) n (plain_range n) ≡ v → node_results result (before ++ made) (with_range n ∷ rest) ≡ node_results result (before ++ (made ++ v ∷ [])) rest
one-on result before made n rest v is = ap (λ z. node_results result z rest) (ap (λ w. (before ++ made) ++ w ∷ []) is ∙ append_assoc before made (v ∷ []))

-- the results of six nodes
pub six-on : {V : Type 0} (result : List V → Node → Range → V) (before : List V) (n0 n1 n2 n3 n4 n5 : Node) (v0 v1 v2 v3 v4 v5 : V) → result (before ++ []) n0 (plain_range n0) ≡ v0 → result (before ++ v0 ∷ []) n1 (plain_range n1) ≡ v1 → result (before ++ v0 ∷ v1 ∷ []) n2 (plain_range n2) ≡ v2 → result (before ++ v0 ∷ v1 ∷ v2 ∷ []) n3 (plain_range n3) ≡ v3 → result (before ++ v0 ∷ v1 ∷ v2 ∷ v3 ∷ []) n4 (plain_range n4) ≡ v4 → result (before ++ v0 ∷ v1 ∷ v2 ∷ v3 ∷ v4 ∷ []) n5 (plain_range n5) ≡ v5 → node_results result before (map with_range (n0 ∷ n1 ∷ n2 ∷ n3 ∷ n4 ∷ n5 ∷ [])) ≡ before ++ v0 ∷ v1 ∷ v2 ∷ v3 ∷ v4 ∷ v5 ∷ []
six-on result before n0 n1 n2 n3 n4 n5 v0 v1 v2 v3 v4 v5 e0 e1 e2 e3 e4 e5 =
    ap (λ z. node_results result z (map with_range (n0 ∷ n1 ∷ n2 ∷ n3 ∷ n4 ∷ n5 ∷ []))) (sym (append-nil before))
    ∙ one-on result before [] n0 (map with_range (n1 ∷ n2 ∷ n3 ∷ n4 ∷ n5 ∷ [])) v0 e0
    ∙ one-on result before (v0 ∷ []) n1 (map with_range (n2 ∷ n3 ∷ n4 ∷ n5 ∷ [])) v1 e1
    ∙ one-on result before (v0 ∷ v1 ∷ []) n2 (map with_range (n3 ∷ n4 ∷ n5 ∷ [])) v2 e2
    ∙ one-on result before (v0 ∷ v1 ∷ v2 ∷ []) n3 (map with_range (n4 ∷ n5 ∷ [])) v3 e3
    ∙ one-on result before (v0 ∷ v1 ∷ v2 ∷ v3 ∷ []) n4 (map with_range (n5 ∷ [])) v4 e4
    ∙ one-on result before (v0 ∷ v1 ∷ v2 ∷ v3 ∷ v4 ∷ []) n5 [] v5 e5

-- the results of blocks of nodes, where each block adds its own
pub blocks-on : {V : Type 0} (result : List V → Node → Range → V) (nodes : ℕ → List Node) (values : ℕ → List V) (n : ℕ) → ((i : ℕ) → i < n → node_results result (flat_map values (range_with_len 0 i)) (map with_range (nodes i)) ≡ flat_map values (range_with_len 0 i) ++ values i) → node_results result [] (map with_range (flat_map nodes (range_with_len 0 n))) ≡ flat_map values (range_with_len 0 n)
blocks-on result nodes values zero each = refl
blocks-on result nodes values (suc n) each =
    ap (λ z. node_results result [] (map with_range z)) (blocks-more nodes n)
    ∙ ap (node_results result []) (map-append with_range (flat_map nodes (range_with_len 0 n)) (nodes n))
    ∙ node_results-append result [] (map with_range (flat_map nodes (range_with_len 0 n))) (map with_range (nodes n))
    ∙ ap (λ z. node_results result z (map with_range (nodes n))) (blocks-on result nodes values n (λ i h. each i (omega (arith, h))))
    ∙ each n (omega arith)
    ∙ sym (blocks-more values n)
