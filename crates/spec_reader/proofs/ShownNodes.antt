-- What is shown of each node, from what is shown of all nodes.
use Rattle.std.proofs.Common.{◌≡◌, ℕ, zero, suc, ◌+◌, ◌<◌, List, [], ◌∷◌, ◌++◌, length, map, codes, Some, slice_get, refl, sym, ◌∙◌, ap, arith, append_assoc, append-nil, length-append}
use Rattle.std.proofs.lemmas.Option.{same_Some}
use Rattle.bz_model.specs.Spec.{Spec, Node, Range, node_at, range_at}
use Rattle.class_system.specs.NodeOrder.{HasPart}
use Rattle.class_system.specs.NodeResults.{node_results, ranged_nodes}
use Rattle.class_system.specs.Sound.{IsSound}
use Rattle.class_system.specs.declared.canonical.Form.{Form}
use Rattle.class_system.specs.declared.canonical.Form.TheVariants as form
use Rattle.class_system.specs.CanonicalText.{Shown, single, part_text, separated, shown_at, counted_text, node_shown, all_shown}
use Rattle.class_system.proofs.Results.{zip-at}
use Rattle.class_system.proofs.Soundness.{part_below}

-- results stand behind those before
record Behind {V : Type 0} (before all : List V) : Type 0 where
  others : List V
  is : all ≡ before ++ others

results_behind : {V : Type 0} (result : List V → Node → Range → V) (before : List V) (nodes : List (Node × Range)) → Behind before (node_results result before nodes)
results_behind result before [] = record { others = []; is = sym (append-nil before) }
results_behind result before (node ∷ nodes) =
    let v = result before node.0 node.1 in
    let b = results_behind result (before ++ v ∷ []) nodes in
    record { others = v ∷ b.others; is = b.is ∙ append_assoc before (v ∷ []) b.others }

-- the result for one node, from those before it
record ResultAt {V : Type 0} (result : List V → Node → Range → V) (all : List V) (place : ℕ) (n : Node) (r : Range) : Type 0 where
  front : List V
  others : List V
  is : all ≡ front ++ result front n r ∷ others
  long : length front ≡ place

result_at : {V : Type 0} (result : List V → Node → Range → V) (before : List V) (nodes : List (Node × Range)) (place i : ℕ) (n : Node) (r : Range) → slice_get nodes i ≡ Some (n, r) → length before + i ≡ place → ResultAt result (node_results result before nodes) place n r
result_at result before [] place i n r at long = absurd (cc)
result_at result before (node ∷ nodes) place zero n r at long =
    let v = result before node.0 node.1 in
    let b = results_behind result (before ++ v ∷ []) nodes in
    record {
      front = before;
      others = b.others;
      is = b.is ∙ append_assoc before (v ∷ []) b.others ∙ ap (λ (p : Node × Range). before ++ result before p.0 p.1 ∷ b.others) (same_Some node (n, r) at);
      long = omega arith;
    }
result_at result before (node ∷ nodes) place (suc i) n r at long =
    let v = result before node.0 node.1 in
    result_at result (before ++ v ∷ []) nodes place i n r at (omega (arith, length-append before (v ∷ [])))

front_same : (front others : List Shown) (part : ℕ) → part < length front → shown_at front part ≡ shown_at (front ++ others) part
front_same [] others part within = absurd (omega arith)
front_same (v ∷ front) others zero within = refl
front_same (v ∷ front) others (suc part) within = let lt : part < length front = omega arith in front_same front others part lt

here_same : (front others : List Shown) (v : Shown) → shown_at (front ++ v ∷ others) (length front) ≡ v
here_same [] others v = refl
here_same (u ∷ front) others v = here_same front others v

parts_same : (kind : Form) (front others : List Shown) (parts : List ℕ) → ((i part : ℕ) → slice_get parts i ≡ Some part → part < length front) → map (λ part. part_text kind (shown_at front part)) parts ≡ map (λ part. part_text kind (shown_at (front ++ others) part)) parts
parts_same kind front others [] within = refl
parts_same kind front others (p ∷ parts) within =
    ap (λ v. part_text kind v ∷ map (λ part. part_text kind (shown_at front part)) parts) (front_same front others p (within 0 p refl)) ∙ ap (λ ts. part_text kind (shown_at (front ++ others) p) ∷ ts) (parts_same kind front others parts (λ i. within (suc i)))

-- what is shown of a node whose parts stand in front
node_same : (names : List (List ℕ)) (front others : List Shown) (n : Node) (r : Range) → ((part : ℕ) → HasPart n part → part < length front) → node_shown names front n r ≡ node_shown names (front ++ others) n r
node_same names front others (Node.Empty word) r within = refl
node_same names front others (Node.Atom word) r within = refl
node_same names front others (Node.Class c) r within = refl
node_same names front others (Node.Union parts) r within =
    ap (λ ts. record { form = form.Summed; text = separated (codes " + ") ts }) (parts_same form.Summed front others parts (λ i part at. within part (record { place = i; is_there = at })))
node_same names front others (Node.Product parts) r within =
    ap (λ ts. record { form = form.Multiplied; text = separated (codes "*") ts }) (parts_same form.Multiplied front others parts (λ i part at. within part (record { place = i; is_there = at })))
node_same names front others (Node.Seq part) r within =
    ap (λ v. single (counted_text (codes "Seq") 0 r v)) (front_same front others part (within part (record { place = 0; is_there = refl })))
node_same names front others (Node.Set part) r within =
    ap (λ v. single (counted_text (codes "Set") 0 r v)) (front_same front others part (within part (record { place = 0; is_there = refl })))
node_same names front others (Node.Cyc part) r within =
    ap (λ v. single (counted_text (codes "Cyc") 1 r v)) (front_same front others part (within part (record { place = 0; is_there = refl })))

-- what is shown of each node follows from what is shown of its parts
pub record Shows (s : Spec) (shown : List Shown) : Type 0 where
  pub at : (e : ℕ) (n : Node) (r : Range) → node_at s e ≡ Some n → range_at s e ≡ Some r → shown_at shown e ≡ node_shown s.names shown n r

-- In a sound specification, what is shown of each node is what its case makes of what is shown of
-- all nodes.
pub all_shows : (s : Spec) → IsSound s → Shows s (all_shown s)
all_shows s sound = record {
  at = λ e n r at_n at_r.
      let x = result_at (node_shown s.names) [] (ranged_nodes s) e e n r (zip-at s.nodes s.ranges e n r at_n at_r) (omega arith) in
      let v = node_shown s.names x.front n r in
      let long = x.long in
      ap (λ q. shown_at q e) x.is ∙ ap (λ k. shown_at (x.front ++ v ∷ x.others) k) (sym long) ∙ here_same x.front x.others v ∙ node_same s.names x.front (v ∷ x.others) n r (λ part has. omega (arith, part_below s sound e part n at_n has, long)) ∙ ap (λ q. node_shown s.names q n r) (sym x.is);
}
