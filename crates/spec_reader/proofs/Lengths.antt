-- The canonical text of a sound specification within the limits is short.
use Rattle.std.proofs.Common.{◌≡◌, ℕ, suc, ◌+◌, ◌*◌, ◌≤◌, Bool, true, false, if◌then◌else◌, nat_eq, List, [], ◌∷◌, ◌++◌, length, map, get_or, codes, decimal, Some, slice_get, refl, sym, ◌∙◌, ap, subst, arith, length-append}
use Rattle.std.specs.Prelude.{unwrap_or, zip, flat_map}
use Rattle.std.proofs.lemmas.Bool.{cond-true, eq-eqb}
use Rattle.std.proofs.lemmas.Option.{slice_get-get_or}
use Rattle.bz_model.specs.Spec.{Spec, Mode, Node, Range, node_at, range_at}
use Rattle.class_system.specs.NodeOrder.{parts_of, Spans, SpanEach, tree, done, next}
use Rattle.class_system.specs.Sound.{IsSound, IsBound, IsTextRange}
use Rattle.class_system.specs.Limits.{IsWithinLimits}
use Rattle.class_system.specs.declared.canonical.Form.{Form}
use Rattle.class_system.specs.declared.canonical.Form.TheVariants as form
use Rattle.class_system.specs.CanonicalText.{Shown, bracketed, part_text, separated, shown_at, written_leaf, bound_text, counted_text, node_shown, all_shown, mode_word, class_line, canonical_text}
use Rattle.class_system.proofs.Soundness.{has_range}
use Rattle.spec_reader.proofs.Runs.{bound_spelt}
use Rattle.spec_reader.proofs.ShownNodes.{Shows, all_shows}

-- what parts cost in a text: their own texts, and five bytes each for a separator and parentheses
abbrev cost : List Shown → List ℕ → ℕ
cost shown [] = 0
cost shown (p ∷ ps) = length (shown_at shown p).text + 5 + cost shown ps

few_if : (b : Bool) (x y : List ℕ) (n : ℕ) → length x ≤ n → length y ≤ n → length (if b then x else y) ≤ n
few_if true x y n h k = h
few_if false x y n h k = k

leaf_few : (letter word : List ℕ) → length letter ≤ 1 → length word ≤ 32 → length (written_leaf letter word) ≤ 34
leaf_few letter [] h k = omega arith
leaf_few letter (b ∷ bs) h k = omega (arith, length-append (letter ++ codes ":") (b ∷ bs), length-append letter (codes ":"))

bracket_few : (text : List ℕ) → length (bracketed text) ≤ length text + 2
bracket_few text = omega (arith, length-append text (codes ")"))

part_few : (within f : Form) (text : List ℕ) → length (part_text within (record { form = f; text = text })) ≤ length text + 2
part_few within form.Single text = omega arith
part_few within form.Summed text = bracket_few text
part_few form.Single form.Multiplied text = omega arith
part_few form.Summed form.Multiplied text = omega arith
part_few form.Multiplied form.Multiplied text = bracket_few text

separated_few : (kind : Form) (by : List ℕ) (shown : List Shown) (parts : List ℕ) → length by ≤ 3 → length (separated by (map (λ part. part_text kind (shown_at shown part)) parts)) ≤ cost shown parts
separated_few kind by shown [] few = omega arith
separated_few kind by shown (p ∷ []) few =
    let part = part_few kind (shown_at shown p).form (shown_at shown p).text in
    omega arith
separated_few kind by shown (p ∷ q ∷ parts) few =
    let part = part_few kind (shown_at shown p).form (shown_at shown p).text in
    let others = separated_few kind by shown (q ∷ parts) few in
    let one = part_text kind (shown_at shown p) in
    let rest = separated by (map (λ part. part_text kind (shown_at shown part)) (q ∷ parts)) in
    omega (arith, length-append (one ++ by) rest, length-append one by)

sign_few : (sign : List ℕ) (k : ℕ) → length sign ≤ 2 → IsBound k → length (sign ++ decimal k) ≤ 4
sign_few sign k few b = omega (arith, length-append sign (decimal k), (bound_spelt k b).few)

bound_few : (plain : ℕ) (r : Range) → IsTextRange plain r → length (bound_text plain r.low r.high) ≤ 4
bound_few plain r (IsTextRange.plain same) =
    subst (λ (q : Range). length (bound_text plain q.low q.high) ≤ 4) (sym same)
    (subst (λ text. length text ≤ 4) (sym (cond-true (nat_eq plain plain) [] (codes ">=" ++ decimal plain) (eq-eqb plain plain refl))) (omega arith))
bound_few plain r (IsTextRange.at_least k b same) =
    subst (λ (q : Range). length (bound_text plain q.low q.high) ≤ 4) (sym same) (few_if (nat_eq k plain) [] (codes ">=" ++ decimal k) 4 (omega arith) (sign_few (codes ">=") k (omega arith) b))
bound_few plain r (IsTextRange.at_most k b same) =
    subst (λ (q : Range). length (bound_text plain q.low q.high) ≤ 4) (sym same) (few_if (nat_eq plain k) (codes "=" ++ decimal k) (codes "<=" ++ decimal k) 4 (sign_few (codes "=") k (omega arith) b) (sign_few (codes "<=") k (omega arith) b))
bound_few plain r (IsTextRange.exactly k b same) =
    subst (λ (q : Range). length (bound_text plain q.low q.high) ≤ 4) (sym same) (few_if (nat_eq k k) (codes "=" ++ decimal k) (codes "<=" ++ decimal k) 4 (sign_few (codes "=") k (omega arith) b) (sign_few (codes "<=") k (omega arith) b))

counted_few : (operator : List ℕ) (plain : ℕ) (r : Range) (part : Shown) → length operator ≤ 3 → IsTextRange plain r → length (counted_text operator plain r part) ≤ length part.text + 9
counted_few operator plain r part few range =
    let bound = bound_text plain r.low r.high in
    omega (arith, length-append (operator ++ bound) (bracketed part.text), length-append operator bound, bound_few plain r range, bracket_few part.text)

-- a node's own bytes are few
node_few : (s : Spec) → IsSound s → (shown : List Shown) (e : ℕ) (n : Node) (r : Range) → node_at s e ≡ Some n → range_at s e ≡ Some r → length (node_shown s.names shown n r).text ≤ cost shown (parts_of n) + 45
node_few s sound shown e (Node.Empty word) r at_n at_r = omega (arith, leaf_few (codes "E") word (omega arith) (sound.leaves.at e (Node.Empty word) at_n).few)
node_few s sound shown e (Node.Atom word) r at_n at_r = omega (arith, leaf_few (codes "Z") word (omega arith) (sound.leaves.at e (Node.Atom word) at_n).few)
node_few s sound shown e (Node.Class c) r at_n at_r =
    let name = get_or s.names c [] in
    let named : slice_get s.names c ≡ Some name = slice_get-get_or s.names c [] (sound.references.at e (Node.Class c) at_n) in
    subst (λ o. length (unwrap_or o []) ≤ 0 + 45) (sym named) (omega (arith, (sound.names.at c name named).few))
node_few s sound shown e (Node.Union parts) r at_n at_r = omega (arith, separated_few form.Summed (codes " + ") shown parts (omega arith))
node_few s sound shown e (Node.Product parts) r at_n at_r = omega (arith, separated_few form.Multiplied (codes "*") shown parts (omega arith))
node_few s sound shown e (Node.Seq part) r at_n at_r = omega (arith, counted_few (codes "Seq") 0 r (shown_at shown part) (omega arith) (sound.ranges.at e (Node.Seq part) r at_n at_r))
node_few s sound shown e (Node.Set part) r at_n at_r = omega (arith, counted_few (codes "Set") 0 r (shown_at shown part) (omega arith) (sound.ranges.at e (Node.Set part) r at_n at_r))
node_few s sound shown e (Node.Cyc part) r at_n at_r = omega (arith, counted_few (codes "Cyc") 1 r (shown_at shown part) (omega arith) (sound.ranges.at e (Node.Cyc part) r at_n at_r))

-- trees cost at most 50 bytes a node
mutual
  tree_few : (nodes : List Node) (s : Spec) → nodes ≡ s.nodes → IsSound s → (shown : List Shown) → Shows s shown → (first e : ℕ) → Spans nodes first e → length (shown_at shown e).text + 5 + 50 * first ≤ 50 * suc e
  tree_few nodes s same sound shown shows first e (tree n at each) =
      let at_n : node_at s e ≡ Some n = ap (λ ns. slice_get ns e) (sym same) ∙ at in
      let range = has_range s sound e n at_n in
      let parts = trees_few nodes s same sound shown shows first (parts_of n) e each in
      let own = node_few s sound shown e n range.0 at_n range.1 in
      let is_text = ap (λ (v : Shown). length v.text) (shows.at e n range.0 at_n range.1) in
      in_all (length (shown_at shown e).text) (length (node_shown s.names shown n range.0).text) (cost shown (parts_of n)) first e is_text own parts
    where
      in_all : (long other parts first e : ℕ) → long ≡ other → other ≤ parts + 45 → parts + 50 * first ≤ 50 * e → long + 5 + 50 * first ≤ 50 * suc e
      in_all long other parts first e same own few = omega arith

  trees_few : (nodes : List Node) (s : Spec) → nodes ≡ s.nodes → IsSound s → (shown : List Shown) → Shows s shown → (first : ℕ) (parts : List ℕ) (end : ℕ) → SpanEach nodes first parts end → cost shown parts + 50 * first ≤ 50 * end
  trees_few nodes s same sound shown shows first [] end (done met) = omega (arith, met)
  trees_few nodes s same sound shown shows first (part ∷ parts) end (next here rest) =
      both (length (shown_at shown part).text) (cost shown parts) first part end (tree_few nodes s same sound shown shows first part here) (trees_few nodes s same sound shown shows (suc part) parts end rest)
    where
      both : (long others first part end : ℕ) → long + 5 + 50 * first ≤ 50 * suc part → others + 50 * suc part ≤ 50 * end → long + 5 + others + 50 * first ≤ 50 * end
      both long others first part end h k = omega arith

-- a class's line has at most 36 bytes beside its body
lines_few : (shown : List Shown) (names : List (List ℕ)) (bodies : List ℕ) → ((i : ℕ) (w : List ℕ) → slice_get names i ≡ Some w → length w ≤ 32) → length (flat_map (class_line shown) (zip names bodies)) ≤ 36 * length names + cost shown bodies
lines_few shown [] bodies few = omega arith
lines_few shown (w ∷ ws) [] few = omega arith
lines_few shown (w ∷ ws) (b ∷ bs) few =
    let text = (shown_at shown b).text in
    let others = lines_few shown ws bs (λ i. few (suc i)) in
    let name = few 0 w refl in
    omega (arith, length-append (((w ++ codes " = ") ++ text) ++ 10 ∷ []) (flat_map (class_line shown) (zip ws bs)), length-append ((w ++ codes " = ") ++ text) (10 ∷ []), length-append (w ++ codes " = ") text, length-append w (codes " = "))

mode_few : (m : Mode) → length (mode_word m) ≤ 10
mode_few Mode.Unlabelled = omega arith
mode_few Mode.Labelled = omega arith

-- the canonical text has at most 65536 bytes
pub canonical_few : (s : Spec) → IsSound s → IsWithinLimits s → length (canonical_text s) ≤ 65536
canonical_few s sound w =
    let shown = all_shown s in
    let nodes = trees_few s.nodes s refl sound shown (all_shows s sound) 0 s.bodies (length s.nodes) sound.order in
    let lines = lines_few shown s.names s.bodies (λ i name at. (sound.names.at i name at).few) in
    let others = flat_map (class_line shown) (zip s.names s.bodies) in
    let classes = w.classes in
    let most = w.nodes in
    let few = mode_few s.mode in
    omega (arith, length-append (mode_word s.mode ++ 10 ∷ []) others, length-append (mode_word s.mode) (10 ∷ []))
