-- The trees of a specification's nodes read as terms, whose nodes they are.
use Rattle.std.proofs.Common.{◌≡◌, ℕ, zero, suc, ◌<◌, ◌≤◌, List, [], ◌∷◌, ◌++◌, length, map, take, get_or, codes, Some, None, slice_get, refl, sym, ◌∙◌, ap, subst, add-one, arith}
use Rattle.std.specs.Prelude.{unwrap_or}
use Rattle.std.proofs.lemmas.List.{length-take}
use Rattle.std.proofs.lemmas.Option.{same_Some, slice_get_within, slice_get-get_or}
use Rattle.bz_model.specs.Spec.{Spec, Mode, Node, Range, node_at, range_at}
use Rattle.class_system.specs.Distinct.{AreDistinct}
use Rattle.class_system.specs.NodeOrder.{parts_of, Spans, SpanEach, tree, done, next}
use Rattle.class_system.specs.Sound.{IsSound, IsTextRange}
use Rattle.class_system.specs.CanonicalText.{Shown, single, shown_at, counted_text}
use Rattle.class_system.proofs.Results.{take-at}
use Rattle.class_system.proofs.Soundness.{has_range}
use Rattle.spec_reader.specs.declared.tokens.Counting.{Counting}
use Rattle.spec_reader.specs.declared.tokens.Token.{Token}
use Rattle.spec_reader.specs.Grammar.{Term, listed_terms, least_count}
use Rattle.spec_reader.specs.Tables.{Row, uncounted, counting_node, with_term, with_terms, numbers, last_number}
use Rattle.spec_reader.proofs.ClassNumbers.{found_number}
use Rattle.spec_reader.proofs.NamesSeen.{among_found}
use Rattle.spec_reader.proofs.Terms.{Suits}
use Rattle.spec_reader.proofs.Pieces.{Lexes}
use Rattle.spec_reader.proofs.Readings.{Reads, ReadEach, no_parts, more_parts, union_reads, product_reads, empty_reads, atom_reads, class_reads, counted_reads, seq_lexes, set_lexes, cyc_lexes}
use Rattle.spec_reader.proofs.ShownNodes.{Shows}

-- nodes with their ranges
abbrev pub rows_of : List Node → List Range → List Row
rows_of [] rs = []
rows_of (n ∷ ns) [] = []
rows_of (n ∷ ns) (r ∷ rs) = record { node = n; range = r } ∷ rows_of ns rs

abbrev pub rows : Spec → List Row
rows s = rows_of s.nodes s.ranges

row_at : (ns : List Node) (rs : List Range) (e : ℕ) (n : Node) (r : Range) → slice_get ns e ≡ Some n → slice_get rs e ≡ Some r → slice_get (rows_of ns rs) e ≡ Some (record { node = n; range = r })
row_at [] rs e n r at_n at_r = absurd (cc)
row_at (m ∷ ns) [] e n r at_n at_r = absurd (cc)
row_at (m ∷ ns) (q ∷ rs) zero n r at_n at_r = ap Some (λ i. record { node = same_Some m n at_n i; range = same_Some q r at_r i })
row_at (m ∷ ns) (q ∷ rs) (suc e) n r at_n at_r = row_at ns rs e n r at_n at_r

-- Where there are as many ranges as nodes, there are as many rows of nodes with their ranges.
pub length-rows : (ns : List Node) (rs : List Range) → length rs ≡ length ns → length (rows_of ns rs) ≡ length ns
length-rows [] rs same = refl
length-rows (n ∷ ns) [] same = absurd (omega arith)
length-rows (n ∷ ns) (r ∷ rs) same = let rest : length rs ≡ length ns = omega arith in ap suc (length-rows ns rs rest)

-- Where there are as many ranges as nodes, the nodes of the rows are the given nodes.
pub row_nodes : (ns : List Node) (rs : List Range) → length rs ≡ length ns → map (λ (q : Row). q.node) (rows_of ns rs) ≡ ns
row_nodes [] rs same = refl
row_nodes (n ∷ ns) [] same = absurd (omega arith)
row_nodes (n ∷ ns) (r ∷ rs) same = let rest : length rs ≡ length ns = omega arith in ap (λ ms. n ∷ ms) (row_nodes ns rs rest)

-- Where there are as many ranges as nodes, the ranges of the rows are the given ranges.
pub row_ranges : (ns : List Node) (rs : List Range) → length rs ≡ length ns → map (λ (q : Row). q.range) (rows_of ns rs) ≡ rs
row_ranges [] [] same = refl
row_ranges [] (r ∷ rs) same = absurd (omega arith)
row_ranges (n ∷ ns) [] same = absurd (omega arith)
row_ranges (n ∷ ns) (r ∷ rs) same = let rest : length rs ≡ length ns = omega arith in ap (λ qs. r ∷ qs) (row_ranges ns rs rest)

-- one row more
row_more : (s : Spec) (e : ℕ) (n : Node) (r : Range) → node_at s e ≡ Some n → range_at s e ≡ Some r → take e (rows s) ++ record { node = n; range = r } ∷ [] ≡ take (suc e) (rows s)
row_more s e n r at_n at_r = sym (take-at (rows s) e (record { node = n; range = r }) (row_at s.nodes s.ranges e n r at_n at_r)) ∙ ap (λ k. take k (rows s)) (add-one e)

plain_more : (s : Spec) (e : ℕ) (n : Node) (r : Range) → node_at s e ≡ Some n → range_at s e ≡ Some r → r ≡ record { low = 0; high = None } → take e (rows s) ++ uncounted n ∷ [] ≡ take (suc e) (rows s)
plain_more s e n r at_n at_r same = ap (λ (q : Range). take e (rows s) ++ record { node = n; range = q } ∷ []) (sym same) ∙ row_more s e n r at_n at_r

last_of : (s : Spec) → IsSound s → (e : ℕ) → e < length s.nodes → last_number (take (suc e) (rows s)) ≡ e
last_of s sound e within =
    let long = length-rows s.nodes s.ranges sound.ranges.lengths in
    let taken : suc e ≤ length (rows s) = omega arith in
    omega (arith, length-take (suc e) (rows s))

-- the tree below a node reads as a term
pub record ReadTree (s : Spec) (shown : List Shown) (first e : ℕ) : Type 0 where
  pub term : Term
  pub within : e < length s.nodes
  pub reads : Reads s.mode s.names (shown_at shown e) term
  pub rows_are : with_term s.names (take first (rows s)) term ≡ take (suc e) (rows s)

-- trees in a row read as terms
pub record ReadTrees (s : Spec) (shown : List Shown) (first : ℕ) (parts : List ℕ) (end : ℕ) : Type 0 where
  pub list : List Term
  pub reads : ReadEach s.mode s.names shown parts list
  pub rows_are : with_terms s.names (take first (rows s)) (listed_terms list) ≡ take end (rows s)
  pub numbers_are : numbers s.names (take first (rows s)) (listed_terms list) ≡ parts

none_read : {m : Mode} {names : List (List ℕ)} {shown : List Shown} {ts : List Term} → ReadEach m names shown [] ts → ts ≡ []
none_read no_parts = refl

record OneRead (m : Mode) (names : List (List ℕ)) (shown : List Shown) (part : ℕ) (ts : List Term) : Type 0 where
  term : Term
  is : ts ≡ term ∷ []
  reads : Reads m names (shown_at shown part) term

one_read : {m : Mode} {names : List (List ℕ)} {shown : List Shown} {part : ℕ} {ts : List Term} → ReadEach m names shown (part ∷ []) ts → OneRead m names shown part ts
one_read (more_parts {t = t} h no_parts) = record { term = t; is = refl; reads = h }

-- a node without parts
leaf_tree : (s : Spec) (shown : List Shown) (first e : ℕ) (n : Node) (r : Range) (t : Term) → node_at s e ≡ Some n → range_at s e ≡ Some r → r ≡ record { low = 0; high = None } → ReadTrees s shown first [] e → ((qs : List Row) → with_term s.names qs t ≡ qs ++ uncounted n ∷ []) → Reads s.mode s.names (shown_at shown e) t → ReadTree s shown first e
leaf_tree s shown first e n r t at_n at_r plain kids one_row h =
    let before : take first (rows s) ≡ take e (rows s) = ap (λ ts. with_terms s.names (take first (rows s)) (listed_terms ts)) (sym (none_read kids.reads)) ∙ kids.rows_are in
    record {
      term = t;
      within = slice_get_within s.nodes e n at_n;
      reads = h;
      rows_are = one_row (take first (rows s)) ∙ ap (λ qs. qs ++ uncounted n ∷ []) before ∙ plain_more s e n r at_n at_r plain;
    }

-- a counted node
counted_tree : (s : Spec) (shown : List Shown) (first e part : ℕ) (c : Counting) (operator : List ℕ) (r : Range) → node_at s e ≡ Some (counting_node c part) → range_at s e ≡ Some r → Lexes operator (Token.Counted c ∷ []) → Suits s.mode c → IsTextRange (least_count c) r → ReadTrees s shown first (part ∷ []) e → shown_at shown e ≡ single (counted_text operator (least_count c) r (shown_at shown part)) → ReadTree s shown first e
counted_tree s shown first e part c operator r at_n at_r l suits range kids is_shown =
    let one = one_read kids.reads in
    let t = one.term in
    let before : with_term s.names (take first (rows s)) t ≡ take e (rows s) = ap (λ ts. with_terms s.names (take first (rows s)) (listed_terms ts)) (sym one.is) ∙ kids.rows_are in
    let listed : last_number (with_term s.names (take first (rows s)) t) ∷ [] ≡ part ∷ [] = ap (λ ts. numbers s.names (take first (rows s)) (listed_terms ts)) (sym one.is) ∙ kids.numbers_are in
    let last : last_number (with_term s.names (take first (rows s)) t) ≡ part = cc listed in
    record {
      term = Term.counted c r t;
      within = slice_get_within s.nodes e (counting_node c part) at_n;
      reads = subst (λ v. Reads s.mode s.names v (Term.counted c r t)) (sym is_shown) (counted_reads s.mode s.names c operator r (shown_at shown part) t l suits range one.reads);
      rows_are = ap (λ k. with_term s.names (take first (rows s)) t ++ record { node = counting_node c k; range = r } ∷ []) last ∙ ap (λ qs. qs ++ record { node = counting_node c part; range = r } ∷ []) before ∙ row_more s e (counting_node c part) r at_n at_r;
    }

-- a node whose parts read as terms
node_tree : (s : Spec) → IsSound s → AreDistinct s.names → (shown : List Shown) → Shows s shown → (first e : ℕ) (n : Node) (r : Range) → node_at s e ≡ Some n → range_at s e ≡ Some r → ReadTrees s shown first (parts_of n) e → ReadTree s shown first e
node_tree s sound d shown shows first e (Node.Empty word) r at_n at_r kids =
    leaf_tree s shown first e (Node.Empty word) r (Term.empty word) at_n at_r (sound.ranges.at e (Node.Empty word) r at_n at_r) kids (λ qs. refl)
    (subst (λ v. Reads s.mode s.names v (Term.empty word)) (sym (shows.at e (Node.Empty word) r at_n at_r)) (empty_reads s.mode s.names word (sound.leaves.at e (Node.Empty word) at_n)))
node_tree s sound d shown shows first e (Node.Atom word) r at_n at_r kids =
    leaf_tree s shown first e (Node.Atom word) r (Term.atom word) at_n at_r (sound.ranges.at e (Node.Atom word) r at_n at_r) kids (λ qs. refl)
    (subst (λ v. Reads s.mode s.names v (Term.atom word)) (sym (shows.at e (Node.Atom word) r at_n at_r)) (atom_reads s.mode s.names word (sound.leaves.at e (Node.Atom word) at_n)))
node_tree s sound d shown shows first e (Node.Class c) r at_n at_r kids =
    let name = get_or s.names c [] in
    let named : slice_get s.names c ≡ Some name = slice_get-get_or s.names c [] (sound.references.at e (Node.Class c) at_n) in
    leaf_tree s shown first e (Node.Class c) r (Term.class name) at_n at_r (sound.ranges.at e (Node.Class c) r at_n at_r) kids (λ qs. ap (λ k. qs ++ uncounted (Node.Class k) ∷ []) (found_number s.names name c d named))
    (subst (λ v. Reads s.mode s.names v (Term.class name)) (sym (shows.at e (Node.Class c) r at_n at_r ∙ ap (λ o. single (unwrap_or o [])) named)) (class_reads s.mode s.names name (sound.names.at c name named) (among_found s.names name c named)))
node_tree s sound d shown shows first e (Node.Union parts) r at_n at_r kids =
    let t = Term.union (listed_terms kids.list) in
    record {
      term = t;
      within = slice_get_within s.nodes e (Node.Union parts) at_n;
      reads = subst (λ v. Reads s.mode s.names v t) (sym (shows.at e (Node.Union parts) r at_n at_r)) (union_reads s.mode s.names shown kids.reads (sound.parts.at e (Node.Union parts) at_n));
      rows_are = ap (λ ks. with_terms s.names (take first (rows s)) (listed_terms kids.list) ++ uncounted (Node.Union ks) ∷ []) kids.numbers_are ∙ ap (λ qs. qs ++ uncounted (Node.Union parts) ∷ []) kids.rows_are ∙ plain_more s e (Node.Union parts) r at_n at_r (sound.ranges.at e (Node.Union parts) r at_n at_r);
    }
node_tree s sound d shown shows first e (Node.Product parts) r at_n at_r kids =
    let t = Term.product (listed_terms kids.list) in
    record {
      term = t;
      within = slice_get_within s.nodes e (Node.Product parts) at_n;
      reads = subst (λ v. Reads s.mode s.names v t) (sym (shows.at e (Node.Product parts) r at_n at_r)) (product_reads s.mode s.names shown kids.reads (sound.parts.at e (Node.Product parts) at_n));
      rows_are = ap (λ ks. with_terms s.names (take first (rows s)) (listed_terms kids.list) ++ uncounted (Node.Product ks) ∷ []) kids.numbers_are ∙ ap (λ qs. qs ++ uncounted (Node.Product parts) ∷ []) kids.rows_are ∙ plain_more s e (Node.Product parts) r at_n at_r (sound.ranges.at e (Node.Product parts) r at_n at_r);
    }
node_tree s sound d shown shows first e (Node.Seq part) r at_n at_r kids =
    counted_tree s shown first e part Counting.Seq (codes "Seq") r at_n at_r seq_lexes tt (sound.ranges.at e (Node.Seq part) r at_n at_r) kids (shows.at e (Node.Seq part) r at_n at_r)
node_tree s sound d shown shows first e (Node.Set part) r at_n at_r kids =
    counted_tree s shown first e part Counting.Set (codes "Set") r at_n at_r set_lexes (sound.modes.at e (Node.Set part) at_n) (sound.ranges.at e (Node.Set part) r at_n at_r) kids (shows.at e (Node.Set part) r at_n at_r)
node_tree s sound d shown shows first e (Node.Cyc part) r at_n at_r kids =
    counted_tree s shown first e part Counting.Cyc (codes "Cyc") r at_n at_r cyc_lexes (sound.modes.at e (Node.Cyc part) at_n) (sound.ranges.at e (Node.Cyc part) r at_n at_r) kids (shows.at e (Node.Cyc part) r at_n at_r)

mutual
  tree_reads : (nodes : List Node) (s : Spec) → nodes ≡ s.nodes → IsSound s → AreDistinct s.names → (shown : List Shown) → Shows s shown → (first e : ℕ) → Spans nodes first e → ReadTree s shown first e
  tree_reads nodes s same sound d shown shows first e (tree n at each) =
      let at_n : node_at s e ≡ Some n = ap (λ ns. slice_get ns e) (sym same) ∙ at in
      let range = has_range s sound e n at_n in
      node_tree s sound d shown shows first e n range.0 at_n range.1 (trees_read nodes s same sound d shown shows first (parts_of n) e each)

  trees_read : (nodes : List Node) (s : Spec) → nodes ≡ s.nodes → IsSound s → AreDistinct s.names → (shown : List Shown) → Shows s shown → (first : ℕ) (parts : List ℕ) (end : ℕ) → SpanEach nodes first parts end → ReadTrees s shown first parts end
  trees_read nodes s same sound d shown shows first [] end (done met) = record { list = []; reads = no_parts; rows_are = ap (λ k. take k (rows s)) met; numbers_are = refl }
  trees_read nodes s same sound d shown shows first (part ∷ parts) end (next here rest) =
      let a = tree_reads nodes s same sound d shown shows first part here in
      let b = trees_read nodes s same sound d shown shows (suc part) parts end rest in
      record {
        list = a.term ∷ b.list;
        reads = more_parts a.reads b.reads;
        rows_are = ap (λ qs. with_terms s.names qs (listed_terms b.list)) a.rows_are ∙ b.rows_are;
        numbers_are = ap (λ qs. last_number qs ∷ numbers s.names qs (listed_terms b.list)) a.rows_are ∙ ap (λ k. k ∷ numbers s.names (take (suc part) (rows s)) (listed_terms b.list)) (last_of s sound part a.within) ∙ ap (λ ks. part ∷ ks) b.numbers_are;
      }

-- the bodies of a specification read as terms
pub bodies_read : (s : Spec) → IsSound s → AreDistinct s.names → (shown : List Shown) → Shows s shown → ReadTrees s shown 0 s.bodies (length s.nodes)
bodies_read s sound d shown shows = trees_read s.nodes s refl sound d shown shows 0 s.bodies (length s.nodes) sound.order
