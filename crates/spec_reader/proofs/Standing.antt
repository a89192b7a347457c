-- What is kept stays what was read, as the machine goes on.
use Rattle.std.proofs.Common.{◌≡◌, ◌==◌, ℕ, true, false, List, [], ◌∷◌, ◌++◌, length, map, None, refl, sym, ◌∙◌, ap, arith}
use Rattle.bz_model.specs.Spec.{Spec, Node}
use Rattle.class_system.specs.Views.{number}
use Rattle.class_system.specs.declared.ids.ExprId.{ExprId}
use Rattle.class_system.specs.Drafting.{with_node, with_body}
use Rattle.spec_reader.specs.declared.sums.Expects.{Expects}
use Rattle.spec_reader.specs.Grammar.{Term, listed_terms, Definition, sum_of, product_term}
use Rattle.spec_reader.specs.Machine.{Frame, Wrap, bare, over, wrapped, Outer, LinesBefore, Place, Failed, finished_products, parenthesis_opened, with_frame, with_one_more, next_product, parenthesis_closed, line_over}
use Rattle.spec_reader.specs.Tables.{Row, uncounted, counting_node, with_term, numbers, last_number, bodies_of}
use Rattle.spec_reader.specs.Building.{KeptOuter, KeptSoFar, with_list, line_rows, around_rows, rows_at, drafted, product_numbers, factor_numbers, stack_of, Stands, joined_in_node, joined_number, IsLeaf, empty_is, atom_is, class_is, EndsSum, wrapped_draft, wrapped_number, Represents, LeadsOrFails}
use Rattle.spec_reader.proofs.Numbering.{with_list-snoc, numbers-snoc, last_number-snoc, map-snoc, length-mapped}

-- the numbers that are kept are those that were read, whatever the tables are
pub record Counts (names : List (List ℕ)) (p : Place) (k : KeptSoFar) : Type 0 where
  pub products_are : k.products ≡ product_numbers names (around_rows names p.before p.outers) p.frame
  pub factors_are : k.factors ≡ factor_numbers names (around_rows names p.before p.outers) p.frame
  pub outers_are : k.outers ≡ stack_of names p.before p.outers

-- one row more
drafted-snoc : (names : List (List ℕ)) (b : LinesBefore) (rows : List Row) (r : Row) → with_node (drafted names b rows) r.node r.range ≡ drafted names b (rows ++ r ∷ [])
drafted-snoc names b rows r = rw (map-snoc (λ (q : Row). q.node) rows r, map-snoc (λ (q : Row). q.range) rows r) refl

nodes-drafted : (names : List (List ℕ)) (b : LinesBefore) (rows : List Row) → length (drafted names b rows).nodes ≡ length rows
nodes-drafted names b rows = length-mapped (λ (q : Row). q.node) rows

-- one factor more
pub factor_more : (names : List (List ℕ)) (p : Place) (t : Term) (k now : KeptSoFar) → Counts names p k → now.draft ≡ drafted names p.before (with_term names (rows_at names p) t) → now.products ≡ k.products → now.factors ≡ k.factors ++ last_number (with_term names (rows_at names p) t) ∷ [] → now.outers ≡ k.outers → Stands names (with_one_more p t) now
factor_more names p t k now c draft_is products_are factors_are outers_are =
    let around = around_rows names p.before p.outers in
    let before = with_list names around p.frame.products in
    record {
      draft_is = draft_is ∙ ap (λ rows. drafted names p.before rows) (sym (with_list-snoc names before p.frame.factors t));
      products_are = products_are ∙ c.products_are;
      factors_are = factors_are ∙ ap (λ ns. ns ++ last_number (with_term names (rows_at names p) t) ∷ []) c.factors_are ∙ sym (numbers-snoc names before p.frame.factors t);
      outers_are = outers_are ∙ c.outers_are;
    }

pub counts_of : (names : List (List ℕ)) (p : Place) (k : KeptSoFar) → Stands names p k → Counts names p k
counts_of names p k s = record { products_are = s.products_are; factors_are = s.factors_are; outers_are = s.outers_are }

leaf_row : (names : List (List ℕ)) (rows : List Row) (t : Term) (n : Node) → IsLeaf names t n → with_term names rows t ≡ rows ++ uncounted n ∷ []
leaf_row names rows _ _ (empty_is w) = refl
leaf_row names rows _ _ (atom_is w) = refl
leaf_row names rows _ _ (class_is w) = refl

-- a leaf or a reference more
pub leaf_more : (names : List (List ℕ)) (p : Place) (t : Term) (n : Node) (k now : KeptSoFar) → IsLeaf names t n → Stands names p k → now.draft ≡ with_node k.draft n (record { low = 0; high = None }) → now.products ≡ k.products → now.factors ≡ k.factors ++ length k.draft.nodes ∷ [] → now.outers ≡ k.outers → Stands names (with_one_more p t) now
leaf_more names p t n k now leaf s draft_is products_are factors_are outers_are =
    let rows = rows_at names p in
    let row_is = leaf_row names rows t n leaf in
    let number_is : length k.draft.nodes ≡ last_number (with_term names rows t) = ap (λ (d : Spec). length d.nodes) s.draft_is ∙ nodes-drafted names p.before rows ∙ sym (ap last_number row_is ∙ last_number-snoc rows (uncounted n)) in
    factor_more names p t k now (counts_of names p k s)
    (draft_is ∙ ap (λ d. with_node d n (record { low = 0; high = None })) s.draft_is ∙ drafted-snoc names p.before rows (uncounted n) ∙ ap (λ rs. drafted names p.before rs) (sym row_is))
    products_are
    (factors_are ∙ ap (λ m. k.factors ++ m ∷ []) number_is)
    outers_are

-- the sum within a parenthesis
pub open_more : (names : List (List ℕ)) (p : Place) (w : Wrap) (k now : KeptSoFar) → Stands names p k → now.draft ≡ k.draft → now.products ≡ [] → now.factors ≡ [] → now.outers ≡ k.outers ++ record { products = k.products; factors = k.factors; wrap = w } ∷ [] → Stands names (parenthesis_opened p w) now
open_more names p w k now s draft_is products_are factors_are outers_are = record {
  draft_is = draft_is ∙ s.draft_is;
  products_are = products_are;
  factors_are = factors_are;
  outers_are = outers_are ∙ rw (s.products_are, s.factors_are, s.outers_are) refl;
}

-- joined parts are the nodes of the term that joins them
joined_product : (names : List (List ℕ)) (b : LinesBefore) (rows : List Row) (us : List Term) → joined_in_node Node.Product (drafted names b (with_list names rows us)) (numbers names rows (listed_terms us)) ≡ drafted names b (with_term names rows (product_term us))
joined_product names b rows [] = drafted-snoc names b rows (uncounted (Node.Product []))
joined_product names b rows (u ∷ []) = refl
joined_product names b rows (u ∷ v ∷ us) = drafted-snoc names b (with_list names rows (u ∷ v ∷ us)) (uncounted (Node.Product (numbers names rows (listed_terms (u ∷ v ∷ us)))))

joined_product_number : (names : List (List ℕ)) (b : LinesBefore) (rows : List Row) (us : List Term) → joined_number (drafted names b (with_list names rows us)) (numbers names rows (listed_terms us)) ≡ last_number (with_term names rows (product_term us))
joined_product_number names b rows [] = nodes-drafted names b rows ∙ sym (last_number-snoc rows (uncounted (Node.Product [])))
joined_product_number names b rows (u ∷ []) = refl
joined_product_number names b rows (u ∷ v ∷ us) = nodes-drafted names b (with_list names rows (u ∷ v ∷ us)) ∙ sym (last_number-snoc (with_list names rows (u ∷ v ∷ us)) (uncounted (Node.Product (numbers names rows (listed_terms (u ∷ v ∷ us))))))

joined_union : (names : List (List ℕ)) (b : LinesBefore) (rows : List Row) (us : List Term) → joined_in_node Node.Union (drafted names b (with_list names rows us)) (numbers names rows (listed_terms us)) ≡ drafted names b (with_term names rows (sum_of us))
joined_union names b rows [] = drafted-snoc names b rows (uncounted (Node.Union []))
joined_union names b rows (u ∷ []) = refl
joined_union names b rows (u ∷ v ∷ us) = drafted-snoc names b (with_list names rows (u ∷ v ∷ us)) (uncounted (Node.Union (numbers names rows (listed_terms (u ∷ v ∷ us)))))

joined_union_number : (names : List (List ℕ)) (b : LinesBefore) (rows : List Row) (us : List Term) → joined_number (drafted names b (with_list names rows us)) (numbers names rows (listed_terms us)) ≡ last_number (with_term names rows (sum_of us))
joined_union_number names b rows [] = nodes-drafted names b rows ∙ sym (last_number-snoc rows (uncounted (Node.Union [])))
joined_union_number names b rows (u ∷ []) = refl
joined_union_number names b rows (u ∷ v ∷ us) = nodes-drafted names b (with_list names rows (u ∷ v ∷ us)) ∙ sym (last_number-snoc (with_list names rows (u ∷ v ∷ us)) (uncounted (Node.Union (numbers names rows (listed_terms (u ∷ v ∷ us))))))

-- the product that was read is over: its node, and the numbers of the products
pub record OverProduct (names : List (List ℕ)) (p : Place) (d : Spec) (n : ℕ) : Type 0 where
  pub draft_is : d ≡ drafted names p.before (with_list names (around_rows names p.before p.outers) (finished_products p.frame))
  pub number_is : n ≡ last_number (with_term names (with_list names (around_rows names p.before p.outers) p.frame.products) (product_term p.frame.factors))

pub over_product : (names : List (List ℕ)) (p : Place) (k : KeptSoFar) (d : Spec) (n : ℕ) → Stands names p k → d ≡ joined_in_node Node.Product k.draft k.factors → n ≡ joined_number k.draft k.factors → OverProduct names p d n
over_product names p k d n s d_is n_is =
    let around = around_rows names p.before p.outers in
    let before = with_list names around p.frame.products in
    record {
      draft_is = d_is ∙ rw (s.draft_is, s.factors_are) (joined_product names p.before before p.frame.factors) ∙ ap (λ rows. drafted names p.before rows) (sym (with_list-snoc names around p.frame.products (product_term p.frame.factors)));
      number_is = n_is ∙ rw (s.draft_is, s.factors_are) (joined_product_number names p.before before p.frame.factors);
    }

-- the numbers of all products of a sum
pub value_numbers : (names : List (List ℕ)) (p : Place) (k : KeptSoFar) (d : Spec) (n : ℕ) → Stands names p k → OverProduct names p d n → k.products ++ n ∷ [] ≡ numbers names (around_rows names p.before p.outers) (listed_terms (finished_products p.frame))
value_numbers names p k d n s o = rw (s.products_are, o.number_is) (sym (numbers-snoc names (around_rows names p.before p.outers) p.frame.products (product_term p.frame.factors)))

-- a plus sign
pub product_more : (names : List (List ℕ)) (p : Place) (k now : KeptSoFar) (n : ℕ) → Stands names p k → now.draft ≡ joined_in_node Node.Product k.draft k.factors → n ≡ joined_number k.draft k.factors → now.products ≡ k.products ++ n ∷ [] → now.factors ≡ [] → now.outers ≡ k.outers → Stands names (with_frame p (next_product p.frame)) now
product_more names p k now n s d_is n_is products_are factors_are outers_are =
    let o = over_product names p k now.draft n s d_is n_is in
    record {
      draft_is = o.draft_is;
      products_are = products_are ∙ value_numbers names p k now.draft n s o;
      factors_are = factors_are;
      outers_are = outers_are ∙ s.outers_are;
    }

-- the sum that was read is over: its node
pub record OverSum (names : List (List ℕ)) (p : Place) (d : Spec) (n : ℕ) : Type 0 where
  pub draft_is : d ≡ drafted names p.before (with_term names (around_rows names p.before p.outers) (sum_of (finished_products p.frame)))
  pub number_is : n ≡ last_number (with_term names (around_rows names p.before p.outers) (sum_of (finished_products p.frame)))

pub over_sum : (names : List (List ℕ)) (p : Place) (k : KeptSoFar) (d : Spec) (m : ℕ) → Stands names p k → EndsSum k.draft k.products k.factors d m → OverSum names p d m
over_sum names p k d m s e =
    let around = around_rows names p.before p.outers in
    let o = over_product names p k (joined_in_node Node.Product k.draft k.factors) (joined_number k.draft k.factors) s refl refl in
    let products_are = value_numbers names p k (joined_in_node Node.Product k.draft k.factors) (joined_number k.draft k.factors) s o in
    record {
      draft_is = e.draft_is ∙ rw (products_are, o.draft_is) (joined_union names p.before around (finished_products p.frame));
      number_is = e.number_is ∙ rw (products_are, o.draft_is) (joined_union_number names p.before around (finished_products p.frame));
    }

-- the node of a closed parenthesis
wrapped_more : (names : List (List ℕ)) (b : LinesBefore) (rows : List Row) (w : Wrap) (t : Term) → wrapped_draft (drafted names b (with_term names rows t)) w (last_number (with_term names rows t)) ≡ drafted names b (with_term names rows (wrapped w t))
wrapped_more names b rows bare t = refl
wrapped_more names b rows (over c r) t = drafted-snoc names b (with_term names rows t) (record { node = counting_node c (last_number (with_term names rows t)); range = r })

wrapped_more_number : (names : List (List ℕ)) (b : LinesBefore) (rows : List Row) (w : Wrap) (t : Term) → wrapped_number (drafted names b (with_term names rows t)) w (last_number (with_term names rows t)) ≡ last_number (with_term names rows (wrapped w t))
wrapped_more_number names b rows bare t = refl
wrapped_more_number names b rows (over c r) t = nodes-drafted names b (with_term names rows t) ∙ sym (last_number-snoc (with_term names rows t) (record { node = counting_node c (last_number (with_term names rows t)); range = r }))

-- two lists with one element more at their ends
snoc_both : {A : Type 0} (xs ys : List A) (x y : A) → xs ++ x ∷ [] ≡ ys ++ y ∷ [] → (xs ≡ ys) × (x ≡ y)
snoc_both [] [] x y e = (refl, cc)
snoc_both [] (b ∷ []) x y e = absurd (cc)
snoc_both [] (b ∷ c ∷ ys) x y e = absurd (cc)
snoc_both (a ∷ []) [] x y e = absurd (cc)
snoc_both (a ∷ c ∷ xs) [] x y e = absurd (cc)
snoc_both (a ∷ xs) (b ∷ ys) x y e =
    let tail : xs ++ x ∷ [] ≡ ys ++ y ∷ [] = cc in
    let both = snoc_both xs ys x y tail in
    let head : a ≡ b = cc in
    (rw (head, both.0) refl, both.1)

snoc_not_nil : {A : Type 0} (xs : List A) (x : A) → ¬ (xs ++ x ∷ [] ≡ [])
snoc_not_nil [] x e = absurd (cc)
snoc_not_nil (y ∷ xs) x e = absurd (cc)

abbrev place_of : LinesBefore → List ℕ → Frame → List Outer → Place
place_of b w f os = record { before = b; name = w; frame = f; outers = os }

-- a parenthesis is closed
closes_at : (names : List (List ℕ)) (b : LinesBefore) (w : List ℕ) (f : Frame) (os : List Outer) (k now : KeptSoFar) (popped : KeptOuter) (front : List KeptOuter) (d : Spec) (m n : ℕ) → Stands names (place_of b w f os) k → k.outers ≡ front ++ popped ∷ [] → EndsSum k.draft k.products k.factors d m → now.draft ≡ wrapped_draft d popped.wrap m → n ≡ wrapped_number d popped.wrap m → now.products ≡ popped.products → now.factors ≡ popped.factors ++ n ∷ [] → now.outers ≡ front → Represents names (parenthesis_closed (place_of b w f os) os) Expects.Joint now
closes_at names b w f [] k now popped front d m n s outers_are ends d_is n_is ps_are fs_are os_are = absurd (snoc_not_nil front popped (sym outers_are ∙ s.outers_are))
closes_at names b w f (o ∷ os) k now popped front d m n s outers_are ends d_is n_is ps_are fs_are os_are =
    let p = place_of b w o.frame os in
    let sum = over_sum names (place_of b w f (o ∷ os)) k d m s ends in
    let rows = rows_at names p in
    let t = sum_of (finished_products f) in
    let there : KeptOuter = record { products = product_numbers names (around_rows names b os) o.frame; factors = factor_numbers names (around_rows names b os) o.frame; wrap = o.wrap } in
    let both = snoc_both front (stack_of names b os) popped there (sym outers_are ∙ s.outers_are) in
    let before : KeptSoFar = record { draft = d; products = popped.products; factors = popped.factors; outers = front } in
    let counts : Counts names p before = record {
      products_are = ap (λ (q : KeptOuter). q.products) both.1;
      factors_are = ap (λ (q : KeptOuter). q.factors) both.1;
      outers_are = both.0;
    } in (
      with_one_more p (wrapped o.wrap t),
      refl,
      factor_more names p (wrapped o.wrap t) before now counts
          (d_is ∙ rw (ap (λ (q : KeptOuter). q.wrap) both.1, sum.draft_is, sum.number_is) (wrapped_more names b rows o.wrap t))
          ps_are
          (fs_are ∙ ap (λ i. popped.factors ++ i ∷ []) (n_is ∙ rw (ap (λ (q : KeptOuter). q.wrap) both.1, sum.draft_is, sum.number_is) (wrapped_more_number names b rows o.wrap t)))
          os_are,
    )

-- Where a sum ends, the innermost open parenthesis is popped and its number joins the factors, what
-- is kept is what the machine reads with a closing one.
pub close_more : (names : List (List ℕ)) (p : Place) (k now : KeptSoFar) (popped : KeptOuter) (front : List KeptOuter) (d : Spec) (m n : ℕ) → Stands names p k → k.outers ≡ front ++ popped ∷ [] → EndsSum k.draft k.products k.factors d m → now.draft ≡ wrapped_draft d popped.wrap m → n ≡ wrapped_number d popped.wrap m → now.products ≡ popped.products → now.factors ≡ popped.factors ++ n ∷ [] → now.outers ≡ front → LeadsOrFails names (parenthesis_closed p p.outers) true Expects.Joint now
close_more names p k now popped front d m n s = closes_at names p.before p.name p.frame p.outers k now popped front d m n s

-- no parenthesis is open
closes_nothing : (names : List (List ℕ)) (b : LinesBefore) (w : List ℕ) (f : Frame) (os : List Outer) (k now : KeptSoFar) → Stands names (place_of b w f os) k → k.outers ≡ [] → parenthesis_closed (place_of b w f os) os ≡ Failed
closes_nothing names b w f [] k now s e = refl
closes_nothing names b w f (o ∷ os) k now s e = absurd (snoc_not_nil _ _ (sym s.outers_are ∙ e))

pub close_none : (names : List (List ℕ)) (p : Place) (k now : KeptSoFar) → Stands names p k → k.outers ≡ [] → LeadsOrFails names (parenthesis_closed p p.outers) false Expects.Joint now
close_none names p k now s e = closes_nothing names p.before p.name p.frame p.outers k now s e

-- a line ends
ends_at : (names : List (List ℕ)) (b : LinesBefore) (w : List ℕ) (f : Frame) (os : List Outer) (k now : KeptSoFar) (d : Spec) (m : ℕ) → Stands names (place_of b w f os) k → k.outers ≡ [] → EndsSum k.draft k.products k.factors d m → now.draft ≡ with_body d m → now.products ≡ [] → now.factors ≡ [] → now.outers ≡ [] → Represents names (line_over (place_of b w f os) os) Expects.Line now
ends_at names b w f (o ∷ os) k now d m s e ends d_is ps_are fs_are os_are = absurd (snoc_not_nil _ _ (sym s.outers_are ∙ e))
ends_at names b w f [] k now d m s e ends d_is ps_are fs_are os_are =
    let t = sum_of (finished_products f) in
    let sum = over_sum names (place_of b w f []) k d m s ends in
    let body : Definition → Term = λ q. q.body in
    let terms_before = map body b.definitions in
    let new : Definition = record { name = w; body = t } in
    let rows_are : line_rows names (record { mode = b.mode; definitions = b.definitions ++ new ∷ [] }) ≡ with_term names (line_rows names b) t = ap (λ ts. with_list names [] ts) (map-snoc body b.definitions new) ∙ with_list-snoc names [] terms_before t in
    let bodies_are : numbers names [] (bodies_of (b.definitions ++ new ∷ [])) ≡ numbers names [] (bodies_of b.definitions) ++ last_number (with_term names (line_rows names b) t) ∷ [] = ap (λ ts. numbers names [] (listed_terms ts)) (map-snoc body b.definitions new) ∙ numbers-snoc names [] terms_before t in (
      record { mode = b.mode; definitions = b.definitions ++ new ∷ [] },
      refl,
      record {
        draft_is = d_is ∙ rw (sum.draft_is, sum.number_is, rows_are, bodies_are) refl;
        no_products = ps_are;
        no_factors = fs_are;
        no_outers = os_are;
      },
    )

-- Where a sum ends with no parenthesis open and its number becomes a body, what is kept is what the
-- machine reads with the end of the line.
pub line_more : (names : List (List ℕ)) (p : Place) (k now : KeptSoFar) (d : Spec) (m : ℕ) → Stands names p k → k.outers ≡ [] → EndsSum k.draft k.products k.factors d m → now.draft ≡ with_body d m → now.products ≡ [] → now.factors ≡ [] → now.outers ≡ [] → LeadsOrFails names (line_over p p.outers) true Expects.Line now
line_more names p k now d m s = ends_at names p.before p.name p.frame p.outers k now d m s

-- a line can't end within a parenthesis
line_open : (names : List (List ℕ)) (b : LinesBefore) (w : List ℕ) (f : Frame) (os : List Outer) (k : KeptSoFar) → Stands names (place_of b w f os) k → ¬ (k.outers ≡ []) → line_over (place_of b w f os) os ≡ Failed
line_open names b w f [] k s e = absurd (e s.outers_are)
line_open names b w f (o ∷ os) k s e = refl

pub line_none : (names : List (List ℕ)) (p : Place) (k now : KeptSoFar) → Stands names p k → ¬ (k.outers ≡ []) → LeadsOrFails names (line_over p p.outers) false Expects.Line now
line_none names p k now s e = line_open names p.before p.name p.frame p.outers k s e

-- a node's number more
pub pushed : (old new : List ExprId) (e : ExprId) (n : ℕ) → new ≡ old ++ e ∷ [] → e.0 ≡ n → map number new ≡ map number old ++ n ∷ []
pushed old new e n new_is n_is = ap (λ es. map number es) new_is ∙ map-snoc number old e ∙ ap (λ m. map number old ++ m ∷ []) n_is

-- no sum is around
pub none_around : {A : Type 0} (xs ys : List A) → true ≡ (length xs == 0) → xs ≡ ys → ys ≡ []
none_around [] ys e same = sym same
none_around (x ∷ xs) ys e same = absurd (grind arith)

-- a sum is around
pub some_around : {A B : Type 0} (f : A → B) (xs ys : List A) → false ≡ (length xs == 0) → xs ≡ ys → ¬ (map f ys ≡ [])
some_around f [] ys e same none = absurd (grind arith)
some_around f (x ∷ xs) ys e same none = let e2 : map f (x ∷ xs) ≡ [] = ap (map f) same ∙ none in absurd (cc)
