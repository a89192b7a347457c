-- Each text of language 1 is a text, and its tables have plain ranges.
use Rattle.std.proofs.Common.{◌≡◌, ℕ, List, [], ◌∷◌, ◌++◌, map, refl, ◌∙◌}
use Rattle.bz_model.specs.Spec.{Mode, plain_range}
use Rattle.spec_reader.specs.declared.tokens.Counting.{Counting}
use Rattle.spec_reader.specs.declared.tokens.Token.{Token}
use Rattle.spec_reader.specs.Grammar.{Term, Terms, none, more, listed_terms, sum_of, product_term, without_bound, Definition, IsText, text, Definitions, text_end, defined, Sum, MoreProducts, Product, MoreFactors, Factor, summed, no_products, next_product, multiplied, no_factors, next_factor, empty_leaf, atom_leaf, named, group, counting, no_bound}
use Rattle.spec_reader.specs.LanguageOne.{SumOne, MoreProductsOne, ProductOne, MoreFactorsOne, FactorOne, DefinitionsOne, IsTextOne, summed_one, no_products_one, next_product_one, multiplied_one, no_factors_one, next_factor_one, empty_one, atom_one, named_one, group_one, counting_one, end_one, defined_one, text_one, IsPlainlyRanged}
use Rattle.spec_reader.specs.Tables.{Row, counting_node, with_term, with_terms, last_number, names_of, bodies_of, tables}
use Rattle.spec_reader.proofs.Numbering.{map-snoc}

mutual
  sum_here : {ts rest : List Token} {ps : List Term} → SumOne ts ps rest → Sum ts ps rest
  sum_here (summed_one p later) = summed (product_here p) (products_here later)

  products_here : {ts rest : List Token} {ps : List Term} → MoreProductsOne ts ps rest → MoreProducts ts ps rest
  products_here no_products_one = no_products
  products_here (next_product_one p later) = next_product (product_here p) (products_here later)

  product_here : {ts rest : List Token} {us : List Term} → ProductOne ts us rest → Product ts us rest
  product_here (multiplied_one f later) = multiplied (factor_here f) (factors_here later)

  factors_here : {ts rest : List Token} {us : List Term} → MoreFactorsOne ts us rest → MoreFactors ts us rest
  factors_here no_factors_one = no_factors
  factors_here (next_factor_one f later) = next_factor (factor_here f) (factors_here later)

  factor_here : {ts rest : List Token} {t : Term} → FactorOne ts t rest → Factor ts t rest
  factor_here empty_one = empty_leaf
  factor_here atom_one = atom_leaf
  factor_here named_one = named
  factor_here (group_one s) = group (sum_here s)
  factor_here (counting_one s) = counting no_bound (sum_here s)

definitions_here : {ts : List Token} {ds : List Definition} → DefinitionsOne ts ds → Definitions ts ds
definitions_here end_one = text_end
definitions_here (defined_one s later) = defined (sum_here s) (definitions_here later)

-- Each text of language 1 is a text of the grammar, with the same mode and definitions.
pub text_here : {ts : List Token} {m : Mode} {ds : List Definition} → IsTextOne ts m ds → IsText ts m ds
text_here (text_one later) = text (definitions_here later)

-- a term without bounds
abbrev mutual
  IsPlain : Term → Type 0
  IsPlain (Term.empty w) = Unit {0}
  IsPlain (Term.atom w) = Unit {0}
  IsPlain (Term.class w) = Unit {0}
  IsPlain (Term.union ts) = ArePlain ts
  IsPlain (Term.product ts) = ArePlain ts
  IsPlain (Term.counted c r t) = (r ≡ without_bound c) × IsPlain t

  ArePlain : Terms → Type 0
  ArePlain none = Unit {0}
  ArePlain (more t ts) = IsPlain t × ArePlain ts

plain_sum : (ts : List Term) → ArePlain (listed_terms ts) → IsPlain (sum_of ts)
plain_sum [] h = tt
plain_sum (t ∷ []) h = h.0
plain_sum (t ∷ u ∷ ts) h = h

plain_product : (ts : List Term) → ArePlain (listed_terms ts) → IsPlain (product_term ts)
plain_product [] h = tt
plain_product (t ∷ []) h = h.0
plain_product (t ∷ u ∷ ts) h = h

mutual
  sum_plain : {ts rest : List Token} {ps : List Term} → SumOne ts ps rest → ArePlain (listed_terms ps)
  sum_plain (summed_one {us = us} p later) = (plain_product us (product_plain p), products_plain later)

  products_plain : {ts rest : List Token} {ps : List Term} → MoreProductsOne ts ps rest → ArePlain (listed_terms ps)
  products_plain no_products_one = tt
  products_plain (next_product_one {us = us} p later) = (plain_product us (product_plain p), products_plain later)

  product_plain : {ts rest : List Token} {us : List Term} → ProductOne ts us rest → ArePlain (listed_terms us)
  product_plain (multiplied_one f later) = (factor_plain f, factors_plain later)

  factors_plain : {ts rest : List Token} {us : List Term} → MoreFactorsOne ts us rest → ArePlain (listed_terms us)
  factors_plain no_factors_one = tt
  factors_plain (next_factor_one f later) = (factor_plain f, factors_plain later)

  factor_plain : {ts rest : List Token} {t : Term} → FactorOne ts t rest → IsPlain t
  factor_plain empty_one = tt
  factor_plain atom_one = tt
  factor_plain named_one = tt
  factor_plain (group_one {ps = ps} s) = plain_sum ps (sum_plain s)
  factor_plain (counting_one {ps = ps} s) = (refl, plain_sum ps (sum_plain s))

definitions_plain : {ts : List Token} {ds : List Definition} → DefinitionsOne ts ds → ArePlain (bodies_of ds)
definitions_plain end_one = tt
definitions_plain (defined_one {ps = ps} s later) = (plain_sum ps (sum_plain s), definitions_plain later)

text_plain : {ts : List Token} {m : Mode} {ds : List Definition} → IsTextOne ts m ds → ArePlain (bodies_of ds)
text_plain (text_one later) = definitions_plain later

-- the rows' ranges are plain
record ArePlainRows (rows : List Row) : Type 0 where
  each : map (λ (r : Row). r.range) rows ≡ map plain_range (map (λ (r : Row). r.node) rows)

one_more : (rows : List Row) (r : Row) → ArePlainRows rows → r.range ≡ plain_range r.node → ArePlainRows (rows ++ r ∷ [])
one_more rows r p e = record { each = rw (map-snoc (λ (q : Row). q.range) rows r, map-snoc (λ (q : Row). q.node) rows r, map-snoc plain_range (map (λ (q : Row). q.node) rows) r.node, p.each, e) refl }

counted_plain : (c : Counting) (part : ℕ) → without_bound c ≡ plain_range (counting_node c part)
counted_plain Counting.Seq part = refl
counted_plain Counting.Set part = refl
counted_plain Counting.Cyc part = refl

mutual
  term_plain : (names : List (List ℕ)) (rows : List Row) (t : Term) → IsPlain t → ArePlainRows rows → ArePlainRows (with_term names rows t)
  term_plain names rows (Term.empty w) h p = one_more rows _ p refl
  term_plain names rows (Term.atom w) h p = one_more rows _ p refl
  term_plain names rows (Term.class w) h p = one_more rows _ p refl
  term_plain names rows (Term.union ts) h p = one_more (with_terms names rows ts) _ (terms_plain names rows ts h p) refl
  term_plain names rows (Term.product ts) h p = one_more (with_terms names rows ts) _ (terms_plain names rows ts h p) refl
  term_plain names rows (Term.counted c r t) h p = one_more (with_term names rows t) _ (term_plain names rows t h.1 p) (h.0 ∙ counted_plain c (last_number (with_term names rows t)))

  terms_plain : (names : List (List ℕ)) (rows : List Row) (ts : Terms) → ArePlain ts → ArePlainRows rows → ArePlainRows (with_terms names rows ts)
  terms_plain names rows none h p = p
  terms_plain names rows (more t ts) h p = terms_plain names (with_term names rows t) ts h.1 (term_plain names rows t h.0 p)

-- In the tables of a text of language 1 each node has its plain range.
pub ranges_plain : {ts : List Token} {m : Mode} {ds : List Definition} → IsTextOne ts m ds → IsPlainlyRanged (tables m ds)
ranges_plain {ds = ds} t = (terms_plain (names_of ds) [] (bodies_of ds) (text_plain t) (record { each = refl })).each
