-- What the terms of a text without a fault are made of.
use Rattle.std.proofs.Common.{◌≡◌, ℕ, suc, ◌≤◌, ◌<◌, Bool, true, false, List, [], ◌∷◌, length, drop, None, refl, arith}
use Rattle.bz_model.specs.Spec.{Mode, Range}
use Rattle.class_system.specs.Words.{IsLeafWord, IsName}
use Rattle.class_system.specs.Sound.{IsBound, IsTextRange}
use Rattle.spec_reader.specs.declared.tokens.Counting.{Counting}
use Rattle.spec_reader.specs.declared.tokens.Token.{Token}
use Rattle.spec_reader.specs.declared.tokens.Placed.{Placed}
use Rattle.spec_reader.specs.Grammar.{Term, Terms, none, more, listed_terms, sum_of, product_term, least_count, Definition, IsText, text, Definitions, text_end, defined, Sum, MoreProducts, Product, MoreFactors, Factor, summed, no_products, next_product, multiplied, no_factors, next_factor, empty_leaf, atom_leaf, named, group, counting, Bound, no_bound, at_least, at_most, exactly}
use Rattle.spec_reader.specs.Faults.{is_among, ends_line, defined_by, with_names, fault_at, first_fault, undefined, needs_labels}
use Rattle.spec_reader.specs.Reading.{plain_tokens}
use Rattle.spec_reader.proofs.Lexical.{IsLexical, AreLexical}
use Rattle.spec_reader.proofs.Faulting.{none_both}

-- a counted node suits the mode
abbrev pub Suits : Mode → Counting → Type 0
Suits m Counting.Seq = Unit {0}
Suits m Counting.Set = m ≡ Mode.Labelled
Suits m Counting.Cyc = m ≡ Mode.Labelled

-- a token without a fault
abbrev GoodAt : Mode → List (List ℕ) → Bool → Token → Type 0
GoodAt m names true (Token.Name w) = IsName w
GoodAt m names false (Token.Name w) = IsName w × (is_among names w ≡ true)
GoodAt m names starts (Token.Empty w) = IsLeafWord w
GoodAt m names starts (Token.Atom w) = IsLeafWord w
GoodAt m names starts (Token.Number k) = IsBound k
GoodAt m names starts (Token.Counted c) = Suits m c
GoodAt m names starts _ = Unit {0}

abbrev pub Good : Mode → List (List ℕ) → Bool → List Token → Type 0
Good m names starts [] = Unit {0}
Good m names starts (t ∷ ts) = GoodAt m names starts t × Good m names (ends_line t) ts

among_of : (b : Bool) (line column : ℕ) → undefined b line column ≡ None → b ≡ true
among_of true line column e = refl
among_of false line column e = absurd (cc)

suits_of : (m : Mode) (c : Counting) (line column : ℕ) → needs_labels m c line column ≡ None → Suits m c
suits_of m Counting.Seq line column e = tt
suits_of Mode.Unlabelled Counting.Set line column e = absurd (cc)
suits_of Mode.Unlabelled Counting.Cyc line column e = absurd (cc)
suits_of Mode.Labelled Counting.Set line column e = refl
suits_of Mode.Labelled Counting.Cyc line column e = refl

good_at : (m : Mode) (names before : List (List ℕ)) (starts : Bool) (t : Token) (line column : ℕ) → IsLexical t → fault_at m names before starts t line column ≡ None → GoodAt m names starts t
good_at m names before true (Token.Name w) line column h e = h
good_at m names before false (Token.Name w) line column h e = (h, among_of (is_among names w) line column e)
good_at m names before true (Token.Empty w) line column h e = h
good_at m names before false (Token.Empty w) line column h e = h
good_at m names before true (Token.Atom w) line column h e = h
good_at m names before false (Token.Atom w) line column h e = h
good_at m names before true (Token.Number k) line column h e = h
good_at m names before false (Token.Number k) line column h e = h
good_at m names before true (Token.Counted c) line column h e = suits_of m c line column e
good_at m names before false (Token.Counted c) line column h e = suits_of m c line column e
good_at m names before true _ line column h e = tt
good_at m names before false _ line column h e = tt

-- tokens without a first fault
pub good_tokens : (m : Mode) (names before : List (List ℕ)) (starts : Bool) (ps : List Placed) → AreLexical ps → first_fault m names before starts ps ≡ None → Good m names starts (plain_tokens ps)
good_tokens m names before starts [] h e = tt
good_tokens m names before starts (p ∷ ps) h e =
    let both = none_both _ _ e in
    (good_at m names before starts p.token p.line p.column h.0 both.0, good_tokens m names (with_names before (defined_by starts p.token)) (ends_line p.token) ps h.1 both.1)

abbrev pub how_many : Terms → ℕ
how_many none = 0
how_many (more t ts) = suc (how_many ts)

-- a term whose nodes are sound
abbrev mutual
  pub GoodTerm : Mode → List (List ℕ) → Term → Type 0
  GoodTerm m names (Term.empty w) = IsLeafWord w
  GoodTerm m names (Term.atom w) = IsLeafWord w
  GoodTerm m names (Term.class w) = is_among names w ≡ true
  GoodTerm m names (Term.union ts) = (2 ≤ how_many ts) × GoodTerms m names ts
  GoodTerm m names (Term.product ts) = (2 ≤ how_many ts) × GoodTerms m names ts
  GoodTerm m names (Term.counted c r t) = Suits m c × IsTextRange (least_count c) r × GoodTerm m names t

  pub GoodTerms : Mode → List (List ℕ) → Terms → Type 0
  GoodTerms m names none = Unit {0}
  GoodTerms m names (more t ts) = GoodTerm m names t × GoodTerms m names ts

sum_of_good : (m : Mode) (names : List (List ℕ)) (ts : List Term) → 1 ≤ length ts → GoodTerms m names (listed_terms ts) → GoodTerm m names (sum_of ts)
sum_of_good m names [] some h = absurd (omega arith)
sum_of_good m names (t ∷ []) some h = h.0
sum_of_good m names (t ∷ u ∷ ts) some h = (omega arith, h)

product_of_good : (m : Mode) (names : List (List ℕ)) (ts : List Term) → 1 ≤ length ts → GoodTerms m names (listed_terms ts) → GoodTerm m names (product_term ts)
product_of_good m names [] some h = absurd (omega arith)
product_of_good m names (t ∷ []) some h = h.0
product_of_good m names (t ∷ u ∷ ts) some h = (omega arith, h)

-- what was read of good tokens is good, and so are those that are left
record GoodOne (m : Mode) (names : List (List ℕ)) (t : Term) (rest : List Token) : Type 0 where
  term : GoodTerm m names t
  left : Good m names false rest

record GoodMany (m : Mode) (names : List (List ℕ)) (ts : List Term) (rest : List Token) : Type 0 where
  each : GoodTerms m names (listed_terms ts)
  left : Good m names false rest

record GoodSome (m : Mode) (names : List (List ℕ)) (ts : List Term) (rest : List Token) : Type 0 where
  some : 1 ≤ length ts
  each : GoodTerms m names (listed_terms ts)
  left : Good m names false rest

record GoodRange (m : Mode) (names : List (List ℕ)) (c : Counting) (r : Range) (rest : List Token) : Type 0 where
  range : IsTextRange (least_count c) r
  left : Good m names false rest

bound_good : {c : Counting} {ts rest : List Token} {r : Range} (m : Mode) (names : List (List ℕ)) → Bound c ts r rest → Good m names false ts → GoodRange m names c r rest
bound_good m names no_bound g = record { range = IsTextRange.plain refl; left = g }
bound_good m names (at_least {k = k}) g = record { range = IsTextRange.at_least k g.1.0 refl; left = g.1.1 }
bound_good m names (at_most {k = k}) g = record { range = IsTextRange.at_most k g.1.0 refl; left = g.1.1 }
bound_good m names (exactly {k = k}) g = record { range = IsTextRange.exactly k g.1.0 refl; left = g.1.1 }

mutual
  sum_good : {ts rest : List Token} {ps : List Term} (m : Mode) (names : List (List ℕ)) → Sum ts ps rest → Good m names false ts → GoodSome m names ps rest
  sum_good m names (summed {us = us} p later) g =
      let one = product_good m names p g in
      let others = products_good m names later one.left in
      record { some = omega arith; each = (product_of_good m names us one.some one.each, others.each); left = others.left }

  products_good : {ts rest : List Token} {ps : List Term} (m : Mode) (names : List (List ℕ)) → MoreProducts ts ps rest → Good m names false ts → GoodMany m names ps rest
  products_good m names no_products g = record { each = tt; left = g }
  products_good m names (next_product {us = us} p later) g =
      let one = product_good m names p g.1 in
      let others = products_good m names later one.left in
      record { each = (product_of_good m names us one.some one.each, others.each); left = others.left }

  product_good : {ts rest : List Token} {us : List Term} (m : Mode) (names : List (List ℕ)) → Product ts us rest → Good m names false ts → GoodSome m names us rest
  product_good m names (multiplied f later) g =
      let one = factor_good m names f g in
      let others = factors_good m names later one.left in
      record { some = omega arith; each = (one.term, others.each); left = others.left }

  factors_good : {ts rest : List Token} {us : List Term} (m : Mode) (names : List (List ℕ)) → MoreFactors ts us rest → Good m names false ts → GoodMany m names us rest
  factors_good m names no_factors g = record { each = tt; left = g }
  factors_good m names (next_factor f later) g =
      let one = factor_good m names f g.1 in
      let others = factors_good m names later one.left in
      record { each = (one.term, others.each); left = others.left }

  factor_good : {ts rest : List Token} {t : Term} (m : Mode) (names : List (List ℕ)) → Factor ts t rest → Good m names false ts → GoodOne m names t rest
  factor_good m names empty_leaf g = record { term = g.0; left = g.1 }
  factor_good m names atom_leaf g = record { term = g.0; left = g.1 }
  factor_good m names named g = record { term = g.0.1; left = g.1 }
  factor_good m names (group {ps = ps} s) g =
      let inner = sum_good m names s g.1 in
      record { term = sum_of_good m names ps inner.some inner.each; left = inner.left.1 }
  factor_good m names (counting {ps = ps} b s) g =
      let bound = bound_good m names b g.1 in
      let inner = sum_good m names s bound.left.1 in
      record { term = (g.0, bound.range, sum_of_good m names ps inner.some inner.each); left = inner.left.1 }

abbrev pub GoodDefinitions : Mode → List (List ℕ) → List Definition → Type 0
GoodDefinitions m names [] = Unit {0}
GoodDefinitions m names (d ∷ ds) = IsName d.name × GoodTerm m names d.body × GoodDefinitions m names ds

definitions_good : {ts : List Token} {ds : List Definition} (m : Mode) (names : List (List ℕ)) → Definitions ts ds → Good m names true ts → GoodDefinitions m names ds
definitions_good m names text_end g = tt
definitions_good m names (defined {ps = ps} s later) g =
    let inner = sum_good m names s g.1.1 in
    (g.0, sum_of_good m names ps inner.some inner.each, definitions_good m names later inner.left.1)

-- the definitions of a text of good tokens
pub text_good : {ts : List Token} {k : Mode} {ds : List Definition} (m : Mode) (names : List (List ℕ)) → IsText ts k ds → Good m names true (drop 2 ts) → (0 < length ds) × GoodDefinitions m names ds
text_good m names (text later) g = (omega arith, definitions_good m names later g)
