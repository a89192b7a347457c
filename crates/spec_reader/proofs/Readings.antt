-- What is shown of a node reads as a term.
use Rattle.std.proofs.Common.{◌≡◌, ℕ, ◌≤◌, Bool, true, false, if◌then◌else◌, nat_eq, List, [], ◌∷◌, ◌++◌, length, map, codes, decimal, Some, refl, sym, ◌∙◌, ap, subst, arith, append_assoc, append-nil}
use Rattle.std.proofs.lemmas.Bool.{cond-true, eqb-true, eq-eqb}
use Rattle.bz_model.specs.Spec.{Mode, Range}
use Rattle.class_system.specs.Words.{IsLeafWord, IsName}
use Rattle.class_system.specs.Sound.{IsBound, IsTextRange}
use Rattle.class_system.specs.declared.canonical.Form.{Form}
use Rattle.class_system.specs.declared.canonical.Form.TheVariants as form
use Rattle.class_system.specs.CanonicalText.{Shown, single, bracketed, part_text, separated, shown_at, written_leaf, bound_text, counted_text, joined_text}
use Rattle.spec_reader.specs.declared.tokens.Counting.{Counting}
use Rattle.spec_reader.specs.declared.tokens.Token.{Token}
use Rattle.spec_reader.specs.Grammar.{Term, listed_terms, sum_of, product_term, least_count, without_bound, from_on, range_up_to, just, Bound, no_bound, at_least, at_most, exactly, Sum, MoreProducts, Product, MoreFactors, Factor, summed, no_products, next_product, multiplied, no_factors, next_factor, empty_leaf, atom_leaf, named, group, counting}
use Rattle.spec_reader.specs.Faults.{is_among}
use Rattle.spec_reader.proofs.Terms.{Suits}
use Rattle.spec_reader.proofs.Pieces.{Lexes, opened, opens_lexes, lexes_opens, lexes_both, plus, star, exactly_sign, least_sign, most_sign, bracket, run_lexes, name_lexes, bound_lexes, empty_lexes, atom_lexes}

-- a token within a line has no fault
abbrev pub IsFine : Mode → List (List ℕ) → Token → Type 0
IsFine m names (Token.Name w) = is_among names w ≡ true
IsFine m names (Token.Counted c) = Suits m c
IsFine m names Token.LineEnd = ⊥
IsFine m names _ = Unit {0}

abbrev pub AreFine : Mode → List (List ℕ) → List Token → Type 0
AreFine m names [] = Unit {0}
AreFine m names (t ∷ ts) = IsFine m names t × AreFine m names ts

both_fine : (m : Mode) (names : List (List ℕ)) (ts us : List Token) → AreFine m names ts → AreFine m names us → AreFine m names (ts ++ us)
both_fine m names [] us h k = k
both_fine m names (t ∷ ts) us h k = (h.0, both_fine m names ts us h.1 k)

-- tokens are a product that is this term
pub record ProductOf (tokens : List Token) (t : Term) : Type 0 where
  pub factors : List Term
  pub is : product_term factors ≡ t
  pub parses : (rest : List Token) → Product (tokens ++ rest) factors rest

-- tokens are a sum that is this term
pub record SumOf (tokens : List Token) (t : Term) : Type 0 where
  pub products : List Term
  pub is : sum_of products ≡ t
  pub parses : (rest : List Token) → Sum (tokens ++ rest) products rest

-- tokens are a factor, a product or a sum, as the form of a node's text says
abbrev pub Parses : Form → List Token → Term → Type 0
Parses form.Single tokens t = (rest : List Token) → Factor (tokens ++ rest) t rest
Parses form.Multiplied tokens t = ProductOf tokens t
Parses form.Summed tokens t = SumOf tokens t

one_factor : {tokens : List Token} {t : Term} → ((rest : List Token) → Factor (tokens ++ rest) t rest) → ProductOf tokens t
one_factor {t = t} f = record { factors = t ∷ []; is = refl; parses = λ rest. multiplied (f rest) no_factors }

one_product : {tokens : List Token} {t : Term} → ProductOf tokens t → SumOf tokens t
one_product {tokens = tokens} {t = t} p = record {
  products = t ∷ [];
  is = refl;
  parses = λ rest. subst (λ u. Sum (tokens ++ rest) (u ∷ []) rest) p.is (summed (p.parses rest) no_products);
}

-- Tokens that are a factor, a product or a sum for a term, as the form says, are a sum for the same
-- term.
pub as_sum : (f : Form) {tokens : List Token} {t : Term} → Parses f tokens t → SumOf tokens t
as_sum form.Single h = one_product (one_factor h)
as_sum form.Multiplied h = one_product h
as_sum form.Summed h = h

grouped : {tokens : List Token} {t : Term} → SumOf tokens t → (rest : List Token) → Factor ((Token.Open ∷ (tokens ++ Token.Close ∷ [])) ++ rest) t rest
grouped {tokens = tokens} {t = t} s rest =
    subst (λ us. Factor (Token.Open ∷ us) t rest) (sym (append_assoc tokens (Token.Close ∷ []) rest)) (subst (λ u. Factor (Token.Open ∷ (tokens ++ Token.Close ∷ rest)) u rest) s.is (group (s.parses (Token.Close ∷ rest))))

-- a node's text reads as a term
pub record Reads (m : Mode) (names : List (List ℕ)) (v : Shown) (t : Term) : Type 0 where
  pub tokens : List Token
  pub lexes : Lexes v.text tokens
  pub parses : Parses v.form tokens t
  pub fine : AreFine m names tokens

record SumPart (m : Mode) (names : List (List ℕ)) (text : List ℕ) (t : Term) : Type 0 where
  tokens : List Token
  lexes : Lexes text tokens
  product : ProductOf tokens t
  fine : AreFine m names tokens

record ProductPart (m : Mode) (names : List (List ℕ)) (text : List ℕ) (t : Term) : Type 0 where
  tokens : List Token
  lexes : Lexes text tokens
  factor : (rest : List Token) → Factor (tokens ++ rest) t rest
  fine : AreFine m names tokens

bracket_fine : (m : Mode) (names : List (List ℕ)) (tokens : List Token) → AreFine m names tokens → AreFine m names (Token.Open ∷ (tokens ++ Token.Close ∷ []))
bracket_fine m names tokens h = (tt, both_fine m names tokens (Token.Close ∷ []) h (tt, tt))

bracket_part : (m : Mode) (names : List (List ℕ)) (text : List ℕ) (t : Term) (tokens : List Token) → Lexes text tokens → SumOf tokens t → AreFine m names tokens → ProductPart m names (bracketed text) t
bracket_part m names text t tokens l s h = record {
  tokens = Token.Open ∷ (tokens ++ Token.Close ∷ []);
  lexes = opened (bracket l);
  factor = grouped s;
  fine = bracket_fine m names tokens h;
}

sum_part : (m : Mode) (names : List (List ℕ)) (f : Form) (text : List ℕ) (t : Term) → Reads m names (record { form = f; text = text }) t → SumPart m names (part_text form.Summed (record { form = f; text = text })) t
sum_part m names form.Single text t h = record { tokens = h.tokens; lexes = h.lexes; product = one_factor h.parses; fine = h.fine }
sum_part m names form.Multiplied text t h = record { tokens = h.tokens; lexes = h.lexes; product = h.parses; fine = h.fine }
sum_part m names form.Summed text t h =
    let b = bracket_part m names text t h.tokens h.lexes h.parses h.fine in
    record { tokens = b.tokens; lexes = b.lexes; product = one_factor b.factor; fine = b.fine }

product_part : (m : Mode) (names : List (List ℕ)) (f : Form) (text : List ℕ) (t : Term) → Reads m names (record { form = f; text = text }) t → ProductPart m names (part_text form.Multiplied (record { form = f; text = text })) t
product_part m names form.Single text t h = record { tokens = h.tokens; lexes = h.lexes; factor = h.parses; fine = h.fine }
product_part m names form.Multiplied text t h = bracket_part m names text t h.tokens h.lexes (one_product h.parses) h.fine
product_part m names form.Summed text t h = bracket_part m names text t h.tokens h.lexes h.parses h.fine

-- the texts of parts read as terms
pub data ReadEach (m : Mode) (names : List (List ℕ)) (shown : List Shown) : List ℕ → List Term → Type 0 where
  no_parts : ReadEach m names shown [] []
  more_parts : {p : ℕ} {ps : List ℕ} {t : Term} {ts : List Term} → Reads m names (shown_at shown p) t → ReadEach m names shown ps ts → ReadEach m names shown (p ∷ ps) (t ∷ ts)

regroup : (a b rest : List Token) (t : Token) → ((a ++ t ∷ []) ++ b) ++ rest ≡ a ++ (t ∷ (b ++ rest))
regroup a b rest t = append_assoc (a ++ t ∷ []) b rest ∙ append_assoc a (t ∷ []) (b ++ rest)

-- the parts of a union
record JoinedSum (m : Mode) (names : List (List ℕ)) (text : List ℕ) (ts : List Term) : Type 0 where
  tokens : List Token
  lexes : Lexes text tokens
  sum : (rest : List Token) → Sum (tokens ++ rest) ts rest
  fine : AreFine m names tokens

more_products : {ts rest : List Token} {us : List Term} → Sum ts us rest → MoreProducts (Token.Plus ∷ ts) us rest
more_products (summed p later) = next_product p later

first_product : {tokens : List Token} {t : Term} {us : List Term} (mid rest : List Token) → ProductOf tokens t → MoreProducts mid us rest → Sum (tokens ++ mid) (t ∷ us) rest
first_product {tokens = tokens} {us = us} mid rest p later = subst (λ u. Sum (tokens ++ mid) (u ∷ us) rest) p.is (summed (p.parses mid) later)

joined_sum : (m : Mode) (names : List (List ℕ)) (shown : List Shown) (p : ℕ) (t : Term) {ps : List ℕ} {ts : List Term} → Reads m names (shown_at shown p) t → ReadEach m names shown ps ts → JoinedSum m names (separated (codes " + ") (map (λ part. part_text form.Summed (shown_at shown part)) (p ∷ ps))) (t ∷ ts)
joined_sum m names shown p t h no_parts =
    let a = sum_part m names (shown_at shown p).form (shown_at shown p).text t h in
    record { tokens = a.tokens; lexes = a.lexes; sum = λ rest. first_product rest rest a.product no_products; fine = a.fine }
joined_sum m names shown p t h (more_parts {p = q} {t = u} {ts = us} k later) =
    let a = sum_part m names (shown_at shown p).form (shown_at shown p).text t h in
    let b = joined_sum m names shown q u k later in
    record {
      tokens = (a.tokens ++ Token.Plus ∷ []) ++ b.tokens;
      lexes = opens_lexes (lexes_opens a.lexes plus (λ rest. (refl, refl))) b.lexes;
      sum = λ rest. subst (λ vs. Sum vs (t ∷ u ∷ us) rest) (sym (regroup a.tokens b.tokens rest Token.Plus)) (first_product (Token.Plus ∷ (b.tokens ++ rest)) rest a.product (more_products (b.sum rest)));
      fine = both_fine m names (a.tokens ++ Token.Plus ∷ []) b.tokens (both_fine m names a.tokens (Token.Plus ∷ []) a.fine (tt, tt)) b.fine;
    }

-- the parts of a product
record JoinedProduct (m : Mode) (names : List (List ℕ)) (text : List ℕ) (ts : List Term) : Type 0 where
  tokens : List Token
  lexes : Lexes text tokens
  product : (rest : List Token) → Product (tokens ++ rest) ts rest
  fine : AreFine m names tokens

more_factors : {ts rest : List Token} {us : List Term} → Product ts us rest → MoreFactors (Token.Star ∷ ts) us rest
more_factors (multiplied f later) = next_factor f later

joined_product : (m : Mode) (names : List (List ℕ)) (shown : List Shown) (p : ℕ) (t : Term) {ps : List ℕ} {ts : List Term} → Reads m names (shown_at shown p) t → ReadEach m names shown ps ts → JoinedProduct m names (separated (codes "*") (map (λ part. part_text form.Multiplied (shown_at shown part)) (p ∷ ps))) (t ∷ ts)
joined_product m names shown p t h no_parts =
    let a = product_part m names (shown_at shown p).form (shown_at shown p).text t h in
    record { tokens = a.tokens; lexes = a.lexes; product = λ rest. multiplied (a.factor rest) no_factors; fine = a.fine }
joined_product m names shown p t h (more_parts {p = q} {t = u} {ts = us} k later) =
    let a = product_part m names (shown_at shown p).form (shown_at shown p).text t h in
    let b = joined_product m names shown q u k later in
    record {
      tokens = (a.tokens ++ Token.Star ∷ []) ++ b.tokens;
      lexes = opens_lexes (lexes_opens a.lexes star (λ rest. (refl, refl))) b.lexes;
      product = λ rest. subst (λ vs. Product vs (t ∷ u ∷ us) rest) (sym (regroup a.tokens b.tokens rest Token.Star)) (multiplied (a.factor (Token.Star ∷ (b.tokens ++ rest))) (more_factors (b.product rest)));
      fine = both_fine m names (a.tokens ++ Token.Star ∷ []) b.tokens (both_fine m names a.tokens (Token.Star ∷ []) a.fine (tt, tt)) b.fine;
    }

-- a union
pub union_reads : (m : Mode) (names : List (List ℕ)) (shown : List Shown) {parts : List ℕ} {ts : List Term} → ReadEach m names shown parts ts → 2 ≤ length parts → Reads m names (joined_text form.Summed (codes " + ") shown parts) (Term.union (listed_terms ts))
union_reads m names shown no_parts two = absurd (omega arith)
union_reads m names shown (more_parts h no_parts) two = absurd (omega arith)
union_reads m names shown (more_parts {p = p} {t = t} h (more_parts {t = u} {ts = us} k later)) two =
    let j = joined_sum m names shown p t h (more_parts k later) in
    record { tokens = j.tokens; lexes = j.lexes; parses = record { products = t ∷ u ∷ us; is = refl; parses = j.sum }; fine = j.fine }

-- a product
pub product_reads : (m : Mode) (names : List (List ℕ)) (shown : List Shown) {parts : List ℕ} {ts : List Term} → ReadEach m names shown parts ts → 2 ≤ length parts → Reads m names (joined_text form.Multiplied (codes "*") shown parts) (Term.product (listed_terms ts))
product_reads m names shown no_parts two = absurd (omega arith)
product_reads m names shown (more_parts h no_parts) two = absurd (omega arith)
product_reads m names shown (more_parts {p = p} {t = t} h (more_parts {t = u} {ts = us} k later)) two =
    let j = joined_product m names shown p t h (more_parts k later) in
    record { tokens = j.tokens; lexes = j.lexes; parses = record { factors = t ∷ u ∷ us; is = refl; parses = j.product }; fine = j.fine }

-- leaves and references
pub empty_reads : (m : Mode) (names : List (List ℕ)) (word : List ℕ) → IsLeafWord word → Reads m names (single (written_leaf (codes "E") word)) (Term.empty word)
empty_reads m names word w = record { tokens = Token.Empty word ∷ []; lexes = empty_lexes word w; parses = λ rest. empty_leaf; fine = (tt, tt) }

-- The text of an atom with a leaf's word reads as the term of this atom, without a fault.
pub atom_reads : (m : Mode) (names : List (List ℕ)) (word : List ℕ) → IsLeafWord word → Reads m names (single (written_leaf (codes "Z") word)) (Term.atom word)
atom_reads m names word w = record { tokens = Token.Atom word ∷ []; lexes = atom_lexes word w; parses = λ rest. atom_leaf; fine = (tt, tt) }

-- The text of a valid name that is among the defined ones reads as a reference to the class of this
-- name.
pub class_reads : (m : Mode) (names : List (List ℕ)) (name : List ℕ) → IsName name → is_among names name ≡ true → Reads m names (single name) (Term.class name)
class_reads m names name n among = record { tokens = Token.Name name ∷ []; lexes = name_lexes name n; parses = λ rest. named; fine = (among, tt) }

-- an operator with its bound
record Bounded (m : Mode) (names : List (List ℕ)) (c : Counting) (operator text : List ℕ) (r : Range) : Type 0 where
  tokens : List Token
  lexes : Lexes (operator ++ text) (Token.Counted c ∷ tokens)
  bound : (rest : List Token) → Bound c (tokens ++ rest) r rest
  fine : AreFine m names tokens

unbounded : (m : Mode) (names : List (List ℕ)) (c : Counting) (operator : List ℕ) → Lexes operator (Token.Counted c ∷ []) → Bounded m names c operator [] (without_bound c)
unbounded m names c operator l = record {
  tokens = [];
  lexes = subst (λ bs. Lexes bs (Token.Counted c ∷ [])) (sym (append-nil operator)) l;
  bound = λ rest. no_bound;
  fine = tt;
}

least_bound : (m : Mode) (names : List (List ℕ)) (c : Counting) (operator : List ℕ) (k : ℕ) → Lexes operator (Token.Counted c ∷ []) → IsBound k → Bounded m names c operator (codes ">=" ++ decimal k) (from_on k)
least_bound m names c operator k l b = record {
  tokens = Token.AtLeast ∷ Token.Number k ∷ [];
  lexes = lexes_both l (opens_lexes least_sign (bound_lexes k b)) (λ rest. (refl, refl));
  bound = λ rest. at_least;
  fine = (tt, (tt, tt));
}

most_bound : (m : Mode) (names : List (List ℕ)) (c : Counting) (operator : List ℕ) (k : ℕ) → Lexes operator (Token.Counted c ∷ []) → IsBound k → Bounded m names c operator (codes "<=" ++ decimal k) (range_up_to c k)
most_bound m names c operator k l b = record {
  tokens = Token.AtMost ∷ Token.Number k ∷ [];
  lexes = lexes_both l (opens_lexes most_sign (bound_lexes k b)) (λ rest. (refl, refl));
  bound = λ rest. at_most;
  fine = (tt, (tt, tt));
}

exact_bound : (m : Mode) (names : List (List ℕ)) (c : Counting) (operator : List ℕ) (k : ℕ) → Lexes operator (Token.Counted c ∷ []) → IsBound k → Bounded m names c operator (codes "=" ++ decimal k) (just k)
exact_bound m names c operator k l b = record {
  tokens = Token.Exactly ∷ Token.Number k ∷ [];
  lexes = lexes_both l (opens_lexes exactly_sign (bound_lexes k b)) (λ rest. (refl, refl));
  bound = λ rest. exactly;
  fine = (tt, (tt, tt));
}

least_case : (m : Mode) (names : List (List ℕ)) (c : Counting) (operator : List ℕ) (k : ℕ) → Lexes operator (Token.Counted c ∷ []) → IsBound k → (is_plain : Bool) → nat_eq k (least_count c) ≡ is_plain → Bounded m names c operator (if is_plain then [] else codes ">=" ++ decimal k) (from_on k)
least_case m names c operator k l b true e = subst (λ j. Bounded m names c operator [] (from_on j)) (sym (eqb-true k (least_count c) e)) (unbounded m names c operator l)
least_case m names c operator k l b false e = least_bound m names c operator k l b

most_case : (m : Mode) (names : List (List ℕ)) (c : Counting) (operator : List ℕ) (k : ℕ) → Lexes operator (Token.Counted c ∷ []) → IsBound k → (is_least : Bool) → nat_eq (least_count c) k ≡ is_least → Bounded m names c operator (if is_least then codes "=" ++ decimal k else codes "<=" ++ decimal k) (range_up_to c k)
most_case m names c operator k l b true e = subst (λ j. Bounded m names c operator (codes "=" ++ decimal k) (record { low = j; high = Some k })) (sym (eqb-true (least_count c) k e)) (exact_bound m names c operator k l b)
most_case m names c operator k l b false e = most_bound m names c operator k l b

bounded : (m : Mode) (names : List (List ℕ)) (c : Counting) (operator : List ℕ) (r : Range) → Lexes operator (Token.Counted c ∷ []) → IsTextRange (least_count c) r → Bounded m names c operator (bound_text (least_count c) r.low r.high) r
bounded m names c operator r l (IsTextRange.plain same) =
    subst (λ (q : Range). Bounded m names c operator (bound_text (least_count c) q.low q.high) q) (sym same)
    (subst (λ text. Bounded m names c operator text (without_bound c)) (sym (cond-true (nat_eq (least_count c) (least_count c)) [] (codes ">=" ++ decimal (least_count c)) (eq-eqb (least_count c) (least_count c) refl))) (unbounded m names c operator l))
bounded m names c operator r l (IsTextRange.at_least k b same) =
    subst (λ (q : Range). Bounded m names c operator (bound_text (least_count c) q.low q.high) q) (sym same) (least_case m names c operator k l b (nat_eq k (least_count c)) refl)
bounded m names c operator r l (IsTextRange.at_most k b same) =
    subst (λ (q : Range). Bounded m names c operator (bound_text (least_count c) q.low q.high) q) (sym same) (most_case m names c operator k l b (nat_eq (least_count c) k) refl)
bounded m names c operator r l (IsTextRange.exactly k b same) =
    subst (λ (q : Range). Bounded m names c operator (bound_text (least_count c) q.low q.high) q) (sym same)
    (subst (λ text. Bounded m names c operator text (just k)) (sym (cond-true (nat_eq k k) (codes "=" ++ decimal k) (codes "<=" ++ decimal k) (eq-eqb k k refl))) (exact_bound m names c operator k l b))

-- a counted node
pub counted_reads : (m : Mode) (names : List (List ℕ)) (c : Counting) (operator : List ℕ) (r : Range) (v : Shown) (t : Term) → Lexes operator (Token.Counted c ∷ []) → Suits m c → IsTextRange (least_count c) r → Reads m names v t → Reads m names (single (counted_text operator (least_count c) r v)) (Term.counted c r t)
counted_reads m names c operator r v t l suits range h =
    let b = bounded m names c operator r l range in
    let s = as_sum v.form h.parses in
    let inner = Token.Open ∷ (h.tokens ++ Token.Close ∷ []) in
    record {
      tokens = Token.Counted c ∷ (b.tokens ++ inner);
      lexes = opened (lexes_opens b.lexes (bracket h.lexes) (λ rest. (refl, refl)));
      parses = λ rest.
          let same : (b.tokens ++ inner) ++ rest ≡ b.tokens ++ (Token.Open ∷ (h.tokens ++ Token.Close ∷ rest)) = append_assoc b.tokens inner rest ∙ ap (λ us. b.tokens ++ (Token.Open ∷ us)) (append_assoc h.tokens (Token.Close ∷ []) rest) in
          subst (λ us. Factor (Token.Counted c ∷ us) (Term.counted c r t) rest) (sym same)
          (subst (λ u. Factor (Token.Counted c ∷ (b.tokens ++ (Token.Open ∷ (h.tokens ++ Token.Close ∷ rest)))) (Term.counted c r u) rest) s.is (counting (b.bound (Token.Open ∷ (h.tokens ++ Token.Close ∷ rest))) (s.parses (Token.Close ∷ rest))));
      fine = (suits, both_fine m names b.tokens inner b.fine (bracket_fine m names h.tokens h.fine));
    }

-- the operators
pub seq_lexes : Lexes (codes "Seq") (Token.Counted Counting.Seq ∷ [])
seq_lexes = run_lexes (codes "Seq") (Token.Counted Counting.Seq) (omega arith) refl refl

-- The word Set is the one token of sets before a break.
pub set_lexes : Lexes (codes "Set") (Token.Counted Counting.Set ∷ [])
set_lexes = run_lexes (codes "Set") (Token.Counted Counting.Set) (omega arith) refl refl

-- The word Cyc is the one token of cycles before a break.
pub cyc_lexes : Lexes (codes "Cyc") (Token.Counted Counting.Cyc ∷ [])
cyc_lexes = run_lexes (codes "Cyc") (Token.Counted Counting.Cyc) (omega arith) refl refl
