-- From what the machine has read to what the grammar says.
use Rattle.std.proofs.Common.{◌≡◌, ◌⊎◌, inl, inr, ℕ, zero, suc, ◌+◌, ◌<◌, ◌≤◌, Bool, true, false, if◌then◌else◌, List, [], ◌∷◌, ◌++◌, length, take, drop, get_or, refl, sym, ◌∙◌, ap, subst, arith, length-append}
use Rattle.bz_model.specs.Spec.{Mode, Range}
use Rattle.spec_reader.specs.declared.tokens.Counting.{Counting}
use Rattle.spec_reader.specs.declared.tokens.Token.{Token}
use Rattle.spec_reader.specs.declared.tokens.Placed.{Placed}
use Rattle.spec_reader.specs.declared.sums.Expects.{Expects}
use Rattle.spec_reader.specs.Grammar.{Term, Definition, IsText, text, Definitions, text_end, defined, Sum, MoreProducts, Product, MoreFactors, Factor, summed, no_products, next_product, multiplied, no_factors, next_factor, empty_leaf, atom_leaf, named, group, counting, Bound, no_bound, at_least, at_most, exactly}
use Rattle.spec_reader.specs.Machine.{ReaderState, Start, Lines, Named, Want, Counts, Signed, Bounded, Have, Done, Failed, Moded, LinesBefore, text_over, step, run}
use Rattle.spec_reader.specs.Tables.{names_of}
use Rattle.spec_reader.specs.Reading.{plain_tokens, IsMisplaced}
use Rattle.spec_reader.specs.Faults.{line_names, with_names, ends_line, defined_by, is_among}
use Rattle.spec_reader.specs.Building.{KeptSoFar, Represents, RestsOn, BreaksAt, EndsText, IsParsed, IsNamed}
use Rattle.spec_reader.proofs.Taking.{represented}
use Rattle.spec_reader.proofs.Viable.{may_go_on, must_stop, run-append}
use Rattle.spec_reader.proofs.Numbering.{map-snoc, length-mapped}

take_one_more : (ts : List Placed) (i : ℕ) (t : Placed) → i < length ts → t ≡ get_or ts i t → take (i + 1) ts ≡ take i ts ++ t ∷ []
take_one_more [] i t h e = absurd (omega arith)
take_one_more (u ∷ ts) zero t h e = ap (λ v. v ∷ []) (sym e)
take_one_more (u ∷ ts) (suc i) t h e =
    let lt : i < length ts = omega arith in
    let next : suc i + 1 ≡ suc (i + 1) = omega arith in
    ap (λ n. take n (u ∷ ts)) next ∙ ap (λ us. u ∷ us) (take_one_more ts i t lt e)

split_at : (ts : List Placed) (i : ℕ) (t : Placed) → i < length ts → t ≡ get_or ts i t → ts ≡ take i ts ++ t ∷ drop (i + 1) ts
split_at [] i t h e = absurd (omega arith)
split_at (u ∷ ts) zero t h e = ap (λ v. v ∷ ts) (sym e)
split_at (u ∷ ts) (suc i) t h e =
    let lt : i < length ts = omega arith in
    let next : suc (i + 1) ≡ suc i + 1 = omega arith in
    ap (λ us. u ∷ us) (split_at ts i t lt e) ∙ ap (λ n. u ∷ take i ts ++ t ∷ drop n (u ∷ ts)) next

-- the first token that fails the machine is the first that can't stand
pub misplaced : (ts : List Placed) (i : ℕ) (t : Placed) → BreaksAt Start ts i → t ≡ get_or ts i t → IsMisplaced ts t.line t.column
misplaced ts i t f e = record {
  token = t;
  before = take i ts;
  behind = drop (i + 1) ts;
  is_there = split_at ts i t f.within e;
  begins = may_go_on (plain_tokens (take i ts)) f.goes_on;
  ends = must_stop (plain_tokens (take i ts ++ t ∷ [])) (ap (λ us. run Start (plain_tokens us)) (sym (take_one_more ts i t f.within e)) ∙ f.fails);
  line_is = refl;
  column_is = refl;
}

-- behind the first two tokens
pub skip_two : (ts rest : List Placed) (s : ReaderState) (i : ℕ) → 2 ≤ length ts → run Start (plain_tokens (take 2 ts)) ≡ s → rest ≡ drop 2 ts → BreaksAt s rest i → BreaksAt Start ts (i + 2)
skip_two [] rest s i h e r f = absurd (omega arith)
skip_two (a ∷ []) rest s i h e r f = absurd (omega arith)
skip_two (a ∷ b ∷ ts) rest s i h e r f =
    let two : i + 2 ≡ suc (suc i) = omega arith in
    let three : i + 2 + 1 ≡ suc (suc (i + 1)) = omega arith in
    let along : (n : ℕ) → run Start (plain_tokens (take (suc (suc n)) (a ∷ b ∷ ts))) ≡ run s (plain_tokens (take n rest)) = λ n. ap (λ q. run q (plain_tokens (take n ts))) e ∙ ap (λ us. run s (plain_tokens (take n us))) (sym r) in
    let shorter = ap length r in
    record {
      within = omega (arith, f.within, shorter);
      goes_on = λ fails. f.goes_on (sym (along i) ∙ sym (ap (λ n. run Start (plain_tokens (take n (a ∷ b ∷ ts)))) two) ∙ fails);
      fails = ap (λ n. run Start (plain_tokens (take n (a ∷ b ∷ ts)))) three ∙ along (i + 1) ∙ f.fails;
    }

-- the end of the text ends the machine, or fails it
ended_or_failed : (s : ReaderState) → (step s Token.TextEnd ≡ Failed) ⊎ ((b : LinesBefore) × (step s Token.TextEnd ≡ Done b))
ended_or_failed Start = inl refl
ended_or_failed (Moded m) = inl refl
ended_or_failed (Lines b) = over_or_failed b b.definitions
  where
    over_or_failed : (b : LinesBefore) (ds : List Definition) → (text_over b ds ≡ Failed) ⊎ ((c : LinesBefore) × (text_over b ds ≡ Done c))
    over_or_failed b [] = inl refl
    over_or_failed b (d ∷ ds) = inr (b, refl)
ended_or_failed (Named b w) = inl refl
ended_or_failed (Want p) = inl refl
ended_or_failed (Counts p c) = inl refl
ended_or_failed (Signed p c s) = inl refl
ended_or_failed (Bounded p c r) = inl refl
ended_or_failed (Have p) = inl refl
ended_or_failed (Done b) = inl refl
ended_or_failed Failed = inl refl

-- behind the end of the text no line begins
no_lines : (s : ReaderState) (b : LinesBefore) → ¬ (step s Token.TextEnd ≡ Lines b)
no_lines s b e = elim (ended_or_failed s) [ inl f ↦ absurd (cc f) | inr d ↦ (let h : Lines b ≡ Done d.0 = sym e ∙ d.1 in absurd (cc)) ]

-- Where tokens end with the end of the text and the first two bring the machine to whole lines,
-- those behind the two end so too.
pub ended_rest : (ts rest : List Placed) (b : LinesBefore) → EndsText ts → 2 ≤ length ts → run Start (plain_tokens (take 2 ts)) ≡ Lines b → rest ≡ drop 2 ts → EndsText rest
ended_rest ts rest b ended h e r = by_front ts rest b ended.front ended.last ended.is ended.ends h e r
  where
    by_front : (ts rest : List Placed) (b : LinesBefore) (front : List Placed) (last : Placed) → ts ≡ front ++ last ∷ [] → last.token ≡ Token.TextEnd → 2 ≤ length ts → run Start (plain_tokens (take 2 ts)) ≡ Lines b → rest ≡ drop 2 ts → EndsText rest
    by_front ts rest b [] last is ends h e r = let long : 2 ≤ length (last ∷ []) = subst (λ us. 2 ≤ length us) is h in absurd (omega arith)
    by_front ts rest b (a ∷ []) last is ends h e r =
        let e2 : run Start (plain_tokens (a ∷ last ∷ [])) ≡ Lines b = subst (λ us. run Start (plain_tokens (take 2 us)) ≡ Lines b) is e in
        let e3 : step (step Start a.token) Token.TextEnd ≡ Lines b = subst (λ t. step (step Start a.token) t ≡ Lines b) ends e2 in
        absurd (no_lines (step Start a.token) b e3)
    by_front ts rest b (a ∷ c ∷ front) last is ends h e r = record { front = front; last = last; is = r ∙ ap (λ us. drop 2 us) is; ends = ends }

-- what is represented at the end of the text
done_rests : (names : List (List ℕ)) (s : ReaderState) (b : LinesBefore) (e : Expects) (k : KeptSoFar) → Represents names s e k → s ≡ Done b → RestsOn names b k
done_rests names s b Expects.Line k r f = let h : Lines r.0 ≡ Done b = sym r.1 ∙ f in absurd (cc)
done_rests names s b Expects.Equals k r f = let h : Named r.0 r.1 ≡ Done b = sym r.2 ∙ f in absurd (cc)
done_rests names s b Expects.Factor k r f = let h : Want r.0 ≡ Done b = sym r.1 ∙ f in absurd (cc)
done_rests names s b (Expects.Count c) k r f = let h : Counts r.0 c ≡ Done b = sym r.1 ∙ f in absurd (cc)
done_rests names s b (Expects.Number c sign) k r f = let h : Signed r.0 c sign ≡ Done b = sym r.1 ∙ f in absurd (cc)
done_rests names s b (Expects.Open c range) k r f = let h : Bounded r.0 c _ ≡ Done b = sym r.1 ∙ f in absurd (cc)
done_rests names s b Expects.Joint k r f = let h : Have r.0 ≡ Done b = sym r.1 ∙ f in absurd (cc)
done_rests names s b Expects.Nothing k r f =
    let same : Done r.0 ≡ Done b = sym r.1 ∙ f in
    let before : r.0 ≡ b = cc in
    subst (λ c. RestsOn names c k) before r.2

-- the end of lines that were read
pub parsed : (m : Mode) (lines : List Placed) (names : List (List ℕ)) (e : Expects) (k : KeptSoFar) → EndsText lines → names ≡ with_names [] (line_names true (plain_tokens lines)) → Represents names (run (Lines (record { mode = m; definitions = [] })) (plain_tokens lines)) e k → IsParsed m lines k.draft
parsed m lines names e k ended names_are r =
    let from : ReaderState = Lines (record { mode = m; definitions = [] }) in
    let at_end : run from (plain_tokens lines) ≡ step (run from (plain_tokens ended.front)) Token.TextEnd = ap (λ us. run from (plain_tokens us)) ended.is ∙ ap (λ us. run from us) (map-snoc (λ (t : Placed). t.token) ended.front ended.last) ∙ run-append from (plain_tokens ended.front) (ended.last.token ∷ []) ∙ ap (λ t. step (run from (plain_tokens ended.front)) t) ended.ends in
    elim (ended_or_failed (run from (plain_tokens ended.front))) [
      | inl f ↦ absurd (represented names (run from (plain_tokens lines)) e k r (at_end ∙ f))
      | inr d ↦ (let done : run from (plain_tokens lines) ≡ Done d.0 = at_end ∙ d.1 in record { names = names; names_are = names_are; before = d.0; read = done; draft_is = (done_rests names (run from (plain_tokens lines)) d.0 e k r done).draft_is })
    ]

-- what is kept as lines begin
pub begins_so : (m : Mode) (lines : List Placed) (k : KeptSoFar) → IsNamed m lines k.draft → k.products ≡ [] → k.factors ≡ [] → k.outers ≡ [] → Represents (with_names [] (line_names true (plain_tokens lines))) (Lines (record { mode = m; definitions = [] })) Expects.Line k
begins_so m lines k n ps fs os = (record { mode = m; definitions = [] }, refl, record { draft_is = n; no_products = ps; no_factors = fs; no_outers = os })

-- the names of the lines behind a phrase are those behind it alone
bound_names : {c : Counting} {ts rest : List Token} {r : Range} → Bound c ts r rest → line_names false ts ≡ line_names false rest
bound_names no_bound = refl
bound_names at_least = refl
bound_names at_most = refl
bound_names exactly = refl

mutual
  sum_names : {ts rest : List Token} {ps : List Term} → Sum ts ps rest → line_names false ts ≡ line_names false rest
  sum_names (summed p more) = product_names p ∙ products_names more

  products_names : {ts rest : List Token} {ps : List Term} → MoreProducts ts ps rest → line_names false ts ≡ line_names false rest
  products_names no_products = refl
  products_names (next_product p more) = product_names p ∙ products_names more

  product_names : {ts rest : List Token} {us : List Term} → Product ts us rest → line_names false ts ≡ line_names false rest
  product_names (multiplied f more) = factor_names f ∙ factors_names more

  factors_names : {ts rest : List Token} {us : List Term} → MoreFactors ts us rest → line_names false ts ≡ line_names false rest
  factors_names no_factors = refl
  factors_names (next_factor f more) = factor_names f ∙ factors_names more

  factor_names : {ts rest : List Token} {t : Term} → Factor ts t rest → line_names false ts ≡ line_names false rest
  factor_names empty_leaf = refl
  factor_names atom_leaf = refl
  factor_names named = refl
  factor_names (group s) = sum_names s
  factor_names (counting b s) = bound_names b ∙ sum_names s

definitions_names : {ts : List Token} {ds : List Definition} → Definitions ts ds → line_names true ts ≡ names_of ds
definitions_names text_end = refl
definitions_names (defined {w = w} s more) = ap (λ ws. w ∷ ws) (sum_names s ∙ definitions_names more)

-- Behind the first two tokens of a text, the names that begin lines are those of its definitions,
-- in order.
pub text_names : {ts : List Token} {m : Mode} {ds : List Definition} → IsText ts m ds → line_names true (drop 2 ts) ≡ names_of ds
text_names (text more) = definitions_names more

-- a whole text was read
pub whole_read : (ts lines : List Placed) (s : ReaderState) (b : LinesBefore) → 2 ≤ length ts → run Start (plain_tokens (take 2 ts)) ≡ s → lines ≡ drop 2 ts → run s (plain_tokens lines) ≡ Done b → run Start (plain_tokens ts) ≡ Done b
whole_read [] lines s b h e r d = absurd (omega arith)
whole_read (t ∷ []) lines s b h e r d = absurd (omega arith)
whole_read (t ∷ u ∷ ts) lines s b h e r d = ap (λ q. run q (plain_tokens ts)) e ∙ ap (λ us. run s (plain_tokens us)) (sym r) ∙ d

-- Tokens behind the first two, taken without their places, are those behind the first two of all
-- tokens without their places.
pub plain-drop_two : (ts : List Placed) → plain_tokens (drop 2 ts) ≡ drop 2 (plain_tokens ts)
plain-drop_two [] = refl
plain-drop_two (t ∷ []) = refl
plain-drop_two (t ∷ u ∷ ts) = refl

-- there are at most as many names as tokens
few_lines : (starts : Bool) (ts : List Token) → length (line_names starts ts) ≤ length ts
few_lines starts [] = omega arith
few_lines starts (t ∷ ts) = omega (arith, length-append (defined_by starts t) (line_names (ends_line t) ts), few_defined starts t, few_lines (ends_line t) ts)
  where
    few_defined : (starts : Bool) (t : Token) → length (defined_by starts t) ≤ 1
    few_defined true (Token.Name w) = omega arith
    few_defined true _ = omega arith
    few_defined false t = omega arith

pub with_names_few : (names ws : List (List ℕ)) → length (with_names names ws) ≤ length names + length ws
with_names_few names [] = omega arith
with_names_few names (w ∷ ws) = omega (arith, with_names_few (if is_among names w then names else names ++ w ∷ []) ws, one_more names w (is_among names w))
  where
    one_more : (names : List (List ℕ)) (w : List ℕ) (b : Bool) → length (if b then names else names ++ w ∷ []) ≤ length names + 1
    one_more names w true = omega arith
    one_more names w false = omega (arith, length-append names (w ∷ []))

-- Different names that begin lines are at most as many as the tokens.
pub few_names : (ts : List Placed) → length (with_names [] (line_names true (plain_tokens ts))) ≤ length ts
few_names ts = omega (arith, with_names_few [] (line_names true (plain_tokens ts)), few_lines true (plain_tokens ts), length-mapped (λ (t : Placed). t.token) ts)
