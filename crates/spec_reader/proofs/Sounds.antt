-- The tables of good definitions are sound.
use Rattle.std.proofs.Common.{◌≡◌, ℕ, zero, suc, ◌+◌, ◌<◌, ◌||◌, Bool, true, false, if◌then◌else◌, List, [], ◌∷◌, ◌++◌, length, map, drop, slice_get, Some, refl, sym, ◌∙◌, ap, subst, arith, append_assoc, append-nil, length-append}
use Rattle.bz_model.specs.Spec.{Spec, Mode, Node, Range}
use Rattle.class_system.specs.Words.{IsName}
use Rattle.class_system.specs.NodeOrder.{parts_of, Spans, SpanEach, tree, done, next}
use Rattle.class_system.specs.Sound.{IsSound, HasTwoParts, RefersBelow, HasLeafWord, SuitsMode, HasTextRange, IsTextRange}
use Rattle.spec_reader.specs.declared.tokens.Counting.{Counting}
use Rattle.spec_reader.specs.declared.tokens.Placed.{Placed}
use Rattle.spec_reader.specs.Tokens.{is_same}
use Rattle.spec_reader.specs.Grammar.{Term, Terms, none, more, least_count, Definition}
use Rattle.spec_reader.specs.Tables.{Row, uncounted, counting_node, class_number, with_term, with_terms, numbers, last_number, names_of, bodies_of, tables}
use Rattle.spec_reader.specs.Faults.{is_among}
use Rattle.spec_reader.specs.Reading.{StandFor}
use Rattle.spec_reader.proofs.Numbering.{last_number-snoc, length-mapped}
use Rattle.spec_reader.proofs.Lexical.{AreLexical}
use Rattle.spec_reader.proofs.Parsing.{plain-drop_two}
use Rattle.spec_reader.proofs.Terms.{Suits, how_many, GoodTerm, GoodTerms, GoodDefinitions, Good, good_tokens, text_good}

-- a row that a sound specification may have
record RowGood (m : Mode) (classes : ℕ) (r : Row) : Type 0 where
  two : HasTwoParts r.node
  refers : RefersBelow classes r.node
  word : HasLeafWord r.node
  suits : SuitsMode m r.node
  range : HasTextRange r.node r.range

abbrev RowsGood : Mode → ℕ → List Row → Type 0
RowsGood m classes [] = Unit {0}
RowsGood m classes (r ∷ rs) = RowGood m classes r × RowsGood m classes rs

rows_both : (m : Mode) (classes : ℕ) (rs qs : List Row) → RowsGood m classes rs → RowsGood m classes qs → RowsGood m classes (rs ++ qs)
rows_both m classes [] qs h k = k
rows_both m classes (r ∷ rs) qs h k = (h.0, rows_both m classes rs qs h.1 k)

class_below : (names : List (List ℕ)) (w : List ℕ) → is_among names w ≡ true → class_number names w < length names
class_below [] w e = absurd (cc)
class_below (n ∷ ns) w e = here_or_later (is_same n w) (class_number ns w) (length ns) (is_among ns w) e (λ among. class_below ns w among)
  where
    here_or_later : (b : Bool) (i len : ℕ) (among : Bool) → (b || among) ≡ true → (among ≡ true → i < len) → (if b then 0 else suc i) < suc len
    here_or_later true i len among e f = omega arith
    here_or_later false i len among e f = let below = f e in omega (arith, below)

numbers-length : (names : List (List ℕ)) (rows : List Row) (ts : Terms) → length (numbers names rows ts) ≡ how_many ts
numbers-length names rows none = refl
numbers-length names rows (more t ts) = ap suc (numbers-length names (with_term names rows t) ts)

counted_good : (m : Mode) (classes part : ℕ) (c : Counting) (r : Range) → Suits m c → IsTextRange (least_count c) r → RowGood m classes (record { node = counting_node c part; range = r })
counted_good m classes part Counting.Seq r s t = record { two = tt; refers = tt; word = tt; suits = tt; range = t }
counted_good m classes part Counting.Set r s t = record { two = tt; refers = tt; word = tt; suits = s; range = t }
counted_good m classes part Counting.Cyc r s t = record { two = tt; refers = tt; word = tt; suits = s; range = t }

mutual
  term_rows : (m : Mode) (names : List (List ℕ)) (rows : List Row) (t : Term) → GoodTerm m names t → RowsGood m (length names) rows → RowsGood m (length names) (with_term names rows t)
  term_rows m names rows (Term.empty w) g h = rows_both m (length names) rows _ h (record { two = tt; refers = tt; word = g; suits = tt; range = refl }, tt)
  term_rows m names rows (Term.atom w) g h = rows_both m (length names) rows _ h (record { two = tt; refers = tt; word = g; suits = tt; range = refl }, tt)
  term_rows m names rows (Term.class w) g h = rows_both m (length names) rows _ h (record { two = tt; refers = class_below names w g; word = tt; suits = tt; range = refl }, tt)
  term_rows m names rows (Term.union ts) g h =
      let few = numbers-length names rows ts in
      let enough = g.0 in
      rows_both m (length names) (with_terms names rows ts) _ (terms_rows m names rows ts g.1 h) (record { two = omega (arith, few, enough); refers = tt; word = tt; suits = tt; range = refl }, tt)
  term_rows m names rows (Term.product ts) g h =
      let few = numbers-length names rows ts in
      let enough = g.0 in
      rows_both m (length names) (with_terms names rows ts) _ (terms_rows m names rows ts g.1 h) (record { two = omega (arith, few, enough); refers = tt; word = tt; suits = tt; range = refl }, tt)
  term_rows m names rows (Term.counted c r t) g h = rows_both m (length names) (with_term names rows t) _ (term_rows m names rows t g.2 h) (counted_good m (length names) (last_number (with_term names rows t)) c r g.0 g.1, tt)

  terms_rows : (m : Mode) (names : List (List ℕ)) (rows : List Row) (ts : Terms) → GoodTerms m names ts → RowsGood m (length names) rows → RowsGood m (length names) (with_terms names rows ts)
  terms_rows m names rows none g h = h
  terms_rows m names rows (more t ts) g h = terms_rows m names (with_term names rows t) ts g.1 (term_rows m names rows t g.0 h)

-- a term's nodes stand behind the nodes before, with one node last
record Behind (rows all : List Row) : Type 0 where
  others : List Row
  is : all ≡ rows ++ others

record Ends (names : List (List ℕ)) (rows : List Row) (t : Term) : Type 0 where
  front : List Row
  last : Row
  is : with_term names rows t ≡ front ++ last ∷ []

ends_with : (names : List (List ℕ)) (rows : List Row) (t : Term) → Ends names rows t
ends_with names rows (Term.empty w) = record { front = rows; last = uncounted (Node.Empty w); is = refl }
ends_with names rows (Term.atom w) = record { front = rows; last = uncounted (Node.Atom w); is = refl }
ends_with names rows (Term.class w) = record { front = rows; last = uncounted (Node.Class (class_number names w)); is = refl }
ends_with names rows (Term.union ts) = record { front = with_terms names rows ts; last = uncounted (Node.Union (numbers names rows ts)); is = refl }
ends_with names rows (Term.product ts) = record { front = with_terms names rows ts; last = uncounted (Node.Product (numbers names rows ts)); is = refl }
ends_with names rows (Term.counted c r t) = record { front = with_term names rows t; last = record { node = counting_node c (last_number (with_term names rows t)); range = r }; is = refl }

next_number : (names : List (List ℕ)) (rows : List Row) (t : Term) → suc (last_number (with_term names rows t)) ≡ length (with_term names rows t)
next_number names rows t =
    let e = ends_with names rows t in
    let long : length (with_term names rows t) ≡ length e.front + 1 = ap length e.is ∙ length-append e.front (e.last ∷ []) in
    omega (arith, long)

further_on : (rows all : List Row) (r : Row) → Behind rows all → Behind rows (all ++ r ∷ [])
further_on rows all r b = record { others = b.others ++ r ∷ []; is = ap (λ qs. qs ++ r ∷ []) b.is ∙ append_assoc rows b.others (r ∷ []) }

mutual
  behind_term : (names : List (List ℕ)) (rows : List Row) (t : Term) → Behind rows (with_term names rows t)
  behind_term names rows (Term.empty w) = record { others = _; is = refl }
  behind_term names rows (Term.atom w) = record { others = _; is = refl }
  behind_term names rows (Term.class w) = record { others = _; is = refl }
  behind_term names rows (Term.union ts) = further_on rows (with_terms names rows ts) _ (behind_terms names rows ts)
  behind_term names rows (Term.product ts) = further_on rows (with_terms names rows ts) _ (behind_terms names rows ts)
  behind_term names rows (Term.counted c r t) = further_on rows (with_term names rows t) _ (behind_term names rows t)

  behind_terms : (names : List (List ℕ)) (rows : List Row) (ts : Terms) → Behind rows (with_terms names rows ts)
  behind_terms names rows none = record { others = []; is = sym (append-nil rows) }
  behind_terms names rows (more t ts) =
      let one = behind_term names rows t in
      let others = behind_terms names (with_term names rows t) ts in
      record { others = one.others ++ others.others; is = others.is ∙ ap (λ qs. qs ++ others.others) one.is ∙ append_assoc rows one.others others.others }

-- the nodes of rows
abbrev nodes_of : List Row → List Node
nodes_of rows = map (λ r. r.node) rows

at_end : (front rest : List Row) (r : Row) → slice_get (nodes_of (front ++ r ∷ rest)) (length front) ≡ Some r.node
at_end [] rest r = refl
at_end (q ∷ front) rest r = at_end front rest r

there : (nodes : List Node) (front rest : List Row) (r : Row) → nodes ≡ nodes_of ((front ++ r ∷ []) ++ rest) → slice_get nodes (last_number (front ++ r ∷ [])) ≡ Some r.node
there nodes front rest r e = rw (e, append_assoc front (r ∷ []) rest, last_number-snoc front r) (at_end front rest r)

here : (nodes : List Node) (front rest : List Row) (r : Row) → nodes ≡ nodes_of ((front ++ r ∷ []) ++ rest) → nodes ≡ nodes_of (front ++ r ∷ rest)
here nodes front rest r e = e ∙ ap (λ qs. nodes_of qs) (append_assoc front (r ∷ []) rest)

counted_parts : (c : Counting) (part : ℕ) → parts_of (counting_node c part) ≡ part ∷ []
counted_parts Counting.Seq part = refl
counted_parts Counting.Set part = refl
counted_parts Counting.Cyc part = refl

leaf_spans : (nodes : List Node) (rows rest : List Row) (n : Node) → parts_of n ≡ [] → nodes ≡ nodes_of ((rows ++ uncounted n ∷ []) ++ rest) → Spans nodes (length rows) (last_number (rows ++ uncounted n ∷ []))
leaf_spans nodes rows rest n no_parts e =
    let at = there nodes rows rest (uncounted n) e in
    tree n at (subst (λ ps. SpanEach nodes (length rows) ps (last_number (rows ++ uncounted n ∷ []))) (sym no_parts) (done (sym (last_number-snoc rows (uncounted n)))))

mutual
  term_spans : (nodes : List Node) (names : List (List ℕ)) (rows rest : List Row) (t : Term) → nodes ≡ nodes_of (with_term names rows t ++ rest) → Spans nodes (length rows) (last_number (with_term names rows t))
  term_spans nodes names rows rest (Term.empty w) e = leaf_spans nodes rows rest (Node.Empty w) refl e
  term_spans nodes names rows rest (Term.atom w) e = leaf_spans nodes rows rest (Node.Atom w) refl e
  term_spans nodes names rows rest (Term.class w) e = leaf_spans nodes rows rest (Node.Class (class_number names w)) refl e
  term_spans nodes names rows rest (Term.union ts) e =
      let front = with_terms names rows ts in
      let last = uncounted (Node.Union (numbers names rows ts)) in
      let inner = terms_span nodes names rows (last ∷ rest) ts (here nodes front rest last e) in
      tree last.node (there nodes front rest last e) (subst (λ n. SpanEach nodes (length rows) (numbers names rows ts) n) (sym (last_number-snoc front last)) inner)
  term_spans nodes names rows rest (Term.product ts) e =
      let front = with_terms names rows ts in
      let last = uncounted (Node.Product (numbers names rows ts)) in
      let inner = terms_span nodes names rows (last ∷ rest) ts (here nodes front rest last e) in
      tree last.node (there nodes front rest last e) (subst (λ n. SpanEach nodes (length rows) (numbers names rows ts) n) (sym (last_number-snoc front last)) inner)
  term_spans nodes names rows rest (Term.counted c r t) e =
      let front = with_term names rows t in
      let part = last_number front in
      let last : Row = record { node = counting_node c part; range = r } in
      let inner = term_spans nodes names rows (last ∷ rest) t (here nodes front rest last e) in
      let one : SpanEach nodes (length rows) (part ∷ []) (last_number (front ++ last ∷ [])) = next inner (done (next_number names rows t ∙ sym (last_number-snoc front last))) in
      tree last.node (there nodes front rest last e) (subst (λ ps. SpanEach nodes (length rows) ps (last_number (front ++ last ∷ []))) (sym (counted_parts c part)) one)

  terms_span : (nodes : List Node) (names : List (List ℕ)) (rows rest : List Row) (ts : Terms) → nodes ≡ nodes_of (with_terms names rows ts ++ rest) → SpanEach nodes (length rows) (numbers names rows ts) (length (with_terms names rows ts))
  terms_span nodes names rows rest none e = done refl
  terms_span nodes names rows rest (more t ts) e =
      let now = with_term names rows t in
      let others = behind_terms names now ts in
      let first = term_spans nodes names rows (others.others ++ rest) t (e ∙ ap (λ qs. nodes_of qs) (ap (λ qs. qs ++ rest) others.is ∙ append_assoc now others.others rest)) in
      let later = terms_span nodes names now rest ts e in
      next first (subst (λ n. SpanEach nodes n (numbers names now ts) (length (with_terms names now ts))) (sym (next_number names rows t)) later)

-- what holds of each row holds of each node
each_node : (P : Node → Type 0) (m : Mode) (classes : ℕ) (rows : List Row) → ((r : Row) → RowGood m classes r → P r.node) → RowsGood m classes rows → (i : ℕ) (n : Node) → slice_get (nodes_of rows) i ≡ Some n → P n
each_node P m classes [] f h i n e = absurd (cc)
each_node P m classes (r ∷ rows) f h zero n e = let same : r.node ≡ n = cc in subst P same (f r h.0)
each_node P m classes (r ∷ rows) f h (suc i) n e = each_node P m classes rows f h.1 i n e

each_range : (m : Mode) (classes : ℕ) (rows : List Row) → RowsGood m classes rows → (i : ℕ) (n : Node) (q : Range) → slice_get (nodes_of rows) i ≡ Some n → slice_get (map (λ r. r.range) rows) i ≡ Some q → HasTextRange n q
each_range m classes [] h i n q e k = absurd (cc)
each_range m classes (r ∷ rows) h zero n q e k =
    let same : r.node ≡ n = cc in
    let ranges : r.range ≡ q = cc in
    subst (λ x. HasTextRange x q) same (subst (λ y. HasTextRange r.node y) ranges h.0.range)
each_range m classes (r ∷ rows) h (suc i) n q e k = each_range m classes rows h.1 i n q e k

each_name : (m : Mode) (names : List (List ℕ)) (ds : List Definition) → GoodDefinitions m names ds → (i : ℕ) (w : List ℕ) → slice_get (names_of ds) i ≡ Some w → IsName w
each_name m names [] g i w e = absurd (cc)
each_name m names (d ∷ ds) g zero w e = let same : d.name ≡ w = cc in subst (λ x. IsName x) same g.0
each_name m names (d ∷ ds) g (suc i) w e = each_name m names ds g.2 i w e

bodies_good : (m : Mode) (names : List (List ℕ)) (ds : List Definition) → GoodDefinitions m names ds → GoodTerms m names (bodies_of ds)
bodies_good m names [] g = tt
bodies_good m names (d ∷ ds) g = (g.1, bodies_good m names ds g.2)

how_many_bodies : (ds : List Definition) → how_many (bodies_of ds) ≡ length (names_of ds)
how_many_bodies [] = refl
how_many_bodies (d ∷ ds) = ap suc (how_many_bodies ds)

pub tables_sound : (m : Mode) (ds : List Definition) → 0 < length ds → GoodDefinitions m (names_of ds) ds → IsSound (tables m ds)
tables_sound m ds some g =
    let names = names_of ds in
    let rows = with_terms names [] (bodies_of ds) in
    let good = terms_rows m names [] (bodies_of ds) (bodies_good m names ds g) tt in
    let as_many : length names ≡ length ds = length-mapped (λ (d : Definition). d.name) ds in
    record {
      a_class = omega (arith, as_many, some);
      bodies = numbers-length names [] (bodies_of ds) ∙ how_many_bodies ds;
      parts = record { at = each_node HasTwoParts m (length names) rows (λ r h. h.two) good };
      references = record { at = each_node (RefersBelow (length names)) m (length names) rows (λ r h. h.refers) good };
      order = subst (λ n. SpanEach (nodes_of rows) 0 (numbers names [] (bodies_of ds)) n) (sym (length-mapped (λ (r : Row). r.node) rows)) (terms_span (nodes_of rows) names [] [] (bodies_of ds) (ap (λ qs. nodes_of qs) (sym (append-nil rows))));
      names = record { at = each_name m names ds g };
      leaves = record { at = each_node HasLeafWord m (length names) rows (λ r h. h.word) good };
      modes = record { at = each_node (SuitsMode m) m (length names) rows (λ r h. h.suits) good };
      ranges = record { lengths = length-mapped (λ (r : Row). r.range) rows ∙ sym (length-mapped (λ (r : Row). r.node) rows); at = each_range m (length names) rows good };
    }

lexical_two : (ps : List Placed) → AreLexical ps → AreLexical (drop 2 ps)
lexical_two [] h = tt
lexical_two (p ∷ []) h = tt
lexical_two (p ∷ q ∷ ps) h = h.1.1

-- what tokens stand for is sound
pub stands_sound : (ts : List Placed) (s : Spec) → AreLexical ts → StandFor ts s → IsSound s
stands_sound ts s lexical f =
    let names = names_of f.definitions in
    let good = good_tokens f.mode names [] true (drop 2 ts) (lexical_two ts lexical) f.no_fault in
    let of_text = text_good f.mode names f.is_text (subst (λ us. Good f.mode names true us) (plain-drop_two ts) good) in
    subst (λ t. IsSound t) (sym f.tables_are) (tables_sound f.mode f.definitions of_text.0 of_text.1)
