-- What the machine reads to the end, the grammar has.
use Rattle.std.proofs.Common.{◌≡◌, ℕ, Bool, true, false, List, [], ◌∷◌, ◌++◌, refl, sym, ◌∙◌, ap, subst, subst₂, append_assoc, append-nil, codes, if◌then◌else◌}
use Rattle.std.specs.Cmp.Lexicographic.{same_text}
use Rattle.bz_model.specs.Spec.{Mode, Range}
use Rattle.spec_reader.specs.declared.tokens.Counting.{Counting}
use Rattle.spec_reader.specs.declared.tokens.Sign.{Sign}
use Rattle.spec_reader.specs.declared.tokens.Token.{Token}
use Rattle.spec_reader.specs.Tokens.{is_same}
use Rattle.spec_reader.specs.Grammar.{Term, Definition, sum_of, product_term, counted, without_bound, Bound, no_bound, at_least, at_most, exactly, Sum, MoreProducts, MoreFactors, Factor, summed, no_products, next_product, multiplied, no_factors, next_factor, empty_leaf, atom_leaf, named, group, counting, Definitions, text_end, defined, IsText, text, spelled_mode}
use Rattle.spec_reader.specs.Machine.{Frame, Wrap, bare, over, wrapped, Outer, LinesBefore, Place, ReaderState, Start, Moded, Lines, Named, Want, Counts, Signed, Bounded, Have, Done, Failed, range_by, finished_products, parenthesis_opened, with_one_more, sum_begun, mode_read, parenthesis_closed, line_over, text_over, step, run}

-- what a frame becomes by what follows
record Follows (ps us : List Term) (ts : List Token) (qs : List Term) (rest : List Token) : Type 0 where
  mid : List Token
  xs : List Term
  ys : List Term
  factors : MoreFactors ts xs mid
  products : MoreProducts mid ys rest
  whole : qs ≡ ps ++ product_term (us ++ xs) ∷ ys

-- the lines to come complete a text of these definitions
record Lined (b : LinesBefore) (ts : List Token) (m : Mode) (ds : List Definition) : Type 0 where
  further : List Definition
  reads : Definitions ts further
  mode_is : b.mode ≡ m
  whole : b.definitions ++ further ≡ ds
  first : Definition
  others : List Definition
  some : ds ≡ first ∷ others

-- the definitions before and one more
abbrev with_definition : LinesBefore → List ℕ → List Term → LinesBefore
with_definition b w qs = record { mode = b.mode; definitions = b.definitions ++ record { name = w; body = sum_of qs } ∷ [] }

-- the frames around a sum of these products are completed by the rest
abbrev Around : LinesBefore → List ℕ → List Outer → List Term → List Token → Mode → List Definition → Type 0
Around b w [] qs rest m ds = (later : List Token) × (rest ≡ Token.LineEnd ∷ later) × Lined (with_definition b w qs) later m ds
Around b w (o ∷ os) qs rest m ds = (later : List Token) × (rest ≡ Token.Close ∷ later) × (rs : List Term) × (last : List Token) × Follows o.frame.products (o.frame.factors ++ wrapped o.wrap (sum_of qs) ∷ []) later rs last × Around b w os rs last m ds

record Has (p : Place) (ts : List Token) (m : Mode) (ds : List Definition) : Type 0 where
  qs : List Term
  last : List Token
  follows : Follows p.frame.products p.frame.factors ts qs last
  around : Around p.before p.name p.outers qs last m ds

record Wants (p : Place) (ts : List Token) (m : Mode) (ds : List Definition) : Type 0 where
  x : Term
  next : List Token
  factor : Factor ts x next
  has : Has (with_one_more p x) next m ds

record Bounds (p : Place) (c : Counting) (ts : List Token) (m : Mode) (ds : List Definition) : Type 0 where
  range : Range
  inner : List Token
  bound : Bound c ts range (Token.Open ∷ inner)
  wants : Wants (parenthesis_opened p (over c range)) inner m ds

-- the tokens complete what a state has read to a text of these definitions
abbrev Completes : ReaderState → List Token → Mode → List Definition → Type 0
Completes Start ts m ds = IsText ts m ds
Completes (Moded k) ts m ds = (later : List Token) × (ts ≡ Token.LineEnd ∷ later) × Lined (record { mode = k; definitions = [] }) later m ds
Completes (Lines b) ts m ds = Lined b ts m ds
Completes (Named b w) ts m ds = (later : List Token) × (ts ≡ Token.Exactly ∷ later) × Wants (sum_begun b w) later m ds
Completes (Want p) ts m ds = Wants p ts m ds
Completes (Counts p c) ts m ds = Bounds p c ts m ds
Completes (Signed p c s) ts m ds = (k : ℕ) × (inner : List Token) × (ts ≡ Token.Number k ∷ Token.Open ∷ inner) × Wants (parenthesis_opened p (over c (range_by c s k))) inner m ds
Completes (Bounded p c r) ts m ds = (inner : List Token) × (ts ≡ Token.Open ∷ inner) × Wants (parenthesis_opened p (over c r)) inner m ds
Completes (Have p) ts m ds = Has p ts m ds
Completes (Done b) ts m ds = (ts ≡ []) × (b ≡ record { mode = m; definitions = ds })
Completes Failed ts m ds = ⊥

-- a sum up to its closing parenthesis, and what follows
record Grouped (p : Place) (w : Wrap) (ts : List Token) (m : Mode) (ds : List Definition) : Type 0 where
  qs : List Term
  mid : List Token
  reads : Sum ts qs (Token.Close ∷ mid)
  has : Has (with_one_more p (wrapped w (sum_of qs))) mid m ds

grouped : (p : Place) (w : Wrap) (ts : List Token) (m : Mode) (ds : List Definition) → Wants (parenthesis_opened p w) ts m ds → Grouped p w ts m ds
grouped p w ts m ds h =
    let f = h.has.follows in
    let a = h.has.around in
    let s : Sum ts (product_term (h.x ∷ f.xs) ∷ f.ys) h.has.last = summed (multiplied h.factor f.factors) f.products in
    record {
      qs = h.has.qs;
      mid = a.0;
      reads = subst₂ (λ qs r. Sum ts qs r) (sym f.whole) a.1 s;
      has = record { qs = a.2; last = a.3; follows = a.4; around = a.5 };
    }

-- a definition's sum up to the end of its line, and the lines that follow
record Ended (b : LinesBefore) (w : List ℕ) (ts : List Token) (m : Mode) (ds : List Definition) : Type 0 where
  qs : List Term
  mid : List Token
  reads : Sum ts qs (Token.LineEnd ∷ mid)
  lined : Lined (with_definition b w qs) mid m ds

ended : (b : LinesBefore) (w : List ℕ) (ts : List Token) (m : Mode) (ds : List Definition) → Wants (sum_begun b w) ts m ds → Ended b w ts m ds
ended b w ts m ds h =
    let f = h.has.follows in
    let a = h.has.around in
    let s : Sum ts (product_term (h.x ∷ f.xs) ∷ f.ys) h.has.last = summed (multiplied h.factor f.factors) f.products in
    record {
      qs = h.has.qs;
      mid = a.0;
      reads = subst₂ (λ qs r. Sum ts qs r) (sym f.whole) a.1 s;
      lined = a.2;
    }

-- nothing of a frame follows but the end of its sum
over_here : (f : Frame) (ts : List Token) → Follows f.products f.factors ts (finished_products f) ts
over_here f ts = record {
  mid = ts;
  xs = [];
  ys = [];
  factors = no_factors;
  products = no_products;
  whole = ap (λ vs. f.products ++ product_term vs ∷ []) (sym (append-nil f.factors));
}

moded : (k : Mode) (w : List ℕ) (ts : List Token) (m : Mode) (ds : List Definition) → w ≡ spelled_mode k → Completes (Moded k) ts m ds → IsText (Token.Name w ∷ ts) m ds
moded k w ts m ds e h =
    let l = h.2 in
    let more : Definitions h.0 (l.first ∷ l.others) = subst (λ es. Definitions h.0 es) (l.whole ∙ l.some) l.reads in
    let whole : IsText (Token.Name (spelled_mode k) ∷ Token.LineEnd ∷ h.0) k (l.first ∷ l.others) = text more in
    let named_so : IsText (Token.Name w ∷ Token.LineEnd ∷ h.0) k (l.first ∷ l.others) = subst (λ v. IsText (Token.Name v ∷ Token.LineEnd ∷ h.0) k (l.first ∷ l.others)) (sym e) whole in
    let at_tokens : IsText (Token.Name w ∷ ts) k (l.first ∷ l.others) = subst (λ rs. IsText (Token.Name w ∷ rs) k (l.first ∷ l.others)) (sym h.1) named_so in
    subst₂ (λ n es. IsText (Token.Name w ∷ ts) n es) l.mode_is (sym l.some) at_tokens

by_tests : (b c : Bool) (w : List ℕ) (ts : List Token) (m : Mode) (ds : List Definition) → (true ≡ b → w ≡ spelled_mode Mode.Unlabelled) → (true ≡ c → w ≡ spelled_mode Mode.Labelled) → Completes (if b then Moded Mode.Unlabelled else if c then Moded Mode.Labelled else Failed) ts m ds → IsText (Token.Name w ∷ ts) m ds
by_tests true c w ts m ds f g h = moded Mode.Unlabelled w ts m ds (f refl) h
by_tests false true w ts m ds f g h = moded Mode.Labelled w ts m ds (g refl) h
by_tests false false w ts m ds f g h = elim h [ ]

back_mode : (w : List ℕ) (ts : List Token) (m : Mode) (ds : List Definition) → Completes (mode_read w) ts m ds → IsText (Token.Name w ∷ ts) m ds
back_mode w ts m ds h = by_tests (is_same w (codes "unlabelled")) (is_same w (codes "labelled")) w ts m ds (same_text w (codes "unlabelled")) (same_text w (codes "labelled")) h

back : (s : ReaderState) (k : Token) (ts : List Token) (m : Mode) (ds : List Definition) → Completes (step s k) ts m ds → Completes s (k ∷ ts) m ds
back Start (Token.Name w) ts m ds h = back_mode w ts m ds h
back (Moded k) Token.LineEnd ts m ds h = (ts, refl, h)
back (Lines b) (Token.Name w) ts m ds h =
    let e = ended b w h.0 m ds h.2 in
    record {
      further = record { name = w; body = sum_of e.qs } ∷ e.lined.further;
      reads = subst (λ rs. Definitions (Token.Name w ∷ rs) (record { name = w; body = sum_of e.qs } ∷ e.lined.further)) (sym h.1) (defined e.reads e.lined.reads);
      mode_is = e.lined.mode_is;
      whole = sym (append_assoc b.definitions (record { name = w; body = sum_of e.qs } ∷ []) e.lined.further) ∙ e.lined.whole;
      first = e.lined.first;
      others = e.lined.others;
      some = e.lined.some;
    }
back (Lines b) Token.TextEnd ts m ds h = text_ends b b.definitions refl ts m ds h
  where
    text_ends : (b : LinesBefore) (es : List Definition) → es ≡ b.definitions → (ts : List Token) (m : Mode) (ds : List Definition) → Completes (text_over b es) ts m ds → Lined b (Token.TextEnd ∷ ts) m ds
    text_ends b [] e ts m ds h = elim h [ ]
    text_ends b (d ∷ es) e ts m ds h = record {
      further = [];
      reads = subst (λ rs. Definitions (Token.TextEnd ∷ rs) []) (sym h.0) text_end;
      mode_is = ap (λ (c : LinesBefore). c.mode) h.1;
      whole = append-nil b.definitions ∙ ap (λ (c : LinesBefore). c.definitions) h.1;
      first = d;
      others = es;
      some = sym (ap (λ (c : LinesBefore). c.definitions) h.1) ∙ sym e;
    }
back (Named b w) Token.Exactly ts m ds h = (ts, refl, h)
back (Want p) (Token.Empty w) ts m ds h = record { x = Term.empty w; next = ts; factor = empty_leaf; has = h }
back (Want p) (Token.Atom w) ts m ds h = record { x = Term.atom w; next = ts; factor = atom_leaf; has = h }
back (Want p) (Token.Name w) ts m ds h = record { x = Term.class w; next = ts; factor = named; has = h }
back (Want p) Token.Open ts m ds h =
    let g = grouped p bare ts m ds h in
    record { x = sum_of g.qs; next = g.mid; factor = group g.reads; has = g.has }
back (Want p) (Token.Counted c) ts m ds h =
    let g = grouped p (over c h.range) h.inner m ds h.wants in
    record { x = counted c h.range (sum_of g.qs); next = g.mid; factor = counting h.bound g.reads; has = g.has }
back (Counts p c) Token.Open ts m ds h = record { range = without_bound c; inner = ts; bound = no_bound; wants = h }
back (Counts p c) Token.AtLeast ts m ds h = record {
  range = range_by c Sign.Least h.0;
  inner = h.1;
  bound = subst (λ rs. Bound c (Token.AtLeast ∷ rs) (range_by c Sign.Least h.0) (Token.Open ∷ h.1)) (sym h.2) at_least;
  wants = h.3;
}
back (Counts p c) Token.AtMost ts m ds h = record {
  range = range_by c Sign.Most h.0;
  inner = h.1;
  bound = subst (λ rs. Bound c (Token.AtMost ∷ rs) (range_by c Sign.Most h.0) (Token.Open ∷ h.1)) (sym h.2) at_most;
  wants = h.3;
}
back (Counts p c) Token.Exactly ts m ds h = record {
  range = range_by c Sign.Exact h.0;
  inner = h.1;
  bound = subst (λ rs. Bound c (Token.Exactly ∷ rs) (range_by c Sign.Exact h.0) (Token.Open ∷ h.1)) (sym h.2) exactly;
  wants = h.3;
}
back (Signed p c s) (Token.Number k) ts m ds h = (k, h.0, ap (λ rs. Token.Number k ∷ rs) h.1, h.2)
back (Bounded p c r) Token.Open ts m ds h = (ts, refl, h)
back (Have p) Token.Star ts m ds h =
    let f = h.has.follows in
    record {
      qs = h.has.qs;
      last = h.has.last;
      around = h.has.around;
      follows = record {
        mid = f.mid;
        xs = h.x ∷ f.xs;
        ys = f.ys;
        factors = next_factor h.factor f.factors;
        products = f.products;
        whole = f.whole ∙ ap (λ vs. p.frame.products ++ product_term vs ∷ f.ys) (append_assoc p.frame.factors (h.x ∷ []) f.xs);
      };
    }
back (Have p) Token.Plus ts m ds h =
    let f = h.has.follows in
    record {
      qs = h.has.qs;
      last = h.has.last;
      around = h.has.around;
      follows = record {
        mid = Token.Plus ∷ ts;
        xs = [];
        ys = product_term (h.x ∷ f.xs) ∷ f.ys;
        factors = no_factors;
        products = next_product (multiplied h.factor f.factors) f.products;
        whole = f.whole ∙ append_assoc p.frame.products (product_term p.frame.factors ∷ []) (product_term (h.x ∷ f.xs) ∷ f.ys)
            ∙ ap (λ vs. p.frame.products ++ product_term vs ∷ product_term (h.x ∷ f.xs) ∷ f.ys) (sym (append-nil p.frame.factors));
      };
    }
back (Have p) Token.Close ts m ds h = closes p p.outers ts m ds h
  where
    closes : (p : Place) (os : List Outer) (ts : List Token) (m : Mode) (ds : List Definition) → Completes (parenthesis_closed p os) ts m ds → Has (record { before = p.before; name = p.name; frame = p.frame; outers = os }) (Token.Close ∷ ts) m ds
    closes p [] ts m ds h = elim h [ ]
    closes p (o ∷ os) ts m ds h = record {
      qs = finished_products p.frame;
      last = Token.Close ∷ ts;
      around = (ts, refl, h.qs, h.last, h.follows, h.around);
      follows = over_here p.frame (Token.Close ∷ ts);
    }
back (Have p) Token.LineEnd ts m ds h = ends p p.outers ts m ds h
  where
    ends : (p : Place) (os : List Outer) (ts : List Token) (m : Mode) (ds : List Definition) → Completes (line_over p os) ts m ds → Has (record { before = p.before; name = p.name; frame = p.frame; outers = os }) (Token.LineEnd ∷ ts) m ds
    ends p [] ts m ds h = record { qs = finished_products p.frame; last = Token.LineEnd ∷ ts; around = (ts, refl, h); follows = over_here p.frame (Token.LineEnd ∷ ts) }
    ends p (o ∷ os) ts m ds h = elim h [ ]
back _ _ ts m ds h = elim h [ ]

sound : (s : ReaderState) (ts : List Token) (m : Mode) (ds : List Definition) → run s ts ≡ Done (record { mode = m; definitions = ds }) → Completes s ts m ds
sound (Done b) [] m ds e = (refl, cc)
sound s [] m ds e = absurd (cc)
sound s (k ∷ ts) m ds e = back s k ts m ds (sound (step s k) ts m ds e)

-- Where the machine reads tokens to the end with a mode and definitions, the tokens are a text of
-- the grammar with these.
pub accepts : (ts : List Token) (m : Mode) (ds : List Definition) → run Start ts ≡ Done (record { mode = m; definitions = ds }) → IsText ts m ds
accepts ts m ds e = sound Start ts m ds e
