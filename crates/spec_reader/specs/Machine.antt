-- The reader of tokens as a machine with a stack: one token a step.
use Rattle.std.specs.Prelude.{ℕ, if◌then◌else◌, List, [], ◌∷◌, ◌++◌, codes}
use Rattle.bz_model.specs.Spec.{Mode, Range}
use Rattle.spec_reader.specs.declared.tokens.Counting.{Counting}
use Rattle.spec_reader.specs.declared.tokens.Sign.{Sign}
use Rattle.spec_reader.specs.declared.tokens.Token.{Token}
use Rattle.spec_reader.specs.Tokens.{is_same}
use Rattle.spec_reader.specs.Grammar.{Term, Definition, sum_of, product_term, without_bound}
use Rattle.spec_reader.specs.Grammar.{from_on, range_up_to}
use Rattle.spec_reader.specs.Grammar.{just, counted}

-- What was read of a sum: its products before, and the factors of the product that is read.
pub record Frame : Type 0 where
  pub products : List Term
  pub factors : List Term

-- What a parenthesis makes of its sum: the sum itself, or a counted node over it.
pub data Wrap : Type 0 where
  bare : Wrap
  over : Counting → Range → Wrap

-- The term that a closed parenthesis stands for.
abbrev pub wrapped : Wrap → Term → Term
wrapped bare t = t
wrapped (over c r) t = counted c r t

-- A sum whose parenthesis is open: what was read of it before the parenthesis, and what the
-- parenthesis makes.
pub record Outer : Type 0 where
  pub frame : Frame
  pub wrap : Wrap

abbrev pub with_factor : Frame → Term → Frame
with_factor f t = record { products = f.products; factors = f.factors ++ t ∷ [] }

-- The product that was read is over.
abbrev pub next_product : Frame → Frame
next_product f = record { products = f.products ++ product_term f.factors ∷ []; factors = [] }

-- The products of a frame whose last product is over.
abbrev pub finished_products : Frame → List Term
finished_products f = f.products ++ product_term f.factors ∷ []

-- Nothing was read yet of a sum.
abbrev pub fresh : Frame
fresh = record { products = []; factors = [] }

-- The lines before the one that is read: the mode, and the definitions.
pub record LinesBefore : Type 0 where
  pub mode : Mode
  pub definitions : List Definition

-- The lines before and the sum that is read.
pub record Place : Type 0 where
  pub before : LinesBefore
  pub name : List ℕ
  pub frame : Frame
  pub outers : List Outer

-- The range that a sign and a number give.
abbrev pub range_by : Counting → Sign → ℕ → Range
range_by c Sign.Least k = from_on k
range_by c Sign.Most k = range_up_to c k
range_by c Sign.Exact k = just k

-- What was read, and so what may come next.
pub data ReaderState : Type 0 where
  -- nothing: the mode comes
  Start : ReaderState
  -- the mode: the end of its line comes
  Moded : Mode → ReaderState
  -- whole lines: a definition comes, or the end of the text where there is a definition
  Lines : LinesBefore → ReaderState
  -- a name that is defined: an equals sign comes
  Named : LinesBefore → List ℕ → ReaderState
  -- a part of a sum: a factor comes
  Want : Place → ReaderState
  -- a counted node's word: a bound or a parenthesis comes
  Counts : Place → Counting → ReaderState
  -- a bound's sign: a number comes
  Signed : Place → Counting → Sign → ReaderState
  -- a bound: a parenthesis comes
  Bounded : Place → Counting → Range → ReaderState
  -- a factor: a sign, a closing parenthesis or the end of the line comes
  Have : Place → ReaderState
  -- a whole text: nothing comes
  Done : LinesBefore → ReaderState
  -- no text begins so
  Failed : ReaderState

-- The sum within a parenthesis is read.
abbrev pub parenthesis_opened : Place → Wrap → Place
parenthesis_opened p w = record {
  before = p.before;
  name = p.name;
  frame = fresh;
  outers =
      record { frame = p.frame; wrap = w } ∷ p.outers;
}

-- The place with this frame.
abbrev pub with_frame : Place → Frame → Place
with_frame p f = record { before = p.before; name = p.name; frame = f; outers = p.outers }

-- The place where one more factor was read.
abbrev pub with_one_more : Place → Term → Place
with_one_more p t = with_frame p (with_factor p.frame t)

-- The parenthesis is closed; without an open one this can't come.
abbrev pub parenthesis_closed : Place → List Outer → ReaderState
parenthesis_closed p [] = Failed
parenthesis_closed p (o ∷ os) =
    Have (record {
      before = p.before;
      name = p.name;
      frame =
          with_factor o.frame (wrapped o.wrap (sum_of (finished_products p.frame)));
      outers = os;
    })

-- The definition ends with its line; with an open parenthesis it can't.
abbrev pub line_over : Place → List Outer → ReaderState
line_over p [] =
    Lines (record {
      mode = p.before.mode;
      definitions = p.before.definitions
          ++ record { name = p.name; body = sum_of (finished_products p.frame) } ∷ [];
    })
line_over p (o ∷ os) = Failed

-- The text may end after one definition or more.
abbrev pub text_over : LinesBefore → List Definition → ReaderState
text_over b [] = Failed
text_over b (d ∷ ds) = Done b

-- The mode that a word names.
abbrev pub mode_read : List ℕ → ReaderState
mode_read w =
    if is_same w (codes "unlabelled") then Moded Mode.Unlabelled else if is_same w
    (codes "labelled") then Moded Mode.Labelled else Failed

-- The place where a definition's sum begins.
abbrev pub sum_begun : LinesBefore → List ℕ → Place
sum_begun b w = record { before = b; name = w; frame = fresh; outers = [] }

-- One token more.
abbrev pub step : ReaderState → Token → ReaderState
step Start (Token.Name w) = mode_read w
step (Moded m) Token.LineEnd = Lines (record { mode = m; definitions = [] })
step (Lines b) (Token.Name w) = Named b w
step (Lines b) Token.TextEnd = text_over b b.definitions
step (Named b w) Token.Exactly = Want (sum_begun b w)
step (Want p) (Token.Empty w) = Have (with_one_more p (Term.empty w))
step (Want p) (Token.Atom w) = Have (with_one_more p (Term.atom w))
step (Want p) (Token.Name w) = Have (with_one_more p (Term.class w))
step (Want p) Token.Open = Want (parenthesis_opened p bare)
step (Want p) (Token.Counted c) = Counts p c
step (Counts p c) Token.Open = Want (parenthesis_opened p (over c (without_bound c)))
step (Counts p c) Token.AtLeast = Signed p c Sign.Least
step (Counts p c) Token.AtMost = Signed p c Sign.Most
step (Counts p c) Token.Exactly = Signed p c Sign.Exact
step (Signed p c s) (Token.Number k) = Bounded p c (range_by c s k)
step (Bounded p c r) Token.Open = Want (parenthesis_opened p (over c r))
step (Have p) Token.Star = Want p
step (Have p) Token.Plus = Want (with_frame p (next_product p.frame))
step (Have p) Token.Close = parenthesis_closed p p.outers
step (Have p) Token.LineEnd = line_over p p.outers
step _ _ = Failed

-- The tokens one after another.
abbrev pub run : ReaderState → List Token → ReaderState
run s [] = s
run s (t ∷ ts) = run (step s t) ts
