-- The grammar over tokens: from these tokens a phrase may be read, which leaves those tokens.
use Rattle.std.specs.Prelude.{ℕ, List, [], ◌∷◌, ◌++◌, codes, Some, None}
use Rattle.bz_model.specs.Spec.{Mode, Range}
use Rattle.spec_reader.specs.declared.tokens.Counting.{Counting}
use Rattle.spec_reader.specs.declared.tokens.Token.{Token}

-- What a sum says: a leaf with its word, a class by its name, a union, a product, or a counted node
-- with its range and its part.
mutual
  pub data Term : Type 0 where
    empty : (word : List ℕ) → Term
    atom : (word : List ℕ) → Term
    class : (name : List ℕ) → Term
    union : (parts : Terms) → Term
    product : (parts : Terms) → Term
    counted : (counting : Counting) → (range : Range) → (part : Term) → Term

  pub data Terms : Type 0 where
    none : Terms
    more : Term → Terms → Terms

-- The terms of a list.
abbrev pub listed_terms : List Term → Terms
listed_terms [] = none
listed_terms (t ∷ ts) = more t (listed_terms ts)

-- A sum of one product is that product.
abbrev pub sum_of : List Term → Term
sum_of (t ∷ []) = t
sum_of ts = union (listed_terms ts)

-- A product of one factor is that factor.
abbrev pub product_term : List Term → Term
product_term (t ∷ []) = t
product_term ts = product (listed_terms ts)

-- The least number of parts without a bound from below: a cycle has one part or more.
abbrev pub least_count : Counting → ℕ
least_count Counting.Seq = 0
least_count Counting.Set = 0
least_count Counting.Cyc = 1

-- The range without a bound.
abbrev pub without_bound : Counting → Range
without_bound c = record { low = least_count c; high = None }

-- The range from a number of parts on.
abbrev pub from_on : ℕ → Range
from_on k = record { low = k; high = None }

-- The range up to a number of parts.
abbrev pub range_up_to : Counting → ℕ → Range
range_up_to c k = record { low = least_count c; high = Some k }

-- The range of one number of parts.
abbrev pub just : ℕ → Range
just k = record { low = k; high = Some k }

-- The bound on the numbers of parts, which may be left out.
pub data Bound (c : Counting) : List Token → Range → List Token → Type 0 where
  no_bound : {ts : List Token} → Bound c ts (without_bound c) ts
  at_least : {ts : List Token} {k : ℕ}
      → Bound c (Token.AtLeast ∷ Token.Number k ∷ ts) (from_on k) ts
  at_most : {ts : List Token} {k : ℕ} → Bound c (Token.AtMost ∷ Token.Number k ∷ ts)
      (range_up_to c k) ts
  exactly : {ts : List Token} {k : ℕ} → Bound c (Token.Exactly ∷ Token.Number k ∷ ts) (just k) ts

-- Sums of products of factors.
mutual
  pub data Sum : List Token → List Term → List Token → Type 0 where
    summed : {ts mid rest : List Token} {us ps : List Term} → Product ts us mid
        → MoreProducts mid ps rest → Sum ts (product_term us ∷ ps) rest

  pub data MoreProducts : List Token → List Term → List Token → Type 0 where
    no_products : {ts : List Token} → MoreProducts ts [] ts
    next_product : {ts mid rest : List Token} {us ps : List Term} → Product ts us mid
        → MoreProducts mid ps rest → MoreProducts (Token.Plus ∷ ts) (product_term us ∷ ps) rest

  pub data Product : List Token → List Term → List Token → Type 0 where
    multiplied : {ts mid rest : List Token} {t : Term} {us : List Term} → Factor ts t mid
        → MoreFactors mid us rest → Product ts (t ∷ us) rest

  pub data MoreFactors : List Token → List Term → List Token → Type 0 where
    no_factors : {ts : List Token} → MoreFactors ts [] ts
    next_factor : {ts mid rest : List Token} {t : Term} {us : List Term} → Factor ts t mid
        → MoreFactors mid us rest → MoreFactors (Token.Star ∷ ts) (t ∷ us) rest

  pub data Factor : List Token → Term → List Token → Type 0 where
    empty_leaf : {ts : List Token} {w : List ℕ} → Factor (Token.Empty w ∷ ts) (empty w) ts
    atom_leaf : {ts : List Token} {w : List ℕ} → Factor (Token.Atom w ∷ ts) (atom w) ts
    named : {ts : List Token} {w : List ℕ} → Factor (Token.Name w ∷ ts) (class w) ts
    group : {ts rest : List Token} {ps : List Term} → Sum ts ps (Token.Close ∷ rest)
        → Factor (Token.Open ∷ ts) (sum_of ps) rest
    counting : {ts inner rest : List Token} {c : Counting} {r : Range} {ps : List Term}
        → Bound c ts r (Token.Open ∷ inner) → Sum inner ps (Token.Close ∷ rest)
        → Factor (Token.Counted c ∷ ts) (counted c r (sum_of ps)) rest

-- A definition has a name and what it stands for.
pub record Definition : Type 0 where
  pub name : List ℕ
  pub body : Term

-- The lines of definitions up to the end of the text.
pub data Definitions : List Token → List Definition → Type 0 where
  text_end : Definitions (Token.TextEnd ∷ []) []
  defined : {ts rest : List Token} {w : List ℕ} {ps : List Term} {ds : List Definition}
      → Sum ts ps (Token.LineEnd ∷ rest) → Definitions rest ds
      → Definitions (Token.Name w ∷ Token.Exactly ∷ ts) (record { name = w; body = sum_of ps } ∷ ds)

-- The word of a mode.
abbrev pub spelled_mode : Mode → List ℕ
spelled_mode Mode.Unlabelled = codes "unlabelled"
spelled_mode Mode.Labelled = codes "labelled"

-- The tokens of a text: the word of its mode, and one definition or more.
pub data IsText : List Token → Mode → List Definition → Type 0 where
  text : {ts : List Token} {m : Mode} {d : Definition} {ds : List Definition}
      → Definitions ts (d ∷ ds) → IsText (Token.Name (spelled_mode m) ∷ Token.LineEnd ∷ ts) m
      (d ∷ ds)

-- Some text begins with these tokens.
pub record Begins (ts : List Token) : Type 0 where
  pub further : List Token
  pub mode : Mode
  pub definitions : List Definition
  pub is_text : IsText (ts ++ further) mode definitions
