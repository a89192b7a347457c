-- Language 1: the language without bounds on numbers of parts. It knows no tokens of bounds and
-- numbers.
use Rattle.std.specs.Prelude.{◌≡◌, ℕ, List, [], ◌∷◌, map}
use Rattle.bz_model.specs.Spec.{Spec, Mode, plain_range}
use Rattle.spec_reader.specs.declared.tokens.Counting.{Counting}
use Rattle.spec_reader.specs.declared.tokens.Token.{Token}
use Rattle.spec_reader.specs.Grammar.{Term, Definition, empty, atom, class, counted, sum_of}
use Rattle.spec_reader.specs.Grammar.{product_term, without_bound, spelled_mode}

-- Sums of products of factors, none of them with a bound.
mutual
  pub data SumOne : List Token → List Term → List Token → Type 0 where
    summed_one : {ts mid rest : List Token} {us ps : List Term} → ProductOne ts us mid
        → MoreProductsOne mid ps rest → SumOne ts (product_term us ∷ ps) rest

  pub data MoreProductsOne : List Token → List Term → List Token → Type 0 where
    no_products_one : {ts : List Token} → MoreProductsOne ts [] ts
    next_product_one : {ts mid rest : List Token} {us ps : List Term} → ProductOne ts us mid
        → MoreProductsOne mid ps rest → MoreProductsOne (Token.Plus ∷ ts)
        (product_term us ∷ ps) rest

  pub data ProductOne : List Token → List Term → List Token → Type 0 where
    multiplied_one : {ts mid rest : List Token} {t : Term} {us : List Term} → FactorOne ts t mid
        → MoreFactorsOne mid us rest → ProductOne ts (t ∷ us) rest

  pub data MoreFactorsOne : List Token → List Term → List Token → Type 0 where
    no_factors_one : {ts : List Token} → MoreFactorsOne ts [] ts
    next_factor_one : {ts mid rest : List Token} {t : Term} {us : List Term} → FactorOne ts t mid
        → MoreFactorsOne mid us rest → MoreFactorsOne (Token.Star ∷ ts) (t ∷ us) rest

  pub data FactorOne : List Token → Term → List Token → Type 0 where
    empty_one : {ts : List Token} {w : List ℕ} → FactorOne (Token.Empty w ∷ ts) (empty w) ts
    atom_one : {ts : List Token} {w : List ℕ} → FactorOne (Token.Atom w ∷ ts) (atom w) ts
    named_one : {ts : List Token} {w : List ℕ} → FactorOne (Token.Name w ∷ ts) (class w) ts
    group_one : {ts rest : List Token} {ps : List Term} → SumOne ts ps (Token.Close ∷ rest)
        → FactorOne (Token.Open ∷ ts) (sum_of ps) rest
    counting_one : {ts rest : List Token} {c : Counting} {ps : List Term}
        → SumOne ts ps (Token.Close ∷ rest)
        → FactorOne (Token.Counted c ∷ Token.Open ∷ ts) (counted c (without_bound c)
        (sum_of ps)) rest

-- The lines of definitions up to the end of the text.
pub data DefinitionsOne : List Token → List Definition → Type 0 where
  end_one : DefinitionsOne (Token.TextEnd ∷ []) []
  defined_one : {ts rest : List Token} {w : List ℕ} {ps : List Term} {ds : List Definition}
      → SumOne ts ps (Token.LineEnd ∷ rest) → DefinitionsOne rest ds
      → DefinitionsOne (Token.Name w ∷ Token.Exactly ∷ ts) (record { name = w; body = sum_of ps }
      ∷ ds)

-- The tokens of a text of language 1.
pub data IsTextOne : List Token → Mode → List Definition → Type 0 where
  text_one : {ts : List Token} {m : Mode} {d : Definition} {ds : List Definition}
      → DefinitionsOne ts (d ∷ ds)
      → IsTextOne (Token.Name (spelled_mode m) ∷ Token.LineEnd ∷ ts) m (d ∷ ds)

-- Each node of a specification has its plain range.
abbrev pub IsPlainlyRanged : Spec → Type 0
IsPlainlyRanged s = s.ranges ≡ map plain_range s.nodes
