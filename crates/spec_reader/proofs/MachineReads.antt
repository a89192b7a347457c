-- What the grammar has, the machine reads.
use Rattle.std.proofs.Common.{◌≡◌, List, [], ◌∷◌, ◌++◌, refl, sym, ◌∙◌, ap, append_assoc, append-nil}
use Rattle.bz_model.specs.Spec.{Mode, Range}
use Rattle.spec_reader.specs.declared.tokens.Counting.{Counting}
use Rattle.spec_reader.specs.declared.tokens.Token.{Token}
use Rattle.spec_reader.specs.Grammar.{Term, Definition, sum_of, product_term, counted, Bound, no_bound, at_least, at_most, exactly, Sum, MoreProducts, Product, MoreFactors, Factor, summed, no_products, next_product, multiplied, no_factors, next_factor, empty_leaf, atom_leaf, named, group, counting, Definitions, text_end, defined, IsText, text, spelled_mode}
use Rattle.spec_reader.specs.Machine.{Frame, bare, over, LinesBefore, Place, ReaderState, Start, Moded, Lines, Want, Counts, Have, Done, finished_products, fresh, parenthesis_opened, with_frame, with_one_more, sum_begun, run}

abbrev pub frame : List Term → List Term → Frame
frame ps us = record { products = ps; factors = us }

abbrev at : Place → List Term → List Term → ReaderState
at p ps us = Have (with_frame p (frame ps us))

-- from a state the machine comes to a frame of this value, with these tokens left
record Reaches (s : ReaderState) (ts : List Token) (p : Place) (ps : List Term) (rest : List Token) : Type 0 where
  frame_read : Frame
  value_is : finished_products frame_read ≡ ps
  comes : run s ts ≡ run (Have (with_frame p frame_read)) rest

bound_run : {c : Counting} {ts rest inner : List Token} {r : Range} → Bound c ts r rest → rest ≡ Token.Open ∷ inner → (p : Place) → run (Counts p c) ts ≡ run (Want (parenthesis_opened p (over c r))) inner
bound_run {c = c} no_bound e p = ap (λ ts. run (Counts p c) ts) e
bound_run {c = c} (at_least {k = k}) e p = ap (λ ts. run (Counts p c) (Token.AtLeast ∷ Token.Number k ∷ ts)) e
bound_run {c = c} (at_most {k = k}) e p = ap (λ ts. run (Counts p c) (Token.AtMost ∷ Token.Number k ∷ ts)) e
bound_run {c = c} (exactly {k = k}) e p = ap (λ ts. run (Counts p c) (Token.Exactly ∷ Token.Number k ∷ ts)) e

mutual
  factor_run : {ts rest : List Token} {t : Term} → Factor ts t rest → (p : Place) → run (Want p) ts ≡ run (Have (with_one_more p t)) rest
  factor_run empty_leaf p = refl
  factor_run atom_leaf p = refl
  factor_run named p = refl
  factor_run (group {rest = rest} s) p =
      let r = sum_run s (parenthesis_opened p bare) in
      r.comes ∙ ap (λ qs. run (Have (with_one_more p (sum_of qs))) rest) r.value_is
  factor_run (counting {rest = rest} {c = c} {r = range} b s) p =
      let r = sum_run s (parenthesis_opened p (over c range)) in
      bound_run b refl p ∙ r.comes ∙ ap (λ qs. run (Have (with_one_more p (counted c range (sum_of qs)))) rest) r.value_is

  factors_run : {ts rest : List Token} {xs : List Term} → MoreFactors ts xs rest → (p : Place) (ps us : List Term) → run (at p ps us) ts ≡ run (at p ps (us ++ xs)) rest
  factors_run (no_factors {ts = ts}) p ps us = ap (λ vs. run (at p ps vs) ts) (sym (append-nil us))
  factors_run (next_factor {rest = rest} {t = t} {us = xs} x more) p ps us =
      factor_run x (with_frame p (frame ps us)) ∙ factors_run more p ps (us ++ t ∷ [])
      ∙ ap (λ vs. run (at p ps vs) rest) (append_assoc us (t ∷ []) xs)

  product_run : {ts rest : List Token} {us : List Term} → Product ts us rest → (p : Place) (ps : List Term) → run (Want (with_frame p (frame ps []))) ts ≡ run (at p ps us) rest
  product_run (multiplied {t = t} x more) p ps = factor_run x (with_frame p (frame ps [])) ∙ factors_run more p ps (t ∷ [])

  products_run : {ts rest : List Token} {qs : List Term} → MoreProducts ts qs rest → (p : Place) (ps us : List Term) → Reaches (at p ps us) ts p (ps ++ product_term us ∷ qs) rest
  products_run no_products p ps us = record { frame_read = frame ps us; value_is = refl; comes = refl }
  products_run (next_product {us = vs} {ps = qs} x more) p ps us =
      let r = products_run more p (ps ++ product_term us ∷ []) vs in
      record { frame_read = r.frame_read; value_is = r.value_is ∙ append_assoc ps (product_term us ∷ []) (product_term vs ∷ qs); comes = product_run x p (ps ++ product_term us ∷ []) ∙ r.comes }

  sum_run : {ts rest : List Token} {ps : List Term} → Sum ts ps rest → (p : Place) → Reaches (Want (with_frame p fresh)) ts p ps rest
  sum_run (summed {us = us} x more) p =
      let r = products_run more p [] us in
      record { frame_read = r.frame_read; value_is = r.value_is; comes = product_run x p [] ∙ r.comes }

-- the lines before, with these definitions more
abbrev pub also : LinesBefore → List Definition → LinesBefore
also b ds = record { mode = b.mode; definitions = b.definitions ++ ds }

definitions_run : {ts : List Token} {ds : List Definition} → Definitions ts ds → (b : LinesBefore) (d : Definition) → run (Lines (also b (d ∷ []))) ts ≡ Done (also b (d ∷ ds))
definitions_run text_end b d = over_more b.definitions b d
  where
    over_more : (ds : List Definition) (b : LinesBefore) (d : Definition) → run (Lines (record { mode = b.mode; definitions = ds ++ d ∷ [] })) (Token.TextEnd ∷ []) ≡ Done (record { mode = b.mode; definitions = ds ++ d ∷ [] })
    over_more [] b d = refl
    over_more (e ∷ ds) b d = refl
definitions_run (defined {rest = rest} {w = w} {ps = ps} {ds = ds} s more) b d =
    let from = also b (d ∷ []) in
    let r = sum_run s (sum_begun from w) in
    let e : Definition = record { name = w; body = sum_of ps } in
    r.comes ∙ ap (λ qs. run (Lines (also from (record { name = w; body = sum_of qs } ∷ []))) rest) r.value_is
    ∙ definitions_run more from e ∙ ap (λ es. Done (record { mode = b.mode; definitions = es })) (append_assoc b.definitions (d ∷ []) (e ∷ ds))

-- The machine reads the tokens of a text of the grammar to the end, with the text's mode and
-- definitions.
pub reads : {ts : List Token} {m : Mode} {ds : List Definition} → IsText ts m ds → run Start ts ≡ Done (record { mode = m; definitions = ds })
reads (text {m = m} (defined {ts = ts} {rest = rest} {w = w} {ps = ps} {ds = ds} s more)) =
    let none : LinesBefore = record { mode = m; definitions = [] } in
    let r = sum_run s (sum_begun none w) in
    moded m (Token.LineEnd ∷ Token.Name w ∷ Token.Exactly ∷ ts) ∙ r.comes ∙ ap (λ qs. run (Lines (also none (record { name = w; body = sum_of qs } ∷ []))) rest) r.value_is
    ∙ definitions_run more none (record { name = w; body = sum_of ps })
  where
    moded : (m : Mode) (ts : List Token) → run Start (Token.Name (spelled_mode m) ∷ ts) ≡ run (Moded m) ts
    moded Mode.Unlabelled ts = refl
    moded Mode.Labelled ts = refl
