-- What was replayed over a tape that begins with the bits of the cells is made of the cells.
use Rattle.std.proofs.Common.{◌≡◌, ℕ, ◌+◌, arith, Bool, List, [], ◌∷◌, ◌++◌, length, append-nil, refl, sym, ◌∙◌, ap, subst}
use Rattle.std.specs.Prelude.{Option, Some, None, Result, Ok, Err, IfOk, IfSome, IfNone, slice_get}
use Rattle.bz_model.specs.declared.cell.Bounds.{Bounds}
use Rattle.bz_model.specs.declared.cell.Cell.{Cell}
use Rattle.bz_model.specs.Cell.{spelled, AreInCells}
use Rattle.bz_model.specs.Making.{ClassMakes, Just}
use Rattle.bz_model.specs.Measures.{size}
use Rattle.bz_model.specs.Run.{KeepsLabels}
use Rattle.bz_model.specs.Fraction.{Fraction}
use Rattle.bz_model.specs.Spec.{Spec, Mode}
use Rattle.bit_tape.specs.Bits.{file_bit}
use Rattle.bit_tape.specs.Given.{HasBits}
use Rattle.bit_tape.proofs.GivenBits.{has_bits-first, has_bits-more}
use Rattle.labelling.proofs.SpelledLabels.{spelled-both}
use Rattle.object_store.specs.declared.token.Token.{Token}
use Rattle.object_store.specs.Tokens.{size_of}
use Rattle.object_store.proofs.Sizes.{size_of-tokens}
use Rattle.shape_sampler.specs.Answer.{ChoosesBy}
use Rattle.shape_sampler.specs.Belonging.{IsIdealShape}
use Rattle.shape_sampler.specs.Visit.{Chooser, Attempt}
use Rattle.shape_sampler.proofs.Numbers.{apart}
use Rattle.size_window.specs.Follows.{IsMadeOfItsCells}
use Rattle.size_window.specs.RunByBits.{Limits, Entry}
use Rattle.size_window.specs.Follows.{MakesOf}
use Rattle.size_window.proofs.Going.{GivesLabels, gives-none, gives-ideal}
use Rattle.size_window.proofs.Redrawing.{has-own}
use Rattle.entry_replay.specs.Replay.{entry_with, AreMadeOf, IsMadeFrom, IsMadeByTable, GetLabels, AreIdeally, IsLabelledBy}
use Rattle.entry_replay.proofs.Moving.{places, made-used, get-moves, SameLabels, get-one, IsReplayed, redrawn-replayed, replayed-redrawn, replayed-moves}

-- What was drawn over a tape: an attempt, and then labels with these further cells.
pub record HasDrawn (s : Spec) (F : ℕ) (table : (level node : ℕ) → Bounds) (greatest : ℕ) (bits : ℕ → Option Bool) (made : Attempt) (labels : List ℕ) (more : List Cell) (end : ℕ) : Type 0 where
  pub attempt : IsMadeByTable s F table greatest bits 0 made
  pub labelled : GetLabels s.mode bits (size_of made.tokens) made.used labels more end

module _ (s : Spec) (F : ℕ) (table : (level node : ℕ) → Bounds) (greatest : ℕ) (bits : ℕ → Option Bool) (made : Attempt) (labels : List ℕ) (more cells : List Cell) (end : ℕ) where
  -- the bits used end where those of the cells do
  own-end : (c : Chooser) → ChoosesBy s F table c → HasDrawn s F table greatest bits made labels more end → cells ≡ made.cells ++ more → HasBits bits 0 (spelled cells) → IsReplayed c greatest bits 0 (entry_with made.tokens labels cells)
  own-end c by d is have =
      let from = d.attempt.made_so c by in
      let both : HasBits bits 0 (spelled made.cells ++ spelled more) = subst (HasBits bits 0) (ap spelled is ∙ spelled-both made.cells more) have in
      let used = made-used c greatest bits 0 made from (has_bits-first bits 0 (spelled made.cells) (spelled more) both) in
      let further : HasBits bits made.used (spelled more) = subst (λ n. HasBits bits n (spelled more)) (sym used) (has_bits-more bits 0 (spelled made.cells) (spelled more) both) in
      let again = get-moves s.mode bits (size_of made.tokens) made.used labels more end d.labelled bits made.used further in
      let ends : made.used + length (spelled more) ≡ 0 + length (spelled cells) = ap (λ n. n + length (spelled more)) used ∙ places 0 made.cells more cells is in
      record {
        made = made;
        from = from;
        tokens = refl;
        size = refl;
        more = more;
        cells = is;
        labels = subst (λ m. GetLabels m bits (size_of made.tokens) made.used labels more (0 + length (spelled cells))) (ap (λ (t : Spec). t.mode) (sym by.same_spec))
            (subst (GetLabels s.mode bits (size_of made.tokens) made.used labels more) ends again);
      }

  -- it is made of the cells
  pub drawn-made : HasDrawn s F table greatest bits made labels more end → cells ≡ made.cells ++ more → HasBits bits 0 (spelled cells) → AreMadeOf s F table greatest cells made.tokens labels
  drawn-made d is have = record {
    redrawn = λ c by.
        replayed-redrawn c greatest (slice_get (spelled cells)) 0 (entry_with made.tokens labels cells)
        (replayed-moves c greatest bits 0 (entry_with made.tokens labels cells) (own-end c by d is have) (slice_get (spelled cells)) 0 (has-own (spelled cells)));
  }

gives : (s : Spec) (mode : Mode) → s.mode ≡ mode → (n : ℕ) (labels : List ℕ) (cells : List Cell) → AreIdeally mode n labels cells → GivesLabels s n labels cells
gives s Mode.Unlabelled is n labels cells h = subst (λ ls. GivesLabels s n ls cells) (sym h.0) (subst (λ cs. GivesLabels s n [] cs) (sym h.1) (gives-none s is n))
gives s Mode.Labelled is n labels cells h = gives-ideal s is n labels cells h

-- and ideal making makes it
pub drawn-ideally : (s : Spec) (x : Fraction) (greatest : ℕ) (tokens : List Token) (own more cells : List Cell) (labels : List ℕ) → IsIdealShape s x greatest tokens own → AreIdeally s.mode (size_of tokens) labels more → cells ≡ own ++ more → IsMadeOfItsCells s x greatest (entry_with tokens labels cells)
drawn-ideally s x greatest tokens own more cells labels shape ideal is = record {
  kept = record { object = shape.object; labels = labels };
  entry = record { tokens = shape.spelled; labels = refl };
  made = λ us inside. makes us (subst (λ cs. AreInCells us cs) is inside);
}
  where
    sized : size_of tokens ≡ size shape.object
    sized = ap size_of (sym shape.spelled) ∙ size_of-tokens shape.object

    gives-these : GivesLabels s (size_of tokens) labels more
    gives-these = gives s s.mode refl (size_of tokens) labels more ideal

    makes : (us : List Fraction) → AreInCells us (own ++ more) → MakesOf s x greatest us (record { object = shape.object; labels = labels })
    makes us inside =
        let p = apart us own more inside in
        record {
          room_left = shape.room_left;
          after = p.back;
          makes = subst (λ vs. ClassMakes s x 0 greatest vs (Just shape.object shape.room_left) p.back) (sym p.whole) (shape.made p.front p.back p.in_front);
          labels = subst (λ vs. KeepsLabels s.mode (size shape.object) vs labels []) (append-nil p.back) (subst (λ n. KeepsLabels s.mode n (p.back ++ []) labels []) sized (gives-these.gives p.back [] p.in_back));
        }

-- what holds of an answer that is there
pub some-of : {A E : Type 0} (P Q : A → Type 0) → ((a : A) → P a → Q a) → (r : Result (Option A) E) → IfOk r (λ o. IfSome o P) → IfOk r (λ o. IfSome o Q)
some-of P Q f (Ok None) h = tt
some-of P Q f (Ok (Some a)) h = f a h
some-of P Q f (Err e) h = tt

-- and where there is none
pub none-of : {A E : Type 0} (P Q : Type 0) → (P → Q) → (r : Result (Option A) E) → IfOk r (λ o. IfNone o P) → IfOk r (λ o. IfNone o Q)
none-of P Q f (Ok None) h = f h
none-of P Q f (Ok (Some a)) h = tt
none-of P Q f (Err e) h = tt

-- what is said of a labelling, in other words for the same mode, shelf, tokens and cells
pub moved : (P : Mode → (ℕ → Option Bool) → ℕ → List Cell → Type 0) (m n : Mode) (shelf bytes : List ℕ) (tokens others : List Token) (own cells : List Cell) → m ≡ n → shelf ≡ bytes → tokens ≡ others → own ≡ cells → P m (file_bit shelf) (size_of tokens) own → P n (file_bit bytes) (size_of others) cells
moved P m n shelf bytes tokens others own cells one two three four h =
    subst (λ k. P k (file_bit bytes) (size_of others) cells) one
    (subst (λ b. P m (file_bit b) (size_of others) cells) two
    (subst (λ t. P m (file_bit shelf) (size_of t) cells) three
    (subst (λ c. P m (file_bit shelf) (size_of tokens) c) four h)))

-- a labelled attempt is made of the cells
pub labelled-made : (s : Spec) (F : ℕ) (table : (level node : ℕ) → Bounds) (greatest : ℕ) (bits : ℕ → Option Bool) (made : Attempt) (labels : List ℕ) (cells : List Cell) (tokens : List Token) → IsMadeByTable s F table greatest bits 0 made → tokens ≡ made.tokens → IsLabelledBy s.mode bits (size_of made.tokens) made.used made.cells cells labels → HasBits bits 0 (spelled cells) → AreMadeOf s F table greatest cells tokens labels
labelled-made s F table greatest bits made labels cells tokens attempt is l have =
    subst (λ ts. AreMadeOf s F table greatest cells ts labels) (sym is)
    (drawn-made s F table greatest bits made labels l.more cells l.end (record { attempt = attempt; labelled = l.got }) l.whole have)

-- and ideally
pub labelled-ideally : (s : Spec) (x : Fraction) (greatest : ℕ) (bits : ℕ → Option Bool) (place : ℕ) (made : List Token) (own cells : List Cell) (labels : List ℕ) (tokens : List Token) → IsIdealShape s x greatest made own → tokens ≡ made → IsLabelledBy s.mode bits (size_of made) place own cells labels → IsMadeOfItsCells s x greatest (entry_with tokens labels cells)
labelled-ideally s x greatest bits place made own cells labels tokens shape is l =
    subst (λ ts. IsMadeOfItsCells s x greatest (entry_with ts labels cells)) (sym is)
    (drawn-ideally s x greatest made own l.more cells labels shape l.ideally l.whole)
