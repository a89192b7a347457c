-- The tests of an entry, from what was made of its cells.
use Rattle.std.proofs.Common.{◌≡◌, ◌≢◌, ℕ, zero, suc, ◌+◌, ◌<◌, ◌≤◌, arith, get_or, drop-cons, inl, inr, List, [], ◌∷◌, ◌++◌, length, take, drop, refl, sym, ◌∙◌, ap, subst}
use Rattle.std.proofs.lemmas.List.{take_more}
use Rattle.std.specs.List.{AllByRecursion}
use Rattle.bz_model.specs.declared.cell.Bounds.{Bounds}
use Rattle.bz_model.specs.Fraction.{Fraction}
use Rattle.bz_model.specs.Measures.{size}
use Rattle.bz_model.specs.Object.{Object}
use Rattle.bz_model.specs.ObjectText.{object_text}
use Rattle.bz_model.specs.Run.{Kept, KeepsLabels}
use Rattle.bz_model.specs.Spec.{Spec, Mode}
use Rattle.bz_laws.proofs.Labelled.{one_to}
use Rattle.bz_laws.proofs.Makings.{fine}
use Rattle.class_system.specs.Sound.{IsSound}
use Rattle.entry_replay.specs.Replay.{entry_with, AreMadeOf}
use Rattle.entry_replay.proofs.Refusals.{made-of-one}
use Rattle.labelling.specs.LabelsByBits.{bits_in}
use Rattle.object_store.specs.declared.token.Token.{Token}
use Rattle.object_store.specs.Tokens.{IsOf, size_of, tokens_of}
use Rattle.object_store.proofs.Sizes.{size_of-tokens}
use Rattle.object_text.specs.Labels.{HasOneForEach}
use Rattle.shape_sampler.proofs.Numbers.{least_of, least_of-in}
use Rattle.size_window.specs.Follows.{MakesOf, IsMadeOfItsCells}
use Rattle.certificate.specs.declared.certificate.CertEntry.{CertEntry}
use Rattle.certificate.specs.declared.reason.Reason.TheVariants as reason
use Rattle.certificate.specs.declared.reason.Verdict.{Verdict}
use Rattle.certificate.specs.declared.reason.Verdict.TheVariants.{Valid, Invalid}
use Rattle.certificate.specs.Checks.{check, made_checks, entry_checks, entries_checks, IsNumberedNext, MakesSome, HasSize, HasText, IsSizedEntry, IsTextWith}
use Rattle.certificate.specs.Soundness.{IsSoundEntry, IsTextOfKept}
use Rattle.certificate.specs.Verdicts.{Check, FirstFails}
use Rattle.certificate.proofs.Chains.{passes-then, fails-first}

-- what is made of cells is of class 0, with a label for each atom in labelled mode
module _ (s : Spec) (x : Fraction) (greatest : ℕ) (tokens : List Token) (labels : List ℕ) (e : CertEntry) (m : IsMadeOfItsCells s x greatest (entry_with tokens labels e.cells.items)) where
  first-made : MakesOf s x greatest (least_of e.cells.items) m.kept
  first-made = m.made (least_of e.cells.items) (least_of-in e.cells.items)

  pub made-is-of : IsOf s 0 tokens
  made-is-of =
      let c = first-made.makes in
      record { body = c.0; is_body = c.1; object = m.kept.object; belongs = (fine s x c.2).0; spelled = m.entry.tokens }

  size-is : size m.kept.object ≡ size_of tokens
  size-is = sym (size_of-tokens m.kept.object) ∙ ap size_of m.entry.tokens

  one-each : (mode : Mode) → KeepsLabels mode (size m.kept.object) first-made.after m.kept.labels [] → HasOneForEach mode tokens labels
  one-each Mode.Unlabelled k = sym m.entry.labels ∙ k.0
  one-each Mode.Labelled k = ap length (sym m.entry.labels) ∙ (one_to (size m.kept.object) first-made.after m.kept.labels [] k).count ∙ size-is

  pub made-labels : HasOneForEach s.mode tokens labels
  made-labels = one-each s.mode first-made.labels

  -- an entry whose tests pass is sound
  pub made-sound : (least line : ℕ) → FirstFails (made_checks s least greatest line tokens labels e) Valid → IsSoundEntry s x least greatest e
  made-sound least line (inl p) = text-sound p.0 p.1
    where
      text-sound : IsSizedEntry least greatest (size_of tokens) e → FirstFails (check (IsTextWith s tokens labels e.text) (line + 1) reason.Text ∷ []) Valid → IsSoundEntry s x least greatest e
      text-sound sized (inl q) =
          let c = first-made.makes in
          let of : IsOf s 0 tokens = record { body = c.0; is_body = c.1; object = m.kept.object; belongs = (fine s x c.2).0; spelled = m.entry.tokens } in
          record {
            kept = m.kept;
            made = m.made;
            text = record { body = of.body; is_body = of.is_body; belongs = of.belongs; text_is = q.0.text_is of ∙ ap (object_text s of.body of.object of.belongs) (sym m.entry.labels) };
            size_is = size-is ∙ sized.size_is;
            from = sized.from;
            to = sized.to;
          }
      text-sound sized (inr q) = let no : ⊥ = (let d = q.1 in cc) in absurd no
  made-sound least line (inr q) = let no : ⊥ = (let d = q.1 in cc) in absurd no

module _ (s : Spec) (sound : IsSound s) (F : ℕ) (table : (level node : ℕ) → Bounds) (least greatest : ℕ) (e : CertEntry) where
  -- the tests of what was made are those of whatever is made of the cells
  module _ (tokens : List Token) (labels : List ℕ) (made : AreMadeOf s F table greatest e.cells.items tokens labels) (line : ℕ) where
    tokens-one : (others : List Token) (told : List ℕ) → AreMadeOf s F table greatest e.cells.items others told → (tokens ≡ others) × (labels ≡ told)
    tokens-one others told h = made-of-one s sound F table greatest e.cells.items tokens others labels told made h

    sized-all : IsSizedEntry least greatest (size_of tokens) e → HasSize s F table least greatest e
    sized-all z = record { size_is = λ others told h. ap size_of (sym (tokens-one others told h).0) ∙ z.size_is; from = z.from; to = z.to }

    text-all : IsTextWith s tokens labels e.text → HasText s F table greatest e
    text-all t = record { with_text = λ others told h. subst (λ ls. IsTextWith s others ls e.text) (tokens-one others told h).1 (subst (λ ts. IsTextWith s ts labels e.text) (tokens-one others told h).0 t) }

    pub made-verdict : (v : Verdict) → FirstFails (made_checks s least greatest line tokens labels e) v → FirstFails (check (HasSize s F table least greatest e) line reason.Object ∷ check (HasText s F table greatest e) (line + 1) reason.Text ∷ []) v
    made-verdict v (inl (z, inl (t, is))) = inl (sized-all z, inl (text-all t, is))
    made-verdict v (inl (z, inr (never, is))) = inl (sized-all z, inr ((λ h. never (h.with_text tokens labels made)), is))
    made-verdict v (inr (never, is)) = inr ((λ h. never (record { size_is = h.size_is tokens labels made; from = h.from; to = h.to })), is)

    -- with the tests before them
    pub entry-made : (number place : ℕ) (v : Verdict) → IsNumberedNext number place e → FirstFails (made_checks s least greatest line tokens labels e) v → FirstFails (entry_checks s F table least greatest number place line e) v
    entry-made number place v next h = inl (next, inl (record { tokens = tokens; labels = labels; made = made }, made-verdict v h))

  pub entry-not-next : (number place line : ℕ) → ¬ (IsNumberedNext number place e) → FirstFails (entry_checks s F table least greatest number place line e) (Invalid line reason.Object)
  entry-not-next number place line never = inr (never, refl)

  pub entry-none : (number place line : ℕ) → IsNumberedNext number place e → ((tokens : List Token) (labels : List ℕ) → ¬ (AreMadeOf s F table greatest e.cells.items tokens labels)) → FirstFails (entry_checks s F table least greatest number place line e) (Invalid (line + 2) reason.Cells)
  entry-none number place line next none = inl (next, inr ((λ m. none m.tokens m.labels m.made), refl))

-- What is said of entries after some of them.
pub record AreTested (s : Spec) (F : ℕ) (table : (level node : ℕ) → Bounds) (x : Fraction) (least greatest first : ℕ) (entries : List CertEntry) (index number place line : ℕ) : Type 0 where
  pub further : (v : Verdict) → FirstFails (entries_checks s F table least greatest number place line (drop index entries)) v → FirstFails (entries_checks s F table least greatest 0 0 first entries) v
  pub sound : AllByRecursion (IsSoundEntry s x least greatest) (take index entries)

module _ (s : Spec) (F : ℕ) (table : (level node : ℕ) → Bounds) (x : Fraction) (least greatest first : ℕ) (entries : List CertEntry) where
  -- none was tested yet
  pub tested-none : AreTested s F table x least greatest first entries 0 0 0 first
  tested-none = record { further = λ v h. h; sound = tt }

  module _ (index number place line : ℕ) (t : AreTested s F table x least greatest first entries index number place line) (e : CertEntry) (is : e ≡ get_or entries index e) (inside : index < length entries) where
    split : drop index entries ≡ e ∷ drop (suc index) entries
    split = drop-cons entries index e inside ∙ ap (λ d. d ∷ drop (suc index) entries) (sym is)

    whole : (v : Verdict) → FirstFails (entries_checks s F table least greatest number place line (e ∷ drop (suc index) entries)) v → FirstFails (entries_checks s F table least greatest 0 0 first entries) v
    whole v h = t.further v (subst (λ es. FirstFails (entries_checks s F table least greatest number place line es) v) (sym split) h)

    -- one more passes
    pub tested-more : (next there : ℕ) → next ≡ number + 1 → there ≡ line + 3 → FirstFails (entry_checks s F table least greatest number place line e) Valid → IsSoundEntry s x least greatest e → AreTested s F table x least greatest first entries (index + 1) next (e.place + bits_in e.cells.items) there
    tested-more next there one three ok sound = record {
      further = λ v h. whole v (passes-then (entry_checks s F table least greatest number place line e) (entries_checks s F table least greatest (suc number) (e.place + bits_in e.cells.items) (line + 3) (drop (suc index) entries)) v ok
          (subst (λ n. FirstFails (entries_checks s F table least greatest n (e.place + bits_in e.cells.items) (line + 3) (drop (suc index) entries)) v) (let z : next ≡ suc number = omega arith in z)
          (subst (λ l. FirstFails (entries_checks s F table least greatest next (e.place + bits_in e.cells.items) l (drop (suc index) entries)) v) three
          (subst (λ i. FirstFails (entries_checks s F table least greatest next (e.place + bits_in e.cells.items) there (drop i entries)) v) (let z : index + 1 ≡ suc index = omega arith in z) h))));
      sound = subst (AllByRecursion (IsSoundEntry s x least greatest)) (sym (take_more entries index e inside)) (all-more (take index entries) (get_or entries index e) t.sound (subst (IsSoundEntry s x least greatest) is sound));
    }
      where
        all-more : (es : List CertEntry) (d : CertEntry) → AllByRecursion (IsSoundEntry s x least greatest) es → IsSoundEntry s x least greatest d → AllByRecursion (IsSoundEntry s x least greatest) (es ++ d ∷ [])
        all-more [] d h i = (i, tt)
        all-more (b ∷ es) d h i = (h.0, all-more es d h.1 i)

    -- or fails
    pub tested-fails : (v : Verdict) → FirstFails (entry_checks s F table least greatest number place line e) v → v ≢ Valid → FirstFails (entries_checks s F table least greatest 0 0 first entries) v
    tested-fails v h n = whole v (fails-first (entry_checks s F table least greatest number place line e) (entries_checks s F table least greatest (suc number) (e.place + bits_in e.cells.items) (line + 3) (drop (suc index) entries)) v h n)

  -- all pass
  pub tested-all : (index number place line : ℕ) → length entries ≤ index → AreTested s F table x least greatest first entries index number place line → FirstFails (entries_checks s F table least greatest 0 0 first entries) Valid × AllByRecursion (IsSoundEntry s x least greatest) entries
  tested-all index number place line past t = (
    t.further Valid (subst (λ es. FirstFails (entries_checks s F table least greatest number place line es) Valid) (sym (drop_past entries index past)) refl),
    subst (AllByRecursion (IsSoundEntry s x least greatest)) (take_past entries index past) t.sound,
  )
    where
      drop_past : (es : List CertEntry) (i : ℕ) → length es ≤ i → drop i es ≡ []
      drop_past [] zero h = refl
      drop_past [] (suc i) h = refl
      drop_past (d ∷ es) zero h = let no : ⊥ = omega arith in absurd no
      drop_past (d ∷ es) (suc i) h = drop_past es i (omega arith)

      take_past : (es : List CertEntry) (i : ℕ) → length es ≤ i → take i es ≡ es
      take_past [] zero h = refl
      take_past [] (suc i) h = refl
      take_past (d ∷ es) zero h = let no : ⊥ = omega arith in absurd no
      take_past (d ∷ es) (suc i) h = ap (λ r. d ∷ r) (take_past es i (omega arith))
