-- Texts of parts: with spaces, their least label, and rotated.
use Rattle.std.proofs.Common.{◌≡◌, ◌≢◌, ℕ, ◌+◌, ◌<◌, ◌≤◌, List, [], ◌∷◌, ◌++◌, take, drop, length, refl, sym, ◌∙◌, ap, append_assoc, append-nil, Bool, true, false, ◌⊎◌, inl, inr, get_or, add-one, drop-cons, take_all}
use Rattle.std.specs.Prelude.{nat_eq, if◌then◌else◌}
use Rattle.bz_model.specs.ObjectText.{PartText, spaced, lesser_label, least_of, rotated_to}
use Rattle.std.proofs.lemmas.Bool.Decides.{eqb_tells}
use Rattle.std.proofs.lemmas.Option.{slice_get-get_or}
use Rattle.class_system.proofs.Results.{take-at}
use Rattle.bz_laws.proofs.Items.{lesser-assoc}

-- The texts of parts with a space before each.
abbrev pub after_spaces : List PartText → List ℕ
after_spaces [] = []
after_spaces (p ∷ parts) = 32 ∷ p.text ++ after_spaces parts

-- The texts of parts joined by spaces are the first part's text, followed by each of the others
-- with a space before it.
pub spaced-first : (p : PartText) (parts : List PartText) → spaced (p ∷ parts) ≡ p.text ++ after_spaces parts
spaced-first p [] = sym (append-nil p.text)
spaced-first p (q ∷ parts) = ap (λ t. p.text ++ 32 ∷ t) (spaced-first q parts)

pub after_spaces-more : (parts : List PartText) (p : PartText) → after_spaces (parts ++ p ∷ []) ≡ after_spaces parts ++ (32 ∷ p.text)
after_spaces-more [] p = append-nil (32 ∷ p.text)
after_spaces-more (q ∷ parts) p = ap (λ t. 32 ∷ q.text ++ t) (after_spaces-more parts p) ∙ sym (append_assoc (32 ∷ q.text) (after_spaces parts) (32 ∷ p.text))

-- where a part was found, it comes first, and else it is passed
rotated-found : (label : ℕ) (seen rest : List PartText) (p : PartText) → p.least ≡ label → rotated_to label seen (p ∷ rest) ≡ (p ∷ rest) ++ seen
rotated-found label seen rest p e = go (nat_eq p.least label) (eqb_tells p.least label)
  where
    go : (b : Bool) → ((b ≡ true) × (p.least ≡ label)) ⊎ ((b ≡ false) × (p.least ≢ label)) → (if b then (p ∷ rest) ++ seen else rotated_to label (seen ++ p ∷ []) rest) ≡ (p ∷ rest) ++ seen
    go true t = refl
    go false (inl t) = absurd (let x = t.0 in cc)
    go false (inr t) = absurd (t.1 e)

rotated-passed : (label : ℕ) (seen rest : List PartText) (p : PartText) → (p.least ≢ label) → rotated_to label seen (p ∷ rest) ≡ rotated_to label (seen ++ p ∷ []) rest
rotated-passed label seen rest p e = go (nat_eq p.least label) (eqb_tells p.least label)
  where
    go : (b : Bool) → ((b ≡ true) × (p.least ≡ label)) ⊎ ((b ≡ false) × (p.least ≢ label)) → (if b then (p ∷ rest) ++ seen else rotated_to label (seen ++ p ∷ []) rest) ≡ rotated_to label (seen ++ p ∷ []) rest
    go false t = refl
    go true (inl t) = absurd (e t.1)
    go true (inr t) = absurd (let x = t.0 in cc)

module _ (label i : ℕ) (parts whole : List PartText) (d : PartText) (within : i < length parts) where
  next-part : drop i parts ≡ get_or parts i d ∷ drop (i + 1) parts
  next-part = rw (add-one, drop-cons parts i d) refl

  pub found-at : (get_or parts i d).least ≡ label → rotated_to label (take i parts) (drop i parts) ≡ whole → drop i parts ++ take i parts ≡ whole
  found-at e h = ap (λ ps. ps ++ take i parts) next-part ∙ sym (rotated-found label (take i parts) (drop (i + 1) parts) (get_or parts i d) e) ∙ ap (rotated_to label (take i parts)) (sym next-part) ∙ h

  pub passed-at : ((get_or parts i d).least ≢ label) → rotated_to label (take i parts) (drop i parts) ≡ whole → rotated_to label (take (i + 1) parts) (drop (i + 1) parts) ≡ whole
  passed-at e h = ap (λ ps. rotated_to label ps (drop (i + 1) parts)) (take-at parts i (get_or parts i d) (slice_get-get_or parts i d within)) ∙ sym (rotated-passed label (take i parts) (drop (i + 1) parts) (get_or parts i d) e) ∙ ap (rotated_to label (take i parts)) (sym next-part) ∙ h

  -- one part more under the least label
  pub least-next : (least : ℕ) → lesser_label least (least_of (drop i parts)) ≡ least_of parts → lesser_label (lesser_label least (get_or parts i d).least) (least_of (drop (i + 1) parts)) ≡ least_of parts
  least-next least h = lesser-assoc least (get_or parts i d).least (least_of (drop (i + 1) parts)) ∙ ap (λ ps. lesser_label least (least_of ps)) (sym next-part) ∙ h

  -- one text more
  pub spaces-next : (text before : List ℕ) → text ≡ before ++ after_spaces (take i parts) → (text ++ 32 ∷ []) ++ (get_or parts i d).text ≡ before ++ after_spaces (take (i + 1) parts)
  spaces-next text before h =
      let t : List ℕ = (get_or parts i d).text in
      let regrouped : ((before ++ after_spaces (take i parts)) ++ 32 ∷ []) ++ t ≡ before ++ (after_spaces (take i parts) ++ (32 ∷ t)) = simp append_assoc in
      ap (λ u. (u ++ 32 ∷ []) ++ t) h ∙ regrouped
      ∙ ap (λ u. before ++ u) (sym (after_spaces-more (take i parts) (get_or parts i d)))
      ∙ ap (λ ps. before ++ after_spaces ps) (sym (take-at parts i (get_or parts i d) (slice_get-get_or parts i d within)))

-- the first part, and all others with a space before each
pub spaces-all : (text middle before : List ℕ) (first : PartText) (later parts : List PartText) (i : ℕ) → length later ≤ i → text ≡ middle ++ after_spaces (take i later) → middle ≡ before ++ first.text → parts ≡ first ∷ later → text ≡ before ++ spaced parts
spaces-all text middle before first later parts i all h k e =
    let whole : after_spaces (take i later) ≡ after_spaces later = ap after_spaces (take_all i later all) in
    h ∙ ap (λ u. u ++ after_spaces (take i later)) k ∙ append_assoc before first.text (after_spaces (take i later)) ∙ ap (λ u. before ++ (first.text ++ u)) whole ∙ ap (λ u. before ++ u) (sym (spaced-first first later)) ∙ ap (λ ps. before ++ spaced ps) (sym e)
