-- A marked object is written visit by visit.
use Rattle.std.proofs.Common.{◌≡◌, ℕ, zero, suc, ◌+◌, ◌-◌, ◌<◌, inl, inr, Bool, List, [], ◌∷◌, ◌++◌, length, replicate, arith, refl, sym, ◌∙◌, ap, subst, append_assoc}
use Rattle.std.proofs.lemmas.List.{length-replicate}
use Rattle.bz_model.specs.Spec.{Spec}
use Rattle.bz_model.specs.Object.{Object, Objects, none, more, count}
use Rattle.bz_model.specs.Measures.{size}
use Rattle.object_store.specs.declared.token.Token.{Token}
use Rattle.object_store.specs.declared.token.Token.TheVariants as token
use Rattle.object_store.specs.Tokens.{tokens_of, tokens_all}
use Rattle.object_store.specs.Waiting.{joined}
use Rattle.pointing.specs.Atoms.{is_atomic_node}
use Rattle.pointing.specs.Marking.{Marks, MarksOne, Splits, chosen}
use Rattle.pointing.specs.Ways.{way, way_among}
use Rattle.pointing.specs.Writing.{pick_of, copied, ToCome, Copies, MarksFirst, Writes}
use Rattle.pointing.specs.declared.pieces.Piece.{Piece}
use Rattle.pointing.specs.declared.pieces.Piece.TheVariants as piece
use Rattle.pointing.proofs.Marked.{marked-below, one-at, split-at}
use Rattle.pointing.proofs.Searches.{here-is, later-is}
use Rattle.pointing.proofs.Copying.{copies-all}

-- The tokens of a choice.
pub chosen-tokens : (n i : ℕ) (o : Object) → tokens_of (chosen n i o) ≡ pick_of n i ++ tokens_of o
chosen-tokens zero i o = refl
chosen-tokens (suc zero) i o = refl
chosen-tokens (suc (suc n)) i o = refl

module _ (s : Spec) (whole : List Token) (ps : List Piece) where
  abbrev pub has : ℕ → Bool
  has = is_atomic_node s

  -- some objects put in front of pieces
  pub put-copied : (n : ℕ) (places : List ℕ) (es : List ℕ) (os : Objects) (w : List Token) → Copies n (Writes s whole ps places) es os w → Writes s whole (copied n ++ ps) places es os w
  put-copied zero places es os w h = h
  put-copied (suc n) places es os w h = h

  pub put-twice : (k n : ℕ) (places : List ℕ) (es : List ℕ) (os : Objects) (w : List Token) → Copies k (Copies n (Writes s whole ps places)) es os w → Writes s whole (copied k ++ (copied n ++ ps)) places es os w
  put-twice zero zero places es os w h = h
  put-twice zero (suc n) places es os w h = h
  put-twice (suc k) zero places es os w h = h
  put-twice (suc k) (suc n) places es os w h = h

  -- what is to come at the marked object: after it some objects stay, and then the pieces follow
  abbrev pub AtMarked : (before : List Piece) → (later : ℕ) → (places : List ℕ) → ToCome
  AtMarked before later places = Writes s whole (piece.Marked ∷ before ++ (copied later ++ ps)) places

  -- the way down to an atom of some objects begins at the object that is marked
  pub record Begins (j i : ℕ) (os : Objects) (a : ℕ) (goal : List ℕ → Type 0) : Type 0 where
    pub later : List ℕ
    pub is_way : way_among j os a ≡ (j + i) ∷ later
    pub goal_holds : goal later

  way-here : (j a : ℕ) (o : Object) (os : Objects) → a < size o → way_among j (more o os) a ≡ (j + 0) ∷ way o a
  way-here j a o os lt = here-is (size o) a (j ∷ way o a) (way_among (suc j) os (a - size o)) lt ∙ ap (λ z. z ∷ way o a) (let f : j ≡ j + 0 = omega arith in f)

  way-later : (j i a b : ℕ) (o : Object) (os : Objects) (later : List ℕ) → a ≡ size o + b → way_among (suc j) os b ≡ (suc j + i) ∷ later → way_among j (more o os) a ≡ (j + suc i) ∷ later
  way-later j i a b o os later e h =
      later-is (size o) a (j ∷ way o a) (way_among (suc j) os (a - size o)) (omega arith)
      ∙ ap (λ n. way_among (suc j) os n) (let f : a - size o ≡ b = omega arith in f)
      ∙ h ∙ ap (λ z. z ∷ later) (let f : suc j + i ≡ j + suc i = omega arith in f)

  -- a tuple with one of its objects marked
  pub one-begins : (parts es : List ℕ) (members others ms : Objects) (j a i later : ℕ) (w : List Token) → length parts ≡ count members → later ≡ length parts - i - 1 → MarksOne s has parts members a i ms → Writes s whole ps [] es others (w ++ tokens_all ms) → Begins j i members a (λ places. Copies i (AtMarked [] later places) (parts ++ es) (joined members others) w)
  one-begins [] es none others ms j a i later w many left (MarksOne.first part rest o m tail ep eo k ei em) h = absurd (cc)
  one-begins [] es none others ms j a i later w many left (MarksOne.later part rest o tail marked b d ep eo k ea ei em) h = absurd (cc)
  one-begins [] es (more o os) others ms j a i later w many left k h = absurd (let f : length {A = ℕ} [] ≡ 0 = refl in omega arith)
  one-begins (part ∷ rest) es none others ms j a i later w many left k h = absurd (let f : length (part ∷ rest) ≡ suc (length rest) = refl in omega arith)
  one-begins (part ∷ rest) es (more o os) others ms j a i later w many left k h = elim (one-at s has part rest o os refl refl k) [
    | inl r ↦
        let mark : Marks s has part o a r.0 = r.1 in
        let spelled : tokens_all ms ≡ tokens_of r.0 ++ tokens_all os = ap tokens_all r.3 in
        let all : Writes s whole ps [] es others ((w ++ tokens_of r.0) ++ tokens_all os) = subst (Writes s whole ps [] es others) (ap (λ z. w ++ z) spelled ∙ sym (append_assoc w (tokens_of r.0) (tokens_all os))) h in
        let tail : Copies (length rest) (Writes s whole ps []) (rest ++ es) (joined os others) (w ++ tokens_of r.0) = copies-all (Writes s whole ps []) rest es os others (w ++ tokens_of r.0) (let f : length (part ∷ rest) ≡ suc (length rest) = refl in omega arith) all in
        let so_many : length rest ≡ later = (let f : length (part ∷ rest) ≡ suc (length rest) = refl in let g = r.2 in omega arith) in
        let after : Writes s whole (copied later ++ ps) [] (rest ++ es) (joined os others) (w ++ tokens_of r.0) = put-copied later [] (rest ++ es) (joined os others) (w ++ tokens_of r.0) (subst (λ n. Copies n (Writes s whole ps []) (rest ++ es) (joined os others) (w ++ tokens_of r.0)) so_many tail) in
        let first : MarksFirst s (way o a) (Writes s whole (copied later ++ ps) []) part (rest ++ es) o (joined os others) w = record { atom = a; marked = r.0; marks = mark; is_way = refl; rest = after } in
        subst (λ n. Begins j n (more o os) a (λ places. Copies n (AtMarked [] later places) (part ∷ rest ++ es) (more o (joined os others)) w)) (sym r.2)
        (record { later = way o a; is_way = way-here j a o os (marked-below s has mark); goal_holds = first })
    | inr r ↦
        let spelled : tokens_all ms ≡ tokens_of o ++ tokens_all r.2 = ap tokens_all r.6 in
        let all : Writes s whole ps [] es others ((w ++ tokens_of o) ++ tokens_all r.2) = subst (Writes s whole ps [] es others) (ap (λ z. w ++ z) spelled ∙ sym (append_assoc w (tokens_of o) (tokens_all r.2))) h in
        let on = one-begins rest es os others r.2 (suc j) r.0 r.1 later (w ++ tokens_of o) (let f : length (part ∷ rest) ≡ suc (length rest) = refl in omega arith) (let f : length (part ∷ rest) ≡ suc (length rest) = refl in let g = r.5 in omega arith) r.3 all in
        subst (λ n. Begins j n (more o os) a (λ places. Copies n (AtMarked [] later places) (part ∷ rest ++ es) (more o (joined os others)) w)) (sym r.5)
        (record { later = on.later; is_way = way-later j r.1 a r.0 o os on.later r.4 on.is_way; goal_holds = on.goal_holds })
  ]

  -- a sequence with one of its objects marked
  pub split-begins : (part : ℕ) (es : List ℕ) (members others before after : Objects) (q : Object) (j a k : ℕ) (w : List Token) → k ≡ count members → Splits s has part members a before q after → Writes s whole ps [] es others (w ++ (tokens_all before ++ (tokens_of q ++ (token.Count (count after) ∷ tokens_all after)))) → Begins j (count before) members a (λ places. (count after ≡ k - count before - 1) × Copies (count before) (AtMarked (piece.Count (count after) ∷ []) (count after) places) (replicate k part ++ es) (joined members others) w)
  split-begins part es none others before after q j a k w many (Splits.here o eo l eb) h = absurd (cc)
  split-begins part es none others before after q j a k w many (Splits.further o tail front b eo l ea eb) h = absurd (cc)
  split-begins part es (more o os) others before after q j a zero w many l h = absurd (omega arith)
  split-begins part es (more o os) others before after q j a (suc k) w many l h = elim (split-at s has o os refl l) [
    | inl r ↦
        let mark : Marks s has part o a q = r.0 in
        let spelled : w ++ (tokens_all before ++ (tokens_of q ++ (token.Count (count after) ∷ tokens_all after))) ≡ ((w ++ tokens_of q) ++ token.Count (count after) ∷ []) ++ tokens_all os =
        ap (λ z. w ++ (tokens_all z ++ (tokens_of q ++ (token.Count (count after) ∷ tokens_all after)))) r.1
        ∙ sym (append_assoc w (tokens_of q) (token.Count (count after) ∷ tokens_all after))
        ∙ ap (λ z. (w ++ tokens_of q) ++ (token.Count (count after) ∷ tokens_all z)) r.2
        ∙ sym (append_assoc (w ++ tokens_of q) (token.Count (count after) ∷ []) (tokens_all os)) in
        let same : count after ≡ count os = ap count r.2 in
        let zero_before : count before ≡ 0 = ap count r.1 in
        let tail : Copies (length (replicate k part)) (Writes s whole ps []) (replicate k part ++ es) (joined os others) ((w ++ tokens_of q) ++ token.Count (count after) ∷ []) =
        copies-all (Writes s whole ps []) (replicate k part) es os others ((w ++ tokens_of q) ++ token.Count (count after) ∷ []) (length-replicate k part ∙ (let f : k ≡ count os = omega arith in f)) (subst (Writes s whole ps [] es others) spelled h) in
        let rest : Writes s whole (copied (count after) ++ ps) [] (replicate k part ++ es) (joined os others) ((w ++ tokens_of q) ++ token.Count (count after) ∷ []) =
        put-copied (count after) [] (replicate k part ++ es) (joined os others) ((w ++ tokens_of q) ++ token.Count (count after) ∷ []) (subst (λ n. Copies n (Writes s whole ps []) (replicate k part ++ es) (joined os others) ((w ++ tokens_of q) ++ token.Count (count after) ∷ [])) (length-replicate k part ∙ (let f : k ≡ count after = omega arith in f)) tail) in
        let first : MarksFirst s (way o a) (Writes s whole (piece.Count (count after) ∷ (copied (count after) ++ ps)) []) part (replicate k part ++ es) o (joined os others) w = record { atom = a; marked = q; marks = mark; is_way = refl; rest = rest } in
        subst (λ n. Begins j n (more o os) a (λ places. (count after ≡ suc k - n - 1) × Copies n (AtMarked (piece.Count (count after) ∷ []) (count after) places) (replicate (suc k) part ++ es) (more o (joined os others)) w)) (sym zero_before)
        (record { later = way o a; is_way = way-here j a o os (marked-below s has mark); goal_holds = ((let f : count after ≡ suc k - 0 - 1 = omega arith in f), first) })
    | inr r ↦
        let front = r.1 in
        let longer : count before ≡ suc (count front) = ap count r.4 in
        let spelled : w ++ (tokens_all before ++ (tokens_of q ++ (token.Count (count after) ∷ tokens_all after))) ≡ (w ++ tokens_of o) ++ (tokens_all front ++ (tokens_of q ++ (token.Count (count after) ∷ tokens_all after))) =
        ap (λ z. w ++ (tokens_all z ++ (tokens_of q ++ (token.Count (count after) ∷ tokens_all after)))) r.4
        ∙ ap (λ z. w ++ z) (append_assoc (tokens_of o) (tokens_all front) (tokens_of q ++ (token.Count (count after) ∷ tokens_all after)))
        ∙ sym (append_assoc w (tokens_of o) (tokens_all front ++ (tokens_of q ++ (token.Count (count after) ∷ tokens_all after)))) in
        let on = split-begins part es os others front after q (suc j) r.0 k (w ++ tokens_of o) (let f : count (more o os) ≡ suc (count os) = refl in omega arith) r.2 (subst (Writes s whole ps [] es others) spelled h) in
        let kept = on.goal_holds.0 in
        subst (λ n. Begins j n (more o os) a (λ places. (count after ≡ suc k - n - 1) × Copies n (AtMarked (piece.Count (count after) ∷ []) (count after) places) (replicate (suc k) part ++ es) (more o (joined os others)) w)) (sym longer)
        (record { later = on.later; is_way = way-later j (count front) a r.0 o os on.later r.3 on.is_way; goal_holds = ((let f : count after ≡ suc k - suc (count front) - 1 = omega arith in f), on.goal_holds.1) })
  ]
