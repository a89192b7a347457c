-- Cells at the front of others.
use Rattle.std.proofs.Common.{◌≡◌, ◌≢◌, ℕ, ◌+◌, ◌<◌, List, [], ◌∷◌, ◌++◌, length, take, drop, get_or, append_assoc, append-nil, refl, sym, ◌∙◌, ap}
use Rattle.std.proofs.lemmas.List.{take_more, take-append-drop, append_cancel_left}
use Rattle.bz_model.specs.declared.cell.Cell.{Cell}

-- one cell more
pub front-more : (front cells rest next : List Cell) (i : ℕ) (d : Cell) → i < length front → cells ≡ take i front ++ rest → rest ≡ get_or front i d ∷ next → cells ≡ take (i + 1) front ++ next
front-more front cells rest next i d h is more =
    is ∙ ap (λ r. take i front ++ r) more ∙ sym (append_assoc (take i front) (get_or front i d ∷ []) next) ∙ ap (λ t. t ++ next) (sym (take_more front i d h))

-- another cell there
pub front-other : (front cells rest : List Cell) (i : ℕ) (d : Cell) → i < length front → cells ≡ take i front ++ rest → ((next : List Cell) → rest ≢ get_or front i d ∷ next) → (behind : List Cell) → cells ≢ front ++ behind
front-other front cells rest i d h is differs behind e =
    let whole : front ≡ take i front ++ (get_or front i d ∷ drop (i + 1) front) =
    sym (take-append-drop (i + 1) front) ∙ ap (λ t. t ++ drop (i + 1) front) (take_more front i d h) ∙ append_assoc (take i front) (get_or front i d ∷ []) (drop (i + 1) front) in
    differs (drop (i + 1) front ++ behind)
    (append_cancel_left (take i front) rest (get_or front i d ∷ (drop (i + 1) front ++ behind))
    (sym is ∙ e ∙ ap (λ t. t ++ behind) whole ∙ append_assoc (take i front) (get_or front i d ∷ drop (i + 1) front) behind))

-- cells joined of two lists
pub joined : (own more cells rest left : List Cell) → cells ≡ own ++ rest → rest ≡ more ++ left → left ≡ [] → cells ≡ own ++ more
joined own more cells rest left is next none = is ∙ ap (λ r. own ++ r) (next ∙ ap (λ l. more ++ l) none ∙ append-nil more)

-- not joined where the second isn't behind the first
pub not-behind : (own more cells rest : List Cell) → cells ≡ own ++ rest → ((left : List Cell) → rest ≢ more ++ left) → cells ≢ own ++ more
not-behind own more cells rest is none e = none [] (append_cancel_left own rest more (sym is ∙ e) ∙ sym (append-nil more))

-- nor where more is left
pub not-all : (own more cells rest left : List Cell) → cells ≡ own ++ rest → rest ≡ more ++ left → left ≢ [] → cells ≢ own ++ more
not-all own more cells rest left is next some e =
    some (append_cancel_left more left [] (sym next ∙ append_cancel_left own rest more (sym is ∙ e) ∙ sym (append-nil more)))
