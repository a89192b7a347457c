-- The last element of a list comes first in the reversed list.
use Rattle.std.proofs.Common.{◌≡◌, ℕ, ◌-◌, ◌<◌, List, [], ◌∷◌, ◌++◌, length, reverse, arith, refl, sym, ◌∙◌, ap}
use Rattle.std.specs.Prelude.{slice_set, slice_index_or}
use Rattle.std.proofs.lemmas.List.{reverse-append, reverse-reverse, length-append}
use Rattle.bz_model.specs.ObjectText.{PartText}
use Rattle.object_text.specs.Output.{OpenParts, with_part}

-- the last element of a list behind others
get-last : (xs : List OpenParts) (f d : OpenParts) → slice_index_or (xs ++ f ∷ []) (length xs) d ≡ f
get-last [] f d = refl
get-last (x ∷ xs) f d = get-last xs f d

set-last : (xs : List OpenParts) (f g : OpenParts) → slice_set (xs ++ f ∷ []) (length xs) g ≡ xs ++ g ∷ []
set-last [] f g = refl
set-last (x ∷ xs) f g = ap (λ ys. x ∷ ys) (set-last xs f g)

-- Where the last set or cycle of a list has one part more, the first of the reversed list has.
pub part-in-last : (frames : List OpenParts) (f d g : OpenParts) (part : PartText) (n : ℕ) → 0 < n → n ≡ length frames → f ≡ slice_index_or frames (n - 1) d → g ≡ (record { least = f.least; text = f.text; parts = f.parts ++ part ∷ [] }) → reverse (slice_set frames (n - 1) g) ≡ with_part part (reverse frames)
part-in-last frames f d g part n some count is made = go (reverse frames) (sym (reverse-reverse frames))
  where
    go : (r : List OpenParts) → frames ≡ reverse r → reverse (slice_set frames (n - 1) g) ≡ with_part part r
    go [] e = absurd (let l = ap length e in omega arith)
    go (x ∷ rest) e =
        let whole : frames ≡ reverse rest ++ x ∷ [] = e ∙ reverse-append (x ∷ []) rest in
        let place : n - 1 ≡ length (reverse rest) = let l = ap length whole ∙ length-append (reverse rest) (x ∷ []) in omega arith in
        let first : f ≡ x = is ∙ ap (λ fs. slice_index_or fs (n - 1) d) whole ∙ ap (λ i. slice_index_or (reverse rest ++ x ∷ []) i d) place ∙ get-last (reverse rest) x d in
        ap (λ fs. reverse (slice_set fs (n - 1) g)) whole
        ∙ ap (λ i. reverse (slice_set (reverse rest ++ x ∷ []) i g)) place
        ∙ ap reverse (set-last (reverse rest) x g)
        ∙ reverse-append (reverse rest) (g ∷ [])
        ∙ ap (λ fs. g ∷ fs) (reverse-reverse rest)
        ∙ ap (λ h. h ∷ rest) (made ∙ ap (λ h. record { least = h.least; text = h.text; parts = h.parts ++ part ∷ [] }) first)
