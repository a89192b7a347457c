-- Lines of numbered things, one after another.
use Rattle.std.proofs.Common.{◌≡◌, ℕ, suc, ◌+◌, List, [], ◌++◌, refl, sym, ap, ◌∙◌, add-one, append_assoc, append-nil}
use Rattle.call_stages.specs.Lines.{lines_below}

below-none : (line : ℕ → List ℕ) → lines_below line 0 ≡ []
unfolding lines_below
below-none line = refl

below-suc : (line : ℕ → List ℕ) (n : ℕ) → lines_below line (suc n) ≡ lines_below line n ++ line n
unfolding lines_below
below-suc line n = refl

-- a text to which no lines were appended
pub below_start : (line : ℕ → List ℕ) (text : List ℕ) → text ≡ text ++ lines_below line 0
below_start line text = sym (append-nil text) ∙ ap (λ ls. text ++ ls) (sym (below-none line))

-- a text to which the lines so far and one more were appended
pub below_more : (line : ℕ → List ℕ) (n : ℕ) (start text next more : List ℕ) → text ≡ start ++ lines_below line n → more ≡ line n → next ≡ text ++ more → next ≡ start ++ lines_below line (n + 1)
below_more line n start text next more text_is more_is next_is =
    next_is ∙ ap (λ t. t ++ more) text_is ∙ ap (λ m. (start ++ lines_below line n) ++ m) more_is ∙ append_assoc start (lines_below line n) (line n) ∙ ap (λ t. start ++ t) (sym (below-suc line n)) ∙ ap (λ k. start ++ lines_below line k) (sym (add-one n))
