-- The line feed at the end of a text.
use Rattle.std.proofs.Common.{◌≡◌, ◌≢◌, ℕ, arith, List, [], ◌∷◌, ◌++◌, refl, ap, ◌∙◌}
use Rattle.object_stage.specs.ObjectStage.{without_feed}

-- behind one byte or more, the rest decides
behind : (b : ℕ) (front : List ℕ) (last : ℕ) → without_feed (b ∷ (front ++ last ∷ [])) ≡ b ∷ without_feed (front ++ last ∷ [])
behind b [] last = refl
behind b (c ∷ front) last = refl

-- a line feed at the end is taken off
pub feed_off : (front : List ℕ) → without_feed (front ++ 10 ∷ []) ≡ front
feed_off [] = refl
feed_off (b ∷ front) = behind b front 10 ∙ ap (λ bs. b ∷ bs) (feed_off front)

one-kept : (last : ℕ) → last ≢ 10 → without_feed (last ∷ []) ≡ last ∷ []
one-kept last other = grind (arith, other)

-- any other byte stays
pub other_kept : (front : List ℕ) (last : ℕ) → last ≢ 10 → without_feed (front ++ last ∷ []) ≡ front ++ last ∷ []
other_kept [] last other = one-kept last other
other_kept (b ∷ front) last other = behind b front last ∙ ap (λ bs. b ∷ bs) (other_kept front last other)
