-- Visits that have come to rest: where a further visit changes nothing, none does.
use Rattle.std.proofs.Common.{◌≡◌, ℕ, zero, suc, ◌+◌, arith, Bool, [], refl, sym, ◌∙◌, ap}
use Rattle.std.specs.Prelude.{Option, None}
use Rattle.choice_draw.specs.Draw.{Bit, bit_of}
use Rattle.shape_sampler.specs.Visit.{Chooser, Attempt, Visited, visit_among, begun}
use Rattle.size_window.specs.Redrawn.{visits, visited_next}
use Rattle.entry_replay.specs.Replay.{IsMadeFrom}

module _ (c : Chooser) (bit : ℕ → Bit) (a : Attempt) where
  -- what has come to rest stays
  stays : (n k : ℕ) (v : Visited) → visits c bit n a ≡ v → visited_next c bit v ≡ v → visits c bit (k + n) a ≡ v
  stays n zero v is rests = (let z : 0 + n ≡ n = omega arith in ap (λ m. visits c bit m a) z) ∙ is
  stays n (suc k) v is rests = (let z : suc k + n ≡ suc (k + n) = omega arith in ap (λ m. visits c bit m a) z) ∙ ap (visited_next c bit) (stays n k v is rests) ∙ rests

  -- visits come to rest in one way
  pub rest-one : (n m : ℕ) (v w : Visited) → visits c bit n a ≡ v → visited_next c bit v ≡ v → visits c bit m a ≡ w → visited_next c bit w ≡ w → v ≡ w
  rest-one n m v w is rests there other = sym (stays n m v is rests) ∙ (let z : m + n ≡ n + m = omega arith in ap (λ k. visits c bit k a) z) ∙ stays m n w there other

-- an attempt with nothing pending rests
pub made-rests : (c : Chooser) (bit : ℕ → Bit) (a : Attempt) → a.pending ≡ [] → visited_next c bit (Visited.Went a) ≡ Visited.Went a
made-rests c bit a none = ap (visit_among c bit a) none

went-is : (a b : Attempt) → Visited.Went a ≡ Visited.Went b → a ≡ b
went-is a b is = cc

-- one attempt is made
pub made-one : (c : Chooser) (greatest : ℕ) (bits : ℕ → Option Bool) (start : ℕ) (a b : Attempt) → IsMadeFrom c greatest bits start a → IsMadeFrom c greatest bits start b → a ≡ b
made-one c greatest bits start a b h i = went-is a b (rest-one c (bit_of bits None) (begun c.spec greatest start) h.number i.number (Visited.Went a) (Visited.Went b) h.comes (made-rests c (bit_of bits None) a h.rests) i.comes (made-rests c (bit_of bits None) b i.rests))
