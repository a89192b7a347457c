-- Three tapes, and the pool over them.
use Rattle.std.proofs.Common.{◌≡◌, ℕ, List, [], ◌∷◌, ◌++◌, length, sym, ◌∙◌, ap, subst}
use Rattle.std.specs.Prelude.{Option, Result, Ok, Err, IfOk}
use Rattle.std.specs.List.{All}
use Rattle.std.proofs.lemmas.List.{length-map}
use Rattle.std.proofs.lemmas.List.Elements.{All-nil, All-cons}
use Rattle.bz_model.specs.Fraction.{Fraction}
use Rattle.bz_model.specs.Spec.{Spec}
use Rattle.bit_tape.specs.Tape.{TapeState, BelongsToShelf}
use Rattle.size_window.specs.RunByBits.{Limits}
use Rattle.session_pool.specs.Member.{MemberState}
use Rattle.session_pool.specs.Pool.{IsNewPool, PoolBelongs}
use Rattle.test_sampling.specs.Ready.{IsReady}

-- three pushes
pub three-items : {X : Type 0} (a b c d : List X) (x y z : X) → a ≡ [] → b ≡ a ++ x ∷ [] → c ≡ b ++ y ∷ [] → d ≡ c ++ z ∷ [] → d ≡ x ∷ y ∷ z ∷ []
three-items a b c d x y z at_a at_b at_c at_d = at_d ∙ ap (λ xs. xs ++ z ∷ []) (at_c ∙ ap (λ xs. xs ++ y ∷ []) (at_b ∙ ap (λ xs. xs ++ x ∷ []) at_a))

pub all-three : {X : Type 0} (P : X → Type 0) (x y z : X) → P x → P y → P z → All P (x ∷ y ∷ z ∷ [])
all-three P x y z a b c = All-cons P x (y ∷ z ∷ []) a (All-cons P y (z ∷ []) b (All-cons P z [] c (All-nil P)))

-- a new pool over three tapes that belong is ready
pub is-ready : {E : Type 0} (s : Spec) (limits : Limits) (tapes : List TapeState) (x y z : TapeState) → tapes ≡ x ∷ y ∷ z ∷ [] → ((contents : List ℕ → Option (List ℕ)) → BelongsToShelf contents x) → ((contents : List ℕ → Option (List ℕ)) → BelongsToShelf contents y) → ((contents : List ℕ → Option (List ℕ)) → BelongsToShelf contents z) → (r : Result (List MemberState) E) → IfOk r (IsNewPool limits tapes) → IfOk r (λ pool. (at : Fraction) → PoolBelongs s at pool) → IfOk r (λ pool. (at : Fraction) (contents : List ℕ → Option (List ℕ)) → IsReady s at contents pool)
is-ready s limits tapes x y z are a b c (Ok pool) new belongs = λ at contents. record {
  three = sym (length-map pool (λ (m : MemberState). m.tape)) ∙ ap length (new.same_tapes ∙ are);
  drawings = belongs at;
  tapes = record { each = subst (All (BelongsToShelf contents)) (sym (new.same_tapes ∙ are)) (all-three (BelongsToShelf contents) x y z (a contents) (b contents) (c contents)) };
}
is-ready s limits tapes x y z are a b c (Err e) new belongs = tt
