use Rattle.std.proofs.Common.{ℕ, Bool, true, false, ◌≡◌, ◌⊎◌, ◌↔◌, IsTrue, inl, inr, refl}
use Rattle.bz_model.specs.Spec.{Spec}
use Rattle.bz_model.specs.Measures.{HasZero}
use Rattle.class_system.specs.Sound.{IsSound}
use Rattle.well_founded.specs.EmptyObjects.{has_empty}
use Rattle.well_founded.proofs.Orderly.{orderly}
use Rattle.well_founded.proofs.Stages.{marked-zero, zero-marked}
use Rattle.well_founded.proofs.laws.objects_of_size_0_are_decided.Goals as goal

computed : (s : Spec) (e : ℕ) → IsSound s → IsTrue (has_empty s e) ↔ HasZero s e
computed s e sound = (marked-zero s (orderly s sound) e, zero-marked s (orderly s sound) e)

by-test : {A : Type 0} (b : Bool) → IsTrue b ↔ A → A ⊎ (¬ A)
by-test true h = inl (h.0 refl)
by-test false h = inr (λ a. let no : false ≡ true = h.1 a in cc)

pub returns-clause-computed : goal.returns-clause-computed
returns-clause-computed c = λ s e sound. computed s e sound

pub returns-clause-decided : goal.returns-clause-decided
returns-clause-decided c = λ s e sound. by-test (has_empty s e) (computed s e sound)
