-- The first class without an object.
use Rattle.std.proofs.Common.{◌≡◌, ℕ, ◌+◌, ◌<◌, ◌≤◌, inl, inr, List, length, Bool, true, false, Some, arith, sym, ◌∙◌, subst}
use Rattle.std.proofs.lemmas.Bool.{cases_lt}
use Rattle.std.proofs.lemmas.Option.{slice_get_within, same_Some}
use Rattle.bz_model.specs.Spec.{Spec, body_of}
use Rattle.well_founded.specs.EmptyObjects.{answer_at}
use Rattle.well_founded.specs.Foundedness.{HasSome, LacksObject}
use Rattle.well_founded.specs.Marking.{AreMarked}
use Rattle.well_founded.specs.Examination.{IsLeast, EachHasObject}

-- The classes below i have an object.
pub record EachBelow (s : Spec) (i : ℕ) : Type 0 where
  pub objects : (c body : ℕ) → c < i → body_of s c ≡ Some body → HasSome s body

pub each-start : (s : Spec) → EachBelow s 0
each-start s = record { objects = λ c body lt q. absurd (omega arith) }

pub each-more : (s : Spec) (marks : List Bool) (i body : ℕ) → AreMarked s (Unit {0}) marks → EachBelow s i → body_of s i ≡ Some body → answer_at marks body ≡ true → EachBelow s (i + 1)
each-more s marks i body are h q m = record {
  objects = λ c b lt g. elim (cases_lt c i) [
    | inl less ↦ h.objects c b less g
    | inr more ↦ (let same : i ≡ c = omega arith in subst (λ x. HasSome s x) (same_Some body b (sym q ∙ subst (λ x. body_of s x ≡ Some b) (sym same) g)) (are.right body m))
  ];
}

pub each-all : (s : Spec) (i : ℕ) → length s.bodies ≤ i → EachBelow s i → EachHasObject s
each-all s i all h = record { objects = λ c body q. let w = slice_get_within s.bodies c body q in h.objects c body (omega arith) q }

pub first-lacking : (s : Spec) (marks : List Bool) (i body : ℕ) → AreMarked s (Unit {0}) marks → EachBelow s i → body_of s i ≡ Some body → answer_at marks body ≡ false → IsLeast (LacksObject s) i
first-lacking s marks i body are h q m = record {
  holds = record { body = body; is_body = q; without = λ k. let e = are.all body k in cc };
  least = λ c lt k. k.without (h.objects c k.body lt k.is_body);
}
