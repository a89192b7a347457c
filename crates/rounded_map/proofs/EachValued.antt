-- At a post-fixed vector each node has an upper value: a body has one, and with a node so have its parts.
use Rattle.std.proofs.Common.{◌≡◌, ℕ, zero, suc, ◌+◌, ◌<◌, ◌≤◌, List, [], ◌∷◌, length, ap, subst, arith, inl, inr, Some, slice_get}
use Rattle.std.specs.Prelude.{IsTrue, is_some}
use Rattle.std.specs.List.{AllByRecursion}
use Rattle.std.proofs.lemmas.Option.{slice_get_within, same_Some}
use Rattle.bz_model.specs.Fraction.{Fraction}
use Rattle.bz_model.specs.Spec.{Spec, Node}
use Rattle.bz_laws.specs.Sound.{EachPart}
use Rattle.class_system.specs.NodeOrder.{parts_of}
use Rattle.class_system.specs.Sound.{IsSound}
use Rattle.class_system.proofs.Soundness.{part_below, is_placed}
use Rattle.rounded_map.specs.RoundedMap.{setting, amount, value_at, values_up, IsPostFixed}
use Rattle.rounded_map.proofs.Covering.{told, told-some, values-cover}
use Rattle.rounded_map.proofs.Bounding.{body-within}

-- What all parts have, the part at a place has.
all-at : (P : ℕ → Type 0) (xs : List ℕ) (i x : ℕ) → AllByRecursion P xs → slice_get xs i ≡ Some x → P x
all-at P [] i x all at = absurd (omega (arith, slice_get_within [] i x at))
all-at P (y ∷ xs) zero x all at = subst P (same_Some y x at) all.0
all-at P (y ∷ xs) (suc i) x all at = all-at P xs i x all.1 at

one-at : (P : ℕ → Type 0) (y i x : ℕ) → P y → slice_get (y ∷ []) i ≡ Some x → P x
one-at P y i x holds at = all-at P (y ∷ []) i x (holds, tt) at

part-at : (P : ℕ → Type 0) (n : Node) (i x : ℕ) → EachPart P n → slice_get (parts_of n) i ≡ Some x → P x
part-at P (Node.Empty word) i x each at = absurd (omega (arith, slice_get_within [] i x at))
part-at P (Node.Atom word) i x each at = absurd (omega (arith, slice_get_within [] i x at))
part-at P (Node.Class c) i x each at = absurd (omega (arith, slice_get_within [] i x at))
part-at P (Node.Union parts) i x each at = all-at P parts i x each at
part-at P (Node.Product parts) i x each at = all-at P parts i x each at
part-at P (Node.Seq part) i x each at = one-at P part i x each at
part-at P (Node.Set part) i x each at = one-at P part i x each at
part-at P (Node.Cyc part) i x each at = one-at P part i x each at

module _ (s : Spec) (x : Fraction) (F : ℕ) (sound : IsSound s) (classes : List ℕ) (fixed : IsPostFixed (setting s x.num x.den F) classes) where
  each-told : (k e : ℕ) → e < length s.nodes → length s.nodes ≤ e + k → IsTrue (told F (values_up (setting s x.num x.den F) classes) e)
  each-told zero e within enough = absurd (omega arith)
  each-told (suc k) e within enough =
      elim (is_placed s sound e within) [
        | inl body ↦ let h = body-within (values_up (setting s x.num x.den F) classes) s.bodies classes fixed.each body.0 e body.1 in ap is_some h.is_there
        | inr placed ↦
            let below : e < placed.above = part_below s sound placed.above e placed.node placed.is_there placed.has in
            let inside : placed.above < length s.nodes = slice_get_within s.nodes placed.above placed.node placed.is_there in
            let above_told = each-told k placed.above inside (omega arith) in
            part-at (λ p. IsTrue (told F (values_up (setting s x.num x.den F) classes) p)) placed.node placed.has.place e ((values-cover s x F classes sound).parts placed.above placed.node above_told placed.is_there) placed.has.is_there
      ]

  pub each-value : (e : ℕ) → e < length s.nodes → (v : ℕ) × (value_at (values_up (setting s x.num x.den F) classes) e ≡ Some v)
  each-value e within =
      let o = value_at (values_up (setting s x.num x.den F) classes) e in
      (amount o, told-some o (each-told (length s.nodes) e within (omega arith)))
