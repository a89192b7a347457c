-- The parts of a union of a sound specification within the limits: how many there are, and that they are nodes.
use Rattle.std.proofs.Common.{◌≡◌, ℕ, zero, suc, ◌<◌, ◌≤◌, length, map, List, [], ◌∷◌, arith, refl, ap, Some}
use Rattle.std.specs.Prelude.{slice_get}
use Rattle.std.proofs.lemmas.List.{length-map}
use Rattle.bz_model.specs.Spec.{Spec, Node, node_at}
use Rattle.class_system.specs.Each.{Each}
use Rattle.class_system.specs.Views.{number}
use Rattle.class_system.specs.Sound.{IsSound}
use Rattle.class_system.specs.Limits.{IsWithinLimits}
use Rattle.class_system.specs.declared.ids.ExprId.{ExprId}
use Rattle.class_system.proofs.Soundness.{part_below}

slice_get-map : (f : ExprId → ℕ) (xs : List ExprId) (i : ℕ) (x : ExprId) → slice_get xs i ≡ Some x → slice_get (map f xs) i ≡ Some (f x)
slice_get-map f [] i x h = absurd (cc)
slice_get-map f (y ∷ xs) zero x h = let same : y ≡ x = cc in ap (λ z. Some (f z)) same
slice_get-map f (y ∷ xs) (suc i) x h = slice_get-map f xs i x h

-- A place at which a list has an element is below its length.
pub within : {A : Type 0} (xs : List A) (i : ℕ) (x : A) → slice_get xs i ≡ Some x → i < length xs
within [] i x h = absurd (cc)
within (y ∷ xs) zero x h = omega arith
within (y ∷ xs) (suc i) x h = let rest = within xs i x h in omega arith

-- A union of a sound specification has at least two parts.
pub parts-two : (s : Spec) (e : ℕ) (parts : List ExprId) → IsSound s → node_at s e ≡ Some (Node.Union (map number parts)) → 2 ≤ length parts
parts-two s e parts sound here = omega (arith, sound.parts.at e (Node.Union (map number parts)) here, length-map parts number)

-- A union of a specification within the limits has at most 64 parts.
pub parts-few : (s : Spec) (e : ℕ) (parts : List ExprId) → IsWithinLimits s → node_at s e ≡ Some (Node.Union (map number parts)) → length parts ≤ 64
parts-few s e parts limits here = let few = limits.parts.at e (Node.Union (map number parts)) here in omega (arith, few.few, length-map parts number)

-- The parts of a union of a sound specification are numbers of its nodes.
pub parts-in_range : (s : Spec) (e : ℕ) (parts : List ExprId) → IsSound s → node_at s e ≡ Some (Node.Union (map number parts)) → Each (λ p. p.0 < length s.nodes) parts
parts-in_range s e parts sound here = record { at = λ i p there. let inside : e < length s.nodes = within s.nodes e (Node.Union (map number parts)) here in let before : p.0 < e = part_below s sound e p.0 (Node.Union (map number parts)) here (record { place = i; is_there = slice_get-map number parts i p there }) in omega arith }

-- a number of the list is that of a node in range
pub numbers-in_range : (n : ℕ) (parts : List ExprId) → Each (λ p. p.0 < n) parts → (i p : ℕ) → slice_get (map number parts) i ≡ Some p → p < n
numbers-in_range n [] each i p at = absurd (cc)
numbers-in_range n (part ∷ parts) each zero p at = let same : part.0 ≡ p = cc in let below = each.at 0 part refl in omega arith
numbers-in_range n (part ∷ parts) each (suc i) p at = numbers-in_range n parts (record { at = λ j q there. each.at (suc j) q there }) i p at
