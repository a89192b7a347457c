-- Ways down from a node through classes and first parts of products, which have no token of their
-- own.
use Rattle.std.specs.Prelude.{◌≡◌, ◌↔◌, ℕ, ◌+◌, List, [], ◌∷◌, length, Some}
use Rattle.std.proofs.Common.{eqb}
use Rattle.std.specs.List.{IsDistinct, AllByRecursion}
use Rattle.bz_model.specs.Spec.{Spec, Node, node_at, body_of}
use Rattle.object_store.specs.declared.token.Token.{Token}
use Rattle.object_store.specs.Tokens.{AreOf}
use Rattle.object_store.specs.Walk.{AllBelow}

-- One step down: from a class to its body, from a product to its first part.
pub data StepsDownTo (s : Spec) (e f : ℕ) : Type 0 where
  to_body : (c : ℕ) → node_at s e ≡ Some (Node.Class c) → body_of s c ≡ Some f → StepsDownTo s e f
  to_part : (parts : List ℕ) → node_at s e ≡ Some (Node.Product (f ∷ parts)) → StepsDownTo s e f

-- One step down or more.
pub data LeadsDownTo (s : Spec) (e : ℕ) : ℕ → Type 0 where
  one : {f : ℕ} → StepsDownTo s e f → LeadsDownTo s e f
  further : {f g : ℕ} → LeadsDownTo s e f → StepsDownTo s f g → LeadsDownTo s e g

-- Each of these nodes leads to the first pending one, if there is one.
abbrev pub LeadTo : Spec → List ℕ → List ℕ → Type 0
LeadTo s passed [] = Unit {0}
LeadTo s passed (e ∷ es) = AllByRecursion (λ p. LeadsDownTo s p e) passed

-- What holds on a way down: the same tokens are asked for, and no node was passed twice, if there
-- is an object.
pub record Descent (s : Spec) (start now : List ℕ) (left : ℕ) : Type 0 where
  pub same : (ts : List Token) → AreOf s start ts ↔ AreOf s now ts
  pub in_range : AllBelow (length s.nodes) now
  pub passed : List ℕ
  pub few : length passed + left ≡ length s.nodes
  pub lead : LeadTo s passed now
  pub below : AllBelow (length s.nodes) passed
  pub distinct : (ts : List Token) → AreOf s start ts → IsDistinct eqb passed
