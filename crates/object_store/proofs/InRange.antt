-- The numbers in a sound specification are in range, and its products have a first part.
use Rattle.std.proofs.Common.{◌≡◌, ℕ, zero, suc, ◌<◌, ◌≤◌, List, [], ◌∷◌, length, arith, Some, slice_get, replicate}
use Rattle.std.proofs.lemmas.Option.{slice_get_within}
use Rattle.bz_model.specs.Spec.{Spec, Node, node_at, body_of}
use Rattle.class_system.specs.Sound.{IsSound}
use Rattle.class_system.specs.NodeOrder.{HasPart}
use Rattle.class_system.proofs.Order.{lies_between, below_in_each}
use Rattle.object_store.specs.Walk.{AllBelow}

pub each-below : (n : ℕ) (es : List ℕ) → ((i e : ℕ) → slice_get es i ≡ Some e → e < n) → AllBelow n es
each-below n [] h = tt
each-below n (e ∷ es) h = (h 0 e cc, each-below n es (λ i f at. h (suc i) f at))

-- Any number of copies of a node below n are all below n.
pub replicate-below : (n k e : ℕ) → e < n → AllBelow n (replicate k e)
replicate-below n zero e h = tt
replicate-below n (suc k) e h = (h, replicate-below n k e h)

module _ (s : Spec) (sound : IsSound s) where
  pub part-below : (e part : ℕ) (node : Node) → node_at s e ≡ Some node → HasPart node part → part < length s.nodes
  part-below e part node at has =
      let within = slice_get_within s.nodes e node at in
      let below = below_in_each s.nodes 0 s.bodies (length s.nodes) sound.order e part node (omega arith) within at has in
      omega arith

  pub body-below : (c body : ℕ) → body_of s c ≡ Some body → body < length s.nodes
  body-below c body at = (lies_between s.nodes 0 s.bodies (length s.nodes) sound.order c body at).1

  pub class-known : (e c : ℕ) → node_at s e ≡ Some (Node.Class c) → c < length s.names
  class-known e c at = sound.references.at e (Node.Class c) at

  pub union-parts : (e : ℕ) (parts : List ℕ) → node_at s e ≡ Some (Node.Union parts) → (i part : ℕ) → slice_get parts i ≡ Some part → part < length s.nodes
  union-parts e parts at i part is_part = part-below e part (Node.Union parts) at (record { place = i; is_there = is_part })

  pub product-parts : (e : ℕ) (parts : List ℕ) → node_at s e ≡ Some (Node.Product parts) → AllBelow (length s.nodes) parts
  product-parts e parts at = each-below (length s.nodes) parts (λ i part is_part. part-below e part (Node.Product parts) at (record { place = i; is_there = is_part }))

  pub two-parts : (e : ℕ) (parts : List ℕ) → node_at s e ≡ Some (Node.Product parts) → 2 ≤ length parts
  two-parts e parts at = sound.parts.at e (Node.Product parts) at
