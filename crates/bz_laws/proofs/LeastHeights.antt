-- Whether a node has an object within a height is decided, so each object that belongs to a node has a least height there.
use Rattle.std.proofs.Common.{◌≡◌, ℕ, zero, suc, ◌<◌, ◌≤◌, ◌⊎◌, ◌↔◌, inl, inr, List, [], ◌∷◌, Option, Some, None, arith}
use Rattle.std.specs.Prelude.{slice_get}
use Rattle.std.proofs.Math.Decide.{dec_le}
use Rattle.bz_model.specs.Spec.{Spec, Node, Range, node_at, range_at, node_of, range_of, body_of, IsWithinHigh, IsInRange}
use Rattle.bz_model.specs.Object.{Object, Objects, none, more, count, Has, HaveEach, HaveAll, ClassHas, HasWithin, Belongs}
use Rattle.bz_model.specs.Measures.{IsHeight}
use Rattle.bz_laws.proofs.Heights.{within-up_to}

both : {A B : Type 0} → Dec A → Dec B → Dec (A × B)
both (yes a) (yes b) = yes (a, b)
both (yes a) (no n) = no (λ h. n h.1)
both (no n) d = no (λ h. n h.0)

high-decided : (n : ℕ) (high : Option ℕ) → Dec (IsWithinHigh n high)
high-decided n None = yes tt
high-decided n (Some high) = dec_le n high

range-decided : (n : ℕ) (r : Option Range) → Dec (IsInRange n r)
range-decided n None = no (λ h. h)
range-decided n (Some r) = both (dec_le r.low n) (high-decided n r.high)

module _ (s : Spec) (R : ℕ → Object → Type 0) (known : (c : ℕ) (o : Object) → Dec (R c o)) where
  mutual
    has-decided : (n : Option Node) (r : Option Range) (o : Object) → Dec (Has s R n r o)
    has-decided (Some (Node.Class c)) r o = known c o
    has-decided (Some (Node.Empty w)) r Object.Unit_ = yes tt
    has-decided (Some (Node.Atom w)) r Object.Dot = yes tt
    has-decided (Some (Node.Union parts)) r (Object.Pick i o) = has-decided (node_of s (slice_get parts i)) (range_of s (slice_get parts i)) o
    has-decided (Some (Node.Product parts)) r (Object.Tuple os) = each-decided parts os
    has-decided (Some (Node.Seq part)) r (Object.SeqOf os) = both (range-decided (count os) r) (all-decided part os)
    has-decided (Some (Node.Set part)) r (Object.SetOf os) = both (range-decided (count os) r) (all-decided part os)
    has-decided (Some (Node.Cyc part)) r (Object.CycOf os) = both (range-decided (count os) r) (all-decided part os)
    has-decided _ r _ = no (λ h. h)

    each-decided : (parts : List ℕ) (os : Objects) → Dec (HaveEach s R parts os)
    each-decided [] none = yes tt
    each-decided (part ∷ parts) (more o os) = both (has-decided (node_at s part) (range_at s part) o) (each-decided parts os)
    each-decided _ _ = no (λ h. h)

    all-decided : (part : ℕ) (os : Objects) → Dec (HaveAll s R part os)
    all-decided part none = yes tt
    all-decided part (more o os) = both (has-decided (node_at s part) (range_at s part) o) (all-decided part os)

class-decided : (s : Spec) (h c : ℕ) (o : Object) → Dec (ClassHas s h c o)
class-decided s zero c o = no (λ h. h)
class-decided s (suc h) c o = has-decided s (ClassHas s h) (class-decided s h) (node_of s (body_of s c)) (range_of s (body_of s c)) o

-- a node has an object within a height, or hasn't
pub within-decided : (s : Spec) (h : ℕ) (e : Option ℕ) (o : Object) → Dec (HasWithin s h e o)
within-decided s h e o = has-decided s (ClassHas s h) (class-decided s h) (node_of s e) (range_of s e) o

module _ (s : Spec) (e : ℕ) (o : Object) where
  height-by : (h : ℕ) → HasWithin s h (Some e) o → (k : ℕ) × IsHeight s e o k
  height-by zero w = (0, record { within = w; least = λ j lt. absurd (omega arith) })
  height-by (suc h) w = go (within-decided s h (Some e) o) (λ lower. height-by h lower)
    where
      go : Dec (HasWithin s h (Some e) o) → (HasWithin s h (Some e) o → (k : ℕ) × IsHeight s e o k) → (k : ℕ) × IsHeight s e o k
      go (yes lower) below = below lower
      go (no never) below = (suc h, record { within = w; least = λ j lt k. never (within-up_to s j h (omega arith) (Some e) o k) })

  -- an object that belongs to a node has a height there
  pub height-there : Belongs s e o → (h : ℕ) × IsHeight s e o h
  height-there b = height-by b.0 b.1

  at-least : (h k : ℕ) → IsHeight s e o h → HasWithin s k (Some e) o → Dec (h ≤ k) → h ≤ k
  at-least h k is w (yes le) = le
  at-least h k is w (no far) = absurd (is.least k (omega (arith, far)) w)

  -- the node has it within the heights from that on
  pub height-within : (h k : ℕ) → IsHeight s e o h → HasWithin s k (Some e) o ↔ (h ≤ k)
  height-within h k is = (λ w. at-least h k is w (dec_le h k), λ le. within-up_to s h k le (Some e) o is.within)

  -- it is one number
  pub height-one : (h k : ℕ) → IsHeight s e o h → IsHeight s e o k → h ≡ k
  height-one h k a b =
      let up = (height-within h k a).0 b.within in
      let down = (height-within k h b).0 a.within in
      omega arith
