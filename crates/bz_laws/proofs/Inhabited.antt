-- Where every class has an object, every node has one: each part stands below its node.
use Rattle.std.proofs.Common.{◌≡◌, ℕ, zero, suc, ◌*◌, ◌<◌, ◌≤◌, List, [], ◌∷◌, length, arith, refl, sym, subst, Some}
use Rattle.std.specs.List.{AllByRecursion}
use Rattle.bz_model.specs.Fraction.{Fraction}
use Rattle.bz_model.specs.Spec.{Spec, Node, node_at, range_at, body_of, IsInRange}
use Rattle.bz_model.specs.Object.{Object, Objects, none, more, ClassHas, Belongs}
use Rattle.bz_model.specs.Measures.{weight}
use Rattle.bz_model.specs.Totals.{Above}
use Rattle.bz_model.specs.Making.{IsCounted}
use Rattle.bz_laws.specs.Sound.{EachPart, IsLaidOut, LetsItsLow}
use Rattle.bz_laws.proofs.Nodes.{unknown}
use Rattle.bz_laws.proofs.Leaves.{class-into}
use Rattle.bz_laws.proofs.Unions.{into-union}
use Rattle.bz_laws.proofs.Products.{BelongEach, into-product}
use Rattle.bz_laws.proofs.Counted.{repeated, into-counted-of}
use Rattle.bz_laws.proofs.Values.{each-node}
use Rattle.bz_laws.proofs.Weights.{weight-pos}
use Rattle.std.proofs.Math.Nat.{mul-pos}

-- an object of the node
pub record HasObject (s : Spec) (e : ℕ) : Type 0 where
  pub object : Object
  pub belongs : Belongs s e object

pub record HasEachObject (s : Spec) (parts : List ℕ) : Type 0 where
  pub objects : Objects
  pub belong : BelongEach s parts objects

each-object : (s : Spec) (parts : List ℕ) → AllByRecursion (HasObject s) parts → HasEachObject s parts
each-object s [] h = record { objects = none; belong = tt }
each-object s (part ∷ parts) h =
    let a = h.0 in
    let b = each-object s parts h.1 in
    record { objects = more a.object b.objects; belong = (a.belongs, b.belong) }

first-object : (s : Spec) (e : ℕ) (parts : List ℕ) → node_at s e ≡ Some (Node.Union parts) → AllByRecursion (HasObject s) parts → 0 < length parts → HasObject s e
first-object s e [] at h some = absurd (omega arith)
first-object s e (part ∷ parts) at h some =
    let a = h.0 in
    record { object = Object.Pick 0 a.object; belongs = into-union s e (part ∷ parts) at 0 a.object a.belongs }

counted-object : (s : Spec) (e part : ℕ) (node : Node) (form : Objects → Object) → node_at s e ≡ Some node → IsCounted node part form → LetsItsLow (range_at s e) → HasObject s part → HasObject s e
counted-object s e part node form at c r a =
    let within : IsInRange r.range.low (range_at s e) = subst (IsInRange r.range.low) (sym r.is_there) (omega arith, r.within) in
    record { object = form (repeated r.range.low a.object); belongs = (into-counted-of s e part r.range.low node form at c within a.object a.belongs).0 }

module _ (s : Spec) (sound : IsLaidOut s) (inhabited : (c body : ℕ) → body_of s c ≡ Some body → HasObject s body) where
  by-kind : (e : ℕ) (node : Node) → node_at s e ≡ Some node → EachPart (HasObject s) node → HasObject s e
  by-kind e (Node.Empty word) at parts = record { object = Object.Unit_; belongs = (0, unknown s (ClassHas s 0) e at Object.Unit_ tt) }
  by-kind e (Node.Atom word) at parts = record { object = Object.Dot; belongs = (0, unknown s (ClassHas s 0) e at Object.Dot tt) }
  by-kind e (Node.Class c) at parts = let b = sound.classes e c at in let a = inhabited c b.0 b.1 in record { object = a.object; belongs = class-into s e c b.0 at b.1 a.object a.belongs }
  by-kind e (Node.Union ps) at parts = first-object s e ps at parts (sound.unions e (Node.Union ps) at)
  by-kind e (Node.Product ps) at parts = let a = each-object s ps parts in record { object = Object.Tuple a.objects; belongs = into-product s e ps at a.objects a.belong }
  by-kind e (Node.Seq part) at parts = counted-object s e part (Node.Seq part) Object.SeqOf at (refl, refl) (sound.ranges e (Node.Seq part) at) parts
  by-kind e (Node.Set part) at parts = counted-object s e part (Node.Set part) Object.SetOf at (refl, refl) (sound.ranges e (Node.Set part) at) parts
  by-kind e (Node.Cyc part) at parts = counted-object s e part (Node.Cyc part) Object.CycOf at (refl, refl) (sound.ranges e (Node.Cyc part) at) parts

  -- every node has an object
  pub node-object : (e : ℕ) → e < length s.nodes → HasObject s e
  node-object = each-node s sound.below (HasObject s) by-kind

-- an upper bound of a property that an object has is above 0
pub above-pos : (x f : Fraction) (P : Object → Type 0) (o : Object) → 0 < x.num → P o → Above x f P → 0 < f.num
above-pos x f P o p b up =
    let h = (up.holds (o ∷ []) (record { distinct = (tt, tt); each = (b, tt) })).cross in
    let w = mul-pos (weight-pos x p o) f.positive in
    positive (weight x o).num (weight x o).den f.num f.den w (omega arith)
  where
    positive : (n d m k : ℕ) → 0 < n * k → n * k ≤ m * d → 0 < m
    positive n d zero k w h = absurd (omega arith)
    positive n d (suc m) k w h = omega arith
