-- What the foundedness proofs use of a sound specification.
use Rattle.std.proofs.Common.{◌≡◌, ℕ, zero, suc, ◌<◌, ◌≤◌, ◌⊎◌, inl, inr, List, [], ◌∷◌, length, Option, Some, None, get_or, arith, sym, subst, ap}
use Rattle.std.specs.List.{slice_get}
use Rattle.std.proofs.lemmas.Bool.{cases_lt}
use Rattle.std.proofs.lemmas.Option.{slice_get_within, slice_get-get_or}
use Rattle.bz_model.specs.Spec.{Spec, Node, Range, node_at, range_at, body_of, IsWithinHigh}
use Rattle.class_system.specs.NodeOrder.{parts_of, HasPart, Spans, SpanEach}
use Rattle.class_system.specs.NodeOrder.Spans.{tree}
use Rattle.class_system.specs.NodeOrder.SpanEach.{done, next}
use Rattle.class_system.specs.Sound.{IsSound, IsTextRange, HasTextRange}
use Rattle.class_system.proofs.Soundness.{part_below, body_in_range, has_range}
use Rattle.well_founded.specs.Foundedness.{IsCountedOf, IsPartOfNode, Counts}

-- A high, where there is one, is at most 64.
abbrev pub IsFew : Option ℕ → Type 0
IsFew None = Unit {0}
IsFew (Some high) = high ≤ 64

-- A range that the text rule gives: low and 1 are within the high, which is at most 64.
pub record IsSoundRange (r : Range) : Type 0 where
  pub low_within : IsWithinHigh r.low r.high
  pub one_within : IsWithinHigh 1 r.high
  pub few : IsFew r.high

-- What foundedness rests on: parts stand below their node, references and bodies are there, a union has two parts or more, each node has a range, a counted one that of the text rule, and each node is a body or a part.
pub record IsOrderly (s : Spec) : Type 0 where
  pub below : (e part : ℕ) (n : Node) → node_at s e ≡ Some n → IsPartOfNode n part → part < e
  pub classes : (e c : ℕ) → node_at s e ≡ Some (Node.Class c) → (body : ℕ) × (body_of s c ≡ Some body)
  pub bodies : (c body : ℕ) → body_of s c ≡ Some body → body < length s.nodes
  pub unions : (e : ℕ) (parts : List ℕ) → node_at s e ≡ Some (Node.Union parts) → 2 ≤ length parts
  pub ranged : (e : ℕ) (n : Node) → node_at s e ≡ Some n → (r : Range) × (range_at s e ≡ Some r)
  pub ranges : (e part : ℕ) (r : Range) → Counts s e part r → IsSoundRange r
  pub placed : (e : ℕ) (n : Node) → node_at s e ≡ Some n → ((c : ℕ) × (body_of s c ≡ Some e)) ⊎ ((f : ℕ) × (m : Node) × (node_at s f ≡ Some m) × IsPartOfNode m e)

part-there : (n : Node) (part : ℕ) → IsPartOfNode n part → HasPart n part
part-there (Node.Union parts) part i = record { place = i.0; is_there = i.1 }
part-there (Node.Product parts) part i = record { place = i.0; is_there = i.1 }
part-there (Node.Seq p) part z = record { place = 0; is_there = ap Some z }
part-there (Node.Set p) part z = record { place = 0; is_there = ap Some z }
part-there (Node.Cyc p) part z = record { place = 0; is_there = ap Some z }
part-there _ part z = elim z [ ]

one-part : (p part i : ℕ) → slice_get (p ∷ []) i ≡ Some part → p ≡ part
one-part p part zero g = cc
one-part p part (suc i) g = absurd (cc)

there-part : (n : Node) (part i : ℕ) → slice_get (parts_of n) i ≡ Some part → IsPartOfNode n part
there-part (Node.Empty w) part i g = absurd (cc)
there-part (Node.Atom w) part i g = absurd (cc)
there-part (Node.Class c) part i g = absurd (cc)
there-part (Node.Union parts) part i g = (i, g)
there-part (Node.Product parts) part i g = (i, g)
there-part (Node.Seq p) part i g = one-part p part i g
there-part (Node.Set p) part i g = one-part p part i g
there-part (Node.Cyc p) part i g = one-part p part i g

-- A node of this number is a part of some node.
abbrev Held : List Node → ℕ → Type 0
Held nodes e = (f : ℕ) × (m : Node) × (slice_get nodes f ≡ Some m) × IsPartOfNode m e

-- Each node of a tree but the last is a part, and each node of trees in a row is a last one or a part.
mutual
  held-in : (nodes : List Node) (first e : ℕ) → Spans nodes first e → (k : ℕ) → first ≤ k → k < e → Held nodes k
  held-in nodes first e (tree m is each) k from to = elim (held-each nodes first (parts_of m) e each k from to) [
    | inl h ↦ (e, m, is, there-part m k h.0 h.1)
    | inr h ↦ h
  ]

  held-each : (nodes : List Node) (first : ℕ) (parts : List ℕ) (end : ℕ) → SpanEach nodes first parts end → (k : ℕ) → first ≤ k → k < end → ((i : ℕ) × (slice_get parts i ≡ Some k)) ⊎ Held nodes k
  held-each nodes first [] end (done same) k from to = absurd (omega arith)
  held-each nodes first (p ∷ parts) end (next here rest) k from to = elim (cases_lt k p) [
    | inl before ↦ inr (held-in nodes first p here k from before)
    | inr after ↦ elim (cases_lt p k) [
      | inl more ↦ elim (held-each nodes (suc p) parts end rest k (omega arith) to) [ inl h ↦ inl (suc h.0, h.1) | inr h ↦ inr h ]
      | inr most ↦ (let same : p ≡ k = omega arith in inl (0, ap Some same))
    ]
  ]

range-sound : (low : ℕ) (r : Range) → low ≤ 1 → IsTextRange low r → IsSoundRange r
range-sound low r small (IsTextRange.plain z) = subst IsSoundRange (sym z) (record { low_within = tt; one_within = tt; few = tt })
range-sound low r small (IsTextRange.at_least k b z) = subst IsSoundRange (sym z) (record { low_within = tt; one_within = tt; few = tt })
range-sound low r small (IsTextRange.at_most k b z) = subst IsSoundRange (sym z) (let f = b.from_one in let t = b.to_64 in record { low_within = omega arith; one_within = f; few = t })
range-sound low r small (IsTextRange.exactly k b z) = subst IsSoundRange (sym z) (let f = b.from_one in let t = b.to_64 in record { low_within = omega arith; one_within = f; few = t })

counted-range : (n : Node) (part : ℕ) (r : Range) → IsCountedOf n part → HasTextRange n r → IsSoundRange r
counted-range (Node.Seq p) part r z h = range-sound 0 r (omega arith) h
counted-range (Node.Set p) part r z h = range-sound 0 r (omega arith) h
counted-range (Node.Cyc p) part r z h = range-sound 1 r (omega arith) h
counted-range _ part r z h = elim z [ ]

-- Every sound specification has all of this.
pub orderly : (s : Spec) → IsSound s → IsOrderly s
orderly s sound = record {
  below = λ e part n q i. part_below s sound e part n q (part-there n part i);
  classes = λ e c q. class-body c (sound.references.at e (Node.Class c) q);
  bodies = body_in_range s sound;
  unions = λ e parts q. sound.parts.at e (Node.Union parts) q;
  ranged = has_range s sound;
  ranges = λ e part r k. counted-range k.node part r k.of_part (sound.ranges.at e k.node r k.is_node k.is_range);
  placed = λ e n q. place e (slice_get_within s.nodes e n q);
}
  where
    class-body : (c : ℕ) → c < length s.names → (body : ℕ) × (body_of s c ≡ Some body)
    class-body c h = (get_or s.bodies c 0, slice_get-get_or s.bodies c 0 (omega (arith, sound.bodies)))

    place : (e : ℕ) → e < length s.nodes → ((c : ℕ) × (body_of s c ≡ Some e)) ⊎ ((f : ℕ) × (m : Node) × (node_at s f ≡ Some m) × IsPartOfNode m e)
    place e h = elim (held-each s.nodes 0 s.bodies (length s.nodes) sound.order e (omega arith) h) [ inl k ↦ inl (k.0, k.1) | inr k ↦ inr k ]
