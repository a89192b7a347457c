-- A sound specification is laid out as the laws on totals need it.
use Rattle.std.proofs.Common.{◌≡◌, ℕ, suc, ◌<◌, List, [], ◌∷◌, refl, arith, Some, slice_get}
use Rattle.std.specs.List.{AllByRecursion}
use Rattle.bz_model.specs.Spec.{Spec, Node, range_at, node_at}
use Rattle.bz_laws.specs.Sound.{EachPart, HasSomePart, HasSoundRange, IsLaidOut}
use Rattle.class_system.specs.Sound.{IsSound}
use Rattle.class_system.specs.NodeOrder.{parts_of}
use Rattle.class_system.proofs.Soundness.{part_below, has_range, has_body, class_in_range, union_parts, body_in_range, seq_range, set_range, cycle_range}

-- What holds of the element at each place holds of all.
pub all-from_each : (P : ℕ → Type 0) (xs : List ℕ) → ((i x : ℕ) → slice_get xs i ≡ Some x → P x) → AllByRecursion P xs
all-from_each P [] at = tt
all-from_each P (x ∷ xs) at = (at 0 x refl, all-from_each P xs (λ i y there. at (suc i) y there))

-- What holds of the part at each place holds of each part.
pub each-part : (P : ℕ → Type 0) (n : Node) → ((i p : ℕ) → slice_get (parts_of n) i ≡ Some p → P p) → EachPart P n
each-part P (Node.Empty word) at = tt
each-part P (Node.Atom word) at = tt
each-part P (Node.Class c) at = tt
each-part P (Node.Union parts) at = all-from_each P parts at
each-part P (Node.Product parts) at = all-from_each P parts at
each-part P (Node.Seq part) at = at 0 part refl
each-part P (Node.Set part) at = at 0 part refl
each-part P (Node.Cyc part) at = at 0 part refl

-- The parts of a node stand below it.
pub parts_below : (s : Spec) → IsSound s → (e : ℕ) (n : Node) → node_at s e ≡ Some n → EachPart (λ p. p < e) n
parts_below s sound e n at = each-part (λ p. p < e) n (λ i p there. part_below s sound e p n at (record { place = i; is_there = there }))

some_part : (s : Spec) → IsSound s → (e : ℕ) (n : Node) → node_at s e ≡ Some n → HasSomePart n
some_part s sound e (Node.Union parts) at = omega (arith, union_parts s sound e parts at)
some_part s sound e (Node.Empty word) at = tt
some_part s sound e (Node.Atom word) at = tt
some_part s sound e (Node.Class c) at = tt
some_part s sound e (Node.Product parts) at = tt
some_part s sound e (Node.Seq part) at = tt
some_part s sound e (Node.Set part) at = tt
some_part s sound e (Node.Cyc part) at = tt

sound_range : (s : Spec) → IsSound s → (e : ℕ) (n : Node) → node_at s e ≡ Some n → HasSoundRange n (range_at s e)
sound_range s sound e (Node.Seq part) at = let r = has_range s sound e (Node.Seq part) at in record { range = r.0; is_there = r.1; within = (seq_range s sound e part r.0 at r.1).low_within }
sound_range s sound e (Node.Set part) at = let r = has_range s sound e (Node.Set part) at in record { range = r.0; is_there = r.1; within = (set_range s sound e part r.0 at r.1).low_within }
sound_range s sound e (Node.Cyc part) at = let r = has_range s sound e (Node.Cyc part) at in record { range = r.0; is_there = r.1; within = (cycle_range s sound e part r.0 at r.1).low_within }
sound_range s sound e (Node.Empty word) at = tt
sound_range s sound e (Node.Atom word) at = tt
sound_range s sound e (Node.Class c) at = tt
sound_range s sound e (Node.Union parts) at = tt
sound_range s sound e (Node.Product parts) at = tt

-- A sound specification is laid out as the laws on totals need it.
pub laid_out : (s : Spec) → IsSound s → IsLaidOut s
laid_out s sound = record {
  below = parts_below s sound;
  unions = some_part s sound;
  ranges = sound_range s sound;
  classes = λ e c at. has_body s sound c (class_in_range s sound e c at);
  bodies = body_in_range s sound;
}
