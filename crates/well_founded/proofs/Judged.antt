-- What the examination's answers rest on.
use Rattle.std.proofs.Common.{◌≡◌, ◌≢◌, ℕ, ◌+◌, ◌<◌, ◌⊎◌, ◌↔◌, inl, inr, List, length, Bool, true, false, IsTrue, Some, arith, refl, sym, ◌∙◌}
use Rattle.bz_model.specs.Spec.{Spec, Node, body_of}
use Rattle.bz_model.specs.Object.{Object, Belongs}
use Rattle.bz_model.specs.Measures.{HasZero}
use Rattle.bz_model.specs.WellFounded.{IsWellFounded}
use Rattle.class_system.specs.Sound.{IsSound}
use Rattle.well_founded.specs.declared.class_set.ClassSet.{ClassSet}
use Rattle.well_founded.specs.declared.cause.UnfoundedCause.{UnfoundedCause}
use Rattle.well_founded.specs.declared.cause.UnfoundedCause.TheVariants.{NoObject, ZeroPart, ZeroLoop, OutOfMemory}
use Rattle.well_founded.specs.EmptyObjects.{answer_at, has_empty}
use Rattle.well_founded.specs.Foundedness.{Least, RepeatsZero, LeadsRound, Leads}
use Rattle.well_founded.specs.Rounds.{Gets}
use Rattle.well_founded.specs.Marking.{AreMarked}
use Rattle.well_founded.specs.Examination.{IsLeast, EachHasObject, TellsCause, IsFoundedBy}
use Rattle.well_founded.specs.Ways.{Points, PointsRound}
use Rattle.well_founded.proofs.Orderly.{orderly}
use Rattle.well_founded.proofs.Least.{some-belongs, belongs-some, empty-belongs, belongs-empty}
use Rattle.well_founded.proofs.Rounds.{least-round, in-closed}
use Rattle.well_founded.proofs.Refused.{node-there, filled, no_object-unfounded, zero_part-unfounded}
use Rattle.well_founded.proofs.Loops.{zero_loop-unfounded}
use Rattle.well_founded.proofs.Accepted.{accepted-founded}
use Rattle.well_founded.proofs.Marks.{two}
use Rattle.well_founded.proofs.Stages.{marked-empty, empty-marked}

-- The marks are the same where atoms count alike.
least-along : (s : Spec) (A B : Type 0) → (A → B) → (e : ℕ) → Least s A e → Least s B e
least-along s A B f e h = in-closed s A (Least s B) (record { round = λ e n q g. least-round s B e n q (along e n g) }) h
  where
    along : (e : ℕ) (n : Node) → Gets s A (Least s B) e n → Gets s B (Least s B) e n
    along e (Node.Empty w) g = tt
    along e (Node.Atom w) g = f g
    along e (Node.Class c) g = g
    along e (Node.Union parts) g = g
    along e (Node.Product parts) g = g
    along e (Node.Seq p) g = g
    along e (Node.Set p) g = g
    along e (Node.Cyc p) g = g

-- Marks of the rule where an atom counts if true holds are marks of the nodes that have an object.
pub marked-some : (s : Spec) (marks : List Bool) → AreMarked s (IsTrue true) marks → AreMarked s (Unit {0}) marks
marked-some s marks h = record { one_per_node = h.one_per_node; right = λ e m. least-along s (IsTrue true) (Unit {0}) (λ z. tt) e (h.right e m); all = λ e l. h.all e (least-along s (Unit {0}) (IsTrue true) (λ z. refl) e l) }

-- Marks of the rule where an atom counts if false holds are marks of the nodes that have an object
-- of size 0.
pub marked-zero : (s : Spec) (marks : List Bool) → AreMarked s (IsTrue false) marks → AreMarked s ⊥ marks
marked-zero s marks h = record { one_per_node = h.one_per_node; right = λ e m. least-along s (IsTrue false) ⊥ (λ z. cc) e (h.right e m); all = λ e l. h.all e (least-along s ⊥ (IsTrue false) (λ z. absurd z) e l) }

-- The first row that has its own class is that of the first class that leads to itself.
pub first-round : (s : Spec) (rows : List ClassSet) (c : ℕ) → ((c d : ℕ) → Points rows c d ↔ Leads s c d) → IsLeast (PointsRound rows) c → IsLeast (LeadsRound s) c
first-round s rows c f h = record { holds = record { leads = (f c c).0 h.holds }; least = λ k lt l. h.least k lt ((f k k).1 l.leads) }

-- Nothing is refused.
pub founded-by : (s : Spec) (zero : List Bool) (rows : List ClassSet) → IsSound s → EachHasObject s → ((e : ℕ) → ¬ (RepeatsZero s e)) → ((c d : ℕ) → Points rows c d ↔ Leads s c d) → ((c : ℕ) → ¬ (PointsRound rows c)) → AreMarked s ⊥ zero → IsFoundedBy s zero
founded-by s zero_marks rows sound each parts f loops are = record {
  well_founded = accepted-founded s (orderly s sound) (record { objects = each.objects; parts = parts; loops = λ c l. loops c ((f c c).1 l.leads) });
  zeros = are;
}

-- A cause but want of memory shows that the specification isn't well founded.
pub tells-unfounded : (s : Spec) (cause : UnfoundedCause) → IsSound s → TellsCause s cause → cause ≢ OutOfMemory → ¬ (IsWellFounded s)
tells-unfounded s (NoObject c) sound h ne = no_object-unfounded s c.0 h.holds
tells-unfounded s (ZeroPart e) sound h ne = zero_part-unfounded s (orderly s sound) e.0 h.first.holds
tells-unfounded s (ZeroLoop c) sound h ne = zero_loop-unfounded s (orderly s sound) c.0 h.first.holds
tells-unfounded s OutOfMemory sound h ne = absurd (ne refl)

-- The marks tell which nodes have an object of size 0.
pub zero-told : (s : Spec) (zero : List Bool) (e : ℕ) (b : Bool) → IsSound s → AreMarked s ⊥ zero → b ≡ answer_at zero e → IsTrue b ↔ HasZero s e
zero-told s marks e b sound are z = (λ k. empty-belongs s (orderly s sound) e (are.right e (sym z ∙ k)), λ k. z ∙ are.all e (belongs-empty s e k))

-- The computed answer is the same.
pub zero-computed : (s : Spec) (zero : List Bool) (e : ℕ) (b : Bool) → IsSound s → AreMarked s ⊥ zero → b ≡ answer_at zero e → b ≡ has_empty s e
zero-computed s marks e b sound are z = same b (has_empty s e) (λ k. empty-marked s (orderly s sound) e (are.right e (sym z ∙ k))) (λ k. z ∙ are.all e (marked-empty s (orderly s sound) e k))
  where
    same : (a b : Bool) → (a ≡ true → b ≡ true) → (b ≡ true → a ≡ true) → a ≡ b
    same true b f g = sym (f refl)
    same false true f g = g refl
    same false false f g = refl

-- In a sound specification whose nodes with an object of size 0 are marked, each node has such an
-- object or has none.
pub zero-decided : (s : Spec) (zero : List Bool) → IsSound s → AreMarked s ⊥ zero → (e : ℕ) → HasZero s e ⊎ (¬ (HasZero s e))
zero-decided s marks sound are e = elim (two (answer_at marks e)) [
  | inl y ↦ inl (empty-belongs s (orderly s sound) e (are.right e y))
  | inr n ↦ inr (λ k. let m = are.all e (belongs-empty s e k) in cc)
]

-- Every node of a sound specification whose classes have objects has one.
pub node-inhabited : (s : Spec) → IsSound s → ((c body : ℕ) → body_of s c ≡ Some body → (o : Object) × Belongs s body o) → (e : ℕ) → e < length s.nodes → (o : Object) × Belongs s e o
node-inhabited s sound objects e h =
    let n = node-there s e h in
    some-belongs s (orderly s sound) e (filled s (orderly s sound) (λ c body q. belongs-some s body (objects c body q).0 (objects c body q).1) (e + 1) e n.0 (omega arith) n.1)
