-- A specification that can't be pointed has one fault, and one that can has none.
use Rattle.std.proofs.Common.{◌≡◌, ◌≢◌, ℕ, ◌<◌, ◌≤◌, List, refl, sym, ap, ◌∙◌, arith}
use Rattle.std.specs.Prelude.{length, Some, slice_get}
use Rattle.std.proofs.Math.Decide.{dec_lt}
use Rattle.bz_model.specs.Spec.{Spec, Mode, body_of}
use Rattle.class_system.proofs.OneLimit.{one_limit, no_limit}
use Rattle.pointing.specs.Atoms.{HasAtom}
use Rattle.pointing.specs.Calls.{IsRanged, LacksAtom, TellsPointFault}
use Rattle.pointing.specs.PointedSpec.{CanBeMarked, pointed_spec}
use Rattle.pointing.specs.declared.fault.PointFault.{PointFault}
use Rattle.pointing.specs.declared.fault.PointFault.TheVariants as fault
use Rattle.point_command.specs.PointCommand.{CanBePointed}

-- two first places at which something holds are the same
one-first : (P : ℕ → Type 0) (i j : ℕ) → P i → P j → ((k : ℕ) → k < i → ¬ (P k)) → ((k : ℕ) → k < j → ¬ (P k)) → i ≡ j
one-first P i j p q before before_too = go (dec_lt i j) (dec_lt j i)
  where
    go : Dec (i < j) → Dec (j < i) → i ≡ j
    go (yes less) other = absurd (before_too i less p)
    go (no l) (yes more) = absurd (before j more q)
    go (no l) (no m) = omega (arith, l, m)

-- a specification has one mode
two-modes : (s : Spec) → s.mode ≡ Mode.Labelled → s.mode ≡ Mode.Unlabelled → ⊥
two-modes s a b = let e : Mode.Labelled ≡ Mode.Unlabelled = sym a ∙ b in absurd (cc)

-- plain ranges have no first one that isn't
no-ranged : (s : Spec) (e : ℕ) → IsRanged s e → CanBeMarked s → ⊥
no-ranged s e h p = h.not_plain (p.ranges.at e h.node h.range h.is_node h.is_range)

-- an object with an atom isn't without one
no-atomless : (s : Spec) → LacksAtom s → (body : ℕ) → body_of s 0 ≡ Some body → HasAtom s body → ⊥
no-atomless s h body at has = let none = h.none body has.object at has.belongs in let some = has.an_atom in omega (arith, none, some)

-- faults of one specification are the same
pub one-fault : (s : Spec) (a b : PointFault) → a ≢ fault.OutOfMemory → b ≢ fault.OutOfMemory → TellsPointFault s a → TellsPointFault s b → a ≡ b
one-fault s fault.OutOfMemory b m n t u = absurd (m refl)
one-fault s fault.Labelled fault.OutOfMemory m n t u = absurd (n refl)
one-fault s (fault.Ranged e) fault.OutOfMemory m n t u = absurd (n refl)
one-fault s fault.NoAtom fault.OutOfMemory m n t u = absurd (n refl)
one-fault s (fault.Limit f) fault.OutOfMemory m n t u = absurd (n refl)
one-fault s fault.Labelled fault.Labelled m n t u = refl
one-fault s fault.Labelled (fault.Ranged e) m n t u = absurd (two-modes s t u.unlabelled)
one-fault s fault.Labelled fault.NoAtom m n t u = absurd (two-modes s t u.is_plain.unlabelled)
one-fault s fault.Labelled (fault.Limit f) m n t u = absurd (two-modes s t u.is_plain.unlabelled)
one-fault s (fault.Ranged e) fault.Labelled m n t u = absurd (two-modes s u t.unlabelled)
one-fault s (fault.Ranged e) (fault.Ranged f) m n t u = let same : e.0 ≡ f.0 = one-first (IsRanged s) e.0 f.0 t.here u.here t.before u.before in ap (λ (k : ℕ). fault.Ranged (record { 0 = k })) same
one-fault s (fault.Ranged e) fault.NoAtom m n t u = absurd (no-ranged s e.0 t.here u.is_plain)
one-fault s (fault.Ranged e) (fault.Limit f) m n t u = absurd (no-ranged s e.0 t.here u.is_plain)
one-fault s fault.NoAtom fault.Labelled m n t u = absurd (two-modes s u t.is_plain.unlabelled)
one-fault s fault.NoAtom (fault.Ranged e) m n t u = absurd (no-ranged s e.0 u.here t.is_plain)
one-fault s fault.NoAtom fault.NoAtom m n t u = refl
one-fault s fault.NoAtom (fault.Limit f) m n t u = absurd (no-atomless s t u.body u.is_body u.an_atom)
one-fault s (fault.Limit f) fault.Labelled m n t u = absurd (two-modes s u t.is_plain.unlabelled)
one-fault s (fault.Limit f) (fault.Ranged e) m n t u = absurd (no-ranged s e.0 u.here t.is_plain)
one-fault s (fault.Limit f) fault.NoAtom m n t u = absurd (no-atomless s u t.body t.is_body t.an_atom)
one-fault s (fault.Limit f) (fault.Limit g) m n t u = ap (λ k. fault.Limit k) (one_limit (pointed_spec s) f g t.no_memory_fault u.no_memory_fault t.broken u.broken)

-- what can be pointed has no fault
pub no-fault : (s : Spec) (a : PointFault) → a ≢ fault.OutOfMemory → TellsPointFault s a → CanBePointed s → ⊥
no-fault s fault.OutOfMemory m t can = m refl
no-fault s fault.Labelled m t can = two-modes s t can.able.is_plain.unlabelled
no-fault s (fault.Ranged e) m t can = no-ranged s e.0 t.here can.able.is_plain
no-fault s fault.NoAtom m t can = no-atomless s t can.body can.is_body can.an_atom
no-fault s (fault.Limit f) m t can = no_limit (pointed_spec s) f t.no_memory_fault t.broken can.within
