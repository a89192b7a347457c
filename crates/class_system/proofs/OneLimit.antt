-- A specification breaks one limit first, and one within the limits breaks none.
use Rattle.std.proofs.Common.{◌≡◌, ◌≢◌, inl, inr, ℕ, ◌≤◌, ◌<◌, List, length, refl, sym, ◌∙◌, ap, arith}
use Rattle.std.specs.Prelude.{Some, slice_get}
use Rattle.std.proofs.lemmas.Bool.{cases_order}
use Rattle.bz_model.specs.Spec.{Spec, Node}
use Rattle.class_system.specs.Limits.{TellsLimit, IsFirstExcess, IsWithinLimits}
use Rattle.class_system.specs.NodeOrder.{parts_of}
use Rattle.class_system.specs.declared.limits.BuildFault.{BuildFault}

-- The first node with too many parts has one number of parts.
one_excess : (nodes : List Node) (count count' : ℕ) → IsFirstExcess nodes count → IsFirstExcess nodes count' → count ≡ count'
one_excess nodes count count' a b =
    elim (cases_order a.place b.place) [
      | inl same ↦ (let nodes_same : Some a.node ≡ Some b.node = sym a.is_there ∙ ap (λ i. slice_get nodes i) same ∙ b.is_there in let node_same : a.node ≡ b.node = cc in a.counted ∙ ap (λ n. length (parts_of n)) node_same ∙ sym b.counted)
      | inr other ↦ (elim other [
        | inl less ↦ (let few = (b.before a.place a.node less a.is_there).few in absurd (omega (arith, a.counted, a.excess, few)))
        | inr more ↦ (let few = (a.before b.place b.node more b.is_there).few in absurd (omega (arith, b.counted, b.excess, few)))
      ])
    ]

-- A specification breaks one limit first.
pub one_limit : (s : Spec) (a b : BuildFault) → a ≢ BuildFault.OutOfMemory → b ≢ BuildFault.OutOfMemory → TellsLimit s a → TellsLimit s b → a ≡ b
one_limit s (BuildFault.TooManyClasses a) (BuildFault.TooManyClasses b) m n t u = ap (λ k. BuildFault.TooManyClasses k) (t.counted ∙ sym u.counted)
one_limit s (BuildFault.TooManyClasses a) (BuildFault.TooManyParts b) m n t u = (let few = u.classes in absurd (omega (arith, t.counted, t.excess, few)))
one_limit s (BuildFault.TooManyClasses a) (BuildFault.TooDeep b) m n t u = (let few = u.classes in absurd (omega (arith, t.counted, t.excess, few)))
one_limit s (BuildFault.TooManyClasses a) (BuildFault.TooManyNodes b) m n t u = (let few = u.classes in absurd (omega (arith, t.counted, t.excess, few)))
one_limit s (BuildFault.TooManyClasses a) BuildFault.OutOfMemory m n t u = absurd (n refl)
one_limit s (BuildFault.TooManyParts a) (BuildFault.TooManyClasses b) m n t u = (let few = t.classes in absurd (omega (arith, u.counted, u.excess, few)))
one_limit s (BuildFault.TooManyParts a) (BuildFault.TooManyParts b) m n t u = ap (λ k. BuildFault.TooManyParts k) (one_excess s.nodes a b t.first u.first)
one_limit s (BuildFault.TooManyParts a) (BuildFault.TooDeep b) m n t u = (let few = (u.parts.at t.first.place t.first.node t.first.is_there).few in absurd (omega (arith, t.first.counted, t.first.excess, few)))
one_limit s (BuildFault.TooManyParts a) (BuildFault.TooManyNodes b) m n t u = (let few = (u.parts.at t.first.place t.first.node t.first.is_there).few in absurd (omega (arith, t.first.counted, t.first.excess, few)))
one_limit s (BuildFault.TooManyParts a) BuildFault.OutOfMemory m n t u = absurd (n refl)
one_limit s (BuildFault.TooDeep a) (BuildFault.TooManyClasses b) m n t u = (let few = t.classes in absurd (omega (arith, u.counted, u.excess, few)))
one_limit s (BuildFault.TooDeep a) (BuildFault.TooManyParts b) m n t u = (let few = (t.parts.at u.first.place u.first.node u.first.is_there).few in absurd (omega (arith, u.first.counted, u.first.excess, few)))
one_limit s (BuildFault.TooDeep a) (BuildFault.TooDeep b) m n t u = ap (λ k. BuildFault.TooDeep k) (t.measured ∙ sym u.measured)
one_limit s (BuildFault.TooDeep a) (BuildFault.TooManyNodes b) m n t u = (let few = u.depth in absurd (omega (arith, t.measured, t.excess, few)))
one_limit s (BuildFault.TooDeep a) BuildFault.OutOfMemory m n t u = absurd (n refl)
one_limit s (BuildFault.TooManyNodes a) (BuildFault.TooManyClasses b) m n t u = (let few = t.classes in absurd (omega (arith, u.counted, u.excess, few)))
one_limit s (BuildFault.TooManyNodes a) (BuildFault.TooManyParts b) m n t u = (let few = (t.parts.at u.first.place u.first.node u.first.is_there).few in absurd (omega (arith, u.first.counted, u.first.excess, few)))
one_limit s (BuildFault.TooManyNodes a) (BuildFault.TooDeep b) m n t u = (let few = t.depth in absurd (omega (arith, u.measured, u.excess, few)))
one_limit s (BuildFault.TooManyNodes a) (BuildFault.TooManyNodes b) m n t u = ap (λ k. BuildFault.TooManyNodes k) (t.counted ∙ sym u.counted)
one_limit s (BuildFault.TooManyNodes a) BuildFault.OutOfMemory m n t u = absurd (n refl)
one_limit s BuildFault.OutOfMemory b m n t u = absurd (m refl)

-- What is within the limits breaks none.
pub no_limit : (s : Spec) (a : BuildFault) → a ≢ BuildFault.OutOfMemory → TellsLimit s a → IsWithinLimits s → ⊥
no_limit s BuildFault.OutOfMemory m t w = m refl
no_limit s (BuildFault.TooManyClasses a) m t w = let few = w.classes in omega (arith, t.counted, t.excess, few)
no_limit s (BuildFault.TooManyParts a) m t w = (let few = (w.parts.at t.first.place t.first.node t.first.is_there).few in omega (arith, t.first.counted, t.first.excess, few))
no_limit s (BuildFault.TooDeep a) m t w = let few = w.depth in omega (arith, t.measured, t.excess, few)
no_limit s (BuildFault.TooManyNodes a) m t w = let few = w.nodes in omega (arith, t.counted, t.excess, few)
