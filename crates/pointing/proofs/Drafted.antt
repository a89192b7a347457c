-- The draft of a pointed specification, and what a refusal tells.
use Rattle.std.proofs.Common.{◌≡◌, ◌≢◌, ℕ, List, [], ◌++◌, map, replicate, sym, ◌∙◌, ap, subst, Bool, true, false}
use Rattle.bz_model.specs.Spec.{Spec, Mode}
use Rattle.class_system.specs.Drafting.{empty_draft}
use Rattle.class_system.specs.Limits.{TellsLimit}
use Rattle.class_system.specs.Sound.{IsSound}
use Rattle.class_system.specs.declared.limits.BuildFault.{BuildFault}
use Rattle.class_system.specs.declared.limits.BuildFault.TheVariants as limit
use Rattle.class_system.proofs.Soundness.{has_body}
use Rattle.well_founded.specs.EmptyObjects.{answer_at}
use Rattle.pointing.specs.Forms.{parts_from, forms_joined, body_forms}
use Rattle.pointing.specs.Atoms.{atomic_classes}
use Rattle.pointing.specs.PointedForm.{pointed_parts, copied}
use Rattle.pointing.specs.PointedSpec.{pointed_by, pointed_spec, pointed_names, pointed_bodies}
use Rattle.pointing.specs.LaidOut.{all_nodes, tops, laid_each, plain}
use Rattle.pointing.specs.Building.{Layout, IsLayout}
use Rattle.pointing.specs.Correspondence.{IsPointable}
use Rattle.pointing.specs.Calls.{LacksAtom, PointedBreaksLimit}
use Rattle.pointing.proofs.TaskSteps.{joined-parts, copied-list}
use Rattle.pointing.proofs.Rounds.{are-atomic}
use Rattle.pointing.proofs.Onward.{none-found}
use Rattle.pointing.proofs.Linked.{is-sound}

-- Nothing is laid out in a draft that has names alone.
pub layout-start : (names : List (List ℕ)) (d : Spec) (l : Layout) → d ≡ record (empty_draft Mode.Unlabelled) { names = names } → l.draft ≡ d → l.numbers ≡ [] → IsLayout names [] l
layout-start names d l is same none = record {
  unlabelled = ap (λ e. e.mode) (same ∙ is);
  named = ap (λ e. e.names) (same ∙ is);
  no_bodies = ap (λ e. e.bodies) (same ∙ is);
  nodes = ap (λ e. e.nodes) (same ∙ is);
  ranges = ap (λ e. e.ranges) (same ∙ is);
  numbered = none;
}

-- What is laid out, with its forms as bodies, is the pointed specification.
pub drafted : (s : Spec) (cls : List Bool) (l : Layout) (d : Spec) → IsLayout (pointed_names cls) (pointed_parts cls (parts_from (body_forms s)) ++ map (copied cls) (body_forms s)) l → d ≡ record (l.draft) { bodies = l.draft.bodies ++ l.numbers } → d ≡ pointed_by s cls
drafted s cls l d is with_bodies = with_bodies ∙ (λ i. record {
  mode = is.unlabelled i;
  names = is.named i;
  bodies = bodies i;
  nodes = nodes i;
  ranges = ranges i;
})
  where
    same : parts_from (pointed_parts cls (parts_from (body_forms s)) ++ map (copied cls) (body_forms s)) ≡ pointed_bodies cls (parts_from (body_forms s))
    same = sym (joined-parts (pointed_parts cls (parts_from (body_forms s))) (map (copied cls) (body_forms s))) ∙ ap (forms_joined (parts_from (pointed_parts cls (parts_from (body_forms s))))) (sym (copied-list cls (body_forms s)))

    bodies : l.draft.bodies ++ l.numbers ≡ tops 0 (pointed_bodies cls (parts_from (body_forms s)))
    bodies = ap (λ z. z ++ l.numbers) is.no_bodies ∙ is.numbered ∙ ap (tops 0) same

    nodes : l.draft.nodes ≡ laid_each 0 (pointed_bodies cls (parts_from (body_forms s)))
    nodes = is.nodes ∙ ap (laid_each 0) same

    ranges : l.draft.ranges ≡ replicate (all_nodes (pointed_bodies cls (parts_from (body_forms s)))) plain
    ranges = is.ranges ∙ ap (λ z. replicate (all_nodes z) plain) same

-- Class 0 is not among those with an atom.
pub lacks-atom : (s : Spec) → IsPointable s → answer_at (atomic_classes s) 0 ≡ false → LacksAtom s
lacks-atom s able e = record { is_plain = able.is_plain; none = λ body o at k. none-found s able 0 body o at e k }

-- A limit is broken.
pub breaks-limit : (s d : Spec) (fault : BuildFault) → IsPointable s → answer_at (atomic_classes s) 0 ≡ true → d ≡ pointed_spec s → fault ≢ limit.OutOfMemory → TellsLimit d fault → PointedBreaksLimit s fault
breaks-limit s d fault able e same other broken =
    let b = has_body s able.sound 0 able.sound.a_class in
    record { is_plain = able.is_plain; body = b.0; is_body = b.1; an_atom = (are-atomic s able.inhabited able.sound able.is_plain).right 0 b.0 b.1 e; no_memory_fault = other; broken = subst (λ z. TellsLimit z fault) same broken }

-- The pointed specification is sound.
pub sound-draft : (s d : Spec) → IsPointable s → d ≡ pointed_spec s → IsSound d
sound-draft s d able same = subst IsSound (sym same) (is-sound s able.sound able.is_plain (atomic_classes s) (are-atomic s able.inhabited able.sound able.is_plain).closed able.few)
