use Rattle.std.proofs.Common.{◌∙◌, ℕ, ◌<◌, length, ap, sym, subst}
use Rattle.bz_model.specs.Object.{Object, Belongs}
use Rattle.well_founded.specs.EmptyObjects.{answer_at}
use Rattle.pointing.specs.Atoms.{atomic_classes}
use Rattle.pointing.specs.PointedSpec.{pointed_by, pointed_spec}
use Rattle.pointing.specs.Correspondence.{IsPointable}
use Rattle.pointing.proofs.Drafted.{lacks-atom, breaks-limit, sound-draft}
use Rattle.pointing.proofs.pointed.point.Goals as goal

pub returns-then-not-is_marked-clause-fault : goal.returns-then-not-is_marked-clause-fault
returns-then-not-is_marked-clause-fault c =
    let able : IsPointable c.args.founded.now = subst IsPointable c.system-system.ensures.system (record { sound = c.known-2.ensures.sound; few = c.known-2.ensures.limits.classes; is_plain = c.in_default-first_ranged.ensures.none; inhabited = subst (λ z. (e : ℕ) → e < length z.nodes → (o : Object) × Belongs z e o) (sym c.system-system.ensures.system) c.known.ensures.inhabited }) in
    lacks-atom c.args.founded.now able
    (ap (λ z. answer_at (atomic_classes z) 0) (sym c.system-system.ensures.system) ∙ ap (λ ms. answer_at ms 0) (sym (c.deref.ensures.value ∙ c.in_ok-classes.ensures)) ∙ sym c.is_marked.ensures ∙ c.if-not-is_marked.true)

pub build-requires : goal.build-requires
build-requires c =
    let able : IsPointable c.args.founded.now = subst IsPointable c.system-system.ensures.system (record { sound = c.known-2.ensures.sound; few = c.known-2.ensures.limits.classes; is_plain = c.in_default-first_ranged.ensures.none; inhabited = subst (λ z. (e : ℕ) → e < length z.nodes → (o : Object) × Belongs z e o) (sym c.system-system.ensures.system) c.known.ensures.inhabited }) in
    record {
      sound = sound-draft c.args.founded.now c.in_ok-draft.draft able (c.in_ok-draft.ensures ∙ ap (pointed_by c.system-system.result.now) (c.deref-3.ensures.value ∙ c.in_ok-classes.ensures) ∙ ap pointed_spec c.system-system.ensures.system);
    }

pub returns : goal.returns
returns c =
    let able : IsPointable c.args.founded.now = subst IsPointable c.system-system.ensures.system (record { sound = c.known-2.ensures.sound; few = c.known-2.ensures.limits.classes; is_plain = c.in_default-first_ranged.ensures.none; inhabited = subst (λ z. (e : ℕ) → e < length z.nodes → (o : Object) × Belongs z e o) (sym c.system-system.ensures.system) c.known.ensures.inhabited }) in
    record {
      system = tt;
      pointing = tt;
      plain = tt;
      limits = tt;
      fault = breaks-limit c.args.founded.now c.in_ok-draft.draft c.in-Err.fault able
          (ap (λ z. answer_at (atomic_classes z) 0) (sym c.system-system.ensures.system) ∙ ap (λ ms. answer_at ms 0) (sym (c.deref.ensures.value ∙ c.in_ok-classes.ensures)) ∙ sym c.is_marked.ensures ∙ c.if-not-is_marked.false)
          (c.in_ok-draft.ensures ∙ ap (pointed_by c.system-system.result.now) (c.deref-3.ensures.value ∙ c.in_ok-classes.ensures) ∙ ap pointed_spec c.system-system.ensures.system) c.in_default-fault.not-OutOfMemory c.in-Err.ensures.fault;
    }
