use Rattle.std.proofs.Common.{◌≡◌, ℕ, ◌<◌, length, true, sym, ◌∙◌, ap, subst}
use Rattle.bz_model.specs.Object.{Object, Belongs}
use Rattle.object_store.specs.Tokens.{IsOf}
use Rattle.class_system.proofs.Soundness.{has_body}
use Rattle.well_founded.specs.EmptyObjects.{answer_at}
use Rattle.pointing.specs.Atoms.{atomic_classes}
use Rattle.pointing.specs.Calls.{AreMarkedAt}
use Rattle.pointing.specs.Correspondence.{IsPointable}
use Rattle.pointing.specs.PointedSpec.{CanBeMarked, pointed_spec}
use Rattle.pointing.proofs.Spelled.{unmarked-tokens, marked-size_of}
use Rattle.pointing.proofs.pointed.Pointed.unmark.Goals as goal

pub without_mark-requires-clause-pointable : goal.without_mark-requires-clause-pointable
without_mark-requires-clause-pointable c =
    let is = c.system-system.ensures.system in
    record { sound = c.known-2.ensures.sound; few = c.known-2.ensures.limits.classes; is_plain = subst CanBeMarked (sym is) c.requires.same.is_plain; inhabited = subst (λ z. (e : ℕ) → e < length z.nodes → (o : Object) × Belongs z e o) (sym is) c.known.ensures.inhabited }

pub returns : goal.returns
returns c =
    let s = c.system-system.result.now in
    let is : s ≡ c.args.founded.now = c.system-system.ensures.system in
    let tokens = c.args.shape.now.items in
    let able : IsPointable s = record { sound = c.known-2.ensures.sound; few = c.known-2.ensures.limits.classes; is_plain = subst CanBeMarked (sym is) c.requires.same.is_plain; inhabited = subst (λ z. (e : ℕ) → e < length z.nodes → (o : Object) × Belongs z e o) (sym is) c.known.ensures.inhabited } in
    let root : answer_at (atomic_classes s) 0 ≡ true = ap (λ z. answer_at (atomic_classes z) 0) is ∙ c.requires.same.an_atom in
    let of : IsOf (pointed_spec s) 0 tokens = subst (λ z. IsOf z 0 tokens) (c.requires.same.system ∙ ap pointed_spec (sym is)) c.requires.is_of in
    let body = has_body s able.sound 0 able.sound.a_class in
    let r = unmarked-tokens s able root tokens of body.0 body.1 in
    let same = c.in_ok-plain.ensures.unmarked r.0 r.1 r.2 in
    let marked : AreMarkedAt s c.in_ok-plain.plain.items c.in_ok-plain.atom tokens = subst (λ z. AreMarkedAt s c.in_ok-plain.plain.items z tokens) (sym same.1) (subst (λ z. AreMarkedAt s z r.1 tokens) (sym same.0) r.2) in
    let sized = marked-size_of s able root c.in_ok-plain.plain.items tokens c.in_ok-plain.atom marked in
    record {
      marked = subst (λ z. AreMarkedAt z c.in_ok-plain.plain.items c.in_ok-plain.atom tokens) is marked;
      size = sym sized.0;
      there = sized.1;
    }
