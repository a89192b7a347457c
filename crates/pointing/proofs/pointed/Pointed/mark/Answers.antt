use Rattle.std.proofs.Common.{◌≡◌, ℕ, ◌<◌, length, true, sym, ◌∙◌, ap, subst}
use Rattle.bz_model.specs.Object.{Object, Belongs}
use Rattle.object_store.specs.Tokens.{IsOf}
use Rattle.well_founded.specs.EmptyObjects.{answer_at}
use Rattle.pointing.specs.Atoms.{atomic_classes}
use Rattle.pointing.specs.Calls.{AreMarkedAt}
use Rattle.pointing.specs.Correspondence.{IsPointable}
use Rattle.pointing.specs.PointedSpec.{CanBeMarked}
use Rattle.pointing.proofs.Spelled.{marked-tokens, marked-size_of}
use Rattle.pointing.proofs.pointed.Pointed.mark.Goals as goal

pub returns : goal.returns
returns c =
    let s = c.system-system.result.now in
    let is : s ≡ c.args.founded.now = c.system-system.ensures.system in
    let plain = c.args.shape.now.items in
    let able : IsPointable s = record { sound = c.known-2.ensures.sound; few = c.known-2.ensures.limits.classes; is_plain = subst CanBeMarked (sym is) c.requires.same.is_plain; inhabited = subst (λ z. (e : ℕ) → e < length z.nodes → (o : Object) × Belongs z e o) (sym is) c.known.ensures.inhabited } in
    let root : answer_at (atomic_classes s) 0 ≡ true = ap (λ z. answer_at (atomic_classes z) 0) is ∙ c.requires.same.an_atom in
    let of : IsOf s 0 plain = subst (λ z. IsOf z 0 plain) (sym is) c.requires.is_of in
    let r = marked-tokens s able root plain c.args.atom of c.requires.there in
    let tokens : c.in_ok-object.object.items ≡ r.0 = c.in_ok-object.ensures.marked r.0 c.args.atom r.1 (c.deref-2.ensures.value ∙ c.in_ok-places.ensures.way r.1.from) in
    let marked : AreMarkedAt s plain c.args.atom c.in_ok-object.object.items = subst (AreMarkedAt s plain c.args.atom) (sym tokens) r.1 in
    record {
      marked = subst (λ z. AreMarkedAt z plain c.args.atom c.in_ok-object.object.items) is marked;
      size = (marked-size_of s able root plain c.in_ok-object.object.items c.args.atom marked).0;
    }
