use Rattle.std.proofs.Common.{◌≡◌, ℕ, ◌+◌, ◌≤◌, List, ◌∷◌, [], ◌++◌, length, map, Some, arith, refl, sym, ◌∙◌, ap, subst, append_assoc}
use Rattle.std.proofs.lemmas.List.{length-map}
use Rattle.bz_model.specs.Spec.{Spec, Node, node_at, body_of}
use Rattle.class_system.proofs.Soundness.{class_in_range}
use Rattle.class_system.specs.Views.{number, spec_node}
use Rattle.object_store.specs.Tokens.{tokens_of, size_of}
use Rattle.object_store.specs.declared.token.Token.{Token}
use Rattle.object_store.specs.declared.token.Token.TheVariants as token
use Rattle.object_store.proofs.Sizes.{size_of-push}
use Rattle.pointing.specs.Atoms.{is_atomic_node}
use Rattle.pointing.specs.Correspondence.{IsPointable}
use Rattle.pointing.specs.Marking.{Marks, choices}
use Rattle.pointing.specs.Unmarking.{LeadsTo}
use Rattle.pointing.proofs.Chosen.{choices-counted}
use Rattle.pointing.proofs.Marked.{at-node, same-body}
use Rattle.pointing.proofs.UnmarkSteps.{choice-place, IsPlace, from-one}
use Rattle.pointing.proofs.resolving.one_on.Goals as goal

to-body : (s : Spec) (e c body : ℕ) (w : List Token) → node_at s e ≡ Some (Node.Class c) → body_of s c ≡ Some body → LeadsTo s e body w w
to-body s e c body w at is = record {
  no_atom = refl;
  on = λ o m atom marks. let r = at-node s (is_atomic_node s) (Node.Class c) at marks in (o, subst (λ z. Marks s (is_atomic_node s) z o atom m) (same-body s (is_atomic_node s) c r.0 body r.1 is) r.2, refl);
}

to-part : (s : Spec) → IsPointable s → (e place part : ℕ) (ps : List ℕ) (w new : List Token) → node_at s e ≡ Some (Node.Union ps) → choices (is_atomic_node s) ps ≡ 1 → IsPlace s ps 0 place part → new ≡ w ++ token.Pick place ∷ [] → LeadsTo s e part w new
to-part s able e place part ps w new at one is put = record {
  no_atom = ap size_of put ∙ size_of-push w (token.Pick place) ∙ (let f : size_of w + 0 ≡ size_of w = omega arith in f);
  on = λ o m atom marks.
      let r = from-one s able e place part atom ps o m at one is marks in
      (r.0, r.1, ap (λ z. w ++ tokens_of z) r.2 ∙ sym (append_assoc w (token.Pick place ∷ []) (tokens_of r.0)) ∙ ap (λ z. z ++ tokens_of r.0) (sym put));
}

pub body-requires : goal.body-requires
body-requires c = record { in_range = class_in_range c.args.system.now c.known.ensures.sound c.args.node.0 c.in-Class.c.0 (c.in_ok-c.ensures.node ∙ ap (λ x. Some (spec_node x)) c.in-Class.is) }

pub returns-then-count_marked-ne1-clause-resolved : goal.returns-then-count_marked-ne1-clause-resolved
returns-then-count_marked-ne1-clause-resolved c =
    let s = c.args.system.now in
    let ps = map number c.items-items.result.now in
    let at : node_at s c.args.node.0 ≡ Some (Node.Union ps) = c.in_ok-c.ensures.node ∙ ap (λ x. Some (spec_node x)) c.in-Union.is ∙ ap (λ z. Some (Node.Union (map number z))) (sym c.items-items.ensures.items) in
    let n = choices-counted s c.args.atomic.now ps c.items-items.result.now c.count_marked.result c.requires.atomic refl c.count_marked.ensures.count in
    record { choices = λ parts other e. c.if-count_marked-ne1.true (n ∙ ap (choices (is_atomic_node s)) (let same : ps ≡ parts = cc in same) ∙ e) }

pub overflow_cast-place : goal.overflow_cast-place
overflow_cast-place c =
    let at : node_at c.args.system.now c.args.node.0 ≡ Some (Node.Union (map number c.items-items.result.now)) = c.in_ok-c.ensures.node ∙ ap (λ x. Some (spec_node x)) c.in-Union.is ∙ ap (λ z. Some (Node.Union (map number z))) (sym c.items-items.ensures.items) in
    let limit : length (map number c.items-items.result.now) ≤ 64 = (c.known.ensures.limits.parts.at c.args.node.0 (Node.Union (map number c.items-items.result.now)) at).few in
    let same = length-map c.items-items.result.now number in
    let within = c.in-Some.ensures.within in
    omega arith

pub returns-in-Class-clause-leads : goal.returns-in-Class-clause-leads
returns-in-Class-clause-leads c = to-body c.args.system.now c.args.node.0 c.in-Class.c.0 c.body.result.0 c.args.written.now.items (c.in_ok-c.ensures.node ∙ ap (λ x. Some (spec_node x)) c.in-Class.is) c.body.ensures.body

pub returns-in_ok-push-in-Union-clause-leads : goal.returns-in_ok-push-in-Union-clause-leads
returns-in_ok-push-in-Union-clause-leads c =
    let s = c.args.system.now in
    let ps = map number c.items-items.result.now in
    let at : node_at s c.args.node.0 ≡ Some (Node.Union ps) = c.in_ok-c.ensures.node ∙ ap (λ x. Some (spec_node x)) c.in-Union.is ∙ ap (λ z. Some (Node.Union (map number z))) (sym c.items-items.ensures.items) in
    let n = choices-counted s c.args.atomic.now ps c.items-items.result.now c.count_marked.result c.requires.atomic refl c.count_marked.ensures.count in
    to-part s c.requires.pointable c.args.node.0 c.in-Some.place c.in-Some.part.0 ps c.args.written.now.items c.push.new.self.items at (sym n ∙ c.if-count_marked-ne1.false)
    (choice-place s c.args.atomic.now ps c.items-items.result.now 0 c.in-Some.place c.in-Some.part c.requires.atomic refl c.in-Some.ensures.choice) c.in_ok-push-in-Union.ensures.items
