-- A walk over a marked object reads what it came from.
use Rattle.std.proofs.Common.{◌≡◌, ℕ, zero, suc, ◌+◌, ◌<◌, ◌↔◌, List, [], ◌∷◌, ◌++◌, arith, refl, sym, ◌∙◌, subst, Option, Some, None}
use Rattle.std.specs.Prelude.{option_to_list, IfNone}
use Rattle.bz_model.specs.Spec.{Spec, body_of}
use Rattle.bz_model.specs.Object.{Objects, none, more}
use Rattle.class_system.specs.declared.ids.ExprId.{ExprId}
use Rattle.object_store.specs.declared.token.Token.{Token}
use Rattle.object_store.specs.declared.visit.Visit.{Visit}
use Rattle.object_store.specs.Tokens.{tokens_of, IsOf, AreOf, size_of}
use Rattle.object_store.specs.Waiting.{AreWaiting, Shows}
use Rattle.object_store.specs.Walking.{Walking, IsVisitOfWalk, IsEnd, HasNoObjects}
use Rattle.object_store.proofs.Waiting.{nothing-waits}
use Rattle.pointing.specs.Atoms.{is_atomic_node}
use Rattle.pointing.specs.Calls.{AreMarkedAt}
use Rattle.pointing.specs.Marking.{Marks}
use Rattle.pointing.specs.PointedSpec.{pointed_spec}
use Rattle.pointing.specs.Unmarking.{Unmarks, ReadsDue, Unmarking, ReadsOn, with_dues, IsSome, SameReading, LeadsTo, ReadsTo, HasRead}
use Rattle.pointing.specs.declared.dues.Due.{Due}
use Rattle.pointing.specs.declared.dues.Due.TheVariants as due
use Rattle.pointing.proofs.Marked.{same-body}

-- Whatever the object without the mark is, what is written and what is still to be read make it.
pub record IsUnmarking (s p : Spec) (tokens : List Token) (walk : Walking) (now : Unmarking) : Type 0 where
  pub system : walk.system ≡ p
  pub asked : AreOf p walk.waiting walk.left
  pub on : (plain : List Token) (atom : ℕ) → AreMarkedAt s plain atom tokens → ReadsTo s p plain atom now walk.waiting walk.left

-- A walk that starts with the tokens of a pointed object, its marked body due and nothing written
-- reads the object that it came from.
pub unmarking-start : (s p : Spec) (tokens : List Token) (walk : Walking) (now : Unmarking) (body : ExprId) → p ≡ pointed_spec s → body_of s 0 ≡ Some body.0 → walk.system ≡ p → IsOf p 0 tokens → AreOf p walk.waiting walk.left ↔ IsOf p 0 tokens → ((of : IsOf p 0 tokens) → (walk.waiting ≡ of.body ∷ []) × AreWaiting p walk.waiting (more of.object none) walk.left) → now.dues ≡ due.Marked body ∷ [] → now.written ≡ [] → IsUnmarking s p tokens walk now
unmarking-start s p tokens walk now body is at system of asked waits a c = record {
  system = system;
  asked = asked.1 of;
  on = λ plain atom are.
      let w = (subst (λ z. (of : IsOf z 0 tokens) → (walk.waiting ≡ of.body ∷ []) × AreWaiting z walk.waiting (more of.object none) walk.left) is waits) are.to in
      let marks : Marks s (is_atomic_node s) body.0 are.from.object atom are.to.object = subst (λ z. Marks s (is_atomic_node s) z are.from.object atom are.to.object) (same-body s (is_atomic_node s) 0 are.from.body body.0 are.from.is_body at) are.marks in
      let number_is : size_of [] + atom ≡ atom = (let f : size_of [] ≡ 0 = refl in omega arith) in
      let first : Unmarks s body.0 (ReadsDue s plain atom []) are.to.object none [] = record { atom = atom; object = are.from.object; marks = marks; rest = (refl, are.from.spelled, number_is) } in
      record {
        objects = more are.to.object none;
        waits = subst (λ z. AreWaiting z walk.waiting (more are.to.object none) walk.left) (sym is) w.1;
        reads = subst (λ z. ReadsDue s plain atom z now.told (more are.to.object none) now.written) (sym a) (subst (λ z. ReadsDue s plain atom (due.Marked body ∷ []) now.told (more are.to.object none) z) (sym c) first);
      };
}

-- Where the visit of a node was read, a walk over a marked object that reads what it came from goes
-- on as such a walk.
pub unmarking-on : (s p : Spec) (tokens : List Token) (walk next : Walking) (e : ℕ) (v : Visit) (before now : Unmarking) → IsVisitOfWalk walk next e v → HasRead s p e v before now → IsUnmarking s p tokens walk before → IsUnmarking s p tokens next now
unmarking-on s p tokens walk next e v before now k read h = record {
  system = k.system ∙ h.system;
  asked = subst (λ z. AreOf z next.waiting next.left) h.system (k.same.0 (subst (λ z. AreOf z walk.waiting walk.left) (sym h.system) h.asked));
  on = λ plain atom are.
      let c = h.on plain atom are in
      let shown : Shows walk.system e k.others c.objects walk.left v next.waiting next.left = k.shows c.objects (subst (λ z. AreWaiting z walk.waiting c.objects walk.left) (sym h.system) c.waits) in
      read.on plain atom k.others c.objects walk.left next.waiting next.left (subst (λ z. Shows z e k.others c.objects walk.left v next.waiting next.left) h.system shown) c.reads;
}

pub unmarking-never : (s p : Spec) (tokens : List Token) (walk next : Walking) (now : Unmarking) → HasNoObjects walk next → IsUnmarking s p tokens walk now → ⊥
unmarking-never s p tokens walk next now k h = k.never (subst (λ z. AreOf z walk.waiting walk.left) (sym h.system) h.asked)

-- At the end nothing is left to be read.
pub unmarking-end : (s p : Spec) (tokens : List Token) (walk next : Walking) (now : Unmarking) (plain : List Token) (atom : ℕ) → AreMarkedAt s plain atom tokens → IsEnd walk next → IsUnmarking s p tokens walk now → ReadsOn s plain atom now none
unmarking-end s p tokens walk next now plain atom are k h =
    let c = h.on plain atom are in
    let nothing = nothing-waits p c.objects walk.left (subst (λ z. AreWaiting p z c.objects walk.left) k.nothing c.waits) in
    subst (ReadsOn s plain atom now) nothing.0 c.reads

-- Where no object waits, nothing is due.
pub read-whole : (s : Spec) (whole : List Token) (atom : ℕ) (d : Option Due) (now : Unmarking) → IsSome d → IfNone d (now.dues ≡ []) → ReadsOn s whole atom (with_dues (option_to_list d) now) none → (now.written ≡ whole) × (now.told ≡ atom)
read-whole s whole atom None now some e h =
    let k : ReadsDue s whole atom [] now.told none now.written = subst (λ z. ReadsDue s whole atom z now.told none now.written) e h in
    (k.1, k.2)
read-whole s whole atom (Some (due.Copied n)) now some e h = none-copied n some h
  where
    none-copied : (n : ℕ) → 0 < n → ReadsOn s whole atom (with_dues (due.Copied n ∷ []) now) none → (now.written ≡ whole) × (now.told ≡ atom)
    none-copied zero some h = absurd (omega arith)
    none-copied (suc n) some h = absurd h
read-whole s whole atom (Some (due.Marked node)) now some e h = absurd h
read-whole s whole atom (Some (due.Tuple node place)) now some e h = absurd h
read-whole s whole atom (Some (due.Split part)) now some e h = absurd h
read-whole s whole atom (Some (due.Last place before)) now some e h = absurd h

-- A visit that was read after what is due was taken.
pub read-after : (s p : Spec) (e : ℕ) (v : Visit) (before middle now : Unmarking) → SameReading before middle → HasRead s p e v middle now → HasRead s p e v before now
read-after s p e v before middle now same read = record { on = λ whole atom es os ts fs us shows h. read.on whole atom es os ts fs us shows (same.on s whole atom os h) }

-- A node that leads to another leads on.
pub leads-on : (s : Spec) (e f g : ℕ) (u v w : List Token) → LeadsTo s e f u v → LeadsTo s f g v w → LeadsTo s e g u w
leads-on s e f g u v w h k = record {
  no_atom = k.no_atom ∙ h.no_atom;
  on = λ o m atom marks.
      let a = h.on o m atom marks in
      let b = k.on a.0 m atom a.1 in
      (b.0, b.1, a.2 ∙ b.2);
}

pub leads-nowhere : (s : Spec) (e : ℕ) (u : List Token) → LeadsTo s e e u u
leads-nowhere s e u = record { no_atom = refl; on = λ o m atom marks. (o, marks, refl) }

-- A marked object of a node is read as one of the node that it leads to.
pub read-resolved : (s p : Spec) (node to : ExprId) (e : ℕ) (v : Visit) (before middle now : Unmarking) → LeadsTo s node.0 to.0 before.written middle.written → middle.dues ≡ before.dues → middle.told ≡ before.told → HasRead s p e v (with_dues (due.Marked to ∷ []) middle) now → HasRead s p e v (with_dues (due.Marked node ∷ []) before) now
read-resolved s p node to e v before middle now leads same_dues same_told read = record { on = λ whole atom es os ts fs us shows h. read.on whole atom es os ts fs us shows (resolved whole atom os h) }
  where
    resolved : (whole : List Token) (atom : ℕ) (os : Objects) → ReadsOn s whole atom (with_dues (due.Marked node ∷ []) before) os → ReadsOn s whole atom (with_dues (due.Marked to ∷ []) middle) os
    resolved whole atom none h = absurd h
    resolved whole atom (more m os) h =
        let k : Unmarks s node.0 (ReadsDue s whole atom before.dues) m os before.written = h in
        let r = leads.on k.object m k.atom k.marks in
        let rest : ReadsDue s whole atom before.dues (size_of middle.written + k.atom) os (middle.written ++ tokens_of r.0) =
        subst (λ n. ReadsDue s whole atom before.dues (n + k.atom) os (middle.written ++ tokens_of r.0)) (sym leads.no_atom) (subst (ReadsDue s whole atom before.dues (size_of before.written + k.atom) os) r.2 k.rest) in
        let first : Unmarks s to.0 (ReadsDue s whole atom middle.dues) m os middle.written = record { atom = k.atom; object = r.0; marks = r.1; rest = subst (λ z. ReadsDue s whole atom z (size_of middle.written + k.atom) os (middle.written ++ tokens_of r.0)) (sym same_dues) rest } in
        first
