-- A walk over an object writes it with its atom marked.
use Rattle.std.proofs.Common.{◌≡◌, ℕ, zero, suc, arith, ◌<◌, ◌↔◌, List, [], ◌∷◌, refl, sym, ◌∙◌, subst, Option, Some, None}
use Rattle.std.specs.Prelude.{option_to_list, IfNone}
use Rattle.bz_model.specs.Spec.{Spec}
use Rattle.bz_model.specs.Object.{none, more}
use Rattle.object_store.specs.declared.token.Token.{Token}
use Rattle.object_store.specs.declared.visit.Visit.{Visit}
use Rattle.object_store.specs.Tokens.{IsOf, AreOf}
use Rattle.object_store.specs.Waiting.{AreWaiting, Shows}
use Rattle.object_store.specs.Walking.{Walking, IsVisitOfWalk, IsEnd, HasNoObjects}
use Rattle.object_store.proofs.Waiting.{nothing-waits}
use Rattle.pointing.specs.Calls.{AreMarkedAt}
use Rattle.pointing.specs.Ways.{way}
use Rattle.pointing.specs.Writing.{Writes, Writing, WritesOn, IsDue, with_first, ComesTo, HasWritten}
use Rattle.pointing.specs.declared.pieces.Piece.{Piece}
use Rattle.pointing.specs.declared.pieces.Piece.TheVariants as piece

-- Whatever the marked object is, what is written and what is still to be written make its tokens.
pub record IsMarking (s : Spec) (plain : List Token) (places : List ℕ) (walk : Walking) (now : Writing) : Type 0 where
  pub system : walk.system ≡ s
  pub asked : AreOf s walk.waiting walk.left
  pub on : (tokens : List Token) (atom : ℕ) (are : AreMarkedAt s plain atom tokens) → places ≡ way are.from.object atom → ComesTo s tokens now walk.waiting walk.left

pub marking-start : (s : Spec) (plain : List Token) (places : List ℕ) (walk : Walking) (now : Writing) → walk.system ≡ s → IsOf s 0 plain → AreOf s walk.waiting walk.left ↔ IsOf s 0 plain → ((of : IsOf s 0 plain) → (walk.waiting ≡ of.body ∷ []) × AreWaiting s walk.waiting (more of.object none) walk.left) → now.pieces ≡ piece.Marked ∷ [] → now.places ≡ places → now.written ≡ [] → IsMarking s plain places walk now
marking-start s plain places walk now system of asked waits a b c = record {
  system = system;
  asked = asked.1 of;
  on = λ tokens atom are is_way.
      let w = waits are.from in
      let first : Writes s tokens (piece.Marked ∷ []) places (are.from.body ∷ []) (more are.from.object none) [] =
      record { atom = atom; marked = are.to.object; marks = are.marks; is_way = is_way; rest = (refl, refl, are.to.spelled) } in
      record {
        objects = more are.from.object none;
        waits = w.1;
        writes =
            subst (λ z. Writes s tokens z now.places walk.waiting (more are.from.object none) now.written) (sym a)
            (subst (λ z. Writes s tokens (piece.Marked ∷ []) z walk.waiting (more are.from.object none) now.written) (sym b)
            (subst (λ z. Writes s tokens (piece.Marked ∷ []) places walk.waiting (more are.from.object none) z) (sym c)
            (subst (λ z. Writes s tokens (piece.Marked ∷ []) places z (more are.from.object none) []) (sym w.0) first)));
      };
}

-- Where the visit of a node was written, a marking walk goes on as a marking walk.
pub marking-on : (s : Spec) (plain : List Token) (places : List ℕ) (walk next : Walking) (e : ℕ) (v : Visit) (before now : Writing) → IsVisitOfWalk walk next e v → HasWritten s e v before now → IsMarking s plain places walk before → IsMarking s plain places next now
marking-on s plain places walk next e v before now k written h = record {
  system = k.system ∙ h.system;
  asked = subst (λ z. AreOf z next.waiting next.left) h.system (k.same.0 (subst (λ z. AreOf z walk.waiting walk.left) (sym h.system) h.asked));
  on = λ tokens atom are is_way.
      let c = h.on tokens atom are is_way in
      let shown : Shows walk.system e k.others c.objects walk.left v next.waiting next.left = k.shows c.objects (subst (λ z. AreWaiting z walk.waiting c.objects walk.left) (sym h.system) c.waits) in
      written.on tokens k.others c.objects walk.left next.waiting next.left
      (subst (λ z. Shows z e k.others c.objects walk.left v next.waiting next.left) h.system shown)
      (subst (λ z. WritesOn s tokens before z c.objects) k.first c.writes);
}

pub marking-never : (s : Spec) (plain : List Token) (places : List ℕ) (walk next : Walking) (now : Writing) → HasNoObjects walk next → IsMarking s plain places walk now → ⊥
marking-never s plain places walk next now k h = k.never (subst (λ z. AreOf z walk.waiting walk.left) (sym h.system) h.asked)

-- At the end nothing is left to be written.
pub marking-end : (s : Spec) (plain : List Token) (places : List ℕ) (walk next : Walking) (now : Writing) (tokens : List Token) (atom : ℕ) (are : AreMarkedAt s plain atom tokens) → places ≡ way are.from.object atom → IsEnd walk next → IsMarking s plain places walk now → WritesOn s tokens now [] none
marking-end s plain places walk next now tokens atom are is_way k h =
    let c = h.on tokens atom are is_way in
    let nothing = nothing-waits s c.objects walk.left (subst (λ z. AreWaiting s z c.objects walk.left) k.nothing c.waits) in
    subst (λ z. WritesOn s tokens now [] z) nothing.0 (subst (λ z. WritesOn s tokens now z c.objects) k.nothing c.writes)

-- Where nothing waits, no piece is due, and what is written is the whole.
pub written-whole : (s : Spec) (whole : List Token) (due : Option Piece) (now : Writing) → IsDue due → IfNone due (now.pieces ≡ []) → WritesOn s whole (with_first (option_to_list due) now) [] none → now.written ≡ whole
written-whole s whole None now d e h =
    let k : Writes s whole [] now.places [] none now.written = subst (λ z. Writes s whole z now.places [] none now.written) e h in
    k.2
written-whole s whole (Some (piece.Copied n)) now d e h = none-copied n d h
  where
    none-copied : (n : ℕ) → 0 < n → WritesOn s whole (with_first (piece.Copied n ∷ []) now) [] none → now.written ≡ whole
    none-copied zero d h = absurd (omega arith)
    none-copied (suc n) d h = absurd h
written-whole s whole (Some piece.Marked) now d e h = absurd h
written-whole s whole (Some (piece.Count k)) now d e h = absurd d
