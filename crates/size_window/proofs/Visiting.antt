-- One visit of an attempt that goes on as ideal making does, by a chooser that decides ideally.
use Rattle.std.proofs.Common.{◌≡◌, ◌⊎◌, inl, inr, ℕ, zero, suc, ◌<◌, ◌≤◌, Bool, true, false, cond, List, [], ◌∷◌, ◌++◌, length, Some, refl, sym, ◌∙◌, ap, subst, arith, append-nil}
use Rattle.std.specs.Prelude.{slice_get, slice_index}
use Rattle.bz_model.specs.declared.cell.Cell.{Cell}
use Rattle.bz_model.specs.Fraction.{Fraction}
use Rattle.bz_model.specs.Spec.{Spec, Node, node_at, body_of}
use Rattle.bz_model.specs.Object.{Object, Objects}
use Rattle.bz_model.specs.Making.{IsCounted}
use Rattle.bz_model.specs.Measures.{HasZero}
use Rattle.object_store.specs.declared.token.Token.{Token}
use Rattle.choice_draw.specs.Decision.{Choice}
use Rattle.choice_draw.specs.Draw.{Bit, Draw, draw}
use Rattle.shape_sampler.specs.Visit.{Chooser, Attempt, Visited, node_visited, after_draw, union_answered, counted_answered, counted_visited, room_for, atom_visited}
use Rattle.shape_sampler.specs.Belonging.{Continues, IsIdealOver}
use Rattle.shape_sampler.proofs.Visits.{goes-on, is-over, empty-turns, atom-turns, atom-over, class-turns, product-turns, union-turns, counted-turns, counted-over}
use Rattle.size_window.specs.Ideally.{DecidesIdeally}
use Rattle.labelling.proofs.DrawDecided.{draw-decided}

-- What a visit's outcome means: an attempt that went on goes on as ideal making does, and one that is over is over for all numbers of its cells.
abbrev pub IsIdeally : Spec → Fraction → (whole : ℕ) → Visited → Type 0
IsIdeally s x whole (Visited.Went a) = Continues s x whole a.tokens a.cells a.room a.pending
IsIdeally s x whole (Visited.Over a) = IsIdealOver s x whole a.cells
IsIdeally s x whole (Visited.Straddled node cell) = Unit {0}
IsIdeally s x whole (Visited.Ended place) = Unit {0}
IsIdeally s x whole (Visited.Failed place) = Unit {0}

-- the entry of a list at an index in range
pub at_index : (xs : List ℕ) (i : ℕ) → i < length xs → slice_get xs i ≡ Some (slice_index xs i)
at_index [] i h = absurd (omega arith)
at_index (y ∷ xs) zero h = refl
at_index (y ∷ xs) (suc i) h = at_index xs i (omega arith)

at_some : (xs : List ℕ) (i v : ℕ) → slice_get xs i ≡ Some v → slice_index xs i ≡ v
at_some [] i v h = absurd (cc)
at_some (y ∷ xs) zero v h = cc
at_some (y ∷ xs) (suc i) v h = at_some xs i v h

module _ (c : Chooser) (x : Fraction) (ideal : DecidesIdeally c x) (whole : ℕ) where
  -- no token and no cell more
  same-going : {tokens : List Token} {cells : List Cell} {room : ℕ} {pending : List ℕ} → Continues c.spec x whole (tokens ++ []) (cells ++ []) room pending → Continues c.spec x whole tokens cells room pending
  same-going {tokens} {cells} {room} {pending} g = subst (λ ts. Continues c.spec x whole ts cells room pending) (append-nil tokens) (subst (λ cs. Continues c.spec x whole (tokens ++ []) cs room pending) (append-nil cells) g)

  no-cell : {tokens : List Token} {cells : List Cell} {room : ℕ} {pending : List ℕ} → Continues c.spec x whole tokens (cells ++ []) room pending → Continues c.spec x whole tokens cells room pending
  no-cell {tokens} {cells} {room} {pending} g = subst (λ cs. Continues c.spec x whole tokens cs room pending) (append-nil cells) g

  no-cell-over : {cells : List Cell} → IsIdealOver c.spec x whole (cells ++ []) → IsIdealOver c.spec x whole cells
  no-cell-over {cells} o = subst (λ cs. IsIdealOver c.spec x whole cs) (append-nil cells) o

  no-token : {tokens : List Token} {cells : List Cell} {room : ℕ} {pending : List ℕ} → Continues c.spec x whole (tokens ++ []) cells room pending → Continues c.spec x whole tokens cells room pending
  no-token {tokens} {cells} {room} {pending} g = subst (λ ts. Continues c.spec x whole ts cells room pending) (append-nil tokens) g

  module _ (bit : ℕ → Bit) (a : Attempt) (e : ℕ) (rest : List ℕ) (before : Continues c.spec x whole a.tokens a.cells a.room (e ∷ rest)) where
    atom-ideally : (room : ℕ) (word : List ℕ) → a.room ≡ room → node_at c.spec e ≡ Some (Node.Atom word) → IsIdeally c.spec x whole (atom_visited a rest room)
    atom-ideally zero word is here = no-cell-over (is-over c.spec x (subst (λ r. Continues c.spec x whole a.tokens a.cells r (e ∷ rest)) is before) (atom-over c.spec x e rest word here))
    atom-ideally (suc room) word is here = no-cell (goes-on c.spec x (subst (λ r. Continues c.spec x whole a.tokens a.cells r (e ∷ rest)) is before) (atom-turns c.spec x e room rest word here))

    union-ideally : (parts : List ℕ) → node_at c.spec e ≡ Some (Node.Union parts) → (d : Draw Choice) → draw (c.decide e a.room) bit a.used ≡ d → IsIdeally c.spec x whole (after_draw e (union_answered a parts rest) d)
    union-ideally parts here (Draw.Decided (Choice.Take i) cell) drawn =
        let k = draw-decided (c.decide e a.room) bit (Choice.Take i) cell a.used drawn in
        goes-on c.spec x before (union-turns c.spec x e i (slice_index parts i) a.room parts rest cell here (at_index parts i (ideal.part e a.room i cell parts here k.decided)) (ideal.takes e a.room i cell k.is_cell k.decided))
    union-ideally parts here (Draw.Decided Choice.Over cell) drawn =
        let k = draw-decided (c.decide e a.room) bit Choice.Over cell a.used drawn in
        absurd (ideal.no_over e a.room cell parts here k.decided)
    union-ideally parts here (Draw.Straddled cell) drawn = tt
    union-ideally parts here (Draw.Ended place) drawn = tt
    union-ideally parts here (Draw.Failed place) drawn = tt

    counted-ideally : (node : Node) (part : ℕ) (form : Objects → Object) → node_at c.spec e ≡ Some node → IsCounted node part form → (free : Bool) → c.is_free part ≡ free → (room : ℕ) → room_for c part a.room ≡ room → (free ≡ false → room ≡ a.room) → (d : Draw Choice) → draw (c.decide e room) bit a.used ≡ d → IsIdeally c.spec x whole (after_draw e (counted_answered a part rest) d)
    counted-ideally node part form here counted free is_free room is_room plain (Draw.Decided (Choice.Take i) cell) drawn =
        let k = draw-decided (c.decide e room) bit (Choice.Take i) cell a.used drawn in
        goes-on c.spec x before (counted-turns c.spec x e i part a.room node form rest cell here counted (fits free is_free plain (ideal.within e room i cell k.decided part node form here counted)) (ideal.takes e room i cell k.is_cell k.decided))
      where
        fits : (b : Bool) → c.is_free part ≡ b → (b ≡ false → room ≡ a.room) → i ≤ room → (i ≤ a.room) ⊎ HasZero c.spec part
        fits true free plain h = inr (ideal.free e part node form here counted free)
        fits false free plain h = inl (let e = plain refl in omega arith)
    counted-ideally node part form here counted true is_free room is_room plain (Draw.Decided Choice.Over cell) drawn =
        let k = draw-decided (c.decide e room) bit Choice.Over cell a.used drawn in
        let sixty_four : room ≡ 64 = sym is_room ∙ ap (λ b. cond b 64 a.room) is_free in
        absurd (ideal.no_over_free e part cell node form here counted is_free (subst (λ r. c.decide e r cell ≡ Some Choice.Over) sixty_four k.decided))
    counted-ideally node part form here counted false is_free room is_room plain (Draw.Decided Choice.Over cell) drawn =
        let k = draw-decided (c.decide e room) bit Choice.Over cell a.used drawn in
        let same = plain refl in
        is-over c.spec x before (counted-over c.spec x e part a.room node form rest cell here counted (ideal.taking e part node form here counted is_free) (λ u inside i h. ideal.over e room cell k.is_cell k.decided u inside i (omega arith)))
    counted-ideally node part form here counted free is_free room is_room plain (Draw.Straddled cell) drawn = tt
    counted-ideally node part form here counted free is_free room is_room plain (Draw.Ended place) drawn = tt
    counted-ideally node part form here counted free is_free room is_room plain (Draw.Failed place) drawn = tt

    room-plain : (part : ℕ) → c.is_free part ≡ false → room_for c part a.room ≡ a.room
    room-plain part taking = ap (λ b. cond b 64 a.room) taking

    counted-visited-ideally : (node : Node) (part : ℕ) (form : Objects → Object) → node_at c.spec e ≡ Some node → IsCounted node part form → IsIdeally c.spec x whole (counted_visited c bit a e part rest)
    counted-visited-ideally node part form here counted =
        counted-ideally node part form here counted (c.is_free part) refl (room_for c part a.room) refl (room-plain part) (draw (c.decide e (room_for c part a.room)) bit a.used) refl

    pub node-ideally : (node : Node) → node_at c.spec e ≡ Some node → ((class : ℕ) → node ≡ Node.Class class → body_of c.spec class ≡ Some (slice_index c.spec.bodies class)) → IsIdeally c.spec x whole (node_visited c bit a e rest (Some node))
    node-ideally (Node.Empty word) here bodies = no-cell (goes-on c.spec x before (empty-turns c.spec x e a.room rest word here))
    node-ideally (Node.Atom word) here bodies = atom-ideally a.room word refl here
    node-ideally (Node.Class class) here bodies = same-going (goes-on c.spec x before (class-turns c.spec x e class (slice_index c.spec.bodies class) a.room rest here (bodies class refl)))
    node-ideally (Node.Union parts) here bodies = union-ideally parts here (draw (c.decide e a.room) bit a.used) refl
    node-ideally (Node.Product parts) here bodies = same-going (goes-on c.spec x before (product-turns c.spec x e a.room parts rest here))
    node-ideally (Node.Seq part) here bodies = counted-visited-ideally (Node.Seq part) part Object.SeqOf here (refl, refl)
    node-ideally (Node.Set part) here bodies = counted-visited-ideally (Node.Set part) part Object.SetOf here (refl, refl)
    node-ideally (Node.Cyc part) here bodies = counted-visited-ideally (Node.Cyc part) part Object.CycOf here (refl, refl)
