-- The visit of a sequence, set or cycle, from what was drawn and what was put.
use Rattle.std.proofs.Common.{◌≡◌, ◌⊎◌, inl, inr, ℕ, ◌+◌, ◌≤◌, List, [], ◌∷◌, ◌++◌, replicate, refl, sym, ◌∙◌, ap, subst, cond, append-nil, zero-add, arith, Bool, false, Option, Some, None, slice_get}
use Rattle.std.specs.Prelude.{IsTrue, ◌↔◌}
use Rattle.std.proofs.lemmas.Bool.{cases_Bool}
use Rattle.bz_model.specs.declared.cell.Cell.{Cell}
use Rattle.bz_model.specs.declared.cell.Bounds.{Bounds}
use Rattle.bz_model.specs.Fraction.{Fraction}
use Rattle.bz_model.specs.Cell.{IsCell, AreCells}
use Rattle.bz_model.proofs.CellLists.{cells_append}
use Rattle.bz_model.specs.Spec.{Spec, node_at, range_at, IsInRange}
use Rattle.bz_model.specs.Measures.{HasZero}
use Rattle.bz_model.specs.WellFounded.{IsWellFounded}
use Rattle.class_system.specs.Sound.{IsSound}
use Rattle.class_system.specs.declared.ids.ExprId.{ExprId}
use Rattle.choice_draw.specs.Decision.{Choice}
use Rattle.choice_draw.specs.Draw.{Bit, bit_of, draw}
use Rattle.choice_draw.specs.IdealOfCell.{IsIdealOfCell, IsOverOfCell}
use Rattle.series_bounds.specs.Series.{Kind}
use Rattle.count_draw.specs.declared.drawn_count.CountDrawn.{CountDrawn}
use Rattle.count_draw.specs.declared.drawn_count.CountDrawn.TheVariants as counted
use Rattle.count_draw.specs.Kinds.{counted_node}
use Rattle.count_draw.specs.Decision.{count_decision}
use Rattle.choice_draw.specs.Answer.{HasCell, UsesBits, IsDraw, fault_of}
use Rattle.choice_draw.specs.Answer as drew
use Rattle.choice_draw.proofs.ToldDraws.{on_some}
use Rattle.count_draw.specs.Answer.{OnCount, OnOver, told_count}
use Rattle.count_draw.specs.Answer as counting
use Rattle.count_draw.proofs.CountedNodes.{form_of, is_counted, part_inside}
use Rattle.object_store.specs.declared.token.Token.{Token}
use Rattle.object_store.specs.declared.token.Token.TheVariants as token
use Rattle.shape_sampler.specs.declared.stepped.Stepped.{Stepped}
use Rattle.shape_sampler.specs.declared.stepped.Stepped.TheVariants.{Overshot, Straddles, Ended, ReadFault}
use Rattle.shape_sampler.specs.Visit.{Chooser, Attempt, Visited, after_draw, counted_answered, counted_visited, room_for, node_visited, visit_among, visit, with_pending, attempt_with_token, with_cell, given_up}
use Rattle.shape_sampler.specs.State.{SessionState, SessionBelongs, HasCountedPart, Runs, Leaves, attempt_of, answer_for, count_answer, stop_after, count_tokens, count_cells, PutsParts}
use Rattle.shape_sampler.specs.Answer.{told_visit, visit_fault_place, is_visit_fault, EndsThere, ChoosesBy, IsVisit, IsVisitByBits, IsIdealAnswer, Extends, Draws}
use Rattle.shape_sampler.proofs.Ideal.{IsIdealVisit, ideal-counted, ideal-over}
use Rattle.shape_sampler.proofs.Sessions.{still-belongs}
use Rattle.shape_sampler.proofs.Plain.{Front, front}
use Rattle.shape_sampler.proofs.Union.{same-attempt, stays}
use Rattle.shape_sampler.proofs.FreeParts.{free-not_over}

-- What the visit of a sequence, set or cycle makes of a session: the answer's token, cell and parts are put, and all else stays but what stopped it.
pub record CountSettled (node : ExprId) (part : ℕ) (d : CountDrawn) (before now : SessionState) : Type 0 where
  pub root : now.root ≡ before.root
  pub whole : now.whole ≡ before.whole
  pub pending : PutsParts part d before.pending now.pending
  pub tokens : now.tokens ≡ before.tokens ++ count_tokens d
  pub cells : now.cells ≡ before.cells ++ count_cells d
  pub room : now.room ≡ before.room
  pub stopped : now.stopped ≡ stop_after (count_answer node d now.pending)

-- It is settled so, from what each call did to the session's parts, which were as they stand in `seen`.
pub count-settle : (node : ExprId) (part : ℕ) (d : CountDrawn) (seen before now : SessionState) (answer : Stepped) (es : List ℕ) (ts : List Token) (cs : List Cell) → seen ≡ before → now.root ≡ seen.root → now.whole ≡ seen.whole → now.room ≡ seen.room → es ≡ seen.pending → ts ≡ seen.tokens → cs ≡ seen.cells → PutsParts part d es now.pending → now.tokens ≡ ts ++ count_tokens d → now.cells ≡ cs ++ count_cells d → now.stopped ≡ stop_after answer → answer ≡ count_answer node d now.pending → CountSettled node part d before now
count-settle node part d seen before now answer es ts cs is root whole room pending tokens cells puts put_tokens put_cells stopped answered = record {
  root = root ∙ ap (λ (st : SessionState). st.root) is;
  whole = whole ∙ ap (λ (st : SessionState). st.whole) is;
  pending = subst (λ fs. PutsParts part d fs now.pending) (pending ∙ ap (λ (st : SessionState). st.pending) is) puts;
  tokens = put_tokens ∙ ap (λ us. us ++ count_tokens d) (tokens ∙ ap (λ (st : SessionState). st.tokens) is);
  cells = put_cells ∙ ap (λ ds. ds ++ count_cells d) (cells ∙ ap (λ (st : SessionState). st.cells) is);
  room = room ∙ ap (λ (st : SessionState). st.room) is;
  stopped = stopped ∙ ap stop_after answered;
}

-- The room of a count that the code takes: 64 where the part has an object of size 0, and else the room left.
pub record IsRoomFor (s : Spec) (part left room : ℕ) : Type 0 where
  pub free : HasZero s part → room ≡ 64
  pub taking : ¬ (HasZero s part) → room ≡ left

-- It is that of every chooser that tells rightly which nodes have such an object.
room-is : (s : Spec) (c : Chooser) (part left room : ℕ) → (IsTrue (c.is_free part) ↔ HasZero s part) → IsRoomFor s part left room → room_for c part left ≡ room
room-is s c part left room told at = elim (cases_Bool (c.is_free part)) [
  | inl free ↦ ap (λ b. cond b 64 left) free ∙ sym (at.free (told.0 free))
  | inr taking ↦ ap (λ b. cond b 64 left) taking ∙ sym (at.taking (λ zero. let free = told.1 zero in cc))
]

-- The answer where nodes are pending or none is tells the attempt as it is, stops nothing and has no fault.
told-for : (pending : List ℕ) (now : SessionState) (used : ℕ) → told_visit (answer_for pending) now used ≡ Visited.Went (attempt_of now used)
told-for [] now used = refl
told-for (e ∷ es) now used = refl

stop-for : (pending : List ℕ) → stop_after (answer_for pending) ≡ None
stop-for [] = refl
stop-for (e ∷ es) = refl

fault-for : (pending : List ℕ) (used : ℕ) → None ≡ visit_fault_place (answer_for pending) used
fault-for [] used = refl
fault-for (e ∷ es) used = refl

leaves-for : (pending : List ℕ) (before now : SessionState) → now.pending ≡ pending → Runs before now → Leaves (answer_for pending) before now
leaves-for [] before now same r = (r, same)
leaves-for (e ∷ es) before now same r = (r, λ none. let other = same in absurd (cc))

draws-for : (pending : List ℕ) (before now : SessionState) (start used : ℕ) → Extends before.cells now.cells → Draws (answer_for pending) before now start used
draws-for [] before now start used more = more
draws-for (e ∷ es) before now start used more = more

-- a sequence, set or cycle is visited by a draw
visited-is : (kind : Kind) (c : Chooser) (bit : ℕ → Bit) (a : Attempt) (e part : ℕ) (rest : List ℕ) → counted_visited c bit a e part rest ≡ node_visited c bit a e rest (Some (counted_node kind part))
visited-is Kind.Seq c bit a e part rest = refl
visited-is Kind.Set c bit a e part rest = refl
visited-is Kind.Cyc c bit a e part rest = refl

-- the cells that an answer adds are cells
counted-are : (d : CountDrawn) → OnCount d (λ i cell. IsCell cell.k cell.b) → OnOver d (λ cell. IsCell cell.k cell.b) → AreCells (count_cells d)
counted-are (counted.Count value cell) h k = (h, tt)
counted-are (counted.Over cell) h k = (k, tt)
counted-are (counted.Straddles cell) h k = tt
counted-are counted.Ended h k = tt
counted-are counted.ReadFault h k = tt

-- an answer where nodes are pending or none is says nothing of the tape's end, and is no failed read
ends-for : (pending : List ℕ) (used : ℕ) (bits : ℕ → Option Bool) → EndsThere (answer_for pending) used bits
ends-for [] used bits = tt
ends-for (e ∷ es) used bits = tt

no-fault : (pending : List ℕ) → false ≡ is_visit_fault (answer_for pending) None
no-fault [] = refl
no-fault (e ∷ es) = refl

-- where the tape's end stopped the draw, it stopped the visit
to-visit : (node : ExprId) (pending : List ℕ) (d : CountDrawn) (used : ℕ) (bits : ℕ → Option Bool) → drew.DrawEndsThere (told_count d used) bits → EndsThere (count_answer node d pending) used bits
to-visit node pending (counted.Count value cell) used bits h = ends-for pending used bits
to-visit node pending (counted.Over cell) used bits h = tt
to-visit node pending (counted.Straddles cell) used bits h = tt
to-visit node pending counted.Ended used bits h = h
to-visit node pending counted.ReadFault used bits h = tt

to-draw : (node : ExprId) (pending : List ℕ) (d : CountDrawn) (used : ℕ) (bits : ℕ → Option Bool) → EndsThere (count_answer node d pending) used bits → drew.DrawEndsThere (told_count d used) bits
to-draw node pending (counted.Count value cell) used bits h = tt
to-draw node pending (counted.Over cell) used bits h = tt
to-draw node pending (counted.Straddles cell) used bits h = tt
to-draw node pending counted.Ended used bits h = h
to-draw node pending counted.ReadFault used bits h = tt

-- a visit fails exactly where its draw does
pub count-fault : (node : ExprId) (pending : List ℕ) (d : CountDrawn) (answer : Stepped) (stopped : Option Stepped) → stopped ≡ None → answer ≡ count_answer node d pending → counting.is_count_fault d ≡ is_visit_fault answer stopped
count-fault node pending d answer stopped running answered = by d ∙ ap (λ a. is_visit_fault a None) (sym answered) ∙ ap (is_visit_fault answer) (sym running)
  where
    by : (d : CountDrawn) → counting.is_count_fault d ≡ is_visit_fault (count_answer node d pending) None
    by (counted.Count value cell) = no-fault pending
    by (counted.Over cell) = refl
    by (counted.Straddles cell) = refl
    by counted.Ended = refl
    by counted.ReadFault = refl

module _ (node : ExprId) (part : ℕ) (before now : SessionState) (first : slice_get before.pending 0 ≡ Some node.0) where
  f : Front before.pending node.0
  f = front before.pending node.0 first

  pub count-leaves : (d : CountDrawn) → CountSettled node part d before now → Leaves (count_answer node d now.pending) before now
  count-leaves (counted.Count value cell) t = leaves-for now.pending before now refl (record { root = t.root; whole = t.whole; stopped = t.stopped ∙ stop-for now.pending })
  count-leaves (counted.Over cell) t = (record { root = t.root; whole = t.whole; stopped = t.stopped }, t.pending)
  count-leaves (counted.Straddles cell) t = stays before now (Straddles node cell) t.root t.whole t.pending t.tokens t.cells t.room t.stopped
  count-leaves counted.Ended t = stays before now Ended t.root t.whole t.pending t.tokens t.cells t.room t.stopped
  count-leaves counted.ReadFault t = stays before now ReadFault t.root t.whole t.pending t.tokens t.cells t.room t.stopped

  -- what was drawn stands after the cells before, or all bits of a cell were used
  pub count-draws : (d : CountDrawn) (start used : ℕ) → CountSettled node part d before now → UsesBits (told_count d used) start used → HasCell (told_count d used) → Draws (count_answer node d now.pending) before now start used
  count-draws (counted.Count value cell) start used t bits h = draws-for now.pending before now start used (record { more = cell ∷ []; whole = t.cells })
  count-draws (counted.Over cell) start used t bits h = record { more = cell ∷ []; whole = t.cells }
  count-draws (counted.Straddles cell) start used t bits h = record { first = first; is_cell = h.0; bits = h.1; all_used = bits }
  count-draws counted.Ended start used t bits h = tt
  count-draws counted.ReadFault start used t bits h = tt

  -- the session's attempt after a number of parts was drawn
  repeats : (value : ℕ) (cell : Cell) (start used : ℕ) → CountSettled node part (counted.Count value cell) before now → used ≡ start + cell.b → attempt_of now used ≡ with_pending (attempt_with_token (with_cell (attempt_of before start) cell) (token.Count value)) (replicate value part ++ f.rest)
  repeats value cell start used t bits = same-attempt (attempt_of now used) (with_pending (attempt_with_token (with_cell (attempt_of before start) cell) (token.Count value)) (replicate value part ++ f.rest)) (t.pending node.0 f.rest f.whole) t.tokens t.cells t.room bits

  -- and after every number up to the room was passed over
  gives-up : (cell : Cell) (start used : ℕ) → CountSettled node part (counted.Over cell) before now → used ≡ start + cell.b → attempt_of now used ≡ given_up (with_cell (attempt_of before start) cell)
  gives-up cell start used t bits = same-attempt (attempt_of now used) (given_up (with_cell (attempt_of before start) cell)) t.pending (t.tokens ∙ append-nil before.tokens) t.cells t.room bits

  -- what is told is what the draw's end means
  told : (d : CountDrawn) (start used : ℕ) → CountSettled node part d before now → UsesBits (told_count d used) start used → told_visit (count_answer node d now.pending) now used ≡ after_draw node.0 (counted_answered (attempt_of before start) part f.rest) (told_count d used)
  told (counted.Count value cell) start used t bits = told-for now.pending now used ∙ ap Visited.Went (repeats value cell start used t bits)
  told (counted.Over cell) start used t bits = ap Visited.Over (gives-up cell start used t bits)
  told (counted.Straddles cell) start used t bits = refl
  told counted.Ended start used t bits = refl
  told counted.ReadFault start used t bits = refl

  same-fault : (d : CountDrawn) (used : ℕ) → fault_of (told_count d used) ≡ visit_fault_place (count_answer node d now.pending) used
  same-fault (counted.Count value cell) used = fault-for now.pending used
  same-fault (counted.Over cell) used = refl
  same-fault (counted.Straddles cell) used = refl
  same-fault counted.Ended used = refl
  same-fault counted.ReadFault used = refl

  module _ (s : Spec) (at : HasCountedPart s node.0 part) (room : ℕ) (room_at : IsRoomFor s part before.room room) where
    pub count-exact : (F : ℕ) (table : (level e : ℕ) → Bounds) (bits : ℕ → Option Bool) (d : CountDrawn) (start used : ℕ) → CountSettled node part d before now → UsesBits (told_count d used) start used → told_count d used ≡ draw (count_decision s F table node.0 room) (bit_of bits (fault_of (told_count d used))) start → (c : Chooser) → ChoosesBy s F table c → IsVisit c bits before start (count_answer node d now.pending) now used
    count-exact F table bits d start used t uses drew_so c by = record { same = λ ne. same }
      where
        a : Attempt
        a = attempt_of before start

        same : told_visit (count_answer node d now.pending) now used ≡ visit c (bit_of bits (visit_fault_place (count_answer node d now.pending) used)) (attempt_of before start)
        same =
            let bit = bit_of bits (visit_fault_place (count_answer node d now.pending) used) in
            let here : node_at c.spec node.0 ≡ Some (counted_node at.kind part) = ap (λ (z : Spec). node_at z node.0) by.same_spec ∙ at.here in
            let decide : c.decide node.0 (room_for c part before.room) ≡ count_decision s F table node.0 room = ap (c.decide node.0) (room-is s c part before.room room (by.frees part) room_at) ∙ by.at_counted node.0 room (record { kind = at.kind; part = part; here = at.here }) in
            let drew : told_count d used ≡ draw (c.decide node.0 (room_for c part before.room)) bit start = drew_so ∙ ap (λ p. draw (count_decision s F table node.0 room) (bit_of bits p) start) (same-fault d used) ∙ ap (λ (choose : Cell → Option Choice). draw choose bit start) (sym decide) in
            told d start used t uses
            ∙ ap (after_draw node.0 (counted_answered a part f.rest)) drew
            ∙ visited-is at.kind c bit a node.0 part f.rest
            ∙ ap (node_visited c bit a node.0 f.rest) (sym here)
            ∙ ap (visit_among c bit a) (sym f.whole)

    module _ (x : Fraction) (sound : IsSound s) (founded : IsWellFounded s) (decided : HasZero s part ⊎ (¬ (HasZero s part))) (b : SessionBelongs s x before) where
      small : (value : ℕ) → value ≤ room → (value ≤ before.room) ⊎ HasZero s part
      small value le = elim decided [ inl zero ↦ inr zero | inr none ↦ inl (subst (λ r. value ≤ r) (room_at.taking none) le) ]

      -- where every number up to the room is passed over, the part has no object of size 0
      no_zero : (cell : Cell) → IsOverOfCell s x node.0 cell room → ¬ (HasZero s part)
      no_zero cell over zero = free-not_over s sound founded x node.0 part at.kind cell at.here zero (subst (IsOverOfCell s x node.0 cell) (room_at.free zero) over)

      -- the cells are cells still
      cells-now : (d : CountDrawn) → CountSettled node part d before now → OnCount d (λ i cell. IsCell cell.k cell.b) → OnOver d (λ cell. IsCell cell.k cell.b) → AreCells now.cells
      cells-now d t is_cell is_over = subst AreCells (sym t.cells) (cells_append before.cells (count_cells d) b.cells (counted-are d is_cell is_over))

      pub count-session : (d : CountDrawn) → CountSettled node part d before now → OnCount d (λ i cell. IsCell cell.k cell.b) → OnOver d (λ cell. IsCell cell.k cell.b) → OnCount d (λ i cell. IsIdealOfCell s x node.0 cell i) → OnOver d (λ cell. IsOverOfCell s x node.0 cell room) → OnCount d (λ i cell. IsInRange i (range_at s node.0) × (i ≤ room)) → SessionBelongs s x now × IsIdealAnswer s x (count_answer node d now.pending) now
      count-session (counted.Count value cell) t is_cell is_over ideal over within =
          let part_in = part_inside s node.0 part at.kind sound at.here in
          let visit = ideal-counted s x before.whole (attempt_of before 0) b.attempt node.0 f.rest f.whole value part (counted_node at.kind part) (form_of at.kind) cell at.here (is_counted at.kind part) part_in (small value within.1) ideal in
          let attempt = told-for now.pending now cell.b ∙ ap Visited.Went (repeats value cell 0 cell.b t (sym (zero-add cell.b))) in
          still-belongs s x before now (count_answer node (counted.Count value cell) now.pending) cell.b b (count-leaves (counted.Count value cell) t) (cells-now (counted.Count value cell) t is_cell is_over) (λ ne. subst (IsIdealVisit s x before.whole) (sym attempt) visit)
      count-session (counted.Over cell) t is_cell is_over ideal over within =
          let none = no_zero cell over in
          let visit = ideal-over s x before.whole (attempt_of before 0) b.attempt node.0 f.rest f.whole part (counted_node at.kind part) (form_of at.kind) cell at.here (is_counted at.kind part) none (subst (IsOverOfCell s x node.0 cell) (room_at.taking none) over) in
          let attempt = ap Visited.Over (gives-up cell 0 cell.b t (sym (zero-add cell.b))) in
          still-belongs s x before now Overshot cell.b b (count-leaves (counted.Over cell) t) (cells-now (counted.Over cell) t is_cell is_over) (λ ne. subst (IsIdealVisit s x before.whole) (sym attempt) visit)
      count-session (counted.Straddles cell) t is_cell is_over ideal over within = still-belongs s x before now (Straddles node cell) 0 b (count-leaves (counted.Straddles cell) t) (cells-now (counted.Straddles cell) t is_cell is_over) (λ ne. tt)
      count-session counted.Ended t is_cell is_over ideal over within = still-belongs s x before now Ended 0 b (count-leaves counted.Ended t) (cells-now counted.Ended t is_cell is_over) (λ ne. tt)
      count-session counted.ReadFault t is_cell is_over ideal over within = still-belongs s x before now ReadFault 0 b (count-leaves counted.ReadFault t) (cells-now counted.ReadFault t is_cell is_over) (λ ne. tt)

-- the cell of a number is a cell, and so is that by which every number up to the room is passed over
pub count-cell : (d : CountDrawn) (used : ℕ) → HasCell (told_count d used) → OnCount d (λ i cell. IsCell cell.k cell.b)
count-cell (counted.Count value cell) used h = h
count-cell (counted.Over cell) used h = tt
count-cell (counted.Straddles cell) used h = tt
count-cell counted.Ended used h = tt
count-cell counted.ReadFault used h = tt

-- If the draw that an answer tells has a proper cell, so has the answer that every number up to the
-- room is passed over.
pub over-cell : (d : CountDrawn) (used : ℕ) → HasCell (told_count d used) → OnOver d (λ cell. IsCell cell.k cell.b)
over-cell (counted.Count value cell) used h = tt
over-cell (counted.Over cell) used h = h
over-cell (counted.Straddles cell) used h = tt
over-cell counted.Ended used h = tt
over-cell counted.ReadFault used h = tt

-- a draw uses at most 60 bits
pub count-few : (d : CountDrawn) (start used : ℕ) → HasCell (told_count d used) → UsesBits (told_count d used) start used → (start ≤ used) × (used ≤ start + 60)
count-few (counted.Count value cell) start used h u = (omega arith, omega arith)
count-few (counted.Over cell) start used h u = (omega arith, omega arith)
count-few (counted.Straddles cell) start used h u = (omega arith, omega arith)
count-few counted.Ended start used h u = (omega arith, omega arith)
count-few counted.ReadFault start used h u = (omega arith, omega arith)

-- The same for an answer that is the draw's.
module _ (node : ExprId) (part : ℕ) (before now : SessionState) (first : slice_get before.pending 0 ≡ Some node.0) (d : CountDrawn) (answer : Stepped) (answered : answer ≡ count_answer node d now.pending) (settled : CountSettled node part d before now) where
  pub counted-leaves : Leaves answer before now
  counted-leaves = subst (λ a. Leaves a before now) (sym answered) (count-leaves node part before now first d settled)

  pub counted-draws : (start used : ℕ) → UsesBits (told_count d used) start used → HasCell (told_count d used) → Draws answer before now start used
  counted-draws start used bits h = subst (λ a. Draws a before now start used) (sym answered) (count-draws node part before now first d start used settled bits h)

  module _ (s : Spec) (at : HasCountedPart s node.0 part) (room : ℕ) (room_at : IsRoomFor s part before.room room) where
    counted-exact : (F : ℕ) (table : (level e : ℕ) → Bounds) (start used : ℕ) → UsesBits (told_count d used) start used → (bits : ℕ → Option Bool) → told_count d used ≡ draw (count_decision s F table node.0 room) (bit_of bits (fault_of (told_count d used))) start → (c : Chooser) → ChoosesBy s F table c → IsVisit c bits before start answer now used
    counted-exact F table start used uses bits drawn c by = subst (λ a. IsVisit c bits before start a now used) (sym answered) (count-exact node part before now first s at room room_at F table bits d start used settled uses drawn c by)

    -- the visit over the bits that the draw was given
    pub counted-by-bits : (F : ℕ) (table : (level e : ℕ) → Bounds) (told : Option (ℕ → Option Bool)) (start used : ℕ) → IsDraw (count_decision s F table node.0 room) told start used (told_count d used) → IsVisitByBits s F table told before start answer now used
    counted-by-bits F table told start used drew_so = record {
      given = drew_so.given;
      gave = drew_so.gave;
      ended = on_some told (λ bits h. subst (λ a. EndsThere a used bits) (sym answered) (to-visit node now.pending d used bits h)) drew_so.ended;
      exact = λ bits have ends c by. counted-exact F table start used drew_so.uses bits (drew_so.exact bits have (to-draw node now.pending d used bits (subst (λ a. EndsThere a used bits) answered ends))) c by;
    }

    pub counted-session : (x : Fraction) → IsSound s → IsWellFounded s → HasZero s part ⊎ (¬ (HasZero s part)) → OnCount d (λ i cell. IsCell cell.k cell.b) → OnOver d (λ cell. IsCell cell.k cell.b) → OnCount d (λ i cell. IsIdealOfCell s x node.0 cell i) → OnOver d (λ cell. IsOverOfCell s x node.0 cell room) → OnCount d (λ i cell. IsInRange i (range_at s node.0) × (i ≤ room)) → SessionBelongs s x before → SessionBelongs s x now × IsIdealAnswer s x answer now
    counted-session x sound founded decided is_cell is_over ideal over within b = subst (λ a. SessionBelongs s x now × IsIdealAnswer s x a now) (sym answered) (count-session node part before now first s at room room_at x sound founded decided b d settled is_cell is_over ideal over within)
