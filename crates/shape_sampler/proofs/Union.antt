-- The visit of a union, from what was drawn and what was put.
use Rattle.std.proofs.Common.{◌≡◌, ℕ, ◌+◌, ◌<◌, ◌≤◌, arith, List, [], ◌∷◌, ◌++◌, length, refl, sym, ◌∙◌, ap, subst, append-nil, zero-add, Bool, Option, Some, None, slice_get, slice_index}
use Rattle.bz_model.specs.declared.cell.Cell.{Cell}
use Rattle.bz_model.specs.declared.cell.Bounds.{Bounds}
use Rattle.bz_model.specs.Fraction.{Fraction}
use Rattle.bz_model.specs.Spec.{Spec, Node, node_at}
use Rattle.bz_model.specs.Cell.{IsCell, AreCells, IsInCell}
use Rattle.bz_model.proofs.CellLists.{cells_append}
use Rattle.bz_model.specs.Ideal.{IsIdealOption}
use Rattle.std.proofs.lemmas.Option.{get_or_from_slice_get}
use Rattle.bz_laws.proofs.Unions.{part_there}
use Rattle.class_system.specs.Sound.{IsSound}
use Rattle.class_system.specs.declared.ids.ExprId.{ExprId}
use Rattle.choice_draw.specs.declared.drawn.Drawn.{Drawn}
use Rattle.choice_draw.specs.declared.drawn.Drawn.TheVariants as drawn
use Rattle.choice_draw.specs.Decision.{Choice, union_decision}
use Rattle.choice_draw.specs.Draw.{bit_of, draw}
use Rattle.choice_draw.specs.Answer.{OnValue, HasCell, UsesBits, IsDraw, told_draw, fault_of}
use Rattle.choice_draw.specs.Answer as drew
use Rattle.choice_draw.proofs.ToldDraws.{on_some}
use Rattle.object_store.specs.declared.token.Token.{Token}
use Rattle.object_store.specs.declared.token.Token.TheVariants as token
use Rattle.shape_sampler.specs.declared.stepped.Stepped.{Stepped}
use Rattle.shape_sampler.specs.declared.stepped.Stepped.TheVariants.{Moved, Straddles, Ended, ReadFault}
use Rattle.shape_sampler.specs.Visit.{Chooser, Attempt, Visited, after_draw, union_answered, node_visited, visit_among, visit, with_pending, attempt_with_token, with_cell}
use Rattle.shape_sampler.specs.State.{SessionState, SessionBelongs, Leaves, attempt_of, stopped_by, union_answer, stop_after, drawn_tokens, drawn_cells, PutsPart}
use Rattle.shape_sampler.specs.Answer.{told_visit, visit_fault_place, is_visit_fault, EndsThere, ChoosesBy, IsVisit, IsVisitByBits, IsIdealAnswer, Draws}
use Rattle.shape_sampler.proofs.Ideal.{IsIdealVisit, ideal-union}
use Rattle.shape_sampler.proofs.Sessions.{still-belongs}
use Rattle.shape_sampler.proofs.Plain.{Front, front}

-- What the visit of a union makes of a session: the answer's token, cell and part are put, and all else stays but what stopped it.
pub record Settled (node : ExprId) (parts : List ℕ) (d : Drawn) (before now : SessionState) : Type 0 where
  pub root : now.root ≡ before.root
  pub whole : now.whole ≡ before.whole
  pub pending : PutsPart parts d before.pending now.pending
  pub tokens : now.tokens ≡ before.tokens ++ drawn_tokens d
  pub cells : now.cells ≡ before.cells ++ drawn_cells d
  pub room : now.room ≡ before.room
  pub stopped : now.stopped ≡ stop_after (union_answer node d)

-- It is settled so, from what each call did to the session's parts, which were as they stand in `seen`.
pub settle : (node : ExprId) (parts : List ℕ) (d : Drawn) (seen before now : SessionState) (answer : Stepped) (es : List ℕ) (ts : List Token) (cs : List Cell) → seen ≡ before → now.root ≡ seen.root → now.whole ≡ seen.whole → now.room ≡ seen.room → es ≡ seen.pending → ts ≡ seen.tokens → cs ≡ seen.cells → PutsPart parts d es now.pending → now.tokens ≡ ts ++ drawn_tokens d → now.cells ≡ cs ++ drawn_cells d → now.stopped ≡ stop_after answer → answer ≡ union_answer node d → Settled node parts d before now
settle node parts d seen before now answer es ts cs is root whole room pending tokens cells puts put_tokens put_cells stopped answered = record {
  root = root ∙ ap (λ (st : SessionState). st.root) is;
  whole = whole ∙ ap (λ (st : SessionState). st.whole) is;
  pending = subst (λ fs. PutsPart parts d fs now.pending) (pending ∙ ap (λ (st : SessionState). st.pending) is) puts;
  tokens = put_tokens ∙ ap (λ us. us ++ drawn_tokens d) (tokens ∙ ap (λ (st : SessionState). st.tokens) is);
  cells = put_cells ∙ ap (λ ds. ds ++ drawn_cells d) (cells ∙ ap (λ (st : SessionState). st.cells) is);
  room = room ∙ ap (λ (st : SessionState). st.room) is;
  stopped = stopped ∙ ap stop_after answered;
}

-- Two sessions with the same parts are the same.
pub same-state : (a b : SessionState) → a.root ≡ b.root → a.whole ≡ b.whole → a.pending ≡ b.pending → a.tokens ≡ b.tokens → a.cells ≡ b.cells → a.room ≡ b.room → a.stopped ≡ b.stopped → a ≡ b
same-state a b root whole pending tokens cells room stopped =
    ap (λ r. record a { root = r }) root
    ∙ ap (λ w. record a { root = b.root; whole = w }) whole
    ∙ ap (λ es. record a { root = b.root; whole = b.whole; pending = es }) pending
    ∙ ap (λ ts. record a { root = b.root; whole = b.whole; pending = b.pending; tokens = ts }) tokens
    ∙ ap (λ cs. record a { root = b.root; whole = b.whole; pending = b.pending; tokens = b.tokens; cells = cs }) cells
    ∙ ap (λ r. record a { root = b.root; whole = b.whole; pending = b.pending; tokens = b.tokens; cells = b.cells; room = r }) room
    ∙ ap (λ s. record a { root = b.root; whole = b.whole; pending = b.pending; tokens = b.tokens; cells = b.cells; room = b.room; stopped = s }) stopped

-- Two attempts with the same pending nodes, tokens, cells, room and used bits are the same.
pub same-attempt : (a b : Attempt) → a.pending ≡ b.pending → a.tokens ≡ b.tokens → a.cells ≡ b.cells → a.room ≡ b.room → a.used ≡ b.used → a ≡ b
same-attempt a b pending tokens cells room used =
    ap (λ es. record a { pending = es }) pending
    ∙ ap (λ ts. record a { pending = b.pending; tokens = ts }) tokens
    ∙ ap (λ cs. record a { pending = b.pending; tokens = b.tokens; cells = cs }) cells
    ∙ ap (λ r. record a { pending = b.pending; tokens = b.tokens; cells = b.cells; room = r }) room
    ∙ ap (λ u. record a { pending = b.pending; tokens = b.tokens; cells = b.cells; room = b.room; used = u }) used

-- Where nothing was drawn, all but what stopped the session stays.
pub stays : (before now : SessionState) (answer : Stepped) → now.root ≡ before.root → now.whole ≡ before.whole → now.pending ≡ before.pending → now.tokens ≡ before.tokens ++ [] → now.cells ≡ before.cells ++ [] → now.room ≡ before.room → now.stopped ≡ Some answer → now ≡ stopped_by before answer
stays before now answer root whole pending tokens cells room stopped = same-state now (stopped_by before answer) root whole pending (tokens ∙ append-nil before.tokens) (cells ∙ append-nil before.cells) room stopped

-- the cells that an answer adds are cells
drawn-are : (d : Drawn) → OnValue d (λ i cell. IsCell cell.k cell.b) → AreCells (drawn_cells d)
drawn-are (drawn.Value value cell) h = (h, tt)
drawn-are (drawn.Straddles cell) h = tt
drawn-are drawn.Ended h = tt
drawn-are drawn.ReadFault h = tt

-- where the tape's end stopped the draw, it stopped the visit
to-visit : (node : ExprId) (d : Drawn) (used : ℕ) (bits : ℕ → Option Bool) → drew.DrawEndsThere (told_draw Choice.Take d used) bits → EndsThere (union_answer node d) used bits
to-visit node (drawn.Value value cell) used bits h = tt
to-visit node (drawn.Straddles cell) used bits h = tt
to-visit node drawn.Ended used bits h = h
to-visit node drawn.ReadFault used bits h = tt

to-draw : (node : ExprId) (d : Drawn) (used : ℕ) (bits : ℕ → Option Bool) → EndsThere (union_answer node d) used bits → drew.DrawEndsThere (told_draw Choice.Take d used) bits
to-draw node (drawn.Value value cell) used bits h = tt
to-draw node (drawn.Straddles cell) used bits h = tt
to-draw node drawn.Ended used bits h = h
to-draw node drawn.ReadFault used bits h = tt

-- a visit fails exactly where its draw does
pub draw-fault : (node : ExprId) (d : Drawn) (answer : Stepped) (stopped : Option Stepped) → stopped ≡ None → answer ≡ union_answer node d → drew.is_draw_fault d ≡ is_visit_fault answer stopped
draw-fault node d answer stopped running answered = by d ∙ ap (λ a. is_visit_fault a None) (sym answered) ∙ ap (is_visit_fault answer) (sym running)
  where
    by : (d : Drawn) → drew.is_draw_fault d ≡ is_visit_fault (union_answer node d) None
    by (drawn.Value value cell) = refl
    by (drawn.Straddles cell) = refl
    by drawn.Ended = refl
    by drawn.ReadFault = refl

module _ (node : ExprId) (parts : List ℕ) (before now : SessionState) (first : slice_get before.pending 0 ≡ Some node.0) where
  f : Front before.pending node.0
  f = front before.pending node.0 first

  pub union-leaves : (d : Drawn) → Settled node parts d before now → Leaves (union_answer node d) before now
  union-leaves (drawn.Value value cell) t = (record { root = t.root; whole = t.whole; stopped = t.stopped }, λ none. let put = t.pending node.0 f.rest f.whole in absurd (cc))
  union-leaves (drawn.Straddles cell) t = stays before now (Straddles node cell) t.root t.whole t.pending t.tokens t.cells t.room t.stopped
  union-leaves drawn.Ended t = stays before now Ended t.root t.whole t.pending t.tokens t.cells t.room t.stopped
  union-leaves drawn.ReadFault t = stays before now ReadFault t.root t.whole t.pending t.tokens t.cells t.room t.stopped

  -- what was drawn stands after the cells before, or all bits of a cell were used
  pub union-draws : (d : Drawn) (start used : ℕ) → Settled node parts d before now → UsesBits (told_draw Choice.Take d used) start used → HasCell (told_draw Choice.Take d used) → Draws (union_answer node d) before now start used
  union-draws (drawn.Value value cell) start used t bits h = record { more = cell ∷ []; whole = t.cells }
  union-draws (drawn.Straddles cell) start used t bits h = record { first = first; is_cell = h.0; bits = h.1; all_used = bits }
  union-draws drawn.Ended start used t bits h = tt
  union-draws drawn.ReadFault start used t bits h = tt

  -- the session's attempt after a part was drawn
  picked : (value : ℕ) (cell : Cell) (start used : ℕ) → Settled node parts (drawn.Value value cell) before now → used ≡ start + cell.b → attempt_of now used ≡ with_pending (attempt_with_token (with_cell (attempt_of before start) cell) (token.Pick value)) (slice_index parts value ∷ f.rest)
  picked value cell start used t bits = same-attempt (attempt_of now used) (with_pending (attempt_with_token (with_cell (attempt_of before start) cell) (token.Pick value)) (slice_index parts value ∷ f.rest)) (t.pending node.0 f.rest f.whole) t.tokens t.cells t.room bits

  -- what is told is what the draw's end means
  told : (d : Drawn) (start used : ℕ) → Settled node parts d before now → UsesBits (told_draw Choice.Take d used) start used → told_visit (union_answer node d) now used ≡ after_draw node.0 (union_answered (attempt_of before start) parts f.rest) (told_draw Choice.Take d used)
  told (drawn.Value value cell) start used t bits = ap Visited.Went (picked value cell start used t bits)
  told (drawn.Straddles cell) start used t bits = refl
  told drawn.Ended start used t bits = refl
  told drawn.ReadFault start used t bits = refl

  same-fault : (d : Drawn) (used : ℕ) → fault_of (told_draw Choice.Take d used) ≡ visit_fault_place (union_answer node d) used
  same-fault (drawn.Value value cell) used = refl
  same-fault (drawn.Straddles cell) used = refl
  same-fault drawn.Ended used = refl
  same-fault drawn.ReadFault used = refl

  module _ (s : Spec) (at : node_at s node.0 ≡ Some (Node.Union parts)) where
    pub union-exact : (F : ℕ) (table : (level e : ℕ) → Bounds) (bits : ℕ → Option Bool) (d : Drawn) (start used : ℕ) → Settled node parts d before now → UsesBits (told_draw Choice.Take d used) start used → told_draw Choice.Take d used ≡ draw (union_decision s table node.0) (bit_of bits (fault_of (told_draw Choice.Take d used))) start → (c : Chooser) → ChoosesBy s F table c → IsVisit c bits before start (union_answer node d) now used
    union-exact F table bits d start used t uses drew_so c by = record { same = λ ne. same }
      where
        a : Attempt
        a = attempt_of before start

        same : told_visit (union_answer node d) now used ≡ visit c (bit_of bits (visit_fault_place (union_answer node d) used)) (attempt_of before start)
        same =
            let bit = bit_of bits (visit_fault_place (union_answer node d) used) in
            let here : node_at c.spec node.0 ≡ Some (Node.Union parts) = ap (λ (z : Spec). node_at z node.0) by.same_spec ∙ at in
            let decide : c.decide node.0 before.room ≡ union_decision s table node.0 = by.at_unions node.0 before.room (record { parts = parts; here = at }) in
            let drew : told_draw Choice.Take d used ≡ draw (c.decide node.0 before.room) bit start = drew_so ∙ ap (λ p. draw (union_decision s table node.0) (bit_of bits p) start) (same-fault d used) ∙ ap (λ (choose : Cell → Option Choice). draw choose bit start) (sym decide) in
            told d start used t uses
            ∙ ap (after_draw node.0 (union_answered a parts f.rest)) drew
            ∙ ap (node_visited c bit a node.0 f.rest) (sym here)
            ∙ ap (visit_among c bit a) (sym f.whole)

    -- the cells are cells still
    cells-now : (d : Drawn) → Settled node parts d before now → OnValue d (λ i cell. IsCell cell.k cell.b) → AreCells before.cells → AreCells now.cells
    cells-now d t is_cell all = subst AreCells (sym t.cells) (cells_append before.cells (drawn_cells d) all (drawn-are d is_cell))

    pub union-session : (x : Fraction) → IsSound s → (d : Drawn) → Settled node parts d before now → OnValue d (λ i cell. IsCell cell.k cell.b) → OnValue d (λ i cell. (u : Fraction) → IsInCell cell.k cell.b u → IsIdealOption s x u node.0 i) → OnValue d (λ i cell. i < length parts) → SessionBelongs s x before → SessionBelongs s x now × IsIdealAnswer s x (union_answer node d) now
    union-session x sound (drawn.Value value cell) t is_cell ideal within b =
        let there = part_there parts value within in
        let index : slice_index parts value ≡ there.0 = get_or_from_slice_get parts value there.0 0 there.1 in
        let visit = ideal-union s x before.whole (attempt_of before 0) b.attempt node.0 f.rest f.whole sound parts value there.0 cell at there.1 ideal in
        let attempt = picked value cell 0 cell.b t (sym (zero-add cell.b)) ∙ ap (λ p. with_pending (attempt_with_token (with_cell (attempt_of before 0) cell) (token.Pick value)) (p ∷ f.rest)) index in
        still-belongs s x before now Moved cell.b b (union-leaves (drawn.Value value cell) t) (cells-now (drawn.Value value cell) t is_cell b.cells) (λ ne. subst (λ q. IsIdealVisit s x before.whole (Visited.Went q)) (sym attempt) visit)
    union-session x sound (drawn.Straddles cell) t is_cell ideal within b = still-belongs s x before now (Straddles node cell) 0 b (union-leaves (drawn.Straddles cell) t) (cells-now (drawn.Straddles cell) t is_cell b.cells) (λ ne. tt)
    union-session x sound drawn.Ended t is_cell ideal within b = still-belongs s x before now Ended 0 b (union-leaves drawn.Ended t) (cells-now drawn.Ended t is_cell b.cells) (λ ne. tt)
    union-session x sound drawn.ReadFault t is_cell ideal within b = still-belongs s x before now ReadFault 0 b (union-leaves drawn.ReadFault t) (cells-now drawn.ReadFault t is_cell b.cells) (λ ne. tt)

-- the cell of a value is a cell
pub cell-of : (d : Drawn) (used : ℕ) → HasCell (told_draw Choice.Take d used) → OnValue d (λ i cell. IsCell cell.k cell.b)
cell-of (drawn.Value value cell) used h = h
cell-of (drawn.Straddles cell) used h = tt
cell-of drawn.Ended used h = tt
cell-of drawn.ReadFault used h = tt

-- a draw uses at most 60 bits
pub draw-few : (d : Drawn) (start used : ℕ) → HasCell (told_draw Choice.Take d used) → UsesBits (told_draw Choice.Take d used) start used → (start ≤ used) × (used ≤ start + 60)
draw-few (drawn.Value value cell) start used h u = (omega arith, omega arith)
draw-few (drawn.Straddles cell) start used h u = (omega arith, omega arith)
draw-few drawn.Ended start used h u = (omega arith, omega arith)
draw-few drawn.ReadFault start used h u = (omega arith, omega arith)

-- The same for an answer that is the draw's.
module _ (node : ExprId) (parts : List ℕ) (before now : SessionState) (first : slice_get before.pending 0 ≡ Some node.0) (d : Drawn) (answer : Stepped) (answered : answer ≡ union_answer node d) (settled : Settled node parts d before now) where
  pub answer-leaves : Leaves answer before now
  answer-leaves = subst (λ a. Leaves a before now) (sym answered) (union-leaves node parts before now first d settled)

  pub answer-draws : (start used : ℕ) → UsesBits (told_draw Choice.Take d used) start used → HasCell (told_draw Choice.Take d used) → Draws answer before now start used
  answer-draws start used bits h = subst (λ a. Draws a before now start used) (sym answered) (union-draws node parts before now first d start used settled bits h)

  module _ (s : Spec) (at : node_at s node.0 ≡ Some (Node.Union parts)) where
    answer-exact : (F : ℕ) (table : (level e : ℕ) → Bounds) (start used : ℕ) → UsesBits (told_draw Choice.Take d used) start used → (bits : ℕ → Option Bool) → told_draw Choice.Take d used ≡ draw (union_decision s table node.0) (bit_of bits (fault_of (told_draw Choice.Take d used))) start → (c : Chooser) → ChoosesBy s F table c → IsVisit c bits before start answer now used
    answer-exact F table start used uses bits drawn c by = subst (λ a. IsVisit c bits before start a now used) (sym answered) (union-exact node parts before now first s at F table bits d start used settled uses drawn c by)

    -- the visit over the bits that the draw was given
    pub answer-by-bits : (F : ℕ) (table : (level e : ℕ) → Bounds) (told : Option (ℕ → Option Bool)) (start used : ℕ) → IsDraw (union_decision s table node.0) told start used (told_draw Choice.Take d used) → IsVisitByBits s F table told before start answer now used
    answer-by-bits F table told start used drew_so = record {
      given = drew_so.given;
      gave = drew_so.gave;
      ended = on_some told (λ bits h. subst (λ a. EndsThere a used bits) (sym answered) (to-visit node d used bits h)) drew_so.ended;
      exact = λ bits have ends c by. answer-exact F table start used drew_so.uses bits (drew_so.exact bits have (to-draw node d used bits (subst (λ a. EndsThere a used bits) answered ends))) c by;
    }

    pub answer-session : (x : Fraction) → IsSound s → OnValue d (λ i cell. IsCell cell.k cell.b) → OnValue d (λ i cell. (u : Fraction) → IsInCell cell.k cell.b u → IsIdealOption s x u node.0 i) → OnValue d (λ i cell. i < length parts) → SessionBelongs s x before → SessionBelongs s x now × IsIdealAnswer s x answer now
    answer-session x sound is_cell ideal within b = subst (λ a. SessionBelongs s x now × IsIdealAnswer s x a now) (sym answered) (union-session node parts before now first s at x sound d settled is_cell ideal within b)
