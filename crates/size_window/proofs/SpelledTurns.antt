-- The bits that a course used are those that its cells spell: turn after turn.
use Rattle.std.proofs.Common.{◌≡◌, ℕ, zero, suc, ◌+◌, Bool, true, false, cond, List, [], ◌∷◌, ◌++◌, append-nil, refl, sym, ◌∙◌, ap, subst}
use Rattle.std.specs.Prelude.{Option, Some, None, nat_eq, nat_lt}
use Rattle.bz_model.specs.declared.cell.Cell.{Cell}
use Rattle.bz_model.specs.Spec.{Mode}
use Rattle.bz_model.specs.Cell.{bits_of}
use Rattle.object_store.specs.Tokens.{size_of}
use Rattle.choice_draw.specs.Draw.{bit_of}
use Rattle.choice_draw.specs.LeastCell.{AreBetween}
use Rattle.labelling.specs.LabelsByBits.{Labelling, labelling}
use Rattle.labelling.specs.Spelled.{AreSpelled, SpellsLabelling}
use Rattle.labelling.proofs.SpelledLabels.{labellings_spell, spelled-none, spelled-then, spelled-open, spelled-cell}
use Rattle.shape_sampler.specs.Visit.{Attempt, Visited, visit}
use Rattle.size_window.specs.RunByBits.{Sampling, RunState, Turned, Course, Ending, Open, quiet, with_attempt, added, thrown_away, kept_or_waits, went, visited, shape_turn, counted_turn, label_turn, labelled_with, cut_short, turn_unless, fault_place, followed_by, after, ended}
use Rattle.size_window.specs.Trace.{AreOpen, IsSpelled}
use Rattle.size_window.proofs.VisitCells.{added-after}
use Rattle.size_window.proofs.SpelledVisits.{AddsCells, SpellsVisit, visit-spells}

-- What a turn from a state adds: cells that spell the next bits, and the bits of a number that it left open.
pub record SpellsTurn (tape : ℕ → Option Bool) (st : RunState) (t : Turned) : Type 0 where
  pub open_bits : List Bool
  pub spelled_there : AreSpelled tape st.attempt.used t.cells open_bits t.state.attempt.used
  pub are_open : AreOpen t.state.ending open_bits

module _ (tape : ℕ → Option Bool) (st : RunState) where
  -- nothing is added
  adds-nothing : (now : RunState) → now.attempt.used ≡ st.attempt.used → AreOpen now.ending [] → SpellsTurn tape st (quiet now)
  adds-nothing now used are_open = record { open_bits = []; spelled_there = subst (AreSpelled tape st.attempt.used [] []) (sym used) (spelled-none tape st.attempt.used); are_open = are_open }

  -- the bits of an open number are added, and the drawing ends
  adds-open : (ending : Ending) (place : ℕ) (bits : List Bool) → AreSpelled tape st.attempt.used [] bits place → AreOpen (Some ending) bits → SpellsTurn tape st (quiet (ended st ending place))
  adds-open ending place bits there are_open = record { open_bits = bits; spelled_there = there; are_open = are_open }

  adds-between : (ending : Ending) (place : ℕ) → ((h : AreBetween tape st.attempt.used place) → AreOpen (Some ending) h.between) → AreBetween tape st.attempt.used place → SpellsTurn tape st (quiet (ended st ending place))
  adds-between ending place are_open h = adds-open ending place h.between (spelled-open tape st.attempt.used h.between place h.here h.up_to) (are_open h)

  -- cells are added, and the bits of an open number, and the drawing ends
  adds-both : (ending : Ending) (finished : List Cell) (place : ℕ) (bits : List Bool) → AreSpelled tape st.attempt.used finished bits place → AreOpen (Some ending) bits → SpellsTurn tape st (cut_short st ending finished place)
  adds-both ending finished place bits there are_open = record { open_bits = bits; spelled_there = there; are_open = are_open }

  -- cells are added
  adds-cells : (t : Turned) (more : List Cell) → t.cells ≡ more → AreSpelled tape st.attempt.used more [] t.state.attempt.used → AreOpen t.state.ending [] → SpellsTurn tape st t
  adds-cells t more is there are_open = record { open_bits = []; spelled_there = subst (λ cs. AreSpelled tape st.attempt.used cs [] t.state.attempt.used) (sym is) there; are_open = are_open }

  module _ (going : st.ending ≡ None) where
    -- while a drawing goes on no number is open
    none-open : AreOpen st.ending []
    none-open = subst (λ o. AreOpen o []) (sym going) refl

    -- what a labelling adds
    label-spells : (l : Labelling) → SpellsLabelling tape st.attempt.used l → SpellsTurn tape st (labelled_with st l)
    label-spells (Labelling.Given labels cells place) h = adds-cells _ cells refl h none-open
    label-spells (Labelling.Straddled m cell finished place) h = adds-both (Ending.Undecided (Open.AtLabel m cell)) finished place (bits_of cell.b cell.k) h.0 (refl, h.1)
    label-spells (Labelling.Ended finished place) h = adds-both Ending.TapeEnded finished place h.open_bits h.spelled_there h.few
    label-spells (Labelling.Failed finished place) h = adds-both Ending.ReadFault finished place h.open_bits h.spelled_there h.few

module _ (s : Sampling) (st : RunState) (going : st.ending ≡ None) where
  cells-added : (a : Attempt) (more : List Cell) → a.cells ≡ st.attempt.cells ++ more → added st.attempt.cells a.cells ≡ more
  cells-added a more e = ap (added st.attempt.cells) e ∙ added-after st.attempt.cells more

  made-spells : (a : Attempt) → AddsCells s.tape st.attempt a → (mode : Mode) → SpellsTurn s.tape st (kept_or_waits mode (with_attempt st a) (added st.attempt.cells a.cells))
  made-spells a h Mode.Unlabelled = adds-cells s.tape st _ h.more (cells-added a h.more h.cells) h.spelled_there (none-open s.tape st going)
  made-spells a h Mode.Labelled = adds-cells s.tape st _ h.more (cells-added a h.more h.cells) h.spelled_there (none-open s.tape st going)

  shape-spells : (a : Attempt) → AddsCells s.tape st.attempt a → (small : Bool) → SpellsTurn s.tape st (cond small (record { state = thrown_away (with_attempt st a); entry = None; cells = added st.attempt.cells a.cells }) (kept_or_waits s.chooser.spec.mode (with_attempt st a) (added st.attempt.cells a.cells)))
  shape-spells a h true = adds-cells s.tape st _ h.more (cells-added a h.more h.cells) h.spelled_there (none-open s.tape st going)
  shape-spells a h false = made-spells a h s.chooser.spec.mode

  went-spells : (a : Attempt) → AddsCells s.tape st.attempt a → (pending : List ℕ) → SpellsTurn s.tape st (went s (with_attempt st a) pending (added st.attempt.cells a.cells))
  went-spells a h [] = shape-spells a h (nat_lt (size_of a.tokens) s.limits.min)
  went-spells a h (e ∷ es) = adds-cells s.tape st _ h.more (cells-added a h.more h.cells) h.spelled_there (none-open s.tape st going)

  visited-spells : (v : Visited) → SpellsVisit s.tape st.attempt v → SpellsTurn s.tape st (visited s st v)
  visited-spells (Visited.Went a) h = went-spells a h a.pending
  visited-spells (Visited.Over a) h = adds-cells s.tape st _ h.more (cells-added a h.more h.cells) h.spelled_there (none-open s.tape st going)
  visited-spells (Visited.Straddled node cell) h = adds-open s.tape st (Ending.Undecided (Open.AtNode node cell)) (st.attempt.used + cell.b) (bits_of cell.b cell.k) (spelled-cell s.tape st.attempt.used cell h.here) (refl, h.all)
  visited-spells (Visited.Ended place) h = adds-between s.tape st Ending.TapeEnded place (λ b. b.few) h
  visited-spells (Visited.Failed place) h = adds-between s.tape st Ending.ReadFault place (λ b. b.few) h

  turn-spells : (fault : Option ℕ) (pending : List ℕ) → SpellsTurn s.tape st (shape_turn s (bit_of s.tape fault) st pending)
  turn-spells fault [] = adds-nothing s.tape st _ refl (none-open s.tape st going)
  turn-spells fault (e ∷ rest) = visited-spells (visit s.chooser (bit_of s.tape fault) st.attempt) (visit-spells s.chooser s.tape fault st.attempt st.attempt.pending)

  counted-spells : (fault : Option ℕ) (awaits : Bool) → SpellsTurn s.tape st (cond awaits (label_turn (bit_of s.tape fault) st) (shape_turn s (bit_of s.tape fault) st st.attempt.pending))
  counted-spells fault true = label-spells s.tape st going (labelling (bit_of s.tape fault) (size_of st.attempt.tokens) st.attempt.used) (labellings_spell s.tape fault (size_of st.attempt.tokens) st.attempt.used)
  counted-spells fault false = turn-spells fault st.attempt.pending

module _ (s : Sampling) where
  -- a turn that is counted adds to the state as it stood before
  counted-on : (st : RunState) (fault : Option ℕ) → st.ending ≡ None → SpellsTurn s.tape st (counted_turn s (bit_of s.tape (fault_place st fault)) (record st { turns = suc st.turns }))
  counted-on st fault going =
      let h = counted-spells s (record st { turns = suc st.turns }) going (fault_place st fault) st.awaits in
      record { open_bits = h.open_bits; spelled_there = h.spelled_there; are_open = h.are_open }

  ends-or-counts : (st : RunState) (fault : Option ℕ) (all limit : Bool) → st.ending ≡ None → SpellsTurn s.tape st (cond all (quiet (ended st Ending.Done st.attempt.used)) (cond limit (quiet (ended st Ending.TurnLimit st.attempt.used)) (counted_turn s (bit_of s.tape (fault_place st fault)) (record st { turns = suc st.turns }))))
  ends-or-counts st fault true limit going = adds-nothing s.tape st _ refl refl
  ends-or-counts st fault false true going = adds-nothing s.tape st _ refl refl
  ends-or-counts st fault false false going = counted-on st fault going

  -- a course with one turn more
  one-more : (c : Course) (t : Turned) → c.state.ending ≡ None → IsSpelled c s.tape → SpellsTurn s.tape c.state t → IsSpelled (followed_by c t) s.tape
  one-more c t going h more =
      let none : h.open_bits ≡ [] = subst (λ o. AreOpen o h.open_bits) going h.are_open in
      record {
        open_bits = more.open_bits;
        spelled_there = spelled-then s.tape 0 c.state.attempt.used t.state.attempt.used c.cells t.cells more.open_bits (subst (λ bs. AreSpelled s.tape 0 c.cells bs c.state.attempt.used) none h.spelled_there) more.spelled_there;
        are_open = more.are_open;
      }

  -- one that had ended
  rests : (c : Course) → IsSpelled c s.tape → IsSpelled (followed_by c (quiet c.state)) s.tape
  rests c h = record { open_bits = h.open_bits; spelled_there = subst (λ cs. AreSpelled s.tape 0 cs h.open_bits c.state.attempt.used) (sym (append-nil c.cells)) h.spelled_there; are_open = h.are_open }

  on-turn : (c : Course) (fault : Option ℕ) (o : Option Ending) → c.state.ending ≡ o → IsSpelled c s.tape → IsSpelled (followed_by c (turn_unless s fault c.state o)) s.tape
  on-turn c fault None is h = one-more c (turn_unless s fault c.state None) is h (ends-or-counts c.state fault (nat_eq c.state.kept s.limits.count) (nat_eq c.state.turns s.limits.turns) is)
  on-turn c fault (Some ending) is h = rests c h

  -- a course spells its bits
  pub course-spells : (faults : ℕ → Option ℕ) (n : ℕ) → IsSpelled (after s faults n) s.tape
  course-spells faults zero = record { open_bits = []; spelled_there = spelled-none s.tape 0; are_open = refl }
  course-spells faults (suc n) = on-turn (after s faults n) (faults n) (after s faults n).state.ending refl (course-spells faults n)
