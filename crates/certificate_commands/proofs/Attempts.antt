-- A course throws away no more attempts than it makes turns.
use Rattle.std.proofs.Common.{ℕ, zero, suc, ◌≤◌, arith, Bool, true, false, cond, List, [], ◌∷◌}
use Rattle.std.specs.Prelude.{Option, Some, None, nat_eq, nat_lt}
use Rattle.bz_model.specs.declared.cell.Cell.{Cell}
use Rattle.bz_model.specs.Spec.{Mode}
use Rattle.object_store.specs.Tokens.{size_of}
use Rattle.choice_draw.specs.Draw.{bit_of}
use Rattle.labelling.specs.LabelsByBits.{Labelling, labelling}
use Rattle.shape_sampler.specs.Visit.{Attempt, Visited, visit}
use Rattle.size_window.specs.RunByBits.{Sampling, RunState, Turned, Ending, quiet, with_attempt, added, thrown_away, kept_or_waits, went, visited, shape_turn, counted_turn, label_turn, labelled_with, turn_unless, fault_place, after, ended}

-- a turn leaves no more attempts thrown away than turns
abbrev FewThrown : Turned → Type 0
FewThrown t = t.state.thrown ≤ t.state.turns

module _ (s : Sampling) (st : RunState) (h : suc st.thrown ≤ st.turns) where
  fewer : st.thrown ≤ st.turns
  fewer = omega arith

  label-few : (l : Labelling) → FewThrown (labelled_with st l)
  label-few (Labelling.Given labels cells place) = fewer
  label-few (Labelling.Straddled m cell finished place) = fewer
  label-few (Labelling.Ended finished place) = fewer
  label-few (Labelling.Failed finished place) = fewer

  made-few : (a : Attempt) (finished : List Cell) (mode : Mode) → FewThrown (kept_or_waits mode (with_attempt st a) finished)
  made-few a finished Mode.Unlabelled = fewer
  made-few a finished Mode.Labelled = fewer

  shape-few : (a : Attempt) (finished : List Cell) (small : Bool) → FewThrown (cond small (record { state = thrown_away (with_attempt st a); entry = None; cells = finished }) (kept_or_waits s.chooser.spec.mode (with_attempt st a) finished))
  shape-few a finished true = h
  shape-few a finished false = made-few a finished s.chooser.spec.mode

  went-few : (a : Attempt) (finished : List Cell) (pending : List ℕ) → FewThrown (went s (with_attempt st a) pending finished)
  went-few a finished [] = shape-few a finished (nat_lt (size_of a.tokens) s.limits.min)
  went-few a finished (e ∷ es) = fewer

  visited-few : (v : Visited) → FewThrown (visited s st v)
  visited-few (Visited.Went a) = went-few a (added st.attempt.cells a.cells) a.pending
  visited-few (Visited.Over a) = h
  visited-few (Visited.Straddled node cell) = fewer
  visited-few (Visited.Ended place) = fewer
  visited-few (Visited.Failed place) = fewer

  turn-few : (fault : Option ℕ) (pending : List ℕ) → FewThrown (shape_turn s (bit_of s.tape fault) st pending)
  turn-few fault [] = fewer
  turn-few fault (e ∷ rest) = visited-few (visit s.chooser (bit_of s.tape fault) st.attempt)

  counted-few : (fault : Option ℕ) (awaits : Bool) → FewThrown (cond awaits (label_turn (bit_of s.tape fault) st) (shape_turn s (bit_of s.tape fault) st st.attempt.pending))
  counted-few fault true = label-few (labelling (bit_of s.tape fault) (size_of st.attempt.tokens) st.attempt.used)
  counted-few fault false = turn-few fault st.attempt.pending

module _ (s : Sampling) where
  ends-or-counts : (st : RunState) (fault : Option ℕ) (all limit : Bool) → st.thrown ≤ st.turns → FewThrown (cond all (quiet (ended st Ending.Done st.attempt.used)) (cond limit (quiet (ended st Ending.TurnLimit st.attempt.used)) (counted_turn s (bit_of s.tape (fault_place st fault)) (record st { turns = suc st.turns }))))
  ends-or-counts st fault true limit h = h
  ends-or-counts st fault false true h = h
  ends-or-counts st fault false false h = counted-few s (record st { turns = suc st.turns }) (omega arith) (fault_place st fault) st.awaits

  unless-few : (st : RunState) (fault : Option ℕ) (o : Option Ending) → st.thrown ≤ st.turns → FewThrown (turn_unless s fault st o)
  unless-few st fault None h = ends-or-counts st fault (nat_eq st.kept s.limits.count) (nat_eq st.turns s.limits.turns) h
  unless-few st fault (Some ending) h = h

  -- a course has thrown away no more attempts than it has made turns
  pub few-thrown : (faults : ℕ → Option ℕ) (n : ℕ) → (after s faults n).state.thrown ≤ (after s faults n).state.turns
  few-thrown faults zero = omega arith
  few-thrown faults (suc n) = unless-few (after s faults n).state (faults n) (after s faults n).state.ending (few-thrown faults n)
