-- A course uses few bits.
use Rattle.std.proofs.Common.{◌≡◌, ◌≢◌, ℕ, zero, suc, ◌+◌, ◌*◌, ◌≤◌, arith, Bool, true, false, cond, List, [], ◌∷◌, ◌++◌, refl, sym, subst}
use Rattle.std.specs.Prelude.{Option, Some, None, nat_eq, nat_lt, remove, slice_index}
use Rattle.std.proofs.lemmas.Bool.{eqb-false}
use Rattle.bz_model.specs.declared.cell.Cell.{Cell}
use Rattle.bz_model.specs.Spec.{Mode, Node, node_at}
use Rattle.bz_model.specs.Labels.{numbers_from}
use Rattle.object_store.specs.Tokens.{size_of}
use Rattle.choice_draw.specs.Decision.{Choice, whole_decision}
use Rattle.choice_draw.specs.Draw.{Draw, bit_of, draw}
use Rattle.choice_draw.specs.LeastCell.{SpellsDraw}
use Rattle.choice_draw.proofs.SpelledDraws.{draws_spell}
use Rattle.labelling.specs.LabelsByBits.{Labelling, labels_from, labelling}
use Rattle.shape_sampler.specs.Visit.{Chooser, Attempt, Visited, visit, visit_among, node_visited, after_draw, union_answered, counted_answered, room_for, atom_visited}
use Rattle.size_window.specs.RunByBits.{Sampling, RunState, Turned, Ending, quiet, with_attempt, added, thrown_away, kept_or_waits, went, visited, shape_turn, counted_turn, label_turn, labelled_with, turn_unless, fault_place, after, ended}
use Rattle.size_window.specs.TapeEnd.{bits_a_turn, UsesFewBits}
use Rattle.size_window.proofs.Ordering.{KeepsSize, course-size}

-- the place up to which a labelling uses bits
abbrev place_of : Labelling → ℕ
place_of (Labelling.Given labels cells place) = place
place_of (Labelling.Straddled m cell cells place) = place
place_of (Labelling.Ended cells place) = place
place_of (Labelling.Failed cells place) = place

module _ (tape : ℕ → Option Bool) (fault : Option ℕ) where
  goes_on : (n : ℕ) (remaining given : List ℕ) (cells : List Cell) (place : ℕ) → Draw ℕ → Labelling
  goes_on n remaining given cells place d = elim d as (λ _. Labelling) [
    | Draw.Decided i cell ↦ labels_from (bit_of tape fault) (suc n) (remove remaining i) (given ++ slice_index remaining i ∷ []) (cells ++ cell ∷ []) (place + cell.b)
    | Draw.Straddled cell ↦ Labelling.Straddled (suc (suc n)) cell cells (place + cell.b)
    | Draw.Ended end ↦ Labelling.Ended cells end
    | Draw.Failed end ↦ Labelling.Failed cells end
  ]

  unfolds : (n : ℕ) (remaining given : List ℕ) (cells : List Cell) (place : ℕ) → labels_from (bit_of tape fault) (suc (suc n)) remaining given cells place ≡ goes_on n remaining given cells place (draw (whole_decision (suc (suc n))) (bit_of tape fault) place)
  unfolding goes_on
  unfolds n remaining given cells place = refl

  Few : (n : ℕ) → Type 0
  Few n = (remaining given : List ℕ) (cells : List Cell) (place : ℕ) → place_of (labels_from (bit_of tape fault) n remaining given cells place) ≤ place + 60 * n

  number-few : (n : ℕ) (remaining given : List ℕ) (cells : List Cell) (place : ℕ) (d : Draw ℕ) → Few (suc n) → SpellsDraw tape place d → place_of (goes_on n remaining given cells place d) ≤ place + 60 * suc (suc n)
  unfolding goes_on Few
  number-few n remaining given cells place (Draw.Decided i cell) rest h = let r = rest (remove remaining i) (given ++ slice_index remaining i ∷ []) (cells ++ cell ∷ []) (place + cell.b) in let f = h.1.few_bits in omega (arith, r, f)
  number-few n remaining given cells place (Draw.Straddled cell) rest h = let f = h.1.few_bits in omega (arith, f)
  number-few n remaining given cells place (Draw.Ended end) rest h = let f = h.few in let u = h.up_to in omega (arith, f, u)
  number-few n remaining given cells place (Draw.Failed end) rest h = let f = h.few in let u = h.up_to in omega (arith, f, u)

  labels-few : (n : ℕ) → Few n
  unfolding Few
  labels-few zero remaining given cells place = omega arith
  labels-few (suc zero) remaining given cells place = omega arith
  labels-few (suc (suc n)) remaining given cells place =
      subst (λ l. place_of l ≤ place + 60 * suc (suc n)) (sym (unfolds n remaining given cells place))
      (number-few n remaining given cells place (draw (whole_decision (suc (suc n))) (bit_of tape fault) place) (labels-few (suc n)) (draws_spell (whole_decision (suc (suc n))) tape fault place))

  labelling-few : (n start : ℕ) → place_of (labelling (bit_of tape fault) n start) ≤ start + 60 * n
  unfolding Few
  labelling-few n start = labels-few n (numbers_from 1 n) [] [] start

  -- a visit uses 60 bits at most
  abbrev FewVisit : Attempt → Visited → Type 0
  FewVisit a (Visited.Went now) = now.used ≤ a.used + 60
  FewVisit a (Visited.Over now) = now.used ≤ a.used + 60
  FewVisit a (Visited.Straddled node cell) = cell.b ≤ 60
  FewVisit a (Visited.Ended place) = place ≤ a.used + 60
  FewVisit a (Visited.Failed place) = place ≤ a.used + 60

  module _ (c : Chooser) (a : Attempt) (e : ℕ) (rest : List ℕ) where
    atom-few : (room : ℕ) → FewVisit a (atom_visited a rest room)
    atom-few zero = omega arith
    atom-few (suc room) = omega arith

    union-few : (parts : List ℕ) (d : Draw Choice) → SpellsDraw tape a.used d → FewVisit a (after_draw e (union_answered a parts rest) d)
    union-few parts (Draw.Decided (Choice.Take i) cell) h = let f = h.1.few_bits in omega (arith, f)
    union-few parts (Draw.Decided Choice.Over cell) h = let f = h.1.few_bits in omega (arith, f)
    union-few parts (Draw.Straddled cell) h = h.1.few_bits
    union-few parts (Draw.Ended place) h = let f = h.few in let u = h.up_to in omega (arith, f, u)
    union-few parts (Draw.Failed place) h = let f = h.few in let u = h.up_to in omega (arith, f, u)

    counted-few : (part : ℕ) (d : Draw Choice) → SpellsDraw tape a.used d → FewVisit a (after_draw e (counted_answered a part rest) d)
    counted-few part (Draw.Decided (Choice.Take i) cell) h = let f = h.1.few_bits in omega (arith, f)
    counted-few part (Draw.Decided Choice.Over cell) h = let f = h.1.few_bits in omega (arith, f)
    counted-few part (Draw.Straddled cell) h = h.1.few_bits
    counted-few part (Draw.Ended place) h = let f = h.few in let u = h.up_to in omega (arith, f, u)
    counted-few part (Draw.Failed place) h = let f = h.few in let u = h.up_to in omega (arith, f, u)

    node-few : (node : Option Node) → FewVisit a (node_visited c (bit_of tape fault) a e rest node)
    node-few None = omega arith
    node-few (Some (Node.Empty word)) = omega arith
    node-few (Some (Node.Atom word)) = atom-few a.room
    node-few (Some (Node.Class class)) = omega arith
    node-few (Some (Node.Union parts)) = union-few parts (draw (c.decide e a.room) (bit_of tape fault) a.used) (draws_spell (c.decide e a.room) tape fault a.used)
    node-few (Some (Node.Product parts)) = omega arith
    node-few (Some (Node.Seq part)) = counted-few part (draw (c.decide e (room_for c part a.room)) (bit_of tape fault) a.used) (draws_spell (c.decide e (room_for c part a.room)) tape fault a.used)
    node-few (Some (Node.Set part)) = counted-few part (draw (c.decide e (room_for c part a.room)) (bit_of tape fault) a.used) (draws_spell (c.decide e (room_for c part a.room)) tape fault a.used)
    node-few (Some (Node.Cyc part)) = counted-few part (draw (c.decide e (room_for c part a.room)) (bit_of tape fault) a.used) (draws_spell (c.decide e (room_for c part a.room)) tape fault a.used)

  visit-few : (c : Chooser) (a : Attempt) (pending : List ℕ) → FewVisit a (visit_among c (bit_of tape fault) a pending)
  visit-few c a [] = omega arith
  visit-few c a (e ∷ rest) = node-few c a e rest (node_at c.spec e)

module _ (s : Sampling) where
  -- A turn counts as many turns more and uses at most so many bits for each.
  record FewTurn (st : RunState) (t : Turned) : Type 0 where
    pub turns : t.state.turns ≤ s.limits.turns
    pub bits : t.state.attempt.used ≤ t.state.turns * bits_a_turn s.limits

  -- what a turn that is counted leaves, the state being as it stood before it was counted
  module _ (st : RunState) (within : suc st.turns ≤ s.limits.turns) (before : st.attempt.used ≤ st.turns * bits_a_turn s.limits) where
    -- the state in the turn
    abbrev now : RunState
    now = record st { turns = suc st.turns }

    more : (used bits : ℕ) → used ≤ st.attempt.used + bits → bits ≤ bits_a_turn s.limits → used ≤ suc st.turns * bits_a_turn s.limits
    more used bits h k = let e : suc st.turns * bits_a_turn s.limits ≡ st.turns * bits_a_turn s.limits + bits_a_turn s.limits = omega arith in omega (arith, h, k, e)

    one-number : 60 ≤ bits_a_turn s.limits
    one-number = omega arith

    within-turn : (used : ℕ) → used ≤ st.attempt.used + 60 → used ≤ suc st.turns * bits_a_turn s.limits
    within-turn used h = more used 60 h one-number

    label-few : KeepsSize s st → st.awaits ≡ true → (l : Labelling) → place_of l ≤ st.attempt.used + 60 * size_of st.attempt.tokens → FewTurn st (labelled_with now l)
    label-few size awaits l h = by l h
      where
        small : 60 * size_of st.attempt.tokens ≤ bits_a_turn s.limits
        small = let w = size.waits awaits in let f = w.0.same in omega (arith, f)

        by : (l : Labelling) → place_of l ≤ st.attempt.used + 60 * size_of st.attempt.tokens → FewTurn st (labelled_with now l)
        by (Labelling.Given labels cells place) k = record { turns = within; bits = more place (60 * size_of st.attempt.tokens) k small }
        by (Labelling.Straddled m cell finished place) k = record { turns = within; bits = more place (60 * size_of st.attempt.tokens) k small }
        by (Labelling.Ended finished place) k = record { turns = within; bits = more place (60 * size_of st.attempt.tokens) k small }
        by (Labelling.Failed finished place) k = record { turns = within; bits = more place (60 * size_of st.attempt.tokens) k small }

    made-few : (a : Attempt) (finished : List Cell) (mode : Mode) → a.used ≤ st.attempt.used + 60 → FewTurn st (kept_or_waits mode (with_attempt now a) finished)
    made-few a finished Mode.Unlabelled h = record { turns = within; bits = within-turn a.used h }
    made-few a finished Mode.Labelled h = record { turns = within; bits = within-turn a.used h }

    shape-few : (a : Attempt) (finished : List Cell) (small : Bool) → a.used ≤ st.attempt.used + 60 → FewTurn st (cond small (record { state = thrown_away (with_attempt now a); entry = None; cells = finished }) (kept_or_waits s.chooser.spec.mode (with_attempt now a) finished))
    shape-few a finished true h = record { turns = within; bits = within-turn a.used h }
    shape-few a finished false h = made-few a finished s.chooser.spec.mode h

    went-few : (a : Attempt) (finished : List Cell) (pending : List ℕ) → a.used ≤ st.attempt.used + 60 → FewTurn st (went s (with_attempt now a) pending finished)
    went-few a finished [] h = shape-few a finished (nat_lt (size_of a.tokens) s.limits.min) h
    went-few a finished (e ∷ es) h = record { turns = within; bits = within-turn a.used h }

    visited-few : (fault : Option ℕ) (v : Visited) → FewVisit s.tape fault st.attempt v → FewTurn st (visited s now v)
    visited-few fault (Visited.Went a) h = went-few a (added st.attempt.cells a.cells) a.pending h
    visited-few fault (Visited.Over a) h = record { turns = within; bits = within-turn a.used h }
    visited-few fault (Visited.Straddled node cell) h = record { turns = within; bits = within-turn (st.attempt.used + cell.b) (omega (arith, h)) }
    visited-few fault (Visited.Ended place) h = record { turns = within; bits = within-turn place h }
    visited-few fault (Visited.Failed place) h = record { turns = within; bits = within-turn place h }

    turn-few : (fault : Option ℕ) (pending : List ℕ) → FewTurn st (shape_turn s (bit_of s.tape fault) now pending)
    turn-few fault [] = record { turns = within; bits = within-turn st.attempt.used (omega arith) }
    turn-few fault (e ∷ rest) = visited-few fault (visit s.chooser (bit_of s.tape fault) st.attempt) (visit-few s.tape fault s.chooser st.attempt st.attempt.pending)

    counted-few-by : (fault : Option ℕ) (awaits : Bool) → KeepsSize s st → st.awaits ≡ awaits → FewTurn st (cond awaits (label_turn (bit_of s.tape fault) now) (shape_turn s (bit_of s.tape fault) now st.attempt.pending))
    counted-few-by fault true size is = label-few size is (labelling (bit_of s.tape fault) (size_of st.attempt.tokens) st.attempt.used) (labelling-few s.tape fault (size_of st.attempt.tokens) st.attempt.used)
    counted-few-by fault false size is = turn-few fault st.attempt.pending

  -- a turn that costs none
  module _ (st : RunState) (within : st.turns ≤ s.limits.turns) (before : st.attempt.used ≤ st.turns * bits_a_turn s.limits) (size : KeepsSize s st) where
    ends-or-counts : (fault : Option ℕ) (all limit : Bool) → nat_eq st.turns s.limits.turns ≡ limit → FewTurn st (cond all (quiet (ended st Ending.Done st.attempt.used)) (cond limit (quiet (ended st Ending.TurnLimit st.attempt.used)) (counted_turn s (bit_of s.tape (fault_place st fault)) (record st { turns = suc st.turns }))))
    ends-or-counts fault true limit is = record { turns = within; bits = before }
    ends-or-counts fault false true is = record { turns = within; bits = before }
    ends-or-counts fault false false is = counted-few-by st (let differ : st.turns ≢ s.limits.turns = eqb-false st.turns s.limits.turns is in let w = within in omega (arith, differ, w)) before (fault_place st fault) st.awaits size refl

    unless-few : (fault : Option ℕ) (o : Option Ending) → FewTurn st (turn_unless s fault st o)
    unless-few fault None = ends-or-counts fault (nat_eq st.kept s.limits.count) (nat_eq st.turns s.limits.turns) refl
    unless-few fault (Some ending) = record { turns = within; bits = before }

  pub course-few : (faults : ℕ → Option ℕ) (n : ℕ) → UsesFewBits s.limits (after s faults n)
  course-few faults zero = record { turns = omega arith; bits = omega arith }
  course-few faults (suc n) =
      let h = course-few faults n in
      let k = unless-few (after s faults n).state h.turns h.bits (course-size s faults n) (faults n) (after s faults n).state.ending in
      record { turns = k.turns; bits = k.bits }
