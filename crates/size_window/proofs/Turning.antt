-- A turn of the code is the turn of a drawing by bits.
use Rattle.std.proofs.Common.{◌≡◌, ◌≢◌, ℕ, suc, ◌+◌, ◌-◌, ◌<◌, Bool, true, false, cond, List, [], ◌∷◌, ◌++◌, Option, Some, None, IfSome, refl, sym, ◌∙◌, ap, subst, arith, add-one}
use Rattle.std.specs.Prelude.{slice_index, nat_eq, option_map}
use Rattle.std.specs.Option.{is_some}
use Rattle.std.proofs.lemmas.Bool.{eqb-true, eqb-false}
use Rattle.std.proofs.lemmas.Option.{get_or_from_slice_get}
use Rattle.bz_model.specs.declared.cell.Bounds.{Bounds}
use Rattle.bz_model.specs.Fraction.{Fraction}
use Rattle.bz_model.specs.Spec.{Spec, body_of}
use Rattle.bit_tape.proofs.GivenBits.{gave-none}
use Rattle.choice_draw.specs.Draw.{bit_of}
use Rattle.shape_sampler.specs.Visit.{Chooser, Attempt, visit, begun}
use Rattle.shape_sampler.specs.State.{SessionState, attempt_of, begun_state}
use Rattle.size_window.specs.declared.ending.Ending.{Ending}
use Rattle.size_window.specs.declared.ending.Ending.TheVariants as ending
use Rattle.size_window.specs.declared.turned.Turned.{Turned}
use Rattle.size_window.specs.declared.turned.Turned.TheVariants as answer
use Rattle.size_window.specs.RunByBits as run
use Rattle.size_window.specs.RunByBits.{Limits, Sampling, RunState, Course, added, no_attempt, quiet, ended, visited, shape_turn, label_turn, counted_turn, open_turn, turn_unless, turn, fault_place, followed_by}
use Rattle.size_window.specs.Drawing.{MadeShape, DrawingState, DrawingBelongs, ending_of, running, attempt_made, attempt_unless, state_of, counted, ended_by, begun_one}
use Rattle.size_window.specs.Turn.{GoesOn, told_entry, told_fault, TurnEndsThere, IsTurn, IsIdleTurn}
use Rattle.size_window.specs.Turn as turning
use Rattle.size_window.proofs.Going.{goes-on, goes-ended}

-- the attempt of a session with nodes pending
pub running-some : (st : SessionState) (es : List ℕ) (used : ℕ) → es ≢ [] → running st es used ≡ attempt_of st used
running-some st [] used some = absurd (some refl)
running-some st (e ∷ es) used some = refl

pub running-none : (st : SessionState) (es : List ℕ) (used : ℕ) → es ≡ [] → running st es used ≡ no_attempt used
running-none st es used none = ap (λ fs. running st fs used) none

-- a nonempty list has a first
pub first-of : (es : List ℕ) → es ≢ [] → (e : ℕ) × (rest : List ℕ) × (es ≡ e ∷ rest)
first-of [] some = absurd (some refl)
first-of (e ∷ es) some = (e, es, refl)

-- two numbers that differ aren't tested equal
differ : (m n : ℕ) → m ≢ n → nat_eq m n ≡ false
differ m n h = by (nat_eq m n) refl
  where
    by : (b : Bool) → nat_eq m n ≡ b → nat_eq m n ≡ false
    by true is = absurd (h (eqb-true m n is))
    by false is = is

equal : (m n : ℕ) → m ≡ n → nat_eq m n ≡ true
equal m n h = by (nat_eq m n) refl
  where
    by : (b : Bool) → nat_eq m n ≡ b → nat_eq m n ≡ true
    by true is = is
    by false is = absurd (eqb-false m n is h)

-- a tape's clause, from what holds of its bits
pub if-told : {A : Type 0} {P Q : A → Type 0} (o : Option A) → ((a : A) → P a → Q a) → IfSome o P → IfSome o Q
if-told None f h = tt
if-told (Some a) f h = f a h

-- What holds of every value holds of an optional value, where it is there.
pub if-any : {A : Type 0} {Q : A → Type 0} (o : Option A) → ((a : A) → Q a) → IfSome o Q
if-any None f = tt
if-any (Some a) f = f a

-- a drawing that had ended meets no end of its tape
again-ends : (e : Ending) (o : Option Ending) (used : ℕ) (tape : ℕ → Option Bool) → o ≡ Some e → TurnEndsThere (answer.Finished e) o used tape
again-ends ending.Done o used tape is = tt
again-ends ending.TapeEnded o used tape is = subst (λ p. TurnEndsThere (answer.Finished ending.TapeEnded) p used tape) (sym is) tt
again-ends (ending.Undecided straddle) o used tape is = tt
again-ends ending.TurnLimit o used tape is = tt
again-ends ending.ReadFault o used tape is = tt

-- the attempt of a drawing where no shape waits
pub attempt-some : (d : DrawingState) (used : ℕ) → d.waiting ≡ None → d.session.pending ≢ [] → attempt_unless d.waiting d.session used ≡ attempt_of d.session used
attempt-some d used none some = ap (λ w. attempt_unless w d.session used) none ∙ running-some d.session d.session.pending used some

-- Where no shape waits and the session has no node pending, no attempt is under way.
pub attempt-none : (d : DrawingState) (used : ℕ) → d.waiting ≡ None → d.session.pending ≡ [] → attempt_unless d.waiting d.session used ≡ no_attempt used
attempt-none d used none idle = ap (λ w. attempt_unless w d.session used) none ∙ running-none d.session d.session.pending used idle

-- and where one does
pub attempt-waits : (d : DrawingState) (used : ℕ) (shape : MadeShape) → d.waiting ≡ Some shape → attempt_unless d.waiting d.session used ≡ attempt_made shape d.session.room used
attempt-waits d used shape waits = ap (λ w. attempt_unless w d.session used) waits

-- so many bits are used in any case
pub attempt-used : (w : Option MadeShape) (st : SessionState) (used : ℕ) → (attempt_unless w st used).used ≡ used
attempt-used None st used = running-used st.pending
  where
    running-used : (es : List ℕ) → (running st es used).used ≡ used
    running-used [] = refl
    running-used (e ∷ es) = refl
attempt-used (Some shape) st used = refl

-- The state of a drawing whose attempt is this one, and whose shape waits or doesn't, in a turn that is counted.
abbrev pub in_turn_as : DrawingState → (awaits : Bool) → Attempt → RunState
in_turn_as d awaits a = record { attempt = a; awaits = awaits; kept = d.kept; thrown = d.thrown; turns = suc d.turns; ending = option_map ending_of d.ending }

abbrev pub in_turn : DrawingState → Attempt → RunState
in_turn d a = in_turn_as d false a

module _ (smp : Sampling) (fault : Option ℕ) (d : DrawingState) (start : ℕ) (same : smp.limits ≡ d.limits) where
  same-count : smp.limits.count ≡ d.limits.count
  same-count = ap (λ (l : Limits). l.count) same

  same-turns : smp.limits.turns ≡ d.limits.turns
  same-turns = ap (λ (l : Limits). l.turns) same

  -- an ended drawing
  pub turn-again : (e : Ending) → d.ending ≡ Some e → turn smp fault (state_of d start) ≡ quiet (state_of d start)
  turn-again e is = ap (λ (o : Option Ending). turn_unless smp fault (state_of d start) (option_map ending_of o)) is

  -- a drawing that goes on
  turn-open : d.ending ≡ None → turn smp fault (state_of d start) ≡ open_turn smp fault (state_of d start)
  turn-open going = ap (λ (o : Option Ending). turn_unless smp fault (state_of d start) (option_map ending_of o)) going

  -- the state of a drawing in a turn that is counted
  abbrev now_counted : Option MadeShape → RunState
  now_counted w = in_turn_as d (is_some w) (attempt_unless w d.session start)

  -- what a counted turn makes of it
  abbrev counted_now : Option MadeShape → run.Turned
  counted_now w = counted_turn smp (bit_of smp.tape (option_map (λ given. (attempt_unless w d.session start).used + given) fault)) (now_counted w)

  abbrev at_done : run.Turned
  at_done = quiet (ended (state_of d start) run.Ending.Done (state_of d start).attempt.used)

  abbrev at_limit : run.Turned
  at_limit = quiet (ended (state_of d start) run.Ending.TurnLimit (state_of d start).attempt.used)

  pub turn-done : d.ending ≡ None → d.kept ≡ d.limits.count → turn smp fault (state_of d start) ≡ at_done
  turn-done going full = turn-open going ∙ ap (λ b. cond b at_done (cond (nat_eq d.turns smp.limits.turns) at_limit (counted_now d.waiting))) (equal d.kept smp.limits.count (full ∙ sym same-count))

  past-count : d.ending ≡ None → d.kept ≢ d.limits.count → turn smp fault (state_of d start) ≡ cond (nat_eq d.turns smp.limits.turns) at_limit (counted_now d.waiting)
  past-count going fewer = turn-open going ∙ ap (λ b. cond b at_done (cond (nat_eq d.turns smp.limits.turns) at_limit (counted_now d.waiting))) (differ d.kept smp.limits.count (λ e. fewer (e ∙ same-count)))

  pub turn-spent : d.ending ≡ None → d.kept ≢ d.limits.count → d.turns ≡ d.limits.turns → turn smp fault (state_of d start) ≡ at_limit
  turn-spent going fewer spent = past-count going fewer ∙ ap (λ b. cond b at_limit (counted_now d.waiting)) (equal d.turns smp.limits.turns (spent ∙ sym same-turns))

  module _ (on : GoesOn d) where
    turn-counted : turn smp fault (state_of d start) ≡ counted_now d.waiting
    turn-counted = past-count on.going on.fewer ∙ ap (λ b. cond b at_limit (counted_now d.waiting)) (differ d.turns smp.limits.turns (λ e. on.more (e ∙ same-turns)))

    -- a shape that waits is labelled
    pub turn-labels : (shape : MadeShape) → d.waiting ≡ Some shape → turn smp fault (state_of d start) ≡ label_turn (bit_of smp.tape (option_map (λ given. start + given) fault)) (in_turn_as d true (attempt_made shape d.session.room start))
    turn-labels shape waits = turn-counted ∙ ap counted_now waits

    -- with nothing pending an attempt begins
    pub turn-begins : d.waiting ≡ None → d.session.pending ≡ [] → turn smp fault (state_of d start) ≡ quiet (in_turn d (begun smp.chooser.spec smp.limits.max start))
    turn-begins no_shape none =
        turn-counted ∙ ap counted_now no_shape
        ∙ ap (λ a. counted_turn smp (bit_of smp.tape (option_map (λ given. a.used + given) fault)) (in_turn d a)) (running-none d.session d.session.pending start none)

    -- else the first pending node is visited
    pub turn-visits : d.waiting ≡ None → d.session.pending ≢ [] → turn smp fault (state_of d start) ≡ visited smp (in_turn d (attempt_of d.session start)) (visit smp.chooser (bit_of smp.tape (option_map (λ given. start + given) fault)) (attempt_of d.session start))
    turn-visits no_shape some =
        let f = first-of d.session.pending some in
        turn-counted ∙ ap counted_now no_shape
        ∙ ap (λ a. counted_turn smp (bit_of smp.tape (option_map (λ given. a.used + given) fault)) (in_turn d a)) (running-some d.session d.session.pending start some)
        ∙ ap (λ es. shape_turn smp (bit_of smp.tape (option_map (λ given. start + given) fault)) (in_turn d (attempt_of d.session start)) es) f.2

-- A drawing's state in a turn that is counted, whose attempt is this one.
pub state-at : (d : DrawingState) (a : Attempt) (used : ℕ) → d.waiting ≡ None → attempt_unless d.waiting d.session used ≡ a → state_of (counted d) used ≡ in_turn d a
state-at d a used none is =
    ap (λ b. record { attempt = b; awaits = is_some d.waiting; kept = d.kept; thrown = d.thrown; turns = d.turns + 1; ending = option_map ending_of d.ending }) is
    ∙ ap (λ (w : Option MadeShape). record { attempt = a; awaits = is_some w; kept = d.kept; thrown = d.thrown; turns = d.turns + 1; ending = option_map ending_of d.ending }) none
    ∙ ap (λ n. record { attempt = a; awaits = false; kept = d.kept; thrown = d.thrown; turns = n; ending = option_map ending_of d.ending }) (add-one d.turns)

pub ending-none : (d : DrawingState) → d.ending ≡ None → option_map ending_of d.ending ≡ None
ending-none d going = ap (λ (o : Option Ending). option_map ending_of o) going

module _ (s : Spec) (x : Fraction) (F : ℕ) (table : (level node : ℕ) → Bounds) (bits : Option (ℕ → Option Bool)) (before : DrawingState) (b : DrawingBelongs s x before) (start : ℕ) where
  -- what the course was in
  module _ (c : Course) (same : c.state ≡ state_of before start) where
    pub course-going : before.ending ≡ None → c.state.ending ≡ None
    course-going going = ap (λ (st : RunState). st.ending) same ∙ ending-none before going

    pub course-kept : before.kept ≡ c.state.kept
    course-kept = ap (λ (st : RunState). st.kept) (sym same)

    pub course-thrown : before.thrown ≡ c.state.thrown
    course-thrown = ap (λ (st : RunState). st.thrown) (sym same)

    pub course-fewer : before.kept ≢ before.limits.count → c.state.kept < before.limits.count
    course-fewer fewer = let few = b.kept in let k = course-kept in omega arith

    pub course-cells : before.waiting ≡ None → before.session.pending ≢ [] → c.state.attempt.cells ≡ before.session.cells
    course-cells no_shape some = ap (λ (st : RunState). st.attempt.cells) same ∙ ap (λ (a : Attempt). a.cells) (attempt-some before start no_shape some)

    course-idle : before.waiting ≡ None → before.session.pending ≡ [] → c.state.attempt.cells ≡ []
    course-idle no_shape none = ap (λ (st : RunState). st.attempt.cells) same ∙ ap (λ (a : Attempt). a.cells) (attempt-none before start no_shape none)

    pub course-shape : (shape : MadeShape) → before.waiting ≡ Some shape → c.state.attempt.cells ≡ shape.cells
    course-shape shape waits = ap (λ (st : RunState). st.attempt.cells) same ∙ ap (λ (a : Attempt). a.cells) (attempt-waits before start shape waits)

  again-turn : (e : Ending) → before.ending ≡ Some e → IsTurn s x F table bits before start (answer.Finished e) before start
  again-turn e is = record {
    turned = quiet (state_of before start);
    state = refl;
    entry = refl;
    goes = λ c same k. goes-ended s x before.limits c k (state_of before start) (λ none. let some : option_map ending_of before.ending ≡ Some (ending_of e) = ap (λ (o : Option Ending). option_map ending_of o) is in cc) (course-kept c same) (course-thrown c same);
    rests = λ f other. record { told = ap answer.Finished (let same : e ≡ f = let both : Some e ≡ Some f = sym is ∙ other in cc in same); same = refl; unused = refl };
    given = [];
    gave = gave-none bits start;
    ended = if-any bits (λ tape. again-ends e before.ending start tape is);
    exact = λ tape have ends c by. sym (turn-again (record { chooser = c; limits = before.limits; tape = tape }) (told_fault before.ending (answer.Finished e) (start - start)) before start refl e is);
  }

  done-turn : before.ending ≡ None → before.kept ≡ before.limits.count → IsTurn s x F table bits before start (answer.Finished ending.Done) (ended_by before ending.Done) start
  done-turn going full = record {
    turned = quiet (state_of (ended_by before ending.Done) start);
    state = refl;
    entry = refl;
    goes = λ c same k. goes-ended s x before.limits c k (state_of (ended_by before ending.Done) start) (λ none. cc) (course-kept c same) (course-thrown c same);
    rests = λ f other. absurd (let no : ⊥ = cc in no);
    given = [];
    gave = gave-none bits start;
    ended = if-any bits (λ tape. tt);
    exact = λ tape have ends c by. sym (turn-done (record { chooser = c; limits = before.limits; tape = tape }) (told_fault before.ending (answer.Finished ending.Done) (start - start)) before start refl going full);
  }

  spent-turn : before.ending ≡ None → before.kept ≢ before.limits.count → before.turns ≡ before.limits.turns → IsTurn s x F table bits before start (answer.Finished ending.TurnLimit) (ended_by before ending.TurnLimit) start
  spent-turn going fewer spent = record {
    turned = quiet (state_of (ended_by before ending.TurnLimit) start);
    state = refl;
    entry = refl;
    goes = λ c same k. goes-ended s x before.limits c k (state_of (ended_by before ending.TurnLimit) start) (λ none. cc) (course-kept c same) (course-thrown c same);
    rests = λ f other. absurd (let no : ⊥ = cc in no);
    given = [];
    gave = gave-none bits start;
    ended = if-any bits (λ tape. tt);
    exact = λ tape have ends c by. sym (turn-spent (record { chooser = c; limits = before.limits; tape = tape }) (told_fault before.ending (answer.Finished ending.TurnLimit) (start - start)) before start refl going fewer spent);
  }

  -- the attempt that begins is that of the session
  begun-same : (c : Chooser) → c.spec ≡ s → attempt_of (begun_state before.session) start ≡ begun c.spec before.limits.max start
  begun-same c is =
      let here : body_of c.spec 0 ≡ Some before.session.root = ap (λ (t : Spec). body_of t 0) is ∙ b.session.root in
      let index : slice_index c.spec.bodies 0 ≡ before.session.root = get_or_from_slice_get c.spec.bodies 0 before.session.root 0 here in
      ap (λ e. record { pending = e ∷ []; tokens = []; cells = []; room = before.session.whole; used = start }) (sym index)
      ∙ ap (λ w. record { pending = slice_index c.spec.bodies 0 ∷ []; tokens = []; cells = []; room = w; used = start }) b.whole

  begun-turn : GoesOn before → before.waiting ≡ None → before.session.pending ≡ [] → IsTurn s x F table bits before start answer.Going (begun_one before) start
  begun-turn on no_shape none = record {
    turned = quiet (state_of (begun_one before) start);
    state = refl;
    entry = refl;
    goes = λ c same k. goes-on s x before.limits c k (state_of (begun_one before) start) [] [] (course-going c same on.going) (ap (λ cs. cs ++ []) (course-idle c same no_shape none)) (ap (λ (a : Attempt). a.cells) (begun-attempt no_shape)) (course-kept c same) (course-thrown c same);
    rests = λ f other. absurd (let going = on.going in let no : ⊥ = cc in no);
    given = [];
    gave = gave-none bits start;
    ended = if-any bits (λ tape. tt);
    exact = λ tape have ends c by.
        ap quiet (state-at (record before { session = begun_state before.session }) (begun c.spec before.limits.max start) start no_shape (begun-attempt no_shape ∙ begun-same c by.same_spec))
        ∙ sym (turn-begins (record { chooser = c; limits = before.limits; tape = tape }) (told_fault before.ending answer.Going (start - start)) before start refl on no_shape none);
  }
    where
      begun-attempt : before.waiting ≡ None → attempt_unless before.waiting (begun_state before.session) start ≡ attempt_of (begun_state before.session) start
      begun-attempt no_shape = ap (λ w. attempt_unless w (begun_state before.session) start) no_shape

  -- the same for an answer and a drawing that are these
  pub is-turn : {result : Turned} {now : DrawingState} {used : ℕ} (told_result : Turned) (told_now : DrawingState) → result ≡ told_result → now ≡ told_now → IsTurn s x F table bits before start told_result told_now used → IsTurn s x F table bits before start result now used
  is-turn {result} {now} {used} told_result told_now same_result same_now h = subst (λ r. IsTurn s x F table bits before start r now used) (sym same_result) (subst (λ d. IsTurn s x F table bits before start told_result d used) (sym same_now) h)

  -- a turn that visits nothing
  pub idle-turn : (result : Turned) (now : DrawingState) → IsIdleTurn before (Some result) now → result ≢ answer.OutOfMemory → IsTurn s x F table bits before start result now start
  idle-turn result now (turning.again e is told same) ne = is-turn (answer.Finished e) before (cc) same (again-turn e is)
  idle-turn result now (turning.done going full told same) ne = is-turn (answer.Finished ending.Done) (ended_by before ending.Done) (cc) same (done-turn going full)
  idle-turn result now (turning.turn_limit going fewer spent told same) ne = is-turn (answer.Finished ending.TurnLimit) (ended_by before ending.TurnLimit) (cc) same (spent-turn going fewer spent)
  idle-turn result now (turning.begins on no_shape none told same) ne = is-turn answer.Going (begun_one before) (cc) same (begun-turn on no_shape none)
  idle-turn result now (turning.no_memory on no_shape none told same) ne = absurd (ne (cc))
  idle-turn result now (turning.labels on waits told same) ne = absurd (let no : ⊥ = cc in no)
  idle-turn result now (turning.visits on no_shape some told same) ne = absurd (let no : ⊥ = cc in no)
