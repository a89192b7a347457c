-- A turn that visits a node is the turn of a drawing by bits.
use Rattle.std.proofs.Common.{◌≡◌, ◌≢◌, ℕ, ◌+◌, ◌-◌, ◌<◌, ◌≤◌, inl, inr, Bool, true, false, cond, List, [], ◌∷◌, ◌++◌, Option, Some, None, refl, sym, ◌∙◌, ap, subst, arith, append-nil, add-one}
use Rattle.std.specs.Prelude.{nat_lt, option_map}
use Rattle.std.specs.Option.{is_some}
use Rattle.std.proofs.lemmas.Bool.{ltb-true, ltb-false}
use Rattle.bz_model.specs.declared.cell.Cell.{Cell}
use Rattle.bz_model.specs.declared.cell.Bounds.{Bounds}
use Rattle.bz_model.specs.Fraction.{Fraction}
use Rattle.bz_model.specs.Spec.{Spec, Mode}
use Rattle.object_store.specs.Tokens.{size_of}
use Rattle.choice_draw.specs.Draw.{bit_of}
use Rattle.shape_sampler.specs.declared.stepped.Stepped.{Stepped}
use Rattle.shape_sampler.specs.declared.stepped.Stepped.TheVariants as stepped
use Rattle.shape_sampler.specs.Visit.{Chooser, Attempt, visit}
use Rattle.shape_sampler.specs.State.{SessionState, Leaves, attempt_of, stopped_by}
use Rattle.shape_sampler.specs.Belonging.{IsIdealShape, IsIdealOver}
use Rattle.shape_sampler.specs.Answer.{told_visit, IsVisitByBits, IsIdealAnswer, Draws}
use Rattle.shape_sampler.specs.Answer as told
use Rattle.size_window.specs.declared.ending.Ending.{Ending}
use Rattle.size_window.specs.declared.ending.Ending.TheVariants as ending
use Rattle.size_window.specs.declared.ending.Straddle.TheVariants as straddle
use Rattle.size_window.specs.declared.turned.Entry.{Entry}
use Rattle.size_window.specs.declared.turned.Turned.{Turned}
use Rattle.size_window.specs.declared.turned.Turned.TheVariants as answer
use Rattle.size_window.specs.RunByBits as run
use Rattle.size_window.specs.RunByBits.{Sampling, RunState, Course, followed_by, added, no_attempt, quiet, thrown_away, kept_one, kept_or_waits, shape_made, went, visited, turn, with_attempt}
use Rattle.labelling.specs.LabelsByBits.{bits_in}
use Rattle.size_window.specs.Drawing.{MadeShape, DrawingState, DrawingBelongs, ending_of, attempt_unless, state_of, shape_in, counted, thrown_one, taken_out, waiting_with, kept_one_more, ended_by}
use Rattle.size_window.specs.Turn.{labels_told, entry_of, told_entry, told_fault, TurnEndsThere, GoesOn, IsTurn, KeepsOrWaits, Settles, outcome_of}
use Rattle.size_window.specs.Follows.{GoesIdeally}
use Rattle.size_window.proofs.Going.{goes-on, goes-ended, goes-over, goes-small, goes-kept, gives-none}
use Rattle.size_window.proofs.VisitCells.{extended}
use Rattle.size_window.proofs.Turning.{in_turn, state-at, attempt-some, attempt-none, turn-visits, if-told, course-going, course-kept, course-thrown, course-fewer, course-cells, is-turn}

-- an attempt that went on
went-some : (smp : Sampling) (st : RunState) (es : List ℕ) (cells : List Cell) → es ≢ [] → went smp st es cells ≡ record { state = st; entry = None; cells = cells }
went-some smp st [] cells some = absurd (some refl)
went-some smp st (e ∷ es) cells some = refl

-- a number below another is tested so
below : (m n : ℕ) → m < n → nat_lt m n ≡ true
below m n h = by (nat_lt m n) refl
  where
    by : (b : Bool) → nat_lt m n ≡ b → nat_lt m n ≡ true
    by true is = is
    by false is = absurd (let k = ltb-false m n is in omega arith)

not-below : (m n : ℕ) → n ≤ m → nat_lt m n ≡ false
not-below m n h = by (nat_lt m n) refl
  where
    by : (b : Bool) → nat_lt m n ≡ b → nat_lt m n ≡ false
    by true is = absurd (let k = ltb-true m n is in omega arith)
    by false is = is

-- a shape that is too small, and one that isn't
went-small : (smp : Sampling) (st : RunState) (es : List ℕ) (cells : List Cell) → es ≡ [] → size_of st.attempt.tokens < smp.limits.min → went smp st es cells ≡ record { state = thrown_away st; entry = None; cells = cells }
went-small smp st es cells none small =
    ap (λ fs. went smp st fs cells) none
    ∙ ap (λ b. cond b (record { state = thrown_away st; entry = None; cells = cells }) (kept_or_waits smp.chooser.spec.mode st cells)) (below (size_of st.attempt.tokens) smp.limits.min small)

went-large : (smp : Sampling) (st : RunState) (es : List ℕ) (cells : List Cell) (mode : Mode) → es ≡ [] → smp.chooser.spec.mode ≡ mode → smp.limits.min ≤ size_of st.attempt.tokens → went smp st es cells ≡ kept_or_waits mode st cells
went-large smp st es cells mode none is_mode large =
    ap (λ fs. went smp st fs cells) none
    ∙ ap (λ b. cond b (record { state = thrown_away st; entry = None; cells = cells }) (kept_or_waits smp.chooser.spec.mode st cells)) (not-below (size_of st.attempt.tokens) smp.limits.min large)
    ∙ ap (λ m. kept_or_waits m st cells) is_mode

-- entries with the same parts
pub same-entry : (a b : run.Entry) → a.number ≡ b.number → a.place ≡ b.place → a.size ≡ b.size → a.tokens ≡ b.tokens → a.labels ≡ b.labels → a.cells ≡ b.cells → a ≡ b
same-entry a b number place size tokens labels cells =
    ap (λ n. record a { number = n }) number
    ∙ ap (λ p. record a { number = b.number; place = p }) place
    ∙ ap (λ k. record a { number = b.number; place = b.place; size = k }) size
    ∙ ap (λ ts. record a { number = b.number; place = b.place; size = b.size; tokens = ts }) tokens
    ∙ ap (λ ls. record a { number = b.number; place = b.place; size = b.size; tokens = b.tokens; labels = ls }) labels
    ∙ ap (λ cs. record a { number = b.number; place = b.place; size = b.size; tokens = b.tokens; labels = b.labels; cells = cs }) cells

-- states with the same parts
pub same-state : (a b : RunState) → a.attempt ≡ b.attempt → a.awaits ≡ b.awaits → a.kept ≡ b.kept → a.thrown ≡ b.thrown → a.turns ≡ b.turns → a.ending ≡ b.ending → a ≡ b
same-state a b attempt awaits kept thrown turns ending =
    ap (λ t. record a { attempt = t }) attempt
    ∙ ap (λ w. record a { attempt = b.attempt; awaits = w }) awaits
    ∙ ap (λ n. record a { attempt = b.attempt; awaits = b.awaits; kept = n }) kept
    ∙ ap (λ n. record a { attempt = b.attempt; awaits = b.awaits; kept = b.kept; thrown = n }) thrown
    ∙ ap (λ n. record a { attempt = b.attempt; awaits = b.awaits; kept = b.kept; thrown = b.thrown; turns = n }) turns
    ∙ ap (λ o. record a { attempt = b.attempt; awaits = b.awaits; kept = b.kept; thrown = b.thrown; turns = b.turns; ending = o }) ending

module _ (s : Spec) (x : Fraction) (F : ℕ) (table : (level node : ℕ) → Bounds) (bits : Option (ℕ → Option Bool)) (before : DrawingState) (b : DrawingBelongs s x before) (start : ℕ) (on : GoesOn before) (no_shape : before.waiting ≡ None) (some : before.session.pending ≢ []) (session : SessionState) (used : ℕ) where
  -- the drawing with the session after the visit
  abbrev mid : DrawingState
  mid = record before { session = session }

  -- The turn is what the visit means for the drawing.
  abbrev Means : Stepped → run.Turned → Type 0
  Means step turned = (c : Chooser) (tape : ℕ → Option Bool) → c.spec ≡ s → visited (record { chooser = c; limits = before.limits; tape = tape }) (in_turn before (attempt_of before.session start)) (told_visit step session used) ≡ turned

  -- The visit is the one over the bits that it was given.
  abbrev IsTold : Stepped → Type 0
  IsTold step = IsVisitByBits s F table bits before.session start step session used

  -- The turn meets the tape's end where the visit does.
  abbrev Alike : Stepped → Turned → Type 0
  Alike step result = (tape : ℕ → Option Bool) → (told.EndsThere step used tape → TurnEndsThere result None used tape) × (TurnEndsThere result None used tape → told.EndsThere step used tape)

  going-is : (P : Option Ending → Type 0) → P None → P before.ending
  going-is P h = subst P (sym on.going) h

  -- a turn by a visit, from what it leaves
  by-visit : (step : Stepped) (result : Turned) (now : DrawingState) (turned : run.Turned) → turned.state ≡ state_of now used → turned.entry ≡ told_entry result → ((c : Course) → c.state ≡ state_of before start → GoesIdeally s x before.limits c → GoesIdeally s x before.limits (followed_by c turned))
      → step ≢ stepped.OutOfMemory → option_map (λ given. start + given) (told_fault None result (used - start)) ≡ told.visit_fault_place step used → Means step turned → Alike step result → IsTold step → IsTurn s x F table bits before start result now used
  by-visit step result now turned state entry goes ne fault means alike h = record {
    turned = turned;
    state = state;
    entry = entry;
    rests = λ e ended. absurd (let going = on.going in let no : ⊥ = cc in no);
    goes = goes;
    given = h.given;
    gave = h.gave;
    ended = if-told bits (λ tape ends. going-is (λ o. TurnEndsThere result o used tape) ((alike tape).0 ends)) h.ended;
    exact = λ tape have ends c by. sym (
        turn-visits (record { chooser = c; limits = before.limits; tape = tape }) (told_fault before.ending result (used - start)) before start refl on no_shape some
        ∙ ap (λ f. visited (record { chooser = c; limits = before.limits; tape = tape }) (in_turn before (attempt_of before.session start)) (visit c (bit_of tape f) (attempt_of before.session start))) (ap (λ (o : Option Ending). option_map (λ given. start + given) (told_fault o result (used - start))) on.going ∙ fault)
        ∙ ap (visited (record { chooser = c; limits = before.limits; tape = tape }) (in_turn before (attempt_of before.session start))) (sym ((h.exact tape have ((alike tape).1 (subst (λ o. TurnEndsThere result o used tape) on.going ends)) c by).same ne))
        ∙ means c tape by.same_spec);
  }

  -- the cells that the visit added
  abbrev more_cells : List Cell
  more_cells = added before.session.cells session.cells

  added-now : (c : Course) → c.state ≡ state_of before start → told.Extends before.session.cells session.cells → c.state.attempt.cells ++ more_cells ≡ session.cells
  added-now c same e = ap (λ cs. cs ++ more_cells) (course-cells s x F table bits before b start c same no_shape some) ∙ sym (extended before.session.cells e.more session.cells e.whole)

  -- a state in which nothing is pending
  no-cells : (d : DrawingState) → d.waiting ≡ None → d.session.pending ≡ [] → (state_of d used).attempt.cells ≡ []
  no-cells d no_made none = ap (λ (a : Attempt). a.cells) (attempt-none d used no_made none)

  -- no shape waits
  none-waits : is_some before.waiting ≡ false
  none-waits = ap (λ (w : Option MadeShape). is_some w) no_shape

  moved : session.pending ≢ [] → told.Extends before.session.cells session.cells → IsTold stepped.Moved → IsTurn s x F table bits before start answer.Going (counted mid) used
  moved pending extends exact = by-visit stepped.Moved answer.Going (counted mid)
      (record { state = state_of (counted mid) used; entry = None; cells = more_cells })
      refl refl
      (λ c same k. goes-on s x before.limits c k (state_of (counted mid) used) more_cells session.cells (course-going s x F table bits before b start c same on.going) (added-now c same extends) (ap (λ (a : Attempt). a.cells) (attempt-some mid used no_shape pending)) (course-kept s x F table bits before b start c same) (course-thrown s x F table bits before b start c same))
      (λ e. cc) refl
      (λ c tape is.
      went-some (record { chooser = c; limits = before.limits; tape = tape }) (in_turn before (attempt_of session used)) session.pending more_cells pending
      ∙ ap (λ st. record { state = st; entry = None; cells = more_cells }) (sym (state-at mid (attempt_of session used) used no_shape (attempt-some mid used no_shape pending))))
      (λ tape. (λ h. h, λ h. h)) exact

  -- the state after an attempt was thrown away
  thrown-state : session.pending ≡ [] → thrown_away (in_turn before (attempt_of session used)) ≡ state_of (thrown_one (counted mid)) used
  thrown-state none = same-state (thrown_away (in_turn before (attempt_of session used))) (state_of (thrown_one (counted mid)) used) (sym (attempt-none mid used no_shape none)) (sym none-waits) refl (sym (add-one before.thrown)) (sym (add-one before.turns)) refl

  one-thrown : (c : Course) → c.state ≡ state_of before start → before.thrown + 1 ≡ c.state.thrown + 1
  one-thrown c same = ap (λ n. n + 1) (course-thrown s x F table bits before b start c same)

  small : session.pending ≡ [] → told.Extends before.session.cells session.cells → IsIdealShape s x before.limits.max session.tokens session.cells → size_of session.tokens < before.limits.min → IsTold stepped.Made → IsTurn s x F table bits before start answer.Going (thrown_one (counted mid)) used
  small none extends ideal little exact = by-visit stepped.Made answer.Going (thrown_one (counted mid))
      (record { state = state_of (thrown_one (counted mid)) used; entry = None; cells = more_cells })
      refl refl
      (λ c same k. goes-small s x before.limits c k (state_of (thrown_one (counted mid)) used) more_cells session.cells (course-going s x F table bits before b start c same on.going) (added-now c same extends) (no-cells (thrown_one (counted mid)) no_shape none) (course-fewer s x F table bits before b start c same on.fewer) session.tokens ideal little (course-kept s x F table bits before b start c same) (one-thrown c same))
      (λ e. cc) refl
      (λ c tape is.
      went-small (record { chooser = c; limits = before.limits; tape = tape }) (in_turn before (attempt_of session used)) session.pending more_cells none little
      ∙ ap (λ st. record { state = st; entry = None; cells = more_cells }) (thrown-state none))
      (λ tape. (λ h. h, λ h. h)) exact

  over : session.pending ≡ [] → told.Extends before.session.cells session.cells → IsIdealOver s x before.limits.max session.cells → IsTold stepped.Overshot → IsTurn s x F table bits before start answer.Going (thrown_one (counted mid)) used
  over none extends ideal exact = by-visit stepped.Overshot answer.Going (thrown_one (counted mid))
      (record { state = state_of (thrown_one (counted mid)) used; entry = None; cells = more_cells })
      refl refl
      (λ c same k. goes-over s x before.limits c k (state_of (thrown_one (counted mid)) used) more_cells session.cells (course-going s x F table bits before b start c same on.going) (added-now c same extends) (no-cells (thrown_one (counted mid)) no_shape none) (course-fewer s x F table bits before b start c same on.fewer) ideal (course-kept s x F table bits before b start c same) (one-thrown c same))
      (λ e. cc) refl
      (λ c tape is.
      ap (λ st. record { state = st; entry = None; cells = more_cells }) (thrown-state none))
      (λ tape. (λ h. h, λ h. h)) exact

  -- a drawing that kept its shape
  abbrev keeping : DrawingState
  keeping = kept_one_more (counted (taken_out mid)) (size_of session.tokens)

  kept-state : session.pending ≡ [] → kept_one (in_turn before (attempt_of session used)) ≡ state_of keeping used
  kept-state none = same-state (kept_one (in_turn before (attempt_of session used))) (state_of keeping used) (sym (attempt-none keeping used no_shape none)) (sym none-waits) (sym (add-one before.kept)) refl (sym (add-one before.turns)) refl

  module _ (e : Entry) (number : e.number ≡ before.kept + 1) (place : e.place ≡ used - bits_in session.cells) (shape : e.shape.items ≡ session.tokens) (no_labels : e.labels ≡ None) (cells : e.cells.items ≡ session.cells) where
    kept-entry : run.entry_made (in_turn before (attempt_of session used)) [] [] ≡ entry_of e
    kept-entry =
        let no_more : session.cells ++ [] ≡ session.cells = append-nil session.cells in
        same-entry (run.entry_made (in_turn before (attempt_of session used)) [] []) (entry_of e)
        (sym (number ∙ add-one before.kept))
        (ap (λ cs. used - bits_in cs) no_more ∙ sym place)
        (ap size_of (sym shape)) (sym shape) (ap labels_told (sym no_labels)) (no_more ∙ sym cells)

    large : s.mode ≡ Mode.Unlabelled → session.pending ≡ [] → told.Extends before.session.cells session.cells → IsIdealShape s x before.limits.max session.tokens session.cells → before.limits.min ≤ size_of session.tokens → IsTold stepped.Made → IsTurn s x F table bits before start (answer.Kept e) keeping used
    large plain none extends ideal enough exact = by-visit stepped.Made (answer.Kept e) keeping
        (record { state = state_of keeping used; entry = Some (entry_of e); cells = more_cells })
        refl refl
        (λ c same k. goes-kept s x before.limits c k (state_of keeping used) more_cells session.cells (course-going s x F table bits before b start c same on.going) (added-now c same extends) (no-cells keeping no_shape none) (course-fewer s x F table bits before b start c same on.fewer) session.tokens session.cells [] [] (append-nil session.cells) ideal enough (gives-none s plain (size_of session.tokens)) (entry_of e) shape (ap labels_told no_labels) cells (ap (λ n. n + 1) (course-kept s x F table bits before b start c same)) (course-thrown s x F table bits before b start c same))
        (λ e. cc) refl
        (λ c tape is.
        went-large (record { chooser = c; limits = before.limits; tape = tape }) (in_turn before (attempt_of session used)) session.pending more_cells Mode.Unlabelled none (ap (λ (t : Spec). t.mode) is ∙ plain) enough
        ∙ ap (λ st. record { state = st; entry = Some (run.entry_made (in_turn before (attempt_of session used)) [] []); cells = more_cells }) (kept-state none)
        ∙ ap (λ n. record { state = state_of keeping used; entry = Some n; cells = more_cells }) kept-entry)
        (λ tape. (λ h. h, λ h. h)) exact

  -- a drawing whose shape waits for its labels
  abbrev waiting : DrawingState
  waiting = waiting_with (counted (taken_out mid)) (shape_in session)

  waiting-state : session.pending ≡ [] → record (in_turn before (attempt_of session used)) { awaits = true } ≡ state_of waiting used
  waiting-state none = same-state (record (in_turn before (attempt_of session used)) { awaits = true }) (state_of waiting used) (ap (λ es. record (attempt_of session used) { pending = es }) none) refl refl refl (sym (add-one before.turns)) refl

  waits : s.mode ≡ Mode.Labelled → session.pending ≡ [] → told.Extends before.session.cells session.cells → before.limits.min ≤ size_of session.tokens → IsTold stepped.Made → IsTurn s x F table bits before start answer.Going waiting used
  waits labelled none extends enough exact = by-visit stepped.Made answer.Going waiting
      (record { state = state_of waiting used; entry = None; cells = more_cells })
      refl refl
      (λ c same k. goes-on s x before.limits c k (state_of waiting used) more_cells session.cells (course-going s x F table bits before b start c same on.going) (added-now c same extends) refl (course-kept s x F table bits before b start c same) (course-thrown s x F table bits before b start c same))
      (λ e. cc) refl
      (λ c tape is.
      went-large (record { chooser = c; limits = before.limits; tape = tape }) (in_turn before (attempt_of session used)) session.pending more_cells Mode.Labelled none (ap (λ (t : Spec). t.mode) is ∙ labelled) enough
      ∙ ap (λ st. record { state = st; entry = None; cells = more_cells }) (waiting-state none))
      (λ tape. (λ h. h, λ h. h)) exact

  kept-or-waits : (mode : Mode) → s.mode ≡ mode → (result : Turned) (now : DrawingState) → KeepsOrWaits mode (shape_in session) used (counted (taken_out mid)) result now → session.pending ≡ [] → told.Extends before.session.cells session.cells → IsIdealShape s x before.limits.max session.tokens session.cells → before.limits.min ≤ size_of session.tokens → IsTold stepped.Made → IsTurn s x F table bits before start result now used
  kept-or-waits Mode.Unlabelled plain result now k none extends ideal enough exact = is-turn s x F table bits before b start (answer.Kept k.entry) keeping k.told k.now_is (large k.entry k.number k.place k.shape_is k.labels_are k.cells plain none extends ideal enough exact)
  kept-or-waits Mode.Labelled labelled result now k none extends ideal enough exact = is-turn s x F table bits before b start answer.Going waiting k.0 k.1 (waits labelled none extends enough exact)

  -- the visit stopped, at a place
  stopped : (step : Stepped) (e : Ending) → session ≡ stopped_by before.session step → step ≢ stepped.OutOfMemory → option_map (λ given. start + given) (told_fault None (answer.Finished e) (used - start)) ≡ told.visit_fault_place step used
      → Means step (quiet (run.ended (in_turn before (attempt_of before.session start)) (ending_of e) used)) → Alike step (answer.Finished e) → IsTold step → IsTurn s x F table bits before start (answer.Finished e) (ended_by (counted mid) e) used
  stopped step e left ne fault means alike exact = by-visit step (answer.Finished e) (ended_by (counted mid) e)
      (quiet (state_of (ended_by (counted mid) e) used))
      refl refl
      (λ c same k. goes-ended s x before.limits c k (state_of (ended_by (counted mid) e) used) (λ none. cc) (course-kept s x F table bits before b start c same) (course-thrown s x F table bits before b start c same))
      ne fault
      (λ c tape is.
      means c tape is
      ∙ ap quiet (same-state (run.ended (in_turn before (attempt_of before.session start)) (ending_of e) used) (state_of (ended_by (counted mid) e) used) (sym attempt) (sym none-waits) refl refl (sym (add-one before.turns)) refl))
      alike exact
    where
      attempt : attempt_unless before.waiting session used ≡ attempt_of before.session used
      attempt = ap (λ (st : SessionState). attempt_unless before.waiting st used) left ∙ attempt-some (record before { session = stopped_by before.session step }) used no_shape some

  -- a visit, from its answer and what was done after it
  pub visit-turn : (mode : Mode) → s.mode ≡ mode → (step : Stepped) (result : Turned) (now : DrawingState) → start ≤ used → Leaves step before.session session → Draws step before.session session start used → IsIdealAnswer s x step session → IsTold step → Settles mode (outcome_of table step) used mid result now → result ≢ answer.OutOfMemory → IsTurn s x F table bits before start result now used
  visit-turn mode is_mode stepped.Moved result now le leaves draws ideal exact settles ne = is-turn s x F table bits before b start answer.Going (counted mid) settles.0 settles.1 (moved leaves.1 draws exact)
  visit-turn mode is_mode stepped.Made result now le leaves draws ideal exact (inl settles) ne = is-turn s x F table bits before b start answer.Going (thrown_one (counted mid)) settles.1.0 settles.1.1 (small leaves.1 draws (subst (λ w. IsIdealShape s x w session.tokens session.cells) (leaves.0.whole ∙ b.whole) ideal) settles.0 exact)
  visit-turn mode is_mode stepped.Made result now le leaves draws ideal exact (inr settles) ne = kept-or-waits mode is_mode result now settles.1 leaves.1 draws (subst (λ w. IsIdealShape s x w session.tokens session.cells) (leaves.0.whole ∙ b.whole) ideal) settles.0 exact
  visit-turn mode is_mode stepped.Overshot result now le leaves draws ideal exact settles ne = is-turn s x F table bits before b start answer.Going (thrown_one (counted mid)) settles.0 settles.1 (over leaves.1 draws (subst (λ w. IsIdealOver s x w session.cells) (leaves.0.whole ∙ b.whole) ideal) exact)
  visit-turn mode is_mode (stepped.Straddles node cell) result now le leaves draws ideal exact settles ne =
      let e : Ending = ending.Undecided (straddle.Node node cell (table 6 node.0).lo (table 6 node.0).hi) in
      is-turn s x F table bits before b start (answer.Finished e) (ended_by (counted mid) e) settles.0 settles.1
      (stopped (stepped.Straddles node cell) e leaves (λ e. cc) refl (λ c tape is. ap (λ n. quiet (run.ended (in_turn before (attempt_of before.session start)) (run.Ending.Undecided (run.Open.AtNode node.0 cell)) n)) (sym draws.all_used)) (λ tape. (λ h. h, λ h. h)) exact)
  visit-turn mode is_mode stepped.Ended result now le leaves draws ideal exact settles ne =
      is-turn s x F table bits before b start (answer.Finished ending.TapeEnded) (ended_by (counted mid) ending.TapeEnded) settles.0 settles.1
      (stopped stepped.Ended ending.TapeEnded leaves (λ e. cc) refl (λ c tape is. refl) (λ tape. (λ h. h, λ h. h)) exact)
  visit-turn mode is_mode stepped.ReadFault result now le leaves draws ideal exact settles ne =
      is-turn s x F table bits before b start (answer.Finished ending.ReadFault) (ended_by (counted mid) ending.ReadFault) settles.0 settles.1
      (stopped stepped.ReadFault ending.ReadFault leaves (λ e. cc) (ap Some (let whole : start + (used - start) ≡ used = omega arith in whole)) (λ c tape is. refl) (λ tape. (λ h. h, λ h. h)) exact)
  visit-turn mode is_mode stepped.OutOfMemory result now le leaves draws ideal exact settles ne = absurd (ne settles.0)
