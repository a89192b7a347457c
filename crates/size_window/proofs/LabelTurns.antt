-- A turn that labels a shape is the turn of a drawing by bits, and leaves a drawing that belongs.
use Rattle.std.proofs.Common.{◌≡◌, ◌≢◌, ℕ, ◌+◌, ◌-◌, ◌<◌, ◌≤◌, Bool, true, List, ◌++◌, Option, Some, None, refl, sym, ◌∙◌, ap, subst, arith, add-one}
use Rattle.std.specs.Prelude.{option_map}
use Rattle.bz_model.specs.declared.cell.Cell.{Cell}
use Rattle.bz_model.specs.declared.cell.Bounds.{Bounds}
use Rattle.bz_model.specs.Fraction.{Fraction}
use Rattle.bz_model.specs.Spec.{Spec}
use Rattle.bz_model.specs.Labels.{AreOneTo}
use Rattle.bz_model.specs.Cell.{AreCells}
use Rattle.bz_model.proofs.CellLists.{cells_append}
use Rattle.bz_model.specs.Roomy.{Roomy}
use Rattle.object_store.specs.Tokens.{size_of}
use Rattle.choice_draw.specs.Draw.{bit_of}
use Rattle.shape_sampler.specs.Visit.{Attempt}
use Rattle.labelling.specs.declared.labelled.Labelled.{Labelled}
use Rattle.labelling.specs.declared.labelled.Labelled.TheVariants as labelled
use Rattle.labelling.specs.LabelsByBits.{labelling, bits_in}
use Rattle.labelling.specs.Answer.{told_labelling, IsLabelling, AreIdealLabels, AreCellsOf, OnLabels, StraddlesAt}
use Rattle.labelling.specs.Answer as told
use Rattle.labelling.proofs.GivenLabels.{given-nothing}
use Rattle.size_window.specs.declared.ending.Ending.{Ending}
use Rattle.size_window.specs.declared.ending.Ending.TheVariants as ending
use Rattle.size_window.specs.declared.ending.Straddle.TheVariants as straddle
use Rattle.size_window.specs.declared.turned.Entry.{Entry}
use Rattle.size_window.specs.declared.turned.Turned.{Turned}
use Rattle.size_window.specs.declared.turned.Turned.TheVariants as answer
use Rattle.size_window.specs.RunByBits as run
use Rattle.size_window.specs.RunByBits.{RunState, Course, followed_by, at_place, kept_one, cut_short, labelled_with}
use Rattle.size_window.specs.Follows.{GoesIdeally}
use Rattle.size_window.specs.Drawing.{MadeShape, DrawingState, Waits, DrawingBelongs, ending_of, attempt_made, state_of, counted, waiting_with, none_waiting, kept_one_more, ended_by}
use Rattle.size_window.specs.Turn.{turns_by, labels_told, entry_of, told_entry, told_fault, TurnEndsThere, GoesOn, IsTurn, IfKept, IsNextKept, EntryHasLabels, TellsOpen}
use Rattle.size_window.specs.LabelTurn.{SettlesLabels, IsLabelTurn}
use Rattle.size_window.proofs.Going.{goes-stopped, goes-kept, gives-ideal, ideal-fits}
use Rattle.size_window.proofs.Turning.{in_turn_as, attempt-none, turn-labels, if-told, course-going, course-kept, course-thrown, course-fewer, course-shape, is-turn}
use Rattle.size_window.proofs.Settling.{same-entry, same-state}
use Rattle.size_window.proofs.Belonging.{shape-waits}

-- out of memory no bit was given
pub nothing_labelled : (bits : Option (ℕ → Option Bool)) (n start : ℕ) → IsLabelling bits n start labelled.OutOfMemory start
nothing_labelled bits n start = given-nothing bits n start

module _ (s : Spec) (x : Fraction) (before : DrawingState) (b : DrawingBelongs s x before) (on : GoesOn before) (shape : MadeShape) (is_shape : before.waiting ≡ Some shape) where
  -- the shape that waited
  pub waited : Waits s x before shape
  waited = shape-waits s x before shape is_shape b.waits

  -- the drawing with its shape taken out
  abbrev without : DrawingState
  without = none_waiting before

  -- put back, it is as it was
  put-back : waiting_with without shape ≡ before
  put-back = ap (λ w. record before { waiting = w }) (sym is_shape)

  -- a drawing that kept the shape
  abbrev keeping : DrawingState
  keeping = kept_one_more (counted without) (size_of shape.tokens)

  -- a drawing that was stopped while the shape waits
  abbrev stopping : Ending → DrawingState
  stopping e = ended_by (counted (waiting_with without shape)) e

  -- the counts have room
  few-kept : before.kept < before.limits.count
  few-kept = let h = b.kept in let k = on.fewer in omega arith

  few-turns : before.turns < before.limits.turns
  few-turns = let h = b.turns in let k = on.more in omega arith

  pub shape-fits : size_of shape.tokens ≤ before.limits.max
  shape-fits = ideal-fits s x before.limits.max shape.tokens shape.cells waited.ideal

  keeping-belongs : DrawingBelongs s x keeping
  keeping-belongs = record {
    session = b.session;
    waits = tt;
    whole = b.whole;
    runs = b.runs;
    limits = b.limits;
    kept = let h = few-kept in omega arith;
    attempts = let h = b.attempts in omega arith;
    turns = let h = few-turns in omega arith;
    atoms = let h = b.atoms in let m = b.limits.max in let f = shape-fits in omega arith;
  }

  stopping-belongs : (e : Ending) → DrawingBelongs s x (stopping e)
  stopping-belongs e =
      let w = waited in
      record {
        session = b.session;
        waits = record { labelled = w.labelled; rests = w.rests; ideal = w.ideal; least = w.least; cells = w.cells };
        whole = b.whole;
        runs = λ none. absurd (let no : ⊥ = cc in no);
        limits = b.limits;
        kept = b.kept;
        attempts = let h = b.attempts in omega arith;
        turns = let h = few-turns in omega arith;
        atoms = b.atoms;
      }

  -- after a labelling
  pub labels-belong : (told : Labelled) (used : ℕ) (result : Turned) (now : DrawingState) → SettlesLabels told shape used without result now → DrawingBelongs s x now
  labels-belong (labelled.Labels labels cells) used result now settles = subst (DrawingBelongs s x) (sym settles.now_is) keeping-belongs
  labels-belong (labelled.Straddles m cell) used result now settles = subst (DrawingBelongs s x) (sym settles.1) (stopping-belongs _)
  labels-belong labelled.Ended used result now settles = subst (DrawingBelongs s x) (sym settles.1) (stopping-belongs _)
  labels-belong labelled.ReadFault used result now settles = subst (DrawingBelongs s x) (sym settles.1) (stopping-belongs _)
  labels-belong labelled.OutOfMemory used result now settles = subst (DrawingBelongs s x) (sym (settles.1 ∙ put-back)) b

  -- the entry kept
  pub labels-kept : (told : Labelled) (used : ℕ) (result : Turned) (now : DrawingState) → OnLabels told (λ labels cells. AreCellsOf (size_of shape.tokens) cells) → SettlesLabels told shape used without result now → IfKept result (IsNextKept before.limits before.kept used)
  labels-kept (labelled.Labels labels cells) used result now are k = subst (λ r. IfKept r (IsNextKept before.limits before.kept used)) (sym k.told) (record {
    number = k.number;
    place = k.place ∙ ap (λ cs. used - bits_in cs) (sym k.cells);
    least = subst (λ ts. before.limits.min ≤ size_of ts) (sym k.shape_is) waited.least;
    greatest = subst (λ ts. size_of ts ≤ before.limits.max) (sym k.shape_is) shape-fits;
    cells = subst AreCells (sym k.cells) (cells_append shape.cells cells.items waited.cells are.each);
  })
  labels-kept (labelled.Straddles m cell) used result now are settles = subst (λ r. IfKept r (IsNextKept before.limits before.kept used)) (sym settles.0) tt
  labels-kept labelled.Ended used result now are settles = subst (λ r. IfKept r (IsNextKept before.limits before.kept used)) (sym settles.0) tt
  labels-kept labelled.ReadFault used result now are settles = subst (λ r. IfKept r (IsNextKept before.limits before.kept used)) (sym settles.0) tt
  labels-kept labelled.OutOfMemory used result now are settles = subst (λ r. IfKept r (IsNextKept before.limits before.kept used)) (sym settles.0) tt

  -- it has labels
  pub labels-told : (told : Labelled) (used : ℕ) (result : Turned) (now : DrawingState) → OnLabels told (λ labels cells. AreIdealLabels (size_of shape.tokens) labels cells) → SettlesLabels told shape used without result now → IfKept result (EntryHasLabels s.mode)
  labels-told (labelled.Labels labels cells) used result now ideal k = subst (λ r. IfKept r (EntryHasLabels s.mode)) (sym k.told) (subst (λ m. EntryHasLabels m k.entry) (sym waited.labelled) (record {
    labels = labels;
    there = k.labels_are;
    one_to = subst (λ ts. AreOneTo (size_of ts) labels) (sym k.shape_is) ideal.one_to;
  }))
  labels-told (labelled.Straddles m cell) used result now ideal settles = subst (λ r. IfKept r (EntryHasLabels s.mode)) (sym settles.0) tt
  labels-told labelled.Ended used result now ideal settles = subst (λ r. IfKept r (EntryHasLabels s.mode)) (sym settles.0) tt
  labels-told labelled.ReadFault used result now ideal settles = subst (λ r. IfKept r (EntryHasLabels s.mode)) (sym settles.0) tt
  labels-told labelled.OutOfMemory used result now ideal settles = subst (λ r. IfKept r (EntryHasLabels s.mode)) (sym settles.0) tt

  module _ (F : ℕ) (table : (level node : ℕ) → Bounds) (bits : Option (ℕ → Option Bool)) (start used : ℕ) where
    -- the state in which the labelling starts
    abbrev labelling_state : RunState
    labelling_state = in_turn_as before true (attempt_made shape before.session.room start)

    -- The turn meets the tape's end where the labelling does.
    abbrev Alike : Labelled → Turned → Type 0
    Alike answered result = (tape : ℕ → Option Bool) → (told.LabellingEndsThere answered used tape → TurnEndsThere result None used tape) × (TurnEndsThere result None used tape → told.LabellingEndsThere answered used tape)

    going-is : (P : Option Ending → Type 0) → P None → P before.ending
    going-is P h = subst P (sym on.going) h

    -- a turn by a labelling, from what it leaves
    by-labels : (answered : Labelled) (result : Turned) (now : DrawingState) (turned : run.Turned) → turned.state ≡ state_of now used → turned.entry ≡ told_entry result → ((c : Course) → c.state ≡ state_of before start → GoesIdeally s x before.limits c → GoesIdeally s x before.limits (followed_by c turned))
        → (h : IsLabelling bits (size_of shape.tokens) start answered used) → answered ≢ labelled.OutOfMemory → option_map (λ given. start + given) (told_fault None result (used - start)) ≡ told.label_fault_place answered used → labelled_with labelling_state (told_labelling answered h.finished used) ≡ turned → Alike answered result → IsTurn s x F table bits before start result now used
    by-labels answered result now turned state entry goes h ne fault means alike = record {
      turned = turned;
      state = state;
      entry = entry;
      rests = λ e ended. absurd (let going = on.going in let no : ⊥ = cc in no);
      goes = goes;
      given = h.given;
      gave = h.gave;
      ended = if-told bits (λ tape ends. going-is (λ o. TurnEndsThere result o used tape) ((alike tape).0 ends)) h.ended;
      exact = λ tape have ends c by. sym (
          turn-labels (record { chooser = c; limits = before.limits; tape = tape }) (told_fault before.ending result (used - start)) before start refl on shape is_shape
          ∙ ap (λ f. labelled_with labelling_state (labelling (bit_of tape f) (size_of shape.tokens) start)) (ap (λ (o : Option Ending). option_map (λ given. start + given) (told_fault o result (used - start))) on.going ∙ fault)
          ∙ ap (labelled_with labelling_state) (sym (h.exact tape have ((alike tape).1 (subst (λ o. TurnEndsThere result o used tape) on.going ends)) ne))
          ∙ means);
    }

    kept-state : kept_one (at_place labelling_state used) ≡ state_of keeping used
    kept-state = same-state (kept_one (at_place labelling_state used)) (state_of keeping used) (sym (attempt-none keeping used refl waited.rests)) refl (sym (add-one before.kept)) refl (sym (add-one before.turns)) refl

    -- the shape is kept with these labels
    module _ (labels : List ℕ) (more : Roomy Cell) (ideal : AreIdealLabels (size_of shape.tokens) labels more.items) (e : Entry) (number : e.number ≡ before.kept + 1) (place : e.place ≡ used - bits_in (shape.cells ++ more.items)) (is_tokens : e.shape.items ≡ shape.tokens) (is_labels : e.labels ≡ Some labels) (is_cells : e.cells.items ≡ shape.cells ++ more.items) where
      kept-entry : run.entry_made (at_place labelling_state used) labels more.items ≡ entry_of e
      kept-entry = same-entry (run.entry_made (at_place labelling_state used) labels more.items) (entry_of e) (sym (number ∙ add-one before.kept)) (sym place) (ap size_of (sym is_tokens)) (sym is_tokens) (sym (ap labels_told is_labels)) (sym is_cells)

      kept-turn : (h : IsLabelling bits (size_of shape.tokens) start (labelled.Labels labels more) used) → IsTurn s x F table bits before start (answer.Kept e) keeping used
      kept-turn h = by-labels (labelled.Labels labels more) (answer.Kept e) keeping
          (record { state = state_of keeping used; entry = Some (entry_of e); cells = more.items })
          refl refl
          (λ c same k. goes-kept s x before.limits c k (state_of keeping used) more.items (shape.cells ++ more.items) (course-going s x F table bits before b start c same on.going) (ap (λ cs. cs ++ more.items) (course-shape s x F table bits before b start c same shape is_shape)) (ap (λ (a : Attempt). a.cells) (attempt-none keeping used refl waited.rests)) (course-fewer s x F table bits before b start c same on.fewer) shape.tokens shape.cells more.items labels refl waited.ideal waited.least (gives-ideal s waited.labelled (size_of shape.tokens) labels more.items ideal) (entry_of e) is_tokens (ap labels_told is_labels) is_cells (ap (λ n. n + 1) (course-kept s x F table bits before b start c same)) (course-thrown s x F table bits before b start c same))
          h (λ e. cc) refl
          (ap (λ st. record { state = st; entry = Some (run.entry_made (at_place labelling_state used) labels more.items); cells = more.items }) kept-state
          ∙ ap (λ n. record { state = state_of keeping used; entry = Some n; cells = more.items }) kept-entry)
          (λ tape. (λ h. h, λ h. h))

    stopped-state : (e : Ending) → run.ended labelling_state (ending_of e) used ≡ state_of (stopping e) used
    stopped-state e = same-state (run.ended labelling_state (ending_of e) used) (state_of (stopping e) used) refl refl refl refl (sym (add-one before.turns)) refl

    -- the labelling was cut short
    stopped-turn : (answered : Labelled) (e : Ending) (h : IsLabelling bits (size_of shape.tokens) start answered used) → answered ≢ labelled.OutOfMemory → option_map (λ given. start + given) (told_fault None (answer.Finished e) (used - start)) ≡ told.label_fault_place answered used → labelled_with labelling_state (told_labelling answered h.finished used) ≡ cut_short labelling_state (ending_of e) h.finished used → Alike answered (answer.Finished e) → IsTurn s x F table bits before start (answer.Finished e) (stopping e) used
    stopped-turn answered e h ne fault means alike = by-labels answered (answer.Finished e) (stopping e)
        (record { state = state_of (stopping e) used; entry = None; cells = h.finished })
        refl refl
        (λ c same k. goes-stopped s x before.limits c k (state_of (stopping e) used) h.finished (λ none. cc) (course-kept s x F table bits before b start c same) (course-thrown s x F table bits before b start c same))
        h ne fault
        (means ∙ ap (λ st. record { state = st; entry = None; cells = h.finished }) (stopped-state e))
        alike

    by-answer : start ≤ used → (result : Turned) (now : DrawingState) → result ≢ answer.OutOfMemory → (answered : Labelled) → IsLabelling bits (size_of shape.tokens) start answered used → OnLabels answered (λ labels cells. AreIdealLabels (size_of shape.tokens) labels cells) → SettlesLabels answered shape used without result now → IsTurn s x F table bits before start result now used
    by-answer le result now ne (labelled.Labels labels cells) i ideal k = is-turn s x F table bits before b start (answer.Kept k.entry) keeping k.told k.now_is (kept-turn labels cells ideal k.entry k.number k.place k.shape_is k.labels_are k.cells i)
    by-answer le result now ne (labelled.Straddles m cell) i ideal settles =
        let e : Ending = ending.Undecided (straddle.Label m cell) in
        is-turn s x F table bits before b start (answer.Finished e) (stopping e) settles.0 settles.1 (stopped-turn (labelled.Straddles m cell) e i (λ e. cc) refl refl (λ tape. (λ h. h, λ h. h)))
    by-answer le result now ne labelled.Ended i ideal settles = is-turn s x F table bits before b start (answer.Finished ending.TapeEnded) (stopping ending.TapeEnded) settles.0 settles.1 (stopped-turn labelled.Ended ending.TapeEnded i (λ e. cc) refl refl (λ tape. (λ h. h, λ h. h)))
    by-answer le result now ne labelled.ReadFault i ideal settles = is-turn s x F table bits before b start (answer.Finished ending.ReadFault) (stopping ending.ReadFault) settles.0 settles.1 (stopped-turn labelled.ReadFault ending.ReadFault i (λ e. cc) (ap Some (let whole : start + (used - start) ≡ used = omega arith in whole)) refl (λ tape. (λ h. h, λ h. h)))
    by-answer le result now ne labelled.OutOfMemory i ideal settles = absurd (ne settles.0)

    -- a turn that labels a shape
    pub label-turn : (result : Turned) (now : DrawingState) → start ≤ used → IsLabelTurn bits shape without start result now used → result ≢ answer.OutOfMemory → IsTurn s x F table bits before start result now used
    label-turn result now le t ne = by-answer le result now ne t.told t.labelling t.ideal t.settles

-- what a labelling leaves open is a label
pub labels-open : (table : (level node : ℕ) → Bounds) (n : ℕ) (shape : MadeShape) (told : Labelled) (used : ℕ) (before now : DrawingState) (result : Turned) → StraddlesAt n told → SettlesLabels told shape used before result now → TellsOpen table result
labels-open table n shape (labelled.Labels labels cells) used before now result at k = subst (TellsOpen table) (sym k.told) tt
labels-open table n shape (labelled.Straddles m cell) used before now result at settles = subst (TellsOpen table) (sym settles.0) (at.0, at.2, at.3)
labels-open table n shape labelled.Ended used before now result at settles = subst (TellsOpen table) (sym settles.0) tt
labels-open table n shape labelled.ReadFault used before now result at settles = subst (TellsOpen table) (sym settles.0) tt
labels-open table n shape labelled.OutOfMemory used before now result at settles = subst (TellsOpen table) (sym settles.0) tt

-- a labelling that counts no turn is one for which memory was wanting
pub labels-uncounted : (going : Option Ending) → going ≡ None → (shape : MadeShape) (told : Labelled) (used : ℕ) (before now : DrawingState) (result : Turned) → SettlesLabels told shape used before result now → turns_by going result ≡ 0 → result ≡ answer.OutOfMemory
labels-uncounted going is shape told used before now result settles none = by told settles
  where
    counts : (other : Turned) → result ≡ other → turns_by None other ≡ 1 → ⊥
    counts other same one = let e : turns_by going result ≡ turns_by None other = ap (λ o. turns_by o result) is ∙ ap (turns_by None) same in omega arith

    by : (told : Labelled) → SettlesLabels told shape used before result now → result ≡ answer.OutOfMemory
    by (labelled.Labels labels cells) k = absurd (counts _ k.told refl)
    by (labelled.Straddles m cell) settles = absurd (counts _ settles.0 refl)
    by labelled.Ended settles = absurd (counts _ settles.0 refl)
    by labelled.ReadFault settles = absurd (counts _ settles.0 refl)
    by labelled.OutOfMemory settles = settles.0
