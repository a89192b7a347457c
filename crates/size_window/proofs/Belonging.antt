-- A drawing still belongs after a turn, and what it kept is numbered and sized right.
use Rattle.std.proofs.Common.{◌≡◌, ◌≢◌, ℕ, suc, ◌+◌, ◌-◌, ◌<◌, ◌≤◌, max, inl, inr, List, [], ◌∷◌, length, Option, Some, None, refl, sym, ◌∙◌, ap, subst, arith}
use Rattle.std.specs.Prelude.{slice_get, ◌↔◌, Bool, true, false, IsTrue, IfSome}
use Rattle.bz_model.specs.declared.cell.Bounds.{Bounds}
use Rattle.bz_model.specs.Fraction.{Fraction}
use Rattle.bz_model.specs.Spec.{Spec, Mode}
use Rattle.bz_model.specs.Cell.{AreCells}
use Rattle.object_store.specs.Tokens.{size_of}
use Rattle.choice_draw.specs.Decision.{level_for}
use Rattle.object_store.specs.Walk.{AllBelow}
use Rattle.shape_sampler.specs.declared.stepped.Stepped.{Stepped}
use Rattle.shape_sampler.specs.declared.stepped.Stepped.TheVariants as stepped
use Rattle.shape_sampler.specs.State.{SessionState, SessionBelongs, Leaves, stopped_by}
use Rattle.shape_sampler.specs.Belonging.{IsIdealShape}
use Rattle.shape_sampler.specs.Answer.{IsIdealAnswer, Draws}
use Rattle.shape_sampler.proofs.Sessions.{begun-belongs-at, emptied-belongs}
use Rattle.size_window.specs.declared.ending.Ending.{Ending}
use Rattle.size_window.specs.declared.turned.Turned.{Turned}
use Rattle.size_window.specs.declared.turned.Turned.TheVariants as answer
use Rattle.size_window.specs.declared.turned.Outcome.TheVariants as outcome
use Rattle.labelling.specs.LabelsByBits.{bits_in}
use Rattle.size_window.specs.declared.turned.Entry.{Entry}
use Rattle.size_window.specs.RunByBits.{Limits}
use Rattle.size_window.specs.Drawing.{MadeShape, DrawingState, Waits, DrawingBelongs, shape_in, counted, thrown_one, taken_out, waiting_with, kept_one_more, ended_by, begun_one}
use Rattle.size_window.specs.Turn.{turns_by, GoesOn, IsCountedTurn, IsIdleTurn, Settles, KeepsOrWaits, outcome_of, MaySettle, IfStraddles, IfKept, IsNextKept, EntryHasLabels}
use Rattle.size_window.specs.Turn as turning
use Rattle.size_window.proofs.Going.{ideal-fits}
use Rattle.size_window.proofs.Turning.{if-told}

-- A drawing visits a node: it goes on, no shape waits for its labels, and a node is pending.
pub record Visits (d : DrawingState) : Type 0 where
  pub on : GoesOn d
  pub no_shape : d.waiting ≡ None
  pub some : d.session.pending ≢ []

-- What a turn that needs no bit leaves to do, where it has no answer: a shape is to be labelled, or a node to be visited.
pub data IsLeft (d : DrawingState) : Type 0 where
  labels : GoesOn d → d.waiting ≢ None → IsLeft d
  visits : Visits d → IsLeft d

-- A turn without bits and without an answer leaves the drawing as it was, with a shape to be
-- labelled or a node to be visited.
pub left-then : (before now : DrawingState) (o : Option Turned) → IsIdleTurn before o now → ((t : Turned) → o ≢ Some t) → IsLeft before × (now ≡ before)
left-then before now o (turning.again e is told same) never = absurd (never (answer.Finished e) told)
left-then before now o (turning.done going full told same) never = absurd (never _ told)
left-then before now o (turning.turn_limit going fewer spent told same) never = absurd (never _ told)
left-then before now o (turning.begins on no_shape none told same) never = absurd (never _ told)
left-then before now o (turning.no_memory on no_shape none told same) never = absurd (never _ told)
left-then before now o (turning.labels on waits told same) never = (IsLeft.labels on waits, same)
left-then before now o (turning.visits on no_shape some told same) never = (IsLeft.visits (record { on = on; no_shape = no_shape; some = some }), same)

-- The drawing goes on.
pub left-on : {d : DrawingState} → IsLeft d → GoesOn d
left-on (IsLeft.labels on waits) = on
left-on (IsLeft.visits v) = v.on

-- Where no shape waits, a node is to be visited.
pub left-visits : {d : DrawingState} → IsLeft d → d.waiting ≡ None → Visits d
left-visits (IsLeft.labels on waits) none = absurd (waits none)
left-visits (IsLeft.visits v) none = v

-- where a test answers false whether nodes are pending, none is
pub none-pending : (es : List ℕ) (b : Bool) → b ≡ false → (IsTrue b ↔ (es ≢ [])) → es ≡ []
none-pending [] b is same = refl
none-pending (e ∷ es) b is same = absurd (let t : b ≡ true = same.1 (λ none. cc) in let no : ⊥ = cc in no)

-- a shape that waits, in a drawing with as little pending and the same limits
pub waits-on : (s : Spec) (x : Fraction) (before now : DrawingState) → now.waiting ≡ before.waiting → now.session.pending ≡ before.session.pending → now.limits ≡ before.limits → IfSome before.waiting (Waits s x before) → IfSome now.waiting (Waits s x now)
waits-on s x before now same_shape same_pending same_limits h = subst (λ w. IfSome w (Waits s x now)) (sym same_shape) (if-told before.waiting (λ shape w. record {
  labelled = w.labelled;
  rests = same_pending ∙ w.rests;
  ideal = subst (λ (l : Limits). IsIdealShape s x l.max shape.tokens shape.cells) (sym same_limits) w.ideal;
  least = subst (λ (l : Limits). l.min ≤ size_of shape.tokens) (sym same_limits) w.least;
  cells = w.cells;
}) h)

-- none waits
pub none-waits-then : (s : Spec) (x : Fraction) (d : DrawingState) → d.waiting ≡ None → IfSome d.waiting (Waits s x d)
none-waits-then s x d none = subst (λ w. IfSome w (Waits s x d)) (sym none) tt

-- the shape that waits may
pub shape-waits : (s : Spec) (x : Fraction) (d : DrawingState) (shape : MadeShape) → d.waiting ≡ Some shape → IfSome d.waiting (Waits s x d) → Waits s x d shape
shape-waits s x d shape is h = subst (λ w. IfSome w (Waits s x d)) is h

module _ (s : Spec) (x : Fraction) (before : DrawingState) (b : DrawingBelongs s x before) where
  pub ended-belongs : (e : Ending) → DrawingBelongs s x (ended_by before e)
  ended-belongs e = record { session = b.session; waits = waits-on s x before (ended_by before e) refl refl refl b.waits; whole = b.whole; runs = λ none. absurd (let no : ⊥ = cc in no); limits = b.limits; kept = b.kept; attempts = b.attempts; turns = b.turns; atoms = b.atoms }

  begun-belongs : before.waiting ≡ None → before.turns ≢ before.limits.turns → DrawingBelongs s x (begun_one before)
  begun-belongs no_shape more = record {
    session = begun-belongs-at s x before.session (before.session.root ∷ []) [] [] refl refl refl b.session;
    waits = none-waits-then s x (begun_one before) no_shape;
    whole = b.whole;
    runs = λ none. refl;
    limits = b.limits;
    kept = b.kept;
    attempts = let h = b.attempts in omega arith;
    turns = let h = b.turns in omega arith;
    atoms = b.atoms;
  }

  -- after a turn that visits nothing
  pub idle-belongs : (result : Turned) (now : DrawingState) → IsIdleTurn before (Some result) now → DrawingBelongs s x now
  idle-belongs result now (turning.again e is told same) = subst (DrawingBelongs s x) (sym same) b
  idle-belongs result now (turning.done going full told same) = subst (DrawingBelongs s x) (sym same) (ended-belongs _)
  idle-belongs result now (turning.turn_limit going fewer spent told same) = subst (DrawingBelongs s x) (sym same) (ended-belongs _)
  idle-belongs result now (turning.begins on no_shape none told same) = subst (DrawingBelongs s x) (sym same) (begun-belongs no_shape on.more)
  idle-belongs result now (turning.no_memory on no_shape none told same) = subst (DrawingBelongs s x) (sym same) b
  idle-belongs result now (turning.labels on waits told same) = subst (DrawingBelongs s x) (sym same) b
  idle-belongs result now (turning.visits on no_shape some told same) = subst (DrawingBelongs s x) (sym same) b

  module _ (v : Visits before) (session : SessionState) (belongs : SessionBelongs s x session) where
    abbrev mid : DrawingState
    mid = record before { session = session }

    -- the counts have room
    few-kept : before.kept < before.limits.count
    few-kept = let h = b.kept in let k = v.on.fewer in omega arith

    few-turns : before.turns < before.limits.turns
    few-turns = let h = b.turns in let k = v.on.more in omega arith

    moved-belongs : session.whole ≡ before.session.whole → session.stopped ≡ None → DrawingBelongs s x (counted mid)
    moved-belongs whole stopped = record { session = belongs; waits = none-waits-then s x (counted mid) v.no_shape; whole = whole ∙ b.whole; runs = λ none. stopped; limits = b.limits; kept = b.kept; attempts = let h = b.attempts in omega arith; turns = let h = few-turns in omega arith; atoms = b.atoms }

    thrown-belongs : session.whole ≡ before.session.whole → session.stopped ≡ None → DrawingBelongs s x (thrown_one (counted mid))
    thrown-belongs whole stopped = record { session = belongs; waits = none-waits-then s x (thrown_one (counted mid)) v.no_shape; whole = whole ∙ b.whole; runs = λ none. stopped; limits = b.limits; kept = b.kept; attempts = let h = b.attempts in omega arith; turns = let h = few-turns in omega arith; atoms = b.atoms }

    stopped-belongs : (step : Stepped) (e : Ending) → session ≡ stopped_by before.session step → DrawingBelongs s x (ended_by (counted mid) e)
    stopped-belongs step e left = record { session = belongs; waits = none-waits-then s x (ended_by (counted mid) e) v.no_shape; whole = ap (λ (st : SessionState). st.whole) left ∙ b.whole; runs = λ none. absurd (let no : ⊥ = cc in no); limits = b.limits; kept = b.kept; attempts = let h = b.attempts in omega arith; turns = let h = few-turns in omega arith; atoms = b.atoms }

    -- a made shape is within the room
    shape-fits : session.whole ≡ before.session.whole → IsIdealShape s x session.whole session.tokens session.cells → size_of session.tokens ≤ before.limits.max
    shape-fits whole ideal = subst (λ w. size_of session.tokens ≤ w) (whole ∙ b.whole) (ideal-fits s x session.whole session.tokens session.cells ideal)

    kept-belongs : session.whole ≡ before.session.whole → session.stopped ≡ None → session.pending ≡ [] → IsIdealShape s x session.whole session.tokens session.cells → DrawingBelongs s x (kept_one_more (counted (taken_out mid)) (size_of session.tokens))
    kept-belongs whole stopped none ideal =
        let fits = shape-fits whole ideal in
        record {
          session = emptied-belongs s x session none belongs;
          waits = none-waits-then s x (kept_one_more (counted (taken_out mid)) (size_of session.tokens)) v.no_shape;
          whole = whole ∙ b.whole;
          runs = λ ending. stopped;
          limits = b.limits;
          kept = let h = few-kept in omega arith;
          attempts = let h = b.attempts in omega arith;
          turns = let h = few-turns in omega arith;
          atoms = let h = b.atoms in let m = b.limits.max in omega arith;
        }

    waiting-belongs : s.mode ≡ Mode.Labelled → session.whole ≡ before.session.whole → session.stopped ≡ None → session.pending ≡ [] → IsIdealShape s x session.whole session.tokens session.cells → before.limits.min ≤ size_of session.tokens → DrawingBelongs s x (waiting_with (counted (taken_out mid)) (shape_in session))
    waiting-belongs labelled whole stopped none ideal enough = record {
      session = emptied-belongs s x session none belongs;
      waits = record { labelled = labelled; rests = none; ideal = subst (λ w. IsIdealShape s x w session.tokens session.cells) (whole ∙ b.whole) ideal; least = enough; cells = belongs.cells };
      whole = whole ∙ b.whole;
      runs = λ ending. stopped;
      limits = b.limits;
      kept = b.kept;
      attempts = let h = b.attempts in omega arith;
      turns = let h = few-turns in omega arith;
      atoms = b.atoms;
    }

    made-belongs : (mode : Mode) → s.mode ≡ mode → (used : ℕ) (result : Turned) (now : DrawingState) → KeepsOrWaits mode (shape_in session) used (counted (taken_out mid)) result now → session.whole ≡ before.session.whole → session.stopped ≡ None → session.pending ≡ [] → IsIdealShape s x session.whole session.tokens session.cells → before.limits.min ≤ size_of session.tokens → DrawingBelongs s x now
    made-belongs Mode.Unlabelled is_mode used result now k whole stopped none ideal enough = subst (DrawingBelongs s x) (sym k.now_is) (kept-belongs whole stopped none ideal)
    made-belongs Mode.Labelled is_mode used result now k whole stopped none ideal enough = subst (DrawingBelongs s x) (sym k.1) (waiting-belongs is_mode whole stopped none ideal enough)

    -- after a visit
    pub visit-belongs : (mode : Mode) → s.mode ≡ mode → (table : (level node : ℕ) → Bounds) (step : Stepped) (used : ℕ) (result : Turned) (now : DrawingState) → Leaves step before.session session → IsIdealAnswer s x step session → Settles mode (outcome_of table step) used mid result now → DrawingBelongs s x now
    visit-belongs mode is_mode table stepped.Moved used result now leaves ideal settles = subst (DrawingBelongs s x) (sym settles.1) (moved-belongs leaves.0.whole leaves.0.stopped)
    visit-belongs mode is_mode table stepped.Made used result now leaves ideal (inl settles) = subst (DrawingBelongs s x) (sym settles.1.1) (thrown-belongs leaves.0.whole leaves.0.stopped)
    visit-belongs mode is_mode table stepped.Made used result now leaves ideal (inr settles) = made-belongs mode is_mode used result now settles.1 leaves.0.whole leaves.0.stopped leaves.1 ideal settles.0
    visit-belongs mode is_mode table stepped.Overshot used result now leaves ideal settles = subst (DrawingBelongs s x) (sym settles.1) (thrown-belongs leaves.0.whole leaves.0.stopped)
    visit-belongs mode is_mode table (stepped.Straddles node cell) used result now leaves ideal settles = subst (DrawingBelongs s x) (sym settles.1) (stopped-belongs (stepped.Straddles node cell) _ leaves)
    visit-belongs mode is_mode table stepped.Ended used result now leaves ideal settles = subst (DrawingBelongs s x) (sym settles.1) (stopped-belongs stepped.Ended _ leaves)
    visit-belongs mode is_mode table stepped.ReadFault used result now leaves ideal settles = subst (DrawingBelongs s x) (sym settles.1) (stopped-belongs stepped.ReadFault _ leaves)
    visit-belongs mode is_mode table stepped.OutOfMemory used result now leaves ideal settles = subst (DrawingBelongs s x) (sym (settles.1 ∙ ap (λ st. record before { session = st }) leaves)) b

    -- the entry kept
    made-kept : (mode : Mode) (used : ℕ) (result : Turned) (now : DrawingState) → KeepsOrWaits mode (shape_in session) used (counted (taken_out mid)) result now → before.limits.min ≤ size_of session.tokens → size_of session.tokens ≤ before.limits.max → IfKept result (IsNextKept before.limits before.kept used)
    made-kept Mode.Labelled used result now k enough fits = subst (λ r. IfKept r (IsNextKept before.limits before.kept used)) (sym k.0) tt
    made-kept Mode.Unlabelled used result now k enough fits = subst (λ r. IfKept r (IsNextKept before.limits before.kept used)) (sym k.told) (record {
      number = k.number;
      place = k.place ∙ ap (λ cs. used - bits_in cs) (sym k.cells);
      least = subst (λ ts. before.limits.min ≤ size_of ts) (sym k.shape_is) enough;
      greatest = subst (λ ts. size_of ts ≤ before.limits.max) (sym k.shape_is) fits;
      cells = subst AreCells (sym k.cells) belongs.cells;
    })

    made-labels : (mode : Mode) → s.mode ≡ mode → (used : ℕ) (result : Turned) (now : DrawingState) → KeepsOrWaits mode (shape_in session) used (counted (taken_out mid)) result now → IfKept result (EntryHasLabels s.mode)
    made-labels Mode.Labelled is_mode used result now k = subst (λ r. IfKept r (EntryHasLabels s.mode)) (sym k.0) tt
    made-labels Mode.Unlabelled is_mode used result now k = subst (λ r. IfKept r (EntryHasLabels s.mode)) (sym k.told) (subst (λ m. EntryHasLabels m k.entry) (sym is_mode) k.labels_are)

    module _ (mode : Mode) (table : (level node : ℕ) → Bounds) where
      nothing-kept : (P : Entry → Type 0) (result : Turned) (other : Turned) → IfKept other P → result ≡ other → IfKept result P
      nothing-kept P result other h is = subst (λ r. IfKept r P) (sym is) h

      pub visit-kept : (step : Stepped) (used : ℕ) (result : Turned) (now : DrawingState) → Leaves step before.session session → IsIdealAnswer s x step session → Settles mode (outcome_of table step) used mid result now → IfKept result (IsNextKept before.limits before.kept used)
      visit-kept stepped.Moved used result now leaves ideal settles = nothing-kept _ result answer.Going tt settles.0
      visit-kept stepped.Made used result now leaves ideal (inl settles) = nothing-kept _ result answer.Going tt settles.1.0
      visit-kept stepped.Made used result now leaves ideal (inr settles) = made-kept mode used result now settles.1 settles.0 (shape-fits leaves.0.whole ideal)
      visit-kept stepped.Overshot used result now leaves ideal settles = nothing-kept _ result answer.Going tt settles.0
      visit-kept (stepped.Straddles node cell) used result now leaves ideal settles = nothing-kept _ result (answer.Finished _) tt settles.0
      visit-kept stepped.Ended used result now leaves ideal settles = nothing-kept _ result (answer.Finished _) tt settles.0
      visit-kept stepped.ReadFault used result now leaves ideal settles = nothing-kept _ result (answer.Finished _) tt settles.0
      visit-kept stepped.OutOfMemory used result now leaves ideal settles = nothing-kept _ result answer.OutOfMemory tt settles.0

      pub visit-labels : s.mode ≡ mode → (step : Stepped) (used : ℕ) (result : Turned) (now : DrawingState) → Settles mode (outcome_of table step) used mid result now → IfKept result (EntryHasLabels s.mode)
      visit-labels is_mode stepped.Moved used result now settles = nothing-kept _ result answer.Going tt settles.0
      visit-labels is_mode stepped.Made used result now (inl settles) = nothing-kept _ result answer.Going tt settles.1.0
      visit-labels is_mode stepped.Made used result now (inr settles) = made-labels mode is_mode used result now settles.1
      visit-labels is_mode stepped.Overshot used result now settles = nothing-kept _ result answer.Going tt settles.0
      visit-labels is_mode (stepped.Straddles node cell) used result now settles = nothing-kept _ result (answer.Finished _) tt settles.0
      visit-labels is_mode stepped.Ended used result now settles = nothing-kept _ result (answer.Finished _) tt settles.0
      visit-labels is_mode stepped.ReadFault used result now settles = nothing-kept _ result (answer.Finished _) tt settles.0
      visit-labels is_mode stepped.OutOfMemory used result now settles = nothing-kept _ result answer.OutOfMemory tt settles.0

    -- what a visit counts
    module _ (result : Turned) (now : DrawingState) where
      one-turn : (r : Turned) → turns_by None r ≡ 1 → before.turns + 1 ≡ before.turns + turns_by before.ending r
      one-turn r one = ap (λ n. before.turns + n) (sym (ap (λ o. turns_by o r) v.on.going ∙ one))

      counted-is : (r : Turned) (d : DrawingState) → result ≡ r → now ≡ d → IsCountedTurn mid r d → IsCountedTurn mid result now
      counted-is r d same_result same_now h = subst (λ t. IsCountedTurn mid t now) (sym same_result) (subst (λ e. IsCountedTurn mid r e) (sym same_now) h)

      went-on : IsCountedTurn mid answer.Going (counted mid)
      went-on = record { limits = refl; kept = omega arith; atoms = omega arith; turns = one-turn answer.Going refl; thrown = inl refl; ending = refl }

      threw : IsCountedTurn mid answer.Going (thrown_one (counted mid))
      threw = record { limits = refl; kept = omega arith; atoms = omega arith; turns = one-turn answer.Going refl; thrown = inr (refl, refl); ending = refl }

      waited : IsCountedTurn mid answer.Going (waiting_with (counted (taken_out mid)) (shape_in session))
      waited = record { limits = refl; kept = omega arith; atoms = omega arith; turns = one-turn answer.Going refl; thrown = inl refl; ending = refl }

      ended : (e : Ending) → turns_by None (answer.Finished e) ≡ 1 → IsCountedTurn mid (answer.Finished e) (ended_by (counted mid) e)
      ended e one = record { limits = refl; kept = omega arith; atoms = omega arith; turns = one-turn (answer.Finished e) one; thrown = inl refl; ending = refl }

      made-counted : (mode : Mode) (used : ℕ) → KeepsOrWaits mode (shape_in session) used (counted (taken_out mid)) result now → IsCountedTurn mid result now
      made-counted Mode.Unlabelled used k = counted-is (answer.Kept k.entry) (kept_one_more (counted (taken_out mid)) (size_of session.tokens)) k.told k.now_is (record { limits = refl; kept = refl; atoms = ap (λ ts. before.atoms + size_of ts) (sym k.shape_is); turns = one-turn (answer.Kept k.entry) refl; thrown = inl refl; ending = refl })
      made-counted Mode.Labelled used k = counted-is answer.Going (waiting_with (counted (taken_out mid)) (shape_in session)) k.0 k.1 waited

      wanted : IsCountedTurn mid answer.OutOfMemory mid
      wanted = record { limits = refl; kept = omega arith; atoms = omega arith; turns = (let none : turns_by before.ending answer.OutOfMemory ≡ 0 = ap (λ o. turns_by o answer.OutOfMemory) v.on.going in omega arith); thrown = inl refl; ending = refl }

      by-answer : (mode : Mode) (table : (level node : ℕ) → Bounds) (step : Stepped) (used : ℕ) → Settles mode (outcome_of table step) used mid result now → IsCountedTurn mid result now
      by-answer mode table stepped.Moved used settles = counted-is answer.Going (counted mid) settles.0 settles.1 went-on
      by-answer mode table stepped.Made used (inl settles) = counted-is answer.Going (thrown_one (counted mid)) settles.1.0 settles.1.1 threw
      by-answer mode table stepped.Made used (inr settles) = made-counted mode used settles.1
      by-answer mode table stepped.Overshot used settles = counted-is answer.Going (thrown_one (counted mid)) settles.0 settles.1 threw
      by-answer mode table (stepped.Straddles node cell) used settles = counted-is _ _ settles.0 settles.1 (ended _ refl)
      by-answer mode table stepped.Ended used settles = counted-is _ _ settles.0 settles.1 (ended _ refl)
      by-answer mode table stepped.ReadFault used settles = counted-is _ _ settles.0 settles.1 (ended _ refl)
      by-answer mode table stepped.OutOfMemory used settles = counted-is answer.OutOfMemory mid settles.0 settles.1 wanted

      pub visit-counted : (mode : Mode) (table : (level node : ℕ) → Bounds) (step : Stepped) (used : ℕ) → Settles mode (outcome_of table step) used mid result now → IsCountedTurn before result now
      visit-counted mode table step used settles = let h = by-answer mode table step used settles in record { limits = h.limits; kept = h.kept; atoms = h.atoms; turns = h.turns; thrown = h.thrown; ending = h.ending }

    -- what is left to do may be done
    pub may-settle : (table : (level node : ℕ) → Bounds) (step : Stepped) → Leaves step before.session session → IsIdealAnswer s x step session → MaySettle (outcome_of table step) mid
    may-settle table step leaves ideal = record {
      none_waits = v.no_shape;
      made = none table step leaves;
      size = fits table step leaves ideal;
      kept = let h = few-kept in let l = b.limits in omega arith;
      thrown = let h = b.attempts in let t = few-turns in let l = b.limits in omega arith;
      turns = let t = few-turns in let l = b.limits in omega arith;
      atoms = b.atoms;
    }
      where
        none : (table : (level node : ℕ) → Bounds) (step : Stepped) → Leaves step before.session session → outcome_of table step ≡ outcome.Made → session.pending ≡ []
        none table stepped.Made leaves is = leaves.1
        none table stepped.Moved leaves is = absurd (let no : ⊥ = cc in no)
        none table stepped.Overshot leaves is = absurd (let no : ⊥ = cc in no)
        none table (stepped.Straddles node cell) leaves is = absurd (let no : ⊥ = cc in no)
        none table stepped.Ended leaves is = absurd (let no : ⊥ = cc in no)
        none table stepped.ReadFault leaves is = absurd (let no : ⊥ = cc in no)
        none table stepped.OutOfMemory leaves is = absurd (let no : ⊥ = cc in no)

        fits : (table : (level node : ℕ) → Bounds) (step : Stepped) → Leaves step before.session session → IsIdealAnswer s x step session → outcome_of table step ≡ outcome.Made → size_of session.tokens ≤ 1000000
        fits table stepped.Made leaves ideal is = let h = shape-fits leaves.0.whole ideal in let l = b.limits in omega arith
        fits table stepped.Moved leaves ideal is = absurd (let no : ⊥ = cc in no)
        fits table stepped.Overshot leaves ideal is = absurd (let no : ⊥ = cc in no)
        fits table (stepped.Straddles node cell) leaves ideal is = absurd (let no : ⊥ = cc in no)
        fits table stepped.Ended leaves ideal is = absurd (let no : ⊥ = cc in no)
        fits table stepped.ReadFault leaves ideal is = absurd (let no : ⊥ = cc in no)
        fits table stepped.OutOfMemory leaves ideal is = absurd (let no : ⊥ = cc in no)

  -- the first pending node is one of the specification
  first-below : (n : ℕ) (es : List ℕ) (e : ℕ) → AllBelow n es → slice_get es 0 ≡ Some e → e < n
  first-below n [] e below is = absurd (let no : ⊥ = cc in no)
  first-below n (f ∷ es) e below is = let same : f ≡ e = cc in subst (λ d. d < n) same below.0

  -- a node that was left open is one of the specification, and level 6 is raised for it
  pub open-node : (step : Stepped) (session : SessionState) (start used raised : ℕ) → Draws step before.session session start used → (used ≡ start + 60 → 6 ≤ raised) → IfStraddles step (λ node. (6 ≤ raised) × (node.0 < length s.nodes))
  open-node (stepped.Straddles node cell) session start used raised draws six = (six (let all = draws.all_used in let sixty = draws.bits in omega arith), first-below (length s.nodes) before.session.pending node.0 b.session.attempt.in_range draws.first)
  open-node stepped.Moved session start used raised draws six = tt
  open-node stepped.Made session start used raised draws six = tt
  open-node stepped.Overshot session start used raised draws six = tt
  open-node stepped.Ended session start used raised draws six = tt
  open-node stepped.ReadFault session start used raised draws six = tt
  open-node stepped.OutOfMemory session start used raised draws six = tt

-- a visit that counts no turn is one for which memory was wanting
pub uncounted : (mode : Mode) (going : Option Ending) → going ≡ None → (table : (level node : ℕ) → Bounds) (step : Stepped) (used : ℕ) (before now : DrawingState) (result : Turned) → Settles mode (outcome_of table step) used before result now → turns_by going result ≡ 0 → step ≡ stepped.OutOfMemory
uncounted mode (Some e) is table step used before now result settles none = absurd (let no : ⊥ = cc in no)
uncounted mode None is table step used before now result settles none = by step settles
  where
    counts : (told : Turned) (n : ℕ) → result ≡ told → turns_by None told ≡ suc n → ⊥
    counts told n same one = let e : turns_by None result ≡ turns_by None told = ap (turns_by None) same in omega arith

    kept : (m : Mode) → KeepsOrWaits m (shape_in before.session) used (counted (taken_out before)) result now → ⊥
    kept Mode.Unlabelled k = counts _ 0 k.told refl
    kept Mode.Labelled k = counts _ 0 k.0 refl

    by : (step : Stepped) → Settles mode (outcome_of table step) used before result now → step ≡ stepped.OutOfMemory
    by stepped.Moved settles = absurd (counts _ 0 settles.0 refl)
    by stepped.Made (inl settles) = absurd (counts _ 0 settles.1.0 refl)
    by stepped.Made (inr settles) = absurd (kept mode settles.1)
    by stepped.Overshot settles = absurd (counts _ 0 settles.0 refl)
    by (stepped.Straddles node cell) settles = absurd (counts _ 0 settles.0 refl)
    by stepped.Ended settles = absurd (counts _ 0 settles.0 refl)
    by stepped.ReadFault settles = absurd (counts _ 0 settles.0 refl)
    by stepped.OutOfMemory settles = refl

-- where 60 bits were used, level 6 is raised
pub six-raised : (raised earlier start used : ℕ) → raised ≡ max earlier (level_for (used - start)) → used ≡ start + 60 → 6 ≤ raised
six-raised raised earlier start used is all =
    let sixty : used - start ≡ 60 = omega arith in
    let level : level_for (used - start) ≡ 6 = ap level_for sixty in
    omega arith
