-- A turn that visits a node, from what each call did to the drawing, which was as it stands in `seen`.
use Rattle.std.proofs.Common.{◌≡◌, ◌≢◌, ℕ, ◌≤◌, Bool, Option, None, sym, subst}
use Rattle.bz_model.specs.declared.cell.Bounds.{Bounds}
use Rattle.bz_model.specs.Fraction.{Fraction}
use Rattle.bz_model.specs.Spec.{Spec, Mode}
use Rattle.shape_sampler.specs.declared.stepped.Stepped.{Stepped}
use Rattle.shape_sampler.specs.State.{SessionState, SessionBelongs, Leaves}
use Rattle.shape_sampler.specs.Answer.{IsVisitByBits, IsIdealAnswer, Draws}
use Rattle.size_window.specs.declared.turned.Turned.{Turned}
use Rattle.size_window.specs.declared.turned.Turned.TheVariants as answer
use Rattle.size_window.specs.declared.turned.Outcome.{Outcome}
use Rattle.size_window.specs.Drawing.{DrawingState, DrawingBelongs}
use Rattle.size_window.specs.Turn.{IsTurn, IsCountedTurn, Settles, outcome_of, MaySettle, IfKept, IsNextKept, EntryHasLabels}
use Rattle.size_window.proofs.Settling.{visit-turn}
use Rattle.size_window.proofs.Belonging.{Visits, visit-belongs, visit-kept, visit-labels, visit-counted, may-settle}

module _ (s : Spec) (x : Fraction) (before seen : DrawingState) (same : seen ≡ before) (b : DrawingBelongs s x before) (v : Visits before) (session : SessionState) (belongs : SessionBelongs s x session) (step : Stepped) (left : seen.session.stopped ≡ None → Leaves step seen.session session) (ideal : IsIdealAnswer s x step session) (table : (level node : ℕ) → Bounds) where
  pub belongs-seen : DrawingBelongs s x seen
  belongs-seen = subst (DrawingBelongs s x) (sym same) b

  visits-seen : Visits seen
  visits-seen = subst Visits (sym same) v

  pub runs-seen : seen.session.stopped ≡ None
  runs-seen = belongs-seen.runs visits-seen.on.going

  pub may-settle-seen : (o : Outcome) → o ≡ outcome_of table step → MaySettle o (record seen { session = session })
  may-settle-seen o is = subst (λ p. MaySettle p (record seen { session = session })) (sym is) (may-settle s x seen belongs-seen visits-seen session belongs table step (left runs-seen) ideal)

  module _ (mode : Mode) (is_mode : s.mode ≡ mode) (o : Outcome) (is : o ≡ outcome_of table step) (used : ℕ) (result : Turned) (now : DrawingState) (settled : Settles mode o used (record seen { session = session }) result now) where
    settles : Settles mode (outcome_of table step) used (record seen { session = session }) result now
    settles = subst (λ p. Settles mode p used (record seen { session = session }) result now) is settled

    pub belongs-then : DrawingBelongs s x now
    belongs-then = visit-belongs s x seen belongs-seen visits-seen session belongs mode is_mode table step used result now (left runs-seen) ideal settles

    pub kept-then : IfKept result (IsNextKept before.limits before.kept used)
    kept-then = subst (λ (d : DrawingState). IfKept result (IsNextKept d.limits d.kept used)) same (visit-kept s x seen belongs-seen visits-seen session belongs mode table step used result now (left runs-seen) ideal settles)

    pub labels-then : IfKept result (EntryHasLabels s.mode)
    labels-then = visit-labels s x seen belongs-seen visits-seen session belongs mode table is_mode step used result now settles

    pub counted-then : IsCountedTurn before result now
    counted-then = subst (λ d. IsCountedTurn d result now) same (visit-counted s x seen belongs-seen visits-seen session belongs result now mode table step used settles)

    pub turn-then : (F : ℕ) → (bits : Option (ℕ → Option Bool)) (start : ℕ) → start ≤ used → (seen.session.stopped ≡ None → Draws step seen.session session start used) → (seen.session.stopped ≡ None → IsVisitByBits s F table bits seen.session start step session used) → result ≢ answer.OutOfMemory → IsTurn s x F table bits before start result now used
    turn-then F bits start le draws exact ne =
        subst (λ d. IsTurn s x F table bits d start result now used) same
        (visit-turn s x F table bits seen belongs-seen start visits-seen.on visits-seen.no_shape visits-seen.some session used mode is_mode step result now le (left runs-seen) (draws runs-seen) ideal (exact runs-seen) settles ne)
