-- Many turns in a row, each of which only visited a node and went on.
use Rattle.std.specs.Prelude.{◌≡◌, ◌≢◌, ℕ, zero, suc, ◌+◌, ◌-◌, ◌≤◌, Bool, Option, None}
use Rattle.bz_model.specs.declared.cell.Bounds.{Bounds}
use Rattle.bz_model.specs.Fraction.{Fraction}
use Rattle.bz_model.specs.Spec.{Spec}
use Rattle.choice_draw.specs.Decision.{level_for}
use Rattle.shape_sampler.specs.State.{SessionState}
use Rattle.size_window.specs.declared.turned.Turned.TheVariants.{Going}
use Rattle.size_window.specs.Drawing.{DrawingState, DrawingBelongs}
use Rattle.size_window.specs.Turn.{IsTurn, IsCountedTurn}

-- One turn that visited a node and went on, over a tape's bits where they are told: what `turn`
-- says of the answer Going. The level of its bits is raised.
pub record IsGoing (s : Spec) (x : Fraction) (F : ℕ) (table : (level node : ℕ) → Bounds)
    (told : Option (ℕ → Option Bool)) (raised : ℕ) (before : DrawingState) (start : ℕ)
    (now : DrawingState) (used : ℕ) : Type 0 where
  pub ending : (before.ending ≡ None) × (now.ending ≡ None)
  pub waiting : before.waiting ≡ None
  pub turn : IsTurn s x F table told before start Going now used
  pub counted : IsCountedTurn before Going now
  pub drawing : DrawingBelongs s x now
  pub from : start ≤ used
  pub few : used ≤ start + 60
  pub level : level_for (used - start) ≤ raised

-- So many turns, one after the other, each of which went on.
abbrev pub Goes : (s : Spec) (x : Fraction) (F : ℕ) (table : (level node : ℕ) → Bounds)
    (told : Option (ℕ → Option Bool)) (raised : ℕ) (turns : ℕ) (before : DrawingState) (start : ℕ)
    (now : DrawingState) (used : ℕ)
    → Type 0
Goes s x F table told raised zero before start now used = (now ≡ before) × (used ≡ start)
Goes s x F table told raised (suc n) before start now used = (mid : DrawingState) × (place : ℕ)
    × Goes s x F table told raised n before start mid place
    × IsGoing s x F table told raised mid place now used

-- A drawing with this session, after so many turns more; all else stays.
abbrev pub gone_on : DrawingState → SessionState → (turns : ℕ) → DrawingState
gone_on d session turns = record d { session = session; turns = d.turns + turns }

-- So many turns may be made ahead: no more than the limit leaves, and none unless the drawing goes
-- on, fewer objects than wanted are kept, and no shape waits for its labels.
pub record MayGoAhead (d : DrawingState) (turns : ℕ) : Type 0 where
  pub within : d.turns + turns ≤ d.limits.turns
  pub going : 1 ≤ turns → d.ending ≡ None
  pub fewer : 1 ≤ turns → d.kept ≢ d.limits.count
  pub no_shape : 1 ≤ turns → d.waiting ≡ None
