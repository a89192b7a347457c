-- Many visits in a row, each of which moved on by bits that the tape had read ahead.
use Rattle.std.specs.Prelude.{◌≡◌, ◌≢◌, ℕ, suc, ◌+◌, ◌-◌, ◌<◌, ◌≤◌, Bool, List, [], ◌++◌, replicate}
use Rattle.std.specs.Prelude.{Option, None}
use Rattle.bz_model.specs.declared.cell.Bounds.{Bounds}
use Rattle.bz_model.specs.Fraction.{Fraction}
use Rattle.bz_model.specs.Spec.{Spec}
use Rattle.bit_tape.specs.Tape.{TapeState, BelongsToShelf, bits_of_source}
use Rattle.choice_draw.specs.Decision.{level_for}
use Rattle.object_store.specs.declared.token.Token.TheVariants.{Dot}
use Rattle.shape_sampler.specs.declared.stepped.Stepped.TheVariants.{Moved}
use Rattle.shape_sampler.specs.State.{SessionState, SessionBelongs, Leaves}
use Rattle.shape_sampler.specs.Answer.{Draws, IsVisitByBits}

-- One visit that moved on, over a tape's bits where they are told: what `step` says of the answer
-- Moved. The level of its bits is raised.
pub record IsMove (s : Spec) (x : Fraction) (f : ℕ) (table : (level node : ℕ) → Bounds)
    (told : Option (ℕ → Option Bool)) (raised : ℕ) (before : SessionState) (start : ℕ)
    (now : SessionState) (used : ℕ) : Type 0 where
  pub going : before.stopped ≡ None
  pub pending : before.pending ≢ []
  pub leaves : Leaves Moved before now
  pub draws : Draws Moved before now start used
  pub exact : IsVisitByBits s f table told before start Moved now used
  pub session : SessionBelongs s x now
  pub from : start ≤ used
  pub few : used ≤ start + 60
  pub level : level_for (used - start) ≤ raised

-- So many visits, one after the other, each of which moved on.
pub data AreMoves (s : Spec) (x : Fraction) (f : ℕ) (table : (level node : ℕ) → Bounds)
    (told : Option (ℕ → Option Bool)) (raised : ℕ) : (n : ℕ) → (before : SessionState)
    → (start : ℕ) → (now : SessionState) → (used : ℕ) → Type 0 where
  still : {before now : SessionState} {start used : ℕ} → now ≡ before → used ≡ start
      → AreMoves s x f table told raised 0 before start now used
  further : {n : ℕ} {before mid now : SessionState} {start place used : ℕ}
      → AreMoves s x f table told raised n before start mid place
      → IsMove s x f table told raised mid place now used
      → AreMoves s x f table told raised (suc n) before start now used

-- So many first pending nodes, each of which is e, were taken away as atoms: each added its token and
-- took one of the room, and other nodes are pending after them.
pub record TakesAtoms (e k : ℕ) (before now : SessionState) : Type 0 where
  pub root : now.root ≡ before.root
  pub whole : now.whole ≡ before.whole
  pub pending : before.pending ≡ replicate k e ++ now.pending
  pub waits : 0 < k → now.pending ≢ []
  pub tokens : now.tokens ≡ before.tokens ++ replicate k Dot
  pub cells : now.cells ≡ before.cells
  pub enough : k ≤ before.room
  pub room : now.room ≡ before.room - k
  pub stopped : now.stopped ≡ before.stopped

-- What visits that moved on leave, over every shelf that the tape belongs to: so many moves were
-- made, the session goes on, and the tape still belongs.
pub record MovesOn (s : Spec) (x : Fraction) (f : ℕ) (table : (level node : ℕ) → Bounds)
    (raised : ℕ) (n : ℕ) (before : SessionState) (tape : TapeState) (now : SessionState)
    (tape_now : TapeState) : Type 0 where
  pub moves : (contents : List ℕ → Option (List ℕ)) → BelongsToShelf contents tape
      → AreMoves s x f table (bits_of_source tape.source contents) raised n before tape.used now
      tape_now.used
  pub session : SessionBelongs s x now
  pub running : now.stopped ≡ None
  pub whole : now.whole ≡ before.whole
  pub root : now.root ≡ before.root
  pub source : tape_now.source ≡ tape.source
  pub used : tape.used ≤ tape_now.used
  pub belongs : (contents : List ℕ → Option (List ℕ)) → BelongsToShelf contents tape
      → BelongsToShelf contents tape_now
