-- Outcomes of a call: a status, the text that comes with it, and the most steps that it may take.
use Rattle.std.specs.Prelude.{◌≡◌, ◌≢◌, ℕ, ◌≤◌, ◌+◌, List, []}
use Rattle.call_stages.specs.declared.status.Status.{Status}

-- What may come of a call, or of the rest of one: which status, with which text, after at most how
-- many steps. The status OutOfMemory comes with the text that was made until memory ran out.
abbrev pub Outcome : Type 1
Outcome = Status → (text : List ℕ) → (ticks : ℕ) → Type 0

-- This status comes with this text, after at most so many steps.
pub record Says (said : Status) (line : List ℕ) (most : ℕ) (status : Status) (text : List ℕ)
    (ticks : ℕ) : Type 0 where
  pub status_is : status ≡ said
  pub text_is : text ≡ line
  pub ticks_are : ticks ≡ most

-- This status comes with this text, or memory runs out before any of it is written.
pub data MaySay (said : Status) (line : List ℕ) (most : ℕ) (status : Status) (text : List ℕ)
    (ticks : ℕ) : Type 0 where
  says : Says said line most status text ticks → MaySay said line most status text ticks
  no_memory : Says Status.OutOfMemory [] most status text ticks
      → MaySay said line most status text ticks

-- Nothing comes: the call has ended before.
abbrev pub Never : Outcome
Never status text ticks = ⊥

-- An outcome, after no more steps than it may take.
pub record IsWithin (P : Outcome) (status : Status) (text : List ℕ) (ticks_before ticks_after : ℕ)
    : Type 0 where
  pub ticks : ℕ
  pub is : P status text ticks
  pub few : ticks_after ≤ ticks_before + ticks

-- But for want of memory there is one status with one text.
pub record IsOne (P : Outcome) : Type 0 where
  pub one : (status other : Status) (text others : List ℕ) (ticks more : ℕ)
      → status ≢ Status.OutOfMemory → other ≢ Status.OutOfMemory → P status text ticks
      → P other others more → (status ≡ other) × (text ≡ others)
