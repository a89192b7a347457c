-- How a call ends: what was written, and after how many steps.
use Rattle.std.specs.Prelude.{◌≡◌, ℕ, ◌+◌, ◌≤◌, List, ◌++◌, Option}
use Rattle.bz_outside.specs.Outside.{Rose, Appends, AppendsFront}
use Rattle.call_stages.specs.Outcomes.{Outcome}
use Rattle.call_stages.specs.declared.status.Status.{Status}

-- What a sink tells before a call and after it, with its counts of failed writes, and the steps
-- taken before the call and after it.
pub record Output : Type 0 where
  pub before : Option (List ℕ)
  pub after : Option (List ℕ)
  pub faults_before : ℕ
  pub faults_after : ℕ
  pub ticks_before : ℕ
  pub ticks_after : ℕ

abbrev pub output : (before after : Option (List ℕ))
    (faults_before faults_after ticks_before ticks_after : ℕ) → Output
output before after faults_before faults_after ticks_before ticks_after =
    record {
      before = before;
      after = after;
      faults_before = faults_before;
      faults_after =
          faults_after;
      ticks_before = ticks_before;
      ticks_after = ticks_after;
    }

-- The whole text of an outcome was written, after no more steps than it may take.
pub record IsWritten (P : Outcome) (o : Output) (status : Status) : Type 0 where
  pub text : List ℕ
  pub ticks : ℕ
  pub is : P status text ticks
  pub appends : Appends o.before o.after text
  pub few : o.ticks_after ≤ o.ticks_before + ticks

-- A prefix of the text of an outcome was written, after no more steps than it may take.
pub record IsBegun (P : Outcome) (o : Output) (status : Status) : Type 0 where
  pub text : List ℕ
  pub ticks : ℕ
  pub is : P status text ticks
  pub front : AppendsFront o.before o.after text
  pub few : o.ticks_after ≤ o.ticks_before + ticks

-- A call ends with an outcome whose whole text was written; or memory ran out, and a prefix was
-- written of the text made until then; or a write failed in the call, and a prefix of an outcome's
-- text was written.
pub data EndsBy (P : Outcome) (o : Output) (result : Status) : Type 0 where
  whole : IsWritten P o result → EndsBy P o result
  out_of_memory : result ≡ Status.OutOfMemory → IsBegun P o Status.OutOfMemory → EndsBy P o result
  write_failed : (status : Status) → result ≡ Status.WriteFault
      → Rose o.faults_before o.faults_after → IsBegun P o status → EndsBy P o result

-- Of a text a part was sent to a sink, and the rest is held back.
pub record IsHeld (before now : Option (List ℕ)) (held text : List ℕ) : Type 0 where
  pub sent : List ℕ
  pub appends : Appends before now sent
  pub text_is : text ≡ sent ++ held
