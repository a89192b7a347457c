-- The command has one outcome.
use Rattle.std.proofs.Common.{◌≡◌, ◌≢◌, ℕ, List, refl, sym, ap, ◌∙◌}
use Rattle.std.specs.Prelude.{Some}
use Rattle.bz_model.specs.Fraction.{ratio}
use Rattle.bit_tape.specs.Bits.{seed_bit}
use Rattle.newton_upper.specs.BaseRule.{base_of}
use Rattle.oracle_memo.specs.Levels.{level_bounds}
use Rattle.rounded_map.specs.RoundedMap.{Setting, setting}
use Rattle.size_window.specs.RunByBits.{Course, Ending}
use Rattle.call_stages.specs.Outcomes.{IsOne}
use Rattle.call_stages.specs.Stages.{IsAccepted, Based}
use Rattle.call_stages.specs.declared.status.Status.{Status}
use Rattle.call_stages.proofs.OneReading.{one-judged, one-based, judged-only, based-only}
use Rattle.bz_model.specs.WellFounded.{IsWellFounded}
use Rattle.sample_command.specs.Drawn.{ending_status}
use Rattle.sample_command.proofs.OneDrawing.{same-course, one-course}
use Rattle.bulk_command.specs.BulkText.{bulk_text}
use Rattle.bulk_command.specs.BulkTables.{bulk_tables}
use Rattle.bulk_command.specs.BulkCommand.{bulk_limits, bulk_tape, bulk_course, course_line, BulkDrawn, CarriesBulk}
use Rattle.bulk_command.specs.BulkCommand as bulk

module _ (n : ℕ) (t : Setting) (base : List ℕ) (status other : Status) (text others : List ℕ) (ticks more : ℕ) (m : status ≢ Status.OutOfMemory) (k : other ≢ Status.OutOfMemory) where
  drawn-twice : BulkDrawn n t base status text ticks → BulkDrawn n t base other others more → (status ≡ other) × (text ≡ others)
  drawn-twice (bulk.so_far course given h says) q = absurd (m says.status_is)
  drawn-twice (bulk.no_memory says) q = absurd (m says.status_is)
  drawn-twice (bulk.ended c given d h says) (bulk.so_far course given_too j says_too) = absurd (k says_too.status_is)
  drawn-twice (bulk.ended c given d h says) (bulk.no_memory says_too) = absurd (k says_too.status_is)
  drawn-twice (bulk.ended c given d h says) (bulk.ended e given_too f j says_too) =
      let same = one-course t.spec (ratio t.num t.den) t.bits (level_bounds t base) (bulk_limits n) (bulk_tape n) (seed_bit n) refl (λ failed. failed) c e given given_too d f h j in (
        says.status_is ∙ ap ending_status same.1 ∙ sym says_too.status_is,
        says.text_is ∙ ap (λ (z : Course). course_line n z d) same.0 ∙ ap (course_line n e) same.1 ∙ sym says_too.text_is,
      )

-- a run over a base
one-run : (n : ℕ) (t : Setting) (base : List ℕ) → IsOne (BulkDrawn n t base)
one-run n t base = record { one = λ status other text others ticks more m k p q. drawn-twice n t base status other text others ticks more m k p q }

-- the command
pub one-bulk : (n F : ℕ) → IsOne (CarriesBulk n F)
one-bulk n F = one-judged (λ s. Based (setting s 3 16 F) (BulkDrawn n (setting s 3 16 F))) (bulk_text n) (λ s. one-based (setting s 3 16 F) (BulkDrawn n (setting s 3 16 F)) (λ base. one-run n (setting s 3 16 F) base))

-- the specification of a number is accepted, so that what comes of the command comes of its tables
pub bulk-only : (n F : ℕ) → IsAccepted (bulk_text n) (bulk_tables n) → IsWellFounded (bulk_tables n) → (status : Status) (text : List ℕ) (ticks : ℕ) → status ≢ Status.OutOfMemory → CarriesBulk n F status text ticks → Based (setting (bulk_tables n) 3 16 F) (BulkDrawn n (setting (bulk_tables n) 3 16 F)) status text ticks
bulk-only n F accepted founded status text ticks memory h = judged-only (λ s. Based (setting s 3 16 F) (BulkDrawn n (setting s 3 16 F))) (bulk_text n) (bulk_tables n) accepted founded status text ticks memory h

-- where there is a base, a course over the seed's bits that comes to its end is the one of which the line tells
run-only : (n : ℕ) (t : Setting) (base : List ℕ) (turns : ℕ) (e : Ending) → (bulk_course n t base turns).state.ending ≡ Some e → (status : Status) (text : List ℕ) (ticks : ℕ) → status ≢ Status.OutOfMemory → BulkDrawn n t base status text ticks → (status ≡ ending_status e) × (text ≡ course_line n (bulk_course n t base turns) e)
run-only n t base turns e at status text ticks memory (bulk.so_far course given h says) = absurd (memory says.status_is)
run-only n t base turns e at status text ticks memory (bulk.no_memory says) = absurd (memory says.status_is)
run-only n t base turns e at status text ticks memory (bulk.ended c given d h says) =
    let quiet = bulk_course n t base turns in
    let same = same-course t.spec (ratio t.num t.den) t.bits (level_bounds t base) (bulk_limits n) (bulk_tape n) (seed_bit n) refl (λ failed. failed) c given d h turns e at in (
      says.status_is ∙ ap ending_status same.1,
      says.text_is ∙ ap (λ (z : Course). course_line n z d) same.0 ∙ ap (course_line n quiet) same.1,
    )

-- If the run of n over its base at 3/16 ends after some turns, the bulk command gives that ending's
-- status and the line of that run, unless memory runs out.
pub drawn-only : (n F : ℕ) → IsAccepted (bulk_text n) (bulk_tables n) → IsWellFounded (bulk_tables n) → (base : List ℕ) → base_of (setting (bulk_tables n) 3 16 F) ≡ Some base → (turns : ℕ) (e : Ending) → (bulk_course n (setting (bulk_tables n) 3 16 F) base turns).state.ending ≡ Some e → (status : Status) (text : List ℕ) (ticks : ℕ) → status ≢ Status.OutOfMemory → CarriesBulk n F status text ticks → (status ≡ ending_status e) × (text ≡ course_line n (bulk_course n (setting (bulk_tables n) 3 16 F) base turns) e)
drawn-only n F accepted founded base has turns e at status text ticks memory h =
    let t = setting (bulk_tables n) 3 16 F in
    let run = based-only t (BulkDrawn n t) base has status text ticks memory (bulk-only n F accepted founded status text ticks memory h) in
    run-only n t base turns e at status text run.0 memory run.1
