-- The search for a start: what ends a call, what follows a start, and that a command has one outcome.
use Rattle.std.proofs.Common.{◌≡◌, ◌≢◌, ℕ, ◌+◌, ◌≤◌, List, [], arith, refl, sym, subst, ◌∙◌}
use Rattle.std.specs.Prelude.{Bool, Option, Some, None}
use Rattle.bz_model.specs.Fraction.{ratio}
use Rattle.bit_tape.specs.Tape.{bits_of_source}
use Rattle.oracle_memo.specs.Levels.{level_bounds_from, cost_at}
use Rattle.oracle_memo.specs.Memos.{Memory}
use Rattle.rounded_map.specs.RoundedMap.{Setting, setting}
use Rattle.size_window.specs.RunByBits.{Limits}
use Rattle.call_stages.specs.Ends.{Output, output, EndsBy}
use Rattle.call_stages.specs.Ends as ends
use Rattle.call_stages.specs.Outcomes.{Outcome, Never, IsOne}
use Rattle.call_stages.specs.Refusals.{no_fast_line}
use Rattle.call_stages.specs.Reports.{refusal_status, refusal_text}
use Rattle.call_stages.specs.declared.report.Refusal.{Refusal}
use Rattle.call_stages.specs.declared.report.Refusal.TheVariants as refusal
use Rattle.call_stages.specs.declared.status.Status.{Status}
use Rattle.call_stages.proofs.Endings.{ends_on, no_front}
use Rattle.call_stages.proofs.Staging.{says-nothing}
use Rattle.sample_command.specs.Drawn.{TapeMet, HasFailed, Drawn, drawn_header}
use Rattle.sample_command.specs.SampleCommand.{DrawnFrom, DrawnOver}
use Rattle.sample_command.specs.Starts.{start_of, format_of, start_ticks, Started}
use Rattle.sample_command.specs.Starts as starts
use Rattle.sample_command.proofs.OneDrawing.{one-drawn}

-- memory ran out in the search
pub start_lacks_memory : (fast : Bool) (t : Setting) (base : List ℕ) (e : Refusal) → e ≡ refusal.OutOfMemory → Started fast t base (λ start. Never) (refusal_status e) (refusal_text e) (start_ticks fast t.bits)
start_lacks_memory fast t base e is = starts.no_memory (says-nothing (start_ticks fast t.bits) e is)

-- a search that ended the call, whatever would have come next
pub ended_by_start : (fast : Bool) (t : Setting) (base : List ℕ) (next : List ℕ → Outcome) (status : Status) (text : List ℕ) (ticks : ℕ) → Started fast t base (λ start. Never) status text ticks → Started fast t base next status text ticks
ended_by_start fast t base next status text ticks (starts.no_fast none says) = starts.no_fast none says
ended_by_start fast t base next status text ticks (starts.no_memory says) = starts.no_memory says
ended_by_start fast t base next status text ticks (starts.started start more is never sum) = absurd never

-- what follows a start ends the call, after the steps of the search
pub ends_from_start : (fast : Bool) (t : Setting) (base : List ℕ) (next : List ℕ → Outcome) (start : List ℕ) (b a : Option (List ℕ)) (fb fa first mid end : ℕ) (result : Status) → start_of fast t base ≡ Some start → mid ≤ first + start_ticks fast t.bits → EndsBy (next start) (output b a fb fa mid end) result → EndsBy (Started fast t base next) (output b a fb fa first end) result
ends_from_start fast t base next start b a fb fa first mid end result is searched h = ends_on (next start) (Started fast t base next) b a fb fa mid end first end result (λ status text ticks p. (start_ticks fast t.bits + ticks, starts.started start ticks is p refl, λ few. omega (arith, searched, few))) h

-- memory ran out after the search
pub lacks_after_start : (fast : Bool) (t : Setting) (base : List ℕ) (next : List ℕ → Outcome) (o : Option (List ℕ)) (fb fa tb ta : ℕ) → ta ≤ tb + start_ticks fast t.bits → EndsBy (Started fast t base next) (output o o fb fa tb ta) Status.OutOfMemory
lacks_after_start fast t base next o fb fa tb ta few = ends.out_of_memory refl (record { text = []; ticks = start_ticks fast t.bits; is = starts.no_memory (record { status_is = refl; text_is = refl; ticks_are = refl }); front = no_front o []; few = few })

-- a drawing by a memo over a base and a start, after the header that states the base
pub drawn_by_memo : (fast : Bool) (t : Setting) (limits : Limits) (tape : TapeMet) (base start header : List ℕ) (m : Memory) (o : Output) (result : Status) → m ≡ record { spec = t.spec; num = t.num; den = t.den; start = start; base = base; raised = 0 } → header ≡ drawn_header (format_of fast) t base limits → EndsBy (Drawn cost_at header t.spec (ratio m.num m.den) t.bits (level_bounds_from (setting m.spec m.num m.den t.bits) m.start m.base) limits tape) o result → EndsBy (DrawnFrom fast t limits tape base start) o result
drawn_by_memo fast t limits tape base start header m o result made head h =
    subst (λ (z : List ℕ). EndsBy (Drawn cost_at z t.spec (ratio t.num t.den) t.bits (level_bounds_from t start base) limits tape) o result) head
    (subst (λ (k : Memory). EndsBy (Drawn cost_at header t.spec (ratio k.num k.den) t.bits (level_bounds_from (setting k.spec k.num k.den t.bits) k.start k.base) limits tape) o result) made h)

-- a search that has a start
pub started-only : (fast : Bool) (t : Setting) (base : List ℕ) (next : List ℕ → Outcome) (start : List ℕ) → start_of fast t base ≡ Some start → (status : Status) (text : List ℕ) (ticks : ℕ) → status ≢ Status.OutOfMemory → Started fast t base next status text ticks → (more : ℕ) × next start status text more
started-only fast t base next start has status text ticks memory (starts.no_fast none says) = absurd (cc)
started-only fast t base next start has status text ticks memory (starts.no_memory says) = absurd (memory says.status_is)
started-only fast t base next start has status text ticks memory (starts.started other more is p sum) = let same : other ≡ start = cc in (more, subst (λ v. next v status text more) same p)

-- and one that has none
pub startless-only : (fast : Bool) (t : Setting) (base : List ℕ) (next : List ℕ → Outcome) → start_of fast t base ≡ None → (status : Status) (text : List ℕ) (ticks : ℕ) → status ≢ Status.OutOfMemory → Started fast t base next status text ticks → (status ≡ Status.NoFast) × (text ≡ no_fast_line t.bits)
startless-only fast t base next none status text ticks memory (starts.no_fast is says) = (says.status_is, says.text_is)
startless-only fast t base next none status text ticks memory (starts.no_memory says) = absurd (memory says.status_is)
startless-only fast t base next none status text ticks memory (starts.started other more is p sum) = absurd (cc)

module _ (fast : Bool) (t : Setting) (base : List ℕ) (next : List ℕ → Outcome) (ones : (start : List ℕ) → IsOne (next start)) (status other : Status) (text others : List ℕ) (ticks more : ℕ) (m : status ≢ Status.OutOfMemory) (n : other ≢ Status.OutOfMemory) where
  started-twice : Started fast t base next status text ticks → Started fast t base next other others more → (status ≡ other) × (text ≡ others)
  started-twice (starts.no_memory says) q = absurd (m says.status_is)
  started-twice (starts.started start k is p sum) q = let r = started-only fast t base next start is other others more n q in (ones start).one status other text others k r.0 m n p r.1
  started-twice (starts.no_fast none says) q =
      let r = startless-only fast t base next none other others more n q in
      (says.status_is ∙ sym r.0, says.text_is ∙ sym r.1)

pub one-started : (fast : Bool) (t : Setting) (base : List ℕ) (next : List ℕ → Outcome) → ((start : List ℕ) → IsOne (next start)) → IsOne (Started fast t base next)
one-started fast t base next ones = record { one = λ status other text others ticks more m n p q. started-twice fast t base next ones status other text others ticks more m n p q }

-- a drawing over a base and a tape that is known, of which no read failed, has one outcome
pub one-drawn-over : (fast : Bool) (t : Setting) (limits : Limits) (tape : TapeMet) (bits : ℕ → Option Bool) → bits_of_source tape.source tape.contents ≡ Some bits → ¬ (HasFailed tape) → (base : List ℕ) → IsOne (DrawnOver fast t limits tape base)
one-drawn-over fast t limits tape bits are_known calm base = one-started fast t base (DrawnFrom fast t limits tape base) (λ start. one-drawn cost_at (drawn_header (format_of fast) t base limits) t.spec (ratio t.num t.den) t.bits (level_bounds_from t start base) limits tape bits are_known calm)
