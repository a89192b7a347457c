-- How calls end: from what a report or a refusal wrote to what the call may write.
use Rattle.std.proofs.Common.{◌≡◌, ◌≢◌, ℕ, ◌+◌, ◌≤◌, ◌⊎◌, inl, inr, List, [], ◌++◌, length, take, refl, sym, ap, subst, ◌∙◌, arith, append-nil}
use Rattle.std.specs.Prelude.{Option, Some, None, option_map}
use Rattle.bz_outside.specs.Outside.{Rose, Appends, AppendsFront}
use Rattle.call_stages.specs.Ends.{Output, output, IsWritten, IsBegun, EndsBy, IsHeld}
use Rattle.call_stages.specs.Ends as ends
use Rattle.call_stages.specs.Outcomes.{Outcome, Says, MaySay, IsOne}
use Rattle.call_stages.specs.Outcomes as outcomes
use Rattle.call_stages.specs.declared.status.Status.{Status}
use Rattle.call_stages.specs.declared.status.Status.TheVariants as variants

-- the whole text was written, or a prefix of it
pub was_written : (status : Status) (text : List ℕ) (b a : Option (List ℕ)) (fb fa : ℕ) → Appends b a text → EndsBy (Says status text 0) (output b a fb fa 0 0) status
was_written status text b a fb fa h = ends.whole (record { text = text; ticks = 0; is = record { status_is = refl; text_is = refl; ticks_are = refl }; appends = h; few = omega arith })

-- A call of which a write failed and only a front of a text was written ends as one that says that
-- text, with the status of a failed write.
pub write_failed : (status : Status) (text : List ℕ) (b a : Option (List ℕ)) (fb fa : ℕ) → AppendsFront b a text → Rose fb fa → EndsBy (Says status text 0) (output b a fb fa 0 0) Status.WriteFault
write_failed status text b a fb fa h rose = ends.write_failed status refl rose (record { text = text; ticks = 0; is = record { status_is = refl; text_is = refl; ticks_are = refl }; front = h; few = omega arith })

-- nothing was written
appends-nothing : (o : Option (List ℕ)) → o ≡ option_map (λ written. written ++ []) o
appends-nothing None = refl
appends-nothing (Some written) = ap Some (sym (append-nil written))

-- A sink that is as it was before has been given a front of any text, namely the empty one.
pub no_front : (o : Option (List ℕ)) (text : List ℕ) → AppendsFront o o text
no_front o text = record { count = 0; within = omega arith; front = record { told = appends-nothing o } }

pub nothing_written : (o : Option (List ℕ)) (fb fa : ℕ) → EndsBy (Says Status.OutOfMemory [] 0) (output o o fb fa 0 0) Status.OutOfMemory
nothing_written o fb fa = ends.out_of_memory refl (record { text = []; ticks = 0; is = record { status_is = refl; text_is = refl; ticks_are = refl }; front = no_front o []; few = omega arith })

-- what was said is an outcome
is-said : (P : Outcome) (said status : Status) (text line : List ℕ) (ticks none : ℕ) → P said line ticks → Says said line 0 status text none → P status text ticks
is-said P said status text line ticks none p says = subst (λ k. P k text ticks) (sym says.status_is) (subst (λ z. P said z ticks) (sym says.text_is) p)

-- what a report or a refusal wrote is written of the outcome that it is
pub written_on : (P : Outcome) (b a : Option (List ℕ)) (fb fa tb ta : ℕ) (result said : Status) (text : List ℕ) (ticks : ℕ) → EndsBy (Says said text 0) (output b a fb fa 0 0) result → P said text ticks → ta ≤ tb + ticks → EndsBy P (output b a fb fa tb ta) result
written_on P b a fb fa tb ta result said text ticks (ends.whole h) p few = ends.whole (record { text = h.text; ticks = ticks; is = is-said P said result h.text text ticks h.ticks p h.is; appends = h.appends; few = few })
written_on P b a fb fa tb ta result said text ticks (ends.out_of_memory e h) p few = ends.out_of_memory e (record { text = h.text; ticks = ticks; is = is-said P said Status.OutOfMemory h.text text ticks h.ticks p h.is; front = h.front; few = few })
written_on P b a fb fa tb ta result said text ticks (ends.write_failed status e rose h) p few = ends.write_failed status e rose (record { text = h.text; ticks = ticks; is = is-said P said status h.text text ticks h.ticks p h.is; front = h.front; few = few })

-- outcomes that are others, after more steps
begun-on : (P Q : Outcome) (b a : Option (List ℕ)) (fb fa tb ta sb sa : ℕ) (status : Status) → ((text : List ℕ) (ticks : ℕ) → P status text ticks → (more : ℕ) × Q status text more × (ta ≤ tb + ticks → sa ≤ sb + more)) → IsBegun P (output b a fb fa tb ta) status → IsBegun Q (output b a fb fa sb sa) status
begun-on P Q b a fb fa tb ta sb sa status on h = let q = on h.text h.ticks h.is in record { text = h.text; ticks = q.0; is = q.1; front = h.front; few = q.2 h.few }

-- A call that ends by outcomes P ends by outcomes Q, where each outcome of P is one of Q with the
-- same status and text, and its step bound carries over.
pub ends_on : (P Q : Outcome) (b a : Option (List ℕ)) (fb fa tb ta sb sa : ℕ) (result : Status) → ((status : Status) (text : List ℕ) (ticks : ℕ) → P status text ticks → (more : ℕ) × Q status text more × (ta ≤ tb + ticks → sa ≤ sb + more)) → EndsBy P (output b a fb fa tb ta) result → EndsBy Q (output b a fb fa sb sa) result
ends_on P Q b a fb fa tb ta sb sa result on (ends.whole h) = let q = on result h.text h.ticks h.is in ends.whole (record { text = h.text; ticks = q.0; is = q.1; appends = h.appends; few = q.2 h.few })
ends_on P Q b a fb fa tb ta sb sa result on (ends.out_of_memory e h) = ends.out_of_memory e (begun-on P Q b a fb fa tb ta sb sa Status.OutOfMemory (on Status.OutOfMemory) h)
ends_on P Q b a fb fa tb ta sb sa result on (ends.write_failed status e rose h) = ends.write_failed status e rose (begun-on P Q b a fb fa tb ta sb sa status (on status) h)

-- outcomes that are others, after as many steps
pub ends_as : (P Q : Outcome) (b a : Option (List ℕ)) (fb fa tb ta : ℕ) (result : Status) → ((status : Status) (text : List ℕ) (ticks : ℕ) → P status text ticks → Q status text ticks) → EndsBy P (output b a fb fa tb ta) result → EndsBy Q (output b a fb fa tb ta) result
ends_as P Q b a fb fa tb ta result on h = ends_on P Q b a fb fa tb ta tb ta result (λ status text ticks p. (ticks, on status text ticks p, λ few. few)) h

-- a call that has one outcome ends with it, but for want of memory and a failed write
from-written : (P : Outcome) (o : Output) (result status : Status) (text : List ℕ) (ticks : ℕ) → IsOne P → P status text ticks → status ≢ Status.OutOfMemory → IsWritten P o result → result ≢ Status.OutOfMemory → (result ≡ status) × Appends o.before o.after text
from-written P o result status text ticks one p ends_whole h memory =
    let same = one.one result status h.text text h.ticks ticks memory ends_whole h.is p in
    (same.0, subst (Appends o.before o.after) same.1 h.appends)

lacks-memory : (status : Status) → (status ≡ Status.OutOfMemory) ⊎ (status ≢ Status.OutOfMemory)
lacks-memory variants.OutOfMemory = inl refl
lacks-memory variants.Done = inr (λ e. absurd (cc))
lacks-memory variants.WordsRefused = inr (λ e. absurd (cc))
lacks-memory variants.SpecRefused = inr (λ e. absurd (cc))
lacks-memory variants.NoUpper = inr (λ e. absurd (cc))
lacks-memory variants.TapeEnded = inr (λ e. absurd (cc))
lacks-memory variants.Undecided = inr (λ e. absurd (cc))
lacks-memory variants.TurnLimit = inr (λ e. absurd (cc))
lacks-memory variants.ReadFault = inr (λ e. absurd (cc))
lacks-memory variants.WriteFault = inr (λ e. absurd (cc))
lacks-memory variants.CertRefused = inr (λ e. absurd (cc))
lacks-memory variants.NoFast = inr (λ e. absurd (cc))
lacks-memory variants.PointRefused = inr (λ e. absurd (cc))
lacks-memory variants.ObjectRefused = inr (λ e. absurd (cc))
lacks-memory variants.RankRefused = inr (λ e. absurd (cc))

-- With one possible outcome and no failed write, a call ends with that status and its whole text
-- written, or else for want of memory.
pub exact : (P : Outcome) (o : Output) (result status : Status) (text : List ℕ) (ticks : ℕ) → IsOne P → EndsBy P o result → P status text ticks → status ≢ Status.OutOfMemory → ¬ (Rose o.faults_before o.faults_after) → (result ≡ Status.OutOfMemory) ⊎ ((result ≡ status) × Appends o.before o.after text)
exact P o result status text ticks one (ends.whole h) p memory fine = go (lacks-memory result)
  where
    go : (result ≡ Status.OutOfMemory) ⊎ (result ≢ Status.OutOfMemory) → (result ≡ Status.OutOfMemory) ⊎ ((result ≡ status) × Appends o.before o.after text)
    go (inl e) = inl e
    go (inr ne) = inr (from-written P o result status text ticks one p memory h ne)
exact P o result status text ticks one (ends.out_of_memory e h) p memory fine = inl e
exact P o result status text ticks one (ends.write_failed other e rose h) p memory fine = absurd (fine rose)

-- a call in which no write failed ends for want of memory, or with an outcome whose whole text was written
pub ended_whole : (P : Outcome) (o : Output) (result : Status) → EndsBy P o result → ¬ (Rose o.faults_before o.faults_after) → (result ≡ Status.OutOfMemory) ⊎ ((result ≢ Status.OutOfMemory) × IsWritten P o result)
ended_whole P o result (ends.whole h) fine = go (lacks-memory result)
  where
    go : (result ≡ Status.OutOfMemory) ⊎ (result ≢ Status.OutOfMemory) → (result ≡ Status.OutOfMemory) ⊎ ((result ≢ Status.OutOfMemory) × IsWritten P o result)
    go (inl e) = inl e
    go (inr ne) = inr (ne, h)
ended_whole P o result (ends.out_of_memory e h) fine = inl e
ended_whole P o result (ends.write_failed other e rose h) fine = absurd (fine rose)

-- a text that may be said was written, or memory ran out before
pub said_written : (said : Status) (line text : List ℕ) (most : ℕ) (b a : Option (List ℕ)) (fb fa tb ta : ℕ) (result : Status) → EndsBy (Says said text 0) (output b a fb fa 0 0) result → text ≡ line → ta ≤ tb + most → EndsBy (MaySay said line most) (output b a fb fa tb ta) result
said_written said line text most b a fb fa tb ta result h same few = written_on (MaySay said line most) b a fb fa tb ta result said text most h (outcomes.says (record { status_is = refl; text_is = same; ticks_are = refl })) few

-- A call that wrote nothing and ran out of memory ends as one that may say the line, where it took
-- no more steps than allowed.
pub not_said : (said : Status) (line : List ℕ) (most : ℕ) (o : Option (List ℕ)) (fb fa tb ta : ℕ) → ta ≤ tb + most → EndsBy (MaySay said line most) (output o o fb fa tb ta) Status.OutOfMemory
not_said said line most o fb fa tb ta few = ends.out_of_memory refl (record { text = []; ticks = most; is = outcomes.no_memory (record { status_is = refl; text_is = refl; ticks_are = refl }); front = no_front o []; few = few })
