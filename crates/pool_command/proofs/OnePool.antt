-- A pool over tapes that are known, of which no read failed, has one outcome; two schedules differ in the order alone.
use Rattle.std.proofs.Common.{◌≡◌, ◌≢◌, ℕ, zero, suc, ◌+◌, ◌%◌, ◌<◌, ◌≤◌, ◌⊎◌, arith, List, [], ◌∷◌, ◌++◌, length, refl, sym, ap, subst, ◌∙◌}
use Rattle.std.specs.Prelude.{Bool, true, false, Option, Some, option_map, slice_get, get_or, nat_eq, replicate, if◌then◌else◌}
use Rattle.std.proofs.lemmas.Option.{slice_get-get_or}
use Rattle.bz_model.specs.Fraction.{ratio}
use Rattle.bz_model.specs.declared.fraction.Fraction.{Fraction}
use Rattle.bz_outside.specs.Outside.{Rose, Appends}
use Rattle.bit_tape.specs.Bits.{file_bit}
use Rattle.bit_tape.specs.Tape.{TapeSource, CountsFault}
use Rattle.bit_tape.proofs.Leaving.{fault-rose}
use Rattle.rounded_map.specs.RoundedMap.{setting}
use Rattle.size_window.specs.RunByBits.{Course}
use Rattle.size_window.specs.Drawing.{limits_of}
use Rattle.size_window.specs.declared.limits.Limits.{Limits}
use Rattle.call_stages.specs.Ends.{output, EndsBy}
use Rattle.certificate.specs.Lines.{version_line}
use Rattle.call_stages.specs.Outcomes.{IsOne}
use Rattle.call_stages.specs.Stages.{Files, IsCalm, AreCalm, Based}
use Rattle.call_stages.specs.declared.status.Status.{Status}
use Rattle.call_stages.proofs.Endings as endings
use Rattle.call_stages.proofs.OneReading.{one-read, one-specified, one-based}
use Rattle.sample_command.specs.Drawn.{HasFailed, ended_by_fault, IsDrawn, ending_status, closing_text, drawn_header}
use Rattle.sample_command.specs.UnderWay.{met}
use Rattle.sample_command.proofs.OneDrawing.{one-course, one-list}
use Rattle.session_pool.specs.Interleaving.{how_often}
use Rattle.pool_command.specs.Schedules.{AreOverOne}
use Rattle.pool_command.specs.Schedule.{drawings_named, all_asked, ends_now, ends_in, order_of, asks_to_end}
use Rattle.pool_command.specs.PoolCommand.{PoolSetting, PoolDrawing, IsDrawnIn, AreDrawnIn, PoolDrawn, PooledOver, CarriesPool, pool_of, table_of, first_of, first_status, session_line, session_lines, drawings_text, order_line, pool_end_line, asks_of}
use Rattle.pool_command.specs.PoolCommand as pooled
use Rattle.pool_command.proofs.Appending.{below-alike}
use Rattle.pool_command.proofs.Orders.{asked-alike}

-- Drawings print the same.
pub record ArePrintedAlike (d e : PoolDrawing) : Type 0 where
  pub course : d.so_far.course ≡ e.so_far.course
  pub ending : d.ending ≡ e.ending
  pub lines : d.lines ≡ e.lines

-- where a drawing that isn't disturbed met its tape doesn't matter
never-failed : (before now first last : ℕ) → first ≤ before → now ≤ last → ¬ (Rose first last) → ¬ (Rose before now)
never-failed before now first last since until calm rose = calm (omega (arith, since, until, rose))

never-at-all : (first last middle : ℕ) → first ≤ middle → middle ≤ last → ¬ (Rose first last) → ¬ (Rose first first)
never-at-all first last middle since until calm rose = calm (omega (arith, since, until, rose))

module _ (p : PoolSetting) (f : Files) (name : List ℕ) (calm : IsCalm f name) where
  quiet-counts : (d : PoolDrawing) (h : IsDrawnIn p f name d) (b : Bool) → ended_by_fault d.so_far.course.state.ending ≡ b → b ≡ false
  quiet-counts d h false is = refl
  quiet-counts d h true is = absurd (never-failed (h.before name) (h.now name) (f.before name) (f.after name) (h.moments.since name) (h.moments.until name) calm.unfailed (fault-rose (TapeSource.Named name) h.before h.now (subst (λ b. CountsFault b (TapeSource.Named name) h.before h.now) is h.drawn.course.reads)))

  quiet : (d : PoolDrawing) (h : IsDrawnIn p f name d) → ended_by_fault d.so_far.course.state.ending ≡ false
  quiet d h = quiet-counts d h (ended_by_fault d.so_far.course.state.ending) refl

  moved : (d : PoolDrawing) → IsDrawnIn p f name d → IsDrawn p.setting.spec (ratio p.setting.num p.setting.den) p.setting.bits (table_of p) p.limits (met (TapeSource.Named name) f.content f.before f.before) d.so_far.course d.so_far.most d.ending
  moved d h = record {
    course = record {
      follows = h.drawn.course.follows;
      given = h.drawn.course.given;
      gave = h.drawn.course.gave;
      ends = h.drawn.course.ends;
      spells = h.drawn.course.spells;
      turns = h.drawn.course.turns;
      faults = h.drawn.course.faults;
      exact = h.drawn.course.exact;
      disturbed = h.drawn.course.disturbed;
      reads = subst (λ b. CountsFault b (TapeSource.Named name) f.before f.before) (sym (quiet d h)) refl;
    };
    ended = h.drawn.ended;
    kept = h.drawn.kept;
    out_of_turns = h.drawn.out_of_turns;
    used_up = h.drawn.used_up;
  }

  still : (d : PoolDrawing) (h : IsDrawnIn p f name d) → ¬ (HasFailed (met (TapeSource.Named name) f.content f.before f.before))
  still d h =
      let same : h.now ≡ h.before = subst (λ b. CountsFault b (TapeSource.Named name) h.before h.now) (quiet d h) h.drawn.course.reads in
      never-at-all (f.before name) (f.after name) (h.before name) (h.moments.since name) (subst (λ (k : List ℕ → ℕ). k name ≤ f.after name) same (h.moments.until name)) calm.unfailed

  -- two drawings over a tape
  pub one-each : (d e : PoolDrawing) → IsDrawnIn p f name d → IsDrawnIn p f name e → ArePrintedAlike d e
  one-each d e h k =
      let same = one-course p.setting.spec (ratio p.setting.num p.setting.den) p.setting.bits (table_of p) p.limits (met (TapeSource.Named name) f.content f.before f.before) (file_bit calm.bytes) (ap (option_map file_bit) calm.known) (still d h) d.so_far.course e.so_far.course d.so_far.most e.so_far.most d.ending e.ending (moved d h) (moved e k) in
      record {
        course = same.0;
        ending = same.1;
        lines = one-list p.setting.spec d.so_far.course.entries e.so_far.course.entries d.lines e.lines (ap (λ (c : Course). c.entries) same.0) h.lists k.lists;
      }

-- each of some files is calm
calm-at : (f : Files) (names : List (List ℕ)) (i : ℕ) (name : List ℕ) → AreCalm f names → slice_get names i ≡ Some name → IsCalm f name
calm-at f [] i name calm at = absurd (cc)
calm-at f (n ∷ names) zero name calm at = let same : n ≡ name = cc in subst (IsCalm f) same calm.0
calm-at f (n ∷ names) (suc i) name calm at = calm-at f names i name calm.1 at

module _ (p : PoolSetting) (f : Files) (tapes : List (List ℕ)) (d e : ℕ → PoolDrawing) (h : AreDrawnIn p f tapes d) (k : AreDrawnIn p f tapes e) (calm : AreCalm f tapes) where
  pub all-alike : (i : ℕ) → i < length tapes → ArePrintedAlike (d i) (e i)
  all-alike i few = let at = slice_get-get_or tapes i [] few in one-each p f (get_or tapes i []) (calm-at f tapes i (get_or tapes i []) calm at) (d i) (e i) (h.each i (get_or tapes i []) at) (k.each i (get_or tapes i []) at)

  session-alike : (i : ℕ) → ArePrintedAlike (d i) (e i) → session_lines (table_of p) d i ≡ session_lines (table_of p) e i
  session-alike i same =
      ap (λ ls. session_line i ++ (ls ++ closing_text (table_of p) (d i).so_far.course (d i).ending)) same.lines
      ∙ ap (λ c. session_line i ++ ((e i).lines ++ closing_text (table_of p) c (d i).ending)) same.course
      ∙ ap (λ n. session_line i ++ ((e i).lines ++ closing_text (table_of p) (e i).so_far.course n)) same.ending

  pub text-alike : drawings_text p (length tapes) d ≡ drawings_text p (length tapes) e
  text-alike = ap (λ t. drawn_header (version_line 2) p.setting p.base p.limits ++ t) (below-alike (session_lines (table_of p) d) (session_lines (table_of p) e) (length tapes) (λ i few. session-alike i (all-alike i few)))

  pub asks-alike : (i : ℕ) → i < length tapes → asks_of d i ≡ asks_of e i
  asks-alike i few = let same = all-alike i few in ap (λ c. asks_to_end (d i).ending c.state.turns) same.course ∙ ap (λ n. asks_to_end n (e i).so_far.course.state.turns) same.ending

-- statuses that are alike
pub statuses-alike : (s t : ℕ → Status) (n : ℕ) → ((i : ℕ) → i < n → s i ≡ t i) → first_status s n ≡ first_status t n
unfolding first_status
statuses-alike s t zero same = refl
statuses-alike s t (suc n) same = ap (λ first. first_of first (s n)) (statuses-alike s t n (λ i few. same i (omega (arith, few)))) ∙ ap (first_of (first_status t n)) (same n (omega arith))

-- numbers below a bound
abbrev AreBelow : (n : ℕ) → List ℕ → Type 0
AreBelow n [] = Unit {0}
AreBelow n (x ∷ xs) = (x < n) × AreBelow n xs

below-both : (n : ℕ) (xs ys : List ℕ) → AreBelow n xs → AreBelow n ys → AreBelow n (xs ++ ys)
below-both n [] ys h k = k
below-both n (x ∷ xs) ys h k = (h.0, below-both n xs ys h.1 k)

below-replicated : (n count x : ℕ) → x < n → AreBelow n (replicate count x)
below-replicated n zero x few = tt
below-replicated n (suc count) x few = (few, below-replicated n count x few)

below-named : (n : ℕ) → 1 ≤ n → (bytes : List ℕ) → AreBelow n (drawings_named n bytes)
below-named n some [] = tt
below-named n some (b ∷ bytes) = (let h : b % n < n = omega (arith, some) in h, below-named n some bytes)

below-asked : (asks : ℕ → ℕ) (xs : List ℕ) (n k : ℕ) → k ≤ n → AreBelow n xs → AreBelow n (all_asked asks xs k)
unfolding all_asked
below-asked asks xs n zero few h = h
below-asked asks xs n (suc k) few h = below-both n (all_asked asks xs k) _ (below-asked asks xs n k (omega (arith, few)) h) (below-replicated n _ k (omega (arith, few)))

-- those that end are the same where the numbers of asks agree on those that are asked
ends-within : (asks other : ℕ → ℕ) (n : ℕ) (before xs : List ℕ) → AreBelow n xs → ((i : ℕ) → i < n → other i ≡ asks i) → ends_in other before xs ≡ ends_in asks before xs
unfolding ends_in
ends-within asks other n before [] below same = refl
ends-within asks other n before (x ∷ xs) below same =
    ap (λ front. front ++ ends_in other (before ++ x ∷ []) xs) (now (other x) (asks x) (same x below.0))
    ∙ ap (λ more. ends_now asks before x ++ more) (ends-within asks other n (before ++ x ∷ []) xs below.1 same)
  where
    now : (a b : ℕ) → a ≡ b → (if nat_eq a (how_often x before + 1) then x ∷ [] else []) ≡ (if nat_eq b (how_often x before + 1) then x ∷ [] else [])
    now a b e = ap (λ k. if nat_eq k (how_often x before + 1) then x ∷ [] else []) e

-- The order in which n drawings end by a schedule depends only on how often each of them is asked,
-- where n is at least 1.
pub order-alike : (asks other : ℕ → ℕ) (n : ℕ) (bytes : List ℕ) → 1 ≤ n → ((i : ℕ) → i < n → other i ≡ asks i) → order_of other n bytes ≡ order_of asks n bytes
order-alike asks other n bytes some same =
    ap (ends_in other []) (asked-alike asks other (drawings_named n bytes) n same)
    ∙ ends-within asks other n [] (all_asked asks (drawings_named n bytes) n) (below-asked asks (drawings_named n bytes) n n (omega arith) (below-named n some bytes)) same

-- what two pools that end print, each by a schedule of its own
pub ended-twice : (p : PoolSetting) (f : Files) (tapes : List (List ℕ)) → 1 ≤ length tapes → AreCalm f tapes → (a b : List ℕ) (status other : Status) (text others : List ℕ) (ticks more : ℕ) → status ≢ Status.OutOfMemory → other ≢ Status.OutOfMemory → PoolDrawn p f tapes a status text ticks → PoolDrawn p f tapes b other others more → AreOverOne p (length tapes) a b status other text others
ended-twice p f tapes some calm a b status other text others ticks more m n (pooled.so_far courses are says) q = absurd (m says.status_is)
ended-twice p f tapes some calm a b status other text others ticks more m n (pooled.no_memory says) q = absurd (m says.status_is)
ended-twice p f tapes some calm a b status other text others ticks more m n (pooled.ended d are says) (pooled.so_far courses are_too says_too) = absurd (n says_too.status_is)
ended-twice p f tapes some calm a b status other text others ticks more m n (pooled.ended d are says) (pooled.no_memory says_too) = absurd (n says_too.status_is)
ended-twice p f tapes some calm a b status other text others ticks more m n (pooled.ended d are says) (pooled.ended e are_too says_too) = record {
  drawings = d;
  status_is = says.status_is ∙ statuses-alike (λ i. ending_status (d i).ending) (λ i. ending_status (e i).ending) (length tapes) (λ i few. ap ending_status (all-alike p f tapes d e are are_too calm i few).ending) ∙ sym says_too.status_is;
  text_is = says.text_is;
  others_are =
      says_too.text_is
      ∙ ap (λ t. t ++ (order_line (order_of (asks_of e) (length tapes) b) ++ pool_end_line)) (sym (text-alike p f tapes d e are are_too calm))
      ∙ ap (λ o. drawings_text p (length tapes) d ++ (order_line o ++ pool_end_line)) (order-alike (asks_of d) (asks_of e) (length tapes) b some (λ i few. sym (asks-alike p f tapes d e are are_too calm i few)));
}

one-pool : (p : PoolSetting) (f : Files) (tapes : List (List ℕ)) → 1 ≤ length tapes → AreCalm f tapes → (schedule : List ℕ) → IsOne (PoolDrawn p f tapes schedule)
one-pool p f tapes some calm schedule = record { one = λ status other text others ticks more m n h k. let both = ended-twice p f tapes some calm schedule schedule status other text others ticks more m n h k in (both.status_is, both.text_is ∙ sym both.others_are) }

-- the command has one outcome where its files are calm
pub one-carried : (f : Files) (file : List ℕ) (x : Fraction) (schedule : List ℕ) (tapes : List (List ℕ)) (limits : Limits) (F : ℕ) → 1 ≤ length tapes → AreCalm f (file ∷ schedule ∷ tapes) → IsOne (CarriesPool f file x schedule tapes limits F)
one-carried f file x schedule tapes limits F some calm =
    one-specified f file (λ s. Based (setting s x.num x.den F) (PooledOver f (setting s x.num x.den F) (limits_of limits) schedule tapes)) calm.0
    (λ s. one-based (setting s x.num x.den F) (PooledOver f (setting s x.num x.den F) (limits_of limits) schedule tapes)
    (λ base. one-read f schedule 1048576 (PoolDrawn (pool_of (setting s x.num x.den F) base (limits_of limits)) f tapes) calm.1.0
    (λ bytes. one-pool (pool_of (setting s x.num x.den F) base (limits_of limits)) f tapes some calm.1.1 bytes)))

-- With calm files and no failed write, the pool command on at least one tape ends with its one
-- outcome, written whole, or for want of memory.
pub exact : (f : Files) (file : List ℕ) (x : Fraction) (schedule : List ℕ) (tapes : List (List ℕ)) (limits : Limits) (F : ℕ) → 1 ≤ length tapes → (b a : Option (List ℕ)) (fb fa tb ta : ℕ) (result : Status) → EndsBy (CarriesPool f file x schedule tapes limits F) (output b a fb fa tb ta) result → (status : Status) (text : List ℕ) (ticks : ℕ) → AreCalm f (file ∷ schedule ∷ tapes) → CarriesPool f file x schedule tapes limits F status text ticks → status ≢ Status.OutOfMemory → ¬ (Rose fb fa) → (result ≡ Status.OutOfMemory) ⊎ ((result ≡ status) × Appends b a text)
exact f file x schedule tapes limits F some b a fb fa tb ta result h status text ticks calm p memory fine = endings.exact (CarriesPool f file x schedule tapes limits F) (output b a fb fa tb ta) result status text ticks (one-carried f file x schedule tapes limits F some calm) h p memory fine
