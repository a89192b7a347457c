-- What the command tells of a pool whose drawings have ended, or that was broken off.
use Rattle.std.proofs.Common.{◌≡◌, ℕ, zero, suc, ◌+◌, ◌<◌, ◌≤◌, max, arith, List, [], ◌∷◌, ◌++◌, length, map, get_or, refl, sym, ap, subst, ◌∙◌}
use Rattle.std.specs.Prelude.{Option, Some, None, IfSome, IsSome, option_map, slice_get}
use Rattle.std.proofs.lemmas.Option.{slice_get-map, slice_get-get_or, slice_get_within, same_Some}
use Rattle.bit_tape.specs.Tape.{TapeSource}
use Rattle.choice_draw.specs.Decision.{level_for}
use Rattle.class_system.specs.Sound.{IsSound}
use Rattle.oracle_memo.specs.Levels.{cost_at}
use Rattle.size_window.specs.declared.ending.Ending.{Ending as Told}
use Rattle.size_window.specs.RunByBits.{Ending, at_start}
use Rattle.size_window.specs.Drawing.{AreLimits, ending_of}
use Rattle.session_pool.specs.Member.{MemberState}
use Rattle.session_pool.specs.Pool.{ending_at, ending_of_member, sources_of}
use Rattle.session_pool.specs.Interleaving.{EndedRightly, RoseBy}
use Rattle.certificate.specs.Lines.{version_line}
use Rattle.call_stages.specs.Lines.{lines_below}
use Rattle.call_stages.specs.Outcomes.{IsWithin}
use Rattle.call_stages.specs.Stages.{files}
use Rattle.call_stages.specs.declared.status.Status.{Status}
use Rattle.sample_command.specs.Drawn.{closing_text, drawn_header, ending_status}
use Rattle.sample_command.proofs.TapeEnds.{Chosen, EndLaws}
use Rattle.pool_command.specs.PoolCommand.{PoolSetting, PoolCourse, PoolDrawing, AreCoursesIn, IsCourseIn, IsDrawnIn, PoolDrawn, table_of, greatest_below, raising_ticks, session_line, session_lines, failures_from, first_status, asks_of, drawings_text, order_line, pool_end_line}
use Rattle.pool_command.specs.PoolCommand as pooled
use Rattle.pool_command.specs.UnderWay.{pool_beginning, Moment, IsSoFar, asked_by, asked_of_member}
use Rattle.pool_command.specs.Schedule.{drawings_named, all_asked, ends_in, asks_to_end}
use Rattle.pool_command.specs.Pages.{told_session, closing_of_member, status_by, AreLinesOfMember}
use Rattle.pool_command.proofs.Ended.{shared_of, course_of_member, course-in, drawn-in, closing-same, asks-same}
use Rattle.pool_command.proofs.Appending.{below-alike}
use Rattle.pool_command.proofs.Faults.{AreTold, fails-alike}
use Rattle.pool_command.proofs.OnePool.{statuses-alike, order-alike}
use Rattle.pool_command.proofs.Orders.{is-there}

-- numbers that are alike have one greatest
pub greatest-alike : (f g : ℕ → ℕ) (n : ℕ) → ((i : ℕ) → i < n → f i ≡ g i) → greatest_below f n ≡ greatest_below g n
unfolding greatest_below
greatest-alike f g zero same = refl
greatest-alike f g (suc n) same = ap (λ k. max k (f n)) (greatest-alike f g n (λ i few. same i (omega (arith, few)))) ∙ ap (max (greatest_below g n)) (same n (omega arith))

-- the tape of a drawing is the one of its number
pub source-at : (pool : List MemberState) (names : List (List ℕ)) (i : ℕ) (m : MemberState) → sources_of pool ≡ map TapeSource.Named names → slice_get pool i ≡ Some m → m.tape.source ≡ TapeSource.Named (get_or names i [])
source-at pool names i m same at =
    let source : slice_get (map TapeSource.Named names) i ≡ Some m.tape.source = ap (λ ss. slice_get ss i) (sym same) ∙ (slice_get-map (λ (k : MemberState). k.tape.source) pool i ∙ ap (option_map (λ (k : MemberState). k.tape.source)) at) in
    let few : i < length names = within names i m.tape.source source in
    let named : slice_get (map TapeSource.Named names) i ≡ Some (TapeSource.Named (get_or names i [])) = slice_get-map TapeSource.Named names i ∙ ap (option_map TapeSource.Named) (slice_get-get_or names i [] few) in
    same_Some m.tape.source (TapeSource.Named (get_or names i [])) (sym source ∙ named)
  where
    within : (ns : List (List ℕ)) (k : ℕ) (s : TapeSource) → slice_get (map TapeSource.Named ns) k ≡ Some s → k < length ns
    within [] k s at = absurd (cc)
    within (n ∷ ns) zero s at = omega arith
    within (n ∷ ns) (suc k) s at = let rest = within ns k s at in omega (arith, rest)

-- a name that stands at a number is the one there
name-at : (names : List (List ℕ)) (i : ℕ) (name : List ℕ) → slice_get names i ≡ Some name → get_or names i [] ≡ name
name-at names i name at = same_Some (get_or names i []) name (sym (slice_get-get_or names i [] (slice_get_within names i name at)) ∙ at)

-- a count that rose since a later time
rose-from : (number begun before now : ℕ) → before ≤ begun → RoseBy number begun now → RoseBy number before now
rose-from number begun before now less rose = omega (arith, less, rose)

module _ (p : PoolSetting) (contents : List ℕ → Option (List ℕ)) (begun before : List ℕ → ℕ) (names : List (List ℕ)) (first : ℕ) (chosen : Chosen p.setting.spec p.setting.bits (table_of p)) (earlier : (other : List ℕ) → before other ≤ begun other) (asked : List ℕ) (n : Moment) (h : IsSoFar (pool_beginning (shared_of p contents) p.limits (map TapeSource.Named names) begun first) asked n) (number : length n.pool ≡ length names) where
  -- the course of a drawing; one that isn't there has none
  abbrev pub course-from : (i : ℕ) (o : Option MemberState) → slice_get n.pool i ≡ o → PoolCourse
  course-from i None at = record { course = at_start; most = 0 }
  course-from i (Some m) at = course_of_member p contents begun n.counts before chosen earlier m (h.mosts i) (h.each i m at) (get_or names i []) (source-at n.pool names i m h.after.same_sources at)

  abbrev pub course-at : (i : ℕ) → PoolCourse
  course-at i = course-from i (slice_get n.pool i) refl

  within-pool : (i : ℕ) → i < length names → slice_get n.pool i ≡ None → ⊥
  within-pool i few at = is-there n.pool i (omega (arith, few, number)) at

  most-at : (i : ℕ) → i < length names → (o : Option MemberState) (at : slice_get n.pool i ≡ o) → (course-from i o at).most ≡ h.mosts i
  most-at i few None at = absurd (within-pool i few at)
  most-at i few (Some m) at = refl

  pub mosts-alike : greatest_below (λ i. (course-at i).most) (length names) ≡ greatest_below h.mosts (length n.pool)
  mosts-alike = greatest-alike (λ i. (course-at i).most) h.mosts (length names) (λ i few. most-at i few (slice_get n.pool i) refl) ∙ ap (greatest_below h.mosts) (sym number)

  pub few-ticks : n.ticks ≤ first + raising_ticks (length names) course-at
  few-ticks = subst (λ k. n.ticks ≤ first + cost_at k) (h.raised_is ∙ ap level_for (sym mosts-alike)) h.few

  course-in-at : (i : ℕ) (name : List ℕ) → slice_get names i ≡ Some name → (o : Option MemberState) (at : slice_get n.pool i ≡ o) → IsCourseIn p (files contents before n.counts) name (course-from i o at)
  course-in-at i name is None at = absurd (within-pool i (slice_get_within names i name is) at)
  course-in-at i name is (Some m) at = subst (λ z. IsCourseIn p (files contents before n.counts) z (course-from i (Some m) at)) (name-at names i name is) (course-in p contents begun n.counts before chosen earlier m (h.mosts i) (h.each i m at) (get_or names i []) (source-at n.pool names i m h.after.same_sources at))

  -- it was broken off
  pub so-far-told : (schedule : List ℕ) → IsWithin (PoolDrawn p (files contents before n.counts) names schedule) Status.OutOfMemory [] first n.ticks
  so-far-told schedule = record {
    ticks = raising_ticks (length names) course-at;
    is = pooled.so_far course-at (record { each = λ i name is. course-in-at i name is (slice_get n.pool i) refl }) (record { status_is = refl; text_is = refl; ticks_are = refl });
    few = few-ticks;
  }

  -- the ending of a drawing that has one
  abbrev pub end-of : Option Told → Ending
  end-of None = Ending.TapeEnded
  end-of (Some e) = ending_of e

  ended-as : (o : Option Told) → IsSome o → (e : Told) × (o ≡ Some e)
  ended-as None some = absurd (cc)
  ended-as (Some e) some = (e, refl)

  module _ (lines : ℕ → List ℕ) (lists : (i : ℕ) → i < length names → AreLinesOfMember p.setting.spec (slice_get n.pool i) (lines i)) (ended : (i : ℕ) → i < length names → IsSome (ending_at n.pool i)) (laws : EndLaws) (sound : IsSound p.setting.spec) (are : AreLimits p.limits) where
    -- a drawing
    abbrev pub drawing-from : (i : ℕ) (o : Option MemberState) → slice_get n.pool i ≡ o → PoolDrawing
    drawing-from i o at = record { so_far = course-from i o at; ending = end-of (ending_of_member o); lines = lines i }

    abbrev pub drawing-at : (i : ℕ) → PoolDrawing
    drawing-at i = drawing-from i (slice_get n.pool i) refl

    rightly-of : (i : ℕ) (m : MemberState) (at : slice_get n.pool i ≡ Some m) (e : Told) → m.drawing.ending ≡ Some e → EndedRightly (shared_of p contents) p.limits m.tape.source begun n.counts m.drawing e
    rightly-of i m at e is = subst (λ o. IfSome o (EndedRightly (shared_of p contents) p.limits m.tape.source begun n.counts m.drawing)) is (h.after.each i m at).ended

    drawn-in-at : (i : ℕ) (name : List ℕ) → slice_get names i ≡ Some name → (o : Option MemberState) (at : slice_get n.pool i ≡ o) → IsDrawnIn p (files contents before n.counts) name (drawing-from i o at)
    drawn-in-at i name is None at = absurd (within-pool i (slice_get_within names i name is) at)
    drawn-in-at i name is (Some m) at =
        let few = slice_get_within names i name is in
        let e = ended-as m.drawing.ending (subst (λ o. IsSome (ending_of_member o)) at (ended i few)) in
        let right = rightly-of i m at e.0 e.1 in
        let its = subst (λ o. AreLinesOfMember p.setting.spec o (lines i)) at (lists i few) in
        subst (λ z. IsDrawnIn p (files contents before n.counts) z (drawing-from i (Some m) at)) (name-at names i name is)
        (subst (λ f. IsDrawnIn p (files contents before n.counts) (get_or names i []) (record { so_far = course-from i (Some m) at; ending = f; lines = lines i })) (sym (ap end-of e.1))
        (drawn-in p contents begun n.counts before chosen earlier m (h.mosts i) (h.each i m at) (get_or names i []) (source-at n.pool names i m h.after.same_sources at) e.0 e.1 right laws sound are (lines i) its))

    session-at : (i : ℕ) → i < length names → (o : Option MemberState) (at : slice_get n.pool i ≡ o) → session_line i ++ (lines i ++ closing_of_member o) ≡ session_line i ++ (lines i ++ closing_text (table_of p) (drawing-from i o at).so_far.course (drawing-from i o at).ending)
    session-at i few None at = absurd (within-pool i few at)
    session-at i few (Some m) at =
        let e = ended-as m.drawing.ending (subst (λ o. IsSome (ending_of_member o)) at (ended i few)) in
        let right = rightly-of i m at e.0 e.1 in
        ap (λ c. session_line i ++ (lines i ++ c))
        (closing-same p contents begun n.counts before chosen earlier m (h.mosts i) (h.each i m at) (get_or names i []) (source-at n.pool names i m h.after.same_sources at) e.0 e.1 right
        ∙ ap (closing_text (table_of p) (course-from i (Some m) at).course) (sym (ap end-of e.1)))

    asks-at : (i : ℕ) → i < length names → (o : Option MemberState) (at : slice_get n.pool i ≡ o) → asks_to_end (drawing-from i o at).ending (drawing-from i o at).so_far.course.state.turns ≡ asked_of_member o
    asks-at i few None at = absurd (within-pool i few at)
    asks-at i few (Some m) at =
        let e = ended-as m.drawing.ending (subst (λ o. IsSome (ending_of_member o)) at (ended i few)) in
        let right = rightly-of i m at e.0 e.1 in
        ap (λ f. asks_to_end f (course-from i (Some m) at).course.state.turns) (ap end-of e.1)
        ∙ asks-same p contents begun n.counts before chosen earlier m (h.mosts i) (h.each i m at) (get_or names i []) (source-at n.pool names i m h.after.same_sources at) e.0 e.1 right

    status-at : (o : Option Told) → IsSome o → status_by o ≡ ending_status (end-of o)
    status-at None some = absurd (cc)
    status-at (Some e) some = refl

    -- the endings that are told are those of the drawings
    all-told : AreTold (λ i. (drawing-at i).ending) 0 n.pool
    all-told i m at =
        let inside = slice_get_within n.pool i m at in
        let few : i < length names = omega (arith, inside, number) in
        let e = ended-as m.drawing.ending (subst (λ o. IsSome (ending_of_member o)) at (ended i few)) in
        (e.0, e.1, ap (λ k. (drawing-at k).ending) (let z : 0 + i ≡ i = omega arith in z) ∙ (ap (λ o. end-of (ending_of_member o)) at ∙ ap end-of e.1))

    all-failed : (name : List ℕ) → RoseBy (failures_from name (λ i. (drawing-at i).ending) 0 names) (before name) (n.counts name)
    all-failed name =
        let same = fails-alike name (λ i. (drawing-at i).ending) 0 names n.pool h.after.same_sources all-told in
        rose-from (failures_from name (λ i. (drawing-at i).ending) 0 names) (begun name) (before name) (n.counts name) (earlier name) (subst (λ k. RoseBy k (begun name) (n.counts name)) (sym same) (h.after.failed name))

    -- all have ended
    pub ended-told : (schedule order header sessions text : List ℕ) (status : Status) → 1 ≤ length names → order ≡ ends_in (asked_by n.pool) [] (all_asked (asked_by n.pool) (drawings_named (length names) schedule) (length names)) → header ≡ drawn_header (version_line 2) p.setting p.base p.limits → sessions ≡ header ++ lines_below (λ i. told_session n.pool i (lines i)) (length names) → text ≡ sessions ++ (order_line order ++ pool_end_line) → status ≡ first_status (λ i. status_by (ending_at n.pool i)) (length names) → IsWithin (PoolDrawn p (files contents before n.counts) names schedule) status text first n.ticks
    ended-told schedule order header sessions text status some order_is header_is sessions_are text_is status_is = record {
      ticks = raising_ticks (length names) course-at;
      is = pooled.ended drawing-at (record { each = λ i name is. drawn-in-at i name is (slice_get n.pool i) refl; failed = all-failed }) (record {
        status_is = status_is ∙ statuses-alike (λ i. status_by (ending_at n.pool i)) (λ i. ending_status (drawing-at i).ending) (length names) (λ i few. status-at (ending_at n.pool i) (ended i few));
        text_is =
            text_is
            ∙ ap (λ t. t ++ (order_line order ++ pool_end_line)) (
            sessions_are
            ∙ ap (λ t. t ++ lines_below (λ i. told_session n.pool i (lines i)) (length names)) header_is
            ∙ ap (λ t. drawn_header (version_line 2) p.setting p.base p.limits ++ t) (below-alike (λ i. told_session n.pool i (lines i)) (session_lines (table_of p) drawing-at) (length names) (λ i few. session-at i few (slice_get n.pool i) refl)))
            ∙ ap (λ o. drawings_text p (length names) drawing-at ++ (order_line o ++ pool_end_line)) (order_is ∙ order-alike (asks_of drawing-at) (asked_by n.pool) (length names) schedule some (λ i few. sym (asks-at i few (slice_get n.pool i) refl)));
        ticks_are = refl;
      });
      few = few-ticks;
    }
