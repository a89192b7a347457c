-- A drawing's trace starts with it, and each of its turns continues the trace.
use Rattle.std.proofs.Common.{◌≡◌, ℕ, zero, suc, ◌+◌, ◌-◌, ◌<◌, max, arith, Bool, true, false, cond, List, [], ◌∷◌, ◌++◌, map, sum, length, append-nil, refl, sym, ◌∙◌, ap, subst}
use Rattle.std.specs.Prelude.{Option, Some, None, IfSome, eqb, slice_get, option_map, option_to_list}
use Rattle.std.specs.Option.{is_some}
use Rattle.std.proofs.lemmas.Bool.{eq-eqb, ne_eqb}
use Rattle.std.proofs.lemmas.List.Sums.{sum_by-cons}
use Rattle.bz_model.specs.declared.cell.Bounds.{Bounds}
use Rattle.bz_model.specs.Cell.{spelled}
use Rattle.bz_model.specs.Fraction.{Fraction}
use Rattle.bz_model.specs.Spec.{Spec}
use Rattle.bit_tape.specs.Given.{HasBits, Gave}
use Rattle.bit_tape.proofs.GivenBits.{has_bits-first, has_bits-more, gave-none, gave-append}
use Rattle.class_system.specs.Sound.{IsSound}
use Rattle.well_founded.specs.EmptyObjects.{has_empty}
use Rattle.well_founded.proofs.Orderly.{orderly}
use Rattle.well_founded.proofs.Stages.{marked-zero, zero-marked}
use Rattle.shape_sampler.specs.Visit.{Chooser}
use Rattle.shape_sampler.specs.Answer.{ChoosesBy}
use Rattle.size_window.specs.declared.ending.Ending.{Ending as Told}
use Rattle.size_window.specs.declared.ending.Ending.TheVariants as ending
use Rattle.size_window.specs.declared.turned.Turned.{Turned as Answer}
use Rattle.size_window.specs.declared.turned.Turned.TheVariants as answer
use Rattle.size_window.specs.RunByBits.{Ending, Limits, Sampling, RunState, Entry, Course, turn, followed_by, one_turn_on, after}
use Rattle.size_window.specs.Drawing.{MadeShape, DrawingState, attempt_unless, ending_of, state_of}
use Rattle.size_window.specs.Follows.{GoesIdeally}
use Rattle.size_window.specs.Ideally.{chooser_of}
use Rattle.size_window.specs.Turn.{told_entry, told_fault, entry_of, atoms_by, ending_by, TurnEndsThere, IsTurn, IsCountedTurn, node_bits}
use Rattle.size_window.specs.Trace.{IsSpelled, Spells, bits_to_node, most_given, EndsAt, IsCourseOver, atoms_in, IsTrace, HasTrace, TracesStart, TurnsContinue}
use Rattle.size_window.proofs.Going.{goes-start}
use Rattle.size_window.proofs.Turning.{if-told, if-any, attempt-used}
use Rattle.size_window.proofs.TablesIdeally.{chooses-by}
use Rattle.size_window.proofs.SpelledTurns.{course-spells}
use Rattle.size_window.proofs.Redrawing.{has-own}

-- failures up to turn n, and this one in turn n
abbrev extended : (faults : ℕ → Option ℕ) (n : ℕ) (fault : Option ℕ) → ℕ → Option ℕ
extended faults n fault k = cond (eqb k n) fault (faults k)

extended-before : (faults : ℕ → Option ℕ) (n : ℕ) (fault : Option ℕ) (k : ℕ) → k < n → extended faults n fault k ≡ faults k
extended-before faults n fault k h = ap (λ b. cond b fault (faults k)) (ne_eqb k n (λ e. omega arith))

extended-at : (faults : ℕ → Option ℕ) (n : ℕ) (fault : Option ℕ) → extended faults n fault n ≡ fault
extended-at faults n fault = ap (λ b. cond b fault (faults n)) (eq-eqb n n refl)

-- earlier turns alone count
pub agree : (s : Sampling) (f g : ℕ → Option ℕ) (n : ℕ) → ((k : ℕ) → k < n → f k ≡ g k) → after s f n ≡ after s g n
agree s f g zero same = refl
agree s f g (suc n) same = ap (λ o. one_turn_on s o (after s f n)) (same n (omega arith)) ∙ ap (one_turn_on s (g n)) (agree s f g n (λ k h. same k (omega arith)))

-- Faults that agree in the first n turns of a course give one greatest number of bits to a number
-- of a choice node.
pub agree-given : (s : Sampling) (f g : ℕ → Option ℕ) (n : ℕ) → ((k : ℕ) → k < n → f k ≡ g k) → most_given s f n ≡ most_given s g n
unfolding most_given
agree-given s f g zero same = refl
agree-given s f g (suc n) same =
    ap (λ m. max m (bits_to_node (after s f n).state (after s f (suc n)).state)) (agree-given s f g n (λ k h. same k (omega arith)))
    ∙ ap (λ (c : Course). max (most_given s g n) (bits_to_node c.state (after s f (suc n)).state)) (agree s f g n (λ k h. same k (omega arith)))
    ∙ ap (λ (c : Course). max (most_given s g n) (bits_to_node (after s g n).state c.state)) (agree s f g (suc n) same)

-- the failures of the turns so far, and of one more
failures-on : (Ended : Type 0) (faults : ℕ → Option ℕ) (n : ℕ) (fault : Option ℕ) → ((k given : ℕ) → faults k ≡ Some given → Ended) → ((given : ℕ) → fault ≡ Some given → Ended) → (k given : ℕ) → extended faults n fault k ≡ Some given → Ended
failures-on Ended faults n fault old new k given is = go (eqb k n) is
  where
    go : (b : Bool) → cond b fault (faults k) ≡ Some given → Ended
    go true e = new given e
    go false e = old k given e

-- a turn fails only where it ends with a failed read
pub fault-told : (o : Option Told) (a : Answer) (bits given : ℕ) → told_fault o a bits ≡ Some given → ending_by o a ≡ Some ending.ReadFault
fault-told None (answer.Finished ending.ReadFault) bits given e = refl
fault-told None (answer.Finished ending.Done) bits given e = absurd (cc)
fault-told None (answer.Finished ending.TapeEnded) bits given e = absurd (cc)
fault-told None (answer.Finished (ending.Undecided straddle)) bits given e = absurd (cc)
fault-told None (answer.Finished ending.TurnLimit) bits given e = absurd (cc)
fault-told None answer.Going bits given e = absurd (cc)
fault-told None (answer.Kept entry) bits given e = absurd (cc)
fault-told None answer.OutOfMemory bits given e = absurd (cc)
fault-told (Some told) a bits given e = absurd (cc)

-- the tape's end that a drawing met, before or in a turn
to-turn : (o : Option Told) (a : Answer) (used : ℕ) (tape : ℕ → Option Bool) → EndsAt (option_map ending_of (ending_by o a)) used tape → TurnEndsThere a o used tape
to-turn None (answer.Finished ending.TapeEnded) used tape h = h
to-turn None (answer.Finished ending.Done) used tape h = tt
to-turn None (answer.Finished (ending.Undecided straddle)) used tape h = tt
to-turn None (answer.Finished ending.TurnLimit) used tape h = tt
to-turn None (answer.Finished ending.ReadFault) used tape h = tt
to-turn None answer.Going used tape h = tt
to-turn None (answer.Kept entry) used tape h = tt
to-turn None answer.OutOfMemory used tape h = tt
to-turn (Some told) (answer.Finished ending.TapeEnded) used tape h = tt
to-turn (Some told) (answer.Finished ending.Done) used tape h = tt
to-turn (Some told) (answer.Finished (ending.Undecided straddle)) used tape h = tt
to-turn (Some told) (answer.Finished ending.TurnLimit) used tape h = tt
to-turn (Some told) (answer.Finished ending.ReadFault) used tape h = tt
to-turn (Some told) answer.Going used tape h = tt
to-turn (Some told) (answer.Kept entry) used tape h = tt
to-turn (Some told) answer.OutOfMemory used tape h = tt

from-turn : (a : Answer) (used : ℕ) (tape : ℕ → Option Bool) → TurnEndsThere a None used tape → EndsAt (option_map ending_of (ending_by None a)) used tape
from-turn (answer.Finished ending.TapeEnded) used tape h = h
from-turn (answer.Finished ending.Done) used tape h = tt
from-turn (answer.Finished (ending.Undecided straddle)) used tape h = tt
from-turn (answer.Finished ending.TurnLimit) used tape h = tt
from-turn (answer.Finished ending.ReadFault) used tape h = tt
from-turn answer.Going used tape h = tt
from-turn (answer.Kept entry) used tape h = tt
from-turn answer.OutOfMemory used tape h = tt

-- one list of bits in one place
same-bits : (tape : ℕ → Option Bool) (place : ℕ) (one two : List Bool) → HasBits tape place one → HasBits tape place two → length one ≡ length two → one ≡ two
same-bits tape place [] [] h k e = refl
same-bits tape place [] (c ∷ two) h k e = absurd (cc)
same-bits tape place (b ∷ one) [] h k e = absurd (cc)
same-bits tape place (b ∷ one) (c ∷ two) h k e =
    let same : b ≡ c = let both : Some b ≡ Some c = sym h.0 ∙ k.0 in cc in
    ap (λ d. d ∷ one) same ∙ ap (λ ds. c ∷ ds) (same-bits tape (suc place) one two h.1 k.1 (let f : suc (length one) ≡ suc (length two) = e in omega arith))

-- there is no bit after those of a list
none-after : (bits : List Bool) (n : ℕ) → n ≡ length bits → slice_get bits n ≡ None
none-after [] n e = refl
none-after (b ∷ bits) zero e = absurd (let f : 0 ≡ suc (length bits) = e in omega arith)
none-after (b ∷ bits) (suc n) e = none-after bits n (let f : suc n ≡ suc (length bits) = e in omega arith)

-- so a tape of just these bits ends where a course met its end
pub ends-alone : (o : Option Ending) (bits : List Bool) (used : ℕ) → used ≡ length bits → EndsAt o used (slice_get bits)
ends-alone None bits used e = tt
ends-alone (Some Ending.Done) bits used e = tt
ends-alone (Some Ending.TapeEnded) bits used e = none-after bits used e
ends-alone (Some (Ending.Undecided number)) bits used e = tt
ends-alone (Some Ending.TurnLimit) bits used e = tt
ends-alone (Some Ending.ReadFault) bits used e = tt

-- a chooser by a table of a sound specification
pub table-chooser : (s : Spec) (F : ℕ) (table : (level node : ℕ) → Bounds) → IsSound s → ChoosesBy s F table (chooser_of s F table (has_empty s))
table-chooser s F table sound = chooses-by s F table (has_empty s) (λ part. (marked-zero s (orderly s sound) part, zero-marked s (orderly s sound) part))

-- the atoms of one entry, and of entries after others
sizes-one : (e : Entry) → atoms_in (e ∷ []) ≡ e.size
sizes-one e = let h = sum_by-cons (λ n. n) e.size [] in let z : sum (map (λ (n : ℕ). n) []) ≡ 0 = refl in omega arith

atoms-both : (es fs : List Entry) → atoms_in (es ++ fs) ≡ atoms_in es + atoms_in fs
atoms-both [] fs = let z : atoms_in [] ≡ 0 = refl in omega arith
atoms-both (e ∷ es) fs =
    let ih = atoms-both es fs in
    let one = sum_by-cons (λ n. n) e.size (map (λ (d : Entry). d.size) (es ++ fs)) in
    let two = sum_by-cons (λ n. n) e.size (map (λ (d : Entry). d.size) es) in
    omega (arith, ih, one, two)

-- Every drawing before its first turn has a trace: that of no bit, with no entry and no cell.
pub traces_start : TracesStart
unfolding most_given
traces_start s x F table limits told d state within atoms = record {
  trace = record {
    goes = goes-start s x limits;
    given = [];
    gave = gave-none told 0;
    ended = if-any told (λ tape. tt);
    spells = record { open_bits = []; whole = refl; are_open = refl; each = tt };
    faults = λ n. None;
    disturbed = λ turn before is. absurd (cc);
    exact = λ tape have ends k by. record { same = refl; most_is = refl };
  };
  state = sym state;
  within = within;
  atoms = atoms;
}

module _ (s : Spec) (x : Fraction) (F : ℕ) (table : (level node : ℕ) → Bounds) (limits : Limits) (told : Option (ℕ → Option Bool)) (sound : IsSound s) where
  -- what a course by the bits given spells
  given-spells : (c : Course) (given : List Bool) (faults : ℕ → Option ℕ) (turns : ℕ) (most : ℕ) → c.state.attempt.used ≡ length given → ((tape : ℕ → Option Bool) → HasBits tape 0 given → EndsAt c.state.ending c.state.attempt.used tape → (k : Chooser) → ChoosesBy s F table k → IsCourseOver (record { chooser = k; limits = limits; tape = tape }) faults turns c most) → Spells c given
  given-spells c given faults turns most all exact =
      let tape = slice_get given in
      let smp : Sampling = record { chooser = chooser_of s F table (has_empty s); limits = limits; tape = tape } in
      let over = exact tape (has-own given) (ends-alone c.state.ending given c.state.attempt.used all) (chooser_of s F table (has_empty s)) (table-chooser s F table sound) in
      let h = subst (λ d. IsSpelled d tape) (sym over.same) (course-spells smp faults turns) in
      record {
        open_bits = h.open_bits;
        whole = same-bits tape 0 given (spelled c.cells ++ h.open_bits) (has-own given) h.spelled_there.here (let u = h.spelled_there.up_to in omega (arith, u, all));
        are_open = h.are_open;
        each = h.spelled_there.each;
      }

  module _ (turns : ℕ) (before : DrawingState) (begun most : ℕ) (c : Course) (h : HasTrace s x F table limits told turns before begun most c) (a : Answer) (now : DrawingState) (used : ℕ) (t : IsTurn s x F table told before begun a now used) (counted : IsCountedTurn before a now) where
    p : IsTrace s x F table limits told turns most c
    p = h.trace

    -- how the course and the drawing stand before the turn and after it
    begun-is : c.state.attempt.used ≡ begun
    begun-is = ap (λ (st : RunState). st.attempt.used) h.state ∙ attempt-used before.waiting before.session begun

    used-is : t.turned.state.attempt.used ≡ used
    used-is = ap (λ (st : RunState). st.attempt.used) t.state ∙ attempt-used now.waiting now.session used

    ending-was : c.state.ending ≡ option_map ending_of before.ending
    ending-was = ap (λ (st : RunState). st.ending) h.state

    ending-is : t.turned.state.ending ≡ option_map ending_of now.ending
    ending-is = ap (λ (st : RunState). st.ending) t.state

    ending-by : t.turned.state.ending ≡ option_map ending_of (ending_by before.ending a)
    ending-by = ending-is ∙ ap (λ (o : Option Told). option_map ending_of o) counted.ending

    fault : Option ℕ
    fault = told_fault before.ending a (used - begun)

    faults-now : ℕ → Option ℕ
    unfolding p
    faults-now = extended p.faults turns fault

    -- a failed read of this turn ends the course, and one of an earlier turn had ended it
    fault-ends : (given : ℕ) → fault ≡ Some given → t.turned.state.ending ≡ Some Ending.ReadFault
    unfolding fault
    fault-ends given e = ending-by ∙ ap (λ (o : Option Told). option_map ending_of o) (fault-told before.ending a (used - begun) given e)

    -- a drawing that had ended ends the course still
    rested : (e : Told) → before.ending ≡ Some e → t.turned.state.ending ≡ c.state.ending
    rested e is = let r = t.rests e is in ending-is ∙ ap (λ (d : DrawingState). option_map ending_of d.ending) r.same ∙ sym ending-was

    still-failed : (o : Option Told) → before.ending ≡ o → c.state.ending ≡ Some Ending.ReadFault → t.turned.state.ending ≡ Some Ending.ReadFault
    still-failed None is failed = absurd (let none : c.state.ending ≡ None = ending-was ∙ ap (λ (o : Option Told). option_map ending_of o) is in let no : ⊥ = cc in no)
    still-failed (Some e) is failed = rested e is ∙ failed

    disturbed-now : (turn given : ℕ) → faults-now turn ≡ Some given → t.turned.state.ending ≡ Some Ending.ReadFault
    unfolding faults-now
    disturbed-now = failures-on (t.turned.state.ending ≡ Some Ending.ReadFault) p.faults turns fault (λ k given is. still-failed before.ending refl (p.disturbed k given is)) fault-ends

    goes-now : GoesIdeally s x limits (followed_by c t.turned)
    goes-now = subst (λ l. GoesIdeally s x l (followed_by c t.turned)) h.within (t.goes c h.state (subst (λ l. GoesIdeally s x l c) (sym h.within) p.goes))

    -- the end of the tape that the course had met
    earlier-end : (o : Option Told) → before.ending ≡ o → (tape : ℕ → Option Bool) → EndsAt t.turned.state.ending t.turned.state.attempt.used tape → EndsAt c.state.ending c.state.attempt.used tape
    earlier-end None is tape e = subst (λ q. EndsAt q c.state.attempt.used tape) (sym (ending-was ∙ ap (λ (o : Option Told). option_map ending_of o) is)) tt
    earlier-end (Some told_end) is tape e =
        let r = t.rests told_end is in
        let same : t.turned.state.attempt.used ≡ c.state.attempt.used = used-is ∙ r.unused ∙ sym begun-is in
        subst (λ q. EndsAt q c.state.attempt.used tape) (rested told_end is) (subst (λ n. EndsAt t.turned.state.ending n tape) same e)

    this-end : (tape : ℕ → Option Bool) → EndsAt t.turned.state.ending t.turned.state.attempt.used tape → TurnEndsThere a before.ending used tape
    this-end tape e = to-turn before.ending a used tape (subst (λ n. EndsAt (option_map ending_of (ending_by before.ending a)) n tape) used-is (subst (λ o. EndsAt o t.turned.state.attempt.used tape) ending-by e))

    ended-now : (o : Option Told) → before.ending ≡ o → IfSome told (EndsAt t.turned.state.ending t.turned.state.attempt.used)
    ended-now None is = if-told told (λ tape e. subst (λ o. EndsAt o t.turned.state.attempt.used tape) (sym (ending-by ∙ ap (λ o. option_map ending_of (ending_by o a)) is)) (subst (λ n. EndsAt (option_map ending_of (ending_by None a)) n tape) (sym used-is) (from-turn a used tape (subst (λ o. TurnEndsThere a o used tape) is e)))) t.ended
    ended-now (Some told_end) is =
        let r = t.rests told_end is in
        let same : t.turned.state.attempt.used ≡ c.state.attempt.used = used-is ∙ r.unused ∙ sym begun-is in
        if-told told (λ tape e. subst (λ q. EndsAt q t.turned.state.attempt.used tape) (sym (rested told_end is)) (subst (λ n. EndsAt c.state.ending n tape) (sym same) e)) p.ended

    -- the atoms of the entries
    atoms-now : now.atoms ≡ atoms_in (c.entries ++ option_to_list t.turned.entry)
    atoms-now =
        counted.atoms ∙ ap (λ n. n + atoms_by a) h.atoms ∙ by a ∙ ap (λ o. atoms_in (c.entries ++ option_to_list o)) (sym t.entry)
      where
        none-more : atoms_in c.entries + 0 ≡ atoms_in (c.entries ++ [])
        none-more = (let z : atoms_in c.entries + 0 ≡ atoms_in c.entries = omega arith in z) ∙ ap atoms_in (sym (append-nil c.entries))

        by : (a : Answer) → atoms_in c.entries + atoms_by a ≡ atoms_in (c.entries ++ option_to_list (told_entry a))
        by answer.Going = none-more
        by (answer.Finished e) = none-more
        by answer.OutOfMemory = none-more
        by (answer.Kept e) = let all = atoms-both c.entries (entry_of e ∷ []) in let one = sizes-one (entry_of e) in omega (arith, all, one)

    -- the bits of both
    given-now : List Bool
    unfolding p
    given-now = p.given ++ t.given

    gave-now : Gave told 0 t.turned.state.attempt.used given-now
    unfolding given-now
    gave-now = subst (λ n. Gave told 0 n (p.given ++ t.given)) (sym used-is) (gave-append told 0 begun used p.given t.given (subst (λ n. Gave told 0 n p.given) begun-is p.gave) t.gave)

    exact-now : (tape : ℕ → Option Bool) → HasBits tape 0 given-now → EndsAt t.turned.state.ending t.turned.state.attempt.used tape → (k : Chooser) → ChoosesBy s F table k → IsCourseOver (record { chooser = k; limits = limits; tape = tape }) faults-now (suc turns) (followed_by c t.turned) (max most (bits_to_node c.state t.turned.state))
    unfolding given-now fault faults-now most_given
    exact-now tape have ends k by =
        let smp : Sampling = record { chooser = k; limits = limits; tape = tape } in
        let old = p.exact tape (has_bits-first tape 0 p.given t.given have) (earlier-end before.ending refl tape ends) k by in
        let count : begun ≡ 0 + length p.given = sym begun-is ∙ p.gave.count in
        let here : HasBits tape begun t.given = subst (λ n. HasBits tape n t.given) (sym count) (has_bits-more tape 0 p.given t.given have) in
        let new = t.exact tape here (this-end tape ends) k by in
        let same-turn : t.turned ≡ turn smp fault c.state =
        subst (λ l. t.turned ≡ turn (record { chooser = k; limits = l; tape = tape }) fault c.state) h.within
        (subst (λ st. t.turned ≡ turn (record { chooser = k; limits = before.limits; tape = tape }) fault st) (sym h.state) new) in
        let earlier : after smp p.faults turns ≡ after smp faults-now turns = agree smp p.faults faults-now turns (λ n lt. sym (extended-before p.faults turns fault n lt)) in
        let at : c ≡ after smp faults-now turns = old.same ∙ earlier in
        let all : followed_by c t.turned ≡ after smp faults-now (suc turns) = ap (followed_by c) same-turn ∙ ap (one_turn_on smp fault) at ∙ ap (λ o. one_turn_on smp o (after smp faults-now turns)) (sym (extended-at p.faults turns fault)) in
        record {
          same = all;
          most_is =
              ap (λ m. max m (bits_to_node c.state t.turned.state)) (old.most_is ∙ agree-given smp p.faults faults-now turns (λ n lt. sym (extended-before p.faults turns fault n lt)))
              ∙ ap (λ (d : Course). max (most_given smp faults-now turns) (bits_to_node d.state t.turned.state)) at
              ∙ ap (λ (d : Course). max (most_given smp faults-now turns) (bits_to_node (after smp faults-now turns).state d.state)) all;
        }

    -- the bits that it gave to a number of a node
    bits-now : bits_to_node c.state t.turned.state ≡ node_bits before.waiting (used - begun)
    bits-now =
        ap (λ (st : RunState). bits_to_node st t.turned.state) h.state ∙ ap (bits_to_node (state_of before begun)) t.state
        ∙ ap (λ n. cond (is_some before.waiting) 0 (n - (attempt_unless before.waiting before.session begun).used)) (attempt-used now.waiting now.session used)
        ∙ ap (λ n. cond (is_some before.waiting) 0 (used - n)) (attempt-used before.waiting before.session begun)
        ∙ by before.waiting
      where
        by : (w : Option MadeShape) → cond (is_some w) 0 (used - begun) ≡ node_bits w (used - begun)
        by None = refl
        by (Some shape) = refl

    trace-now : IsTrace s x F table limits told (suc turns) (max most (bits_to_node c.state t.turned.state)) (followed_by c t.turned)
    trace-now = record {
      goes = goes-now;
      given = given-now;
      gave = gave-now;
      ended = ended-now before.ending refl;
      spells = given-spells (followed_by c t.turned) given-now faults-now (suc turns) (max most (bits_to_node c.state t.turned.state)) (let g = gave-now.count in omega arith) exact-now;
      faults = faults-now;
      disturbed = disturbed-now;
      exact = exact-now;
    }

    trace-continues : HasTrace s x F table limits told (suc turns) now used (max most (node_bits before.waiting (used - begun))) (followed_by c t.turned)
    trace-continues = record {
      trace = subst (λ n. IsTrace s x F table limits told (suc turns) (max most n) (followed_by c t.turned)) bits-now trace-now;
      state = t.state;
      within = counted.limits ∙ h.within;
      atoms = atoms-now;
    }

-- For a sound specification, each counted turn of a drawing that has a trace continues this trace.
pub turns_continue : TurnsContinue
turns_continue s sound x F table limits told turns before used most c h a now later turn counted = trace-continues s x F table limits told sound turns before used most c h a now later turn counted
