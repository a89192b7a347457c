-- A drawing that has ended makes a turn that changes nothing.
use Rattle.std.proofs.Common.{◌≡◌, ℕ, ◌-◌, arith, Bool, true, false, List, [], append-nil, refl, sym, ◌∙◌, ap, subst, inl}
use Rattle.std.specs.Prelude.{Option, Some, None, IfSome, IsSome, is_some, option_map}
use Rattle.bz_model.specs.declared.cell.Bounds.{Bounds}
use Rattle.bz_model.specs.Fraction.{Fraction}
use Rattle.bz_model.specs.Spec.{Spec}
use Rattle.std.proofs.lemmas.Option.{same_Some}
use Rattle.bit_tape.specs.Tape.{CountsFault, bits_of_source}
use Rattle.bit_tape.proofs.GivenBits.{gave-none}
use Rattle.choice_draw.proofs.ToldDraws.{on_any}
use Rattle.size_window.specs.declared.ending.Ending.{Ending as Told}
use Rattle.size_window.specs.declared.ending.Ending.TheVariants as told
use Rattle.size_window.specs.declared.turned.Turned.TheVariants as turned
use Rattle.size_window.specs.RunByBits.{quiet, turn_unless}
use Rattle.size_window.specs.Drawing.{DrawingState, state_of, ending_of}
use Rattle.size_window.specs.Follows.{GoesIdeally}
use Rattle.size_window.proofs.ToldTraces.{quiet-on}
use Rattle.size_window.specs.Turn.{IsTurn, IsCountedTurn, is_turn_fault, TurnEndsThere, turns_by, told_fault}
use Rattle.session_pool.specs.declared.pooled.Pooled.TheVariants as pooled
use Rattle.session_pool.specs.Member.{MemberState}
use Rattle.session_pool.specs.Turn.{IsMemberTurn, pool_answer}

-- it meets no end of its tape
ended-ends : (o : Option Told) (ending : Told) (used : ℕ) (tape : ℕ → Option Bool) → o ≡ Some ending → TurnEndsThere (turned.Finished ending) o used tape
ended-ends o told.Done used tape is = tt
ended-ends o told.TapeEnded used tape is = subst (λ p. TurnEndsThere (turned.Finished told.TapeEnded) p used tape) (sym is) tt
ended-ends o (told.Undecided straddle) used tape is = tt
ended-ends o told.TurnLimit used tape is = tt
ended-ends o told.ReadFault used tape is = tt

-- and fails at no read
pub ended-no_fault : (o : Option Told) (ending : Told) → o ≡ Some ending → false ≡ is_turn_fault (turned.Finished ending) o
ended-no_fault o told.Done is = refl
ended-no_fault o told.TapeEnded is = refl
ended-no_fault o (told.Undecided straddle) is = refl
ended-no_fault o told.TurnLimit is = refl
ended-no_fault o told.ReadFault is = ap (is_turn_fault (turned.Finished told.ReadFault)) (sym is)

-- an ended drawing answers its ending, and stays as it was
pub ended-turn : (s : Spec) (x : Fraction) (F : ℕ) (table : (level node : ℕ) → Bounds) (bits : Option (ℕ → Option Bool)) (d : DrawingState) (used : ℕ) (ending : Told) → d.ending ≡ Some ending → IsTurn s x F table bits d used (turned.Finished ending) d used
ended-turn s x F table bits d used ending is = record {
  turned = quiet (state_of d used);
  state = refl;
  entry = refl;
  rests = λ other also. record { told = ap turned.Finished (same_Some ending other (sym is ∙ also)); same = refl; unused = refl };
  goes = λ c at goes. subst (GoesIdeally s x d.limits) (sym (quiet-on c (state_of d used) at)) goes;
  given = [];
  gave = gave-none bits used;
  ended = on_any bits (λ tape. ended-ends d.ending ending used tape is);
  exact = λ tape have ends c chooses. sym (ap (turn_unless (record { chooser = c; limits = d.limits; tape = tape }) (told_fault d.ending (turned.Finished ending) (used - used)) (state_of d used)) (ap (option_map ending_of) is));
}

-- it counts nothing
pub ended-counted : (d : DrawingState) (ending : Told) → d.ending ≡ Some ending → IsCountedTurn d (turned.Finished ending) d
ended-counted d ending is = record {
  limits = refl;
  kept = omega arith;
  atoms = omega arith;
  turns = let none = ap (λ o. turns_by o (turned.Finished ending)) is in omega (arith, none);
  thrown = inl refl;
  ending = is;
}

-- so it does in a pool
ended-member : (s : Spec) (x : Fraction) (F : ℕ) (table : (level node : ℕ) → Bounds) (contents : List ℕ → Option (List ℕ)) (counts : List ℕ → ℕ) (m : MemberState) (ending : Told) → m.drawing.ending ≡ Some ending → IsMemberTurn s x F table contents counts counts m pooled.Finished m
ended-member s x F table contents counts m ending is = record {
  told = turned.Finished ending;
  made = λ e. absurd (cc);
  turn = ended-turn s x F table (bits_of_source m.tape.source contents) m.drawing m.tape.used ending is;
  again = subst (λ o. IfSome o (λ e. (turned.Finished ending ≡ turned.Finished e) × (m ≡ m))) (sym is) (refl, refl);
  counted = ended-counted m.drawing ending is;
  next = tt;
  labels = tt;
  used = (omega arith, omega arith);
  rightly = λ none. absurd (cc);
  faults = subst (λ b. CountsFault b m.tape.source counts counts) (ended-no_fault m.drawing.ending ending is) refl;
  entries = sym (append-nil m.entries);
  source = refl;
  answers = sym (ap pool_answer is);
}

-- A drawing of a pool that has ended makes a turn that answers that it finished, and stays as it
-- was, as do the counts.
pub ended-member-turn : (s : Spec) (x : Fraction) (F : ℕ) (table : (level node : ℕ) → Bounds) (contents : List ℕ → Option (List ℕ)) (counts : List ℕ → ℕ) (m : MemberState) → IsSome m.drawing.ending → IsMemberTurn s x F table contents counts counts m pooled.Finished m
ended-member-turn s x F table contents counts m some = go m.drawing.ending refl some
  where
    go : (o : Option Told) → m.drawing.ending ≡ o → is_some o ≡ true → IsMemberTurn s x F table contents counts counts m pooled.Finished m
    go None is e = absurd (cc)
    go (Some ending) is e = ended-member s x F table contents counts m ending is
