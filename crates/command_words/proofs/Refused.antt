-- The first value that is refused.
use Rattle.std.proofs.Common.{◌≡◌, ◌≢◌, ℕ, ◌+◌, ◌<◌, List, [], ◌∷◌, ◌==◌, if◌then◌else◌, refl, sym, ◌∙◌, ap, subst, arith, inl, inr}
use Rattle.std.proofs.lemmas.Bool.{cases_eq}
use Rattle.std.specs.Prelude.{Option, Some, None, Result, Ok, Err, IfErr, IsErrAnd}
use Rattle.bz_model.specs.declared.fraction.Fraction.{Fraction}
use Rattle.command_words.specs.declared.fault.ValueName.{ValueName}
use Rattle.command_words.specs.declared.fault.ValueName.TheVariants.{X, Seed, Min, Max, Count, Turns, Fraction as FractionBits, N, Rank}
use Rattle.command_words.specs.declared.fault.WordsFault.{WordsFault}
use Rattle.command_words.specs.declared.fault.WordsFault.TheVariants.{BadValue}
use Rattle.command_words.specs.declared.names.CommandName.{CommandName}
use Rattle.command_words.specs.Words.{Given}
use Rattle.command_words.specs.Values.{StandsFor, IsAcceptedValue, IsRefused, IsSet, IsBad, IsFirstRefused, order, texts_of}
use Rattle.command_words.specs.Values as bad
use Rattle.command_words.specs.Reading.{IsX, IsBadOne}

-- The value at a place in the order.
abbrev value_at : ℕ → ValueName
value_at n = if n == 0 then X else (if n == 1 then Seed else (if n == 2 then Min else (if n == 3 then Max else (if n == 4 then Count else (if n == 5 then Turns else (if n == 6 then FractionBits else (if n == 7 then N else Rank)))))))

value_at-order : (v : ValueName) → value_at (order v) ≡ v
value_at-order X = refl
value_at-order Seed = refl
value_at-order Min = refl
value_at-order Max = refl
value_at-order Count = refl
value_at-order Turns = refl
value_at-order FractionBits = refl
value_at-order N = refl
value_at-order Rank = refl

-- no two values have one place in the order
pub order-injective : (v w : ValueName) → order v ≡ order w → v ≡ w
order-injective v w e = sym (value_at-order v) ∙ ap value_at e ∙ value_at-order w

-- a text that stands for a number as a value is accepted
pub accepted : (name : CommandName) (v : ValueName) (text : List ℕ) (n : ℕ) → StandsFor name v text n → IsAcceptedValue name v text
accepted name X text n h = absurd h.within
accepted name Seed text n h = (n, h)
accepted name Min text n h = (n, h)
accepted name Max text n h = (n, h)
accepted name Count text n h = (n, h)
accepted name Turns text n h = (n, h)
accepted name FractionBits text n h = (n, h)
accepted name N text n h = (n, h)
accepted name Rank text n h = (n, h)

-- one that stands for no number is not, but for the x
pub not_accepted : (name : CommandName) (v : ValueName) (text : List ℕ) → v ≢ X → ((n : ℕ) → ¬ (StandsFor name v text n)) → ¬ (IsAcceptedValue name v text)
not_accepted name X text other h a = other refl
not_accepted name Seed text other h a = h a.0 a.1
not_accepted name Min text other h a = h a.0 a.1
not_accepted name Max text other h a = h a.0 a.1
not_accepted name Count text other h a = h a.0 a.1
not_accepted name Turns text other h a = h a.0 a.1
not_accepted name FractionBits text other h a = h a.0 a.1
not_accepted name N text other h a = h a.0 a.1
not_accepted name Rank text other h a = h a.0 a.1

-- a number that is set isn't refused, nor is an x that is read
pub set-not_refused : (name : CommandName) (v : ValueName) (default : ℕ) (texts : List (List ℕ)) (n : ℕ) → IsSet name v default texts n → ¬ (IsRefused name v texts)
set-not_refused name v default [] n set refused = refused
set-not_refused name v default (text ∷ others) n set refused = refused (accepted name v text n set)

pub x-not_refused : (name : CommandName) (texts : List (List ℕ)) (x : Option Fraction) → IsX texts x → ¬ (IsRefused name X texts)
x-not_refused name [] x is refused = refused
x-not_refused name (text ∷ others) (Some x) is refused = refused (x, is)
x-not_refused name (text ∷ others) None is refused = is

-- The values before a place in the order aren't refused.
pub record AreFine (name : CommandName) (given : Given) (places : ℕ) : Type 0 where
  pub none : (v : ValueName) → order v < places → ¬ (IsRefused name v (texts_of name given v))

-- that of the x
pub fine_x : (name : CommandName) (given : Given) (x : Option Fraction) → IsX (texts_of name given X) x → AreFine name given 1
fine_x name given x is = record { none = λ v lt. subst (λ w. ¬ (IsRefused name w (texts_of name given w))) (order-injective X v (omega arith)) (x-not_refused name (texts_of name given X) x is) }

-- and one more
pub fine_more : (name : CommandName) (given : Given) (v : ValueName) (default n : ℕ) → AreFine name given (order v) → IsSet name v default (texts_of name given v) n → AreFine name given (order v + 1)
fine_more name given v default n before set = record {
  none = λ w lt.
      elim (cases_eq (order v) (order w)) [
        | inl same ↦ subst (λ u. ¬ (IsRefused name u (texts_of name given u))) (order-injective v w same) (set-not_refused name v default (texts_of name given v) n set)
        | inr other ↦ before.none w (omega arith)
      ];
}

-- all values are before the ninth place
pub fine_all : (name : CommandName) (given : Given) → AreFine name given 9 → (v : ValueName) → ¬ (IsRefused name v (texts_of name given v))
fine_all name given fine X = fine.none X (omega arith)
fine_all name given fine Seed = fine.none Seed (omega arith)
fine_all name given fine Min = fine.none Min (omega arith)
fine_all name given fine Max = fine.none Max (omega arith)
fine_all name given fine Count = fine.none Count (omega arith)
fine_all name given fine Turns = fine.none Turns (omega arith)
fine_all name given fine FractionBits = fine.none FractionBits (omega arith)
fine_all name given fine N = fine.none N (omega arith)
fine_all name given fine Rank = fine.none Rank (omega arith)

-- a refused value behind values that aren't is bad
pub bad_first : {T : Type 0} (r : Result T WordsFault) (fault : WordsFault) (name : CommandName) (given : Given) (v : ValueName) → IsErrAnd r (λ f. f ≡ fault) → fault ≡ BadValue v → IsRefused name v (texts_of name given v) → AreFine name given (order v) → IfErr r (IsBadOne name given)
bad_first (Ok x) fault name given v handed is refused fine = absurd handed
bad_first (Err f) fault name given v handed is refused fine = record {
  refused = v;
  is = handed ∙ is;
  bad = bad.refused v (record { here = refused; none_before = fine.none });
}
