-- Words that stand for a command aren't refused, and words are refused in one way.
use Rattle.std.proofs.Common.{◌≡◌, ℕ, ◌+◌, ◌≤◌, List, [], ◌∷◌, length, refl, ap, subst, arith, inl, inr}
use Rattle.std.proofs.lemmas.Bool.{cases_eq, cases_lt}
use Rattle.size_window.specs.declared.limits.Limits.{Limits}
use Rattle.command_words.specs.declared.command.Command.{Command}
use Rattle.command_words.specs.declared.command.FractionBits.{FractionBits}
use Rattle.command_words.specs.declared.command.TapeWord.{TapeWord}
use Rattle.command_words.specs.Fractions.{fraction_bits}
use Rattle.command_words.specs.declared.fault.ValueName.{ValueName}
use Rattle.command_words.specs.declared.fault.ValueName.TheVariants as value
use Rattle.command_words.specs.declared.names.CommandName.{CommandName}
use Rattle.command_words.specs.declared.names.CommandName.TheVariants.{Spec, Oracle, Sample, Pool, Verify, Migrate, Bulk, Point, Chance, Count, Unrank, Rank}
use Rattle.command_words.specs.declared.names.OptionName.TheVariants as option
use Rattle.command_words.specs.Words.{Given, Takes, given_by}
use Rattle.command_words.specs.Values.{StandsFor, IsRefused, IsSet, IsBad, texts_of, order}
use Rattle.command_words.specs.Values as bad
use Rattle.command_words.specs.Commands.{IsTape, AreLimitsAsked, AreFractionBits, Makes, IsCommand, IsBadValue}
use Rattle.command_words.specs.Commands as makes
use Rattle.command_words.proofs.Formed.{same_form}
use Rattle.command_words.proofs.Refused.{set-not_refused, order-injective}
use Rattle.command_words.proofs.Unique.{same_set}

-- what isn't given isn't refused, and is its default
not_given : (name : CommandName) (v : ValueName) (texts : List (List ℕ)) → length texts ≤ 0 → ¬ (IsRefused name v texts)
not_given name v [] none refused = refused
not_given name v (text ∷ others) none refused = absurd (omega arith)

default_set : (name : CommandName) (v : ValueName) (default : ℕ) (texts : List (List ℕ)) (n : ℕ) → length texts ≤ 0 → IsSet name v default texts n → n ≡ default
default_set name v default [] n none set = set
default_set name v default (text ∷ others) n none set = absurd (omega arith)

-- That none of the values is refused.
abbrev IsFine : CommandName → Given → ValueName → Type 0
IsFine name given v = ¬ (IsRefused name v (texts_of name given v))

-- each value, from the nine
fine : (name : CommandName) (given : Given) → IsFine name given value.X → IsFine name given value.Seed → IsFine name given value.Min → IsFine name given value.Max → IsFine name given value.Count → IsFine name given value.Turns → IsFine name given value.Fraction → IsFine name given value.N → IsFine name given value.Rank → (v : ValueName) → IsFine name given v
fine name given x seed min max count turns fraction n rank value.X = x
fine name given x seed min max count turns fraction n rank value.Seed = seed
fine name given x seed min max count turns fraction n rank value.Min = min
fine name given x seed min max count turns fraction n rank value.Max = max
fine name given x seed min max count turns fraction n rank value.Count = count
fine name given x seed min max count turns fraction n rank value.Turns = turns
fine name given x seed min max count turns fraction n rank value.Fraction = fraction
fine name given x seed min max count turns fraction n rank value.N = n
fine name given x seed min max count turns fraction n rank value.Rank = rank

min_fine : (name : CommandName) (given : Given) (l : Limits) → AreLimitsAsked name given l → ¬ (IsRefused name value.Min (given.values option.Min))
min_fine name given l are = set-not_refused name value.Min 0 (given.values option.Min) l.min are.min

max_fine : (name : CommandName) (given : Given) (l : Limits) → AreLimitsAsked name given l → ¬ (IsRefused name value.Max (given.values option.Max))
max_fine name given l are = set-not_refused name value.Max 1000 (given.values option.Max) l.max are.max

count_fine : (name : CommandName) (given : Given) (l : Limits) → AreLimitsAsked name given l → ¬ (IsRefused name value.Count (given.values option.Count))
count_fine name given l are = set-not_refused name value.Count 1 (given.values option.Count) l.count are.count

turns_fine : (name : CommandName) (given : Given) (l : Limits) → AreLimitsAsked name given l → ¬ (IsRefused name value.Turns (given.values option.Turns))
turns_fine name given l are = set-not_refused name value.Turns 1000000 (given.values option.Turns) l.turns are.turns

bits_fine : (name : CommandName) (given : Given) (b : FractionBits) → AreFractionBits name given b → ¬ (IsRefused name value.Fraction (given.values option.Fraction))
bits_fine name given b are = set-not_refused name value.Fraction 48 (given.values option.Fraction) (fraction_bits b) are.is

seed_fine : (given : Given) (t : TapeWord) → length (given.values option.Tape) + length (given.values option.Seed) ≡ 1 → IsTape given t → ¬ (IsRefused Sample value.Seed (given.values option.Seed))
seed_fine given t one (makes.file w e) = not_given Sample value.Seed (given.values option.Seed) (omega (arith, ap length e))
seed_fine given t one (makes.seed text n e is) = rw e (λ refused. refused (n, is))

-- no value of a command that is made is refused
made-fine : (given : Given) (name : CommandName) (c : Command) → Takes name given → Makes given name c → (v : ValueName) → IsFine name given v
made-fine given name c takes (makes.spec f e) =
    fine Spec given (λ r. r) (not_given Spec value.Seed _ (takes.options option.Seed)) (not_given Spec value.Min _ (takes.options option.Min)) (not_given Spec value.Max _ (takes.options option.Max)) (not_given Spec value.Count _ (takes.options option.Count)) (not_given Spec value.Turns _ (takes.options option.Turns)) (not_given Spec value.Fraction _ (takes.options option.Fraction)) (λ r. r) (λ r. r)
made-fine given name c takes (makes.oracle f t x b e r is) =
    fine Oracle given (rw e (λ refused. refused (x, r))) (not_given Oracle value.Seed _ (takes.options option.Seed)) (not_given Oracle value.Min _ (takes.options option.Min)) (not_given Oracle value.Max _ (takes.options option.Max)) (not_given Oracle value.Count _ (takes.options option.Count)) (not_given Oracle value.Turns _ (takes.options option.Turns)) (bits_fine Oracle given b is) (λ r. r) (λ r. r)
made-fine given name c takes (makes.sample f t x w l b q e r w_is l_is is fast) =
    fine Sample given (rw e (λ refused. refused (x, r))) (seed_fine given w (takes.tape_or_seed refl) w_is) (min_fine Sample given l l_is) (max_fine Sample given l l_is) (count_fine Sample given l l_is) (turns_fine Sample given l l_is) (bits_fine Sample given b is) (λ r. r) (λ r. r)
made-fine given name c takes (makes.pool f t p ts x l b e r l_is is) =
    fine Pool given (rw e (λ refused. refused (x, r))) (not_given Pool value.Seed _ (takes.options option.Seed)) (min_fine Pool given l l_is) (max_fine Pool given l l_is) (count_fine Pool given l l_is) (turns_fine Pool given l l_is) (bits_fine Pool given b is) (λ r. r) (λ r. r)
made-fine given name c takes (makes.verify f k e) =
    fine Verify given (λ r. r) (not_given Verify value.Seed _ (takes.options option.Seed)) (not_given Verify value.Min _ (takes.options option.Min)) (not_given Verify value.Max _ (takes.options option.Max)) (not_given Verify value.Count _ (takes.options option.Count)) (not_given Verify value.Turns _ (takes.options option.Turns)) (not_given Verify value.Fraction _ (takes.options option.Fraction)) (λ r. r) (λ r. r)
made-fine given name c takes (makes.migrate f k e) =
    fine Migrate given (λ r. r) (not_given Migrate value.Seed _ (takes.options option.Seed)) (not_given Migrate value.Min _ (takes.options option.Min)) (not_given Migrate value.Max _ (takes.options option.Max)) (not_given Migrate value.Count _ (takes.options option.Count)) (not_given Migrate value.Turns _ (takes.options option.Turns)) (not_given Migrate value.Fraction _ (takes.options option.Fraction)) (λ r. r) (λ r. r)
made-fine given name c takes (makes.bulk t n b e st is) =
    fine Bulk given (λ r. r) (not_given Bulk value.Seed _ (takes.options option.Seed)) (not_given Bulk value.Min _ (takes.options option.Min)) (not_given Bulk value.Max _ (takes.options option.Max)) (not_given Bulk value.Count _ (takes.options option.Count)) (not_given Bulk value.Turns _ (takes.options option.Turns)) (bits_fine Bulk given b is) (rw e (λ refused. refused (n, st))) (λ r. r)
made-fine given name c takes (makes.point f e) =
    fine Point given (λ r. r) (not_given Point value.Seed _ (takes.options option.Seed)) (not_given Point value.Min _ (takes.options option.Min)) (not_given Point value.Max _ (takes.options option.Max)) (not_given Point value.Count _ (takes.options option.Count)) (not_given Point value.Turns _ (takes.options option.Turns)) (not_given Point value.Fraction _ (takes.options option.Fraction)) (λ r. r) (λ r. r)
made-fine given name c takes (makes.chance f t o x b e r is) =
    fine Chance given (rw e (λ refused. refused (x, r))) (not_given Chance value.Seed _ (takes.options option.Seed)) (not_given Chance value.Min _ (takes.options option.Min)) (not_given Chance value.Max _ (takes.options option.Max)) (not_given Chance value.Count _ (takes.options option.Count)) (not_given Chance value.Turns _ (takes.options option.Turns)) (bits_fine Chance given b is) (λ r. r) (λ r. r)
made-fine given name c takes (makes.count f t n e st) =
    fine Count given (λ r. r) (not_given Count value.Seed _ (takes.options option.Seed)) (not_given Count value.Min _ (takes.options option.Min)) (not_given Count value.Max _ (takes.options option.Max)) (not_given Count value.Count _ (takes.options option.Count)) (not_given Count value.Turns _ (takes.options option.Turns)) (not_given Count value.Fraction _ (takes.options option.Fraction)) (rw e (λ refused. refused (n, st))) (λ r. r)
made-fine given name c takes (makes.unrank f t k n number e st ranked) =
    fine Unrank given (λ r. r) (not_given Unrank value.Seed _ (takes.options option.Seed)) (not_given Unrank value.Min _ (takes.options option.Min)) (not_given Unrank value.Max _ (takes.options option.Max)) (not_given Unrank value.Count _ (takes.options option.Count)) (not_given Unrank value.Turns _ (takes.options option.Turns)) (not_given Unrank value.Fraction _ (takes.options option.Fraction)) (rw e (λ refused. refused (n, st))) (rw e (λ refused. refused (number, ranked)))
made-fine given name c takes (makes.rank f o e) =
    fine Rank given (λ r. r) (not_given Rank value.Seed _ (takes.options option.Seed)) (not_given Rank value.Min _ (takes.options option.Min)) (not_given Rank value.Max _ (takes.options option.Max)) (not_given Rank value.Count _ (takes.options option.Count)) (not_given Rank value.Turns _ (takes.options option.Turns)) (not_given Rank value.Fraction _ (takes.options option.Fraction)) (λ r. r) (λ r. r)

-- nor is its window empty
limits-window : (name : CommandName) (given : Given) (l : Limits) (min max : ℕ) → AreLimitsAsked name given l → IsSet name value.Min 0 (given.values option.Min) min → IsSet name value.Max 1000 (given.values option.Max) max → min ≤ max
limits-window name given l min max are low high =
    let least = same_set name value.Min 0 (given.values option.Min) l.min min are.min low in
    let greatest = same_set name value.Max 1000 (given.values option.Max) l.max max are.max high in
    omega (arith, least, greatest, are.window)

unset-window : (name : CommandName) (given : Given) (min max : ℕ) → length (given.values option.Min) ≤ 0 → IsSet name value.Min 0 (given.values option.Min) min → min ≤ max
unset-window name given min max none low = omega (arith, default_set name value.Min 0 (given.values option.Min) min none low)

made-window : (given : Given) (name : CommandName) (c : Command) (min max : ℕ) → Takes name given → Makes given name c → IsSet name value.Min 0 (given.values option.Min) min → IsSet name value.Max 1000 (given.values option.Max) max → min ≤ max
made-window given name c min max takes (makes.spec f e) low high = unset-window Spec given min max (takes.options option.Min) low
made-window given name c min max takes (makes.oracle f t x b e r is) low high = unset-window Oracle given min max (takes.options option.Min) low
made-window given name c min max takes (makes.sample f t x w l b q e r w_is l_is is fast) low high = limits-window Sample given l min max l_is low high
made-window given name c min max takes (makes.pool f t p ts x l b e r l_is is) low high = limits-window Pool given l min max l_is low high
made-window given name c min max takes (makes.verify f k e) low high = unset-window Verify given min max (takes.options option.Min) low
made-window given name c min max takes (makes.migrate f k e) low high = unset-window Migrate given min max (takes.options option.Min) low
made-window given name c min max takes (makes.bulk t n b e st is) low high = unset-window Bulk given min max (takes.options option.Min) low
made-window given name c min max takes (makes.point f e) low high = unset-window Point given min max (takes.options option.Min) low
made-window given name c min max takes (makes.chance f t o x b e r is) low high = unset-window Chance given min max (takes.options option.Min) low
made-window given name c min max takes (makes.count f t n e st) low high = unset-window Count given min max (takes.options option.Min) low
made-window given name c min max takes (makes.unrank f t k n number e st ranked) low high = unset-window Unrank given min max (takes.options option.Min) low
made-window given name c min max takes (makes.rank f o e) low high = unset-window Rank given min max (takes.options option.Min) low

not_bad : (given : Given) (name : CommandName) (c : Command) (v : ValueName) → Takes name given → Makes given name c → ¬ (IsBad name given v)
not_bad given name c v takes made (bad.refused first h) = made-fine given name c takes made first h.here
not_bad given name c v takes made (bad.empty h) = let window = made-window given name c h.min h.max takes made h.is_min h.is_max in absurd (omega (arith, window, h.above))

-- words that stand for a command have no bad value
pub no_bad_value : (words : List (List ℕ)) (c : Command) (v : ValueName) → IsCommand words c → ¬ (IsBadValue words v)
no_bad_value words c v is has =
    let same = same_form words is.name has.name is.arguments has.arguments is.form has.form in
    not_bad (given_by is.arguments) is.name c v is.form.taken is.made (subst (λ n. IsBad n (given_by is.arguments) v) same.names (subst (λ a. IsBad has.name (given_by a) v) same.all has.bad))

one_bad : (name : CommandName) (given : Given) (a b : ValueName) → IsBad name given a → IsBad name given b → a ≡ b
one_bad name given a b (bad.refused first h) (bad.refused other i) =
    elim (cases_eq (order first) (order other)) [
      | inl same ↦ order-injective first other same
      | inr apart ↦ elim (cases_lt (order first) (order other)) [
        | inl below ↦ absurd (i.none_before first below h.here)
        | inr above ↦ absurd (h.none_before other (omega arith) i.here)
      ]
    ]
one_bad name given a b (bad.refused first h) (bad.empty i) = absurd (i.none_refused first h.here)
one_bad name given a b (bad.empty h) (bad.refused other i) = absurd (h.none_refused other i.here)
one_bad name given a b (bad.empty h) (bad.empty i) = refl

-- words have one bad value at most
pub one_bad_value : (words : List (List ℕ)) (a b : ValueName) → IsBadValue words a → IsBadValue words b → a ≡ b
one_bad_value words a b is has =
    let same = same_form words is.name has.name is.arguments has.arguments is.form has.form in
    one_bad is.name (given_by is.arguments) a b is.bad (subst (λ n. IsBad n (given_by is.arguments) b) same.names (subst (λ r. IsBad has.name (given_by r) b) same.all has.bad))
