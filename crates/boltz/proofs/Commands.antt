-- What words stand for, why they stand for none, and which limits a drawing has.
use Rattle.std.proofs.Common.{length, ◌+◌, Bool, ◌≡◌, ◌≢◌, ℕ, ◌≤◌, ◌⊎◌, List, [], ◌∷◌, refl, ap, arith, inl, inr}
use Rattle.size_window.specs.Drawing.{AreLimits as AreWithin, limits_of}
use Rattle.size_window.specs.declared.limits.Limits.{Limits}
use Rattle.command_words.specs.Values.{IsSet}
use Rattle.command_words.specs.Words.{Given, Takes}
use Rattle.command_words.specs.Commands.{AreLimitsAsked, Makes, IsCommand, RefusesWords}
use Rattle.command_words.specs.Commands as makes
use Rattle.command_words.specs.declared.command.Command.{Command}
use Rattle.command_words.specs.declared.command.Command.TheVariants as command
use Rattle.command_words.specs.declared.command.FractionBits.{FractionBits}
use Rattle.command_words.specs.declared.command.TapeWord.{TapeWord}
use Rattle.command_words.specs.declared.fault.ValueName.TheVariants as value
use Rattle.command_words.specs.declared.fault.WordsFault.{WordsFault}
use Rattle.command_words.specs.declared.fault.WordsFault.TheVariants.{NotACommand, BadValue, OutOfMemory}
use Rattle.command_words.specs.declared.names.CommandName.{CommandName}
use Rattle.command_words.specs.declared.names.CommandName.TheVariants.{Sample, Pool}
use Rattle.command_words.specs.declared.names.OptionName.TheVariants as option
use Rattle.command_words.proofs.Excluded.{no_bad_value, one_bad_value}
use Rattle.boltz.specs.Commands.{IsStoodFor}
use Rattle.bz_model.specs.declared.fraction.Fraction.{Fraction}

-- words that stand for a command aren't refused
pub not-refused : (words : List (List ℕ)) (c : Command) (fault : WordsFault) → IsCommand words c → fault ≢ OutOfMemory → ¬ (RefusesWords words fault)
not-refused words c NotACommand is memory refuses = refuses.formless is.name is.arguments is.form
not-refused words c (BadValue name) is memory refuses = no_bad_value words c name is refuses
not-refused words c OutOfMemory is memory refuses = memory refl

-- words are refused in one way
pub one-fault : (words : List (List ℕ)) (a b : WordsFault) → a ≢ OutOfMemory → b ≢ OutOfMemory → RefusesWords words a → RefusesWords words b → a ≡ b
one-fault words OutOfMemory b m n h i = absurd (m refl)
one-fault words NotACommand OutOfMemory m n h i = absurd (n refl)
one-fault words (BadValue v) OutOfMemory m n h i = absurd (n refl)
one-fault words NotACommand NotACommand m n h i = refl
one-fault words NotACommand (BadValue v) m n h i = absurd (h.formless i.name i.arguments i.form)
one-fault words (BadValue v) NotACommand m n h i = absurd (i.formless h.name h.arguments h.form)
one-fault words (BadValue v) (BadValue u) m n h i = ap BadValue (one_bad_value words v u h i)

-- The limits of a drawing, the number of a run and a size are within those that the command takes.
abbrev HasLimits : Command → Type 0
HasLimits (command.Sample file x word limits F fast) = AreWithin (limits_of limits)
HasLimits (command.Pool file x schedule tapes limits F) = AreWithin (limits_of limits) × ((1 ≤ length tapes) × (length tapes ≤ 64))
HasLimits (command.Bulk n F) = (1 ≤ n) × (n ≤ 1000)
HasLimits (command.Count file n) = n ≤ 500
HasLimits (command.Unrank file n number) = n ≤ 500
HasLimits other = Unit {0}

set-max : (name : CommandName) (texts : List (List ℕ)) (n : ℕ) → IsSet name value.Max 1000 texts n → n ≤ 1000000
set-max name [] n set = omega (arith, set)
set-max name (text ∷ others) n set = set.within

set-count : (name : CommandName) (texts : List (List ℕ)) (n : ℕ) → IsSet name value.Count 1 texts n → (1 ≤ n) × (n ≤ 100000)
set-count name [] n set = (omega (arith, set), omega (arith, set))
set-count name (text ∷ others) n set = set.within

set-turns : (name : CommandName) (texts : List (List ℕ)) (n : ℕ) → IsSet name value.Turns 1000000 texts n → (1 ≤ n) × (n ≤ 50000000)
set-turns name [] n set = (omega (arith, set), omega (arith, set))
set-turns name (text ∷ others) n set = set.within

are-within : (name : CommandName) (given : Given) (limits : Limits) → AreLimitsAsked name given limits → AreWithin (limits_of limits)
are-within name given limits are =
    let count = set-count name (given.values option.Count) limits.count are.count in
    let turns = set-turns name (given.values option.Turns) limits.turns are.turns in
    record { window = are.window; max = set-max name (given.values option.Max) limits.max are.max; some = count.0; count = count.1; some_turns = turns.0; turns = turns.1 }

some-tapes : (f t p : List ℕ) (ts places : List (List ℕ)) → places ≡ f ∷ t ∷ p ∷ ts → 4 ≤ length places → length places ≤ 67 → (1 ≤ length ts) × (length ts ≤ 64)
some-tapes f t p ts places e few many =
    let n : length places ≡ length (f ∷ t ∷ p ∷ ts) = ap length e in
    (omega (arith, n, few), omega (arith, n, many))

has-limits : (given : Given) (name : CommandName) (c : Command) → Takes name given → Makes given name c → HasLimits c
has-limits given name c takes (makes.sample f t x w l b q e r w_is l_is is fast) = are-within Sample given l l_is
has-limits given name c takes (makes.spec f e) = tt
has-limits given name c takes (makes.oracle f t x b e r is) = tt
has-limits given name c takes (makes.pool f t p ts x l b e r l_is is) = (are-within Pool given l l_is, some-tapes f t p ts given.places e takes.not_too_few takes.not_too_many)
has-limits given name c takes (makes.verify f k e) = tt
has-limits given name c takes (makes.migrate f k e) = tt
has-limits given name c takes (makes.bulk t n b e st is) = st.within
has-limits given name c takes (makes.point f e) = tt
has-limits given name c takes (makes.chance f t o x b e r is) = tt
has-limits given name c takes (makes.count f t n e st) = st.within
has-limits given name c takes (makes.unrank f t k n number e st ranked) = st.within
has-limits given name c takes (makes.rank f o e) = tt

-- A sample command that some words stand for has limits within those of a drawing.
pub sample_limits : (file : List ℕ) (x : Fraction) (word : TapeWord) (limits : Limits) (F : FractionBits) (fast : Bool) → IsStoodFor (command.Sample file x word limits F fast) → AreWithin (limits_of limits)
sample_limits file x word limits F fast h = has-limits _ _ (command.Sample file x word limits F fast) h.is.form.taken h.is.made

-- A bulk command that some words stand for has a number from 1 to 1000.
pub bulk_limits : (n : ℕ) (F : FractionBits) → IsStoodFor (command.Bulk n F) → (1 ≤ n) × (n ≤ 1000)
bulk_limits n F h = has-limits _ _ (command.Bulk n F) h.is.form.taken h.is.made

-- A count command that some words stand for has a greatest size of at most 500.
pub count_limit : (file : List ℕ) (n : ℕ) → IsStoodFor (command.Count file n) → n ≤ 500
count_limit file n h = has-limits _ _ (command.Count file n) h.is.form.taken h.is.made

-- An unrank command that some words stand for has a size of at most 500.
pub unrank_limit : (file : List ℕ) (n number : ℕ) → IsStoodFor (command.Unrank file n number) → n ≤ 500
unrank_limit file n number h = has-limits _ _ (command.Unrank file n number) h.is.form.taken h.is.made

-- A pool command that some words stand for has limits within those of a drawing, and from 1 to 64
-- tapes.
pub pool_limits : (file : List ℕ) (x : Fraction) (schedule : List ℕ) (tapes : List (List ℕ)) (limits : Limits) (F : FractionBits) → IsStoodFor (command.Pool file x schedule tapes limits F) → AreWithin (limits_of limits) × ((1 ≤ length tapes) × (length tapes ≤ 64))
pool_limits file x schedule tapes limits F h = has-limits _ _ (command.Pool file x schedule tapes limits F) h.is.form.taken h.is.made
