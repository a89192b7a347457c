-- Words have one answer at most.
use Rattle.std.proofs.Common.{◌≡◌, ℕ, ◌+◌, List, [], ◌∷◌, length, refl, sym, ◌∙◌, ap, subst, arith}
use Rattle.std.proofs.Math.Bridge.{le_prop}
use Rattle.std.specs.Prelude.{Ok, Bool, true, false}
use Rattle.bz_model.specs.declared.fraction.Fraction.{Fraction}
use Rattle.bz_model.specs.FractionRead.{ReadsAs}
use Rattle.bz_model.specs.Number.{IsPart, number_value}
use Rattle.bz_model.proofs.Numbers.{one-form}
use Rattle.size_window.specs.declared.limits.Limits.{Limits}
use Rattle.command_words.specs.declared.command.Command.{Command}
use Rattle.command_words.specs.declared.command.FractionBits.{FractionBits}
use Rattle.command_words.specs.declared.command.FractionBits.TheVariants.{F40, F48, F52}
use Rattle.command_words.specs.Fractions.{fraction_bits}
use Rattle.command_words.specs.declared.command.TapeWord.{TapeWord}
use Rattle.command_words.specs.declared.command.TapeWord.TheVariants as tape
use Rattle.command_words.specs.declared.fault.ValueName.{ValueName}
use Rattle.command_words.specs.declared.fault.ValueName.TheVariants as value
use Rattle.command_words.specs.declared.names.CommandName.{CommandName}
use Rattle.command_words.specs.declared.names.CommandName.TheVariants.{Oracle, Sample, Pool, Bulk, Chance, Count, Unrank}
use Rattle.command_words.specs.declared.names.OptionName.TheVariants as option
use Rattle.command_words.specs.Words.{Given, Takes, given_by}
use Rattle.command_words.specs.Values.{StandsFor, IsSet}
use Rattle.command_words.specs.Commands.{IsTape, AreLimitsAsked, AreFractionBits, IsFast, Makes, IsCommand}
use Rattle.command_words.specs.Commands as makes
use Rattle.command_words.proofs.Formed.{same_form}

-- a number that is set is one number
pub same_set : (name : CommandName) (v : ValueName) (default : ℕ) (texts : List (List ℕ)) (n m : ℕ) → IsSet name v default texts n → IsSet name v default texts m → n ≡ m
same_set name v default [] n m h i = h ∙ sym i
same_set name v default (text ∷ others) n m h i = sym h.is_value ∙ i.is_value

is_part-prop : (n : ℕ) → IsProp (IsPart n)
is_part-prop n = hlevel (le_prop)

abbrev fraction_with : (num den : ℕ) → IsPart num → IsPart den → Fraction
fraction_with num den num_in_limits den_in_limits = record { num = num; den = den; num_in_limits = num_in_limits; den_in_limits = den_in_limits }

same_num : (n m den : ℕ) → n ≡ m → (a : IsPart n) (b : IsPart m) (c : IsPart den) → fraction_with n den a c ≡ fraction_with m den b c
same_num n m den e a b c = subst (λ k. (h : IsPart k) → fraction_with n den a c ≡ fraction_with k den h c) e (λ h. ap (λ t. fraction_with n den t c) (is_part-prop n a h)) b

same_den : (num n m : ℕ) → n ≡ m → (a : IsPart num) (b : IsPart n) (c : IsPart m) → fraction_with num n a b ≡ fraction_with num m a c
same_den num n m e a b c = subst (λ k. (h : IsPart k) → fraction_with num n a b ≡ fraction_with num k a h) e (λ h. ap (λ t. fraction_with num n a t) (is_part-prop n b h)) c

-- fractions with the same parts are the same
same_fraction : (x y : Fraction) → x.num ≡ y.num → x.den ≡ y.den → x ≡ y
same_fraction x y num den = same_num x.num y.num x.den num x.num_in_limits y.num_in_limits x.den_in_limits ∙ same_den y.num x.den y.den den y.num_in_limits x.den_in_limits y.den_in_limits

same_x : (text : List ℕ) (x y : Fraction) → ReadsAs text (Ok x) → ReadsAs text (Ok y) → x ≡ y
same_x text x y h i =
    let form = one-form text h.form i.form in
    same_fraction x y (sym h.is_num ∙ ap number_value form.0 ∙ i.is_num) (sym h.is_den ∙ ap number_value form.1 ∙ i.is_den)

same_limits : (name : CommandName) (given : Given) (l m : Limits) → AreLimitsAsked name given l → AreLimitsAsked name given m → l ≡ m
same_limits name given l m h i =
    let min = same_set name value.Min 0 (given.values option.Min) l.min m.min h.min i.min in
    let max = same_set name value.Max 1000 (given.values option.Max) l.max m.max h.max i.max in
    let count = same_set name value.Count 1 (given.values option.Count) l.count m.count h.count i.count in
    let turns = same_set name value.Turns 1000000 (given.values option.Turns) l.turns m.turns h.turns i.turns in
    ap (λ n. record { min = n; max = l.max; count = l.count; turns = l.turns }) min
    ∙ ap (λ n. record { min = m.min; max = n; count = l.count; turns = l.turns }) max
    ∙ ap (λ n. record { min = m.min; max = m.max; count = n; turns = l.turns }) count
    ∙ ap (λ n. record { min = m.min; max = m.max; count = m.count; turns = n }) turns

one-number : (a b : FractionBits) → fraction_bits a ≡ fraction_bits b → a ≡ b
one-number F40 F40 e = refl
one-number F40 F48 e = absurd (omega arith)
one-number F40 F52 e = absurd (omega arith)
one-number F48 F40 e = absurd (omega arith)
one-number F48 F48 e = refl
one-number F48 F52 e = absurd (omega arith)
one-number F52 F40 e = absurd (omega arith)
one-number F52 F48 e = absurd (omega arith)
one-number F52 F52 e = refl

same_bits : (name : CommandName) (given : Given) (a b : FractionBits) → AreFractionBits name given a → AreFractionBits name given b → a ≡ b
same_bits name given a b h i = one-number a b (same_set name value.Fraction 48 (given.values option.Fraction) (fraction_bits a) (fraction_bits b) h.is i.is)

same_fast : (given : Given) (a b : Bool) → IsFast given a → IsFast given b → a ≡ b
same_fast given true true h i = refl
same_fast given true false h i = absurd (omega (arith, h.is, i.is))
same_fast given false true h i = absurd (omega (arith, h.is, i.is))
same_fast given false false h i = refl

same_tape : (given : Given) (t u : TapeWord) → length (given.values option.Tape) + length (given.values option.Seed) ≡ 1 → IsTape given t → IsTape given u → t ≡ u
same_tape given t u one (makes.file w e) (makes.file v h) = cc
same_tape given t u one (makes.file w e) (makes.seed text n h is) = absurd (omega (arith, ap length e, ap length h))
same_tape given t u one (makes.seed text n h is) (makes.file w e) = absurd (omega (arith, ap length e, ap length h))
same_tape given t u one (makes.seed text n e is) (makes.seed other m h has) =
    let P : List ℕ → Type 0 = λ w. StandsFor Sample value.Seed w m in
    let same : other ≡ text = cc in
    let moved : StandsFor Sample value.Seed text m = subst P same has in
    ap tape.Seed (sym is.is_value ∙ moved.is_value)

-- a text stands for one number as a value
same_number : (name : CommandName) (v : ValueName) (text other : List ℕ) (n m : ℕ) → other ≡ text → StandsFor name v text n → StandsFor name v other m → n ≡ m
same_number name v text other n m e h i = sym h.is_value ∙ ap number_value (sym e) ∙ i.is_value

-- what is given makes one command of a name
pub same_made : (given : Given) (name : CommandName) (c d : Command) → Takes name given → Makes given name c → Makes given name d → c ≡ d
same_made given name c d takes (makes.spec f e) (makes.spec g h) = cc
same_made given name c d takes (makes.oracle f t x b e r is) (makes.oracle g u y n h s has) =
    let text : u ≡ t = cc in
    let file : f ≡ g = cc in
    let fraction : x ≡ y = same_x t x y r (subst (λ w. ReadsAs w (Ok y)) text s) in
    let bits : b ≡ n = same_bits Oracle given b n is has in
    cc
same_made given name c d takes (makes.sample f t x v l b p e r v_is l_is is fast) (makes.sample g u y w m n q h s w_is m_is has quick) =
    let text : u ≡ t = cc in
    let file : f ≡ g = cc in
    let fraction : x ≡ y = same_x t x y r (subst (λ w. ReadsAs w (Ok y)) text s) in
    let tape_word : v ≡ w = same_tape given v w (takes.tape_or_seed refl) v_is w_is in
    let same : p ≡ q = same_fast given p q fast quick in
    let limits : l ≡ m = same_limits Sample given l m l_is m_is in
    let bits : b ≡ n = same_bits Sample given b n is has in
    cc
same_made given name c d takes (makes.pool f t p ts x l b e r l_is is) (makes.pool g u q us y m n h s m_is has) =
    let text : u ≡ t = cc in
    let file : f ≡ g = cc in
    let schedule : p ≡ q = cc in
    let tapes : ts ≡ us = cc in
    let fraction : x ≡ y = same_x t x y r (subst (λ w. ReadsAs w (Ok y)) text s) in
    let limits : l ≡ m = same_limits Pool given l m l_is m_is in
    let bits : b ≡ n = same_bits Pool given b n is has in
    cc
same_made given name c d takes (makes.verify f k e) (makes.verify g l h) = cc
same_made given name c d takes (makes.migrate f k e) (makes.migrate g l h) = cc
same_made given name c d takes (makes.bulk t n b e st is) (makes.bulk u m o h su has) =
    let text : u ≡ t = cc in
    let number : n ≡ m = same_number Bulk value.N t u n m text st su in
    let bits : b ≡ o = same_bits Bulk given b o is has in
    cc
same_made given name c d takes (makes.point f e) (makes.point g h) = cc
same_made given name c d takes (makes.chance f t o x b e r is) (makes.chance g u p y n h s has) =
    let text : u ≡ t = cc in
    let file : f ≡ g = cc in
    let object : o ≡ p = cc in
    let fraction : x ≡ y = same_x t x y r (subst (λ w. ReadsAs w (Ok y)) text s) in
    let bits : b ≡ n = same_bits Chance given b n is has in
    cc
same_made given name c d takes (makes.count f t n e st) (makes.count g u m h su) =
    let text : u ≡ t = cc in
    let file : f ≡ g = cc in
    let number : n ≡ m = same_number Count value.N t u n m text st su in
    cc
same_made given name c d takes (makes.unrank f t k n r e st ranked) (makes.unrank g u j m q h su also) =
    let text : u ≡ t = cc in
    let file : f ≡ g = cc in
    let rank_text : j ≡ k = cc in
    let number : n ≡ m = same_number Unrank value.N t u n m text st su in
    let rank : r ≡ q = same_number Unrank value.Rank k j r q rank_text ranked also in
    cc
same_made given name c d takes (makes.rank f o e) (makes.rank g p h) = cc

-- words stand for one command at most
pub one_command : (words : List (List ℕ)) (c d : Command) → IsCommand words c → IsCommand words d → c ≡ d
one_command words c d is has =
    let same = same_form words is.name has.name is.arguments has.arguments is.form has.form in
    let moved : Makes (given_by is.arguments) is.name d = subst (λ n. Makes (given_by is.arguments) n d) same.names (subst (λ a. Makes (given_by a) has.name d) same.all has.made) in
    same_made (given_by is.arguments) is.name c d is.form.taken is.made moved
