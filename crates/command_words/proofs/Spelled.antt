-- Words are those of arguments in one way, and arguments are read from the front.
use Rattle.std.proofs.Common.{◌≡◌, ◌≢◌, ℕ, suc, List, [], ◌∷◌, ◌++◌, All, get_or, ◌==◌, if◌then◌else◌, refl, sym, ◌∙◌, ap, subst, arith}
use Rattle.command_words.specs.declared.names.OptionName.{OptionName}
use Rattle.command_words.specs.declared.names.OptionName.TheVariants.{Tape, Seed, Min, Max, Count, Turns, Fraction}
use Rattle.command_words.specs.Words.{Argument, option_word, fast_word, words_of, IsPlainWord, HasPlainText}
use Rattle.command_words.specs.Words as words

-- The option whose word has this letter at its fifth place.
abbrev option_named : List ℕ → OptionName
option_named word = if get_or word 4 0 == 112 then Tape else (if get_or word 4 0 == 101 then Seed else (if get_or word 4 0 == 110 then Min else (if get_or word 4 0 == 120 then Max else (if get_or word 4 0 == 117 then Count else (if get_or word 4 0 == 114 then Turns else Fraction)))))

option_named-word : (o : OptionName) → option_named (option_word o) ≡ o
option_named-word Tape = refl
option_named-word Seed = refl
option_named-word Min = refl
option_named-word Max = refl
option_named-word Count = refl
option_named-word Turns = refl
option_named-word Fraction = refl

-- no two options have one word
pub option_word-injective : (o p : OptionName) → option_word o ≡ option_word p → o ≡ p
option_word-injective o p e = sym (option_named-word o) ∙ ap option_named e ∙ option_named-word p

-- the word of an option begins with `-`
pub option_word-not_plain : (o : OptionName) → ¬ (IsPlainWord (option_word o))
option_word-not_plain Tape h = h.plain refl
option_word-not_plain Seed h = h.plain refl
option_word-not_plain Min h = h.plain refl
option_word-not_plain Max h = h.plain refl
option_word-not_plain Count h = h.plain refl
option_word-not_plain Turns h = h.plain refl
option_word-not_plain Fraction h = h.plain refl

-- so does `--fast`, which is the word of no option
fast_word-not_plain : ¬ (IsPlainWord fast_word)
fast_word-not_plain h = h.plain refl

fast_word-no_option : (o : OptionName) → option_word o ≢ fast_word
fast_word-no_option Tape e = absurd (omega (arith, ap (λ w. get_or w 4 0) e))
fast_word-no_option Seed e = absurd (omega (arith, ap (λ w. get_or w 4 0) e))
fast_word-no_option Min e = absurd (omega (arith, ap (λ w. get_or w 4 0) e))
fast_word-no_option Max e = absurd (omega (arith, ap (λ w. get_or w 4 0) e))
fast_word-no_option Count e = absurd (omega (arith, ap (λ w. get_or w 4 0) e))
fast_word-no_option Turns e = absurd (omega (arith, ap (λ w. get_or w 4 0) e))
fast_word-no_option Fraction e = absurd (omega (arith, ap (λ w. get_or w 4 0) e))

not_fast : (w : List ℕ) → IsPlainWord w → w ≢ fast_word
not_fast w h e = fast_word-not_plain (subst IsPlainWord e h)

not_option : (w : List ℕ) (o : OptionName) → IsPlainWord w → w ≢ option_word o
not_option w o h e = option_word-not_plain o (subst IsPlainWord e h)

-- Each argument is plain.
abbrev pub ArePlain : List Argument → Type 0
ArePlain arguments = All HasPlainText arguments

plain-first : (a : Argument) (arguments : List Argument) → ArePlain (a ∷ arguments) → HasPlainText a
plain-first a arguments h = h 0 a (omega arith)

plain-others : (a : Argument) (arguments : List Argument) → ArePlain (a ∷ arguments) → ArePlain arguments
plain-others a arguments h = λ k d lt. h (suc k) d (omega arith)

-- The words of arguments go on as those of others.
pub record GoesOn (front all : List Argument) (rest : List (List ℕ)) : Type 0 where
  pub more : List Argument
  pub are : all ≡ front ++ more
  pub spelled : rest ≡ words_of more

-- where words begin as those of plain arguments, and all are those of plain arguments, these begin with them
pub goes_on : (front all : List Argument) (rest : List (List ℕ)) → words_of front ++ rest ≡ words_of all → ArePlain front → ArePlain all → GoesOn front all rest
goes_on [] all rest e plain plain_all = record { more = all; are = refl; spelled = e }
goes_on (words.Positional w ∷ front) [] rest e plain plain_all = absurd (cc)
goes_on (words.Setting o v ∷ front) [] rest e plain plain_all = absurd (cc)
goes_on (words.Fast ∷ front) [] rest e plain plain_all = absurd (cc)
goes_on (words.Positional w ∷ front) (words.Positional u ∷ all) rest e plain plain_all =
    let next = goes_on front all rest (cc) (plain-others (words.Positional w) front plain) (plain-others (words.Positional u) all plain_all) in
    record { more = next.more; are = (let same : w ≡ u = cc in let are = next.are in cc); spelled = next.spelled }
goes_on (words.Positional w ∷ front) (words.Setting p u ∷ all) rest e plain plain_all = absurd (not_option w p (plain-first (words.Positional w) front plain) (cc))
goes_on (words.Setting o v ∷ front) (words.Positional u ∷ all) rest e plain plain_all = absurd (not_option u o (plain-first (words.Positional u) all plain_all) (cc))
goes_on (words.Setting o v ∷ front) (words.Setting p u ∷ all) rest e plain plain_all =
    let next = goes_on front all rest (cc) (plain-others (words.Setting o v) front plain) (plain-others (words.Setting p u) all plain_all) in
    let same = option_word-injective o p (cc) in
    record { more = next.more; are = (let value : v ≡ u = cc in let are = next.are in cc); spelled = next.spelled }
goes_on (words.Positional w ∷ front) (words.Fast ∷ all) rest e plain plain_all = absurd (not_fast w (plain-first (words.Positional w) front plain) (cc))
goes_on (words.Fast ∷ front) (words.Positional u ∷ all) rest e plain plain_all = absurd (not_fast u (plain-first (words.Positional u) all plain_all) (cc))
goes_on (words.Setting o v ∷ front) (words.Fast ∷ all) rest e plain plain_all = absurd (fast_word-no_option o (cc))
goes_on (words.Fast ∷ front) (words.Setting p u ∷ all) rest e plain plain_all = absurd (fast_word-no_option p (cc))
goes_on (words.Fast ∷ front) (words.Fast ∷ all) rest e plain plain_all =
    let next = goes_on front all rest (cc) (plain-others words.Fast front plain) (plain-others words.Fast all plain_all) in
    record { more = next.more; are = (let are = next.are in cc); spelled = next.spelled }
