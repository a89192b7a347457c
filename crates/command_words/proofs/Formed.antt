-- Words have the form of a command in one way.
use Rattle.std.proofs.Common.{◌≡◌, ℕ, ◌+◌, ◌≤◌, List, [], ◌∷◌, ◌++◌, ◌==◌, if◌then◌else◌, All, length, get_or, refl, sym, ◌∙◌, ap, subst, append-nil}
use Rattle.command_words.specs.declared.names.CommandName.{CommandName}
use Rattle.command_words.specs.declared.names.CommandName.TheVariants.{Spec, Oracle, Sample, Pool, Verify, Migrate, Bulk, Point, Chance, Count, Unrank, Rank}
use Rattle.command_words.specs.declared.names.OptionName.{OptionName}
use Rattle.command_words.specs.Words.{Argument, Given, Takes, command_word, words_of, values_of, times_fast, given_by, most_values, most_fast, IsPrintable, HasForm, IsNoCommand}
use Rattle.command_words.specs.Reading.{GivesArguments, GivesForm, IsComplete}
use Rattle.command_words.proofs.Spelled.{ArePlain, goes_on}

-- The command whose word's second and third letters have this sum.
abbrev command_summed : ℕ → CommandName
command_summed n = if n == 213 then Spec else (if n == 211 then Oracle else (if n == 206 then Sample else (if n == 222 then Pool else (if n == 215 then Verify else (if n == 208 then Migrate else (if n == 225 then Bulk else (if n == 216 then Point else (if n == 201 then Chance else (if n == 228 then Count else (if n == 224 then Unrank else Rank))))))))))

-- The command that a word names.
abbrev command_named : List ℕ → CommandName
command_named word = command_summed (get_or word 1 0 + get_or word 2 0)

command_named-word : (name : CommandName) → command_named (command_word name) ≡ name
command_named-word Spec = refl
command_named-word Oracle = refl
command_named-word Sample = refl
command_named-word Pool = refl
command_named-word Verify = refl
command_named-word Migrate = refl
command_named-word Bulk = refl
command_named-word Point = refl
command_named-word Chance = refl
command_named-word Count = refl
command_named-word Unrank = refl
command_named-word Rank = refl

-- no two commands have one word
pub command_word-injective : (a b : CommandName) → command_word a ≡ command_word b → a ≡ b
command_word-injective a b e = sym (command_named-word a) ∙ ap command_named e ∙ command_named-word b

nothing_more : (more : List Argument) → [] ≡ words_of more → more ≡ []
nothing_more [] e = refl
nothing_more (Argument.Positional w ∷ more) e = absurd (cc)
nothing_more (Argument.Setting o v ∷ more) e = absurd (cc)
nothing_more (Argument.Fast ∷ more) e = absurd (cc)

-- words are those of plain arguments in one way
pub same_arguments : (a b : List Argument) → words_of a ≡ words_of b → ArePlain a → ArePlain b → b ≡ a
same_arguments a b e plain_a plain_b =
    let on = goes_on a b [] (append-nil (words_of a) ∙ e) plain_a plain_b in
    on.are ∙ ap (λ m. a ++ m) (nothing_more on.more on.spelled) ∙ append-nil a

-- Two forms of the same words.
pub record AreSame (name other : CommandName) (arguments others : List Argument) : Type 0 where
  pub names : other ≡ name
  pub all : others ≡ arguments

-- words have one form
pub same_form : (words : List (List ℕ)) (name other : CommandName) (arguments others : List Argument) → HasForm words name arguments → HasForm words other others → AreSame name other arguments others
same_form words name other arguments others f g =
    let e : command_word name ∷ words_of arguments ≡ command_word other ∷ words_of others = sym f.spelled ∙ g.spelled in
    let first : command_word name ≡ command_word other = cc in
    let behind : words_of arguments ≡ words_of others = cc in
    record { names = sym (command_word-injective name other first); all = same_arguments arguments others behind f.plain g.plain }

complete_in : {name : CommandName} {given : Given} → Takes name given → IsComplete name given
complete_in t = record { not_too_few = t.not_too_few; not_too_many = t.not_too_many; tape_or_seed = t.tape_or_seed }

taken_by : (name : CommandName) (given : Given) (arguments : List Argument) → given ≡ given_by arguments → IsComplete name given → ((o : OptionName) → length (values_of arguments o) ≤ most_values name o) → times_fast arguments ≤ most_fast name → Takes name (given_by arguments)
taken_by name given arguments is complete options fast =
    let same = subst (λ g. IsComplete name g) is complete in
    record { not_too_few = same.not_too_few; not_too_many = same.not_too_many; options = options; fast = fast; tape_or_seed = same.tape_or_seed }

-- a name and arguments that make what is given complete are the form of words
pub formed : (words : List (List ℕ)) (first : List ℕ) (others : List (List ℕ)) (name : CommandName) (given : Given) → All IsPrintable words → words ≡ first ∷ others → first ≡ command_word name → GivesArguments name others given → IsComplete name given → GivesForm words name given
formed words first others name given printable split named gives complete = record {
  arguments = gives.arguments;
  form = record {
    spelled = split ∙ ap (λ w. w ∷ others) named ∙ ap (λ o. command_word name ∷ o) gives.are.spelled;
    plain = gives.are.plain;
    taken = taken_by name given gives.arguments gives.is complete gives.are.options gives.are.fast;
    printable = printable;
  };
  is = gives.is;
}

-- where they don't, the words have no form
pub not_formed : (words : List (List ℕ)) (first : List ℕ) (others : List (List ℕ)) (name : CommandName) (given : Given) → words ≡ first ∷ others → first ≡ command_word name → GivesArguments name others given → ¬ (IsComplete name given) → IsNoCommand words
not_formed words first others name given split named gives incomplete = record {
  formless = λ other arguments form.
      let e : command_word name ∷ words_of gives.arguments ≡ command_word other ∷ words_of arguments = ap (λ w. w ∷ words_of gives.arguments) (sym named) ∙ ap (λ o. first ∷ o) (sym gives.are.spelled) ∙ sym split ∙ form.spelled in
      let word : command_word name ≡ command_word other = cc in
      let behind : words_of gives.arguments ≡ words_of arguments = cc in
      let same : arguments ≡ gives.arguments = same_arguments gives.arguments arguments behind gives.are.plain form.plain in
      let is : given_by arguments ≡ given = ap given_by same ∙ sym gives.is in
      incomplete (subst (λ g. IsComplete name g) is (subst (λ n. IsComplete n (given_by arguments)) (sym (command_word-injective name other word)) (complete_in form.taken)));
}
