-- Words that are read argument by argument, from the front.
use Rattle.std.proofs.Common.{◌≡◌, ℕ, zero, suc, ◌+◌, ◌<◌, ◌≤◌, List, [], ◌∷◌, ◌++◌, length, refl, sym, ◌∙◌, ap, subst, arith, append_assoc, append-nil, length-append, inl, inr, eq-eqb}
use Rattle.std.proofs.Math.Path.{fun_ext}
use Rattle.std.proofs.lemmas.Bool.{cases_eq, ne_eqb}
use Rattle.std.proofs.lemmas.List.Elements.{All-append}
use Rattle.std.specs.Prelude.{Result, Ok, Err, IsErrAnd, IfErr}
use Rattle.command_words.specs.declared.fault.WordsFault.{WordsFault}
use Rattle.command_words.specs.declared.fault.WordsFault.TheVariants.{NotACommand, BadValue, OutOfMemory}
use Rattle.command_words.specs.declared.names.CommandName.{CommandName}
use Rattle.command_words.specs.declared.names.OptionName.{OptionName}
use Rattle.command_words.specs.Words.{Argument, Given, option_word, fast_word, option_number, words_of, places_of, values_of, times_fast, HasPlainText, given_by, most_values, most_fast}
use Rattle.command_words.specs.Words as words
use Rattle.command_words.specs.Reading.{TakesMore, BeginsWithNone, ReadsArgument, AreArguments, GivesArguments, AreNoArguments, IfNoCommand}
use Rattle.command_words.proofs.Options.{option_number-injective}
use Rattle.command_words.proofs.Spelled.{ArePlain, goes_on}

-- the words, positional words and values of arguments behind others stand behind theirs
pub words_of-append : (a b : List Argument) → words_of (a ++ b) ≡ words_of a ++ words_of b
words_of-append [] b = refl
words_of-append (words.Positional w ∷ a) b = ap (λ r. w ∷ r) (words_of-append a b)
words_of-append (words.Setting o v ∷ a) b = ap (λ r. option_word o ∷ v ∷ r) (words_of-append a b)
words_of-append (words.Fast ∷ a) b = ap (λ r. fast_word ∷ r) (words_of-append a b)

pub places_of-append : (a b : List Argument) → places_of (a ++ b) ≡ places_of a ++ places_of b
places_of-append [] b = refl
places_of-append (words.Positional w ∷ a) b = ap (λ r. w ∷ r) (places_of-append a b)
places_of-append (words.Setting o v ∷ a) b = places_of-append a b
places_of-append (words.Fast ∷ a) b = places_of-append a b

pub values_of-append : (a b : List Argument) (asked : OptionName) → values_of (a ++ b) asked ≡ values_of a asked ++ values_of b asked
values_of-append [] b asked = refl
values_of-append (words.Positional w ∷ a) b asked = values_of-append a b asked
values_of-append (words.Fast ∷ a) b asked = values_of-append a b asked
values_of-append (words.Setting o v ∷ a) b asked =
    elim (cases_eq (option_number o) (option_number asked)) [
      | inl same ↦ rw (eq-eqb (option_number o) (option_number asked) same) (ap (λ r. v ∷ r) (values_of-append a b asked))
      | inr other ↦ rw (ne_eqb (option_number o) (option_number asked) other) (values_of-append a b asked)
    ]

-- `--fast` stands among both as often as among the one and the other
pub times_fast-append : (a b : List Argument) → times_fast (a ++ b) ≡ times_fast a + times_fast b
times_fast-append [] b = omega arith
times_fast-append (words.Positional w ∷ a) b = times_fast-append a b
times_fast-append (words.Setting o v ∷ a) b = times_fast-append a b
times_fast-append (words.Fast ∷ a) b = omega (arith, times_fast-append a b)

-- Words have been read as arguments up to some that are left, and what the arguments give has been gathered.
pub record IsScanned (name : CommandName) (all : List (List ℕ)) (given : Given) (rest : List (List ℕ)) : Type 0 where
  pub arguments : List Argument
  pub spelled : all ≡ words_of arguments ++ rest
  pub plain : ArePlain arguments
  pub options : (option : OptionName) → length (values_of arguments option) ≤ most_values name option
  pub places : given.places ≡ places_of arguments
  pub values : (option : OptionName) → given.values option ≡ values_of arguments option
  pub fast : given.fast ≡ times_fast arguments
  pub at_most : times_fast arguments ≤ most_fast name

-- nothing has been read at first
pub scanned_none : (name : CommandName) (all : List (List ℕ)) (given : Given) → given.places ≡ [] → ((option : OptionName) → given.values option ≡ []) → given.fast ≡ 0 → IsScanned name all given all
scanned_none name all given places values fast = record { arguments = []; spelled = refl; plain = λ k d lt. absurd (omega arith); options = λ o. omega arith; places = places; values = values; fast = fast; at_most = omega arith }

-- an option is given no more than it may be, where an argument is taken
within : (name : CommandName) (given : Given) (a : Argument) (o : OptionName) → TakesMore name given a → length (given.values o) ≤ most_values name o → length (given.values o ++ values_of (a ∷ []) o) ≤ most_values name o
within name given (words.Positional w) o taken before = rw (append-nil (given.values o)) before
within name given words.Fast o taken before = rw (append-nil (given.values o)) before
within name given (words.Setting p v) o taken before =
    elim (cases_eq (option_number p) (option_number o)) [
      | inl same ↦
          let are : p ≡ o = option_number-injective p o same in
          rw (eq-eqb (option_number p) (option_number o) same) (subst (λ q. length (given.values o ++ v ∷ []) ≤ most_values name q) are (omega (arith, length-append (given.values o) (v ∷ []), subst (λ q. length (given.values q) < most_values name p) are taken)))
      | inr other ↦ rw (ne_eqb (option_number p) (option_number o) other, append-nil (given.values o)) before
    ]

-- so is `--fast`
fast-within : (name : CommandName) (given : Given) (a : Argument) → TakesMore name given a → given.fast ≤ most_fast name → given.fast + times_fast (a ∷ []) ≤ most_fast name
fast-within name given (words.Positional w) taken before = omega (arith, before)
fast-within name given (words.Setting p v) taken before = omega (arith, before)
fast-within name given words.Fast taken before = omega (arith, taken)

plain-one : (a : Argument) → HasPlainText a → ArePlain (a ∷ [])
plain-one a h zero d lt = h
plain-one a h (suc k) d lt = absurd (omega arith)

-- an argument more
pub scanned_more : (name : CommandName) (all : List (List ℕ)) (old new : Given) (front rest : List (List ℕ)) → IsScanned name all old front → ReadsArgument name old new front rest → IsScanned name all new rest
scanned_more name all old new front rest s r =
    let one : List Argument = r.argument ∷ [] in
    record {
      arguments = s.arguments ++ one;
      spelled = s.spelled ∙ ap (λ r. words_of s.arguments ++ r) r.front.spelled ∙ sym (append_assoc (words_of s.arguments) (words_of one) rest) ∙ ap (λ w. w ++ rest) (sym (words_of-append s.arguments one));
      plain = All-append HasPlainText s.arguments one s.plain (plain-one r.argument r.front.plain);
      options = λ o.
          let before : length (old.values o) ≤ most_values name o = rw (s.values o) (s.options o) in
          rw (values_of-append s.arguments one o, ← s.values o) (within name old r.argument o r.front.taken before);
      places = r.added.places ∙ ap (λ p. p ++ places_of one) s.places ∙ sym (places_of-append s.arguments one);
      values = λ o. r.added.values o ∙ ap (λ v. v ++ values_of one o) (s.values o) ∙ sym (values_of-append s.arguments one o);
      fast = r.added.fast ∙ ap (λ n. n + times_fast one) s.fast ∙ sym (times_fast-append s.arguments one);
      at_most = rw (times_fast-append s.arguments one, ← s.fast) (fast-within name old r.argument r.front.taken (rw (s.fast) s.at_most));
    }

same_given : (a b : Given) → a.places ≡ b.places → a.values ≡ b.values → a.fast ≡ b.fast → a ≡ b
same_given a b places values fast =
    let with_places : List (List ℕ) → Given = λ p. record { places = p; values = a.values; fast = a.fast } in
    let with_values : (OptionName → List (List ℕ)) → Given = λ v. record { places = b.places; values = v; fast = a.fast } in
    let with_fast : ℕ → Given = λ n. record { places = b.places; values = b.values; fast = n } in
    ap with_places places ∙ ap with_values values ∙ ap with_fast fast

-- all has been read
pub scanned_all : (name : CommandName) (all : List (List ℕ)) (given : Given) → IsScanned name all given [] → GivesArguments name all given
scanned_all name all given s = record {
  arguments = s.arguments;
  are = record { spelled = s.spelled ∙ append-nil (words_of s.arguments); plain = s.plain; options = s.options; fast = s.at_most };
  is = same_given given (given_by s.arguments) s.places (fun_ext s.values) s.fast;
}

plain-at : (front : List Argument) (a : Argument) (more : List Argument) → ArePlain (front ++ a ∷ more) → HasPlainText a
plain-at [] a more h = h 0 a (omega arith)
plain-at (b ∷ front) a more h = plain-at front a more (λ k d lt. h (suc k) d (omega arith))

-- an argument among others is one that the command takes beside those in front of it
more_taken : (name : CommandName) (given : Given) (front : List Argument) (a : Argument) (more : List Argument) → ((o : OptionName) → given.values o ≡ values_of front o) → ((o : OptionName) → length (values_of (front ++ a ∷ more) o) ≤ most_values name o) → given.fast ≡ times_fast front → times_fast (front ++ a ∷ more) ≤ most_fast name → TakesMore name given a
more_taken name given front (words.Positional w) more values options fast at_most = tt
more_taken name given front words.Fast more values options fast at_most = omega (arith, fast, times_fast-append front (words.Fast ∷ more), at_most)
more_taken name given front (words.Setting p v) more values options fast at_most =
    let all = values_of-append front (words.Setting p v ∷ more) p in
    let here : values_of (words.Setting p v ∷ more) p ≡ v ∷ values_of more p = rw (eq-eqb (option_number p) (option_number p) refl) refl in
    let long : length (values_of front p ++ v ∷ values_of more p) ≤ most_values name p = subst (λ r. length (values_of front p ++ r) ≤ most_values name p) here (subst (λ r. length r ≤ most_values name p) all (options p)) in
    rw (values p) (omega (arith, length-append (values_of front p) (v ∷ values_of more p), long))

next_none : (name : CommandName) (given : Given) (w : List ℕ) (rest : List (List ℕ)) (front arguments more : List Argument) {all : List (List ℕ)} → arguments ≡ front ++ more → w ∷ rest ≡ words_of more → AreArguments name all arguments → BeginsWithNone name given (w ∷ rest) → ((option : OptionName) → given.values option ≡ values_of front option) → given.fast ≡ times_fast front → ⊥
next_none name given w rest front arguments [] joined spelled are h values fast = absurd (cc)
next_none name given w rest front arguments (a ∷ more) joined spelled are h values fast =
    h.nothing a (words_of more) (record {
      spelled = spelled ∙ words_of-append (a ∷ []) more;
      plain = plain-at front a more (subst ArePlain joined are.plain);
      taken = more_taken name given front a more values (λ o. subst (λ r. length (values_of r o) ≤ most_values name o) joined (are.options o)) fast (subst (λ r. times_fast r ≤ most_fast name) joined are.fast);
    })

-- what is left begins with no argument
pub scanned_nothing : (name : CommandName) (all : List (List ℕ)) (given : Given) (w : List ℕ) (rest : List (List ℕ)) → IsScanned name all given (w ∷ rest) → BeginsWithNone name given (w ∷ rest) → AreNoArguments name all
scanned_nothing name all given w rest s h = record {
  nothing = λ arguments are.
      let next = goes_on s.arguments arguments (w ∷ rest) (sym s.spelled ∙ are.spelled) s.plain are.plain in
      next_none name given w rest s.arguments arguments next.more next.are next.spelled are h s.values s.fast;
}

-- a refusal that says one thing says what follows from it
pub weaker : (fault : WordsFault) {says then : Type 0} → (says → then) → IfNoCommand fault says → IfNoCommand fault then
weaker NotACommand follows said = follows said
weaker (BadValue refused) follows said = said
weaker OutOfMemory follows said = tt

-- so does one that is handed on
pub handed_on : {T : Type 0} (r : Result T WordsFault) (fault : WordsFault) {says then : Type 0} → IsErrAnd r (λ f. f ≡ fault) → IfNoCommand fault says → (says → then) → IfErr r (λ f. IfNoCommand f then)
handed_on (Ok x) fault is said follows = absurd is
handed_on (Err f) fault {says} {then} is said follows = let P : WordsFault → Type 0 = λ f. IfNoCommand f then in subst P (sym is) (weaker fault follows said)
