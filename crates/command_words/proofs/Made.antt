-- The command that is made of what is given.
use Rattle.std.proofs.Common.{◌≡◌, ℕ, ◌+◌, ◌⊎◌, inl, inr, List, [], ◌∷◌, length, refl, sym, ◌∙◌, ap, subst, arith}
use Rattle.std.specs.Prelude.{Option, Some, Ok, Bool}
use Rattle.bz_model.specs.declared.fraction.Fraction.{Fraction}
use Rattle.bz_model.specs.FractionRead.{ReadsAs}
use Rattle.command_words.specs.declared.command.Command.TheVariants as command
use Rattle.command_words.specs.declared.command.TapeWord.{TapeWord}
use Rattle.command_words.specs.declared.command.TapeWord.TheVariants as tape
use Rattle.command_words.specs.declared.fault.ValueName.TheVariants as value
use Rattle.command_words.specs.declared.names.CommandName.{CommandName}
use Rattle.command_words.specs.declared.names.CommandName.TheVariants.{Spec, Oracle, Sample, Pool, Verify, Migrate, Bulk, Point, Chance, Count, Unrank, Rank}
use Rattle.command_words.specs.declared.names.OptionName.TheVariants as option
use Rattle.command_words.specs.declared.values.Values.{Values}
use Rattle.command_words.specs.Words.{Given, Takes}
use Rattle.command_words.specs.Values.{IsSet, x_among, n_among, rank_among}
use Rattle.command_words.specs.Commands.{IsTape, AreFractionBits, IsFast, Makes}
use Rattle.command_words.specs.Commands as makes
use Rattle.command_words.specs.Reading.{IsX, AreValues}

-- a list without length is empty
pub empty : (xs : List (List ℕ)) → length xs ≡ 0 → xs ≡ []
empty [] e = refl
empty (x ∷ xs) e = absurd (omega arith)

-- where a command has as many positional words as were taken out, none is left
one_place : (places : List (List ℕ)) (file : List ℕ) (rest : List (List ℕ)) → length places ≡ 1 → places ≡ file ∷ rest → places ≡ file ∷ []
one_place places file rest long e = e ∙ ap (λ r. file ∷ r) (empty rest (omega (arith, ap length e)))

two_places : (places : List (List ℕ)) (file second : List ℕ) (first_rest rest : List (List ℕ)) → length places ≡ 2 → places ≡ file ∷ first_rest → first_rest ≡ second ∷ rest → places ≡ file ∷ second ∷ []
two_places places file second first_rest rest long e f =
    e ∙ ap (λ r. file ∷ r) f ∙ ap (λ r. file ∷ second ∷ r) (empty rest (omega (arith, ap length e, ap length f)))

-- What `spec` takes, a file, makes the command `spec` with it.
pub made-spec : (given : Given) (file : List ℕ) (rest : List (List ℕ)) → Takes Spec given → given.places ≡ file ∷ rest → Makes given Spec (command.Spec file)
made-spec given file rest taken e = makes.spec file (one_place given.places file rest (omega (arith, taken.not_too_few, taken.not_too_many)) e)

-- What `verify` takes, a file and a certificate, makes the command `verify` with these.
pub made-verify : (given : Given) (file cert : List ℕ) (first_rest rest : List (List ℕ)) → Takes Verify given → given.places ≡ file ∷ first_rest → first_rest ≡ cert ∷ rest → Makes given Verify (command.Verify file cert)
made-verify given file cert first_rest rest taken e f = makes.verify file cert (two_places given.places file cert first_rest rest (omega (arith, taken.not_too_few, taken.not_too_many)) e f)

-- What `migrate` takes, a file and a certificate, makes the command `migrate` with these.
pub made-migrate : (given : Given) (file cert : List ℕ) (first_rest rest : List (List ℕ)) → Takes Migrate given → given.places ≡ file ∷ first_rest → first_rest ≡ cert ∷ rest → Makes given Migrate (command.Migrate file cert)
made-migrate given file cert first_rest rest taken e f = makes.migrate file cert (two_places given.places file cert first_rest rest (omega (arith, taken.not_too_few, taken.not_too_many)) e f)

-- the text reads as the x that was read of it
reads_x : (text : List ℕ) (x : Option Fraction) (y : Fraction) → IsX (text ∷ []) x → x ≡ Some y → ReadsAs text (Ok y)
reads_x text x y is e = let P : Option Fraction → Type 0 = IsX (text ∷ []) in subst P e is

-- The positional words are a file and the text of an x.
record HasX (places : List (List ℕ)) (file : List ℕ) (x : Fraction) : Type 0 where
  text : List ℕ
  are : places ≡ file ∷ text ∷ []
  reads : ReadsAs text (Ok x)

-- this is so where there are two, and the x was read of the second
has_x : (places : List (List ℕ)) (file : List ℕ) (rest : List (List ℕ)) (x : Option Fraction) (y : Fraction) → length places ≡ 2 → places ≡ file ∷ rest → IsX (x_among Oracle places) x → x ≡ Some y → HasX places file y
has_x [] file rest x y long e is known = absurd (omega arith)
has_x (a ∷ []) file rest x y long e is known = absurd (omega arith)
has_x (a ∷ b ∷ []) file rest x y long e is known = let same : a ≡ file = cc in record { text = b; are = ap (λ f. f ∷ b ∷ []) same; reads = reads_x b x y is known }
has_x (a ∷ b ∷ c ∷ places) file rest x y long e is known = absurd (omega arith)

-- What `oracle` takes, a file and an x that is read as a fraction, makes the command `oracle` with
-- these.
pub made-oracle : (given : Given) (values : Values) (file : List ℕ) (rest : List (List ℕ)) (x : Fraction) → Takes Oracle given → AreValues Oracle given values → given.places ≡ file ∷ rest → values.x ≡ Some x → Makes given Oracle (command.Oracle file x values.fraction)
made-oracle given values file rest x taken are e known =
    let two = has_x given.places file rest values.x x (omega (arith, taken.not_too_few, taken.not_too_many)) e are.x known in
    makes.oracle file two.text x values.fraction two.are two.reads are.fraction

-- What `sample` takes, a file and an x that is read as a fraction, with its bits and whether it is
-- fast, makes this command.
pub made-sample : (given : Given) (values : Values) (file : List ℕ) (rest : List (List ℕ)) (x : Fraction) (bits : TapeWord) (fast : Bool) → Takes Sample given → AreValues Sample given values → given.places ≡ file ∷ rest → values.x ≡ Some x → IsTape given bits → IsFast given fast → Makes given Sample (command.Sample file x bits values.limits values.fraction fast)
made-sample given values file rest x bits fast taken are e known is_tape is_fast =
    let two = has_x given.places file rest values.x x (omega (arith, taken.not_too_few, taken.not_too_many)) e are.x known in
    makes.sample file two.text x bits values.limits values.fraction fast two.are two.reads is_tape are.limits are.fraction is_fast

-- A file, an x that is read as a fraction, a schedule and tapes make the command `pool`, with its
-- limits and fraction bits.
pub made-pool : (given : Given) (values : Values) (file text schedule : List ℕ) (behind_file behind_x tapes : List (List ℕ)) (x : Fraction) → AreValues Pool given values → given.places ≡ file ∷ behind_file → behind_file ≡ text ∷ behind_x → behind_x ≡ schedule ∷ tapes → values.x ≡ Some x → Makes given Pool (command.Pool file x schedule tapes values.limits values.fraction)
made-pool given values file text schedule behind_file behind_x tapes x are e f g known =
    let places : given.places ≡ file ∷ text ∷ schedule ∷ tapes = e ∙ ap (λ r. file ∷ r) f ∙ ap (λ r. file ∷ text ∷ r) g in
    let P : List (List ℕ) → Type 0 = λ p. IsX (x_among Pool p) values.x in
    makes.pool file text schedule tapes x values.limits values.fraction places (reads_x text values.x x (subst P places are.x) known) are.limits are.fraction

-- the tape of a sample, or its seed where there is none
pub tape-file : (given : Given) (word tape_word : List ℕ) → tape_word ∷ [] ≡ given.values option.Tape → word ≡ tape_word → IsTape given (tape.File word)
tape-file given word tape_word e same = makes.file word (sym e ∙ ap (λ w. w ∷ []) (sym same))

seeded : (given : Given) (seeds : List (List ℕ)) (seed : ℕ) → given.values option.Seed ≡ seeds → length seeds ≡ 1 → IsSet Sample value.Seed 0 seeds seed → IsTape given (tape.Seed seed)
seeded given [] seed e long set = absurd (omega arith)
seeded given (text ∷ []) seed e long set = makes.seed text seed e set
seeded given (text ∷ other ∷ seeds) seed e long set = absurd (omega arith)

-- Where no tape is given, but one of tape and seed is, a sample's bits are those of the seed that
-- is read.
pub tape-seed : (given : Given) (seed : ℕ) → [] ≡ given.values option.Tape → length (given.values option.Tape) + length (given.values option.Seed) ≡ 1 → IsSet Sample value.Seed 0 (given.values option.Seed) seed → IsTape given (tape.Seed seed)
tape-seed given seed none one set = seeded given (given.values option.Seed) seed refl (omega (arith, ap length none)) set

-- fraction bits that are set are 40, 48 or 52
pub set-bits : (name : CommandName) (texts : List (List ℕ)) (n : ℕ) → IsSet name value.Fraction 48 texts n → (n ≡ 40) ⊎ (n ≡ 48) ⊎ (n ≡ 52)
set-bits name [] n set = inr (inl set)
set-bits name (text ∷ others) n set = set.within

bulk_of : (given : Given) (values : Values) (places : List (List ℕ)) → given.places ≡ places → length places ≡ 1 → IsSet Bulk value.N 0 (n_among Bulk places) values.n → AreFractionBits Bulk given values.fraction → Makes given Bulk (command.Bulk values.n values.fraction)
bulk_of given values [] e long set bits = absurd (omega arith)
bulk_of given values (text ∷ []) e long set bits = makes.bulk text values.n values.fraction e set bits
bulk_of given values (text ∷ other ∷ places) e long set bits = absurd (omega arith)

-- What `bulk` takes makes the command `bulk`, with the n and the fraction bits that are read from
-- it.
pub made-bulk : (given : Given) (name : CommandName) (values : Values) → name ≡ Bulk → Takes name given → AreValues name given values → Makes given name (command.Bulk values.n values.fraction)
made-bulk given name values is taken are =
    let bulk_takes = subst (λ n. Takes n given) is taken in
    let bulk_has = subst (λ n. AreValues n given values) is are in
    subst (λ n. Makes given n (command.Bulk values.n values.fraction)) (sym is) (bulk_of given values given.places refl (omega (arith, bulk_takes.not_too_few, bulk_takes.not_too_many)) bulk_has.n bulk_has.fraction)

-- What `point` takes, a file, makes the command `point` with it.
pub made-point : (given : Given) (file : List ℕ) (rest : List (List ℕ)) → Takes Point given → given.places ≡ file ∷ rest → Makes given Point (command.Point file)
made-point given file rest taken e = makes.point file (one_place given.places file rest (omega (arith, taken.not_too_few, taken.not_too_many)) e)

-- What `rank` takes, a file and an object, makes the command `rank` with these.
pub made-rank : (given : Given) (file object : List ℕ) (first_rest rest : List (List ℕ)) → Takes Rank given → given.places ≡ file ∷ first_rest → first_rest ≡ object ∷ rest → Makes given Rank (command.Rank file object)
made-rank given file object first_rest rest taken e f = makes.rank file object (two_places given.places file object first_rest rest (omega (arith, taken.not_too_few, taken.not_too_many)) e f)

-- What `chance` takes, a file, an x that is read as a fraction and an object, makes the command
-- `chance` with these.
pub made-chance : (given : Given) (values : Values) (file text object : List ℕ) (behind_file behind_x rest : List (List ℕ)) (x : Fraction) → Takes Chance given → AreValues Chance given values → given.places ≡ file ∷ behind_file → behind_file ≡ text ∷ behind_x → behind_x ≡ object ∷ rest → values.x ≡ Some x → Makes given Chance (command.Chance file x object values.fraction)
made-chance given values file text object behind_file behind_x rest x taken are e f g known =
    let long : length given.places ≡ 3 = omega (arith, taken.not_too_few, taken.not_too_many) in
    let none : rest ≡ [] = empty rest (omega (arith, long, ap length e, ap length f, ap length g)) in
    let places : given.places ≡ file ∷ text ∷ object ∷ [] = e ∙ ap (λ r. file ∷ r) f ∙ ap (λ r. file ∷ text ∷ r) g ∙ ap (λ r. file ∷ text ∷ object ∷ r) none in
    let P : List (List ℕ) → Type 0 = λ p. IsX (x_among Chance p) values.x in
    makes.chance file text object x values.fraction places (reads_x text values.x x (subst P places are.x) known) are.fraction

count_of : (given : Given) (values : Values) (file : List ℕ) (rest places : List (List ℕ)) → given.places ≡ places → length places ≡ 2 → places ≡ file ∷ rest → IsSet Count value.N 0 (n_among Count places) values.n → Makes given Count (command.Count file values.n)
count_of given values file rest [] is long e set = absurd (omega arith)
count_of given values file rest (a ∷ []) is long e set = absurd (omega arith)
count_of given values file rest (a ∷ text ∷ []) is long e set = let same : a ≡ file = cc in makes.count file text values.n (is ∙ ap (λ f. f ∷ text ∷ []) same) set
count_of given values file rest (a ∷ text ∷ other ∷ places) is long e set = absurd (omega arith)

-- What `count` takes, a file and an n, makes the command `count` with these.
pub made-count : (given : Given) (values : Values) (file : List ℕ) (rest : List (List ℕ)) → Takes Count given → AreValues Count given values → given.places ≡ file ∷ rest → Makes given Count (command.Count file values.n)
made-count given values file rest taken are e = count_of given values file rest given.places refl (omega (arith, taken.not_too_few, taken.not_too_many)) e are.n

unrank_of : (given : Given) (values : Values) (file : List ℕ) (rest places : List (List ℕ)) → given.places ≡ places → length places ≡ 3 → places ≡ file ∷ rest → IsSet Unrank value.N 0 (n_among Unrank places) values.n → IsSet Unrank value.Rank 0 (rank_among Unrank places) values.rank → Makes given Unrank (command.Unrank file values.n values.rank)
unrank_of given values file rest [] is long e set ranked = absurd (omega arith)
unrank_of given values file rest (a ∷ []) is long e set ranked = absurd (omega arith)
unrank_of given values file rest (a ∷ text ∷ []) is long e set ranked = absurd (omega arith)
unrank_of given values file rest (a ∷ text ∷ rank ∷ []) is long e set ranked = let same : a ≡ file = cc in makes.unrank file text rank values.n values.rank (is ∙ ap (λ f. f ∷ text ∷ rank ∷ []) same) set ranked
unrank_of given values file rest (a ∷ text ∷ rank ∷ other ∷ places) is long e set ranked = absurd (omega arith)

-- What `unrank` takes, a file, an n and a rank, makes the command `unrank` with these.
pub made-unrank : (given : Given) (values : Values) (file : List ℕ) (rest : List (List ℕ)) → Takes Unrank given → AreValues Unrank given values → given.places ≡ file ∷ rest → Makes given Unrank (command.Unrank file values.n values.rank)
made-unrank given values file rest taken are e = unrank_of given values file rest given.places refl (omega (arith, taken.not_too_few, taken.not_too_many)) e are.n are.rank
