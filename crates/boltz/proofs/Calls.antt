-- Calls: from commands to answers, and that an undisturbed call has one answer.
use Rattle.std.proofs.Common.{◌≡◌, ◌≢◌, ℕ, ◌+◌, ◌≤◌, ◌⊎◌, inl, inr, List, [], ◌∷◌, length, refl, sym, ap, subst, ◌∙◌, arith}
use Rattle.std.specs.Prelude.{Bool, Option, Some, None, option_map}
use Rattle.bz_model.specs.Spec.{Spec}
use Rattle.bz_model.specs.declared.fraction.Fraction.{Fraction}
use Rattle.bz_outside.specs.Outside.{Rose, Appends}
use Rattle.bit_tape.specs.Bits.{file_bit, seed_bit}
use Rattle.bit_tape.specs.Tape.{bits_of_source}
use Rattle.command_words.specs.Commands.{IsCommand, RefusesWords}
use Rattle.command_words.specs.Fractions.{fraction_bits}
use Rattle.command_words.specs.declared.command.Command.{Command}
use Rattle.command_words.specs.declared.command.Command.TheVariants as command
use Rattle.command_words.specs.declared.command.TapeWord.{TapeWord}
use Rattle.command_words.specs.declared.command.TapeWord.TheVariants as tape
use Rattle.command_words.specs.declared.fault.WordsFault.{WordsFault}
use Rattle.command_words.proofs.Unique.{one_command}
use Rattle.rounded_map.specs.RoundedMap.{Setting, setting}
use Rattle.oracle_memo.specs.Levels.{cost_at}
use Rattle.size_window.specs.Drawing.{limits_of}
use Rattle.size_window.specs.declared.limits.Limits.{Limits}
use Rattle.boltz.specs.Answers.{World, world, Carries, Unworded, Answers, files_of, tape_files, IsUndisturbed}
use Rattle.boltz.specs.Answers as answers
use Rattle.boltz.specs.Commands.{IsStoodFor, AreRefused}
use Rattle.sample_command.specs.Drawn.{HasFailed}
use Rattle.call_stages.specs.Ends.{output, EndsBy}
use Rattle.call_stages.specs.Ends as ends
use Rattle.boltz.specs.OracleCommand.{Bounded, bounded_text}
use Rattle.call_stages.specs.Outcomes.{Outcome, Says, MaySay, IsOne}
use Rattle.call_stages.specs.Outcomes as outcomes
use Rattle.call_stages.specs.Refusals.{words_line}
use Rattle.sample_command.specs.SampleCommand.{source_of, tape_in, DrawnOver}
use Rattle.boltz.specs.SpecCommand.{SpecPrinted, spec_text}
use Rattle.call_stages.specs.Stages.{IsCalm, AreCalm, Files, files, Based}
use Rattle.call_stages.specs.declared.status.Status.{Status}
use Rattle.boltz.proofs.Commands.{not-refused, one-fault, pool_limits}
use Rattle.call_stages.proofs.Endings as endings
use Rattle.call_stages.proofs.Endings.{ends_as, written_on}
use Rattle.sample_command.proofs.Starting.{one-drawn-over}
use Rattle.certificate_commands.specs.VerifyCommand.{CarriesVerify}
use Rattle.certificate_commands.specs.MigrateCommand.{CarriesMigrate}
use Rattle.bulk_command.specs.BulkCommand.{CarriesBulk}
use Rattle.pool_command.specs.PoolCommand.{CarriesPool}
use Rattle.point_command.specs.PointCommand.{CarriesPoint}
use Rattle.chance_command.specs.ChanceCommand.{CarriesChance}
use Rattle.rank_commands.specs.CountCommand.{CarriesCount}
use Rattle.rank_commands.specs.UnrankCommand.{CarriesUnrank}
use Rattle.rank_commands.specs.RankCommand.{CarriesRank}
use Rattle.call_stages.proofs.OneReading.{one-said, one-specified, one-based}

-- the tape of a sample is known, and no read of it failed
pub known-bits : (f : Files) (word : TapeWord) → AreCalm f (tape_files word) → (bits : ℕ → Option Bool) × (bits_of_source (source_of word) f.content ≡ Some bits)
known-bits f (tape.File name) calm = (file_bit calm.0.bytes, ap (option_map file_bit) calm.0.known)
known-bits f (tape.Seed seed) calm = (seed_bit seed, refl)

pub calm-tape : (f : Files) (word : TapeWord) → AreCalm f (tape_files word) → ¬ (HasFailed (tape_in f (source_of word)))
calm-tape f (tape.File name) calm rose = calm.0.unfailed rose
calm-tape f (tape.Seed seed) calm never = never

-- The laws of the crates of commands that are used: each of their commands has one outcome where
-- its files are calm. A command with a crate of its own adds its line.
pub record CommandLaws : Type 0 where
  pub pool : (f : Files) (file : List ℕ) (x : Fraction) (schedule : List ℕ) (tapes : List (List ℕ)) (limits : Limits) (F : ℕ) → 1 ≤ length tapes → AreCalm f (file ∷ schedule ∷ tapes) → IsOne (CarriesPool f file x schedule tapes limits F)
  pub verify : (f : Files) (file cert : List ℕ) → AreCalm f (file ∷ cert ∷ []) → IsOne (CarriesVerify f file cert)
  pub migrate : (f : Files) (file cert : List ℕ) → AreCalm f (file ∷ cert ∷ []) → IsOne (CarriesMigrate f file cert)
  pub bulk : (n F : ℕ) → IsOne (CarriesBulk n F)
  pub point : (f : Files) (file : List ℕ) → AreCalm f (file ∷ []) → IsOne (CarriesPoint f file)
  pub chance : (f : Files) (file : List ℕ) (x : Fraction) (object : List ℕ) (F : ℕ) → AreCalm f (file ∷ object ∷ []) → IsOne (CarriesChance f file x object F)
  pub count : (f : Files) (file : List ℕ) (n : ℕ) → IsCalm f file → IsOne (CarriesCount f file n)
  pub unrank : (f : Files) (file : List ℕ) (n r : ℕ) → IsCalm f file → IsOne (CarriesUnrank f file n r)
  pub rank : (f : Files) (file object : List ℕ) → IsCalm f file → IsCalm f object → IsOne (CarriesRank f file object)

-- Each command has one outcome where its files are calm. A command adds its line.
pub one-carried : (laws : CommandLaws) (f : Files) (asked : Command) → IsStoodFor asked → AreCalm f (files_of asked) → IsOne (Carries f asked)
one-carried laws f (command.Spec file) named calm = one-specified f file SpecPrinted calm.0 (λ s. one-said Status.Done (spec_text s) 0)
one-carried laws f (command.Oracle file x F) named calm = one-specified f file (λ s. Based (setting s x.num x.den (fraction_bits F)) (Bounded (setting s x.num x.den (fraction_bits F)))) calm.0 (λ s. one-based (setting s x.num x.den (fraction_bits F)) (Bounded (setting s x.num x.den (fraction_bits F))) (λ base. one-said Status.Done (bounded_text (setting s x.num x.den (fraction_bits F)) base) (cost_at 6)))
one-carried laws f (command.Sample file x word limits F fast) named calm =
    let bits = known-bits f word calm.1 in
    let t = λ (s : Spec). setting s x.num x.den (fraction_bits F) in
    let met = tape_in f (source_of word) in
    one-specified f file (λ s. Based (t s) (DrawnOver fast (t s) (limits_of limits) met)) calm.0 (λ s. one-based (t s) (DrawnOver fast (t s) (limits_of limits) met) (one-drawn-over fast (t s) (limits_of limits) met bits.0 bits.1 (calm-tape f word calm.1)))
one-carried laws f (command.Pool file x schedule tapes limits F) named calm = laws.pool f file x schedule tapes limits (fraction_bits F) (pool_limits file x schedule tapes limits F named).1.0 calm
one-carried laws f (command.Verify file cert) named calm = laws.verify f file cert calm
one-carried laws f (command.Migrate file cert) named calm = laws.migrate f file cert calm
one-carried laws f (command.Bulk n F) named calm = laws.bulk n (fraction_bits F)
one-carried laws f (command.Point file) named calm = laws.point f file calm
one-carried laws f (command.Chance file x object F) named calm = laws.chance f file x object (fraction_bits F) calm
one-carried laws f (command.Count file n) named calm = laws.count f file n calm.0
one-carried laws f (command.Unrank file n number) named calm = laws.unrank f file n number calm.0
one-carried laws f (command.Rank file object) named calm = laws.rank f file object calm.0 calm.1.0

-- The law that each command has one outcome where its files are calm.
pub record OutcomeLaw : Type 0 where
  pub one : (f : Files) (asked : Command) → IsStoodFor asked → AreCalm f (files_of asked) → IsOne (Carries f asked)

-- words that are refused
only-unworded : (fault : WordsFault) (status : Status) (text : List ℕ) (ticks : ℕ) → status ≢ Status.OutOfMemory → Unworded fault status text ticks → (fault ≢ WordsFault.OutOfMemory) × (status ≡ Status.WordsRefused) × (text ≡ words_line fault)
only-unworded fault status text ticks memory (answers.refused m says) = (m, says.status_is, says.text_is)
only-unworded fault status text ticks memory (answers.no_memory says) = absurd (memory says.status_is)

module _ (law : OutcomeLaw) (w : World) (calm : IsUndisturbed w) (status other : Status) (text others : List ℕ) (ticks more : ℕ) (m : status ≢ Status.OutOfMemory) (n : other ≢ Status.OutOfMemory) where
  answered-twice : Answers w status text ticks → Answers w other others more → (status ≡ other) × (text ≡ others)
  answered-twice (answers.refused fault refuses p) (answers.refused fault_too refuses_too q) =
      let a = only-unworded fault status text ticks m p in
      let b = only-unworded fault_too other others more n q in
      (a.1 ∙ sym b.1, a.2 ∙ ap words_line (one-fault w.words fault fault_too a.0 b.0 refuses refuses_too) ∙ sym b.2)
  answered-twice (answers.refused fault refuses p) (answers.carried asked named q) = absurd (not-refused w.words asked fault named (only-unworded fault status text ticks m p).0 refuses)
  answered-twice (answers.carried asked named p) (answers.refused fault refuses q) = absurd (not-refused w.words asked fault named (only-unworded fault other others more n q).0 refuses)
  answered-twice (answers.carried asked named p) (answers.carried asked_too named_too q) =
      (law.one w.files asked (record { words = w.words; is = named }) (calm.calm asked named)).one status other text others ticks more m n p (subst (λ c. Carries w.files c other others more) (one_command w.words asked_too asked named_too named) q)

-- an undisturbed call has one answer
pub one_answer : (law : OutcomeLaw) (w : World) → IsUndisturbed w → IsOne (Answers w)
one_answer law w calm = record { one = λ status other text others ticks more m n p q. answered-twice law w calm status other text others ticks more m n p q }

-- An undisturbed call without a failed write ends with the one answer to its words, written whole,
-- or for want of memory.
pub exact : (law : OutcomeLaw) (w : World) (b a : Option (List ℕ)) (fb fa tb ta : ℕ) (result : Status) → EndsBy (Answers w) (output b a fb fa tb ta) result → (status : Status) (text : List ℕ) (ticks : ℕ) → IsUndisturbed w → Answers w status text ticks → status ≢ Status.OutOfMemory → ¬ (Rose fb fa) → (result ≡ Status.OutOfMemory) ⊎ ((result ≡ status) × Appends b a text)
exact law w b a fb fa tb ta result h status text ticks calm p memory fine = endings.exact (Answers w) (output b a fb fa tb ta) result status text ticks (one_answer law w calm) h p memory fine

-- a command's outcome is an answer
pub carried_answers : (words : List (List ℕ)) (f : Files) (asked : Command) (b a : Option (List ℕ)) (fb fa tb ta : ℕ) (result : Status) → IsCommand words asked → EndsBy (Carries f asked) (output b a fb fa tb ta) result → EndsBy (Answers (world words f)) (output b a fb fa tb ta) result
carried_answers words f asked b a fb fa tb ta result named h = ends_as (Carries f asked) (Answers (world words f)) b a fb fa tb ta result (λ status text ticks p. answers.carried asked named p) h

-- A call whose words are refused and that ends by writing that refusal ends as an answer to those
-- words.
pub refused_answers : (words : List (List ℕ)) (f : Files) (fault : WordsFault) (b a : Option (List ℕ)) (fb fa tb ta : ℕ) (result : Status) → RefusesWords words fault → EndsBy (Unworded fault) (output b a fb fa tb ta) result → EndsBy (Answers (world words f)) (output b a fb fa tb ta) result
refused_answers words f fault b a fb fa tb ta result refuses h = ends_as (Unworded fault) (Answers (world words f)) b a fb fa tb ta result (λ status text ticks p. answers.refused fault refuses p) h

-- words that stand for a command aren't refused
pub not_both : (words : List (List ℕ)) (asked : Command) → IsCommand words asked → ¬ (AreRefused words)
not_both words asked named are = not-refused words asked are.fault named are.not_memory are.refuses

-- memory ran out before a refusal of words was made
pub words_lack_memory : (fault : WordsFault) (o : Option (List ℕ)) (fb fa ticks : ℕ) → EndsBy (Unworded fault) (output o o fb fa ticks ticks) Status.OutOfMemory
words_lack_memory fault o fb fa ticks = ends.out_of_memory refl (record { text = []; ticks = 0; is = answers.no_memory (record { status_is = refl; text_is = refl; ticks_are = refl }); front = endings.no_front o []; few = omega arith })
