-- What is certain to be printed, refused, bounded or drawn.
use Rattle.std.proofs.Common.{arith, ◌≢◌, ◌⊎◌, inl, inr, ◌≡◌, ℕ, zero, suc, ◌≤◌, List, [], ◌∷◌, ◌++◌, refl, sym, subst, ap, ◌∙◌}
use Rattle.std.specs.Prelude.{true, Bool, length, take, Option, Some, None}
use Rattle.bz_model.specs.Fraction.{ratio}
use Rattle.bz_model.specs.Spec.{Spec}
use Rattle.bz_model.specs.WellFounded.{IsWellFounded}
use Rattle.bz_model.specs.declared.fraction.Fraction.{Fraction}
use Rattle.bit_tape.specs.Tape.{bits_of_source}
use Rattle.oracle_memo.specs.Levels.{level_bounds_from, cost_at}
use Rattle.rounded_map.specs.RoundedMap.{Setting, setting}
use Rattle.size_window.specs.Drawing.{limits_of}
use Rattle.size_window.specs.RunByBits.{Limits as Window, Course, Ending}
use Rattle.size_window.specs.declared.limits.Limits.{Limits}
use Rattle.newton_upper.specs.BaseRule.{HasNoUpper}
use Rattle.newton_upper.specs.declared.trials.Trial.{Trial}
use Rattle.command_words.specs.Commands.{IsCommand, RefusesWords}
use Rattle.command_words.specs.Fractions.{fraction_bits}
use Rattle.command_words.specs.declared.command.Command.{Command}
use Rattle.command_words.specs.declared.command.Command.TheVariants as command
use Rattle.command_words.specs.declared.command.FractionBits.{FractionBits}
use Rattle.command_words.specs.declared.command.TapeWord.{TapeWord}
use Rattle.command_words.specs.declared.fault.WordsFault.{WordsFault}
use Rattle.command_words.proofs.Unique.{one_command}
use Rattle.boltz.specs.Answers.{World, Carries, Answers, Unworded}
use Rattle.boltz.specs.Answers as answers
use Rattle.boltz.specs.Commands.{Specifies, AreRefused}
use Rattle.boltz.specs.Complete.{IsGiven, IsFit, AsksToPrint, IsUnfit, undisturbed, IsDrawable, IsBoundable, IsBaseless, IsWithoutFast}
use Rattle.boltz.specs.Complete as complete
use Rattle.sample_command.specs.Drawn.{TapeMet, HasFailed, Drawn, Lists, drawn_header, closing_text, ending_status}
use Rattle.sample_command.specs.Drawn as drawn
use Rattle.bulk_command.specs.BulkText.{bulk_text}
use Rattle.bulk_command.specs.BulkCommand.{BulkDrawn}
use Rattle.bulk_command.specs.BulkCommand as bulks
use Rattle.certificate.specs.declared.certificate.Certificate.{Certificate}
use Rattle.certificate_commands.specs.CertificateStage.{CertificateJudged, CertificateRead}
use Rattle.certificate_commands.specs.CertificateStage as certificates
use Rattle.certificate_commands.specs.Tested.{test_ticks, Tested, ReadAndTested}
use Rattle.certificate_commands.specs.Tested as tests
use Rattle.certificate_commands.specs.VerifyCommand.{valid_line, CountedEntries}
use Rattle.certificate_commands.specs.MigrateCommand.{migrated_text, WrittenIn2}
use Rattle.pool_command.specs.PoolCommand.{PoolSetting, PoolDrawn, PooledOver, pool_of, first_of, first_status}
use Rattle.pool_command.specs.PoolCommand as pools
use Rattle.point_command.specs.PointCommand.{PointedPrinted}
use Rattle.point_command.proofs.Printing.{pointed-no-words}
use Rattle.chance_command.specs.ChanceCommand.{Weighed, WeighedAt, ReadAndWeighed}
use Rattle.chance_command.proofs.Weighing.{weighed-no-words}
use Rattle.object_stage.proofs.OneObject.{object-no-words}
use Rattle.rank_commands.specs.CountCommand.{CountedTo}
use Rattle.rank_commands.specs.UnrankCommand.{Unranked}
use Rattle.rank_commands.specs.RankCommand.{RankedIn}
use Rattle.rank_commands.proofs.NoWords.{count-no-words, unrank-no-words, rank-no-words}
use Rattle.boltz.specs.OracleCommand.{Bounded, bounded_text}
use Rattle.call_stages.specs.Outcomes.{Outcome, Says, MaySay}
use Rattle.call_stages.specs.Outcomes as outcomes
use Rattle.call_stages.specs.Refusals.{words_line, no_upper_text, no_fast_line}
use Rattle.sample_command.specs.SampleCommand.{DrawnFrom, DrawnOver, source_of, tape_in}
use Rattle.sample_command.specs.Starts.{format_of, start_of, Started}
use Rattle.sample_command.specs.Starts as starting
use Rattle.boltz.specs.SpecCommand.{SpecPrinted, spec_text}
use Rattle.call_stages.specs.Stages.{IsCalm, Files, IsAccepted, FileRead, Judged, Specified, Based}
use Rattle.call_stages.specs.Stages as stages
use Rattle.call_stages.specs.declared.status.Status.{Status}
use Rattle.boltz.proofs.Commands.{not-refused, one-fault}
use Rattle.sample_command.proofs.OneDrawing.{same-course}
use Rattle.sample_command.proofs.Starting.{started-only, startless-only}
use Rattle.call_stages.proofs.Completing.{specified-only}
use Rattle.call_stages.proofs.OneReading.{may-say-only, read-only, unfit-refused, based-only, baseless-only}

-- a call that is done had memory
pub not-for-memory : (status : Status) → status ≡ Status.Done → status ≢ Status.OutOfMemory
not-for-memory status done none = let same : Status.Done ≡ Status.OutOfMemory = sym done ∙ none in absurd (cc)

-- words that stand for a command have an outcome of it
pub outcome-of : (w : World) (asked : Command) → IsCommand w.words asked → (status : Status) (text : List ℕ) (ticks : ℕ) → status ≢ Status.OutOfMemory → Answers w status text ticks → Carries w.files asked status text ticks
outcome-of w asked named status text ticks memory (answers.refused fault refuses (answers.refused m says)) = absurd (not-refused w.words asked fault named m refuses)
outcome-of w asked named status text ticks memory (answers.refused fault refuses (answers.no_memory says)) = absurd (memory says.status_is)
outcome-of w asked named status text ticks memory (answers.carried other named_too p) = subst (λ c. Carries w.files c status text ticks) (one_command w.words other asked named_too named) p

-- a file that is given is calm
abbrev calm-of : (w : World) (asked : Command) (file bytes : List ℕ) → IsGiven w asked file bytes → IsCalm w.files file
calm-of w asked file bytes given = record { bytes = bytes; known = given.is_known; unfailed = given.no_fault }

-- a fit specification goes on to the command's own part
fit-only : (w : World) (asked : Command) (file : List ℕ) (s : Spec) (fit : IsFit w asked file s) (next : Spec → Outcome) (status : Status) (text : List ℕ) (ticks : ℕ) → status ≢ Status.OutOfMemory → Specified w.files file next status text ticks → next s status text ticks
fit-only w asked file s fit next status text ticks memory p = specified-only w.files file s next status text ticks fit.has memory p

-- Words that ask to print a well-founded specification are answered by its canonical form, unless
-- memory runs out.
pub printed : (w : World) (s : Spec) (status : Status) (text : List ℕ) (ticks : ℕ) → AsksToPrint w s → status ≢ Status.OutOfMemory → Answers w status text ticks → (status ≡ Status.Done) × (text ≡ spec_text s)
printed w s status text ticks p memory h =
    let asked = command.Spec p.file in
    may-say-only Status.Done (spec_text s) 0 status text ticks memory (fit-only w asked p.file s p.fit SpecPrinted status text ticks memory (outcome-of w asked p.fit.named status text ticks memory h))

-- what is read of an unfit specification is refused
unfit-only : (w : World) (p : IsUnfit w) (next : Spec → Outcome) (status : Status) (text : List ℕ) (ticks : ℕ) → status ≢ Status.OutOfMemory → Specified w.files p.file next status text ticks → status ≡ Status.SpecRefused
unfit-only w p next status text ticks memory h = unfit-refused next (take 65537 p.bytes) p.unfit status text ticks memory (read-only w.files p.file 65537 (Judged next) (calm-of w p.asked p.file p.bytes p.given) status text ticks memory h)

unfit-carried : (w : World) (p : IsUnfit w) (asked : Command) → Specifies asked p.file → (status : Status) (text : List ℕ) (ticks : ℕ) → status ≢ Status.OutOfMemory → Carries w.files asked status text ticks → status ≡ Status.SpecRefused
unfit-carried w p (command.Spec file) is status text ticks memory h = unfit-only w p SpecPrinted status text ticks memory (subst (λ f. Specified w.files f SpecPrinted status text ticks) is h)
unfit-carried w p (command.Oracle file x F) is status text ticks memory h =
    let next = λ (s : Spec). Based (setting s x.num x.den (fraction_bits F)) (Bounded (setting s x.num x.den (fraction_bits F))) in
    unfit-only w p next status text ticks memory (subst (λ f. Specified w.files f next status text ticks) is h)
unfit-carried w p (command.Sample file x word limits F fast) is status text ticks memory h =
    let next = λ (s : Spec). Based (setting s x.num x.den (fraction_bits F)) (DrawnOver fast (setting s x.num x.den (fraction_bits F)) (limits_of limits) (tape_in w.files (source_of word))) in
    unfit-only w p next status text ticks memory (subst (λ f. Specified w.files f next status text ticks) is h)
unfit-carried w p (command.Pool file x schedule tapes limits F) is status text ticks memory h =
    let next = λ (s : Spec). Based (setting s x.num x.den (fraction_bits F)) (PooledOver w.files (setting s x.num x.den (fraction_bits F)) (limits_of limits) schedule tapes) in
    unfit-only w p next status text ticks memory (subst (λ f. Specified w.files f next status text ticks) is h)
unfit-carried w p (command.Verify file cert) is status text ticks memory h =
    let next = ReadAndTested w.files cert CountedEntries in
    unfit-only w p next status text ticks memory (subst (λ f. Specified w.files f next status text ticks) is h)
unfit-carried w p (command.Migrate file cert) is status text ticks memory h =
    let next = ReadAndTested w.files cert WrittenIn2 in
    unfit-only w p next status text ticks memory (subst (λ f. Specified w.files f next status text ticks) is h)
unfit-carried w p (command.Bulk n F) is status text ticks memory h = absurd is
unfit-carried w p (command.Point file) is status text ticks memory h = unfit-only w p PointedPrinted status text ticks memory (subst (λ f. Specified w.files f PointedPrinted status text ticks) is h)
unfit-carried w p (command.Chance file x object F) is status text ticks memory h =
    let next = λ (s : Spec). ReadAndWeighed w.files object (setting s x.num x.den (fraction_bits F)) in
    unfit-only w p next status text ticks memory (subst (λ f. Specified w.files f next status text ticks) is h)
unfit-carried w p (command.Count file n) is status text ticks memory h = unfit-only w p (CountedTo n) status text ticks memory (subst (λ f. Specified w.files f (CountedTo n) status text ticks) is h)
unfit-carried w p (command.Unrank file n number) is status text ticks memory h = unfit-only w p (Unranked n number) status text ticks memory (subst (λ f. Specified w.files f (Unranked n number) status text ticks) is h)
unfit-carried w p (command.Rank file object) is status text ticks memory h = unfit-only w p (RankedIn w.files object) status text ticks memory (subst (λ f. Specified w.files f (RankedIn w.files object) status text ticks) is h)

-- Where the file holds no well-founded specification within the limits, a command on it ends with
-- the status of a refused specification, unless memory runs out.
pub refused : (w : World) (status : Status) (text : List ℕ) (ticks : ℕ) → IsUnfit w → status ≢ Status.OutOfMemory → Answers w status text ticks → status ≡ Status.SpecRefused
refused w status text ticks p memory h = unfit-carried w p p.asked p.specifies status text ticks memory (outcome-of w p.asked p.given.named status text ticks memory h)

-- Words that ask to bound a specification with a base are answered by the bounds of levels 1 to 6
-- over it, unless memory runs out.
pub bounded : (w : World) (s : Spec) (x : Fraction) (F : FractionBits) (base : List ℕ) (status : Status) (text : List ℕ) (ticks : ℕ) → IsBoundable w s x F base → status ≢ Status.OutOfMemory → Answers w status text ticks → (status ≡ Status.Done) × (text ≡ bounded_text (setting s x.num x.den (fraction_bits F)) base)
bounded w s x F base status text ticks p memory h =
    let asked = command.Oracle p.file x F in
    let t = λ (s : Spec). setting s x.num x.den (fraction_bits F) in
    let own = fit-only w asked p.file s p.fit (λ s. Based (t s) (Bounded (t s))) status text ticks memory (outcome-of w asked p.fit.named status text ticks memory h) in
    let over = based-only (t s) (Bounded (t s)) base p.has_base status text ticks memory own in
    may-say-only Status.Done (bounded_text (t s) base) (cost_at 6) status text over.0 memory over.1

-- Words that ask to bound or draw at an x without a base are answered by a refusal that shows the
-- search's proposals, unless memory runs out.
pub baseless : (w : World) (s : Spec) (x : Fraction) (F : FractionBits) (status : Status) (text : List ℕ) (ticks : ℕ) → IsBaseless w s x F → status ≢ Status.OutOfMemory → Answers w status text ticks → (trials : List Trial) × HasNoUpper (setting s x.num x.den (fraction_bits F)) trials × (status ≡ Status.NoUpper) × (text ≡ no_upper_text s (fraction_bits F) trials)
baseless w s x F status text ticks (complete.to_bound file fit none) memory h =
    let asked = command.Oracle file x F in
    let t = λ (s : Spec). setting s x.num x.den (fraction_bits F) in
    baseless-only (t s) (Bounded (t s)) none status text ticks memory (fit-only w asked file s fit (λ s. Based (t s) (Bounded (t s))) status text ticks memory (outcome-of w asked fit.named status text ticks memory h))
baseless w s x F status text ticks (complete.to_draw file word limits fast fit none) memory h =
    let asked = command.Sample file x word limits F fast in
    let t = λ (s : Spec). setting s x.num x.den (fraction_bits F) in
    let met = tape_in w.files (source_of word) in
    baseless-only (t s) (DrawnOver fast (t s) (limits_of limits) met) none status text ticks memory (fit-only w asked file s fit (λ s. Based (t s) (DrawnOver fast (t s) (limits_of limits) met)) status text ticks memory (outcome-of w asked fit.named status text ticks memory h))

-- a drawing over a tape that is known is the undisturbed one
drawn-only : (cost : ℕ → ℕ) (header : List ℕ) (a : Setting) (base start : List ℕ) (limits : Window) (t : TapeMet) (bits : ℕ → Option Bool) (turns : ℕ) (ending : Ending) → bits_of_source t.source t.contents ≡ Some bits → ¬ (HasFailed t) → (undisturbed a base start limits bits turns).state.ending ≡ Some ending → (status : Status) (text : List ℕ) (ticks : ℕ) → status ≢ Status.OutOfMemory → Drawn cost header a.spec (ratio a.num a.den) a.bits (level_bounds_from a start base) limits t status text ticks → (status ≡ ending_status ending) × ((lines : List ℕ) × Lists a.spec (undisturbed a base start limits bits turns).entries lines × (text ≡ header ++ (lines ++ closing_text (level_bounds_from a start base) (undisturbed a base start limits bits turns) ending)))
drawn-only cost header a base start limits t bits turns ending are_known calm ends status text ticks memory (drawn.so_far c given first others lines h e l says) = absurd (memory says.status_is)
drawn-only cost header a base start limits t bits turns ending are_known calm ends status text ticks memory (drawn.no_memory says) = absurd (memory says.status_is)
drawn-only cost header a base start limits t bits turns ending are_known calm ends status text ticks memory (drawn.ended c given d lines h l says) =
    let same = same-course a.spec (ratio a.num a.den) a.bits (level_bounds_from a start base) limits t bits are_known calm c given d h turns ending ends in (
      says.status_is ∙ ap ending_status same.1,
      (
        lines,
        subst (λ (z : Course). Lists a.spec z.entries lines) same.0 l,
        says.text_is ∙ ap (λ (z : Course). header ++ (lines ++ closing_text (level_bounds_from a start base) z d)) same.0 ∙ ap (λ z. header ++ (lines ++ closing_text (level_bounds_from a start base) (undisturbed a base start limits bits turns) z)) same.1,
      ),
    )

-- A drawing that the words ask for and that ends is answered by its header, kept objects' lines,
-- closing and its ending's status, unless memory runs out.
pub draws : (w : World) (s : Spec) (x : Fraction) (F : FractionBits) (fast : Bool) (turns : ℕ) (limits : Limits) (base start : List ℕ) (bits : ℕ → Option Bool) (ending : Ending) (status : Status) (text : List ℕ) (ticks : ℕ) → IsDrawable w s x F fast limits base start bits turns ending → status ≢ Status.OutOfMemory → Answers w status text ticks → (status ≡ ending_status ending) × ((lines : List ℕ) × Lists s (undisturbed (setting s x.num x.den (fraction_bits F)) base start (limits_of limits) bits turns).entries lines × (text ≡ drawn_header (format_of fast) (setting s x.num x.den (fraction_bits F)) base (limits_of limits) ++ (lines ++ closing_text (level_bounds_from (setting s x.num x.den (fraction_bits F)) start base) (undisturbed (setting s x.num x.den (fraction_bits F)) base start (limits_of limits) bits turns) ending)))
draws w s x F fast turns limits base start bits ending status text ticks p memory h =
    let asked = command.Sample p.file x p.word limits F fast in
    let t = λ (s : Spec). setting s x.num x.den (fraction_bits F) in
    let met = tape_in w.files (source_of p.word) in
    let own = fit-only w asked p.file s p.fit (λ s. Based (t s) (DrawnOver fast (t s) (limits_of limits) met)) status text ticks memory (outcome-of w asked p.fit.named status text ticks memory h) in
    let over = based-only (t s) (DrawnOver fast (t s) (limits_of limits) met) base p.has_base status text ticks memory own in
    let from = started-only fast (t s) base (DrawnFrom fast (t s) (limits_of limits) met base) start p.has_start status text over.0 memory over.1 in
    drawn-only cost_at (drawn_header (format_of fast) (t s) base (limits_of limits)) (t s) base start (limits_of limits) met bits turns ending p.are_told p.no_fault p.ends status text from.0 memory from.1

-- without a fast vector nothing is drawn by it
pub without-fast : (w : World) (s : Spec) (x : Fraction) (F : FractionBits) (base : List ℕ) (status : Status) (text : List ℕ) (ticks : ℕ) → IsWithoutFast w s x F base → status ≢ Status.OutOfMemory → Answers w status text ticks → (status ≡ Status.NoFast) × (text ≡ no_fast_line (fraction_bits F))
without-fast w s x F base status text ticks p memory h =
    let asked = command.Sample p.file x p.word p.limits F true in
    let t = λ (s : Spec). setting s x.num x.den (fraction_bits F) in
    let met = tape_in w.files (source_of p.word) in
    let own = fit-only w asked p.file s p.fit (λ s. Based (t s) (DrawnOver true (t s) (limits_of p.limits) met)) status text ticks memory (outcome-of w asked p.fit.named status text ticks memory h) in
    let over = based-only (t s) (DrawnOver true (t s) (limits_of p.limits) met) base p.has_base status text ticks memory own in
    startless-only true (t s) base (DrawnFrom true (t s) (limits_of p.limits) met base) p.has_none status text over.0 memory over.1

-- only words that are refused have the status that says so
not-words : (said status : Status) (line text : List ℕ) (most ticks : ℕ) → said ≢ Status.WordsRefused → Says said line most status text ticks → status ≡ Status.WordsRefused → ⊥
not-words said status line text most ticks other says is = other (sym says.status_is ∙ is)

said-no-words : (said : Status) (line : List ℕ) (most : ℕ) (status : Status) (text : List ℕ) (ticks : ℕ) → said ≢ Status.WordsRefused → MaySay said line most status text ticks → status ≡ Status.WordsRefused → ⊥
said-no-words said line most status text ticks other (outcomes.says says) is = not-words said status line text most ticks other says is
said-no-words said line most status text ticks other (outcomes.no_memory says) is = not-words Status.OutOfMemory status [] text most ticks (λ e. absurd (cc)) says is

judged-no-words : (bytes : List ℕ) (next : Spec → Outcome) → ((s : Spec) (status : Status) (text : List ℕ) (ticks : ℕ) → next s status text ticks → status ≡ Status.WordsRefused → ⊥) → (status : Status) (text : List ℕ) (ticks : ℕ) → Judged next bytes status text ticks → status ≡ Status.WordsRefused → ⊥
judged-no-words bytes next on status text ticks (stages.refused fault m refuses says) is = not-words Status.SpecRefused status _ text _ ticks (λ e. absurd (cc)) says is
judged-no-words bytes next on status text ticks (stages.unfounded s cause a m tells says) is = not-words Status.SpecRefused status _ text _ ticks (λ e. absurd (cc)) says is
judged-no-words bytes next on status text ticks (stages.no_memory says) is = not-words Status.OutOfMemory status _ text _ ticks (λ e. absurd (cc)) says is
judged-no-words bytes next on status text ticks (stages.founded s a g q) is = on s status text ticks q is

specified-no-words : (f : Files) (file : List ℕ) (next : Spec → Outcome) → ((s : Spec) (status : Status) (text : List ℕ) (ticks : ℕ) → next s status text ticks → status ≡ Status.WordsRefused → ⊥) → (status : Status) (text : List ℕ) (ticks : ℕ) → Specified f file next status text ticks → status ≡ Status.WordsRefused → ⊥
specified-no-words f file next on status text ticks (stages.failed rose says) is = not-words Status.ReadFault status _ text _ ticks (λ e. absurd (cc)) says is
specified-no-words f file next on status text ticks (stages.no_memory says) is = not-words Status.OutOfMemory status _ text _ ticks (λ e. absurd (cc)) says is
specified-no-words f file next on status text ticks (stages.read bytes are p) is = judged-no-words bytes next on status text ticks p is

based-no-words : (t : Setting) (next : List ℕ → Outcome) → ((base : List ℕ) (status : Status) (text : List ℕ) (ticks : ℕ) → next base status text ticks → status ≡ Status.WordsRefused → ⊥) → (status : Status) (text : List ℕ) (ticks : ℕ) → Based t next status text ticks → status ≡ Status.WordsRefused → ⊥
based-no-words t next on status text ticks (stages.no_base trials lacks says) is = not-words Status.NoUpper status _ text _ ticks (λ e. absurd (cc)) says is
based-no-words t next on status text ticks (stages.no_memory says) is = not-words Status.OutOfMemory status _ text _ ticks (λ e. absurd (cc)) says is
based-no-words t next on status text ticks (stages.based base more has p sum) is = on base status text more p is

ending-no-words : (e : Ending) → ending_status e ≢ Status.WordsRefused
ending-no-words Ending.Done is = absurd (cc)
ending-no-words Ending.TapeEnded is = absurd (cc)
ending-no-words (Ending.Undecided left_open) is = absurd (cc)
ending-no-words Ending.TurnLimit is = absurd (cc)
ending-no-words Ending.ReadFault is = absurd (cc)

drawn-no-words : (fast : Bool) (t : Setting) (limits : Window) (met : TapeMet) (base start : List ℕ) (status : Status) (text : List ℕ) (ticks : ℕ) → DrawnFrom fast t limits met base start status text ticks → status ≡ Status.WordsRefused → ⊥
drawn-no-words fast t limits met base start status text ticks (drawn.ended c given d lines h l says) is = not-words (ending_status d) status _ text _ ticks (ending-no-words d) says is
drawn-no-words fast t limits met base start status text ticks (drawn.so_far c given first others lines h e l says) is = not-words Status.OutOfMemory status _ text _ ticks (λ e. absurd (cc)) says is
drawn-no-words fast t limits met base start status text ticks (drawn.no_memory says) is = not-words Status.OutOfMemory status _ text _ ticks (λ e. absurd (cc)) says is

over-no-words : (fast : Bool) (t : Setting) (limits : Window) (met : TapeMet) (base : List ℕ) (status : Status) (text : List ℕ) (ticks : ℕ) → DrawnOver fast t limits met base status text ticks → status ≡ Status.WordsRefused → ⊥
over-no-words fast t limits met base status text ticks (starting.no_fast none says) is = not-words Status.NoFast status _ text _ ticks (λ e. absurd (cc)) says is
over-no-words fast t limits met base status text ticks (starting.no_memory says) is = not-words Status.OutOfMemory status _ text _ ticks (λ e. absurd (cc)) says is
over-no-words fast t limits met base status text ticks (starting.started start more has p sum) is = drawn-no-words fast t limits met base start status text more p is

first-no-words : (a b : Status) → a ≢ Status.WordsRefused → b ≢ Status.WordsRefused → first_of a b ≢ Status.WordsRefused
first-no-words Status.Done b na nb is = nb is
first-no-words Status.WordsRefused b na nb is = na is
first-no-words Status.SpecRefused b na nb is = na is
first-no-words Status.NoUpper b na nb is = na is
first-no-words Status.TapeEnded b na nb is = na is
first-no-words Status.Undecided b na nb is = na is
first-no-words Status.TurnLimit b na nb is = na is
first-no-words Status.ReadFault b na nb is = na is
first-no-words Status.WriteFault b na nb is = na is
first-no-words Status.OutOfMemory b na nb is = na is
first-no-words Status.CertRefused b na nb is = na is
first-no-words Status.NoFast b na nb is = na is
first-no-words Status.PointRefused b na nb is = na is
first-no-words Status.ObjectRefused b na nb is = na is
first-no-words Status.RankRefused b na nb is = na is

statuses-no-words : (statuses : ℕ → Status) (n : ℕ) → ((i : ℕ) → statuses i ≢ Status.WordsRefused) → first_status statuses n ≢ Status.WordsRefused
unfolding first_status
statuses-no-words statuses zero each is = absurd (cc)
statuses-no-words statuses (suc n) each is = first-no-words (first_status statuses n) (statuses n) (statuses-no-words statuses n each) (each n) is

pool-no-words : (p : PoolSetting) (f : Files) (tapes : List (List ℕ)) (schedule : List ℕ) (status : Status) (text : List ℕ) (ticks : ℕ) → PoolDrawn p f tapes schedule status text ticks → status ≡ Status.WordsRefused → ⊥
pool-no-words p f tapes schedule status text ticks (pools.ended drawings are says) is = not-words (first_status (λ i. ending_status (drawings i).ending) (length tapes)) status _ text _ ticks (statuses-no-words (λ i. ending_status (drawings i).ending) (length tapes) (λ i. ending-no-words (drawings i).ending)) says is
pool-no-words p f tapes schedule status text ticks (pools.so_far courses are says) is = not-words Status.OutOfMemory status _ text _ ticks (λ e. absurd (cc)) says is
pool-no-words p f tapes schedule status text ticks (pools.no_memory says) is = not-words Status.OutOfMemory status _ text _ ticks (λ e. absurd (cc)) says is

pooled-no-words : (f : Files) (t : Setting) (limits : Window) (schedule : List ℕ) (tapes : List (List ℕ)) (base : List ℕ) (status : Status) (text : List ℕ) (ticks : ℕ) → PooledOver f t limits schedule tapes base status text ticks → status ≡ Status.WordsRefused → ⊥
pooled-no-words f t limits schedule tapes base status text ticks (stages.failed rose says) is = not-words Status.ReadFault status _ text _ ticks (λ e. absurd (cc)) says is
pooled-no-words f t limits schedule tapes base status text ticks (stages.no_memory says) is = not-words Status.OutOfMemory status _ text _ ticks (λ e. absurd (cc)) says is
pooled-no-words f t limits schedule tapes base status text ticks (stages.read bytes are p) is = pool-no-words (pool_of t base limits) f tapes bytes status text ticks p is

bulk-no-words : (n : ℕ) (t : Setting) (base : List ℕ) (status : Status) (text : List ℕ) (ticks : ℕ) → BulkDrawn n t base status text ticks → status ≡ Status.WordsRefused → ⊥
bulk-no-words n t base status text ticks (bulks.ended c given d h says) is = not-words (ending_status d) status _ text _ ticks (ending-no-words d) says is
bulk-no-words n t base status text ticks (bulks.so_far c given h says) is = not-words Status.OutOfMemory status _ text _ ticks (λ e. absurd (cc)) says is
bulk-no-words n t base status text ticks (bulks.no_memory says) is = not-words Status.OutOfMemory status _ text _ ticks (λ e. absurd (cc)) says is

-- a certificate that is read and tested
module _ (s : Spec) (next : Certificate → Outcome) (on : (c : Certificate) (status : Status) (text : List ℕ) (ticks : ℕ) → next c status text ticks → status ≡ Status.WordsRefused → ⊥) (status : Status) (text : List ℕ) (ticks : ℕ) where
  one-tested-no-words : (c : Certificate) → Tested s c (next c) status text ticks → status ≡ Status.WordsRefused → ⊥
  one-tested-no-words c (tests.invalid line why fails says) is = not-words Status.CertRefused status _ text _ ticks (λ e. absurd (cc)) says is
  one-tested-no-words c (tests.no_memory says) is = not-words Status.OutOfMemory status _ text _ ticks (λ e. absurd (cc)) says is
  one-tested-no-words c (tests.valid valid p) is = on c status text ticks p is

  certificate-no-words : (bytes : List ℕ) → CertificateJudged (λ c. Tested s c (next c)) bytes status text ticks → status ≡ Status.WordsRefused → ⊥
  certificate-no-words bytes (certificates.too_long long says) is = not-words Status.CertRefused status _ text _ ticks (λ e. absurd (cc)) says is
  certificate-no-words bytes (certificates.refused line few bad says) is = not-words Status.CertRefused status _ text _ ticks (λ e. absurd (cc)) says is
  certificate-no-words bytes (certificates.no_memory says) is = not-words Status.OutOfMemory status _ text _ ticks (λ e. absurd (cc)) says is
  certificate-no-words bytes (certificates.read c few is_text p) is = one-tested-no-words c p is

  tested-no-words : (f : Files) (cert : List ℕ) → CertificateRead f cert (λ c. Tested s c (next c)) status text ticks → status ≡ Status.WordsRefused → ⊥
  tested-no-words f cert (stages.failed rose says) is = not-words Status.ReadFault status _ text _ ticks (λ e. absurd (cc)) says is
  tested-no-words f cert (stages.no_memory says) is = not-words Status.OutOfMemory status _ text _ ticks (λ e. absurd (cc)) says is
  tested-no-words f cert (stages.read bytes are p) is = certificate-no-words bytes p is

carried-no-words : (f : Files) (asked : Command) → (status : Status) (text : List ℕ) (ticks : ℕ) → Carries f asked status text ticks → status ≡ Status.WordsRefused → ⊥
carried-no-words f (command.Spec file) status text ticks h is = specified-no-words f file SpecPrinted (λ s status text ticks p e. said-no-words Status.Done (spec_text s) 0 status text ticks (λ e. absurd (cc)) p e) status text ticks h is
carried-no-words f (command.Oracle file x F) status text ticks h is =
    let t = λ (s : Spec). setting s x.num x.den (fraction_bits F) in
    specified-no-words f file (λ s. Based (t s) (Bounded (t s))) (λ s. based-no-words (t s) (Bounded (t s)) (λ base status text ticks p e. said-no-words Status.Done (bounded_text (t s) base) (cost_at 6) status text ticks (λ e. absurd (cc)) p e)) status text ticks h is
carried-no-words f (command.Sample file x word limits F fast) status text ticks h is =
    let t = λ (s : Spec). setting s x.num x.den (fraction_bits F) in
    let met = tape_in f (source_of word) in
    specified-no-words f file (λ s. Based (t s) (DrawnOver fast (t s) (limits_of limits) met)) (λ s. based-no-words (t s) (DrawnOver fast (t s) (limits_of limits) met) (over-no-words fast (t s) (limits_of limits) met)) status text ticks h is
carried-no-words f (command.Bulk n F) status text ticks h is =
    let t = λ (s : Spec). setting s 3 16 (fraction_bits F) in
    judged-no-words (bulk_text n) (λ s. Based (t s) (BulkDrawn n (t s))) (λ s. based-no-words (t s) (BulkDrawn n (t s)) (bulk-no-words n (t s))) status text ticks h is
carried-no-words f (command.Pool file x schedule tapes limits F) status text ticks h is =
    let t = λ (s : Spec). setting s x.num x.den (fraction_bits F) in
    specified-no-words f file (λ s. Based (t s) (PooledOver f (t s) (limits_of limits) schedule tapes)) (λ s. based-no-words (t s) (PooledOver f (t s) (limits_of limits) schedule tapes) (pooled-no-words f (t s) (limits_of limits) schedule tapes)) status text ticks h is
carried-no-words f (command.Verify file cert) status text ticks h is = specified-no-words f file (ReadAndTested f cert CountedEntries) (λ s status text ticks p e. tested-no-words s (CountedEntries s) (λ c status text ticks p e. said-no-words Status.Done (valid_line (length c.entries)) test_ticks status text ticks (λ e. absurd (cc)) p e) status text ticks f cert p e) status text ticks h is
carried-no-words f (command.Migrate file cert) status text ticks h is = specified-no-words f file (ReadAndTested f cert WrittenIn2) (λ s status text ticks p e. tested-no-words s (WrittenIn2 s) (λ c status text ticks p e. said-no-words Status.Done (migrated_text s c) test_ticks status text ticks (λ e. absurd (cc)) p e) status text ticks f cert p e) status text ticks h is
carried-no-words f (command.Point file) status text ticks h is = specified-no-words f file PointedPrinted pointed-no-words status text ticks h is
carried-no-words f (command.Chance file x object F) status text ticks h is =
    let t = λ (s : Spec). setting s x.num x.den (fraction_bits F) in
    specified-no-words f file (λ s. ReadAndWeighed f object (t s)) (λ s. object-no-words f s object (λ tokens labels. WeighedAt (t s) tokens) (λ tokens labels. based-no-words (t s) (Weighed (t s) tokens) (weighed-no-words (t s) tokens))) status text ticks h is
carried-no-words f (command.Count file n) status text ticks h is = specified-no-words f file (CountedTo n) (count-no-words n) status text ticks h is
carried-no-words f (command.Unrank file n number) status text ticks h is = specified-no-words f file (Unranked n number) (unrank-no-words n number) status text ticks h is
carried-no-words f (command.Rank file object) status text ticks h is = specified-no-words f file (RankedIn f object) (rank-no-words f object) status text ticks h is

-- A call that ends with the status of refused words was given words that stand for no command.
pub words_only : (w : World) (status : Status) (text : List ℕ) (ticks : ℕ) → Answers w status text ticks → status ≡ Status.WordsRefused → AreRefused w.words
words_only w status text ticks (answers.refused fault refuses (answers.refused m says)) is = record { fault = fault; not_memory = m; refuses = refuses }
words_only w status text ticks (answers.refused fault refuses (answers.no_memory says)) is = absurd (not-words Status.OutOfMemory status _ text _ ticks (λ e. absurd (cc)) says is)
words_only w status text ticks (answers.carried asked named h) is = absurd (carried-no-words w.files asked status text ticks h is)

-- words that stand for no command
pub no_command : (w : World) (fault : WordsFault) (status : Status) (text : List ℕ) (ticks : ℕ) → RefusesWords w.words fault → fault ≢ WordsFault.OutOfMemory → status ≢ Status.OutOfMemory → Answers w status text ticks → (status ≡ Status.WordsRefused) × (text ≡ words_line fault)
no_command w fault status text ticks refuses m memory (answers.refused other refuses_too (answers.refused n says)) = (says.status_is, says.text_is ∙ ap words_line (one-fault w.words other fault n m refuses_too refuses))
no_command w fault status text ticks refuses m memory (answers.refused other refuses_too (answers.no_memory says)) = absurd (memory says.status_is)
no_command w fault status text ticks refuses m memory (answers.carried asked named h) = absurd (not-refused w.words asked fault named m refuses)
