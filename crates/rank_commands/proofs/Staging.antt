-- Stages: what ends a call before anything is printed, and what follows where a stage goes on.
use Rattle.std.proofs.Common.{◌≡◌, ◌≢◌, ℕ, ◌<◌, ◌≤◌, arith, List, refl, sym, subst}
use Rattle.std.specs.Prelude.{Option, None, Result, Ok, Err, IfErr}
use Rattle.std.specs.Result.{IsErrAnd}
use Rattle.bz_model.specs.Spec.{Spec, Mode}
use Rattle.object_store.specs.declared.token.Token.{Token}
use Rattle.object_store.specs.Tokens.{IsOf, size_of}
use Rattle.object_text.specs.Reading.{IsRead}
use Rattle.rank_tables.specs.Refusals.{HasPlainRanges, HasSmallCounts}
use Rattle.rank_tables.specs.Tables.{TellsRankFault}
use Rattle.rank_tables.specs.declared.rank_tables.RankFault.{RankFault}
use Rattle.rank_tables.specs.declared.rank_tables.RankFault.TheVariants.{Labelled, Ranged, TooMany, OutOfMemory}
use Rattle.call_stages.specs.Outcomes.{Outcome, Never, Says}
use Rattle.call_stages.specs.Reports.{refusal_status, refusal_text}
use Rattle.call_stages.specs.declared.report.Refusal.{Refusal}
use Rattle.call_stages.specs.declared.report.Refusal.TheVariants as refusal
use Rattle.call_stages.specs.declared.status.Status.{Status}
use Rattle.call_stages.specs.Ends.{output, EndsBy}
use Rattle.call_stages.proofs.Endings.{written_on}
use Rattle.call_stages.specs.Stages.{Files, files, Specified, IsSpecified}
use Rattle.call_stages.proofs.Staging.{says-nothing, goes_on_with}
use Rattle.object_stage.specs.ObjectStage.{ObjectRead, IsObjectIn}
use Rattle.object_stage.proofs.Judging.{ended_at_object, goes_on_with_object}
use Rattle.rank_commands.specs.RankCommand.{RankPrinted, ObjectRanked, RankedIn, CarriesRank}
use Rattle.rank_commands.specs.Faults.{fault_line}
use Rattle.rank_commands.proofs.OneStage.{plain-not-ranged}
use Rattle.rank_commands.specs.RankStages.{too_large_line, Rankable, Counted, SizeJudged}
use Rattle.rank_commands.specs.RankStages as stages

-- tables are refused for labels, for a range, or for a count that is too great
pub tables_refused : (s : Spec) (most : ℕ) (fault : RankFault) (status : Status) (text : List ℕ) → fault ≢ OutOfMemory → TellsRankFault s most fault → Says Status.RankRefused (fault_line fault) 0 status text 0 → Rankable s (Counted s most Never) status text 0
tables_refused s most Labelled status text memory tells says = stages.labelled tells says
tables_refused s most (Ranged e) status text memory tells says = stages.ranged e.0 tells.0 tells.1 says
tables_refused s most (TooMany e n) status text memory tells says = stages.plain tells.0 tells.1 (stages.too_many e.0 n tells.2 says)
tables_refused s most OutOfMemory status text memory tells says = absurd (memory refl)

-- what concerns no count is refused for labels or for a range
pub form_refused : (s : Spec) (fault : RankFault) (status : Status) (text : List ℕ) → ((e n : ℕ) → ¬ (fault ≡ TooMany (record { 0 = e }) n)) → fault ≢ OutOfMemory → TellsRankFault s 0 fault → Says Status.RankRefused (fault_line fault) 0 status text 0 → Rankable s Never status text 0
form_refused s Labelled status text counts memory tells says = stages.labelled tells says
form_refused s (Ranged e) status text counts memory tells says = stages.ranged e.0 tells.0 tells.1 says
form_refused s (TooMany e n) status text counts memory tells says = absurd (counts e.0 n refl)
form_refused s OutOfMemory status text counts memory tells says = absurd (memory refl)

-- the size is refused
pub size_lacks_memory : (tokens : List Token) (e : Refusal) → e ≡ refusal.OutOfMemory → SizeJudged tokens Never (refusal_status e) (refusal_text e) 0
size_lacks_memory tokens e is = stages.no_memory (says-nothing 0 e is)

module _ (s : Spec) (status : Status) (text : List ℕ) (ticks : ℕ) where
  -- what comes next may be said otherwise
  pub rankable-as : (P Q : Outcome) → (s.mode ≡ Mode.Unlabelled → HasPlainRanges s → P status text ticks → Q status text ticks) → Rankable s P status text ticks → Rankable s Q status text ticks
  rankable-as P Q on (stages.labelled mode says) = stages.labelled mode says
  rankable-as P Q on (stages.ranged e mode first says) = stages.ranged e mode first says
  rankable-as P Q on (stages.no_memory says) = stages.no_memory says
  rankable-as P Q on (stages.plain mode plain p) = stages.plain mode plain (on mode plain p)

  pub counted-as : (most : ℕ) (P Q : Outcome) → (P status text ticks → Q status text ticks) → Counted s most P status text ticks → Counted s most Q status text ticks
  counted-as most P Q on (stages.too_many e n many says) = stages.too_many e n many says
  counted-as most P Q on (stages.no_memory says) = stages.no_memory says
  counted-as most P Q on (stages.counted small p) = stages.counted small (on p)

  pub size-as : (tokens : List Token) (P Q : Outcome) → (P status text ticks → Q status text ticks) → SizeJudged tokens P status text ticks → SizeJudged tokens Q status text ticks
  size-as tokens P Q on (stages.too_large large says) = stages.too_large large says
  size-as tokens P Q on (stages.no_memory says) = stages.no_memory says
  size-as tokens P Q on (stages.fits fits p) = stages.fits fits (on p)

  -- what ended the call at a stage
  pub ended_at_form : (next : Outcome) → Rankable s Never status text ticks → Rankable s next status text ticks
  ended_at_form next h = rankable-as Never next (λ mode plain never. absurd never) h

  pub ended_at_tables : (most : ℕ) (next : Outcome) → Rankable s (Counted s most Never) status text ticks → Rankable s (Counted s most next) status text ticks
  ended_at_tables most next h = rankable-as (Counted s most Never) (Counted s most next) (λ mode plain p. counted-as most Never next (λ never. absurd never) p) h

  pub ended_at_size : (tokens : List Token) (next : Outcome) → SizeJudged tokens Never status text ticks → SizeJudged tokens next status text ticks
  ended_at_size tokens next h = size-as tokens Never next (λ never. absurd never) h

  -- the specification is known to be unlabelled, with plain ranges alone
  pub ended_at_counts : (most : ℕ) (next : Outcome) → s.mode ≡ Mode.Unlabelled → HasPlainRanges s → Rankable s (Counted s most Never) status text ticks → Counted s most next status text ticks
  ended_at_counts most next mode plain (stages.labelled labelled says) = absurd (cc)
  ended_at_counts most next mode plain (stages.ranged e unlabelled first says) = absurd (plain-not-ranged s e plain first)
  ended_at_counts most next mode plain (stages.no_memory says) = stages.no_memory says
  ended_at_counts most next mode plain (stages.plain unlabelled ranges p) = counted-as most Never next (λ never. absurd never) p

-- an object that was read is one of the first class
pub read_object : (s : Spec) (text : List ℕ) (tokens : List Token) (labels : Option (List ℕ)) → IsRead s 0 text tokens labels → IsOf s 0 tokens
read_object s text tokens labels is = record { body = is.body; is_body = is.is_body; object = is.object; belongs = is.canonical.read.belongs; spelled = is.spelled }

-- The tokens read from an object's file are those of an object of the specification's first class.
pub object_in : (content : List ℕ → Option (List ℕ)) (s : Spec) (file : List ℕ) (tokens : List Token) (labels : Option (List ℕ)) → IsObjectIn content s file tokens labels → IsOf s 0 tokens
object_in content s file tokens labels h = read_object s _ tokens labels h.is_read

-- a page is written at the end
pub page_written : (P : Outcome) (b a : Option (List ℕ)) (fb fa ticks : ℕ) (result : Status) (page text : List ℕ) → text ≡ page → P Status.Done page 0 → EndsBy (Says Status.Done text 0) (output b a fb fa 0 0) result → EndsBy P (output b a fb fa ticks ticks) result
page_written P b a fb fa ticks result page text same p h = written_on P b a fb fa ticks ticks result Status.Done text 0 h (subst (λ t. P Status.Done t 0) (sym same) p) (omega arith)

-- or a refusal
pub refusal_written : (P : Outcome) (b a : Option (List ℕ)) (fb fa ticks : ℕ) (result : Status) (e : Refusal) → P (refusal_status e) (refusal_text e) 0 → EndsBy (Says (refusal_status e) (refusal_text e) 0) (output b a fb fa 0 0) result → EndsBy P (output b a fb fa ticks ticks) result
refusal_written P b a fb fa ticks result e p h = written_on P b a fb fa ticks ticks result (refusal_status e) (refusal_text e) 0 h p (omega arith)

-- an object that is too large is refused
pub size_refused : (tokens : List Token) (size : ℕ) (status : Status) (text : List ℕ) → size ≡ size_of tokens → 500 < size → Says Status.ObjectRefused (too_large_line size) 0 status text 0 → SizeJudged tokens Never status text 0
size_refused tokens size status text same large says = stages.too_large (omega (arith, same, large)) (subst (λ n. Says Status.ObjectRefused (too_large_line n) 0 status text 0) same says)

-- a refusal that a call answers is handed on
pub handed_on : {T : Type 0} (P : Outcome) (r : Result T Refusal) (e : Refusal) → IsErrAnd r (λ f. f ≡ e) → P (refusal_status e) (refusal_text e) 0 → IfErr r (λ f. P (refusal_status f) (refusal_text f) 0)
handed_on P (Ok x) e is h = absurd is
handed_on P (Err f) e is h = subst (λ z. P (refusal_status z) (refusal_text z) 0) (sym is) h

-- a specification was read, and what comes of it is known
pub carried : (f : Files) (file : List ℕ) (next : Spec → Outcome) (s : Spec) (status : Status) (text : List ℕ) → IsSpecified f.content file s → next s status text 0 → Specified f file next status text 0
carried f file next s status text is p = goes_on_with f file next s status text 0 is p

-- the same where another file was read after it
pub rank_carried : (content content_too : List ℕ → Option (List ℕ)) (before after : List ℕ → ℕ) (file object : List ℕ) (s : Spec) (status : Status) (text : List ℕ) → content_too ≡ content → IsSpecified content file s → RankedIn (files content_too before after) object s status text 0 → CarriesRank (files content before after) file object status text 0
rank_carried content content_too before after file object s status text same is p = carried (files content before after) file (RankedIn (files content before after) object) s status text is (subst (λ k. RankedIn (files k before after) object s status text 0) same p)

-- tables were made
pub counts_go_on : (s : Spec) (most : ℕ) (next : Outcome) (status : Status) (text : List ℕ) → s.mode ≡ Mode.Unlabelled → HasPlainRanges s → HasSmallCounts s most → next status text 0 → Rankable s (Counted s most next) status text 0
counts_go_on s most next status text mode plain small p = stages.plain mode plain (stages.counted small p)

module _ (content : List ℕ → Option (List ℕ)) (before after : List ℕ → ℕ) (object : List ℕ) (s : Spec) (status : Status) (text : List ℕ) where
  -- labels or a range are refused
  pub stopped_at_form : Rankable s Never status text 0 → RankedIn (files content before after) object s status text 0
  stopped_at_form h = ended_at_form s status text 0 (ObjectRead (files content before after) s object (ObjectRanked s)) h

  -- the object is refused
  pub stopped_at_object : s.mode ≡ Mode.Unlabelled → HasPlainRanges s → ObjectRead (files content before after) s object (λ tokens labels. Never) status text 0 → RankedIn (files content before after) object s status text 0
  stopped_at_object mode plain h = stages.plain mode plain (ended_at_object content before after s object (ObjectRanked s) status text 0 h)

  -- it is read
  pub object_goes_on : s.mode ≡ Mode.Unlabelled → HasPlainRanges s → (tokens : List Token) (labels : Option (List ℕ)) → IsObjectIn content s object tokens labels → ObjectRanked s tokens None status text 0 → RankedIn (files content before after) object s status text 0
  object_goes_on mode plain tokens labels is p = stages.plain mode plain (goes_on_with_object content before after s object (ObjectRanked s) tokens labels status text 0 is p)

-- what comes of an object whose size is judged
module _ (s : Spec) (tokens : List Token) (size : ℕ) (same : size ≡ size_of tokens) (small : size ≤ 500) (status : Status) (text : List ℕ) where
  pub stopped_at_counts : s.mode ≡ Mode.Unlabelled → HasPlainRanges s → Rankable s (Counted s size Never) status text 0 → ObjectRanked s tokens None status text 0
  stopped_at_counts mode plain h = stages.fits (omega (arith, same, small)) (ended_at_counts s status text 0 (size_of tokens) (RankPrinted s tokens) mode plain (subst (λ n. Rankable s (Counted s n Never) status text 0) same h))

  pub size_goes_on : HasSmallCounts s size → RankPrinted s tokens status text 0 → ObjectRanked s tokens None status text 0
  size_goes_on counts p = stages.fits (omega (arith, same, small)) (stages.counted (subst (HasSmallCounts s) same counts) p)

-- the size is refused
pub stopped_at_size : (s : Spec) (tokens : List Token) (status : Status) (text : List ℕ) → SizeJudged tokens Never status text 0 → ObjectRanked s tokens None status text 0
stopped_at_size s tokens status text h = ended_at_size s status text 0 tokens (Counted s (size_of tokens) (RankPrinted s tokens)) h
