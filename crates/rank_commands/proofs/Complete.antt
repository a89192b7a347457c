-- What is certain to be counted, made or ranked: the outcome is shown, and a command has one alone.
use Rattle.std.proofs.Common.{◌≡◌, ◌≢◌, ℕ, ◌<◌, ◌≤◌, arith, List, [], length, refl, sym, ap, subst, ◌∙◌}
use Rattle.std.specs.Prelude.{Option, Some, None}
use Rattle.bz_model.specs.Spec.{Spec, Mode, body_of}
use Rattle.bz_model.specs.Object.{Object, Belongs}
use Rattle.bz_model.specs.Measures.{size}
use Rattle.bz_model.specs.ObjectText.{object_text}
use Rattle.object_store.specs.Tokens.{tokens_of, size_of, IsOf}
use Rattle.object_store.specs.declared.token.Token.{Token}
use Rattle.object_store.proofs.Sizes.{size_of-tokens}
use Rattle.object_text.specs.Reading.{IsRead}
use Rattle.rank_tables.specs.RankOrder.{IsCount, IsRank, IsRanked}
use Rattle.rank_tables.specs.Refusals.{IsFirstNotPlain, HasPlainRanges, IsTooMany, HasSmallCounts}
use Rattle.rank_tables.specs.Shapes.{IsRankOf}
use Rattle.call_stages.specs.Stages.{Files, HasSpecification}
use Rattle.call_stages.specs.Stages as reading
use Rattle.call_stages.specs.declared.status.Status.{Status}
use Rattle.call_stages.proofs.Completing.{said, whole-read, specified-on}
use Rattle.object_stage.specs.ObjectStage.{without_feed, ObjectRead}
use Rattle.object_stage.specs.ObjectStage as objects
use Rattle.rank_commands.specs.RankStages.{labelled_line, range_line, too_many_line, too_large_line, Rankable, Counted, SizeJudged}
use Rattle.rank_commands.specs.RankStages as stages
use Rattle.rank_commands.specs.CountCommand.{counts_text, AreCountsTo, CountsPrinted, CountedTo, CarriesCount}
use Rattle.rank_commands.specs.CountCommand as counts
use Rattle.rank_commands.specs.UnrankCommand.{number_line, object_page, ObjectOfRank, Unranked, CarriesUnrank}
use Rattle.rank_commands.specs.UnrankCommand as unranking
use Rattle.rank_commands.specs.RankCommand.{rank_text, RankPrinted, ObjectRanked, RankedIn, CarriesRank}
use Rattle.rank_commands.specs.RankCommand as ranking
use Rattle.rank_commands.specs.Fit.{CanBeCounted, IsTextIn, ComesOf}
use Rattle.rank_commands.specs.Fit as fits
use Rattle.rank_commands.proofs.OneStage.{labelled-only, ranged-only, plain-only, many-only, fits-only}
use Rattle.rank_commands.proofs.OneOutcome.{one-count, one-unrank, one-rank}

-- Where the specification can be counted up to a greatest size, the command is done and prints the
-- counts of the first class, unless memory runs out.
pub counted : (f : Files) (file : List ℕ) (s : Spec) (most : ℕ) (count : ℕ → ℕ) (status : Status) (text : List ℕ) (ticks : ℕ) → HasSpecification f file s → CanBeCounted s most → AreCountsTo s most count → status ≢ Status.OutOfMemory → CarriesCount f file most status text ticks → (status ≡ Status.Done) × (text ≡ counts_text count most)
counted f file s most count status text ticks fit can are memory h =
    let shown : CarriesCount f file most Status.Done (counts_text count most) 0 = specified-on f file s (CountedTo most) Status.Done (counts_text count most) 0 fit (stages.plain can.unlabelled can.plain (stages.counted can.small (counts.printed count are (said Status.Done (counts_text count most))))) in
    (one-count f file most fit.calm).one status Status.Done text (counts_text count most) ticks 0 memory (λ e. absurd (cc)) h shown

module _ (f : Files) (file : List ℕ) (s : Spec) (n r : ℕ) (status : Status) (text : List ℕ) (ticks : ℕ) (fit : HasSpecification f file s) (can : CanBeCounted s n) (memory : status ≢ Status.OutOfMemory) (h : CarriesUnrank f file n r status text ticks) where
  -- an outcome that was shown is the one
  unranked-as : (shown : Status) (line : List ℕ) → shown ≢ Status.OutOfMemory → ObjectOfRank s n r shown line 0 → (status ≡ shown) × (text ≡ line)
  unranked-as shown line told p = (one-unrank f file n r fit.calm).one status shown text line ticks 0 memory told h (specified-on f file s (Unranked n r) shown line 0 fit (stages.plain can.unlabelled can.plain (stages.counted can.small p)))

  pub printed : (body : ℕ) (o : Object) (belongs : Belongs s body o) → body_of s 0 ≡ Some body → IsRanked s body n r o → (status ≡ Status.Done) × (text ≡ object_page s body o belongs)
  printed body o belongs is ranked = unranked-as Status.Done (object_page s body o belongs) (λ e. absurd (cc)) (unranking.printed body o belongs is ranked (said Status.Done (object_page s body o belongs)))

  pub beyond : (body count : ℕ) → body_of s 0 ≡ Some body → IsCount s body n count → count ≤ r → (status ≡ Status.RankRefused) × (text ≡ number_line)
  beyond body count is counted le = unranked-as Status.RankRefused number_line (λ e. absurd (cc)) (unranking.beyond body count is counted le (said Status.RankRefused number_line))

-- The text of an object without labels is read as its tokens.
abbrev pub ReadsPrinted : Spec → Type 0
ReadsPrinted s = (c : ℕ) (tokens : List Token) (of : IsOf s c tokens) → s.mode ≡ Mode.Unlabelled → (text : List ℕ) → text ≡ object_text s of.body of.object of.belongs [] → IsRead s c text tokens None

module _ (f : Files) (file object : List ℕ) (s : Spec) (body : ℕ) (o : Object) (belongs : Belongs s body o) (status : Status) (text : List ℕ) (ticks : ℕ) (fit : HasSpecification f file s) (mode : s.mode ≡ Mode.Unlabelled) (plain : HasPlainRanges s) (is : body_of s 0 ≡ Some body) (text_in : IsTextIn f object s body o belongs) (reads : ReadsPrinted s) (memory : status ≢ Status.OutOfMemory) (h : CarriesRank f file object status text ticks) where
  -- the object is read
  read-in : IsRead s 0 (without_feed text_in.calm.bytes) (tokens_of o) None
  read-in = reads 0 (tokens_of o) (record { body = body; is_body = is; object = o; belongs = belongs; spelled = refl }) mode (without_feed text_in.calm.bytes) text_in.is_text

  -- an outcome that was shown is the one
  ranked-as : (shown : Status) (line : List ℕ) → shown ≢ Status.OutOfMemory → ObjectRanked s (tokens_of o) None shown line 0 → (status ≡ shown) × (text ≡ line)
  ranked-as shown line told p =
      let few : length text_in.calm.bytes ≤ 16777217 = let most = text_in.few in omega (arith, most) in
      let object_read : ObjectRead f s object (ObjectRanked s) shown line 0 = reading.read text_in.calm.bytes (whole-read f object 16777217 text_in.calm few) (objects.read (tokens_of o) None text_in.few read-in p) in
      (one-rank f file object fit.calm text_in.calm).one status shown text line ticks 0 memory told h (specified-on f file s (RankedIn f object) shown line 0 fit (stages.plain mode plain object_read))

  pub ranked : HasSmallCounts s (size o) → size o ≤ 500 → (count r : ℕ) → IsCount s body (size o) count → IsRank s body o r → (status ≡ Status.Done) × (text ≡ rank_text r count)
  ranked small few count r counted is_rank =
      let same : size_of (tokens_of o) ≡ size o = size_of-tokens o in
      let line = rank_text r count in
      let of_rank : IsRankOf s 0 (tokens_of o) r = record { body = body; is_body = is; object = o; spelled = refl; ranked = record { sized = (belongs, sym same); rank = is_rank } } in
      ranked-as Status.Done line (λ e. absurd (cc)) (stages.fits (omega (arith, same, few)) (stages.counted (subst (HasSmallCounts s) (sym same) small) (ranking.printed body count r is (subst (λ z. IsCount s body z count) (sym same) counted) of_rank (said Status.Done line))))

  pub too_large : 500 < size o → (status ≡ Status.ObjectRefused) × (text ≡ too_large_line (size o))
  too_large large =
      let same : size_of (tokens_of o) ≡ size o = size_of-tokens o in
      let r = ranked-as Status.ObjectRefused (too_large_line (size_of (tokens_of o))) (λ e. absurd (cc)) (stages.too_large (omega (arith, same, large)) (said Status.ObjectRefused (too_large_line (size_of (tokens_of o))))) in
      (r.0, r.1 ∙ ap too_large_line same)

-- labels are refused
pub labelled_refused : (f : Files) (s : Spec) (status : Status) (text : List ℕ) (ticks : ℕ) → s.mode ≡ Mode.Labelled → status ≢ Status.OutOfMemory → ComesOf f s status text ticks → (status ≡ Status.RankRefused) × (text ≡ labelled_line)
labelled_refused f s status text ticks mode memory (fits.of_count most h) = labelled-only s (Counted s most (CountsPrinted s most)) status text ticks memory mode h
labelled_refused f s status text ticks mode memory (fits.of_unrank n r h) = labelled-only s (Counted s n (ObjectOfRank s n r)) status text ticks memory mode h
labelled_refused f s status text ticks mode memory (fits.of_rank object h) = labelled-only s (ObjectRead f s object (ObjectRanked s)) status text ticks memory mode h

-- so is a range that isn't plain
pub range_refused : (f : Files) (s : Spec) (e : ℕ) (status : Status) (text : List ℕ) (ticks : ℕ) → s.mode ≡ Mode.Unlabelled → IsFirstNotPlain s e → status ≢ Status.OutOfMemory → ComesOf f s status text ticks → (status ≡ Status.RankRefused) × (text ≡ range_line e)
range_refused f s e status text ticks mode first memory (fits.of_count most h) = ranged-only s (Counted s most (CountsPrinted s most)) status text ticks memory e mode first h
range_refused f s e status text ticks mode first memory (fits.of_unrank n r h) = ranged-only s (Counted s n (ObjectOfRank s n r)) status text ticks memory e mode first h
range_refused f s e status text ticks mode first memory (fits.of_rank object h) = ranged-only s (ObjectRead f s object (ObjectRanked s)) status text ticks memory e mode first h

module _ (s : Spec) (status : Status) (text : List ℕ) (ticks : ℕ) (memory : status ≢ Status.OutOfMemory) where
  -- and a count that is too great
  pub count_refused : (most e n : ℕ) → s.mode ≡ Mode.Unlabelled → HasPlainRanges s → IsTooMany s most e n → CountedTo most s status text ticks → (status ≡ Status.RankRefused) × (text ≡ too_many_line e n)
  count_refused most e n mode plain many h = many-only s (CountsPrinted s most) status text ticks memory most e n many (plain-only s (Counted s most (CountsPrinted s most)) status text ticks memory mode plain h)

  pub unrank_refused : (n r e m : ℕ) → s.mode ≡ Mode.Unlabelled → HasPlainRanges s → IsTooMany s n e m → Unranked n r s status text ticks → (status ≡ Status.RankRefused) × (text ≡ too_many_line e m)
  unrank_refused n r e m mode plain many h = many-only s (ObjectOfRank s n r) status text ticks memory n e m many (plain-only s (Counted s n (ObjectOfRank s n r)) status text ticks memory mode plain h)

  pub rank_refused : (tokens : List Token) (labels : Option (List ℕ)) (e n : ℕ) → size_of tokens ≤ 500 → IsTooMany s (size_of tokens) e n → ObjectRanked s tokens labels status text ticks → (status ≡ Status.RankRefused) × (text ≡ too_many_line e n)
  rank_refused tokens labels e n few many h = many-only s (RankPrinted s tokens) status text ticks memory (size_of tokens) e n many (fits-only s (Counted s (size_of tokens) (RankPrinted s tokens)) status text ticks memory tokens few h)
