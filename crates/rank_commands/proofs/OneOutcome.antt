-- Each command has one outcome where its files are known.
use Rattle.std.proofs.Common.{◌≡◌, ◌≢◌, ℕ, zero, suc, ◌<◌, ◌≤◌, arith, List, [], ◌++◌, refl, sym, ap, subst, ◌∙◌}
use Rattle.std.specs.Prelude.{Option, Some}
use Rattle.bz_model.specs.Spec.{Spec, body_of}
use Rattle.bz_model.specs.Object.{Object, Belongs}
use Rattle.bz_model.specs.ObjectText.{Arrangement}
use Rattle.bz_laws.proofs.Texts.{one_text}
use Rattle.object_store.specs.declared.token.Token.{Token}
use Rattle.object_store.specs.Tokens.{size_of}
use Rattle.rank_tables.specs.RankOrder.{IsSized, IsCount, IsRanked}
use Rattle.rank_tables.specs.TableRule.{IsRankable}
use Rattle.rank_tables.proofs.Counting.{count-unique}
use Rattle.rank_tables.proofs.Rankable.{rankable}
use Rattle.rank_tables.proofs.Ranking.{rank-small, rank-one}
use Rattle.rank_tables.proofs.Shaped.{shape-rank}
use Rattle.call_stages.specs.Lines.{feed, end_done_line, lines_below}
use Rattle.call_stages.specs.Outcomes.{Says, IsOne}
use Rattle.call_stages.specs.Stages.{Files, IsCalm}
use Rattle.call_stages.specs.declared.status.Status.{Status}
use Rattle.call_stages.proofs.OneReading.{one-specified-founded}
use Rattle.object_stage.specs.ObjectStage.{ObjectRead}
use Rattle.object_stage.proofs.OneObject.{one-object}
use Rattle.rank_commands.specs.RankStages.{Counted}
use Rattle.rank_commands.specs.CountCommand.{size_line, counts_text, AreCountsTo, CountsPrinted, CountedTo, CarriesCount}
use Rattle.rank_commands.specs.CountCommand as counts
use Rattle.rank_commands.specs.UnrankCommand.{number_line, object_page, ObjectOfRank, Unranked, CarriesUnrank}
use Rattle.rank_commands.specs.UnrankCommand as unranking
use Rattle.rank_commands.specs.RankCommand.{rank_text, RankPrinted, ObjectRanked, RankedIn, CarriesRank}
use Rattle.rank_commands.specs.RankCommand as ranking
use Rattle.rank_commands.proofs.OneStage.{one-rankable, one-counted, one-sized}

-- a node and a size have one count
one-number : (s : Spec) (d e n j k : ℕ) → d ≡ e → IsCount s d n j → IsCount s e n k → j ≡ k
one-number s d e n j k same a b = count-unique (IsSized s e n) (subst (λ z. IsCount s z n j) same a) b

-- lines that are the same one by one
same-lines : (a b : ℕ → List ℕ) (k : ℕ) → ((n : ℕ) → n < k → a n ≡ b n) → lines_below a k ≡ lines_below b k
unfolding lines_below
same-lines a b zero each = refl
same-lines a b (suc k) each = ap (λ t. t ++ a k) (same-lines a b k (λ n lt. each n (omega (arith, lt)))) ∙ ap (λ t. lines_below b k ++ t) (each k (omega arith))

-- the counts have one text
pub one-counts : (s : Spec) (most : ℕ) (a b : ℕ → ℕ) → AreCountsTo s most a → AreCountsTo s most b → counts_text a most ≡ counts_text b most
one-counts s most a b h k =
    let same : h.body ≡ k.body = let p = h.is_body in let q = k.is_body in cc in
    ap (λ t. t ++ end_done_line) (same-lines (size_line a) (size_line b) (suc most) (λ n lt. let le : n ≤ most = omega (arith, lt) in one-line n (one-number s h.body k.body n (a n) (b n) same (h.counts n le) (k.counts n le))))
  where
    one-line : (n : ℕ) → a n ≡ b n → size_line a n ≡ size_line b n
    one-line n e = ap (λ z. size_line (λ m. z) n) e

-- an object has one page
pub one-page : (s : Spec) (d e : ℕ) (o p : Object) (b : Belongs s d o) (c : Belongs s e p) → d ≡ e → o ≡ p → object_page s d o b ≡ object_page s e p c
one-page s d e o p b c body same = subst (λ z. (k : Belongs s z p) → object_page s d o b ≡ object_page s z p k) body (subst (λ q. (k : Belongs s d q) → object_page s d o b ≡ object_page s d q k) same (λ k. ap (λ t. t ++ (feed ++ end_done_line)) (one_text Arrangement.Canonical s d o [] b k))) c

-- what is said twice in one line is the same
same-line : (said status other : Status) (line line_too text others : List ℕ) (ticks more : ℕ) → line ≡ line_too → Says said line 0 status text ticks → Says said line_too 0 other others more → (status ≡ other) × (text ≡ others)
same-line said status other line line_too text others ticks more same h k = (h.status_is ∙ sym k.status_is, h.text_is ∙ same ∙ sym k.text_is)

module _ (s : Spec) (status other : Status) (text others : List ℕ) (ticks more : ℕ) (m : status ≢ Status.OutOfMemory) (n : other ≢ Status.OutOfMemory) where
  counts-twice : (most : ℕ) → CountsPrinted s most status text ticks → CountsPrinted s most other others more → (status ≡ other) × (text ≡ others)
  counts-twice most (counts.no_memory says) q = absurd (m says.status_is)
  counts-twice most (counts.printed a h says) (counts.no_memory says_too) = absurd (n says_too.status_is)
  counts-twice most (counts.printed a h says) (counts.printed b k says_too) = same-line Status.Done status other (counts_text a most) (counts_text b most) text others ticks more (one-counts s most a b h k) says says_too

  -- no object has a rank that is beyond the count
  beyond-not-ranked : {P : Type 0} (d e size r count : ℕ) (o : Object) → body_of s 0 ≡ Some d → body_of s 0 ≡ Some e → IsCount s d size count → count ≤ r → IsRanked s e size r o → P
  beyond-not-ranked d e size r count o is is_too counted beyond ranked =
      let same : d ≡ e = cc in
      let below : r < count = rank-small s e size o ranked.sized ranked.rank (subst (λ z. IsCount s z size count) same counted) in
      absurd (omega (arith, below, beyond))

  object-twice : (size r : ℕ) → IsRankable s → ObjectOfRank s size r status text ticks → ObjectOfRank s size r other others more → (status ≡ other) × (text ≡ others)
  object-twice size r can (unranking.no_memory says) q = absurd (m says.status_is)
  object-twice size r can (unranking.beyond d k is counted beyond says) (unranking.no_memory says_too) = absurd (n says_too.status_is)
  object-twice size r can (unranking.beyond d k is counted beyond says) (unranking.beyond e j is_too counted_too beyond_too says_too) = same-line Status.RankRefused status other number_line number_line text others ticks more refl says says_too
  object-twice size r can (unranking.beyond d k is counted beyond says) (unranking.printed e p c is_too ranked says_too) = beyond-not-ranked d e size r k p is is_too counted beyond ranked
  object-twice size r can (unranking.printed d o b is ranked says) (unranking.no_memory says_too) = absurd (n says_too.status_is)
  object-twice size r can (unranking.printed d o b is ranked says) (unranking.beyond e k is_too counted beyond says_too) = beyond-not-ranked e d size r k o is_too is counted beyond ranked
  object-twice size r can (unranking.printed d o b is ranked says) (unranking.printed e p c is_too ranked_too says_too) =
      let body : d ≡ e = cc in
      let same : o ≡ p = rank-one s can e size o p (subst (λ z. IsRanked s z size r o) body ranked) ranked_too in
      same-line Status.Done status other (object_page s d o b) (object_page s e p c) text others ticks more (one-page s d e o p b c body same) says says_too

  rank-twice : (tokens : List Token) → RankPrinted s tokens status text ticks → RankPrinted s tokens other others more → (status ≡ other) × (text ≡ others)
  rank-twice tokens (ranking.no_memory says) q = absurd (m says.status_is)
  rank-twice tokens (ranking.printed d k r is counted ranked says) (ranking.no_memory says_too) = absurd (n says_too.status_is)
  rank-twice tokens (ranking.printed d k r is counted ranked says) (ranking.printed e j q is_too counted_too ranked_too says_too) =
      let body : d ≡ e = cc in
      let count : k ≡ j = one-number s d e (size_of tokens) k j body counted counted_too in
      let rank : r ≡ q = shape-rank s 0 tokens ranked ranked_too in
      same-line Status.Done status other (rank_text r k) (rank_text q j) text others ticks more (ap (λ z. rank_text z k) rank ∙ ap (λ z. rank_text q z) count) says says_too

-- what is printed is one text
one-printed : (s : Spec) (most : ℕ) → IsOne (CountsPrinted s most)
one-printed s most = record { one = λ status other text others ticks more m n p q. counts-twice s status other text others ticks more m n most p q }

one-of-rank : (s : Spec) (n r : ℕ) → IsRankable s → IsOne (ObjectOfRank s n r)
one-of-rank s size r can = record { one = λ status other text others ticks more m n p q. object-twice s status other text others ticks more m n size r can p q }

one-rank-printed : (s : Spec) (tokens : List Token) → IsOne (RankPrinted s tokens)
one-rank-printed s tokens = record { one = λ status other text others ticks more m n p q. rank-twice s status other text others ticks more m n tokens p q }

-- the command `count`
pub one-count : (f : Files) (file : List ℕ) (most : ℕ) → IsCalm f file → IsOne (CarriesCount f file most)
one-count f file most calm = one-specified-founded f file (CountedTo most) calm (λ s sound within founded. one-rankable s (Counted s most (CountsPrinted s most)) (λ mode plain. one-counted s most (CountsPrinted s most) (one-printed s most)))

-- the command `unrank`
pub one-unrank : (f : Files) (file : List ℕ) (n r : ℕ) → IsCalm f file → IsOne (CarriesUnrank f file n r)
one-unrank f file n r calm = one-specified-founded f file (Unranked n r) calm (λ s sound within founded. one-rankable s (Counted s n (ObjectOfRank s n r)) (λ mode plain. one-counted s n (ObjectOfRank s n r) (one-of-rank s n r (rankable s sound founded mode plain))))

-- an object that was read has one outcome
one-ranked : (s : Spec) (tokens : List Token) (labels : Option (List ℕ)) → IsOne (ObjectRanked s tokens labels)
one-ranked s tokens labels = one-sized s tokens (Counted s (size_of tokens) (RankPrinted s tokens)) (one-counted s (size_of tokens) (RankPrinted s tokens) (one-rank-printed s tokens))

-- the command `rank`
pub one-rank : (f : Files) (file object : List ℕ) → IsCalm f file → IsCalm f object → IsOne (CarriesRank f file object)
one-rank f file object calm calm_too = one-specified-founded f file (RankedIn f object) calm (λ s sound within founded. one-rankable s (ObjectRead f s object (ObjectRanked s)) (λ mode plain. one-object f s object (ObjectRanked s) calm_too sound within (λ text tokens labels is. one-ranked s tokens labels)))
