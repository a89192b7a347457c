-- Each stage has one outcome where what comes next has one.
use Rattle.std.proofs.Common.{◌≡◌, ◌≢◌, ℕ, ◌<◌, ◌≤◌, arith, List, sym, ap, subst, ◌∙◌}
use Rattle.std.proofs.Math.Decide.{dec_le}
use Rattle.bz_model.specs.Spec.{Spec, Mode}
use Rattle.object_store.specs.declared.token.Token.{Token}
use Rattle.object_store.specs.Tokens.{size_of}
use Rattle.rank_tables.specs.Refusals.{IsFirstNotPlain, HasPlainRanges, IsTooMany, HasSmallCounts}
use Rattle.rank_tables.proofs.Refused.{small-not_many, small-not_refused}
use Rattle.call_stages.specs.Outcomes.{Outcome, Says, IsOne}
use Rattle.call_stages.specs.declared.status.Status.{Status}
use Rattle.rank_commands.specs.RankStages.{labelled_line, range_line, too_many_line, too_large_line, Rankable, Counted, SizeJudged}
use Rattle.rank_commands.specs.RankStages as stages

-- the first node whose range isn't plain is one node
one-ranged : (s : Spec) (d e : ℕ) → IsFirstNotPlain s d → IsFirstNotPlain s e → d ≡ e
one-ranged s d e h k = go (dec_le d e) (dec_le e d)
  where
    go : Dec (d ≤ e) → Dec (e ≤ d) → d ≡ e
    go (yes a) (yes b) = omega arith
    go (no a) b = absurd (h.first e (omega (arith, a)) k.ranged)
    go (yes a) (no b) = absurd (k.first d (omega (arith, b)) h.ranged)

-- the first count that is too great is that of one size and one node
one-size : (s : Spec) (most d m e n : ℕ) → IsTooMany s most d m → IsTooMany s most e n → m ≡ n
one-size s most d m e n h k = go (dec_le m n) (dec_le n m)
  where
    go : Dec (m ≤ n) → Dec (n ≤ m) → m ≡ n
    go (yes a) (yes b) = omega arith
    go (no a) b = absurd (small-not_many s e n (h.lesser_sizes e n k.a_node (omega (arith, a))) k.many)
    go (yes a) (no b) = absurd (small-not_many s d m (k.lesser_sizes d m h.a_node (omega (arith, b))) h.many)

one-node : (s : Spec) (most d e n : ℕ) → IsTooMany s most d n → IsTooMany s most e n → d ≡ e
one-node s most d e n h k = go (dec_le d e) (dec_le e d)
  where
    go : Dec (d ≤ e) → Dec (e ≤ d) → d ≡ e
    go (yes a) (yes b) = omega arith
    go (no a) b = absurd (small-not_many s e n (h.lesser_nodes e (omega (arith, a))) k.many)
    go (yes a) (no b) = absurd (small-not_many s d n (k.lesser_nodes d (omega (arith, b))) h.many)

one-count-line : (s : Spec) (most d m e n : ℕ) → IsTooMany s most d m → IsTooMany s most e n → too_many_line d m ≡ too_many_line e n
one-count-line s most d m e n h k =
    let size : m ≡ n = one-size s most d m e n h k in
    let node : d ≡ e = one-node s most d e n (subst (λ z. IsTooMany s most d z) size h) k in
    ap (λ z. too_many_line z m) node ∙ ap (λ z. too_many_line e z) size

-- plain ranges have no first that isn't
pub plain-not-ranged : (s : Spec) (e : ℕ) → HasPlainRanges s → ¬ (IsFirstNotPlain s e)
plain-not-ranged s e plain first = first.ranged.ranged (plain.plain e first.ranged.node first.ranged.is_node)

module _ (s : Spec) (next : Outcome) (status : Status) (text : List ℕ) (ticks : ℕ) (memory : status ≢ Status.OutOfMemory) where
  -- a labelled specification
  pub labelled-only : s.mode ≡ Mode.Labelled → Rankable s next status text ticks → (status ≡ Status.RankRefused) × (text ≡ labelled_line)
  labelled-only mode (stages.labelled labelled says) = (says.status_is, says.text_is)
  labelled-only mode (stages.ranged e unlabelled first says) = absurd (cc)
  labelled-only mode (stages.no_memory says) = absurd (memory says.status_is)
  labelled-only mode (stages.plain unlabelled plain p) = absurd (cc)

  -- one with a range that isn't plain
  pub ranged-only : (e : ℕ) → s.mode ≡ Mode.Unlabelled → IsFirstNotPlain s e → Rankable s next status text ticks → (status ≡ Status.RankRefused) × (text ≡ range_line e)
  ranged-only e mode first (stages.labelled labelled says) = absurd (cc)
  ranged-only e mode first (stages.ranged d unlabelled other says) = (says.status_is, says.text_is ∙ ap range_line (one-ranged s d e other first))
  ranged-only e mode first (stages.no_memory says) = absurd (memory says.status_is)
  ranged-only e mode first (stages.plain unlabelled plain p) = absurd (plain-not-ranged s e plain first)

  -- one that is neither
  pub plain-only : s.mode ≡ Mode.Unlabelled → HasPlainRanges s → Rankable s next status text ticks → next status text ticks
  plain-only mode plain (stages.labelled labelled says) = absurd (cc)
  plain-only mode plain (stages.ranged e unlabelled first says) = absurd (plain-not-ranged s e plain first)
  plain-only mode plain (stages.no_memory says) = absurd (memory says.status_is)
  plain-only mode plain (stages.plain unlabelled ranges p) = p

  -- a count that is too great
  pub many-only : (most e n : ℕ) → IsTooMany s most e n → Counted s most next status text ticks → (status ≡ Status.RankRefused) × (text ≡ too_many_line e n)
  many-only most e n many (stages.too_many d m other says) = (says.status_is, says.text_is ∙ one-count-line s most d m e n other many)
  many-only most e n many (stages.no_memory says) = absurd (memory says.status_is)
  many-only most e n many (stages.counted small p) = absurd (small-not_refused s most e n small many)

  -- counts that aren't
  pub small-only : (most : ℕ) → HasSmallCounts s most → Counted s most next status text ticks → next status text ticks
  small-only most small (stages.too_many e n many says) = absurd (small-not_refused s most e n small many)
  small-only most small (stages.no_memory says) = absurd (memory says.status_is)
  small-only most small (stages.counted others p) = p

  -- an object that is too large
  pub large-only : (tokens : List Token) → 500 < size_of tokens → SizeJudged tokens next status text ticks → (status ≡ Status.ObjectRefused) × (text ≡ too_large_line (size_of tokens))
  large-only tokens large (stages.too_large other says) = (says.status_is, says.text_is)
  large-only tokens large (stages.no_memory says) = absurd (memory says.status_is)
  large-only tokens large (stages.fits fits p) = absurd (omega (arith, large, fits))

  -- and one that isn't
  pub fits-only : (tokens : List Token) → size_of tokens ≤ 500 → SizeJudged tokens next status text ticks → next status text ticks
  fits-only tokens fits (stages.too_large large says) = absurd (omega (arith, large, fits))
  fits-only tokens fits (stages.no_memory says) = absurd (memory says.status_is)
  fits-only tokens fits (stages.fits other p) = p

-- what is said once and known of the other is the same
same-said : (said status other : Status) (line text others : List ℕ) (ticks : ℕ) → Says said line 0 status text ticks → (other ≡ said) × (others ≡ line) → (status ≡ other) × (text ≡ others)
same-said said status other line text others ticks says r = (says.status_is ∙ sym r.0, says.text_is ∙ sym r.1)

module _ (s : Spec) (next : Outcome) (status other : Status) (text others : List ℕ) (ticks more : ℕ) (m : status ≢ Status.OutOfMemory) (n : other ≢ Status.OutOfMemory) where
  rankable-twice : (s.mode ≡ Mode.Unlabelled → HasPlainRanges s → IsOne next) → Rankable s next status text ticks → Rankable s next other others more → (status ≡ other) × (text ≡ others)
  rankable-twice ones (stages.labelled mode says) q = same-said Status.RankRefused status other labelled_line text others ticks says (labelled-only s next other others more n mode q)
  rankable-twice ones (stages.ranged e mode first says) q = same-said Status.RankRefused status other (range_line e) text others ticks says (ranged-only s next other others more n e mode first q)
  rankable-twice ones (stages.no_memory says) q = absurd (m says.status_is)
  rankable-twice ones (stages.plain mode plain p) q = (ones mode plain).one status other text others ticks more m n p (plain-only s next other others more n mode plain q)

  counted-twice : (most : ℕ) → IsOne next → Counted s most next status text ticks → Counted s most next other others more → (status ≡ other) × (text ≡ others)
  counted-twice most ones (stages.too_many e k many says) q = same-said Status.RankRefused status other (too_many_line e k) text others ticks says (many-only s next other others more n most e k many q)
  counted-twice most ones (stages.no_memory says) q = absurd (m says.status_is)
  counted-twice most ones (stages.counted small p) q = ones.one status other text others ticks more m n p (small-only s next other others more n most small q)

  size-twice : (tokens : List Token) → IsOne next → SizeJudged tokens next status text ticks → SizeJudged tokens next other others more → (status ≡ other) × (text ≡ others)
  size-twice tokens ones (stages.too_large large says) q = same-said Status.ObjectRefused status other (too_large_line (size_of tokens)) text others ticks says (large-only s next other others more n tokens large q)
  size-twice tokens ones (stages.no_memory says) q = absurd (m says.status_is)
  size-twice tokens ones (stages.fits fits p) q = ones.one status other text others ticks more m n p (fits-only s next other others more n tokens fits q)

-- the stages have one outcome
pub one-rankable : (s : Spec) (next : Outcome) → (s.mode ≡ Mode.Unlabelled → HasPlainRanges s → IsOne next) → IsOne (Rankable s next)
one-rankable s next ones = record { one = λ status other text others ticks more m n p q. rankable-twice s next status other text others ticks more m n ones p q }

-- Counting objects up to a greatest size has one outcome, but for want of memory, where what
-- follows has one.
pub one-counted : (s : Spec) (most : ℕ) (next : Outcome) → IsOne next → IsOne (Counted s most next)
one-counted s most next ones = record { one = λ status other text others ticks more m n p q. counted-twice s next status other text others ticks more m n most ones p q }

-- Judging an object's size has one outcome, but for want of memory, where what follows has one.
pub one-sized : (s : Spec) (tokens : List Token) (next : Outcome) → IsOne next → IsOne (SizeJudged tokens next)
one-sized s tokens next ones = record { one = λ status other text others ticks more m n p q. size-twice s next status other text others ticks more m n tokens ones p q }
