-- What is printed: counts, an object, a rank.
use Rattle.std.proofs.Common.{◌≡◌, ℕ, ◌+◌, ◌<◌, ◌≤◌, arith, add-one, List, [], ◌++◌, refl, ap, subst, ◌∙◌}
use Rattle.std.specs.Prelude.{Some}
use Rattle.bz_model.specs.Spec.{Spec, body_of}
use Rattle.bz_model.specs.ObjectText.{object_text}
use Rattle.class_system.specs.Sound.{IsSound}
use Rattle.class_system.proofs.Soundness.{body_in_range}
use Rattle.object_store.specs.declared.token.Token.{Token}
use Rattle.object_store.specs.Tokens.{size_of, IsOf}
use Rattle.rank_tables.specs.RankOrder.{IsCount, IsRanked}
use Rattle.rank_tables.specs.Shapes.{IsRankOf}
use Rattle.rank_tables.specs.Tables.{Table, AreCounts, IsNumberOf, count_told}
use Rattle.call_stages.specs.Outcomes.{Says}
use Rattle.call_stages.specs.declared.status.Status.{Status}
use Rattle.call_stages.specs.Lines.{feed, end_done_line, lines_below}
use Rattle.rank_commands.specs.CountCommand.{size_line, counts_text, AreCountsTo, CountsPrinted}
use Rattle.rank_commands.specs.CountCommand as counts
use Rattle.rank_commands.specs.UnrankCommand.{number_line, object_page, ObjectOfRank}
use Rattle.rank_commands.specs.UnrankCommand as unranking
use Rattle.rank_commands.specs.RankCommand.{rank_text, RankPrinted}
use Rattle.rank_commands.specs.RankCommand as ranking

module _ (s : Spec) (sound : IsSound s) (most : ℕ) (t : Table) (are : AreCounts s most t) where
  -- the body of the first class has a row
  pub body_has_row : (body : ℕ) → body_of s 0 ≡ Some body → body < t.counts.nodes
  body_has_row body is = let inside = body_in_range s sound 0 body is in let nodes = are.each_node in omega (arith, inside, nodes)

  -- its number is the count
  pub count_of : (body n : ℕ) → body_of s 0 ≡ Some body → n ≤ most → IsCount s body n (count_told t body n)
  count_of body n is le = are.counts body n (body_in_range s sound 0 body is) le

  -- the counts are printed
  pub counts_printed : (body : ℕ) (text : List ℕ) → body_of s 0 ≡ Some body → text ≡ counts_text (count_told t body) most → CountsPrinted s most Status.Done text 0
  counts_printed body text is same = counts.printed (count_told t body) (record { body = body; is_body = is; counts = λ n le. count_of body n is le }) (record { status_is = refl; text_is = same; ticks_are = refl })

-- the lines of the sizes were appended to no text, and the last line to them
pub counts_joined : (count : ℕ → ℕ) (start : List ℕ) (most : ℕ) (text page : List ℕ) → start ≡ [] → text ≡ start ++ lines_below (size_line count) (most + 1) → page ≡ text ++ end_done_line → page ≡ counts_text count most
counts_joined count start most text page none lines last = last ∙ ap (λ t. t ++ end_done_line) (lines ∙ ap (λ t. t ++ lines_below (size_line count) (most + 1)) none ∙ ap (lines_below (size_line count)) (add-one most))

-- an object with a rank is one of its class
pub ranked_object : (s : Spec) (c r : ℕ) (tokens : List Token) → IsRankOf s c tokens r → IsOf s c tokens
ranked_object s c r tokens h = record { body = h.body; is_body = h.is_body; object = h.object; belongs = h.ranked.sized.0; spelled = h.spelled }

-- the text of an object and the last line, in the specification's own tables
pub page_of : (s r : Spec) (tokens : List Token) (text page : List ℕ) → s ≡ r → ((of : IsOf s 0 tokens) → text ≡ object_text s of.body of.object of.belongs []) → page ≡ text ++ (feed ++ end_done_line) → (of : IsOf r 0 tokens) → page ≡ object_page r of.body of.object of.belongs
page_of s r tokens text page same printed last = subst (λ (k : Spec). (of : IsOf k 0 tokens) → page ≡ object_page k of.body of.object of.belongs) same (λ of. last ∙ ap (λ t. t ++ (feed ++ end_done_line)) (printed of))

-- the object of a rank is printed
pub object_printed : (s : Spec) (n r : ℕ) (tokens : List Token) (text : List ℕ) → size_of tokens ≡ n → IsRankOf s 0 tokens r → ((of : IsOf s 0 tokens) → text ≡ object_page s of.body of.object of.belongs) → ObjectOfRank s n r Status.Done text 0
unfolding ranked_object
object_printed s n r tokens text same h page = unranking.printed h.body h.object h.ranked.sized.0 h.is_body (subst (λ k. IsRanked s h.body k r h.object) same h.ranked) (record { status_is = refl; text_is = page (ranked_object s 0 r tokens h); ticks_are = refl })

-- there is none of a rank that isn't below the count
pub number_refused : (s : Spec) (n r body count : ℕ) (status : Status) (text : List ℕ) → body_of s 0 ≡ Some body → IsCount s body n count → count ≤ r → Says Status.RankRefused number_line 0 status text 0 → ObjectOfRank s n r status text 0
number_refused s n r body count status text is counted le says = unranking.beyond body count is counted le says

pub number_there : (s : Spec) (n r body count : ℕ) → body_of s 0 ≡ Some body → IsCount s body n count → r < count → IsNumberOf s 0 n r
number_there s n r body count is counted lt = record { body = body; is_body = is; count = count; is_count = counted; below = lt }

-- a rank is printed
pub rank_printed : (s : Spec) (tokens : List Token) (body count r : ℕ) (text : List ℕ) → body_of s 0 ≡ Some body → IsCount s body (size_of tokens) count → IsRankOf s 0 tokens r → text ≡ rank_text r count → RankPrinted s tokens Status.Done text 0
rank_printed s tokens body count r text is counted ranked same = ranking.printed body count r is counted ranked (record { status_is = refl; text_is = same; ticks_are = refl })
