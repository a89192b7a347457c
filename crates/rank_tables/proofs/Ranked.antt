-- What a table of the counts gives to ranks and to objects by their numbers.
use Rattle.std.proofs.Common.{◌≡◌, ℕ, suc, ◌≤◌, List, [], ◌∷◌, map, length, Some, arith, refl, sym, ◌∙◌, ap, subst}
use Rattle.std.proofs.lemmas.Option.{same_Some}
use Rattle.bz_model.specs.Spec.{Spec, Node, body_of}
use Rattle.bz_model.specs.Object.{Object, none, more}
use Rattle.bz_model.specs.Measures.{size, HasZero}
use Rattle.bz_model.specs.Totals.{IsSample}
use Rattle.bz_model.specs.WellFounded.{IsWellFounded}
use Rattle.class_system.specs.Sound.{IsSound}
use Rattle.class_system.proofs.Soundness.{body_in_range}
use Rattle.object_store.specs.Tokens.{size_of}
use Rattle.object_store.specs.declared.token.Token.{Token}
use Rattle.object_store.proofs.Sizes.{size_of-tokens}
use Rattle.rank_tables.specs.Grids.{Cells, number_at}
use Rattle.rank_tables.specs.RankOrder.{IsSized, IsCount, IsRanked}
use Rattle.rank_tables.specs.Shapes.{IsRankOf}
use Rattle.rank_tables.specs.TableRule.{IsRankable}
use Rattle.rank_tables.specs.Tables.{AreKnown, AreCounts, IsNumberOf}
use Rattle.rank_tables.specs.Unranking.{AreCountedGrids, IsTask, Fulfils}
use Rattle.rank_tables.specs.declared.tasks.Task.{Task}
use Rattle.rank_tables.specs.Capped.{Tells}
use Rattle.rank_tables.specs.Places.{IsPlace}
use Rattle.rank_tables.specs.RankSteps.{AreStepsOf, IsFirstTold, TellStack, visit_of}
use Rattle.rank_tables.specs.Visits.{Told, all_visited, TellPlaces}
use Rattle.rank_tables.specs.declared.places_stack.Placed.{Placed}
use Rattle.rank_tables.specs.declared.rank_steps.Step.{Step}
use Rattle.rank_tables.proofs.Visited.{visits-tell}
use Rattle.rank_tables.proofs.Counting.{count-unique}
use Rattle.rank_tables.proofs.LaidOut.{laid_out}
use Rattle.rank_tables.proofs.NodeParts.{parts-inside}
use Rattle.rank_tables.proofs.Placed.{place-rank}
use Rattle.rank_tables.proofs.Rankable.{rankable}

-- A node without an object of size 0 has the count 0 there.
none-of_zero : (s : Spec) (e k : ℕ) → ¬ (HasZero s e) → IsCount s e 0 k → k ≡ 0
none-of_zero s e k none_there counted = go counted.list counted.exactly.sample counted.number
  where
    go : (xs : List Object) → IsSample (IsSized s e 0) xs → length xs ≡ k → k ≡ 0
    go [] h is = let z : length {A = Object} [] ≡ 0 = refl in omega arith
    go (o ∷ xs) h is = absurd (none_there (record { object = o; belongs = (h.each.0).0; no_atom = (h.each.0).1 }))

module _ (s : Spec) (sound : IsSound s) (founded : IsWellFounded s) (most : ℕ) (counts tails : Cells) (table : AreCounts s most (record { counts = counts; tails = tails })) where
  can : IsRankable s
  can = rankable s sound founded table.unlabelled table.plain

  pub counted-table : AreKnown counts → tails.nodes ≡ counts.nodes → tails.sizes ≡ counts.sizes → AreCountedGrids s counts tails
  counted-table known nodes sizes = record {
    each_node = table.each_node;
    tail_nodes = nodes;
    tail_sizes = sizes;
    few = known.few;
    rows = λ e n node fits at. table.each_row.rows e n node (let q : counts.sizes ≡ suc most = table.each_size in omega arith) at;
    no_zero = λ e part at. none-of_zero s part (number_at counts part 0) (can.parts e part at) (table.counts part 0 (parts-inside s sound e (length s.nodes) (Node.Seq part) at refl) (omega arith));
    each_tail = λ n fits. table.each_tail n (let q : counts.sizes ≡ suc most = table.each_size in omega arith);
  }

  -- a number below the count of the first class's body is a task
  pub numbered-task : (task : Task) → body_of s 0 ≡ Some task.node.0 → task.size ≤ most → IsNumberOf s 0 task.size task.number → IsTask (length s.nodes) counts.sizes (number_at counts) task
  numbered-task task is le k =
      let inside = body_in_range s sound 0 task.node.0 is in
      let same : k.body ≡ task.node.0 = same_Some k.body task.node.0 (sym k.is_body ∙ is) in
      let count_is : k.count ≡ number_at counts task.node.0 task.size = count-unique (IsSized s task.node.0 task.size) (subst (λ e. IsCount s e task.size k.count) same k.is_count) (table.counts task.node.0 task.size inside le) in
      record { node = inside; fits = let q : counts.sizes ≡ suc most = table.each_size in omega arith; small = let lt = k.below in omega arith }

  -- what fulfils a task of the first class's body has its number as rank
  pub fulfils-ranked : (task : Task) (tokens : List Token) → body_of s 0 ≡ Some task.node.0 → task.size ≤ most → Fulfils s (number_at counts) task tokens → (size_of tokens ≡ task.size) × IsRankOf s 0 tokens task.number
  fulfils-ranked task tokens is le f =
      let inside = body_in_range s sound 0 task.node.0 is in
      let sized : size f.object ≡ task.size = f.sized in
      let tokens_size : size_of tokens ≡ size f.object = ap size_of (sym f.spelled) ∙ size_of-tokens f.object in
      let ranked = place-rank s (number_at counts) most (laid_out s sound) can (λ e n there fits. table.counts e n there fits) task.node.0 f.object task.number inside (omega arith) f.place in
      (tokens_size ∙ sized, record { body = task.node.0; is_body = is; object = f.object; spelled = f.spelled; ranked = subst (λ n. IsRanked s task.node.0 n task.number f.object) (sym tokens_size) ranked })

  -- what the steps of a shape tell is its rank
  pub placed-ranked : (tokens : List Token) (steps : List Step) (p : Placed) (r : ℕ) → AreStepsOf s 0 tokens steps → IsFirstTold p (all_visited s (number_at counts) (map visit_of steps)) → p.place ≡ Some r → size_of tokens ≤ most → IsRankOf s 0 tokens r
  placed-ranked tokens steps p r k first is fits = go (all_visited s (number_at counts) (map visit_of steps)) (visits-tell s (number_at counts) (k.shape.body ∷ []) (more k.shape.object none) (map visit_of steps) k.visits) first.all
    where
      go : (told : List Told) → TellPlaces s (number_at counts) (k.shape.body ∷ []) (more k.shape.object none) told → TellStack (p ∷ first.rest) told → IsRankOf s 0 tokens r
      go [] h t = elim h [ ]
      go (q ∷ qs) h t =
          let tokens_size : size_of tokens ≡ size k.shape.object = ap size_of (sym k.shape.spelled) ∙ size_of-tokens k.shape.object in
          let at_place : r ≡ q.place = subst (λ v. Tells v q.place) is (t.0).place in
          let placed : IsPlace s (number_at counts) k.shape.body k.shape.object r = subst (IsPlace s (number_at counts) k.shape.body k.shape.object) (sym at_place) h.1 in
          let ranked = place-rank s (number_at counts) most (laid_out s sound) can (λ e n there le. table.counts e n there le) k.shape.body k.shape.object r (body_in_range s sound 0 k.shape.body k.shape.is_body) (omega arith) placed in
          record { body = k.shape.body; is_body = k.shape.is_body; object = k.shape.object; spelled = k.shape.spelled; ranked = subst (λ n. IsRanked s k.shape.body n r k.shape.object) (sym tokens_size) ranked }
