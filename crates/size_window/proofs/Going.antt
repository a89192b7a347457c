-- A course that goes as ideal runs do still does after one more turn.
use Rattle.std.proofs.Common.{◌≡◌, ◌≢◌, ℕ, suc, ◌+◌, ◌<◌, ◌≤◌, List, [], ◌∷◌, ◌++◌, length, Some, None, refl, sym, ◌∙◌, ap, subst, arith, append-nil, append_assoc, length-append}
use Rattle.std.specs.List.{AllByRecursion}
use Rattle.bz_model.specs.declared.cell.Cell.{Cell}
use Rattle.bz_model.specs.Fraction.{Fraction}
use Rattle.bz_model.specs.Spec.{Spec, Mode}
use Rattle.bz_model.specs.Cell.{AreInCells}
use Rattle.bz_model.specs.Measures.{size}
use Rattle.bz_model.specs.Making.{ClassMakes, Just}
use Rattle.bz_model.specs.Run.{Kept, IdealRun, KeepsLabels}
use Rattle.bz_model.specs.Run as run
use Rattle.bz_laws.proofs.Makings.{fine}
use Rattle.object_store.specs.declared.token.Token.{Token}
use Rattle.object_store.specs.Tokens.{size_of}
use Rattle.object_store.proofs.Sizes.{size_of-tokens}
use Rattle.shape_sampler.specs.Belonging.{IsIdealShape, IsIdealOver}
use Rattle.shape_sampler.proofs.Numbers.{apart, none_in, least_of, least_of-in}
use Rattle.labelling.specs.Answer.{AreIdealLabels}
use Rattle.size_window.specs.RunByBits.{Limits, RunState, Entry, Course, followed_by, quiet, at_start}
use Rattle.size_window.specs.Follows.{IsEntryOf, AreEntriesOf, MakesOf, IsMadeOfItsCells, AreMadeOfTheirCells, window_of, Follows, GoesIdeally}

-- entries with one more at the end
pub entries-more : (ks : List Kept) (es : List Entry) (k : Kept) (e : Entry) → AreEntriesOf ks es → IsEntryOf k e → AreEntriesOf (ks ++ k ∷ []) (es ++ e ∷ [])
entries-more [] [] k e h i = (i, tt)
entries-more [] (d ∷ es) k e h i = elim h [ ]
entries-more (j ∷ ks) [] k e h i = elim h [ ]
entries-more (j ∷ ks) (d ∷ es) k e h i = (h.0, entries-more ks es k e h.1 i)

-- a fact of each entry, with one more at the end
pub all-more : (P : Entry → Type 0) (es : List Entry) (e : Entry) → AllByRecursion P es → P e → AllByRecursion P (es ++ e ∷ [])
all-more P [] e h i = (i, tt)
all-more P (d ∷ es) e h i = (h.0, all-more P es e h.1 i)

-- numbers that stand in two parts
numbers-apart : (us rest front back : List Fraction) → us ≡ front ++ back → front ++ (back ++ rest) ≡ us ++ rest
numbers-apart us rest front back e = sym (append_assoc front back rest) ∙ ap (λ vs. vs ++ rest) (sym e)

-- an ideal shape fits the room
pub ideal-fits : (s : Spec) (x : Fraction) (whole : ℕ) (tokens : List Token) (cells : List Cell) → IsIdealShape s x whole tokens cells → size_of tokens ≤ whole
ideal-fits s x whole tokens cells i =
    let m = i.made (least_of cells) [] (least_of-in cells) in
    let fits : i.room_left + size i.object ≡ whole = (fine s x m.2).1 in
    let same : size_of tokens ≡ size i.object = ap size_of (sym i.spelled) ∙ size_of-tokens i.object in
    omega arith

-- All numbers in the cells, and any further ones, give n atoms these labels: none in unlabelled mode, the ideal ones in labelled mode.
pub record GivesLabels (s : Spec) (n : ℕ) (labels : List ℕ) (cells : List Cell) : Type 0 where
  pub gives : (us rest : List Fraction) → AreInCells us cells → KeepsLabels s.mode n (us ++ rest) labels rest

-- In unlabelled mode, n atoms get no labels, and no number is drawn for them.
pub gives-none : (s : Spec) → s.mode ≡ Mode.Unlabelled → (n : ℕ) → GivesLabels s n [] []
gives-none s plain n = record {
  gives = λ us rest inside. subst (λ m. KeepsLabels m n (us ++ rest) [] rest) (sym plain) (refl, ap (λ vs. vs ++ rest) (none_in us inside));
}

-- In labelled mode, ideal labels of n atoms for cells are those that all numbers in the cells give
-- the atoms.
pub gives-ideal : (s : Spec) → s.mode ≡ Mode.Labelled → (n : ℕ) (labels : List ℕ) (cells : List Cell) → AreIdealLabels n labels cells → GivesLabels s n labels cells
gives-ideal s labelled n labels cells ideal = record {
  gives = λ us rest inside. subst (λ m. KeepsLabels m n (us ++ rest) labels rest) (sym labelled) (ideal.labels_of us rest inside);
}

module _ (s : Spec) (x : Fraction) (limits : Limits) where
  -- a course with a turn that keeps nothing and throws nothing away
  followed : (c : Course) (f : Follows s x limits c) (st : RunState) (cells others : List Cell) → f.others ++ cells ≡ others → st.kept ≡ c.state.kept → st.thrown ≡ c.state.thrown → Follows s x limits (followed_by c (record { state = st; entry = None; cells = cells }))
  followed c f st cells others more same_kept same_thrown = record {
    finished = f.finished;
    others = others;
    cells = ap (λ ds. ds ++ cells) f.cells ∙ append_assoc f.finished f.others cells ∙ ap (λ ds. f.finished ++ ds) more;
    kept = f.kept;
    entries = subst (λ es. AreEntriesOf f.kept es) (sym (append-nil c.entries)) f.entries;
    number = f.number ∙ sym same_kept;
    run = λ us rest inside. subst (λ n. IdealRun s x (window_of limits) (us ++ rest) f.kept n rest) (sym same_thrown) (f.run us rest inside);
    own = subst (λ es. AreMadeOfTheirCells s x limits.max es) (sym (append-nil c.entries)) f.own;
  }

  -- the attempt goes on, with more cells
  pub goes-on : (c : Course) → GoesIdeally s x limits c → (st : RunState) (cells now : List Cell) → c.state.ending ≡ None → c.state.attempt.cells ++ cells ≡ now → st.attempt.cells ≡ now → st.kept ≡ c.state.kept → st.thrown ≡ c.state.thrown → GoesIdeally s x limits (followed_by c (record { state = st; entry = None; cells = cells }))
  unfolding followed
  goes-on c k st cells now going more is same_kept same_thrown = record {
    follows = followed c k.follows st cells now (ap (λ ds. ds ++ cells) (k.under_way going) ∙ more) same_kept same_thrown;
    under_way = λ e. sym is;
  }

  -- the drawing ended, with more cells of numbers that were finished
  pub goes-stopped : (c : Course) → GoesIdeally s x limits c → (st : RunState) (cells : List Cell) → st.ending ≢ None → st.kept ≡ c.state.kept → st.thrown ≡ c.state.thrown → GoesIdeally s x limits (followed_by c (record { state = st; entry = None; cells = cells }))
  goes-stopped c k st cells over same_kept same_thrown = record {
    follows = followed c k.follows st cells (k.follows.others ++ cells) refl same_kept same_thrown;
    under_way = λ e. absurd (over e);
  }

  -- the drawing ended
  pub goes-ended : (c : Course) → GoesIdeally s x limits c → (st : RunState) → st.ending ≢ None → st.kept ≡ c.state.kept → st.thrown ≡ c.state.thrown → GoesIdeally s x limits (followed_by c (quiet st))
  goes-ended c k st over same_kept same_thrown = goes-stopped c k st [] over same_kept same_thrown

  -- what a finished attempt makes of the ideal run: these objects kept, so many thrown away
  abbrev Runs : (finished : List Cell) → List Kept → ℕ → Type 0
  Runs finished kept thrown = (us rest : List Fraction) → AreInCells us finished → IdealRun s x (window_of limits) (us ++ rest) kept thrown rest

  -- an attempt after the finished ones
  one-more : (finished now : List Cell) (before kept : List Kept) (m n : ℕ) → Runs finished before m
      → ((us vs rest : List Fraction) → AreInCells vs now → IdealRun s x (window_of limits) us before m (vs ++ rest) → IdealRun s x (window_of limits) us kept n rest)
      → Runs (finished ++ now) kept n
  one-more finished now before kept m n runs step us rest inside =
      let p = apart us finished now inside in
      subst (λ vs. IdealRun s x (window_of limits) vs kept n rest) (numbers-apart us rest p.front p.back p.whole)
      (step (p.front ++ (p.back ++ rest)) p.back rest p.in_back (runs p.front (p.back ++ rest) p.in_front))

  over-runs : (finished now : List Cell) (kept : List Kept) (n : ℕ) → length kept < limits.count → IsIdealOver s x limits.max now → Runs finished kept n → Runs (finished ++ now) kept (suc n)
  over-runs finished now kept n few over runs = one-more finished now kept kept n (suc n) runs (λ us vs rest inside r. run.thrown_over r few (over.over vs rest inside))

  small-runs : (finished now : List Cell) (tokens : List Token) (kept : List Kept) (n : ℕ) → length kept < limits.count → IsIdealShape s x limits.max tokens now → size_of tokens < limits.min → Runs finished kept n → Runs (finished ++ now) kept (suc n)
  small-runs finished now tokens kept n few i small runs =
      let sized : size i.object < limits.min = subst (λ m. m < limits.min) (ap size_of (sym i.spelled) ∙ size_of-tokens i.object) small in
      one-more finished now kept kept n (suc n) runs (λ us vs rest inside r. run.thrown_small i.object i.room_left r few (i.made vs rest inside) sized)

  -- a shape with its cells, and labels with theirs after them
  module _ (tokens : List Token) (own more : List Cell) (labels : List ℕ) (i : IsIdealShape s x limits.max tokens own) (g : GivesLabels s (size_of tokens) labels more) where
    abbrev kept_now : Kept
    kept_now = record { object = i.object; labels = labels }

    same-size : size_of tokens ≡ size i.object
    same-size = ap size_of (sym i.spelled) ∙ size_of-tokens i.object

    labelled : (us rest : List Fraction) → AreInCells us more → KeepsLabels s.mode (size i.object) (us ++ rest) labels rest
    labelled us rest inside = subst (λ n. KeepsLabels s.mode n (us ++ rest) labels rest) same-size (g.gives us rest inside)

    kept-runs : (finished : List Cell) (kept : List Kept) (n : ℕ) → length kept < limits.count → limits.min ≤ size_of tokens → Runs finished kept n → Runs (finished ++ (own ++ more)) (kept ++ kept_now ∷ []) n
    kept-runs finished kept n few large runs = one-more finished (own ++ more) kept (kept ++ kept_now ∷ []) n n runs (λ us vs rest inside r.
        let p = apart vs own more inside in
        let sized : limits.min ≤ size i.object = subst (λ m. limits.min ≤ m) same-size large in
        let between : IdealRun s x (window_of limits) us kept n (p.front ++ (p.back ++ rest)) = subst (λ ws. IdealRun s x (window_of limits) us kept n ws) (sym (numbers-apart vs rest p.front p.back p.whole)) r in
        run.keeps i.object i.room_left labels between few (i.made p.front (p.back ++ rest) p.in_front) sized (labelled p.back rest p.in_back) refl)

    makes-of : (us : List Fraction) → AreInCells us (own ++ more) → MakesOf s x limits.max us kept_now
    makes-of us inside =
        let p = apart us own more inside in
        record {
          room_left = i.room_left;
          after = p.back;
          makes = subst (λ vs. ClassMakes s x 0 limits.max vs (Just i.object i.room_left) p.back) (sym p.whole) (i.made p.front p.back p.in_front);
          labels = subst (λ vs. KeepsLabels s.mode (size i.object) vs labels []) (append-nil p.back) (labelled p.back [] p.in_back);
        }

    made-of-its-cells : (e : Entry) → e.tokens ≡ tokens → e.labels ≡ labels → e.cells ≡ own ++ more → IsMadeOfItsCells s x limits.max e
    unfolding makes-of
    made-of-its-cells e is_tokens is_labels is_cells = record {
      kept = kept_now;
      entry = record { tokens = i.spelled ∙ sym is_tokens; labels = sym is_labels };
      made = λ us inside. makes-of us (subst (λ cs. AreInCells us cs) is_cells inside);
    }

  module _ (c : Course) (k : GoesIdeally s x limits c) (st : RunState) (cells now : List Cell) (going : c.state.ending ≡ None) (more : c.state.attempt.cells ++ cells ≡ now) (idle : st.attempt.cells ≡ []) (fewer : c.state.kept < limits.count) where
    fewer-kept : length k.follows.kept < limits.count
    fewer-kept = let n = k.follows.number in omega arith

    cells-now : c.cells ++ cells ≡ (k.follows.finished ++ now) ++ []
    cells-now =
        ap (λ ds. ds ++ cells) (k.follows.cells ∙ ap (λ ds. k.follows.finished ++ ds) (k.under_way going)) ∙ append_assoc k.follows.finished c.state.attempt.cells cells ∙ ap (λ ds. k.follows.finished ++ ds) more ∙ sym (append-nil (k.follows.finished ++ now))

    thrown : st.kept ≡ c.state.kept → st.thrown ≡ c.state.thrown + 1 → Runs (k.follows.finished ++ now) k.follows.kept (suc c.state.thrown) → GoesIdeally s x limits (followed_by c (record { state = st; entry = None; cells = cells }))
    thrown same_kept one_thrown runs = record {
      follows = record {
        finished = k.follows.finished ++ now;
        others = [];
        cells = cells-now;
        kept = k.follows.kept;
        entries = subst (λ es. AreEntriesOf k.follows.kept es) (sym (append-nil c.entries)) k.follows.entries;
        number = k.follows.number ∙ sym same_kept;
        run = λ us rest inside. subst (λ n. IdealRun s x (window_of limits) (us ++ rest) k.follows.kept n rest) (let e : suc c.state.thrown ≡ st.thrown = omega arith in e) (runs us rest inside);
        own = subst (λ es. AreMadeOfTheirCells s x limits.max es) (sym (append-nil c.entries)) k.follows.own;
      };
      under_way = λ e. sym idle;
    }

    -- the attempt was over the room
    pub goes-over : IsIdealOver s x limits.max now → st.kept ≡ c.state.kept → st.thrown ≡ c.state.thrown + 1 → GoesIdeally s x limits (followed_by c (record { state = st; entry = None; cells = cells }))
    goes-over over same_kept one_thrown = thrown same_kept one_thrown (over-runs k.follows.finished now k.follows.kept c.state.thrown fewer-kept over k.follows.run)

    -- the shape was below the least size
    pub goes-small : (tokens : List Token) → IsIdealShape s x limits.max tokens now → size_of tokens < limits.min → st.kept ≡ c.state.kept → st.thrown ≡ c.state.thrown + 1 → GoesIdeally s x limits (followed_by c (record { state = st; entry = None; cells = cells }))
    goes-small tokens i small same_kept one_thrown = thrown same_kept one_thrown (small-runs k.follows.finished now tokens k.follows.kept c.state.thrown fewer-kept i small k.follows.run)

    -- the shape was kept, with labels from the cells after its own
    pub goes-kept : (tokens : List Token) (own after : List Cell) (labels : List ℕ) → own ++ after ≡ now → IsIdealShape s x limits.max tokens own → limits.min ≤ size_of tokens → GivesLabels s (size_of tokens) labels after → (e : Entry) → e.tokens ≡ tokens → e.labels ≡ labels → e.cells ≡ now → st.kept ≡ c.state.kept + 1 → st.thrown ≡ c.state.thrown → GoesIdeally s x limits (followed_by c (record { state = st; entry = Some e; cells = cells }))
    goes-kept tokens own after labels whole i large g e is_tokens is_labels is_cells one_kept same_thrown =
        let kept : Kept = record { object = i.object; labels = labels } in
        record {
          follows = record {
            finished = k.follows.finished ++ now;
            others = [];
            cells = cells-now;
            kept = k.follows.kept ++ kept ∷ [];
            entries = entries-more k.follows.kept c.entries kept e k.follows.entries (record { tokens = i.spelled ∙ sym is_tokens; labels = sym is_labels });
            number = length-append k.follows.kept (kept ∷ []) ∙ (let n = k.follows.number in omega arith);
            run = λ us rest inside. subst (λ n. IdealRun s x (window_of limits) (us ++ rest) (k.follows.kept ++ kept ∷ []) n rest) (sym same_thrown) (kept-runs tokens own after labels i g k.follows.finished k.follows.kept c.state.thrown fewer-kept large k.follows.run us rest (subst (λ ds. AreInCells us (k.follows.finished ++ ds)) (sym whole) inside));
            own = all-more (IsMadeOfItsCells s x limits.max) c.entries e k.follows.own (made-of-its-cells tokens own after labels i g e is_tokens is_labels (is_cells ∙ sym whole));
          };
          under_way = λ e. sym idle;
        }

  -- the course at the start
  pub goes-start : GoesIdeally s x limits at_start
  goes-start = record {
    follows = record { finished = []; others = []; cells = refl; kept = []; entries = tt; number = refl; run = λ us rest inside. no-numbers us rest inside; own = tt };
    under_way = λ e. refl;
  }
    where
      no-numbers : (us rest : List Fraction) → AreInCells us [] → IdealRun s x (window_of limits) (us ++ rest) [] 0 rest
      no-numbers [] rest inside = run.start
      no-numbers (u ∷ us) rest inside = elim inside [ ]
