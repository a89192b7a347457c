-- Runs of the terms: how they go on, and what they find.
use Rattle.std.proofs.Common.{◌≡◌, ℕ, suc, ◌+◌, ◌^◌, ◌<◌, ◌≤◌, min, true, false, Some, None, arith, sym, ◌∙◌, ap, subst, ⊎_elim}
use Rattle.std.specs.Prelude.{nat_le}
use Rattle.std.proofs.lemmas.Bool.{cases_lt, lt-leb}
use Rattle.fixed_enclosure.specs.Rounded.{saturated, Side}
use Rattle.series_bounds.specs.Series.{Kind, carried_on, carried, term}
use Rattle.series_bounds.specs.Running.{kept}
use Rattle.count_draw.specs.Table.{Filling, lower_at, upper_at, reaches_at, least_reaching, IsRun, NoneReaches}
use Rattle.count_draw.proofs.SmallTerms.{one-small, fitting-first, fitting-next}
use Rattle.count_draw.proofs.NextValues.{part_down-first, part_down-next, part_down-stays, part_up-first, part_up-next, part_up-later}
use Rattle.count_draw.proofs.PartialValues.{least-none, least-empty, least-between}

carried-next : (side : Side) (kind : Kind) (f a place next c d : ℕ) → next ≡ place + 1 → c ≡ carried side kind f a place → d ≡ carried_on side kind f a place c → d ≡ carried side kind f a next
carried-next side kind f a place next c d same here is =
    let one_more : suc place ≡ next = omega arith in
    is ∙ ap (λ n. carried_on side kind f a place n) here ∙ ap (λ n. carried side kind f a n) one_more

module _ (f : ℕ) (t : Filling) (bits : f ≤ 56) where
  -- a run of lower terms begins, and goes on
  pub down-starts : (power first sum : ℕ) → power ≡ 2 ^ f → first ≡ term Side.Down t.kind 0 power → sum ≡ kept t.low 0 first → IsRun Side.Down f t 0 power sum
  down-starts power first sum is first_is sum_is = record {
    carried_to = is;
    small = omega (arith, is, one-small f bits);
    fitting = fitting-first Side.Down t.kind f t.part.lo bits;
    summed = sum_is ∙ sym (part_down-first t.kind f t.part.lo t.low first (first_is ∙ ap (term Side.Down t.kind 0) is) bits);
  }

  pub down-next : (place next power sum power' last sum' : ℕ) → IsRun Side.Down f t place power sum → next ≡ place + 1 → power' ≡ carried_on Side.Down t.kind f t.part.lo place power → power' ≤ 2 ^ 63 → last ≡ term Side.Down t.kind next power' → sum' ≡ saturated (sum + kept t.low next last) → IsRun Side.Down f t next power' sum'
  down-next place next power sum power' last sum' run same power_is small last_is sum_is =
      let here = carried-next Side.Down t.kind f t.part.lo place next power power' same run.carried_to power_is in
      let fit = fitting-next Side.Down t.kind f t.part.lo place next power' same here small run.fitting in
      record {
        carried_to = here;
        small = small;
        fitting = fit;
        summed = sum_is ∙ ap (λ s. saturated (s + kept t.low next last)) run.summed ∙ sym (part_down-next t.kind f t.part.lo t.low place next last same (last_is ∙ ap (term Side.Down t.kind next) here) run.fitting fit);
      }

  -- so do those of the upper terms
  pub up-starts : (power first sum : ℕ) → power ≡ 2 ^ f → first ≡ term Side.Up t.kind 0 power → sum ≡ min (kept t.low 0 first) t.whole.hi → IsRun Side.Up f t 0 power sum
  up-starts power first sum is first_is sum_is = record {
    carried_to = is;
    small = omega (arith, is, one-small f bits);
    fitting = fitting-first Side.Up t.kind f t.part.hi bits;
    summed = sum_is ∙ sym (part_up-first t.kind f t.part.hi t.low first t.whole.hi (first_is ∙ ap (term Side.Up t.kind 0) is) bits);
  }

  pub up-next : (place next power sum power' last sum' : ℕ) → IsRun Side.Up f t place power sum → next ≡ place + 1 → power' ≡ carried_on Side.Up t.kind f t.part.hi place power → power' ≤ 2 ^ 63 → last ≡ term Side.Up t.kind next power' → sum' ≡ min (sum + kept t.low next last) t.whole.hi → IsRun Side.Up f t next power' sum'
  up-next place next power sum power' last sum' run same power_is small last_is sum_is =
      let here = carried-next Side.Up t.kind f t.part.hi place next power power' same run.carried_to power_is in
      let fit = fitting-next Side.Up t.kind f t.part.hi place next power' same here small run.fitting in
      record {
        carried_to = here;
        small = small;
        fitting = fit;
        summed = sum_is ∙ ap (λ s. min (s + kept t.low next last) t.whole.hi) run.summed ∙ sym (part_up-next t.kind f t.part.hi t.low place next last t.whole.hi same (last_is ∙ ap (term Side.Up t.kind next) here) run.fitting fit);
      }

-- a run whose upper value is above u is followed by options whose upper values are
pub up-past : (f : ℕ) (t : Filling) (place power sum i u : ℕ) → IsRun Side.Up f t place power sum → place ≤ i → u < sum → nat_le (upper_at f t i) u ≡ false
up-past f t place power sum i u run later past = lt-leb (upper_at f t i) u (let more = part_up-later t.kind f t.part.hi t.low place i t.whole.hi later in omega (arith, more, run.summed))

module _ (f : ℕ) (t : Filling) (v place power sum : ℕ) (run : IsRun Side.Down f t place power sum) (none : NoneReaches f t v place) (within : place ≤ t.room) where
  test-is : reaches_at f t v place ≡ nat_le v sum
  test-is = ap (nat_le v) (sym run.summed)

  -- an option from the low on that reaches the value is the least
  pub run-found : t.low ≤ place → nat_le v sum ≡ true → least_reaching f t v ≡ Some place
  run-found from reaching = least-between f t v place place (record { low = from; order = omega arith; room = within; before = none.before; reaching = test-is ∙ reaching }) (omega arith)

  -- at the room none is found
  pub run-ends : (t.low ≤ place → nat_le v sum ≡ false) → t.room ≤ place → least_reaching f t v ≡ None
  run-ends fails end = ⊎_elim
      (λ empty. least-empty f t v empty)
      (λ some. let same : place ≡ t.room = omega arith in least-none f t v (subst (λ n. reaches_at f t v n ≡ false) same (test-is ∙ fails (omega arith))))
      (cases_lt t.room t.low)

  -- nor where all later terms are 0
  pub run-zero : power ≡ 0 → nat_le v sum ≡ false → least_reaching f t v ≡ None
  run-zero zero fails =
      let stays : lower_at f t t.room ≡ lower_at f t place = part_down-stays t.kind f t.part.lo t.low place t.room within (sym run.carried_to ∙ zero) run.fitting in
      least-none f t v (ap (nat_le v) stays ∙ test-is ∙ fails)

  -- an option that fails is passed over
  pub run-on : (next : ℕ) → next ≡ place + 1 → (t.low ≤ place → nat_le v sum ≡ false) → NoneReaches f t v next
  run-on next same fails = record {
    before = λ j from less. ⊎_elim (λ earlier. none.before j from earlier) (λ now. let here : place ≡ j = omega arith in subst (λ n. reaches_at f t v n ≡ false) here (test-is ∙ fails (omega arith))) (cases_lt j place);
  }
