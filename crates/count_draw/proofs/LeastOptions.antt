-- The least option of a counted node: the least of the table that passes, or else the high, where it is an option.
use Rattle.std.proofs.Common.{◌≡◌, ℕ, suc, ◌+◌, ◌-◌, ◌<◌, ◌≤◌, ◌||◌, Bool, true, false, Option, Some, None, cond, refl, sym, ◌∙◌, ap, arith, ⊎_elim}
use Rattle.std.specs.Prelude.{nat_eq, nat_lt}
use Rattle.std.specs.Bool.{then_some}
use Rattle.std.proofs.lemmas.Bool.{cases_Bool, eq-eqb, eqb-true, or_from}
use Rattle.bz_model.specs.declared.cell.Cell.{Cell}
use Rattle.bz_model.specs.Spec.{IsWithinHigh}
use Rattle.choice_draw.specs.Decision.{Options, Choice, is_last, ends_before, begins_after, least_option, is_reached, over_from, over_of, choice_from, choice_of}
use Rattle.choice_draw.proofs.LeastPassing.{least_passing-found, least_passing-none, least_passing-is, least_passing-is_none}
use Rattle.count_draw.specs.declared.kind.CountChoice.TheVariants.{Take}
use Rattle.count_draw.specs.Decision.{top_option, room_below, chosen_if}
use Rattle.count_draw.specs.Table.{Filling, passes_at, passed_at, least_at, options_of}
use Rattle.count_draw.proofs.PartialValues.{not_passed-later}

or_right : (a b : Bool) → b ≡ true → (a || b) ≡ true
or_right true b h = refl
or_right false b h = h

not_equal : (a b : ℕ) → (a ≡ b → ⊥) → nat_eq a b ≡ false
not_equal a b ne = ⊎_elim (λ same. absurd (ne (eqb-true a b same))) (λ differ. differ) (cases_Bool (nat_eq a b))

-- an option below the greatest isn't the last
pub not_last : (high : Option ℕ) (room j : ℕ) → j < top_option high room → is_last high j ≡ false
not_last None room j less = refl
not_last (Some h) room j less = not_equal j h (λ same. let never : ⊥ = omega arith in never)

-- where the high is above the room no option is the last
pub never_last : (high : Option ℕ) (room j : ℕ) → ((h : ℕ) → high ≡ Some h → room < h) → j ≤ top_option high room → is_last high j ≡ false
never_last None room j above below = refl
never_last (Some h) room j above below = let less = above h refl in not_equal j h (λ same. let never : ⊥ = omega arith in never)

module _ (f : ℕ) (t : Filling) (high : Option ℕ) (room : ℕ) (cell : Cell) (top : t.room ≡ top_option high room) where
  -- the least that passes is the least option
  pub least-found : (i : ℕ) → least_at f t cell ≡ Some i → least_option (options_of f t high room) cell ≡ Some i
  least-found i found =
      let least = least_passing-found (passes_at f t cell) (suc t.room - t.low) t.low i found in
      let below : i < t.low + (suc t.room - t.low) = least.below in
      least_passing-is (λ j. is_last high j || ends_before (options_of f t high room) cell j) (suc (top_option high room) - t.low) t.low i (record {
        from = least.from;
        below = omega (arith, top, below);
        passing = or_right (is_last high i) _ least.passing;
        none_before = λ j a b. or_from _ _ (not_last high room j (omega (arith, top, below, least.from))) (least.none_before j a b);
      })

  -- where none passes and the high is above the room, there is none
  pub least-missing : ((h : ℕ) → high ≡ Some h → room < h) → least_at f t cell ≡ None → least_option (options_of f t high room) cell ≡ None
  least-missing above none =
      least_passing-is_none (λ j. is_last high j || ends_before (options_of f t high room) cell j) (suc (top_option high room) - t.low) t.low
      (λ j a b. or_from _ _ (never_last high room j above (omega arith)) (least_passing-none (passes_at f t cell) (suc t.room - t.low) t.low none j a (omega (arith, top))))

high_least : (f : ℕ) (t : Filling) (h room : ℕ) (cell : Cell) → t.room ≡ top_option (Some h) room → t.low ≤ h → h ≤ room → least_at f t cell ≡ None → least_option (options_of f t (Some h) room) cell ≡ Some h
high_least f t h room cell top low within none =
    least_passing-is (λ j. is_last (Some h) j || ends_before (options_of f t (Some h) room) cell j) (suc (top_option (Some h) room) - t.low) t.low h (record {
      from = low;
      below = omega arith;
      passing = ap (λ b. b || ends_before (options_of f t (Some h) room) cell h) (eq-eqb h h refl);
      none_before = λ j a b. or_from _ _ (not_last (Some h) room j (omega arith)) (least_passing-none (passes_at f t cell) (suc t.room - t.low) t.low none j a (omega (arith, top)));
    })

-- where none passes, a high up to the room is the least option
pub least-high : (f : ℕ) (t : Filling) (high : Option ℕ) (h room : ℕ) (cell : Cell) → high ≡ Some h → t.room ≡ top_option high room → IsWithinHigh t.low high → h ≤ room → least_at f t cell ≡ None → least_option (options_of f t high room) cell ≡ Some h
least-high f t None h room cell same top low within none = absurd (cc)
least-high f t (Some k) h room cell same top low within none = let here : k ≡ h = cc in high_least f t k room cell top low (omega arith) none ∙ ap Some here

-- the choice where the least option is reached
choice-reached : (o : Options) (cell : Cell) (i : ℕ) → Some i ≡ least_option o cell → is_reached o cell i ≡ true → choice_of o cell ≡ Some (Choice.Take i)
choice-reached o cell i least reached = ap (choice_from o cell) (sym least) ∙ ap (λ b. cond b (Some (Choice.Take i)) (over_of o cell)) reached

right_fails : (a b : Bool) → (a || b) ≡ false → b ≡ false
right_fails true b e = absurd (cc)
right_fails false b e = e

top-le : (high : Option ℕ) (room : ℕ) → top_option high room ≤ room
top-le None room = omega arith
top-le (Some h) room = omega arith

over-fails : (o : Options) (cell : Cell) (room : ℕ) (high : Option ℕ) → begins_after o cell room ≡ false → over_from o cell (room_below high room) ≡ None
over-fails o cell room None fails = ap (λ b. cond b (Some Choice.Over) None) fails
over-fails o cell room (Some h) fails = elim (nat_lt room h) as (λ b. over_from o cell (cond b (Some room) None) ≡ None) [
  | true ↦ ap (λ b. cond b (Some Choice.Over) None) fails
  | false ↦ refl
]

-- where it isn't reached, the room doesn't end before the cell either
choice-not_reached : (f : ℕ) (t : Filling) (high : Option ℕ) (room : ℕ) (cell : Cell) (i : ℕ) → t.room ≡ top_option high room → i ≤ t.room → Some i ≡ least_option (options_of f t high room) cell → is_reached (options_of f t high room) cell i ≡ false → choice_of (options_of f t high room) cell ≡ None
choice-not_reached f t high room cell i top within least unreached =
    let before : passed_at f t cell (i - 1) ≡ false = right_fails (nat_eq i t.low) (passed_at f t cell (i - 1)) unreached in
    ap (choice_from (options_of f t high room) cell) (sym least)
    ∙ ap (λ b. cond b (Some (Choice.Take i)) (over_of (options_of f t high room) cell)) unreached
    ∙ over-fails (options_of f t high room) cell room high (not_passed-later f t cell (i - 1) room (omega (arith, top, top-le high room)) before)

-- the choice by whether it is reached
pub choice-by_reach : (f : ℕ) (t : Filling) (high : Option ℕ) (room : ℕ) (cell : Cell) (i : ℕ) (reached : Bool) → t.room ≡ top_option high room → i ≤ t.room → Some i ≡ least_option (options_of f t high room) cell → is_reached (options_of f t high room) cell i ≡ reached → chosen_if (then_some reached (Take i)) ≡ choice_of (options_of f t high room) cell
choice-by_reach f t high room cell i true top within least is = sym (choice-reached (options_of f t high room) cell i least is)
choice-by_reach f t high room cell i false top within least is = sym (choice-not_reached f t high room cell i top within least is)
