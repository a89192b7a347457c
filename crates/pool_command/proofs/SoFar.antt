-- A pool so far, with one drawing asked once more.
use Rattle.std.proofs.Common.{◌≡◌, ◌≢◌, ℕ, zero, suc, ◌+◌, ◌<◌, ◌≤◌, ◌⊎◌, inl, inr, max, arith, true, false, not, List, [], ◌∷◌, ◌++◌, length, refl, sym, ◌∙◌, ap, subst}
use Rattle.std.specs.Option.{is_some}
use Rattle.std.specs.Prelude.{Option, Some, None, IsSome, slice_get, slice_index, nat_eq, if◌then◌else◌}
use Rattle.std.proofs.lemmas.Bool.Decides.{eqb_tells}
use Rattle.std.proofs.lemmas.Option.{same_Some}
use Rattle.bz_model.specs.declared.cell.Bounds.{Bounds}
use Rattle.bz_model.specs.Fraction.{Fraction}
use Rattle.bz_model.specs.Oracle.{cost_between}
use Rattle.bz_model.specs.Spec.{Spec}
use Rattle.bit_tape.specs.Tape.{TapeSource}
use Rattle.choice_draw.specs.Decision.{level_for}
use Rattle.class_system.specs.Sound.{IsSound}
use Rattle.oracle_memo.specs.Levels.{cost_at, costs}
use Rattle.oracle_memo.proofs.Raising.{costs-at, are_costs}
use Rattle.size_window.specs.declared.ending.Ending.{Ending as Told}
use Rattle.size_window.specs.RunByBits.{Limits}
use Rattle.size_window.specs.Trace.{TurnsContinue}
use Rattle.session_pool.specs.declared.pooled.Pooled.{Pooled}
use Rattle.session_pool.specs.declared.pooled.Pooled.TheVariants as pooled
use Rattle.session_pool.specs.Member.{MemberState, bits_to_nodes}
use Rattle.session_pool.specs.Pool.{LeavesTapeOf, bits_between, bits_to_nodes_at, ending_at, ending_of_member}
use Rattle.session_pool.specs.Turn.{IsPoolTurn, pool_answer}
use Rattle.session_pool.specs.Interleaving.{Shared, shared_setting, IsPoolAfter}
use Rattle.session_pool.proofs.Replaced.{replaced-here, replaced-elsewhere}
use Rattle.sample_command.proofs.Turns.{raised-for}
use Rattle.pool_command.specs.PoolCommand.{greatest_below}
use Rattle.pool_command.specs.UnderWay.{Moment, Beginning, IsMemberUnderWay, IsSoFar, IsAsked, CountsAsked, asked_by, asked_of_member, asked_until, turns_at, turns_of_member, moment, ended_now}
use Rattle.pool_command.proofs.Members.{counted-on, member-on, member-longer}

-- numbers with one replaced
abbrev pub updated : (numbers : ℕ → ℕ) (at value : ℕ) → ℕ → ℕ
updated numbers at value i = if nat_eq i at then value else numbers i

pub updated-here : (numbers : ℕ → ℕ) (at value i : ℕ) → nat_eq i at ≡ true → updated numbers at value i ≡ value
updated-here numbers at value i is = ap (λ b. if b then value else numbers i) is

pub updated-elsewhere : (numbers : ℕ → ℕ) (at value i : ℕ) → nat_eq i at ≡ false → updated numbers at value i ≡ numbers i
updated-elsewhere numbers at value i is = ap (λ b. if b then value else numbers i) is

-- up to the number that is raised, the greatest is as it was
greatest-before : (numbers : ℕ → ℕ) (at value n : ℕ) → n ≤ at → greatest_below (updated numbers at value) n ≡ greatest_below numbers n
unfolding greatest_below
greatest-before numbers at value zero few = refl
greatest-before numbers at value (suc n) few = go (λ k. greatest-before numbers at value n k) (eqb_tells n at)
  where
    go : (n ≤ at → greatest_below (updated numbers at value) n ≡ greatest_below numbers n) → ((nat_eq n at ≡ true) × (n ≡ at)) ⊎ ((nat_eq n at ≡ false) × (n ≢ at)) → greatest_below (updated numbers at value) (suc n) ≡ greatest_below numbers (suc n)
    go before (inl h) = absurd (let same = h.1 in omega (arith, same, few))
    go before (inr h) =
        ap (λ k. max k (updated numbers at value n)) (before (omega (arith, few)))
        ∙ ap (max (greatest_below numbers n)) (updated-elsewhere numbers at value n h.0)

-- after it, it is raised too
greatest-after : (numbers : ℕ → ℕ) (at more n : ℕ) → at < n → greatest_below (updated numbers at (max (numbers at) more)) n ≡ max (greatest_below numbers n) more
unfolding greatest_below
greatest-after numbers at more zero few = absurd (omega (arith, few))
greatest-after numbers at more (suc n) few = go (λ k. greatest-after numbers at more n k) (eqb_tells n at)
  where
    go : (at < n → greatest_below (updated numbers at (max (numbers at) more)) n ≡ max (greatest_below numbers n) more) → ((nat_eq n at ≡ true) × (n ≡ at)) ⊎ ((nat_eq n at ≡ false) × (n ≢ at)) → greatest_below (updated numbers at (max (numbers at) more)) (suc n) ≡ max (greatest_below numbers (suc n)) more
    go earlier (inl h) =
        let before = greatest-before numbers at (max (numbers at) more) n (let same = h.1 in omega (arith, same)) in
        let here = updated-here numbers at (max (numbers at) more) n h.0 in
        let same : numbers n ≡ numbers at = ap numbers h.1 in
        ap (λ k. max k (updated numbers at (max (numbers at) more) n)) before ∙ ap (max (greatest_below numbers n)) here ∙ omega (arith, same)
    go earlier (inr h) =
        let other = h.1 in
        let before = earlier (omega (arith, few, other)) in
        let here = updated-elsewhere numbers at (max (numbers at) more) n h.0 in
        ap (λ k. max k (updated numbers at (max (numbers at) more) n)) before ∙ ap (max (max (greatest_below numbers n) more)) here ∙ omega arith

-- a drawing that goes on wasn't asked until its end
pub none-asked : (o : Option MemberState) → ending_of_member o ≡ None → asked_of_member o ≡ 0
none-asked None is = refl
none-asked (Some m) is = ap (asked_until m.drawing) is

-- raising costs what the levels cost from level 0 on
raising-few : (first before now old new : ℕ) → old ≤ new → new ≤ 6 → before ≤ first + cost_at old → now ≤ before + cost_between costs old new → now ≤ first + cost_at new
raising-few first before now old new rises six so_few few =
    let low : slice_index costs old ≡ cost_at old = costs-at old (omega (arith, rises, six)) in
    let high : slice_index costs new ≡ cost_at new = costs-at new six in
    let mono = are_costs.rising old new rises six in
    omega (arith, so_few, few, low, high, mono)

module _ (w : Shared) (before now : List ℕ → ℕ) (pool later : List MemberState) (number : ℕ) (pooled : Pooled) (h : IsPoolTurn w.spec w.x w.F w.table w.contents before now pool number pooled later) where
  -- the drawing that was asked, and every other one
  later-here : slice_get later number ≡ Some h.new_member
  later-here = ap (λ ms. slice_get ms number) h.others ∙ replaced-here pool number h.old_member h.new_member h.at

  later-elsewhere : (other : ℕ) → other ≢ number → slice_get later other ≡ slice_get pool other
  later-elsewhere other differs = ap (λ ms. slice_get ms other) h.others ∙ replaced-elsewhere pool number other h.new_member differs

  -- it was asked
  pub asked-on : (IsSome (ending_at pool number) → later ≡ pool) → IsAsked pool number later
  asked-on rests = record {
    others = later-elsewhere;
    rests = rests;
    counted = λ going.
        let counted = counted-on w before now h.old_member h.new_member pooled h.turn (ap ending_of_member (sym h.at) ∙ going) in
        subst (λ o. CountsAsked (turns_of_member o) (turns_at later number) (asked_by later number) (ending_at later number)) (sym h.at)
        (subst (λ o. CountsAsked h.old_member.drawing.turns (turns_of_member o) (asked_of_member o) (ending_of_member o)) (sym later-here) counted);
  }

  module _ (limits : Limits) (law : TurnsContinue) (sound : IsSound w.spec) where
    module _ (begun : List ℕ → ℕ) (rose : (name : List ℕ) → begun name ≤ before name) (grew : (name : List ℕ) → before name ≤ now name) (mosts : ℕ → ℕ) (each : (i : ℕ) (m : MemberState) → slice_get pool i ≡ Some m → IsMemberUnderWay w limits begun before m (mosts i)) where
      bits-are : bits_to_nodes h.old_member h.new_member ≡ bits_to_nodes_at number pool later
      bits-are = ap (λ o. bits_between o (Some h.new_member)) (sym h.at) ∙ ap (bits_between (slice_get pool number)) (sym later-here)

      abbrev pub mosts_on : ℕ → ℕ
      mosts_on = updated mosts number (max (mosts number) (bits_to_nodes_at number pool later))

      -- each drawing is under way, or has ended
      pub each-on : (i : ℕ) (m : MemberState) → slice_get later i ≡ Some m → IsMemberUnderWay w limits begun now m (mosts_on i)
      each-on i m at = go (eqb_tells i number)
        where
          go : ((nat_eq i number ≡ true) × (i ≡ number)) ⊎ ((nat_eq i number ≡ false) × (i ≢ number)) → IsMemberUnderWay w limits begun now m (mosts_on i)
          go (inl k) =
              let here : slice_get later i ≡ Some h.new_member = ap (slice_get later) k.1 ∙ later-here in
              let is_new : h.new_member ≡ m = same_Some h.new_member m (sym here ∙ at) in
              let on = member-on w before now h.old_member h.new_member pooled h.turn limits (mosts number) law sound begun rose grew (each number h.old_member h.at) in
              let by = subst (λ n. IsMemberUnderWay w limits begun now h.new_member (max (mosts number) n)) bits-are on in
              subst (IsMemberUnderWay w limits begun now m) (sym (updated-here mosts number (max (mosts number) (bits_to_nodes_at number pool later)) i k.0)) (subst (λ (z : MemberState). IsMemberUnderWay w limits begun now z (max (mosts number) (bits_to_nodes_at number pool later))) is_new by)
          go (inr k) =
              let before_at : slice_get pool i ≡ Some m = sym (later-elsewhere i k.1) ∙ at in
              subst (IsMemberUnderWay w limits begun now m) (sym (updated-elsewhere mosts number (max (mosts number) (bits_to_nodes_at number pool later)) i k.0)) (member-longer w limits begun before now m (mosts i) grew (each i m before_at))

-- a pool so far, after a turn
module _ (b : Beginning) (asked : List ℕ) (old new : Moment) (number : ℕ) (pooled : Pooled) (p : IsSoFar b asked old) where
  module _ (h : IsPoolTurn b.shared.spec b.shared.x b.shared.F b.shared.table b.shared.contents old.counts new.counts old.pool number pooled new.pool) (law : TurnsContinue) (sound : IsSound b.shared.spec) (same : new.shared ≡ old.shared) (after : IsPoolAfter b.shared b.limits b.sources b.counts new.counts (asked ++ number ∷ []) new.pool) (cost : new.cost ≡ old.cost) (levels : new.raised ≤ 6) (rises : old.raised ≤ new.raised) (raised : new.raised ≡ max old.raised (level_for (bits_to_nodes_at number old.pool new.pool))) (ticks : new.ticks ≤ old.ticks + cost_between old.cost old.raised new.raised) (within : number < length old.pool) (number_is : length new.pool ≡ length old.pool) (grew : (name : List ℕ) → old.counts name ≤ new.counts name) where
    pub so-far-on : IsSoFar b (asked ++ number ∷ []) new
    so-far-on = record {
      same = same ∙ p.same;
      mosts = mosts_on b.shared old.counts new.counts old.pool new.pool number pooled h b.limits law sound b.counts p.after.rose grew p.mosts p.each;
      each = each-on b.shared old.counts new.counts old.pool new.pool number pooled h b.limits law sound b.counts p.after.rose grew p.mosts p.each;
      after = after;
      cost_is = cost ∙ p.cost_is;
      levels = levels;
      raised_is = raised-for old.raised new.raised (greatest_below p.mosts (length old.pool)) (bits_to_nodes_at number old.pool new.pool) p.raised_is raised ∙ ap level_for (sym (greatest-after p.mosts number (bits_to_nodes_at number old.pool new.pool) (length old.pool) within) ∙ ap (greatest_below (updated p.mosts number (max (p.mosts number) (bits_to_nodes_at number old.pool new.pool)))) (sym number_is));
      few = raising-few b.ticks old.ticks new.ticks old.raised new.raised rises levels p.few (subst (λ c. new.ticks ≤ old.ticks + cost_between c old.raised new.raised) p.cost_is ticks);
    }

-- what the drawings share is as it was
pub same-shared : (s t : Spec) (x y : Fraction) (F : ℕ) (table other : (level node : ℕ) → Bounds) (contents others : List ℕ → Option (List ℕ)) → s ≡ t → x ≡ y → table ≡ other → contents ≡ others → shared_setting s x F table contents ≡ shared_setting t y F other others
same-shared s t x y F table other contents others es ex et ec = ap (λ z. shared_setting z x F table contents) es ∙ ap (λ z. shared_setting t z F table contents) ex ∙ ap (λ z. shared_setting t y F z contents) et ∙ ap (λ z. shared_setting t y F other z) ec

-- the same, of what the drawings share as the code has it
pub so-far-by : (b : Beginning) (asked : List ℕ) (old new : Moment) (number : ℕ) (pooled : Pooled) (w : Shared) → w ≡ b.shared → IsSoFar b asked old → IsPoolTurn w.spec w.x w.F w.table w.contents old.counts new.counts old.pool number pooled new.pool → TurnsContinue → IsSound w.spec → new.shared ≡ old.shared → ((limits : Limits) (sources : List TapeSource) (begun : List ℕ → ℕ) (turns : List ℕ) → IsPoolAfter w limits sources begun old.counts turns old.pool → IsPoolAfter w limits sources begun new.counts (turns ++ number ∷ []) new.pool) → new.cost ≡ old.cost → new.raised ≤ 6 → old.raised ≤ new.raised → new.raised ≡ max old.raised (level_for (bits_to_nodes_at number old.pool new.pool)) → new.ticks ≤ old.ticks + cost_between old.cost old.raised new.raised → number < length old.pool → length new.pool ≡ length old.pool → ((name : List ℕ) → old.counts name ≤ new.counts name) → IsSoFar b (asked ++ number ∷ []) new
so-far-by b asked old new number pooled w is p h law sound same alone cost levels rises raised ticks within number_is grew =
    so-far-on b asked old new number pooled p
    (subst (λ (z : Shared). IsPoolTurn z.spec z.x z.F z.table z.contents old.counts new.counts old.pool number pooled new.pool) is h)
    law
    (subst (λ (z : Shared). IsSound z.spec) is sound)
    same
    (subst (λ z. IsPoolAfter z b.limits b.sources b.counts new.counts (asked ++ number ∷ []) new.pool) is (alone b.limits b.sources b.counts asked (subst (λ z. IsPoolAfter z b.limits b.sources b.counts old.counts asked old.pool) (sym is) p.after)))
    cost levels rises raised ticks within number_is grew

-- a turn without memory takes no step
pub so-far-still : (b : Beginning) (asked : List ℕ) (old : Moment) (ticks : ℕ) → ticks ≤ old.ticks + cost_between old.cost old.raised old.raised → IsSoFar b asked old → IsSoFar b asked (moment old.shared old.counts old.cost old.raised ticks old.pool)
so-far-still b asked old ticks few p = record {
  same = p.same;
  mosts = p.mosts;
  each = p.each;
  after = p.after;
  cost_is = p.cost_is;
  levels = p.levels;
  raised_is = p.raised_is;
  few = let so_few = p.few in omega (arith, few, so_few);
}

-- the levels that are raised are at most six
pub six-levels : (raised bits now : ℕ) → raised ≤ 6 → bits ≤ 60 → now ≡ max raised (level_for bits) → now ≤ 6
six-levels raised bits now six few is = omega (arith, six, few, is)

-- what a turn leaves of the shelf
pub contents-kept : {S : Type 0} (contents : S → List ℕ → Option (List ℕ)) (counts : S → List ℕ → ℕ) (before now : S) (o later : Option MemberState) (m n : MemberState) → o ≡ Some m → later ≡ Some n → LeavesTapeOf contents counts before now o later → contents now ≡ contents before
contents-kept contents counts before now o later m n at later_at left = (subst (λ z. LeavesTapeOf contents counts before now (Some m) z) later_at (subst (λ z. LeavesTapeOf contents counts before now z later) at left)).content

-- After a turn of a pool the drawing of the turn's number is the new one.
pub later-at : (w : Shared) (before now : List ℕ → ℕ) (pool later : List MemberState) (number : ℕ) (pooled : Pooled) (h : IsPoolTurn w.spec w.x w.F w.table w.contents before now pool number pooled later) → slice_get later number ≡ Some h.new_member
later-at w before now pool later number pooled h = ap (λ ms. slice_get ms number) h.others ∙ replaced-here pool number h.old_member h.new_member h.at

-- An answer that a drawing goes on is not one that memory ran out.
pub going-made : pooled.Going ≢ pooled.OutOfMemory
going-made e = absurd (cc)

-- An answer that a drawing is finished is not one that memory ran out.
pub finished-made : pooled.Finished ≢ pooled.OutOfMemory
finished-made e = absurd (cc)

-- whether a drawing ended by a turn
pub goes-on : (before now : Option Told) → pooled.Going ≡ pool_answer now → false ≡ ended_now before now
goes-on None None is = refl
goes-on (Some e) None is = refl
goes-on before (Some e) is = absurd (cc)

pub ends-by : (before now : Option Told) → pooled.Finished ≡ pool_answer now → not (is_some before) ≡ ended_now before now
ends-by before None is = absurd (cc)
ends-by None (Some e) is = refl
ends-by (Some f) (Some e) is = refl
