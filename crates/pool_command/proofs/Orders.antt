-- The order of the drawings that ended, with one drawing asked once more, and with all asked until they end.
use Rattle.std.proofs.Common.{◌≡◌, ◌≢◌, ℕ, zero, suc, ◌+◌, ◌-◌, ◌<◌, ◌≤◌, ◌⊎◌, inl, inr, arith, Bool, true, false, cond, not, List, [], ◌∷◌, ◌++◌, length, append-nil, append_assoc, add-one, take, ◌%◌, refl, sym, ◌∙◌, ap, subst}
use Rattle.std.specs.Option.{is_none, is_some}
use Rattle.std.specs.Prelude.{Option, Some, None, IfSome, IsSome, slice_get, get_or, nat_eq, replicate}
use Rattle.std.proofs.lemmas.Bool.Decides.{eqb_tells}
use Rattle.std.proofs.lemmas.List.{map-append}
use Rattle.std.proofs.lemmas.Option.{slice_get_cases, slice_get_within, get_or_from_slice_get}
use Rattle.std.proofs.Math.Seq.{take-suc}
use Rattle.bz_model.specs.Fraction.{Fraction}
use Rattle.bz_model.specs.Spec.{Spec}
use Rattle.size_window.specs.declared.ending.Ending.{Ending as Told}
use Rattle.size_window.specs.Drawing.{DrawingBelongs}
use Rattle.session_pool.specs.Member.{MemberState}
use Rattle.session_pool.specs.Pool.{PoolBelongs, ending_at, ending_of_member}
use Rattle.session_pool.specs.Interleaving.{how_often, WasAsked}
use Rattle.pool_command.specs.Schedule.{drawings_named, all_asked, ends_in}
use Rattle.pool_command.specs.UnderWay.{Moment, Beginning, IsSoFar, IsPoolRunning, IsBrokenPool, IsAsked, IsFinished, CountsAsked, asked_by, asked_of_member, asked_until, turns_at, turns_of_member, ended_now}
use Rattle.pool_command.proofs.Ends.{differs-is, times-both, times-replicated, order-stays, order-grows}
use Rattle.pool_command.proofs.SoFar.{none-asked}
use Rattle.pool_command.proofs.TurnsLeft.{turns_left, left_of_member, left_until}

-- what a member was asked for
was-asked-going : (turns : ℕ) (m : MemberState) → WasAsked turns m.drawing m.drawing.ending → ending_of_member (Some m) ≡ None → turns_of_member (Some m) ≡ turns
was-asked-going turns m h is = subst (WasAsked turns m.drawing) is h

was-asked-ended : (turns : ℕ) (m : MemberState) → WasAsked turns m.drawing m.drawing.ending → asked_of_member (Some m) ≤ turns
was-asked-ended turns m h = go m.drawing.ending h
  where
    go : (o : Option Told) → WasAsked turns m.drawing o → asked_until m.drawing o ≤ turns
    go None k = omega arith
    go (Some e) k = k

-- within the list there is an element
pub is-there : (xs : List MemberState) (i : ℕ) → i < length xs → slice_get xs i ≡ None → ⊥
is-there xs i within none = go (slice_get_cases xs i).1
  where
    go : ((m : MemberState) × (i < length xs) × (slice_get xs i ≡ Some m) × (get_or xs i m ≡ m)) ⊎ ((length xs ≤ i) × (slice_get xs i ≡ None)) → ⊥
    go (inl h) = absurd (let at = h.2 in cc)
    go (inr h) = let past = h.0 in absurd (omega (arith, within, past))

module _ (b : Beginning) (asked : List ℕ) (n : Moment) (p : IsSoFar b asked n) (number : ℕ) where
  -- a drawing that goes on made as many turns as it was asked for
  pub turns-asked : ending_at n.pool number ≡ None → number < length n.pool → turns_at n.pool number ≡ how_often number asked
  turns-asked going within = go (slice_get n.pool number) refl going
    where
      go : (o : Option MemberState) → slice_get n.pool number ≡ o → ending_of_member o ≡ None → turns_of_member o ≡ how_often number asked
      go None at is = absurd (is-there n.pool number within at)
      go (Some m) at is = was-asked-going (how_often number asked) m (p.after.each number m at).asked is

  -- one that ended was asked at least as often as that took
  pub ended-asked : asked_by n.pool number ≤ how_often number asked
  ended-asked = go (slice_get n.pool number) refl
    where
      go : (o : Option MemberState) → slice_get n.pool number ≡ o → asked_of_member o ≤ how_often number asked
      go None at = omega arith
      go (Some m) at = was-asked-ended (how_often number asked) m (p.after.each number m at).asked

some-is : (o : Option Told) (e : Told) → o ≡ Some e → IsSome o
some-is o e is = subst IsSome (sym is) refl

-- a drawing was asked once more
module _ (b : Beginning) (asked : List ℕ) (old new : Moment) (order : List ℕ) (number : ℕ) (p : IsPoolRunning b asked old order) (h : IsAsked old.pool number new.pool) (q : IsSoFar b (asked ++ number ∷ []) new) (within : number < length old.pool) where
  going-same : ending_at old.pool number ≡ None → ending_at new.pool number ≡ None → (i : ℕ) → asked_by new.pool i ≡ asked_by old.pool i
  going-same was is i = go (eqb_tells i number)
    where
      go : ((nat_eq i number ≡ true) × (i ≡ number)) ⊎ ((nat_eq i number ≡ false) × (i ≢ number)) → asked_by new.pool i ≡ asked_by old.pool i
      go (inl k) = ap (asked_by new.pool) k.1 ∙ none-asked (slice_get new.pool number) is ∙ sym (none-asked (slice_get old.pool number) was) ∙ ap (asked_by old.pool) (sym k.1)
      go (inr k) = ap asked_of_member (h.others i k.1)

  -- it had ended, or goes on
  pub order-same : false ≡ ended_now (ending_at old.pool number) (ending_at new.pool number) → IsPoolRunning b (asked ++ number ∷ []) new order
  order-same is = record { so_far = q; order_is = p.order_is ∙ sym (go (ending_at old.pool number) (ending_at new.pool number) refl refl is) }
    where
      go : (o l : Option Told) → ending_at old.pool number ≡ o → ending_at new.pool number ≡ l → false ≡ ended_now o l → ends_in (asked_by new.pool) [] (asked ++ number ∷ []) ≡ ends_in (asked_by old.pool) [] asked
      go (Some e) l was now k = order-stays (asked_by old.pool) (asked_by new.pool) asked number (λ i. ap (λ ms. asked_by ms i) (h.rests (some-is (ending_at old.pool number) e was))) (ended-asked b asked old p.so_far number)
      go None None was now k = order-stays (asked_by old.pool) (asked_by new.pool) asked number (going-same was now) (ended-asked b asked old p.so_far number)
      go None (Some e) was now k = absurd (cc)

  -- it ended
  pub order-more : true ≡ ended_now (ending_at old.pool number) (ending_at new.pool number) → IsPoolRunning b (asked ++ number ∷ []) new (order ++ number ∷ [])
  order-more is = record { so_far = q; order_is = ap (λ o. o ++ number ∷ []) p.order_is ∙ sym (go (ending_at old.pool number) (ending_at new.pool number) refl refl is) }
    where
      go : (o l : Option Told) → ending_at old.pool number ≡ o → ending_at new.pool number ≡ l → true ≡ ended_now o l → ends_in (asked_by new.pool) [] (asked ++ number ∷ []) ≡ ends_in (asked_by old.pool) [] asked ++ number ∷ []
      go (Some e) l was now k = absurd (cc)
      go None None was now k = absurd (cc)
      go None (Some e) was now k =
          let counted = subst (CountsAsked (turns_at old.pool number) (turns_at new.pool number) (asked_by new.pool number)) now (h.counted was) in
          order-grows (asked_by old.pool) (asked_by new.pool) asked number (λ i other. ap asked_of_member (h.others i other)) (none-asked (slice_get old.pool number) was)
          (counted ∙ ap (λ t. t + 1) (turns-asked b asked old p.so_far number was within))

  -- how often a drawing was asked that ended by it
  pub asked-at-end : ending_at old.pool number ≡ None → IsSome (ending_at new.pool number) → asked_by new.pool number ≡ how_often number asked + 1
  asked-at-end was some = go (ending_at new.pool number) refl some
    where
      go : (l : Option Told) → ending_at new.pool number ≡ l → IsSome l → asked_by new.pool number ≡ how_often number asked + 1
      go None now k = absurd (cc)
      go (Some e) now k =
          subst (CountsAsked (turns_at old.pool number) (turns_at new.pool number) (asked_by new.pool number)) now (h.counted was)
          ∙ ap (λ t. t + 1) (turns-asked b asked old p.so_far number was within)

-- a pool that is under way can be broken off
pub broken-by : (b : Beginning) (asked : List ℕ) (n : Moment) → IsSoFar b asked n → IsBrokenPool b n
broken-by b asked n p = record { asked = asked; so_far = p }

-- a number asked once more
replicate-on : (n x : ℕ) → replicate n x ++ x ∷ [] ≡ replicate (suc n) x
replicate-on zero x = refl
replicate-on (suc n) x = ap (λ xs. x ∷ xs) (replicate-on n x)

pub asked-more : (asked : List ℕ) (n x : ℕ) → (asked ++ replicate n x) ++ x ∷ [] ≡ asked ++ replicate (suc n) x
asked-more asked n x = append_assoc asked (replicate n x) (x ∷ []) ∙ ap (λ xs. asked ++ xs) (replicate-on n x)

-- What is known of a drawing that is asked until it ends: how often it was asked; if it has ended, as often as that took.
abbrev pub Finishing : (b : Beginning) (asked : List ℕ) (n : Moment) (order : List ℕ) (number : ℕ) → Type 0
Finishing b asked n order number = (more : ℕ) × IsPoolRunning b (asked ++ replicate more number) n order × (IsSome (ending_at n.pool number) → asked_by n.pool number - how_often number asked ≡ more)

-- A drawing of a pool under way is one asked until it ends, with no further turn asked yet.
pub finish-start : (b : Beginning) (asked : List ℕ) (n : Moment) (order : List ℕ) (number : ℕ) → IsPoolRunning b asked n order → Finishing b asked n order number
finish-start b asked n order number p = (0, subst (λ a. IsPoolRunning b a n order) (sym (append-nil asked)) p, λ some. let few = ended-asked b asked n p.so_far number in omega (arith, few))

-- A drawing that is being asked until it ends, and goes on, is so still after it is asked once
-- more, with that turn counted.
pub finish-more : (b : Beginning) (asked : List ℕ) (old new : Moment) (order later : List ℕ) (number : ℕ) → (f : Finishing b asked old order number) → IsAsked old.pool number new.pool → IsPoolRunning b ((asked ++ replicate f.0 number) ++ number ∷ []) new later → number < length old.pool → ending_at old.pool number ≡ None → Finishing b asked new later number
finish-more b asked old new order later number f h q within going = (
  suc f.0,
  subst (λ a. IsPoolRunning b a new later) (asked-more asked f.0 number) q,
  λ some.
      let last = asked-at-end b (asked ++ replicate f.0 number) old new order number f.1 h q.so_far within going some in
      let both = times-both number asked (replicate f.0 number) in
      let many = times-replicated number f.0 in
      omega (arith, last, both, many),
)

-- Once the drawing that is asked until it ends has ended, the pool is under way with that drawing
-- asked, in all, as often as its ending took.
pub finish-end : (b : Beginning) (asked : List ℕ) (n : Moment) (order : List ℕ) (number : ℕ) → Finishing b asked n order number → IsSome (ending_at n.pool number) → IsPoolRunning b (asked ++ replicate (asked_by n.pool number - how_often number asked) number) n order
finish-end b asked n order number f some = subst (λ k. IsPoolRunning b (asked ++ replicate k number) n order) (sym (f.2 some)) f.1

-- other drawings that are asked don't count for this one
times-none : (number other n : ℕ) → number ≢ other → how_often number (replicate n other) ≡ 0
times-none number other zero differs = refl
times-none number other (suc n) differs =
    let both : how_often number (replicate (suc n) other) ≡ how_often number (other ∷ []) + how_often number (replicate n other) = times-both number (other ∷ []) (replicate n other) in
    let one : how_often number (other ∷ []) ≡ 0 = ap (λ b. 0 + cond b 1 0) (differs-is number other differs) in
    let rest = times-none number other n differs in
    omega (arith, both, one, rest)

times-before : (asks : ℕ → ℕ) (asked : List ℕ) (n number : ℕ) → n ≤ number → how_often number (all_asked asks asked n) ≡ how_often number asked
unfolding all_asked
times-before asks asked zero number few = refl
times-before asks asked (suc n) number few =
    times-both number (all_asked asks asked n) (replicate (asks n - how_often n asked) n)
    ∙ ap (λ k. how_often number (all_asked asks asked n) + k) (times-none number n (asks n - how_often n asked) (λ same. omega (arith, few, same)))
    ∙ (let none : how_often number (all_asked asks asked n) + 0 ≡ how_often number (all_asked asks asked n) = omega arith in none)
    ∙ times-before asks asked n number (omega (arith, few))

-- as often as they were asked, they are asked
pub asked-alike : (asks other : ℕ → ℕ) (asked : List ℕ) (n : ℕ) → ((i : ℕ) → i < n → other i ≡ asks i) → all_asked other asked n ≡ all_asked asks asked n
unfolding all_asked
asked-alike asks other asked zero same = refl
asked-alike asks other asked (suc n) same =
    ap (λ front. front ++ replicate (other n - how_often n asked) n) (asked-alike asks other asked n (λ i few. same i (omega (arith, few))))
    ∙ ap (λ k. all_asked asks asked n ++ replicate (k - how_often n asked) n) (same n (omega arith))

asked-next : (asks : ℕ → ℕ) (asked : List ℕ) (n : ℕ) → all_asked asks asked (suc n) ≡ all_asked asks asked n ++ replicate (asks n - how_often n asked) n
unfolding all_asked
asked-next asks asked n = refl

-- With none of the drawings asked beyond a list, the drawings asked are those of the list.
pub asked-none : (asks : ℕ → ℕ) (asked : List ℕ) → all_asked asks asked 0 ≡ asked
unfolding all_asked
asked-none asks asked = refl

-- one more drawing was asked until it ended
pub all-more : (b : Beginning) (asked : List ℕ) (pool : List MemberState) (new : Moment) (later : List ℕ) (number : ℕ) → IsFinished pool number new.pool → IsPoolRunning b (all_asked (asked_by pool) asked number ++ replicate (asked_by new.pool number - how_often number (all_asked (asked_by pool) asked number)) number) new later → IsPoolRunning b (all_asked (asked_by new.pool) asked (number + 1)) new later
all-more b asked pool new later number h q =
    subst (λ a. IsPoolRunning b a new later)
    (ap (λ k. all_asked (asked_by pool) asked number ++ replicate (asked_by new.pool number - k) number) (times-before (asked_by pool) asked number number (omega arith))
    ∙ ap (λ front. front ++ replicate (asked_by new.pool number - how_often number asked) number) (sym (asked-alike (asked_by pool) (asked_by new.pool) asked number (λ i few. ap asked_of_member (h.others i (λ same. omega (arith, few, same))))))
    ∙ sym (asked-next (asked_by new.pool) asked number)
    ∙ ap (all_asked (asked_by new.pool) asked) (let one : suc number ≡ number + 1 = omega arith in one)) q

-- If all drawings before a number have ended and that one is asked until it ends, all drawings up
-- to it have ended.
pub ended-more : (pool later : List MemberState) (number : ℕ) → IsFinished pool number later → ((i : ℕ) → i < number → IsSome (ending_at pool i)) → (i : ℕ) → i < number + 1 → IsSome (ending_at later i)
ended-more pool later number h before i few = go (eqb_tells i number)
  where
    go : ((nat_eq i number ≡ true) × (i ≡ number)) ⊎ ((nat_eq i number ≡ false) × (i ≢ number)) → IsSome (ending_at later i)
    go (inl k) = subst (λ n. IsSome (ending_at later n)) (sym k.1) h.ended
    go (inr k) = subst (λ o. IsSome (ending_of_member o)) (sym (h.others i k.1)) (before i (let other = k.1 in omega (arith, few, other)))

none-is : (f : Option Told) → is_none f ≡ true → f ≡ None
none-is None k = refl
none-is (Some e) k = absurd (cc)

-- what a pool tells of the ending of a drawing is it
pub going-at : (pool : List MemberState) (number : ℕ) (e : Option Told) → IfSome (slice_get pool number) (λ m. e ≡ m.drawing.ending) → is_none e ≡ true → ending_at pool number ≡ None
going-at pool number e told is = go (slice_get pool number) told e is
  where
    go : (o : Option MemberState) (l : IfSome o (λ m. e ≡ m.drawing.ending)) (f : Option Told) → is_none e ≡ true → ending_of_member o ≡ None
    go None l f k = refl
    go (Some m) l f k = sym l ∙ none-is e k

-- A drawing of the pool of which an ending is told has ended.
pub ended-at : (pool : List MemberState) (number : ℕ) (e : Option Told) → IfSome (slice_get pool number) (λ m. e ≡ m.drawing.ending) → number < length pool → is_none e ≡ false → IsSome (ending_at pool number)
ended-at pool number e told within is = go (slice_get pool number) refl told e refl is
  where
    go : (o : Option MemberState) → slice_get pool number ≡ o → IfSome o (λ m. e ≡ m.drawing.ending) → (f : Option Told) → e ≡ f → is_none e ≡ false → IsSome (ending_of_member o)
    go None at l f same k = absurd (is-there pool number within at)
    go (Some m) at l None same k = absurd (let is : is_none e ≡ true = ap is_none same in cc)
    go (Some m) at l (Some g) same k = some-is m.drawing.ending g (sym l ∙ same)

-- fewer turns are left after a turn
pub fewer-left : (s : Spec) (x : Fraction) (pool later : List MemberState) (number : ℕ) → PoolBelongs s x pool → IsAsked pool number later → ending_at pool number ≡ None → number < length pool → suc (turns_left later number) ≤ turns_left pool number
fewer-left s x pool later number belongs h going within = go (slice_get pool number) refl
  where
    go : (o : Option MemberState) → slice_get pool number ≡ o → suc (turns_left later number) ≤ left_of_member o
    go None at = absurd (is-there pool number within at)
    go (Some m) at =
        let mine = subst (λ (k : MemberState). DrawingBelongs s x k.drawing) (get_or_from_slice_get pool number m m at) (belongs.each number m (slice_get_within pool number m at)) in
        let is : m.drawing.ending ≡ None = ap ending_of_member (sym at) ∙ going in
        subst (λ n. suc (turns_left later number) ≤ n) (sym (ap (left_until m.drawing.turns) is))
        (after m.drawing.turns (let turns = mine.turns in let limit = mine.limits.turns in omega (arith, turns, limit)) (slice_get later number) (subst (λ o. CountsAsked (turns_of_member o) (turns_at later number) (asked_by later number) (ending_at later number)) at (h.counted going)))
      where
        after : (turns : ℕ) → turns ≤ 50000000 → (l : Option MemberState) → CountsAsked turns (turns_of_member l) (asked_of_member l) (ending_of_member l) → suc (left_of_member l) ≤ 50000002 - turns
        after turns few None counted = omega (arith, few)
        after turns few (Some k) counted = ends k.drawing.ending counted
          where
            ends : (e : Option Told) → CountsAsked turns k.drawing.turns (asked_until k.drawing e) e → suc (left_until k.drawing.turns e) ≤ 50000002 - turns
            ends None c = omega (arith, few, c)
            ends (Some e) c = omega (arith, few)

-- nothing was asked yet
pub starts-under-way : (b : Beginning) (n : Moment) (order : List ℕ) → IsSoFar b [] n → order ≡ [] → IsPoolRunning b [] n order
unfolding ends_in
starts-under-way b n order p none = record { so_far = p; order_is = none }

-- one more byte names a drawing
pub named-more : (asked : List ℕ) (n : ℕ) (bytes : List ℕ) (i byte d : ℕ) → i < length bytes → byte ≡ get_or bytes i d → (asked ++ drawings_named n (take i bytes)) ++ byte % n ∷ [] ≡ asked ++ drawings_named n (take (i + 1) bytes)
named-more asked n bytes i byte d within at =
    append_assoc asked (drawings_named n (take i bytes)) (byte % n ∷ [])
    ∙ ap (λ xs. asked ++ xs) (sym (map-append (λ b. b % n) (take i bytes) (byte ∷ [])))
    ∙ ap (λ b. asked ++ drawings_named n (take i bytes ++ b ∷ [])) at
    ∙ ap (λ xs. asked ++ drawings_named n xs) (sym (take-suc bytes i d within))
    ∙ ap (λ k. asked ++ drawings_named n (take k bytes)) (sym (add-one i))

-- whether there is no ending
pub none-by : (o : Option Told) (b v : Bool) → is_some o ≡ not b → b ≡ v → is_none o ≡ v
none-by None true v is same = same
none-by None false v is same = absurd (cc)
none-by (Some e) true v is same = absurd (cc)
none-by (Some e) false v is same = same
