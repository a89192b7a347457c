-- The order in which drawings end, with one drawing asked once more.
use Rattle.std.proofs.Common.{◌≡◌, ◌≢◌, ℕ, zero, suc, ◌+◌, ◌<◌, ◌≤◌, ◌⊎◌, inl, inr, arith, Bool, true, false, cond, List, [], ◌∷◌, ◌++◌, append-nil, append_assoc, refl, sym, ◌∙◌, ap, subst}
use Rattle.std.specs.Prelude.{nat_eq, replicate, if◌then◌else◌}
use Rattle.std.proofs.lemmas.Bool.Decides.{eqb_tells}
use Rattle.std.proofs.lemmas.List.Sums.{sum_by-append}
use Rattle.session_pool.specs.Interleaving.{how_often}
use Rattle.pool_command.specs.Schedule.{ends_now, ends_in}

-- 1 where a test passes
abbrev one-if : Bool → ℕ
one-if b = cond b 1 0

-- how often a number stands in two lists together
pub times-both : (number : ℕ) (xs ys : List ℕ) → how_often number (xs ++ ys) ≡ how_often number xs + how_often number ys
times-both number xs ys = sum_by-append (λ x. one-if (nat_eq number x)) xs ys

same-is : (n : ℕ) → nat_eq n n ≡ true
same-is n = go (eqb_tells n n)
  where
    go : ((nat_eq n n ≡ true) × (n ≡ n)) ⊎ ((nat_eq n n ≡ false) × (n ≢ n)) → nat_eq n n ≡ true
    go (inl h) = h.0
    go (inr h) = absurd (h.1 refl)

-- The equality test of two different numbers answers false.
pub differs-is : (n m : ℕ) → n ≢ m → nat_eq n m ≡ false
differs-is n m other = go (eqb_tells n m)
  where
    go : ((nat_eq n m ≡ true) × (n ≡ m)) ⊎ ((nat_eq n m ≡ false) × (n ≢ m)) → nat_eq n m ≡ false
    go (inl h) = absurd (other h.1)
    go (inr h) = h.0

-- a number stands once in the list of itself
times-itself : (number : ℕ) → how_often number (number ∷ []) ≡ 1
times-itself number = ap (λ b. 0 + one-if b) (same-is number)

pub times-once-more : (number : ℕ) (xs : List ℕ) → how_often number (xs ++ number ∷ []) ≡ how_often number xs + 1
times-once-more number xs = times-both number xs (number ∷ []) ∙ ap (λ n. how_often number xs + n) (times-itself number)

-- A number stands n times in a list of n copies of it.
pub times-replicated : (number n : ℕ) → how_often number (replicate n number) ≡ n
times-replicated number zero = refl
times-replicated number (suc n) =
    let both : how_often number (replicate (suc n) number) ≡ how_often number (number ∷ []) + how_often number (replicate n number) = times-both number (number ∷ []) (replicate n number) in
    let one = times-itself number in
    let rest = times-replicated number n in
    omega (arith, both, one, rest)

-- it doesn't end where it was asked for another time
now-none : (asks : ℕ → ℕ) (before : List ℕ) (i : ℕ) → asks i ≢ how_often i before + 1 → ends_now asks before i ≡ []
now-none asks before i other = ap (λ b. if b then i ∷ [] else []) (differs-is (asks i) (how_often i before + 1) other)

now-one : (asks : ℕ → ℕ) (before : List ℕ) (i : ℕ) → asks i ≡ how_often i before + 1 → ends_now asks before i ≡ i ∷ []
now-one asks before i is = ap (λ n. if nat_eq n (how_often i before + 1) then i ∷ [] else []) is ∙ ap (λ b. if b then i ∷ [] else []) (same-is (how_often i before + 1))

-- one more is asked at the end
ends-on : (asks : ℕ → ℕ) (before xs : List ℕ) (i : ℕ) → ends_in asks before (xs ++ i ∷ []) ≡ ends_in asks before xs ++ ends_now asks (before ++ xs) i
unfolding ends_in
ends-on asks before [] i = append-nil (ends_now asks before i) ∙ ap (λ b. ends_now asks b i) (sym (append-nil before))
ends-on asks before (x ∷ xs) i =
    ap (λ more. ends_now asks before x ++ more) (ends-on asks (before ++ x ∷ []) xs i)
    ∙ sym (append_assoc (ends_now asks before x) (ends_in asks (before ++ x ∷ []) xs) (ends_now asks ((before ++ x ∷ []) ++ xs) i))
    ∙ ap (λ b. (ends_now asks before x ++ ends_in asks (before ++ x ∷ []) xs) ++ ends_now asks b i) (append_assoc before (x ∷ []) xs)

-- The numbers of asks agree, but for a drawing that was not to end, and now is to end after all that is asked.
abbrev Agree : (asks other : ℕ → ℕ) → (all : List ℕ) → (number : ℕ) → Type 0
Agree asks other all number = (other number ≡ asks number) ⊎ ((asks number ≡ 0) × (how_often number all < other number))

-- those that end are the same
pub ends-alike : (asks other : ℕ → ℕ) (before xs : List ℕ) → ((number : ℕ) → Agree asks other (before ++ xs) number) → ends_in other before xs ≡ ends_in asks before xs
unfolding ends_in
ends-alike asks other before [] agree = refl
ends-alike asks other before (x ∷ xs) agree =
    ap (λ front. front ++ ends_in other (before ++ x ∷ []) xs) (now (agree x))
    ∙ ap (λ more. ends_now asks before x ++ more) (ends-alike asks other (before ++ x ∷ []) xs (λ number. subst (λ all. Agree asks other all number) (sym (append_assoc before (x ∷ []) xs)) (agree number)))
  where
    now : Agree asks other (before ++ x ∷ xs) x → ends_now other before x ≡ ends_now asks before x
    now (inl same) = ap (λ n. if nat_eq n (how_often x before + 1) then x ∷ [] else []) same
    now (inr later) =
        let none = later.0 in
        let more = later.1 in
        let both = times-both x before (x ∷ xs) in
        let rest = times-both x (x ∷ []) xs in
        let one = times-itself x in
        now-none other before x (λ is. omega (arith, more, both, rest, one, is)) ∙ sym (now-none asks before x (λ is. omega (arith, none, is)))

-- one that had ended, or goes on, changes nothing
pub order-stays : (asks other : ℕ → ℕ) (xs : List ℕ) (i : ℕ) → ((number : ℕ) → other number ≡ asks number) → asks i ≤ how_often i xs → ends_in other [] (xs ++ i ∷ []) ≡ ends_in asks [] xs
order-stays asks other xs i same past =
    ends-alike asks other [] (xs ++ i ∷ []) (λ number. inl (same number))
    ∙ ends-on asks [] xs i
    ∙ ap (λ more. ends_in asks [] xs ++ more) (now-none asks xs i (λ is. omega (arith, past, is)))
    ∙ append-nil (ends_in asks [] xs)

-- one that ends is the next
pub order-grows : (asks other : ℕ → ℕ) (xs : List ℕ) (i : ℕ) → ((number : ℕ) → number ≢ i → other number ≡ asks number) → asks i ≡ 0 → other i ≡ how_often i xs + 1 → ends_in other [] (xs ++ i ∷ []) ≡ ends_in asks [] xs ++ i ∷ []
order-grows asks other xs i same none last =
    ends-on other [] xs i
    ∙ ap (λ front. front ++ ends_now other xs i) (ends-alike asks other [] xs agree)
    ∙ ap (λ more. ends_in asks [] xs ++ more) (now-one other xs i last)
  where
    agree : (number : ℕ) → Agree asks other xs number
    agree number = go (eqb_tells number i)
      where
        go : ((nat_eq number i ≡ true) × (number ≡ i)) ⊎ ((nat_eq number i ≡ false) × (number ≢ i)) → Agree asks other xs number
        go (inl h) = inr (ap asks h.1 ∙ none, let e : other number ≡ other i = ap other h.1 in let t : how_often number xs ≡ how_often i xs = ap (λ n. how_often n xs) h.1 in omega (arith, e, t, last))
        go (inr h) = inl (same number h.1)
