-- Patterns byte by byte, and numbers at the front of a text.
use Rattle.std.proofs.Common.{rules, ◌≡◌, ◌≢◌, ℕ, zero, suc, ◌+◌, ◌^◌, ◌<◌, ◌≤◌, Bool, true, false, cond, List, [], ◌∷◌, ◌++◌, length, drop, get_or, set, arith, refl, sym, ◌∙◌, ap, subst, decimal, append_assoc, add-one, drop-cons, get_or-set_same, get_or-set_other, eq-eqb, append-nil, ◌⊎◌, inl, inr}
use Rattle.std.specs.Prelude.{nat_eq, nat_le, not, ◌&&◌}
use Rattle.std.proofs.Math.Dec.{eqb}
use Rattle.std.proofs.lemmas.Bool.{ne_eqb}
use Rattle.std.proofs.lemmas.Bool.Decides.{eqb_tells}
use Rattle.std.proofs.lemmas.List.{set_past}
use Rattle.certificate.proofs.Numerals.{one-number}
use Rattle.certificate.specs.Patterns.{filled_from, filled, places, begins_apart, is_apart, HasNoDigit, BeginsNumber, AreSmall, BeginsFilled}

-- Two equal lists that have a first item have the same first item and the same rest.
pub cons-same : (a b : ℕ) (xs ys : List ℕ) → a ∷ xs ≡ b ∷ ys → (a ≡ b) × (xs ≡ ys)
cons-same a b xs ys e = (cc, cc)

-- a number sign takes the next number, another byte stands for itself
pub sign-filled : (b : ℕ) (pattern ns : List ℕ) (next : ℕ) → b ≡ 35 → filled_from (b ∷ pattern) ns next ≡ decimal (get_or ns next 0) ++ filled_from pattern ns (suc next)
unfolding filled_from
sign-filled b pattern ns next e = let t : nat_eq b 35 ≡ true = eq-eqb b 35 e in rw t refl

-- A byte that is no number sign stands for itself in a filled pattern.
pub byte-filled : (b : ℕ) (pattern ns : List ℕ) (next : ℕ) → b ≢ 35 → filled_from (b ∷ pattern) ns next ≡ b ∷ filled_from pattern ns next
unfolding filled_from
byte-filled b pattern ns next e = let t : nat_eq b 35 ≡ false = ne_eqb b 35 e in rw t refl

-- The empty pattern filled with any numbers is the empty text.
pub nothing-filled : (ns : List ℕ) (next : ℕ) → filled_from [] ns next ≡ []
unfolding filled_from
nothing-filled ns next = refl

-- the same at a place of the pattern
pub sign-at : (p ns : List ℕ) (i j : ℕ) → i < length p → get_or p i 0 ≡ 35 → filled_from (drop i p) ns j ≡ decimal (get_or ns j 0) ++ filled_from (drop (i + 1) p) ns (j + 1)
sign-at p ns i j lt e = rw (add-one i, add-one j) (ap (λ t. filled_from t ns j) (drop-cons p i 0 lt) ∙ sign-filled (get_or p i 0) (drop (suc i) p) ns j e)

-- Where the byte at place i of a pattern is no number sign, the pattern filled from i on is that
-- byte and the pattern filled from i + 1 on.
pub byte-at : (p ns : List ℕ) (i j : ℕ) → i < length p → get_or p i 0 ≢ 35 → filled_from (drop i p) ns j ≡ get_or p i 0 ∷ filled_from (drop (i + 1) p) ns j
byte-at p ns i j lt e = rw add-one (ap (λ t. filled_from t ns j) (drop-cons p i 0 lt) ∙ byte-filled (get_or p i 0) (drop (suc i) p) ns j e)

drop-end : (p : List ℕ) (i : ℕ) → length p ≤ i → drop i p ≡ []
drop-end [] zero h = refl
drop-end [] (suc i) h = refl
drop-end (b ∷ p) zero h = absurd (omega arith)
drop-end (b ∷ p) (suc i) h = drop-end p i (omega arith)

-- From its end on, a pattern filled with numbers is the empty text.
pub end-at : (p ns : List ℕ) (i j : ℕ) → length p ≤ i → filled_from (drop i p) ns j ≡ []
end-at p ns i j h = ap (λ t. filled_from t ns j) (drop-end p i h) ∙ nothing-filled ns j

sign-places : (b : ℕ) (p : List ℕ) → b ≡ 35 → places (b ∷ p) ≡ suc (places p)
sign-places b p e = let t : nat_eq b 35 ≡ true = eq-eqb b 35 e in rw t refl

byte-places : (b : ℕ) (p : List ℕ) → b ≢ 35 → places (b ∷ p) ≡ places p
byte-places b p e = let t : nat_eq b 35 ≡ false = ne_eqb b 35 e in rw t refl

-- Where a number sign stands at place i of a pattern, the pattern takes one number more from i on
-- than from i + 1 on.
pub sign-places-at : (p : List ℕ) (i : ℕ) → i < length p → get_or p i 0 ≡ 35 → places (drop i p) ≡ places (drop (i + 1) p) + 1
sign-places-at p i lt e = rw (add-one i, add-one (places (drop (suc i) p))) (ap places (drop-cons p i 0 lt) ∙ sign-places (get_or p i 0) (drop (suc i) p) e)

-- Where the byte at place i of a pattern is no number sign, the pattern takes as many numbers from
-- i on as from i + 1 on.
pub byte-places-at : (p : List ℕ) (i : ℕ) → i < length p → get_or p i 0 ≢ 35 → places (drop i p) ≡ places (drop (i + 1) p)
byte-places-at p i lt e = rw add-one (ap places (drop-cons p i 0 lt) ∙ byte-places (get_or p i 0) (drop (suc i) p) e)

and-parts : (a b : Bool) → (a && b) ≡ true → (a ≡ true) × (b ≡ true)
and-parts true b e = (refl, e)
and-parts false b e = absurd (cc)

apart-rest : (b : ℕ) (p : List ℕ) → is_apart (b ∷ p) ≡ true → is_apart p ≡ true
apart-rest b p e = (and-parts (cond (nat_eq b 35) (begins_apart p) true) (is_apart p) e).1

apart-sign : (b : ℕ) (p : List ℕ) → b ≡ 35 → is_apart (b ∷ p) ≡ true → begins_apart p ≡ true
apart-sign b p s e =
    let t : nat_eq b 35 ≡ true = eq-eqb b 35 s in
    ap (λ v. cond v (begins_apart p) true) (sym t) ∙ (and-parts (cond (nat_eq b 35) (begins_apart p) true) (is_apart p) e).0

-- If in a pattern from place i on each number sign is followed by no digit and no number sign, then
-- so it is from place i + 1 on.
pub apart-at : (p : List ℕ) (i : ℕ) → i < length p → is_apart (drop i p) ≡ true → is_apart (drop (i + 1) p) ≡ true
apart-at p i lt e = rw add-one (apart-rest (get_or p i 0) (drop (suc i) p) (sym (ap is_apart (drop-cons p i 0 lt)) ∙ e))

-- what follows a number in a filled pattern begins with no digit
follows : (p ns q : List ℕ) (j : ℕ) → begins_apart p ≡ true → HasNoDigit q → HasNoDigit (filled_from p ns j ++ q)
follows [] ns q j b h = subst (λ t. HasNoDigit (t ++ q)) (sym (nothing-filled ns j)) h
follows (c ∷ p) ns q j b h =
    let parts = and-parts (not (nat_eq c 35)) (not (nat_le 48 c && nat_le c 57)) b in
    subst (λ t. HasNoDigit (t ++ q)) (sym (byte-filled c p ns j (λ e. no-sign c e parts.0))) (λ d. no-digit c d parts.1)
  where
    no-sign : (c : ℕ) → c ≡ 35 → not (nat_eq c 35) ≡ true → ⊥
    no-sign c e n = let t : nat_eq c 35 ≡ true = eq-eqb c 35 e in let f = ap not t in cc

    no-digit : (c : ℕ) → (48 ≤ c) × (c ≤ 57) → not (nat_le 48 c && nat_le c 57) ≡ true → ⊥
    no-digit c d n = let low = d.0 in let high = d.1 in let t : nat_le 48 c ≡ true = search rules in let u : nat_le c 57 ≡ true = search rules in let f : (nat_le 48 c && nat_le c 57) ≡ true = ap (λ v. v && nat_le c 57) t ∙ u in let g = ap not f in cc

pub follows-at : (p ns q : List ℕ) (i j : ℕ) → i < length p → get_or p i 0 ≡ 35 → is_apart (drop i p) ≡ true → HasNoDigit q → HasNoDigit (filled_from (drop (i + 1) p) ns j ++ q)
follows-at p ns q i j lt s a h = rw add-one (follows (drop (suc i) p) ns q j (apart-sign (get_or p i 0) (drop (suc i) p) s (sym (ap is_apart (drop-cons p i 0 lt)) ∙ a)) h)

-- two lists have the same numbers before a place
pub record Agree (j : ℕ) (ms ns : List ℕ) : Type 0 where
  pub same : (k : ℕ) → k < j → get_or ms k 0 ≡ get_or ns k 0

agree-more : (j : ℕ) (ms ns : List ℕ) (n : ℕ) → j < length ns → Agree j ms ns → get_or ms j 0 ≡ n → Agree (j + 1) ms (set ns j n)
agree-more j ms ns n room a e = record { same = λ k lt. go k lt (eqb_tells k j) }
  where
    go : (k : ℕ) → k < j + 1 → ((eqb k j ≡ true) × (k ≡ j)) ⊎ ((eqb k j ≡ false) × (k ≢ j)) → get_or ms k 0 ≡ get_or (set ns j n) k 0
    go k lt (inl t) = ap (λ z. get_or ms z 0) t.1 ∙ e ∙ sym (get_or-set_same ns j n 0 room) ∙ ap (λ z. get_or (set ns j n) z 0) (sym t.1)
    go k lt (inr f) = let ne : k ≢ j = f.1 in a.same k (omega arith) ∙ sym (get_or-set_other ns j k n 0 ne)

-- From a place of the pattern and a place among the numbers on, what is left of the text is filled exactly where the whole is.
pub record Reads (p text : List ℕ) (i j : ℕ) (ns rest : List ℕ) : Type 0 where
  pub forth : (ms q : List ℕ) → Agree j ms ns → rest ≡ filled_from (drop i p) ms j ++ q → text ≡ filled p ms ++ q
  pub back : (ms q : List ℕ) → AreSmall ms → HasNoDigit q → text ≡ filled p ms ++ q → Agree j ms ns × (rest ≡ filled_from (drop i p) ms j ++ q)

-- Before anything is read, the whole text is left of the whole pattern and no number is taken.
pub reads-start : (p text ns : List ℕ) → Reads p text 0 0 ns text
reads-start p text ns = record {
  forth = λ ms q a e. e;
  back = λ ms q s h e. (record { same = λ k lt. absurd (omega arith) }, e);
}

-- If the next byte of the pattern is no number sign and begins what is left of the text, reading
-- goes on behind that byte in both.
pub reads-byte : (p text : List ℕ) (i j : ℕ) (ns rest more : List ℕ) → i < length p → get_or p i 0 ≢ 35 → rest ≡ get_or p i 0 ∷ more → Reads p text i j ns rest → Reads p text (i + 1) j ns more
reads-byte p text i j ns rest more lt ne is h = record {
  forth = λ ms q a e. h.forth ms q a (is ∙ ap (λ t. get_or p i 0 ∷ t) e ∙ ap (λ t. t ++ q) (sym (byte-at p ms i j lt ne)));
  back = λ ms q s n e.
      let b = h.back ms q s n e in
      (b.0, (cons-same (get_or p i 0) (get_or p i 0) more (filled_from (drop (i + 1) p) ms j ++ q) (sym is ∙ b.1 ∙ ap (λ t. t ++ q) (byte-at p ms i j lt ne))).1);
}

agree-less : (j : ℕ) (ms ns : List ℕ) (n : ℕ) → Agree (j + 1) ms (set ns j n) → Agree j ms ns
agree-less j ms ns n a = record { same = λ k lt. let ne : k ≢ j = omega arith in a.same k (omega arith) ∙ get_or-set_other ns j k n 0 ne }

-- If a number sign is next in the pattern and a number begins what is left, reading goes on behind
-- both, with that number put in at its place.
pub reads-number : (p text : List ℕ) (i j : ℕ) (ns rest more : List ℕ) (n : ℕ) → i < length p → get_or p i 0 ≡ 35 → is_apart (drop i p) ≡ true → j < length ns → BeginsNumber rest n more → Reads p text i j ns rest → Reads p text (i + 1) (j + 1) (set ns j n) more
reads-number p text i j ns rest more n lt s a room b h = record {
  forth = λ ms q g e.
      let here : get_or ms j 0 ≡ n = g.same j (omega arith) ∙ get_or-set_same ns j n 0 room in
      h.forth ms q (agree-less j ms ns n g)
      (b.split ∙ ap (λ t. decimal n ++ t) e ∙ ap (λ m. decimal m ++ (filled_from (drop (i + 1) p) ms (j + 1) ++ q)) (sym here)
      ∙ sym (append_assoc (decimal (get_or ms j 0)) (filled_from (drop (i + 1) p) ms (j + 1)) q) ∙ ap (λ t. t ++ q) (sym (sign-at p ms i j lt s)));
  back = λ ms q small none e.
      let k = h.back ms q small none e in
      let other : BeginsNumber rest (get_or ms j 0) (filled_from (drop (i + 1) p) ms (j + 1) ++ q) = record {
        small = small.each j;
        split = k.1 ∙ ap (λ t. t ++ q) (sign-at p ms i j lt s) ∙ append_assoc (decimal (get_or ms j 0)) (filled_from (drop (i + 1) p) ms (j + 1)) q;
        apart = follows-at p ms q i (j + 1) lt s a none;
      } in
      let one = one-number rest n (get_or ms j 0) more (filled_from (drop (i + 1) p) ms (j + 1) ++ q) b other in
      (agree-more j ms ns n room k.0 (sym one.0), one.1);
}

-- If the next byte of the pattern is no number sign and the rest of the text doesn't begin with it,
-- the text begins with the pattern filled in no way.
pub no-byte : (p text : List ℕ) (i j : ℕ) (ns rest : List ℕ) → i < length p → get_or p i 0 ≢ 35 → Reads p text i j ns rest → ((more : List ℕ) → rest ≢ get_or p i 0 ∷ more) → (ms q : List ℕ) → ¬ (BeginsFilled p text ms q)
no-byte p text i j ns rest lt ne h none ms q b =
    none (filled_from (drop (i + 1) p) ms j ++ q) ((h.back ms q b.small b.apart b.split).1 ∙ ap (λ t. t ++ q) (byte-at p ms i j lt ne))

-- If a number sign is next in a pattern with no digit after any sign, and no number begins the
-- rest, the text begins with the pattern filled in no way.
pub no-number-at : (p text : List ℕ) (i j : ℕ) (ns rest : List ℕ) → i < length p → get_or p i 0 ≡ 35 → is_apart (drop i p) ≡ true → Reads p text i j ns rest → ((n : ℕ) (more : List ℕ) → ¬ (BeginsNumber rest n more)) → (ms q : List ℕ) → ¬ (BeginsFilled p text ms q)
no-number-at p text i j ns rest lt s a h none ms q b =
    none (get_or ms j 0) (filled_from (drop (i + 1) p) ms (j + 1) ++ q) (record {
      small = (b.small).each j;
      split = (h.back ms q b.small b.apart b.split).1 ∙ ap (λ t. t ++ q) (sign-at p ms i j lt s) ∙ append_assoc (decimal (get_or ms j 0)) (filled_from (drop (i + 1) p) ms (j + 1)) q;
      apart = follows-at p ms q i (j + 1) lt s a b.apart;
    })

-- Where the whole pattern was read, the numbers read have 64 bits and no digit follows, the text
-- begins with the pattern filled with them.
pub all-read : (p text : List ℕ) (i j : ℕ) (ns rest : List ℕ) → length p ≤ i → AreSmall ns → HasNoDigit rest → Reads p text i j ns rest → BeginsFilled p text ns rest
all-read p text i j ns rest ge small none h = record {
  small = small;
  split = h.forth ns rest (record { same = λ k lt. refl }) (sym (ap (λ t. t ++ rest) (end-at p ns i j ge)));
  apart = none;
}

-- Where the whole pattern was read and what is left begins with a digit, the text begins with the
-- pattern filled in no way.
pub all-passed : (p text : List ℕ) (i j : ℕ) (ns rest : List ℕ) → length p ≤ i → ¬ (HasNoDigit rest) → Reads p text i j ns rest → (ms q : List ℕ) → ¬ (BeginsFilled p text ms q)
all-passed p text i j ns rest ge digit h ms q b =
    let k = h.back ms q b.small b.apart b.split in
    digit (subst HasNoDigit (sym (k.1 ∙ ap (λ t. t ++ q) (end-at p ms i j ge))) b.apart)

-- a whole line is a filled pattern where it begins with one and nothing is left
pub whole-filled : (p line ns rest : List ℕ) → BeginsFilled p line ns rest → rest ≡ [] → line ≡ filled p ns
whole-filled p line ns rest b e = b.split ∙ ap (λ t. filled p ns ++ t) e ∙ append-nil (filled p ns)

-- A line that is a pattern filled with numbers of 64 bits begins with that, and nothing follows.
pub begins-whole : (p line ms : List ℕ) → AreSmall ms → line ≡ filled p ms → BeginsFilled p line ms []
begins-whole p line ms small e = record { small = small; split = e ∙ sym (append-nil (filled p ms)); apart = tt }

-- from a place on, the numbers of a filled pattern and what follows it are one
record OneFrom (j n : ℕ) (ns ms r q : List ℕ) : Type 0 where
  same : (k : ℕ) → j ≤ k → k < j + n → get_or ns k 0 ≡ get_or ms k 0
  rest : r ≡ q

one-from : (p ns ms r q : List ℕ) (j : ℕ) → is_apart p ≡ true → AreSmall ns → AreSmall ms → HasNoDigit r → HasNoDigit q → filled_from p ns j ++ r ≡ filled_from p ms j ++ q → OneFrom j (places p) ns ms r q
one-from [] ns ms r q j a s t h k e = record {
  same = λ i ge lt. absurd (omega arith);
  rest = ap (λ u. u ++ r) (sym (nothing-filled ns j)) ∙ e ∙ ap (λ u. u ++ q) (nothing-filled ms j);
}
one-from (b ∷ p) ns ms r q j a s t h k e = go (λ i u. one-from p ns ms r q i (apart-rest b p a) s t h k u) (eqb_tells b 35)
  where
    sign : b ≡ 35 → OneFrom (suc j) (places p) ns ms r q → get_or ns j 0 ≡ get_or ms j 0 → OneFrom j (places (b ∷ p)) ns ms r q
    sign is o here = record {
      same = λ i ge lt. at i ge lt (eqb_tells i j);
      rest = o.rest;
    }
      where
        at : (i : ℕ) → j ≤ i → i < j + places (b ∷ p) → ((eqb i j ≡ true) × (i ≡ j)) ⊎ ((eqb i j ≡ false) × (i ≢ j)) → get_or ns i 0 ≡ get_or ms i 0
        at i ge lt (inl x) = ap (λ z. get_or ns z 0) x.1 ∙ here ∙ ap (λ z. get_or ms z 0) (sym x.1)
        at i ge lt (inr x) = let ne : i ≢ j = x.1 in let n : places (b ∷ p) ≡ suc (places p) = sign-places b p is in o.same i (omega arith) (omega arith)

    go : ((i : ℕ) → filled_from p ns i ++ r ≡ filled_from p ms i ++ q → OneFrom i (places p) ns ms r q) → ((eqb b 35 ≡ true) × (b ≡ 35)) ⊎ ((eqb b 35 ≡ false) × (b ≢ 35)) → OneFrom j (places (b ∷ p)) ns ms r q
    go again (inl x) =
        let apart : begins_apart p ≡ true = apart-sign b p x.1 a in
        let left : filled_from (b ∷ p) ns j ++ r ≡ decimal (get_or ns j 0) ++ (filled_from p ns (suc j) ++ r) = ap (λ u. u ++ r) (sign-filled b p ns j x.1) ∙ append_assoc (decimal (get_or ns j 0)) (filled_from p ns (suc j)) r in
        let right : filled_from (b ∷ p) ms j ++ q ≡ decimal (get_or ms j 0) ++ (filled_from p ms (suc j) ++ q) = ap (λ u. u ++ q) (sign-filled b p ms j x.1) ∙ append_assoc (decimal (get_or ms j 0)) (filled_from p ms (suc j)) q in
        let one = one-number (filled_from (b ∷ p) ns j ++ r) (get_or ns j 0) (get_or ms j 0) (filled_from p ns (suc j) ++ r) (filled_from p ms (suc j) ++ q)
        (record { small = s.each j; split = left; apart = follows p ns r (suc j) apart h })
        (record { small = t.each j; split = e ∙ right; apart = follows p ms q (suc j) apart k }) in
        sign x.1 (again (suc j) one.1) one.0
    go again (inr x) =
        let tail : filled_from p ns j ++ r ≡ filled_from p ms j ++ q = (cons-same b b (filled_from p ns j ++ r) (filled_from p ms j ++ q) (ap (λ u. u ++ r) (sym (byte-filled b p ns j x.1)) ∙ e ∙ ap (λ u. u ++ q) (byte-filled b p ms j x.1))).1 in
        let o = again j tail in
        let n : places (b ∷ p) ≡ places p = byte-places b p x.1 in
        record { same = λ i ge lt. o.same i ge (omega arith); rest = o.rest }

-- The numbers of a filled pattern, and what follows it, are one.
pub one-filling : (p text ns ms rest q : List ℕ) → is_apart p ≡ true → BeginsFilled p text ns rest → BeginsFilled p text ms q → ((k : ℕ) → k < places p → get_or ns k 0 ≡ get_or ms k 0) × (rest ≡ q)
one-filling p text ns ms rest q a b d =
    let o = one-from p ns ms rest q 0 a b.small d.small b.apart d.apart (sym b.split ∙ d.split) in
    (λ k lt. o.same k (omega arith) (omega arith), o.rest)

-- A line is a pattern filled in one way.
pub one-line : (p ns ms : List ℕ) → is_apart p ≡ true → AreSmall ns → AreSmall ms → filled p ns ≡ filled p ms → (k : ℕ) → k < places p → get_or ns k 0 ≡ get_or ms k 0
one-line p ns ms a s t e = (one-filling p (filled p ns) ns ms [] [] a (begins-whole p (filled p ns) ns s refl) (begins-whole p (filled p ns) ms t e)).0

-- Putting a number below 2^64 at a place of a list of numbers of 64 bits keeps all numbers of 64
-- bits.
pub small-set : (ns : List ℕ) (j n : ℕ) → n < 2 ^ 64 → AreSmall ns → AreSmall (set ns j n)
small-set ns j n h s = record { each = λ k. go k (eqb_tells k j) (nat-cases j (length ns)) }
  where
    nat-cases : (a b : ℕ) → (a < b) ⊎ (b ≤ a)
    nat-cases a b = search (arith, rules)

    go : (k : ℕ) → ((eqb k j ≡ true) × (k ≡ j)) ⊎ ((eqb k j ≡ false) × (k ≢ j)) → (j < length ns) ⊎ (length ns ≤ j) → get_or (set ns j n) k 0 < 2 ^ 64
    go k (inr x) room = let ne : k ≢ j = x.1 in subst (λ z. z < 2 ^ 64) (sym (get_or-set_other ns j k n 0 ne)) (s.each k)
    go k (inl x) (inl lt) = subst (λ z. z < 2 ^ 64) (sym (ap (λ z. get_or (set ns j n) z 0) x.1 ∙ get_or-set_same ns j n 0 lt)) h
    go k (inl x) (inr ge) = subst (λ u. get_or u k 0 < 2 ^ 64) (sym (set_past ns j n ge)) (s.each k)
