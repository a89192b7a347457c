-- Lists that are gone through from place to place, and products with one factor replaced.
use Rattle.std.proofs.Common.{◌≡◌, ◌≢◌, ℕ, zero, suc, ◌+◌, ◌<◌, ◌≤◌, Bool, true, false, List, [], ◌∷◌, ◌++◌, length, map, drop, set, get_or, cond, Option, Some, None, refl, sym, ap, ◌∙◌, arith, add-one, append_assoc, slice_get}
use Rattle.std.specs.Prelude.{slice_index, is_some, option_map, option_and_then}
use Rattle.std.proofs.lemmas.List.{drop_all, get_or-map, length-map}
use Rattle.std.proofs.lemmas.Option.{slice_get_within, same_Some, slice_get-get_or}
use Rattle.class_system.specs.Views.{number}
use Rattle.class_system.specs.declared.ids.ExprId.{ExprId}
use Rattle.fixed_enclosure.specs.Rounded.{of_both, add_up, mul_up}
use Rattle.bz_model.specs.Spec.{Range}
use Rattle.series_bounds.specs.Series.{Kind}
use Rattle.series_bounds.specs.Lists.{added_up, total_up, multiplied_up, product_up}
use Rattle.rounded_map.specs.RoundedMap.{Setting, value_at, at_each, all_values, amount}
use Rattle.rounded_map.specs.Derivative.{replaced_products, slope_up, counted_derivative, derivatives_up, dual_at, sweep_dual}
use Rattle.rounded_map.proofs.Entries.{body-at}

drop-at : {X : Type 0} (xs : List X) (i : ℕ) (x : X) → slice_get xs i ≡ Some x → drop i xs ≡ x ∷ drop (suc i) xs
drop-at [] i x at = absurd (omega (arith, slice_get_within [] i x at))
drop-at (y ∷ xs) zero x at = ap (λ z. z ∷ xs) (same_Some y x at)
drop-at (y ∷ xs) (suc i) x at = drop-at xs i x at

-- A sum goes on by one value, and ends.
pub added-first : (xs : List (Option ℕ)) (x : Option ℕ) → slice_get xs 0 ≡ Some x → added_up x (drop 1 xs) ≡ total_up xs
added-first [] x at = absurd (omega (arith, slice_get_within [] 0 x at))
added-first (y ∷ xs) x at = ap (λ z. added_up z xs) (sym (same_Some y x at))

-- The value at a place i added to the upper sum so far, with those from the next place on to be
-- added, makes the same whole.
pub added-more : (xs : List (Option ℕ)) (i : ℕ) (s x whole : Option ℕ) → slice_get xs i ≡ Some x → added_up s (drop i xs) ≡ whole → added_up (of_both add_up s x) (drop (i + 1) xs) ≡ whole
added-more xs i s x whole at so_far = ap (λ (k : ℕ). added_up (of_both add_up s x) (drop k xs)) (add-one i) ∙ sym (ap (added_up s) (drop-at xs i x at)) ∙ so_far

-- Past the end of the values, the upper sum so far is the whole sum.
pub added-ends : (xs : List (Option ℕ)) (i : ℕ) (s whole : Option ℕ) → length xs ≤ i → added_up s (drop i xs) ≡ whole → s ≡ whole
added-ends xs i s whole all so_far = sym (ap (added_up s) (drop_all i xs all)) ∙ so_far

-- And so does a product.
pub multiplied-first : (f : ℕ) (xs : List (Option ℕ)) (x : Option ℕ) → slice_get xs 0 ≡ Some x → multiplied_up f x (drop 1 xs) ≡ product_up f xs
multiplied-first f [] x at = absurd (omega (arith, slice_get_within [] 0 x at))
multiplied-first f (y ∷ xs) x at = ap (λ z. multiplied_up f z xs) (sym (same_Some y x at))

-- The upper product so far times the value at a place i, with those from the next place on to
-- follow, makes the same whole.
pub multiplied-more : (f : ℕ) (xs : List (Option ℕ)) (i : ℕ) (s x whole : Option ℕ) → slice_get xs i ≡ Some x → multiplied_up f s (drop i xs) ≡ whole → multiplied_up f (of_both (mul_up f) s x) (drop (i + 1) xs) ≡ whole
multiplied-more f xs i s x whole at so_far = ap (λ (k : ℕ). multiplied_up f (of_both (mul_up f) s x) (drop k xs)) (add-one i) ∙ sym (ap (multiplied_up f s) (drop-at xs i x at)) ∙ so_far

pub multiplied-ends : (f : ℕ) (xs : List (Option ℕ)) (i : ℕ) (s whole : Option ℕ) → length xs ≤ i → multiplied_up f s (drop i xs) ≡ whole → s ≡ whole
multiplied-ends f xs i s whole all so_far = sym (ap (multiplied_up f s) (drop_all i xs all)) ∙ so_far

-- The elements of a list with one replaced.
set-same : {X : Type 0} (xs : List X) (i : ℕ) (d : X) → i < length xs → slice_get (set xs i d) i ≡ Some d
set-same [] i d within = absurd (omega arith)
set-same (x ∷ xs) zero d within = refl
set-same (x ∷ xs) (suc i) d within = set-same xs i d (omega arith)

set-other : {X : Type 0} (xs : List X) (i j : ℕ) (d : X) → j ≢ i → slice_get (set xs i d) j ≡ slice_get xs j
set-other [] i j d other = refl
set-other (x ∷ xs) zero zero d other = absurd (other refl)
set-other (x ∷ xs) zero (suc j) d other = refl
set-other (x ∷ xs) (suc i) zero d other = refl
set-other (x ∷ xs) (suc i) (suc j) d other = set-other xs i j d (λ same. other (ap suc same))

read : (xs : List (Option ℕ)) (i : ℕ) (v : Option ℕ) → slice_get xs i ≡ Some v → value_at xs i ≡ v
read [] i v at = absurd (omega (arith, slice_get_within [] i v at))
read (y ∷ xs) zero v at = same_Some y v at
read (y ∷ xs) (suc i) v at = read xs i v at

-- The factor at a place, where the one at another place is replaced by its derivative.
pub factor-at : (values : List ℕ) (before : List (Option ℕ)) (parts : List ExprId) (place j : ℕ) (e : ExprId) (test : Bool) (x : Option ℕ) → (test ≡ true → j ≡ place) → (test ≡ false → j ≢ place) → j < length parts → (get_or parts j e).0 < length values → x ≡ cond test (value_at before (get_or parts j e).0) (Some (slice_index values (get_or parts j e).0)) → slice_get (set (map (value_at (map Some values)) (map number parts)) place (value_at (map (value_at before) (map number parts)) place)) j ≡ Some x
factor-at values before parts place j e true x here other within inside is =
    let vs : List (Option ℕ) = map (value_at (map Some values)) (map number parts) in
    let ds : List (Option ℕ) = map (value_at before) (map number parts) in
    let there : slice_get ds j ≡ Some (value_at before (get_or parts j e).0) = body-at (value_at before) parts j e within in
    let value : value_at ds place ≡ x = ap (value_at ds) (sym (here refl)) ∙ read ds j (value_at before (get_or parts j e).0) there ∙ sym is in
    let same : j ≡ place = here refl in
    let room : place < length vs = omega (arith, slice_get_within vs j _ (body-at (value_at (map Some values)) parts j e within)) in
    ap (slice_get (set vs place (value_at ds place))) same ∙ set-same vs place (value_at ds place) room ∙ ap Some value
factor-at values before parts place j e false x here other within inside is =
    set-other (map (value_at (map Some values)) (map number parts)) place j _ (other refl)
    ∙ body-at (value_at (map Some values)) parts j e within
    ∙ ap Some (get_or-map Some values (get_or parts j e).0 0 None inside ∙ sym is)

-- The product at a place, of those with one value replaced.
replaced-after : (f : ℕ) (front vs ds : List (Option ℕ)) (i : ℕ) (d : Option ℕ) → i < length vs → slice_get ds i ≡ Some d → slice_get (replaced_products f front vs ds) i ≡ Some (product_up f (front ++ set vs i d))
replaced-after f front [] ds i d within at = absurd (omega arith)
replaced-after f front (v ∷ vs) [] i d within at = absurd (omega (arith, slice_get_within [] i d at))
replaced-after f front (v ∷ vs) (z ∷ ds) zero d within at = ap (λ w. Some (product_up f (front ++ w ∷ vs))) (same_Some z d at)
replaced-after f front (v ∷ vs) (z ∷ ds) (suc i) d within at =
    replaced-after f (front ++ v ∷ []) vs ds i d (omega arith) at ∙ ap (λ zs. Some (product_up f zs)) (append_assoc front (v ∷ []) (set vs i d))

-- The product at a place i is the upper product of the parts' values, with that of part i replaced
-- by its derivative before.
pub replaced-at : (f : ℕ) (values : List ℕ) (before : List (Option ℕ)) (parts : List ExprId) (i : ℕ) (x : Option ℕ) → i < length parts → x ≡ product_up f (set (map (value_at (map Some values)) (map number parts)) i (value_at (map (value_at before) (map number parts)) i)) → slice_get (replaced_products f [] (map (value_at (map Some values)) (map number parts)) (map (value_at before) (map number parts))) i ≡ Some x
replaced-at f values before parts i x within is =
    let e : ExprId = record { 0 = 0 } in
    let ds = map (value_at before) (map number parts) in
    let vs = map (value_at (map Some values)) (map number parts) in
    let there : slice_get ds i ≡ Some (value_at before (get_or parts i e).0) = body-at (value_at before) parts i e within in
    let room : i < length vs = omega (arith, slice_get_within vs i _ (body-at (value_at (map Some values)) parts i e within)) in
    let whole : slice_get ds i ≡ Some (value_at ds i) = slice_get-get_or ds i None (omega (arith, slice_get_within ds i _ there)) in
    replaced-after f [] vs ds i (value_at ds i) room whole ∙ ap Some (sym is)

pub length-replaced : (f : ℕ) (front vs ds : List (Option ℕ)) → length ds ≡ length vs → length (replaced_products f front vs ds) ≡ length vs
length-replaced f front [] ds same = refl
length-replaced f front (v ∷ vs) [] same = absurd (omega arith)
length-replaced f front (v ∷ vs) (d ∷ ds) same = let rest : length (replaced_products f (front ++ v ∷ []) vs ds) ≡ length vs = length-replaced f (front ++ v ∷ []) vs ds (omega arith) in omega arith

-- There are as many products with one factor replaced as there are parts.
pub length-products : (f : ℕ) (values : List ℕ) (before : List (Option ℕ)) (parts : List ExprId) → length (replaced_products f [] (map (value_at (map Some values)) (map number parts)) (map (value_at before) (map number parts))) ≡ length parts
length-products f values before parts =
    length-replaced f [] (map (value_at (map Some values)) (map number parts)) (map (value_at before) (map number parts)) (length-map (map number parts) (value_at before) ∙ sym (length-map (map number parts) (value_at (map Some values))))
    ∙ length-map (map number parts) (value_at (map Some values)) ∙ length-map parts number

-- The derivative of a counted node, from the slope at its part's value.
pub counted-slope : (kind : Kind) (f : ℕ) (r : Range) (values : List ℕ) (before : List (Option ℕ)) (p : ℕ) (result slope : Option ℕ) → p < length values → slope ≡ slope_up kind f r (slice_index values p) → result ≡ of_both (mul_up f) slope (value_at before p) → result ≡ counted_derivative kind f r (value_at (map Some values) p) (value_at before p)
counted-slope kind f r values before p result slope inside slope_is is =
    is ∙ ap (λ (o : Option ℕ). of_both (mul_up f) o (value_at before p)) (slope_is ∙ sym (ap (option_and_then (slope_up kind f r)) (get_or-map Some values p 0 None inside)))

-- A dual sweep, as the code finds it.
pub dual-found : (t : Setting) (values : List (Option ℕ)) (d : List ℕ) (derivatives : List (Option ℕ)) (bodies : List ℕ) (answer : Option (List ℕ)) → derivatives ≡ derivatives_up t values d → bodies ≡ t.spec.bodies → all_values (map (dual_at derivatives) bodies) ≡ answer → sweep_dual t values d ≡ answer
dual-found t values d derivatives bodies answer derivatives_are bodies_are is =
    sym (ap (λ (us : List (Option ℕ)). all_values (map (dual_at us) t.spec.bodies)) derivatives_are) ∙ sym (ap (λ (bs : List ℕ). all_values (map (dual_at derivatives) bs)) bodies_are) ∙ is

-- All values are there where each is, and not where one is missing.
pub all-there : (us : List (Option ℕ)) → ((c : ℕ) → c < length us → value_at us c ≢ None) → all_values us ≡ Some (map amount us)
all-there [] each = refl
all-there (None ∷ us) each = absurd (each 0 (omega arith) refl)
all-there (Some v ∷ us) each = ap (option_map (λ ws. v ∷ ws)) (all-there us (λ c below. each (suc c) (omega arith)))

-- Where the value at a place within a list is missing, not all values of the list are there.
pub one-missing : (us : List (Option ℕ)) (c : ℕ) → c < length us → value_at us c ≡ None → all_values us ≡ None
one-missing [] c within none = absurd (omega arith)
one-missing (None ∷ us) c within none = refl
one-missing (Some v ∷ us) zero within none = absurd (cc)
one-missing (Some v ∷ us) (suc c) within none = ap (option_map (λ ws. v ∷ ws)) (one-missing us c (omega arith) none)

-- The new number in place of the old one.
abbrev pub replaced : ℕ → Option ℕ → ℕ
replaced old new = amount new

-- Where the new values are as many as the numbers, replacing each number leaves the amounts of the
-- new values.
pub all-replaced : (xs : List ℕ) (us : List (Option ℕ)) → length xs ≡ length us → at_each replaced xs us ≡ map amount us
all-replaced [] [] same = refl
all-replaced [] (u ∷ us) same = absurd (omega arith)
all-replaced (x ∷ xs) [] same = absurd (omega arith)
all-replaced (x ∷ xs) (u ∷ us) same = ap (λ zs. amount u ∷ zs) (all-replaced xs us (omega arith))

-- What the test of a value says.
pub not_there : (o : Option ℕ) → is_some o ≡ false → o ≡ None
not_there None test = refl
not_there (Some v) test = absurd (cc)

-- No optional number is there and missing at once.
pub both_ways : (o : Option ℕ) → is_some o ≡ true → o ≡ None → ⊥
both_ways None test none = cc
both_ways (Some v) test none = cc
