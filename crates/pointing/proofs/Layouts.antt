-- What is laid out after one more node.
use Rattle.std.proofs.Common.{◌≡◌, ℕ, zero, suc, ◌+◌, ◌-◌, ◌≤◌, ◌<◌, List, [], ◌∷◌, ◌++◌, take, drop, map, length, replicate, arith, refl, sym, ◌∙◌, ap, subst, append_assoc, append-nil, length-append}
use Rattle.std.specs.Prelude.{Result, Ok, Err, OnOk, IfOk}
use Rattle.std.proofs.lemmas.List.{take_all, length-map}
use Rattle.class_system.specs.Views.{number}
use Rattle.class_system.specs.declared.ids.ExprId.{ExprId}
use Rattle.bz_model.specs.Spec.{Node, plain_range}
use Rattle.class_system.specs.Drafting.{with_node}
use Rattle.pointing.specs.Forms.{Form, Forms, parts_from}
use Rattle.pointing.specs.LaidOut.{below, all_nodes, top, tops, laid, laid_each, plain}
use Rattle.pointing.specs.Building.{Layout, IsLayout, put_together, union_of_last}
use Rattle.pointing.proofs.Laying.{length-laid, length-laid-each}

-- As many nodes as both lists have.
pub nodes-append : (xs ys : List Form) → all_nodes (parts_from (xs ++ ys)) ≡ all_nodes (parts_from xs) + all_nodes (parts_from ys)
nodes-append [] ys = omega arith
nodes-append (x ∷ xs) ys = let e = nodes-append xs ys in omega arith

-- The nodes of one list and those of another after it.
pub laid-append : (first second : ℕ) (xs ys : List Form) → second ≡ first + all_nodes (parts_from xs) → laid_each first (parts_from (xs ++ ys)) ≡ laid_each first (parts_from xs) ++ laid_each second (parts_from ys)
laid-append first second [] ys e = ap (λ k. laid_each k (parts_from ys)) (let f : first ≡ second = omega arith in f)
laid-append first second (x ∷ xs) ys e =
    ap (λ zs. laid first x ++ zs) (laid-append (suc (top first x)) second xs ys (omega arith)) ∙ sym (append_assoc (laid first x) (laid_each (suc (top first x)) (parts_from xs)) (laid_each second (parts_from ys)))

pub tops-append : (first second : ℕ) (xs ys : List Form) → second ≡ first + all_nodes (parts_from xs) → tops first (parts_from (xs ++ ys)) ≡ tops first (parts_from xs) ++ tops second (parts_from ys)
tops-append first second [] ys e = ap (λ k. tops k (parts_from ys)) (let f : first ≡ second = omega arith in f)
tops-append first second (x ∷ xs) ys e = ap (λ zs. top first x ∷ zs) (tops-append (suc (top first x)) second xs ys (omega arith))

pub tops-count : (first : ℕ) (xs : List Form) → length (tops first (parts_from xs)) ≡ length xs
tops-count first [] = refl
tops-count first (x ∷ xs) = ap suc (tops-count (suc (top first x)) xs)

-- A list is its front and its rest.
pub front-rest : {A : Type 0} (k : ℕ) (xs : List A) → xs ≡ take k xs ++ drop k xs
front-rest zero xs = refl
front-rest (suc k) [] = refl
front-rest (suc k) (x ∷ xs) = ap (λ zs. x ∷ zs) (front-rest k xs)

-- The front and the rest of two lists, one after the other.
pub take-front : {A : Type 0} (k : ℕ) (xs ys : List A) → k ≡ length xs → take k (xs ++ ys) ≡ xs
take-front k [] ys e = ap (λ n. take n ys) e
take-front zero (x ∷ xs) ys e = absurd (omega arith)
take-front (suc k) (x ∷ xs) ys e = ap (λ zs. x ∷ zs) (take-front k xs ys (omega arith))

-- Dropping as many elements as a first list has, from that list and another behind it, leaves the
-- other.
pub drop-front : {A : Type 0} (k : ℕ) (xs ys : List A) → k ≡ length xs → drop k (xs ++ ys) ≡ ys
drop-front k [] ys e = ap (λ n. drop n ys) e
drop-front zero (x ∷ xs) ys e = absurd (omega arith)
drop-front (suc k) (x ∷ xs) ys e = drop-front k xs ys (omega arith)

pub replicate-append : {A : Type 0} (a : A) (m n : ℕ) → replicate (m + n) a ≡ replicate m a ++ replicate n a
replicate-append a zero n = ap (λ k. replicate k a) (let e : 0 + n ≡ n = omega arith in e)
replicate-append a (suc m) n = ap (λ k. replicate k a) (let e : suc m + n ≡ suc (m + n) = omega arith in e) ∙ ap (λ zs. a ∷ zs) (replicate-append a m n)

-- The last forms, whose nodes are laid out behind others, become one form with one node more.
pub layout-close : (names : List (List ℕ)) (front rest : List Form) (g : Form) (n : Node) (before after : Layout)
    → IsLayout names (front ++ rest) before
    → laid (all_nodes (parts_from front)) g ≡ laid_each (all_nodes (parts_from front)) (parts_from rest) ++ n ∷ []
    → plain_range n ≡ plain
    → after.draft ≡ with_node before.draft n (plain_range n)
    → after.numbers ≡ tops 0 (parts_from front) ++ length before.draft.nodes ∷ []
    → IsLayout names (front ++ g ∷ []) after
layout-close names front rest g n before after is shape ranged added numbered = record {
  unlabelled = ap (λ d. d.mode) added ∙ is.unlabelled;
  named = ap (λ d. d.names) added ∙ is.named;
  no_bodies = ap (λ d. d.bodies) added ∙ is.no_bodies;
  nodes = ap (λ d. d.nodes) added ∙ ap (λ zs. zs ++ n ∷ []) (is.nodes ∙ laid-append 0 k front rest (omega arith)) ∙ append_assoc (laid_each 0 (parts_from front)) (laid_each k (parts_from rest)) (n ∷ []) ∙ ap (λ zs. laid_each 0 (parts_from front) ++ zs) (sym shape ∙ sym (append-nil (laid k g))) ∙ sym (laid-append 0 k front (g ∷ []) (omega arith));
  ranges = ap (λ d. d.ranges) added ∙ ap (λ zs. zs ++ plain_range n ∷ []) is.ranges ∙ ap (λ r. replicate (all_nodes (parts_from (front ++ rest))) plain ++ r ∷ []) ranged ∙ sym (replicate-append plain (all_nodes (parts_from (front ++ rest))) 1) ∙ ap (λ m. replicate m plain) (let a = nodes-append front rest in let b = nodes-append front (g ∷ []) in let t = one_more in same_count a b t);
  numbered = numbered ∙ ap (λ z. tops 0 (parts_from front) ++ z ∷ []) (ap length is.nodes ∙ length-laid-each 0 (parts_from (front ++ rest)) ∙ (let a = nodes-append front rest in same_top a one_more)) ∙ sym (tops-append 0 k front (g ∷ []) (omega arith));
}
  where
    k : ℕ
    k = all_nodes (parts_from front)

    one_more : below g ≡ all_nodes (parts_from rest)
    one_more =
        let a = length-laid k g in
        let b : length (laid k g) ≡ length (laid_each k (parts_from rest) ++ n ∷ []) = ap length shape in
        let d = length-append (laid_each k (parts_from rest)) (n ∷ []) in
        let e = length-laid-each k (parts_from rest) in
        omega arith

    same_count : all_nodes (parts_from (front ++ rest)) ≡ all_nodes (parts_from front) + all_nodes (parts_from rest) → all_nodes (parts_from (front ++ g ∷ [])) ≡ all_nodes (parts_from front) + all_nodes (parts_from (g ∷ [])) → below g ≡ all_nodes (parts_from rest) → all_nodes (parts_from (front ++ rest)) + 1 ≡ all_nodes (parts_from (front ++ g ∷ []))
    same_count a b t = omega arith

    same_top : all_nodes (parts_from (front ++ rest)) ≡ all_nodes (parts_from front) + all_nodes (parts_from rest) → below g ≡ all_nodes (parts_from rest) → all_nodes (parts_from (front ++ rest)) ≡ all_nodes (parts_from front) + below g
    same_top a t = omega arith

-- A leaf more.
pub layout-leaf : (names : List (List ℕ)) (fs : List Form) (f : Form) (n : Node) (before after : Layout) → IsLayout names fs before → ((first : ℕ) → laid first f ≡ n ∷ []) → plain_range n ≡ plain
    → after.draft ≡ with_node before.draft n (plain_range n) → after.numbers ≡ before.numbers ++ length before.draft.nodes ∷ [] → IsLayout names (fs ++ f ∷ []) after
layout-leaf names fs f n before after is shape ranged added numbered =
    layout-close names fs [] f n before after (subst (λ z. IsLayout names z before) (sym (append-nil fs)) is) (shape (all_nodes (parts_from fs))) ranged added (numbered ∙ ap (λ zs. zs ++ length before.draft.nodes ∷ []) is.numbered)

-- The numbers of the last forms, and of those before them.
pub numbers-split : (names : List (List ℕ)) (fs : List Form) (l : Layout) (k : ℕ) → IsLayout names fs l → k ≤ length fs → (drop k l.numbers ≡ tops (all_nodes (parts_from (take k fs))) (parts_from (drop k fs))) × (take k l.numbers ≡ tops 0 (parts_from (take k fs)))
numbers-split names fs l k is le = (
  ap (drop k) whole ∙ drop-front k (tops 0 (parts_from (take k fs))) (tops (all_nodes (parts_from (take k fs))) (parts_from (drop k fs))) long,
  ap (take k) whole ∙ take-front k (tops 0 (parts_from (take k fs))) (tops (all_nodes (parts_from (take k fs))) (parts_from (drop k fs))) long,
)
  where
    whole : l.numbers ≡ tops 0 (parts_from (take k fs)) ++ tops (all_nodes (parts_from (take k fs))) (parts_from (drop k fs))
    whole = is.numbered ∙ ap (λ z. tops 0 (parts_from z)) (front-rest k fs) ∙ tops-append 0 (all_nodes (parts_from (take k fs))) (take k fs) (drop k fs) (omega arith)

    long : k ≡ length (tops 0 (parts_from (take k fs)))
    long = sym (tops-count 0 (take k fs) ∙ taken k fs le)
      where
        taken : (j : ℕ) (xs : List Form) → j ≤ length xs → length (take j xs) ≡ j
        taken zero xs h = refl
        taken (suc j) [] h = absurd (omega arith)
        taken (suc j) (x ∷ xs) h = ap suc (taken j xs (omega arith))

pub as-many : (names : List (List ℕ)) (fs : List Form) (l : Layout) → IsLayout names fs l → length l.numbers ≡ length fs
as-many names fs l is = ap length is.numbered ∙ tops-count 0 fs

-- The last forms become one, with a node of their numbers.
pub layout-joined : (of : List ℕ → Node) (form : Forms → Form) → ((first : ℕ) (gs : Forms) → laid first (form gs) ≡ laid_each first gs ++ of (tops first gs) ∷ []) → ((ps : List ℕ) → plain_range (of ps) ≡ plain)
    → (names : List (List ℕ)) (fs : List Form) (n : ℕ) (before after : Layout) (ps : List ℕ) → IsLayout names fs before
    → ps ≡ drop (length before.numbers - n) before.numbers
    → after.draft ≡ with_node before.draft (of ps) (plain_range (of ps))
    → after.numbers ≡ take (length before.numbers - n) before.numbers ++ length before.draft.nodes ∷ []
    → IsLayout names (put_together (λ gs. form (parts_from gs) ∷ []) n fs) after
layout-joined of form shape ranged names fs n before after ps is parts added numbered =
    layout-close names (take k fs) (drop k fs) (form (parts_from (drop k fs))) (of ps) before after
    (subst (λ z. IsLayout names z before) (front-rest k fs) is)
    (shape (all_nodes (parts_from (take k fs))) (parts_from (drop k fs)) ∙ ap (λ qs. laid_each (all_nodes (parts_from (take k fs))) (parts_from (drop k fs)) ++ of qs ∷ []) (sym (parts ∙ ap (λ j. drop j before.numbers) same ∙ split.0)))
    (ranged ps) added (numbered ∙ ap (λ zs. zs ++ length before.draft.nodes ∷ []) (ap (λ j. take j before.numbers) same ∙ split.1))
  where
    k : ℕ
    k = length fs - n

    same : length before.numbers - n ≡ k
    same = ap (λ j. j - n) (as-many names fs before is)

    split : (drop k before.numbers ≡ tops (all_nodes (parts_from (take k fs))) (parts_from (drop k fs))) × (take k before.numbers ≡ tops 0 (parts_from (take k fs)))
    split = numbers-split names fs before k is (omega arith)

-- The last form becomes the sequence of it.
pub layout-seq : (names : List (List ℕ)) (fs : List Form) (before after : Layout) (part : ℕ) (numbers : List ℕ) → IsLayout names fs before → before.numbers ≡ numbers ++ part ∷ []
    → after.draft ≡ with_node before.draft (Node.Seq part) (plain_range (Node.Seq part)) → after.numbers ≡ numbers ++ length before.draft.nodes ∷ [] → IsLayout names (put_together (map Form.Seq) 1 fs) after
layout-seq names fs before after part numbers is popped added numbered = finish (drop k fs) refl
  where
    k : ℕ
    k = length fs - 1

    long : length numbers + 1 ≡ length fs
    long = sym (length-append numbers (part ∷ [])) ∙ ap length (sym popped) ∙ as-many names fs before is

    split : (drop k before.numbers ≡ tops (all_nodes (parts_from (take k fs))) (parts_from (drop k fs))) × (take k before.numbers ≡ tops 0 (parts_from (take k fs)))
    split = numbers-split names fs before k is (omega arith)

    last : part ∷ [] ≡ drop k before.numbers
    last = sym (ap (drop k) popped ∙ drop-front k numbers (part ∷ []) (let l = long in omega arith))

    front : numbers ≡ take k before.numbers
    front = sym (ap (take k) popped ∙ take-front k numbers (part ∷ []) (let l = long in omega arith))

    finish : (rest : List Form) → drop k fs ≡ rest → IsLayout names (put_together (map Form.Seq) 1 fs) after
    finish [] e = absurd (let z : part ∷ [] ≡ tops (all_nodes (parts_from (take k fs))) (parts_from (drop k fs)) = last ∙ split.0 in let y : tops (all_nodes (parts_from (take k fs))) (parts_from (drop k fs)) ≡ [] = ap (λ r. tops (all_nodes (parts_from (take k fs))) (parts_from r)) e in cc)
    finish (f ∷ []) e =
        let at : part ∷ [] ≡ top (all_nodes (parts_from (take k fs))) f ∷ [] = last ∙ split.0 ∙ ap (λ r. tops (all_nodes (parts_from (take k fs))) (parts_from r)) e in
        let here : part ≡ top (all_nodes (parts_from (take k fs))) f = cc in
        subst (λ r. IsLayout names (take k fs ++ map Form.Seq r) after) (sym e)
        (layout-close names (take k fs) (f ∷ []) (Form.Seq f) (Node.Seq part) before after
        (subst (λ z. IsLayout names z before) (front-rest k fs ∙ ap (λ r. take k fs ++ r) e) is)
        (ap (λ zs. zs ++ Node.Seq (top (all_nodes (parts_from (take k fs))) f) ∷ []) (sym (append-nil (laid (all_nodes (parts_from (take k fs))) f))) ∙ ap (λ p. laid_each (all_nodes (parts_from (take k fs))) (parts_from (f ∷ [])) ++ Node.Seq p ∷ []) (sym here))
        refl added (numbered ∙ ap (λ zs. zs ++ length before.draft.nodes ∷ []) (front ∙ split.1)))
    finish (f ∷ g ∷ rest) e = absurd (let z : length (drop k fs) ≡ length (f ∷ g ∷ rest) = ap length e in
        let y : length (drop k before.numbers) ≡ length (tops (all_nodes (parts_from (take k fs))) (parts_from (drop k fs))) = ap length split.0 in
        let x = tops-count (all_nodes (parts_from (take k fs))) (drop k fs) in
        let w : length (part ∷ []) ≡ length (drop k before.numbers) = ap length last in omega arith)

-- Nothing is put together where no form is there.
pub layout-none : (names : List (List ℕ)) (fs : List Form) (before after : Layout) → IsLayout names fs before → after.draft ≡ before.draft → before.numbers ≡ after.numbers → before.numbers ≡ [] → IsLayout names (put_together (map Form.Seq) 1 fs) after
layout-none names fs before after is drafted numbered empty = record {
  unlabelled = ap (λ d. d.mode) drafted ∙ is.unlabelled;
  named = ap (λ d. d.names) drafted ∙ is.named;
  no_bodies = ap (λ d. d.bodies) drafted ∙ is.no_bodies;
  nodes = ap (λ d. d.nodes) drafted ∙ is.nodes ∙ ap (λ z. laid_each 0 (parts_from z)) alone;
  ranges = ap (λ d. d.ranges) drafted ∙ is.ranges ∙ ap (λ z. replicate (all_nodes (parts_from z)) plain) alone;
  numbered = sym numbered ∙ is.numbered ∙ ap (λ z. tops 0 (parts_from z)) alone;
}
  where
    none : (xs : List Form) → length xs ≡ 0 → xs ≡ put_together (map Form.Seq) 1 xs
    none [] e = refl
    none (x ∷ xs) e = absurd (omega arith)

    alone : fs ≡ put_together (map Form.Seq) 1 fs
    alone = none fs (sym (as-many names fs before is) ∙ ap length empty)

-- A choice of one form or none is as it was, and one of more is their union.
pub choice-few : (n : ℕ) (fs : List Form) → n < 2 → union_of_last n fs ≡ fs
choice-few zero fs few = refl
choice-few (suc zero) fs few = refl
choice-few (suc (suc n)) fs few = absurd (omega arith)

-- A choice of n forms, where n is at least 2, puts the last n forms together as one union.
pub choice-many : (n : ℕ) (fs : List Form) → 2 ≤ n → union_of_last n fs ≡ put_together (λ gs. Form.Union (parts_from gs) ∷ []) n fs
choice-many zero fs many = absurd (omega arith)
choice-many (suc zero) fs many = absurd (omega arith)
choice-many (suc (suc n)) fs many = refl

-- What follows from two facts of a success.
pub on-both : {T E P Q R : Type 0} (r : Result T E) → OnOk r P → OnOk r Q → (P → Q → R) → OnOk r R
on-both (Ok t) p q f = f p q
on-both (Err e) p q f = tt

map-drop : {A B : Type 0} (f : A → B) (k : ℕ) (xs : List A) → map f (drop k xs) ≡ drop k (map f xs)
map-drop f zero xs = refl
map-drop f (suc k) [] = refl
map-drop f (suc k) (x ∷ xs) = map-drop f k xs

map-take : {A B : Type 0} (f : A → B) (k : ℕ) (xs : List A) → map f (take k xs) ≡ take k (map f xs)
map-take f zero xs = refl
map-take f (suc k) [] = refl
map-take f (suc k) (x ∷ xs) = ap (λ zs. f x ∷ zs) (map-take f k xs)

-- The last numbers, taken one after the other.
pub last-numbers : (all items parts : List ExprId) (old : List ℕ) (first n index : ℕ) → map number all ≡ old → first ≡ length all - n → items ≡ drop first all → length items ≤ index → parts ≡ take index items → map number parts ≡ drop (length old - n) old
last-numbers all items parts old first n index same start is past so_far =
    ap (map number) (so_far ∙ take_all index items past ∙ is) ∙ map-drop number first all ∙ ap (drop first) same ∙ ap (λ k. drop k old) (start ∙ ap (λ k. k - n) (sym (length-map all number) ∙ ap length same))

-- The first nodes of a list, without its last n, have the numbers that stand before the last n
-- numbers.
pub first-numbers : (all front : List ExprId) (old : List ℕ) (first n : ℕ) → map number all ≡ old → first ≡ length all - n → front ≡ take first all → map number front ≡ take (length old - n) old
first-numbers all front old first n same start is =
    ap (map number) is ∙ map-take number first all ∙ ap (take first) same ∙ ap (λ k. take k old) (start ∙ ap (λ k. k - n) (sym (length-map all number) ∙ ap length same))

-- Where a property holds of what a success gives and implies another, the other holds of it too.
pub if-ok : {T E : Type 0} {P Q : T → Type 0} (r : Result T E) → IfOk r P → ((t : T) → P t → Q t) → IfOk r Q
if-ok (Ok t) p f = f t p
if-ok (Err e) p f = tt
