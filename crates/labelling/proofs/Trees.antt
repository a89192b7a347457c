-- Trees of counts: how many nodes and labels they have, and how they are made of their halves.
use Rattle.std.proofs.Common.{◌≡◌, ℕ, zero, suc, ◌+◌, ◌-◌, ◌*◌, ◌^◌, ◌<◌, ◌≤◌, List, [], ◌∷◌, ◌++◌, length, take, drop, slice_index, refl, sym, ap, subst, ◌∙◌, arith, length-append, append-nil, min}
use Rattle.std.proofs.Math.Seq.{take-append_seam, drop-append_seam}
use Rattle.std.proofs.lemmas.List.{length-replicate, get_or_append_left, get_or-append_right}
use Rattle.std.proofs.lemmas.Nat.{pow_pos}
use Rattle.bz_model.specs.Labels.{numbers_from}
use Rattle.labelling.specs.Tree.{nodes_in, count_of, left_of, right_of, labels_of, AddsUp, IsCountTree}

-- a tree has one node less than twice its leaves
pub nodes-leaves : (h : ℕ) → nodes_in h + 1 ≡ 2 * 2 ^ h
nodes-leaves zero = refl
nodes-leaves (suc h) = let ih : nodes_in h + 1 ≡ 2 * 2 ^ h = nodes-leaves h in omega arith

-- A tree of any height has at least one node.
pub nodes-some : (h : ℕ) → 0 < nodes_in h
nodes-some h = let n = nodes-leaves h in let w : 0 < 2 ^ h = pow_pos h in omega arith

-- the labels are as many as the tree counts
pub length-adding : (h : ℕ) (counts : List ℕ) (first : ℕ) → AddsUp h counts → length (labels_of h counts first) ≡ count_of counts
length-adding zero counts first few = length-replicate (count_of counts) first
length-adding (suc h) counts first sums =
    length-append (labels_of h (left_of h counts) first) (labels_of h (right_of h counts) (first + 2 ^ h))
    ∙ ap (λ n. n + length (labels_of h (right_of h counts) (first + 2 ^ h))) (length-adding h (left_of h counts) first sums.1)
    ∙ ap (λ n. count_of (left_of h counts) + n) (length-adding h (right_of h counts) (first + 2 ^ h) sums.2)
    ∙ sym sums.0

-- As many labels remain in a tree of counts as its own node counts.
pub length-labels : (h : ℕ) (counts : List ℕ) (first : ℕ) → IsCountTree h counts → length (labels_of h counts first) ≡ count_of counts
length-labels h counts first tree = length-adding h counts first tree.adds_up

-- A list of counts is a root before the nodes of two halves.
pub record IsFork (h height : ℕ) (counts root left right : List ℕ) : Type 0 where
  pub above : height ≡ suc h
  pub whole : counts ≡ root ++ (left ++ right)
  pub one : length root ≡ 1
  pub left_nodes : length left ≡ nodes_in h
  pub right_nodes : length right ≡ nodes_in h

-- the halves of a root before two lists
left-of : (h : ℕ) (root left right : List ℕ) → length root ≡ 1 → length left ≡ nodes_in h → left_of h (root ++ (left ++ right)) ≡ left
left-of h [] left right one nodes = absurd (cc)
left-of h (r ∷ []) left right one nodes = ap (λ n. take n (left ++ right)) (sym nodes) ∙ take-append_seam left right
left-of h (r ∷ s ∷ rs) left right one nodes = absurd (omega arith)

right-of : (h : ℕ) (root left right : List ℕ) → length root ≡ 1 → length left ≡ nodes_in h → right_of h (root ++ (left ++ right)) ≡ right
right-of h [] left right one nodes = absurd (cc)
right-of h (r ∷ []) left right one nodes = ap (λ n. drop n (left ++ right)) (sym nodes) ∙ drop-append_seam left right
right-of h (r ∷ s ∷ rs) left right one nodes = absurd (omega arith)

count-of : (root halves : List ℕ) → length root ≡ 1 → count_of (root ++ halves) ≡ slice_index root 0
count-of [] halves one = absurd (cc)
count-of (r ∷ rs) halves one = refl

module _ {h height : ℕ} {counts root left right : List ℕ} (fork : IsFork h height counts root left right) where
  left-is : left_of h counts ≡ left
  left-is = ap (left_of h) fork.whole ∙ left-of h root left right fork.one fork.left_nodes

  right-is : right_of h counts ≡ right
  right-is = ap (right_of h) fork.whole ∙ right-of h root left right fork.one fork.left_nodes

  pub fork-count : count_of counts ≡ slice_index root 0
  fork-count = ap count_of fork.whole ∙ count-of root (left ++ right) fork.one

  pub fork-labels : (first : ℕ) → labels_of height counts first ≡ labels_of h left first ++ labels_of h right (first + 2 ^ h)
  fork-labels first =
      ap (λ n. labels_of n counts first) fork.above
      ∙ ap (λ l. labels_of h l first ++ labels_of h (right_of h counts) (first + 2 ^ h)) left-is
      ∙ ap (λ r. labels_of h left first ++ labels_of h r (first + 2 ^ h)) right-is

  -- a tree is that of its halves
  adding : IsCountTree height counts → AddsUp (suc h) counts
  adding tree = subst (λ n. AddsUp n counts) fork.above tree.adds_up

  pub fork-left : IsCountTree height counts → IsCountTree h left
  fork-left tree = record { nodes = fork.left_nodes; adds_up = subst (AddsUp h) left-is (adding tree).1 }

  pub fork-right : IsCountTree height counts → IsCountTree h right
  fork-right tree = record { nodes = fork.right_nodes; adds_up = subst (AddsUp h) right-is (adding tree).2 }

  pub fork-sum : IsCountTree height counts → count_of counts ≡ count_of left + count_of right
  fork-sum tree = (adding tree).0 ∙ ap (λ l. count_of l + count_of (right_of h counts)) left-is ∙ ap (λ r. count_of left + count_of r) right-is

  fork-nodes : length counts ≡ nodes_in height
  fork-nodes =
      ap length fork.whole ∙ length-append root (left ++ right) ∙ ap (λ n. n + length (left ++ right)) fork.one
      ∙ ap (λ n. 1 + n) (length-append left right ∙ ap (λ n. n + length right) fork.left_nodes ∙ ap (λ n. nodes_in h + n) fork.right_nodes)
      ∙ sym (ap nodes_in fork.above)

  pub fork-tree : IsCountTree h left → IsCountTree h right → slice_index root 0 ≡ count_of left + count_of right → IsCountTree height counts
  fork-tree l r sum = record {
    nodes = fork-nodes;
    adds_up = subst (λ n. AddsUp n counts) (sym fork.above) (
      fork-count ∙ sum ∙ sym (ap (λ x. count_of x + count_of (right_of h counts)) left-is ∙ ap (λ x. count_of left + count_of x) right-is),
      subst (AddsUp h) (sym left-is) l.adds_up,
      subst (AddsUp h) (sym right-is) r.adds_up,
    );
  }

-- The numbers from a on, taken in two parts.
pub numbers-parts : (a m n : ℕ) → numbers_from a m ++ numbers_from (a + m) n ≡ numbers_from a (m + n)
numbers-parts a zero n = let e : a + 0 ≡ a = omega arith in let f : 0 + n ≡ n = omega arith in ap (λ x. numbers_from x n) e ∙ ap (numbers_from a) (sym f)
numbers-parts a (suc m) n =
    let e : a + suc m ≡ suc a + m = omega arith in
    let f : suc m + n ≡ suc (m + n) = omega arith in
    ap (λ x. a ∷ (numbers_from (suc a) m ++ numbers_from x n)) e ∙ ap (λ xs. a ∷ xs) (numbers-parts (suc a) m n) ∙ ap (numbers_from a) (sym f)

-- the first w of the numbers, or all where they are fewer, and the others from the w-th on
numbers-rest : (a w in_left rest : ℕ) → (0 < rest → in_left ≡ w) → numbers_from a in_left ++ numbers_from (a + w) rest ≡ numbers_from a (in_left + rest)
numbers-rest a w in_left zero full = let e : in_left + 0 ≡ in_left = omega arith in append-nil (numbers_from a in_left) ∙ ap (numbers_from a) (sym e)
numbers-rest a w in_left (suc rest) full = let e : in_left ≡ w = full (omega arith) in ap (λ x. numbers_from a in_left ++ numbers_from (a + x) (suc rest)) (sym e) ∙ numbers-parts a in_left (suc rest)

-- The lesser of n and w numbers from a on, followed by the rest of n from a + w on, are the n
-- numbers from a on.
pub numbers-halves : (a w n in_left : ℕ) → in_left ≡ min n w → numbers_from a in_left ++ numbers_from (a + w) (n - in_left) ≡ numbers_from a n
numbers-halves a w n in_left is =
    let all : in_left + (n - in_left) ≡ n = omega arith in
    numbers-rest a w in_left (n - in_left) (λ some. omega arith) ∙ ap (numbers_from a) all

-- a height above 0 is one above the height of its halves, with twice their leaves, and a node more than they have together
pub height-above : (height : ℕ) → 0 < height → height ≡ suc (height - 1)
height-above height some = omega arith

-- A tree of positive height has twice as many leaves as one of height one less.
pub leaves-above : (height : ℕ) → 0 < height → 2 ^ height ≡ 2 ^ (height - 1) + 2 ^ (height - 1)
leaves-above height some = ap (λ n. 2 ^ n) (height-above height some) ∙ (let e : 2 ^ suc (height - 1) ≡ 2 ^ (height - 1) + 2 ^ (height - 1) = omega arith in e)

pub nodes-above : (height : ℕ) → 0 < height → nodes_in height ≡ 1 + (nodes_in (height - 1) + nodes_in (height - 1))
nodes-above height some = ap nodes_in (height-above height some)

-- what the halves have at a place, and what they leave without it
pub at-left : (xs ys : List ℕ) (i : ℕ) → i < length xs → slice_index (xs ++ ys) i ≡ slice_index xs i
at-left xs ys i within = get_or_append_left xs ys 0 i within

-- Past the end of a list xs of length n, the place i of xs followed by ys is the place i - n of ys.
pub at-right : (xs ys : List ℕ) (n i : ℕ) → length xs ≡ n → n ≤ i → slice_index (xs ++ ys) i ≡ slice_index ys (i - n)
at-right xs ys n i is past = get_or-append_right xs ys n i 0 is past

-- a list of counts that is taken apart is a fork
pub fork-of : (height : ℕ) (counts root halves left right : List ℕ) (nodes : ℕ) → 0 < height → length counts ≡ nodes_in height → counts ≡ root ++ halves → length root ≡ 1 → length halves + 1 ≡ length counts → halves ≡ left ++ right → length left ≡ nodes → length right + nodes ≡ length halves → nodes ≡ nodes_in (height - 1) → IsFork (height - 1) height counts root left right
fork-of height counts root halves left right nodes some all whole one rest parts l r is =
    let n = nodes-above height some in
    record { above = height-above height some; whole = whole ∙ ap (λ xs. root ++ xs) parts; one = one; left_nodes = l ∙ is; right_nodes = omega arith }
