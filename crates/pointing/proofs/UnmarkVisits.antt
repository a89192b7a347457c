-- What a visit shows of a marked object is read, kind by kind.
use Rattle.std.proofs.Common.{◌≡◌, ◌≢◌, ℕ, suc, ◌+◌, ◌-◌, List, [], ◌∷◌, ◌++◌, length, arith, refl, sym, ◌∙◌, ap, subst, append_assoc, Some, slice_get}
use Rattle.bz_model.specs.Spec.{Spec, Node, node_at}
use Rattle.bz_model.specs.Object.{Objects, none, more, count}
use Rattle.bz_model.specs.Object.Object.{Dot, Pick, Tuple, SeqOf}
use Rattle.bz_model.specs.Measures.{sizes}
use Rattle.class_system.specs.declared.ids.ExprId.{ExprId}
use Rattle.object_store.specs.declared.token.Token.{Token}
use Rattle.object_store.specs.declared.token.Token.TheVariants as token
use Rattle.object_store.specs.declared.visit.Visit.{Visit}
use Rattle.object_store.specs.Seen.{nodes_below, parts_at}
use Rattle.object_store.specs.Tokens.{tokens_of, tokens_all, size_of}
use Rattle.object_store.specs.Waiting.{joined, Shows, ShowsClass, ShowsTuple, ShowsLeaf, ShowsPick, ShowsList}
use Rattle.object_store.proofs.Sizes.{size_of-append, size_of-all}
use Rattle.pointing.specs.Atoms.{is_atomic_node}
use Rattle.pointing.specs.Correspondence.{IsPointable}
use Rattle.pointing.specs.Marking.{MarksOne, choices}
use Rattle.pointing.specs.Writing.{token_at}
use Rattle.pointing.specs.Unmarking.{due_copies, CopiesObjects, Unmarks, UnmarksTuple, UnmarksSplit, ReadsLast, ReadsDue, Unmarking, ReadsOn, ReadsTo}
use Rattle.pointing.specs.declared.dues.Due.{Due}
use Rattle.pointing.specs.declared.dues.Due.TheVariants as due
use Rattle.pointing.proofs.Marked.{at-node}
use Rattle.pointing.proofs.Searches.{as-many}
use Rattle.pointing.proofs.Copying.{below-shown}
use Rattle.pointing.proofs.UnmarkSteps.{passes-all, IsPlace, from-pick, from-choice, from-tuple, parted, put-due, put-dues, tuple-reads}

module _ (s p : Spec) (whole : List Token) (atom : ℕ) (ds : List Due) (told : ℕ) (w : List Token) (e : ℕ) (es : List ℕ) (os : Objects) (ts : List Token) (fs : List ℕ) (us : List Token) (now : Unmarking) where
  read-now : (dues : List Due) (t : ℕ) (tokens : List Token) (objects : Objects) → now.dues ≡ dues → now.told ≡ t → now.written ≡ tokens → ReadsDue s whole atom dues t objects tokens → ReadsOn s whole atom now objects
  read-now dues t tokens objects a b c h =
      subst (λ z. ReadsDue s whole atom z now.told objects now.written) (sym a)
      (subst (λ z. ReadsDue s whole atom dues z objects now.written) (sym b)
      (subst (λ z. ReadsDue s whole atom dues t objects z) (sym c) h))

  -- objects that stay as they are
  pub copied-read : (v : Visit) (k n : ℕ) → k ≡ length (nodes_below p e v) → now.dues ≡ due_copies k ++ (due_copies n ++ ds) → now.told ≡ told → now.written ≡ w ++ token_at v → Shows p e es os ts v fs us → CopiesObjects (suc n) (ReadsDue s whole atom ds told) os w → ReadsTo s p whole atom now fs us
  copied-read v k n many a b c shows h =
      let d = below-shown p e es os ts v fs us shows in
      let one : CopiesObjects n (ReadsDue s whole atom ds told) d.others (w ++ tokens_of d.object) = subst (λ z. CopiesObjects (suc n) (ReadsDue s whole atom ds told) z w) d.first h in
      let rest : CopiesObjects n (ReadsDue s whole atom ds told) d.others ((w ++ token_at v) ++ tokens_all d.members) = subst (CopiesObjects n (ReadsDue s whole atom ds told) d.others) (ap (λ z. w ++ z) d.spelled ∙ sym (append_assoc w (token_at v) (tokens_all d.members))) one in
      let so_many : count d.members ≡ k = sym d.each ∙ d.many ∙ sym many in
      record {
        objects = joined d.members d.others;
        waits = d.waits;
        reads = read-now (due_copies k ++ (due_copies n ++ ds)) told (w ++ token_at v) (joined d.members d.others) a b c
            (put-dues s whole atom ds k n told (joined d.members d.others) (w ++ token_at v)
            (subst (λ m. CopiesObjects m (CopiesObjects n (ReadsDue s whole atom ds told)) (joined d.members d.others) (w ++ token_at v)) so_many (passes-all (CopiesObjects n (ReadsDue s whole atom ds told)) d.members d.others (w ++ token_at v) rest)));
      }

  pub class-read : (body : ℕ) → ShowsClass p e es os ts body fs us → ReadsOn s whole atom now os → ReadsTo s p whole atom now fs us
  class-read body k h = record { objects = os; waits = k.waits; reads = h }

  pub atom-read : (node : ExprId) (word : List ℕ) (t : Token) → node_at s node.0 ≡ Some (Node.Atom word) → now.dues ≡ ds → now.told ≡ size_of w → now.written ≡ w ++ token.Dot ∷ [] → ShowsLeaf Node.Atom Dot t p e es os ts fs us → ReadsDue s whole atom (due.Marked node ∷ ds) told os w → ReadsTo s p whole atom now fs us
  atom-read node word t at a b c k h =
      let m : Unmarks s node.0 (ReadsDue s whole atom ds) Dot k.others w = subst (λ z. ReadsDue s whole atom (due.Marked node ∷ ds) told z w) k.is_leaf h in
      let r = at-node s (is_atomic_node s) (Node.Atom word) at m.marks in
      let here : size_of w + m.atom ≡ size_of w = (let f = r.1 in omega arith) in
      record {
        objects = k.others;
        waits = k.waits;
        reads = read-now ds (size_of w) (w ++ token.Dot ∷ []) k.others a b c
            (subst (λ n. ReadsDue s whole atom ds n k.others (w ++ token.Dot ∷ [])) here
            (subst (λ z. ReadsDue s whole atom ds (size_of w + m.atom) k.others (w ++ tokens_of z)) r.0 m.rest));
      }

  pub pick-read : IsPointable s → (node : ExprId) (ps : List ℕ) (choice place part : ℕ) (to : ExprId) → node_at s node.0 ≡ Some (Node.Union ps) → choices (is_atomic_node s) ps ≢ 1 → IsPlace s ps choice place to.0 → now.dues ≡ due.Marked to ∷ ds → now.told ≡ told → now.written ≡ w ++ token.Pick place ∷ [] → ShowsPick p e es os ts choice part fs us → ReadsDue s whole atom (due.Marked node ∷ ds) told os w → ReadsTo s p whole atom now fs us
  pick-read able node ps choice place part to at ne is a b c k h =
      let m : Unmarks s node.0 (ReadsDue s whole atom ds) (Pick choice k.object) k.others w = subst (λ z. ReadsDue s whole atom (due.Marked node ∷ ds) told z w) k.is_pick h in
      let r = from-pick s able node.0 choice place to.0 m.atom ps m.object k.object at ne is m.marks in
      let same : size_of w ≡ size_of (w ++ token.Pick place ∷ []) = (let f = size_of-append w (token.Pick place ∷ []) in let g : size_of (token.Pick place ∷ []) ≡ 0 + 0 = refl in omega arith) in
      let first : Unmarks s to.0 (ReadsDue s whole atom ds) k.object k.others (w ++ token.Pick place ∷ []) = record {
        atom = m.atom;
        object = r.0;
        marks = r.1;
        rest = subst (λ n. ReadsDue s whole atom ds (n + m.atom) k.others ((w ++ token.Pick place ∷ []) ++ tokens_of r.0)) same
            (subst (ReadsDue s whole atom ds (size_of w + m.atom) k.others) (ap (λ z. w ++ tokens_of z) r.2 ∙ sym (append_assoc w (token.Pick place ∷ []) (tokens_of r.0))) m.rest);
      } in
      record {
        objects = more k.object k.others;
        waits = k.waits;
        reads = read-now (due.Marked to ∷ ds) told (w ++ token.Pick place ∷ []) (more k.object k.others) a b c first;
      }

  pub choice-read : IsPointable s → (node : ExprId) (ps : List ℕ) (choice place part to : ℕ) → node_at s node.0 ≡ Some (Node.Product ps) → IsPlace s ps choice place to → now.dues ≡ due.Tuple node place ∷ ds → now.told ≡ told → now.written ≡ w → ShowsPick p e es os ts choice part fs us → ReadsDue s whole atom (due.Marked node ∷ ds) told os w → ReadsTo s p whole atom now fs us
  choice-read able node ps choice place part to at is a b c k h =
      let m : Unmarks s node.0 (ReadsDue s whole atom ds) (Pick choice k.object) k.others w = subst (λ z. ReadsDue s whole atom (due.Marked node ∷ ds) told z w) k.is_pick h in
      let r = from-choice s able node.0 choice place to m.atom ps m.object k.object at is m.marks in
      let first : UnmarksTuple s node.0 place (ReadsDue s whole atom ds) k.object k.others w = record {
        atom = m.atom;
        parts = ps;
        objects = r.0;
        marked = r.1;
        is_node = at;
        marks = r.2;
        is_tuple = r.4;
        rest = subst (λ z. ReadsDue s whole atom ds (size_of w + m.atom) k.others (w ++ tokens_of z)) r.3 m.rest;
      } in
      record { objects = more k.object k.others; waits = k.waits; reads = read-now (due.Tuple node place ∷ ds) told w (more k.object k.others) a b c first }

  -- the tuple of a product with one choice is one with its only choice marked
  pub tuple-due : IsPointable s → (node : ExprId) (ps : List ℕ) (place to : ℕ) → node_at s node.0 ≡ Some (Node.Product ps) → IsPlace s ps 0 place to → ShowsTuple p e es os ts fs us → ReadsDue s whole atom (due.Marked node ∷ ds) told os w → ReadsDue s whole atom (due.Tuple node place ∷ ds) told os w
  tuple-due able node ps place to at is k h =
      let m : Unmarks s node.0 (ReadsDue s whole atom ds) (Tuple k.members) k.others w = subst (λ z. ReadsDue s whole atom (due.Marked node ∷ ds) told z w) k.is_tuple h in
      let r = from-tuple s able node.0 place to m.atom ps m.object k.members at is m.marks in
      let first : UnmarksTuple s node.0 place (ReadsDue s whole atom ds) (Tuple k.members) k.others w = record {
        atom = m.atom;
        parts = ps;
        objects = r.0;
        marked = k.members;
        is_node = at;
        marks = r.1;
        is_tuple = refl;
        rest = subst (λ z. ReadsDue s whole atom ds (size_of w + m.atom) k.others (w ++ tokens_of z)) r.2 m.rest;
      } in
      subst (λ z. ReadsDue s whole atom (due.Tuple node place ∷ ds) told z w) (sym k.is_tuple) first

  same-tuple : (xs ys : Objects) → Tuple xs ≡ Tuple ys → xs ≡ ys
  same-tuple xs ys f = cc

  same-product : (n : ℕ) (xs ys : List ℕ) → node_at s n ≡ Some (Node.Product xs) → node_at s n ≡ Some (Node.Product ys) → xs ≡ ys
  same-product n xs ys f g = cc

  pub tuple-read : (node : ExprId) (ps : List ℕ) (place objects later : ℕ) (part : ExprId) → node_at s node.0 ≡ Some (Node.Product ps) → slice_get ps place ≡ Some part.0 → objects ≡ length (parts_at (node_at p e)) → later ≡ objects - place - 1 → now.dues ≡ due_copies place ++ (due.Marked part ∷ (due_copies later ++ ds)) → now.told ≡ told → now.written ≡ w → ShowsTuple p e es os ts fs us → ReadsDue s whole atom (due.Tuple node place ∷ ds) told os w → ReadsTo s p whole atom now fs us
  tuple-read node ps place objects later part at is_part many left a b c k h =
      let m : UnmarksTuple s node.0 place (ReadsDue s whole atom ds) (Tuple k.members) k.others w = subst (λ z. ReadsDue s whole atom (due.Tuple node place ∷ ds) told z w) k.is_tuple h in
      let same : m.parts ≡ ps = same-product node.0 m.parts ps m.is_node at in
      let one : MarksOne s (is_atomic_node s) ps m.objects m.atom place k.members = subst (λ z. MarksOne s (is_atomic_node s) ps m.objects m.atom place z) (sym (same-tuple k.members m.marked m.is_tuple)) (subst (λ z. MarksOne s (is_atomic_node s) z m.objects m.atom place m.marked) same m.marks) in
      let all : objects ≡ count k.members = many ∙ ap (λ z. length (parts_at z)) k.is_node ∙ as-many p k.parts k.members k.belong in
      let reads = tuple-reads s whole atom ds k.others w part later told one is_part (left ∙ ap (λ n. n - place - 1) all) m.rest in
      record {
        objects = joined k.members k.others;
        waits = k.waits;
        reads = read-now (due_copies place ++ (due.Marked part ∷ (due_copies later ++ ds))) told w (joined k.members k.others) a b c (put-due s whole atom (due.Marked part ∷ (due_copies later ++ ds)) place told (joined k.members k.others) w reads);
      }

  pub split-read : (node part : ExprId) → node_at s node.0 ≡ Some (Node.Seq part.0) → now.dues ≡ due.Split part ∷ ds → now.told ≡ told → now.written ≡ w → ShowsTuple p e es os ts fs us → ReadsDue s whole atom (due.Marked node ∷ ds) told os w → ReadsTo s p whole atom now fs us
  split-read node part at a b c k h =
      let m : Unmarks s node.0 (ReadsDue s whole atom ds) (Tuple k.members) k.others w = subst (λ z. ReadsDue s whole atom (due.Marked node ∷ ds) told z w) k.is_tuple h in
      let r = at-node s (is_atomic_node s) (Node.Seq part.0) at m.marks in
      let is : k.members ≡ more (SeqOf r.1) (more r.3 (more (SeqOf r.2) none)) = same-tuple k.members (more (SeqOf r.1) (more r.3 (more (SeqOf r.2) none))) r.6 in
      let first : UnmarksSplit s part.0 (ReadsDue s whole atom ds) (SeqOf r.1) r.3 (SeqOf r.2) k.others w = record {
        atom = m.atom;
        objects = r.0;
        before = r.1;
        later = r.2;
        splits = r.4;
        is_first = refl;
        is_last = refl;
        rest = subst (λ z. ReadsDue s whole atom ds (size_of w + m.atom) k.others (w ++ tokens_of z)) r.5 m.rest;
      } in
      record {
        objects = joined k.members k.others;
        waits = k.waits;
        reads = read-now (due.Split part ∷ ds) told w (joined k.members k.others) a b c (subst (λ z. ReadsDue s whole atom (due.Split part ∷ ds) told (joined z k.others) w) (sym is) first);
      }

  same-list : (xs ys : Objects) → SeqOf xs ≡ SeqOf ys → xs ≡ ys
  same-list xs ys f = cc

  -- the objects before the marked one
  first-split : (part : ExprId) (n place : ℕ) (members others : Objects) → n ≡ count members → place ≡ length w → ReadsDue s whole atom (due.Split part ∷ ds) told (more (SeqOf members) others) w → ReadsDue s whole atom (due_copies n ++ (due.Marked part ∷ due.Last place n ∷ ds)) told (joined members others) (w ++ token.Count 0 ∷ [])
  first-split part n place members none many kept h = absurd h
  first-split part n place members (more m none) many kept h = absurd h
  first-split part n place members (more m (more last rest)) many kept h =
      let k : UnmarksSplit s part.0 (ReadsDue s whole atom ds) (SeqOf members) m last rest w = h in
      let d = parted s k.splits in
      let same : members ≡ k.before = same-list members k.before k.is_first in
      let start : List Token = w ++ token.Count 0 ∷ [] in
      let front : List Token = start ++ tokens_all members in
      let so_far : size_of w + k.atom ≡ size_of front + d.atom =
      (let a = size_of-append start (tokens_all members) in let b = size_of-append w (token.Count 0 ∷ []) in let c : size_of (token.Count 0 ∷ []) ≡ 0 + 0 = refl in let f = size_of-all members in let g = d.number_is in let i = ap sizes same in omega arith) in
      let tail : List Token = tokens_all members ++ tokens_of d.object in
      let tail_is : front ++ tokens_of d.object ≡ w ++ token.Count 0 ∷ tail =
      ap (λ z. z ++ tokens_of d.object) (append_assoc w (token.Count 0 ∷ []) (tokens_all members)) ∙ append_assoc w (token.Count 0 ∷ tokens_all members) (tokens_of d.object) in
      let all : w ++ tokens_of (SeqOf k.objects) ≡ (w ++ token.Count (n + 1 + count k.later) ∷ tail) ++ tokens_all k.later =
      ap (λ z. w ++ token.Count z ∷ tokens_all k.objects) (let f = d.counted in let g = ap count same in (let i : count k.objects ≡ n + 1 + count k.later = omega arith in i))
      ∙ ap (λ z. w ++ token.Count (n + 1 + count k.later) ∷ z) (d.tokens ∙ ap (λ z. tokens_all z ++ (tokens_of d.object ++ tokens_all k.later)) (sym same) ∙ sym (append_assoc (tokens_all members) (tokens_of d.object) (tokens_all k.later)))
      ∙ sym (append_assoc w (token.Count (n + 1 + count k.later) ∷ tail) (tokens_all k.later)) in
      let last_read : ReadsLast place n (ReadsDue s whole atom ds (size_of front + d.atom)) last rest (front ++ tokens_of d.object) = record {
        front = w;
        kept = token.Count 0;
        tail = tail;
        later = k.later;
        is_written = tail_is;
        is_place = sym kept;
        is_last = k.is_last;
        rest = subst (λ z. ReadsDue s whole atom ds z rest ((w ++ token.Count (n + 1 + count k.later) ∷ tail) ++ tokens_all k.later)) so_far (subst (ReadsDue s whole atom ds (size_of w + k.atom) rest) all k.rest);
      } in
      let marked : Unmarks s part.0 (ReadsDue s whole atom (due.Last place n ∷ ds)) m (more last rest) front = record { atom = d.atom; object = d.object; marks = d.marks; rest = last_read } in
      put-due s whole atom (due.Marked part ∷ due.Last place n ∷ ds) n told (joined members (more m (more last rest))) start
      (subst (λ z. CopiesObjects z (ReadsDue s whole atom (due.Marked part ∷ due.Last place n ∷ ds) told) (joined members (more m (more last rest))) start) (sym many)
      (passes-all (ReadsDue s whole atom (due.Marked part ∷ due.Last place n ∷ ds) told) members (more m (more last rest)) start marked))

  pub first-read : (part : ExprId) (n place q : ℕ) → place ≡ length w → now.dues ≡ due_copies n ++ (due.Marked part ∷ due.Last place n ∷ ds) → now.told ≡ told → now.written ≡ w ++ token.Count 0 ∷ [] → ShowsList Node.Seq SeqOf p e es os ts n q fs us → ReadsDue s whole atom (due.Split part ∷ ds) told os w → ReadsTo s p whole atom now fs us
  first-read part n place q kept a b c k h = record {
    objects = joined k.members k.others;
    waits = k.waits;
    reads = read-now (due_copies n ++ (due.Marked part ∷ due.Last place n ∷ ds)) told (w ++ token.Count 0 ∷ []) (joined k.members k.others) a b c
        (first-split part n place k.members k.others (sym k.counted) kept (subst (λ z. ReadsDue s whole atom (due.Split part ∷ ds) told z w) k.is_list h));
  }

  -- the objects after the marked one
  pub last-read : (place before n all q : ℕ) → all ≡ before + 1 + n → now.dues ≡ due_copies n ++ ds → now.told ≡ told → ((front tail : List Token) (kept : Token) → w ≡ front ++ kept ∷ tail → length front ≡ place → now.written ≡ front ++ token.Count all ∷ tail) → ShowsList Node.Seq SeqOf p e es os ts n q fs us → ReadsDue s whole atom (due.Last place before ∷ ds) told os w → ReadsTo s p whole atom now fs us
  last-read place before n all q sum a b c k h =
      let m : ReadsLast place before (ReadsDue s whole atom ds told) (SeqOf k.members) k.others w = subst (λ z. ReadsDue s whole atom (due.Last place before ∷ ds) told z w) k.is_list h in
      let same : k.members ≡ m.later = same-list k.members m.later m.is_last in
      let number_is : before + 1 + count m.later ≡ all = (let f = ap count same in let g = k.counted in omega arith) in
      let tokens : List Token = m.front ++ token.Count all ∷ m.tail in
      let rest : ReadsDue s whole atom ds told k.others (tokens ++ tokens_all k.members) =
      subst (λ z. ReadsDue s whole atom ds told k.others (tokens ++ tokens_all z)) (sym same)
      (subst (λ z. ReadsDue s whole atom ds told k.others ((m.front ++ token.Count z ∷ m.tail) ++ tokens_all m.later)) number_is m.rest) in
      record {
        objects = joined k.members k.others;
        waits = k.waits;
        reads = read-now (due_copies n ++ ds) told tokens (joined k.members k.others) a b (c m.front m.tail m.kept m.is_written m.is_place)
            (put-due s whole atom ds n told (joined k.members k.others) tokens (subst (λ z. CopiesObjects z (ReadsDue s whole atom ds told) (joined k.members k.others) tokens) k.counted (passes-all (ReadsDue s whole atom ds told) k.members k.others tokens rest)));
      }
