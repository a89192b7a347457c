-- What a visit shows of the object with the marked atom is written, kind by kind.
use Rattle.std.proofs.Common.{◌≡◌, ℕ, suc, ◌+◌, ◌-◌, Bool, List, [], ◌∷◌, ◌++◌, length, arith, refl, sym, ◌∙◌, ap, subst, append_assoc, append-nil, Some, slice_get}
use Rattle.bz_model.specs.Spec.{Spec, Node, node_at}
use Rattle.bz_model.specs.Object.{Object, Objects, none, more, count}
use Rattle.bz_model.specs.Object.Object.{Unit_, Dot, Pick, Tuple, SeqOf}
use Rattle.object_store.specs.declared.token.Token.{Token}
use Rattle.object_store.specs.declared.token.Token.TheVariants as token
use Rattle.object_store.specs.declared.visit.Visit.{Visit}
use Rattle.object_store.specs.Seen.{nodes_below, parts_at}
use Rattle.object_store.specs.Tokens.{tokens_of, tokens_all}
use Rattle.object_store.specs.Waiting.{joined, Shows, ShowsClass, ShowsTuple, ShowsLeaf, ShowsPick, ShowsList}
use Rattle.pointing.specs.Atoms.{is_atomic_node}
use Rattle.pointing.specs.Marking.{Marks, MarksOne, Splits, choices, choice_at}
use Rattle.pointing.specs.Writing.{token_at, pick_of, copied, Copies, MarksFirst, Writes, Writing, WritesOn, ComesTo}
use Rattle.pointing.specs.declared.pieces.Piece.{Piece}
use Rattle.pointing.specs.declared.pieces.Piece.TheVariants as piece
use Rattle.pointing.proofs.Marked.{at-node, same-body}
use Rattle.pointing.proofs.Searches.{as-many}
use Rattle.pointing.proofs.Copying.{copies-on}
use Rattle.pointing.proofs.MarkSteps.{chosen-tokens, put-copied, put-twice, one-begins, split-begins}

same-pick : (i j : ℕ) (o p : Object) → Pick i o ≡ Pick j p → (i ≡ j) × (o ≡ p)
same-pick i j o p e = (cc, cc)

same-tuple : (os ps : Objects) → Tuple os ≡ Tuple ps → os ≡ ps
same-tuple os ps e = cc

same-list : (os ps : Objects) → SeqOf os ≡ SeqOf ps → os ≡ ps
same-list os ps e = cc

same-part : (parts : List ℕ) (i p q : ℕ) → slice_get parts i ≡ Some p → slice_get parts i ≡ Some q → p ≡ q
same-part parts i p q x y = cc

module _ (s : Spec) (whole : List Token) (ps : List Piece) (places : List ℕ) (w : List Token) (e : ℕ) (es : List ℕ) (ts : List Token) (fs : List ℕ) (us : List Token) (now : Writing) where
  abbrev pub has : ℕ → Bool
  has = is_atomic_node s

  written-now : (pieces : List Piece) (ways : List ℕ) (tokens : List Token) (os : Objects) → now.pieces ≡ pieces → now.places ≡ ways → now.written ≡ tokens → Writes s whole pieces ways fs os tokens → WritesOn s whole now fs os
  written-now pieces ways tokens os a b c h =
      subst (λ z. Writes s whole z now.places fs os now.written) (sym a)
      (subst (λ z. Writes s whole pieces z fs os now.written) (sym b)
      (subst (λ z. Writes s whole pieces ways fs os z) (sym c) h))

  -- objects that stay as they are
  pub copied-written : (v : Visit) (k n : ℕ) (os : Objects) → k ≡ length (nodes_below s e v) → now.pieces ≡ copied k ++ (copied n ++ ps) → now.places ≡ places → now.written ≡ w ++ token_at v → Shows s e es os ts v fs us → Copies (suc n) (Writes s whole ps places) (e ∷ es) os w → ComesTo s whole now fs us
  copied-written v k n os many a b c shows h =
      let r = copies-on s e es os ts v fs us k n (Writes s whole ps places) w many shows h in
      record { objects = r.objects; waits = r.waits; writes = written-now (copied k ++ (copied n ++ ps)) places (w ++ token_at v) r.objects a b c (put-twice s whole ps k n places fs r.objects (w ++ token_at v) r.copies) }

  pub class-written : (os : Objects) (body : ℕ) → now.pieces ≡ piece.Marked ∷ ps → now.places ≡ places → now.written ≡ w → ShowsClass s e es os ts body fs us → Writes s whole (piece.Marked ∷ ps) places (e ∷ es) os w → ComesTo s whole now fs us
  class-written none body a b c k h = absurd h
  class-written (more o others) body a b c k h =
      let m : MarksFirst s places (Writes s whole ps []) e es o others w = h in
      let r = at-node s has (Node.Class k.class) k.is_node m.marks in
      let first : MarksFirst s places (Writes s whole ps []) body es o others w = record { atom = m.atom; marked = m.marked; marks = subst (λ z. Marks s has z o m.atom m.marked) (same-body s has k.class r.0 body r.1 k.is_body) r.2; is_way = m.is_way; rest = m.rest } in
      record {
        objects = more o others;
        waits = k.waits;
        writes = written-now (piece.Marked ∷ ps) places w (more o others) a b c (subst (λ z. Writes s whole (piece.Marked ∷ ps) places z (more o others) w) (sym k.put) first);
      }

  pub atom-written : (os : Objects) (t : Token) → now.pieces ≡ ps → now.places ≡ places → now.written ≡ w ++ token.Dot ∷ [] → ShowsLeaf Node.Atom Dot t s e es os ts fs us → Writes s whole (piece.Marked ∷ ps) places (e ∷ es) os w → ComesTo s whole now fs us
  atom-written os t a b c k h =
      let m : MarksFirst s places (Writes s whole ps []) e es Dot k.others w = subst (λ z. Writes s whole (piece.Marked ∷ ps) places (e ∷ es) z w) k.is_leaf h in
      let r = at-node s has (Node.Atom k.word) k.is_node m.marks in
      let no_way : places ≡ [] = m.is_way in
      record {
        objects = k.others;
        waits = k.waits;
        writes = written-now ps places (w ++ token.Dot ∷ []) k.others a b c
            (subst (λ z. Writes s whole ps z fs k.others (w ++ token.Dot ∷ [])) (sym no_way)
            (subst (λ z. Writes s whole ps [] z k.others (w ++ token.Dot ∷ [])) (sym k.put)
            (subst (λ z. Writes s whole ps [] es k.others (w ++ tokens_of z)) r.2 m.rest)));
      }

  pub no-empty : (os : Objects) (t : Token) → ShowsLeaf Node.Empty Unit_ t s e es os ts fs us → Writes s whole (piece.Marked ∷ ps) places (e ∷ es) os w → ⊥
  no-empty os t k h =
      let m : MarksFirst s places (Writes s whole ps []) e es Unit_ k.others w = subst (λ z. Writes s whole (piece.Marked ∷ ps) places (e ∷ es) z w) k.is_leaf h in
      at-node s has (Node.Empty k.word) k.is_node m.marks

  pub no-set : (os : Objects) (form : Objects → Object) (parts part : ℕ) → ShowsList Node.Set form s e es os ts parts part fs us → Writes s whole (piece.Marked ∷ ps) places (e ∷ es) os w → ⊥
  no-set os form parts part k h =
      let m : MarksFirst s places (Writes s whole ps []) e es (form k.members) k.others w = subst (λ z. Writes s whole (piece.Marked ∷ ps) places (e ∷ es) z w) k.is_list h in
      at-node s has (Node.Set part) k.is_node m.marks

  pub no-cycle : (os : Objects) (form : Objects → Object) (parts part : ℕ) → ShowsList Node.Cyc form s e es os ts parts part fs us → Writes s whole (piece.Marked ∷ ps) places (e ∷ es) os w → ⊥
  no-cycle os form parts part k h =
      let m : MarksFirst s places (Writes s whole ps []) e es (form k.members) k.others w = subst (λ z. Writes s whole (piece.Marked ∷ ps) places (e ∷ es) z w) k.is_list h in
      at-node s has (Node.Cyc part) k.is_node m.marks

  pub pick-written : (os : Objects) (option part : ℕ) → now.pieces ≡ piece.Marked ∷ ps → now.places ≡ places → now.written ≡ w ++ pick_of (choices has (parts_at (node_at s e))) (choice_at has (parts_at (node_at s e)) option) → ShowsPick s e es os ts option part fs us → Writes s whole (piece.Marked ∷ ps) places (e ∷ es) os w → ComesTo s whole now fs us
  pick-written os option part a b c k h =
      let m : MarksFirst s places (Writes s whole ps []) e es (Pick option k.object) k.others w = subst (λ z. Writes s whole (piece.Marked ∷ ps) places (e ∷ es) z w) k.is_pick h in
      let r = at-node s has (Node.Union k.parts) k.is_node m.marks in
      let f = same-pick option r.0 k.object r.2 r.6 in
      let same : r.1 ≡ part = same-part k.parts option r.1 part (subst (λ z. slice_get k.parts z ≡ Some r.1) (sym f.0) r.4) k.is_part in
      let marks : Marks s has part k.object m.atom r.3 = subst (λ z. Marks s has z k.object m.atom r.3) same (subst (λ z. Marks s has r.1 z m.atom r.3) (sym f.1) r.5) in
      let pick : List Token = pick_of (choices has k.parts) (choice_at has k.parts option) in
      let spelled : w ++ tokens_of m.marked ≡ (w ++ pick) ++ tokens_of r.3 =
      ap (λ z. w ++ tokens_of z) r.7 ∙ ap (λ z. w ++ z) (chosen-tokens (choices has k.parts) (choice_at has k.parts r.0) r.3)
      ∙ ap (λ i. w ++ (pick_of (choices has k.parts) (choice_at has k.parts i) ++ tokens_of r.3)) (sym f.0)
      ∙ sym (append_assoc w pick (tokens_of r.3)) in
      let first : MarksFirst s places (Writes s whole ps []) part es k.object k.others (w ++ pick) = record { atom = m.atom; marked = r.3; marks = marks; is_way = m.is_way; rest = subst (Writes s whole ps [] es k.others) spelled m.rest } in
      record {
        objects = more k.object k.others;
        waits = k.waits;
        writes = written-now (piece.Marked ∷ ps) places (w ++ pick) (more k.object k.others) a b
            (c ∙ ap (λ z. w ++ pick_of (choices has (parts_at z)) (choice_at has (parts_at z) option)) k.is_node)
            (subst (λ z. Writes s whole (piece.Marked ∷ ps) places z (more k.object k.others) (w ++ pick)) (sym k.put) first);
      }

  pub tuple-written : (os : Objects) (place later : ℕ) → ((i : ℕ) (ways : List ℕ) → places ≡ i ∷ ways → place ≡ i) → ((i : ℕ) (ways : List ℕ) → places ≡ i ∷ ways → now.places ≡ ways) → later ≡ length (parts_at (node_at s e)) - place - 1 → now.pieces ≡ copied place ++ (piece.Marked ∷ (copied later ++ ps)) → now.written ≡ w ++ pick_of (choices has (parts_at (node_at s e))) (choice_at has (parts_at (node_at s e)) place) → ShowsTuple s e es os ts fs us → Writes s whole (piece.Marked ∷ ps) places (e ∷ es) os w → ComesTo s whole now fs us
  tuple-written os place later is_place is_rest left a c k h =
      let m : MarksFirst s places (Writes s whole ps []) e es (Tuple k.members) k.others w = subst (λ z. Writes s whole (piece.Marked ∷ ps) places (e ∷ es) z w) k.is_tuple h in
      let r = at-node s has (Node.Product k.parts) k.is_node m.marks in
      let i = r.0 in
      let one : MarksOne s has k.parts k.members m.atom i r.2 = subst (λ z. MarksOne s has k.parts z m.atom i r.2) (sym (same-tuple k.members r.1 r.4)) r.3 in
      let pick : List Token = pick_of (choices has k.parts) (choice_at has k.parts i) in
      let spelled : w ++ tokens_of m.marked ≡ (w ++ pick) ++ tokens_all r.2 =
      ap (λ z. w ++ tokens_of z) r.5 ∙ ap (λ z. w ++ z) (chosen-tokens (choices has k.parts) (choice_at has k.parts i) (Tuple r.2))
      ∙ sym (append_assoc w pick (tokens_all r.2)) in
      let rest : Writes s whole ps [] es k.others ((w ++ pick) ++ tokens_all r.2) = subst (Writes s whole ps [] es k.others) spelled m.rest in
      let many : length (parts_at (node_at s e)) ≡ length k.parts = ap (λ z. length (parts_at z)) k.is_node in
      let begins = one-begins s whole ps k.parts es k.members k.others r.2 0 m.atom i (length k.parts - i - 1) (w ++ pick) (as-many s k.parts k.members k.belong) refl one rest in
      let at : places ≡ (0 + i) ∷ begins.later = m.is_way ∙ begins.is_way in
      let here : place ≡ i = is_place (0 + i) begins.later at ∙ (let f : 0 + i ≡ i = omega arith in f) in
      let after : later ≡ length k.parts - i - 1 = left ∙ ap (λ n. n - place - 1) many ∙ ap (λ n. length k.parts - n - 1) here in
      record {
        objects = joined k.members k.others;
        waits = k.waits;
        writes = written-now (copied i ++ (piece.Marked ∷ (copied (length k.parts - i - 1) ++ ps))) begins.later (w ++ pick) (joined k.members k.others)
            (a ∙ ap (λ n. copied n ++ (piece.Marked ∷ (copied later ++ ps))) here ∙ ap (λ n. copied i ++ (piece.Marked ∷ (copied n ++ ps))) after)
            (is_rest (0 + i) begins.later at)
            (c ∙ ap (λ z. w ++ pick_of (choices has (parts_at z)) (choice_at has (parts_at z) place)) k.is_node ∙ ap (λ n. w ++ pick_of (choices has k.parts) (choice_at has k.parts n)) here)
            (put-copied s whole (piece.Marked ∷ (copied (length k.parts - i - 1) ++ ps)) i begins.later fs (joined k.members k.others) (w ++ pick)
            (subst (λ z. Copies i (Writes s whole (piece.Marked ∷ (copied (length k.parts - i - 1) ++ ps)) begins.later) z (joined k.members k.others) (w ++ pick)) (sym k.put) begins.goal_holds));
      }

  pub list-written : (os : Objects) (parts part place later : ℕ) → ((i : ℕ) (ways : List ℕ) → places ≡ i ∷ ways → place ≡ i) → ((i : ℕ) (ways : List ℕ) → places ≡ i ∷ ways → now.places ≡ ways) → later ≡ parts - place - 1 → now.pieces ≡ copied place ++ (piece.Marked ∷ piece.Count later ∷ (copied later ++ ps)) → now.written ≡ w ++ token.Count place ∷ [] → ShowsList Node.Seq SeqOf s e es os ts parts part fs us → Writes s whole (piece.Marked ∷ ps) places (e ∷ es) os w → ComesTo s whole now fs us
  list-written os parts part place later is_place is_rest left a c k h =
      let m : MarksFirst s places (Writes s whole ps []) e es (SeqOf k.members) k.others w = subst (λ z. Writes s whole (piece.Marked ∷ ps) places (e ∷ es) z w) k.is_list h in
      let r = at-node s has (Node.Seq part) k.is_node m.marks in
      let before = r.1 in let after = r.2 in let q = r.3 in
      let split : Splits s has part k.members m.atom before q after = subst (λ z. Splits s has part z m.atom before q after) (sym (same-list k.members r.0 r.5)) r.4 in
      let i = count before in
      let spelled : w ++ tokens_of m.marked ≡ (w ++ token.Count i ∷ []) ++ (tokens_all before ++ (tokens_of q ++ (token.Count (count after) ∷ tokens_all after))) =
      ap (λ z. w ++ tokens_of z) r.6
      ∙ ap (λ z. w ++ (token.Count i ∷ (tokens_all before ++ (tokens_of q ++ z)))) (append-nil (token.Count (count after) ∷ tokens_all after))
      ∙ sym (append_assoc w (token.Count i ∷ []) (tokens_all before ++ (tokens_of q ++ (token.Count (count after) ∷ tokens_all after)))) in
      let rest = subst (Writes s whole ps [] es k.others) spelled m.rest in
      let begins = split-begins s whole ps part es k.members k.others before after q 0 m.atom parts (w ++ token.Count i ∷ []) (sym k.counted) split rest in
      let at : places ≡ (0 + i) ∷ begins.later = m.is_way ∙ begins.is_way in
      let here : place ≡ i = is_place (0 + i) begins.later at ∙ (let f : 0 + i ≡ i = omega arith in f) in
      let so_many : later ≡ count after = left ∙ ap (λ n. parts - n - 1) here ∙ sym begins.goal_holds.0 in
      record {
        objects = joined k.members k.others;
        waits = k.waits;
        writes = written-now (copied i ++ (piece.Marked ∷ piece.Count (count after) ∷ (copied (count after) ++ ps))) begins.later (w ++ token.Count i ∷ []) (joined k.members k.others)
            (a ∙ ap (λ n. copied n ++ (piece.Marked ∷ piece.Count later ∷ (copied later ++ ps))) here ∙ ap (λ n. copied i ++ (piece.Marked ∷ piece.Count n ∷ (copied n ++ ps))) so_many)
            (is_rest (0 + i) begins.later at)
            (c ∙ ap (λ n. w ++ token.Count n ∷ []) here)
            (put-copied s whole (piece.Marked ∷ piece.Count (count after) ∷ (copied (count after) ++ ps)) i begins.later fs (joined k.members k.others) (w ++ token.Count i ∷ [])
            (subst (λ z. Copies i (Writes s whole (piece.Marked ∷ piece.Count (count after) ∷ (copied (count after) ++ ps)) begins.later) z (joined k.members k.others) (w ++ token.Count i ∷ [])) (sym k.put) begins.goal_holds.1));
      }
