-- Choosers by one table visit alike.
use Rattle.std.proofs.Common.{◌≡◌, ℕ, zero, suc, ◌+◌, Bool, true, false, cond, List, [], ◌∷◌, length, refl, sym, ◌∙◌, ap, subst}
use Rattle.std.specs.Prelude.{Option, Some, None, IsTrue, slice_get, slice_index}
use Rattle.bz_model.specs.declared.cell.Bounds.{Bounds}
use Rattle.bz_model.specs.Cell.{spelled}
use Rattle.bz_model.specs.Spec.{Spec, Mode, Node, node_at}
use Rattle.choice_draw.specs.Draw.{Bit, bit_of, draw}
use Rattle.count_draw.specs.Decision.{count_decision}
use Rattle.count_draw.specs.Kinds.{counted_node}
use Rattle.series_bounds.specs.Series.{Kind}
use Rattle.shape_sampler.specs.Answer.{ChoosesBy}
use Rattle.shape_sampler.specs.Visit.{Chooser, Attempt, Visited, after_draw, union_answered, counted_answered, with_pending, room_for, node_visited, visit_among, begun}
use Rattle.entry_replay.specs.Replay.{entry_with}
use Rattle.size_window.specs.Redrawn.{HasLabelsAgain, visited_next, visits, IsRedrawnAlone}
use Rattle.size_window.specs.RunByBits.{Entry}

-- two truth values that follow from each other
same-truth : (a b : Bool) → (IsTrue a → IsTrue b) → (IsTrue b → IsTrue a) → a ≡ b
same-truth true b there back = sym (there refl)
same-truth false true there back = absurd (let e : false ≡ true = back refl in cc)
same-truth false false there back = refl

same-labels : (mode : Mode) (bits : ℕ → Option Bool) (made : Attempt) (e : Entry) (end : ℕ) → HasLabelsAgain mode bits made e end → HasLabelsAgain mode bits made (entry_with e.tokens e.labels e.cells) end
same-labels Mode.Unlabelled bits made e end h = h
same-labels Mode.Labelled bits made e end h = record { more = h.more; cells = h.cells; given = h.given }

module _ (s : Spec) (F : ℕ) (table : (level node : ℕ) → Bounds) (c d : Chooser) (of_c : ChoosesBy s F table c) (of_d : ChoosesBy s F table d) where
  one-spec : c.spec ≡ d.spec
  one-spec = of_c.same_spec ∙ sym of_d.same_spec

  same-free : (part : ℕ) → c.is_free part ≡ d.is_free part
  same-free part = same-truth (c.is_free part) (d.is_free part) (λ h. (of_d.frees part).1 ((of_c.frees part).0 h)) (λ h. (of_c.frees part).1 ((of_d.frees part).0 h))

  module _ (bit : ℕ → Bit) (a : Attempt) (e : ℕ) (rest : List ℕ) where
    counted-same : (kind : Kind) (part : ℕ) → node_at s e ≡ Some (counted_node kind part) → after_draw e (counted_answered a part rest) (draw (c.decide e (room_for c part a.room)) bit a.used) ≡ after_draw e (counted_answered a part rest) (draw (d.decide e (room_for d part a.room)) bit a.used)
    counted-same kind part at =
        ap (λ decide. after_draw e (counted_answered a part rest) (draw decide bit a.used))
        (of_c.at_counted e (room_for c part a.room) (record { kind = kind; part = part; here = at })
        ∙ ap (λ free. count_decision s F table e (cond free 64 a.room)) (same-free part)
        ∙ sym (of_d.at_counted e (room_for d part a.room) (record { kind = kind; part = part; here = at })))

    node-same : (o : Option Node) → node_at s e ≡ o → node_visited c bit a e rest o ≡ node_visited d bit a e rest o
    node-same None at = refl
    node-same (Some (Node.Empty word)) at = refl
    node-same (Some (Node.Atom word)) at = refl
    node-same (Some (Node.Class class)) at = ap (λ (t : Spec). Visited.Went (with_pending a (slice_index t.bodies class ∷ rest))) one-spec
    node-same (Some (Node.Union parts)) at = ap (λ decide. after_draw e (union_answered a parts rest) (draw decide bit a.used)) (of_c.at_unions e a.room (record { parts = parts; here = at }) ∙ sym (of_d.at_unions e a.room (record { parts = parts; here = at })))
    node-same (Some (Node.Product parts)) at = refl
    node-same (Some (Node.Seq part)) at = counted-same Kind.Seq part at
    node-same (Some (Node.Set part)) at = counted-same Kind.Set part at
    node-same (Some (Node.Cyc part)) at = counted-same Kind.Cyc part at

    node-visited-same : node_visited c bit a e rest (node_at c.spec e) ≡ node_visited d bit a e rest (node_at d.spec e)
    node-visited-same =
        ap (λ (t : Spec). node_visited c bit a e rest (node_at t e)) of_c.same_spec
        ∙ node-same (node_at s e) refl
        ∙ ap (λ (t : Spec). node_visited d bit a e rest (node_at t e)) (sym of_d.same_spec)

  module _ (bit : ℕ → Bit) where
    among-same : (a : Attempt) (pending : List ℕ) → visit_among c bit a pending ≡ visit_among d bit a pending
    among-same a [] = refl
    among-same a (e ∷ rest) = node-visited-same bit a e rest

    next-same : (v : Visited) → visited_next c bit v ≡ visited_next d bit v
    next-same (Visited.Went a) = among-same a a.pending
    next-same (Visited.Over a) = refl
    next-same (Visited.Straddled node cell) = refl
    next-same (Visited.Ended place) = refl
    next-same (Visited.Failed place) = refl

    visits-same : (n : ℕ) (a : Attempt) → visits c bit n a ≡ visits d bit n a
    visits-same zero a = refl
    visits-same (suc n) a = ap (visited_next c bit) (visits-same n a) ∙ next-same (visits d bit n a)

  -- what one makes again, the other makes again; the number and the place don't matter
  pub redrawn-by : (greatest : ℕ) (e : Entry) → IsRedrawnAlone c greatest e → IsRedrawnAlone d greatest (entry_with e.tokens e.labels e.cells)
  redrawn-by greatest e r =
      let tape = slice_get (spelled e.cells) in
      let bit = bit_of tape None in
      record {
        number = r.number;
        made = r.made;
        comes = ap (λ (t : Spec). visits d bit r.number (begun t greatest 0)) (sym one-spec) ∙ sym (visits-same bit r.number (begun c.spec greatest 0)) ∙ r.comes;
        rests = r.rests;
        tokens = r.tokens;
        size = refl;
        labels = same-labels d.spec.mode tape r.made e (0 + length (spelled e.cells)) (subst (λ (t : Spec). HasLabelsAgain t.mode tape r.made e (0 + length (spelled e.cells))) one-spec r.labels);
      }
