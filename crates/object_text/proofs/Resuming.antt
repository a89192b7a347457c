-- Reading on: from node to node, and to the end of the text.
use Rattle.std.proofs.Common.{◌≡◌, ◌≢◌, ℕ, ◌<◌, ◌≤◌, List, [], ◌∷◌, ◌++◌, length, arith, refl, sym, ◌∙◌, ap, subst, Option, Some, None}
use Rattle.bz_model.specs.Spec.{Spec}
use Rattle.class_system.specs.declared.ids.ExprId.{ExprId}
use Rattle.object_text.specs.declared.parse_stack.Expected.{Expected}
use Rattle.object_text.specs.Taken.{Taken}
use Rattle.object_text.specs.Scanning.{Steps, CantGoOn, Faults}
use Rattle.object_text.specs.Expected.{Comes, AllCanCome, IsNodeIf, Moves, SameTexts, IsOver}
use Rattle.object_text.proofs.Scans.{faults-through, faults-here, steps-then, steps-same}
use Rattle.object_text.proofs.Moving.{steps-by, faults-by}

module _ (s : Spec) (e f : ExprId) (same : SameTexts s e.0 f.0) (stack : List Expected) (taken : Taken) where
  object-in : (whole : Taken) (other : List ℕ) → Comes s (Some f) stack taken whole other → Comes s (Some e) stack taken whole other
  object-in whole other h = record { object = h.object; labels = h.labels; own = h.own; rest = h.rest; is_text = same.from h.own h.object h.labels h.is_text; split = h.split; later = h.later }

  object-out : (whole : Taken) (other : List ℕ) → Comes s (Some e) stack taken whole other → Comes s (Some f) stack taken whole other
  object-out whole other h = record { object = h.object; labels = h.labels; own = h.own; rest = h.rest; is_text = same.to h.own h.object h.labels h.is_text; split = h.split; later = h.later }

  -- what is read of a node's object where the way leads to is read of the node's
  pub moves-resolved : (text rest : List ℕ) (next : Option ExprId) (now : List Expected) (t : Taken) → Moves s (Comes s (Some f) stack taken) text next now t rest → Moves s (Comes s (Some e) stack taken) text next now t rest
  moves-resolved text rest next now t m = record { shorter = m.shorter; next_below = m.next_below; can_come = m.can_come; steps = steps-by (Comes s (Some e) stack taken) (Comes s (Some f) stack taken) (Comes s next now t) text rest object-in object-out m.steps }

  pub faults-resolved : (text : List ℕ) (left : ℕ) → Faults (Comes s (Some f) stack taken) text left → Faults (Comes s (Some e) stack taken) text left
  faults-resolved text left h = faults-by (Comes s (Some e) stack taken) (Comes s (Some f) stack taken) text left object-in object-out h

-- An optional node that is no node at all is missing.
pub none-of : (o : Option ExprId) → ((e : ExprId) → o ≡ Some e → ⊥) → o ≡ None
none-of None h = refl
none-of (Some e) h = absurd (h e refl)

-- behind the whole object nothing may stand
pub faults-behind : (s : Spec) (taken : Taken) (text : List ℕ) → (length text ≢ 0) → Faults (Comes s None [] taken) text (length text)
faults-behind s taken text some = faults-here (Comes s None [] taken) text [] (length text) refl (record { whole = taken; reads = (refl, refl) }) (go text some)
  where
    go : (text : List ℕ) → (length text ≢ 0) → CantGoOn (Comes s None [] taken) [] text
    go [] some = absurd (some refl)
    go (b ∷ back) some = λ more a. absurd (let e = a.reads.0 in cc)

-- How far a text was read.
pub record Progress (s : Spec) (root : ExprId) (start : Taken) (text : List ℕ) (next : Option ExprId) (stack : List Expected) (taken : Taken) (rest : List ℕ) : Type 0 where
  pub next_below : IsNodeIf s next
  pub can_come : AllCanCome s (length rest) stack
  pub shorter : length rest ≤ length text
  pub steps : Steps (Comes s (Some root) [] start) (Comes s next stack taken) text rest

-- Where nothing else is expected, reading a node's object begins with the whole text left and
-- nothing more taken.
pub progress-start : (s : Spec) (root : ExprId) (taken : Taken) (text : List ℕ) (stack : List Expected) → stack ≡ [] → root.0 < length s.nodes → Progress s root taken text (Some root) stack taken text
progress-start s root taken text stack e below = subst (λ k. Progress s root taken text (Some root) k taken text) (sym e) (record {
  next_below = below;
  can_come = tt;
  shorter = omega arith;
  steps = steps-same (Comes s (Some root) [] taken) (Comes s (Some root) [] taken) text (λ whole other h. h) (λ whole other h. h);
})

module _ (s : Spec) (root : ExprId) (start : Taken) (text : List ℕ) (next : Option ExprId) (stack : List Expected) (taken : Taken) (rest : List ℕ) (p : Progress s root start text next stack taken rest) where
  pub progress-on : (then : Option ExprId) (stack_now : List Expected) (now : Taken) (after : List ℕ) → Moves s (Comes s next stack taken) rest then stack_now now after → Progress s root start text then stack_now now after
  progress-on then stack_now now after m =
      let less = m.shorter in
      let was = p.shorter in
      record {
        next_below = m.next_below;
        can_come = m.can_come;
        shorter = omega arith;
        steps = steps-then (Comes s (Some root) [] start) (Comes s next stack taken) (Comes s then stack_now now) text rest after p.steps m.steps;
      }

  pub progress-faults : (left : ℕ) → Faults (Comes s next stack taken) rest left → Faults (Comes s (Some root) [] start) text left
  progress-faults left f = faults-through (Comes s (Some root) [] start) (Comes s next stack taken) text rest left p.steps f

  pub progress-over : (stack_now : List Expected) (now : Taken) → IsOver next stack rest stack_now taken now → Comes s (Some root) [] start now text
  progress-over stack_now now o = subst (Comes s (Some root) [] start now) (sym (p.steps.split ∙ ap (λ t. p.steps.front ++ t) o.no_text))
      (p.steps.back now [] (over next stack o.no_next o.no_stack (sym o.same)))
    where
      over : (next : Option ExprId) (stack : List Expected) → next ≡ None → stack ≡ [] → taken ≡ now → Comes s next stack taken now []
      over next stack e f h = subst (λ n. Comes s n stack taken now []) (sym e) (subst (λ k. Comes s None k taken now []) (sym f) (refl, h))
