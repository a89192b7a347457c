-- What stands behind an object, and what a list's node tells.
use Rattle.std.proofs.Common.{◌≡◌, ℕ, ◌<◌, ◌≤◌, List, [], ◌∷◌, length, arith, refl, sym, ap, subst, Some, None}
use Rattle.bz_model.specs.Spec.{Spec, Node, Range, node_at, range_at, IsWithinHigh}
use Rattle.class_system.specs.Sound.{IsSound, IsTextRange}
use Rattle.class_system.specs.declared.ids.ExprId.{ExprId}
use Rattle.object_store.proofs.InRange.{part-below}
use Rattle.object_text.specs.declared.parsed.Kind.{Kind}
use Rattle.object_text.specs.declared.parsed.Kind.TheVariants.{Sequence, Set, Cycle}
use Rattle.object_text.specs.declared.parse_stack.Expected.{Expected}
use Rattle.object_text.specs.declared.parse_stack.Expected.TheVariants.{Close, Part}
use Rattle.object_text.specs.Taken.{Taken}
use Rattle.object_text.specs.Scanning.{IsOther, Faults}
use Rattle.object_text.specs.Expected.{list_node, ReadsObject, Reads, Comes, AllCanCome, HasObjects, Moves}
use Rattle.object_text.proofs.Scans.{word-steps, word-faults, byte-differs}
use Rattle.object_text.proofs.Living.{lives-object, lives-stack, can-come-later}

-- A list's part is a node, and its range allows a part and as many as it demands.
pub record ListFacts (s : Spec) (part : ℕ) (r : Range) : Type 0 where
  pub below : part < length s.nodes
  pub some : IsWithinHigh r.low r.high
  pub one : IsWithinHigh 1 r.high

range-facts : (low : ℕ) (r : Range) → low ≤ 1 → IsTextRange low r → IsWithinHigh r.low r.high × IsWithinHigh 1 r.high
range-facts low r small (IsTextRange.plain e) = subst (λ (q : Range). IsWithinHigh q.low q.high × IsWithinHigh 1 q.high) (sym e) (tt, tt)
range-facts low r small (IsTextRange.at_least k b e) = subst (λ (q : Range). IsWithinHigh q.low q.high × IsWithinHigh 1 q.high) (sym e) (tt, tt)
range-facts low r small (IsTextRange.at_most k b e) = let one = b.from_one in subst (λ (q : Range). IsWithinHigh q.low q.high × IsWithinHigh 1 q.high) (sym e) (omega arith, omega arith)
range-facts low r small (IsTextRange.exactly k b e) = let one = b.from_one in subst (λ (q : Range). IsWithinHigh q.low q.high × IsWithinHigh 1 q.high) (sym e) (omega arith, omega arith)

-- For a sound specification, the part of a list's node is a node, and the list's range allows one
-- part and its own least number of parts.
pub list-facts : (s : Spec) → IsSound s → (e : ℕ) (kind : Kind) (part : ℕ) (r : Range) → node_at s e ≡ Some (list_node kind part) → range_at s e ≡ Some r → ListFacts s part r
list-facts s sound e kind part r at range = record { below = go kind at; some = (facts kind at).0; one = (facts kind at).1 }
  where
    go : (kind : Kind) → node_at s e ≡ Some (list_node kind part) → part < length s.nodes
    go Sequence at = part-below s sound e part (Node.Seq part) at (record { place = 0; is_there = refl })
    go Set at = part-below s sound e part (Node.Set part) at (record { place = 0; is_there = refl })
    go Cycle at = part-below s sound e part (Node.Cyc part) at (record { place = 0; is_there = refl })

    facts : (kind : Kind) → node_at s e ≡ Some (list_node kind part) → IsWithinHigh r.low r.high × IsWithinHigh 1 r.high
    facts Sequence at = range-facts 0 r (omega arith) (sound.ranges.at e (Node.Seq part) r at range)
    facts Set at = range-facts 0 r (omega arith) (sound.ranges.at e (Node.Set part) r at range)
    facts Cycle at = range-facts 1 r (omega arith) (sound.ranges.at e (Node.Cyc part) r at range)

module _ (s : Spec) (have : HasObjects s) (text rest : List ℕ) (stack : List Expected) (taken : Taken) (can : AllCanCome s (length text) stack) where
  abbrev Behind : Taken → List ℕ → Type 0
  Behind = λ whole other. Reads s whole stack other taken

  -- a closing parenthesis
  pub close-moves : text ≡ 41 ∷ rest → Moves s (Comes s None (Close ∷ stack) taken) text None stack taken rest
  close-moves split =
      let less : length rest < length text = omega (arith, ap length split) in
      record { shorter = less; next_below = tt; can_come = can-come-later s (length text) (length rest) stack (omega arith) can; steps = word-steps (41 ∷ []) Behind text rest split }

  pub close-faults : (left : ℕ) → left ≡ length text → IsOther 41 text → Faults (Comes s None (Close ∷ stack) taken) text left
  close-faults left count other =
      let k = lives-stack s have (length text) stack can taken in
      word-faults (41 ∷ []) Behind text k.more left (byte-differs 41 text left count other) k.accepts

  -- a space before another part
  module _ (e : ExprId) (below : e.0 < length s.nodes) where
    abbrev Another : Taken → List ℕ → Type 0
    Another = λ whole other. ReadsObject s e.0 (Reads s whole stack) other taken

    pub part-moves : text ≡ 32 ∷ rest → Moves s (Comes s None (Part e ∷ stack) taken) text (Some e) stack taken rest
    part-moves split =
        let less : length rest < length text = omega (arith, ap length split) in
        record { shorter = less; next_below = below; can_come = can-come-later s (length text) (length rest) stack (omega arith) can; steps = word-steps (32 ∷ []) Another text rest split }

    pub part-faults : (left : ℕ) → left ≡ length text → IsOther 32 text → Faults (Comes s None (Part e ∷ stack) taken) text left
    part-faults left count other =
        let k = lives-object s have e.0 below (λ whole other t. Reads s whole stack other t) (λ t. lives-stack s have (length text) stack can t) taken in
        word-faults (32 ∷ []) Another text k.more left (byte-differs 32 text left count other) k.accepts
