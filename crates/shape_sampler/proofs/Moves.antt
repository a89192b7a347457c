-- Visits that moved on, one after the other.
use Rattle.std.proofs.Common.{◌≡◌, ◌≢◌, ℕ, zero, suc, ◌+◌, ◌-◌, ◌<◌, ◌≤◌, arith, List, [], ◌∷◌, ◌++◌, replicate, append-nil, append_assoc, length, refl, sym, ◌∙◌, ap, subst, Bool, true, false, Option, Some, None, slice_get}
use Rattle.std.specs.Prelude.{IsTrue, IsFalse}
use Rattle.std.proofs.lemmas.List.{length-append}
use Rattle.bz_model.specs.declared.cell.Cell.{Cell}
use Rattle.bz_model.specs.declared.cell.Bounds.{Bounds}
use Rattle.bz_model.specs.Fraction.{Fraction}
use Rattle.bz_model.specs.Spec.{Spec, Node, node_at}
use Rattle.bz_model.specs.Cell.{IsCell}
use Rattle.bit_tape.specs.Tape.{TapeState, BelongsToShelf, SkipsBits, bits_of_source}
use Rattle.class_system.specs.Sound.{IsSound}
use Rattle.class_system.specs.declared.ids.ExprId.{ExprId}
use Rattle.choice_draw.specs.declared.drawn.Drawn.TheVariants as drawn
use Rattle.choice_draw.specs.Decision.{Choice, level_for, union_decision}
use Rattle.choice_draw.specs.Draw.{Bit, Draw}
use Rattle.choice_draw.specs.Answer.{IsDraw}
use Rattle.choice_draw.specs.IdealOfCell.{IsIdealOfCell}
use Rattle.object_store.specs.Walk.{AllBelow}
use Rattle.object_store.specs.declared.token.Token.TheVariants as token
use Rattle.shape_sampler.specs.declared.stepped.Stepped.TheVariants.{Moved}
use Rattle.shape_sampler.specs.Visit.{Chooser, Attempt, Visited, node_visited, visit_among, visit}
use Rattle.shape_sampler.specs.State.{SessionState, SessionBelongs, Leaves, attempt_of}
use Rattle.shape_sampler.specs.Answer.{told_visit, IsPlainVisit, IsVisitOfAll, room_atom_visited}
use Rattle.shape_sampler.specs.Ahead.{IsMove, AreMoves, MovesOn, TakesAtoms}
use Rattle.shape_sampler.proofs.Ideal.{IsIdealVisit, ideal-atom}
use Rattle.shape_sampler.proofs.Plain.{Front, front, plain-session, plain-by-bits, plain-draws}
use Rattle.shape_sampler.proofs.PlainMoves.{atom-move}
use Rattle.shape_sampler.proofs.Union.{Settled, same-state, union-leaves, union-draws, union-session, answer-by-bits}

-- a list with a first item isn't empty
pub some-pending : (es : List ℕ) (e : ℕ) → slice_get es 0 ≡ Some e → es ≢ []
some-pending es e first none = let f = front es e first in let whole = f.whole in absurd (cc)

-- a pending node is below what all of them are below
pub first-below : (n : ℕ) (es : List ℕ) (e : ℕ) → AllBelow n es → slice_get es 0 ≡ Some e → e < n
first-below n [] e below first = absurd (cc)
first-below n (f ∷ es) e below first = let same : f ≡ e = cc in subst (λ d. d < n) same below.0

-- it has an item
some-length : (es : List ℕ) → es ≢ [] → 0 < length es
some-length [] some = absurd (some refl)
some-length (e ∷ es) some = omega arith

-- a visit that looks at the first pending node alone is that of every chooser
pub all-visit : (s : Spec) (before now : SessionState) (e : ℕ) (n : Node) (visited : Attempt → List ℕ → Visited) → slice_get before.pending 0 ≡ Some e → node_at s e ≡ Some n → ((c : Chooser) (bit : ℕ → Bit) (a : Attempt) (rest : List ℕ) → visited a rest ≡ node_visited c bit a e rest (Some n)) → IsPlainVisit visited before Moved now → IsVisitOfAll s before Moved now
all-visit s before now e n visited first at looks p = record { same = same }
  where
    f : Front before.pending e
    f = front before.pending e first

    same : (c : Chooser) (bit : ℕ → Bit) (used : ℕ) → c.spec ≡ s → told_visit Moved now used ≡ visit c bit (attempt_of before used)
    same c bit used is =
        let a = attempt_of before used in
        let node : node_at c.spec e ≡ Some n = ap (λ (t : Spec). node_at t e) is ∙ at in
        p.same (λ other. cc) e f.rest used f.whole
        ∙ looks c bit a f.rest
        ∙ ap (node_visited c bit a e f.rest) (sym node)
        ∙ ap (visit_among c bit a) (sym f.whole)

module _ (s : Spec) (x : Fraction) (F : ℕ) (table : (level e : ℕ) → Bounds) (raised : ℕ) where
  -- one move
  pub one-move : (before : SessionState) (tape : TapeState) (now : SessionState) (tape_now : TapeState) → Leaves Moved before now → SessionBelongs s x now → tape_now.source ≡ tape.source → tape.used ≤ tape_now.used → ((contents : List ℕ → Option (List ℕ)) → BelongsToShelf contents tape → BelongsToShelf contents tape_now) → ((contents : List ℕ → Option (List ℕ)) → BelongsToShelf contents tape → IsMove s x F table (bits_of_source tape.source contents) raised before tape.used now tape_now.used) → MovesOn s x F table raised 1 before tape now tape_now
  one-move before tape now tape_now leaves session source used belongs move = record {
    moves = λ contents h. AreMoves.further (AreMoves.still refl refl) (move contents h);
    session = session;
    running = leaves.0.stopped;
    whole = leaves.0.whole;
    root = leaves.0.root;
    source = source;
    used = used;
    belongs = belongs;
  }

  -- the visit of a node that takes no number is one
  pub plain-moves : (before now : SessionState) (tape : TapeState) (e : ℕ) (visited : Attempt → List ℕ → Visited) → before.stopped ≡ None → slice_get before.pending 0 ≡ Some e → SessionBelongs s x before → IsPlainVisit visited before Moved now → IsVisitOfAll s before Moved now → ((rest : List ℕ) → before.pending ≡ e ∷ rest → IsIdealVisit s x before.whole (visited (attempt_of before 0) rest)) → MovesOn s x F table raised 1 before tape now tape
  plain-moves before now tape e visited running first b p all ideal =
      let session = (plain-session s x before now Moved e visited first p b ideal).0 in
      one-move before tape now tape p.leaves session refl (omega arith) (λ contents h. h) (λ contents h. record {
        going = running;
        pending = some-pending before.pending e first;
        leaves = p.leaves;
        draws = plain-draws Moved before now tape.used tape.used tt p.cells;
        exact = plain-by-bits s F table (bits_of_source tape.source contents) before now Moved tape.used tt (λ ne. all);
        session = session;
        from = omega arith;
        few = omega arith;
        level = omega arith;
      })

  -- so is that of a union whose option was drawn by bits that were read ahead
  pub union-moves : (node : ExprId) (parts : List ℕ) (option : ℕ) (cell : Cell) (before now : SessionState) (tape tape_now : TapeState) → before.stopped ≡ None → slice_get before.pending 0 ≡ Some node.0 → node_at s node.0 ≡ Some (Node.Union parts) → IsSound s → SessionBelongs s x before → Settled node parts (drawn.Value option cell) before now → IsCell cell.k cell.b → option < length parts → IsIdealOfCell s x node.0 cell option → SkipsBits tape cell.b tape_now → level_for (tape_now.used - tape.used) ≤ raised → ((contents : List ℕ → Option (List ℕ)) → BelongsToShelf contents tape → IsDraw (union_decision s table node.0) (bits_of_source tape.source contents) tape.used tape_now.used (Draw.Decided (Choice.Take option) cell)) → MovesOn s x F table raised 1 before tape now tape_now
  union-moves node parts option cell before now tape tape_now running first at sound b settled is_cell within ideal skips level draws =
      let d = drawn.Value option cell in
      let leaves = union-leaves node parts before now first d settled in
      let session = (union-session node parts before now first s at x sound d settled is_cell ideal within b).0 in
      let uses = skips.used in
      let few = is_cell.few_bits in
      one-move before tape now tape_now leaves session skips.source (omega arith) skips.belongs (λ contents h. record {
        going = running;
        pending = some-pending before.pending node.0 first;
        leaves = leaves;
        draws = union-draws node parts before now first d tape.used tape_now.used settled skips.used is_cell;
        exact = answer-by-bits node parts before now first d Moved refl settled s at F table (bits_of_source tape.source contents) tape.used tape_now.used (draws contents h);
        session = session;
        from = omega arith;
        few = omega arith;
        level = level;
      })

  -- moves after moves
  joined : {told : Option (ℕ → Option Bool)} {n m : ℕ} {before mid now : SessionState} {start place used : ℕ} → AreMoves s x F table told raised n before start mid place → AreMoves s x F table told raised m mid place now used → AreMoves s x F table told raised (n + m) before start now used
  joined {told} {n} {before = before} {mid = mid} {now = now} {start = start} {place = place} {used = used} first (AreMoves.still same there) =
      subst (λ k. AreMoves s x F table told raised k before start now used) (let e : n ≡ n + 0 = omega arith in e)
      (subst (λ st. AreMoves s x F table told raised n before start st used) (sym same)
      (subst (λ u. AreMoves s x F table told raised n before start mid u) (sym there) first))
  joined {told} {n} {before = before} {now = now} {start = start} {used = used} first (AreMoves.further {n = m} h last) =
      subst (λ k. AreMoves s x F table told raised k before start now used) (let e : suc (n + m) ≡ n + suc m = omega arith in e)
      (AreMoves.further (joined first h) last)

  -- no move yet
  pub none-moved : (now : SessionState) (tape : TapeState) → now.stopped ≡ None → SessionBelongs s x now → MovesOn s x F table raised 0 now tape now tape
  none-moved now tape running session = record {
    moves = λ contents h. AreMoves.still refl refl;
    session = session;
    running = running;
    whole = refl;
    root = refl;
    source = refl;
    used = omega arith;
    belongs = λ contents h. h;
  }

  -- one move where it is told, and else none
  pub told-moves : (told : Bool) (n : ℕ) (before now : SessionState) (tape tape_now : TapeState) → (IsTrue told → n ≡ 1) → (IsFalse told → n ≡ 0) → before.stopped ≡ None → SessionBelongs s x before → (IsTrue told → MovesOn s x F table raised 1 before tape now tape_now) → (IsFalse told → (now ≡ before) × (tape_now ≡ tape)) → MovesOn s x F table raised n before tape now tape_now
  told-moves true n before now tape tape_now one none running session moved left = subst (λ k. MovesOn s x F table raised k before tape now tape_now) (sym (one (cc))) (moved (cc))
  told-moves false n before now tape tape_now one none running session moved left =
      let same = left (cc) in
      subst (λ k. MovesOn s x F table raised k before tape now tape_now) (sym (none (cc)))
      (subst (λ st. MovesOn s x F table raised 0 before tape st tape_now) (sym same.0)
      (subst (λ t. MovesOn s x F table raised 0 before tape before t) (sym same.1) (none-moved before tape running session)))

  -- further moves
  pub more-moved : (n m : ℕ) (before mid now : SessionState) (tape tape_mid tape_now : TapeState) → MovesOn s x F table raised n before tape mid tape_mid → MovesOn s x F table raised m mid tape_mid now tape_now → MovesOn s x F table raised (n + m) before tape now tape_now
  more-moved n m before mid now tape tape_mid tape_now a b = record {
    moves = λ contents h. joined (a.moves contents h) (subst (λ source. AreMoves s x F table (bits_of_source source contents) raised m mid tape_mid.used now tape_now.used) a.source (b.moves contents (a.belongs contents h)));
    session = b.session;
    running = b.running;
    whole = b.whole ∙ a.whole;
    root = b.root ∙ a.root;
    source = b.source ∙ a.source;
    used = let first = a.used in let then = b.used in omega arith;
    belongs = λ contents h. b.belongs contents (a.belongs contents h);
  }

  -- atoms that stand first, one after the other, are so many moves
  pub atoms-moves : (k : ℕ) (before now : SessionState) (tape : TapeState) (e : ℕ) (word : List ℕ) → node_at s e ≡ Some (Node.Atom word) → before.stopped ≡ None → SessionBelongs s x before → TakesAtoms e k before now → MovesOn s x F table raised k before tape now tape
  atoms-moves zero before now tape e word at running session t =
      let tokens : now.tokens ≡ before.tokens = t.tokens ∙ append-nil before.tokens in
      let room : now.room ≡ before.room = t.room ∙ (let same : before.room - 0 ≡ before.room = omega arith in same) in
      subst (λ st. MovesOn s x F table raised 0 before tape st tape) (sym (same-state now before t.root t.whole (sym t.pending) tokens t.cells room t.stopped)) (none-moved before tape running session)
  atoms-moves (suc k) before now tape e word at running session t =
      let enough = t.enough in
      let after : List ℕ = replicate k e ++ now.pending in
      let mid : SessionState = record before { pending = after; tokens = before.tokens ++ token.Dot ∷ []; room = before.room - 1 } in
      let first : slice_get before.pending 0 ≡ Some e = ap (λ es. slice_get es 0) t.pending in
      let others = some-length now.pending (t.waits (omega arith)) in
      let count = ap length t.pending ∙ ap suc (length-append (replicate k e) now.pending) in
      let visited = atom-move before running after (before.tokens ++ token.Dot ∷ []) (λ none. let many = enough in absurd (omega arith)) (omega arith) (λ f rest whole. let is = t.pending in let other = whole in cc) refl in
      let one = plain-moves before mid tape e room_atom_visited running first session visited
      (all-visit s before mid e (Node.Atom word) room_atom_visited first at (λ chooser bit a rest. refl) visited)
      (λ rest pending. ideal-atom s x before.whole (attempt_of before 0) session.attempt e rest pending word at before.room refl) in
      let left : now.room ≡ before.room - 1 - k = t.room ∙ (let same : before.room - suc k ≡ before.room - 1 - k = omega arith in same) in
      let next = atoms-moves k mid now tape e word at running one.session (record {
        root = t.root;
        whole = t.whole;
        pending = refl;
        waits = λ some. t.waits (omega arith);
        tokens = t.tokens ∙ sym (append_assoc before.tokens (token.Dot ∷ []) (replicate k token.Dot));
        cells = t.cells;
        enough = omega arith;
        room = left;
        stopped = t.stopped;
      }) in
      subst (λ n. MovesOn s x F table raised n before tape now tape) (let sum : 1 + k ≡ suc k = omega arith in sum) (more-moved 1 k before mid now tape tape tape one next)
