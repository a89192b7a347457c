-- Visits of nodes that take no number.
use Rattle.std.proofs.Common.{◌≡◌, ◌≢◌, ℕ, List, [], ◌∷◌, append-nil, refl, sym, ◌∙◌, ap, subst, Option, Some, Bool, false, max, ◌-◌, ◌≤◌, map, length, arith, slice_get, slice_index}
use Rattle.std.proofs.lemmas.List.{length-map}
use Rattle.std.proofs.lemmas.Option.{get_or_from_slice_get}
use Rattle.bz_model.specs.Fraction.{Fraction}
use Rattle.bz_model.specs.Spec.{Spec, Node, node_at, body_of}
use Rattle.bz_model.specs.Cell.{AreCells}
use Rattle.bit_tape.specs.Tape.{TapeState, BelongsToShelf, LeavesTape}
use Rattle.bit_tape.proofs.GivenBits.{gave-none}
use Rattle.bit_tape.proofs.Leaving.{leaves-none}
use Rattle.choice_draw.proofs.ToldDraws.{on_any}
use Rattle.bz_model.specs.declared.cell.Bounds.{Bounds}
use Rattle.class_system.specs.declared.expr.Expr.{Expr}
use Rattle.class_system.specs.declared.expr.Expr.TheVariants as expr
use Rattle.class_system.specs.declared.ids.ExprId.{ExprId}
use Rattle.class_system.specs.Views.{number, spec_node}
use Rattle.class_system.specs.Limits.{IsWithinLimits}
use Rattle.choice_draw.specs.Decision.{IsUnion, level_for}
use Rattle.choice_draw.specs.Draw.{Bit, bit_of}
use Rattle.shape_sampler.specs.declared.stepped.Stepped.{Stepped}
use Rattle.shape_sampler.specs.declared.stepped.Stepped.TheVariants.{Moved, Made, Overshot, Straddles, Ended, ReadFault, OutOfMemory}
use Rattle.shape_sampler.specs.Visit.{Chooser, Attempt, Visited, node_visited, visit_among, visit, with_pending}
use Rattle.shape_sampler.specs.State.{SessionState, SessionBelongs, attempt_of}
use Rattle.shape_sampler.specs.Answer.{told_visit, visit_fault_place, is_visit_fault, EndsThere, IsVisitByBits, IsPlainVisit, IsVisitOfAll, IsIdealAnswer, IsPlainAnswer, Draws, replaced_by}
use Rattle.shape_sampler.proofs.Ideal.{IsIdealVisit}
use Rattle.shape_sampler.proofs.Sessions.{still-belongs}

-- The first pending node and those after it.
pub record Front (es : List ℕ) (e : ℕ) : Type 0 where
  pub rest : List ℕ
  pub whole : es ≡ e ∷ rest

-- A list of pending nodes with e at its first place is e, followed by the other nodes.
pub front : (es : List ℕ) (e : ℕ) → slice_get es 0 ≡ Some e → Front es e
front [] e h = absurd (cc)
front (f ∷ es) e h = record { rest = es; whole = let same : f ≡ e = cc in ap (λ g. g ∷ es) same }

-- a session that belongs still belongs after the visit, and its answer is ideal
pub plain-session : (s : Spec) (x : Fraction) (before now : SessionState) (answer : Stepped) (e : ℕ) (visited : Attempt → List ℕ → Visited) → slice_get before.pending 0 ≡ Some e → IsPlainVisit visited before answer now → (b : SessionBelongs s x before) → ((rest : List ℕ) → before.pending ≡ e ∷ rest → IsIdealVisit s x before.whole (visited (attempt_of before 0) rest)) → SessionBelongs s x now × IsIdealAnswer s x answer now
plain-session s x before now answer e visited first p b ideal =
    let f = front before.pending e first in
    still-belongs s x before now answer 0 b p.leaves (subst AreCells (sym p.cells) b.cells) (λ ne. subst (IsIdealVisit s x before.whole) (sym (p.same ne e f.rest 0 f.whole)) (ideal f.rest f.whole))

-- the visit of a class
pub class-visit : (s : Spec) (before now : SessionState) (answer : Stepped) (e k body : ℕ) → slice_get before.pending 0 ≡ Some e → node_at s e ≡ Some (Node.Class k) → body_of s k ≡ Some body → IsPlainVisit (replaced_by (body ∷ [])) before answer now → answer ≢ OutOfMemory → IsVisitOfAll s before answer now
class-visit s before now answer e k body first at is_body p ne = record { same = same }
  where
    f : Front before.pending e
    f = front before.pending e first

    same : (c : Chooser) (bit : ℕ → Bit) (used : ℕ) → c.spec ≡ s → told_visit answer now used ≡ visit c bit (attempt_of before used)
    same c bit used is =
        let a = attempt_of before used in
        let node : node_at c.spec e ≡ Some (Node.Class k) = ap (λ (t : Spec). node_at t e) is ∙ at in
        let there : body_of c.spec k ≡ Some body = ap (λ (t : Spec). body_of t k) is ∙ is_body in
        let index : slice_index c.spec.bodies k ≡ body = get_or_from_slice_get c.spec.bodies k body 0 there in
        p.same ne e f.rest used f.whole
        ∙ ap (λ b. Visited.Went (with_pending a (b ∷ f.rest))) (sym index)
        ∙ ap (node_visited c bit a e f.rest) (sym node)
        ∙ ap (visit_among c bit a) (sym f.whole)

-- an answer that needs no tape says nothing of its end, and is no failed read
plain-ends : (answer : Stepped) (used : ℕ) (bits : ℕ → Option Bool) → IsPlainAnswer answer → EndsThere answer used bits
plain-ends Moved used bits plain = tt
plain-ends Made used bits plain = tt
plain-ends Overshot used bits plain = tt
plain-ends OutOfMemory used bits plain = tt
plain-ends (Straddles node cell) used bits plain = tt
plain-ends Ended used bits plain = absurd plain
plain-ends ReadFault used bits plain = tt

plain-no_fault : (answer : Stepped) (stopped : Option Stepped) → IsPlainAnswer answer → false ≡ is_visit_fault answer stopped
plain-no_fault Moved stopped plain = refl
plain-no_fault Made stopped plain = refl
plain-no_fault Overshot stopped plain = refl
plain-no_fault OutOfMemory stopped plain = refl
plain-no_fault (Straddles node cell) stopped plain = refl
plain-no_fault Ended stopped plain = refl
plain-no_fault ReadFault stopped plain = absurd plain

-- it leaves tape and shelf as they were
pub plain-tape : {S : Type 0} (contents : S → List ℕ → Option (List ℕ)) (counts : S → List ℕ → ℕ) (shelf : S) (tape : TapeState) (answer : Stepped) (stopped : Option Stepped) → IsPlainAnswer answer → BelongsToShelf (contents shelf) tape → LeavesTape contents counts (is_visit_fault answer stopped) shelf shelf tape tape
plain-tape contents counts shelf tape answer stopped plain belongs = subst (λ b. LeavesTape contents counts b shelf shelf tape tape) (plain-no_fault answer stopped plain) (leaves-none contents counts shelf tape belongs)

-- so does an answer that is given again
fault-again : (stop : Stepped) (stopped : Option Stepped) → stopped ≡ Some stop → false ≡ is_visit_fault stop stopped
fault-again Moved stopped is = refl
fault-again Made stopped is = refl
fault-again Overshot stopped is = refl
fault-again OutOfMemory stopped is = refl
fault-again (Straddles node cell) stopped is = refl
fault-again Ended stopped is = refl
fault-again ReadFault stopped is = ap (is_visit_fault ReadFault) (sym is)

pub again-tape : {S : Type 0} (contents : S → List ℕ → Option (List ℕ)) (counts : S → List ℕ → ℕ) (shelf : S) (tape : TapeState) (stop : Stepped) (stopped : Option Stepped) → stopped ≡ Some stop → BelongsToShelf (contents shelf) tape → LeavesTape contents counts (is_visit_fault stop stopped) shelf shelf tape tape
again-tape contents counts shelf tape stop stopped is belongs = subst (λ b. LeavesTape contents counts b shelf shelf tape tape) (fault-again stop stopped is) (leaves-none contents counts shelf tape belongs)

-- a visit by every chooser that takes no number was given no bit, and is the one over any bits
pub plain-by-bits : (s : Spec) (F : ℕ) (table : (level e : ℕ) → Bounds) (told : Option (ℕ → Option Bool)) (before now : SessionState) (answer : Stepped) (start : ℕ) → IsPlainAnswer answer → (answer ≢ OutOfMemory → IsVisitOfAll s before answer now) → IsVisitByBits s F table told before start answer now start
plain-by-bits s F table told before now answer start plain h = record {
  given = [];
  gave = gave-none told start;
  ended = on_any told (λ bits. plain-ends answer start bits plain);
  exact = λ bits have ends c by. record { same = λ ne. (h ne).same c (bit_of bits (visit_fault_place answer start)) start by.same_spec };
}

-- out of memory nothing was given
pub none-given : (s : Spec) (F : ℕ) (table : (level e : ℕ) → Bounds) (told : Option (ℕ → Option Bool)) (before now : SessionState) (start : ℕ) → IsVisitByBits s F table told before start OutOfMemory now start
none-given s F table told before now start = plain-by-bits s F table told before now OutOfMemory start tt (λ ne. absurd (ne refl))

-- a visit that takes no number draws no cell
pub plain-draws : (answer : Stepped) (before now : SessionState) (start used : ℕ) → IsPlainAnswer answer → now.cells ≡ before.cells → Draws answer before now start used
plain-draws Moved before now start used plain same = record { more = []; whole = same ∙ sym (append-nil before.cells) }
plain-draws Made before now start used plain same = record { more = []; whole = same ∙ sym (append-nil before.cells) }
plain-draws Overshot before now start used plain same = record { more = []; whole = same ∙ sym (append-nil before.cells) }
plain-draws OutOfMemory before now start used plain same = record { more = []; whole = same ∙ sym (append-nil before.cells) }
plain-draws (Straddles node cell) before now start used plain same = absurd plain
plain-draws Ended before now start used plain same = tt
plain-draws ReadFault before now start used plain same = tt

-- no bit needs no level
pub no-level : (raised used : ℕ) → raised ≡ max raised (level_for (used - used))
no-level raised used = omega arith

-- only a union is seen as one
pub union-seen : (n : Expr) (parts : List ℕ) → spec_node n ≡ Node.Union parts → (ps : List ExprId) × (n ≡ expr.Union ps)
union-seen (expr.Union ps) parts h = (ps, refl)
union-seen (expr.Empty w) parts h = absurd (cc)
union-seen (expr.Atom w) parts h = absurd (cc)
union-seen (expr.Class c) parts h = absurd (cc)
union-seen (expr.Product ps) parts h = absurd (cc)
union-seen (expr.Seq e) parts h = absurd (cc)
union-seen (expr.Set e) parts h = absurd (cc)
union-seen (expr.Cyc e) parts h = absurd (cc)

-- a node that isn't seen as a union is none
pub no-union : (s : Spec) (e : ℕ) (n : Expr) → node_at s e ≡ Some (spec_node n) → ((ps : List ExprId) → n ≡ expr.Union ps → ⊥) → ¬ (IsUnion s e)
no-union s e n at never u = let q : spec_node n ≡ Node.Union u.parts = let h = u.here in cc in let w = union-seen n u.parts q in never w.0 w.1

-- a union within the limits has few parts
pub few-parts : (s : Spec) (limits : IsWithinLimits s) (e : ℕ) (parts : List ExprId) → node_at s e ≡ Some (Node.Union (map number parts)) → length parts ≤ 64
few-parts s limits e parts at = let h = (limits.parts.at e (Node.Union (map number parts)) at).few in omega (arith, length-map parts number)
