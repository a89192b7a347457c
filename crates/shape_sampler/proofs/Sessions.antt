-- A session belongs after its attempt began or went on.
use Rattle.std.proofs.Common.{◌≡◌, ◌≢◌, ℕ, ◌<◌, List, [], ◌∷◌, length, sym, ◌∙◌, ap, subst, None, Some}
use Rattle.bz_model.specs.declared.cell.Cell.{Cell}
use Rattle.bz_model.specs.Fraction.{Fraction}
use Rattle.bz_model.specs.Spec.{Spec, body_of}
use Rattle.bz_model.specs.Cell.{AreCells}
use Rattle.object_store.specs.declared.token.Token.{Token}
use Rattle.object_store.specs.Walk.{AllBelow}
use Rattle.shape_sampler.specs.declared.stepped.Stepped.{Stepped}
use Rattle.shape_sampler.specs.declared.stepped.Stepped.TheVariants.{Moved, Made, Overshot, Straddles, Ended, ReadFault, OutOfMemory}
use Rattle.shape_sampler.specs.Belonging.{Belonging, IsIdealShape, IsIdealOver}
use Rattle.shape_sampler.specs.State.{SessionState, SessionBelongs, Runs, Leaves, attempt_of, begun_state, emptied, stopped_by}
use Rattle.shape_sampler.specs.Answer.{told_visit, IsIdealAnswer}
use Rattle.shape_sampler.proofs.Ideal.{IsIdealVisit}
use Rattle.shape_sampler.proofs.Visits.{begins}

begun-belongs : (s : Spec) (x : Fraction) (st : SessionState) → SessionBelongs s x st → SessionBelongs s x (begun_state st)
begun-belongs s x st b = record {
  root = b.root;
  root_in_range = b.root_in_range;
  attempt = record { in_range = (b.root_in_range, tt); goes_on = λ some. begins s x st.whole st.root b.root };
  cells = tt;
}

-- A session that belongs still does with an attempt begun: the root alone pending, nothing made,
-- and the whole room left.
pub begun-belongs-at : (s : Spec) (x : Fraction) (st : SessionState) (es : List ℕ) (ts : List Token) (cs : List Cell) → es ≡ st.root ∷ [] → ts ≡ [] → cs ≡ [] → SessionBelongs s x st → SessionBelongs s x (record st { pending = es; tokens = ts; cells = cs; room = st.whole; stopped = None })
begun-belongs-at s x st es ts cs pending tokens cells b =
    subst (λ fs. SessionBelongs s x (record st { pending = fs; tokens = ts; cells = cs; room = st.whole; stopped = None })) (sym pending)
    (subst (λ us. SessionBelongs s x (record st { pending = st.root ∷ []; tokens = us; cells = cs; room = st.whole; stopped = None })) (sym tokens)
    (subst (λ ds. SessionBelongs s x (record st { pending = st.root ∷ []; tokens = []; cells = ds; room = st.whole; stopped = None })) (sym cells)
    (begun-belongs s x st b)))

-- with nothing pending it belongs whatever its tokens and cells are
pub emptied-belongs : (s : Spec) (x : Fraction) (st : SessionState) → st.pending ≡ [] → SessionBelongs s x st → SessionBelongs s x (emptied st)
emptied-belongs s x st made b = record { root = b.root; root_in_range = b.root_in_range; attempt = record { in_range = b.attempt.in_range; goes_on = λ some. absurd (some made) }; cells = tt }

stopped-belongs : (s : Spec) (x : Fraction) (st : SessionState) (answer : Stepped) → SessionBelongs s x st → SessionBelongs s x (stopped_by st answer)
stopped-belongs s x st answer b = record { root = b.root; root_in_range = b.root_in_range; attempt = record { in_range = b.attempt.in_range; goes_on = b.attempt.goes_on }; cells = b.cells }

still : (s : Spec) (x : Fraction) (before now : SessionState) (used : ℕ) → SessionBelongs s x before → Runs before now → AreCells now.cells → Belonging s x before.whole (attempt_of now used) → SessionBelongs s x now
still s x before now used b r cells k = record {
  root = b.root ∙ ap Some (sym r.root);
  root_in_range = subst (λ n. n < length s.nodes) (sym r.root) b.root_in_range;
  attempt = subst (λ w. Belonging s x w (attempt_of now 0)) (sym r.whole) (record { in_range = k.in_range; goes_on = k.goes_on });
  cells = cells;
}

-- a session that belongs still belongs after an ideal visit, and its answer is ideal
pub still-belongs : (s : Spec) (x : Fraction) (before now : SessionState) (answer : Stepped) (used : ℕ) → SessionBelongs s x before → Leaves answer before now → AreCells now.cells → (answer ≢ OutOfMemory → IsIdealVisit s x before.whole (told_visit answer now used)) → SessionBelongs s x now × IsIdealAnswer s x answer now
still-belongs s x before now Moved used b l cells v = let i = v (λ e. cc) in (still s x before now used b l.0 cells i.0, tt)
still-belongs s x before now Made used b l cells v =
    let i = v (λ e. cc) in (
      still s x before now used b l.0 cells i.0,
      subst (λ w. IsIdealShape s x w now.tokens now.cells) (sym l.0.whole) (i.1 l.1),
    )
still-belongs s x before now Overshot used b l cells v =
    let i = v (λ e. cc) in (
      record { root = b.root ∙ ap Some (sym l.0.root); root_in_range = subst (λ n. n < length s.nodes) (sym l.0.root) b.root_in_range; attempt = record { in_range = subst (AllBelow (length s.nodes)) (sym l.1) tt; goes_on = λ some. absurd (some l.1) }; cells = cells },
      subst (λ w. IsIdealOver s x w now.cells) (sym l.0.whole) i,
    )
still-belongs s x before now (Straddles node cell) used b l cells v = (subst (SessionBelongs s x) (sym l) (stopped-belongs s x before (Straddles node cell) b), tt)
still-belongs s x before now Ended used b l cells v = (subst (SessionBelongs s x) (sym l) (stopped-belongs s x before Ended b), tt)
still-belongs s x before now ReadFault used b l cells v = (subst (SessionBelongs s x) (sym l) (stopped-belongs s x before ReadFault b), tt)
still-belongs s x before now OutOfMemory used b l cells v = (subst (SessionBelongs s x) (sym l) b, tt)

-- a session with nothing pending and no cells belongs where it knows the body of class 0
pub idle-belongs : (s : Spec) (x : Fraction) (st : SessionState) → body_of s 0 ≡ Some st.root → st.root < length s.nodes → st.pending ≡ [] → st.cells ≡ [] → SessionBelongs s x st
idle-belongs s x st root root_in_range pending cells = record {
  root = root;
  root_in_range = root_in_range;
  attempt = record { in_range = subst (AllBelow (length s.nodes)) (sym pending) tt; goes_on = λ some. absurd (some pending) };
  cells = subst AreCells (sym cells) tt;
}
