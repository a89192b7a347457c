-- Turns that were made ahead go on as turns do.
use Rattle.std.proofs.Common.{◌≡◌, ℕ, suc, ◌+◌, ◌≤◌, ◌/◌, Bool, Option, None, refl, sym, ◌∙◌, ap, subst, arith}
use Rattle.bz_model.specs.declared.cell.Bounds.{Bounds}
use Rattle.bz_model.specs.Fraction.{Fraction}
use Rattle.bz_model.specs.Spec.{Spec}
use Rattle.bit_tape.specs.Tape.{TapeSource, TapeState, ReadsAhead, BelongsToShelf}
use Rattle.shape_sampler.specs.declared.stepped.Stepped.TheVariants as stepped
use Rattle.shape_sampler.specs.State.{SessionState}
use Rattle.shape_sampler.specs.Ahead.{IsMove, AreMoves}
use Rattle.size_window.specs.declared.turned.Turned.TheVariants as answer
use Rattle.size_window.specs.Drawing.{DrawingState, DrawingBelongs, counted}
use Rattle.size_window.specs.Turn.{GoesOn}
use Rattle.size_window.specs.Ahead.{IsGoing, Goes, MayGoAhead, gone_on}
use Rattle.size_window.proofs.Belonging.{Visits, visit-belongs, visit-counted}
use Rattle.size_window.proofs.Settling.{visit-turn}

-- Every tape belongs to a shelf that tells no content.
pub belongs-untold : (tape : TapeState) → BelongsToShelf (λ name. None) tape
belongs-untold tape = record { ahead = by tape.source }
  where
    by : (source : TapeSource) → ReadsAhead source (λ name. None) (tape.used / 8) tape.ahead
    by (TapeSource.Named name) = tt
    by (TapeSource.Seeded seed) = tt

-- where so many turns may be made ahead, fewer may
fewer-ahead : (d : DrawingState) (most n : ℕ) → n ≤ most → MayGoAhead d most → MayGoAhead d n
fewer-ahead d most n few may =
    let fits = may.within in
    record {
      within = omega (arith, few, fits);
      going = λ h. may.going (omega (arith, few, h));
      fewer = λ h. may.fewer (omega (arith, few, h));
      no_shape = λ h. may.no_shape (omega (arith, few, h));
    }

module _ (s : Spec) (x : Fraction) (F : ℕ) (table : (level node : ℕ) → Bounds) (told : Option (ℕ → Option Bool)) (raised : ℕ) where
  -- a drawing whose session moved on, in a turn that is counted
  going : (d : DrawingState) → DrawingBelongs s x d → GoesOn d → d.waiting ≡ None → (start : ℕ) (session : SessionState) (used : ℕ) → IsMove s x F table told raised d.session start session used → IsGoing s x F table told raised d start (counted (record d { session = session })) used
  going d b on no_shape start session used move =
      let v : Visits d = record { on = on; no_shape = no_shape; some = move.pending } in
      let now = counted (record d { session = session }) in
      record {
        ending = (on.going, on.going);
        waiting = no_shape;
        turn = visit-turn s x F table told d b start on no_shape move.pending session used s.mode refl stepped.Moved answer.Going now move.from move.leaves move.draws tt move.exact (refl, refl) (λ e. cc);
        counted = visit-counted s x d b v session move.session answer.Going now s.mode table stepped.Moved used (refl, refl);
        drawing = visit-belongs s x d b v session move.session s.mode refl table stepped.Moved used answer.Going now move.leaves tt (refl, refl);
        from = move.from;
        few = move.few;
        level = move.level;
      }

  module _ (before : DrawingState) (b : DrawingBelongs s x before) (start : ℕ) where
    -- The drawing went on in so many turns, and still belongs.
    pub record Gone (n : ℕ) (session : SessionState) (used : ℕ) : Type 0 where
      pub goes : Goes s x F table told raised n before start (gone_on before session n) used
      pub drawing : DrawingBelongs s x (gone_on before session n)

    -- no turn leaves it as it was
    none-gone : (session : SessionState) (used : ℕ) → session ≡ before.session → used ≡ start → Gone 0 session used
    none-gone session used same unused =
        let stays : gone_on before session 0 ≡ before = ap (λ st. gone_on before st 0) same ∙ ap (λ n. record before { turns = n }) (let e : before.turns + 0 ≡ before.turns = omega arith in e) in
        record { goes = (stays, unused); drawing = subst (DrawingBelongs s x) (sym stays) b }

    -- one turn more
    one-more : (n : ℕ) (mid session : SessionState) (place used : ℕ) → Gone n mid place → GoesOn (gone_on before mid n) → before.waiting ≡ None → IsMove s x F table told raised mid place session used → Gone (suc n) session used
    one-more n mid session place used gone on no_shape move =
        let d = gone_on before mid n in
        let same : counted (record d { session = session }) ≡ gone_on before session (suc n) = ap (λ m. record before { session = session; turns = m }) (let e : before.turns + n + 1 ≡ before.turns + suc n = omega arith in e) in
        let last = subst (λ z. IsGoing s x F table told raised d place z used) same (going d gone.drawing on no_shape place session used move) in
        record { goes = (d, place, gone.goes, last); drawing = last.drawing }

    -- As many turns go on as visits moved on, where so many may be made ahead.
    pub gone-ahead : (n : ℕ) (session : SessionState) (used : ℕ) → AreMoves s x F table told raised n before.session start session used → MayGoAhead before n → Gone n session used
    gone-ahead n session used (AreMoves.still same unused) may = none-gone session used same unused
    gone-ahead m session used (AreMoves.further {n} {mid} {place} moves move) may =
        let some : 1 ≤ suc n = omega arith in
        let fits = may.within in
        one-more n mid session place used
        (gone-ahead n mid place moves (record { within = omega (arith, fits); going = λ h. may.going some; fewer = λ h. may.fewer some; no_shape = λ h. may.no_shape some }))
        (record { going = may.going some; fewer = may.fewer some; more = λ e. absurd (omega (arith, fits, e)) })
        (may.no_shape some) move

  -- The same of a drawing as it stands in `seen`, where no more visits moved on than turns may be made ahead.
  pub gone-seen : (before seen : DrawingState) → seen ≡ before → DrawingBelongs s x before → (most n : ℕ) → MayGoAhead before most → n ≤ most → (start : ℕ) (session : SessionState) (used : ℕ) → AreMoves s x F table told raised n seen.session start session used → Goes s x F table told raised n before start (gone_on seen session n) used × DrawingBelongs s x (gone_on seen session n)
  gone-seen before seen same b most n may few start session used moves =
      let gone = gone-ahead seen (subst (DrawingBelongs s x) (sym same) b) start n session used moves (fewer-ahead seen most n few (subst (λ d. MayGoAhead d most) (sym same) may)) in
      (subst (λ d. Goes s x F table told raised n d start (gone_on seen session n) used) same gone.goes, gone.drawing)
