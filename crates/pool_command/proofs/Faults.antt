-- How many drawings ended with a failed read of a tape.
use Rattle.std.proofs.Common.{◌≡◌, ℕ, suc, ◌+◌, arith, cond, List, [], ◌∷◌, map, refl, sym, ap, ◌∙◌}
use Rattle.std.specs.Prelude.{Some, slice_get, ◌&&◌, if◌then◌else◌}
use Rattle.std.specs.Str.{bytes_eq}
use Rattle.std.proofs.lemmas.List.Sums.{sum_by-append}
use Rattle.bit_tape.specs.Tape.{TapeSource}
use Rattle.size_window.specs.declared.ending.Ending.{Ending as Told}
use Rattle.size_window.specs.declared.ending.Ending.TheVariants as told
use Rattle.size_window.specs.RunByBits.{Ending}
use Rattle.size_window.specs.Drawing.{ending_of}
use Rattle.session_pool.specs.Member.{MemberState}
use Rattle.session_pool.specs.Pool.{sources_of}
use Rattle.session_pool.specs.Interleaving.{failed_on_tape, failures}
use Rattle.pool_command.specs.PoolCommand.{is_read_fault, failures_from}

-- 1 where a drawing ended with a failed read of the tape of this name
abbrev mark : (name : List ℕ) → MemberState → ℕ
mark name m = cond (failed_on_tape name m.tape.source m.drawing.ending) 1 0

one-more : (name : List ℕ) (m : MemberState) (pool : List MemberState) → failures name (m ∷ pool) ≡ mark name m + failures name pool
one-more name m pool =
    let both : failures name (m ∷ pool) ≡ failures name (m ∷ []) + failures name pool = sum_by-append (mark name) (m ∷ []) pool in
    let one : failures name (m ∷ []) ≡ 0 + mark name m = refl in
    omega (arith, both, one)

-- the mark of an ending
same-mark : (name tape : List ℕ) (e : Told) → ◌≡◌ {A = ℕ} (if is_read_fault (ending_of e) && bytes_eq name tape then 1 else 0) (cond (failed_on_tape name (TapeSource.Named tape) (Some e)) 1 0)
same-mark name tape told.Done = refl
same-mark name tape told.TapeEnded = refl
same-mark name tape (told.Undecided straddle) = refl
same-mark name tape told.TurnLimit = refl
same-mark name tape told.ReadFault = refl

mark-at : (name tape : List ℕ) (m : MemberState) (e : Told) → m.tape.source ≡ TapeSource.Named tape → m.drawing.ending ≡ Some e → ◌≡◌ {A = ℕ} (if is_read_fault (ending_of e) && bytes_eq name tape then 1 else 0) (mark name m)
mark-at name tape m e source is = same-mark name tape e ∙ ap (λ o. cond (failed_on_tape name (TapeSource.Named tape) o) 1 0) (sym is) ∙ ap (λ s. cond (failed_on_tape name s m.drawing.ending) 1 0) (sym source)

-- What is told of the endings of drawings: that of each is the one told.
abbrev pub AreTold : (endings : ℕ → Ending) (first : ℕ) → List MemberState → Type 0
AreTold endings first pool = (i : ℕ) (m : MemberState) → slice_get pool i ≡ Some m → (e : Told) × (m.drawing.ending ≡ Some e) × (endings (first + i) ≡ ending_of e)

-- Where all drawings ended as told, over the tapes named, the failed reads of a tape counted from
-- what is told are those counted in the pool.
pub fails-alike : (name : List ℕ) (endings : ℕ → Ending) (first : ℕ) (names : List (List ℕ)) (pool : List MemberState) → sources_of pool ≡ map TapeSource.Named names → AreTold endings first pool → failures_from name endings first names ≡ failures name pool
unfolding failures_from
fails-alike name endings first [] [] same tell = refl
fails-alike name endings first [] (m ∷ pool) same tell = absurd (cc)
fails-alike name endings first (tape ∷ names) [] same tell = absurd (cc)
fails-alike name endings first (tape ∷ names) (m ∷ pool) same tell =
    let source : m.tape.source ≡ TapeSource.Named tape = cc in
    let rest : sources_of pool ≡ map TapeSource.Named names = cc in
    let here = tell 0 m refl in
    let at : endings first ≡ ending_of here.0 = ap endings (let z : first ≡ first + 0 = omega arith in z) ∙ here.2 in
    ap (λ f. (if is_read_fault f && bytes_eq name tape then 1 else 0) + failures_from name endings (suc first) names) at
    ∙ ap (λ k. k + failures_from name endings (suc first) names) (mark-at name tape m here.0 source here.1)
    ∙ ap (λ k. mark name m + k) (fails-alike name endings (suc first) names pool rest (λ i k is. let there = tell (suc i) k is in (there.0, there.1, ap endings (let z : suc first + i ≡ first + suc i = omega arith in z) ∙ there.2)))
    ∙ sym (one-more name m pool)
