-- Pools before their first turn.
use Rattle.std.proofs.Common.{◌≡◌, ℕ, arith, List, [], ◌∷◌, ◌++◌, refl, sym, ◌∙◌, ap, subst}
use Rattle.std.specs.Prelude.{Option, Some, None, IfSome, option_map, map, slice_get, slice_index_or}
use Rattle.std.specs.List.{All}
use Rattle.std.proofs.lemmas.List.{map-append}
use Rattle.std.proofs.lemmas.List.Elements.{All-push}
use Rattle.std.proofs.lemmas.List.Sums.{sum_by-le}
use Rattle.std.proofs.lemmas.Option.{slice_get_within, get_or_from_slice_get, slice_get-map}
use Rattle.bit_tape.specs.Tape.{TapeState, bits_of_source}
use Rattle.size_window.specs.declared.ending.Ending.{Ending as Told}
use Rattle.size_window.specs.RunByBits.{Limits, RunState, at_start}
use Rattle.size_window.specs.Drawing.{ending_of}
use Rattle.size_window.specs.Turn.{entry_of}
use Rattle.size_window.specs.Trace.{HasTrace, TracesStart}
use Rattle.session_pool.specs.Member.{MemberState, IsNewMember}
use Rattle.session_pool.specs.Pool.{tapes_of, sources_of}
use Rattle.session_pool.specs.Interleaving.{Shared, IsMemberAfter, IsPoolAfter, WasAsked, EndedRightly, failures}
use Rattle.session_pool.proofs.Failures.{mark, going-mark}

-- one more tape, and one more member over it
pub tapes-and-one : (tapes : List TapeState) (pool : List MemberState) (tape : TapeState) (m : MemberState) → tapes_of pool ≡ tapes → m.tape ≡ tape → tapes_of (pool ++ m ∷ []) ≡ tapes ++ tape ∷ []
tapes-and-one tapes pool tape m same at = map-append (λ (k : MemberState). k.tape) pool (m ∷ []) ∙ (ap (λ ts. ts ++ m.tape ∷ []) same ∙ ap (λ t. tapes ++ t ∷ []) at)

-- Where each member of a pool is new with the limits, so is each after another new member is put at
-- the end.
pub new-and-one : (limits : Limits) (pool : List MemberState) (tape : TapeState) (m : MemberState) → All (λ k. IsNewMember limits k.tape k) pool → IsNewMember limits tape m → All (λ k. IsNewMember limits k.tape k) (pool ++ m ∷ [])
new-and-one limits pool tape m each one = All-push (λ k. IsNewMember limits k.tape k) pool m each (subst (λ t. IsNewMember limits t m) (sym one.same_tape) one)

-- a drawing that starts hasn't ended
not-ended : (o : Option Told) → option_map ending_of o ≡ None → o ≡ None
not-ended None e = refl
not-ended (Some ending) e = absurd (cc)

new-going : (limits : Limits) (tape : TapeState) (m : MemberState) → IsNewMember limits tape m → m.drawing.ending ≡ None
new-going limits tape m new = not-ended m.drawing.ending (ap (λ (st : RunState). st.ending) new.state)

-- it stands where no turn leaves it
new-member : TracesStart → (w : Shared) (limits : Limits) (counts : List ℕ → ℕ) (m : MemberState) → IsNewMember limits m.tape m → m.tape.used ≡ 0 → IsMemberAfter w limits counts counts 0 m
new-member starts w limits counts m new unused =
    let going = new-going limits m.tape m new in
    record {
      most = 0;
      course = at_start;
      trace = subst (λ used. HasTrace w.spec w.x w.F w.table limits (bits_of_source m.tape.source w.contents) 0 m.drawing used 0 at_start) (sym unused) (starts w.spec w.x w.F w.table limits (bits_of_source m.tape.source w.contents) m.drawing new.state new.same_limits new.atoms);
      entries = sym (ap (map entry_of) new.entries);
      asked = subst (WasAsked 0 m.drawing) (sym going) (ap (λ (st : RunState). st.turns) new.state);
      ended = subst (λ o. IfSome o (EndedRightly w limits m.tape.source counts counts m.drawing)) (sym going) tt;
    }

-- the tapes' sources
sources-are : (pool : List MemberState) → sources_of pool ≡ map (λ (t : TapeState). t.source) (tapes_of pool)
sources-are [] = refl
sources-are (m ∷ pool) = ap (λ ss. m.tape.source ∷ ss) (sources-are pool)

-- no drawing has failed
none-failed : (limits : Limits) (pool : List MemberState) (name : List ℕ) → All (λ m. IsNewMember limits m.tape m) pool → failures name pool ≡ 0
none-failed limits pool name each =
    let few = sum_by-le (λ (m : MemberState). mark name m.tape.source m.drawing.ending) 0 pool (λ k d lt.
    let m = slice_index_or pool k d in
    let none : mark name m.tape.source m.drawing.ending ≡ 0 = ap (mark name m.tape.source) (new-going limits m.tape m (each k d lt)) ∙ going-mark name m.tape.source in
    omega (arith, none)) in
    omega (arith, few)

-- a new pool stands where no turn leaves it
pub new-pool : TracesStart → (w : Shared) (limits : Limits) (counts : List ℕ → ℕ) (tapes : List TapeState) (pool : List MemberState) → tapes_of pool ≡ tapes → All (λ m. IsNewMember limits m.tape m) pool → All (λ tape. tape.used ≡ 0) tapes → IsPoolAfter w limits (map (λ (t : TapeState). t.source) tapes) counts counts [] pool
new-pool starts w limits counts tapes pool same each unused = record {
  same_sources = sources-are pool ∙ ap (map (λ (t : TapeState). t.source)) same;
  each = λ number m at.
      let new = subst (λ (k : MemberState). IsNewMember limits k.tape k) (get_or_from_slice_get pool number m m at) (each number m (slice_get_within pool number m at)) in
      let tape-at : slice_get tapes number ≡ Some m.tape = ap (λ ts. slice_get ts number) (sym same) ∙ (slice_get-map (λ (k : MemberState). k.tape) pool number ∙ ap (option_map (λ (k : MemberState). k.tape)) at) in
      let none = subst (λ (t : TapeState). t.used ≡ 0) (get_or_from_slice_get tapes number m.tape m.tape tape-at) (unused number m.tape (slice_get_within tapes number m.tape tape-at)) in
      new-member starts w limits counts m new none;
  rose = λ name. omega arith;
  failed = λ name. let none = none-failed limits pool name each in omega (arith, none);
  only = λ name. omega arith;
}
