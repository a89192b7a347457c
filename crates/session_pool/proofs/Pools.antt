-- A pool after one turn more.
use Rattle.std.proofs.Common.{◌≡◌, ◌≢◌, ℕ, suc, ◌+◌, ◌≤◌, ◌⊎◌, inl, inr, arith, Bool, true, false, cond, List, [], ◌∷◌, ◌++◌, sym, ◌∙◌, ap, subst}
use Rattle.std.specs.Prelude.{Some, slice_get, slice_set, nat_eq}
use Rattle.std.proofs.lemmas.Bool.Decides.{eqb_tells}
use Rattle.std.proofs.lemmas.List.Sums.{fold_push}
use Rattle.std.proofs.lemmas.Option.{same_Some, get_or_from_slice_get}
use Rattle.std.proofs.Math.Seq.{map-set_same}
use Rattle.bit_tape.specs.Tape.{TapeSource}
use Rattle.size_window.specs.RunByBits.{Limits}
use Rattle.size_window.specs.Trace.{TurnsContinueOf}
use Rattle.session_pool.specs.declared.pooled.Pooled.{Pooled}
use Rattle.session_pool.specs.Member.{MemberState}
use Rattle.session_pool.specs.Pool.{sources_of}
use Rattle.session_pool.specs.Turn.{IsPoolTurn}
use Rattle.session_pool.specs.Interleaving.{Shared, IsMemberAfter, IsPoolAfter, how_often}
use Rattle.session_pool.proofs.Replaced.{replaced-here, replaced-elsewhere}
use Rattle.session_pool.proofs.OneTurn.{member-rests, member-turns}
use Rattle.session_pool.proofs.Failures.{failures-on, only-on}

-- 1 where a test passes
abbrev one-if : Bool → ℕ
one-if b = cond b 1 0

-- a number stands once more in a list that ends with it, and as often where it ends with another
times-on : (number : ℕ) (turns : List ℕ) (t : ℕ) → how_often number (turns ++ t ∷ []) ≡ how_often number turns + one-if (nat_eq number t)
times-on number turns t = fold_push (λ (a x : ℕ). a + one-if (nat_eq number x)) 0 turns t

once-more : (number : ℕ) (turns : List ℕ) (t : ℕ) → nat_eq number t ≡ true → how_often number (turns ++ t ∷ []) ≡ suc (how_often number turns)
once-more number turns t is = let more = times-on number turns t in let one : one-if (nat_eq number t) ≡ 1 = ap one-if is in omega (arith, more, one)

as-often : (number : ℕ) (turns : List ℕ) (t : ℕ) → nat_eq number t ≡ false → how_often number (turns ++ t ∷ []) ≡ how_often number turns
as-often number turns t is = let more = times-on number turns t in let none : one-if (nat_eq number t) ≡ 0 = ap one-if is in omega (arith, more, none)

module _ (w : Shared) (limits : Limits) (sources : List TapeSource) (begun before now : List ℕ → ℕ) (grew : (name : List ℕ) → before name ≤ now name) (pool later : List MemberState) (number : ℕ) (answer : Pooled) (h : IsPoolTurn w.spec w.x w.F w.table w.contents before now pool number answer later) (turns : List ℕ) (p : IsPoolAfter w limits sources begun before turns pool) (continues : TurnsContinueOf w.spec) where
  replaced : List MemberState
  replaced = slice_set pool number h.new_member

  -- the drawing whose turn it was, and every other one
  each-then : (j : ℕ) (m : MemberState) → slice_get replaced j ≡ Some m → IsMemberAfter w limits begun now (how_often j (turns ++ number ∷ [])) m
  unfolding replaced
  each-then j m at = go (eqb_tells j number)
    where
      here : nat_eq j number ≡ true → j ≡ number → IsMemberAfter w limits begun now (how_often j (turns ++ number ∷ [])) m
      here is same =
          let new-at : slice_get (slice_set pool number h.new_member) j ≡ Some h.new_member = subst (λ i. slice_get (slice_set pool number h.new_member) i ≡ Some h.new_member) (sym same) (replaced-here pool number h.old_member h.new_member h.at) in
          let is-new : h.new_member ≡ m = same_Some h.new_member m (sym new-at ∙ at) in
          let old-at : slice_get pool j ≡ Some h.old_member = subst (λ i. slice_get pool i ≡ Some h.old_member) (sym same) h.at in
          subst (λ n. IsMemberAfter w limits begun now n m) (sym (once-more j turns number is))
          (subst (IsMemberAfter w limits begun now (suc (how_often j turns))) is-new
          (member-turns w limits begun before now p.rose grew h.old_member h.new_member answer h.turn (how_often j turns) (p.each j h.old_member old-at) continues))

      elsewhere : nat_eq j number ≡ false → j ≢ number → IsMemberAfter w limits begun now (how_often j (turns ++ number ∷ [])) m
      elsewhere is other =
          let old-at : slice_get pool j ≡ Some m = sym (replaced-elsewhere pool number j h.new_member other) ∙ at in
          subst (λ n. IsMemberAfter w limits begun now n m) (sym (as-often j turns number is))
          (member-rests w limits begun before now p.rose grew (how_often j turns) m (p.each j m old-at))

      go : ((nat_eq j number ≡ true) × (j ≡ number)) ⊎ ((nat_eq j number ≡ false) × (j ≢ number)) → IsMemberAfter w limits begun now (how_often j (turns ++ number ∷ [])) m
      go (inl same) = here same.0 same.1
      go (inr other) = elsewhere other.0 other.1

  same-sources : sources_of replaced ≡ sources_of pool
  unfolding replaced
  same-sources = map-set_same (λ (m : MemberState). m.tape.source) pool number h.new_member h.old_member (h.turn.source ∙ ap (λ (m : MemberState). m.tape.source) (sym (get_or_from_slice_get pool number h.old_member h.old_member h.at)))

  after-replaced : IsPoolAfter w limits sources begun now (turns ++ number ∷ []) replaced
  unfolding replaced
  after-replaced = record {
    same_sources = same-sources ∙ p.same_sources;
    each = each-then;
    rose = λ name. let up = p.rose name in let more = grew name in omega (arith, up, more);
    failed = λ name. failures-on w before now h.old_member h.new_member answer h.turn name (begun name) (grew name) pool number h.at (p.failed name);
    only = λ name. only-on w before now h.old_member h.new_member answer h.turn name (begun name) pool number h.at (p.only name);
  }

  -- a pool in which a drawing made a turn stands where turns with one more leave it
  pub pool-turns : IsPoolAfter w limits sources begun now (turns ++ number ∷ []) later
  unfolding replaced
  pool-turns = subst (IsPoolAfter w limits sources begun now (turns ++ number ∷ [])) (sym h.others) after-replaced
