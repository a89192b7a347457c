-- The member of a pool that was lent, and the pool with it written back.
use Rattle.std.proofs.Common.{◌≡◌, ℕ, ◌<◌, List, length, refl, sym, ◌∙◌, ap, subst}
use Rattle.std.specs.Prelude.{Option, Some, option_map, slice_get, slice_set, slice_index_or}
use Rattle.std.proofs.lemmas.List.{map-set, set-get_or}
use Rattle.std.proofs.lemmas.List.Elements.{All-set}
use Rattle.std.proofs.lemmas.Option.{slice_get_read, slice_get_within, get_or_from_slice_get, slice_get-map}
use Rattle.std.proofs.Math.Seq.{map-set_same}
use Rattle.bz_model.specs.declared.cell.Bounds.{Bounds}
use Rattle.bz_model.specs.Fraction.{Fraction}
use Rattle.bz_model.specs.Spec.{Spec}
use Rattle.bit_tape.specs.Tape.{BelongsToShelf, LeavesTape}
use Rattle.size_window.specs.Drawing.{DrawingBelongs}
use Rattle.session_pool.specs.declared.pooled.Pooled.{Pooled}
use Rattle.session_pool.specs.Member.{MemberState, bits_to_nodes, read_failed}
use Rattle.session_pool.specs.Turn.{IsMemberTurn, IsPoolTurn}
use Rattle.session_pool.specs.Pool.{tapes_of, sources_of, PoolBelongs, TapesBelong, LeavesTapeOf, bits_between, bits_to_nodes_at, ending_at, ending_of_member}
use Rattle.session_pool.proofs.Replaced.{replaced-here}

-- the tape that was lent belongs as all do
pub lent-tape : (contents : List ℕ → Option (List ℕ)) (pool : List MemberState) (number : ℕ) (m : MemberState) → slice_get pool number ≡ Some m → TapesBelong contents (tapes_of pool) → BelongsToShelf contents m.tape
lent-tape contents pool number m at belong =
    let tape-at : slice_get (tapes_of pool) number ≡ Some m.tape = slice_get-map (λ (k : MemberState). k.tape) pool number ∙ ap (option_map (λ (k : MemberState). k.tape)) at in
    subst (BelongsToShelf contents) (get_or_from_slice_get (tapes_of pool) number m.tape m.tape tape-at) (belong.each number m.tape (slice_get_within (tapes_of pool) number m.tape tape-at))

-- Pools of which one was lent: what is read of the other, a member is read at the number.
pub record IsLent (items pool : List MemberState) (number : ℕ) (m : MemberState) : Type 0 where
  pub same : items ≡ pool
  pub at : slice_get pool number ≡ Some m

-- A member read at a number within a pool, from items that are this pool, is the one lent at this
-- number.
pub is-lent : (items pool : List MemberState) (number : ℕ) (m : MemberState) → items ≡ pool → number < length pool → m ≡ slice_index_or items number m → IsLent items pool number m
is-lent items pool number m same within read = record {
  same = same;
  at = slice_get_read pool (length pool) number m refl within (read ∙ ap (λ ms. slice_index_or ms number m) same);
}

module _ (items pool : List MemberState) (number : ℕ) (m later : MemberState) (h : IsLent items pool number m) where
  -- the pool with it written back
  pub written-back : slice_set items number later ≡ slice_set pool number later
  written-back = ap (λ ms. slice_set ms number later) h.same

  pub back-at : slice_get (slice_set items number later) number ≡ Some later
  back-at = ap (λ ms. slice_get ms number) written-back ∙ replaced-here pool number m later h.at

  -- a member that is as it was leaves the pool as it was
  pub unchanged : later ≡ m → slice_set items number later ≡ pool
  unchanged e = written-back ∙ (ap (slice_set pool number) (e ∙ sym (get_or_from_slice_get pool number m m h.at)) ∙ set-get_or pool number m)

  -- its ending, before and after
  pub ending-was : ending_at pool number ≡ m.drawing.ending
  ending-was = ap ending_of_member h.at

  pub ending-is : ending_at (slice_set items number later) number ≡ later.drawing.ending
  ending-is = ap ending_of_member back-at

  -- the bits that its turn gave to numbers of nodes
  pub bits-lent : bits_to_nodes m later ≡ bits_to_nodes_at number pool (slice_set items number later)
  bits-lent = ap (λ o. bits_between o (Some later)) (sym h.at) ∙ ap (bits_between (slice_get pool number)) (sym back-at)

  -- it still belongs
  pub drawings-back : (s : Spec) (x : Fraction) → PoolBelongs s x pool → DrawingBelongs s x later.drawing → PoolBelongs s x (slice_set items number later)
  drawings-back s x belong one = subst (PoolBelongs s x) (sym written-back) (record { each = All-set (λ k. DrawingBelongs s x k.drawing) pool number later one belong.each })

  pub tapes-back : (contents : List ℕ → Option (List ℕ)) → TapesBelong contents (tapes_of pool) → BelongsToShelf contents later.tape → TapesBelong contents (tapes_of (slice_set items number later))
  tapes-back contents belong one = subst (λ ms. TapesBelong contents (tapes_of ms)) (sym written-back) (subst (TapesBelong contents) (sym (map-set (λ (k : MemberState). k.tape) pool number later)) (record { each = All-set (BelongsToShelf contents) (tapes_of pool) number later.tape one belong.each }))

  pub sources-back : later.tape.source ≡ m.tape.source → sources_of (slice_set items number later) ≡ sources_of pool
  sources-back e = ap sources_of written-back ∙ map-set_same (λ (k : MemberState). k.tape.source) pool number later m (e ∙ ap (λ (k : MemberState). k.tape.source) (sym (get_or_from_slice_get pool number m m h.at)))

  -- what its turn leaves of its tape and the shelf
  pub tape-left : {S : Type 0} (contents : S → List ℕ → Option (List ℕ)) (counts : S → List ℕ → ℕ) (before now : S) → LeavesTape contents counts (read_failed m.drawing.ending later.drawing.ending) before now m.tape later.tape → LeavesTapeOf contents counts before now (slice_get pool number) (slice_get (slice_set items number later) number)
  tape-left contents counts before now left = subst (λ o. LeavesTapeOf contents counts before now o (slice_get (slice_set items number later) number)) (sym h.at) (subst (LeavesTapeOf contents counts before now (Some m)) (sym back-at) left)

  -- the pool made its turn
  pub pool-turn : (s : Spec) (x : Fraction) (F : ℕ) (table : (level node : ℕ) → Bounds) (contents : List ℕ → Option (List ℕ)) (before now : List ℕ → ℕ) (answer : Pooled) → IsMemberTurn s x F table contents before now m answer later → IsPoolTurn s x F table contents before now pool number answer (slice_set items number later)
  pool-turn s x F table contents before now answer turn = record {
    old_member = m;
    new_member = later;
    at = h.at;
    others = written-back;
    turn = turn;
  }
