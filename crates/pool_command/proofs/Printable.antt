-- What a pool kept can be printed.
use Rattle.std.proofs.Common.{◌≡◌, ℕ, zero, suc, arith, List, [], ◌∷◌, map, subst}
use Rattle.std.specs.List.{All, AllByRecursion}
use Rattle.bz_model.specs.Fraction.{Fraction}
use Rattle.bz_model.specs.Spec.{Spec}
use Rattle.bz_model.specs.Making.{ClassMakes, Just}
use Rattle.bz_model.specs.Object.{Object}
use Rattle.bz_laws.proofs.Makings.{fine}
use Rattle.object_store.specs.Tokens.{IsOf}
use Rattle.object_store.specs.declared.token.Token.{Token}
use Rattle.object_store.specs.Tokens.{tokens_of}
use Rattle.shape_sampler.proofs.Numbers.{least_of, least_of-in}
use Rattle.size_window.specs.declared.turned.Entry.{Entry}
use Rattle.size_window.specs.RunByBits as run
use Rattle.size_window.specs.Follows.{IsMadeOfItsCells}
use Rattle.size_window.specs.Turn.{entry_of}
use Rattle.session_pool.specs.Member.{MemberState}
use Rattle.session_pool.specs.Interleaving.{Shared}
use Rattle.size_window.specs.RunByBits.{Limits}
use Rattle.pool_command.specs.UnderWay.{IsMemberUnderWay}
use Rattle.pool_command.specs.Pages.{CanPrint}

-- an object that the first class makes is one of it
of-making : (s : Spec) (x : Fraction) (room left : ℕ) (us rest : List Fraction) (o : Object) (tokens : List Token) → tokens_of o ≡ tokens → ClassMakes s x 0 room us (Just o left) rest → IsOf s 0 tokens
of-making s x room left us rest o tokens spelled (body, is_body, makes) = record { body = body; is_body = is_body; object = o; belongs = (fine s x makes).0; spelled = spelled }

-- an entry is of it
entry-is-of : (s : Spec) (x : Fraction) (room : ℕ) (e : run.Entry) → IsMadeOfItsCells s x room e → IsOf s 0 e.tokens
entry-is-of s x room e h =
    let made = h.made (least_of e.cells) (least_of-in e.cells) in
    of-making s x room made.room_left (least_of e.cells) made.after h.kept.object e.tokens h.entry.tokens made.makes

all-of : (s : Spec) (x : Fraction) (room : ℕ) (entries : List Entry) → AllByRecursion (IsMadeOfItsCells s x room) (map entry_of entries) → All (λ e. IsOf s 0 e.shape.items) entries
all-of s x room [] h k d lt = absurd (omega (arith, lt))
all-of s x room (e ∷ entries) h zero d lt = entry-is-of s x room (entry_of e) h.0
all-of s x room (e ∷ entries) h (suc k) d lt = all-of s x room entries h.1 k d (omega (arith, lt))

-- the entries of a drawing can be printed
pub can-print : (w : Shared) (limits : Limits) (begun counts : List ℕ → ℕ) (m : MemberState) (most : ℕ) → IsMemberUnderWay w limits begun counts m most → CanPrint w.spec m
can-print w limits begun counts m most h = record {
  are_of = all-of w.spec w.x limits.max m.entries (subst (AllByRecursion (IsMadeOfItsCells w.spec w.x limits.max)) h.entries h.so_far.drawing.trace.goes.follows.own);
  labels = h.labels;
}
