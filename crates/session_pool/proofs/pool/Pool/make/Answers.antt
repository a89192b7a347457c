-- A pool is made of one new member per tape.
use Rattle.std.proofs.Common.{◌≡◌, sym, ◌∙◌, ap, subst}
use Rattle.std.proofs.lemmas.Iterator.Adapters.{YieldsList-from_vec}
use Rattle.std.proofs.lemmas.Iterator.Consumers.{YieldsList-end}
use Rattle.std.proofs.lemmas.List.{map-id}
use Rattle.std.specs.List.{All}
use Rattle.std.proofs.lemmas.List.Elements.{All-push}
use Rattle.size_window.specs.Drawing.{limits_of, DrawingBelongs}
use Rattle.session_pool.specs.Member.{MemberState, IsNewMember}
use Rattle.session_pool.specs.Pool.{tapes_of}
use Rattle.session_pool.proofs.NewPools.{tapes-and-one, new-and-one, new-pool}
use Rattle.session_pool.proofs.pool.Pool.make.Goals as goal

pub loop-tape-preserved : goal.loop-tape-preserved
loop-tape-preserved c =
    let pushed = c.in_ok-push.ensures.items in
    let so-far = c.loop-tape.invariant in
    let m = c.in_ok-member.member in
    record {
      same_tapes = ap tapes_of pushed ∙ tapes-and-one c.loop-tape.yielded c.loop-tape.members.items c.in-Some.tape m so-far.same_tapes c.in_ok-member.ensures.new.same_tape;
      each = subst (All (λ k. IsNewMember (limits_of c.args.limits) k.tape k)) (sym pushed) (new-and-one (limits_of c.args.limits) c.loop-tape.members.items c.in-Some.tape m so-far.each c.in_ok-member.ensures.new);
      belongs = λ x. subst (All (λ (k : MemberState). DrawingBelongs c.args.founded.now x k.drawing)) (sym pushed) (All-push (λ (k : MemberState). DrawingBelongs c.args.founded.now x k.drawing) c.loop-tape.members.items m (so-far.belongs x) (c.in_ok-member.ensures.belongs x));
    }

pub returns-clause-alone : goal.returns-clause-alone
returns-clause-alone c =
    let begun = c.into_iter-tape-iterator.ensures.into_iter_gives in
    let all = YieldsList-end (YieldsList-from_vec c.args.tapes.items begun.0 (begun.1 ∙ c.args.tapes.ok.0)) c.loop-tape.yielded _ c.loop-tape.yielded_by c.next.result c.next.new.self c.in-None.is c.next.ensures.steps in
    let same : tapes_of c.loop-tape.members.items ≡ c.args.tapes.items = c.loop-tape.invariant.same_tapes ∙ (sym (map-id c.loop-tape.yielded) ∙ all.0) in
    λ w counts. new-pool c.a_trace_starts_with_its_drawing.ensures w (limits_of c.args.limits) counts c.args.tapes.items c.loop-tape.members.items same c.loop-tape.invariant.each c.requires.unused
