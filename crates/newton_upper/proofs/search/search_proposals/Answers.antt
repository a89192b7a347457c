use Rattle.std.proofs.Common.{◌≡◌, ◌∙◌, ◌+◌, ◌^◌, ℕ, List, length, map, Some, None, refl, sym, ap, subst, arith}
use Rattle.std.proofs.lemmas.List.{length-map}
use Rattle.bz_model.specs.Spec.{Node}
use Rattle.class_system.specs.Views.{spec_node}
use Rattle.rounded_map.specs.RoundedMap.{setting, values_up, bodies_up, IsPostFixed, IsFirstAbove}
use Rattle.newton_upper.specs.BaseRule.{proposal, fixed_proposal, IsTrial}
use Rattle.newton_upper.specs.declared.trials.Trial.{Trial}
use Rattle.newton_upper.specs.Fitting.{AreSteps}
use Rattle.newton_upper.specs.Newton.{newton_step, newton_at}
use Rattle.newton_upper.proofs.Costs.{length-swept}
use Rattle.newton_upper.proofs.FixedTest.{fails}
use Rattle.newton_upper.proofs.Proposing.{map-push, each-push, each-none, at-start, at-next, at-none, proposal-is, fixed-is, no-upper, base-proposal}
use Rattle.newton_upper.proofs.ResultsBelow.{first-more, those-more}
use Rattle.newton_upper.proofs.search.search_proposals.Goals as goal

pub loop-i-init : goal.loop-i-init
loop-i-init g c =
    let t = setting c.args.system.now c.args.x.num c.args.x.den g.row.F in
    record {
      room = c.in_ok-nodes.ensures.len ∙ sym (length-map c.nodes.result.now spec_node) ∙ ap (λ (ns : List Node). length ns) c.nodes.ensures.nodes;
      one_per_class = ap length c.requires.lower ∙ length-swept t (4 ^ 6);
      next = at-start t c.args.lower c.requires.lower;
      in_order = ap (map (λ (trial : Trial). trial.values)) c.new-trials.ensures.empty;
      each = each-none (IsTrial t) c.new-trials.result c.new-trials.ensures.empty;
      none = refl;
      ticks = omega arith;
    }

pub returns-in_default-clause-fault : goal.returns-in_default-clause-fault
returns-in_default-clause-fault g c =
    let t = setting c.args.system.now c.args.x.num c.args.x.den g.row.F in
    no-upper t c.loop-i.trials c.loop-i._i c.requires.none c.loop-i.invariant.none c.loop-i.invariant.in_order c.loop-i.invariant.each (omega arith)
    (λ k later below. at-none t c.loop-i._i (sym c.loop-i.invariant.next ∙ sym (c.in_ok-step.ensures.exact ∙ ap (newton_step t) c.items.ensures.items) ∙ c.in_default.is) k later)

pub returns-in-Ok-clause-base : goal.returns-in-Ok-clause-base
returns-in-Ok-clause-base g c =
    let t = setting c.args.system.now c.args.x.num c.args.x.den g.row.F in
    base-proposal t c.loop-i._i c.in-Some.step c.requires.none c.loop-i.invariant.none (sym c.loop-i.invariant.next ∙ sym (c.in_ok-step.ensures.exact ∙ ap (newton_step t) c.items.ensures.items) ∙ c.in-Some.is)
    (subst (λ (v : List ℕ). IsPostFixed t v) c.items-in-loop-i.ensures.items c.in-Ok.ensures.post_fixed) c.loop-i-test.true
    ∙ sym (ap (λ (v : List ℕ). Some v) (c.of.ensures.same ∙ c.into_content.ensures.same))

pub loop-i-preserved : goal.loop-i-preserved
loop-i-preserved g c =
    let t = setting c.args.system.now c.args.x.num c.args.x.den g.row.F in
    let step = c.in-Some.step in
    let there : newton_step t c.loop-i.y ≡ Some step = sym (c.in_ok-step.ensures.exact ∙ ap (newton_step t) c.items.ensures.items) ∙ c.in-Some.is in
    let here : newton_at t c.loop-i._i ≡ Some step = sym c.loop-i.invariant.next ∙ there in
    let fitting : AreSteps (length c.args.system.now.bodies) step = rw c.in-Some.is at c.in_ok-step.ensures.fitting in
    let fault = subst (λ (v : List ℕ). IsFirstAbove (bodies_up t (values_up t v)) v c.in-Err.fault.class_id.0 c.in-Err.fault.got) c.items-in-loop-i.ensures.items c.in-Err.ensures.fault in
    let pushed = c.in_ok-push-in-Err.ensures.ok in
    record {
      room = c.loop-i.invariant.room;
      one_per_class = fitting.next;
      next = at-next t c.loop-i._i (c.loop-i._i + 1) c.loop-i.y step refl c.loop-i.invariant.next there;
      in_order = those-more (proposal t) c.loop-i._i (c.loop-i._i + 1) (map (λ (trial : Trial). trial.values) c.loop-i.trials) (map (λ (trial : Trial). trial.values) c.push.new.self) step.proposal refl c.loop-i.invariant.in_order
          (proposal-is t c.loop-i._i step here) (ap (map (λ (trial : Trial). trial.values)) pushed ∙ map-push (λ (trial : Trial). trial.values) c.loop-i.trials _);
      each = each-push (IsTrial t) c.loop-i.trials c.push.new.self _ pushed c.loop-i.invariant.each fault;
      none = first-more (fixed_proposal t) c.loop-i._i (c.loop-i._i + 1) refl c.loop-i.invariant.none
          (fixed-is t c.loop-i._i (Some step.proposal) None (proposal-is t c.loop-i._i step here) (fails t step.proposal c.in-Err.fault.class_id.0 c.in-Err.fault.got fitting.proposal fault));
      ticks = omega arith;
    }

pub returns-clause-fault : goal.returns-clause-fault
returns-clause-fault g c =
    let t = setting c.args.system.now c.args.x.num c.args.x.den g.row.F in
    no-upper t c.loop-i.trials c.loop-i._i c.requires.none c.loop-i.invariant.none c.loop-i.invariant.in_order c.loop-i.invariant.each (omega arith)
    (λ k later below. absurd (omega arith))
