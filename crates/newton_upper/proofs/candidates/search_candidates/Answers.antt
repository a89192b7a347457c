use Rattle.std.proofs.Common.{◌≡◌, ◌∙◌, ◌+◌, ◌-◌, ◌≤◌, ℕ, List, length, refl, sym, ap, subst, arith}
use Rattle.std.proofs.lemmas.List.{length-map}
use Rattle.bz_model.specs.Spec.{Node}
use Rattle.class_system.specs.Views.{spec_node}
use Rattle.rounded_map.specs.RoundedMap.{setting}
use Rattle.newton_upper.specs.Below.{first_below}
use Rattle.newton_upper.specs.Candidates.{swept_down, sweeps_after, candidate_count, round_base, candidate_base}
use Rattle.newton_upper.proofs.Costs.{swept-on, round-spent, last_round-least, last_round-none, spent-within, spent-all}
use Rattle.newton_upper.proofs.Chains.{round-is}
use Rattle.newton_upper.proofs.ResultsBelow.{first-found, first-more}
use Rattle.newton_upper.proofs.candidates.search_candidates.Goals as goal

pub loop-rounds-init : goal.loop-rounds-init
unfolding swept_down
loop-rounds-init g c = record {
  room = c.in_ok-nodes.ensures.len ∙ sym (length-map c.nodes.result.now spec_node) ∙ ap (λ (ns : List Node). length ns) c.nodes.ensures.nodes;
  lower = c.requires.zero;
  none = refl;
  ticks = omega arith;
}

pub returns-in_err-found-clause-ticks : goal.returns-in_err-found-clause-ticks
returns-in_err-found-clause-ticks g c =
    let t = setting c.args.system.now c.args.x.num c.args.x.den g.row.F in
    spent-within t g.row.F c.loop-rounds.rounds c.args.steps.now c.round_base.new.steps
    (round-spent (candidate_count g.row.F) c.loop-rounds.rounds c.args.steps.now c.loop-rounds.steps c.sweep_on.new.steps c.round_base.new.steps c.loop-rounds.invariant.ticks
    (c.sweep_on.ensures.ticks ∙ ap (λ (n : ℕ). c.loop-rounds.steps + (n - c.sweeps_after.result)) c.sweeps_after-sweeps.ensures.sweeps ∙ ap (λ (n : ℕ). c.loop-rounds.steps + (sweeps_after (c.loop-rounds.rounds + 1) - n)) c.sweeps_after.ensures.sweeps)
    (subst (λ (n : ℕ). c.round_base.new.steps ≤ c.sweep_on.new.steps + (n + 1 + candidate_count g.row.F)) c.sweeps_after-sweeps.ensures.sweeps c.round_base.ensures.ticks))
    (last_round-least t c.loop-rounds.rounds c.loop-rounds.invariant.none c.loop-rounds-test.true)

pub returns-in-Some-clause-exact : goal.returns-in-Some-clause-exact
unfolding candidate_base
returns-in-Some-clause-exact g c =
    let t = setting c.args.system.now c.args.x.num c.args.x.den g.row.F in
    let swept : c.sweep_on.new.classes ≡ swept_down t (sweeps_after (c.loop-rounds.rounds + 1)) = swept-on t c.loop-rounds.rounds (c.sweeps_after-sweeps.result - c.sweeps_after.result) c.sweeps_after-sweeps.result c.sweeps_after.result c.loop-rounds.lower c.sweep_on.new.classes
    c.loop-rounds.invariant.lower c.sweep_on.ensures.swept c.sweeps_after-sweeps.ensures.sweeps c.sweeps_after.ensures.sweeps refl in
    sym (first-found (round_base t) c.loop-rounds.rounds 6 c.in-Some.found c.loop-rounds.invariant.none
    (round-is t c.sweep_on.new.classes c.loop-rounds.rounds c.sweeps_after-sweeps.result c.in_ok-found.field-0 swept c.sweeps_after-sweeps.ensures.sweeps c.in_ok-found.ensures.exact ∙ c.in-Some.is) c.loop-rounds-test.true)

pub returns-in-Some-clause-ticks : goal.returns-in-Some-clause-ticks
returns-in-Some-clause-ticks g c =
    let t = setting c.args.system.now c.args.x.num c.args.x.den g.row.F in
    spent-within t g.row.F c.loop-rounds.rounds c.args.steps.now c.round_base.new.steps
    (round-spent (candidate_count g.row.F) c.loop-rounds.rounds c.args.steps.now c.loop-rounds.steps c.sweep_on.new.steps c.round_base.new.steps c.loop-rounds.invariant.ticks
    (c.sweep_on.ensures.ticks ∙ ap (λ (n : ℕ). c.loop-rounds.steps + (n - c.sweeps_after.result)) c.sweeps_after-sweeps.ensures.sweeps ∙ ap (λ (n : ℕ). c.loop-rounds.steps + (sweeps_after (c.loop-rounds.rounds + 1) - n)) c.sweeps_after.ensures.sweeps)
    (subst (λ (n : ℕ). c.round_base.new.steps ≤ c.sweep_on.new.steps + (n + 1 + candidate_count g.row.F)) c.sweeps_after-sweeps.ensures.sweeps c.round_base.ensures.ticks))
    (last_round-least t c.loop-rounds.rounds c.loop-rounds.invariant.none c.loop-rounds-test.true)

pub loop-rounds-preserved : goal.loop-rounds-preserved
loop-rounds-preserved g c =
    let t = setting c.args.system.now c.args.x.num c.args.x.den g.row.F in
    let swept : c.sweep_on.new.classes ≡ swept_down t (sweeps_after (c.loop-rounds.rounds + 1)) = swept-on t c.loop-rounds.rounds (c.sweeps_after-sweeps.result - c.sweeps_after.result) c.sweeps_after-sweeps.result c.sweeps_after.result c.loop-rounds.lower c.sweep_on.new.classes
    c.loop-rounds.invariant.lower c.sweep_on.ensures.swept c.sweeps_after-sweeps.ensures.sweeps c.sweeps_after.ensures.sweeps refl in
    record {
      room = c.loop-rounds.invariant.room;
      lower = swept;
      none = first-more (round_base t) c.loop-rounds.rounds (c.loop-rounds.rounds + 1) refl c.loop-rounds.invariant.none
          (round-is t c.sweep_on.new.classes c.loop-rounds.rounds c.sweeps_after-sweeps.result c.in_ok-found.field-0 swept c.sweeps_after-sweeps.ensures.sweeps c.in_ok-found.ensures.exact ∙ c.in_default.is);
      ticks = round-spent (candidate_count g.row.F) c.loop-rounds.rounds c.args.steps.now c.loop-rounds.steps c.sweep_on.new.steps c.round_base.new.steps c.loop-rounds.invariant.ticks
          (c.sweep_on.ensures.ticks ∙ ap (λ (n : ℕ). c.loop-rounds.steps + (n - c.sweeps_after.result)) c.sweeps_after-sweeps.ensures.sweeps ∙ ap (λ (n : ℕ). c.loop-rounds.steps + (sweeps_after (c.loop-rounds.rounds + 1) - n)) c.sweeps_after.ensures.sweeps)
          (subst (λ (n : ℕ). c.round_base.new.steps ≤ c.sweep_on.new.steps + (n + 1 + candidate_count g.row.F)) c.sweeps_after-sweeps.ensures.sweeps c.round_base.ensures.ticks);
    }

pub returns-clause-exact : goal.returns-clause-exact
unfolding candidate_base
returns-clause-exact g c =
    let all : c.loop-rounds.rounds ≡ 6 = omega arith in
    sym c.loop-rounds.invariant.none ∙ ap (first_below (round_base (setting c.args.system.now c.args.x.num c.args.x.den g.row.F))) all

pub returns-clause-ticks : goal.returns-clause-ticks
returns-clause-ticks g c =
    let t = setting c.args.system.now c.args.x.num c.args.x.den g.row.F in
    let all : c.loop-rounds.rounds ≡ 6 = omega arith in
    spent-all t g.row.F c.loop-rounds.rounds c.args.steps.now c.loop-rounds.steps all c.loop-rounds.invariant.ticks (last_round-none t c.loop-rounds.rounds all c.loop-rounds.invariant.none)
