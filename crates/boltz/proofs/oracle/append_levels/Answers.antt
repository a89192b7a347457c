use Rattle.std.proofs.Common.{◌∙◌, ◌+◌, ap, length, arith}
use Rattle.bz_model.specs.Spec.{Spec}
use Rattle.oracle_memo.specs.Memos.{Memory}
use Rattle.rounded_map.specs.RoundedMap.{setting}
use Rattle.boltz.specs.OracleCommand.{level_after}
use Rattle.call_stages.proofs.LinesBelow.{below_start}
use Rattle.boltz.proofs.Bounding.{levels_more, lower_told, upper_told, next_raised, none_raised}
use Rattle.boltz.proofs.OracleCommand.{costs_no_more, level_ticks}
use Rattle.boltz.proofs.oracle.append_levels.Goals as goal

-- no level is raised or told
pub loop-before-init : goal.loop-before-init
loop-before-init g c =
    let m = c.args.memo.now in
    record {
      same = none_raised m c.requires.none_raised;
      told = below_start (level_after (setting c.args.system.now m.num m.den g.row.F) m.base) c.args.text.now.items;
      ticks = omega arith;
    }

-- the next level is raised and told
pub loop-before-preserved : goal.loop-before-preserved
loop-before-preserved g c =
    let m = c.args.memo.now in
    let t = setting c.args.system.now m.num m.den g.row.F in
    let now = next_raised m c.loop-before.memo c.raise_to.new.self c.loop-before.before c.loop-before.invariant.same c.raise_to.ensures.raised in
    record {
      same = now;
      told = levels_more t m.base c.lower.result.now c.upper.result.now c.loop-before.before c.args.text.now.items c.loop-before.text.items c.append_level.new.text.items
          c.loop-before.invariant.told
          (lower_told m c.raise_to.new.self c.args.system.now g.row.F (c.loop-before.before + 1) c.lower.result.now now c.requires.same c.requires.from_zero c.lower.ensures.vector)
          (upper_told m c.raise_to.new.self c.args.system.now g.row.F (c.loop-before.before + 1) c.upper.result.now now c.requires.same c.upper.ensures.vector)
          c.in_ok-append_level.ensures;
      ticks = level_ticks _ _ _ c.loop-before.memo.raised c.loop-before.before c.loop-before.invariant.ticks (ap (λ (k : Memory). k.raised) c.loop-before.invariant.same) c.raise_to.ensures.ticks;
    }

-- there is an entry for each class
pub append_level-requires-clause-one_lower_per_class : goal.append_level-requires-clause-one_lower_per_class
append_level-requires-clause-one_lower_per_class g c =
    let now = next_raised c.args.memo.now c.loop-before.memo c.raise_to.new.self c.loop-before.before c.loop-before.invariant.same c.raise_to.ensures.raised in
    c.lower.ensures.one_per_class ∙ ap (λ (k : Memory). length k.spec.bodies) now ∙ ap (λ (s : Spec). length s.bodies) c.requires.same

pub append_level-requires-clause-one_upper_per_class : goal.append_level-requires-clause-one_upper_per_class
append_level-requires-clause-one_upper_per_class g c =
    let now = next_raised c.args.memo.now c.loop-before.memo c.raise_to.new.self c.loop-before.before c.loop-before.invariant.same c.raise_to.ensures.raised in
    c.upper.ensures.one_per_class ∙ ap (λ (k : Memory). length k.spec.bodies) now ∙ ap (λ (s : Spec). length s.bodies) c.requires.same

-- a level that was raised costs no more than all six
pub returns-in_err-append_level-clause-ticks : goal.returns-in_err-append_level-clause-ticks
returns-in_err-append_level-clause-ticks g c =
    let here = level_ticks _ _ _ c.loop-before.memo.raised c.loop-before.before c.loop-before.invariant.ticks (ap (λ (k : Memory). k.raised) c.loop-before.invariant.same) c.raise_to.ensures.ticks in
    let most = costs_no_more (c.loop-before.before + 1) (omega arith) in
    omega (arith, here, most)
