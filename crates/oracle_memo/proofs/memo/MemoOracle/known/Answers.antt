use Rattle.std.proofs.Common.{subst, arith}
use Rattle.bz_model.specs.Fraction.{ratio}
use Rattle.bz_model.specs.Oracle.{IsSoundTable}
use Rattle.class_system.specs.Sound as sound
use Rattle.rounded_map.specs.RoundedMap.{setting}
use Rattle.oracle_memo.specs.Levels.{level_bounds_from}
use Rattle.oracle_memo.specs.Memos.{Memory}
use Rattle.oracle_memo.proofs.Enclosing.{enclosed-at}
use Rattle.oracle_memo.proofs.Raising.{are_costs}
use Rattle.oracle_memo.proofs.memo.MemoOracle.known.Goals as goal

pub returns-clause-sound : goal.returns-clause-sound
returns-clause-sound g c =
    let m = c.self.inside in
    subst (λ (v : Memory). IsSoundTable v.spec (ratio v.num v.den) g.row.F (λ level e. level_bounds_from (setting v.spec v.num v.den g.row.F) v.start v.base level e)) c.self.view_is (record {
      founded = c.known.ensures.well_founded;
      inhabited = c.known.ensures.inhabited;
      positive = m.x.num_in_limits.0;
      enclosed = λ level e some few within. enclosed-at m.founded.now m.x.num m.x.den g.row.F m.start.items m.base (subst sound.IsSound c.system.ensures.system c.known-2.ensures.sound) m.x.den_in_limits.0 (omega arith) c.self.invariant.lower_is.one_per_class c.self.invariant.reached c.self.invariant.post_fixed level e some within;
    })

pub returns-clause-costs : goal.returns-clause-costs
returns-clause-costs g c = are_costs
