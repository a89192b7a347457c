use Rattle.std.proofs.Common.{◌≡◌, ℕ, ◌∙◌, ◌+◌, max, ap, arith}
use Rattle.oracle_memo.specs.Levels.{cost_at}
use Rattle.oracle_memo.specs.Memos.{Memory}
use Rattle.oracle_memo.proofs.memo.Memo.raise_to.Goals as goal

-- the last level is the greater one
pub returns-clause-raised : goal.returns-clause-raised
returns-clause-raised g c =
    let before : c.self.inside.raised ≡ c.args.self.now.raised = ap (λ (v : Memory). v.raised) c.self.view_is in
    let last : c.loop-level._level ≡ max c.args.self.now.raised c.args.level = omega arith in
    c.loop-level.invariant.same ∙ ap (λ (l : ℕ). record c.args.self.now { raised = l }) last

pub returns-clause-ticks : goal.returns-clause-ticks
returns-clause-ticks g c =
    let before : c.self.inside.raised ≡ c.args.self.now.raised = ap (λ (v : Memory). v.raised) c.self.view_is in
    let last : c.loop-level._level ≡ max c.args.self.now.raised c.args.level = omega arith in
    c.loop-level.invariant.ticks ∙ ap (λ (l : ℕ). c.args.steps.now + cost_at l) last

-- no more than six levels are raised
pub returns-clause-six : goal.returns-clause-six
returns-clause-six g c =
    let now : c.loop-level.self.raised ≡ c.loop-level._level = ap (λ (v : Memory). v.raised) c.loop-level.invariant.same in
    let before : c.self.inside.raised ≡ c.args.self.now.raised = ap (λ (v : Memory). v.raised) c.self.view_is in
    omega (arith, now, before, c.self.invariant.few_levels, c.requires.level)
