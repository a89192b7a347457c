use Rattle.std.proofs.Common.{◌≡◌, ℕ, ◌∙◌, ◌+◌, max, sym, ap, arith}
use Rattle.oracle_memo.specs.Levels.{cost_at}
use Rattle.oracle_memo.specs.Memos.{Memory}
use Rattle.oracle_memo.proofs.Raising.{ticked}
use Rattle.oracle_memo.proofs.memo.MemoOracle.raise.Goals as goal

pub returns-clause-ticks : goal.returns-clause-ticks
returns-clause-ticks g c =
    let now : c.raise_to.new.self.raised ≡ max c.args.self.now.raised c.args.level = ap (λ (v : Memory). v.raised) c.raise_to.ensures.raised in
    ticked c.args.self.now.raised c.raise_to.new.self.raised c.raise_to.new.steps c.args.steps.now (omega (arith, now, c.raise_to.ensures.six)) c.raise_to.ensures.six
    (c.raise_to.ensures.ticks ∙ ap (λ (l : ℕ). c.args.steps.now + cost_at l) (sym now))
