use Rattle.std.proofs.Common.{◌∙◌, sym, ap, subst}
use Rattle.std.specs.Prelude.{IsSome}
use Rattle.session_pool.specs.Member.{MemberState}
use Rattle.session_pool.proofs.Ended.{ended-member-turn}
use Rattle.session_pool.proofs.member.Member.turn.Goals as goal

pub returns-then-is_some-clause-turned : goal.returns-then-is_some-clause-turned
returns-then-is_some-clause-turned g c = λ made. ended-member-turn c.args.founded.now (g.O.Oracle.x c.args.oracle.now) g.row.F (g.O.Oracle.table c.args.oracle.now) (g.S.Shelf.content c.args.shelf.now) (g.S.Shelf.faults c.args.shelf.now) c.args.self.now (subst IsSome (c.ending.ensures ∙ ap (λ (m : MemberState). m.drawing.ending) c.self.view_is) (sym c.is_some.ensures ∙ c.if-is_some.true))
