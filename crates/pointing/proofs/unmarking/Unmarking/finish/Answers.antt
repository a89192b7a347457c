use Rattle.bz_model.specs.Object.{none}
use Rattle.pointing.proofs.UnmarkWalk.{read-whole}
use Rattle.pointing.proofs.unmarking.Unmarking.finish.Goals as goal

pub returns : goal.returns
returns c = record { whole = λ s whole atom h. read-whole s whole atom c.next_due-none.result c.next_due-none.new.self c.next_due-none.ensures.some c.next_due-none.ensures.none (c.next_due-none.ensures.same.on s whole atom none h) }
