use Rattle.size_window.proofs.Following.{after-follows}
use Rattle.size_window.proofs.laws.a_drawing_follows_the_ideal_run.Goals as goal

pub returns : goal.returns
returns c = λ s x ideal sound faults n. after-follows s x ideal sound faults n
