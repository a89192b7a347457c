use Rattle.object_text.proofs.Agreeing.{reprinted}
use Rattle.object_text.proofs.laws.what_was_read_is_printed.Goals as goal

pub returns : goal.returns
returns c = λ s sound limits c text tokens labels a. reprinted s sound limits c text tokens labels a
