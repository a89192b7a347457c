use Rattle.std.proofs.Common.{ℕ, ◌<◌, List, get_or}
use Rattle.command_words.specs.Words.{IsPrintable}
use Rattle.command_words.proofs.form.are_printable.Given as goal

abbrev pub invariant-loop-word : goal.invariant-loop-word
invariant-loop-word l = (k : ℕ) → (d : List ℕ) → k < l.word-index → IsPrintable (get_or l.words k d)
