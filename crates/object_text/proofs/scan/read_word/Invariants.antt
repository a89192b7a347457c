-- The text has the word's first bytes.
use Rattle.std.proofs.Common.{◌≡◌, ◌++◌, take}
use Rattle.object_text.proofs.scan.read_word.Given as goal

abbrev pub invariant-loop-byte : goal.invariant-loop-byte
invariant-loop-byte l = l.text ≡ take l.byte-index l.word ++ l.rest
