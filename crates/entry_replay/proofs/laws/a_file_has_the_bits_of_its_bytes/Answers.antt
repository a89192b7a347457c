use Rattle.entry_replay.proofs.FileBits.{file-bit-at}
use Rattle.entry_replay.proofs.laws.a_file_has_the_bits_of_its_bytes.Goals as goal

pub returns : goal.returns
returns c = λ bytes place few. file-bit-at bytes place few
