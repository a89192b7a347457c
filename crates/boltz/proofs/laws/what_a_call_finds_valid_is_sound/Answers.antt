use Rattle.command_words.specs.declared.command.Command.TheVariants as command
use Rattle.boltz.proofs.Complete.{outcome-of, not-for-memory}
use Rattle.boltz.proofs.laws.what_a_call_finds_valid_is_sound.Goals as goal

pub returns : goal.returns
returns c = record {
  sound = λ w file cert status text ticks named done h.
      c.what_is_found_valid_is_sound.ensures.verify w.files file cert status text ticks done (outcome-of w (command.Verify file cert) named status text ticks (not-for-memory status done) h);
}
