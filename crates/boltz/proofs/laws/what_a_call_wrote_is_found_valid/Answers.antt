use Rattle.std.specs.Prelude.{false}
use Rattle.command_words.specs.declared.command.Command.TheVariants as command
use Rattle.boltz.proofs.Commands.{sample_limits}
use Rattle.boltz.proofs.Complete.{outcome-of, not-for-memory}
use Rattle.boltz.proofs.laws.what_a_call_wrote_is_found_valid.Goals as goal

pub returns : goal.returns
returns c = record {
  sample = λ w v file again wrote s x tape limits F status other text others ticks more named has done h named_too has_too holds memory k.
      c.what_sample_wrote_is_found_valid.ensures.verify w.files v.files file again wrote s x tape limits F status other text others ticks more
      (sample_limits file x tape limits F false (record { words = w.words; is = named })) has done
      (outcome-of w (command.Sample file x tape limits F false) named status text ticks (not-for-memory status done) h)
      has_too holds memory (outcome-of v (command.Verify again wrote) named_too other others more memory k);
  migrate = λ w v file cert again wrote s c0 status other text others ticks more named has cert_has done h named_too has_too holds memory k.
      c.what_migrate_wrote_is_valid.ensures.verify w.files v.files file cert again wrote s c0 status other text others ticks more has cert_has done
      (outcome-of w (command.Migrate file cert) named status text ticks (not-for-memory status done) h)
      has_too holds memory (outcome-of v (command.Verify again wrote) named_too other others more memory k);
}
