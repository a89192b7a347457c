use Rattle.certificate_commands.proofs.Certified.{CourseLaws}
use Rattle.certificate_commands.proofs.SampleDone.{verified-done, migrated-done}
use Rattle.certificate_commands.proofs.samples.what_sample_wrote_is_found_valid.Goals as goal

pub returns : goal.returns
returns c =
    let laws : CourseLaws = record {
      in_order = c.the_entries_of_a_course_are_in_order.ensures;
      few = c.a_course_uses_few_bits.ensures;
      redrawn = c.each_entry_is_redrawn_from_its_cells.ensures;
      spell = c.a_labelling_spells_its_bits.ensures;
    } in
    let drawn = c.what_a_drawing_prints_is_valid.ensures in
    let digests = c.a_digest_is_32_bytes.ensures in
    let found = c.what_is_valid_is_found_valid.ensures in
    record {
      verify = λ f g file again wrote s x tape limits bits status other text others ticks more are has done h has_too holds memory p.
          verified-done laws drawn digests f file x tape limits bits are status text done g again wrote s other others more memory (λ cert hg hc passes q. found.verify g again wrote s cert other others more hg hc passes memory q) ticks has h has_too holds p;
      migrate = λ f g file again wrote s x tape limits bits status other text others ticks more are has done h has_too holds memory p.
          migrated-done laws drawn digests f file x tape limits bits are status text done g again wrote s other others more memory (λ cert hg hc passes q. found.migrate g again wrote s cert other others more hg hc passes memory q) ticks has h has_too holds p;
    }
