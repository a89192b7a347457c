use Rattle.certificate_commands.proofs.Certified.{CourseLaws}
use Rattle.certificate_commands.proofs.SampleDone.{sample-done}
use Rattle.certificate_commands.proofs.samples.what_sample_wrote_is_valid.Goals as goal

pub returns : goal.returns
returns c = λ f file x tape limits bits status text ticks are done h.
    let laws : CourseLaws = record {
      in_order = c.the_entries_of_a_course_are_in_order.ensures;
      few = c.a_course_uses_few_bits.ensures;
      redrawn = c.each_entry_is_redrawn_from_its_cells.ensures;
      spell = c.a_labelling_spells_its_bits.ensures;
    } in
    sample-done laws c.what_a_drawing_prints_is_valid.ensures c.a_digest_is_32_bytes.ensures f file x tape limits bits are status text done ticks h
