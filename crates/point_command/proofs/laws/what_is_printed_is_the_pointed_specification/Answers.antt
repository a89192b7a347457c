use Rattle.point_command.proofs.Prints.{prints}
use Rattle.point_command.proofs.laws.what_is_printed_is_the_pointed_specification.Goals as goal

pub returns : goal.returns
returns c = record { prints = prints c.the_classes_with_an_atom_are_found.ensures.all c.a_pointed_specification_is_sound_and_founded.ensures.sound c.a_pointed_specification_is_sound_and_founded.ensures.distinct c.a_pointed_specification_is_sound_and_founded.ensures.founded c.pointing_marks_one_atom.ensures c.a_canonical_text_stands_for_its_specification.ensures.stands c.a_canonical_text_is_short.ensures.few }
