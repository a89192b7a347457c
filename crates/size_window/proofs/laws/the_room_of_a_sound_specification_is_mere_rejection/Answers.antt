use Rattle.size_window.proofs.laws.the_room_of_a_sound_specification_is_mere_rejection.Goals as goal

pub returns-clause-decided : goal.returns-clause-decided
returns-clause-decided c = λ s part sound. c.objects_of_size_0_are_decided.ensures.decided s part sound

pub returns-clause-fits : goal.returns-clause-fits
returns-clause-fits c = λ s x e max us left o h le.
    c.the_room_is_mere_rejection.ensures.fits s x e max us left o ((c.making_without_a_room_is_making_with_some_room.ensures.same s x e us left o).0 h) le

pub returns-clause-over : goal.returns-clause-over
returns-clause-over c = λ s x e max us left o sound h less.
    c.the_room_is_mere_rejection.ensures.over s x e max us left o (λ part. c.objects_of_size_0_are_decided.ensures.decided s part sound)
    ((c.making_without_a_room_is_making_with_some_room.ensures.same s x e us left o).0 h) less
