-- The innermost set or cycle has one part more.
use Rattle.std.specs.Prelude.{slice_set}
use Rattle.std.proofs.Common.{ap, refl, List, reverse, ◌-◌, ◌∙◌, ◌++◌, ◌∷◌, []}
use Rattle.bz_model.specs.ObjectText.{PartText}
use Rattle.object_text.specs.Output.{OpenParts, part_printed}
use Rattle.object_text.proofs.LastFrames.{part-in-last}
use Rattle.object_text.proofs.output.Output.end_part.Goals as goal

pub returns : goal.returns
returns c =
    let part : PartText = record { least = c.self.inside.least; text = c.self.inside.text.items } in
    let more : OpenParts → OpenParts = λ f. record { least = f.least; text = f.text; parts = f.parts ++ part ∷ [] } in
    let put = part-in-last c.self.inside.frames.items c.in-Some.frame.now c.in-Some.frame.now _ part c.self.inside.frames.len (c.in-Some.ensures.variant.0 refl) c.self.inside.frames.ok.0 c.in-Some.ensures.value
    (ap (λ ps. record { least = c.frame.inside.least; text = c.frame.inside.text.items; parts = ps }) (c.in_ok-push.ensures.ok ∙ ap (λ t. c.frame.inside.parts.items ++ record { least = c.self.inside.least; text = t } ∷ []) c.in_ok-take_text.ensures.0) ∙ ap more c.frame.view_is) in
    let after : List OpenParts = reverse (slice_set c.self.inside.frames.items (c.self.inside.frames.len - 1) (record { least = c.frame.inside.least; text = c.frame.inside.text.items; parts = c.push.new.self.items })) in
    ap (λ t. record { least = 0; text = t; frames = after }) c.in_ok-take_text.ensures.1
    ∙ ap (λ fs. record { least = 0; text = []; frames = fs }) put
    ∙ ap part_printed c.self.view_is
