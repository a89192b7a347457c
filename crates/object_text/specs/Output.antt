-- What is printed so far: an open text, and the sets and cycles that are being printed, with their
-- finished parts.
use Rattle.std.specs.Prelude.{ℕ, List, [], ◌∷◌, ◌++◌, Option, Some, None, decimal}
use Rattle.bz_model.specs.ObjectText.{Arrangement, PartText, lesser_label, least_of, set_parts}
use Rattle.bz_model.specs.ObjectText.{cycle_parts, spaced}
use Rattle.object_text.specs.declared.output.Form.{Form}
use Rattle.object_text.specs.declared.output.Form.TheVariants.{Set, Cycle}

-- A set or cycle that is being printed: the text before it with its least label, and its finished
-- parts.
pub record OpenParts : Type 0 where
  pub least : ℕ
  pub text : List ℕ
  pub parts : List PartText

-- The open text with its least label, and the sets and cycles round it, the innermost first.
pub record Printed : Type 0 where
  pub least : ℕ
  pub text : List ℕ
  pub frames : List OpenParts

-- Nothing is printed.
abbrev pub blank : Printed
blank = record { least = 0; text = []; frames = [] }

-- The open text with more text, which has this least label.
abbrev pub grown : Printed → ℕ → List ℕ → Printed
grown p label text = record {
  least = lesser_label p.least label;
  text = p.text ++ text;
  frames =
      p.frames;
}

-- A set or cycle begins.
abbrev pub form_opened : Printed → Printed
form_opened p =
    record {
      least = 0;
      text = [];
      frames = record { least = p.least; text = p.text; parts = [] }
          ∷ p.frames;
    }

-- The open text is a finished part of these sets and cycles.
abbrev pub with_part : PartText → List OpenParts → List OpenParts
with_part part [] = []
with_part part (f ∷ frames) =
    record { least = f.least; text = f.text; parts = f.parts ++ part ∷ [] } ∷ frames

-- The open text is a finished part, and a new one begins.
abbrev pub part_printed : Printed → Printed
part_printed p =
    record {
      least = 0;
      text = [];
      frames =
          with_part (record { least = p.least; text = p.text }) p.frames;
    }

-- The parts in the order in which they are printed.
abbrev pub arranged : Form → List PartText → List PartText
arranged Set parts = set_parts Arrangement.Canonical parts
arranged Cycle parts = cycle_parts Arrangement.Canonical parts

-- The byte before the parts, and the byte after them.
abbrev pub opening_byte : Form → ℕ
opening_byte Set = 123
opening_byte Cycle = 60

abbrev pub closing_byte : Form → ℕ
closing_byte Set = 125
closing_byte Cycle = 62

-- The innermost set or cycle ends: its text follows the text before it.
abbrev pub form_closed_in : Form → Printed → List OpenParts → Printed
form_closed_in form p [] = p
form_closed_in form p (f ∷ frames) = record {
  least = lesser_label f.least (least_of f.parts);
  text =
      f.text ++ (opening_byte form ∷ spaced (arranged form f.parts) ++ closing_byte form ∷ []);
  frames = frames;
}

abbrev pub form_closed : Form → Printed → Printed
form_closed form p = form_closed_in form p p.frames

-- A leaf's text and, if it has one, its label are printed.
abbrev pub labelled_leaf : Printed → List ℕ → Option ℕ → Printed
labelled_leaf p text None = grown p 0 text
labelled_leaf p text (Some label) = grown (grown p 0 text) label (35 ∷ decimal label)
