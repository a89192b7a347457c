-- What the structs of the code show: the values that options are given, what the arguments of a
-- command give, and the texts of a command's values.
use Rattle.std.specs.Prelude.{ℕ, List, None, slice_index_or, if◌then◌else◌}
use Rattle.std.specs.Option.{option_copied, option_to_list}
use Rattle.command_words.specs.declared.fault.ValueName.{ValueName}
use Rattle.command_words.specs.declared.form.Form.{Form}
use Rattle.command_words.specs.declared.given.Given.{Given as Kept}
use Rattle.command_words.specs.declared.names.OptionName.{OptionName}
use Rattle.command_words.specs.declared.settings.Settings.{Settings}
use Rattle.command_words.specs.Words.{Given, option_number}
use Rattle.command_words.specs.Values.{texts_of}

-- The value of an option, at the option's number: none or one.
abbrev pub values_in : Settings → OptionName → List (List ℕ)
values_in settings option =
    option_to_list (option_copied (slice_index_or settings.values (option_number option) None))

-- What the arguments of a command give.
abbrev pub given_of : Kept → Given
given_of given = record {
  places = given.places;
  values = values_in given.settings;
  fast =
      if given.fast then 1 else 0;
}

-- The texts that stand for a value of a command: none or one.
abbrev pub texts_in : Form → ValueName → List (List ℕ)
texts_in form name = texts_of form.name (given_of form.given) name
