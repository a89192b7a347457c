use Rattle.std.proofs.Common.{ℕ, subst}
use Rattle.std.specs.Prelude.{◌≤◌, length, List}
use Rattle.spec_reader.specs.Reading.{Grammar}
use Rattle.bulk_command.specs.BulkText.{classes_of}
use Rattle.bulk_command.specs.BulkTables.{bulk_tables}
use Rattle.bulk_command.proofs.Names.{few-classes, some-classes, are-distinct}
use Rattle.bulk_command.proofs.Sounds.{is-sound}
use Rattle.bulk_command.proofs.Shows.{canonical-is}
use Rattle.bulk_command.proofs.Depths.{is-within}
use Rattle.bulk_command.proofs.WellFounded.{is-well-founded}
use Rattle.bulk_command.proofs.laws.the_text_stands_for_the_tables.Goals as goal

pub returns-clause-canonical : goal.returns-clause-canonical
returns-clause-canonical c = λ n. canonical-is (classes_of n) (some-classes n)

-- the canonical text is short, and is read back
pub returns-clause-accepted : goal.returns-clause-accepted
returns-clause-accepted c = λ n.
    let text = canonical-is (classes_of n) (some-classes n) in
    let sound = is-sound (classes_of n) (some-classes n) (few-classes n) in
    let within = is-within (classes_of n) (few-classes n) in
    record {
      few = subst (λ (t : List ℕ). length t ≤ 65536) text (c.a_canonical_text_is_short.ensures.few (bulk_tables n) sound within);
      stands = subst (λ (t : List ℕ). Grammar t (bulk_tables n)) text (c.a_canonical_text_stands_for_its_specification.ensures.stands (bulk_tables n) sound (are-distinct (classes_of n) (few-classes n)));
      within = within;
    }

pub returns-clause-well_founded : goal.returns-clause-well_founded
returns-clause-well_founded c = λ n. is-well-founded (classes_of n) (some-classes n) (few-classes n)
