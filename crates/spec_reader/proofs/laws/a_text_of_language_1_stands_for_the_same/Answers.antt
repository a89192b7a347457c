use Rattle.spec_reader.proofs.TextsOne.{stands-one, ranges-one}
use Rattle.spec_reader.proofs.laws.a_text_of_language_1_stands_for_the_same.Goals as goal

pub returns-clause-stands : goal.returns-clause-stands
returns-clause-stands c = λ bytes s h. stands-one bytes s h

pub returns-clause-ranges : goal.returns-clause-ranges
returns-clause-ranges c = λ bytes s h. ranges-one bytes s h
