use Rattle.rounded_map.proofs.FixedTests.{fixed-by-test, test-of-fixed, length-fixed}
use Rattle.rounded_map.proofs.laws.the_test_and_the_fact_agree.Goals as goal

pub returns-clause-same : goal.returns-clause-same
returns-clause-same c = λ t classes lengths. (fixed-by-test t classes lengths, test-of-fixed t classes)

pub returns-clause-length : goal.returns-clause-length
returns-clause-length c = λ t classes fixed. length-fixed t classes fixed
