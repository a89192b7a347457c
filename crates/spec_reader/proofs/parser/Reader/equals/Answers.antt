use Rattle.std.proofs.Common.{ap}
use Rattle.spec_reader.specs.Machine.{Named, sum_begun, step}
use Rattle.spec_reader.proofs.parser.Reader.equals.Goals as goal

pub returns-clause-read : goal.returns-clause-read
returns-clause-read c names b w r = (sum_begun b w, ap (λ t. step (Named b w) t) c.in-Exactly.is, record { draft_is = r.draft_is; products_are = r.no_products; factors_are = r.no_factors; outers_are = r.no_outers })
