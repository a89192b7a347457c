use Rattle.bz_laws.proofs.Options.{decided, none_earlier}
use Rattle.std.proofs.Common.{arith, inr, suc}
use Rattle.bz_laws.proofs.decisions.decisions_are_ideal.Goals as goal

pub returns-clause-first : goal.returns-clause-first
returns-clause-first c = λ s x u k b F e hi lo o p belongs up down h cell. decided s x u k b F e 0 lo hi p o belongs up down h (λ j le. absurd (omega arith)) cell

pub returns-clause-later : goal.returns-clause-later
returns-clause-later c = λ s x u k b F e i lo hi lo_upto hi_before o p belongs down up some before h k2 cell. decided s x u k b F e (suc i) lo_upto hi p o belongs up some h (none_earlier s x u k b F e i lo hi_before down before k2 cell) cell

pub returns-clause-greatest : goal.returns-clause-greatest
returns-clause-greatest c = λ s x u k b F e i lo hi_before g down before h cell. record { none_before = none_earlier s x u k b F e i lo hi_before down before h cell; here = inr g }

pub returns-clause-only : goal.returns-clause-only
returns-clause-only c = λ s x u e g. record { none_before = λ j le. absurd (omega arith); here = inr g }
