use Rattle.class_system.proofs.NameLists.{distinct_names}
use Rattle.class_system.proofs.names.Names.known.Goals as goal

pub returns : goal.returns
returns c = record { distinct = rw (← c.self.view_is) (distinct_names _ c.as_slice-names.ensures.unique) }
