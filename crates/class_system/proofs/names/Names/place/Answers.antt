use Rattle.class_system.proofs.NameLists.{found_at, missing_at}
use Rattle.class_system.proofs.names.Names.place.Goals as goal

pub returns-clause-found : goal.returns-clause-found
returns-clause-found c = rw (← c.self.view_is) (found_at _ _ _ c.get_index_of.ensures.index)

pub returns-clause-missing : goal.returns-clause-missing
returns-clause-missing c = rw (← c.self.view_is) (missing_at _ _ _ c.get_index_of.ensures.found)
