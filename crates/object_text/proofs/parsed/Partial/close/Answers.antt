-- The token of the list's number of parts is patched.
use Rattle.object_text.proofs.OpenLists.{seen-closed}
use Rattle.object_text.proofs.parsed.Partial.close.Goals as goal

pub returns : goal.returns
returns c = seen-closed c.self.inside.lists.items c.pop.new.self.items c.in-Some.list c.self.inside.tokens.items c.self.inside.labels c.self.inside.least c.args.parts c.self.inside.ordered c.args.self.now c.in-Some.ensures.items c.self.invariant c.self.view_is
