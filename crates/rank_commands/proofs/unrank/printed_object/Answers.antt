use Rattle.rank_commands.proofs.Pages.{page_of}
use Rattle.rank_commands.proofs.unrank.printed_object.Goals as goal

-- the text and the last line
pub returns : goal.returns
returns c = record { text = page_of c.system-system.result.now c.args.founded.now c.args.shape.now.items c.in_ok-text.text.items c.extend_from_slice.new.self.items c.system-system.ensures.system c.in_ok-text.ensures.text c.in_ok-extend_from_slice.ensures.items }
