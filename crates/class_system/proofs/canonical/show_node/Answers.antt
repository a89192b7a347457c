use Rattle.std.proofs.Common.{refl}
use Rattle.class_system.proofs.Texts.{shown-is}
use Rattle.class_system.proofs.canonical.show_node.Goals as goal

pub bounds-before-part : goal.bounds-before-part
bounds-before-part c = c.requires.parts.at 0 _ (rw c.in-Seq.is refl)

pub bounds-before-part-in-Set : goal.bounds-before-part-in-Set
bounds-before-part-in-Set c = c.requires.parts.at 0 _ (rw c.in-Set.is refl)

pub bounds-before-part-in-Cyc : goal.bounds-before-part-in-Cyc
bounds-before-part-in-Cyc c = c.requires.parts.at 0 _ (rw c.in-Cyc.is refl)

pub returns-in-Union : goal.returns-in-Union
returns-in-Union c = record { shown = rw (c.in-Union.is, ← c.items.ensures.items) c.joined.ensures.text }

pub returns-in-Product : goal.returns-in-Product
returns-in-Product c = record { shown = rw (c.in-Product.is, ← c.items-in-Product.ensures.items) c.joined-in-Product.ensures.text }

pub returns-in-Seq : goal.returns-in-Seq
returns-in-Seq c = record { shown = rw (c.in-Seq.is, shown-is _ _ _ (c.requires.parts.at 0 _ (rw c.in-Seq.is refl)) c.index-before-part.is) c.counted.ensures.text }

pub returns-in-Set : goal.returns-in-Set
returns-in-Set c = record { shown = rw (c.in-Set.is, shown-is _ _ _ (c.requires.parts.at 0 _ (rw c.in-Set.is refl)) c.index-before-part-in-Set.is) c.counted-in-Set.ensures.text }

pub returns-in-Cyc : goal.returns-in-Cyc
returns-in-Cyc c = record { shown = rw (c.in-Cyc.is, shown-is _ _ _ (c.requires.parts.at 0 _ (rw c.in-Cyc.is refl)) c.index-before-part-in-Cyc.is) c.counted-in-Cyc.ensures.text }
