-- Parts of lists of objects.
use Rattle.bz_model.specs.Object.{Object, Objects, none, more}

-- The first object of a list; a neutral one where there is none.
abbrev pub head : Objects → Object
head none = Object.Unit_
head (more o os) = o

-- The objects after the first.
abbrev pub tail : Objects → Objects
tail none = none
tail (more o os) = os
