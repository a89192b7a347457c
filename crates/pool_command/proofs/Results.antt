-- What holds of any result holds of an error.
use Rattle.std.specs.Prelude.{Result, Ok, Err, OnOk, OnErr}

-- What holds anyway holds where a result is an error.
pub on-err : {T E P : Type 0} (r : Result T E) → P → OnErr r P
on-err (Ok x) p = tt
on-err (Err e) p = p

pub on-ok : {T E P : Type 0} (r : Result T E) → P → OnOk r P
on-ok (Ok x) p = p
on-ok (Err e) p = tt
