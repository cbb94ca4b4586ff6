-- What holds in any case holds on an error. Assumes nothing.
use Rattle.std.proofs.Common.{Result, Ok, Err, OnErr}

pub on_err : {A E : Type 0} (r : Result A E) {P : Type 0} → P → OnErr r P
on_err (Ok x) p = tt
on_err (Err e) p = p
