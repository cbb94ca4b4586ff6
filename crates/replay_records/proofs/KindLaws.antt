-- A test of a range of kinds, and what is counted where it says what is wanted. Assumes nothing.
use Rattle.std.proofs.Common.{ℕ, ◌≡◌, ◌∙◌, ap, Bool, List, Option}
use Rattle.record_fields.specs.declared.Call.{Call}
use Rattle.replay_records.specs.Replay.{kind, kind_of, in_kinds, RecordsTallied, none, more, KindsTallied, kinds_none, kinds_more}

-- Where the kinds from first to last are wanted, these are counted.
pub kinds_tallied :
    {Wanted : Option Call → Bool → Type 0} {first last k d : ℕ} {xs : List ℕ}
    → ((call : Option Call) (b : Bool) → Wanted call b → b ≡ in_kinds first last (kind_of call))
    → RecordsTallied Wanted k d xs → KindsTallied first last k d xs
kinds_tallied test none = kinds_none
kinds_tallied {Wanted} {first} {last} test (more {k = k} {d = d} {xs = xs} {agrees = agrees} {wanted = wanted} {call = call} h t is w rest) =
    let e : wanted ≡ in_kinds first last (kind xs) = test call wanted w ∙ ap (in_kinds first last) is in
    rw e (kinds_more h t (kinds_tallied test rest))
