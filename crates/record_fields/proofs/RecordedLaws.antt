-- Laws of tests that say whether a statement holds. Assumes nothing.
use Rattle.std.proofs.Common.{Bool, false}
use Rattle.std.proofs.lemmas.Bool.{false≢true}
use Rattle.record_fields.specs.Recorded.{Says}

-- No is right of a statement that cannot hold.
pub says_no : {P : Type 0} → (P → ⊥) → Says false P
says_no n = record { sound = λ e. absurd (false≢true e); complete = λ p. absurd (n p) }

-- A test serves for a statement that holds as well.
pub says_also : {P Q : Type 0} {b : Bool} → Says b P → (P → Q) → (Q → P) → Says b Q
says_also s there back = record { sound = λ e. there (s.sound e); complete = λ q. s.complete (back q) }
