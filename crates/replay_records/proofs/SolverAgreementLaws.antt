-- What a record of the solver that is found right says. Assumes nothing.
use Rattle.std.proofs.Common.{ℕ, ◌≡◌, ◌≤◌, ◌<◌, refl, sym, subst, true, List, [], ◌∷◌, length, arith}
use Rattle.std.proofs.lemmas.Bool.{false≢true}
use Rattle.record_fields.specs.Fields.{field}
use Rattle.record_fields.specs.Recorded.{BufferRecorded}
use Rattle.replay_records.specs.SolverAgreement.{Compared, FittingCompared}

-- A test that is true says that the record itself keeps the promise.
pub found_right :
    {Promised : ℕ → List ℕ → Type 0} {xs : List ℕ} → FittingCompared true Promised xs → (k : ℕ) × (field xs 5 ≡ k ∷ []) × Promised k (field xs 6)
found_right {Promised} {xs} f =
    let fits : length (field xs 4) ≤ 256 = let n : 256 < length (field xs 4) → ⊥ = λ h. false≢true (sym (f.long h)) in omega arith in
    let c : Compared true Promised xs = f.short fits in
    let is : BufferRecorded c.number c.after xs = c.says.sound refl in
    (c.number, is.answer_is, subst (Promised c.number) (sym is.buffer_is) c.promised)
