-- `replay_records::solver_calls::buffer_agrees` meets its contract: the number and the buffer that the call gives are compared. Assumes nothing.
use Rattle.std.proofs.Common.{◌≡◌, ◌∙◌, rules}
use Rattle.arrayvec.proofs.ArrayVecLemmas.{items-with_items}
use Rattle.replay_records.proofs.solver_calls.buffer_agrees.Goals as goal

pub returns : goal.returns
returns g c =
    let e : c.deref.result.now ≡ c.call-number.new.arg7 = c.deref.ensures.0 ∙ items-with_items c.in-Ok.buffer _ (search rules) in
    record {
      long = search rules;
      short = λ _. record { number = c.call-number.result; after = c.call-number.new.arg7; promised = search rules; says = rw e at c.buffer_recorded.ensures };
    }
