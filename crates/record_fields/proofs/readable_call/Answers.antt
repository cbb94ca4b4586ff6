-- `record_fields::readable_call` meets its contract. Assumes nothing.
use Rattle.std.proofs.Common.{◌≡◌, ◌∙◌, arith}
use Rattle.std.proofs.lemmas.Grind.{common_steps}
use Rattle.record_fields.specs.Fields.{readable}
use Rattle.record_fields.proofs.FieldLaws.{unreadable, unreadable_end, readable_whole, found_by}
use Rattle.record_fields.proofs.readable_call.Goals as goal
use Rattle.record_fields.proofs.readable_call.Goals.{then-end-list, else-end-list}

pub returns-in_err-call : goal.returns-in_err-call
returns-in_err-call c = grind (arith, common_steps, unreadable)

pub returns : goal.returns
returns c =
    let e = c.in_ok-call.ensures ∙ c.byte.ensures in
    let t : c.if-end-list.then_some ≡ readable c.args.list.now =
    elim c.if-end-list.branch [
      | then-end-list w ↦ w.then_some-is ∙ readable_whole _ _ e _ _ c.field_count.ensures.is c.field_start-end.ensures.0 _ w.field.ensures w.if-end-list.true
      | else-end-list w ↦ w.then_some-is ∙ unreadable_end _ _ e _ _ c.field_count.ensures.is c.field_start-end.ensures.0 w.if-end-list.false
    ] in
    rw c.then_some.ensures (found_by _ _ _ e t)
