-- `text_stream::end_line` meets its contract. Assumes nothing.
use Rattle.std.proofs.Common.{rules, arith}
use Rattle.text_stream.proofs.FedLaws.{ended_ok, ended_room, line_ended}
use Rattle.text_stream.proofs.end_line.Goals as goal

pub unwrap-requires : goal.unwrap-requires
unwrap-requires g c = ended_ok (omega arith) c.answer_line.ensures

pub push-requires : goal.push-requires
push-requires g c = (search rules, omega (arith, ended_room (omega arith) c.answer_line.ensures))

pub returns : goal.returns
returns g c = line_ended (omega arith) c.answer_line.ensures c.push.ensures.items
