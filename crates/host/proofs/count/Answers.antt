-- `host::count` meets its contract. Assumes nothing.
use Rattle.host.proofs.NumberLaws.{count_refused, count_done}
use Rattle.host.proofs.count.Goals as goal

pub returns-in-Ok : goal.returns-in-Ok
returns-in-Ok c = count_done _ c.in-Ok.ensures

pub returns-in-Err : goal.returns-in-Err
returns-in-Err c = rw c.number.ensures (count_refused _ c.in-Err.ensures)
