-- `set_cell::rest_of_half` meets its contract. Assumes nothing.
use native.Mathlib.Omega.{arith}
use Rattle.set_cell.proofs.SettingLaws.{rest_digit, rest_row, rest_column, shl_most}
use Rattle.set_cell.proofs.rest_of_half.Goals as goal

pub returns-in-0-to-7 : goal.returns-in-0-to-7
returns-in-0-to-7 c = rest_digit _ (omega arith) (omega arith)

pub overflow_sub-result-in-0-to-9 : goal.overflow_sub-result-in-0-to-9
overflow_sub-result-in-0-to-9 c = omega (arith, shl_most c.args.v 9 (omega arith) (omega arith))

pub returns-in-0-to-9 : goal.returns-in-0-to-9
returns-in-0-to-9 c = rest_row _ (omega arith) (omega arith)

pub overflow_sub-result-in_default : goal.overflow_sub-result-in_default
overflow_sub-result-in_default c = omega (arith, shl_most c.args.v 11 (omega arith) (omega arith))

pub returns-in_default : goal.returns-in_default
returns-in_default c = rest_column _ (omega arith) (omega arith)
