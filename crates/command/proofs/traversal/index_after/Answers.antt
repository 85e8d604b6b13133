use Rattle.std.proofs.Common.{arith}
use Rattle.command.proofs.CursorMoves.{after_found, after_refused}
use Rattle.command.proofs.traversal.index_after.Goals as goal

pub overflow_add-result : goal.overflow_add-result
overflow_add-result c = omega (arith, after_found _ _ c.in-Ok.ensures)

pub returns-in-Ok : goal.returns-in-Ok
returns-in-Ok c = (after_found _ _ c.in-Ok.ensures).1

pub returns-in-Err : goal.returns-in-Err
returns-in-Err c = after_refused _ _ c.in-Err.ensures
