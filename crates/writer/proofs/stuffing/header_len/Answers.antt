use native.Mathlib.Omega.{arith}
use Rattle.writer.proofs.StuffingLaws.{width_few}
use Rattle.writer.proofs.stuffing.header_len.Goals as goal

pub overflow_add-result : goal.overflow_add-result
overflow_add-result c = omega (arith, width_few _ c.width.ensures)

pub overflow_add-result-in-Addressed : goal.overflow_add-result-in-Addressed
overflow_add-result-in-Addressed c = omega (arith, width_few _ c.width.ensures, width_few _ c.width-in-Addressed.ensures)
