use mathlib.Core.Path.{sym}
use native.Mathlib.Nat.{zero-add}
use native.Mathlib.Omega.{arith}
use Rattle.lists.proofs.Before.{marked, before_here, before_end}
use Rattle.lists.proofs.count_before.Goals as goal
use Rattle.lists.proofs.count_before.Goals.{then-is_empty-via-then-is_empty, then-is_empty-via-else-is_empty+then-mark-eq1}

pub returns-then-is_empty : goal.returns-then-is_empty
returns-then-is_empty c =
    elim c.then-is_empty.branch [
      | then-is_empty-via-then-is_empty w ↦ before_end _ _ 0 (grind (arith, w.if-is_empty.ensures)) (sym (zero-add _))
      | then-is_empty-via-else-is_empty+then-mark-eq1 w ↦
          before_here _ _ 0 (grind (arith, w.if-is_empty.ensures)) (marked _ _ w.mark.ensures w.if-mark-eq1.true) (sym (zero-add _))
    ]
