use mathlib.Core.Path.{sym, ap, ◌∙◌}
use lib.ListN.{length}
use Rattle.frame.proofs.StuffingLaws.{stuff_byte_yes, stuff_byte_no}
use Rattle.writer.proofs.stuffing.width.Goals as goal

pub returns-then-is_stuffed : goal.returns-then-is_stuffed
returns-then-is_stuffed c = sym (ap length (stuff_byte_yes _ (sym c.is_stuffed.ensures ∙ c.if-is_stuffed.true)))

pub returns-else-is_stuffed : goal.returns-else-is_stuffed
returns-else-is_stuffed c = sym (ap length (stuff_byte_no _ (sym c.is_stuffed.ensures ∙ c.if-is_stuffed.false)))
