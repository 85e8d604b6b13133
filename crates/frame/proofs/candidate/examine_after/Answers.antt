use Rattle.frame.proofs.VerdictLaws.{scanned_enough, scanned_short, scanned_sum, scanned_sound}
use Rattle.frame.proofs.candidate.examine_after.Goals as goal

pub without-rest-requires-clause-enough : goal.without-rest-requires-clause-enough
without-rest-requires-clause-enough c = scanned_enough _ _ c.requires.limit _ c.requires.scanned _ c.requires.addressed

pub returns-then-rest-lt1 : goal.returns-then-rest-lt1
returns-then-rest-lt1 c =
    scanned_short _ _ c.requires.limit _ c.requires.scanned _ c.requires.addressed _ c.without-rest.ensures
    c.if-rest-lt1.true

pub returns-then-rest-ne0 : goal.returns-then-rest-ne0
returns-then-rest-ne0 c =
    scanned_sum _ _ c.requires.limit _ c.requires.scanned _ c.requires.addressed _ c.without-rest.ensures
    c.if-rest-lt1.false c.if-rest-ne0.true

pub returns : goal.returns
returns c =
    scanned_sound _ _ c.requires.limit _ c.requires.scanned _ c.requires.addressed _ c.without-rest.ensures
    c.if-rest-lt1.false c.if-rest-ne0.false
