use Rattle.lease.specs.Lease.{release}
use Rattle.lease.proofs.LeaseLaws.{settles}
use Rattle.lease.proofs.LeaseTable.release.Goals as goal

pub settle-requires : goal.settle-requires
settle-requires c =
    let a = c.args in
    settles _ (release a.address a.token) _ c.judge_holder-answer.ensures
