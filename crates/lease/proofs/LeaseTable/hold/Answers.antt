use Rattle.lease.specs.Lease.{hold}
use Rattle.lease.proofs.LeaseLaws.{settles}
use Rattle.lease.proofs.LeaseTable.hold.Goals as goal

pub settle-requires : goal.settle-requires
settle-requires c =
    let a = c.args in
    settles _ (hold a.address a.token) _ c.judge_hold-answer.ensures
