use Rattle.std.proofs.Common.{arith}
use Rattle.std.proofs.lemmas.List.{take_rest}
use Rattle.std.proofs.lemmas.Result.{err_from_is_err_and}
use Rattle.listing.proofs.StreamLaws.{wrote_more, wrote_first, kept_of_none}
use Rattle.listing.proofs.write_all.Goals as goal

pub returns-in_err-n : goal.returns-in_err-n
returns-in_err-n g c =
    let p = err_from_is_err_and c.from_residual.result c.from_residual.ensures.1 in
    let (fits, appended) = c.loop-done.invariant in
    rw p.1 (wrote_first _ _ c.args.text.now c.loop-done.done appended _ c.in_err-n.ensures.bytes)

pub returns-in-0 : goal.returns-in-0
returns-in-0 g c =
    let (fits, appended) = c.loop-done.invariant in
    wrote_first _ _ c.args.text.now c.loop-done.done appended _
    (kept_of_none _ _ _ c.in_ok-n.n c.in-0.is c.in_ok-n.ensures.bytes)

pub loop-done-preserved : goal.loop-done-preserved
loop-done-preserved g c =
    let (fits, appended) = c.loop-done.invariant in (
      search (arith, c.in_ok-n.ensures.bound),
      wrote_more _ _ c.args.text.now c.loop-done.done appended _ _ c.in_ok-n.n (take_rest c.args.text.now c.loop-done.done) c.in_ok-n.ensures.bytes,
    )
