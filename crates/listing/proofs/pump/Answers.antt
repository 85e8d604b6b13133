use Rattle.std.proofs.Common.{refl}
use Rattle.listing.proofs.Laws.{pumping_more, first_lines}
use Rattle.listing.proofs.StreamLaws.{given_more, given_all, is_whole, is_failed, never_both}
use Rattle.listing.proofs.pump.Goals as goal

pub returns-then-is_err-clause-pumps : goal.returns-then-is_err-clause-pumps
returns-then-is_err-clause-pumps g c =
    let l = c.loop-taken in
    let f = c.list-listed in
    let whole = c.write_all-whole.result in
    let p = pumping_more c.args.s c.args.chunk.now l.state l.wrote l.taken l.invariant.0 l.out f.new.out f.result f.ensures _ refl in
    record {
      fits = p.0;
      next_is = p.1.state;
      wrote_is = p.1.wrote_is;
      all = λ e. absurd (never_both whole e (is_failed whole _ c.is_err.ensures.value c.if-is_err.true));
    }

pub returns-then-is_err-clause-gives : goal.returns-then-is_err-clause-gives
returns-then-is_err-clause-gives g c =
    let l = c.loop-taken in
    let f = c.list-listed in
    given_more c.args.s c.args.chunk.now l.state l.taken l.invariant.0.1.state _ _ _ l.invariant.1 c.write_all-whole.result _
    f.result.taken (first_lines l.state c.args.chunk.now l.out f.new.out l.taken f.result f.ensures) c.write_all-whole.ensures

pub loop-taken-preserved : goal.loop-taken-preserved
loop-taken-preserved g c =
    let l = c.loop-taken in
    let f = c.list-listed in
    let whole = c.write_all-whole.result in (
      pumping_more c.args.s c.args.chunk.now l.state l.wrote l.taken l.invariant.0 l.out f.new.out f.result f.ensures _ refl,
      given_all _ _ whole _ (is_whole whole _ c.is_err.ensures.value c.if-is_err.false)
          (given_more c.args.s c.args.chunk.now l.state l.taken l.invariant.0.1.state _ _ _ l.invariant.1 whole _ f.result.taken
          (first_lines l.state c.args.chunk.now l.out f.new.out l.taken f.result f.ensures)
          c.write_all-whole.ensures),
    )
