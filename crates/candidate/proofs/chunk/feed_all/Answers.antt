use native.Mathlib.Omega.{arith}
use Rattle.std.proofs.lemmas.List.{set-get_or}
use Rattle.candidate.proofs.Handed.{fed_handed, opens_handed}
use Rattle.candidate.proofs.chunk.feed_all.Goals as goal

pub returns-clause-held_chunk_is : goal.returns-clause-held_chunk_is
returns-clause-held_chunk_is c =
    let h = fed_handed c.args.held c.args.bytes.now c.feed-fed.new.bytes c.args.input.now c.feed-fed.result c.feed-fed.ensures.0 in
    grind (arith, h, set-get_or)

pub returns-clause-opens : goal.returns-clause-opens
returns-clause-opens c =
    let h = opens_handed c.args.held c.args.bytes.now c.feed-fed.new.bytes c.args.input.now c.feed-fed.result c.feed-fed.ensures.1 in
    grind (arith, h, set-get_or)
