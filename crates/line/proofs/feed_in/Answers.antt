use Rattle.line.proofs.FeedLaws.{part_fits, chunk_advances}
use Rattle.line.proofs.feed_in.Goals as goal

pub advanced-requires : goal.advanced-requires
advanced-requires c =
    let a = c.args in
    let k =
    part_fits a.bytes.now _ a.state a.chunk.now _ _ c.min.ensures c.min-part.ensures c.if-room-eq0.false _
    c.feed_all-fed.ensures.held_chunk_is c.feed_all-fed.ensures.opens in
    record { taken_bound = k.0; began_le_taken = k.1; opened_le_taken = k.2 }

pub returns : goal.returns
returns c =
    let a = c.args in
    chunk_advances a.bytes.now _ a.state a.chunk.now _ _ c.min.ensures c.min-part.ensures c.if-room-eq0.false _
    c.feed_all-fed.ensures.held_chunk_is c.feed_all-fed.ensures.opens _ c.advanced.ensures
