use mathlib.Core.Path.{ap, ◌∙◌, subst}
use mathlib.Core.List.{List}
use Prim.Native.Nat.{ℕ}
use native.Mathlib.Omega.{arith}
use lib.ListN.{take}
use Rattle.std.proofs.lemmas.List.{take_min, set-get_or}
use Rattle.framing.specs.Chunk.{chunk_limit}
use Rattle.coscom_line.specs.Reader.{lent_reader}
use Rattle.coscom_line.specs.Chunk.{feed_of, ChunkIs}
use Rattle.coscom_line.proofs.Handed.{fed_handed}
use Rattle.coscom_line.proofs.feed_in.Goals as goal

pub returns : goal.returns
returns c =
    let a = c.args in
    let fed = c.feed-fed.result in
    let new = c.feed-fed.new.bytes in
    let h =
    subst (λ (l : List ℕ). ChunkIs (lent_reader new fed.held) fed.told fed.taken (feed_of (lent_reader a.bytes.now a.state) l))
    (ap (λ (n : ℕ). take n a.chunk.now) c.min-most.ensures ∙ take_min chunk_limit a.chunk.now)
    (fed_handed a.state a.bytes.now new _ fed c.feed-fed.ensures.0) in
    grind (arith, h, set-get_or)
