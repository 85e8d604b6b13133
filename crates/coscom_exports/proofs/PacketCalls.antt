-- Demands 1 and 2 of the exported packet functions: calls of `csafe_packet_write` and `csafe_packet_read`, known by
-- nothing but what their contracts tell a caller, with the answers that their numbers tell.
use Prim.Native.Nat.{ℕ, ◌≤◌}
use mathlib.Core.Path.{◌≡◌}
use mathlib.Core.List.{List, ◌++◌}
use lib.ListN.{length, take, drop}
use contract.Lifetimes.{Lfts}
use denote.MutBor.{MutBor}
use denote.Ref.{Bor}
use Rattle.lists.specs.Choice.{Exactly}
use Rattle.answer.specs.Answer.{Answer, result}
use Rattle.answer.specs.Draft.{Writes}
use Rattle.coscom.specs.Packet.{Packet, packet, wire_of}
use Rattle.coscom.specs.Answers.{PacketOutline, outline_of, packet_draft, packet_read, Reads}
use Rattle.coscom.specs.Conditions.{Sound, SoundPacket, ReadJudged, Proper, WriteJudged}
use Rattle.coscom.proofs.Table.{reads_exactly, writes_exactly}
use Rattle.coscom.proofs.RoundTrip.{told_when, told_exactly, told_as_written, written_reads_back, read_writes_back}
use Rattle.exports.specs.Told.{told_written}
use Rattle.coscom_exports.specs.Told.{told_packet}
use Rattle.coscom_exports.proofs.ToldLaws.{write_told, read_told}
use Rattle.coscom_exports.proofs.csafe_packet_write.Reads as write-reads
use Rattle.coscom_exports.proofs.csafe_packet_read.Reads as read-reads

-- ---- calls

-- A call that writes a packet: the answer that its number tells, and the output before and after.
pub data ExportedWrite : Packet → (out : List ℕ) → Answer ℕ → (last : List ℕ) → Type 0 where
  wrote : {letter tens ones : ℕ} (n : ℕ) (κs : Lfts 2) (unit : Bor (List ℕ)) (out out' : MutBor (List ℕ))
      → write-reads.Learnt κs (letter, (tens, (ones, (unit, (out, tt))))) n
      (letter, (tens, (ones, (unit, (out', tt)))))
      → ExportedWrite (packet letter tens ones unit.now) out.now (told_written n) out'.now

-- A call that reads a slice: the answer that its number tells, and the output before and after.
pub data ExportedRead : (w out : List ℕ) → Answer PacketOutline → (last : List ℕ) → Type 0 where
  read_slice : (n : ℕ) (κs : Lfts 2) (wire : Bor (List ℕ)) (out out' : MutBor (List ℕ))
      → read-reads.Learnt κs (wire, (out, tt)) n (wire, (out', tt))
      → ExportedRead wire.now out.now (told_packet n) out'.now

-- Each tells and leaves what the definitions say.
pub exported_writes : {p : Packet} {out last : List ℕ} {a : Answer ℕ} → ExportedWrite p out a last
    → Writes (packet_draft p) out a last
exported_writes (wrote {letter = letter} {tens = tens} {ones = ones} n κs unit out out' e) =
    (write_told n (packet letter tens ones unit.now) (length out.now) e.0, e.1)

pub exported_reads : {w out last : List ℕ} {a : Answer PacketOutline} → ExportedRead w out a last → Reads w out a last
exported_reads (read_slice n κs wire out out' e) = (read_told n wire.now (length out.now) e.0, e.1)

-- ---- demand 1: the tables

-- A call that reads is answered, and leaves its output, exactly as the papers' table says.
pub exported_read_exactly : {w out last : List ℕ} {a : Answer PacketOutline} → ExportedRead w out a last
    → (b : Answer PacketOutline) (left : List ℕ) → Exactly ((a ≡ b) × (last ≡ left)) (ReadJudged w out b left)
exported_read_exactly {w} {out} {last} {a} k b left = reads_exactly w out a b last left (exported_reads k)

-- A call that writes is answered, and leaves its output, exactly as the papers' table says.
pub exported_write_exactly : {p : Packet} {out last : List ℕ} {a : Answer ℕ} → ExportedWrite p out a last
    → (b : Answer ℕ) (left : List ℕ) → Exactly ((a ≡ b) × (last ≡ left)) (WriteJudged p out b left)
exported_write_exactly {p} {out} {last} {a} k b left = writes_exactly p out a b last left (exported_writes k)

-- ---- demand 2

-- Given room for the data unit of any packet, a call tells a packet exactly when the slice's limit, length, characters
-- and checksum are right.
pub exported_accepted_given_room : {w out last : List ℕ} {a : Answer PacketOutline} → ExportedRead w out a last
    → 249 ≤ length out → Exactly ((p : Packet) × (packet_read a last ≡ result p)) (Sound w)
exported_accepted_given_room {w} {out} {last} {a} k room = told_when w out a last (exported_reads k) room

-- Given room for its data unit, a call tells a packet exactly when the slice is sound and is that packet.
pub exported_accepted_as : {w out last : List ℕ} {a : Answer PacketOutline} → ExportedRead w out a last → (p : Packet)
    → length p.unit ≤ length out → Exactly (packet_read a last ≡ result p) (SoundPacket w p)
exported_accepted_as {w} {out} {last} {a} k p room = told_exactly w out a last (exported_reads k) p room

-- Given room for its data unit, a call tells a packet exactly when the slice is that packet as it is written, at most
-- 256 bytes long, and every byte of the packet is allowed at its place.
pub exported_accepted_written : {w out last : List ℕ} {a : Answer PacketOutline} → ExportedRead w out a last
    → (p : Packet) → length p.unit ≤ length out
    → Exactly (packet_read a last ≡ result p) ((wire_of p ≡ w) × (length w ≤ 256) × Proper p)
exported_accepted_written {w} {out} {last} {a} k p room = told_as_written w out a last (exported_reads k) p room

-- A packet that a call wrote, read from the bytes that it wrote by any call with room, is told as the same packet: its
-- header and the number of bytes of its data unit, and these first in the output.
pub exported_reads_back : {p : Packet} {out last into left : List ℕ} {n : ℕ} {a : Answer PacketOutline}
    → ExportedWrite p out (result n) last → ExportedRead (take n last) into a left → length p.unit ≤ length into
    → (a ≡ result (outline_of p)) × (left ≡ p.unit ++ drop (length p.unit) into)
exported_reads_back {p} {out} {last} {into} {left} {n} {a} k l room =
    written_reads_back p out last n into a left (exported_writes k) (exported_reads l) room

-- A slice that a call read as a packet, written again from what it told, gives the slice's bytes, where the output has
-- room for them.
pub exported_writes_back : {w out last into left : List ℕ} {p : Packet} {a : Answer PacketOutline} {b : Answer ℕ}
    → ExportedRead w out a last → packet_read a last ≡ result p → ExportedWrite p into b left → length w ≤ length into
    → (b ≡ result (length w)) × (left ≡ w ++ drop (length w) into)
exported_writes_back {w} {out} {last} {into} {left} {p} {a} {b} k e l room =
    read_writes_back w out a last p into b left (exported_reads k) e (exported_writes l) room
