-- Demands 1 and 2 of the functions themselves: calls of `write_packet`, `read_packet` and `judge_array`, known by nothing
-- but what their contracts tell a caller.
use Prim.Native.Nat.{ℕ, ◌≤◌}
use mathlib.Core.Path.{◌≡◌, refl, sym, ap₂, ◌∙◌}
use mathlib.Core.List.{List, ◌++◌}
use native.Mathlib.Omega.{arith}
use lib.ListN.{length, take, drop}
use contract.Lifetimes.{Lfts}
use denote.MutBor.{MutBor}
use denote.Ref.{Bor}
use Rattle.lists.specs.Choice.{Exactly}
use Rattle.lists.proofs.Cases.{exactly}
use Rattle.answer.specs.Answer.{Answer, result, refused}
use Rattle.answer.specs.Draft.{Writes, written_means}
use Rattle.std.specs.Prelude.{Result}
use Rattle.answer.specs.declared.Refusal.{Refusal}
use Rattle.coscom.specs.Flags.{candidate_of}
use Rattle.coscom.specs.Packet.{Packet, packet, wire_of}
use Rattle.coscom.specs.Verdict.{Verdict, verdict}
use Rattle.coscom.specs.Answers.{PacketOutline, outline_of, packet_draft, read_means, judge_answer, Reads, left_in}
use Rattle.coscom.specs.Answers.{packet_read}
use Rattle.coscom.specs.Conditions.{Sound, SoundPacket, Judged, ReadJudged, Proper, WriteJudged}
use Rattle.coscom.specs.declared.Header.{Header}
use Rattle.coscom.specs.declared.Outline.{Outline}
use Rattle.coscom.proofs.CodeLaws.{left_whole}
use Rattle.coscom.proofs.Table as table
use Rattle.coscom.proofs.RoundTrip as trip
use Rattle.coscom.proofs.write_packet.Reads as write-packet-reads
use Rattle.coscom.proofs.read_packet.Reads as read-packet-reads
use Rattle.coscom.proofs.judge_array.Reads as judge-array-reads

-- ---- calls

-- A call that writes a packet: its answer, and the output before and after.
pub data CalledWrite : Packet → (out : List ℕ) → Answer ℕ → (last : List ℕ) → Type 0 where
  wrote : (r : Result ℕ Refusal) (κs : Lfts 2) (header : Header) (unit : Bor (List ℕ)) (out out' : MutBor (List ℕ))
      → write-packet-reads.Learnt κs (header, (unit, (out, tt))) r (header, (unit, (out', tt)))
      → CalledWrite (packet header.letter header.tens header.ones unit.now) out.now (written_means r) out'.now

-- A call that reads a slice: its answer, and the output before and after.
pub data CalledRead : (w out : List ℕ) → Answer PacketOutline → (last : List ℕ) → Type 0 where
  read_slice : (r : Result Outline Refusal) (κs : Lfts 2) (wire : Bor (List ℕ)) (out out' : MutBor (List ℕ))
      → read-packet-reads.Learnt κs (wire, (out, tt)) r (wire, (out', tt))
      → CalledRead wire.now out.now (read_means r) out'.now

-- Each answers and leaves what the definitions say.
pub call_writes : {p : Packet} {out last : List ℕ} {a : Answer ℕ} → CalledWrite p out a last
    → Writes (packet_draft p) out a last
call_writes (wrote r κs header unit out out' e) = e

pub call_reads : {w out last : List ℕ} {a : Answer PacketOutline} → CalledRead w out a last → Reads w out a last
call_reads (read_slice r κs wire out out' e) = e

-- What a call wrote stands first in its output: the packet's bytes, at most 256, and each is allowed at its place.
pub call_wire : {p : Packet} {out last : List ℕ} {n : ℕ} → CalledWrite p out (result n) last
    → (take n last ≡ wire_of p) × (length (wire_of p) ≤ 256) × Proper p
call_wire {p} {out} {last} {n} k = trip.written_wire p out last n (call_writes k)

-- ---- demand 1: the tables

-- A call that reads is answered, and leaves its output, exactly as the papers' table says.
pub read_exactly : {w out last : List ℕ} {a : Answer PacketOutline} → CalledRead w out a last
    → (b : Answer PacketOutline) (left : List ℕ) → Exactly ((a ≡ b) × (last ≡ left)) (ReadJudged w out b left)
read_exactly {w} {out} {last} {a} k b left = table.reads_exactly w out a b last left (call_reads k)

-- A call that writes is answered, and leaves its output, exactly as the papers' table says.
pub write_exactly : {p : Packet} {out last : List ℕ} {a : Answer ℕ} → CalledWrite p out a last
    → (b : Answer ℕ) (left : List ℕ) → Exactly ((a ≡ b) × (last ≡ left)) (WriteJudged p out b left)
write_exactly {p} {out} {last} {a} k b left = table.writes_exactly p out a b last left (call_writes k)

-- ---- demand 2

-- Given room for the data unit of any packet, a call tells a packet exactly when the slice's limit, length, characters
-- and checksum are right.
pub accepted_given_room : {w out last : List ℕ} {a : Answer PacketOutline} → CalledRead w out a last
    → 249 ≤ length out → Exactly ((p : Packet) × (packet_read a last ≡ result p)) (Sound w)
accepted_given_room {w} {out} {last} {a} k room = trip.told_when w out a last (call_reads k) room

-- Given room for its data unit, a call tells a packet exactly when the slice is sound and is that packet.
pub accepted_as_lem : {w out last : List ℕ} {a : Answer PacketOutline} → CalledRead w out a last → (p : Packet)
    → length p.unit ≤ length out → Exactly (packet_read a last ≡ result p) (SoundPacket w p)
accepted_as_lem {w} {out} {last} {a} k p room = trip.told_exactly w out a last (call_reads k) p room

-- Given room for its data unit, a call tells a packet exactly when the slice is that packet as it is written, at most 256
-- bytes long, and every byte of the packet is allowed at its place.
pub accepted_written : {w out last : List ℕ} {a : Answer PacketOutline} → CalledRead w out a last → (p : Packet)
    → length p.unit ≤ length out
    → Exactly (packet_read a last ≡ result p) ((wire_of p ≡ w) × (length w ≤ 256) × Proper p)
accepted_written {w} {out} {last} {a} k p room = trip.told_as_written w out a last (call_reads k) p room

-- A packet that a call wrote, read from the bytes that it wrote by any call with room, is told as the same packet: its
-- header and the number of bytes of its data unit, and these first in the output.
pub call_reads_back : {p : Packet} {out last into left : List ℕ} {n : ℕ} {a : Answer PacketOutline}
    → CalledWrite p out (result n) last → CalledRead (take n last) into a left → length p.unit ≤ length into
    → (a ≡ result (outline_of p)) × (left ≡ p.unit ++ drop (length p.unit) into)
call_reads_back {p} {out} {last} {into} {left} {n} {a} k l room =
    trip.written_reads_back p out last n into a left (call_writes k) (call_reads l) room

-- A slice that a call read as a packet, written again from what it told, gives the slice's bytes, where the output has
-- room for them.
pub call_writes_back : {w out last into left : List ℕ} {p : Packet} {a : Answer PacketOutline} {b : Answer ℕ}
    → CalledRead w out a last → packet_read a last ≡ result p → CalledWrite p into b left → length w ≤ length into
    → (b ≡ result (length w)) × (left ≡ w ++ drop (length w) into)
call_writes_back {w} {out} {last} {into} {left} {p} {a} {b} k e l room =
    trip.read_writes_back w out a last p into b left (call_reads k) e (call_writes l) room

-- ---- judging in place

left_as : (v : Verdict) (s : List ℕ) (n : ℕ) → judge_answer v ≡ refused n → left_in v s ≡ s
unfolding judge_answer left_in
left_as (refused m) s n e = refl
left_as (result p) s n e = let z : ◌≡◌ {A = ℕ} 0 1 = cc in absurd (omega arith)

module _ (κs : Lfts 1) (ρ ρ' : MutBor (List ℕ)) (len : ℕ) (r : Result Outline Refusal)
    (k : judge-array-reads.Learnt κs (ρ, (len, tt)) r (ρ', (len, tt))) where
  abbrev judged : Verdict
  judged = verdict (candidate_of (take len ρ.now))

  judged_is : packet_read (read_means r) ρ'.now ≡ judged
  judged_is =
      ap₂ (λ (a : Answer PacketOutline) (s : List ℕ). packet_read a s) k.0 k.1 ∙ left_whole judged ρ.now

  -- What the answer and the bytes that are left tell is the table's, of the candidate that the bytes and the two flags
  -- make, and everything that the table gives is told so. A flag among the bytes is refused with 6.
  pub judged_by_table : (v : Verdict)
      → Exactly (packet_read (read_means r) ρ'.now ≡ v) (Judged (candidate_of (take len ρ.now)) v)
  judged_by_table v = exactly judged_is (table.verdict_by_table (candidate_of (take len ρ.now)) v)

  -- A refusal changes no byte.
  pub judged_untouched : (n : ℕ) → read_means r ≡ refused n → ρ'.now ≡ ρ.now
  judged_untouched n e = k.1 ∙ left_as judged ρ.now n (sym k.0 ∙ e)
