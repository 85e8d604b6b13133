-- What is written is read back, and what is accepted is written back: demand 2, for packets.
use Prim.Native.Nat.{ℕ, ◌-◌, ◌≤◌, ◌<◌}
use mathlib.Core.Path.{◌≡◌, refl, sym, ap, ◌∙◌, subst}
use mathlib.Core.List.{List, ◌++◌}
use native.Mathlib.Omega.{arith}
use lib.ListN.{length, take, drop}
use lib.Seq.{take_at}
use Rattle.lists.specs.Choice.{Exactly}
use Rattle.answer.specs.Answer.{Answer, result}
use Rattle.answer.specs.Draft.{Writes}
use Rattle.coscom.specs.Flags.{candidate_of}
use Rattle.coscom.specs.Packet.{Packet, packet, covered, checksum, tens_digit, ones_digit, two_digits, payload, wire_of}
use Rattle.coscom.specs.Verdict.{verdict}
use Rattle.coscom.specs.Answers.{PacketOutline, outline_of, packet_draft, Reads, packet_read}
use Rattle.coscom.specs.Conditions.{Sound, SoundPacket, Proper, ReadJudged, refused_by, no_room, fits, WriteJudged}
use Rattle.coscom.specs.Conditions.{over_limit, not_proper, no_room_to_write, written}
use Rattle.coscom.proofs.FlagLaws.{flagless_free}
use Rattle.coscom.proofs.PacketLaws.{parts, parts_length, ends_front, digits_digits}
use Rattle.coscom.proofs.PacketLaws.{proper_flagless, spelt_proper, parts_allowed}
use Rattle.coscom.proofs.CodeLaws.{wire_length}
use Rattle.coscom.proofs.Table.{accepted_exactly, accepted_when, spells_in, read_by_table, reads_exactly}
use Rattle.coscom.proofs.Table.{written_by_table, writes_exactly}

-- ---- packets and verdicts

below_100 : (p : Packet) → checksum (covered p) < 100
below_100 p = omega arith

-- A packet that may be written is sound as it is written.
pub written_sound : (p : Packet) → Proper p → length (wire_of p) ≤ 256 → SoundPacket (wire_of p) p
unfolding wire_of payload covered
written_sound p k l =
    let n = checksum (covered p) in
    let d = digits_digits n (below_100 p) in
    let b = parts p (tens_digit n) (ones_digit n) in
    record {
      slice = record {
        candidate = record {
          body = b;
          shape = refl;
          inside = flagless_free b (proper_flagless p (tens_digit n) (ones_digit n) k d.0 d.1);
        };
        limit = l;
        enough = omega (arith, parts_length p (tens_digit n) (ones_digit n));
        characters = parts_allowed p (tens_digit n) (ones_digit n) k d.0 d.1;
        sum = (covered p, refl);
      };
      spells = record { sum_tens = tens_digit n; sum_ones = ones_digit n; spelt = refl };
    }

-- What is sound as a packet is that packet as it is written, and its bytes are allowed.
pub sound_written : (w : List ℕ) (p : Packet) → SoundPacket w p → (wire_of p ≡ w) × (length w ≤ 256) × Proper p
unfolding wire_of payload covered
sound_written w p s =
    let t = s.slice.candidate in
    let c = s.slice.sum in
    let x = tens_digit (checksum c.0) in
    let y = ones_digit (checksum c.0) in
    let k = s.spells in
    let e : covered p ≡ c.0 =
    sym (ends_front (covered p) k.sum_tens k.sum_ones)
    ∙ ap (λ (l : List ℕ). take (length l - 2) l) (sym k.spelt ∙ c.1) ∙ ends_front c.0 x y in (
      ap (λ (l : List ℕ). candidate_of (l ++ two_digits (checksum l))) e ∙ ap candidate_of (sym c.1) ∙ sym t.shape,
      s.slice.limit,
      subst Proper (spells_in t.body p k) (spelt_proper t.body s.slice.enough s.slice.characters),
    )

-- What is written is read back: a packet of allowed bytes, at most 256 on the wire, is accepted as itself.
pub reads_back : (p : Packet) → Proper p → length (wire_of p) ≤ 256 → verdict (wire_of p) ≡ result p
reads_back p k l = (accepted_exactly (wire_of p) p).1 (written_sound p k l)

-- A slice is accepted as a packet exactly when it is that packet as it is written, at most 256 bytes long, and every
-- byte of the packet is allowed at its place.
pub accepted_as_written : (w : List ℕ) (p : Packet)
    → Exactly (verdict w ≡ result p) ((wire_of p ≡ w) × (length w ≤ 256) × Proper p)
accepted_as_written w p = (
  (λ e. sound_written w p ((accepted_exactly w p).0 e)),
  (λ q. ap verdict (sym q.0) ∙ reads_back p q.2 (omega (arith, q.1, ap length q.0))),
)

-- ---- the same of calls

-- what was told of a packet is that packet, whole
told_whole : (p : Packet) (out : List ℕ)
    → packet_read (result (outline_of p)) (p.unit ++ drop (length p.unit) out) ≡ result p
unfolding packet_read
told_whole p out =
    ap (λ (l : List ℕ). result (packet p.letter p.tens p.ones l))
    (take_at p.unit (drop (length p.unit) out) (length p.unit) refl)

-- What was told is sound.
pub told_sound : (w out : List ℕ) (a : Answer PacketOutline) (last : List ℕ) (p : Packet) → ReadJudged w out a last
    → packet_read a last ≡ result p → SoundPacket w p
unfolding packet_read
told_sound w out a last p (refused_by j) e = let z : ◌≡◌ {A = ℕ} 0 1 = cc in absurd (omega arith)
told_sound w out a last p (no_room s h) e = let z : ◌≡◌ {A = ℕ} 0 1 = cc in absurd (omega arith)
told_sound w out a last p (fits {p = g} s h) e =
    let q : result g ≡ result p = sym (told_whole g out) ∙ e in
    let same : g ≡ p = cc in subst (λ (x : Packet). SoundPacket w x) same s

-- A sound packet has at most 249 bytes in its data unit.
pub unit_short : (w : List ℕ) (p : Packet) → SoundPacket w p → length p.unit ≤ 249
unit_short w p s =
    let k = sound_written w p s in omega (arith, k.1, ap length k.0, wire_length p)

module _ (w out : List ℕ) (a : Answer PacketOutline) (last : List ℕ) (r : Reads w out a last) where
  -- With room for its data unit, a call tells a packet exactly when the slice is that packet and sound.
  pub told_exactly : (p : Packet) → length p.unit ≤ length out
      → Exactly (packet_read a last ≡ result p) (SoundPacket w p)
  told_exactly p room = (
    told_sound w out a last p ((read_by_table w out a last).0 r),
    (λ s. let q = (reads_exactly w out a (result (outline_of p)) last _ r).1 (fits s room) in
        ap (λ (x : Answer PacketOutline). packet_read x last) q.0 ∙ ap (packet_read (result (outline_of p))) q.1
        ∙ told_whole p out),
  )

  -- The same without the conditions: exactly when the slice is that packet as it is written.
  pub told_as_written : (p : Packet) → length p.unit ≤ length out
      → Exactly (packet_read a last ≡ result p) ((wire_of p ≡ w) × (length w ≤ 256) × Proper p)
  told_as_written p room = (
    (λ e. (accepted_as_written w p).0 ((accepted_exactly w p).1 ((told_exactly p room).0 e))),
    (λ e. (told_exactly p room).1 ((accepted_exactly w p).0 ((accepted_as_written w p).1 e))),
  )

  -- Demand 2's "accepted exactly when" of a call with room for the data unit of any packet: some packet is told exactly
  -- when limit, length, characters and checksum are right.
  pub told_when : 249 ≤ length out → Exactly ((p : Packet) × (packet_read a last ≡ result p)) (Sound w)
  told_when room = (
    (λ t. (told_sound w out a last t.0 ((read_by_table w out a last).0 r) t.1).slice),
    (λ s. let v = (accepted_when w).1 s in
        let k = (accepted_exactly w v.0).0 v.1 in
        (v.0, (told_exactly v.0 (omega (arith, unit_short w v.0 k, room))).1 k)),
  )

-- The bytes of a packet that was written stand first in the output: at most 256, and each is allowed at its place.
pub written_wire : (p : Packet) (out last : List ℕ) (n : ℕ) → Writes (packet_draft p) out (result n) last
    → (take n last ≡ wire_of p) × (length (wire_of p) ≤ 256) × Proper p
written_wire p out last n r = by_table (result n) last ((written_by_table p out (result n) last).0 r) refl
  where
    by_table : (a : Answer ℕ) (last : List ℕ) → WriteJudged p out a last → a ≡ result n
        → (take n last ≡ wire_of p) × (length (wire_of p) ≤ 256) × Proper p
    by_table a last (over_limit l) e = let z : ◌≡◌ {A = ℕ} 0 1 = cc in absurd (omega arith)
    by_table a last (not_proper l k) e = let z : ◌≡◌ {A = ℕ} 0 1 = cc in absurd (omega arith)
    by_table a last (no_room_to_write l k h) e = let z : ◌≡◌ {A = ℕ} 0 1 = cc in absurd (omega arith)
    by_table a last (written l k h) e =
        let q : length (wire_of p) ≡ n = cc in (take_at (wire_of p) (drop (length (wire_of p)) out) n q, l, k)

-- A packet that was written is read back: a call that reads the bytes that were written, with room for the data unit,
-- answers its header and the number of its bytes, and puts the data unit first in its output.
pub written_reads_back : (p : Packet) (out last : List ℕ) (n : ℕ) (into : List ℕ) (a : Answer PacketOutline)
    (left : List ℕ) → Writes (packet_draft p) out (result n) last → Reads (take n last) into a left
    → length p.unit ≤ length into
    → (a ≡ result (outline_of p)) × (left ≡ p.unit ++ drop (length p.unit) into)
written_reads_back p out last n into a left r q room =
    let w = written_wire p out last n r in
    let v : verdict (take n last) ≡ result p = ap verdict w.0 ∙ reads_back p w.2 w.1 in
    (reads_exactly (take n last) into a (result (outline_of p)) left _ q).1
    (fits ((accepted_exactly (take n last) p).0 v) room)

-- A slice that was read as a packet is written back: a call that writes what was told, with room for the slice, answers
-- the slice's length, and puts the slice's bytes first in its output.
pub read_writes_back : (w out : List ℕ) (a : Answer PacketOutline) (last : List ℕ) (p : Packet) (into : List ℕ)
    (b : Answer ℕ) (left : List ℕ) → Reads w out a last → packet_read a last ≡ result p
    → Writes (packet_draft p) into b left → length w ≤ length into
    → (b ≡ result (length w)) × (left ≡ w ++ drop (length w) into)
read_writes_back w out a last p into b left r e q room =
    let s = told_sound w out a last p ((read_by_table w out a last).0 r) e in
    let k = sound_written w p s in
    let m = ap length k.0 in
    let j = (writes_exactly p into b (result (length (wire_of p))) left _ q).1
    (written (omega (arith, m, k.1)) k.2 (omega (arith, m, room))) in (
      j.0 ∙ ap result m,
      j.1 ∙ ap (λ (l : List ℕ). l ++ drop (length l) into) k.0,
    )
