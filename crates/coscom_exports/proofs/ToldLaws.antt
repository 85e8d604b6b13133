-- The lengths of all answers have room, and a number tells a caller exactly the answer that was packed into it.
use Prim.Native.Nat.{ℕ}
use mathlib.Core.Path.{◌≡◌, refl, sym, ap, ◌∙◌}
use mathlib.Core.List.{List}
use native.Mathlib.Omega.{arith}
use lib.Dec.{leb}
use lib.ListN.{length}
use borrow.Author.Tests.{leb-true, eq-eqb, ne_eqb}
use Rattle.lists.proofs.Cases.{by_bool}
use Rattle.answer.specs.Answer.{Answer, result, refused}
use Rattle.answer.specs.Draft.{draft_answer}
use Rattle.coscom.specs.Packet.{Packet, is_proper, wire_of}
use Rattle.coscom.specs.Verdict.{Verdict, verdict}
use Rattle.coscom.specs.Answers.{PacketOutline, packet_draft, judge_answer, read_answer}
use Rattle.coscom.specs.Conditions.{SoundPacket, Judged, truncated, long, short, bad_character, bad_sum, sound}
use Rattle.coscom.proofs.Table.{verdict_by_table}
use Rattle.coscom.proofs.RoundTrip.{sound_written, unit_short}
use Rattle.coscom_line.specs.Outcome.{Outcome, judged, Summary, silent, tells, summary_of}
use Rattle.coscom_line.specs.Reader.{finish_of}
use Rattle.coscom_line.specs.Chunk.{chunk_of}
use Rattle.coscom_line.specs.declared.LineReader.{LineReader}
use Rattle.coscom_line.proofs.OutcomeLaws.{every_outcome, chunk_outcome}
use Rattle.framing.specs.Reference.{finish}
use Rattle.exports.specs.Packed.{Fields, packed, unpacked, Tells}
use Rattle.exports.specs.Answers.{write_fields, WriteShort}
use Rattle.exports.specs.Told.{told_as, told_written, Numbered}
use Rattle.exports.proofs.ToldLaws.{written_told, draft_numbered}
use Rattle.coscom_exports.specs.Answers.{packet_fields, line_fields, UnitShort, ToldShort}
use Rattle.coscom_exports.specs.Told.{outline_in, told_packet, told_line, Lettered, LetteredLine}

-- ---- writing

pub packet_short : (p : Packet) (room : ℕ) → WriteShort (draft_answer (packet_draft p) room)
unfolding packet_draft draft_answer
packet_short p room =
    by_bool (leb (length (wire_of p)) 256)
    (λ l. by_bool (is_proper p)
    (λ k. by_bool (leb (length (wire_of p)) room)
    (λ h. simp (l, k, h) (omega (arith, leb-true (length (wire_of p)) 256 l)))
    (λ h. simp (l, k, h) tt))
    (λ k. simp (l, k) tt))
    (λ l. simp l tt)

packet_numbered : (p : Packet) → Numbered (packet_draft p)
unfolding packet_draft
packet_numbered p =
    by_bool (leb (length (wire_of p)) 256)
    (λ l. by_bool (is_proper p) (λ k. simp (l, k) tt) (λ k. simp (l, k) (λ e. omega arith)))
    (λ l. simp l (λ e. omega arith))

pub write_told : (n : ℕ) (p : Packet) (room : ℕ) → Tells n (write_fields (draft_answer (packet_draft p) room))
    → told_written n ≡ draft_answer (packet_draft p) room
write_told n p room =
    written_told n (draft_answer (packet_draft p) room) (draft_numbered (packet_draft p) room (packet_numbered p))

-- ---- verdicts

-- Of a verdict: a packet has a letter that is not 0 and a short data unit, and a refusal has a number that is not 0.
pub record Telling (v : Verdict) : Type 0 where
  pub lettered : Lettered (judge_answer v)
  pub short_unit : UnitShort (judge_answer v)

packet_telling : (w : List ℕ) (p : Packet) → SoundPacket w p → Telling (result p)
unfolding judge_answer
packet_telling w p s =
    let k = (sound_written w p s).2 in
    record { lettered = λ e. omega (arith, k.letter.0, e); short_unit = omega (arith, unit_short w p s) }

judged_telling : (w : List ℕ) (v : Verdict) → Judged w v → Telling v
unfolding judge_answer
judged_telling w v (truncated n) = record { lettered = λ e. omega arith; short_unit = tt }
judged_telling w v (long t n) = record { lettered = λ e. omega arith; short_unit = tt }
judged_telling w v (short t l n) = record { lettered = λ e. omega arith; short_unit = tt }
judged_telling w v (bad_character t l k n) = record { lettered = λ e. omega arith; short_unit = tt }
judged_telling w v (bad_sum t l k a n) = record { lettered = λ e. omega arith; short_unit = tt }
judged_telling w v (sound p s) = packet_telling w p s

pub verdict_telling : (w : List ℕ) → Telling (verdict w)
verdict_telling w = judged_telling w (verdict w) ((verdict_by_table w (verdict w)).0 refl)

-- ---- reading

-- the answer with an output, from that without one
read_has : (Q : Answer PacketOutline → Type 0) → Q (refused 1) → (v : Verdict) (room : ℕ) → Q (judge_answer v)
    → Q (read_answer v room)
unfolding judge_answer read_answer
read_has Q one (refused n) room q = q
read_has Q one (result p) room q = by_bool (leb (length p.unit) room) (λ y. simp y q) (λ y. simp y one)

pub read_short : (w : List ℕ) (room : ℕ) → UnitShort (read_answer (verdict w) room)
read_short w room = read_has UnitShort tt (verdict w) room (verdict_telling w).short_unit

packet_told : (n : ℕ) (a : Answer PacketOutline) → Lettered a → Tells n (packet_fields a) → told_packet n ≡ a
unfolding told_packet
packet_told n (result o) h t = ap (λ (f : Fields). told_as f.number (outline_in f)) t.unpacks
packet_told n (refused m) h t =
    ap (λ (f : Fields). told_as f.number (outline_in f)) t.unpacks ∙ simp (ne_eqb m 0 h)

pub read_told : (n : ℕ) (w : List ℕ) (room : ℕ) → Tells n (packet_fields (read_answer (verdict w) room))
    → told_packet n ≡ read_answer (verdict w) room
read_told n w room =
    packet_told n (read_answer (verdict w) room)
    (read_has Lettered (λ e. omega arith) (verdict w) room (verdict_telling w).lettered)

-- ---- the line

-- a number that tells a packet or a refusal is not 0
zero_fields : (n : ℕ) (f : Fields) → Tells n f → n ≡ 0 → (f.number ≡ 0) × (f.kind ≡ 0)
unfolding unpacked
zero_fields n f t e =
    let u : unpacked 0 ≡ f = ap unpacked (sym e) ∙ t.unpacks in
    (ap (λ (x : Fields). x.number) (sym u), ap (λ (x : Fields). x.kind) (sym u))

told_apart : (n : ℕ) (a : Answer PacketOutline) → Lettered a → Tells n (packet_fields a) → n ≡ 0 → ⊥
told_apart n (result o) h t e = h (zero_fields n _ t e).1
told_apart n (refused m) h t e = h (zero_fields n _ t e).0

pub line_told : (n : ℕ) (s : Summary) → LetteredLine s → Tells n (line_fields s) → told_line n ≡ s
unfolding told_line packed
line_told n silent h t = let e : n ≡ 0 = t.packs in simp (eq-eqb n 0 e)
line_told n (tells a) h t =
    (simp (ne_eqb n 0 (told_apart n a h t))) ∙ ap tells (packet_told n a h t)

-- what every outcome has
abbrev OutcomeTells : Outcome → Type 0
OutcomeTells o = LetteredLine (summary_of o) × ToldShort (summary_of o)

judged_tells : (w : List ℕ) → OutcomeTells (judged (verdict w))
judged_tells w = let v = verdict_telling w in (v.lettered, v.short_unit)

pub chunk_tells : (r : LineReader) (s : List ℕ) → OutcomeTells (chunk_of r s).answer
unfolding judge_answer
chunk_tells =
    chunk_outcome OutcomeTells (tt, tt) ((λ e. omega arith), tt) ((λ e. omega arith), tt) judged_tells

pub finish_tells : (r : LineReader) → OutcomeTells (finish_of r).answer
unfolding judge_answer
finish_tells r =
    every_outcome OutcomeTells (tt, tt) ((λ e. omega arith), tt) ((λ e. omega arith), tt) judged_tells r finish

-- ---- what the exported functions' answers tell

pub fed_told : (n : ℕ) (r : LineReader) (s : List ℕ) → Tells n (line_fields (summary_of (chunk_of r s).answer))
    → told_line n ≡ summary_of (chunk_of r s).answer
fed_told n r s = line_told n (summary_of (chunk_of r s).answer) (chunk_tells r s).0

pub finish_told : (n : ℕ) (r : LineReader) → Tells n (line_fields (summary_of (finish_of r).answer))
    → told_line n ≡ summary_of (finish_of r).answer
finish_told n r = line_told n (summary_of (finish_of r).answer) (finish_tells r).0
