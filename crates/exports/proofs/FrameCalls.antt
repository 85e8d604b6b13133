-- Demands 1 and 2 of the exported frame functions, and of those that take an origin: calls of `csafe_write_standard`,
-- `write_standard`, `csafe_write_extended`, `csafe_standard_length`, `standard_length`, `csafe_extended_length`,
-- `csafe_read` and `read`, known by nothing but what their contracts tell a caller, with the answers that their numbers
-- tell.
use Prim.Native.Nat.{ℕ, ◌≤◌}
use mathlib.Core.Path.{◌≡◌, refl, ap, ◌∙◌, subst}
use mathlib.Core.List.{List, ◌++◌}
use lib.ListN.{length, take, drop}
use contract.Lifetimes.{Lfts}
use denote.MutBor.{MutBor}
use denote.Ref.{Bor}
use Rattle.lists.specs.Choice.{Exactly}
use Rattle.answer.specs.Answer.{Answer, result, refused, through}
use Rattle.answer.specs.Draft.{Draft, Writes, Foretells}
use Rattle.answer.proofs.Drafts.{foretold}
use Rattle.frame.specs.Frame.{Frame, standard, extended, contents_of, frame_kind, wire_of}
use Rattle.frame.specs.Answers.{FrameOutline, standard_outline, outline_of, frame_read, Reads}
use Rattle.writer.specs.Answers.{sent_draft}
use Rattle.frame.specs.Conditions.{SenderNamed, Sound, SoundFrame, NoStandard, ReadJudged}
use Rattle.writer.specs.Conditions.{WriteJudged, not_sent, LengthJudged}
use Rattle.frame.specs.declared.Origin.{Origin}
use Rattle.frame.specs.declared.Origin.TheVariants.{Live, Trace}
use Rattle.frame.specs.declared.Kind.TheVariants.{Standard}
use Rattle.frame.proofs.OriginLaws.{sender_missing}
use Rattle.frame.proofs.Table.{reads_exactly}
use Rattle.writer.proofs.Table.{writes_exactly, lengths_exactly, draft_never_1}
use Rattle.frame.proofs.RoundTrip.{told_when, told_exactly, told_as_written}
use Rattle.writer.proofs.RoundTrip.{written_reads_back, read_writes_back}
use Rattle.frame.proofs.Unnamed.{unnamed_read, live_extended, origins_agree}
use Rattle.writer.proofs.Unnamed.{unnamed_write, unnamed_length}
use Rattle.writer.proofs.Calls.{one_draft}
use Rattle.exports.specs.Told.{told_written, told_read}
use Rattle.exports.proofs.ToldLaws.{frame_told, length_told, slice_told}
use Rattle.exports.proofs.csafe_write_standard.Reads as write-standard-reads
use Rattle.exports.proofs.write_standard.Reads as write-standard-at-reads
use Rattle.exports.proofs.csafe_write_extended.Reads as write-extended-reads
use Rattle.exports.proofs.csafe_standard_length.Reads as standard-length-reads
use Rattle.exports.proofs.standard_length.Reads as standard-length-at-reads
use Rattle.exports.proofs.csafe_extended_length.Reads as extended-length-reads
use Rattle.exports.proofs.csafe_read.Reads as read-reads
use Rattle.exports.proofs.read.Reads as read-at-reads

-- ---- calls

-- A call that writes a frame to an origin, by the function of its kind: the answer that its number tells, and the output
-- before and after. The function that writes extended frames is one for both origins.
pub data ExportedWrite : Origin → Frame → (out : List ℕ) → Answer ℕ → (last : List ℕ) → Type 0 where
  wrote_standard : (n : ℕ) (κs : Lfts 2) (contents : Bor (List ℕ)) (out out' : MutBor (List ℕ))
      → write-standard-reads.Learnt κs (contents, (out, tt)) n (contents, (out', tt))
      → ExportedWrite Live (standard contents.now) out.now (told_written n) out'.now
  wrote_standard_at : {o : Origin} (n : ℕ) (κs : Lfts 2) (contents : Bor (List ℕ)) (out out' : MutBor (List ℕ))
      → write-standard-at-reads.Learnt κs (o, (contents, (out, tt))) n (o, (contents, (out', tt)))
      → ExportedWrite o (standard contents.now) out.now (told_written n) out'.now
  wrote_extended : {o : Origin} {to from : ℕ} (n : ℕ) (κs : Lfts 2) (contents : Bor (List ℕ)) (out out' : MutBor (List ℕ))
      → write-extended-reads.Learnt κs (to, (from, (contents, (out, tt)))) n (to, (from, (contents, (out', tt))))
      → ExportedWrite o (extended to from contents.now) out.now (told_written n) out'.now

-- A call that asks how many bytes a frame takes on the wire that is to go to an origin, by the function of its kind: the
-- answer that its number tells.
pub data ExportedLength : Origin → Frame → Answer ℕ → Type 0 where
  measured_standard : (n : ℕ) (κs : Lfts 1) (contents : Bor (List ℕ))
      → standard-length-reads.Learnt κs (contents, tt) n (contents, tt)
      → ExportedLength Live (standard contents.now) (told_written n)
  measured_standard_at : {o : Origin} (n : ℕ) (κs : Lfts 1) (contents : Bor (List ℕ))
      → standard-length-at-reads.Learnt κs (o, (contents, tt)) n (o, (contents, tt))
      → ExportedLength o (standard contents.now) (told_written n)
  measured_extended : {o : Origin} {to from : ℕ} (n : ℕ) (κs : Lfts 1) (contents : Bor (List ℕ))
      → extended-length-reads.Learnt κs (to, (from, (contents, tt))) n (to, (from, (contents, tt)))
      → ExportedLength o (extended to from contents.now) (told_written n)

-- A call that reads a slice of an origin: the answer that its number tells, and the output before and after.
pub data ExportedRead : Origin → (w out : List ℕ) → Answer FrameOutline → (last : List ℕ) → Type 0 where
  read_slice : (n : ℕ) (κs : Lfts 2) (wire : Bor (List ℕ)) (out out' : MutBor (List ℕ))
      → read-reads.Learnt κs (wire, (out, tt)) n (wire, (out', tt))
      → ExportedRead Live wire.now out.now (told_read n) out'.now
  read_at : {o : Origin} (n : ℕ) (κs : Lfts 2) (wire : Bor (List ℕ)) (out out' : MutBor (List ℕ))
      → read-at-reads.Learnt κs (o, (wire, (out, tt))) n (o, (wire, (out', tt)))
      → ExportedRead o wire.now out.now (told_read n) out'.now

-- Each tells and leaves what the definitions say.
pub exported_writes : {o : Origin} {f : Frame} {out last : List ℕ} {a : Answer ℕ} → ExportedWrite o f out a last
    → Writes (sent_draft o f) out a last
exported_writes (wrote_standard n κs contents out out' e) =
    (frame_told Live n (standard contents.now) (length out.now) e.0, e.1)
exported_writes {o} (wrote_standard_at n κs contents out out' e) =
    (frame_told o n (standard contents.now) (length out.now) e.0, e.1)
exported_writes {o} (wrote_extended {to = to} {from = from} n κs contents out out' e) =
    let f = extended to from contents.now in
    subst (λ (d : Draft). Writes d out.now (told_written n) out'.now) (one_draft o to from contents.now)
    (frame_told Live n f (length out.now) e.0, e.1)

pub exported_measures : {o : Origin} {f : Frame} {m : Answer ℕ} → ExportedLength o f m
    → m ≡ through length (sent_draft o f)
exported_measures (measured_standard n κs contents e) = length_told Live n (standard contents.now) e
exported_measures {o} (measured_standard_at n κs contents e) = length_told o n (standard contents.now) e
exported_measures {o} (measured_extended {to = to} {from = from} n κs contents e) =
    length_told Live n (extended to from contents.now) e ∙ ap (through length) (one_draft o to from contents.now)

pub exported_reads : {o : Origin} {w out last : List ℕ} {a : Answer FrameOutline} → ExportedRead o w out a last
    → Reads o w out a last
exported_reads (read_slice n κs wire out out' e) = (slice_told Live n wire.now (length out.now) e.0, e.1)
exported_reads {o} (read_at n κs wire out out' e) = (slice_told o n wire.now (length out.now) e.0, e.1)

-- ---- demand 1: the tables

-- A call that reads is answered, and leaves its output, exactly as the papers' table says.
pub exported_read_exactly : {o : Origin} {w out last : List ℕ} {a : Answer FrameOutline} → ExportedRead o w out a last
    → (b : Answer FrameOutline) (left : List ℕ) → Exactly ((a ≡ b) × (last ≡ left)) (ReadJudged o w out b left)
exported_read_exactly {o} {w} {out} {last} {a} k b left = reads_exactly o w out a b last left (exported_reads k)

-- A call that writes is answered, and leaves its output, exactly as the papers' table says.
pub exported_write_exactly : {o : Origin} {f : Frame} {out last : List ℕ} {a : Answer ℕ} → ExportedWrite o f out a last
    → (b : Answer ℕ) (left : List ℕ) → Exactly ((a ≡ b) × (last ≡ left)) (WriteJudged o f out b left)
exported_write_exactly {o} {f} {out} {last} {a} k b left = writes_exactly o f out a b last left (exported_writes k)

-- A call that measures is answered exactly as the table says.
pub exported_length_exactly : {o : Origin} {f : Frame} {m : Answer ℕ} → ExportedLength o f m
    → (b : Answer ℕ) → Exactly (m ≡ b) (LengthJudged o f b)
exported_length_exactly {o} {f} {m} k b = lengths_exactly o f m b (exported_measures k)

-- What a call that measures a frame answers foretells what a call that writes that frame to the same origin does:
-- whenever it writes, that many bytes; 1 exactly where the output is shorter; otherwise both are refused alike.
pub exported_length_foretells : {o : Origin} {f : Frame} {m a : Answer ℕ} {out last : List ℕ} → ExportedLength o f m
    → ExportedWrite o f out a last → Foretells m a (length out)
exported_length_foretells {o} {f} {m} {a} {out} {last} k l =
    foretold (sent_draft o f) m a out last (draft_never_1 o f) (exported_measures k) (exported_writes l)

-- ---- document 02, No. 9: standard frames leave the live line

-- A call that reads is refused with 17 exactly on the live line, for a slice that is a sound standard frame in a trace.
pub exported_read_17_exactly : {o : Origin} {w out last : List ℕ} {a : Answer FrameOutline}
    → ExportedRead o w out a last
    → Exactly (a ≡ refused 17) ((o ≡ Live) × ((c : List ℕ) × SoundFrame Trace w (standard c)))
exported_read_17_exactly {o} {w} {out} {last} {a} k = unnamed_read o w out a last (exported_reads k)

-- A call that writes is refused with 17 exactly on the live line, for a standard frame.
pub exported_write_17_exactly : {o : Origin} {f : Frame} {out last : List ℕ} {a : Answer ℕ}
    → ExportedWrite o f out a last → Exactly (a ≡ refused 17) ((o ≡ Live) × (frame_kind f ≡ Standard))
exported_write_17_exactly {o} {f} {out} {last} {a} k = unnamed_write o f out a last (exported_writes k)

-- So is a call that measures.
pub exported_length_17_exactly : {o : Origin} {f : Frame} {m : Answer ℕ} → ExportedLength o f m
    → Exactly (m ≡ refused 17) ((o ≡ Live) × (frame_kind f ≡ Standard))
exported_length_17_exactly {o} {f} {m} k = unnamed_length o f m (exported_measures k)

-- `csafe_write_standard` always answers 17 and changes nothing.
pub exported_standard_refused : {c out last : List ℕ} {a : Answer ℕ} → ExportedWrite Live (standard c) out a last
    → (a ≡ refused 17) × (last ≡ out)
exported_standard_refused {c} {out} {last} {a} k =
    (exported_write_exactly k (refused 17) out).1 (not_sent ((sender_missing Live Standard).1 (refl, refl)))

-- `csafe_read` tells no standard frame.
pub exported_live_extended : {w out last : List ℕ} {a : Answer FrameOutline} → ExportedRead Live w out a last
    → (len : ℕ) → a ≡ result (standard_outline len) → ⊥
exported_live_extended {w} {out} {last} {a} k = live_extended w out a last (exported_reads k)

-- Calls at any two origins that read a slice which is no sound standard frame are answered alike, and leave the same.
pub exported_agree : {o p : Origin} {w out last left : List ℕ} {a b : Answer FrameOutline} → ExportedRead o w out a last
    → ExportedRead p w out b left → NoStandard w → (a ≡ b) × (last ≡ left)
exported_agree {o} {p} {w} {out} {last} {left} {a} {b} k l =
    origins_agree o p w out a b last left (exported_reads k) (exported_reads l)

-- ---- demand 2

-- Given room for the contents of any frame, a call tells a frame exactly when the slice's limit, escapes, length and
-- checksum are right, and live its sender is named.
pub exported_accepted_given_room : {o : Origin} {w out last : List ℕ} {a : Answer FrameOutline}
    → ExportedRead o w out a last → 117 ≤ length out
    → Exactly ((f : Frame) × (frame_read a last ≡ result f)) (Sound o w)
exported_accepted_given_room {o} {w} {out} {last} {a} k room = told_when o w out a last (exported_reads k) room

-- Given room for its contents, a call tells a frame exactly when the slice is sound and is that frame.
pub exported_accepted_as : {o : Origin} {w out last : List ℕ} {a : Answer FrameOutline} → ExportedRead o w out a last
    → (f : Frame) → length (contents_of f) ≤ length out → Exactly (frame_read a last ≡ result f) (SoundFrame o w f)
exported_accepted_as {o} {w} {out} {last} {a} k f room = told_exactly o w out a last (exported_reads k) f room

-- Given room for its contents, a call tells a frame exactly when the slice is that frame as it is written, at most 120
-- bytes long, and live its sender is named.
pub exported_accepted_written : {o : Origin} {w out last : List ℕ} {a : Answer FrameOutline}
    → ExportedRead o w out a last → (f : Frame) → length (contents_of f) ≤ length out
    → Exactly (frame_read a last ≡ result f) ((wire_of f ≡ w) × (length w ≤ 120) × SenderNamed o (frame_kind f))
exported_accepted_written {o} {w} {out} {last} {a} k f room = told_as_written o w out a last (exported_reads k) f room

-- A frame that a call wrote, read from the bytes that it wrote by any call at the same origin with room, is told as the
-- same frame: its kind, its addresses and the number of its contents bytes, and these first in the output.
pub exported_reads_back : {o : Origin} {f : Frame} {out last into left : List ℕ} {n : ℕ} {a : Answer FrameOutline}
    → ExportedWrite o f out (result n) last → ExportedRead o (take n last) into a left
    → length (contents_of f) ≤ length into
    → (a ≡ result (outline_of f)) × (left ≡ contents_of f ++ drop (length (contents_of f)) into)
exported_reads_back {o} {f} {out} {last} {into} {left} {n} {a} k l room =
    written_reads_back o f out last n into a left (exported_writes k) (exported_reads l) room

-- A slice that a call read as a frame, written again from what it told by the call of that kind at the same origin,
-- gives the slice's bytes, where the output has room for them.
pub exported_writes_back : {o : Origin} {w out last into left : List ℕ} {f : Frame} {a : Answer FrameOutline}
    {b : Answer ℕ}
    → ExportedRead o w out a last → frame_read a last ≡ result f → ExportedWrite o f into b left
    → length w ≤ length into
    → (b ≡ result (length w)) × (left ≡ w ++ drop (length w) into)
exported_writes_back {o} {w} {out} {last} {into} {left} {f} {a} {b} k e l room =
    read_writes_back o w out a last f into b left (exported_reads k) e (exported_writes l) room
