-- Demands 1 and 2 of the functions that read: calls of `read_frame` and `read_leading`, known by nothing but what their
-- contracts tell a caller.
use Prim.Native.Nat.{ℕ, ◌≤◌}
use mathlib.Core.Path.{◌≡◌}
use mathlib.Core.List.{List}
use lib.ListN.{length, take}
use contract.Lifetimes.{Lfts}
use denote.MutBor.{MutBor}
use denote.Ref.{Bor}
use Rattle.lists.specs.Choice.{Exactly}
use Rattle.answer.specs.Answer.{Answer, result, refused}
use Rattle.std.specs.Prelude.{Result}
use Rattle.answer.specs.declared.Refusal.{Refusal}
use Rattle.frame.specs.Frame.{Frame, standard, contents_of, frame_kind, wire_of}
use Rattle.frame.specs.Answers.{FrameOutline, standard_outline, frame_read, read_means, Reads}
use Rattle.frame.specs.Conditions.{SenderNamed, Sound, SoundFrame, NoStandard, ReadJudged}
use Rattle.frame.specs.declared.Origin.{Origin}
use Rattle.frame.specs.declared.Origin.TheVariants.{Live, Trace}
use Rattle.frame.specs.declared.Leading.{Leading}
use Rattle.frame.specs.declared.Outline.{Outline}
use Rattle.frame.proofs.Table as table
use Rattle.frame.proofs.RoundTrip as trip
use Rattle.frame.proofs.Unnamed as unnamed
use Rattle.frame.proofs.read_frame.Reads as read-frame-reads
use Rattle.frame.proofs.read_leading.Reads as read-leading-reads

-- ---- calls

-- A call that reads a slice of an origin, or the candidate that one begins with: its answer, and the output before and
-- after.
pub data CalledRead : Origin → (w out : List ℕ) → Answer FrameOutline → (last : List ℕ) → Type 0 where
  read_slice : {o : Origin} (r : Result Outline Refusal) (κs : Lfts 2) (wire : Bor (List ℕ)) (out out' : MutBor (List ℕ))
      → read-frame-reads.Learnt κs (o, (wire, (out, tt))) r (o, (wire, (out', tt)))
      → CalledRead o wire.now out.now (read_means r) out'.now
  read_first : {o : Origin} (r : Leading) (κs : Lfts 2) (s : Bor (List ℕ)) (out out' : MutBor (List ℕ))
      → read-leading-reads.Learnt κs (o, (s, (out, tt))) r (o, (s, (out', tt)))
      → CalledRead o (take r.taken s.now) out.now (read_means r.read) out'.now

-- Each answers and leaves what the definitions say.
pub call_reads : {o : Origin} {w out last : List ℕ} {a : Answer FrameOutline} → CalledRead o w out a last
    → Reads o w out a last
call_reads (read_slice r κs wire out out' e) = e
call_reads (read_first r κs s out out' e) = e.1

-- ---- demand 1: the table

-- A call that reads is answered, and leaves its output, exactly as the papers' table says.
pub read_exactly : {o : Origin} {w out last : List ℕ} {a : Answer FrameOutline} → CalledRead o w out a last
    → (b : Answer FrameOutline) (left : List ℕ) → Exactly ((a ≡ b) × (last ≡ left)) (ReadJudged o w out b left)
read_exactly {o} {w} {out} {last} {a} k b left = table.reads_exactly o w out a b last left (call_reads k)

-- ---- document 02, No. 9: standard frames leave the live line

-- A call that reads is refused with 17 exactly on the live line, for a slice that is a sound standard frame in a trace.
pub read_17_exactly : {o : Origin} {w out last : List ℕ} {a : Answer FrameOutline} → CalledRead o w out a last
    → Exactly (a ≡ refused 17) ((o ≡ Live) × ((c : List ℕ) × SoundFrame Trace w (standard c)))
read_17_exactly {o} {w} {out} {last} {a} k = unnamed.unnamed_read o w out a last (call_reads k)

-- A call that reads the live line tells no standard frame.
pub live_tells_extended : {w out last : List ℕ} {a : Answer FrameOutline} → CalledRead Live w out a last → (len : ℕ)
    → a ≡ result (standard_outline len) → ⊥
live_tells_extended {w} {out} {last} {a} k = unnamed.live_extended w out a last (call_reads k)

-- Calls at any two origins that read a slice which is no sound standard frame are answered alike, and leave the same.
pub calls_agree : {o p : Origin} {w out last left : List ℕ} {a b : Answer FrameOutline} → CalledRead o w out a last
    → CalledRead p w out b left → NoStandard w → (a ≡ b) × (last ≡ left)
calls_agree {o} {p} {w} {out} {last} {left} {a} {b} k l =
    unnamed.origins_agree o p w out a b last left (call_reads k) (call_reads l)

-- ---- demand 2

-- Given room for the contents of any frame, a call tells a frame exactly when the slice's limit, escapes, length and
-- checksum are right, and live its sender is named.
pub accepted_given_room : {o : Origin} {w out last : List ℕ} {a : Answer FrameOutline} → CalledRead o w out a last
    → 117 ≤ length out → Exactly ((f : Frame) × (frame_read a last ≡ result f)) (Sound o w)
accepted_given_room {o} {w} {out} {last} {a} k room = trip.told_when o w out a last (call_reads k) room

-- Given room for its contents, a call tells a frame exactly when the slice is sound and is that frame.
pub accepted_as_lem : {o : Origin} {w out last : List ℕ} {a : Answer FrameOutline} → CalledRead o w out a last → (f : Frame)
    → length (contents_of f) ≤ length out → Exactly (frame_read a last ≡ result f) (SoundFrame o w f)
accepted_as_lem {o} {w} {out} {last} {a} k f room = trip.told_exactly o w out a last (call_reads k) f room

-- Given room for its contents, a call tells a frame exactly when the slice is that frame as it is written, at most 120
-- bytes long, and live its sender is named.
pub accepted_written : {o : Origin} {w out last : List ℕ} {a : Answer FrameOutline} → CalledRead o w out a last
    → (f : Frame) → length (contents_of f) ≤ length out
    → Exactly (frame_read a last ≡ result f) ((wire_of f ≡ w) × (length w ≤ 120) × SenderNamed o (frame_kind f))
accepted_written {o} {w} {out} {last} {a} k f room = trip.told_as_written o w out a last (call_reads k) f room
