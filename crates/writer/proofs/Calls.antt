-- Demands 1 and 2 of the functions that write and measure: calls of `write_standard`, `write_extended`,
-- `write_extended_number`, `standard_length` and `extended_length`, known by nothing but what their contracts tell a
-- caller.
use Prim.Native.Nat.{ℕ, ◌≤◌}
use Rattle.std.specs.Prelude.{Result}
use mathlib.Core.Path.{◌≡◌, sym, ap, ◌∙◌, subst}
use mathlib.Core.List.{List, ◌++◌}
use lib.ListN.{length, take, drop}
use contract.Lifetimes.{Lfts}
use denote.MutBor.{MutBor}
use denote.Ref.{Bor}
use Rattle.lists.specs.Choice.{Exactly}
use Rattle.answer.specs.Answer.{Answer, result, refused, through}
use Rattle.answer.specs.Draft.{Draft, Writes, Foretells, written_means}
use Rattle.answer.proofs.Drafts.{foretold}
use Rattle.numbers.specs.Number.{bytes_of}
use Rattle.answer.specs.declared.Refusal.{Refusal}
use Rattle.frame.specs.Frame.{Frame, standard, extended, contents_of, frame_kind}
use Rattle.frame.specs.Answers.{FrameOutline, outline_of, frame_read}
use Rattle.writer.specs.Answers.{frame_draft, sent_draft, length_means}
use Rattle.writer.specs.Conditions.{WriteJudged, LengthJudged}
use Rattle.frame.specs.declared.Origin.{Origin}
use Rattle.frame.specs.declared.Origin.TheVariants.{Live}
use Rattle.frame.specs.declared.Kind.TheVariants.{Standard}
use Rattle.frame.proofs.OriginLaws.{extended_named}
use Rattle.frame.proofs.Calls.{CalledRead, call_reads}
use Rattle.writer.proofs.WireLaws.{sent_frame}
use Rattle.writer.proofs.Table as table
use Rattle.writer.proofs.RoundTrip as trip
use Rattle.writer.proofs.Unnamed as unnamed
use Rattle.writer.proofs.write_standard.Reads as write-standard-reads
use Rattle.writer.proofs.write_extended.Reads as write-extended-reads
use Rattle.writer.proofs.write_extended_number.Reads as write-extended-number-reads
use Rattle.writer.proofs.standard_length.Reads as standard-length-reads
use Rattle.writer.proofs.extended_length.Reads as extended-length-reads

-- ---- calls

-- A call that writes a frame to an origin, by the function of its kind: its answer, and the output before and after.
-- The functions that write extended frames are not told the origin.
pub data CalledWrite : Origin → Frame → (out : List ℕ) → Answer ℕ → (last : List ℕ) → Type 0 where
  wrote_standard : {o : Origin} (r : Result ℕ Refusal) (κs : Lfts 2) (contents : Bor (List ℕ)) (out out' : MutBor (List ℕ))
      → write-standard-reads.Learnt κs (o, (contents, (out, tt))) r (o, (contents, (out', tt)))
      → CalledWrite o (standard contents.now) out.now (written_means r) out'.now
  wrote_extended : {o : Origin} {to from : ℕ} (r : Result ℕ Refusal) (κs : Lfts 2) (contents : Bor (List ℕ)) (out out' : MutBor (List ℕ))
      → write-extended-reads.Learnt κs (to, (from, (contents, (out, tt)))) r (to, (from, (contents, (out', tt))))
      → CalledWrite o (extended to from contents.now) out.now (written_means r) out'.now
  wrote_number : {o : Origin} {to from : ℕ} (number width : ℕ) (r : Result ℕ Refusal) (κs : Lfts 1) (out out' : MutBor (List ℕ))
      → write-extended-number-reads.Learnt κs (to, (from, (number, (width, (out, tt))))) r
      (to, (from, (number, (width, (out', tt)))))
      → CalledWrite o (extended to from (bytes_of width number)) out.now (written_means r) out'.now

-- A call that asks how many bytes a frame takes on the wire that is to go to an origin, by the function of its kind: its
-- answer.
pub data CalledLength : Origin → Frame → Answer ℕ → Type 0 where
  measured_standard : {o : Origin} (r : Result ℕ Refusal) (κs : Lfts 1) (contents : Bor (List ℕ))
      → standard-length-reads.Learnt κs (o, (contents, tt)) r (o, (contents, tt))
      → CalledLength o (standard contents.now) (length_means r)
  measured_extended : {o : Origin} {to from : ℕ} (r : Result ℕ Refusal) (κs : Lfts 1) (contents : Bor (List ℕ))
      → extended-length-reads.Learnt κs (to, (from, (contents, tt))) r (to, (from, (contents, tt)))
      → CalledLength o (extended to from contents.now) (length_means r)

-- An extended frame has one draft at both origins.
pub one_draft : (o : Origin) (to from : ℕ) (c : List ℕ)
    → frame_draft (extended to from c) ≡ sent_draft o (extended to from c)
one_draft o to from c = sym (sent_frame o (extended to from c) (extended_named o))

-- Each answers and leaves what the definitions say.
pub call_writes : {o : Origin} {f : Frame} {out last : List ℕ} {a : Answer ℕ} → CalledWrite o f out a last
    → Writes (sent_draft o f) out a last
call_writes (wrote_standard r κs contents out out' e) = e
call_writes {o} (wrote_extended {to = to} {from = from} r κs contents out out' e) =
    subst (λ (d : Draft). Writes d out.now (written_means r) out'.now) (one_draft o to from contents.now) e
call_writes {o} (wrote_number {to = to} {from = from} number width r κs out out' e) =
    subst (λ (d : Draft). Writes d out.now (written_means r) out'.now) (one_draft o to from (bytes_of width number))
    e

pub call_measures : {o : Origin} {f : Frame} {m : Answer ℕ} → CalledLength o f m
    → m ≡ through length (sent_draft o f)
call_measures (measured_standard r κs contents e) = e
call_measures {o} (measured_extended {to = to} {from = from} r κs contents e) =
    e ∙ ap (through length) (one_draft o to from contents.now)

-- ---- demand 1: the tables

-- A call that writes is answered, and leaves its output, exactly as the papers' table says.
pub write_exactly : {o : Origin} {f : Frame} {out last : List ℕ} {a : Answer ℕ} → CalledWrite o f out a last
    → (b : Answer ℕ) (left : List ℕ) → Exactly ((a ≡ b) × (last ≡ left)) (WriteJudged o f out b left)
write_exactly {o} {f} {out} {last} {a} k b left = table.writes_exactly o f out a b last left (call_writes k)

-- A call that measures is answered exactly as the table says.
pub length_exactly : {o : Origin} {f : Frame} {m : Answer ℕ} → CalledLength o f m → (b : Answer ℕ)
    → Exactly (m ≡ b) (LengthJudged o f b)
length_exactly {o} {f} {m} k b = table.lengths_exactly o f m b (call_measures k)

-- What a call that measures a frame answers foretells what every call that writes that frame to the same origin does:
-- whenever it writes, that many bytes; 1 exactly where the output is shorter; otherwise both are refused alike.
pub length_foretells : {o : Origin} {f : Frame} {m a : Answer ℕ} {out last : List ℕ} → CalledLength o f m
    → CalledWrite o f out a last → Foretells m a (length out)
length_foretells {o} {f} {m} {a} {out} {last} k l =
    foretold (sent_draft o f) m a out last (table.draft_never_1 o f) (call_measures k) (call_writes l)

-- ---- document 02, No. 9: standard frames leave the live line

-- A call that writes is refused with 17 exactly on the live line, for a standard frame.
pub write_17_exactly : {o : Origin} {f : Frame} {out last : List ℕ} {a : Answer ℕ} → CalledWrite o f out a last
    → Exactly (a ≡ refused 17) ((o ≡ Live) × (frame_kind f ≡ Standard))
write_17_exactly {o} {f} {out} {last} {a} k = unnamed.unnamed_write o f out a last (call_writes k)

-- So is a call that measures.
pub length_17_exactly : {o : Origin} {f : Frame} {m : Answer ℕ} → CalledLength o f m
    → Exactly (m ≡ refused 17) ((o ≡ Live) × (frame_kind f ≡ Standard))
length_17_exactly {o} {f} {m} k = unnamed.unnamed_length o f m (call_measures k)

-- ---- demand 2: what is written is read back, and what is read is written back

-- A frame that a call wrote, read from the bytes that it wrote by any call at the same origin with room, is told as the
-- same frame: its kind, its addresses and the number of its contents bytes, and these first in the output.
pub call_reads_back : {o : Origin} {f : Frame} {out last into left : List ℕ} {n : ℕ} {a : Answer FrameOutline}
    → CalledWrite o f out (result n) last → CalledRead o (take n last) into a left
    → length (contents_of f) ≤ length into
    → (a ≡ result (outline_of f)) × (left ≡ contents_of f ++ drop (length (contents_of f)) into)
call_reads_back {o} {f} {out} {last} {into} {left} {n} {a} k l room =
    trip.written_reads_back o f out last n into a left (call_writes k) (call_reads l) room

-- A slice that a call read as a frame, written again from what it told by the call of that kind at the same origin,
-- gives the slice's bytes, where the output has room for them.
pub call_writes_back : {o : Origin} {w out last into left : List ℕ} {f : Frame} {a : Answer FrameOutline}
    {b : Answer ℕ}
    → CalledRead o w out a last → frame_read a last ≡ result f → CalledWrite o f into b left → length w ≤ length into
    → (b ≡ result (length w)) × (left ≡ w ++ drop (length w) into)
call_writes_back {o} {w} {out} {last} {into} {left} {f} {a} {b} k e l room =
    trip.read_writes_back o w out a last f into b left (call_reads k) e (call_writes l) room
