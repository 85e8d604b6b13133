-- Calls of `csafe_trace_write_standard`, `csafe_trace_standard_length`, `csafe_trace_read` and `csafe_trace_feed`, known by
-- nothing but what their contracts tell a caller, are calls of `exports` at the origin of traces. So every theorem there
-- on calls at either origin is one on them.
use Prim.Native.Nat.{ℕ}
use mathlib.Core.List.{List}
use contract.Lifetimes.{Lfts}
use denote.MutBor.{MutBor}
use denote.Ref.{Bor}
use Rattle.frame.specs.Frame.{standard}
use Rattle.frame.specs.declared.Origin.TheVariants.{Trace}
use Rattle.exports.specs.Told.{told_written, told_read, told_located}
use Rattle.exports.specs.LentLine.{lent_line}
use Rattle.exports.proofs.FrameCalls.{ExportedWrite, wrote_standard_at, ExportedLength, measured_standard_at}
use Rattle.exports.proofs.FrameCalls.{ExportedRead, read_at}
use Rattle.exports.proofs.LineCalls.{ExportedFed, fed_at}
use Rattle.trace_exports.proofs.csafe_trace_write_standard.Reads as write-standard-reads
use Rattle.trace_exports.proofs.csafe_trace_standard_length.Reads as standard-length-reads
use Rattle.trace_exports.proofs.csafe_trace_read.Reads as read-reads
use Rattle.trace_exports.proofs.csafe_trace_feed.Reads as feed-reads

-- A call that writes a standard frame of a trace.
pub trace_writes : (n : ℕ) (κs : Lfts 2) (contents : Bor (List ℕ)) (out out' : MutBor (List ℕ))
    → write-standard-reads.Learnt κs (contents, (out, tt)) n (contents, (out', tt))
    → ExportedWrite Trace (standard contents.now) out.now (told_written n) out'.now
trace_writes n κs contents out out' e = wrote_standard_at n κs contents out out' e

-- A call that asks how many bytes it takes.
pub trace_measures : (n : ℕ) (κs : Lfts 1) (contents : Bor (List ℕ))
    → standard-length-reads.Learnt κs (contents, tt) n (contents, tt)
    → ExportedLength Trace (standard contents.now) (told_written n)
trace_measures n κs contents e = measured_standard_at n κs contents e

-- A call that reads a slice of a trace.
pub trace_reads : (n : ℕ) (κs : Lfts 2) (wire : Bor (List ℕ)) (out out' : MutBor (List ℕ))
    → read-reads.Learnt κs (wire, (out, tt)) n (wire, (out', tt))
    → ExportedRead Trace wire.now out.now (told_read n) out'.now
trace_reads n κs wire out out' e = read_at n κs wire out out' e

-- A call that feeds a chunk of a trace to a line reader.
module _ (κs : Lfts 6) (bytes bytes' : MutBor (List ℕ)) (state state' counts counts' : MutBor ℕ) (input : Bor (List ℕ))
    (taken taken' position position' : MutBor ℕ) (n : ℕ)
    (k : feed-reads.Learnt κs (bytes, (state, (counts, (input, (taken, (position, tt)))))) n
    (bytes', (state', (counts', (input, (taken', (position', tt))))))) where
  pub trace_feeds : ExportedFed Trace (lent_line bytes.now state.now counts.now) input.now taken'.now
      (told_located n position'.now bytes'.now) (lent_line bytes'.now state'.now counts'.now)
  trace_feeds = fed_at κs bytes bytes' state state' counts counts' input taken taken' position position' n k
