-- Contracts of private functions, which no caller reads: how far a call on a chunk has come, and what bytes up to an
-- answer add to it.
use Rattle.std.specs.Prelude.{◌≡◌, ℕ, ◌+◌, ◌-◌, ◌^◌, ◌<◌, ◌≤◌, Bool, true, false, List, ◌++◌, length, take, drop, ◌==◌}
use Rattle.lists.specs.Choice.{pick, count_before}
use Rattle.framing.specs.Chunk.{cut_chunk}
use Rattle.text.specs.Writing.{line_room}
use Rattle.line.specs.Rowing.{most_bytes}
use Rattle.trace.specs.Machine.{add64, listing_after, texts, taken_of}
use Rattle.trace.specs.declared.Listing.{Listing}
use Rattle.trace.specs.declared.Advanced.{Advanced}
use Rattle.trace.specs.declared.Tally.{Tally}
use Rattle.frame.specs.Flags.{is_start}
use Rattle.answer.specs.Answer.{result, refused}
use Rattle.candidate.specs.Outcome.{Summary, silent, tells}

-- From the state s₀ on, the first `taken` bytes are taken, which leaves the state s, and their lines stand first in the
-- output.
pub record Going (s₀ : Listing) (chunk out₀ : List ℕ) (s : Listing) (out : List ℕ) (wrote taken : ℕ) : Type 0 where
  pub state : s ≡ listing_after s₀ (take taken chunk)
  pub wrote_is : wrote ≡ length (texts s₀ (take taken chunk))
  pub out_is : out ≡ texts s₀ (take taken chunk) ++ drop wrote out₀
  pub taken_is : taken_of s₀ chunk (length out₀) ≡ taken + taken_of s (drop taken chunk) (length out₀ - wrote)

-- The first n bytes take the state s to s' and give the text w. A call with room for the line of
-- any answer takes all of them.
pub record Leads (s : Listing) (bytes : List ℕ) (n : ℕ) (s' : Listing) (w : List ℕ) : Type 0 where
  pub fits : n ≤ length bytes
  pub state : s' ≡ listing_after s (take n bytes)
  pub text : w ≡ texts s (take n bytes)
  pub taken : (room : ℕ) → line_room ≤ room → taken_of s bytes room ≡ n + taken_of s' (drop n bytes) (room - length w)

-- Bytes up to an answer, at least one, and their text first in an output. A byte that the line reader refuses is passed
-- over.
pub record Advances (s s' : Listing) (rest out out' : List ℕ) (r : Advanced) : Type 0 where
  pub text : List ℕ
  pub leads : Leads s rest r.taken s' text
  pub some : 0 < r.taken
  pub wrote_is : r.wrote ≡ length text
  pub out_is : out' ≡ text ++ drop r.wrote out
  pub within : r.wrote ≤ line_room

-- ---- stray bytes

-- The stray bytes among those up to an answer: a candidate that is open ends only there, so they stand before the first
-- start flag.
abbrev pub stray_count : (is_open : Bool) → List ℕ → ℕ
stray_count true bytes = 0
stray_count false bytes = count_before is_start bytes

-- The bytes of a chunk that a call can take: the first 65,536 at the most, and those that can still be counted.
abbrev pub countable : (count : ℕ) → List ℕ → List ℕ
countable count bytes = take (most_bytes - count) (cut_chunk bytes)

-- How many of them need not be fed: stray bytes change nothing but the count of a reader whose length is 0.
abbrev pub passed_over : (len strays : ℕ) → ℕ
passed_over len strays = pick (len == 0) strays 0

-- 1 for a frame, and 1 for a refusal.
abbrev pub frame_count : Summary → ℕ
frame_count silent = 0
frame_count (tells (result f)) = 1
frame_count (tells (refused number)) = 0

abbrev pub refused_count : Summary → ℕ
refused_count silent = 0
refused_count (tells (result f)) = 0
refused_count (tells (refused number)) = 1

-- ---- counts

-- The counts are of 64 bits.
abbrev pub CountsFit : Tally → Type 0
CountsFit t = (t.frames < 2 ^ 64) × (t.refusals < 2 ^ 64) × (t.strays < 2 ^ 64)

-- With an answer more, and so many stray bytes.
abbrev pub counting : Tally → Summary → ℕ → Tally
counting t told strays = record {
  frames = add64 t.frames (frame_count told);
  refusals = add64 t.refusals (refused_count told);
  strays = add64 t.strays strays;
}
