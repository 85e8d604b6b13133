-- What the program's functions answer, on the bytes that the system gave them.
use Rattle.std.specs.Prelude.{◌≡◌, ℕ, zero, suc, ◌≤◌, Ok, Err, IsOk, IsErr, List, ◌++◌, length, take, drop}
use Rattle.text.specs.Text.{text}
use Rattle.trace.specs.Machine.{add64, new_listing, listing_after, texts, last_text}
use Rattle.line.specs.Rowing.{most_bytes}
use Rattle.trace.specs.declared.Listing.{Listing}
use Rattle.listing.specs.declared.Stop.{Stop}
use Rattle.listing.specs.declared.Stop.TheVariants.{LastRead, AtLimit, LastWrite}
use Rattle.listing.specs.declared.Sent.{Sent}
use Rattle.listing.specs.declared.Pumped.{Pumped}
use Rattle.listing.specs.declared.Ran.{Ran}

-- A chunk: the state, and the count of bytes for writing, are those of the bytes taken. They are all of the chunk where
-- every write is said to have taken all.
pub record Pumps (s : Listing) (chunk : List ℕ) (r : Pumped) : Type 0 where
  pub fits : r.taken ≤ length chunk
  pub next_is : r.next ≡ listing_after s (take r.taken chunk)
  pub wrote_is : r.wrote ≡ add64 0 (length (texts s (take r.taken chunk)))
  pub all : IsOk r.whole → r.taken ≡ length chunk

-- The finish: the last text stands first in the output, and its whole length is counted.
pub record Finishes (s : Listing) (out out' : List ℕ) (r : Sent) : Type 0 where
  pub out_is : out' ≡ last_text s ++ drop (length (last_text s)) out
  pub len_is : r.len ≡ length (last_text s)

-- The text of some bytes is counted whole, and the last of it stands first in the output.
abbrev pub TextCounted : (bytes : List ℕ) → ℕ → (out' : List ℕ) → Type 0
TextCounted bytes wrote out' =
    (wrote ≡ add64 0 (length (text bytes)))
    × (take (length (last_text (listing_after new_listing bytes))) out' ≡ last_text (listing_after new_listing bytes))

-- What holds of the bytes that were listed and of the count of bytes for writing, by the reason for which the program
-- stopped. Where a read failed the lines are counted, without the totals.
abbrev pub Stops : (bytes : List ℕ) → Stop → ℕ → (out' : List ℕ) → Type 0
Stops bytes (LastRead (Ok zero)) wrote out' = TextCounted bytes wrote out'
Stops bytes (LastRead (Ok (suc n))) wrote out' = ⊥
Stops bytes (LastRead (Err e)) wrote out' = wrote ≡ add64 0 (length (texts new_listing bytes))
Stops bytes AtLimit wrote out' = (length bytes ≡ most_bytes) × TextCounted bytes wrote out'
Stops bytes (LastWrite all) wrote out' = IsErr all

-- The bytes that the program listed: as many as it counted, at most so many as a trace has, and the reason for which it
-- stopped fits them. Whether a read or a write failed is the system's word.
pub record Runs (out' : List ℕ) (r : Ran) : Type 0 where
  pub bytes : List ℕ
  pub read_is : r.read ≡ length bytes
  pub within : length bytes ≤ most_bytes
  pub stops : Stops bytes r.stop r.wrote out'
