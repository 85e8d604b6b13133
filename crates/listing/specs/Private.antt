-- Contracts of the functions that `run` is made of.
use Rattle.std.specs.Prelude.{◌≡◌, ℕ, ◌≤◌, Result, Ok, Err, ◌⊎◌, List, ◌++◌, length, take, drop, Option}
use Rattle.std.specs.Io.KnownBytes.{Keeps, Appends, Consumes, IsAtEnd}
use Rattle.std.specs.declared.io.Error.{Error}
use Rattle.listing.specs.Streams.{GivesFirst}
use Rattle.trace.specs.Machine.{add64, last_text}
use Rattle.trace.specs.declared.Listing.{Listing}
use Rattle.listing.specs.declared.Stop.{Stop}
use Rattle.listing.specs.declared.Stop.TheVariants.{LastWrite}
use Rattle.listing.specs.declared.Ran.{Ran}

-- A read of at most so many bytes.
abbrev pub Fetches : (room left : ℕ) → Result ℕ Error → Type 0
Fetches room left (Ok n) = (n ≤ room) × (n ≤ left)
Fetches room left (Err e) = Unit {0}

-- The bytes of a read stand first in the input, and are the first that the reader had left. Where it gave none it is at
-- its end, and where it failed it has left what it had.
abbrev pub Takes : (left left' : Option (List ℕ)) → Result ℕ Error → (input' : List ℕ) → Type 0
Takes left left' (Ok n) input' = Consumes left left' (take n input') × (n ≡ 0 → IsAtEnd left')
Takes left left' (Err e) input' = Keeps left left'

abbrev pub ran : Stop → (read wrote : ℕ) → Ran
ran stop read wrote = record { stop = stop; read = read; wrote = wrote }

-- The last text stands first in the output. The reason to stop is the one given, and the writer got the text, or it is
-- that a write failed, and the writer got its first bytes.
abbrev pub Closes : Listing → Stop → (read wrote : ℕ) → (out out' : List ℕ) → (held held' : Option (List ℕ)) → Ran
    → Type 0
Closes s stop read wrote out out' held held' r =
    (out' ≡ last_text s ++ drop (length (last_text s)) out)
    × (((e : Error) × (r ≡ ran (LastWrite (Err e)) read wrote) × GivesFirst held held' (last_text s))
    ⊎ ((r ≡ ran stop read (add64 wrote (length (last_text s)))) × Appends held held' (last_text s)))
