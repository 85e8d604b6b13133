-- What the program's functions take from a reader and give to a writer, where these say which bytes they have.
-- Standard input and output and files don't say it.
use Rattle.std.specs.Prelude.{◌≡◌, ℕ, List, ◌++◌, length, Option, Result, Ok, Err, MatchResult}
use Rattle.std.specs.Io.KnownBytes.{Appends, Consumes, IsAtEnd}
use Rattle.text.specs.Text.{text}
use Rattle.trace.specs.Machine.{new_listing, texts}
use Rattle.listing.specs.declared.Stop.{Stop}
use Rattle.listing.specs.declared.Stop.TheVariants.{LastRead, AtLimit, LastWrite}
use Rattle.listing.specs.declared.Ran.{Ran}

-- The writer got the first bytes of a text, maybe all or none.
abbrev pub GivesFirst : (held held' : Option (List ℕ)) → (w : List ℕ) → Type 0
GivesFirst held held' w =
    (first : List ℕ) × ((rest : List ℕ) × (w ≡ first ++ rest) × Appends held held' first)

-- The writer got all of a text, or where a write failed its first bytes.
abbrev pub Gives : {T E : Type 0} → (held held' : Option (List ℕ)) → Result T E → (w : List ℕ) → Type 0
Gives held held' r w = MatchResult r (λ _. Appends held held' w) (λ _. GivesFirst held held' w)

-- What the writer got of the text of the bytes that were listed, by the reason for which the program stopped, and that
-- the reader is at its end where a read gave none. Where a read failed it got the lines, without the totals.
abbrev pub Stopped : (left' held held' : Option (List ℕ)) → (bytes : List ℕ) → Stop → Type 0
Stopped left' held held' bytes (LastRead (Ok n)) = IsAtEnd left' × Appends held held' (text bytes)
Stopped left' held held' bytes (LastRead (Err e)) = Appends held held' (texts new_listing bytes)
Stopped left' held held' bytes AtLimit = Appends held held' (text bytes)
Stopped left' held held' bytes (LastWrite all) = GivesFirst held held' (text bytes)

-- The bytes that the program counts as read are the first that the reader had left, and the writer got their text.
pub record Carries (left left' held held' : Option (List ℕ)) (r : Ran) : Type 0 where
  pub bytes : List ℕ
  pub read_is : r.read ≡ length bytes
  pub taken : Consumes left left' bytes
  pub given : Stopped left' held held' bytes r.stop
