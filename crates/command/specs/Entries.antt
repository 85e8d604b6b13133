-- "Byte, count, data": the one shape of long commands and of a reply's items (document 01, "Commands and replies").
-- An entry's byte is followed by a count and that many data bytes where it is below a limit; else it stands alone.
use Rattle.std.specs.Prelude.{ℕ, zero, suc, ◌+◌, ◌≤◌, ◌≡◌, List, [], ◌∷◌, ◌++◌, leb, ltb, length, take}
use Rattle.lists.specs.Choice.{pick, Every}
use Rattle.answer.specs.Answer.{Answer, result, refused}

pub record Entry : Type 0 where
  pub byte : ℕ
  pub body : List ℕ

abbrev pub entry : ℕ → List ℕ → Entry
entry b d = record { byte = b; body = d }

-- A command byte 80 to FF is short; 00 to 7F has a count.
abbrev pub commands : ℕ
commands = 0x80

-- A reply's items have a count, short commands' items as well.
abbrev pub items : ℕ
items = 0x100

-- The bytes of an entry: its byte, its count where it has one, its data.
unfoldable pub entry_bytes : ℕ → Entry → List ℕ
entry_bytes limit e = pick (ltb e.byte limit) (e.byte ∷ length e.body ∷ e.body) (e.byte ∷ [])

-- The bytes of entries, one after the other.
unfoldable pub list_bytes : ℕ → List Entry → List ℕ
list_bytes limit [] = []
list_bytes limit (e ∷ es) = entry_bytes limit e ++ list_bytes limit es

-- An entry without a count has no data.
abbrev pub WellFormed : ℕ → Entry → Type 0
WellFormed limit e = limit ≤ e.byte → e.body ≡ []

unfoldable pub AllWellFormed : ℕ → List Entry → Type 0
AllWellFormed limit es = Every (WellFormed limit) es

-- What bytes are as a list of entries: unsound where a count is missing or goes beyond the end, with the index of the
-- byte of the entry that fails so.
pub data Parsed : Type 0 where
  unsound : (at : ℕ) → Parsed
  sound : List Entry → Parsed

-- An entry before what the bytes that follow it are.
unfoldable pub with_entry : ℕ → Entry → Parsed → Parsed
with_entry limit e (unsound at) = unsound (length (entry_bytes limit e) + at)
with_entry limit e (sound es) = sound (e ∷ es)

-- The entries of bytes, of which `skip` data bytes of the entry before are still to be passed.
unfoldable mutual
  pub parse : (limit : ℕ) → List ℕ → (skip : ℕ) → Parsed
  parse limit [] zero = sound []
  parse limit [] (suc k) = unsound 0
  parse limit (x ∷ xs) (suc k) = parse limit xs k
  parse limit (b ∷ xs) zero =
      pick (ltb b limit) (parse_counted limit xs b) (with_entry limit (entry b []) (parse limit xs zero))

  -- the same where the byte b comes before, and is followed by a count
  pub parse_counted : (limit : ℕ) → List ℕ → (b : ℕ) → Parsed
  parse_counted limit [] b = unsound 0
  parse_counted limit (n ∷ xs) b =
      pick (leb n (length xs)) (with_entry limit (entry b (take n xs)) (parse limit xs n)) (unsound 0)

-- ---- the n-th entry and its index

-- How many bytes stand before an entry's data: its byte, and its count where it has one.
abbrev pub head_of : ℕ → ℕ → ℕ
head_of limit b = pick (ltb b limit) 2 1

-- An entry's byte, the index at which its data starts and how long that is.
pub data Extent : Type 0 where
  found : (byte start len : ℕ) → Extent

-- The n-th of entries, the first of which stands at index `at`.
unfoldable pub nth_of : (limit at : ℕ) → List Entry → ℕ → Answer Extent
nth_of limit at [] n = refused 15
nth_of limit at (e ∷ es) zero = result (found e.byte (at + head_of limit e.byte) (length e.body))
nth_of limit at (e ∷ es) (suc n) = nth_of limit (at + length (entry_bytes limit e)) es n

-- All counts first (7), then whether there is an n-th (15).
unfoldable pub nth_in : (limit at : ℕ) → Parsed → ℕ → Answer Extent
nth_in limit at (unsound k) n = refused 7
nth_in limit at (sound es) n = nth_of limit at es n
