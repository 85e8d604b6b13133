-- Document 01's table for lists of entries: each answer with the condition under which it is given, over entries and
-- their bytes alone. Nothing here reads bytes one after the other. An entry has a count where its byte is below a
-- limit: 0x80 for commands, and 0x100 for the items of a reply, which all have one.
use Rattle.std.specs.Prelude.{ℕ, ◌+◌, ◌≤◌, ◌<◌, ◌≡◌, List, [], ◌∷◌, ◌++◌, length, drop}
use Rattle.answer.specs.Answer.{Answer, result, refused}
use Rattle.command.specs.Entries.{Entry, commands, entry_bytes, list_bytes, WellFormed, AllWellFormed}
use Rattle.command.specs.Entries.{Extent, found}
use Rattle.command.specs.Answers.{CountAnswer, entry_count, fails_at}
use Rattle.command.specs.Steps.{EntryStep, entry_step}

-- ---- sound and unsound lists

-- Bytes that are a list of entries: those of the entries, one after the other.
pub record SoundList (limit : ℕ) (s : List ℕ) (es : List Entry) : Type 0 where
  pub formed : AllWellFormed limit es
  pub bytes : s ≡ list_bytes limit es

-- Bytes that begin with an entry that fails: its count is missing, or is more than the bytes that follow.
pub data FailsFirst (limit : ℕ) : List ℕ → Type 0 where
  no_count : {b : ℕ} → b < limit → FailsFirst limit (b ∷ [])
  beyond_end : {b count : ℕ} {s : List ℕ} → b < limit → length s < count → FailsFirst limit (b ∷ count ∷ s)

-- Bytes that are no list of entries: some entries, and then one that fails, whose byte stands at the index.
pub record UnsoundList (limit : ℕ) (s : List ℕ) (at : ℕ) : Type 0 where
  pub before : List Entry
  pub formed : AllWellFormed limit before
  pub rest : List ℕ
  pub bytes : s ≡ list_bytes limit before ++ rest
  pub fails : FailsFirst limit rest
  pub place : at ≡ length (list_bytes limit before)

-- The answer to counting the entries from an index on, at which the bytes s begin.
pub data Counts (limit from : ℕ) (s : List ℕ) : CountAnswer → Type 0 where
  all_sound : {es : List Entry} → SoundList limit s es → Counts limit from s (entry_count (length es))
  bad_count_at : {at : ℕ} → UnsoundList limit s at → Counts limit from s (fails_at 7 (from + at))

-- ---- one entry

-- The answer to one step from an index: 15 at the end and past it, 7 where the entry there fails, or the entry whose
-- bytes stand there. Its data are the last of its bytes, and the next index is the one after them.
pub data Steps (limit : ℕ) (s : List ℕ) (at : ℕ) : Answer EntryStep → Type 0 where
  at_end : length s ≤ at → Steps limit s at (refused 15)
  fails_there : FailsFirst limit (drop at s) → Steps limit s at (refused 7)
  stands_there : {start next : ℕ} (e : Entry) (rest : List ℕ) → WellFormed limit e
      → drop at s ≡ entry_bytes limit e ++ rest → next ≡ at + length (entry_bytes limit e)
      → start + length e.body ≡ next → Steps limit s at (result (entry_step e.byte start (length e.body) next))

-- ---- the n-th entry

-- The n-th entry of bytes that begin at an index: as many entries stand before it. Its data are the last of its bytes,
-- and so they end where its bytes end.
pub record NthEntry (limit from : ℕ) (s : List ℕ) (n byte start len : ℕ) : Type 0 where
  pub before : List Entry
  pub here : Entry
  pub after : List Entry
  pub list_is : SoundList limit s (before ++ (here ∷ after))
  pub nth_is : n ≡ length before
  pub byte_is : byte ≡ here.byte
  pub len_is : len ≡ length here.body
  pub ends : start + len ≡ from + length (list_bytes limit before) + length (entry_bytes limit here)

-- The answer to a call for the n-th entry: 7, 15 or the entry.
pub data Nth (limit from : ℕ) (s : List ℕ) (n : ℕ) : Answer Extent → Type 0 where
  bad_count : {at : ℕ} → UnsoundList limit s at → Nth limit from s n (refused 7)
  absent : {es : List Entry} → SoundList limit s es → length es ≤ n → Nth limit from s n (refused 15)
  present : {byte start len : ℕ} → NthEntry limit from s n byte start len
      → Nth limit from s n (result (found byte start len))

-- Where a move from an index leads: past the bytes of the command there, and to the same index where the command is
-- refused.
pub data Moves (s : List ℕ) (at : ℕ) : ℕ → Type 0 where
  past : {byte start len : ℕ} (e : NthEntry commands at (drop at s) 0 byte start len)
      → Moves s at (at + length (entry_bytes commands e.here))
  stays : {number : ℕ} → Nth commands at (drop at s) 0 (refused number) → Moves s at at

-- ---- inside a wrapper

-- The long commands whose data is a list of commands again.
pub data Wrapper : ℕ → Type 0 where
  is_1A : Wrapper 0x1A
  is_76 : Wrapper 0x76
  is_77 : Wrapper 0x77
  is_7E : Wrapper 0x7E
  is_7F : Wrapper 0x7F

-- The answer to a call for the n-th command inside the w-th: the refusal of the w-th at the top, 15 where that is no
-- wrapper, and else the answer in the list that its data is, with indices in the whole contents.
pub data NthInside (s : List ℕ) (w n : ℕ) : Answer Extent → Type 0 where
  outer_refused : {number : ℕ} → Nth commands 0 s w (refused number) → NthInside s w n (refused number)
  no_wrapper : {byte start len : ℕ} → NthEntry commands 0 s w byte start len → (Wrapper byte → ⊥)
      → NthInside s w n (refused 15)
  in_wrapper : {byte start len : ℕ} {a : Answer Extent} (outer : NthEntry commands 0 s w byte start len) → Wrapper byte
      → Nth commands start outer.here.body n a → NthInside s w n a

-- ---- what a caller asks

-- The n-th command of contents, the n-th inside the w-th, or the command at an index.
pub data Question : Type 0 where
  nth_at_top : (n : ℕ) → Question
  nth_in_wrapper : (w n : ℕ) → Question
  at_index : (at : ℕ) → Question

-- The answer that the table gives to a question. For the command at an index the list is the bytes from there on.
abbrev pub TableAnswers : List ℕ → Question → Answer Extent → Type 0
TableAnswers s (nth_at_top n) a = Nth commands 0 s n a
TableAnswers s (nth_in_wrapper w n) a = NthInside s w n a
TableAnswers s (at_index at) a = Nth commands at (drop at s) 0 a

-- The data that the table gives for a question, and the index in the contents at which they start: the entry's own
-- data, and for a refusal none, at the beginning.
pub data TableData (s : List ℕ) : Question → (start : ℕ) → List ℕ → Type 0 where
  of_nth : {n byte start len : ℕ} (e : NthEntry commands 0 s n byte start len)
      → TableData s (nth_at_top n) start e.here.body
  of_inner : {w n outerByte outerStart outerLen byte start len : ℕ}
      (outer : NthEntry commands 0 s w outerByte outerStart outerLen) → Wrapper outerByte
      → (e : NthEntry commands outerStart outer.here.body n byte start len)
      → TableData s (nth_in_wrapper w n) start e.here.body
  of_index : {at byte start len : ℕ} (e : NthEntry commands at (drop at s) 0 byte start len)
      → TableData s (at_index at) start e.here.body
  of_refusal : {q : Question} (number : ℕ) → TableAnswers s q (refused number) → TableData s q 0 []
