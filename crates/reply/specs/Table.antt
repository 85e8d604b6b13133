-- Document 01's table for replies: each answer with the condition under which it is given, over a status's parts and
-- items' bytes. Nothing here reads bytes one after the other.
use Rattle.std.specs.Prelude.{ℕ, ◌+◌, ◌≤◌, ◌<◌, Bool, List, [], ◌∷◌, ◌++◌, length, drop}
use Rattle.answer.specs.Answer.{Answer, result, refused}
use Rattle.command.specs.Entries.{Entry, items, Extent, found}
use Rattle.command.specs.Table.{SoundList, UnsoundList, NthEntry}
use Rattle.reply.specs.Status.{StatusParts, status, StatusByte, NoStatus}
use Rattle.reply.specs.Replies.{Reply, reply, ReplyOutline, reply_outline_of, items_of, item_bytes}

-- ---- which contents are a reply

-- Contents that are a reply: the byte of a status, and then the bytes of items.
pub data IsReply : List ℕ → Reply → Type 0 where
  is_reply : {b : ℕ} {rest : List ℕ} {t : Bool} {p x : ℕ} {es : List Entry} → StatusByte b (status t p x)
      → SoundList items rest es → IsReply (b ∷ rest) (reply t p x es)

-- The refusals of contents that are no reply, in their order: empty, no status, a count that is missing or goes beyond
-- the end.
pub data NoReply : List ℕ → ℕ → Type 0 where
  empty : NoReply [] 4
  faulty : {b : ℕ} {rest : List ℕ} → NoStatus b → NoReply (b ∷ rest) 8
  unsound_items : {b : ℕ} {rest : List ℕ} {t : StatusParts} {at : ℕ} → StatusByte b t → UnsoundList items rest at
      → NoReply (b ∷ rest) 7

-- ---- reading

-- What reading a reply is answered: a refusal, or its status and the number of its items.
pub data ReplyJudged (s : List ℕ) : Answer ReplyOutline → Type 0 where
  refused_as : {k : ℕ} → NoReply s k → ReplyJudged s (refused k)
  read_as : {r : Reply} → IsReply s r → ReplyJudged s (result (reply_outline_of r))

-- What a call for the n-th item is answered. The items begin at index 1, behind the status.
pub data ItemJudged : List ℕ → ℕ → Answer Extent → Type 0 where
  item_refused : {s : List ℕ} {n k : ℕ} → NoReply s k → ItemJudged s n (refused k)
  absent_item : {s : List ℕ} {n : ℕ} {r : Reply} → IsReply s r → length (items_of r) ≤ n → ItemJudged s n (refused 15)
  present_item : {b : ℕ} {rest : List ℕ} {t : StatusParts} {n byte start len : ℕ} → StatusByte b t
      → NthEntry items 1 rest n byte start len → ItemJudged (b ∷ rest) n (result (found byte start len))

-- The n-th item's data, and the index in the contents at which they start; where there is no such item none, at the
-- beginning.
pub data ItemData : List ℕ → (n start : ℕ) → List ℕ → Type 0 where
  data_of : {b : ℕ} {rest : List ℕ} {t : StatusParts} {n byte start len : ℕ} → StatusByte b t
      → (e : NthEntry items 1 rest n byte start len) → ItemData (b ∷ rest) n start e.here.body
  no_data : {s : List ℕ} {n k : ℕ} → ItemJudged s n (refused k) → ItemData s n 0 []

-- ---- writing

-- What writing a status byte alone is answered, and the output afterwards.
pub data StatusWritten (b : ℕ) : (out : List ℕ) → Answer ℕ → List ℕ → Type 0 where
  status_fault : {out : List ℕ} → NoStatus b → StatusWritten b out (refused 8) out
  status_no_room : {t : StatusParts} → StatusByte b t → StatusWritten b [] (refused 1) []
  status_fits : {t : StatusParts} {x : ℕ} {out : List ℕ} → StatusByte b t
      → StatusWritten b (x ∷ out) (result 1) (b ∷ out)

-- What writing the contents so far, s, and an item with byte b and data d after them is answered, and the output
-- afterwards. A refusal leaves the output as it was, and all after what was written is as it was.
pub data ItemWritten (s : List ℕ) (b : ℕ) (d out : List ℕ) : Answer ℕ → List ℕ → Type 0 where
  no_prior : {k : ℕ} → NoReply s k → ItemWritten s b d out (refused k) out
  long_data : {r : Reply} → IsReply s r → 255 < length d → ItemWritten s b d out (refused 7) out
  long_reply : {r : Reply} → IsReply s r → length d ≤ 255 → 117 < length s + 2 + length d
      → ItemWritten s b d out (refused 2) out
  item_no_room : {r : Reply} → IsReply s r → length d ≤ 255 → length s + 2 + length d ≤ 117
      → length out < length s + 2 + length d → ItemWritten s b d out (refused 1) out
  item_fits : {r : Reply} → IsReply s r → length d ≤ 255 → length s + 2 + length d ≤ 117
      → length s + 2 + length d ≤ length out
      → ItemWritten s b d out (result (length s + 2 + length d))
      (s ++ (item_bytes b d ++ drop (length s + 2 + length d) out))
