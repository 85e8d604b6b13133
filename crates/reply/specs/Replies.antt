-- Replies: what contents are as a reply, and what is written (document 01, "Commands and replies").
use Rattle.std.specs.Prelude.{ℕ, Bool, List, [], ◌∷◌, ◌++◌, leb, length, drop, Result, Ok, Err}
use Rattle.lists.specs.Choice.{pick}
use Rattle.answer.specs.Answer.{Answer, result, refused, through, and_then}
use Rattle.answer.specs.Draft.{Draft}
use Rattle.answer.specs.Refusals.{number_of}
use Rattle.command.specs.Entries.{Entry, items, Parsed, unsound, sound, parse, nth_of, Extent}
use Rattle.answer.specs.declared.Refusal.{Refusal}
use Rattle.reply.specs.Status.{status, status_in, StatusParts, previous_number, state_number}
use Rattle.reply.specs.declared.Reply.{Reply as ReadReply}

-- ---- reading

-- A reply's status and items.
pub data Reply : Type 0 where
  reply : (toggle : Bool) (previous state : ℕ) → List Entry → Reply

abbrev pub items_of : Reply → List Entry
items_of (reply t p s es) = es

-- The status that contents begin with: 4, then 8.
unfoldable pub head_in : List ℕ → Answer StatusParts
head_in [] = refused 4
head_in (b ∷ s) = status_in b

-- A status and the items after it: 7 where a count is unsound.
abbrev pub with_items : Parsed → StatusParts → Answer Reply
with_items (unsound at) (status t p s) = refused 7
with_items (sound es) (status t p s) = result (reply t p s es)

unfoldable pub after_status : Answer StatusParts → Parsed → Answer Reply
after_status a p = and_then (with_items p) a

-- Contents as a reply: 4, 8, 7. A wrapper's data is not looked into.
unfoldable pub reply_in : List ℕ → Answer Reply
reply_in s = after_status (head_in s) (parse items (drop 1 s) 0)

-- What is told of a reply: its status and the number of its items.
pub data ReplyOutline : Type 0 where
  reply_outline : (toggle : Bool) (previous state count : ℕ) → ReplyOutline

abbrev pub reply_means : Result ReadReply Refusal → Answer ReplyOutline
reply_means (Ok r) =
    let s = r.status in
    result (reply_outline s.toggle (previous_number s.previous) (state_number s.state) r.items)
reply_means (Err why) = refused (number_of why)

abbrev pub reply_outline_of : Reply → ReplyOutline
reply_outline_of (reply t p s es) = reply_outline t p s (length es)

unfoldable pub reply_answer : Answer Reply → Answer ReplyOutline
reply_answer a = through reply_outline_of a

-- The n-th item, the first of which stands at index 1: the reply's refusal, then 15.
unfoldable pub item_of : Answer Reply → ℕ → Answer Extent
item_of a n = and_then (λ r. nth_of items 1 (items_of r) n) a

abbrev pub nth_item : List ℕ → ℕ → Answer Extent
nth_item s n = item_of (reply_in s) n

-- ---- writing

-- A status byte alone: 8.
unfoldable pub status_draft : ℕ → Draft
status_draft b = through (λ t. b ∷ []) (status_in b)

-- The bytes of an item: its byte, its count, its data.
abbrev pub item_bytes : ℕ → List ℕ → List ℕ
item_bytes b d = b ∷ length d ∷ d

-- Contents and an item after them: data over 255 is 7, contents over 117 are 2.
unfoldable pub with_item : List ℕ → ℕ → List ℕ → Draft
with_item s b d =
    pick (leb (length d) 255)
    (pick (leb (length (s ++ item_bytes b d)) 117) (result (s ++ item_bytes b d)) (refused 2))
    (refused 7)

-- The refusal of the contents so far comes first.
unfoldable pub after_reply : Answer Reply → Draft → Draft
after_reply a d = and_then (λ r. d) a

-- The contents so far with one item more, put last: 4, 8, 7, 2.
unfoldable pub item_draft : List ℕ → ℕ → List ℕ → Draft
item_draft s b d = after_reply (reply_in s) (with_item s b d)
