-- Document 01, "Bench sheet": the lines marked P, one case for each, with what is expected as data. They are of a
-- trace.
use Rattle.std.specs.Prelude.{ℕ, true, ◌≡◌, List, [], ◌∷◌}
use Rattle.lists.specs.Choice.{Every}
use Rattle.answer.specs.Answer.{result, refused, Answer}
use Rattle.frame.specs.Frame.{Frame, standard, extended}
use Rattle.frame.specs.Verdict.{Verdict, verdict}
use Rattle.frame.specs.Origin.{admit}
use Rattle.writer.specs.Answers.{sent_draft}
use Rattle.frame.specs.declared.Origin.TheVariants.{Trace}
use Rattle.command.specs.Entries.{entry}
use Rattle.reply.specs.Status.{previous_number, state_number}
use Rattle.reply.specs.declared.status.Previous.TheVariants.{Ok as ok}
use Rattle.reply.specs.declared.status.State.TheVariants.{Ready as ready}
use Rattle.reply.specs.Replies.{reply, reply_in, Reply}
use Rattle.lease.specs.Lease.{hold, stop}
use Rattle.lease.specs.History.{new_table, answers_on}

-- A slice and its verdict; a frame and its bytes on the wire; contents and the reply that they are; an address and the
-- stop that its holder gets.
pub data Case : Type 0 where
  reads : (wire : List ℕ) → Verdict → Case
  writes : Frame → (wire : List ℕ) → Case
  replies : (contents : List ℕ) → Answer Reply → Case
  stops : (address : ℕ) → (wire : List ℕ) → Case

-- What a case says of the definitions that the contracts cite. Frames are those of a trace. The stop is one by token 1,
-- which took the address on a new table; its output has 120 bytes.
abbrev pub Holds : Case → Type 0
Holds (reads wire expected) = admit Trace (verdict wire) ≡ expected
Holds (writes frame wire) = sent_draft Trace frame ≡ result wire
Holds (replies contents expected) = reply_in contents ≡ expected
Holds (stops address wire) =
    answers_on new_table (hold address 1 ∷ stop address 1 120 ∷ []) ≡ result [] ∷ result wire ∷ []

-- Every case of a list holds.
abbrev pub AllHold : List Case → Type 0
AllHold cases = Every Holds cases

-- The cases. The reply has the toggle set, the previous frame ok, the state ready, and one empty item.
abbrev pub marked_examples : List Case
marked_examples =
    reads (0xF1 ∷ 0xF2 ∷ []) (refused 4)
    ∷ reads (0xF1 ∷ 0x00 ∷ 0xF2 ∷ []) (result (standard []))
    ∷ reads (0xF0 ∷ 0x05 ∷ 0x00 ∷ 0xF2 ∷ []) (refused 4)
    ∷ reads (0xF0 ∷ 0x05 ∷ 0x00 ∷ 0x00 ∷ 0xF2 ∷ []) (result (extended 0x05 0x00 []))
    ∷ reads (0xF1 ∷ 0xF3 ∷ 0x04 ∷ 0xF2 ∷ []) (refused 3)
    ∷ reads (0xF1 ∷ 0xF3 ∷ 0xF2 ∷ []) (refused 3)
    ∷ writes (standard (0xF1 ∷ [])) (0xF1 ∷ 0xF3 ∷ 0x01 ∷ 0xF3 ∷ 0x01 ∷ 0xF2 ∷ [])
    ∷ reads (0xF1 ∷ 0x24 ∷ 0x02 ∷ 0x03 ∷ 0x00 ∷ 0x25 ∷ 0xF2 ∷ []) (result (standard (0x24 ∷ 0x02 ∷ 0x03 ∷ 0x00 ∷ [])))
    ∷ reads (0xF1 ∷ 0x24 ∷ 0x02 ∷ 0x03 ∷ 0x00 ∷ 0x24 ∷ 0xF2 ∷ []) (refused 5)
    ∷ reads (0xF1 ∷ 0x1A ∷ 0x07 ∷ 0x05 ∷ 0x05 ∷ 0x80 ∷ 0x64 ∷ 0x00 ∷ 0x00 ∷ 0x00 ∷ 0xF9 ∷ 0xF2 ∷ [])
    (result (standard (0x1A ∷ 0x07 ∷ 0x05 ∷ 0x05 ∷ 0x80 ∷ 0x64 ∷ 0x00 ∷ 0x00 ∷ 0x00 ∷ [])))
    ∷ replies (0x81 ∷ 0x1A ∷ 0x00 ∷ [])
    (result (reply true (previous_number ok) (state_number ready) (entry 0x1A [] ∷ [])))
    ∷ stops 0xF1 (0xF0 ∷ 0xF3 ∷ 0x01 ∷ 0x00 ∷ 0x76 ∷ 0x04 ∷ 0x13 ∷ 0x02 ∷ 0x01 ∷ 0x02 ∷ 0x60 ∷ 0xF2 ∷ [])
    ∷ []
