-- Every line of the bench sheet that is marked P holds, by computing.
use mathlib.Core.Path.{refl}
use Rattle.lists.specs.Choice.{none_of}
use Rattle.frame.specs.Stuffing.{stuff_byte, stuff, prepend, unstuff}
use Rattle.frame.specs.Checksum.{sum_from}
use Rattle.frame.specs.Frame.{contents_of, addresses_of, payload, wire_of}
use Rattle.frame.specs.Verdict.{frame_in, judge_bytes, judge, is_terminated, verdict}
use Rattle.writer.specs.Answers.{frame_draft}
use Rattle.command.specs.Entries.{with_entry, parse}
use Rattle.reply.specs.Status.{is_state, status_of, status_in}
use Rattle.reply.specs.Replies.{head_in, after_status, reply_in}
use Rattle.lease.specs.Lease.{stop_frame, answer_of}
use Rattle.examples.specs.Worked.{AllHold, marked_examples}

pub examples_hold : AllHold marked_examples
unfolding none_of stuff_byte stuff prepend unstuff sum_from contents_of addresses_of payload wire_of frame_in
    judge_bytes judge is_terminated verdict frame_draft with_entry parse is_state status_of status_in head_in after_status
    reply_in stop_frame answer_of
examples_hold = (refl, (refl, (refl, (refl, (refl, (refl, (refl, (refl, (refl, (refl, (refl, (refl, tt))))))))))))
