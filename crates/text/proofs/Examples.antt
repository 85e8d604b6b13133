-- Document 01's listing of an example trace with document 02's positions, and those of two others, computed.
use mathlib.Core.Path.{◌≡◌, refl}
use mathlib.Core.List.{[], ◌∷◌}
use Rattle.lists.specs.Choice.{none_of}
use Rattle.frame.specs.Stuffing.{unstuff, prepend}
use Rattle.frame.specs.Checksum.{sum_from}
use Rattle.frame.specs.Verdict.{frame_in, judge_bytes, judge, is_terminated, verdict}
use Rattle.command.specs.Entries.{parse, with_entry}
use Rattle.text.specs.Digits.{decimal}
use Rattle.command.specs.Stop.{any_of, any_in, is_one_two, terminates, stops_within, stops_workout}
use Rattle.text.specs.Lines.{ascii, field, hex_field, head, refused_body, standard_body, extended_body, totals}
use Rattle.text.specs.Text.{text}

pub example : text (0x55 ∷ 0xF1 ∷ 0x76 ∷ 0x04 ∷ 0xF0 ∷ 0x05 ∷ 0x00 ∷ 0x76 ∷ 0x04 ∷ 0x13 ∷ 0x02 ∷ 0x01 ∷ 0x02 ∷ 0x60
    ∷ 0xF2 ∷ [])
    ≡ ascii "n=1 at=1 kind=refused code=6\nn=2 at=4 kind=ext to=05 from=00 len=6 stop=yes\nframes=1 refused=1 loose=1\n"
unfolding none_of unstuff prepend sum_from frame_in judge_bytes judge is_terminated verdict parse with_entry decimal any_of
    any_in is_one_two terminates stops_within stops_workout field head hex_field refused_body standard_body extended_body totals
example = refl

pub standard_example : text (0xF1 ∷ 0x24 ∷ 0x02 ∷ 0x03 ∷ 0x00 ∷ 0x25 ∷ 0xF2 ∷ [])
    ≡ ascii "n=1 at=0 kind=std len=4 stop=no\nframes=1 refused=0 loose=0\n"
unfolding none_of unstuff prepend sum_from frame_in judge_bytes judge is_terminated verdict parse with_entry decimal any_of
    any_in is_one_two terminates stops_within stops_workout field head hex_field refused_body standard_body extended_body totals
standard_example = refl

pub empty_example : text [] ≡ ascii "frames=0 refused=0 loose=0\n"
unfolding decimal field totals
empty_example = refl
