-- The laws of the lines and the counts of answers, one call after the other, and the longest lines.
use mathlib.Core.Path.{◌≡◌, refl, ap}
use mathlib.Core.Bool.{Bool, true}
use mathlib.Core.List.{List, ◌∷◌, ◌++◌}
use Prim.Native.Nat.{ℕ, ◌+◌, ◌≤◌}
use native.Mathlib.Nat.{zero-add, add-zero}
use native.Mathlib.Omega.{arith}
use lib.ListN.{length, replicate, length-append}
use Rattle.answer.specs.Answer.{result, refused}
use Rattle.framing.specs.Located.{Located}
use Rattle.frame.specs.Verdict.{Verdict}
use Rattle.frame.specs.Frame.{extended}
use Rattle.command.specs.Entries.{parse, with_entry}
use Rattle.command.specs.Stop.{any_of, any_in, is_one_two, terminates, stops_within, stops_workout}
use Rattle.candidate.specs.Outcome.{Outcome, nothing, judged, capacity}
use Rattle.text.specs.Lines.{ascii, newline, field, hex_field, stop_text, head, extended_body, line, outcome_line}
use Rattle.text.specs.Lines.{totals}
use Rattle.text.specs.Digits.{decimal, hex}
use Rattle.text.specs.Writing.{line_room, totals_room}
use Rattle.text.specs.Text.{with_located, verdicts, frames, refusals, lines, frame_one, refused_one}
use Rattle.text.proofs.DigitLaws.{length-field, decimal_64, decimal_bound, least_digits}

pub lines_more : (n position : ℕ) (o : Outcome) (answers : List (Located Verdict))
    → outcome_line (n + 1) position o ++ lines (n + (frame_one o + refused_one o)) answers
    ≡ lines n (with_located position o answers)
lines_more n position nothing answers = ap (λ (k : ℕ). lines k answers) (add-zero n)
lines_more n position (judged (result f)) answers = refl
lines_more n position (judged (refused number)) answers = refl

pub frames_more : (position : ℕ) (o : Outcome) (answers : List (Located Verdict))
    → frame_one o + frames (verdicts answers) ≡ frames (verdicts (with_located position o answers))
frames_more position nothing answers = zero-add (frames (verdicts answers))
frames_more position (judged (result f)) answers = refl
frames_more position (judged (refused number)) answers = zero-add (frames (verdicts answers))

pub refusals_more : (position : ℕ) (o : Outcome) (answers : List (Located Verdict))
    → refused_one o + refusals (verdicts answers) ≡ refusals (verdicts (with_located position o answers))
refusals_more position nothing answers = zero-add (refusals (verdicts answers))
refusals_more position (judged (result f)) answers = zero-add (refusals (verdicts answers))
refusals_more position (judged (refused number)) answers = refl

-- ---- the longest lines

pub length-totals : (frames refusals strays : ℕ)
    → length (totals frames refusals strays)
    ≡ length (decimal frames) + length (decimal refusals) + length (decimal strays) + 24
unfolding totals
length-totals frames refusals strays =
    let a = field (ascii "frames=") frames in
    let b = field (ascii " refused=") refusals in
    let c = field (ascii " loose=") strays in
    omega (
      arith,
      length-append (a ++ b ++ c) newline,
      length-append (a ++ b) c,
      length-append a b,
      length-field (ascii "frames=") frames,
      length-field (ascii " refused=") refusals,
      length-field (ascii " loose=") strays,
    )

-- The largest count.
abbrev pub most : ℕ
most = 18446744073709551615

-- The room of the totals is needed: at the largest counts they have exactly so many bytes.
pub longest_totals : length (totals most most most) ≡ totals_room
longest_totals =
    let l : length (decimal most) ≤ 20 = decimal_64 most (omega arith) in
    let g : 20 ≤ length (decimal most) = least_digits 19 most (omega arith) in
    omega (arith, length-totals most most most)

-- The room of a line is needed: at the largest number and position, that of an extended frame which stops a workout and
-- whose length has three digits has exactly so many bytes.
pub longest_line : (to from : ℕ) (contents : List ℕ) → 100 ≤ length contents → length contents ≤ capacity
    → stops_workout contents ≡ true → length (line most 4294967294 (result (extended to from contents))) ≡ line_room
unfolding head hex_field extended_body
longest_line to from contents h k e =
    let n : List ℕ = field (ascii "n=") most in
    let p : List ℕ = field (ascii " at=") 4294967294 in
    let a : List ℕ = ascii " kind=ext to=" ++ hex to in
    let b : List ℕ = ascii " from=" ++ hex from in
    let c : List ℕ = field (ascii " len=") (length contents) in
    let d : List ℕ = stop_text (stops_workout contents) in
    omega (
      arith,
      length-append (n ++ p) (a ++ b ++ c ++ d),
      length-append n p,
      length-append (a ++ b ++ c) d,
      length-append (a ++ b) c,
      length-append a b,
      length-field (ascii "n=") most,
      length-field (ascii " at=") 4294967294,
      length-field (ascii " len=") (length contents),
      ap (λ (t : Bool). length (stop_text t)) e,
      decimal_64 most (omega arith),
      least_digits 19 most (omega arith),
      decimal_bound 9 4294967294 (omega arith),
      least_digits 9 4294967294 (omega arith),
      decimal_bound 2 (length contents) (omega arith),
      least_digits 2 (length contents) (omega arith),
    )

-- Contents that it speaks of: the command that ends a workout in its wrapper, and 94 short commands after it.
abbrev pub long_stop : List ℕ
long_stop = 0x76 ∷ 0x04 ∷ 0x13 ∷ 0x02 ∷ 0x01 ∷ 0x02 ∷ replicate 94 0x80

pub longest_reached : (to from : ℕ) → length (line most 4294967294 (result (extended to from long_stop))) ≡ line_room
unfolding parse with_entry any_of any_in is_one_two terminates stops_within stops_workout
longest_reached to from = longest_line to from long_stop (omega arith) (omega arith) refl
