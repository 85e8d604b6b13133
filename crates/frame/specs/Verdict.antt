-- The verdict on bytes that are to be one frame, in document 01's order of refusals.
use Rattle.std.specs.Prelude.{ℕ, ◌+◌, ◌-◌, Bool, false, List, leb, eqb, length, get_or, take, drop}
use Rattle.lists.specs.Choice.{pick}
use Rattle.answer.specs.Answer.{Answer, result, refused}
use Rattle.frame.specs.Stuffing.{unstuff, Unstuffed, bad_escape, bytes}
use Rattle.frame.specs.Flags.{flagless, stop_flag, kind_of, is_start}
use Rattle.frame.specs.Checksum.{checksum}
use Rattle.frame.specs.Frame.{Frame, standard, extended}
use Rattle.frame.specs.declared.Kind.{Kind}
use Rattle.frame.specs.declared.Kind.TheVariants.{Standard, Extended}

-- A frame, or a refusal.
abbrev pub Verdict : Type 0
Verdict = Answer Frame

-- How many bytes of address a kind has.
abbrev pub address_count : Kind → ℕ
address_count Standard = 0
address_count Extended = 2

-- Of unstuffed bytes: what stands after `skip` addresses and before the last byte.
abbrev pub contents_in : ℕ → List ℕ → List ℕ
contents_in skip u = take (length u - (skip + 1)) (drop skip u)

-- The last byte.
abbrev pub last_of : List ℕ → ℕ
last_of u = get_or u (length u - 1) 0

-- The frame that unstuffed bytes are.
unfoldable pub frame_in : Kind → List ℕ → Frame
frame_in Standard u = standard (contents_in 0 u)
frame_in Extended u = extended (get_or u 0 0) (get_or u 1 0) (contents_in 2 u)

-- Refusals 3, 4 and 5.
unfoldable pub judge_bytes : Kind → Unstuffed → Verdict
judge_bytes kind bad_escape = refused 3
judge_bytes kind (bytes u) =
    pick (leb (address_count kind + 1) (length u))
    (pick (eqb (last_of u) (checksum (contents_in (address_count kind) u))) (result (frame_in kind u)) (refused 5))
    (refused 4)

-- The verdict on what stands between a start flag of a kind and the stop flag: refusals 2, 3, 4 and 5.
unfoldable pub judge : Kind → List ℕ → Verdict
judge kind body = pick (leb (length body + 2) 120) (judge_bytes kind (unstuff false body)) (refused 2)

-- What stands between the first byte and the last.
abbrev pub body_of : List ℕ → List ℕ
body_of w = take (length w - 2) (drop 1 w)

-- Whether a slice is one terminated candidate (document 01: one whole closed stretch): a start flag, bytes that are no
-- flags, and F2.
unfoldable pub is_terminated : List ℕ → Bool
is_terminated w =
    pick (leb 2 (length w)) (pick (is_start (get_or w 0 0))
    (pick (eqb (last_of w) stop_flag) (flagless (body_of w)) false) false) false

-- The verdict on a slice: refusals 6, 2, 3, 4 and 5.
unfoldable pub verdict : List ℕ → Verdict
verdict w = pick (is_terminated w) (judge (kind_of (get_or w 0 0)) (body_of w)) (refused 6)
