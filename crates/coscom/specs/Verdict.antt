-- The verdict on bytes that are to be one packet: refusals 6, 2, 4, 22 and 5, in that order.
use Rattle.std.specs.Prelude.{ℕ, ◌+◌, ◌-◌, Bool, false, List, leb, eqb, length, get_or, take, drop}
use Rattle.lists.specs.Choice.{pick}
use Rattle.answer.specs.Answer.{Answer, result, refused}
use Rattle.coscom.specs.Flags.{start_flag, stop_flag, flagless}
use Rattle.coscom.specs.Packet.{Packet, packet, is_digit, is_proper, covered, checksum, tens_digit, ones_digit}

-- A packet, or a refusal.
abbrev pub Verdict : Type 0
Verdict = Answer Packet

-- Of what stands between the flags: the packet, and the two bytes of its checksum.
unfoldable pub packet_in : List ℕ → Packet
packet_in body = packet (get_or body 0 0) (get_or body 1 0) (get_or body 2 0) (take (length body - 5) (drop 3 body))

abbrev pub sum_tens : List ℕ → ℕ
sum_tens body = get_or body (length body - 2) 0

abbrev pub sum_ones : List ℕ → ℕ
sum_ones body = get_or body (length body - 1) 0

-- Whether every byte is allowed at its place.
unfoldable pub is_spelt : List ℕ → Bool
is_spelt body = pick (is_proper (packet_in body)) (pick (is_digit (sum_tens body)) (is_digit (sum_ones body)) false) false

-- Whether the last two bytes are the digits of the packet's checksum.
unfoldable pub is_summed : List ℕ → Bool
is_summed body =
    pick (eqb (sum_tens body) (tens_digit (checksum (covered (packet_in body)))))
    (eqb (sum_ones body) (ones_digit (checksum (covered (packet_in body))))) false

-- The verdict on what stands between the flags: refusals 2, 4, 22 and 5.
unfoldable pub judge : List ℕ → Verdict
judge body =
    pick (leb (length body + 2) 256)
    (pick (leb 5 (length body))
    (pick (is_spelt body) (pick (is_summed body) (result (packet_in body)) (refused 5)) (refused 22))
    (refused 4))
    (refused 2)

-- What stands between the first byte and the last.
abbrev pub body_of : List ℕ → List ℕ
body_of w = take (length w - 2) (drop 1 w)

-- Whether a slice begins with 01 and ends with another byte, which is 17.
unfoldable pub is_bounded : List ℕ → Bool
is_bounded w =
    pick (leb 2 (length w)) (pick (eqb (get_or w 0 0) start_flag) (eqb (get_or w (length w - 1) 0) stop_flag) false) false

-- Whether a slice is one terminated candidate: 01, bytes that are neither 01 nor 17, and 17.
unfoldable pub is_terminated : List ℕ → Bool
is_terminated w = pick (is_bounded w) (flagless (body_of w)) false

-- The verdict on a slice: refusals 6, 2, 4, 22 and 5.
unfoldable pub verdict : List ℕ → Verdict
verdict w = pick (is_terminated w) (judge (body_of w)) (refused 6)
