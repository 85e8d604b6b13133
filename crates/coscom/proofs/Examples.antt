-- Worked examples, by computing: document 02's own, `S02` with no data, whose checksum is 81, and slices next to it.
use Prim.Native.Nat.{ℕ}
use mathlib.Core.Path.{◌≡◌, refl}
use mathlib.Core.List.{List, [], ◌∷◌}
use lib.ListN.{replicate}
use Rattle.lists.specs.Choice.{none_of}
use Rattle.answer.specs.Answer.{result, refused}
use Rattle.coscom.specs.Flags.{candidate_of}
use Rattle.coscom.specs.Packet.{Packet, packet, is_proper, sum_of, covered, payload, wire_of}
use Rattle.coscom.specs.Verdict.{packet_in, is_spelt, is_summed, judge, is_bounded, is_terminated, verdict}
use Rattle.coscom.specs.Answers.{packet_draft}

-- `S02` with no data, and with the checksum of another sum.
abbrev s02 : Packet
s02 = packet 0x53 0x30 0x32 []

abbrev summed : (tens ones : ℕ) → List ℕ
summed tens ones = 0x01 ∷ 0x53 ∷ 0x30 ∷ 0x32 ∷ tens ∷ ones ∷ 0x17 ∷ []

pub record PacketExamples : Type 0 where
  pub written : wire_of s02 ≡ summed 0x38 0x31
  pub read : verdict (summed 0x38 0x31) ≡ result s02
  pub wrong_sum : verdict (summed 0x38 0x32) ≡ refused 5
  pub sum_with_letter : verdict (summed 0x38 0x41) ≡ refused 22
  pub four_bytes : verdict (candidate_of (replicate 4 0xFF)) ≡ refused 4
  pub too_many : verdict (candidate_of (replicate 255 0xFF)) ≡ refused 2
  pub lower_case : packet_draft (packet 0x73 0x30 0x32 []) ≡ refused 22
  pub zero_first : wire_of (packet 0x5A 0x39 0x39 [])
      ≡ 0x01 ∷ 0x5A ∷ 0x39 ∷ 0x39 ∷ 0x30 ∷ 0x34 ∷ 0x17 ∷ []

pub examples : PacketExamples
unfolding none_of is_proper sum_of covered payload wire_of packet_in is_spelt is_summed judge is_bounded is_terminated verdict packet_draft
examples =
    record {
      written = refl;
      read = refl;
      wrong_sum = refl;
      sum_with_letter = refl;
      four_bytes = refl;
      too_many = refl;
      lower_case = refl;
      zero_first = refl;
    }
