-- The whole answer to a call: what is told and the array that is left make the outcome, and the array beside an answer by
-- value is the outcome's data unit and then zeros.
use mathlib.Core.Path.{◌≡◌, refl, ap}
use mathlib.Core.List.{List}
use Prim.Native.Nat.{ℕ, ◌-◌}
use lib.ListN.{length, take, replicate}
use Rattle.answer.specs.Answer.{result, refused}
use Rattle.framing.specs.Reference.{Call, byte}
use Rattle.framing.proofs.Bounded.{bounded_left}
use Rattle.framing.proofs.Chunk.{fed_has}
use Rattle.coscom.specs.Flags.{candidate_of}
use Rattle.coscom.specs.Packet.{Packet, packet}
use Rattle.coscom.specs.Verdict.{verdict}
use Rattle.coscom.specs.Answers.{judge_answer, packet_read}
use Rattle.coscom_line.specs.Outcome.{Outcome, nothing, judged, summary_of, outcome_of, is_answer, capacity, padded}
use Rattle.coscom_line.specs.Outcome.{unit_told, ValueAnswer, value_answer_of, value_outcome}
use Rattle.coscom_line.specs.Reader.{coscom, coscom_bounds, seen, turn_of}
use Rattle.coscom_line.specs.Chunk.{feed_of}
use Rattle.coscom_line.specs.Private.{Whole, beside_told}
use Rattle.coscom_line.specs.declared.LineReader.{LineReader}
use Rattle.coscom.proofs.CodeLaws.{left_whole, read_whole}

-- ---- what is told and the array that is left

pub call_whole : (r : LineReader) (c : Call) → Whole (turn_of r c)
unfolding judge_answer packet_read
call_whole r c =
    bounded_left coscom coscom_bounds (λ o bytes. outcome_of (summary_of o) bytes ≡ o) (λ bytes. refl) (λ bytes. refl)
    (λ bytes. refl) (λ kind body bytes. ap judged (left_whole (verdict (candidate_of body)) bytes)) (seen r) c

-- The same of bytes up to the first that is answered.
pub fed_whole : (r : LineReader) (s : List ℕ)
    → outcome_of (summary_of (feed_of r s).answer) (feed_of r s).next.bytes ≡ (feed_of r s).answer
fed_whole r s =
    fed_has nothing is_answer turn_of (λ u. Unit {0}) (λ o u. outcome_of (summary_of o) u.bytes ≡ o) (λ u k. refl)
    (λ u b k. (tt, call_whole u (byte b))) r s tt

-- ---- the array beside an answer

-- the first bytes of the array that is left are the outcome's data unit
beside_is : (o : Outcome) (bytes : List ℕ) → outcome_of (summary_of o) bytes ≡ o
    → beside_told (summary_of o) bytes ≡ padded (unit_told o)
unfolding judge_answer packet_read
beside_is nothing bytes e = refl
beside_is (judged (refused n)) bytes e = refl
beside_is (judged (result p)) bytes e =
    let q : packet p.letter p.tens p.ones (take (length p.unit) bytes) ≡ p = cc in
    ap (λ (x : Packet). padded x.unit) q

-- What an answer by value means, where the array that is left tells the outcome.
pub value_means : (o : Outcome) (bytes : List ℕ) → outcome_of (summary_of o) bytes ≡ o
    → ◌≡◌ {A = ValueAnswer} (record { told = summary_of o; unit = beside_told (summary_of o) bytes }) (value_answer_of o)
value_means o bytes e =
    λ i. record { told = summary_of o; unit = beside_is o bytes e i }

-- An answer by value tells the whole outcome: nothing is lost in it.
pub value_outcome_lem : (o : Outcome) → value_outcome (value_answer_of o) ≡ o
unfolding judge_answer packet_read
value_outcome_lem nothing = refl
value_outcome_lem (judged (refused n)) = refl
value_outcome_lem (judged (result p)) = ap judged (read_whole p (replicate (capacity - length p.unit) 0))
