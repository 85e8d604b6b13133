-- A reader that is as new tells the bytes of a packet that may be written, and what a call wrote, as that packet and
-- nothing else; and any whole candidate, after any calls, as the table of refusals says.
use mathlib.Core.Path.{◌≡◌, refl, sym, ap, ◌∙◌, subst}
use mathlib.Core.List.{List, [], ◌∷◌, ◌++◌}
use Prim.Native.Nat.{ℕ, ◌≤◌}
use lib.ListN.{length, take}
use Rattle.lists.specs.Machine.{AnsweredBy}
use Rattle.lists.specs.Choice.{Exactly}
use Rattle.answer.specs.Answer.{result}
use Rattle.framing.specs.Reference.{Call, reference}
use Rattle.framing.specs.Demand3.{feed, Demand3}
use Rattle.framing.proofs.Chunk.{candidate_told}
use Rattle.framing.proofs.Table.{last_judged}
use Rattle.coscom.specs.Flags.{start_flag, stop_flag}
use Rattle.coscom.specs.Packet.{Packet, wire_of}
use Rattle.coscom.specs.Verdict.{Verdict, verdict}
use Rattle.coscom.specs.Conditions.{Proper, Terminated, Judged}
use Rattle.coscom.proofs.Table.{verdict_by_table}
use Rattle.coscom.proofs.RoundTrip.{written_sound, reads_back}
use Rattle.coscom.proofs.Calls.{CalledWrite, call_wire}
use Rattle.coscom_line.specs.Outcome.{Outcome, judged}
use Rattle.coscom_line.specs.Reader.{coscom, AsNew}
use Rattle.coscom_line.specs.Chunk.{by_byte, told_alone}
use Rattle.coscom_line.proofs.ChunkCalls.{CalledOn, chunks_demand_3}

module _ (p : Packet) (proper : Proper p) (short : length (wire_of p) ≤ 256) where
  -- The bytes of a packet that may be written are answered with nothing, but for the last, which is answered with that
  -- packet.
  pub reference_told_packet : reference coscom (feed (wire_of p)) ≡ told_alone p
  reference_told_packet =
      let t = (written_sound p proper short).slice.candidate in
      subst (λ (w : List ℕ). reference coscom (feed w) ≡ by_byte (length w) (judged (verdict w))) (sym t.shape)
      (candidate_told coscom start_flag stop_flag refl refl t.body t.inside)
      ∙ ap (λ (v : Verdict). by_byte (length (wire_of p)) (judged v)) (reads_back p proper short)

  -- So are calls in a row, in any form, on a reader that is as new.
  pub written_told : {outcomes : List Outcome} → AnsweredBy CalledOn AsNew (feed (wire_of p)) outcomes
      → outcomes ≡ told_alone p
  written_told {outcomes} k = chunks_demand_3.same (feed (wire_of p)) outcomes k ∙ reference_told_packet

-- What a call wrote, given in whichever calls to a reader that is as new, is told as that packet and nothing else.
pub call_written_told : {p : Packet} {out last : List ℕ} {n : ℕ} {outcomes : List Outcome}
    → CalledWrite p out (result n) last → AnsweredBy CalledOn AsNew (feed (take n last)) outcomes
    → outcomes ≡ told_alone p
call_written_told {p} {out} {last} {n} {outcomes} k t =
    let w = call_wire k in
    chunks_demand_3.same (feed (take n last)) outcomes t
    ∙ ap (λ (l : List ℕ). reference coscom (feed l)) w.0 ∙ reference_told_packet p w.2 w.1

-- ---- any whole candidate

-- Whatever calls came before, what keeps demand 3 tells of the last byte of a whole candidate exactly what the table
-- says of the slice that it is.
pub demanded_judged : (answered : List Call → List Outcome → Type 0) → Demand3 coscom answered → (calls : List Call)
    (w : List ℕ) (earlier : List Outcome) (last : Outcome) → Terminated w
    → answered (calls ++ feed w) (earlier ++ last ∷ []) → (v : Verdict) → Exactly (last ≡ judged v) (Judged w v)
demanded_judged answered d calls w earlier last t k v =
    let q : last ≡ judged (verdict w) =
    last_judged coscom answered d start_flag stop_flag refl refl calls t.body t.inside earlier last
    (subst (λ (x : List ℕ). answered (calls ++ feed x) (earlier ++ last ∷ [])) t.shape k)
    ∙ ap (λ (x : List ℕ). judged (verdict x)) (sym t.shape) in (
      (λ a. (verdict_by_table w v).0 (let z : judged (verdict w) ≡ judged v = sym q ∙ a in cc)),
      (λ j. q ∙ ap judged ((verdict_by_table w v).1 j)),
    )

-- So do calls in a row, in any form, on a reader that is as new.
pub candidate_judged : (calls : List Call) (w : List ℕ) (earlier : List Outcome) (last : Outcome) → Terminated w
    → AnsweredBy CalledOn AsNew (calls ++ feed w) (earlier ++ last ∷ []) → (v : Verdict)
    → Exactly (last ≡ judged v) (Judged w v)
candidate_judged = demanded_judged (AnsweredBy CalledOn AsNew) chunks_demand_3
