-- Document 02, No. 9, of the line reader's calls, in each form that a caller has: a reader keeps its origin, a live one
-- never tells a standard frame, one of a trace is never answered 17, and otherwise the two origins are answered alike, at
-- the same positions.
use mathlib.Core.Path.{◌≡◌, refl, sym, ap, ◌∙◌, subst}
use mathlib.Core.List.{List, [], ◌∷◌, ◌++◌, map}
use native.Mathlib.Omega.{arith}
use Prim.Native.Nat.{ℕ, ◌+◌, ◌≤◌}
use lib.ListN.{length}
use Rattle.lists.specs.Choice.{Every, EachPair, Exactly}
use Rattle.lists.proofs.Lists.{last_same}
use Rattle.lists.specs.Machine.{run, RanBy, AnsweredBy}
use Rattle.framing.specs.Reference.{Call}
use Rattle.framing.specs.Demand3.{feed}
use Rattle.framing.specs.Located.{Located, unlocated, located, answer_in, located_by, LocatedProtocol}
use Rattle.framing.specs.Located.{located_reference}
use Rattle.framing.specs.LocatedDemand3.{bytes_since_finish, located_told_by}
use Rattle.framing.proofs.LocatedCandidates.{located_judges}
use Rattle.framing.proofs.Counting.{located_told}
use Rattle.answer.specs.Answer.{result, refused}
use Rattle.frame.specs.Flags.{start_flag, stop_flag}
use Rattle.frame.specs.Frame.{standard, extended}
use Rattle.frame.specs.Verdict.{Verdict, verdict}
use Rattle.frame.specs.Origin.{admit}
use Rattle.frame.specs.Conditions.{Terminated, SoundFrame}
use Rattle.frame.specs.declared.Origin.{Origin}
use Rattle.frame.specs.declared.Origin.TheVariants.{Live, Trace}
use Rattle.frame.specs.declared.Kind.TheVariants.{Standard, Extended}
use Rattle.frame.proofs.OriginLaws.{admit_means}
use Rattle.frame.proofs.FlagLaws.{start_role}
use Rattle.frame.proofs.VerdictLaws.{whole_length}
use Rattle.frame.proofs.Unnamed.{not_17, unnamed_verdict}
use Rattle.candidate.specs.Outcome.{Outcome, nothing, judged, NotStandard, Not17}
use Rattle.candidate.specs.Holder.{holder}
use Rattle.candidate.proofs.OutcomeLaws.{every_outcome}
use Rattle.line.specs.Rowing.{most_bytes, located_rowing, outcome_from, UnnamedLive, UnnamedAt}
use Rattle.line.specs.Reader.{origin_of, outcome_at, next_after, AsNew}
use Rattle.line.specs.declared.LineReader.{LineReader}
use Rattle.line.proofs.Calls.{Made}
use Rattle.line.proofs.Consequences.{origin_kept, left_origin, every_run}
use Rattle.line.proofs.ChunkCalls.{CalledOn, chunks_singly, chunks_demand_3}

-- ---- a reader keeps its origin

-- A reader that `new` made has the origin that it was made for.
pub made_origin : {o : Origin} {r : LineReader} → Made o r → origin_of r ≡ o
made_origin k = ap origin_of k

-- Any calls in a row, in any form and order, leave a reader of the origin that it had.
pub calls_keep_origin : {r last : LineReader} {calls : List Call} {outcomes : List (Located Outcome)}
    → RanBy CalledOn r calls outcomes last → origin_of last ≡ origin_of r
calls_keep_origin {r} {last} {calls} k = ap origin_of (chunks_singly k).state_is ∙ left_origin r calls

-- what holds of nothing, of 16, 6 and 2 and of every verdict at an origin holds of every outcome of a reader of it
origin_run : (o : Origin) (P : Outcome → Type 0) → P nothing → P (judged (refused 16)) → P (judged (refused 6))
    → P (judged (refused 2)) → ((w : List ℕ) → P (judged (admit o (verdict w))))
    → (r : LineReader) → origin_of r ≡ o → (calls : List Call)
    → Every (λ (a : Located Outcome). P (answer_in a)) (run outcome_at next_after r calls)
origin_run o P none refuses cut long all =
    every_run P (λ r. origin_of r ≡ o) refuses
    (λ r c e. every_outcome o P none cut long all (holder r.bytes r.state.held) e c)
    (λ r c e. origin_kept r c ∙ e)

-- ---- a live reader tells no standard frame

silence : NotStandard nothing
silence c e = let z : ◌≡◌ {A = ℕ} 0 1 = cc in omega arith

refusal : (n : ℕ) → NotStandard (judged (refused n))
refusal n c e = let z : ◌≡◌ {A = ℕ} 0 1 = cc in omega arith

live_verdict : (v : Verdict) → NotStandard (judged (admit Live v))
live_verdict v c e =
    let q : admit Live v ≡ result (standard c) = cc in
    let k : Standard ≡ Extended = (admit_means Live v (standard c) q).1 refl in
    let z : ◌≡◌ {A = ℕ} 0 1 = cc in omega arith

-- a live reader tells no standard frame, whatever its other fields are
pub live_run : (r : LineReader) → origin_of r ≡ Live → (calls : List Call)
    → Every (λ (a : Located Outcome). NotStandard (answer_in a)) (run outcome_at next_after r calls)
live_run =
    origin_run Live NotStandard silence (refusal 16) (refusal 6) (refusal 2) (λ w. live_verdict (verdict w))

-- No call in a row on a live reader, in whichever form, tells a standard frame.
pub live_calls_named : {r last : LineReader} {calls : List Call} {outcomes : List (Located Outcome)}
    → RanBy CalledOn r calls outcomes last → origin_of r ≡ Live
    → Every (λ (a : Located Outcome). NotStandard (answer_in a)) outcomes
live_calls_named {r} {last} {calls} k live =
    subst (Every (λ (a : Located Outcome). NotStandard (answer_in a))) (sym (chunks_singly k).answers_are)
    (live_run r live calls)

-- So no call in a row on a reader that `new` made for the live line tells one.
pub live_made_named : {r last : LineReader} {calls : List Call} {outcomes : List (Located Outcome)} → Made Live r
    → RanBy CalledOn r calls outcomes last → Every (λ (a : Located Outcome). NotStandard (answer_in a)) outcomes
live_made_named m k = live_calls_named k (made_origin m)

-- ---- a trace is never answered 17

other : (n : ℕ) → (n ≡ 17 → ⊥) → Not17 (judged (refused n))
other n k e = let q : n ≡ 17 = cc in k q

trace_verdict : (w : List ℕ) → Not17 (judged (verdict w))
trace_verdict w e = let q : verdict w ≡ refused 17 = cc in not_17 w q

pub trace_run : (r : LineReader) → origin_of r ≡ Trace → (calls : List Call)
    → Every (λ (a : Located Outcome). Not17 (answer_in a)) (run outcome_at next_after r calls)
trace_run =
    origin_run Trace Not17 (λ e. let z : ◌≡◌ {A = ℕ} 0 1 = cc in omega arith) (other 16 (λ q. omega arith))
    (other 6 (λ q. omega arith)) (other 2 (λ q. omega arith)) trace_verdict

-- No call in a row on a reader of a trace, in whichever form, is answered 17.
pub trace_calls_not_17 : {r last : LineReader} {calls : List Call} {outcomes : List (Located Outcome)}
    → RanBy CalledOn r calls outcomes last → origin_of r ≡ Trace
    → Every (λ (a : Located Outcome). Not17 (answer_in a)) outcomes
trace_calls_not_17 {r} {last} {calls} k e =
    subst (Every (λ (a : Located Outcome). Not17 (answer_in a))) (sym (chunks_singly k).answers_are)
    (trace_run r e calls)

-- ---- otherwise both origins are answered alike

-- the protocol at an origin is that of a trace, each answer as it is at the origin
protocol_from : (o : Origin) → located_told_by (outcome_from o) (located_rowing Trace) ≡ located_rowing o
protocol_from Live = refl
protocol_from Trace = refl

-- The reference decoder's answers at an origin are those to a trace, each as it is at the origin and at its position.
pub reference_from : (o : Origin) (calls : List Call)
    → located_reference (located_rowing o) calls
    ≡ map (located_by (outcome_from o)) (located_reference (located_rowing Trace) calls)
reference_from o calls =
    ap (λ (Q : LocatedProtocol Outcome). located_reference Q calls) (sym (protocol_from o))
    ∙ sym (located_told (outcome_from o) (located_rowing Trace) calls)

-- The same calls on two readers that are as new, one of any origin and one of a trace: each outcome of the first is that
-- of the second as it is at the origin, at the same position. So they differ only live, where a trace tells a standard
-- frame, and there it is 17.
pub origins_alike : (o : Origin) {calls : List Call} {outcomes traced : List (Located Outcome)}
    → AnsweredBy CalledOn (AsNew o) calls outcomes → AnsweredBy CalledOn (AsNew Trace) calls traced
    → outcomes ≡ map (located_by (outcome_from o)) traced
origins_alike o {calls} {outcomes} {traced} k t =
    (chunks_demand_3 o).same calls outcomes k ∙ reference_from o calls
    ∙ ap (map (located_by (outcome_from o))) (sym ((chunks_demand_3 Trace).same calls traced t))

-- an outcome of a trace, and the same as it is on the live line
unnamed_outcome : (a : Outcome) → Not17 a → UnnamedLive (outcome_from Live a) a
unnamed_outcome nothing n = record {
  unnamed = (
    (λ e. let z : ◌≡◌ {A = ℕ} 0 1 = cc in absurd (omega arith)),
    (λ (c, e). let z : ◌≡◌ {A = ℕ} 0 1 = cc in absurd (omega arith)),
  );
  same = λ m. refl;
}
unnamed_outcome (judged (refused k)) n = record {
  unnamed = ((λ e. absurd (n e)), (λ (c, e). let z : ◌≡◌ {A = ℕ} 0 1 = cc in absurd (omega arith)));
  same = λ m. refl;
}
unnamed_outcome (judged (result (standard c))) n = record {
  unnamed = ((λ e. (c, refl)), (λ p. refl));
  same = λ m. absurd (m c refl);
}
unnamed_outcome (judged (result (extended to from c))) n = record {
  unnamed = (
    (λ e. let z : ◌≡◌ {A = ℕ} 0 1 = cc in absurd (omega arith)),
    (λ (d, e). let z : ◌≡◌ {A = ℕ} 0 1 = cc in absurd (omega arith)),
  );
  same = λ m. refl;
}

-- of every call, where the live outcomes are those of a trace as they are at the live line
pub each_unnamed : (outcomes traced : List (Located Outcome)) → outcomes ≡ map (located_by (outcome_from Live)) traced
    → Every (λ (a : Located Outcome). Not17 (answer_in a)) traced → EachPair UnnamedAt outcomes traced
each_unnamed outcomes traced e h =
    subst (λ (l : List (Located Outcome)). EachPair UnnamedAt l traced) (sym e) (each traced h)
  where
    one : (a : Located Outcome) → Not17 (answer_in a) → UnnamedAt (located_by (outcome_from Live) a) a
    one (unlocated o) n = (unnamed_outcome o n, refl)
    one (located position o) n = (unnamed_outcome o n, refl)

    each : (traced : List (Located Outcome)) → Every (λ (a : Located Outcome). Not17 (answer_in a)) traced
        → EachPair UnnamedAt (map (located_by (outcome_from Live)) traced) traced
    each [] h = tt
    each (a ∷ traced) h = (one a h.0, each traced h.1)

-- The same calls on a live reader and on one of a trace, both as new: call by call the live outcome is 17 exactly where
-- that of the trace is a standard frame, and is the same everywhere else.
pub line_17_exactly : {calls : List Call} {outcomes traced : List (Located Outcome)}
    → AnsweredBy CalledOn (AsNew Live) calls outcomes → AnsweredBy CalledOn (AsNew Trace) calls traced
    → EachPair UnnamedAt outcomes traced
line_17_exactly {calls} {outcomes} {traced} k t =
    each_unnamed outcomes traced (origins_alike Live k t) (trace_calls_not_17 t.ran t.made.origin_is)

-- ---- one reader alone

-- What the last outcome is that the located reference decoder gives to any calls and then a whole candidate, where the
-- bytes since the last finish are within the limit.
pub judged_last : (o : Origin) (calls : List Call) (w : List ℕ) → Terminated w
    → bytes_since_finish 0 calls + length w ≤ most_bytes → (earlier : List (Located Outcome)) (last : Located Outcome)
    → earlier ++ last ∷ [] ≡ located_reference (located_rowing o) (calls ++ feed w)
    → Exactly (answer_in last ≡ judged (refused 17)) ((o ≡ Live) × ((c : List ℕ) × SoundFrame Trace w (standard c)))
judged_last o calls w t h earlier last e = (
  (λ q. let j : judged (admit o (verdict w)) ≡ judged (refused 17) = sym is ∙ q in
      let z : admit o (verdict w) ≡ refused 17 = cc in (unnamed_verdict o w).0 z),
  (λ k. is ∙ ap judged ((unnamed_verdict o w).1 k)),
)
  where
    is : answer_in last ≡ judged (admit o (verdict w))
    is =
        let k =
        located_judges (located_rowing o) (start_flag t.kind) t.body stop_flag (start_role t.kind) t.inside refl
        calls (omega (arith, h, ap length t.shape ∙ whole_length t.kind t.body)) in
        ap answer_in (last_same earlier k.0 last _
        (e ∙ ap (λ (u : List ℕ). located_reference (located_rowing o) (calls ++ feed u)) t.shape ∙ k.1))
        ∙ ap (λ (u : List ℕ). judged (admit o (verdict u))) (sym t.shape)

-- Whatever calls came before, in whichever form, the last byte of a whole candidate is answered 17 exactly on the live
-- line, where the candidate is a sound standard frame in a trace. The bytes since the last finish are within the limit.
pub candidate_17_exactly : (o : Origin) (calls : List Call) (w : List ℕ) (earlier : List (Located Outcome))
    (last : Located Outcome)
    → Terminated w → bytes_since_finish 0 calls + length w ≤ most_bytes
    → AnsweredBy CalledOn (AsNew o) (calls ++ feed w) (earlier ++ last ∷ [])
    → Exactly (answer_in last ≡ judged (refused 17)) ((o ≡ Live) × ((c : List ℕ) × SoundFrame Trace w (standard c)))
candidate_17_exactly o calls w earlier last t h k =
    judged_last o calls w t h earlier last ((chunks_demand_3 o).same (calls ++ feed w) (earlier ++ last ∷ []) k)
