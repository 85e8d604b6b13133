-- Document 02, No. 13, of the functions themselves: calls that read a slice or the candidate that one begins with, that
-- judge bytes between flags, and that feed the line by the byte and by the chunk, known by nothing but what the contracts
-- tell a caller. Calls of `trace_exports` are exported ones at the origin of traces.
use Prim.Native.Nat.{ℕ, ◌+◌, ◌≤◌}
use mathlib.Core.Path.{◌≡◌, refl, sym, ap, ap₂, ◌∙◌, subst}
use mathlib.Core.List.{List, ◌∷◌, ◌++◌, map, append_assoc}
use native.Mathlib.Omega.{arith}
use lib.ListN.{length, set, take, length-set, length-append, length-map}
use lib.Seq.{map-set_same, take_at}
use contract.Lifetimes.{Lfts}
use denote.MutBor.{MutBor}
use denote.Ref.{Bor}
use Rattle.lists.specs.Machine.{run, Answered, AnsweredBy, left_after}
use Rattle.lists.proofs.Machines.{run_length}
use Rattle.framing.specs.Reference.{Call, byte, FlagFree}
use Rattle.framing.specs.Demand3.{feed}
use Rattle.framing.specs.Located.{Located, unlocated, located, no_candidate, Counted, counted, new_counted}
use Rattle.framing.specs.Located.{LocatedProtocol, located_answer, located_after, located_reference}
use Rattle.framing.specs.LocatedDemand3.{bytes_since_finish, located_told_by, LocatedDemand3}
use Rattle.framing.proofs.LocatedCandidates.{counted_since, located_around}
use Rattle.answer.specs.Answer.{Answer, result, refused}
use Rattle.std.specs.Prelude.{Result}
use Rattle.answer.specs.declared.Refusal.{Refusal}
use Rattle.frame.specs.Flags.{start_flag, stop_flag, role_of, candidate_of}
use Rattle.frame.specs.Frame.{Frame, extended}
use Rattle.frame.specs.Leading.{leading_count}
use Rattle.frame.specs.Verdict.{Verdict, verdict}
use Rattle.frame.specs.Origin.{admit}
use Rattle.frame.specs.Answers.{FrameOutline, Reads, frame_read, read_means, judge_answer, left_in}
use Rattle.frame.specs.Conditions.{SoundFrame, refused_by, no_room, fits}
use Rattle.frame.specs.declared.Origin.{Origin}
use Rattle.frame.specs.declared.Kind.{Kind}
use Rattle.frame.specs.declared.Leading.{Leading}
use Rattle.frame.specs.declared.Outline.{Outline}
use Rattle.frame.proofs.FlagLaws.{start_role, free_flagless}
use Rattle.frame.proofs.OriginLaws.{admit_means}
use Rattle.frame.proofs.VerdictLaws.{whole_length}
use Rattle.frame.proofs.LeadingLaws.{leading_exactly}
use Rattle.frame.proofs.Table.{accepted_exactly, read_by_table, reads_exactly}
use Rattle.frame.proofs.RoundTrip.{told_sound}
use Rattle.frame.proofs.Calls.{CalledRead, read_first, call_reads}
use Rattle.frame.proofs.judge_array.Reads as judge-array-reads
use Rattle.frame.proofs.read_leading.Reads as read-leading-reads
use Rattle.candidate.specs.Outcome.{Outcome, nothing, judged}
use Rattle.line.specs.Rowing.{most_bytes, located_rowing}
use Rattle.line.specs.Answers.{ValueAnswer, value_answer_of}
use Rattle.line.specs.Reader.{AsNew}
use Rattle.line.proofs.Calls.{Made, Called, demand_3}
use Rattle.line.proofs.ChunkCalls.{CalledOn, chunks_demand_3}
use Rattle.exports.specs.LentLine.{reader_of}
use Rattle.exports.proofs.FrameCalls.{ExportedRead, exported_reads}
use Rattle.exports.proofs.LineCalls.{ExportedLine, exported_demand_3}
use Rattle.damage.specs.Damage.{Part, in_destination, in_source, in_contents, in_checksum, part_at, OneChange}
use Rattle.damage.specs.Damage.{effect_of, effect_at, Shows, Tells, Accepts, Catches, ReadShows, OneAnswer}
use Rattle.damage.proofs.Slices.{shows_as, slice_damaged, verdict_damaged, both_candidates}

-- ---- reading a slice

-- what a call told was sound
was_sound : (p : Origin) (w : List ℕ) (f : Frame) (out : List ℕ) (a : Answer FrameOutline) (last : List ℕ)
    → Reads p w out a last → frame_read a last ≡ result f → SoundFrame p w f
was_sound p w f out a last k = told_sound p w out a last f ((read_by_table p w out a last).0 k)

module _ (p o : Origin) (w : List ℕ) (f : Frame) (i b : ℕ) (c : OneChange w i b) where
  -- one byte of a sound slice is changed, and it is read into any output
  reads_damaged : SoundFrame p w f → (out : List ℕ) (a : Answer FrameOutline) (last : List ℕ)
      → Reads o (set w i b) out a last → ReadShows out a last (effect_at w f i b)
  reads_damaged s out a last k =
      shows_as
      (λ g h. (
        (λ room. (reads_exactly o (set w i b) out a _ last _ k).1 (fits h room)),
        (λ short. (reads_exactly o (set w i b) out a _ last _ k).1 (no_room h short)),
      ))
      (λ j. (reads_exactly o (set w i b) out a _ last _ k).1 (refused_by j))
      (effect_at w f i b) (slice_damaged p o w f i b s c)

  -- One byte of a sound slice is changed, and it is read, from any origin and into any output.
  pub read_damaged : {out last : List ℕ} {a : Answer FrameOutline} → SoundFrame p w f
      → CalledRead o (set w i b) out a last → ReadShows out a last (effect_at w f i b)
  read_damaged {out} {last} {a} s k = reads_damaged s out a last (call_reads k)

  -- A slice was read as a frame. One byte of it is changed, and it is read again.
  pub read_again_damaged : {out last out₀ last₀ : List ℕ} {a a₀ : Answer FrameOutline} → CalledRead p w out₀ a₀ last₀
      → frame_read a₀ last₀ ≡ result f → CalledRead o (set w i b) out a last → ReadShows out a last (effect_at w f i b)
  read_again_damaged {out} {last} {out₀} {last₀} {a} {a₀} k e l =
      read_damaged (was_sound p w f out₀ a₀ last₀ (call_reads k) e) l

  -- The same of the exported calls.
  pub exported_read_damaged : {out last : List ℕ} {a : Answer FrameOutline} → SoundFrame p w f
      → ExportedRead o (set w i b) out a last → ReadShows out a last (effect_at w f i b)
  exported_read_damaged {out} {last} {a} s k = reads_damaged s out a last (exported_reads k)

  pub exported_read_again_damaged : {out last out₀ last₀ : List ℕ} {a a₀ : Answer FrameOutline}
      → ExportedRead p w out₀ a₀ last₀ → frame_read a₀ last₀ ≡ result f → ExportedRead o (set w i b) out a last
      → ReadShows out a last (effect_at w f i b)
  exported_read_again_damaged {out} {last} {out₀} {last₀} {a} {a₀} k e l =
      exported_read_damaged (was_sound p w f out₀ a₀ last₀ (exported_reads k) e) l

  -- A slice begins with the changed candidate, whatever follows it: `read_leading` takes that candidate and answers it as
  -- a call on it alone is answered.
  pub leading_damaged : (κs : Lfts 2) (ρ : Bor (List ℕ)) (out out' : MutBor (List ℕ)) (r : Leading) (rest : List ℕ)
      → read-leading-reads.Learnt κs (o, (ρ, (out, tt))) r (o, (ρ, (out', tt))) → SoundFrame p w f
      → ρ.now ≡ set w i b ++ rest
      → (r.taken ≡ length w) × ReadShows out.now (read_means r.read) out'.now (effect_at w f i b)
  leading_damaged κs ρ out out' r rest k s e =
      let m = both_candidates p w f i b s c in
      let body = set m.body m.index b in
      let taken : r.taken ≡ length (set w i b) =
      k.0 ∙ ap leading_count (e ∙ ap (λ (v : List ℕ). v ++ rest) m.shape_after)
      ∙ leading_exactly m.kind body rest (free_flagless body m.free_after)
      ∙ sym (ap length m.shape_after ∙ whole_length m.kind body) in
      let first : take r.taken ρ.now ≡ set w i b =
      ap (take r.taken) e ∙ take_at (set w i b) rest r.taken (sym taken) in (
        taken ∙ length-set w i b,
        read_damaged s (subst (λ (v : List ℕ). CalledRead o v out.now (read_means r.read) out'.now) first
            (read_first r κs ρ out out' k)),
      )

  -- The bytes between the flags of the changed candidate, judged in place.
  pub judged_damaged : (κs : Lfts 1) (kind : Kind) (ρ ρ' : MutBor (List ℕ)) (len : ℕ) (r : Result Outline Refusal)
      → judge-array-reads.Learnt κs (o, (kind, (ρ, (len, tt)))) r (o, (kind, (ρ', (len, tt)))) → SoundFrame p w f
      → set w i b ≡ candidate_of kind (take len ρ.now)
      → Shows (λ (g : Frame). Tells g ρ.now (read_means r) ρ'.now) (Catches ρ.now (read_means r) ρ'.now)
      (effect_at w f i b)
  unfolding judge_answer left_in
  judged_damaged κs kind ρ ρ' len r k s e =
      let is : (v : Verdict) → admit o (verdict (set w i b)) ≡ v
      → admit o (verdict (candidate_of kind (take len ρ.now))) ≡ v =
      λ v h. ap (λ (l : List ℕ). admit o (verdict l)) (sym e) ∙ h in
      shows_as
      (λ g h. (
        k.0 ∙ ap judge_answer (is (result g) h),
        k.1 ∙ ap (λ (v : Verdict). left_in v ρ.now) (is (result g) h),
      ))
      (λ h. (
        k.0 ∙ ap judge_answer (is (refused 5) h),
        k.1 ∙ ap (λ (v : Verdict). left_in v ρ.now) (is (refused 5) h),
      ))
      (effect_at w f i b) (verdict_damaged p o w f i b s c)

-- ---- the same, part by part

module _ (p o : Origin) (w : List ℕ) (i b : ℕ) (c : OneChange w i b) {out last : List ℕ} {a : Answer FrameOutline}
    (k : CalledRead o (set w i b) out a last) where
  -- the effect at a place that is known
  at_part : (f : Frame) (part : Part) → SoundFrame p w f → part_at w i ≡ part → ReadShows out a last (effect_of part f b)
  at_part f part s e =
      subst (λ (q : Part). ReadShows out a last (effect_of q f b)) e (read_damaged p o w f i b c s k)

  -- In the contents, and in the checksum, the change is answered 5.
  pub contents_caught : (f : Frame) → SoundFrame p w f → part_at w i ≡ in_contents → (a ≡ refused 5) × (last ≡ out)
  contents_caught f s e = at_part f in_contents s e

  pub checksum_caught : (f : Frame) → SoundFrame p w f → part_at w i ≡ in_checksum → (a ≡ refused 5) × (last ≡ out)
  checksum_caught f s e = at_part f in_checksum s e

  -- A changed destination is told as the destination, and a changed source as the source.
  pub destination_told : (to from : ℕ) (contents : List ℕ) → SoundFrame p w (extended to from contents)
      → part_at w i ≡ in_destination → Accepts (extended b from contents) out a last
  destination_told to from contents s e = at_part (extended to from contents) in_destination s e

  pub source_told : (to from : ℕ) (contents : List ℕ) → SoundFrame p w (extended to from contents)
      → part_at w i ≡ in_source → Accepts (extended to b contents) out a last
  source_told to from contents s e = at_part (extended to from contents) in_source s e

-- ---- the line

module _ {A : Type 0} (tell : Outcome → A) (o : Origin) (answered : List Call → List (Located A) → Type 0)
    (d : LocatedDemand3 (located_told_by tell (located_rowing o)) answered) (before later : List Call) where
  abbrev Q : LocatedProtocol A
  Q = located_told_by tell (located_rowing o)

  -- the decoder after the first row of calls, its answer to the start flag of a candidate, and those before the stop flag
  abbrev ready : Counted
  ready = left_after (located_after Q) new_counted before

  abbrev at_start : Kind → Located A
  at_start kind = located_answer Q ready (byte (start_flag kind))

  abbrev silence : List ℕ → List (Located A)
  silence body = map (λ (x : ℕ). unlocated (tell nothing)) body

  abbrev up_to_stop : Kind → List ℕ → List (Located A)
  up_to_stop kind body = located_reference Q before ++ at_start kind ∷ silence body

  -- its answers after as many bytes more, where none is open
  abbrev afterwards : ℕ → List (Located A)
  afterwards n = run (located_answer Q) (located_after Q) (counted no_candidate (ready.count + n)) later

  around : (kind : Kind) (body w : List ℕ) → w ≡ candidate_of kind body → FlagFree role_of body
      → bytes_since_finish 0 before + length w ≤ most_bytes → (answers : List (Located A))
      → answered (before ++ (feed w ++ later)) answers
      → answers ≡ up_to_stop kind body
      ++ located (bytes_since_finish 0 before) (tell (judged (admit o (verdict w)))) ∷ afterwards (length body + 2)
  around kind body w shape inside within answers k =
      let n : ready.count ≡ bytes_since_finish 0 before = counted_since Q before (omega arith) in
      let fits : ready.count + (length body + 2) ≤ most_bytes =
      omega (arith, n, ap length shape ∙ whole_length kind body) in
      d.same (before ++ (feed w ++ later)) answers k
      ∙ ap (λ (v : List ℕ). located_reference Q (before ++ (feed v ++ later))) shape
      ∙ located_around Q (start_flag kind) body stop_flag (start_role kind) inside refl before later fits
      ∙ sym (append_assoc (located_reference Q before) (at_start kind ∷ silence body)
      (located ready.count (tell (judged (admit o (verdict (candidate_of kind body))))) ∷ afterwards (length body + 2)))
      ∙ ap₂ (λ (m : ℕ) (v : List ℕ). up_to_stop kind body ++ located m (tell (judged (admit o (verdict v))))
      ∷ afterwards (length body + 2)) n (sym shape)

  count_to_stop : (kind : Kind) (body w : List ℕ) → w ≡ candidate_of kind body
      → length (up_to_stop kind body) + 1 ≡ length before + length w
  count_to_stop kind body w shape =
      omega (
        arith,
        length-append (located_reference Q before) (at_start kind ∷ silence body),
        run_length (located_answer Q) (located_after Q) new_counted before,
        length-map body (λ (x : ℕ). unlocated (tell nothing)),
        ap length shape ∙ whole_length kind body,
      )

  -- Any calls, a sound frame and any calls, and the same with one byte of the frame changed, each answered as demand 3
  -- says: the answers differ in that to the frame's stop flag alone. The bytes since the last finish, up to the end of the
  -- frame, are within the limit of what a line reader takes.
  pub line_damaged : (p : Origin) (w : List ℕ) (f : Frame) (i b : ℕ) → SoundFrame p w f → OneChange w i b
      → bytes_since_finish 0 before + length w ≤ most_bytes
      → (intact damaged : List (Located A)) → answered (before ++ (feed w ++ later)) intact
      → answered (before ++ (feed (set w i b) ++ later)) damaged
      → OneAnswer tell o before w f i b intact damaged
  line_damaged p w f i b s c within intact damaged k l =
      let m = both_candidates p w f i b s c in
      let told : verdict w ≡ result f = (admit_means p (verdict w) f ((accepted_exactly p w f).1 s)).0 in
      let outcome = judged (admit o (verdict (set w i b))) in
      let position = bytes_since_finish 0 before in
      let rest = afterwards (length m.body + 2) in
      let changed = set m.body m.index b in
      let within_too : bytes_since_finish 0 before + length (set w i b) ≤ most_bytes =
      omega (arith, within, length-set w i b) in
      record {
        earlier = up_to_stop m.kind m.body;
        later = rest;
        outcome = outcome;
        at_stop = count_to_stop m.kind m.body w m.shape_before;
        intact_is = around m.kind m.body w m.shape_before m.free_before within intact k
            ∙ ap (λ (v : Verdict). up_to_stop m.kind m.body ++ located position (tell (judged (admit o v))) ∷ rest)
            told;
        damaged_is = around m.kind changed (set w i b) m.shape_after m.free_after within_too damaged l
            ∙ ap₂ (λ (xs : List (Located A)) (n : ℕ). (located_reference Q before ++ at_start m.kind ∷ xs)
            ++ located position (tell outcome) ∷ afterwards (n + 2))
            (map-set_same (λ (x : ℕ). unlocated (tell nothing)) m.body m.index b 0 refl)
            (length-set m.body m.index b);
        outcome_is = shows_as (λ g e. ap judged e) (λ e. ap judged e) (effect_at w f i b)
            (verdict_damaged p o w f i b s c);
      }

module _ (p o : Origin) (before later : List Call) (w : List ℕ) (f : Frame) (i b : ℕ) (s : SoundFrame p w f)
    (c : OneChange w i b) (within : bytes_since_finish 0 before + length w ≤ most_bytes) where
  -- Calls of `step` and `finish` on readers that `new` made, with all 118 bytes of each answer.
  pub steps_damaged : {intact damaged : List (Located ValueAnswer)}
      → Answered Called (Made o) (before ++ (feed w ++ later)) intact
      → Answered Called (Made o) (before ++ (feed (set w i b) ++ later)) damaged
      → OneAnswer value_answer_of o before w f i b intact damaged
  steps_damaged {intact} {damaged} =
      line_damaged value_answer_of o (Answered Called (Made o)) (demand_3 o) before later p w f i b s c within intact
      damaged

  -- Calls in a row on readers that are as new, by the byte, by the chunk and finishes, in any form and order.
  pub chunks_damaged : {intact damaged : List (Located Outcome)}
      → AnsweredBy CalledOn (AsNew o) (before ++ (feed w ++ later)) intact
      → AnsweredBy CalledOn (AsNew o) (before ++ (feed (set w i b) ++ later)) damaged
      → OneAnswer (λ (a : Outcome). a) o before w f i b intact damaged
  chunks_damaged {intact} {damaged} =
      line_damaged (λ (a : Outcome). a) o (AnsweredBy CalledOn (AsNew o)) (chunks_demand_3 o) before later p w f i b s c
      within intact damaged

  -- The same of the exported calls.
  pub exported_line_damaged : {intact damaged : List (Located Outcome)}
      → AnsweredBy (ExportedLine o) (λ l. AsNew o (reader_of o l)) (before ++ (feed w ++ later)) intact
      → AnsweredBy (ExportedLine o) (λ l. AsNew o (reader_of o l)) (before ++ (feed (set w i b) ++ later)) damaged
      → OneAnswer (λ (a : Outcome). a) o before w f i b intact damaged
  exported_line_damaged {intact} {damaged} =
      line_damaged (λ (a : Outcome). a) o (AnsweredBy (ExportedLine o) (λ l. AsNew o (reader_of o l)))
      (exported_demand_3 o) before later p w f i b s c within intact damaged
