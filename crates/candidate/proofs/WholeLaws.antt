-- Laws of a candidate that stands whole in a chunk: what its bytes give that are fed singly, and what a slice that is
-- read into the array leaves there.
use mathlib.Core.Path.{◌≡◌, refl, sym, ap, ap₂, ◌∙◌, subst}
use mathlib.Core.Logic.{inl, inr}
use mathlib.Core.Bool.{true}
use mathlib.Core.List.{List, [], ◌∷◌, ◌++◌, append_assoc}
use native.Mathlib.Omega.{arith}
use lib.Dec.{leb, ltb}
use lib.ListN.{length, get_or, take, drop, length-drop, length-append}
use lib.Seq.{drop-drop, drop-append-le, take_at, take-take, length-take-le}
use Prim.Native.Nat.{ℕ, ◌+◌, ◌-◌, ◌≤◌, ◌<◌}
use borrow.Author.Tests.{le-leb, lt-leb, ltb-true, ltb-false}
use Rattle.lists.specs.Choice.{none_of, count_before}
use Rattle.lists.specs.Splice.{splice, copied}
use Rattle.lists.proofs.Cases.{by_bool}
use Rattle.lists.proofs.Lists.{drop-take}
use Rattle.lists.proofs.Splices.{splice_next, length-splice, copied_fits}
use Rattle.answer.specs.Answer.{Answer, result, refused}
use Rattle.answer.specs.Draft.{draft_out}
use Rattle.framing.specs.Counting.{start_in}
use Rattle.framing.proofs.Counting.{start_append, start_opens}
use Rattle.framing.specs.Chunk.{FedTurn, fed_turn, later_by, fed_by}
use Rattle.framing.proofs.Chunk.{fed_run}
use Rattle.framing.proofs.Growth.{held_run}
use Rattle.frame.specs.Flags.{start_flag, stop_flag, is_start, is_flag, candidate_of, role_of}
use Rattle.frame.specs.Frame.{Frame, standard, extended, contents_of}
use Rattle.frame.specs.Verdict.{Verdict, verdict, body_of}
use Rattle.frame.specs.Origin.{admit}
use Rattle.frame.specs.Leading.{is_stop_at, leading_count}
use Rattle.frame.specs.Answers.{FrameOutline, judge_answer, read_answer, read_out, left_in}
use Rattle.frame.specs.declared.Origin.{Origin}
use Rattle.frame.specs.declared.Kind.{Kind}
use Rattle.frame.specs.declared.Kind.TheVariants.{Standard, Extended}
use Rattle.frame.proofs.FlagLaws.{start_role, flagless_free}
use Rattle.frame.proofs.VerdictLaws.{whole_body}
use Rattle.frame.proofs.ContentsLaws.{admitted_shrinks}
use Rattle.frame.proofs.OriginLaws.{admit_refused}
use Rattle.frame.proofs.LeadingLaws.{leading_kind, leading_body, leading_rest, leads, leading_clear}
use Rattle.frame.proofs.LeadingLaws.{leading_count_lem, leading_wire, leading_some, verdict_none}
use Rattle.std.specs.Prelude.{Option, None, Some}
use Rattle.framing.specs.Bounded.{BoundedReader, bounded, bounded_turn}
use Rattle.framing.specs.Held.{with_plain}
use Rattle.framing.specs.Fed.{feed_of, StandsWhole, WholeIs, whole_taken}
use Rattle.framing.specs.declared.Mode.TheVariants.{Outside, Inside}
use Rattle.framing.specs.declared.Whole.{Whole}
use Rattle.framing.proofs.FedLaws.{quiet_byte}
use Rattle.framing.proofs.RunLaws.{candidate_grows}
use Rattle.frame.proofs.FlagLaws.{no_flag}
use Rattle.candidate.specs.Outcome.{Outcome, nothing, judged, tells, capacity, told_means, summary_of}
use Rattle.candidate.specs.Rowing.{rowing, rowing_bounds, whole_count}
use Rattle.candidate.specs.Feed.{is_answer}
use Rattle.candidate.specs.Private.{contents_count, left_by_whole, Judges}
use Rattle.frame.specs.declared.Outline.{Outline}

-- ---- a slice that is read into the array

-- There is room for the contents, so reading answers what judging does.
pub read_judges : (o : Origin) (w : List ℕ) (room : ℕ) → capacity ≤ room
    → read_answer (admit o (verdict w)) room ≡ judge_answer (admit o (verdict w))
unfolding read_answer judge_answer
read_judges o w room h = of_verdict (admit o (verdict w)) refl
  where
    of_verdict : (v : Verdict) → admit o (verdict w) ≡ v → read_answer v room ≡ judge_answer v
    of_verdict (refused n) e = refl
    of_verdict (result f) e =
        let k = admitted_shrinks o w f e in
        let l : length (contents_of f) ≤ room = omega (arith, k.0, k.1) in
        simp (le-leb (length (contents_of f)) room l)

-- The contents are no more than the bytes between the flags.
pub count_inside : (o : Origin) (w : List ℕ) → contents_count (judge_answer (admit o (verdict w))) ≤ length (body_of w)
unfolding judge_answer contents_of
count_inside o w = of_verdict (admit o (verdict w)) refl
  where
    of_verdict : (v : Verdict) → admit o (verdict w) ≡ v → contents_count (judge_answer v) ≤ length (body_of w)
    of_verdict (refused n) e = omega arith
    of_verdict (result (standard c)) e = omega (arith, (admitted_shrinks o w (standard c) e).0)
    of_verdict (result (extended to from c)) e = omega (arith, (admitted_shrinks o w (extended to from c) e).0)

count_of : (f : Frame) → contents_count (judge_answer (result f)) ≡ length (contents_of f)
unfolding judge_answer contents_of
count_of (standard c) = refl
count_of (extended to from c) = refl

-- What reading leaves, with the bytes between the flags put behind the contents.
pub left_filled : (v : Verdict) (out body last : List ℕ) (n : ℕ) → n ≡ contents_count (judge_answer v)
    → n ≤ length body → length body ≤ length out
    → last ≡ copied (read_out v out) n (drop n body) → last ≡ left_in v (splice out 0 body)
unfolding judge_answer read_out draft_out left_in
left_filled (refused m) out body last n e i h k =
    copied_fits body out last 0 (omega arith) (k ∙ ap (λ (j : ℕ). copied out j (drop j body)) e)
left_filled (result f) out body last n e i h k =
    let c : List ℕ = contents_of f in
    let en : n ≡ length c = e ∙ count_of f in
    let z : 0 + length c ≡ length c = omega arith in
    let room : 0 + length c ≤ length out = omega arith in
    let first : read_out (result f) out ≡ splice out 0 c =
    simp (le-leb (length c) (length out) (omega arith)) (ap (λ (m : ℕ). c ++ drop m out) (sym z)) in
    let all : length (read_out (result f) out) ≡ length out = ap length first ∙ length-splice out 0 c room in
    let rest = drop n body in
    let put = copied_fits rest (read_out (result f) out) last n (omega (arith, all, length-drop n body)) k in
    let width : 0 + length (c ++ rest) ≡ 0 + length body =
    omega (arith, length-append c rest, length-drop n body, en) in
    let past = drop (0 + length body) out in
    splice_next out 0 c rest n room first (omega arith) put
    ∙ append_assoc c rest (drop (0 + length (c ++ rest)) out)
    ∙ ap (λ (m : ℕ). c ++ (rest ++ drop m out)) width
    ∙ ap (λ (l : List ℕ). c ++ l) (sym (drop-append-le n body past i))
    ∙ ap (λ (m : ℕ). c ++ drop m (body ++ past)) en

-- how many bytes stand between the flags
body_count : (w : List ℕ) → 2 ≤ length w → length (body_of w) ≡ length w - 2
body_count w h = length-take-le (length w - 2) (drop 1 w) (omega (arith, length-drop 1 w))

-- the call that reads a slice w of an origin, by what it answers and how many contents bytes that tells of
module _ (o : Origin) (w bytes : List ℕ) (some : 2 ≤ length w) (short : length w ≤ 120)
    (array : length bytes ≡ capacity) (a : Answer FrameOutline)
    (answers : a ≡ read_answer (admit o (verdict w)) (length bytes)) (n : ℕ) (counts : n ≡ contents_count a) where
  pub slice_judged : a ≡ judge_answer (admit o (verdict w))
  slice_judged = answers ∙ read_judges o w (length bytes) (omega arith)

  body_counts : n ≤ length (body_of w)
  body_counts = omega (arith, counts, ap contents_count slice_judged, count_inside o w)

  pub slice_inside : n + 2 ≤ length w
  slice_inside = omega (arith, body_counts, body_count w some)

  -- the bytes between the flags after as many as the contents have, as the code takes them
  body_rest : take (length w - 1 - (n + 1)) (drop (n + 1) w) ≡ drop n (body_of w)
  body_rest =
      let k = length w - 2 - n in
      let m : length w - 1 - (n + 1) ≡ k = omega arith in
      let i : n + k ≡ length w - 2 = omega (arith, slice_inside) in
      let j : 1 + n ≡ n + 1 = omega arith in
      ap₂ (λ (x : ℕ) (l : List ℕ). take x l) m (sym (drop-drop n 1 w ∙ ap (λ (x : ℕ). drop x w) j))
      ∙ sym (drop-take n k (drop 1 w) (omega (arith, slice_inside, length-drop 1 w)))
      ∙ ap (λ (x : ℕ). drop n (take x (drop 1 w))) i

  pub slice_left : (read last : List ℕ) → read ≡ read_out (admit o (verdict w)) bytes
      → last ≡ copied read n (take (length w - 1 - (n + 1)) (drop (n + 1) w)) → last ≡ left_by_whole o bytes w
  slice_left read last e k =
      left_filled (admit o (verdict w)) bytes (body_of w) last n (counts ∙ ap contents_count slice_judged) body_counts
      (omega (arith, body_count w some))
      (k ∙ ap₂ (λ (x y : List ℕ). copied x n y) e body_rest)

-- ---- its bytes, fed singly

module _ (o : Origin) where
  -- fed to a bounded reader
  abbrev fed : BoundedReader Kind → List ℕ → FedTurn (BoundedReader Kind) Outcome
  fed r s = feed_of (rowing o) (rowing_bounds o) is_answer r s

  module _ (bytes : List ℕ) (array : length bytes ≡ capacity) (len : ℕ) (body rest : List ℕ)
      (room : length body ≤ capacity) (clear : none_of is_flag body ≡ true) where
    -- the candidate's stop flag, where its bytes are held
    abbrev held : List ℕ
    held = splice bytes 0 body

    held_first : take (0 + length body) held ≡ body
    held_first = take_at body (drop (0 + length body) bytes) (0 + length body) (omega arith)

    at_stop : (kind : Kind)
        → fed (bounded held (0 + length body) (Inside kind)) (stop_flag ∷ rest)
        ≡ fed_turn (judged (admit o (verdict (candidate_of kind (take (0 + length body) held)))))
        (bounded (left_in (admit o (verdict (candidate_of kind (take (0 + length body) held)))) held) 0 Outside) 1
    unfolding fed_by
    at_stop kind = refl

    at_start : (kind : Kind) (s : List ℕ)
        → fed (bounded bytes len Outside) (start_flag kind ∷ s) ≡ later_by 1 (fed (bounded bytes 0 (Inside kind)) s)
    unfolding fed_by
    at_start Standard s = refl
    at_start Extended s = refl

    -- the turn that judges the candidate
    abbrev judged_turn : List ℕ → ℕ → FedTurn (BoundedReader Kind) Outcome
    judged_turn wire taken =
        fed_turn (judged (admit o (verdict wire))) (bounded (left_in (admit o (verdict wire)) held) 0 Outside) taken

    candidate_fed : (kind : Kind)
        → fed (bounded bytes len Outside) (start_flag kind ∷ (body ++ stop_flag ∷ rest))
        ≡ judged_turn (candidate_of kind body) (length body + 2)
    candidate_fed kind =
        let m = Inside kind in
        let n : 1 + (length body + 1) ≡ length body + 2 = omega arith in
        at_start kind (body ++ stop_flag ∷ rest)
        ∙ ap (later_by 1) (fed_run nothing is_answer (bounded_turn (rowing o) (rowing_bounds o)) is_flag (with_plain capacity)
        (quiet_byte (rowing o) (rowing_bounds o) is_answer refl is_flag no_flag capacity refl) body (stop_flag ∷ rest)
        (bounded bytes 0 m) clear
        ∙ ap (λ (u : BoundedReader Kind). later_by (length body) (fed u (stop_flag ∷ rest)))
        (held_run (candidate_grows capacity kind) body bytes 0 array (omega arith))
        ∙ ap (later_by (length body)) (at_stop kind))
        ∙ ap₂ (λ (l : List ℕ) (k : ℕ). judged_turn (candidate_of kind l) k) held_first n

-- ---- at the beginning of bytes

-- what a count that is not 0 tells
leading_found : (s : List ℕ) → 0 < leading_count s
    → (is_start (get_or s 0 0) ≡ true) × (is_stop_at (drop 1 s) (count_before is_flag (drop 1 s)) ≡ true)
unfolding leading_count
leading_found s h =
    by_bool (is_start (get_or s 0 0))
    (λ y. by_bool (is_stop_at (drop 1 s) (count_before is_flag (drop 1 s)))
    (λ z. (y, z))
    (λ z. let q : 0 < 0 = simp (y, z) at h in absurd (omega arith)))
    (λ n. let q : 0 < 0 = simp n at h in absurd (omega arith))

-- its bytes between the flags fit in the array
leading_short : (s : List ℕ) (starts : is_start (get_or s 0 0) ≡ true)
    (stops : is_stop_at (drop 1 s) (count_before is_flag (drop 1 s)) ≡ true)
    → leading_count s ≤ 120 → length (leading_body s starts stops) ≤ capacity
leading_short s starts stops h = omega (arith, leading_count_lem s starts stops)

-- The candidate is judged at its stop flag, and the array is left as the code leaves it.
whole_fed : (o : Origin) (bytes : List ℕ) → length bytes ≡ capacity → (len : ℕ) (s : List ℕ) → 0 < leading_count s
    → leading_count s ≤ 120 → fed o (bounded bytes len Outside) s
    ≡ fed_turn (judged (admit o (verdict (take (leading_count s) s))))
    (bounded (left_by_whole o bytes (take (leading_count s) s)) 0 Outside) (leading_count s)
whole_fed o bytes array len s h most =
    let f = leading_found s h in
    let body = leading_body s f.0 f.1 in
    let kind = leading_kind s f.0 f.1 in
    let after = leading_rest s f.0 f.1 in
    let count = leading_count_lem s f.0 f.1 in
    let wire : take (leading_count s) s ≡ candidate_of kind body =
    ap (λ (n : ℕ). take n s) (sym (leading_some s f.0)) ∙ leading_wire s f.0 f.1 in
    let room = leading_short s f.0 f.1 most in
    let clear = leading_clear s f.0 f.1 in
    let same : body ≡ body_of (take (leading_count s) s) = sym (ap body_of wire ∙ whole_body kind body) in
    ap (fed o (bounded bytes len Outside)) (leads s f.0 f.1)
    ∙ candidate_fed o bytes array len body after room clear kind
    ∙ ap₂ (judged_turn o bytes array len body after room clear) (sym wire) (sym count)
    ∙ ap (λ (l : List ℕ). fed_turn (judged (admit o (verdict (take (leading_count s) s))))
    (bounded (left_in (admit o (verdict (take (leading_count s) s))) (splice bytes 0 l)) 0 Outside) (leading_count s)) same

-- its start flag is the last one of its bytes, with the stop flag or without it
whole_start : (s : List ℕ) (start count : ℕ) → 0 < leading_count s
    → (start_in role_of start count (take (leading_count s - 1) s) ≡ count)
    × (start_in role_of start count (take (leading_count s) s) ≡ count)
whole_start s start count h =
    let f = leading_found s h in
    let body = leading_body s f.0 f.1 in
    let kind = leading_kind s f.0 f.1 in
    let after = leading_rest s f.0 f.1 in
    let n : leading_count s - 1 ≡ 1 + length body = omega (arith, leading_count_lem s f.0 f.1) in
    let free = flagless_free body (leading_clear s f.0 f.1) in
    let opens = start_opens role_of start count (start_flag kind) body (start_role kind) free in
    let first : take (leading_count s - 1) s ≡ start_flag kind ∷ body =
    ap₂ take n (leads s f.0 f.1)
    ∙ take_at (start_flag kind ∷ body) (stop_flag ∷ after) (1 + length body) (omega arith) in
    let wire : take (leading_count s) s ≡ candidate_of kind body =
    ap (λ (n : ℕ). take n s) (sym (leading_some s f.0)) ∙ leading_wire s f.0 f.1 in (
      ap (start_in role_of start count) first ∙ opens,
      ap (start_in role_of start count) wire
          ∙ start_append role_of start count (start_flag kind ∷ body) (stop_flag ∷ []) ∙ opens,
    )

-- no more bytes than there are
leading_fits : (s : List ℕ) → leading_count s ≤ length s
leading_fits s =
    by_bool (ltb 0 (leading_count s))
    (λ y. let f = leading_found s (ltb-true 0 (leading_count s) y) in
    omega (arith, leading_count_lem s f.0 f.1, ap length (leads s f.0 f.1), length-append (leading_body s f.0 f.1) (stop_flag ∷ leading_rest s f.0 f.1)))
    (λ n. omega (arith, ltb-false 0 (leading_count s) n))

-- the call that reads it, by what it answers and how many contents bytes that tells of
module _ (o : Origin) (s bytes : List ℕ) (array : length bytes ≡ capacity) (taken : ℕ)
    (count : taken ≡ leading_count s) (found : 0 < taken) (short : taken ≤ 120) (a : Answer FrameOutline)
    (answers : a ≡ read_answer (admit o (verdict (take taken s))) (length bytes)) (n : ℕ)
    (counts : n ≡ contents_count a) where
  abbrev wire : List ℕ
  wire = take taken s

  wire_length : (length wire ≡ taken) × (2 ≤ length wire) × (length wire ≤ 120)
  wire_length =
      let f = leading_found s (subst (λ (k : ℕ). 0 < k) count found) in
      let c = leading_count_lem s f.0 f.1 in
      let l : length wire ≡ taken = length-take-le taken s (omega (arith, count, leading_fits s)) in
      (l, omega (arith, l, count, c), omega (arith, l))

  pub wire_judged : a ≡ judge_answer (admit o (verdict wire))
  wire_judged = slice_judged o wire bytes wire_length.1 wire_length.2 array a answers n counts

  pub wire_inside : (n + 2 ≤ taken) × (taken ≤ length s)
  wire_inside =
      let k = slice_inside o wire bytes wire_length.1 wire_length.2 array a answers n counts in
      (omega (arith, k, wire_length.0), omega (arith, count, leading_fits s))

  -- the bytes behind the contents, as the code takes them
  behind : take (taken - 1 - (n + 1)) (drop (n + 1) s) ≡ take (length wire - 1 - (n + 1)) (drop (n + 1) wire)
  behind =
      let k = taken - (n + 1) in
      let i : n + 1 + k ≡ taken = omega (arith, wire_inside.0) in
      let m : taken - 1 - (n + 1) ≡ length wire - 1 - (n + 1) = omega (arith, wire_length.0) in
      sym (take-take (taken - 1 - (n + 1)) k (drop (n + 1) s) (omega arith))
      ∙ ap₂ take m
      (sym (drop-take (n + 1) k s (omega (arith, i, wire_inside.1))) ∙ ap (λ (x : ℕ). drop (n + 1) (take x s)) i)

  pub wire_left : (read last : List ℕ) → read ≡ read_out (admit o (verdict wire)) bytes
      → last ≡ copied read n (take (taken - 1 - (n + 1)) (drop (n + 1) s)) → last ≡ left_by_whole o bytes wire
  wire_left read last e k =
      slice_left o wire bytes wire_length.1 wire_length.2 array a answers n counts read last e
      (k ∙ ap (copied read n) behind)

-- where there is none, nothing is left in the array
pub none_left : (o : Origin) (s bytes last : List ℕ) (taken : ℕ) → taken ≡ 0
    → last ≡ read_out (admit o (verdict (take taken s))) bytes → last ≡ bytes
unfolding read_out draft_out
none_left o s bytes last taken z e =
    e ∙ ap (λ (n : ℕ). read_out (admit o (verdict (take n s))) bytes) z
    ∙ ap (λ (v : Verdict). read_out v bytes) (admit_refused o (verdict []) 6 verdict_none)

-- a candidate of more than 120 bytes is no frame, so nothing is left of it either
pub long_left : (o : Origin) (s bytes last : List ℕ) (taken : ℕ) → taken ≡ leading_count s → 120 < taken
    → last ≡ read_out (admit o (verdict (take taken s))) bytes → last ≡ bytes
unfolding read_out draft_out
long_left o s bytes last taken count h e = e ∙ of_verdict (admit o (verdict (take taken s))) refl
  where
    of_verdict : (v : Verdict) → admit o (verdict (take taken s)) ≡ v → read_out v bytes ≡ bytes
    of_verdict (refused n) q = refl
    of_verdict (result f) q =
        let w = take taken s in
        let l : length w ≡ taken = length-take-le taken s (omega (arith, count, leading_fits s)) in
        absurd (omega (arith, l, body_count w (omega (arith, l)), (admitted_shrinks o w f q).1))

-- One that was judged as it stands is answered as its bytes are that are fed singly.
pub stands_whole : (o : Origin) (bytes s left : List ℕ) (w : Whole Outline) → Judges o bytes s left (Some w)
    → StandsWhole (rowing o) (rowing_bounds o) (λ told a. told_means told ≡ summary_of a) is_answer bytes left s w
stands_whole o bytes s left w k =
    let n = k.0 in
    let j = k.3 in
    let wire : take w.taken s ≡ take (leading_count s) s = ap (λ (i : ℕ). take i s) n in
    let found : 0 < leading_count s = omega (arith, k.1) in
    let f = λ (len : ℕ). whole_fed o bytes j.array len s found (omega (arith, k.2)) in
    let starts = λ (start count : ℕ). whole_start s start count found in
    record {
      some = k.1;
      within = omega (arith, leading_fits s);
      fed = λ len. record {
        told_is = ap tells j.told_is
            ∙ ap (λ (l : List ℕ). summary_of (judged (admit o (verdict l)))) wire
            ∙ ap (λ (g : FedTurn (BoundedReader Kind) Outcome). summary_of g.answer) (sym (f len));
        next_is = ap (λ (l : List ℕ). bounded l 0 Outside) (j.left_is ∙ ap (left_by_whole o bytes) wire)
            ∙ ap (λ (g : FedTurn (BoundedReader Kind) Outcome). g.next) (sym (f len));
        taken_is = n ∙ ap (λ (g : FedTurn (BoundedReader Kind) Outcome). g.taken) (sym (f len));
      };
      begins = λ start count. ap (λ (i : ℕ). start_in role_of start count (take (i - 1) s)) n ∙ (starts start count).0;
      opens = λ start count. ap (λ (i : ℕ). start_in role_of start count (take i s)) n ∙ (starts start count).1;
    }

pub whole_is : (o : Origin) (bytes s left : List ℕ) (w : Option (Whole Outline)) → Judges o bytes s left w
    → WholeIs (rowing o) (rowing_bounds o) (λ told a. told_means told ≡ summary_of a) is_answer bytes left s w
whole_is o bytes s left None k = k.1
whole_is o bytes s left (Some w) k = stands_whole o bytes s left w k

-- a candidate that the array can hold is judged as it stands
pub whole_counted : (o : Origin) (bytes s left : List ℕ) (w : Option (Whole Outline)) → Judges o bytes s left w
    → whole_taken w ≡ whole_count s
whole_counted o bytes s left None (inl e, k) =
    by_bool (leb (leading_count s) 120) (λ y. sym (simp y e)) (λ y. sym (simp y))
whole_counted o bytes s left None (inr over, k) = sym (simp (lt-leb (leading_count s) 120 over))
whole_counted o bytes s left (Some w) (count, some, short, k) =
    count ∙ sym (simp (le-leb (leading_count s) 120 (omega (arith, count, short))))
