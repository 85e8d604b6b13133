-- Laws of a sound body's contents, copied out or brought to the front of the body itself.
use Rattle.std.proofs.lemmas.List.{take_min}
use borrow.Author.Tests.{leb-true, le-leb}
use lib.ListN.{length-drop, length, get_or, take, drop, length-append, take-append-drop}
use Rattle.frame.specs.Verdict.{judge, judge_bytes, frame_in, address_count, last_of, contents_in, Verdict, body_of}
use Rattle.frame.specs.Verdict.{is_terminated, verdict}
use Rattle.frame.specs.Flags.{kind_of, flagless, candidate_of}
use Rattle.answer.specs.Answer.{result, refused}
use Prim.Native.Nat.{◌-◌, ℕ, ◌+◌, ◌≤◌, ◌<◌, min}
use lib.Dec.{leb, eqb}
use Rattle.lists.proofs.Cases.{by_bool}
use Rattle.frame.specs.Stuffing.{Unstuffed, bad_escape, bytes, unstuff}
use Rattle.frame.specs.declared.Kind.TheVariants.{Standard, Extended}
use Rattle.frame.proofs.StuffingLaws.{unstuff_shrinks, unstuff_same}
use mathlib.Core.Path.{◌≡◌, sym, ap, ◌∙◌, refl}
use mathlib.Core.Bool.{Bool, true, false}
use mathlib.Core.List.{List, [], ◌∷◌, ◌++◌}
use native.Mathlib.Omega.{arith}
use lib.Seq.{take_at, length-take-le}
use Rattle.lists.specs.Splice.{splice, copied}
use Rattle.lists.specs.Choice.{pick}
use Rattle.lists.proofs.Splices.{splice_nil}
use Rattle.lists.proofs.Lists.{back_in}
use Rattle.frame.specs.Checksum.{checksum}
use Rattle.frame.specs.Frame.{Frame, contents_of, standard, extended, frame_of}
use Rattle.frame.specs.Answers.{left_in, judge_answer, frame_read, read_answer, read_out, outline_with}
use Rattle.frame.specs.Private.{unstuffed_bytes, is_sound, is_escape, last_at, SoundAt, judge_whole}
use Rattle.frame.specs.Origin.{admit}
use Rattle.frame.specs.declared.Origin.{Origin}
use Rattle.frame.specs.declared.Origin.TheVariants.{Live}
use Rattle.frame.specs.declared.Header.TheVariants.{Plain}
use Rattle.frame.specs.declared.Kind.{Kind}
use Rattle.frame.specs.declared.Header.{Header}
use Rattle.frame.proofs.UndoLaws.{before_last}
use Rattle.frame.proofs.OriginLaws.{admit_means, sound_unnamed}
use Rattle.frame.proofs.VerdictLaws.{contents_of_lem, candidate_verdict, answer_no_room, answer_done, header_as}

-- ---- the stuffed contents and checksum of a sound body

module _ {v : Verdict} {body : List ℕ} {header : Header} {start len : ℕ} (s : SoundAt v body header start len) where
  pub rest_length : length (unstuffed_bytes (unstuff false (drop start body))) ≡ len + 1
  unfolding unstuffed_bytes
  rest_length =
      ap (λ (r : _). length (unstuffed_bytes r)) s.follows ∙ length-append s.contents (checksum s.contents ∷ [])
      ∙ omega (arith, s.counted)

  pub rest_contents : take len (unstuffed_bytes (unstuff false (drop start body))) ≡ s.contents
  unfolding unstuffed_bytes
  rest_contents =
      ap (λ (r : _). take len (unstuffed_bytes r)) s.follows
      ∙ take_at s.contents (checksum s.contents ∷ []) len s.counted

  -- the contents put first in a list, as the code counts them
  pub rest_first : (d last : List ℕ) → last ≡ take len (unstuffed_bytes (unstuff false (drop start body))) ++ drop len d
      → last ≡ contents_of (frame_of header s.contents) ++ drop (length (contents_of (frame_of header s.contents))) d
  rest_first d last e =
      e ∙ ap (λ (l : List ℕ). l ++ drop len d) rest_contents
      ∙ ap (λ (n : ℕ). s.contents ++ drop n d) (sym s.counted)
      ∙ ap (λ (l : List ℕ). l ++ drop (length l) d) (sym (contents_of_lem header s.contents))

  as_many : length (contents_of (frame_of header s.contents)) ≡ len
  as_many = ap length (contents_of_lem header s.contents) ∙ s.counted

  -- what a reader answers and leaves whose verdict is this frame: without room for the contents, and with it
  pub read_no_room : (v : Verdict) (out : List ℕ) → v ≡ result (frame_of header s.contents) → length out < len
      → (refused 1 ≡ read_answer v (length out)) × (out ≡ read_out v out)
  read_no_room v out q h = answer_no_room v _ out q (omega (arith, as_many))

  pub read_first : (v : Verdict) (out last : List ℕ) → v ≡ result (frame_of header s.contents) → len ≤ length out
      → last ≡ take len (unstuffed_bytes (unstuff false (drop start body))) ++ drop len out
      → (result (outline_with header len) ≡ read_answer v (length out)) × (last ≡ read_out v out)
  read_first v out last q h e =
      let done = answer_done v _ out q (omega (arith, as_many)) in
      (header_as header s.contents len s.counted ∙ done.0, rest_first out last e ∙ done.1)

  -- and what a judge in place answers and leaves
  pub judge_first : (d last : List ℕ) → last ≡ take len (unstuffed_bytes (unstuff false (drop start body))) ++ drop len d
      → (result (outline_with header len) ≡ judge_answer v) × (last ≡ left_in v d)
  unfolding judge_answer left_in
  judge_first d last e = (
    header_as header s.contents len s.counted ∙ ap judge_answer (sym s.judged),
    rest_first d last e ∙ ap (λ (w : Verdict). left_in w d) (sym s.judged),
  )

-- ---- bytes without an escape

-- the first of a part that is as long as its unstuffed bytes
pub plain_first : (rest : List ℕ) (len : ℕ) → length (unstuffed_bytes (unstuff false rest)) ≡ len + 1
    → length rest ≡ len + 1 → take len rest ≡ take len (unstuffed_bytes (unstuff false rest))
plain_first rest len n l = ap (take len) (sym (unstuff_same rest (n ∙ sym l)))

-- the same, brought to the front
pub shifted_plain : (s last : List ℕ) (start len : ℕ) → length (unstuffed_bytes (unstuff false (drop start s))) ≡ len + 1
    → length (drop start s) ≡ len + 1
    → last ≡ take len (drop start s) ++ drop len s
    → last ≡ take len (unstuffed_bytes (unstuff false (drop start s))) ++ drop len s
shifted_plain s last start len n l e =
    e ∙ ap (λ (x : List ℕ). x ++ drop len s) (plain_first (drop start s) len n l)

-- ---- bytes with escapes, of which the last unstuffed one is left out

some_bytes : (r : Unstuffed) (len : ℕ) → length (unstuffed_bytes r) ≡ len + 1 → r ≡ bytes (unstuffed_bytes r)
unfolding unstuffed_bytes
some_bytes bad_escape len n = absurd (omega arith)
some_bytes (bytes u) len n = refl

module _ (rest : List ℕ) (len : ℕ) (n : length (unstuffed_bytes (unstuff false rest)) ≡ len + 1)
    (end : ℕ) (is : end ≡ last_at rest) where
  abbrev all : List ℕ
  all = unstuffed_bytes (unstuff false rest)

  some : 1 ≤ length rest
  some = omega (arith, unstuff_shrinks false rest)

  front : unstuff false (take end rest) ≡ bytes (take len all)
  front =
      let m : length all - 1 ≡ len = omega arith in
      ap (λ (k : ℕ). unstuff false (take k rest)) is
      ∙ before_last rest all some (some_bytes (unstuff false rest) len n)
      ∙ ap (λ (k : ℕ). bytes (take k all)) m

  pub front_sound : is_sound (unstuff false (take end rest)) ≡ true
  front_sound = ap is_sound front

  front_bytes : unstuffed_bytes (unstuff false (take end rest)) ≡ take len all
  unfolding unstuffed_bytes
  front_bytes = ap unstuffed_bytes front

  pub front_length : length (unstuffed_bytes (unstuff false (take end rest))) ≡ len
  front_length = ap length front_bytes ∙ length-take-le len all (omega arith)

  pub front_inside : end ≤ length rest
  front_inside =
      by_bool (leb 2 (length rest))
      (λ y. by_bool (is_escape (get_or rest (length rest - 2) 0))
      (λ x. let q : end ≡ length rest - 2 = is ∙ simp (y, x) refl in omega arith)
      (λ x. let q : end ≡ length rest - 1 = is ∙ simp (y, x) refl in omega arith))
      (λ y. let q : end ≡ 0 = is ∙ simp y refl in omega arith)

  pub front_put : (out last : List ℕ) → last ≡ splice out 0 (unstuffed_bytes (unstuff false (take end rest)))
      → last ≡ take len all ++ drop len out
  front_put out last e =
      let m : 0 + length (unstuffed_bytes (unstuff false (take end rest))) ≡ len = omega (arith, front_length) in
      e ∙ ap (λ (k : ℕ). unstuffed_bytes (unstuff false (take end rest)) ++ drop k out) m
      ∙ ap (λ (l : List ℕ). l ++ drop len out) front_bytes

-- ---- what a verdict leaves

pub judge_refused : (v : Verdict) (s : List ℕ) (n : ℕ) → v ≡ refused n → (refused n ≡ judge_answer v) × (s ≡ left_in v s)
unfolding judge_answer left_in
judge_refused v s n q = (ap judge_answer (sym q), ap (λ (w : Verdict). left_in w s) (sym q))

-- A refusal leaves what was judged as it is.
pub told_refused : (v : Verdict) (n : ℕ) → v ≡ refused n → refused n ≡ judge_answer v
told_refused v n q = (judge_refused v [] n q).0

pub left_refused : (v : Verdict) (s : List ℕ) (n : ℕ) → v ≡ refused n → left_in v s ≡ s
left_refused v s n q = sym (judge_refused v s n q).1

-- So does 17, of a sound standard frame on the live line.
pub told_unnamed : (v : Verdict) (body : List ℕ) (start len : ℕ) → SoundAt v body Plain start len
    → refused 17 ≡ judge_answer (admit Live v)
told_unnamed v body start len s = told_refused (admit Live v) 17 (sound_unnamed Live Plain s refl)

pub left_unnamed : (v : Verdict) (body : List ℕ) (start len : ℕ) → SoundAt v body Plain start len
    → left_in (admit Live v) body ≡ body
left_unnamed v body start len s = left_refused (admit Live v) body 17 (sound_unnamed Live Plain s refl)

-- A copy of nothing changes nothing.
pub copied_nothing : (s : List ℕ) → copied s 0 [] ≡ s
copied_nothing s = ap (λ (t : Bool). pick t (splice s 0 []) s) (le-leb 0 (length s) (omega arith)) ∙ splice_nil s 0

-- For a judge in place that refuses. The last three are for one that refuses earlier than ours: where it means the same it is
-- proved too, so that a must-fail edit of that form is refused for what it changes.
pub ruleset refusing = (told_refused, left_refused, told_unnamed, left_unnamed, copied_nothing)

-- the answer of a judge in place, with the bytes that it leaves, tells the whole verdict
pub left_whole : (v : Verdict) (s : List ℕ) → frame_read (judge_answer v) (left_in v s) ≡ v
unfolding judge_answer left_in frame_read contents_of
left_whole (refused n) s = refl
left_whole (result (standard c)) s =
    ap (λ (l : List ℕ). result (standard l)) (take_at c (drop (length c) s) (length c) refl)
left_whole (result (extended to from c)) s =
    ap (λ (l : List ℕ). result (extended to from l)) (take_at c (drop (length c) s) (length c) refl)

-- a part that was judged, in the whole
pub left_part : (v : Verdict) (s last : List ℕ) (n : ℕ) → n ≤ length s → length last ≡ n → last ≡ left_in v (take n s)
    → last ++ drop n s ≡ left_in v s
unfolding left_in
left_part (refused m) s last n h l e = ap (λ (x : List ℕ). x ++ drop n s) e ∙ take-append-drop n s
left_part (result f) s last n h l e =
    back_in s last (contents_of f) n h
    (omega (arith, ap length e, length-append (contents_of f) (drop (length (contents_of f)) (take n s)))) e

-- ---- the length is kept

take_shorter : (n : ℕ) (s : List ℕ) → length (take n s) ≤ length s
take_shorter n s = omega (arith, ap length (take-append-drop n s), length-append (take n s) (drop n s))

-- the contents are fewer than the bytes, of which the last is the checksum
frame_shorter : (kind : Kind) (u : List ℕ) → address_count kind + 1 ≤ length u
    → length (contents_of (frame_in kind u)) < length u
unfolding contents_of frame_in
frame_shorter Standard u h = omega (arith, length-take-le (length u - 1) u (omega arith))
frame_shorter Extended u h =
    omega (arith, length-drop 2 u, length-take-le (length u - 3) (drop 2 u) (omega (arith, length-drop 2 u)))

-- the contents of a body that is accepted are shorter than the body, which is within the limit
judge_shrinks : (kind : Kind) (body : List ℕ) (f : Frame) → judge kind body ≡ result f
    → (length (contents_of f) < length body) × (length body ≤ 118)
unfolding judge judge_bytes unstuffed_bytes
judge_shrinks kind body f e =
    by_bool (leb (length body + 2) 120)
    (λ l. (
      of_bytes (unstuff false body) (simp l at e) (unstuff_shrinks false body),
      omega
          (arith, leb-true (length body + 2) 120 l),
    ))
    (λ l. let q : refused 2 ≡ result f = simp l at e in
    let z : ◌≡◌ {A = ℕ} 0 1 = cc in absurd (omega arith))
  where
    of_bytes : (r : Unstuffed) → judge_bytes kind r ≡ result f → length (unstuffed_bytes r) ≤ length body
        → length (contents_of f) < length body
    of_bytes bad_escape e h = let z : ◌≡◌ {A = ℕ} 0 1 = cc in absurd (omega arith)
    of_bytes (bytes u) e h =
        by_bool (leb (address_count kind + 1) (length u))
        (λ y. by_bool (eqb (last_of u) (checksum (contents_in (address_count kind) u)))
        (λ s. let q : result (frame_in kind u) ≡ result f = simp (y, s) at e in
        let g : frame_in kind u ≡ f = cc in
        omega (arith, frame_shorter kind u (leb-true _ _ y), ap (λ (x : Frame). length (contents_of x)) g))
        (λ s. let q : refused 5 ≡ result f = simp (y, s) at e in
        let z : ◌≡◌ {A = ℕ} 0 1 = cc in absurd (omega arith)))
        (λ y. let q : refused 4 ≡ result f = simp y at e in
        let z : ◌≡◌ {A = ℕ} 0 1 = cc in absurd (omega arith))

-- the contents of accepted bytes are fewer than the bytes
accepted_fits : (o : Origin) (kind : Kind) (n : ℕ) (s : List ℕ) (f : Frame)
    → admit o (verdict (candidate_of kind (take n s))) ≡ result f → length (contents_of f) ≤ length s
accepted_fits o kind n s f e =
    let a = (admit_means o (verdict (candidate_of kind (take n s))) f e).0 in
    let j = judge_shrinks kind (take n s) f (accepted (sym (candidate_verdict kind (take n s)) ∙ a)) in
    omega (arith, j.0, take_shorter n s)
  where
    accepted : judge_whole kind (take n s) ≡ result f → judge kind (take n s) ≡ result f
    accepted e =
        by_bool (flagless (take n s)) (λ y. simp y at e)
        (λ y. let q : refused 6 ≡ result f = simp y at e in cc)

module _ (o : Origin) (kind : Kind) (n : ℕ) (s : List ℕ) where
  abbrev judged : Verdict
  judged = admit o (verdict (candidate_of kind (take n s)))

  -- bytes that were judged in place are as many as they were
  pub left_length : length (left_in (admit o (verdict (candidate_of kind (take n s)))) s) ≡ length s
  unfolding left_in
  left_length = of_verdict judged refl
    where
      of_verdict : (v : Verdict) → judged ≡ v → length (left_in v s) ≡ length s
      of_verdict (refused m) e = refl
      of_verdict (result f) e =
          omega (
            arith,
            length-append (contents_of f) (drop (length (contents_of f)) s),
            length-drop
                (length (contents_of f)) s,
            accepted_fits o kind n s f e,
          )

-- the part that a count of bytes has, which may be more than there are
pub judged_part : (kind : Kind) (s : List ℕ) (len n : ℕ) → n ≡ min len (length s)
    → judge_whole kind (take n s) ≡ verdict (candidate_of kind (take len s))
judged_part kind s len n e =
    ap (judge_whole kind) (ap (λ (k : ℕ). take k s) e ∙ take_min len s) ∙ sym (candidate_verdict kind (take len s))

-- what is left of them stands in the whole
pub left_first : (o : Origin) (kind : Kind) (len n : ℕ) (s last : List ℕ) → n ≡ min len (length s)
    → length last ≡ length (take n s)
    → last ≡ left_in (admit o (judge_whole kind (take n s))) (take n s)
    → last ++ drop n s ≡ left_in (admit o (verdict (candidate_of kind (take len s)))) s
left_first o kind len n s last e l k =
    let h : n ≤ length s = omega (arith, e) in
    left_part _ s last n h (l ∙ length-take-le n s h) k
    ∙ ap (λ (v : Verdict). left_in (admit o v) s) (judged_part kind s len n e)

-- The contents of a frame that is accepted are fewer than the bytes between its flags, which are at most 118.
pub accepted_shrinks : (w : List ℕ) (f : Frame) → verdict w ≡ result f
    → (length (contents_of f) < length (body_of w)) × (length (body_of w) ≤ 118)
unfolding verdict
accepted_shrinks w f e =
    by_bool (is_terminated w)
    (λ y. judge_shrinks (kind_of (get_or w 0 0)) (body_of w) f (simp y at e))
    (λ y. let q : refused 6 ≡ result f = simp y at e in
    let z : ◌≡◌ {A = ℕ} 0 1 = cc in absurd (omega arith))

-- So they are at most 117 bytes: flags and checksum are three of the 120 on the wire.
pub accepted_short : (w : List ℕ) (f : Frame) → verdict w ≡ result f → length (contents_of f) ≤ 117
accepted_short w f e = let k = accepted_shrinks w f e in omega (arith, k.0, k.1)

-- The same of a frame that is accepted at an origin.
module _ (o : Origin) (w : List ℕ) (f : Frame) (e : admit o (verdict w) ≡ result f) where
  pub admitted_shrinks : (length (contents_of f) < length (body_of w)) × (length (body_of w) ≤ 118)
  admitted_shrinks = accepted_shrinks w f (admit_means o (verdict w) f e).0

  pub admitted_short : length (contents_of f) ≤ 117
  admitted_short = accepted_short w f (admit_means o (verdict w) f e).0
