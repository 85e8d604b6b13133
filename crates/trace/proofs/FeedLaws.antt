-- What bytes up to the first that is answered do to a state: the answer's counts and line, and their stray bytes.
use Rattle.std.proofs.Common.{max, ◌≡◌, ℕ, suc, ◌+◌, ◌-◌, ◌<◌, ◌≤◌, Bool, true, false, ltb, List, [], ◌∷◌, ◌++◌, length, take, drop, sym, refl, ap, ◌∙◌, subst, ap₂, append-nil, add-zero, add_assoc, zero-add, arith, take-append-drop, ltb-false, ltb-true, le-ltb}
use Rattle.lists.specs.Choice.{pick, count_before}
use Rattle.lists.proofs.Cases.{by_bool}
use Rattle.framing.specs.Located.{Located, unlocated, located, answer_in, position_in}
use Rattle.framing.proofs.Chunk.{cut_some}
use Rattle.framing.specs.Chunk.{fed_turn, later_by, chunk_limit, cut_chunk}
use Rattle.frame.specs.Flags.{role_of}
use Rattle.candidate.specs.Outcome.{Outcome, nothing, judged, told_means}
use Rattle.candidate.specs.Feed.{is_answer}
use Rattle.line.specs.Rowing.{most_bytes, full}
use Rattle.line.specs.Answers.{located_outcome}
use Rattle.line.specs.Feed.{ChunkTurn, no_turn, feed_of, chunk_of, ChunkStepIs}
use Rattle.line.specs.Reader.{ReaderTurn, lent_reader, step_of}
use Rattle.line.specs.declared.ChunkStep.{ChunkStep}
use Rattle.line.specs.declared.LineReader.{LineReader}
use Rattle.line.proofs.StepLaws.{step_full}
use Rattle.line.proofs.FeedLaws.{fed_none, fed_taken, fed_full, chunk_full, chunk_taken}
use Rattle.text.specs.Lines.{outcome_line, call_line}
use Rattle.text.specs.Strays.{stray_at, strays}
use Rattle.text.specs.Text.{frame_one, refused_one}
use Rattle.text.specs.Writing.{line_room}
use Rattle.trace.specs.Private.{Leads, Advances, CountsFit, counting, stray_count, countable, frame_count, refused_count}
use Rattle.trace.specs.Machine.{is_open, add64, number_after, stray_one, next_of, text_of, texts, taken_of}
use Rattle.trace.specs.declared.Listing.{Listing}
use Rattle.trace.specs.declared.Tally.{Tally}
use Rattle.trace.specs.declared.Advanced.{Advanced}
use Rattle.line.proofs.ChunkCalls.{chunk_outcome}
use Rattle.trace.proofs.AnswerLaws.{frame_count_lem, refused_count_lem, add_none}
use Rattle.trace.proofs.Counts.{open_is, stray_is}
use Rattle.trace.proofs.StrayLaws.{stray_count_is}

-- ---- no byte, one byte, and one without a line before others

taken_more : (t : Bool) (n : ℕ) → t ≡ false → pick t 0 (1 + n) ≡ 1 + n
taken_more t n e = rw e

lead_none : (s : Listing) (bytes : List ℕ) → Leads s bytes 0 s []
lead_none s bytes = record {
  fits = omega arith;
  state = refl;
  text = refl;
  taken = λ room h. let z : room - 0 ≡ room = omega arith in rw z (sym (zero-add (taken_of s bytes room)));
}

lead_one : (s : Listing) (b : ℕ) (bytes : List ℕ) → Leads s (b ∷ bytes) 1 (next_of s b) (text_of s b)
lead_one s b bytes = record {
  fits = omega arith;
  state = refl;
  text = sym (append-nil (text_of s b));
  taken =
      λ room h. taken_more (ltb room line_room) (taken_of (next_of s b) bytes (room - length (text_of s b)))
      (le-ltb room line_room h);
}

lead_on : (s : Listing) (b : ℕ) (bytes : List ℕ) (n : ℕ) (s' : Listing) (w : List ℕ) → text_of s b ≡ []
    → Leads (next_of s b) bytes n s' w → Leads s (b ∷ bytes) (1 + n) s' w
lead_on s b bytes n s' w e l =
    let m : 1 + n ≡ suc n = omega arith in
    record {
      fits = omega (arith, l.fits);
      state = rw m l.state;
      text = rw m (l.text ∙ ap (λ (x : List ℕ). x ++ texts (next_of s b) (take n bytes)) (sym e));
      taken = λ room h.
          let z : room - 0 ≡ room = omega arith in
          taken_more (ltb room line_room) (taken_of (next_of s b) bytes (room - length (text_of s b)))
          (le-ltb room line_room h)
          ∙ ap (λ (x : List ℕ). 1 + taken_of (next_of s b) bytes (room - length x)) e
          ∙ ap (λ (k : ℕ). 1 + taken_of (next_of s b) bytes k) z
          ∙ ap (λ (k : ℕ). 1 + k) (l.taken room h)
          ∙ sym (add_assoc 1 n (taken_of s' (drop n bytes) (room - length w)))
          ∙ ap (λ (k : ℕ). 1 + n + taken_of s' (drop k (b ∷ bytes)) (room - length w)) (sym m);
    }

-- ---- bytes up to an answer

-- The counts after an answer and so many stray bytes.
abbrev tally_after : Tally → Outcome → ℕ → Tally
tally_after t o n = record {
  frames = add64 t.frames (frame_one o);
  refusals = add64 t.refusals (refused_one o);
  strays = add64 t.strays n;
}

-- The state after them, with the reader left.
abbrev after : Listing → Located Outcome → LineReader → ℕ → Listing
after s a r n = record { reader = r; tally = tally_after s.tally (answer_in a) n }

-- The line of an answer that comes next.
abbrev next_line : Listing → Located Outcome → List ℕ
next_line s a = call_line (number_after s.tally.frames s.tally.refusals) a

-- The first bytes, as many as are fed, take a state to the one that the answer gives, and their text is its line.
abbrev LeadsTo : Listing → List ℕ → ChunkTurn → Type 0
LeadsTo s bytes f =
    Leads s bytes f.taken
    (after s f.answer f.next (strays (is_open s.reader.state.held.mode) (take f.taken bytes)))
    (next_line s f.answer)

unanswered : (o : Outcome) → is_answer o ≡ false → o ≡ nothing
unanswered nothing e = refl
unanswered (judged v) e = let z : ◌≡◌ {A = ℕ} 0 1 = cc in absurd (omega arith)

after_none : (s : Listing) → CountsFit s.tally → s ≡ after s (unlocated nothing) s.reader 0
after_none s h =
    λ i. record {
      reader = s.reader;
      tally = record {
        frames = add_none s.tally.frames h.0 i;
        refusals = add_none s.tally.refusals h.1 i;
        strays = add_none s.tally.strays h.2 i;
      };
    }

leads_none : (s : Listing) (bytes : List ℕ) → CountsFit s.tally → LeadsTo s bytes (no_turn s.reader)
leads_none s bytes h = subst (λ (x : Listing). Leads s bytes 0 x []) (after_none s h) (lead_none s bytes)

-- the state after a byte that is not answered
abbrev quiet : Listing → ℕ → Listing
quiet s b =
    record {
      reader = (step_of s.reader b).next;
      tally = record s.tally { strays = add64 s.tally.strays (stray_one s.reader b) };
    }

quiet_next : (s : Listing) (b : ℕ) → CountsFit s.tally → answer_in (step_of s.reader b).answer ≡ nothing
    → quiet s b ≡ next_of s b
unfolding next_of
quiet_next s b h e =
    let f : s.tally.frames ≡ add64 s.tally.frames (frame_one (answer_in (step_of s.reader b).answer)) =
    add_none s.tally.frames h.0 ∙ ap (λ (o : Outcome). add64 s.tally.frames (frame_one o)) (sym e) in
    let r : s.tally.refusals ≡ add64 s.tally.refusals (refused_one (answer_in (step_of s.reader b).answer)) =
    add_none s.tally.refusals h.1 ∙ ap (λ (o : Outcome). add64 s.tally.refusals (refused_one o)) (sym e) in
    λ i. record {
      reader = (step_of s.reader b).next;
      tally = record {
        frames = f i;
        refusals = r i;
        strays = add64 s.tally.strays (stray_one s.reader b);
      };
    }

quiet_text : (s : Listing) (b : ℕ) → answer_in (step_of s.reader b).answer ≡ nothing → text_of s b ≡ []
unfolding text_of
quiet_text s b e =
    ap (outcome_line (number_after s.tally.frames s.tally.refusals) (position_in (step_of s.reader b).answer)) e

add64-add64 : (a b c : ℕ) → add64 (add64 a b) c ≡ add64 a (b + c)
add64-add64 a b c = omega arith

-- a byte that can be counted, before others
module _ (s : Listing) (b : ℕ) (bytes : List ℕ) (h : CountsFit s.tally) (room : s.reader.state.count < most_bytes) where
  abbrev before : Bool
  before = is_open s.reader.state.held.mode

  -- the strays of the byte and of those after it
  all_strays : (n : ℕ)
      → add64 (quiet s b).tally.strays (strays (is_open (quiet s b).reader.state.held.mode) (take n bytes))
      ≡ add64 s.tally.strays (strays before (take (1 + n) (b ∷ bytes)))
  all_strays n =
      let m : 1 + n ≡ suc n = omega arith in
      add64-add64 s.tally.strays (stray_one s.reader b)
      (strays (is_open (step_of s.reader b).next.state.held.mode) (take n bytes))
      ∙ ap₂ (λ (x : ℕ) (o : Bool). add64 s.tally.strays (x + strays o (take n bytes))) (stray_is s.reader b room)
      (open_is s.reader b room)
      ∙ ap (λ (k : ℕ). add64 s.tally.strays (strays before (take k (b ∷ bytes)))) (sym m)

  first_leads : (f : ChunkTurn) (q : Bool) → is_answer (answer_in (step_of s.reader b).answer) ≡ q
      → LeadsTo (quiet s b) bytes f
      → LeadsTo s (b ∷ bytes) (pick q (fed_turn (step_of s.reader b).answer (step_of s.reader b).next 1)
      (later_by 1 f))
  unfolding next_of text_of
  first_leads f true e l =
      let z : stray_one s.reader b ≡ stray_at (role_of b) before + 0 =
      stray_is s.reader b room ∙ sym (add-zero (stray_at (role_of b) before)) in
      subst (λ (n : ℕ). Leads s (b ∷ bytes) 1
      (after s (step_of s.reader b).answer (step_of s.reader b).next n)
      (next_line s (step_of s.reader b).answer)) z (lead_one s b bytes)
  first_leads f false e l =
      let u : Listing = quiet s b in
      let a : answer_in (step_of s.reader b).answer ≡ nothing = unanswered (answer_in (step_of s.reader b
      ).answer) e in
      let w : List ℕ = next_line s f.answer in
      subst (λ (n : ℕ). Leads s (b ∷ bytes) (1 + f.taken)
      (record {
        reader = f.next;
        tally = record {
          frames = add64 s.tally.frames (frame_one (answer_in f.answer));
          refusals = add64 s.tally.refusals (refused_one (answer_in f.answer));
          strays = n;
        };
      }) w) (all_strays f.taken)
      (lead_on s b bytes f.taken _ w (quiet_text s b a)
      (subst (λ (x : Listing). Leads x bytes f.taken
      (after u f.answer f.next (strays (is_open u.reader.state.held.mode) (take f.taken bytes))) w)
      (quiet_next s b h a) l))

-- whatever comes after them
feed_leads : (s : Listing) (bytes later : List ℕ) → CountsFit s.tally → LeadsTo s (bytes ++ later) (feed_of s.reader bytes)
feed_leads s [] later h = subst (LeadsTo s later) (sym (fed_none s.reader)) (leads_none s later h)
feed_leads s (b ∷ bytes) later h =
    by_bool (ltb s.reader.state.count most_bytes)
    (λ y.
    let room : s.reader.state.count < most_bytes = ltb-true s.reader.state.count most_bytes y in
    subst (LeadsTo s (b ∷ (bytes ++ later))) (sym (fed_taken s.reader b bytes room))
    (first_leads s b (bytes ++ later) h room (feed_of (step_of s.reader b).next bytes)
    (is_answer (answer_in (step_of s.reader b).answer)) refl
    (feed_leads (quiet s b) bytes later (h.0, h.1, omega arith))))
    (λ n. subst (LeadsTo s (b ∷ (bytes ++ later)))
    (sym (fed_full s.reader b bytes (ltb-false s.reader.state.count most_bytes n)))
    (leads_none s (b ∷ (bytes ++ later)) h))

feed_some : (r : LineReader) (bytes : List ℕ) → r.state.count < most_bytes → 0 < length bytes → 0 < (feed_of r bytes
    ).taken
feed_some r [] room h = absurd (omega arith)
feed_some r (b ∷ bytes) room h =
    subst (λ (f : ChunkTurn). 0 < f.taken) (sym (fed_taken r b bytes room))
    (by_answer (is_answer (answer_in (step_of r b).answer)) (feed_of (step_of r b).next bytes))
  where
    by_answer : (q : Bool) (f : ChunkTurn)
        → 0 < (pick q (fed_turn (step_of r b).answer (step_of r b).next 1) (later_by 1 f)).taken
    by_answer true f = omega arith
    by_answer false f = omega arith

-- ---- a chunk, of which one byte is passed over where the reader is full

some_kept : (n : ℕ) → 0 < n → max n 1 ≡ n
some_kept n h = omega arith

-- The first bytes of a chunk, at least one, take a state to the one that the answer gives.
abbrev Passes : Listing → List ℕ → ChunkTurn → Type 0
Passes s rest f =
    Leads s rest (max f.taken 1)
    (after s f.answer f.next
    (stray_count (is_open s.reader.state.held.mode) (countable s.reader.state.count rest)))
    (next_line s f.answer)

-- a byte that the reader refuses
full-passes : (s : Listing) (b : ℕ) (bytes : List ℕ) → most_bytes ≤ s.reader.state.count
    → Passes s (b ∷ bytes) (fed_turn (located 0 full) s.reader 0)
unfolding next_of text_of count_before
full-passes s b bytes h =
    let none : 0 ≡ most_bytes - s.reader.state.count = omega arith in
    let o = is_open s.reader.state.held.mode in
    let z : stray_one s.reader b ≡ stray_count o (countable s.reader.state.count (b ∷ bytes)) =
    ap (λ (t : Bool). pick t (stray_at (role_of b) o) 0) (le-ltb s.reader.state.count most_bytes h)
    ∙ no_strays o
    ∙ ap (λ (n : ℕ). stray_count o (take n (cut_chunk (b ∷ bytes)))) none in
    subst (λ (n : ℕ). Leads s (b ∷ bytes) 1 (after s (located 0 full) s.reader n) (next_line s (located 0 full))) z
    (subst (λ (t : ReaderTurn). Leads s (b ∷ bytes) 1 (after s t.answer t.next (stray_one s.reader b))
    (next_line s t.answer)) (step_full s.reader b h) (lead_one s b bytes))
  where
    no_strays : (o : Bool) → 0 ≡ stray_count o []
    no_strays true = refl
    no_strays false = refl

chunk_passes : (s : Listing) (rest : List ℕ) → 0 < length rest → CountsFit s.tally → Passes s rest (chunk_of s.reader rest)
chunk_passes s [] some h = absurd (omega arith)
chunk_passes s (b ∷ bytes) some h =
    let r = s.reader in
    let rest = b ∷ bytes in
    by_bool (ltb r.state.count most_bytes)
    (λ y.
    let room : r.state.count < most_bytes = ltb-true r.state.count most_bytes y in
    let d = chunk_of r rest in
    let taken : 0 < d.taken =
    subst (λ (f : ChunkTurn). 0 < f.taken) (sym (chunk_taken r rest room))
    (feed_some r (cut_chunk rest) room (cut_some rest some)) in
    let l : LeadsTo s rest d =
    subst (LeadsTo s rest) (sym (chunk_taken r rest room))
    (subst (λ (x : List ℕ). LeadsTo s x (feed_of r (cut_chunk rest))) (take-append-drop chunk_limit rest)
    (feed_leads s (cut_chunk rest) (drop chunk_limit rest) h)) in
    subst (λ (n : ℕ). Leads s rest n (after s d.answer d.next
    (stray_count (is_open r.state.held.mode) (countable r.state.count rest))) (next_line s d.answer))
    (sym (some_kept d.taken taken))
    (subst (λ (n : ℕ). Leads s rest d.taken (after s d.answer d.next n) (next_line s d.answer))
    (stray_count_is r rest room) l))
    (λ n.
    let k : most_bytes ≤ r.state.count = ltb-false r.state.count most_bytes n in
    subst (Passes s rest) (sym (chunk_full r rest some k)) (full-passes s b bytes k))

-- ---- a call on them

module _ (s : Listing) (rest bytes : List ℕ) (given : 0 < length rest) (f : ChunkStep)
    (g : ChunkStepIs bytes f (chunk_of s.reader rest)) (h : CountsFit s.tally) where
  -- what is counted
  tally_is : (sc : ℕ) → sc ≡ stray_count (is_open s.reader.state.held.mode) (countable s.reader.state.count rest)
      → counting s.tally (told_means f.told) sc
      ≡ tally_after s.tally (answer_in (chunk_of s.reader rest).answer)
      (stray_count (is_open s.reader.state.held.mode) (countable s.reader.state.count rest))
  tally_is sc e =
      let o : Outcome = answer_in (chunk_of s.reader rest).answer in
      let fr = ap frame_count g.told_is ∙ frame_count_lem o in
      let re = ap refused_count g.told_is ∙ refused_count_lem o in
      λ i. record {
        frames = add64 s.tally.frames (fr i);
        refusals = add64 s.tally.refusals (re i);
        strays = add64 s.tally.strays (e i);
      }

  pub advances : (n sc : ℕ) → n ≡ number_after s.tally.frames s.tally.refusals
      → sc ≡ stray_count (is_open s.reader.state.held.mode) (countable s.reader.state.count rest)
      → (t : Tally) → t ≡ counting s.tally (told_means f.told) sc
      → (out out' : List ℕ) (r : Advanced) → r.taken ≡ max f.taken 1
      → r.wrote ≡ length (call_line n (located_outcome (told_means f.told) f.position bytes))
      → out' ≡ call_line n (located_outcome (told_means f.told) f.position bytes) ++ drop r.wrote out
      → r.wrote ≤ line_room
      → Advances s (record { reader = lent_reader bytes f.state; tally = t }) rest out out' r
  advances n sc en esc t et out out' r er ew eo k =
      let d : ChunkTurn = chunk_of s.reader rest in
      let w : List ℕ = next_line s d.answer in
      let c : ℕ = stray_count (is_open s.reader.state.held.mode) (countable s.reader.state.count rest) in
      let next : after s d.answer d.next c ≡ record { reader = lent_reader bytes f.state; tally = t } =
      (λ i. record { reader = sym g.next_is i; tally = sym (et ∙ tally_is sc esc) i }) in
      let line : call_line n (located_outcome (told_means f.told) f.position bytes) ≡ w =
      ap₂ call_line en (chunk_outcome (lent_reader bytes f.state) f.told f.position f.taken s.reader rest g) in
      let taken : max d.taken 1 ≡ r.taken = sym (er ∙ ap (λ (i : ℕ). max i 1) g.taken_is) in
      record {
        text = w;
        leads =
            subst (λ (i : ℕ). Leads s rest i (record { reader = lent_reader bytes f.state; tally = t }) w) taken
            (subst (λ (u : Listing). Leads s rest (max d.taken 1) u w) next (chunk_passes s rest given h));
        some = omega (arith, er);
        wrote_is = ew ∙ ap length line;
        out_is = eo ∙ ap (λ (l : List ℕ). l ++ drop r.wrote out) line;
        within = k;
      }
