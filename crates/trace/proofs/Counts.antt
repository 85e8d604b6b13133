-- The counts of a state in plain numbers: the text that bytes give from a state on is that of the reader's answers to
-- them.
use Rattle.std.proofs.Common.{◌≡◌, ℕ, ◌+◌, ◌^◌, ◌<◌, ◌≤◌, Bool, true, false, ltb, List, [], ◌∷◌, ◌++◌, length, sym, refl, ap, ◌∙◌, ap₂, append_assoc, append-nil, mod-eq_of_lt, arith, le-ltb, lt-ltb}
use Rattle.lists.specs.Choice.{pick}
use Rattle.framing.specs.Reference.{finish, Role, starts, stops, plain}
use Rattle.lists.specs.Machine.{run}
use Rattle.framing.specs.Located.{Located, answer_in, position_in}
use Rattle.framing.specs.Demand3.{feed}
use Rattle.framing.specs.Bounded.{BoundedMode, BoundedReader, grown_in}
use Rattle.answer.specs.Answer.{result, refused}
use Rattle.frame.specs.Verdict.{Verdict}
use Rattle.candidate.specs.Outcome.{Outcome, nothing, judged}
use Rattle.frame.specs.declared.Origin.{Origin}
use Rattle.candidate.specs.Rowing.{rowing, rowing_bounds}
use Rattle.candidate.specs.Holder.{Holder, holder, role_step, step_held}
use Rattle.line.specs.Rowing.{most_bytes}
use Rattle.line.specs.Reader.{ReaderTurn, step_of, finish_of, outcome_at, next_after}
use Rattle.frame.specs.Flags.{role_of, kind_of}
use Rattle.frame.specs.declared.Kind.{Kind}
use Rattle.frame.specs.declared.Kind.TheVariants.{Standard, Extended}
use Rattle.line.specs.declared.LineReader.{LineReader}
use Rattle.line.proofs.StepLaws.{step_taken, step_full}
use Rattle.framing.specs.declared.Mode.{Mode}
use Rattle.framing.specs.declared.Mode.TheVariants.{Outside, Inside, Overlong}
use Rattle.text.specs.Lines.{line, call_line, totals}
use Rattle.text.specs.Strays.{stray_at, open_after, strays}
use Rattle.text.specs.Text.{located_in, verdicts, frame_one, refused_one, frames, refusals, lines}
use Rattle.text.proofs.LineLaws.{lines_more, frames_more, refusals_more}
use Rattle.trace.specs.Machine.{add64, is_open, number_after, stray_one, next_of, text_of, listing_after, texts}
use Rattle.trace.specs.Machine.{last_text}
use Rattle.trace.specs.declared.Listing.{Listing}

add64_is : (a b : ℕ) → a + b < 2 ^ 64 → add64 a b ≡ a + b
add64_is a b h = mod-eq_of_lt h

number_is : (f r : ℕ) → f + r + 1 < 2 ^ 64 → number_after f r ≡ f + r + 1
number_is f r h = ap (λ (n : ℕ). add64 n 1) (add64_is f r (omega arith)) ∙ add64_is (f + r) 1 h

one_answer : (o : Outcome) → frame_one o + refused_one o ≤ 1
one_answer nothing = omega arith
one_answer (judged (refused n)) = omega arith
one_answer (judged (result f)) = omega arith

one_stray : (ρ : Role) (o : Bool) → stray_at ρ o ≤ 1
one_stray starts o = omega arith
one_stray stops true = omega arith
one_stray stops false = omega arith
one_stray plain true = omega arith
one_stray plain false = omega arith

-- ---- a candidate is open exactly where the reader is not outside

inside_open : (kind : Kind) → is_open (Inside kind) ≡ true
inside_open Standard = refl
inside_open Extended = refl

by_capacity : (t : Bool) (kind : Kind) (full more : BoundedReader Kind) → full.mode ≡ Overlong
    → more.mode ≡ Inside kind
    → is_open (pick t more full).mode ≡ true
by_capacity true kind full more e f = ap (λ (m : BoundedMode Kind). is_open m) f ∙ inside_open kind
by_capacity false kind full more e f = ap (λ (m : BoundedMode Kind). is_open m) e

grown_open : (o : Origin) (m : Mode Kind) (bytes : List ℕ) (len b : ℕ)
    → is_open (grown_in (rowing o) (rowing_bounds o) m bytes len b).mode ≡ is_open m
grown_open o Outside bytes len b = refl
grown_open o (Inside Standard) bytes len b = by_capacity (ltb len 118) Standard _ _ refl refl
grown_open o (Inside Extended) bytes len b = by_capacity (ltb len 118) Extended _ _ refl refl
grown_open o Overlong bytes len b = refl

open_at : (h : Holder) (b : ℕ) (ρ : Role)
    → is_open (role_step ρ h b).next.held.mode ≡ open_after ρ (is_open h.held.mode)
open_at h b starts = inside_open (kind_of b)
open_at h b stops = refl
open_at h b plain = grown_open h.held.origin h.held.mode h.bytes h.held.len b

pub open_held : (h : Holder) (b : ℕ)
    → is_open (step_held h b).next.held.mode ≡ open_after (role_of b) (is_open h.held.mode)
open_held h b = open_at h b (role_of b)

-- ---- a byte that can be counted

module _ (r : LineReader) (b : ℕ) (room : r.state.count < most_bytes) where
  pub open_is : is_open (step_of r b).next.state.held.mode ≡ open_after (role_of b) (is_open r.state.held.mode)
  open_is =
      ap (λ (t : ReaderTurn). is_open t.next.state.held.mode) (step_taken r b room)
      ∙ open_held (holder r.bytes r.state.held) b

  pub count_is : (step_of r b).next.state.count ≡ r.state.count + 1
  count_is = ap (λ (t : ReaderTurn). t.next.state.count) (step_taken r b room)

  pub stray_is : stray_one r b ≡ stray_at (role_of b) (is_open r.state.held.mode)
  stray_is =
      ap (λ (t : Bool). pick t (stray_at (role_of b) (is_open r.state.held.mode)) 0)
      (lt-ltb r.state.count most_bytes room)

-- ---- a byte that a full reader refuses

-- It is told by the line of refusal 16 at position 0, and is one refusal more. It is passed over, and is not stray.
pub full_byte : (s : Listing) (b : ℕ) → most_bytes ≤ s.reader.state.count
    → (text_of s b ≡ line (number_after s.tally.frames s.tally.refusals) 0 (refused 16))
    × (next_of s b
    ≡ record {
      reader = s.reader;
      tally = record {
        frames = add64 s.tally.frames 0;
        refusals = add64 s.tally.refusals 1;
        strays = add64 s.tally.strays 0;
      };
    })
unfolding next_of text_of
full_byte s b h =
    let o = is_open s.reader.state.held.mode in (
      ap (λ (t : ReaderTurn). call_line (number_after s.tally.frames s.tally.refusals) t.answer) (step_full s.reader b h),
      ap₂ (λ (t : ReaderTurn) (n : ℕ). record {
        reader = t.next;
        tally = record {
          frames = add64 s.tally.frames (frame_one (answer_in t.answer));
          refusals = add64 s.tally.refusals (refused_one (answer_in t.answer));
          strays = add64 s.tally.strays n;
        };
      }) (step_full s.reader b h)
          (ap (λ (t : Bool). pick t (stray_at (role_of b) o) 0) (le-ltb s.reader.state.count most_bytes h)),
    )

-- ---- the text from a state on

-- What calls on a reader are answered with: its bytes, and then the finish.
abbrev pub outcomes_from : LineReader → List ℕ → List (Located Outcome)
outcomes_from r bytes = run outcome_at next_after r (feed bytes ++ finish ∷ [])

-- The text of answers and bytes that come after so many frames, refusals and stray bytes.
abbrev pub Rest : (f r st : ℕ) → Bool → List (Located Outcome) → List ℕ → List ℕ
Rest f r st o os bytes =
    lines (f + r) (located_in os)
    ++ totals (f + frames (verdicts (located_in os))) (r + refusals (verdicts (located_in os))) (st + strays o bytes)

same_rest : (f f' r r' st st' : ℕ) (o o' : Bool) (os : List (Located Outcome)) (bytes : List ℕ) → f ≡ f' → r ≡ r' →
    st ≡ st'
    → o ≡ o' → Rest f r st o os bytes ≡ Rest f' r' st' o' os bytes
same_rest f f' r r' st st' o o' os bytes p q u v = rw (p, q, u, v)

same_text : (l : List ℕ) (n n' x x' y y' z z' : ℕ) (vs : List (Located Verdict)) → n ≡ n' → x ≡ x' → y ≡ y' → z ≡ z'
    → l ++ (lines n vs ++ totals x y z) ≡ l ++ (lines n' vs ++ totals x' y' z')
same_text l n n' x x' y y' z z' vs p q u v = rw (p, q, u, v)

rest_step : (f r st : ℕ) (o : Bool) (b : ℕ) (a : Located Outcome) (os : List (Located Outcome)) (bytes : List ℕ)
    → call_line (f + r + 1) a
    ++ Rest (f + frame_one (answer_in a)) (r + refused_one (answer_in a)) (st + stray_at (role_of b) o)
    (open_after (role_of b) o) os bytes
    ≡ Rest f r st o (a ∷ os) (b ∷ bytes)
rest_step f r st o b a os bytes =
    let v : Outcome = answer_in a in
    let vs : List (Located Verdict) = located_in os in
    let all : List Verdict = verdicts (located_in (a ∷ os)) in
    let F = frames_more (position_in a) v vs in
    let R = refusals_more (position_in a) v vs in
    let z : ℕ = st + (stray_at (role_of b) o + strays (open_after (role_of b) o) bytes) in
    same_text (call_line (f + r + 1) a) _ (f + r + (frame_one v + refused_one v)) _ (f + frames all) _
    (r + refusals all) _ z vs
    (omega arith) (omega arith) (omega arith) (omega arith)
    ∙ sym (append_assoc (call_line (f + r + 1) a) (lines (f + r + (frame_one v + refused_one v)) vs)
    (totals (f + frames all) (r + refusals all) z))
    ∙ ap (λ (l : List ℕ). l ++ totals (f + frames all) (r + refusals all) z) (lines_more (f + r) (position_in a) v vs)

-- the finish
same_last : (a : Located Outcome) (n n' x x' y y' z z' : ℕ) → n ≡ n' → x ≡ x' → y ≡ y' → z ≡ z'
    → call_line n a ++ totals x y z ≡ call_line n' a ++ totals x' y' z'
same_last a n n' x x' y y' z z' p q u v = rw (p, q, u, v)

last_is : (s : Listing) → s.tally.frames + s.tally.refusals + 1 < 2 ^ 64 → s.tally.strays < 2 ^ 64
    → last_text s ≡ Rest s.tally.frames s.tally.refusals s.tally.strays (is_open s.reader.state.held.mode)
    (outcomes_from s.reader []) []
unfolding last_text
last_is s h g =
    let a : Located Outcome = (finish_of s.reader).answer in
    let v : Outcome = answer_in a in
    let k = one_answer v in
    let all : List Verdict = verdicts (located_in (a ∷ [])) in
    let F : frame_one v ≡ frames all = omega (arith, frames_more (position_in a) v []) in
    let R : refused_one v ≡ refusals all = omega (arith, refusals_more (position_in a) v []) in
    same_last a _ (s.tally.frames + s.tally.refusals + 1) _ (s.tally.frames + frames all) _ (s.tally.refusals + refusals all) _
    (s.tally.strays + 0)
    (number_is s.tally.frames s.tally.refusals h)
    (add64_is s.tally.frames (frame_one v) (omega arith) ∙ ap (λ (n : ℕ). s.tally.frames + n) F)
    (add64_is s.tally.refusals (refused_one v) (omega arith) ∙ ap (λ (n : ℕ). s.tally.refusals + n) R)
    (omega arith)
    ∙ ap (λ (l : List ℕ). l ++ totals (s.tally.frames + frames all) (s.tally.refusals + refusals all) (s.tally.strays + 0))
    (sym (append-nil (call_line (s.tally.frames + s.tally.refusals + 1) a))
    ∙ lines_more (s.tally.frames + s.tally.refusals) (position_in a) v [])

-- a byte that can be counted
module _ (s : Listing) (b : ℕ) (h : s.tally.frames + s.tally.refusals + 1 < 2 ^ 64) (g : s.tally.strays + 1 < 2 ^ 64)
    (room : s.reader.state.count < most_bytes) where
  answer : Located Outcome
  answer = (step_of s.reader b).answer

  next_frames : (next_of s b).tally.frames ≡ s.tally.frames + frame_one (answer_in answer)
  unfolding next_of answer
  next_frames =
      let a = answer_in (step_of s.reader b).answer in
      let k = one_answer a in add64_is s.tally.frames (frame_one a) (omega arith)

  next_refused : (next_of s b).tally.refusals ≡ s.tally.refusals + refused_one (answer_in answer)
  unfolding next_of answer
  next_refused =
      let a = answer_in (step_of s.reader b).answer in
      let k = one_answer a in add64_is s.tally.refusals (refused_one a) (omega arith)

  next_stray : (next_of s b).tally.strays ≡ s.tally.strays + stray_at (role_of b) (is_open s.reader.state.held.mode)
  unfolding next_of
  next_stray =
      let k = one_stray (role_of b) (is_open s.reader.state.held.mode) in
      ap (add64 s.tally.strays) (stray_is s.reader b room)
      ∙ add64_is s.tally.strays (stray_at (role_of b) (is_open s.reader.state.held.mode)) (omega arith)

  next_open : is_open (next_of s b).reader.state.held.mode
      ≡ open_after (role_of b) (is_open s.reader.state.held.mode)
  unfolding next_of
  next_open = open_is s.reader b room

  next_count : (next_of s b).reader.state.count ≡ s.reader.state.count + 1
  unfolding next_of
  next_count = count_is s.reader b room

  text-line : text_of s b ≡ call_line (s.tally.frames + s.tally.refusals + 1) answer
  unfolding text_of answer
  text-line = ap (λ (k : ℕ). call_line k (step_of s.reader b).answer) (number_is s.tally.frames s.tally.refusals h)

  outcomes_next : (bytes : List ℕ)
      → outcomes_from s.reader (b ∷ bytes) ≡ answer ∷ outcomes_from (next_of s b).reader bytes
  unfolding next_of answer
  outcomes_next bytes = refl

pub all_text : (s : Listing) (bytes : List ℕ) → s.tally.frames + s.tally.refusals + length bytes + 1 < 2 ^ 64
    → s.tally.strays + length bytes < 2 ^ 64 → s.reader.state.count + length bytes ≤ most_bytes
    → texts s bytes ++ last_text (listing_after s bytes)
    ≡ Rest s.tally.frames s.tally.refusals s.tally.strays (is_open s.reader.state.held.mode)
    (outcomes_from s.reader bytes) bytes
all_text s [] h g c = last_is s (omega arith) (omega arith)
all_text s (b ∷ bytes) h g c =
    let h₁ : s.tally.frames + s.tally.refusals + 1 < 2 ^ 64 = omega arith in
    let g₁ : s.tally.strays + 1 < 2 ^ 64 = omega arith in
    let c₁ : s.reader.state.count < most_bytes = omega arith in
    let a : Located Outcome = answer s b h₁ g₁ c₁ in
    let v : Outcome = answer_in a in
    let n : Listing = next_of s b in
    let o : Bool = is_open s.reader.state.held.mode in
    let F = next_frames s b h₁ g₁ c₁ in
    let R = next_refused s b h₁ g₁ c₁ in
    let S = next_stray s b h₁ g₁ c₁ in
    let C = next_count s b h₁ g₁ c₁ in
    let k = one_answer v in
    let u = one_stray (role_of b) o in
    let os : List (Located Outcome) = outcomes_from n.reader bytes in
    let rest : List ℕ = Rest (s.tally.frames + frame_one v) (s.tally.refusals + refused_one v) (s.tally.strays + stray_at (role_of b) o)
    (open_after (role_of b) o) os bytes in
    let ih : texts n bytes ++ last_text (listing_after n bytes)
    ≡ Rest n.tally.frames n.tally.refusals n.tally.strays (is_open n.reader.state.held.mode) os bytes =
    all_text n bytes (omega arith) (omega arith) (omega arith) in
    append_assoc (text_of s b) (texts n bytes) (last_text (listing_after n bytes))
    ∙ ap (λ (l : List ℕ). text_of s b ++ l) (ih ∙ same_rest _ _ _ _ _ _ _ _ os bytes F R S (next_open s b h₁ g₁ c₁))
    ∙ ap (λ (l : List ℕ). l ++ rest) (text-line s b h₁ g₁ c₁)
    ∙ rest_step s.tally.frames s.tally.refusals s.tally.strays o b a os bytes
    ∙ ap (λ (l : List (Located Outcome)). Rest s.tally.frames s.tally.refusals s.tally.strays o l (b ∷ bytes))
    (sym (outcomes_next s b h₁ g₁ c₁ bytes))
