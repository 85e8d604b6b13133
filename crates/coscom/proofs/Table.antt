-- Which answer is given exactly when: the tables of reading and writing, and demand 2's "accepted exactly when", for
-- packets.
use Prim.Native.Nat.{ℕ, ◌+◌}
use mathlib.Core.Path.{◌≡◌, refl, sym, ap, ◌∙◌, subst}
use mathlib.Core.Bool.{true, true≢false}
use mathlib.Core.List.{List}
use native.Mathlib.Nat.{zero-add}
use native.Mathlib.Omega.{arith}
use lib.Dec.{leb}
use lib.ListN.{length}
use borrow.Author.Tests.{leb-true, leb-false}
use Rattle.lists.specs.Choice.{Exactly}
use Rattle.lists.proofs.Cases.{by_bool, both_exactly}
use Rattle.answer.specs.Answer.{Answer, result, refused}
use Rattle.answer.specs.Draft.{Writes, draft_out}
use Rattle.answer.proofs.Drafts.{writes_refusal, writes_no_room, writes_done, lines_exactly}
use Rattle.coscom.specs.Packet.{Packet, is_proper, wire_of}
use Rattle.coscom.specs.Verdict.{Verdict, packet_in, sum_tens, sum_ones, is_spelt, is_summed, judge, body_of}
use Rattle.coscom.specs.Verdict.{is_terminated, verdict}
use Rattle.coscom.specs.Answers.{packet_draft, PacketOutline, read_answer, read_out, Reads}
use Rattle.coscom.specs.Conditions.{Terminated, WithinLimit, LongEnough, CharactersAllowed, Sound}
use Rattle.coscom.specs.Conditions.{Spells, SoundPacket, Judged, truncated, long, short, bad_character, bad_sum}
use Rattle.coscom.specs.Conditions.{sound, ReadJudged, refused_by, no_room, fits, Proper, WriteJudged, over_limit}
use Rattle.coscom.specs.Conditions.{not_proper, no_room_to_write, written}
use Rattle.coscom.proofs.FlagLaws.{flagless_free, free_flagless}
use Rattle.coscom.proofs.PacketLaws.{parts_packet, in_parts, summed_right, right_summed, proper_means, proper_is}
use Rattle.coscom.proofs.PacketLaws.{spelt_allowed, allowed_spelt}
use Rattle.coscom.proofs.VerdictLaws.{whole_length, whole_flagless, whole_terminated, terminated_means}
use Rattle.coscom.proofs.VerdictLaws.{verdict_terminated, judge_long, judge_short, judge_character, judge-sum}
use Rattle.coscom.proofs.VerdictLaws.{judge_sound}
use Rattle.coscom.proofs.CodeLaws.{wire_length, draft_long, draft_character, draft_fits, read_refused}
use Rattle.coscom.proofs.CodeLaws.{read_no_room, read_done}

-- ---- the conditions, and what the definitions compute

terminated_of : (w : List ℕ) → is_terminated w ≡ true → Terminated w
terminated_of w h =
    let m = terminated_means w h in
    record { body = body_of w; shape = m.0; inside = flagless_free (body_of w) m.1 }

module _ (w : List ℕ) (t : Terminated w) where
  pub long_as : length w ≡ length t.body + 2
  long_as = ap length t.shape ∙ whole_length t.body

  is_terminated_lem : is_terminated w ≡ true
  is_terminated_lem = ap is_terminated t.shape ∙ whole_terminated t.body (free_flagless t.body t.inside)

  of_body : verdict w ≡ judge t.body
  of_body = ap verdict t.shape ∙ whole_flagless t.body (free_flagless t.body t.inside)

-- the packet that bytes spell
pub spells_in : (body : List ℕ) (p : Packet) → Spells body p → packet_in body ≡ p
spells_in body p s = ap packet_in s.spelt ∙ parts_packet p s.sum_tens s.sum_ones

-- ---- the table of verdicts

table_verdict : (w : List ℕ) (v : Verdict) → Judged w v → verdict w ≡ v
table_verdict w v (truncated n) =
    by_bool (is_terminated w) (λ y. absurd (n (terminated_of w y))) (λ y. verdict_terminated w y)
table_verdict w v (long t n) =
    of_body w t
    ∙ by_bool (leb (length w) 256) (λ y. absurd (n (leb-true _ _ y)))
    (λ y. judge_long t.body (omega (arith, long_as w t, leb-false (length w) 256 y)))
table_verdict w v (short t l n) =
    of_body w t
    ∙ judge_short t.body (omega (arith, long_as w t, l))
    (by_bool (leb 5 (length t.body)) (λ y. absurd (n (leb-true _ _ y))) (λ y. leb-false 5 (length t.body) y))
table_verdict w v (bad_character t l k n) =
    of_body w t
    ∙ judge_character t.body (omega (arith, long_as w t, l)) k
    (by_bool (is_spelt t.body) (λ y. absurd (n (spelt_allowed t.body k y))) (λ y. y))
table_verdict w v (bad_sum t l k a n) =
    of_body w t
    ∙ judge-sum t.body (omega (arith, long_as w t, l)) k (allowed_spelt t.body k a)
    (by_bool (is_summed t.body) (λ y. absurd (n (summed_right t.body k y))) (λ y. y))
table_verdict w v (sound p s) =
    let t = s.slice.candidate in
    let k = s.slice.enough in
    of_body w t
    ∙ judge_sound t.body (omega (arith, long_as w t, s.slice.limit)) k
    (allowed_spelt t.body k s.slice.characters) (right_summed t.body k s.slice.sum)
    ∙ ap result (spells_in t.body p s.spells)

-- a sound slice is some packet
pub sound_packet : (w : List ℕ) → Sound w → (p : Packet) × SoundPacket w p
sound_packet w s =
    let b = s.candidate.body in (
      packet_in b,
      record {
        slice = s;
        spells = record { sum_tens = sum_tens b; sum_ones = sum_ones b; spelt = in_parts b s.enough };
      },
    )

-- every slice has a line
some_line : (w : List ℕ) → (v : Verdict) × Judged w v
some_line w =
    by_bool (is_terminated w) (λ y. of_limit (terminated_of w y))
    (λ y. (refused 6, truncated (λ t. true≢false (sym (is_terminated_lem w t) ∙ y))))
  where
    of_sum : (t : Terminated w) → WithinLimit w → LongEnough t.body → CharactersAllowed t.body
        → (v : Verdict) × Judged w v
    of_sum t l k a =
        by_bool (is_summed t.body)
        (λ y. let p = sound_packet w
        (record { candidate = t; limit = l; enough = k; characters = a; sum = summed_right t.body k y }) in
        (result p.0, sound p.0 p.1))
        (λ y. (refused 5, bad_sum t l k a (λ s. true≢false (sym (right_summed t.body k s) ∙ y))))

    of_characters : (t : Terminated w) → WithinLimit w → LongEnough t.body → (v : Verdict) × Judged w v
    of_characters t l k =
        by_bool (is_spelt t.body) (λ y. of_sum t l k (spelt_allowed t.body k y))
        (λ y. (refused 22, bad_character t l k (λ a. true≢false (sym (allowed_spelt t.body k a) ∙ y))))

    of_limit : Terminated w → (v : Verdict) × Judged w v
    of_limit t =
        by_bool (leb (length w) 256)
        (λ l. by_bool (leb 5 (length t.body)) (λ k. of_characters t (leb-true _ _ l) (leb-true _ _ k))
        (λ k. (refused 4, short t (leb-true _ _ l) (λ m. absurd (omega (arith, m, leb-false 5 (length t.body) k))))))
        (λ l. (refused 2, long t (λ m. absurd (omega (arith, m, leb-false (length w) 256 l)))))

-- Every verdict is given exactly when the table gives it: a refusal where the rule that it names fails and all before
-- it hold.
pub verdict_by_table : (w : List ℕ) (v : Verdict) → Exactly (verdict w ≡ v) (Judged w v)
verdict_by_table w v = (
  (λ e. let l = some_line w in
      subst (λ (x : Verdict). Judged w x) (sym (table_verdict w l.0 l.1) ∙ e) l.1),
  table_verdict w v,
)

-- Accepted exactly when every condition holds, and then as that packet.
pub accepted_exactly : (w : List ℕ) (p : Packet) → Exactly (verdict w ≡ result p) (SoundPacket w p)
accepted_exactly w p = (
  (λ e. found (result p) ((verdict_by_table w (result p)).0 e) p refl),
  (λ s. table_verdict w (result p) (sound p s)),
)
  where
    found : (v : Verdict) → Judged w v → (p : Packet) → v ≡ result p → SoundPacket w p
    found v (truncated n) p e = let z : ◌≡◌ {A = ℕ} 0 1 = cc in absurd (omega arith)
    found v (long t n) p e = let z : ◌≡◌ {A = ℕ} 0 1 = cc in absurd (omega arith)
    found v (short t l n) p e = let z : ◌≡◌ {A = ℕ} 0 1 = cc in absurd (omega arith)
    found v (bad_character t l k n) p e = let z : ◌≡◌ {A = ℕ} 0 1 = cc in absurd (omega arith)
    found v (bad_sum t l k a n) p e = let z : ◌≡◌ {A = ℕ} 0 1 = cc in absurd (omega arith)
    found v (sound h s) p e = let q : h ≡ p = cc in subst (λ (x : Packet). SoundPacket w x) q s

-- Demand 2's "accepted exactly when": as some packet exactly when limit, length, characters and checksum are right.
pub accepted_when : (w : List ℕ) → Exactly ((p : Packet) × (verdict w ≡ result p)) (Sound w)
accepted_when w = (
  (λ p. ((accepted_exactly w p.0).0 p.1).slice),
  (λ s. let p = sound_packet w s in (p.0, (accepted_exactly w p.0).1 p.1)),
)

-- ---- with an output

module _ (w out : List ℕ) where
  read_line : (v : Verdict) → Judged w v → ReadJudged w out (read_answer v (length out)) (read_out v out)
  unfolding read_answer read_out draft_out
  read_line (refused n) j = refused_by j
  read_line (result p) j =
      let s = (accepted_exactly w p).0 (table_verdict w (result p) j) in
      by_bool (leb (length p.unit) (length out))
      (λ y. simp y (fits s (leb-true _ _ y)))
      (λ n. simp n (no_room s (leb-false _ _ n)))

  line_read : (a : Answer PacketOutline) (last : List ℕ) → ReadJudged w out a last → Reads w out a last
  line_read a last (refused_by {n = n} j) = read_refused (verdict w) out n (table_verdict w (refused n) j)
  line_read a last (no_room {p = p} s h) = read_no_room (verdict w) out p ((accepted_exactly w p).1 s) h
  line_read a last (fits {p = p} s h) =
      read_done (verdict w) out p _ ((accepted_exactly w p).1 s) h (sym (simp zero-add))

  -- Every answer to reading a slice, with the output that is left, is given exactly when the table gives it, 1
  -- included.
  pub read_by_table : (a : Answer PacketOutline) (last : List ℕ) → Exactly (Reads w out a last) (ReadJudged w out a last)
  read_by_table a last = (
    (λ p. subst (λ (l : List ℕ). ReadJudged w out a l) (sym p.1)
        (subst (λ (x : Answer PacketOutline). ReadJudged w out x (read_out (verdict w) out)) (sym p.0)
        (read_line (verdict w) ((verdict_by_table w (verdict w)).0 refl)))),
    line_read a last,
  )

  -- The answer of a call that reads and the output that it left are given ones exactly when the table gives those.
  pub reads_exactly : (a b : Answer PacketOutline) (last left : List ℕ) → Reads w out a last
      → Exactly ((a ≡ b) × (last ≡ left)) (ReadJudged w out b left)
  reads_exactly a b last left p = both_exactly p (read_by_table b left)

-- ---- writing

module _ (p : Packet) where
  draft_over : (WithinLimit (wire_of p) → ⊥) → packet_draft p ≡ refused 2
  draft_over n =
      by_bool (leb (length (wire_of p)) 256) (λ y. absurd (n (leb-true _ _ y)))
      (λ y. draft_long p (omega (arith, wire_length p, leb-false (length (wire_of p)) 256 y)))

  draft_improper : WithinLimit (wire_of p) → (Proper p → ⊥) → packet_draft p ≡ refused 22
  draft_improper l n =
      draft_character p (omega (arith, wire_length p, l))
      (by_bool (is_proper p) (λ y. absurd (n (proper_means p y))) (λ y. y))

  draft_whole : WithinLimit (wire_of p) → Proper p → packet_draft p ≡ result (wire_of p)
  draft_whole l k = draft_fits p (omega (arith, wire_length p, l)) (proper_is p k)

module _ (p : Packet) (out : List ℕ) where
  line_write : (a : Answer ℕ) (last : List ℕ) → WriteJudged p out a last → Writes (packet_draft p) out a last
  line_write a last (over_limit n) = writes_refusal (packet_draft p) 2 out (draft_over p n)
  line_write a last (not_proper l n) = writes_refusal (packet_draft p) 22 out (draft_improper p l n)
  line_write a last (no_room_to_write l k h) = writes_no_room (packet_draft p) (wire_of p) out (draft_whole p l k) h
  line_write a last (written l k h) =
      writes_done (packet_draft p) (wire_of p) out _ (draft_whole p l k) h (sym (simp zero-add))

  write_line : (a : Answer ℕ) × (last : List ℕ) × WriteJudged p out a last
  write_line =
      by_bool (leb (length (wire_of p)) 256)
      (λ l. by_bool (is_proper p)
      (λ k. by_bool (leb (length (wire_of p)) (length out))
      (λ h. (result (length (wire_of p)), _, written (leb-true _ _ l) (proper_means p k) (leb-true _ _ h)))
      (λ h. (refused 1, out, no_room_to_write (leb-true _ _ l) (proper_means p k) (leb-false _ _ h))))
      (λ k. (refused 22, out, not_proper (leb-true _ _ l) (λ q. true≢false (sym (proper_is p q) ∙ k)))))
      (λ l. (refused 2, out, over_limit (λ m. absurd (omega (arith, m, leb-false (length (wire_of p)) 256 l)))))

  -- Every answer to writing a packet, with the output that is left, is given exactly when the table gives it.
  pub written_by_table : (a : Answer ℕ) (last : List ℕ)
      → Exactly (Writes (packet_draft p) out a last) (WriteJudged p out a last)
  written_by_table = lines_exactly (packet_draft p) out (WriteJudged p out) line_write write_line

  -- The answer of a call that writes and the output that it left are given ones exactly when the table gives those.
  pub writes_exactly : (a b : Answer ℕ) (last left : List ℕ) → Writes (packet_draft p) out a last
      → Exactly ((a ≡ b) × (last ≡ left)) (WriteJudged p out b left)
  writes_exactly a b last left q = both_exactly q (written_by_table b left)
