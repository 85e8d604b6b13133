-- Laws of the verdict: its shape test, its refusals one by one, and the packet that it accepts.
use Prim.Native.Nat.{ℕ, suc, ◌+◌, ◌-◌, ◌≤◌, ◌<◌}
use mathlib.Core.Path.{◌≡◌, sym, ap, ◌∙◌}
use mathlib.Core.Bool.{true, false}
use mathlib.Core.List.{List, [], ◌∷◌, ◌++◌}
use native.Mathlib.Omega.{arith}
use lib.Dec.{leb, eqb}
use lib.ListN.{length, get_or, take, drop, length-append, length-drop}
use lib.Seq.{take_at, get_or_at, take-suc, take_all, get_or-drop, drop-cons, length-take-le}
use borrow.Author.Tests.{leb-true, eqb-true, lt-leb, le-leb, eq-eqb}
use Rattle.lists.proofs.Cases.{by_bool, both_true}
use Rattle.answer.specs.Answer.{result, refused}
use Rattle.coscom.specs.Flags.{start_flag, stop_flag, candidate_of, flagless}
use Rattle.coscom.specs.Packet.{Packet}
use Rattle.coscom.specs.Verdict.{packet_in, is_spelt, is_summed, judge, body_of, is_bounded, is_terminated}
use Rattle.coscom.specs.Verdict.{verdict}

-- ---- 01, a body and 17

module _ (body : List ℕ) where
  pub whole_length : length (candidate_of body) ≡ length body + 2
  whole_length = omega (arith, length-append body (stop_flag ∷ []))

  pub whole_body : body_of (candidate_of body) ≡ body
  whole_body = take_at body (stop_flag ∷ []) (length (candidate_of body) - 2) (omega (arith, whole_length))

  whole_stop : get_or (candidate_of body) (length (candidate_of body) - 1) 0 ≡ stop_flag
  whole_stop =
      get_or_at (start_flag ∷ body) stop_flag [] 0 (length (candidate_of body) - 1) (omega (arith, whole_length))

  whole_bounded : is_bounded (candidate_of body) ≡ true
  unfolding is_bounded
  whole_bounded =
      simp (le-leb 2 (length (candidate_of body)) (omega (arith, whole_length)), eq-eqb _ stop_flag whole_stop)

  pub whole_terminated : flagless body ≡ true → is_terminated (candidate_of body) ≡ true
  unfolding is_terminated
  whole_terminated e = simp (whole_bounded, whole_body, e)

  pub whole_flagged : flagless body ≡ false → verdict (candidate_of body) ≡ refused 6
  unfolding verdict is_terminated
  whole_flagged e = simp (whole_bounded, whole_body, e)

  pub whole_flagless : flagless body ≡ true → verdict (candidate_of body) ≡ judge body
  unfolding verdict is_terminated
  whole_flagless e = simp (whole_bounded, whole_body, e)

pub bounded_whole : (w : List ℕ) → is_bounded w ≡ true → w ≡ candidate_of (body_of w)
unfolding is_bounded
bounded_whole w h =
    let a = both_true (leb 2 (length w)) _ h in
    let b = both_true (eqb (get_or w 0 0) start_flag) _ a.1 in
    let two : 2 ≤ length w = leb-true _ _ a.0 in
    let n : suc (length w - 2) ≡ length w - 1 = omega (arith, two) in
    let k : 1 + (length w - 2) ≡ length w - 1 = omega (arith, two) in
    let l : length (drop 1 w) ≡ length w - 1 = length-drop 1 w in
    drop-cons w 0 0 (omega (arith, two))
    ∙ ap (λ (x : ℕ). x ∷ drop 1 w) (eqb-true _ _ b.0)
    ∙ ap (λ (t : List ℕ). start_flag ∷ t)
    (sym (take_all (suc (length w - 2)) (drop 1 w) (omega arith))
    ∙ take-suc (drop 1 w) (length w - 2) 0 (omega (arith, two))
    ∙ ap (λ (x : ℕ). body_of w ++ (x ∷ []))
    (get_or-drop 1 w (length w - 2) 0 ∙ ap (λ (i : ℕ). get_or w i 0) k ∙ eqb-true _ _ b.1))

pub bounded_long : (w : List ℕ) → is_bounded w ≡ true → 2 ≤ length w
unfolding is_bounded
bounded_long w h = leb-true _ _ (both_true (leb 2 (length w)) _ h).0

-- what stands between the ends, as code takes it
pub bounded_part : (w : List ℕ) → is_bounded w ≡ true → verdict (candidate_of (take (length w - 1 - 1) (drop 1 w))) ≡ verdict w
bounded_part w h =
    let n : length w - 1 - 1 ≡ length w - 2 = omega arith in
    ap (λ (i : ℕ). verdict (candidate_of (take i (drop 1 w)))) n ∙ ap verdict (sym (bounded_whole w h))

pub verdict_unbounded : (w : List ℕ) → is_bounded w ≡ false → verdict w ≡ refused 6
unfolding verdict is_terminated
verdict_unbounded w h = simp h

pub verdict_terminated : (w : List ℕ) → is_terminated w ≡ false → verdict w ≡ refused 6
unfolding verdict
verdict_terminated w h = simp h

pub terminated_means : (w : List ℕ) → is_terminated w ≡ true → (w ≡ candidate_of (body_of w)) × (flagless (body_of w) ≡ true)
unfolding is_terminated
terminated_means w h = let b = both_true (is_bounded w) _ h in (bounded_whole w b.0, b.1)

-- ---- the refusals on a body, one by one

pub judge_long : (body : List ℕ) → 254 < length body → judge body ≡ refused 2
unfolding judge
judge_long body h = simp (lt-leb (length body + 2) 256 (omega arith))

module _ (body : List ℕ) (limit : length body ≤ 254) where
  pub judge_short : length body < 5 → judge body ≡ refused 4
  unfolding judge
  judge_short h = simp (le-leb (length body + 2) 256 (omega arith), lt-leb 5 (length body) h)

  module _ (enough : 5 ≤ length body) where
    pub judge_character : is_spelt body ≡ false → judge body ≡ refused 22
    unfolding judge
    judge_character e = simp (le-leb (length body + 2) 256 (omega arith), le-leb 5 (length body) enough, e)

    pub judge-sum : is_spelt body ≡ true → is_summed body ≡ false → judge body ≡ refused 5
    unfolding judge
    judge-sum e n = simp (le-leb (length body + 2) 256 (omega arith), le-leb 5 (length body) enough, e, n)

    pub judge_sound : is_spelt body ≡ true → is_summed body ≡ true → judge body ≡ result (packet_in body)
    unfolding judge
    judge_sound e q = simp (le-leb (length body + 2) 256 (omega arith), le-leb 5 (length body) enough, e, q)

-- ---- what a body that is accepted is

-- A body that is accepted as a packet.
pub record Accepts (body : List ℕ) (p : Packet) : Type 0 where
  pub within_limit : length body ≤ 254
  pub enough : 5 ≤ length body
  pub spelt : is_spelt body ≡ true
  pub packet_is : packet_in body ≡ p

pub judge_accepts : (body : List ℕ) (p : Packet) → judge body ≡ result p → Accepts body p
unfolding judge
judge_accepts body p e =
    by_bool (leb (length body + 2) 256)
    (λ a. by_bool (leb 5 (length body))
    (λ b. by_bool (is_spelt body)
    (λ c. by_bool (is_summed body)
    (λ d. let q : result (packet_in body) ≡ result p = simp (a, b, c, d) at e in
    let r : packet_in body ≡ p = cc in
    record { within_limit = omega (arith, leb-true (length body + 2) 256 a); enough = leb-true _ _ b; spelt = c; packet_is = r })
    (λ d. let q : refused 5 ≡ result p = simp (a, b, c, d) at e in
    let z : ◌≡◌ {A = ℕ} 0 1 = cc in absurd (omega arith)))
    (λ c. let q : refused 22 ≡ result p = simp (a, b, c) at e in
    let z : ◌≡◌ {A = ℕ} 0 1 = cc in absurd (omega arith)))
    (λ b. let q : refused 4 ≡ result p = simp (a, b) at e in
    let z : ◌≡◌ {A = ℕ} 0 1 = cc in absurd (omega arith)))
    (λ a. let q : refused 2 ≡ result p = simp a at e in
    let z : ◌≡◌ {A = ℕ} 0 1 = cc in absurd (omega arith))

-- the same of a candidate
pub whole_accepts : (body : List ℕ) (p : Packet) → verdict (candidate_of body) ≡ result p → Accepts body p
whole_accepts body p e =
    by_bool (flagless body)
    (λ y. judge_accepts body p (sym (whole_flagless body y) ∙ e))
    (λ n. let q : refused 6 ≡ result p = sym (whole_flagged body n) ∙ e in
    let z : ◌≡◌ {A = ℕ} 0 1 = cc in absurd (omega arith))

-- its data unit
pub unit_in : (body : List ℕ) (p : Packet) → Accepts body p
    → (length p.unit + 5 ≡ length body) × (p.unit ≡ take (length p.unit) (drop 3 body))
unfolding packet_in
unit_in body p a =
    let u : take (length body - 5) (drop 3 body) ≡ p.unit = ap (λ (x : Packet). x.unit) a.packet_is in
    let l : length (take (length body - 5) (drop 3 body)) ≡ length body - 5 =
    length-take-le (length body - 5) (drop 3 body) (omega (arith, length-drop 3 body, a.enough)) in
    let m : length body - 5 ≡ length p.unit = sym l ∙ ap length u in
    (omega (arith, m, a.enough), sym u ∙ ap (λ (i : ℕ). take i (drop 3 body)) m)
