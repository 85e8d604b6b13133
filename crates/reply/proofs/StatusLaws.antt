-- The status byte, from and to.
use Prim.Native.Nat.{ℕ, zero, suc, ◌+◌, ◌*◌, ◌/◌, ◌%◌, ◌≤◌, ◌<◌}
use mathlib.Core.Path.{◌≡◌, refl, sym, ap, ◌∙◌, subst}
use mathlib.Core.Bool.{Bool, true, false, true≢false}
use native.Mathlib.Omega.{arith}
use native.Mathlib.Nat.{div-add-mod, div-div-eq-div-mul, div-eq_of_lt, div-eq_of_lt-le, mod-eq_of_lt}
use native.Mathlib.Nat.{add-mul-mod_self_left, add-mul-div_left, mul-mod_right}
use lib.Dec.{leb, ltb, eqb}
use borrow.Author.Tests.{eqb-false, leb-true, leb-false, le-leb, lt-leb, ltb-true, lt-ltb, eq-eqb, ne_eqb, eqb-true}
use Rattle.lists.specs.Choice.{pick, Exactly}
use Rattle.lists.proofs.Cases.{by_bool}
use Rattle.answer.specs.Answer.{Answer, result, refused}
use Rattle.reply.specs.Status.{State, error, ready, idle, have_id, in_use, pause, finish, manual, offline}
use Rattle.reply.specs.Status.{state_number, Previous, ok, reject, bad, not_ready, previous_number, StatusParts}
use Rattle.reply.specs.Status.{status, is_state, status_of, status_in, status_byte, NamedStatus, parts_named}
use Rattle.reply.specs.Status.{StatusNamed, StatusByte, NoStatus, StatusJudged, is_status, is_fault, Fault}
use Rattle.reply.specs.Status.{bit_six, no_state, PartsJudged, byte_named, have_names, nameless}

-- ---- names and numbers

pub no_name : (n : ℕ) → ((n ≡ 4 → ⊥) → 9 < n) → is_state n ≡ false
unfolding is_state
no_name n h = by_bool (eqb n 4) (λ y. simp y) (λ y. simp y (lt-leb n 9 (h (eqb-false n 4 y))))

state_bound : (s : ℕ) → is_state s ≡ true → s ≤ 9
unfolding is_state
state_bound s h =
    by_bool (eqb s 4) (λ y. absurd (true≢false (sym (simp y at h)))) (λ y. leb-true s 9 (simp y at h))

-- a number is a state's exactly when a state has it
state_named : (n : ℕ) → is_state n ≡ true → (s : State) × (n ≡ state_number s)
unfolding is_state
state_named zero h = (error, refl)
state_named (suc zero) h = (ready, refl)
state_named (suc (suc zero)) h = (idle, refl)
state_named (suc (suc (suc zero))) h = (have_id, refl)
state_named (suc (suc (suc (suc zero)))) h = absurd (true≢false (sym h))
state_named (suc (suc (suc (suc (suc zero))))) h = (in_use, refl)
state_named (suc (suc (suc (suc (suc (suc zero)))))) h = (pause, refl)
state_named (suc (suc (suc (suc (suc (suc (suc zero))))))) h = (finish, refl)
state_named (suc (suc (suc (suc (suc (suc (suc (suc zero)))))))) h = (manual, refl)
state_named (suc (suc (suc (suc (suc (suc (suc (suc (suc zero))))))))) h = (offline, refl)
state_named (suc (suc (suc (suc (suc (suc (suc (suc (suc (suc n)))))))))) h =
    absurd (omega (arith, state_bound (suc (suc (suc (suc (suc (suc (suc (suc (suc (suc n)))))))))) h))

named_state : (s : State) → is_state (state_number s) ≡ true
unfolding is_state
named_state error = refl
named_state ready = refl
named_state idle = refl
named_state have_id = refl
named_state in_use = refl
named_state pause = refl
named_state finish = refl
named_state manual = refl
named_state offline = refl

previous_named : (n : ℕ) → n ≤ 3 → (p : Previous) × (n ≡ previous_number p)
previous_named zero h = (ok, refl)
previous_named (suc zero) h = (reject, refl)
previous_named (suc (suc zero)) h = (bad, refl)
previous_named (suc (suc (suc zero))) h = (not_ready, refl)
previous_named (suc (suc (suc (suc n)))) h = absurd (omega arith)

named_previous : (p : Previous) → previous_number p ≤ 3
named_previous ok = omega arith
named_previous reject = omega arith
named_previous bad = omega arith
named_previous not_ready = omega arith

-- ---- parts

-- what a status of three parts is answered, by what its numbers name
pub of_named : (t : Bool) (p : Previous) (s : State) {n k : ℕ} → previous_number p ≡ n → state_number s ≡ k
    → result (status t (previous_number p) (state_number s)) ≡ status_of t n k
unfolding status_of
of_named t p s {n} e f =
    sym (simp (le-leb (previous_number p) 3 (named_previous p), named_state s))
    ∙ ap (λ (x : ℕ). status_of t x (state_number s)) e ∙ ap (status_of t n) f

pub no_result : (t : Bool) (n k : ℕ) → 3 < n → refused 8 ≡ status_of t n k
unfolding status_of
no_result t n k h = simp (lt-leb n 3 h)

pub result_alone : (t : Bool) (p : Previous) {n : ℕ} (k : ℕ) → previous_number p ≡ n → is_state k ≡ false
    → refused 8 ≡ status_of t n k
unfolding status_of
result_alone t p k e h =
    sym (simp (le-leb (previous_number p) 3 (named_previous p), h)) ∙ ap (λ (x : ℕ). status_of t x k) e

-- what parts are told
sound_parts : (t : Bool) (p s : ℕ) (u : StatusParts) → status_of t p s ≡ result u
    → (u ≡ status t p s) × (p ≤ 3) × (is_state s ≡ true)
unfolding status_of
sound_parts t p s u e =
    by_bool (leb p 3)
    (λ x. by_bool (is_state s)
    (λ y. let q : result (status t p s) ≡ result u = simp (x, y) at e in
    let i : u ≡ status t p s = cc in (i, leb-true p 3 x, y))
    (λ y. let q : refused 8 ≡ result u = simp (x, y) at e in let z : ◌≡◌ {A = ℕ} 0 1 = cc in absurd (omega arith)))
    (λ x. let q : refused 8 ≡ result u = simp x at e in let z : ◌≡◌ {A = ℕ} 0 1 = cc in absurd (omega arith))

parts_8 : (t : Bool) (p s k : ℕ) → status_of t p s ≡ refused k → k ≡ 8
unfolding status_of
parts_8 t p s k e =
    by_bool (leb p 3)
    (λ x. by_bool (is_state s)
    (λ y. let q : result (status t p s) ≡ refused k = simp (x, y) at e in
    let z : ◌≡◌ {A = ℕ} 0 1 = cc in absurd (omega arith))
    (λ y. let q : refused 8 ≡ refused k = simp (x, y) at e in cc))
    (λ x. let q : refused 8 ≡ refused k = simp x at e in cc)

parts_named_lem : (t : Bool) (p s : ℕ) → p ≤ 3 → is_state s ≡ true → StatusNamed (status t p s)
parts_named_lem t p s h k =
    let a = previous_named p h in
    let b = state_named s k in
    record {
      named = record { toggle = t; previous = a.0; state = b.0 };
      parts = ap (λ (x : ℕ). status t x s) a.1 ∙ ap (λ (x : ℕ). status t (previous_number a.0) x) b.1;
    }

pub named_result : (t : Bool) (p s : ℕ) (u : StatusParts) → status_of t p s ≡ result u
    → (u ≡ status t p s) × StatusNamed (status t p s)
named_result t p s u e = let k = sound_parts t p s u e in (k.0, parts_named_lem t p s k.1 k.2)

-- the answer for parts, as a function of them
abbrev pub parts_answer : StatusParts → Answer StatusParts
parts_answer (status t p s) = status_of t p s

pub named_parts : (u : StatusParts) → StatusNamed u → parts_answer u ≡ result u
unfolding status_of
named_parts u k =
    let n = k.named in
    ap parts_answer k.parts
    ∙ (simp (le-leb (previous_number n.previous) 3 (named_previous n.previous), named_state n.state))
    ∙ ap result (sym k.parts)

-- Parts are answered as a status exactly when they have names, and with 8 exactly when they have none.
pub parts_by_table : (t : Bool) (p s : ℕ) (a : Answer StatusParts)
    → Exactly (status_of t p s ≡ a) (PartsJudged (status t p s) a)
parts_by_table t p s a = (
  (λ e. subst (λ (x : Answer StatusParts). PartsJudged (status t p s) x) e (judged (status_of t p s) refl)),
  told a,
)
  where
    judged : (x : Answer StatusParts) → status_of t p s ≡ x → PartsJudged (status t p s) x
    judged (result u) e =
        let k = sound_parts t p s u e in
        subst (λ (v : StatusParts). PartsJudged (status t p s) (result v)) (sym k.0)
        (have_names (parts_named_lem t p s k.1 k.2))
    judged (refused k) e =
        subst (λ (n : ℕ). PartsJudged (status t p s) (refused n)) (sym (parts_8 t p s k e))
        (nameless (λ j. let q : result (status t p s) ≡ refused k = sym (named_parts (status t p s) j) ∙ e in
        let z : ◌≡◌ {A = ℕ} 0 1 = cc in omega arith))

    none : (x : Answer StatusParts) → status_of t p s ≡ x → (StatusNamed (status t p s) → ⊥) → status_of t p s ≡ refused 8
    none (result u) e n = let k = sound_parts t p s u e in absurd (n (parts_named_lem t p s k.1 k.2))
    none (refused k) e n = e ∙ ap refused (parts_8 t p s k e)

    told : (x : Answer StatusParts) → PartsJudged (status t p s) x → status_of t p s ≡ x
    told x (have_names j) = named_parts (status t p s) j
    told x (nameless n) = none (status_of t p s) refl n

-- ---- bytes

-- a byte is its bits
digits : (b : ℕ) → b ≡ 128 * (b / 128) + (64 * (b / 64 % 2) + (16 * (b / 16 % 4) + b % 16))
digits b =
    omega (
      arith,
      div-add-mod b 16,
      div-add-mod (b / 16) 4,
      div-div-eq-div-mul b 16 4,
      div-add-mod
          (b / 64) 2,
      div-div-eq-div-mul b 64 2,
    )

top_bit : (b : ℕ) → b < 256 → 128 * (b / 128) ≡ pick (leb 128 b) 128 0
top_bit b h = ap (λ (x : ℕ). 128 * x) half ∙ times (leb 128 b)
  where
    half : b / 128 ≡ pick (leb 128 b) 1 0
    half =
        by_bool (leb 128 b)
        (λ y. simp y (div-eq_of_lt-le 128 (omega (arith, leb-true 128 b y)) (omega arith)))
        (λ y. simp y (div-eq_of_lt (leb-false 128 b y)))

    times : (t : Bool) → 128 * pick t 1 0 ≡ pick t 128 0
    times true = refl
    times false = refl

-- the number that parts make
abbrev byte_as : StatusParts → ℕ
byte_as (status t p s) = pick t 128 0 + (16 * p + s)

-- what a sound byte holds
sound_means : (b : ℕ) (u : StatusParts) → status_in b ≡ result u
    → (b < 256) × (b / 64 % 2 ≡ 0) × (status_of (leb 128 b) (b / 16 % 4) (b % 16) ≡ result u)
unfolding status_in
sound_means b u e =
    by_bool (ltb b 256)
    (λ x. by_bool (eqb (b / 64 % 2) 0)
    (λ y. (ltb-true b 256 x, eqb-true (b / 64 % 2) 0 y, simp (x, y) at e))
    (λ y. let q : refused 8 ≡ result u = simp (x, y) at e in let z : ◌≡◌ {A = ℕ} 0 1 = cc in absurd (omega arith)))
    (λ x. let q : refused 8 ≡ result u = simp x at e in let z : ◌≡◌ {A = ℕ} 0 1 = cc in absurd (omega arith))

refused_8 : (b k : ℕ) → status_in b ≡ refused k → k ≡ 8
unfolding status_in
refused_8 b k e =
    by_bool (ltb b 256)
    (λ x. by_bool (eqb (b / 64 % 2) 0)
    (λ y. parts_8 (leb 128 b) (b / 16 % 4) (b % 16) k (simp (x, y) at e))
    (λ y. let q : refused 8 ≡ refused k = simp (x, y) at e in cc))
    (λ x. let q : refused 8 ≡ refused k = simp x at e in cc)

pub sound_byte : (b : ℕ) (u : StatusParts) → status_in b ≡ result u → StatusByte b u
sound_byte b u e =
    let m = sound_means b u e in
    let k = sound_parts (leb 128 b) (b / 16 % 4) (b % 16) u m.2 in
    let n = parts_named_lem (leb 128 b) (b / 16 % 4) (b % 16) k.1 k.2 in
    record {
      named = n.named;
      byte = glue b (128 * (b / 128)) (b / 64 % 2) (b / 16 % 4) (b % 16) (pick (leb 128 b) 128 0) (digits b) m.1
          (top_bit b m.0) ∙ ap byte_as n.parts;
      parts = k.0 ∙ n.parts;
    }
  where
    glue : (n h c q r v : ℕ) → n ≡ h + (64 * c + (16 * q + r)) → c ≡ 0 → h ≡ v → n ≡ v + (16 * q + r)
    glue n h c q r v e₀ e₁ e₂ = omega arith

-- the bits of a byte that is made of them
module _ (t p s : ℕ) (hp : p ≤ 3) (hs : s ≤ 9) where
  made : ℕ
  made = s + 16 * (p + 4 * (2 * t))

  made_low : made % 16 ≡ s
  unfolding made
  made_low = add-mul-mod_self_left s 16 (p + 4 * (2 * t)) ∙ mod-eq_of_lt {n = s} {m = 16} (omega arith)

  made_high : made / 16 ≡ p + 4 * (2 * t)
  unfolding made
  made_high =
      add-mul-div_left s (p + 4 * (2 * t)) (omega arith)
      ∙ omega (arith, div-eq_of_lt {n = s} {m = 16} (omega arith))

  made_previous : made / 16 % 4 ≡ p
  made_previous =
      ap (λ (x : ℕ). x % 4) made_high ∙ add-mul-mod_self_left p 4 (2 * t) ∙ mod-eq_of_lt {n = p} {m = 4} (omega arith)

  made_clear : made / 64 % 2 ≡ 0
  made_clear =
      ap (λ (x : ℕ). x % 2) (sym (div-div-eq-div-mul made 16 4) ∙ ap (λ (x : ℕ). x / 4) made_high
      ∙ add-mul-div_left p (2 * t) (omega arith) ∙ omega (arith, div-eq_of_lt {n = p} {m = 4} (omega arith)))
      ∙ mul-mod_right 2 t

byte_made : (b : ℕ) (t : Bool) (n p s : ℕ) → (hp : p ≤ 3) → (hs : s ≤ 9) → is_state s ≡ true → b ≡ made n p s hp hs
    → b < 256 → leb 128 b ≡ t → status_in b ≡ result (status t p s)
unfolding status_in status_of
byte_made b t n p s hp hs k e h l =
    let i : b % 16 ≡ s = ap (λ (x : ℕ). x % 16) e ∙ made_low n p s hp hs in
    let j : b / 16 % 4 ≡ p = ap (λ (x : ℕ). x / 16 % 4) e ∙ made_previous n p s hp hs in
    let c : b / 64 % 2 ≡ 0 = ap (λ (x : ℕ). x / 64 % 2) e ∙ made_clear n p s hp hs in
    simp (lt-ltb b 256 h, eq-eqb (b / 64 % 2) 0 c, i, j, l, le-leb p 3 hp, k)

-- the byte of parts that have names reads as those parts
parts_again : (t : Bool) (p s : ℕ) → p ≤ 3 → is_state s ≡ true
    → status_in (byte_as (status t p s)) ≡ result (status t p s)
unfolding made
parts_again true p s hp k =
    let hs = state_bound s k in
    byte_made (128 + (16 * p + s)) true 1 p s hp hs k (omega arith) (omega arith)
    (le-leb 128 (128 + (16 * p + s)) (omega arith))
parts_again false p s hp k =
    let hs = state_bound s k in
    byte_made (0 + (16 * p + s)) false 0 p s hp hs k (omega arith) (omega arith)
    (lt-leb 128 (0 + (16 * p + s)) (omega arith))

pub byte_sound : (b : ℕ) (u : StatusParts) → StatusByte b u → status_in b ≡ result u
byte_sound b u k =
    let n = k.named in
    ap status_in k.byte
    ∙ parts_again n.toggle (previous_number n.previous) (state_number n.state) (named_previous n.previous)
    (named_state n.state) ∙ ap result (sym k.parts)

-- ---- the laws

-- What is made of a status that has names is its byte.
pub made_of_names : (n : NamedStatus)
    → status_byte n.toggle (previous_number n.previous) (state_number n.state) ≡ byte_named n
unfolding status_byte
made_of_names n =
    let hp = named_previous n.previous in
    let hs = state_bound (state_number n.state) (named_state n.state) in
    omega (
      arith,
      mod-eq_of_lt {n = previous_number n.previous} {m = 4} (omega arith),
      mod-eq_of_lt {n = state_number n.state} {m = 16} (omega arith),
    )

-- the byte that is made of parts
abbrev pub made_of : StatusParts → ℕ
made_of (status t p s) = status_byte t p s

-- A sound byte, read and made again, is the byte.
pub byte_again : (b : ℕ) (t : Bool) (p s : ℕ) → status_in b ≡ result (status t p s) → status_byte t p s ≡ b
byte_again b t p s e =
    let k = sound_byte b (status t p s) e in ap made_of k.parts ∙ made_of_names k.named ∙ sym k.byte

-- A status that has names, made and read again, is the status: no sound byte is refused.
pub status_again : (n : NamedStatus)
    → status_in (status_byte n.toggle (previous_number n.previous) (state_number n.state)) ≡ result (parts_named n)
status_again n =
    ap status_in (made_of_names n)
    ∙ byte_sound (byte_named n) (parts_named n) (record { named = n; byte = refl; parts = refl })

-- a byte that is refused is a fault
pub refused_fault : (b k : ℕ) → status_in b ≡ refused k → (k ≡ 8) × NoStatus b
refused_fault b k e = (
  refused_8 b k e,
  (λ t j. let q : result t ≡ refused k = sym (byte_sound b t j) ∙ e in
      let z : ◌≡◌ {A = ℕ} 0 1 = cc in omega arith),
)

-- A byte is answered with the parts of its status exactly when it is the byte of one, and with 8 exactly when it is the
-- byte of none.
pub status_by_table : (b : ℕ) (a : Answer StatusParts) → Exactly (status_in b ≡ a) (StatusJudged b a)
status_by_table b a = ((λ e. subst (λ (x : Answer StatusParts). StatusJudged b x) e (judged (status_in b) refl)), told a)
  where
    judged : (x : Answer StatusParts) → status_in b ≡ x → StatusJudged b x
    judged (result t) e = is_status t (sound_byte b t e)
    judged (refused k) e =
        let q = refused_fault b k e in
        subst (λ (n : ℕ). StatusJudged b (refused n)) (sym q.0) (is_fault q.1)

    none : (x : Answer StatusParts) → status_in b ≡ x → NoStatus b → status_in b ≡ refused 8
    none (result t) e n = absurd (n t (sound_byte b t e))
    none (refused k) e n = e ∙ ap refused (refused_8 b k e)

    told : (x : Answer StatusParts) → StatusJudged b x → status_in b ≡ x
    told x (is_status t j) = byte_sound b t j
    told x (is_fault n) = none (status_in b) refl n

-- ---- faults by their bits

-- A byte is the byte of no status exactly when bit 6 is set or bits 3 to 0 are no state's number.
pub fault_exactly : (b : ℕ) → b < 256 → Exactly (NoStatus b) (Fault b)
unfolding status_in status_of
fault_exactly b h = (
  (λ n. by_bool (eqb (b / 64 % 2) 0)
      (λ y. by_bool (is_state (b % 16))
      (λ z. absurd (n (status (leb 128 b) (b / 16 % 4) (b % 16)) (sound_byte b
      (status (leb 128 b) (b / 16 % 4) (b % 16)) (simp (in_byte, y, z, in_two)))))
      (λ z. no_state (λ s e. true≢false (sym (named_state s) ∙ ap is_state (sym e) ∙ z))))
      (λ y. let z = eqb-false (b / 64 % 2) 0 y in bit_six (omega arith))),
  (λ f. (refused_fault b 8 (refused_by_lem f)).1),
)
  where
    in_byte : ltb b 256 ≡ true
    in_byte = lt-ltb b 256 h

    in_two : leb (b / 16 % 4) 3 ≡ true
    in_two = le-leb (b / 16 % 4) 3 (omega arith)

    refused_by_lem : Fault b → status_in b ≡ refused 8
    refused_by_lem (bit_six e) = simp (in_byte, ne_eqb (b / 64 % 2) 0 (λ z. omega arith))
    refused_by_lem (no_state f) =
        by_bool (is_state (b % 16))
        (λ z. let s = state_named (b % 16) z in absurd (f s.0 s.1))
        (λ z. by_bool (eqb (b / 64 % 2) 0) (λ y. simp (in_byte, y, z, in_two)) (λ y. simp (in_byte, y)))
