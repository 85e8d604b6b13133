-- A history on a table, answer by answer as the definitions say, and the token that it leaves at an address.
use Prim.Native.Nat.{ℕ, ◌≤◌, ◌<◌}
use mathlib.Core.Path.{◌≡◌, refl, sym, ap, ◌∙◌, subst}
use mathlib.Core.Bool.{true, false}
use mathlib.Core.List.{List, [], ◌∷◌, ◌++◌}
use native.Mathlib.Omega.{arith}
use lib.Dec.{eqb, ltb}
use lib.ListN.{length, get_or, set, length-set, get_or-replicate, get_or-eq_default}
use lib.Seq.{get_or-set_same, get_or-set_other}
use borrow.Author.Tests.{eqb-true, eqb-false, eq-eqb, le-leb, ltb-true, ltb-false}
use Rattle.lists.specs.Choice.{pick}
use Rattle.lists.specs.Machine.{left_after}
use Rattle.lists.proofs.Cases.{by_bool}
use Rattle.frame.specs.Address.{in_range}
use Rattle.answer.specs.Answer.{Answer, result, refused}
use Rattle.lease.specs.Lease.{LeaseCall, hold, release, stop, answer_of, table_answer, table_left}
use Rattle.lease.specs.Lease.{table_after}
use Rattle.lease.specs.History.{new_table, answers_on, Exchange, calls_of, answers_of, Accepted, LastHold}
use Rattle.lease.specs.Leases.{InRange}
use Rattle.lease.proofs.LeaseLaws.{range_means, accepted_range}
use Rattle.lease.proofs.HistoryLaws.{lease_left, leased_to, last_hold_leaves, leased_last_hold}

-- Each call of a history was answered as the table says that the call before it left.
abbrev pub Follows : List ℕ → List Exchange → Type 0
Follows ts [] = Unit {0}
Follows ts (e ∷ es) = (e.answer ≡ table_answer ts e.call) × Follows (table_after ts e.call) es

-- The table after a history.
abbrev pub table_by : List ℕ → List Exchange → List ℕ
table_by ts es = left_after (λ (us : List ℕ) (e : Exchange). table_after us e.call) ts es

-- Answers that are a table's to the calls follow it.
pub follows_answers : (ts : List ℕ) (es : List Exchange) → answers_of es ≡ answers_on ts (calls_of es) → Follows ts es
follows_answers ts [] q = tt
follows_answers ts (e ∷ es) q =
    let first : e.answer ≡ table_answer ts e.call = cc in
    let rest : answers_of es ≡ answers_on (table_after ts e.call) (calls_of es) = cc in
    (first, follows_answers (table_after ts e.call) es rest)

pub follows_split : (ts : List ℕ) (before after : List Exchange) → Follows ts (before ++ after)
    → Follows ts before × Follows (table_by ts before) after
follows_split ts [] after f = (tt, f)
follows_split ts (e ∷ before) after f =
    let k = follows_split (table_after ts e.call) before after f.1 in ((f.0, k.0), k.1)

-- ---- one call

length_left : (ts : List ℕ) (x : Answer (List ℕ)) (c : LeaseCall) → length (table_left x c ts) ≡ length ts
length_left ts (refused n) c = refl
length_left ts (result w) (hold a t) = length-set ts a t
length_left ts (result w) (release a t) = length-set ts a 0
length_left ts (result w) (stop a t room) = refl

pub length_after : (ts : List ℕ) (c : LeaseCall) → length (table_after ts c) ≡ length ts
length_after ts c = length_left ts (table_answer ts c) c

-- A token put at an address of the table is there, and the others stay.
put_token : (ts : List ℕ) (b a t : ℕ) → b < length ts → get_or (set ts b t) a 0 ≡ pick (eqb b a) t (get_or ts a 0)
put_token ts b a t l =
    by_bool (eqb b a)
    (λ y. (ap (λ (d : ℕ). get_or (set ts b t) d 0) (sym (eqb-true b a y))) ∙ get_or-set_same ts b t 0 l ∙ sym (simp y))
    (λ n. get_or-set_other ts b a t 0 (λ q. eqb-false b a n (sym q)) ∙ sym (simp n))

-- The token at an address after one call.
token_left : (ts : List ℕ) (a : ℕ) (x : Answer (List ℕ)) (c : LeaseCall) → length ts ≡ 256 → table_answer ts c ≡ x
    → get_or (table_left x c ts) a 0 ≡ lease_left a (get_or ts a 0) x c
token_left ts a (refused n) c l e = refl
token_left ts a (result w) (hold b t) l e =
    let r = range_means b (accepted_range (get_or ts b 0) (hold b t) w e) in
    put_token ts b a t (omega (arith, r.1))
token_left ts a (result w) (release b t) l e =
    let r = range_means b (accepted_range (get_or ts b 0) (release b t) w e) in
    put_token ts b a 0 (omega (arith, r.1))
token_left ts a (result w) (stop b t room) l e = refl

pub token_after : (ts : List ℕ) (a : ℕ) (x : Answer (List ℕ)) (c : LeaseCall) → length ts ≡ 256 → x ≡ table_answer ts c
    → get_or (table_after ts c) a 0 ≡ lease_left a (get_or ts a 0) x c
token_after ts a x c l e =
    ap (λ (y : Answer (List ℕ)). get_or (table_left y c ts) a 0) (sym e) ∙ token_left ts a x c l (sym e)

-- ---- a history

-- The token at an address after a history is the one that the history leaves there.
pub token_by : (ts : List ℕ) (a : ℕ) (es : List Exchange) → length ts ≡ 256 → Follows ts es
    → get_or (table_by ts es) a 0 ≡ leased_to a (get_or ts a 0) es
token_by ts a [] l f = refl
token_by ts a (e ∷ es) l f =
    token_by (table_after ts e.call) a es (length_after ts e.call ∙ l) f.1
    ∙ ap (λ (h : ℕ). leased_to a h es) (token_after ts a e.answer e.call l f.0)

pub length_by : (ts : List ℕ) (es : List Exchange) → length (table_by ts es) ≡ length ts
length_by ts [] = refl
length_by ts (e ∷ es) = length_by (table_after ts e.call) es ∙ length_after ts e.call

pub new_length : length new_table ≡ 256
new_length = refl

pub new_free : (a : ℕ) → get_or new_table a 0 ≡ 0
new_free a =
    by_bool (ltb a 256)
    (λ y. get_or-replicate 256 a 0 0 (ltb-true a 256 y))
    (λ n. let k : length new_table ≤ a = omega (arith, ltb-false a 256 n, new_length) in
    get_or-eq_default new_table 0 k)

-- ---- a history from a new table on

-- A token held has an address in range and is not 0.
accepted_hold : (h a t : ℕ) (x : Answer (List ℕ)) → Accepted x → x ≡ answer_of h (hold a t)
    → (in_range a ≡ true) × (t ≡ 0 → ⊥)
unfolding answer_of
accepted_hold h a t (refused n) k e = absurd k
accepted_hold h a t (result w) k e =
    let r = accepted_range h (hold a t) w (sym e) in
    (r, λ z. let q : result w ≡ refused 14 = e ∙ simp (r, eq-eqb t 0 z) in let y : ◌≡◌ {A = ℕ} 0 1 = cc in omega arith)

-- The token at address a is that of the last accepted hold not released since, 0 where there is none.
pub record Knows (a token : ℕ) (es : List Exchange) : Type 0 where
  pub of_hold : (t : ℕ) → LastHold a t es → (token ≡ t) × (t ≡ 0 → ⊥) × (in_range a ≡ true)
  pub of_token : (t : ℕ) → (t ≡ 0 → ⊥) → token ≡ t → LastHold a t es

held_real : (a t : ℕ) (es : List Exchange) → Follows new_table es → LastHold a t es
    → (in_range a ≡ true) × (t ≡ 0 → ⊥)
held_real a t es f k =
    let p = (follows_split new_table k.before (k.last ∷ k.after) (subst (Follows new_table) k.splits f)).1.0 in
    accepted_hold (get_or (table_by new_table k.before) a 0) a t k.last.answer k.accepted
    (p ∙ ap (table_answer (table_by new_table k.before)) k.held)

pub knows : (a : ℕ) (es : List Exchange) → Follows new_table es → Knows a (get_or (table_by new_table es) a 0) es
knows a es f =
    let token : get_or (table_by new_table es) a 0 ≡ leased_to a 0 es =
    token_by new_table a es new_length f ∙ ap (λ (h : ℕ). leased_to a h es) (new_free a) in
    record {
      of_hold = λ t k. let r = held_real a t es f k in (token ∙ last_hold_leaves a t 0 es k, r.1, r.0);
      of_token = λ t n e. leased_last_hold a t es n (sym token ∙ e);
    }

-- ---- the range

pub out_of_range : (a : ℕ) → in_range a ≡ false → InRange a → ⊥
out_of_range a n r =
    let y : in_range a ≡ true = simp (le-leb 1 a r.0, le-leb a 252 r.1) in
    let z : true ≡ false = sym y ∙ n in let w : ◌≡◌ {A = ℕ} 0 1 = cc in omega arith
