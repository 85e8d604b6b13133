-- An address's answers depend on its own calls alone, and are the same for a wrong token as for a free address.
use Prim.Native.Nat.{ℕ}
use mathlib.Core.Path.{◌≡◌, refl, sym, ap, ap₂, ◌∙◌, subst}
use mathlib.Core.Bool.{false}
use mathlib.Core.List.{List, [], ◌∷◌}
use native.Mathlib.Omega.{arith}
use lib.Dec.{eqb}
use lib.ListN.{length, get_or}
use borrow.Author.Tests.{eqb-true}
use Rattle.lists.specs.Choice.{pick, Every}
use Rattle.lists.proofs.Cases.{by_bool}
use Rattle.frame.specs.Address.{in_range}
use Rattle.answer.specs.Answer.{Answer, result, refused}
use Rattle.lease.specs.Lease.{LeaseCall, hold, release, stop, address_of, owns, answer_of, table_after}
use Rattle.lease.specs.History.{Exchange, exchange, calls_of, history_at}
use Rattle.lease.proofs.HistoryLaws.{lease_left, lease_step}
use Rattle.lease.proofs.TableHistory.{Follows, token_after, length_after}

-- ---- one address by itself

-- Each call of a history at address a was answered by the token that the call before it left there.
abbrev pub Alone : (a held : ℕ) → List Exchange → Type 0
Alone a held [] = Unit {0}
Alone a held (e ∷ es) = (e.answer ≡ answer_of held e.call) × Alone a (lease_step a held e) es

-- A call at another address leaves the token.
away : (a h : ℕ) (x : Answer (List ℕ)) (c : LeaseCall) → eqb (address_of c) a ≡ false → lease_left a h x c ≡ h
away a h (refused n) c k = refl
away a h (result w) (hold b t) k = simp k
away a h (result w) (release b t) k = simp k
away a h (result w) (stop b t room) k = refl

-- An address's exchanges are those that it has by itself.
pub alone : (a : ℕ) (ts : List ℕ) (es : List Exchange) → length ts ≡ 256 → Follows ts es
    → Alone a (get_or ts a 0) (history_at a es)
alone a ts [] l f = tt
alone a ts (e ∷ es) l f =
    let rest = alone a (table_after ts e.call) es (length_after ts e.call ∙ l) f.1 in
    let after = token_after ts a e.answer e.call l f.0 in
    by_bool (eqb (address_of e.call) a)
    (λ y. simp y (
      f.0 ∙ ap (λ (b : ℕ). answer_of (get_or ts b 0) e.call) (eqb-true (address_of e.call) a y),
      subst (λ (h : ℕ). Alone a h (history_at a es)) after rest,
    ))
    (λ n. simp n
    (subst (λ (h : ℕ). Alone a h (history_at a es)) (after ∙ away a (get_or ts a 0) e.answer e.call n) rest))

-- ---- equal calls get equal answers

-- Where two lists of exchanges at an address have equal calls, they are equal if each pair's answers are.
module _ (a : ℕ) (P : ℕ → ℕ → LeaseCall → Type 0)
    (step : (h k : ℕ) (c : LeaseCall) → P h k c → (answer_of h c ≡ answer_of k c))
    (keeps : (h k : ℕ) (c : LeaseCall) (d : LeaseCall) → P h k c
    → P h k d → P (lease_left a h (answer_of h c) c) (lease_left a k (answer_of k c) c) d) where
  keeps_all : (h k : ℕ) (c : LeaseCall) (ds : List LeaseCall) → P h k c → Every (P h k) ds
      → Every (P (lease_left a h (answer_of h c) c) (lease_left a k (answer_of k c) c)) ds
  keeps_all h k c [] p q = tt
  keeps_all h k c (d ∷ ds) p q = (keeps h k c d p q.0, keeps_all h k c ds p q.1)

  same_exchanges : (h k : ℕ) (es fs : List Exchange) → Alone a h es → Alone a k fs → calls_of es ≡ calls_of fs
      → Every (P h k) (calls_of es) → es ≡ fs
  same_exchanges h k [] [] u v q p = refl
  same_exchanges h k [] (f ∷ fs) u v q p = let z : ◌≡◌ {A = ℕ} 0 1 = cc in absurd (omega arith)
  same_exchanges h k (e ∷ es) [] u v q p = let z : ◌≡◌ {A = ℕ} 0 1 = cc in absurd (omega arith)
  same_exchanges h k (e ∷ es) (f ∷ fs) u v q p =
      let calls : e.call ≡ f.call = cc in
      let rest : calls_of es ≡ calls_of fs = cc in
      let answers : e.answer ≡ f.answer =
      u.0 ∙ step h k e.call p.0 ∙ ap (answer_of k) calls ∙ sym v.0 in
      let first : lease_step a h e ≡ lease_left a h (answer_of h e.call) e.call =
      ap (λ (x : Answer (List ℕ)). lease_left a h x e.call) u.0 in
      let second : lease_step a k f ≡ lease_left a k (answer_of k e.call) e.call =
      ap (λ (x : Answer (List ℕ)). lease_left a k x f.call) v.0
      ∙ ap (λ (c : LeaseCall). lease_left a k (answer_of k c) c) (sym calls) in
      ap₂ (λ (x : Exchange) (l : List Exchange). x ∷ l) (ap₂ exchange calls answers)
      (same_exchanges (lease_left a h (answer_of h e.call) e.call) (lease_left a k (answer_of k e.call) e.call)
      es fs
      (subst (λ (t : ℕ). Alone a t es) first u.1)
      (subst (λ (t : ℕ). Alone a t fs) second v.1)
      rest
      (keeps_all h k e.call (calls_of es) p.0 p.1))

-- Equal calls from equal tokens on get equal answers.
pub isolation : (a h k : ℕ) (es fs : List Exchange) → Alone a h es → Alone a k fs → h ≡ k → calls_of es ≡ calls_of fs
    → es ≡ fs
isolation a h k es fs u v e q =
    same_exchanges a (λ h k c. h ≡ k)
    (λ h k c e. ap (λ (t : ℕ). answer_of t c) e)
    (λ h k c d e f. ap (λ (t : ℕ). lease_left a t (answer_of t c) c) e)
    h k es fs u v q (all (calls_of es))
  where
    all : (cs : List LeaseCall) → Every (λ (c : LeaseCall). h ≡ k) cs
    all [] = tt
    all (c ∷ cs) = (e, all cs)

-- ---- a wrong token and a free address

-- A release or a stop with a token that does not own an address with token h, nor one with token k.
abbrev pub Wrong : (h k : ℕ) → LeaseCall → Type 0
Wrong h k (hold a t) = ⊥
Wrong h k (release a t) = (owns t h ≡ false) × (owns t k ≡ false)
Wrong h k (stop a t room) = (owns t h ≡ false) × (owns t k ≡ false)

-- It is refused with 9 or 11.
wrong_answer : (h k : ℕ) (c : LeaseCall) → Wrong h k c
    → (answer_of h c ≡ pick (in_range (address_of c)) (refused 11) (refused 9))
    × (answer_of k c ≡ pick (in_range (address_of c)) (refused 11) (refused 9))
unfolding answer_of
wrong_answer h k (hold a t) w = absurd w
wrong_answer h k (release a t) w = (simp w.0, simp w.1)
wrong_answer h k (stop a t room) w = (simp w.0, simp w.1)

refusal_leaves : (a h : ℕ) (c : LeaseCall) (x : Answer (List ℕ))
    → x ≡ pick (in_range (address_of c)) (refused 11) (refused 9) → lease_left a h x c ≡ h
refusal_leaves a h c x e =
    ap (λ (y : Answer (List ℕ)). lease_left a h y c) e
    ∙ by_bool {P = lease_left a h (pick (in_range (address_of c)) (refused 11) (refused 9)) c ≡ h} (in_range (address_of c))
    (λ y. simp y)
    (λ n. simp n)

-- Equal releases and stops with tokens that own neither get equal answers.
pub wrong_alike : (a h k : ℕ) (es fs : List Exchange) → Alone a h es → Alone a k fs → calls_of es ≡ calls_of fs
    → Every (Wrong h k) (calls_of es) → es ≡ fs
wrong_alike a h k es fs u v q w =
    same_exchanges a Wrong
    (λ h k c p. let m = wrong_answer h k c p in m.0 ∙ sym m.1)
    (λ h k c d p r. let m = wrong_answer h k c p in
    subst (λ (t : ℕ). Wrong t (lease_left a k (answer_of k c) c) d) (sym (refusal_leaves a h c (answer_of h c) m.0))
    (subst (λ (t : ℕ). Wrong h t d) (sym (refusal_leaves a k c (answer_of k c) m.1)) r))
    h k es fs u v q w
