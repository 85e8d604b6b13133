-- Whose token an address has after a history: the last accepted hold not released since, and the token in the table.
use Prim.Native.Nat.{ℕ}
use mathlib.Core.Path.{◌≡◌, refl, sym, ap, ◌∙◌, subst}
use mathlib.Core.Logic.{◌⊎◌, inl, inr}
use mathlib.Core.List.{List, [], ◌∷◌}
use native.Mathlib.Omega.{arith}
use lib.Dec.{eqb}
use borrow.Author.Tests.{eqb-true, eqb-false, eq-eqb}
use Rattle.lists.specs.Choice.{pick, Every}
use Rattle.lists.specs.Machine.{left_after}
use Rattle.lists.proofs.Cases.{by_bool}
use Rattle.lists.proofs.Machines.{left_append}
use Rattle.answer.specs.Answer.{Answer, result, refused}
use Rattle.lease.specs.Lease.{LeaseCall, hold, release, stop, address_of}
use Rattle.lease.specs.History.{Exchange, exchange, Accepted, Passes, LastHold}

-- ---- the token that a history leaves at an address

-- The token of address a after an exchange, where it was h before.
abbrev pub lease_left : (a h : ℕ) → Answer (List ℕ) → LeaseCall → ℕ
lease_left a h (refused n) c = h
lease_left a h (result w) (hold b t) = pick (eqb b a) t h
lease_left a h (result w) (release b t) = pick (eqb b a) 0 h
lease_left a h (result w) (stop b t room) = h

abbrev pub lease_step : ℕ → ℕ → Exchange → ℕ
lease_step a h e = lease_left a h e.answer e.call

-- The token of address a after a history, where it was h before.
abbrev pub leased_to : (a h : ℕ) → List Exchange → ℕ
leased_to a h history = left_after (lease_step a) h history

-- ---- it is that of the last accepted hold not released since

-- What passes leaves the token.
passed : (a h : ℕ) (x : Answer (List ℕ)) (c : LeaseCall) → Passes a (exchange c x) → lease_left a h x c ≡ h
passed a h (refused n) c p = refl
passed a h (result w) (hold b t) p =
    by_bool (eqb b a)
    (λ y. absurd (p.no_hold t (ap (λ (d : ℕ). hold d t) (eqb-true b a y)) tt))
    (λ n. simp n)
passed a h (result w) (release b t) p =
    by_bool (eqb b a)
    (λ y. absurd (p.no_release t (ap (λ (d : ℕ). release d t) (eqb-true b a y)) tt))
    (λ n. simp n)
passed a h (result w) (stop b t room) p = refl

all_passed : (a h : ℕ) (es : List Exchange) → Every (Passes a) es → leased_to a h es ≡ h
all_passed a h [] p = refl
all_passed a h (e ∷ es) p =
    ap (λ (k : ℕ). leased_to a k es) (passed a h e.answer e.call p.0) ∙ all_passed a h es p.1

-- An accepted hold of an address leaves its token there.
took : (a t h : ℕ) (x : Answer (List ℕ)) → Accepted x → lease_left a h x (hold a t) ≡ t
took a t h (result w) k = simp (eq-eqb a a refl)
took a t h (refused n) k = absurd k

pub last_hold_leaves : (a t h : ℕ) (es : List Exchange) → LastHold a t es → leased_to a h es ≡ t
last_hold_leaves a t h es k =
    ap (leased_to a h) k.splits ∙ left_append (lease_step a) h k.before (k.last ∷ k.after)
    ∙ all_passed a (lease_step a (leased_to a h k.before) k.last) k.after k.since
    ∙ ap (lease_left a (leased_to a h k.before) k.last.answer) k.held
    ∙ took a t (leased_to a h k.before) k.last.answer k.accepted

-- Calls of different sorts, and of different addresses, are different.
abbrev number : LeaseCall → ℕ
number (hold a t) = 0
number (release a t) = 1
number (stop a t room) = 2

-- An exchange passes an address, or is an accepted hold of it, or an accepted release.
data Sort (a : ℕ) : Exchange → Type 0 where
  passes : {e : Exchange} → Passes a e → Sort a e
  holds : (t : ℕ) (w : List ℕ) → Sort a (exchange (hold a t) (result w))
  releases : (t : ℕ) (w : List ℕ) → Sort a (exchange (release a t) (result w))

sort_of : (a : ℕ) (x : Answer (List ℕ)) (c : LeaseCall) → Sort a (exchange c x)
sort_of a (refused n) c = passes (record { no_hold = λ t e k. k; no_release = λ t e k. k })
sort_of a (result w) (hold b t) =
    by_bool (eqb b a)
    (λ y. subst (λ (d : ℕ). Sort a (exchange (hold d t) (result w))) (sym (eqb-true b a y)) (holds t w))
    (λ n. passes (record {
      no_hold = λ u e k. eqb-false b a n (ap address_of e);
      no_release = λ u e k. let z : ◌≡◌ {A = ℕ} 0 1 = ap number e in omega arith;
    }))
sort_of a (result w) (release b t) =
    by_bool (eqb b a)
    (λ y. subst (λ (d : ℕ). Sort a (exchange (release d t) (result w))) (sym (eqb-true b a y)) (releases t w))
    (λ n. passes (record {
      no_hold = λ u e k. let z : ◌≡◌ {A = ℕ} 1 0 = ap number e in omega arith;
      no_release = λ u e k. eqb-false b a n (ap address_of e);
    }))
sort_of a (result w) (stop b t room) =
    passes {e = exchange (stop b t room) (result w)} (record {
      no_hold = λ u e k. let z : ◌≡◌ {A = ℕ} 2 0 = ap number e in omega arith;
      no_release = λ u e k. let z : ◌≡◌ {A = ℕ} 2 1 = ap number e in omega arith;
    })

-- A hold in a history is in it with one exchange more in front.
further : (a t : ℕ) (e : Exchange) (es : List Exchange) → LastHold a t es → LastHold a t (e ∷ es)
further a t e es k =
    record {
      before = e ∷ k.before;
      last = k.last;
      after = k.after;
      splits = ap (λ (l : List Exchange). e ∷ l) k.splits;
      held = k.held;
      accepted = k.accepted;
      since = k.since;
    }

-- A token after a history was there before it and stayed, or comes from a hold in it.
traced : (a h t : ℕ) (es : List Exchange) → (t ≡ 0 → ⊥) → leased_to a h es ≡ t
    → ((h ≡ t) × Every (Passes a) es) ⊎ LastHold a t es
traced a h t [] n q = inl (q, tt)
traced a h t (e ∷ es) n q =
    first e (sort_of a e.answer e.call) (traced a (lease_step a h e) t es n q)
  where
    first : (d : Exchange) → Sort a d → ((lease_step a h d ≡ t) × Every (Passes a) es) ⊎ LastHold a t es
        → ((h ≡ t) × Every (Passes a) (d ∷ es)) ⊎ LastHold a t (d ∷ es)
    first d s (inr k) = inr (further a t d es k)
    first d (passes p) (inl k) = inl (sym (passed a h d.answer d.call p) ∙ k.0, (p, k.1))
    first d (holds u w) (inl k) =
        inr (record {
          before = [];
          last = exchange (hold a u) (result w);
          after = es;
          splits = refl;
          held = ap (hold a) (sym (took a u h (result w) tt) ∙ k.0);
          accepted = tt;
          since = k.1;
        })
    first d (releases u w) (inl k) =
        let z : lease_left a h (result w) (release a u) ≡ 0 = simp (eq-eqb a a refl) in
        absurd (n (sym k.0 ∙ z))

-- A token that is not 0 is that of the last accepted hold not released since.
pub leased_last_hold : (a t : ℕ) (es : List Exchange) → (t ≡ 0 → ⊥) → leased_to a 0 es ≡ t → LastHold a t es
leased_last_hold a t es n q = of (traced a 0 t es n q)
  where
    of : ((0 ≡ t) × Every (Passes a) es) ⊎ LastHold a t es → LastHold a t es
    of (inl k) = absurd (n (sym k.0))
    of (inr k) = k

-- At most one token is.
pub one_holder : (a t u : ℕ) (es : List Exchange) → LastHold a t es → LastHold a u es → t ≡ u
one_holder a t u es k l = sym (last_hold_leaves a t 0 es k) ∙ last_hold_leaves a u 0 es l
