-- Document 01's sentences hold of every history that follows a table.
use Prim.Native.Nat.{ℕ}
use mathlib.Core.Path.{◌≡◌, refl, sym, ap, ◌∙◌, subst}
use mathlib.Core.Bool.{false}
use mathlib.Core.Logic.{◌⊎◌, inl, inr}
use mathlib.Core.List.{List, [], ◌∷◌, ◌++◌, append_assoc}
use lib.Dec.{eqb}
use lib.ListN.{length, get_or}
use borrow.Author.Tests.{eqb-true, eqb-false, eq-eqb}
use Rattle.lists.specs.Choice.{Every}
use Rattle.lists.proofs.Cases.{by_bool}
use Rattle.lists.proofs.Machines.{left_append}
use Rattle.answer.specs.Answer.{Answer, result}
use Rattle.lease.specs.Lease.{LeaseCall, hold, release, stop, owns}
use Rattle.lease.specs.History.{new_table, Exchange, exchange, calls_of, history_at, LastHold, Held, Free}
use Rattle.lease.specs.Leases.{Leases, HoldGets, ReleaseGets, StopGets, HeldAgain, Probes}
use Rattle.lease.proofs.LeaseLaws.{range_means}
use Rattle.lease.proofs.HistoryLaws.{lease_left, lease_step}
use Rattle.lease.proofs.TableHistory.{Follows, table_by, follows_split, token_by, length_by, new_length}
use Rattle.lease.proofs.TableHistory.{Knows, knows}
use Rattle.lease.proofs.CallLaws.{free, held, owner, hold_gets, release_gets, stop_gets}
use Rattle.lease.proofs.Isolation.{alone, isolation, Wrong, wrong_alike}

-- A history that follows a table of 256 tokens.
abbrev pub OnTable : List ℕ → List Exchange → Type 0
OnTable ts es = (length ts ≡ 256) × Follows ts es

-- ---- one call

module _ (before after : List Exchange) (a t : ℕ) (x : Answer (List ℕ)) where
  holds : Follows new_table (before ++ exchange (hold a t) x ∷ after) → HoldGets before a t x
  holds f =
      let s = follows_split new_table before (exchange (hold a t) x ∷ after) f in
      hold_gets before a t (get_or (table_by new_table before) a 0) (knows a before s.0) x s.1.0

  releases : Follows new_table (before ++ exchange (release a t) x ∷ after) → ReleaseGets before a t x
  releases f =
      let s = follows_split new_table before (exchange (release a t) x ∷ after) f in
      release_gets before a t (get_or (table_by new_table before) a 0) (knows a before s.0) x s.1.0

  stops : (room : ℕ) → Follows new_table (before ++ exchange (stop a t room) x ∷ after) → StopGets before a t room x
  stops room f =
      let s = follows_split new_table before (exchange (stop a t room) x ∷ after) f in
      stop_gets before a t (get_or (table_by new_table before) a 0) (knows a before s.0) room x s.1.0

-- ---- held or free

held_or_free : (es : List Exchange) (a : ℕ) → Follows new_table es → Held a es ⊎ Free a es
held_or_free es a f =
    let token = get_or (table_by new_table es) a 0 in
    by_bool (eqb token 0)
    (λ y. inr (free es a token (knows a es f) (eqb-true token 0 y)))
    (λ n. inl (held es a token (knows a es f) (eqb-false token 0 n)))

-- ---- held again

-- The token at address a after a history and one exchange more.
token_next : (a : ℕ) (es : List Exchange) (e : Exchange) → Follows new_table (es ++ (e ∷ []))
    → get_or (table_by new_table (es ++ (e ∷ []))) a 0 ≡ lease_step a (get_or (table_by new_table es) a 0) e
token_next a es e f =
    token_by new_table a (es ++ (e ∷ [])) new_length f
    ∙ left_append (lease_step a) (get_or new_table a 0) es (e ∷ [])
    ∙ ap (λ (h : ℕ). lease_step a h e)
    (sym (token_by new_table a es new_length (follows_split new_table es (e ∷ []) f).0))

again : (before after : List Exchange) (a t u v room : ℕ) (x y z : Answer (List ℕ)) → LastHold a t before
    → (u ≡ 0 → ⊥)
    → Follows new_table
    (before ++ (exchange (release a t) x ∷ exchange (hold a u) y ∷ exchange (stop a v room) z ∷ after))
    → HeldAgain a u v room x y z
again before after a t u v room x y z k n f =
    let released = exchange (release a t) x in
    let held = exchange (hold a u) y in
    let stopped = exchange (stop a v room) z in
    let one = before ++ (released ∷ []) in
    let two = one ++ (held ∷ []) in
    let f₁ : Follows new_table (one ++ (held ∷ stopped ∷ after)) =
    subst (Follows new_table) (sym (append_assoc before (released ∷ []) (held ∷ stopped ∷ after))) f in
    let f₂ : Follows new_table (two ++ (stopped ∷ after)) =
    subst (Follows new_table) (sym (append_assoc one (held ∷ []) (stopped ∷ after))) f₁ in
    let g₁ = (follows_split new_table one (held ∷ stopped ∷ after) f₁).0 in
    let g₂ = (follows_split new_table two (stopped ∷ after) f₂).0 in
    let know = (knows a before (follows_split new_table before (released ∷ held ∷ stopped ∷ after) f).0).of_hold t k in
    let ex : x ≡ result [] = (releases before (held ∷ stopped ∷ after) a t x f).accepted.1 k in
    let token₁ : get_or (table_by new_table one) a 0 ≡ 0 =
    token_next a before released g₁
    ∙ ap (λ (r : Answer (List ℕ)). lease_left a (get_or (table_by new_table before) a 0) r (release a t)) ex
    ∙ simp (eq-eqb a a refl) in
    let free : Free a one = λ w l. let h = (knows a one g₁).of_hold w l in h.1 (sym h.0 ∙ token₁) in
    let ey : y ≡ result [] = (holds one (stopped ∷ after) a u y f₁).accepted.1 (range_means a know.2, n, free) in
    let token₂ : get_or (table_by new_table two) a 0 ≡ u =
    token_next a one held g₂
    ∙ ap (λ (r : Answer (List ℕ)). lease_left a (get_or (table_by new_table one) a 0) r (hold a u)) ey
    ∙ simp (eq-eqb a a refl) in
    let s = stops two after a v z room f₂ in
    record {
      releases = ex;
      holds = ey;
      stops = λ w. (
        (λ q. let p = (s.written w).0 q in
            (p.0, p.1, sym ((knows a two g₂).of_hold v p.2).0 ∙ token₂)),
        (λ p. (s.written w).1 (p.0, p.1, (knows a two g₂).of_token v (λ q. n (sym p.2 ∙ q)) (token₂ ∙ sym p.2))),
      );
    }

-- ---- a wrong token and a free address

not_held : (es : List Exchange) (a t token : ℕ) → Knows a token es → (LastHold a t es → ⊥) → owns t token ≡ false
not_held es a t token k p = by_bool (owns t token) (λ o. absurd (p (owner es a t token k o))) (λ o. o)

wrong : (a h k : ℕ) (es fs : List Exchange) → Knows a h es → Knows a k fs → Free a fs → (cs : List LeaseCall)
    → Every (Probes a es) cs → Every (Wrong h k) cs
wrong a h k es fs kn km free [] p = tt
wrong a h k es fs kn km free (c ∷ cs) p = (one c p.0, wrong a h k es fs kn km free cs p.1)
  where
    one : (c : LeaseCall) → Probes a es c → Wrong h k c
    one (hold b t) q = absurd q
    one (release b t) q = (not_held es a t h kn q, not_held fs a t k km (free t))
    one (stop b t room) q = (not_held es a t h kn q, not_held fs a t k km (free t))

wrong_or_free : (a : ℕ) (held free more also : List Exchange) → Follows new_table (held ++ more)
    → Follows new_table (free ++ also) → Free a free → Every (Probes a held) (calls_of (history_at a more))
    → calls_of (history_at a more) ≡ calls_of (history_at a also) → history_at a more ≡ history_at a also
wrong_or_free a held free more also f g none p q =
    let s = follows_split new_table held more f in
    let r = follows_split new_table free also g in
    wrong_alike a (get_or (table_by new_table held) a 0) (get_or (table_by new_table free) a 0) (history_at a more)
    (history_at a also)
    (alone a (table_by new_table held) more (length_by new_table held) s.1)
    (alone a (table_by new_table free) also (length_by new_table free) r.1)
    q
    (wrong a (get_or (table_by new_table held) a 0) (get_or (table_by new_table free) a 0) held free (knows a held s.0)
    (knows a free r.0) none (calls_of (history_at a more)) p)

-- ---- all of them

-- The sentences hold of every relation whose histories follow a table.
pub sentences : (answered : List ℕ → List Exchange → Type 0)
    → ((ts : List ℕ) (es : List Exchange) → answered ts es → OnTable ts es) → Leases answered
sentences answered on =
    record {
      held_or_free = λ es a f. held_or_free es a (on _ _ f).1;
      holds = λ before after a t x f. holds before after a t x (on _ _ f).1;
      releases = λ before after a t x f. releases before after a t x (on _ _ f).1;
      stops = λ before after a t room x f. stops before after a t x room (on _ _ f).1;
      again = λ before after a t u v room x y z k n f. again before after a t u v room x y z k n (on _ _ f).1;
      wrong_or_free = λ a held free more also f g. wrong_or_free a held free more also (on _ _ f).1 (on _ _ g).1;
      isolated = λ a ts us es fs f g e q.
          isolation a (get_or ts a 0) (get_or us a 0) (history_at a es) (history_at a fs)
          (alone a ts es (on ts es f).0 (on ts es f).1)
          (alone a us fs (on us fs g).0 (on us fs g).1)
          e
          q;
    }
