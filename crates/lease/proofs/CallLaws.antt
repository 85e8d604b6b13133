-- What a call after a history is answered, exactly when.
use Prim.Native.Nat.{ℕ}
use mathlib.Core.Path.{◌≡◌, refl, sym, ap, ◌∙◌}
use mathlib.Core.Bool.{true, false, true≢false}
use mathlib.Core.List.{List, []}
use native.Mathlib.Omega.{arith}
use lib.Dec.{leb, eqb}
use lib.ListN.{length}
use borrow.Author.Tests.{leb-true, leb-false, eqb-true, eqb-false, eq-eqb, ne_eqb}
use Rattle.lists.specs.Choice.{Exactly}
use Rattle.lists.proofs.Cases.{by_bool}
use Rattle.frame.specs.Address.{in_range}
use Rattle.answer.specs.Answer.{Answer, result, refused}
use Rattle.lease.specs.Lease.{hold, release, stop, owns, stop_frame, answer_of}
use Rattle.lease.specs.History.{Exchange, LastHold, Held, Free}
use Rattle.lease.specs.Leases.{InRange, HoldGets, ReleaseGets, StopGets}
use Rattle.lease.proofs.LeaseLaws.{range_means}
use Rattle.lease.proofs.TableHistory.{Knows, out_of_range}

-- ---- exactly when

-- Two facts hold exactly when each other does: where both do, and where neither does.
met : {P Q : Type 0} → P → Q → Exactly P Q
met p q = (λ k. q, λ k. p)

unmet : {P Q : Type 0} → (P → ⊥) → (Q → ⊥) → Exactly P Q
unmet p q = (λ k. absurd (p k), λ k. absurd (q k))

abbrev number_in : Answer (List ℕ) → ℕ
number_in (result w) = 0
number_in (refused n) = n

-- An answer is no other one with another number.
other : {x : Answer (List ℕ)} (y z : Answer (List ℕ)) → x ≡ y → eqb (number_in y) (number_in z) ≡ false → x ≡ z → ⊥
other y z e d q = eqb-false (number_in y) (number_in z) d (ap number_in (sym e ∙ q))

-- ---- the holder's token

pub owner_means : (t h : ℕ) → owns t h ≡ true → (t ≡ 0 → ⊥) × (h ≡ t)
owner_means t h e =
    by_bool (eqb t 0)
    (λ y. let z : false ≡ true = simp y at e in absurd (true≢false (sym z)))
    (λ n. (eqb-false t 0 n, sym (eqb-true t h (simp n at e))))

pub means_owner : (t h : ℕ) → (t ≡ 0 → ⊥) → h ≡ t → owns t h ≡ true
means_owner t h n e = simp (ne_eqb t 0 n, eq-eqb t h (sym e))

-- ---- one call, where `token` is that of address a after the history

module _ (es : List Exchange) (a token : ℕ) (k : Knows a token es) where
  pub free : token ≡ 0 → Free a es
  free z u l = let f = k.of_hold u l in f.1 (sym f.0 ∙ z)

  pub held : (token ≡ 0 → ⊥) → Held a es
  held n = record { token = token; last_hold = k.of_token token n refl }

module _ (es : List Exchange) (a t token : ℕ) (k : Knows a token es) where
  pub owner : owns t token ≡ true → LastHold a t es
  owner o = let m = owner_means t token o in k.of_token t m.0 m.1

  not_owner : owns t token ≡ false → LastHold a t es → ⊥
  not_owner o l = let f = k.of_hold t l in true≢false (sym (means_owner t token f.1 f.0) ∙ o)

  in_range_held : LastHold a t es → InRange a
  in_range_held l = range_means a (k.of_hold t l).2

  pub hold_gets : (x : Answer (List ℕ)) → x ≡ answer_of token (hold a t) → HoldGets es a t x
  unfolding answer_of
  hold_gets x e =
      by_bool (in_range a)
      (λ r. let i = range_means a r in by_bool (eqb t 0)
      (λ z. let s = eqb-true t 0 z in let q : x ≡ refused 14 = e ∙ simp (r, z) in
      record {
        accepted = unmet (other (refused 14) (result []) q refl) (λ c. c.1 s);
        outside = unmet (other (refused 14) (refused 9) q refl) (λ c. c i);
        zero_token = met q (i, s);
        taken = unmet (other (refused 14) (refused 10) q refl) (λ c. c.1 s);
      })
      (λ z. let n = eqb-false t 0 z in by_bool (eqb token 0)
      (λ f. let q : x ≡ result [] = e ∙ simp (r, z, f) in
      let none : Free a es = free es a token k (eqb-true token 0 f) in
      record {
        accepted = met q (i, n, none);
        outside = unmet (other (result []) (refused 9) q refl) (λ c. c i);
        zero_token = unmet (other (result []) (refused 14) q refl) (λ c. n c.1);
        taken = unmet (other (result []) (refused 10) q refl) (λ c. none c.2.token c.2.last_hold);
      })
      (λ f. let q : x ≡ refused 10 = e ∙ simp (r, z, f) in
      let some : Held a es = held es a token k (eqb-false token 0 f) in
      record {
        accepted = unmet (other (refused 10) (result []) q refl) (λ c. c.2 some.token some.last_hold);
        outside = unmet (other (refused 10) (refused 9) q refl) (λ c. c i);
        zero_token = unmet (other (refused 10) (refused 14) q refl) (λ c. n c.1);
        taken = met q (i, n, some);
      })))
      (λ r. let o = out_of_range a r in let q : x ≡ refused 9 = e ∙ simp r in
      record {
        accepted = unmet (other (refused 9) (result []) q refl) (λ c. o c.0);
        outside = met q o;
        zero_token = unmet (other (refused 9) (refused 14) q refl) (λ c. o c.0);
        taken = unmet (other (refused 9) (refused 10) q refl) (λ c. o c.0);
      })

  pub release_gets : (x : Answer (List ℕ)) → x ≡ answer_of token (release a t) → ReleaseGets es a t x
  unfolding answer_of
  release_gets x e =
      by_bool (in_range a)
      (λ r. let i = range_means a r in by_bool (owns t token)
      (λ m. let q : x ≡ result [] = e ∙ simp (r, m) in
      record {
        accepted = met q (owner m);
        outside = unmet (other (result []) (refused 9) q refl) (λ c. c i);
        not_holder = unmet (other (result []) (refused 11) q refl) (λ c. c.1 (owner m));
      })
      (λ m. let q : x ≡ refused 11 = e ∙ simp (r, m) in
      record {
        accepted = unmet (other (refused 11) (result []) q refl) (not_owner m);
        outside = unmet (other (refused 11) (refused 9) q refl) (λ c. c i);
        not_holder = met q (i, not_owner m);
      }))
      (λ r. let o = out_of_range a r in let q : x ≡ refused 9 = e ∙ simp r in
      record {
        accepted = unmet (other (refused 9) (result []) q refl) (λ l. o (in_range_held l));
        outside = met q o;
        not_holder = unmet (other (refused 9) (refused 11) q refl) (λ c. o c.0);
      })

  pub stop_gets : (room : ℕ) (x : Answer (List ℕ)) → x ≡ answer_of token (stop a t room) → StopGets es a t room x
  unfolding answer_of
  stop_gets room x e =
      by_bool (in_range a)
      (λ r. let i = range_means a r in by_bool (owns t token)
      (λ m. by_bool (leb (length (stop_frame a)) room)
      (λ f. let q : x ≡ result (stop_frame a) = e ∙ simp (r, m, f) in
      let fits = leb-true (length (stop_frame a)) room f in
      record {
        written = λ w. (
          (λ p. let same : w ≡ stop_frame a = cc in (same, omega (arith, fits, ap length same), owner m)),
          (λ c. q ∙ ap result (sym c.0)),
        );
        outside = unmet (other (result (stop_frame a)) (refused 9) q refl) (λ c. c i);
        not_holder = unmet (other (result (stop_frame a)) (refused 11) q refl) (λ c. c.1 (owner m));
        no_room = unmet (other (result (stop_frame a)) (refused 1) q refl) (λ c. omega (arith, fits, c.0));
      })
      (λ f. let q : x ≡ refused 1 = e ∙ simp (r, m, f) in
      let short = leb-false (length (stop_frame a)) room f in
      record {
        written = λ w. unmet (other (refused 1) (result w) q refl) (λ c. omega (arith, short, ap length c.0, c.1));
        outside = unmet (other (refused 1) (refused 9) q refl) (λ c. c i);
        not_holder = unmet (other (refused 1) (refused 11) q refl) (λ c. c.1 (owner m));
        no_room = met q (short, owner m);
      }))
      (λ m. let q : x ≡ refused 11 = e ∙ simp (r, m) in
      record {
        written = λ w. unmet (other (refused 11) (result w) q refl) (λ c. not_owner m c.2);
        outside = unmet (other (refused 11) (refused 9) q refl) (λ c. c i);
        not_holder = met q (i, not_owner m);
        no_room = unmet (other (refused 11) (refused 1) q refl) (λ c. not_owner m c.1);
      }))
      (λ r. let o = out_of_range a r in let q : x ≡ refused 9 = e ∙ simp r in
      record {
        written = λ w. unmet (other (refused 9) (result w) q refl) (λ c. o (in_range_held c.2));
        outside = met q o;
        not_holder = unmet (other (refused 9) (refused 11) q refl) (λ c. o c.0);
        no_room = unmet (other (refused 9) (refused 1) q refl) (λ c. o (in_range_held c.1));
      })
