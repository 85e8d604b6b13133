-- What keeps demand 3 is answered as the table on the calls alone says.
use mathlib.Core.Path.{◌≡◌, refl, sym, ap, ap₂, ◌∙◌, subst}
use mathlib.Core.Logic.{◌⊎◌, inl, inr}
use mathlib.Core.List.{List, [], ◌∷◌, ◌++◌, append_assoc, append-nil}
use native.Mathlib.Omega.{arith}
use Prim.Native.Nat.{ℕ}
use Rattle.lists.specs.Machine.{left_after}
use Rattle.lists.proofs.Machines.{run-append, left_append}
use Rattle.lists.proofs.Lists.{last_same}
use Rattle.framing.specs.Reference.{Call, byte, finish, Role, starts, stops, plain, FlagFree, Candidate, none, opened}
use Rattle.framing.specs.Reference.{Protocol, byte_answer, byte_after, end_answer, answer_to, candidate_after, reference}
use Rattle.framing.specs.Demand3.{feed, Demand3}
use Rattle.framing.specs.Table.{OpenAfter, ToldTo, terminates, truncates, finishes, PlainLaws}
use Rattle.framing.proofs.Restart.{feed-append, renews}
use Rattle.framing.proofs.Bounded.{more_free}

module _ {A : Type 0} (P : Protocol A) where
  -- the candidate that is open after calls
  abbrev after : List Call → Candidate
  after calls = left_after (candidate_after P) none calls

  -- ---- a candidate is open exactly after such calls

  -- bytes that are no flags are held
  holds : (s body : List ℕ) → FlagFree P.role body
      → left_after (candidate_after P) (opened s) (feed body) ≡ opened (s ++ body)
  holds s [] f = ap opened (sym (append-nil s))
  holds s (b ∷ body) f =
      ap (λ (ρ : Role). left_after (candidate_after P) (byte_after P ρ (opened s) b) (feed body)) f.0
      ∙ holds (s ++ b ∷ []) body f.1
      ∙ ap opened (append_assoc s (b ∷ []) body)

  open_state : (calls : List Call) (o : OpenAfter P calls) → after calls ≡ opened (o.flag ∷ o.body)
  open_state calls o =
      ap after o.splits
      ∙ left_append (candidate_after P) none o.before (feed (o.flag ∷ o.body))
      ∙ ap (λ (ρ : Role). left_after (candidate_after P) (byte_after P ρ (after o.before) o.flag) (feed o.body))
      o.starting
      ∙ holds (o.flag ∷ []) o.body o.flag_free

  abbrev Opens : List Call → Candidate → Type 0
  Opens calls k = (s : List ℕ) → k ≡ opened s → (o : OpenAfter P calls) × (s ≡ o.flag ∷ o.body)

  -- one byte more that is no flag
  opens_plain : (pre : List Call) (b : ℕ) → P.role b ≡ plain → (o : OpenAfter P pre) (t s : List ℕ)
      → t ≡ o.flag ∷ o.body → t ++ b ∷ [] ≡ s → (n : OpenAfter P (pre ++ byte b ∷ [])) × (s ≡ n.flag ∷ n.body)
  opens_plain pre b q o t s e g = (
    record {
      before = o.before;
      flag = o.flag;
      body = o.body ++ b ∷ [];
      splits = ap (λ (l : List Call). l ++ byte b ∷ []) o.splits
          ∙ append_assoc o.before (feed (o.flag ∷ o.body)) (byte b ∷ [])
          ∙ ap (λ (l : List Call). o.before ++ l) (sym (feed-append (o.flag ∷ o.body) (b ∷ [])));
      starting = o.starting;
      flag_free = more_free P.role o.body b o.flag_free q;
    },
    sym g ∙ ap (λ (l : List ℕ). l ++ b ∷ []) e,
  )

  -- one call more
  opens_step : (pre : List Call) (c : Call) → Opens pre (after pre)
      → Opens (pre ++ c ∷ []) (candidate_after P (after pre) c)
  opens_step pre finish k = λ s e. let z : ◌≡◌ {A = ℕ} 0 1 = cc in absurd (omega arith)
  opens_step pre (byte b) k = by_role (P.role b) refl (after pre) refl
    where
      by_role : (ρ : Role) → P.role b ≡ ρ → (x : Candidate) → after pre ≡ x
          → Opens (pre ++ byte b ∷ []) (byte_after P ρ x b)
      by_role starts q x f s e =
          let g : s ≡ b ∷ [] = cc in
          (record { before = pre; flag = b; body = []; splits = refl; starting = q; flag_free = tt }, g)
      by_role stops q x f s e = let z : ◌≡◌ {A = ℕ} 0 1 = cc in absurd (omega arith)
      by_role plain q none f s e = let z : ◌≡◌ {A = ℕ} 0 1 = cc in absurd (omega arith)
      by_role plain q (opened t) f s e =
          let old = k t f in
          let g : t ++ b ∷ [] ≡ s = cc in opens_plain pre b q old.0 t s old.1 g

  opens_on : (pre rest : List Call) → Opens pre (after pre) → Opens (pre ++ rest) (after (pre ++ rest))
  opens_on pre [] k = subst (λ (l : List Call). Opens l (after l)) (sym (append-nil pre)) k
  opens_on pre (c ∷ rest) k =
      let one : Opens (pre ++ c ∷ []) (after (pre ++ c ∷ [])) =
      subst (Opens (pre ++ c ∷ [])) (sym (left_append (candidate_after P) none pre (c ∷ []))) (opens_step pre c k) in
      subst (λ (l : List Call). Opens l (after l)) (append_assoc pre (c ∷ []) rest) (opens_on (pre ++ c ∷ []) rest one)

  state_open : (calls : List Call) → Opens calls (after calls)
  state_open calls = opens_on [] calls (λ s e. let z : ◌≡◌ {A = ℕ} 0 1 = cc in absurd (omega arith))

  -- ---- the answer to a call, by the calls before it

  -- what the table says is told
  is_told : (calls : List Call) (c : Call) (a : A) → ToldTo P calls c a → answer_to P (after calls) c ≡ a
  is_told calls c a (terminates {b} o q) =
      ap₂ (λ (ρ : Role) (k : Candidate). byte_answer P ρ k b) q (open_state calls o)
  is_told calls c a (truncates {b} o q) =
      ap₂ (λ (ρ : Role) (k : Candidate). byte_answer P ρ k b) q (open_state calls o)
  is_told calls c a (finishes o) = ap (end_answer P) (open_state calls o)

  -- and else nothing
  told_or_nothing : (calls : List Call) (c : Call)
      → ToldTo P calls c (answer_to P (after calls) c) ⊎ (answer_to P (after calls) c ≡ P.nothing)
  told_or_nothing calls finish = by_candidate (after calls) refl
    where
      by_candidate : (k : Candidate) → after calls ≡ k
          → ToldTo P calls finish (end_answer P k) ⊎ (end_answer P k ≡ P.nothing)
      by_candidate none f = inr refl
      by_candidate (opened s) f = inl (finishes (state_open calls s f).0)
  told_or_nothing calls (byte b) = by_role (P.role b) refl (after calls) refl
    where
      by_role : (ρ : Role) → P.role b ≡ ρ → (k : Candidate) → after calls ≡ k
          → ToldTo P calls (byte b) (byte_answer P ρ k b) ⊎ (byte_answer P ρ k b ≡ P.nothing)
      by_role starts q none f = inr refl
      by_role starts q (opened s) f = inl (truncates (state_open calls s f).0 q)
      by_role stops q none f = inr refl
      by_role stops q (opened s) f =
          let o = state_open calls s f in
          inl (subst (λ (t : List ℕ). ToldTo P calls (byte b) (P.judge (t ++ b ∷ []))) (sym o.1) (terminates o.0 q))
      by_role plain q k f = inr refl

  -- ---- of what keeps demand 3

  module _ (answered : List Call → List A → Type 0) (d : Demand3 P answered) where
    last_answer : (calls : List Call) (c : Call) (earlier : List A) (last : A)
        → answered (calls ++ c ∷ []) (earlier ++ last ∷ []) → last ≡ answer_to P (after calls) c
    last_answer calls c earlier last k =
        last_same earlier (reference P calls) last (answer_to P (after calls) c)
        (d.same (calls ++ c ∷ []) (earlier ++ last ∷ []) k
        ∙ run-append (answer_to P) (candidate_after P) none calls (c ∷ []))

    told_last : (calls : List Call) (c : Call) (a : A) → (a ≡ P.nothing → ⊥) → answer_to P (after calls) c ≡ a
        → ToldTo P calls c a
    told_last calls c a n e = by_told (told_or_nothing calls c)
      where
        by_told : ToldTo P calls c (answer_to P (after calls) c) ⊎ (answer_to P (after calls) c ≡ P.nothing)
            → ToldTo P calls c a
        by_told (inl t) = subst (ToldTo P calls c) e t
        by_told (inr q) = absurd (n (sym e ∙ q))

    else_nothing : (calls : List Call) (c : Call) → ((a : A) → ToldTo P calls c a → ⊥)
        → answer_to P (after calls) c ≡ P.nothing
    else_nothing calls c h = by_told (told_or_nothing calls c)
      where
        by_told : ToldTo P calls c (answer_to P (after calls) c) ⊎ (answer_to P (after calls) c ≡ P.nothing)
            → answer_to P (after calls) c ≡ P.nothing
        by_told (inl t) = absurd (h (answer_to P (after calls) c) t)
        by_told (inr q) = q

    pub plain_laws : PlainLaws P answered
    plain_laws = record {
      told_exactly = λ calls c earlier last k a n.
          let e = last_answer calls c earlier last k in
          ((λ q. told_last calls c a n (sym e ∙ q)), (λ t. e ∙ is_told calls c a t));
      nothing_else = λ calls c earlier last k h. last_answer calls c earlier last k ∙ else_nothing calls c h;
      finish_renews = renews P answered d finish (λ k. refl);
      stop_renews = λ calls b rest all first later q.
          renews P answered d (byte b) (λ k. ap (λ (ρ : Role). byte_after P ρ k b) q) calls rest all first later;
    }

    -- After any calls, the last byte of a terminated candidate is answered as it is judged.
    pub last_judged : (flag stop : ℕ) → P.role flag ≡ starts → P.role stop ≡ stops → (calls : List Call) (body : List ℕ)
        → FlagFree P.role body → (earlier : List A) (last : A)
        → answered (calls ++ feed (flag ∷ (body ++ stop ∷ []))) (earlier ++ last ∷ [])
        → last ≡ P.judge (flag ∷ (body ++ stop ∷ []))
    last_judged flag stop s e calls body f earlier last k =
        let pre = calls ++ feed (flag ∷ body) in
        let o : OpenAfter P pre =
        record { before = calls; flag = flag; body = body; splits = refl; starting = s; flag_free = f } in
        let w : calls ++ feed (flag ∷ (body ++ stop ∷ [])) ≡ pre ++ byte stop ∷ [] =
        ap (λ (l : List Call). calls ++ l) (feed-append (flag ∷ body) (stop ∷ []))
        ∙ sym (append_assoc calls (feed (flag ∷ body)) (byte stop ∷ [])) in
        last_answer pre (byte stop) earlier last
        (subst (λ (l : List Call). answered l (earlier ++ last ∷ [])) w k)
        ∙ is_told pre (byte stop) (P.judge (flag ∷ (body ++ stop ∷ []))) (terminates o e)
