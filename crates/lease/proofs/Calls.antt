-- The theorems of the functions themselves: any run of calls, known by nothing but what the contracts tell a caller.
use Prim.Native.Nat.{ℕ}
use mathlib.Core.Path.{◌≡◌, refl, sym, ap, ◌∙◌}
use mathlib.Core.List.{List}
use lib.ListN.{length, take, drop}
use lib.Seq.{take-append_seam}
use contract.Lifetimes.{Lfts}
use denote.MutBor.{MutBor}
use denote.Ref.{Bor}
use Rattle.lists.specs.Machine.{Ran, Answered}
use Rattle.lists.proofs.Machines.{ran-run, ran_every}
use Rattle.numbers.specs.Number.{bytes_of_all}
use Rattle.answer.specs.Answer.{result, refused, Answer}
use Rattle.answer.specs.Draft.{written_means}
use Rattle.answer.specs.declared.Refusal.{Refusal}
use Rattle.std.specs.Prelude.{Result}
use Rattle.lease.specs.Lease.{LeaseCall, hold, release, stop, table_answer, table_after, lent_answer, lent_after}
use Rattle.lease.specs.Answers.{lease_means, written_length, out_after, stop_told}
use Rattle.lease.specs.History.{new_table, new_bytes, answers_on, table_on, Tokens, TokenFits}
use Rattle.lease.specs.History.{Exchange, calls_of, answers_of}
use Rattle.lease.specs.Leases.{Leases, LentLeases}
use Rattle.lease.specs.declared.LeaseTable.{LeaseTable}
use Rattle.lease.specs.declared.Leased.{Leased}
use Rattle.lease.proofs.TableHistory.{follows_answers}
use Rattle.lease.proofs.Sentences.{sentences}
use Rattle.lease.proofs.Lent.{stop_table, stop_lent, lent_runs, lent_sentences}
use Rattle.lease.proofs.LeaseTable.new.Reads as new-reads
use Rattle.lease.proofs.LeaseTable.hold.Reads as hold-reads
use Rattle.lease.proofs.LeaseTable.release.Reads as release-reads
use Rattle.lease.proofs.LeaseTable.stop.Reads as stop-reads
use Rattle.lease.proofs.hold_lent.Reads as hold-lent-reads
use Rattle.lease.proofs.release_lent.Reads as release-lent-reads
use Rattle.lease.proofs.stop_lent.Reads as stop-lent-reads

-- What a caller of stop has is the answer that the contract names.
pub told_is : (a : Answer ℕ) (out last : List ℕ) (x : Answer (List ℕ)) → a ≡ written_length x → last ≡ out_after x out
    → stop_told a last ≡ x
unfolding stop_told
told_is a out last (result w) e o =
    ap (λ (b : Answer ℕ). stop_told b last) e
    ∙ ap result (ap (take (length w)) o ∙ take-append_seam w (drop (length w) out))
told_is a out last (refused m) e o = ap (λ (b : Answer ℕ). stop_told b last) e

-- ---- calls on a table

-- A call on a table, with its answer and the table afterwards: what its contract tells the caller.
pub data Called : LeaseTable → LeaseCall → Answer (List ℕ) → LeaseTable → Type 0 where
  held : {t : LeaseTable} {a u : ℕ} (r : Leased) → hold-reads.Learnt tt (t, (a, (u, tt))) r (t, (a, (u, tt)))
      → Called t (hold a u) (lease_means r.answer) r.table
  released : {t : LeaseTable} {a u : ℕ} (r : Leased) → release-reads.Learnt tt (t, (a, (u, tt))) r (t, (a, (u, tt)))
      → Called t (release a u) (lease_means r.answer) r.table
  stopped : {t : LeaseTable} {a u : ℕ} (r : Result ℕ Refusal) (κs : Lfts 1) (out out' : MutBor (List ℕ))
      → stop-reads.Learnt κs (t, (a, (u, (out, tt)))) r (t, (a, (u, (out', tt))))
      → Called t (stop a u (length out.now)) (stop_told (written_means r) out'.now) t

-- A table that `new` gave.
abbrev pub Made : LeaseTable → Type 0
Made t = new-reads.Learnt tt tt t tt

-- A call on a table is answered, and leaves the table, as the definitions say.
called : (t t' : LeaseTable) (c : LeaseCall) (x : Answer (List ℕ)) → Called t c x t'
    → (x ≡ table_answer t.tokens c) × (t'.tokens ≡ table_after t.tokens c)
called t t' c x (held r e) = (e.answered, e.left)
called t t' c x (released r e) = (e.answered, e.left)
called t t' c x (stopped {a = a} {u = u} r κs out out' e) = (
  told_is (written_means r) out.now out'.now (table_answer t.tokens (stop a u (length out.now))) e.answered
      e.written,
  sym (stop_table t.tokens a u (length out.now)),
)

-- Every run of `new`, `hold`, `release` and `stop` is answered as the definitions say, and leaves the table that they
-- say.
pub table_calls : {cs : List LeaseCall} {rs : List (Answer (List ℕ))} (k : Answered Called Made cs rs)
    → (rs ≡ answers_on new_table cs) × (k.last.tokens ≡ table_on new_table cs)
table_calls {cs} k =
    let r = ran-run Called table_answer table_after (λ (t : LeaseTable). t.tokens) called k.ran in (
      r.0 ∙ ap (λ (ts : List ℕ). answers_on ts cs) k.made,
      r.1 ∙ ap (λ (ts : List ℕ). table_on ts cs) k.made,
    )

-- A run on a table with these 256 tokens.
abbrev pub TableRun : List ℕ → List Exchange → Type 0
TableRun tokens history =
    Answered Called (λ (t : LeaseTable). (t.tokens ≡ tokens) × (length tokens ≡ 256)) (calls_of history)
    (answers_of history)

-- A run on a table that `new` gave is one on a new table.
pub new_run : (history : List Exchange) → Answered Called Made (calls_of history) (answers_of history)
    → TableRun new_table history
new_run history k = record { start = k.start; made = (k.made, refl); last = k.last; ran = k.ran }

-- Document 01's sentences of every run of `new`, `hold`, `release` and `stop`.
pub table_leases : Leases TableRun
table_leases =
    sentences TableRun (λ ts es k. (
      k.made.1,
      follows_answers ts es
          ((ran-run Called table_answer table_after (λ (t : LeaseTable). t.tokens) called k.ran).0
          ∙ ap (λ (us : List ℕ). answers_on us (calls_of es)) k.made.0),
    ))

-- ---- calls on lent bytes

-- A call on lent bytes, with its answer and the bytes afterwards: what its contract tells the caller.
pub data CalledLent : List ℕ → LeaseCall → Answer (List ℕ) → List ℕ → Type 0 where
  lent_held : {a u : ℕ} (r : Result (Unit {0}) Refusal) (κs : Lfts 1) (s s' : MutBor (List ℕ))
      → hold-lent-reads.Learnt κs (s, (a, (u, tt))) r (s', (a, (u, tt)))
      → CalledLent s.now (hold a u) (lease_means r) s'.now
  lent_released : {a u : ℕ} (r : Result (Unit {0}) Refusal) (κs : Lfts 1) (s s' : MutBor (List ℕ))
      → release-lent-reads.Learnt κs (s, (a, (u, tt))) r (s', (a, (u, tt)))
      → CalledLent s.now (release a u) (lease_means r) s'.now
  lent_stopped : {a u : ℕ} (r : Result ℕ Refusal) (κs : Lfts 2) (s : Bor (List ℕ)) (out out' : MutBor (List ℕ))
      → stop-lent-reads.Learnt κs (s, (a, (u, (out, tt)))) r (s, (a, (u, (out', tt))))
      → CalledLent s.now (stop a u (length out.now)) (stop_told (written_means r) out'.now) s.now

-- A call on lent bytes is answered, and leaves the bytes, as the definitions say, and its token has 64 bits.
called_lent : (s s' : List ℕ) (c : LeaseCall) (x : Answer (List ℕ)) → CalledLent s c x s'
    → (x ≡ lent_answer s c) × (s' ≡ lent_after s c) × TokenFits c
called_lent s s' c x (lent_held r κs t t' e) = (e.answered, e.left, e.real.fits)
called_lent s s' c x (lent_released r κs t t' e) = (e.answered, e.left, e.real.fits)
called_lent s s' c x (lent_stopped {a = a} {u = u} r κs t out out' e) = (
  told_is (written_means r) out.now out'.now (lent_answer t.now (stop a u (length out.now))) e.answered
      e.written,
  sym (stop_lent t.now a u (length out.now)),
  e.real.fits,
)

-- The tokens of a run have 64 bits, which is what the theorems on lent bytes ask of a list of calls.
pub lent_tokens : {s u : List ℕ} {cs : List LeaseCall} {rs : List (Answer (List ℕ))} → Ran CalledLent s cs rs u
    → Tokens cs
lent_tokens k = ran_every CalledLent TokenFits (λ s s' c x l. (called_lent s s' c x l).2) k

-- Every run of `hold_lent`, `release_lent` and `stop_lent` on bytes that are all 00 is answered as a new table answers
-- those calls, and leaves the bytes of the table that they leave.
pub lent_calls : {cs : List LeaseCall} {rs : List (Answer (List ℕ))} (k : Answered CalledLent (◌≡ new_bytes) cs rs)
    → (rs ≡ answers_on new_table cs) × (k.last ≡ bytes_of_all 8 (table_on new_table cs))
lent_calls k = lent_runs CalledLent called_lent k

-- Document 01's sentences of every run of `hold_lent`, `release_lent` and `stop_lent`.
pub lent_leases : LentLeases CalledLent
lent_leases = lent_sentences CalledLent called_lent
