-- Document 01's sentences on leases, of the exported functions: any run of calls, known by nothing but what the
-- contracts tell a caller.
use Prim.Native.Nat.{ℕ}
use mathlib.Core.Path.{◌≡◌, sym}
use mathlib.Core.List.{List}
use lib.ListN.{length}
use contract.Lifetimes.{Lfts}
use denote.MutBor.{MutBor}
use denote.Ref.{Bor}
use Rattle.lists.specs.Machine.{Answered}
use Rattle.numbers.specs.Number.{bytes_of_all}
use Rattle.answer.specs.Answer.{Answer}
use Rattle.lease.specs.Lease.{LeaseCall, hold, release, stop, lent_answer, lent_after}
use Rattle.lease.specs.Answers.{stop_told}
use Rattle.lease.specs.History.{new_table, new_bytes, answers_on, table_on, TokenFits}
use Rattle.lease.specs.Leases.{LentLeases}
use Rattle.lease.proofs.Lent.{stop_lent, lent_runs, lent_sentences}
use Rattle.lease.proofs.Calls.{told_is}
use Rattle.exports.specs.Told.{told_written, told_lease}
use Rattle.exports.proofs.ToldLaws.{hold_told, release_told, stop_told_lem}
use Rattle.exports.proofs.csafe_hold.Reads as hold-reads
use Rattle.exports.proofs.csafe_release.Reads as release-reads
use Rattle.exports.proofs.csafe_stop.Reads as stop-reads

-- A call on lent bytes, with the answer that the caller has in the number and the output, and the bytes afterwards:
-- what its contract tells the caller.
pub data ExportedLease : List ℕ → LeaseCall → Answer (List ℕ) → List ℕ → Type 0 where
  exported_held : {a u : ℕ} (n : ℕ) (κs : Lfts 1) (s s' : MutBor (List ℕ))
      → hold-reads.Learnt κs (s, (a, (u, tt))) n (s', (a, (u, tt)))
      → ExportedLease s.now (hold a u) (told_lease n) s'.now
  exported_released : {a u : ℕ} (n : ℕ) (κs : Lfts 1) (s s' : MutBor (List ℕ))
      → release-reads.Learnt κs (s, (a, (u, tt))) n (s', (a, (u, tt)))
      → ExportedLease s.now (release a u) (told_lease n) s'.now
  exported_stopped : {a u : ℕ} (n : ℕ) (κs : Lfts 2) (s : Bor (List ℕ)) (out out' : MutBor (List ℕ))
      → stop-reads.Learnt κs (s, (a, (u, (out, tt)))) n (s, (a, (u, (out', tt))))
      → ExportedLease s.now (stop a u (length out.now)) (stop_told (told_written n) out'.now) s.now

-- An exported call is answered, and leaves the bytes, as the definitions say, and its token has 64 bits.
called_exported : (s s' : List ℕ) (c : LeaseCall) (x : Answer (List ℕ)) → ExportedLease s c x s'
    → (x ≡ lent_answer s c) × (s' ≡ lent_after s c) × TokenFits c
called_exported s s' c x (exported_held {a = a} {u = u} n κs t t' e) =
    (hold_told n t.now a u e.0, e.1.0, e.1.1.fits)
called_exported s s' c x (exported_released {a = a} {u = u} n κs t t' e) =
    (release_told n t.now a u e.0, e.1.0, e.1.1.fits)
called_exported s s' c x (exported_stopped {a = a} {u = u} n κs t out out' e) = (
  told_is (told_written n) out.now out'.now (lent_answer t.now (stop a u (length out.now)))
      (stop_told_lem n t.now a u (length out.now) e.0)
      e.1.0,
  sym (stop_lent t.now a u (length out.now)),
  e.1.1.fits,
)

-- Every run of `csafe_hold`, `csafe_release` and `csafe_stop` on bytes that are all 00 is answered as a new table
-- answers those calls, and leaves the bytes of the table that they leave.
pub exported_calls : {cs : List LeaseCall} {rs : List (Answer (List ℕ))}
    (k : Answered ExportedLease (◌≡ new_bytes) cs rs)
    → (rs ≡ answers_on new_table cs) × (k.last ≡ bytes_of_all 8 (table_on new_table cs))
exported_calls k = lent_runs ExportedLease called_exported k

-- Document 01's sentences of every run of `csafe_hold`, `csafe_release` and `csafe_stop`.
pub exported_leases : LentLeases ExportedLease
exported_leases = lent_sentences ExportedLease called_exported
