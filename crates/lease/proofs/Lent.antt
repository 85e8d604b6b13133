-- Lent bytes answer as the table that they are, over any list of calls.
use Prim.Native.Nat.{ℕ, zero, suc, ◌+◌, ◌*◌, ◌^◌, ◌≤◌, ◌<◌}
use mathlib.Core.Path.{◌≡◌, refl, sym, ap, ap₂, ◌∙◌, subst}
use mathlib.Core.Logic.{◌⊎◌, inl, inr}
use mathlib.Core.List.{List, [], ◌∷◌, map}
use native.Mathlib.Omega.{arith}
use native.Mathlib.Nat.{zero-add}
use lib.ListN.{length, get_or, set, replicate}
use lib.Seq.{take_all}
use Rattle.lists.specs.Machine.{Answered}
use Rattle.lists.proofs.Machines.{simulates_every, ran-run, ran_every}
use Rattle.numbers.specs.Number.{number, numbers, put, bytes_of_all, Bytes}
use Rattle.numbers.proofs.Numbers.{length-numbers, numbers-put, length-put, put_bytes, bytes_numbers, put_before}
use Rattle.numbers.proofs.Numbers.{put_after}
use Rattle.answer.specs.Answer.{result, refused, Answer}
use Rattle.lease.specs.Lease.{LeaseCall, hold, release, stop, address_of, table_answer, table_left, table_after}
use Rattle.lease.specs.Lease.{table_of, lent_answer, lent_left, lent_after}
use Rattle.lease.specs.History.{new_table, new_bytes, table_on, answers_on, lent_on, lent_answers_on, Tokens, TokenFits}
use Rattle.lease.specs.History.{Exchange, RanLent, ended, call, aside}
use Rattle.lease.specs.Leases.{LentRun, LentLeases}
use Rattle.lease.proofs.LeaseLaws.{range_means, accepted_range, lent_answer_lem, lent_size, never_18}
use Rattle.lease.proofs.TableHistory.{Follows}
use Rattle.lease.proofs.Sentences.{sentences}

-- ---- one call

-- What the bytes keep, whatever the answer: their number, and that they are bytes.
length_left : (s : List ℕ) (x : Answer (List ℕ)) (c : LeaseCall) → length (lent_left x c s) ≡ length s
length_left s (refused n) c = refl
length_left s (result w) (hold a t) = length-put 8 (8 * a) t s
length_left s (result w) (release a t) = length-put 8 (8 * a) 0 s
length_left s (result w) (stop a t room) = refl

bytes_left : (s : List ℕ) (x : Answer (List ℕ)) (c : LeaseCall) → Bytes s → Bytes (lent_left x c s)
bytes_left s (refused n) c b = b
bytes_left s (result w) (hold a t) b = put_bytes 8 (8 * a) t s b
bytes_left s (result w) (release a t) b = put_bytes 8 (8 * a) 0 s b
bytes_left s (result w) (stop a t room) b = b

-- A token of 64 bits written over an address's bytes is put into the table that they are.
table_put : (s : List ℕ) (a t : ℕ) → length s ≡ 2048 → a < 256 → t < 2 ^ 64
    → table_of (put 8 (8 * a) t s) ≡ set (table_of s) a t
table_put s a t size k b =
    ap (λ (i : ℕ). table_of (put 8 i t s)) (sym (zero-add (8 * a))) ∙ numbers-put 8 256 0 t s a k (omega arith) b

-- The bytes after a call, read as a table, are the table after it.
table_left_lem : (s : List ℕ) (x : Answer (List ℕ)) (c : LeaseCall) → length s ≡ 2048 → TokenFits c
    → table_answer (table_of s) c ≡ x → table_of (lent_left x c s) ≡ table_left x c (table_of s)
table_left_lem s (refused n) c size b e = refl
table_left_lem s (result w) (hold a t) size b e =
    let r = range_means a (accepted_range (get_or (table_of s) a 0) (hold a t) w e) in
    table_put s a t size (omega (arith, r.1)) b
table_left_lem s (result w) (release a t) size b e =
    let r = range_means a (accepted_range (get_or (table_of s) a 0) (release a t) w e) in
    table_put s a 0 size (omega (arith, r.1)) (omega arith)
table_left_lem s (result w) (stop a t room) size b e = refl

table_lent : (s : List ℕ) (c : LeaseCall) → length s ≡ 2048 → TokenFits c
    → table_of (lent_after s c) ≡ table_after (table_of s) c
table_lent s c size b =
    ap (λ (x : Answer (List ℕ)). table_of (lent_left x c s)) (lent_answer_lem s c size)
    ∙ table_left_lem s (table_answer (table_of s) c) c size b refl

-- Bytes of other addresses are untouched, by any call on any bytes.
pub others_untouched : (s : List ℕ) (c : LeaseCall) (i : ℕ) → (i < 8 * address_of c) ⊎ (8 * address_of c + 8 ≤ i)
    → get_or (lent_after s c) i 0 ≡ get_or s i 0
others_untouched s c i o = by (lent_answer s c) c o
  where
    apart : (a t : ℕ) → (i < 8 * a) ⊎ (8 * a + 8 ≤ i) → get_or (put 8 (8 * a) t s) i 0 ≡ get_or s i 0
    apart a t (inl h) = put_before 8 (8 * a) t s i h
    apart a t (inr h) = put_after 8 (8 * a) t s i h

    by : (x : Answer (List ℕ)) (c : LeaseCall) → (i < 8 * address_of c) ⊎ (8 * address_of c + 8 ≤ i)
        → get_or (lent_left x c s) i 0 ≡ get_or s i 0
    by (refused n) c o = refl
    by (result w) (hold a t) o = apart a t o
    by (result w) (release a t) o = apart a 0 o
    by (result w) (stop a t room) o = refl

-- ---- bytes that are a table

-- The lent bytes s are the bytes of the table ts.
record IsTable (s ts : List ℕ) : Type 0 where
  size : length s ≡ 2048
  bytes : Bytes s
  table : table_of s ≡ ts

-- Bytes of a table are answered as it is.
answer_as : (s ts : List ℕ) (c : LeaseCall) → IsTable s ts → lent_answer s c ≡ table_answer ts c
answer_as s ts c k = lent_answer_lem s c k.size ∙ ap (λ (us : List ℕ). table_answer us c) k.table

-- A call on bytes of a table leaves the bytes of the table that it leaves.
call_as : (s ts : List ℕ) (c : LeaseCall) → TokenFits c → IsTable s ts
    → (lent_answer s c ≡ table_answer ts c) × IsTable (lent_after s c) (table_after ts c)
call_as s ts c b k = (
  answer_as s ts c k,
  record {
    size = length_left s (lent_answer s c) c ∙ k.size;
    bytes = bytes_left s (lent_answer s c) c k.bytes;
    table = table_lent s c k.size b ∙ ap (λ (us : List ℕ). table_after us c) k.table;
  },
)

-- Calls on bytes of a table are answered as it is, and leave the bytes of the table that they leave.
run_as : (s ts : List ℕ) → IsTable s ts → (cs : List LeaseCall) → Tokens cs
    → (lent_answers_on s cs ≡ answers_on ts cs) × IsTable (lent_on s cs) (table_on ts cs)
run_as s ts k cs t =
    simulates_every lent_answer lent_after table_answer table_after TokenFits IsTable call_as s ts k cs t

itself : (s : List ℕ) → length s ≡ 2048 → Bytes s → IsTable s (table_of s)
itself s size b = record { size = size; bytes = b; table = refl }

-- Bytes of a table are its tokens written one after the other.
bytes_as : (s ts : List ℕ) → IsTable s ts → s ≡ bytes_of_all 8 ts
bytes_as s ts k =
    sym (bytes_numbers 8 256 0 s k.bytes (omega (arith, k.size)) ∙ take_all 2048 s (omega (arith, k.size)))
    ∙ ap (bytes_of_all 8) k.table

-- One call: the bytes are read as a table, called, and packed again.
pub lent_one : (s : List ℕ) (c : LeaseCall) → length s ≡ 2048 → Bytes s → TokenFits c
    → lent_after s c ≡ bytes_of_all 8 (table_after (table_of s) c)
lent_one s c size b t =
    bytes_as (lent_after s c) (table_after (table_of s) c) (call_as s (table_of s) c t (itself s size b)).1

-- Any calls on 2,048 bytes are answered as the table that the bytes are.
pub lent_answers : (s : List ℕ) (cs : List LeaseCall) → length s ≡ 2048 → Bytes s → Tokens cs
    → lent_answers_on s cs ≡ answers_on (table_of s) cs
lent_answers s cs size b t = (run_as s (table_of s) (itself s size b) cs t).0

-- Any calls on 2,048 bytes leave the bytes of the table that they leave.
pub lent_bytes_on : (s : List ℕ) (cs : List LeaseCall) → length s ≡ 2048 → Bytes s → Tokens cs
    → lent_on s cs ≡ bytes_of_all 8 (table_on (table_of s) cs)
lent_bytes_on s cs size b t =
    bytes_as (lent_on s cs) (table_on (table_of s) cs) (run_as s (table_of s) (itself s size b) cs t).1

-- ---- what changes nothing

-- A refused call changes no token.
pub refused_table : (ts : List ℕ) (c : LeaseCall) (n : ℕ) → table_answer ts c ≡ refused n → table_after ts c ≡ ts
refused_table ts c n e = ap (λ (x : Answer (List ℕ)). table_left x c ts) e

-- what is left is the same for every answer where it is for a result and for a refusal
any_answer : (left : Answer (List ℕ) → List ℕ) (s : List ℕ) → ((w : List ℕ) → left (result w) ≡ s)
    → ((n : ℕ) → left (refused n) ≡ s) → (x : Answer (List ℕ)) → left x ≡ s
any_answer left s r f (result w) = r w
any_answer left s r f (refused n) = f n

-- A stop changes no token.
pub stop_table : (ts : List ℕ) (a t room : ℕ) → table_after ts (stop a t room) ≡ ts
stop_table ts a t room =
    any_answer (λ x. table_left x (stop a t room) ts) ts (λ w. refl) (λ n. refl) (table_answer ts (stop a t room))

-- A refused call changes no byte.
pub refused_lent : (s : List ℕ) (c : LeaseCall) (n : ℕ) → lent_answer s c ≡ refused n → lent_after s c ≡ s
refused_lent s c n e = ap (λ (x : Answer (List ℕ)). lent_left x c s) e

-- A stop changes no byte.
pub stop_lent : (s : List ℕ) (a t room : ℕ) → lent_after s (stop a t room) ≡ s
stop_lent s a t room =
    any_answer (λ x. lent_left x (stop a t room) s) s (λ w. refl) (λ n. refl) (lent_answer s (stop a t room))

-- Bytes of another length are answered 18, whatever the call, and stay.
pub wrong_size : (s : List ℕ) (cs : List LeaseCall) → (length s ≡ 2048 → ⊥)
    → (lent_answers_on s cs ≡ map (λ c. refused 18) cs) × (lent_on s cs ≡ s)
wrong_size s [] n = (refl, refl)
wrong_size s (c ∷ cs) n =
    let q = lent_size s c n in
    let rest = wrong_size s cs n in (
      ap₂ (λ (r : Answer (List ℕ)) (us : List ℕ). r ∷ lent_answers_on us cs) (sym q.0) (sym q.1)
          ∙ ap (λ (rs : List (Answer (List ℕ))). refused 18 ∷ rs) rest.0,
      ap (λ (us : List ℕ). lent_on us cs) (sym q.1) ∙ rest.1,
    )

-- ---- the bytes of a new table

number-zero : (w at : ℕ) (s : List ℕ) → ((i : ℕ) → get_or s i 0 ≡ 0) → number w at s ≡ 0
unfolding number
number-zero zero at s z = refl
number-zero (suc w) at s z = omega (arith, z at, number-zero w (suc at) s z)

numbers-zero : (w c at : ℕ) (s : List ℕ) → ((i : ℕ) → get_or s i 0 ≡ 0) → numbers w c at s ≡ replicate c 0
unfolding numbers
numbers-zero w zero at s z = refl
numbers-zero w (suc c) at s z =
    ap₂ (λ (n : ℕ) (l : List ℕ). n ∷ l) (number-zero w at s z) (numbers-zero w c (at + w) s z)

zeros : (n i : ℕ) → ◌≡◌ {A = ℕ} (get_or (replicate n 0) i 0) 0
zeros zero i = refl
zeros (suc n) zero = refl
zeros (suc n) (suc i) = zeros n i

-- 2,048 bytes that are all 00 are those of a new table.
pub new_bytes_lem : table_of new_bytes ≡ new_table
new_bytes_lem = numbers-zero 8 256 0 new_bytes (zeros 2048)

new_table_lem : IsTable new_bytes new_table
new_table_lem = record { size = refl; bytes = λ i. omega (arith, zeros 2048 i); table = new_bytes_lem }

-- Any calls on the bytes of a new table are answered as a new table answers them, and leave the bytes of the table
-- that they leave.
pub new_lent : (cs : List LeaseCall) → Tokens cs
    → (lent_answers_on new_bytes cs ≡ answers_on new_table cs) × (lent_on new_bytes cs ≡ bytes_of_all 8 (table_on new_table cs))
new_lent cs t =
    let k = run_as new_bytes new_table new_table_lem cs t in
    (k.0, bytes_as (lent_on new_bytes cs) (table_on new_table cs) k.1)

-- ---- runs on lent bytes, known by what is known of each call

module _ (called : List ℕ → LeaseCall → Answer (List ℕ) → List ℕ → Type 0)
    (each : (s s' : List ℕ) (c : LeaseCall) (x : Answer (List ℕ)) → called s c x s'
    → (x ≡ lent_answer s c) × (s' ≡ lent_after s c) × TokenFits c) where
  aside_same : (s s' : List ℕ) (c : LeaseCall) (x : Answer (List ℕ)) → (length s ≡ 2048 → ⊥) → called s c x s'
      → (x ≡ refused 18) × (s' ≡ s)
  aside_same s s' c x n k =
      let e = each s s' c x k in let q = lent_size s c n in (e.0 ∙ sym q.0, e.1 ∙ sym q.1)

  -- A run on 2,048 bytes follows the table that they are.
  follows_lent : {s u : List ℕ} {es : List Exchange} → RanLent called s es u → length s ≡ 2048 → Follows (table_of s) es
  follows_lent ended size = tt
  follows_lent (call s t c x {history = es} k rest) size =
      let e = each s t c x k in
      let after = ap table_of e.1 ∙ table_lent s c size e.2 in
      let l = ap length e.1 ∙ length_left s (lent_answer s c) c ∙ size in
      (e.0 ∙ lent_answer_lem s c size, subst (λ (ts : List ℕ). Follows ts es) after (follows_lent rest l))
  follows_lent (aside s t table o o' c x {history = es} n k p q rest) size =
      let same : t ≡ s = q ∙ ap table (aside_same o o' c x n k).1 ∙ sym p in
      subst (λ (v : List ℕ). Follows (table_of v) es) same (follows_lent rest (ap length same ∙ size))

  -- A run on bytes that are all 00 is answered as a new table answers those calls, and leaves the bytes of the table
  -- that they leave.
  pub lent_runs : {cs : List LeaseCall} {rs : List (Answer (List ℕ))} (k : Answered called (◌≡ new_bytes) cs rs)
      → (rs ≡ answers_on new_table cs) × (k.last ≡ bytes_of_all 8 (table_on new_table cs))
  lent_runs {cs} k =
      let r = ran-run called lent_answer lent_after (λ (s : List ℕ). s)
      (λ s t c x l. let e = each s t c x l in (e.0, e.1)) k.ran in
      let n = new_lent cs (ran_every called TokenFits (λ s t c x l. (each s t c x l).2) k.ran) in (
        r.0 ∙ ap (λ (s : List ℕ). lent_answers_on s cs) k.made ∙ n.0,
        r.1 ∙ ap (λ (s : List ℕ). lent_on s cs) k.made ∙ n.1,
      )

  -- All of document 01's sentences hold of such runs.
  pub lent_sentences : LentLeases called
  lent_sentences =
      record {
        leases = sentences (LentRun called) (λ ts es r. (
          ap length (sym r.table) ∙ length-numbers 8 256 0 r.start,
          subst (λ (us : List ℕ). Follows us es) r.table (follows_lent r.ran r.size),
        ));
        other_length = λ s s' c x k. (
          (λ e size. never_18 (get_or (table_of s) (address_of c) 0) c
              (sym (lent_answer_lem s c size) ∙ sym (each s s' c x k).0 ∙ e)),
          (λ n. (aside_same s s' c x n k).0),
        );
        refusal_leaves = λ s s' c n k.
            let e = each s s' c (refused n) k in e.1 ∙ refused_lent s c n (sym e.0);
        own_bytes = λ s s' c x i k o.
            ap (λ (l : List ℕ). get_or l i 0) (each s s' c x k).1 ∙ others_untouched s c i o;
      }

-- A run on bytes that are all 00 is one on the bytes of a new table.
pub new_lent_run : {called : List ℕ → LeaseCall → Answer (List ℕ) → List ℕ → Type 0} {u : List ℕ} {es : List Exchange}
    → RanLent called new_bytes es u → LentRun called new_table es
new_lent_run {u = u} r = record { start = new_bytes; size = refl; table = new_bytes_lem; end = u; ran = r }
