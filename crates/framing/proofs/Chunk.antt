-- Laws of bytes given to a reader in chunks: one byte more, what every turn keeps, how far a chunk is taken, the bytes
-- fed singly, and runs of bytes that are not answered.
use mathlib.Core.Path.{◌≡◌, refl, sym, ap, ap₂, ◌∙◌, subst}
use mathlib.Core.Bool.{Bool, true, false, true≢false}
use mathlib.Core.List.{List, [], ◌∷◌, ◌++◌, append_assoc}
use native.Mathlib.Numerals.{add-one}
use native.Mathlib.Omega.{arith}
use Prim.Native.Nat.{ℕ, zero, suc, ◌+◌, ◌-◌, ◌≤◌, ◌<◌}
use lib.ListN.{length, take, drop, get_or, length-append, length-map, length-drop, drop_of_length-le, take-append-drop}
use lib.Seq.{drop-cons, drop-drop, take-take, length-take-le}
use Rattle.lists.specs.Choice.{pick, none_of, count_before}
use Rattle.lists.specs.Machine.{Turn, run, left_after, RanBy, Through}
use Rattle.lists.proofs.Machines.{ran_by_run, through_known}
use Rattle.lists.proofs.Cases.{by_bool}
use Rattle.lists.proofs.Lists.{rest_part, take_bounds, take_some, take-map}
use Rattle.lists.proofs.Before.{before_fits, before_clear}
use Rattle.framing.specs.Reference.{Call, byte, Role, starts, stops, FlagFree, none, opened, Protocol}
use Rattle.framing.specs.Reference.{byte_answer, byte_after, answer_to, candidate_after, reference}
use Rattle.framing.specs.Demand3.{feed}
use Rattle.framing.specs.Chunk.{FedTurn, fed_turn, later_by, fed_by, chunk_limit, cut_chunk, last_answered, turn_answer}
use Rattle.framing.specs.Chunk.{turn_next, FirstSingly, Singly, TakenSingly}

-- ---- counting

module _ {S A : Type 0} where
  pub plus_zero : (f : FedTurn S A) → f ≡ later_by 0 f
  plus_zero f = let e : f.taken ≡ 0 + f.taken = omega arith in ap (fed_turn f.answer f.next) e

  pub plus_plus : (i j k : ℕ) (f : FedTurn S A) → i + j ≡ k → later_by i (later_by j f) ≡ later_by k f
  plus_plus i j k f e = let q : i + (j + f.taken) ≡ k + f.taken = omega arith in ap (fed_turn f.answer f.next) q

  -- What a chunk's turn has, by whether its first byte is answered, where f is what the bytes after that give.
  by_answered : (P : FedTurn S A → Type 0) (t : Turn S A) (f : FedTurn S A) (q : Bool)
      → (q ≡ true → P (fed_turn t.answer t.next 1)) → (q ≡ false → P (later_by 1 f))
      → P (pick q (fed_turn t.answer t.next 1) (later_by 1 f))
  by_answered P t f true y n = y refl
  by_answered P t f false y n = n refl

-- No more bytes are taken than there are, with an answer at least one, and with none all.
pub record Extent {S A : Type 0} (is_answer : A → Bool) (bytes : List ℕ) (f : FedTurn S A) : Type 0 where
  pub within : f.taken ≤ length bytes
  pub some : is_answer f.answer ≡ true → 1 ≤ f.taken
  pub all : is_answer f.answer ≡ false → f.taken ≡ length bytes

-- ---- the single calls that a chunk stands for

-- a byte that is not answered before the answers of others
pub answered_more : {A : Type 0} (nothing : A) (n : ℕ) (a : A) → (n ≡ 0 → a ≡ nothing)
    → last_answered nothing (suc n) a ≡ nothing ∷ last_answered nothing n a
answered_more {A} nothing zero a h = ap (λ (x : A). x ∷ []) (h refl)
answered_more nothing (suc n) a h = refl

module _ {S A : Type 0} (turn_of : S → Call → Turn S A) where
  -- One byte more before a chunk, by whether it is answered.
  pub singly_more : (nothing : A) (s : S) (b : ℕ) (bytes : List ℕ) (f : FedTurn S A) (q : Bool)
      → (q ≡ false → (turn_of s (byte b)).answer ≡ nothing) → (f.taken ≡ 0 → f.answer ≡ nothing)
      → TakenSingly turn_of nothing (turn_of s (byte b)).next bytes f
      → TakenSingly turn_of nothing s (b ∷ bytes)
      (pick q (fed_turn (turn_of s (byte b)).answer (turn_of s (byte b)).next 1) (later_by 1 f))
  singly_more nothing s b bytes f true e z k = record { answers_are = refl; state_is = refl }
  singly_more nothing s b bytes f false e z k =
      let one : suc f.taken ≡ 1 + f.taken = omega arith in
      subst (λ (n : ℕ). TakenSingly turn_of nothing s (b ∷ bytes) (fed_turn f.answer f.next n)) one (record {
        answers_are = answered_more nothing f.taken f.answer z
            ∙ ap₂ (λ (x : A) (l : List A). x ∷ l) (sym (e refl)) k.answers_are;
        state_is = k.state_is;
      })

  -- Of a chunk that was cut to its first 65,536 bytes, the bytes taken are the first of the chunk.
  pub cut_singly : (nothing : A) (s : S) (given : List ℕ) (f : FedTurn S A) → f.taken ≤ length (cut_chunk given)
      → TakenSingly turn_of nothing s (cut_chunk given) f
      → FirstSingly turn_of s (feed given) f.taken (last_answered nothing f.taken f.answer) f.next
  cut_singly nothing s given f w k =
      let n = f.taken in
      let first : feed (take n (cut_chunk given)) ≡ take n (feed given) =
      ap feed (take-take n chunk_limit given (omega (arith, (take_bounds chunk_limit given).0)))
      ∙ sym (take-map byte n given) in (
        omega (arith, (take_bounds chunk_limit given).1, length-map given byte),
        k.answers_are ∙ ap (run (turn_answer turn_of) (turn_next turn_of) s) first,
        k.state_is ∙ ap (left_after (turn_next turn_of) s) first,
      )

  -- Two answers to the same calls, each as they are singly, are the same, and so are the states.
  pub singly_agree : (s : S) (calls : List Call) (answers answers' : List A) (last last' : S)
      → Singly turn_of s calls answers last → Singly turn_of s calls answers' last' → (answers ≡ answers') × (last ≡ last')
  singly_agree s calls answers answers' last last' k l =
      (k.answers_are ∙ sym l.answers_are, k.state_is ∙ sym l.state_is)

-- ---- a chunk, cut to its first 65,536 bytes

-- It is empty exactly where the chunk is.
pub cut_some : (s : List ℕ) → 0 < length s → 1 ≤ length (cut_chunk s)
cut_some s h = take_some chunk_limit s (omega arith) h

pub cut_fits : (s : List ℕ) → 1 ≤ length (cut_chunk s) → 1 ≤ length s
cut_fits s h = omega (arith, (take_bounds chunk_limit s).1)

-- ---- a candidate

-- The bytes of a terminated candidate that come first are answered with nothing, but for the last, which is answered as
-- the candidate is judged.
module _ {A : Type 0} (P : Protocol A) (flag stop : ℕ) (s : P.role flag ≡ starts) (e : P.role stop ≡ stops) where
  -- its answers, with one byte before them that is not answered
  told_more : (b : ℕ) (body : List ℕ) (a : A) → P.nothing ∷ last_answered P.nothing (length (body ++ stop ∷ [])) a
      ≡ last_answered P.nothing (length (b ∷ (body ++ stop ∷ []))) a
  told_more b body a =
      sym (answered_more P.nothing (length (body ++ stop ∷ [])) a
      (λ z. absurd (omega (arith, z, length-append body (stop ∷ [])))))

  -- from an open candidate on
  body_told : (before body : List ℕ) → FlagFree P.role body
      → run (answer_to P) (candidate_after P) (opened before) (feed (body ++ stop ∷ []))
      ≡ last_answered P.nothing (length (body ++ stop ∷ [])) (P.judge (before ++ (body ++ stop ∷ [])))
  body_told before [] f = ap (λ (ρ : Role). byte_answer P ρ (opened before) stop ∷ []) e
  body_told before (b ∷ body) f =
      let rest = body ++ stop ∷ [] in
      ap (λ (ρ : Role). byte_answer P ρ (opened before) b
      ∷ run (answer_to P) (candidate_after P) (byte_after P ρ (opened before) b) (feed rest)) f.0
      ∙ ap (λ (l : List A). P.nothing ∷ l) (body_told (before ++ b ∷ []) body f.1)
      ∙ ap (λ (l : List ℕ). P.nothing ∷ last_answered P.nothing (length rest) (P.judge l))
      (append_assoc before (b ∷ []) rest)
      ∙ told_more b body (P.judge (before ++ (b ∷ rest)))

  pub candidate_told : (body : List ℕ) → FlagFree P.role body
      → reference P (feed (flag ∷ (body ++ stop ∷ [])))
      ≡ last_answered P.nothing (length (flag ∷ (body ++ stop ∷ []))) (P.judge (flag ∷ (body ++ stop ∷ [])))
  candidate_told body f =
      ap (λ (ρ : Role). byte_answer P ρ none flag
      ∷ run (answer_to P) (candidate_after P) (byte_after P ρ none flag) (feed (body ++ stop ∷ []))) s
      ∙ ap (λ (l : List A). P.nothing ∷ l) (body_told (flag ∷ []) body f)
      ∙ told_more flag body (P.judge (flag ∷ (body ++ stop ∷ [])))

-- ---- where a run ends

module _ (ends_run : ℕ → Bool) (s : List ℕ) (from : ℕ) where
  -- where the search in the part from an index on ends, as code takes it
  pub search_ends : (n : ℕ) → n ≡ count_before ends_run (take (length s - from) (drop from s))
      → from + n ≡ from + count_before ends_run (drop from s)
  search_ends n e = ap (λ (k : ℕ). from + k) (e ∙ ap (count_before ends_run) (rest_part s from))

  module _ (at : ℕ) where
    pub run_inside : from ≤ length s → at ≡ from + count_before ends_run (drop from s) → at ≤ length s
    run_inside h e = omega (arith, before_fits ends_run (drop from s), length-drop from s)

    pub run_clear : at ≡ from + count_before ends_run (drop from s)
        → none_of ends_run (take (at - from) (drop from s)) ≡ true
    run_clear e =
        let n : at - from ≡ count_before ends_run (drop from s) = omega arith in
        ap (λ (k : ℕ). none_of ends_run (take k (drop from s))) n ∙ before_clear ends_run (drop from s)

module _ {S A : Type 0} (nothing : A) (is_answer : A → Bool) (turn_of : S → Call → Turn S A) where
  abbrev fed : S → List ℕ → FedTurn S A
  fed s bytes = fed_by nothing is_answer turn_of s bytes

  -- ---- how far a chunk is taken

  module _ (silent : is_answer nothing ≡ false) where
    pub fed_extent : (s : S) (bytes : List ℕ) → Extent is_answer bytes (fed s bytes)
    unfolding fed_by
    fed_extent s [] = record {
      within = omega arith;
      some = λ e. absurd (true≢false (sym e ∙ silent));
      all = λ e. refl;
    }
    fed_extent s (b ∷ bytes) =
        let t = turn_of s (byte b) in
        let k = fed_extent t.next bytes in
        by_bool (is_answer t.answer)
        (λ y. simp y (record {
          within = omega arith;
          some = λ e. omega arith;
          all = λ e. absurd (true≢false (sym y ∙ e));
        }))
        (λ n. simp n (record {
          within = omega (arith, k.within);
          some = λ e. omega arith;
          all = λ e. omega (arith, k.all e);
        }))

    module _ (quiet : (a : A) → is_answer a ≡ false → a ≡ nothing) where
      -- an answer takes a byte
      untaken_silent : (s : S) (bytes : List ℕ) → (fed s bytes).taken ≡ 0 → (fed s bytes).answer ≡ nothing
      untaken_silent s bytes e =
          by_bool (is_answer (fed s bytes).answer)
          (λ y. absurd (omega (arith, e, (fed_extent s bytes).some y)))
          (quiet (fed s bytes).answer)

      -- The bytes that a chunk takes are answered, and leave the state, as they do singly.
      pub fed_singly : (s : S) (bytes : List ℕ)
          → TakenSingly turn_of nothing s bytes (fed_by nothing is_answer turn_of s bytes)
      unfolding fed_by
      fed_singly s [] = record { answers_are = refl; state_is = refl }
      fed_singly s (b ∷ bytes) =
          let t = turn_of s (byte b) in
          singly_more turn_of nothing s b bytes (fed t.next bytes) (is_answer t.answer) (quiet t.answer)
          (untaken_silent t.next bytes) (fed_singly t.next bytes)

      -- The same of a chunk that is cut to its first 65,536 bytes.
      pub chunk_singly : (s : S) (given : List ℕ)
          → FirstSingly turn_of s (feed given) (fed_by nothing is_answer turn_of s (cut_chunk given)).taken
          (last_answered nothing (fed_by nothing is_answer turn_of s (cut_chunk given)).taken
          (fed_by nothing is_answer turn_of s (cut_chunk given)).answer)
          (fed_by nothing is_answer turn_of s (cut_chunk given)).next
      chunk_singly s given =
          cut_singly turn_of nothing s given (fed s (cut_chunk given)) (fed_extent s (cut_chunk given)).within
          (fed_singly s (cut_chunk given))

  -- ---- one byte

  -- What a byte's turn and the bytes after it give.
  abbrev from_turn : Turn S A → List ℕ → FedTurn S A
  from_turn t bytes = pick (is_answer t.answer) (fed_turn t.answer t.next 1) (later_by 1 (fed t.next bytes))

  fed_byte : (s : S) (b : ℕ) (bytes : List ℕ) → fed s (b ∷ bytes) ≡ from_turn (turn_of s (byte b)) bytes
  unfolding fed_by
  fed_byte s b bytes = refl

  module _ (s : S) (bytes : List ℕ) (i : ℕ) (below : i < length bytes) where
    abbrev at : Turn S A
    at = turn_of s (byte (get_or bytes i 0))

    first : fed s (drop i bytes) ≡ from_turn at (drop (i + 1) bytes)
    first =
        ap (fed s) (drop-cons bytes i 0 below)
        ∙ ap (λ (n : ℕ). fed s (get_or bytes i 0 ∷ drop n bytes)) (sym (add-one i))
        ∙ fed_byte s (get_or bytes i 0) (drop (i + 1) bytes)

    abbrev by_test : Bool → FedTurn S A
    by_test t = pick t (fed_turn at.answer at.next 1) (later_by 1 (fed at.next (drop (i + 1) bytes)))

    pub not_answered : is_answer at.answer ≡ false
        → later_by i (fed s (drop i bytes)) ≡ later_by (i + 1) (fed at.next (drop (i + 1) bytes))
    not_answered e =
        ap (later_by i) (first ∙ ap by_test e) ∙ plus_plus i 1 (i + 1) (fed at.next (drop (i + 1) bytes)) refl

    pub answered : is_answer at.answer ≡ true
        → later_by i (fed s (drop i bytes)) ≡ fed_turn at.answer at.next (i + 1)
    answered e = ap (later_by i) (first ∙ ap by_test e)

  -- no byte is left
  pub no_byte_left : (s : S) (bytes : List ℕ) (i : ℕ) → length bytes ≤ i
      → later_by i (fed s (drop i bytes)) ≡ fed_turn nothing s i
  unfolding fed_by
  no_byte_left s bytes i h =
      let z : i + 0 ≡ i = omega arith in
      ap (λ (l : List ℕ). later_by i (fed s l)) (drop_of_length-le bytes {i = i} h) ∙ ap (fed_turn nothing s) z

  -- ---- every byte

  -- Where every byte keeps R: what nothing has with each state of R, and each byte's answer with the state that it
  -- leaves, a chunk's answer has with the state that it leaves.
  pub fed_has : (R : S → Type 0) (P : A → S → Type 0) → ((s : S) → R s → P nothing s)
      → ((s : S) (b : ℕ) → R s → R (turn_of s (byte b)).next × P (turn_of s (byte b)).answer (turn_of s (byte b)).next)
      → (s : S) (bytes : List ℕ) → R s → P (fed s bytes).answer (fed s bytes).next
  unfolding fed_by
  fed_has R P quiet each s [] k = quiet s k
  fed_has R P quiet each s (b ∷ bytes) k =
      let t = turn_of s (byte b) in
      by_answered (λ f. P f.answer f.next) t (fed t.next bytes) (is_answer t.answer) (λ y. (each s b k).1)
      (λ n. fed_has R P quiet each t.next bytes (each s b k).0)

  -- What nothing has and the answer to every byte, a chunk's answer has.
  pub fed_answer : (P : A → Type 0) → P nothing → ((s : S) (b : ℕ) → P (turn_of s (byte b)).answer)
      → (s : S) (bytes : List ℕ) → P (fed_by nothing is_answer turn_of s bytes).answer
  fed_answer P quiet each s bytes =
      fed_has (λ u. Unit {0}) (λ a u. P a) (λ u k. quiet) (λ u b k. (tt, each u b)) s bytes tt

  -- What every byte keeps, a chunk keeps.
  pub fed_next : (R : S → Type 0) → ((s : S) (b : ℕ) → R s → R (turn_of s (byte b)).next) → (s : S) (bytes : List ℕ)
      → R s → R (fed s bytes).next
  fed_next R each s bytes k = fed_has R (λ a u. R u) (λ u h. h) (λ u b h. (each u b h, each u b h)) s bytes k

  -- ---- runs

  -- A run ends before the first byte that passes a test. No other byte is answered, and each leaves the state as given.
  module _ (ends_run : ℕ → Bool) (after : S → ℕ → S)
      (each : (s : S) (b : ℕ) → ends_run b ≡ false
      → (is_answer (turn_of s (byte b)).answer ≡ false) × ((turn_of s (byte b)).next ≡ after s b)) where
    -- The bytes of a run, with any bytes after them, as they are fed.
    pub fed_run : (bytes rest : List ℕ) (s : S) → none_of ends_run bytes ≡ true
        → fed s (bytes ++ rest) ≡ later_by (length bytes) (fed (left_after after s bytes) rest)
    unfolding none_of
    fed_run [] rest s clear = plus_zero (fed s rest)
    fed_run (b ∷ bytes) rest s clear =
        by_bool (ends_run b)
        (λ y. absurd (true≢false (sym clear ∙ simp y)))
        (λ n. let t = turn_of s (byte b) in
        let e = each s b n in
        let k : 1 + length bytes ≡ suc (length bytes) = omega arith in
        fed_byte s b (bytes ++ rest)
        ∙ ap (λ (q : Bool). pick q (fed_turn t.answer t.next 1) (later_by 1 (fed t.next (bytes ++ rest)))) e.0
        ∙ ap (λ (u : S). later_by 1 (fed u (bytes ++ rest))) e.1
        ∙ ap (later_by 1) (fed_run bytes rest (after s b) (simp n at clear))
        ∙ plus_plus 1 (length bytes) (suc (length bytes)) (fed (left_after after (after s b) bytes) rest) k)

    -- From an index on, up to where the run ends.
    pub run_on : (bytes : List ℕ) (from at : ℕ) → from ≤ length bytes
        → at ≡ from + count_before ends_run (drop from bytes) → (s next : S)
        → next ≡ left_after after s (take (at - from) (drop from bytes))
        → later_by from (fed s (drop from bytes)) ≡ later_by at (fed next (drop at bytes))
    run_on bytes from at h e s next q =
        ap (λ (l : List ℕ). later_by from (fed s l)) (sym (take-append-drop (at - from) (drop from bytes)))
        ∙ ap (later_by from) (fed_run part (drop (at - from) (drop from bytes)) s (run_clear ends_run bytes from at e))
        ∙ plus_plus from (length part) at (fed (left_after after s part) (drop (at - from) (drop from bytes))) count
        ∙ ap (λ (l : List ℕ). later_by at (fed (left_after after s part) l)) rest
        ∙ ap (λ (u : S). later_by at (fed u (drop at bytes))) (sym q)
      where
        part : List ℕ
        part = take (at - from) (drop from bytes)

        count : from + length part ≡ at
        count =
            omega (
              arith,
              length-take-le (at - from) (drop from bytes)
                  (omega (arith, run_inside ends_run bytes from at h e, length-drop from bytes)),
            )

        rest : drop (at - from) (drop from bytes) ≡ drop at bytes
        rest =
            let n : from + (at - from) ≡ at = omega arith in
            drop-drop (at - from) from bytes ∙ ap (λ (k : ℕ). drop k bytes) n

-- ---- calls in a row, each of which takes the first of what it is given

module _ {S T A : Type 0} (turn_of : T → Call → Turn T A) (made : S → List Call → ℕ → List A → S → Type 0) (seen : S → T)
    (each : (s t : S) (given : List Call) (taken : ℕ) (answers : List A) → made s given taken answers t
    → FirstSingly turn_of (seen s) given taken answers (seen t)) where
  -- They are answered, and leave what is seen of the state, as the calls that they took are and do singly.
  pub rows_singly : {s last : S} {calls : List Call} {answers : List A} → RanBy made s calls answers last
      → Singly turn_of (seen s) calls answers (seen last)
  rows_singly t =
      let k = ran_by_run made (turn_answer turn_of) (turn_next turn_of) seen each t in
      record { answers_are = k.0; state_is = k.1 }

  -- However a stream is cut.
  pub stream_rows : {s last : S} {stream : List Call} {answers : List A} → Through made s stream answers last
      → Singly turn_of (seen s) stream answers (seen last)
  stream_rows t =
      rows_singly (through_known made made (λ s calls. Unit {0})
      (λ s u given later taken answers k w. ((each s u given taken answers k).0, k, tt)) t tt)
