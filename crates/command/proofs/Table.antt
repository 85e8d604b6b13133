-- Which answer is given exactly when: document 01's table for lists of entries, of the definitions that the contracts
-- name.
use Prim.Native.Nat.{ℕ, zero, suc, ◌+◌, ◌≤◌, ◌<◌}
use mathlib.Core.Path.{◌≡◌, refl, sym, ap, ◌∙◌, subst}
use mathlib.Core.Bool.{Bool, true, false, true≢false}
use mathlib.Core.List.{List, [], ◌∷◌, ◌++◌, append_assoc, append-nil}
use native.Mathlib.Omega.{arith}
use lib.Dec.{leb, ltb, eqb}
use lib.ListN.{length, take, drop, length-append, take-append-drop}
use lib.Seq.{length-take-le, drop-drop}
use borrow.Author.Tests.{ltb-true, ltb-false, lt-ltb, le-ltb, leb-true, leb-false, lt-leb, eqb-true}
use Rattle.lists.specs.Choice.{pick, Exactly}
use Rattle.lists.proofs.Cases.{by_bool}
use Rattle.answer.specs.Answer.{Answer, result, refused}
use Rattle.command.specs.Entries.{Entry, entry, commands, entry_bytes, list_bytes, WellFormed, AllWellFormed}
use Rattle.command.specs.Entries.{Parsed, unsound, sound, with_entry, parse, head_of, Extent, found, nth_of, nth_in}
use Rattle.command.specs.Answers.{CountAnswer, counted}
use Rattle.command.specs.Commands.{is_wrapper, nth_command, shifted, inside, nth_inside}
use Rattle.command.specs.Table.{SoundList, FailsFirst, no_count, beyond_end, UnsoundList, Counts, all_sound}
use Rattle.command.specs.Table.{bad_count_at, NthEntry, Nth, bad_count, absent, present, Wrapper, is_1A, is_76}
use Rattle.command.specs.Table.{is_77, is_7E, is_7F, NthInside, outer_refused, no_wrapper, in_wrapper}
use Rattle.command.proofs.Sound.{parse_entry, sound_exactly}
use Rattle.command.proofs.Extents.{wire_append, nth_at, width_of, body_at, formed_one}

-- ---- unsound lists

-- one entry more before a list that is unsound
entry_before : (limit : ℕ) (e : Entry) (s rest : List ℕ) (at k : ℕ) → WellFormed limit e
    → s ≡ entry_bytes limit e ++ rest → at ≡ length (entry_bytes limit e) + k → UnsoundList limit rest k
    → UnsoundList limit s at
unfolding list_bytes AllWellFormed
entry_before limit e s rest at k f b p u =
    record {
      before = e ∷ u.before;
      formed = (f, u.formed);
      rest = u.rest;
      bytes = b ∙ ap (λ (l : List ℕ). entry_bytes limit e ++ l) u.bytes
          ∙ sym (append_assoc (entry_bytes limit e) (list_bytes limit u.before) u.rest);
      fails = u.fails;
      place = omega (arith, p, u.place, length-append (entry_bytes limit e) (list_bytes limit u.before));
    }

fails_here : (limit : ℕ) (s : List ℕ) (at : ℕ) → FailsFirst limit s → unsound 0 ≡ unsound at → UnsoundList limit s at
unfolding list_bytes AllWellFormed
fails_here limit s at f e =
    let z : at ≡ 0 = cc in record { before = []; formed = tt; rest = s; bytes = refl; fails = f; place = z }

with_inv : (limit : ℕ) (e : Entry) (p : Parsed) (at : ℕ) → with_entry limit e p ≡ unsound at
    → (k : ℕ) × (p ≡ unsound k) × (at ≡ length (entry_bytes limit e) + k)
unfolding with_entry
with_inv limit e (unsound k) at h = let q : at ≡ length (entry_bytes limit e) + k = cc in (k, refl, q)
with_inv limit e (sound es) at h = let w : ◌≡◌ {A = ℕ} 0 1 = cc in absurd (omega arith)

never_sound : {P : Type 0} (es : List Entry) (at : ℕ) → sound es ≡ unsound at → P
never_sound es at h = let w : ◌≡◌ {A = ℕ} 0 1 = cc in absurd (omega arith)

pub counted_bytes : (limit b n : ℕ) (s : List ℕ) → ltb b limit ≡ true → n ≤ length s
    → (b ∷ n ∷ s ≡ entry_bytes limit (entry b (take n s)) ++ drop n s) × WellFormed limit (entry b (take n s))
unfolding entry_bytes
counted_bytes limit b n s y h =
    let l : length (take n s) ≡ n = length-take-le n s h in (
      sym ((simp (y, l)) ∙ ap (λ (x : List ℕ). b ∷ n ∷ x) (take-append-drop n s)),
      λ k. absurd (true≢false (sym y ∙ le-ltb b limit k)),
    )

pub short_bytes : (limit b : ℕ) (s : List ℕ) → ltb b limit ≡ false → b ∷ s ≡ entry_bytes limit (entry b []) ++ s
unfolding entry_bytes
short_bytes limit b s y = sym (simp y)

unsound_list : (limit : ℕ) (s : List ℕ) (k at : ℕ) → k ≤ length s → parse limit s k ≡ unsound at
    → UnsoundList limit (drop k s) at
unfolding parse
unsound_list limit [] zero at l h = never_sound [] at h
unsound_list limit [] (suc k) at l h = absurd (omega arith)
unsound_list limit (x ∷ s) (suc k) at l h = unsound_list limit s k at (omega arith) h
unsound_list limit (b ∷ []) zero at l h =
    by_bool (ltb b limit)
    (λ y. fails_here limit (b ∷ []) at (no_count (ltb-true _ _ y)) (simp y at h))
    (λ y. let p = with_inv limit (entry b []) (sound []) at (simp y at h) in never_sound [] p.0 p.1)
unsound_list limit (b ∷ n ∷ s) zero at l h =
    by_bool (ltb b limit)
    (λ y. by_bool (leb n (length s))
    (λ z. let p = with_inv limit (entry b (take n s)) (parse limit s n) at (simp (y, z) at h) in
    let fits : n ≤ length s = leb-true _ _ z in
    let c = counted_bytes limit b n s y fits in
    entry_before limit (entry b (take n s)) (b ∷ n ∷ s) (drop n s) at p.0 c.1 c.0 p.2
    (unsound_list limit s n p.0 fits p.1))
    (λ z. fails_here limit (b ∷ n ∷ s) at (beyond_end (ltb-true _ _ y) (leb-false _ _ z)) (simp (y, z) at h)))
    (λ y. let p = with_inv limit (entry b []) (parse limit (n ∷ s) 0) at (simp y at h) in
    entry_before limit (entry b []) (b ∷ n ∷ s) (n ∷ s) at p.0 (λ k. refl) (short_bytes limit b (n ∷ s) y) p.2
    (unsound_list limit (n ∷ s) zero p.0 (omega arith) p.1))

fails_unsound : {limit : ℕ} {s : List ℕ} → FailsFirst limit s → parse limit s 0 ≡ unsound 0
unfolding parse
fails_unsound {limit} (no_count {b = b} h) = simp (lt-ltb b limit h)
fails_unsound {limit} (beyond_end {b = b} {count = n} {s = s} h k) = simp (lt-ltb b limit h, lt-leb n (length s) k)

entries_before : (limit : ℕ) (es : List Entry) (rest : List ℕ) (at : ℕ) → AllWellFormed limit es
    → parse limit rest 0 ≡ unsound at
    → parse limit (list_bytes limit es ++ rest) 0 ≡ unsound (length (list_bytes limit es) + at)
unfolding list_bytes AllWellFormed with_entry
entries_before limit [] rest at f h = h ∙ ap unsound (omega arith)
entries_before limit (e ∷ es) rest at f h =
    ap (λ (l : List ℕ). parse limit l 0) (append_assoc (entry_bytes limit e) (list_bytes limit es) rest)
    ∙ parse_entry limit e (list_bytes limit es ++ rest) f.0
    ∙ ap (with_entry limit e) (entries_before limit es rest at f.1 h)
    ∙ ap unsound (omega (arith, length-append (entry_bytes limit e) (list_bytes limit es)))

-- Bytes are unsound, with the place, exactly when they are some entries and then one that fails there.
pub unsound_exactly : (limit : ℕ) (s : List ℕ) (at : ℕ)
    → Exactly (parse limit s 0 ≡ unsound at) (UnsoundList limit s at)
unsound_exactly limit s at = (
  unsound_list limit s 0 at (omega arith),
  (λ u. ap (λ (l : List ℕ). parse limit l 0) u.bytes
      ∙ entries_before limit u.before u.rest 0 u.formed (fails_unsound u.fails)
      ∙ ap unsound (omega (arith, u.place))),
)

pub sound_list : (limit : ℕ) (s : List ℕ) (es : List Entry) → parse limit s 0 ≡ sound es → SoundList limit s es
sound_list limit s es h =
    let m = (sound_exactly limit s es).0 h in record { formed = m.1; bytes = sym m.0 }

pub list_sound : {limit : ℕ} {s : List ℕ} {es : List Entry} → SoundList limit s es → parse limit s 0 ≡ sound es
list_sound {limit} {s} {es} w = (sound_exactly limit s es).1 (sym w.bytes, w.formed)

-- ---- counting

counts_of : (limit from : ℕ) (s : List ℕ) (p : Parsed) → parse limit s 0 ≡ p → Counts limit from s (counted from p)
unfolding counted
counts_of limit from s (unsound at) e = bad_count_at ((unsound_exactly limit s at).0 e)
counts_of limit from s (sound es) e = all_sound (sound_list limit s es e)

of_counts : (limit from : ℕ) (s : List ℕ) (a : CountAnswer) → Counts limit from s a → counted from (parse limit s 0) ≡ a
unfolding counted
of_counts limit from s a (all_sound w) = ap (counted from) (list_sound w)
of_counts limit from s a (bad_count_at {at = at} u) = ap (counted from) ((unsound_exactly limit s at).1 u)

-- The number of entries is answered exactly when they are sound, and 7 with its place exactly when one fails there.
pub count_by_table : (limit from : ℕ) (s : List ℕ) (a : CountAnswer)
    → Exactly (counted from (parse limit s 0) ≡ a) (Counts limit from s a)
count_by_table limit from s a = (
  (λ e. subst (λ (x : CountAnswer). Counts limit from s x) e (counts_of limit from s (parse limit s 0) refl)),
  of_counts limit from s a,
)

-- ---- the n-th entry

nth_absent : (limit at : ℕ) (es : List Entry) (n : ℕ) → length es ≤ n → nth_of limit at es n ≡ refused 15
unfolding nth_of
nth_absent limit at [] n h = refl
nth_absent limit at (e ∷ es) zero h = absurd (omega arith)
nth_absent limit at (e ∷ es) (suc n) h = nth_absent limit (at + length (entry_bytes limit e)) es n (omega arith)

-- the n-th of a list, apart from those before it and after it
pub record Apart (es : List Entry) (n : ℕ) : Type 0 where
  pub before : List Entry
  pub here : Entry
  pub after : List Entry
  pub whole : es ≡ before ++ (here ∷ after)
  pub nth_is : n ≡ length before

apart : (es : List Entry) (n : ℕ) → n < length es → Apart es n
apart [] n h = absurd (omega arith)
apart (e ∷ es) zero h = record { before = []; here = e; after = es; whole = refl; nth_is = refl }
apart (e ∷ es) (suc n) h =
    let k = apart es n (omega arith) in
    record {
      before = e ∷ k.before;
      here = k.here;
      after = k.after;
      whole = ap (λ (l : List Entry). e ∷ l) k.whole;
      nth_is = ap suc k.nth_is;
    }

-- where the data of an entry in a list starts
abbrev start_in : (limit from : ℕ) → List Entry → Entry → ℕ
start_in limit from before e = from + length (list_bytes limit before) + head_of limit e.byte

in_order : (limit from : ℕ) (s : List ℕ) (n : ℕ) (es : List Entry) → SoundList limit s es → (k : Apart es n)
    → NthEntry limit from s n k.here.byte (start_in limit from k.before k.here) (length k.here.body)
in_order limit from s n es w k =
    let w' : SoundList limit s (k.before ++ (k.here ∷ k.after)) =
    subst (λ (l : List Entry). SoundList limit s l) k.whole w in
    record {
      before = k.before;
      here = k.here;
      after = k.after;
      list_is = w';
      nth_is = k.nth_is;
      byte_is = refl;
      len_is = refl;
      ends = omega (
        arith,
        width_of limit k.here (formed_one limit k.before k.here k.after w'.formed),
      );
    }

nth_line : (limit from : ℕ) (s : List ℕ) (n : ℕ) (p : Parsed) → parse limit s 0 ≡ p
    → Nth limit from s n (nth_in limit from p n)
unfolding nth_in
nth_line limit from s n (unsound at) e = bad_count ((unsound_exactly limit s at).0 e)
nth_line limit from s n (sound es) e =
    let w = sound_list limit s es e in
    by_bool (ltb n (length es))
    (λ y. let k = apart es n (ltb-true _ _ y) in
    subst (λ (a : Answer Extent). Nth limit from s n a)
    (sym (ap (nth_of limit from es) k.nth_is
    ∙ ap (λ (l : List Entry). nth_of limit from l (length k.before)) k.whole
    ∙ nth_at limit from k.before k.here k.after))
    (present (in_order limit from s n es w k)))
    (λ y. let h : length es ≤ n = ltb-false _ _ y in
    subst (λ (a : Answer Extent). Nth limit from s n a) (sym (nth_absent limit from es n h)) (absent w h))

-- an entry's data starts after its byte and its count
pub start_is : {limit from : ℕ} {s : List ℕ} {n byte start len : ℕ} (k : NthEntry limit from s n byte start len)
    → start ≡ start_in limit from k.before k.here
start_is {limit} k =
    omega (
      arith,
      k.ends,
      k.len_is,
      width_of limit k.here (formed_one limit k.before k.here k.after k.list_is.formed),
    )

line_nth : (limit from : ℕ) (s : List ℕ) (n : ℕ) (a : Answer Extent) → Nth limit from s n a
    → nth_in limit from (parse limit s 0) n ≡ a
unfolding nth_in
line_nth limit from s n a (bad_count {at = at} u) =
    ap (λ (p : Parsed). nth_in limit from p n) ((unsound_exactly limit s at).1 u)
line_nth limit from s n a (absent {es = es} w h) =
    ap (λ (p : Parsed). nth_in limit from p n) (list_sound w) ∙ nth_absent limit from es n h
line_nth limit from s n a (present {start = start} {len = len} k) =
    ap (λ (p : Parsed). nth_in limit from p n) (list_sound k.list_is)
    ∙ ap (nth_of limit from (k.before ++ (k.here ∷ k.after))) k.nth_is
    ∙ nth_at limit from k.before k.here k.after
    ∙ ap (λ (x : ℕ). result (found k.here.byte x (length k.here.body))) (sym (start_is k))
    ∙ ap (λ (x : ℕ). result (found k.here.byte start x)) (sym k.len_is)
    ∙ ap (λ (x : ℕ). result (found x start len)) (sym k.byte_is)

-- Every answer to a call for the n-th entry is given exactly when the table gives it.
pub nth_by_table : (limit from : ℕ) (s : List ℕ) (n : ℕ) (a : Answer Extent)
    → Exactly (nth_in limit from (parse limit s 0) n ≡ a) (Nth limit from s n a)
nth_by_table limit from s n a = (
  (λ e. subst (λ (x : Answer Extent). Nth limit from s n x) e (nth_line limit from s n (parse limit s 0) refl)),
  line_nth limit from s n a,
)

-- The same of the n-th command.
pub command_by_table : (s : List ℕ) (n : ℕ) (a : Answer Extent) → Exactly (nth_command s n ≡ a) (Nth commands 0 s n a)
unfolding nth_command
command_by_table s n a = nth_by_table commands 0 s n a

-- an entry's data stand within the bytes
pub ends_within : (limit from : ℕ) (s : List ℕ) (n : ℕ) {byte start len : ℕ}
    (k : NthEntry limit from s n byte start len)
    → start + len ≤ from + length s
unfolding list_bytes
ends_within limit from s n k =
    let e = k.here in
    let rest = list_bytes limit k.after in
    let w : length s ≡ length (list_bytes limit k.before ++ (entry_bytes limit e ++ rest)) =
    ap length (k.list_is.bytes ∙ wire_append limit k.before (e ∷ k.after)) in
    omega (
      arith,
      w,
      k.ends,
      length-append (list_bytes limit k.before) (entry_bytes limit e ++ rest),
      length-append (entry_bytes limit e) rest,
    )

-- ---- an entry's data

-- The part of the contents that is named is the entry's data; p is what stands before the entries, r what stands after
-- them.
pub entry_data : {limit from : ℕ} {s : List ℕ} {n byte start len : ℕ} (k : NthEntry limit from s n byte start len)
    → (p r : List ℕ) → length p ≡ from → take len (drop start (p ++ (s ++ r))) ≡ k.here.body
unfolding list_bytes
entry_data {limit} {from} {s} {n} {byte} {start} {len} k p r h =
    let e = k.here in
    let q = p ++ list_bytes limit k.before in
    let tail = list_bytes limit k.after ++ r in
    let w : s ++ r ≡ list_bytes limit k.before ++ (entry_bytes limit e ++ tail) =
    ap (λ (l : List ℕ). l ++ r) (k.list_is.bytes ∙ wire_append limit k.before (e ∷ k.after))
    ∙ append_assoc (list_bytes limit k.before) (entry_bytes limit e ++ list_bytes limit k.after) r
    ∙ ap (λ (l : List ℕ). list_bytes limit k.before ++ l)
    (append_assoc (entry_bytes limit e) (list_bytes limit k.after) r) in
    let whole : p ++ (s ++ r) ≡ q ++ (entry_bytes limit e ++ tail) =
    ap (λ (l : List ℕ). p ++ l) w ∙ sym (append_assoc p (list_bytes limit k.before) (entry_bytes limit e ++ tail)) in
    let place : start ≡ length q + head_of limit e.byte =
    omega (arith, start_is k, h, length-append p (list_bytes limit k.before)) in
    ap (λ (l : List ℕ). take len (drop start l)) whole
    ∙ ap (λ (x : ℕ). take len (drop x (q ++ (entry_bytes limit e ++ tail)))) place
    ∙ ap (λ (x : ℕ). take x (drop (length q + head_of limit e.byte) (q ++ (entry_bytes limit e ++ tail)))) k.len_is
    ∙ body_at limit q e tail (formed_one limit k.before e k.after k.list_is.formed)

-- The same where nothing stands before the entries or after them.
pub top_data : {limit : ℕ} {s : List ℕ} {n byte start len : ℕ} (k : NthEntry limit 0 s n byte start len)
    → take len (drop start s) ≡ k.here.body
top_data {s = s} {start = start} {len = len} k =
    ap (λ (l : List ℕ). take len (drop start l)) (sym (append-nil s)) ∙ entry_data k [] [] refl

-- ---- inside a wrapper

pub is_wrapper_lem : (b : ℕ) → is_wrapper b ≡ true → Wrapper b
is_wrapper_lem b h =
    by_bool (eqb b 0x1A)
    (λ y. one 0x1A y is_1A)
    (λ n₁. by_bool (eqb b 0x76)
    (λ y. one 0x76 y is_76)
    (λ n₂. by_bool (eqb b 0x77)
    (λ y. one 0x77 y is_77)
    (λ n₃. by_bool (eqb b 0x7E)
    (λ y. one 0x7E y is_7E)
    (λ n₄. by_bool (eqb b 0x7F)
    (λ y. one 0x7F y is_7F)
    (λ n₅. let q : false ≡ true = simp (n₁, n₂, n₃, n₄, n₅) at h in absurd (true≢false (sym q)))))))
  where
    one : (c : ℕ) → eqb b c ≡ true → Wrapper c → Wrapper b
    one c y w = subst Wrapper (sym (eqb-true b c y)) w

pub wrapper_is : {b : ℕ} → Wrapper b → is_wrapper b ≡ true
wrapper_is is_1A = refl
wrapper_is is_76 = refl
wrapper_is is_77 = refl
wrapper_is is_7E = refl
wrapper_is is_7F = refl

-- the entries of a part, with indices in the whole that has the part from an index on
shifted_nth : (limit by at : ℕ) (es : List Entry) (n : ℕ)
    → shifted by (nth_of limit at es n) ≡ nth_of limit (by + at) es n
unfolding nth_of
shifted_nth limit by at [] n = refl
shifted_nth limit by at (e ∷ es) zero =
    ap (λ (x : ℕ). result (found e.byte x (length e.body))) (omega arith)
shifted_nth limit by at (e ∷ es) (suc n) =
    shifted_nth limit by (at + length (entry_bytes limit e)) es n
    ∙ ap (λ (x : ℕ). nth_of limit x es n) (omega arith)

shifted_in : (limit by : ℕ) (p : Parsed) (n : ℕ) → shifted by (nth_in limit 0 p n) ≡ nth_in limit by p n
unfolding nth_in
shifted_in limit by (unsound at) n = refl
shifted_in limit by (sound es) n =
    shifted_nth limit by 0 es n ∙ ap (λ (x : ℕ). nth_of limit x es n) (omega arith)

-- what is answered inside a command that is found
module _ (s : List ℕ) (w n byte start len : ℕ) (o : NthEntry commands 0 s w byte start len) where
  in_body : shifted start (nth_command (take len (drop start s)) n)
      ≡ nth_in commands start (parse commands o.here.body 0) n
  unfolding nth_command
  in_body =
      ap (λ (l : List ℕ). shifted start (nth_command l n)) (top_data o)
      ∙ shifted_in commands start (parse commands o.here.body 0) n

  inside_wrapper : Wrapper byte → inside s (result (found byte start len)) n
      ≡ nth_in commands start (parse commands o.here.body 0) n
  unfolding inside
  inside_wrapper y =
      ap (λ (t : Bool). pick t (shifted start (nth_command (take len (drop start s)) n)) (refused 15)) (wrapper_is y)
      ∙ in_body

  inside_other : (Wrapper byte → ⊥) → inside s (result (found byte start len)) n ≡ refused 15
  unfolding inside
  inside_other none =
      by_bool (is_wrapper byte)
      (λ y. absurd (none (is_wrapper_lem byte y)))
      (λ y. ap (λ (t : Bool). pick t (shifted start (nth_command (take len (drop start s)) n)) (refused 15)) y)

inside-line : (s : List ℕ) (w n : ℕ) (a : Answer Extent) → Nth commands 0 s w a → NthInside s w n (inside s a n)
unfolding inside
inside-line s w n a (bad_count u) = outer_refused (bad_count u)
inside-line s w n a (absent l h) = outer_refused (absent l h)
inside-line s w n a (present {byte = byte} {start = start} {len = len} o) =
    by_bool (is_wrapper byte)
    (λ y. let k = is_wrapper_lem byte y in
    subst (λ (x : Answer Extent). NthInside s w n x) (sym (inside_wrapper s w n byte start len o k))
    (in_wrapper o k ((nth_by_table commands start o.here.body n _).0 refl)))
    (λ y. let none : Wrapper byte → ⊥ = λ k. true≢false (sym (wrapper_is k) ∙ y) in
    subst (λ (x : Answer Extent). NthInside s w n x) (sym (inside_other s w n byte start len o none))
    (no_wrapper o none))

line-inside : (s : List ℕ) (w n : ℕ) (a : Answer Extent) → NthInside s w n a → inside s (nth_command s w) n ≡ a
unfolding inside
line-inside s w n a (outer_refused {number = m} j) =
    ap (λ (x : Answer Extent). inside s x n) ((command_by_table s w (refused m)).1 j)
line-inside s w n a (no_wrapper {byte = byte} {start = start} {len = len} o none) =
    ap (λ (x : Answer Extent). inside s x n) ((command_by_table s w _).1 (present o))
    ∙ inside_other s w n byte start len o none
line-inside s w n a (in_wrapper {byte = byte} {start = start} {len = len} o y j) =
    ap (λ (x : Answer Extent). inside s x n) ((command_by_table s w _).1 (present o))
    ∙ inside_wrapper s w n byte start len o y ∙ (nth_by_table commands start o.here.body n a).1 j

-- Every answer to a call for the n-th command inside the w-th is given exactly when the table gives it.
pub inside_by_table : (s : List ℕ) (w n : ℕ) (a : Answer Extent) → Exactly (nth_inside s w n ≡ a) (NthInside s w n a)
unfolding nth_inside
inside_by_table s w n a = (
  (λ e. subst (λ (x : Answer Extent). NthInside s w n x) e
      (inside-line s w n (nth_command s w) ((command_by_table s w (nth_command s w)).0 refl))),
  line-inside s w n a,
)

-- The part of the whole contents that is named inside a wrapper is the inner entry's data.
pub inner_data : {s : List ℕ} {w n byte start len : ℕ} (outer : NthEntry commands 0 s w byte start len)
    {innerByte at inner_len : ℕ} (inner : NthEntry commands start outer.here.body n innerByte at inner_len)
    → take inner_len (drop at s) ≡ inner.here.body
inner_data {s} {w} {n} {byte} {start} {len} outer {at = at} {inner_len = l} inner =
    ap (λ (x : List ℕ). take l (drop at x)) whole ∙ entry_data inner (take start s) (drop (start + len) s) begins
  where
    fits : start + len ≤ length s
    fits = omega (arith, ends_within commands 0 s w outer)

    begins : length (take start s) ≡ start
    begins = length-take-le start s (omega (arith, fits))

    whole : s ≡ take start s ++ (outer.here.body ++ drop (start + len) s)
    whole =
        sym (take-append-drop start s)
        ∙ ap (λ (l : List ℕ). take start s ++ l) (sym (take-append-drop len (drop start s))
        ∙ ap (λ (l : List ℕ). l ++ drop len (drop start s)) (top_data outer)
        ∙ ap (λ (l : List ℕ). outer.here.body ++ l) (drop-drop len start s))
