-- Laws of stuffed bytes, of their number, and of a loop that writes them into a slice.
use Prim.Native.Nat.{ℕ, ◌+◌, ◌-◌, ◌*◌, ◌%◌, ◌≤◌, ◌<◌}
use mathlib.Core.Path.{◌≡◌, refl, sym, ap, ◌∙◌}
use mathlib.Core.List.{List, [], ◌∷◌, ◌++◌, append_assoc, append-nil}
use native.Mathlib.Nat.{add-zero}
use native.Mathlib.Numerals.{add-one}
use native.Mathlib.Omega.{arith}
use lib.ListN.{length, get_or, take, drop, length-append, take-append-drop}
use lib.Seq.{take-suc, take_all}
use Rattle.lists.specs.Choice.{pick, count_of}
use Rattle.lists.specs.Splice.{splice}
use Rattle.lists.proofs.Cases.{by_bool}
use Rattle.lists.proofs.Tests.{within_true}
use Rattle.lists.proofs.Splices.{splice_nil, splice_over, length-splice}
use Rattle.frame.specs.Stuffing.{is_stuffed, stuff_byte, stuff}
use Rattle.writer.specs.Private.{PutPair}
use Rattle.frame.proofs.StuffingLaws.{stuff_byte_yes, stuff_byte_no}

-- ---- one byte

-- a byte takes one or two bytes
pub stuff_byte_between : (b : ℕ) → (1 ≤ length (stuff_byte b)) × (length (stuff_byte b) ≤ 2)
stuff_byte_between b =
    by_bool (is_stuffed b) (λ y. omega (arith, ap length (stuff_byte_yes b y)))
    (λ n. omega (arith, ap length (stuff_byte_no b n)))

-- a number that some byte takes is at most 2
pub width_few : {n : ℕ} (b : ℕ) → n ≡ length (stuff_byte b) → n ≤ 2
width_few b e = omega (arith, e, stuff_byte_between b)

-- ---- lists

pub stuff-append : (a b : List ℕ) → stuff (a ++ b) ≡ stuff a ++ stuff b
unfolding stuff
stuff-append [] b = refl
stuff-append (x ∷ a) b =
    ap (λ (l : List ℕ). stuff_byte x ++ l) (stuff-append a b) ∙ sym (append_assoc (stuff_byte x) (stuff a) (stuff b))

pub stuff-one : (b : ℕ) → stuff (b ∷ []) ≡ stuff_byte b
unfolding stuff
stuff-one b = append-nil (stuff_byte b)

-- stuffing makes a list no shorter, and at most twice as long
pub stuff_between : (s : List ℕ) → (length s ≤ length (stuff s)) × (length (stuff s) ≤ 2 * length s)
unfolding stuff
stuff_between [] = omega arith
stuff_between (b ∷ s) =
    let h = stuff_between s in omega (arith, length-append (stuff_byte b) (stuff s), stuff_byte_between b)

-- it makes it longer by the number of bytes that are sent as two
pub stuff_count : (s : List ℕ) → length s + count_of is_stuffed s ≡ length (stuff s)
unfolding stuff count_of
stuff_count [] = refl
stuff_count (b ∷ s) =
    let h = stuff_count s in
    let l = length-append (stuff_byte b) (stuff s) in
    by_bool (is_stuffed b)
    (λ y. let w = ap length (stuff_byte_yes b y) in simp y (omega arith))
    (λ n. let w = ap length (stuff_byte_no b n) in simp n (omega arith))

-- a list that grows by nothing is sent as it is
pub stuff_same : (s : List ℕ) → length (stuff s) ≡ length s → stuff s ≡ s
unfolding stuff
stuff_same [] e = refl
stuff_same (b ∷ s) e =
    let l = length-append (stuff_byte b) (stuff s) in
    let h = stuff_between s in
    by_bool (is_stuffed b)
    (λ y. absurd (omega (arith, ap length (stuff_byte_yes b y))))
    (λ n. ap (λ (l : List ℕ). l ++ stuff s) (stuff_byte_no b n)
    ∙ ap (λ (l : List ℕ). b ∷ l) (stuff_same s (omega (arith, ap length (stuff_byte_no b n)))))

-- ---- a loop that stuffs a list into a slice

pub stuff_next : (s : List ℕ) (i : ℕ) → i < length s
    → stuff (take (i + 1) s) ≡ stuff (take i s) ++ stuff_byte (get_or s i 0)
stuff_next s i h =
    ap (λ (n : ℕ). stuff (take n s)) (add-one i) ∙ ap stuff (take-suc s i 0 h)
    ∙ stuff-append (take i s) (get_or s i 0 ∷ [])
    ∙ ap (λ (l : List ℕ). stuff (take i s) ++ l) (stuff-one (get_or s i 0))

-- the next byte has room where all have
pub stuff_room : (s : List ℕ) (i : ℕ) → i < length s
    → length (stuff (take i s)) + length (stuff_byte (get_or s i 0)) ≤ length (stuff s)
stuff_room s i h =
    omega (arith, ap length (stuff_next s i h), length-append (stuff (take i s)) (stuff_byte (get_or s i 0)), parts)
  where
    parts : length (stuff (take (i + 1) s)) + length (stuff (drop (i + 1) s)) ≡ length (stuff s)
    parts =
        sym (length-append (stuff (take (i + 1) s)) (stuff (drop (i + 1) s)))
        ∙ ap length (sym (stuff-append (take (i + 1) s) (drop (i + 1) s)))
        ∙ ap (λ (l : List ℕ). length (stuff l)) (take-append-drop (i + 1) s)

-- i bytes of s are written into out₀ from index `from` on, and at most one place more; the next goes to `at`
pub record Stuffed (s out₀ : List ℕ) (from i at : ℕ) (out : List ℕ) : Type 0 where
  pub next : at ≡ from + length (stuff (take i s))
  pub more : List ℕ
  pub short : length more ≤ 1
  pub written : out ≡ splice out₀ from (stuff (take i s) ++ more)
  pub size : length out ≡ length out₀

pub stuff_byte_some : (b : ℕ) → 1 ≤ length (stuff_byte b)
stuff_byte_some b =
    by_bool (is_stuffed b) (λ y. omega (arith, ap length (stuff_byte_yes b y)))
    (λ n. omega (arith, ap length (stuff_byte_no b n)))

-- two places written for a byte hold it, and at most one more
pub pair_put : (b : ℕ) → (more : List ℕ) × (pick (is_stuffed b) 0xF3 b ∷ (b % 4) ∷ [] ≡ stuff_byte b ++ more)
pair_put b =
    by_bool (is_stuffed b)
    (λ y. let w = within_true 0xF0 0xF3 b y in
    let low : b % 4 ≡ b - 0xF0 = omega arith in
    let two : stuff_byte b ++ [] ≡ 0xF3 ∷ (b - 0xF0) ∷ [] = append-nil (stuff_byte b) ∙ stuff_byte_yes b y in
    ([], simp y (ap (λ (n : ℕ). 0xF3 ∷ n ∷ []) low ∙ sym two)))
    (λ n. let one : stuff_byte b ++ ((b % 4) ∷ []) ≡ b ∷ (b % 4) ∷ [] =
    ap (λ (l : List ℕ). l ++ ((b % 4) ∷ [])) (stuff_byte_no b n) in
    ((b % 4) ∷ [], simp n (sym one)))

-- of an empty list nothing is written
pub stuffed_empty : (s out : List ℕ) (from : ℕ) → length s ≡ 0
    → (from ≡ from + length (stuff s)) × (out ≡ splice out from (stuff s))
unfolding stuff
stuffed_empty [] out from h = (sym (add-zero from), sym (splice_nil out from))
stuffed_empty (b ∷ s) out from h = absurd (omega arith)

module _ (s front : List ℕ) (last : ℕ) (e : s ≡ front ++ (last ∷ [])) (out₀ : List ℕ) (from : ℕ)
    (room : from + length (stuff s) ≤ length out₀) where
  stuff_ends : stuff s ≡ stuff front ++ stuff_byte last
  stuff_ends =
      ap stuff e ∙ stuff-append front (last ∷ []) ∙ ap (λ (l : List ℕ). stuff front ++ l) (stuff-one last)

  end_fits : from + length (stuff front) + length (stuff_byte last) ≤ length out₀
  end_fits = omega (arith, room, ap length stuff_ends, length-append (stuff front) (stuff_byte last))

  pub stuffed_none : Stuffed front out₀ from 0 from out₀
  unfolding stuff
  stuffed_none =
      record {
        next = sym (add-zero from);
        more = [];
        short = omega arith;
        written = sym (splice_nil out₀ from);
        size = refl;
      }

  module _ (i at : ℕ) (out : List ℕ) (inv : Stuffed front out₀ from i at out) where
    abbrev done : List ℕ
    done = stuff (take i front)

    -- what is written next stands in the place of what was written too much
    after : (w out' : List ℕ) → 1 ≤ length w → from + length done + length w ≤ length out₀
        → out' ≡ splice out at w → out' ≡ splice out₀ from (done ++ w)
    after w out' k fits d =
        d ∙ ap (λ (l : List ℕ). splice l at w) inv.written
        ∙ ap (λ (n : ℕ). splice (splice out₀ from (done ++ inv.more)) n w) inv.next
        ∙ splice_over out₀ from done inv.more w fits (omega (arith, inv.short))

    module _ (h : i < length front) where
      -- there is room for two places, since the last byte follows
      pub stuffed_room : at + 2 ≤ length out
      stuffed_room =
          omega (
            arith,
            inv.next,
            inv.size,
            end_fits,
            stuff_room front i h,
            stuff_byte_some (get_or front i 0),
            stuff_byte_some last,
          )

      pub stuffed_more : (at' : ℕ) (out' : List ℕ) → at' ≡ at + length (stuff_byte (get_or front i 0))
          → PutPair out at (stuff_byte (get_or front i 0)) out'
          → Stuffed front out₀ from (i + 1) at' out'
      stuffed_more at' out' d p =
          let b = stuff_byte (get_or front i 0) in
          let len : length (done ++ b) ≡ length done + length b = length-append done b in
          let is : out' ≡ splice out₀ from (done ++ (b ++ p.0)) =
          after (b ++ p.0) out' (omega (arith, p.1)) (omega (arith, p.1, stuffed_room, inv.next, inv.size)) p.2 in
          let all : out' ≡ splice out₀ from ((done ++ b) ++ p.0) =
          is ∙ ap (splice out₀ from) (sym (append_assoc done b p.0)) in
          record {
            next = rw (stuff_next front i h) (omega (arith, inv.next));
            more = p.0;
            short = omega (arith, p.1, length-append b p.0, stuff_byte_some (get_or front i 0));
            written = rw (stuff_next front i h) all;
            size =
                ap length p.2
                ∙ length-splice out at (b ++ p.0) (omega (arith, p.1, stuffed_room)) ∙ inv.size;
          }

    module _ (h : length front ≤ i) where
      done_all : done ≡ stuff front
      done_all = ap stuff (take_all i front h)

      pub stuffed_fits : at + length (stuff_byte last) ≤ length out
      stuffed_fits = omega (arith, inv.next, inv.size, end_fits, ap length done_all)

      pub stuffed_last : (at' : ℕ) (out' : List ℕ) → at' ≡ at + length (stuff_byte last)
          → out' ≡ splice out at (stuff_byte last)
          → (at' ≡ from + length (stuff s)) × (out' ≡ splice out₀ from (stuff s))
      stuffed_last at' out' k d =
          let b = stuff_byte last in
          let all : stuff s ≡ done ++ b = stuff_ends ∙ ap (λ (l : List ℕ). l ++ b) (sym done_all) in
          let len : length (done ++ b) ≡ length done + length b = length-append done b in (
            omega (arith, k, inv.next, ap length all),
            after b out' (stuff_byte_some last) (omega (arith, end_fits, ap length done_all)) d
                ∙ ap (splice out₀ from) (sym all),
          )
