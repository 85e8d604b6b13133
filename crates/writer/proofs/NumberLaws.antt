-- Laws of the bytes of a number as contents, taken one at a time from the lowest up.
use Prim.Native.Nat.{ℕ, zero, suc, ◌+◌, ◌-◌, ◌/◌, ◌%◌, ◌^◌, ◌≤◌}
use mathlib.Core.Path.{◌≡◌, refl, sym, ap, ap₂, ◌∙◌}
use native.Mathlib.Nat.{pow-suc, div-div-eq-div-mul, div-one}
use Rattle.std.specs.Int.{byte_at, bytes_low_first}
use mathlib.Core.List.{List, ◌∷◌, ◌++◌}
use native.Mathlib.Omega.{arith}
use lib.Bits.{bit_xor}
use lib.ListN.{length, length-append}
use Rattle.lists.specs.Choice.{pick, count_of}
use Rattle.lists.specs.Splice.{splice}
use Rattle.lists.proofs.Tests.{count_most}
use Rattle.lists.proofs.Splices.{splice_nil, splice-splice, length-splice}
use Rattle.numbers.specs.Number.{bytes_of}
use Rattle.numbers.proofs.Numbers.{bytes_of_next, bytes_of_none, length-bytes_of}
use Rattle.frame.specs.Stuffing.{is_stuffed, stuff, stuff_byte}
use Rattle.frame.specs.Checksum.{sum_from}
use Rattle.writer.specs.Private.{Counts}

-- The bytes of a number as the library gives them, from one of them on.
le_bytes_from : (i k n : ℕ) → bytes_low_first i k n ≡ bytes_of k (n / 256 ^ i)
unfolding bytes_of
le_bytes_from i zero n = refl
le_bytes_from i (suc k) n =
    let down : n / 256 ^ suc i ≡ n / 256 ^ i / 256 =
    ap (λ (m : ℕ). n / m) (pow-suc 256 i) ∙ sym (div-div-eq-div-mul n (256 ^ i) 256) in
    ap₂ (λ (b : ℕ) (l : List ℕ). b ∷ l) (byte_here i) (le_bytes_from (suc i) k n ∙ ap (bytes_of k) down)
  where
    byte_here : (i : ℕ) → byte_at i n ≡ n / 256 ^ i % 256
    byte_here zero = omega arith
    byte_here (suc i) = refl

pub le_bytes_of : (k n : ℕ) → bytes_low_first 0 k n ≡ bytes_of k n
le_bytes_of k n = le_bytes_from 0 k n ∙ ap (bytes_of k) (div-one n)

-- the bytes that are left, with the next one apart
number_left : (left rest n : ℕ) → left ≡ rest + 1 → bytes_of left n ≡ (n % 256) ∷ bytes_of rest (n / 256)
number_left left rest n e =
    let k : left - 1 ≡ rest = omega arith in
    bytes_of_next left n (omega arith) ∙ ap (λ (m : ℕ). (n % 256) ∷ bytes_of m (n / 256)) k

stuff_left : (left rest n : ℕ) → left ≡ rest + 1
    → stuff (bytes_of left n) ≡ stuff_byte (n % 256) ++ stuff (bytes_of rest (n / 256))
unfolding stuff
stuff_left left rest n e = ap stuff (number_left left rest n e)

stuff_done : (left n : ℕ) → left ≤ 0 → length (stuff (bytes_of left n)) ≡ 0
unfolding stuff
stuff_done left n h = ap (λ (l : List ℕ). length (stuff l)) (bytes_of_none left n h)

-- What is left of a number of so many bytes, where some have been counted and summed.
pub record Counting (width number left rest count sum : ℕ) : Type 0 where
  pub counted : count + count_of is_stuffed (bytes_of left rest) ≡ count_of is_stuffed (bytes_of width number)
  pub summed : sum_from sum (bytes_of left rest) ≡ sum_from 0 (bytes_of width number)

module _ (width number left rest count sum : ℕ) (l : Counting width number left rest count sum) where
  pub counts_more : (mark after : ℕ) → left ≡ after + 1 → mark ≡ pick (is_stuffed (rest % 256)) 1 0
      → Counting width number after (rest / 256) (count + mark) (bit_xor sum (rest % 256))
  unfolding sum_from count_of
  counts_more mark after h e =
      record {
        counted = omega (arith, l.counted, ap (count_of is_stuffed) (number_left left after rest h), e);
        summed = sym (ap (sum_from sum) (number_left left after rest h)) ∙ l.summed;
      }

  pub counts_few : count ≤ width
  counts_few =
      omega (arith, l.counted, count_most is_stuffed (bytes_of width number), length-bytes_of width number)

  pub counts_all : left ≤ 0 → Counts (bytes_of width number) (record { escapes = count; sum = sum })
  unfolding sum_from count_of
  counts_all h =
      record {
        escapes = omega (arith, l.counted, ap (count_of is_stuffed) (bytes_of_none left rest h));
        sum = sym (ap (sum_from sum) (bytes_of_none left rest h)) ∙ l.summed;
      }

-- What is left of a number, where some of its bytes have been put into an output from an index on.
pub record Puts (width number : ℕ) (out₀ : List ℕ) (from left rest at : ℕ) (out : List ℕ) : Type 0 where
  pub next : at + length (stuff (bytes_of left rest)) ≡ from + length (stuff (bytes_of width number))
  pub written : splice out at (stuff (bytes_of left rest)) ≡ splice out₀ from (stuff (bytes_of width number))
  pub size : length out ≡ length out₀

module _ (width number : ℕ) (out₀ : List ℕ) (from : ℕ)
    (room : from + length (stuff (bytes_of width number)) ≤ length out₀) (left rest at : ℕ) (out : List ℕ)
    (p : Puts width number out₀ from left rest at out) where
  pub puts_room : (after : ℕ) → left ≡ after + 1 → at + length (stuff_byte (rest % 256)) ≤ length out
  puts_room after h =
      omega (
        arith,
        p.next,
        p.size,
        room,
        ap length (stuff_left left after rest h),
        length-append (stuff_byte (rest % 256)) (stuff (bytes_of after (rest / 256))),
      )

  pub puts_more : (after at' : ℕ) (out' : List ℕ) → left ≡ after + 1 → at' ≡ at + length (stuff_byte (rest % 256))
      → out' ≡ splice out at (stuff_byte (rest % 256))
      → Puts width number out₀ from after (rest / 256) at' out'
  puts_more after at' out' h a o =
      let v = stuff_byte (rest % 256) in
      let w = stuff (bytes_of after (rest / 256)) in
      let r : at + length v ≤ length out = puts_room after h in
      record {
        next = omega (arith, a, p.next, ap length (stuff_left left after rest h), length-append v w);
        written =
            ap (λ (n : ℕ). splice out' n w) a ∙ ap (λ (x : List ℕ). splice x (at + length v) w) o
            ∙ splice-splice out at v r w
            ∙ sym (ap (splice out at) (stuff_left left after rest h))
            ∙ p.written;
        size = ap length o ∙ length-splice out at v r ∙ p.size;
      }

  pub puts_all : left ≤ 0
      → (at ≡ from + length (stuff (bytes_of width number))) × (out ≡ splice out₀ from (stuff (bytes_of width number)))
  unfolding stuff
  puts_all h = (
    omega (arith, p.next, stuff_done left rest h),
    sym (splice_nil out at) ∙ sym (ap (λ (l : List ℕ). splice out at (stuff l)) (bytes_of_none left rest h)) ∙ p.written,
  )
