-- The laws of the program's loops and of its end.
use Rattle.std.specs.declared.io.Error.{Error}
use Rattle.std.proofs.Common.{◌≡◌, ℕ, ◌+◌, ◌-◌, ◌≤◌, Option, Result, Ok, Err, IsOk, IsErr, List, [], ◌++◌, length, take, drop, sym, refl, ap, ◌∙◌, subst, inl, inr, arith, length-append, length-drop, length-take-le, take_at, take-add}
use lib.Seq.{take-length}
use Rattle.lists.proofs.Lists.{rest_part}
use Rattle.answer.specs.Answer.{result}
use Rattle.answer.specs.Draft.{draft_answer, draft_out, written_means}
use Rattle.answer.specs.declared.Refusal.{Refusal}
use Rattle.trace.proofs.AnswerLaws.{writes_length, writes_out}
use Rattle.text.specs.Text.{text}
use Rattle.trace.specs.Machine.{add64, new_listing, listing_after, texts, last_text, Lists}
use Rattle.line.specs.Rowing.{most_bytes}
use Rattle.trace.specs.declared.Listing.{Listing}
use Rattle.trace.specs.declared.Listed.{Listed}
use Rattle.trace.proofs.ChunkLaws.{after_append, texts-append}
use Rattle.trace.proofs.Cuttings.{new_text}
use Rattle.listing.specs.Runs.{Pumps, TextCounted, Stops, Runs}
use Rattle.listing.specs.Private.{ran, Closes}
use Rattle.listing.specs.declared.Stop.{Stop}
use Rattle.listing.specs.declared.Stop.TheVariants.{LastRead, AtLimit, LastWrite}
use Rattle.listing.specs.declared.Pumped.{Pumped}
use Rattle.listing.specs.declared.Ran.{Ran}

-- a count that wraps, more at a time
add_on : (a b : ℕ) → add64 (add64 0 a) b ≡ add64 0 (a + b)
add_on a b = omega arith

-- a part at the front of a list has so many elements
pub part_size : {n : ℕ} (l : List ℕ) → n ≤ length l → n ≡ length (take n l)
part_size {n} l h = sym (length-take-le n l h)

-- the state and the number of bytes written after bytes
pub record After (s₀ : Listing) (bytes : List ℕ) (s : Listing) (wrote : ℕ) : Type 0 where
  pub state : s ≡ listing_after s₀ bytes
  pub wrote_is : wrote ≡ add64 0 (length (texts s₀ bytes))

pub after_none : (s : Listing) → After s [] s 0
after_none s = record { state = refl; wrote_is = refl }

pub after_more : (s₀ : Listing) (xs ys : List ℕ) (s s' : Listing) (wrote more wrote' : ℕ) → After s₀ xs s wrote
    → s' ≡ listing_after s ys → add64 0 more ≡ add64 0 (length (texts s ys)) → wrote' ≡ add64 wrote more
    → After s₀ (xs ++ ys) s' wrote'
after_more s₀ xs ys s s' wrote more wrote' a e m w =
    let t : length (texts s₀ (xs ++ ys)) ≡ length (texts s₀ xs) + length (texts s ys) =
    ap length (texts-append s₀ xs ys) ∙ length-append (texts s₀ xs) (texts (listing_after s₀ xs) ys)
    ∙ ap (λ (u : Listing). length (texts s₀ xs) + length (texts u ys)) (sym a.state) in
    record {
      state =
          e ∙ ap (λ (u : Listing). listing_after u ys) a.state ∙ sym (after_append s₀ xs ys);
      wrote_is =
          w ∙ ap (λ (n : ℕ). add64 n more) a.wrote_is ∙ omega (arith, m, t);
    }

-- ---- a chunk

-- the bytes before an index of a chunk are taken
abbrev pub Pumping : Listing → List ℕ → Listing → (wrote taken : ℕ) → Type 0
Pumping s₀ chunk s wrote taken = (taken ≤ length chunk) × After s₀ (take taken chunk) s wrote

pub pumping_none : (s : Listing) (chunk : List ℕ) → Pumping s chunk s 0 0
pumping_none s chunk = (omega arith, after_none s)

pub pumping_more : (s₀ : Listing) (chunk : List ℕ) (s : Listing) (wrote taken : ℕ) → Pumping s₀ chunk s wrote taken
    → (out out' : List ℕ) (r : Listed) → Lists s (take (length chunk - taken) (drop taken chunk)) out out' r
    → (wrote' : ℕ) → wrote' ≡ add64 wrote r.wrote
    → Pumping s₀ chunk r.next wrote' (taken + r.taken)
pumping_more s₀ chunk s wrote taken g out out' r l wrote' w =
    let rest : Lists s (drop taken chunk) out out' r =
    subst (λ (x : List ℕ). Lists s x out out' r) (rest_part chunk taken) l in
    let ys : List ℕ = take r.taken (drop taken chunk) in
    let m : add64 0 r.wrote ≡ add64 0 (length (texts s ys)) = ap (add64 0) rest.wrote_is in (
      omega (arith, g.0, rest.taken_fits, length-drop taken chunk),
      subst (λ (x : List ℕ). After s₀ x r.next wrote') (sym (take-add taken r.taken chunk))
          (after_more s₀ (take taken chunk) ys s r.next wrote r.wrote wrote' g.1 rest.next_is m w),
    )

-- ---- the whole input

-- some bytes were read, and all of them were listed
pub record Reading (s : Listing) (read wrote : ℕ) : Type 0 where
  pub bytes : List ℕ
  pub read_is : read ≡ length bytes
  pub within : length bytes ≤ most_bytes
  pub after : After new_listing bytes s wrote

pub reading_none : (s : Listing) → s ≡ new_listing → Reading s 0 0
reading_none s e = record {
  bytes = [];
  read_is = refl;
  within = omega arith;
  after = subst (λ (u : Listing). After new_listing [] u 0) (sym e) (after_none new_listing);
}

module _ (s : Listing) (read wrote : ℕ) (g : Reading s read wrote) (chunk : List ℕ) (n : ℕ) (size : n ≡ length chunk)
    (h : read + n ≤ most_bytes) (p : Pumped) (l : Pumps s chunk p) where
  pub reading_more : IsOk p.whole → (wrote' : ℕ) → wrote' ≡ add64 wrote p.wrote
      → Reading p.next (read + n) wrote'
  reading_more e wrote' w =
      let all : take p.taken chunk ≡ chunk =
      ap (λ (k : ℕ). take k chunk) (l.all e) ∙ take-length chunk in
      let m : add64 0 p.wrote ≡ add64 0 (length (texts s chunk)) =
      ap (add64 0) l.wrote_is ∙ wrapped (length (texts s (take p.taken chunk)))
      ∙ ap (λ (x : List ℕ). add64 0 (length (texts s x))) all in
      record {
        bytes = g.bytes ++ chunk;
        read_is = omega (arith, g.read_is, size, length-append g.bytes chunk);
        within = omega (arith, g.read_is, size, length-append g.bytes chunk, h);
        after = after_more new_listing g.bytes chunk s p.next wrote p.wrote wrote' g.after
            (l.next_is ∙ ap (listing_after s) all) m w;
      }
    where
      wrapped : (a : ℕ) → add64 0 (add64 0 a) ≡ add64 0 a
      wrapped a = omega arith

  pub write_failed : (all : Result Unit Error) → IsErr all → (out' : List ℕ) (wrote' : ℕ)
      → Runs out' (ran (LastWrite all) (read + n) wrote')
  write_failed all e out' wrote' = record {
    bytes = g.bytes ++ chunk;
    read_is = omega (arith, g.read_is, size, length-append g.bytes chunk);
    within = omega (arith, g.read_is, size, length-append g.bytes chunk, h);
    stops = e;
  }

module _ (s : Listing) (read wrote : ℕ) (g : Reading s read wrote) where
  pub read_failed : (e : Error) (out' : List ℕ) → Runs out' (ran (LastRead (Err e)) read wrote)
  read_failed e out' =
      record { bytes = g.bytes; read_is = g.read_is; within = g.within; stops = g.after.wrote_is }

  told : (out out' : List ℕ) → out' ≡ last_text s ++ drop (length (last_text s)) out
      → TextCounted g.bytes (add64 wrote (length (last_text s))) out'
  told out out' e =
      let b : List ℕ = g.bytes in
      let last : last_text s ≡ last_text (listing_after new_listing b) = ap last_text g.after.state in
      let t : length (text b) ≡ length (texts new_listing b) + length (last_text s) =
      ap length (sym (new_text b g.within))
      ∙ length-append (texts new_listing b) (last_text (listing_after new_listing b))
      ∙ ap (λ (w : List ℕ). length (texts new_listing b) + length w) (sym last) in (
        ap (λ (n : ℕ). add64 n (length (last_text s))) g.after.wrote_is
            ∙ add_on (length (texts new_listing b)) (length (last_text s))
            ∙ ap (add64 0) (sym t),
        subst (λ (w : List ℕ). take (length w) out' ≡ w) last
            (ap (take (length (last_text s))) e
            ∙ take_at (last_text s) (drop (length (last_text s)) out) (length (last_text s)) refl),
      )

  closed : (stop : Stop) (out out' : List ℕ) (held held' : Option (List ℕ)) (r : Ran)
      → Closes s stop read wrote out out' held held' r
      → ((w : ℕ) → TextCounted g.bytes w out' → Stops g.bytes stop w out') → Runs out' r
  closed stop out out' held held' r (e, inl (why, q, given)) k =
      subst (Runs out') (sym q) (record { bytes = g.bytes; read_is = g.read_is; within = g.within; stops = refl })
  closed stop out out' held held' r (e, inr (q, given)) k =
      subst (Runs out') (sym q)
      (record {
        bytes = g.bytes;
        read_is = g.read_is;
        within = g.within;
        stops = k (add64 wrote (length (last_text s))) (told out out' e);
      })

  pub input_ended : (n : ℕ) → n ≡ 0 → (out out' : List ℕ) (held held' : Option (List ℕ)) (r : Ran)
      → Closes s (LastRead (Ok n)) read wrote out out' held held' r → Runs out' r
  input_ended n e out out' held held' r c =
      closed (LastRead (Ok n)) out out' held held' r c
      (λ w t. subst (λ (k : ℕ). Stops g.bytes (LastRead (Ok k)) w out') (sym e) t)

  pub at_limit : read ≡ most_bytes → (out out' : List ℕ) (held held' : Option (List ℕ)) (r : Ran)
      → Closes s AtLimit read wrote out out' held held' r → Runs out' r
  at_limit h out out' held held' r c = closed AtLimit out out' held held' r c (λ w t. (sym g.read_is ∙ h, t))

-- ---- the finish

-- what a finish with room left
pub record Finished (w out out' : List ℕ) (n : ℕ) : Type 0 where
  pub size : n ≡ length w
  pub fits : n ≤ length out'
  pub out_is : out' ≡ w ++ drop (length w) out
  pub first : take n out' ≡ w

pub finished : (w out out' : List ℕ) (r : Result ℕ Refusal) (n room : ℕ) → length w ≤ room → room ≤ length out
    → written_means r ≡ draft_answer (result w) (length out) → out' ≡ draft_out (result w) out → length out' ≡ length out
    → r ≡ Ok n → Finished w out out' n
finished w out out' r n room short h e left kept q =
    let fits : length w ≤ length out = omega arith in
    let same = sym q ∙ writes_length w (length out) r fits e in
    let size : n ≡ length w = cc same in
    let is : out' ≡ w ++ drop (length w) out = writes_out w out out' fits left in
    record {
      size = size;
      fits = omega arith;
      out_is = is;
      first = ap (take n) is ∙ take_at w (drop (length w) out) n (sym size);
    }

-- ---- the lines of a call stand first in the output

pub first_lines : (s : Listing) (chunk out out' : List ℕ) (taken : ℕ) (r : Listed)
    → Lists s (take (length chunk - taken) (drop taken chunk)) out out' r
    → take r.wrote out' ≡ texts s (take r.taken (drop taken chunk))
first_lines s chunk out out' taken r l =
    let rest : Lists s (drop taken chunk) out out' r =
    subst (λ (x : List ℕ). Lists s x out out' r) (rest_part chunk taken) l in
    ap (take r.wrote) rest.out_is
    ∙ take_at (texts s (take r.taken (drop taken chunk))) (drop r.wrote out) r.wrote (sym rest.wrote_is)
