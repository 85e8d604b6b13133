-- What a reader has left and what a writer holds, as the program goes on.
use Rattle.std.proofs.Common.{◌≡◌, ℕ, ◌+◌, ◌≤◌, Option, None, Some, Result, Ok, Err, IsOk, IsErr, is_err, Bool, true, false, List, [], ◌++◌, length, take, drop, sym, refl, ap, ◌∙◌, subst, inl, inr, append_assoc, append-nil, take-append-drop, take-add, arith, length-append}
use Rattle.std.proofs.Math.Seq.{take-length}
use Rattle.std.specs.Io.KnownBytes.{Appends, Consumes, Keeps, IsAtEnd}
use Rattle.std.specs.declared.io.Error.{Error}
use Rattle.std.proofs.KnownBytes.{Appends-nil, Appends-trans, Appends-kept, Consumes-nil, Consumes-trans, Consumes-kept}
use Rattle.text.specs.Text.{text}
use Rattle.trace.specs.Machine.{new_listing, listing_after, texts, last_text}
use Rattle.line.specs.Rowing.{most_bytes}
use Rattle.trace.specs.declared.Listing.{Listing}
use Rattle.trace.proofs.ChunkLaws.{after_append, texts-append}
use Rattle.trace.proofs.Cuttings.{new_text}
use Rattle.listing.specs.Runs.{Pumps}
use Rattle.listing.specs.Private.{ran, Closes}
use Rattle.listing.specs.Streams.{GivesFirst, Gives, Stopped, Carries}
use Rattle.listing.specs.declared.Stop.{Stop}
use Rattle.listing.specs.declared.Stop.TheVariants.{LastRead, AtLimit, LastWrite}
use Rattle.listing.specs.declared.Pumped.{Pumped}
use Rattle.listing.specs.declared.Ran.{Ran}

-- ---- a text that is written from an index on

module _ (held now : Option (List ℕ)) (w : List ℕ) (done : ℕ) (a : Appends held now (take done w)) where
  -- the first bytes of what is left were written
  pub wrote_more : (after : Option (List ℕ)) (left : List ℕ) (n : ℕ) → left ≡ drop done w
      → Appends now after (take n left) → Appends held after (take (done + n) w)
  wrote_more after left n e b =
      subst (Appends held after) (ap (λ (l : List ℕ). take done w ++ take n l) e ∙ sym (take-add done n w))
      (Appends-trans held now after (take done w) (take n left) a b)

  -- nothing more was
  pub wrote_first : (after : Option (List ℕ)) → Keeps now after → GivesFirst held after w
  wrote_first after k =
      (take done w, (drop done w, sym (take-append-drop done w), Appends-kept held now after (take done w) a k))

-- a write that took nothing left what was held
pub kept_of_none : (held held' : Option (List ℕ)) (text : List ℕ) (n : ℕ) → n ≡ 0 → Appends held held' (take n text)
    → Keeps held held'
kept_of_none None held' text n e a = tt
kept_of_none (Some x) None text n e a = a
kept_of_none (Some x) (Some y) text n e a = a ∙ ap (λ (k : ℕ). x ++ take k text) e ∙ append-nil x

-- a read that gave nothing left what was left
pub kept_of_none_left : (left left' : Option (List ℕ)) (bytes : List ℕ) (n : ℕ) → n ≡ 0 → Consumes left left' (take n bytes)
    → Keeps left left'
kept_of_none_left None left' bytes n e c = tt
kept_of_none_left (Some x) None bytes n e c = c
kept_of_none_left (Some x) (Some y) bytes n e c = sym (c ∙ ap (λ (k : ℕ). take k bytes ++ y) e)

-- ---- texts one after the other

module _ (held now after : Option (List ℕ)) (v w : List ℕ) (a : Appends held now v) where
  pub gives_after : (all : Result Unit Error) → Gives now after all w → Gives held after all (v ++ w)
  gives_after (Ok u) b = Appends-trans held now after v w a b
  gives_after (Err e) (first, (rest, is, b)) = (
    v ++ first,
    (rest, ap (λ (l : List ℕ). v ++ l) is ∙ sym (append_assoc v first rest), Appends-trans held now after v first a b),
  )

-- the first bytes of a text are those of a longer one
pub first_of_more : (held held' : Option (List ℕ)) (w more all : List ℕ) → all ≡ w ++ more → GivesFirst held held' w
    → GivesFirst held held' all
first_of_more held held' w more all e (first, (rest, is, a)) =
    (first, (rest ++ more, e ∙ ap (λ (l : List ℕ). l ++ more) is ∙ append_assoc first rest more, a))

pub given_all : (held held' : Option (List ℕ)) (all : Result Unit Error) (w : List ℕ) → IsOk all → Gives held held' all w
    → Appends held held' w
given_all held held' (Ok u) w h a = a
given_all held held' (Err e) w h a = cc

pub given_first : (held held' : Option (List ℕ)) (all : Result Unit Error) (w : List ℕ) → IsErr all → Gives held held' all w
    → GivesFirst held held' w
given_first held held' (Ok u) w h a = cc
given_first held held' (Err e) w h a = a

-- whether all was written, from a test
pub is_failed : (all : Result Unit Error) (b : Bool) → b ≡ is_err all → b ≡ true → IsErr all
is_failed all b e h = sym e ∙ h

pub is_whole : (all : Result Unit Error) (b : Bool) → b ≡ is_err all → b ≡ false → IsOk all
is_whole (Ok u) b e h = refl
is_whole (Err x) b e h = cc

pub never_both : (all : Result Unit Error) → IsOk all → IsErr all → ⊥
never_both (Ok u) h k = cc
never_both (Err x) h k = cc

-- ---- a chunk

-- the lines of the bytes before an index were written, and those of the next bytes are given
pub given_more : (s₀ : Listing) (chunk : List ℕ) (s : Listing) (taken : ℕ) → s ≡ listing_after s₀ (take taken chunk)
    → (held now after : Option (List ℕ)) → Appends held now (texts s₀ (take taken chunk)) → (all : Result Unit Error)
    → (w : List ℕ) (n : ℕ) → w ≡ texts s (take n (drop taken chunk)) → Gives now after all w
    → Gives held after all (texts s₀ (take (taken + n) chunk))
given_more s₀ chunk s taken state held now after a all w n e b =
    let k : List ℕ = take taken chunk in
    let more : List ℕ = take n (drop taken chunk) in
    let is : texts s₀ k ++ w ≡ texts s₀ (take (taken + n) chunk) =
    ap (λ (l : List ℕ). texts s₀ k ++ l) (e ∙ ap (λ (u : Listing). texts u more) state)
    ∙ sym (texts-append s₀ k more)
    ∙ ap (texts s₀) (sym (take-add taken n chunk)) in
    subst (Gives held after all) is (gives_after held now after (texts s₀ k) w a all b)

-- ---- the whole input

-- some bytes were taken from a reader, and their lines given to a writer
pub record Flowing (left left' held held' : Option (List ℕ)) (s : Listing) (read : ℕ) : Type 0 where
  pub bytes : List ℕ
  pub read_is : read ≡ length bytes
  pub within : length bytes ≤ most_bytes
  pub state : s ≡ listing_after new_listing bytes
  pub taken : Consumes left left' bytes
  pub given : Appends held held' (texts new_listing bytes)

pub flowing_none : (left held : Option (List ℕ)) (s : Listing) → s ≡ new_listing → Flowing left left held held s 0
flowing_none left held s e = record {
  bytes = [];
  read_is = refl;
  within = omega arith;
  state = e;
  taken = Consumes-nil left;
  given = Appends-nil held;
}

module _ (left now held here : Option (List ℕ)) (s : Listing) (read : ℕ) (f : Flowing left now held here s read) where
  pub read_failed_flow : (e : Error) (left' : Option (List ℕ)) (wrote : ℕ) → Keeps now left'
      → Carries left left' held here (ran (LastRead (Err e)) read wrote)
  read_failed_flow e left' wrote k = record {
    bytes = f.bytes;
    read_is = f.read_is;
    taken = Consumes-kept left now left' f.bytes f.taken k;
    given = f.given;
  }

  module _ (left' held' : Option (List ℕ)) (chunk : List ℕ) (n : ℕ) (size : n ≡ length chunk) (h : read + n ≤ most_bytes)
      (c : Consumes now left' chunk) (p : Pumped) (l : Pumps s chunk p)
      (t : Gives here held' p.whole (texts s (take p.taken chunk))) where
    abbrev bytes : List ℕ
    bytes = f.bytes ++ chunk

    count : read + n ≡ length bytes
    count = omega (arith, f.read_is, size, length-append f.bytes chunk)

    texts_are : (k : List ℕ) → texts new_listing (f.bytes ++ k) ≡ texts new_listing f.bytes ++ texts s k
    texts_are k =
        texts-append new_listing f.bytes k
        ∙ ap (λ (u : Listing). texts new_listing f.bytes ++ texts u k) (sym f.state)

    pub flowing_more : IsOk p.whole → Flowing left left' held held' p.next (read + n)
    flowing_more whole =
        let all : take p.taken chunk ≡ chunk = ap (λ (k : ℕ). take k chunk) (l.all whole) ∙ take-length chunk in
        record {
          bytes = bytes;
          read_is = count;
          within = omega (arith, count);
          state =
              l.next_is ∙ ap (listing_after s) all ∙ ap (λ (u : Listing). listing_after u chunk) f.state
              ∙ sym (after_append new_listing f.bytes chunk);
          taken = Consumes-trans left now left' f.bytes chunk f.taken c;
          given =
              subst (Appends held held')
              (ap (λ (k : List ℕ). texts new_listing f.bytes ++ texts s k) all ∙ sym (texts_are chunk))
              (Appends-trans held here held' (texts new_listing f.bytes) (texts s (take p.taken chunk)) f.given
              (given_all here held' p.whole (texts s (take p.taken chunk)) whole t));
        }

    -- what was given is the beginning of the whole text
    begins : (more : List ℕ) × (text bytes ≡ (texts new_listing f.bytes ++ texts s (take p.taken chunk)) ++ more)
    begins =
        let k : List ℕ = take p.taken chunk in
        let d : List ℕ = drop p.taken chunk in
        let u : Listing = listing_after s k in
        let last : List ℕ = last_text (listing_after new_listing bytes) in (
          texts u d ++ last,
          sym (new_text bytes (omega (arith, count)))
              ∙ ap (λ (v : List ℕ). v ++ last)
              (texts_are chunk
              ∙ ap (λ (v : List ℕ). texts new_listing f.bytes ++ texts s v) (sym (take-append-drop p.taken chunk))
              ∙ ap (λ (v : List ℕ). texts new_listing f.bytes ++ v) (texts-append s k d)
              ∙ sym (append_assoc (texts new_listing f.bytes) (texts s k) (texts u d)))
              ∙ append_assoc (texts new_listing f.bytes ++ texts s k) (texts u d) last,
        )

    pub write_failed_flow : IsErr p.whole → (wrote : ℕ) → Carries left left' held held' (ran (LastWrite p.whole) (read + n) wrote)
    write_failed_flow failed wrote =
        let k : List ℕ = texts s (take p.taken chunk) in
        let v : List ℕ = texts new_listing f.bytes in
        record {
          bytes = bytes;
          read_is = count;
          taken = Consumes-trans left now left' f.bytes chunk f.taken c;
          given =
              first_of_more held held' (v ++ k) begins.0 (text bytes) begins.1
              (given_first held held' p.whole (v ++ k) failed
              (gives_after held here held' v k f.given p.whole t));
        }

  -- the last text is given
  module _ (left' held' : Option (List ℕ)) (stop : Stop) (wrote : ℕ) (out out' : List ℕ) (r : Ran)
      (t : Closes s stop read wrote out out' here held' r) where
    whole_text : texts new_listing f.bytes ++ last_text s ≡ text f.bytes
    whole_text =
        ap (λ (u : Listing). texts new_listing f.bytes ++ last_text u) f.state ∙ new_text f.bytes f.within

    closed_flow : Consumes left left' f.bytes
        → (Appends held held' (text f.bytes) → Stopped left' held held' f.bytes stop) → Carries left left' held held' r
    closed_flow taken k =
        elim t.1 [
          | inl q ↦
              let first : GivesFirst held held' (text f.bytes) =
              subst (GivesFirst held held') whole_text
              (gives_after held here held' (texts new_listing f.bytes) (last_text s) f.given (Err q.0) q.2) in
              subst (Carries left left' held held') (sym q.1)
              (record { bytes = f.bytes; read_is = f.read_is; taken = taken; given = first })
          | inr q ↦
              subst (Carries left left' held held') (sym q.0)
              (record {
                bytes = f.bytes;
                read_is = f.read_is;
                taken = taken;
                given =
                    k (subst (Appends held held') whole_text
                    (Appends-trans held here held' (texts new_listing f.bytes) (last_text s) f.given q.1));
              })
        ]

    pub input_ended_flow : (n : ℕ) (input' : List ℕ) → n ≡ 0 → Consumes now left' (take n input') × (n ≡ 0 → IsAtEnd left')
        → stop ≡ LastRead (Ok n) → Carries left left' held held' r
    input_ended_flow n input' e (c, end) is =
        closed_flow (Consumes-kept left now left' f.bytes f.taken (kept_of_none_left now left' input' n e c))
        (λ a. subst (Stopped left' held held' f.bytes) (sym is) (end e, a))

    pub at_limit_flow : left' ≡ now → stop ≡ AtLimit → Carries left left' held held' r
    at_limit_flow same is =
        closed_flow (subst (λ (l : Option (List ℕ)). Consumes left l f.bytes) (sym same) f.taken)
        (λ a. subst (Stopped left' held held' f.bytes) (sym is) a)
