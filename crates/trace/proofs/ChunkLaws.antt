-- The laws of bytes one after the other, and of the loop over a chunk.
use Rattle.std.proofs.Common.{◌≡◌, ℕ, suc, ◌+◌, ◌-◌, ◌<◌, ◌≤◌, Bool, true, ltb, List, [], ◌∷◌, ◌++◌, length, get_or, take, drop, sym, refl, ap, ◌∙◌, append_assoc, add_assoc, arith, drop-cons, drop-drop, length-append, take-add, lt-ltb}
use lib.Seq.{drop-length, take_at, drop_at}
use Rattle.lists.specs.Choice.{pick}
use Rattle.text.specs.Writing.{line_room}
use Rattle.trace.specs.Private.{Going, Advances}
use Rattle.trace.specs.Machine.{next_of, text_of, listing_after, texts, taken_of, Lists}
use Rattle.trace.specs.declared.Listing.{Listing}
use Rattle.trace.specs.declared.Advanced.{Advanced}

pub after_append : (s : Listing) (xs ys : List ℕ) → listing_after s (xs ++ ys) ≡ listing_after (listing_after s xs) ys
after_append s [] ys = refl
after_append s (x ∷ xs) ys = after_append (next_of s x) xs ys

pub texts-append : (s : Listing) (xs ys : List ℕ) → texts s (xs ++ ys) ≡ texts s xs ++ texts (listing_after s xs) ys
texts-append s [] ys = refl
texts-append s (x ∷ xs) ys =
    ap (λ (l : List ℕ). text_of s x ++ l) (texts-append (next_of s x) xs ys)
    ∙ sym (append_assoc (text_of s x) (texts (next_of s x) xs) (texts (listing_after (next_of s x) xs) ys))

pub going_start : (s : Listing) (chunk out : List ℕ) → Going s chunk out s out 0 0
going_start s chunk out =
    let z : length out - 0 ≡ length out = omega arith in
    record { state = refl; wrote_is = refl; out_is = refl; taken_is = rw z (omega arith) }

taken_stop : (t : Bool) (n i : ℕ) → t ≡ true → i + pick t 0 (1 + n) ≡ i
taken_stop t n i e = rw e (omega arith)

module _ (s₀ : Listing) (chunk out₀ : List ℕ) (s : Listing) (out : List ℕ) (wrote taken : ℕ)
    (g : Going s₀ chunk out₀ s out wrote taken) where
  pub going_more : wrote ≤ length out₀ → line_room ≤ length out₀ - wrote → (s' : Listing) (part : List ℕ) (r : Advanced)
      → Advances s s' (drop taken chunk) (drop wrote out) part r
      → Going s₀ chunk out₀ s' (take wrote out ++ part) (wrote + r.wrote) (taken + r.taken)
  going_more k room s' part r t =
      let n : ℕ = r.taken in
      let e : take (taken + n) chunk ≡ take taken chunk ++ take n (drop taken chunk) = take-add taken n chunk in
      let tx : texts s₀ (take taken chunk) ++ t.text ≡ texts s₀ (take (taken + n) chunk) =
      ap (λ (l : List ℕ). texts s₀ (take taken chunk) ++ l) t.leads.text
      ∙ ap (λ (u : Listing). texts s₀ (take taken chunk) ++ texts u (take n (drop taken chunk))) g.state
      ∙ sym (texts-append s₀ (take taken chunk) (take n (drop taken chunk)))
      ∙ ap (texts s₀) (sym e) in
      let l : length (texts s₀ (take (taken + n) chunk)) ≡ wrote + length t.text =
      omega (arith, ap length tx, length-append (texts s₀ (take taken chunk)) t.text, g.wrote_is) in
      let m : length out₀ - wrote - length t.text ≡ length out₀ - (wrote + r.wrote) = omega (arith, t.wrote_is) in
      let front : take wrote out ≡ texts s₀ (take taken chunk) =
      ap (take wrote) g.out_is ∙ take_at (texts s₀ (take taken chunk)) (drop wrote out₀) wrote (sym g.wrote_is) in
      let back : drop wrote out ≡ drop wrote out₀ =
      ap (drop wrote) g.out_is ∙ drop_at (texts s₀ (take taken chunk)) (drop wrote out₀) wrote (sym g.wrote_is) in
      record {
        state =
            t.leads.state ∙ ap (λ (u : Listing). listing_after u (take n (drop taken chunk))) g.state
            ∙ sym (after_append s₀ (take taken chunk) (take n (drop taken chunk))) ∙ ap (listing_after s₀) (sym e);
        wrote_is = omega (arith, l, t.wrote_is);
        out_is =
            ap (λ (x : List ℕ). take wrote out ++ x) (t.out_is ∙ ap (λ (x : List ℕ). t.text ++ drop r.wrote x) back)
            ∙ ap (λ (x : List ℕ). take wrote out ++ (t.text ++ x)) (drop-drop r.wrote wrote out₀)
            ∙ ap (λ (x : List ℕ). x ++ (t.text ++ drop (wrote + r.wrote) out₀)) front
            ∙ sym (append_assoc (texts s₀ (take taken chunk)) t.text (drop (wrote + r.wrote) out₀))
            ∙ ap (λ (x : List ℕ). x ++ drop (wrote + r.wrote) out₀) tx;
        taken_is = g.taken_is
            ∙ ap (λ (x : ℕ). taken + x) (t.leads.taken (length out₀ - wrote) room)
            ∙ sym (add_assoc taken n (taken_of s' (drop n (drop taken chunk)) (length out₀ - wrote - length t.text)))
            ∙ ap (λ (l : List ℕ). taken + n + taken_of s' l (length out₀ - wrote - length t.text)) (drop-drop n taken chunk)
            ∙ ap (λ (x : ℕ). taken + n + taken_of s' (drop (taken + n) chunk) x) m;
      }

  lists : taken ≤ length chunk → wrote ≤ length out₀ → taken_of s₀ chunk (length out₀) ≡ taken
      → Lists s₀ chunk out₀ out (record { taken = taken; wrote = wrote; next = s })
  lists hi ha e = record {
    taken_is = sym e;
    next_is = g.state;
    wrote_is = g.wrote_is;
    out_is = g.out_is;
    taken_fits = hi;
    wrote_fits = ha;
  }

  pub going_stop : taken < length chunk → wrote ≤ length out₀ → length out₀ - wrote < line_room
      → Lists s₀ chunk out₀ out (record { taken = taken; wrote = wrote; next = s })
  going_stop h ha room =
      lists (omega arith) ha
      (g.taken_is
      ∙ ap (λ (l : List ℕ). taken + taken_of s l (length out₀ - wrote)) (drop-cons chunk taken 0 h)
      ∙ taken_stop (ltb (length out₀ - wrote) line_room)
      (taken_of (next_of s (get_or chunk taken 0)) (drop (suc taken) chunk)
      (length out₀ - wrote - length (text_of s (get_or chunk taken 0))))
      taken (lt-ltb (length out₀ - wrote) line_room room))

  pub going_end : taken ≡ length chunk → wrote ≤ length out₀
      → Lists s₀ chunk out₀ out (record { taken = taken; wrote = wrote; next = s })
  going_end h ha =
      let z : taken + 0 ≡ taken = omega arith in
      lists (omega arith) ha (g.taken_is
      ∙ ap (λ (l : List ℕ). taken + taken_of s l (length out₀ - wrote))
      (ap (λ (n : ℕ). drop n chunk) h ∙ drop-length chunk)
      ∙ z)
