-- One move of a command cursor.
use Prim.Native.Nat.{ℕ, suc, ◌+◌, ◌≤◌}
use mathlib.Core.Path.{◌≡◌, refl, sym, ap, ◌∙◌}
use mathlib.Core.List.{List, [], ◌∷◌}
use native.Mathlib.Omega.{arith}
use lib.ListN.{length, drop}
use lib.Seq.{drop-drop, drop-append_seam}
use Rattle.command.specs.Entries.{Entry, commands, entry_bytes, list_bytes, AllWellFormed, Parsed}
use Rattle.command.specs.Entries.{unsound, sound, parse, found, nth_of, nth_in, Extent}
use Rattle.answer.specs.Answer.{Answer, result, refused}
use Rattle.command.specs.Traversal.{command_at, index_past, index_after}
use Rattle.command.proofs.Extents.{found_within, width_of}
use Rattle.command.proofs.Sound.{sound_exactly, parse_wire}

-- the n-th command from an index on
abbrev pub nth_from : List ℕ → (at n : ℕ) → Answer Extent
nth_from s at n = nth_in commands at (parse commands (drop at s) 0) n

-- what is refused at an index is refused for every number from there on
pub refused_from : (s : List ℕ) (at k : ℕ) → command_at s at ≡ refused k → (n : ℕ) → nth_from s at n ≡ refused k
unfolding command_at nth_in nth_of
refused_from s at k h n = case (parse commands (drop at s) 0) h
  where
    case : (p : Parsed) → nth_in commands at p 0 ≡ refused k → nth_in commands at p n ≡ refused k
    case (unsound i) e = e
    case (sound []) e = e
    case (sound (x ∷ es)) e = let w : ◌≡◌ {A = ℕ} 0 1 = cc in absurd (omega arith)

-- a move past the first of sound commands leads to the others
pub one_past : (s : List ℕ) (at : ℕ) (e : Entry) (es : List Entry) → parse commands (drop at s) 0 ≡ sound (e ∷ es)
    → (index_after s at ≡ at + length (entry_bytes commands e)) × (parse commands (drop (index_after s at) s) 0 ≡ sound es)
unfolding command_at index_after nth_in nth_of list_bytes AllWellFormed
one_past s at e es h =
    let m = (sound_exactly commands (drop at s) (e ∷ es)).0 h in
    let p : index_after s at ≡ at + length (entry_bytes commands e) =
    ap (λ (x : Parsed). index_past at (nth_in commands at x 0)) h ∙ omega (arith, width_of commands e m.1.0) in
    let d : drop (at + length (entry_bytes commands e)) s ≡ list_bytes commands es =
    sym (drop-drop (length (entry_bytes commands e)) at s) ∙ ap (drop (length (entry_bytes commands e))) (sym m.0)
    ∙ drop-append_seam (entry_bytes commands e) (list_bytes commands es) in (
      p,
      ap (λ (n : ℕ). parse commands (drop n s) 0) p ∙ ap (λ (l : List ℕ). parse commands l 0) d
          ∙ parse_wire commands es m.1.1,
    )

-- a command further on from an index is that one from the next index
pub next_from : (s : List ℕ) (at n : ℕ) → nth_from s (index_after s at) n ≡ nth_from s at (suc n)
unfolding command_at index_after nth_in nth_of
next_from s at n = case (parse commands (drop at s) 0) refl
  where
    here : ℕ → Answer Extent
    here m = nth_in commands at (parse commands (drop at s) 0) m

    stays : (k : ℕ) → here 0 ≡ refused k → nth_from s (index_past at (here 0)) n ≡ here (suc n)
    stays k e =
        ap (λ (a : Answer Extent). nth_from s (index_past at a) n) e ∙ refused_from s at k e n
        ∙ sym (refused_from s at k e (suc n))

    case : (p : Parsed) → parse commands (drop at s) 0 ≡ p → nth_from s (index_past at (here 0)) n ≡ here (suc n)
    case (unsound i) e = stays 7 (ap (λ (x : Parsed). nth_in commands at x 0) e)
    case (sound []) e = stays 15 (ap (λ (x : Parsed). nth_in commands at x 0) e)
    case (sound (x ∷ es)) e =
        let o = one_past s at x es e in
        ap (λ (q : Parsed). nth_in commands (index_past at (here 0)) q n) o.1
        ∙ ap (λ (m : ℕ). nth_of commands m es n) o.0
        ∙ sym (ap (λ (q : Parsed). nth_in commands at q (suc n)) e)

-- ---- what a call that answers the command at an index tells

module _ (s : List ℕ) (at : ℕ) where
  pub after_found : {b start len : ℕ} → result (found b start len) ≡ command_at s at
      → (start + len ≤ length s) × (start + len ≡ index_after s at)
  unfolding command_at index_after
  after_found {b} {start} {len} e =
      (found_within commands at s 0 b start len (sym e), ap (index_past at) e)

  pub after_refused : {k : ℕ} → refused k ≡ command_at s at → at ≡ index_after s at
  unfolding index_after
  after_refused e = ap (index_past at) e

  pub from_refused : (n : ℕ) {k : ℕ} → refused k ≡ command_at s at → refused k ≡ nth_from s at n
  from_refused n {k} e = sym (refused_from s at k (sym e) n)

  -- a move, where it is not the last
  pub from_next : (n left next : ℕ) → next ≡ index_after s at → n ≡ suc left → nth_from s next left ≡ nth_from s at n
  from_next n left next e z =
      ap (λ (x : ℕ). nth_from s x left) e ∙ next_from s at left ∙ ap (nth_from s at) (sym z)
