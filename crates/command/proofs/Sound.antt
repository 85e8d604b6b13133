-- Which bytes are sound.
use Prim.Native.Nat.{ℕ, zero, suc, ◌≤◌}
use mathlib.Core.Path.{◌≡◌, refl, sym, ap, ◌∙◌, subst}
use mathlib.Core.Bool.{true, false, true≢false}
use mathlib.Core.List.{List, [], ◌∷◌, ◌++◌}
use native.Mathlib.Omega.{arith}
use lib.Dec.{leb, ltb}
use lib.ListN.{length, take, drop, length-append, take-append-drop}
use lib.Seq.{length-take-le, take-append_seam, drop-append_seam}
use borrow.Author.Tests.{ltb-false, le-ltb, le-leb}
use Rattle.lists.specs.Choice.{Exactly}
use Rattle.lists.proofs.Cases.{by_bool}
use Rattle.command.specs.Entries.{Entry, entry, entry_bytes, list_bytes, WellFormed, AllWellFormed, Parsed, unsound}
use Rattle.command.specs.Entries.{sound, with_entry, parse}
use Rattle.command.proofs.EntryLaws.{skip_within}

put_inv : (limit : ℕ) (e : Entry) (p : Parsed) (es : List Entry) → with_entry limit e p ≡ sound es
    → (fs : List Entry) × (p ≡ sound fs) × (es ≡ e ∷ fs)
unfolding with_entry
put_inv limit e (unsound k) es h = let w : ◌≡◌ {A = ℕ} 0 1 = cc in absurd (omega arith)
put_inv limit e (sound fs) es h = let q : es ≡ e ∷ fs = cc in (fs, refl, q)

-- the entries' bytes are the bytes after those to be passed
abbrev Means : (limit : ℕ) → List ℕ → ℕ → List Entry → Type 0
Means limit s k es = (k ≤ length s) × (list_bytes limit es ≡ drop k s) × AllWellFormed limit es

counted_means_lem : (limit b n : ℕ) (s : List ℕ) → ltb b limit ≡ true → (fs es : List Entry) → Means limit s n fs
    → es ≡ entry b (take n s) ∷ fs
    → (list_bytes limit es ≡ b ∷ n ∷ s) × AllWellFormed limit es
unfolding list_bytes entry_bytes AllWellFormed
counted_means_lem limit b n s y fs es m q =
    let l : length (take n s) ≡ n = length-take-le n s m.0 in
    let w : list_bytes limit (entry b (take n s) ∷ fs) ≡ b ∷ n ∷ s =
    (simp (y, l)) ∙ ap (λ (x : List ℕ). b ∷ n ∷ take n s ++ x) m.1
    ∙ ap (λ (x : List ℕ). b ∷ n ∷ x) (take-append-drop n s) in
    let formed : WellFormed limit (entry b (take n s)) = λ h. absurd (true≢false (sym y ∙ le-ltb b limit h)) in
    (ap (list_bytes limit) q ∙ w, subst (AllWellFormed limit) (sym q) (formed, m.2))

short_means : (limit b : ℕ) (s : List ℕ) → ltb b limit ≡ false → (fs es : List Entry) → Means limit s 0 fs
    → es ≡ entry b [] ∷ fs
    → (list_bytes limit es ≡ b ∷ s) × AllWellFormed limit es
unfolding list_bytes entry_bytes AllWellFormed
short_means limit b s y fs es m q =
    let w : list_bytes limit (entry b [] ∷ fs) ≡ b ∷ s = (simp y) ∙ ap (λ (x : List ℕ). b ∷ x) m.1 in
    let formed : WellFormed limit (entry b []) = λ h. refl in
    (ap (list_bytes limit) q ∙ w, subst (AllWellFormed limit) (sym q) (formed, m.2))

pub parse_means : (limit : ℕ) (s : List ℕ) (k : ℕ) (es : List Entry) → parse limit s k ≡ sound es → Means limit s k es
unfolding parse list_bytes AllWellFormed
parse_means limit [] zero es h =
    let q : es ≡ [] = cc in (omega arith, ap (list_bytes limit) q, subst (AllWellFormed limit) (sym q) tt)
parse_means limit [] (suc k) es h = let w : ◌≡◌ {A = ℕ} 0 1 = cc in absurd (omega arith)
parse_means limit (x ∷ s) (suc k) es h = let m = parse_means limit s k es h in (omega arith, m.1, m.2)
parse_means limit (b ∷ []) zero es h =
    by_bool (ltb b limit)
    (λ y. let q : unsound 0 ≡ sound es = simp y at h in let w : ◌≡◌ {A = ℕ} 0 1 = cc in absurd (omega arith))
    (λ y. let p = put_inv limit (entry b []) (parse limit [] 0) es (simp y at h) in
    let m = short_means limit b [] y p.0 es (parse_means limit [] zero p.0 p.1) p.2 in
    (omega arith, m.0, m.1))
parse_means limit (b ∷ n ∷ s) zero es h =
    by_bool (ltb b limit)
    (λ y. by_bool (leb n (length s))
    (λ z. let p = put_inv limit (entry b (take n s)) (parse limit s n) es (simp (y, z) at h) in
    let m = counted_means_lem limit b n s y p.0 es (parse_means limit s n p.0 p.1) p.2 in
    (omega arith, m.0, m.1))
    (λ z. let q : unsound 0 ≡ sound es = simp (y, z) at h in let w : ◌≡◌ {A = ℕ} 0 1 = cc in absurd (omega arith)))
    (λ y. let p = put_inv limit (entry b []) (parse limit (n ∷ s) 0) es (simp y at h) in
    let m = short_means limit b (n ∷ s) y p.0 es (parse_means limit (n ∷ s) zero p.0 p.1) p.2 in
    (omega arith, m.0, m.1))

-- The bytes of a well-formed entry, and any bytes after them.
pub parse_entry : (limit : ℕ) (e : Entry) (rest : List ℕ) → WellFormed limit e
    → parse limit (entry_bytes limit e ++ rest) 0 ≡ with_entry limit e (parse limit rest 0)
unfolding parse entry_bytes
parse_entry limit e rest f =
    by_bool (ltb e.byte limit)
    (λ y. let n = length e.body in
    let fits : n ≤ length (e.body ++ rest) = omega (arith, length-append e.body rest) in
    (simp (y, le-leb n (length (e.body ++ rest)) fits))
    ∙ ap (λ (x : List ℕ). with_entry limit (entry e.byte x) (parse limit (e.body ++ rest) n))
    (take-append_seam e.body rest)
    ∙ ap (with_entry limit e) (skip_within limit n (e.body ++ rest) fits
    ∙ ap (λ (x : List ℕ). parse limit x 0) (drop-append_seam e.body rest)))
    (λ y. let q : e.body ≡ [] = f (ltb-false e.byte limit y) in
    (simp y) ∙ ap (λ (x : List ℕ). with_entry limit (entry e.byte x) (parse limit rest 0)) (sym q))

-- The bytes of well-formed entries are parsed as those entries.
pub parse_wire : (limit : ℕ) (es : List Entry) → AllWellFormed limit es → parse limit (list_bytes limit es) 0 ≡ sound es
unfolding parse list_bytes AllWellFormed with_entry
parse_wire limit [] f = refl
parse_wire limit (e ∷ es) f =
    parse_entry limit e (list_bytes limit es) f.0 ∙ ap (with_entry limit e) (parse_wire limit es f.1)

-- Bytes are sound, as a list of entries, exactly when they are the bytes of those entries, each well formed, one after
-- the other.
pub sound_exactly : (limit : ℕ) (s : List ℕ) (es : List Entry)
    → Exactly (parse limit s 0 ≡ sound es) ((list_bytes limit es ≡ s) × AllWellFormed limit es)
sound_exactly limit s es = (
  (λ h. let m = parse_means limit s 0 es h in (m.1, m.2)),
  (λ w. ap (λ (x : List ℕ). parse limit x 0) (sym w.0) ∙ parse_wire limit es w.1),
)
