-- The count of stray bytes is the number of bytes that stand in no candidate.
use mathlib.Core.Path.{◌≡◌, refl, sym, ap, ◌∙◌}
use mathlib.Core.Bool.{Bool, true, false}
use mathlib.Core.List.{List, [], ◌∷◌, ◌++◌, append_assoc}
use mathlib.Core.Logic.{◌⊎◌, inl, inr, ⊎_elim}
use Prim.Native.Nat.{ℕ, suc, ◌+◌}
use native.Mathlib.Omega.{arith}
use Rattle.lists.specs.Choice.{Exactly}
use Rattle.framing.specs.Reference.{Role, starts, stops, plain, FlagFree}
use Rattle.framing.specs.Demand3.{LeftOpen}
use Rattle.frame.specs.Flags.{role_of}
use Rattle.frame.specs.declared.Origin.TheVariants.{Trace}
use Rattle.candidate.specs.Rowing.{rowing}
use Rattle.text.specs.Strays.{stray_at, open_after, strays, Strays, done, inside, stray}

-- ---- the last of a list, and what stands before it

abbrev last : ℕ → List ℕ → ℕ
last d [] = d
last d (x ∷ xs) = last x xs

last_append : (d : ℕ) (xs : List ℕ) (y : ℕ) (ys : List ℕ) → last d (xs ++ y ∷ ys) ≡ last y ys
last_append d [] y ys = refl
last_append d (x ∷ xs) y ys = last_append x xs y ys

abbrev front : List ℕ → List ℕ
front [] = []
front (x ∷ []) = []
front (x ∷ y ∷ ys) = x ∷ front (y ∷ ys)

front_append : (xs : List ℕ) (y z : ℕ) (zs : List ℕ) → front (xs ++ y ∷ z ∷ zs) ≡ xs ++ y ∷ front (z ∷ zs)
front_append [] y z zs = refl
front_append (x ∷ []) y z zs = refl
front_append (x ∷ w ∷ xs) y z zs = ap (λ (l : List ℕ). x ∷ l) (front_append (w ∷ xs) y z zs)

front_last : (xs : List ℕ) (y : ℕ) → front (xs ++ y ∷ []) ≡ xs
front_last [] y = refl
front_last (x ∷ []) y = refl
front_last (x ∷ w ∷ xs) y = ap (λ (l : List ℕ). x ∷ l) (front_last (w ∷ xs) y)

-- ---- bytes that are no flags

free_last : (x : ℕ) (xs : List ℕ) (b : ℕ) → FlagFree role_of (x ∷ xs) → last x xs ≡ b → role_of b ≡ plain
free_last x [] b n e = ap role_of (sym e) ∙ n.0
free_last x (y ∷ ys) b n e = free_last y ys b n.1 e

free_front : (xs : List ℕ) → FlagFree role_of xs → FlagFree role_of (front xs)
free_front [] n = tt
free_front (x ∷ []) n = tt
free_front (x ∷ y ∷ ys) n = (n.0, free_front (y ∷ ys) n.1)

free_more : (xs : List ℕ) (b : ℕ) → FlagFree role_of xs → role_of b ≡ plain → FlagFree role_of (xs ++ b ∷ [])
free_more [] b n e = (e, tt)
free_more (x ∷ xs) b n e = (n.0, free_more xs b n.1 e)

-- ---- one byte more

opens : (bytes : List ℕ) (b : ℕ) → role_of b ≡ starts → LeftOpen (rowing Trace) (bytes ++ b ∷ [])
opens bytes b e = record { before = bytes; flag = b; rest = []; splits = refl; starting = e; flag_free = tt }

stays : (bytes : List ℕ) (b : ℕ) → role_of b ≡ plain → LeftOpen (rowing Trace) bytes → LeftOpen (rowing Trace) (bytes ++ b ∷ [])
stays bytes b e o = record {
  before = o.before;
  flag = o.flag;
  rest = o.rest ++ b ∷ [];
  splits = ap (λ (l : List ℕ). l ++ b ∷ []) o.splits ∙ append_assoc o.before (o.flag ∷ o.rest) (b ∷ []);
  starting = o.starting;
  flag_free = free_more o.rest b o.flag_free e;
}

-- the last byte of bytes that leave a candidate open is its start flag, or is no flag and comes after bytes that leave
-- it open
by_rest : (bytes : List ℕ) (b : ℕ) (before : List ℕ) (flag : ℕ) (rest : List ℕ)
    → bytes ++ b ∷ [] ≡ before ++ flag ∷ rest → role_of flag ≡ starts → FlagFree role_of rest
    → (role_of b ≡ starts) ⊎ ((role_of b ≡ plain) × LeftOpen (rowing Trace) bytes)
by_rest bytes b before flag [] e st n =
    let same : b ≡ flag = sym (last_append 0 bytes b []) ∙ ap (last 0) e ∙ last_append 0 before flag [] in
    inl (ap role_of same ∙ st)
by_rest bytes b before flag (r ∷ rest) e st n =
    let same : last r rest ≡ b = sym (last_append 0 before flag (r ∷ rest)) ∙ ap (last 0) (sym e)
    ∙ last_append 0 bytes b [] in
    let parts : bytes ≡ before ++ flag ∷ front (r ∷ rest) =
    sym (front_last bytes b) ∙ ap front e ∙ front_append before flag r rest in
    inr (
      free_last r rest b n same,
      record {
        before = before;
        flag = flag;
        rest = front (r ∷ rest);
        splits = parts;
        starting = st;
        flag_free = free_front (r ∷ rest) n;
      },
    )

by_last : (bytes : List ℕ) (b : ℕ) → LeftOpen (rowing Trace) (bytes ++ b ∷ [])
    → (role_of b ≡ starts) ⊎ ((role_of b ≡ plain) × LeftOpen (rowing Trace) bytes)
by_last bytes b o = by_rest bytes b o.before o.flag o.rest o.splits o.starting o.flag_free

-- ---- the Bool that the count keeps says whether a candidate is open

abbrev SaysOpen : Bool → List ℕ → Type 0
SaysOpen true bytes = LeftOpen (rowing Trace) bytes
SaysOpen false bytes = LeftOpen (rowing Trace) bytes → ⊥

says_open : (o : Bool) (bytes : List ℕ) (b : ℕ) (ρ : Role) → role_of b ≡ ρ → SaysOpen o bytes
    → SaysOpen (open_after ρ o) (bytes ++ b ∷ [])
says_open o bytes b starts e t = opens bytes b e
says_open o bytes b stops e t = λ l. ⊎_elim
    (λ s. let q : stops ≡ starts = sym e ∙ s in let z : ◌≡◌ {A = ℕ} 0 1 = cc in absurd (omega arith))
    (λ p. let q : stops ≡ plain = sym e ∙ p.0 in let z : ◌≡◌ {A = ℕ} 0 1 = cc in absurd (omega arith))
    (by_last bytes b l)
says_open true bytes b plain e t = stays bytes b e t
says_open false bytes b plain e t = λ l. ⊎_elim
    (λ s. let q : plain ≡ starts = sym e ∙ s in let z : ◌≡◌ {A = ℕ} 0 1 = cc in absurd (omega arith))
    (λ p. t p.1)
    (by_last bytes b l)

-- ---- the count

one_byte : (o : Bool) (before : List ℕ) (b : ℕ) (bytes : List ℕ) (n : ℕ) (ρ : Role) → role_of b ≡ ρ → SaysOpen o before
    → Strays (before ++ b ∷ []) bytes n
    → Strays before (b ∷ bytes) (stray_at ρ o + n)
one_byte o before b bytes n starts e t s = let z : 0 + n ≡ n = omega arith in rw z (inside (inl e) s)
one_byte true before b bytes n stops e t s = let z : 0 + n ≡ n = omega arith in rw z (inside (inr t) s)
one_byte false before b bytes n stops e t s =
    let z : 1 + n ≡ suc n = omega arith in
    rw z (stray (⊎_elim
    (λ s'. let q : stops ≡ starts = sym e ∙ s' in let y : ◌≡◌ {A = ℕ} 0 1 = cc in absurd (omega arith)) t) s)
one_byte true before b bytes n plain e t s = let z : 0 + n ≡ n = omega arith in rw z (inside (inr t) s)
one_byte false before b bytes n plain e t s =
    let z : 1 + n ≡ suc n = omega arith in
    rw z (stray (⊎_elim
    (λ s'. let q : plain ≡ starts = sym e ∙ s' in let y : ◌≡◌ {A = ℕ} 0 1 = cc in absurd (omega arith)) t) s)

counted : (o : Bool) (before bytes : List ℕ) → SaysOpen o before → Strays before bytes (strays o bytes)
counted o before [] t = done
counted o before (b ∷ bytes) t =
    one_byte o before b bytes (strays (open_after (role_of b) o) bytes) (role_of b) refl t
    (counted (open_after (role_of b) o) (before ++ b ∷ []) bytes (says_open o before b (role_of b) refl t))

none_open : LeftOpen (rowing Trace) [] → ⊥
none_open o = none_at o.before o.flag o.rest o.splits
  where
    none_at : (before : List ℕ) (flag : ℕ) (rest : List ℕ) → [] ≡ before ++ flag ∷ rest → ⊥
    none_at [] flag rest e = let z : ◌≡◌ {A = ℕ} 0 1 = cc in omega arith
    none_at (x ∷ xs) flag rest e = let z : ◌≡◌ {A = ℕ} 0 1 = cc in omega arith

-- a byte stands in a candidate or not, so there is one number only
one_number : {before bytes : List ℕ} {n m : ℕ} → Strays before bytes n → Strays before bytes m → n ≡ m
one_number done done = refl
one_number (inside i s) (inside j t) = one_number s t
one_number (inside i s) (stray j t) = absurd (j i)
one_number (stray i s) (inside j t) = absurd (i j)
one_number (stray i s) (stray j t) = ap suc (one_number s t)

-- The count of the totals is that number, and no other number is.
pub strays_exactly : (trace : List ℕ) (n : ℕ)
    → Exactly (n ≡ strays false trace) (Strays [] trace n)
strays_exactly trace n =
    ((λ e. rw e (counted false [] trace none_open)), λ s. one_number s (counted false [] trace none_open))
