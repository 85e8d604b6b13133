-- Entries one after the other: where each of them stands.
use Prim.Native.Nat.{ℕ, zero, suc, ◌+◌, ◌≤◌, ◌<◌}
use mathlib.Core.Path.{◌≡◌, refl, sym, ap, ◌∙◌}
use mathlib.Core.Bool.{Bool, true, false}
use mathlib.Core.List.{List, [], ◌∷◌, ◌++◌, append_assoc, append-nil}
use native.Mathlib.Nat.{add-zero, add_assoc}
use native.Mathlib.Omega.{arith}
use lib.Dec.{ltb}
use lib.ListN.{length, take, drop, length-append, length-drop}
use lib.Seq.{length-take-le, take_at, drop-append-add}
use borrow.Author.Tests.{ltb-false}
use Rattle.lists.specs.Choice.{pick}
use Rattle.lists.proofs.Cases.{by_bool}
use Rattle.command.specs.Entries.{Entry, commands, entry_bytes, list_bytes, WellFormed, AllWellFormed, Parsed}
use Rattle.command.specs.Entries.{unsound, sound, parse, head_of, found, nth_of, nth_in, Extent}
use Rattle.answer.specs.Answer.{Answer, result, refused}
use Rattle.command.specs.Answers.{part_of, InContents}
use Rattle.command.specs.Commands.{is_wrapper, nth_command, shifted, inside, nth_inside}
use Rattle.command.proofs.Sound.{parse_means, sound_exactly}

pub wire_append : (limit : ℕ) (es fs : List Entry)
    → list_bytes limit (es ++ fs) ≡ list_bytes limit es ++ list_bytes limit fs
unfolding list_bytes
wire_append limit [] fs = refl
wire_append limit (e ∷ es) fs =
    ap (λ (l : List ℕ). entry_bytes limit e ++ l) (wire_append limit es fs)
    ∙ sym (append_assoc (entry_bytes limit e) (list_bytes limit es) (list_bytes limit fs))

pub formed_append : (limit : ℕ) (es fs : List Entry) → AllWellFormed limit es → AllWellFormed limit fs
    → AllWellFormed limit (es ++ fs)
unfolding AllWellFormed
formed_append limit [] fs a b = b
formed_append limit (e ∷ es) fs a b = (a.0, formed_append limit es fs a.1 b)

-- Sound bytes and an entry's bytes after them are the entries and that one, last.
pub parse_last : (limit : ℕ) (s : List ℕ) (es : List Entry) (e : Entry) → parse limit s 0 ≡ sound es
    → WellFormed limit e
    → parse limit (s ++ entry_bytes limit e) 0 ≡ sound (es ++ (e ∷ []))
unfolding list_bytes AllWellFormed
parse_last limit s es e h f =
    let m = (sound_exactly limit s es).0 h in
    let w : list_bytes limit (es ++ (e ∷ [])) ≡ s ++ entry_bytes limit e =
    wire_append limit es (e ∷ []) ∙ ap (λ (l : List ℕ). l ++ (entry_bytes limit e ++ [])) m.0
    ∙ ap (λ (l : List ℕ). s ++ l) (append-nil (entry_bytes limit e)) in
    (sound_exactly limit (s ++ entry_bytes limit e) (es ++ (e ∷ []))).1
    (w, formed_append limit es (e ∷ []) m.1 (f, tt))

-- Those before are found as they were.
pub nth_earlier : (limit at : ℕ) (es fs : List Entry) (n : ℕ) → n < length es
    → nth_of limit at (es ++ fs) n ≡ nth_of limit at es n
unfolding nth_of
nth_earlier limit at [] fs n h = absurd (omega arith)
nth_earlier limit at (e ∷ es) fs zero h = refl
nth_earlier limit at (e ∷ es) fs (suc n) h = nth_earlier limit (at + length (entry_bytes limit e)) es fs n (omega arith)

-- An entry's data stands after the bytes of those before it and its own byte and count.
pub nth_at : (limit at : ℕ) (before : List Entry) (e : Entry) (rest : List Entry)
    → nth_of limit at (before ++ (e ∷ rest)) (length before)
    ≡ result (found e.byte (at + length (list_bytes limit before) + head_of limit e.byte) (length e.body))
unfolding nth_of list_bytes
nth_at limit at [] e rest =
    ap (λ (n : ℕ). result (found e.byte (n + head_of limit e.byte) (length e.body))) (sym (add-zero at))
nth_at limit at (d ∷ before) e rest =
    nth_at limit (at + length (entry_bytes limit d)) before e rest
    ∙ ap (λ (n : ℕ). result (found e.byte (n + head_of limit e.byte) (length e.body)))
    (add_assoc at (length (entry_bytes limit d)) (length (list_bytes limit before))
    ∙ ap (λ (n : ℕ). at + n) (sym (length-append (entry_bytes limit d) (list_bytes limit before))))

-- An entry's bytes are its byte, its count where it has one, and its data.
pub width_of : (limit : ℕ) (e : Entry) → WellFormed limit e
    → head_of limit e.byte + length e.body ≡ length (entry_bytes limit e)
unfolding entry_bytes
width_of limit e f =
    by_bool (ltb e.byte limit)
    (λ y. simp y (omega arith))
    (λ y. let z : length e.body ≡ 0 = ap length (f (ltb-false e.byte limit y)) in simp y (omega arith))

pub body_at : (limit : ℕ) (p : List ℕ) (e : Entry) (r : List ℕ) → WellFormed limit e
    → take (length e.body) (drop (length p + head_of limit e.byte) (p ++ (entry_bytes limit e ++ r))) ≡ e.body
unfolding entry_bytes
body_at limit p e r f =
    ap (take (length e.body)) (drop-append-add p (entry_bytes limit e ++ r) (head_of limit e.byte))
    ∙ by_bool (ltb e.byte limit)
    (λ y. (simp y) ∙ take_at e.body r (length e.body) refl)
    (λ y. let q : e.body ≡ [] = f (ltb-false e.byte limit y) in
    (simp y) ∙ ap (λ (l : List ℕ). take (length l) r) q ∙ sym q)

pub formed_one : (limit : ℕ) (before : List Entry) (e : Entry) (rest : List Entry)
    → AllWellFormed limit (before ++ (e ∷ rest)) → WellFormed limit e
unfolding AllWellFormed
formed_one limit [] e rest a = a.0
formed_one limit (d ∷ before) e rest a = formed_one limit before e rest a.1

-- The part of the contents that is named is that entry's data; p is what stands before the entries.
pub data_at : (limit : ℕ) (p s : List ℕ) (before : List Entry) (e : Entry) (rest : List Entry)
    → parse limit s 0 ≡ sound (before ++ (e ∷ rest))
    → part_of (p ++ s) (nth_of limit (length p) (before ++ (e ∷ rest)) (length before)) ≡ e.body
unfolding list_bytes
data_at limit p s before e rest h =
    let m = (sound_exactly limit s (before ++ (e ∷ rest))).0 h in
    let q = p ++ list_bytes limit before in
    let w : p ++ s ≡ q ++ (entry_bytes limit e ++ list_bytes limit rest) =
    ap (λ (l : List ℕ). p ++ l) (sym m.0 ∙ wire_append limit before (e ∷ rest))
    ∙ sym (append_assoc p (list_bytes limit before) (entry_bytes limit e ++ list_bytes limit rest)) in
    ap (part_of (p ++ s)) (nth_at limit (length p) before e rest)
    ∙ ap (λ (n : ℕ). take (length e.body) (drop (n + head_of limit e.byte) (p ++ s)))
    (sym (length-append p (list_bytes limit before)))
    ∙ ap (λ (l : List ℕ). take (length e.body) (drop (length q + head_of limit e.byte) l)) w
    ∙ body_at limit q e (list_bytes limit rest) (formed_one limit before e rest m.1)

-- ---- what is found stands within the contents

-- an answer stands within the entries' bytes
nth_within : (limit at : ℕ) (es : List Entry) (n b start len : ℕ) → AllWellFormed limit es
    → nth_of limit at es n ≡ result (found b start len)
    → (at < start) × (start + len ≤ at + length (list_bytes limit es))
unfolding nth_of list_bytes entry_bytes AllWellFormed
nth_within limit at [] n b start len f h = let w : ◌≡◌ {A = ℕ} 0 1 = cc in absurd (omega arith)
nth_within limit at (e ∷ es) zero b start len f h =
    by_bool (ltb e.byte limit)
    (λ y. let q : result (found e.byte (at + 2) (length e.body)) ≡ result (found b start len) = simp y at h in
    let i : at + 2 ≡ start = cc in
    let j : length e.body ≡ len = cc in simp y (omega (arith, length-append e.body (list_bytes limit es))))
    (λ y. let q : result (found e.byte (at + 1) (length e.body)) ≡ result (found b start len) = simp y at h in
    let i : at + 1 ≡ start = cc in
    let j : length e.body ≡ len = cc in
    let k : length e.body ≡ 0 = ap length (f.0 (ltb-false e.byte limit y)) in simp y (omega arith))
nth_within limit at (e ∷ es) (suc n) b start len f h =
    let r = nth_within limit (at + length (entry_bytes limit e)) es n b start len f.1 h in
    omega (arith, length-append (entry_bytes limit e) (list_bytes limit es))

-- what is found stands within the contents
pub found_within : (limit at : ℕ) (s : List ℕ) (n b start len : ℕ)
    → nth_in limit at (parse limit (drop at s) 0) n ≡ result (found b start len) → start + len ≤ length s
unfolding nth_in
found_within limit at s n b start len h = case (parse limit (drop at s) 0) refl h
  where
    case : (p : Parsed) → parse limit (drop at s) 0 ≡ p → nth_in limit at p n ≡ result (found b start len)
        → start + len ≤ length s
    case (unsound k) e g = let w : ◌≡◌ {A = ℕ} 0 1 = cc in absurd (omega arith)
    case (sound es) e g =
        let m = parse_means limit (drop at s) 0 es e in
        let r = nth_within limit at es n b start len m.2 g in
        omega (arith, ap length m.1, length-drop at s)

pub within_nth : (limit at : ℕ) (s : List ℕ) (n : ℕ) → InContents s (nth_in limit at (parse limit (drop at s) 0) n)
within_nth limit at s n = case (nth_in limit at (parse limit (drop at s) 0) n) refl
  where
    case : (a : Answer Extent) → nth_in limit at (parse limit (drop at s) 0) n ≡ a → InContents s a
    case (result (found b start len)) e = found_within limit at s n b start len e
    case (refused k) e = tt

pub within_command : (s : List ℕ) (n : ℕ) → InContents s (nth_command s n)
unfolding nth_command
within_command s n = within_nth commands 0 s n

within-shifted : (s : List ℕ) (start len : ℕ) → start + len ≤ length s → (a : Answer Extent)
    → InContents (take len (drop start s)) a → InContents s (shifted start a)
within-shifted s start len h (result (found b at l)) w =
    omega (arith, w, length-take-le len (drop start s) (omega (arith, length-drop start s)))
within-shifted s start len h (refused k) w = tt

within-pick : (s : List ℕ) (t : Bool) (a b : Answer Extent) → InContents s a → InContents s b
    → InContents s (pick t a b)
within-pick s true a b v w = v
within-pick s false a b v w = w

within-inside : (s : List ℕ) (a : Answer Extent) (n : ℕ) → InContents s a → InContents s (inside s a n)
unfolding inside
within-inside s (refused k) n w = tt
within-inside s (result (found b start len)) n w =
    let part = take len (drop start s) in
    within-pick s (is_wrapper b) (shifted start (nth_command part n)) (refused 15)
    (within-shifted s start len w (nth_command part n) (within_command part n)) tt

pub within_nth_inside : (s : List ℕ) (w n : ℕ) → InContents s (nth_inside s w n)
unfolding nth_inside
within_nth_inside s w n = within-inside s (nth_command s w) n (within_command s w)
