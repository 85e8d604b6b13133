-- Any number of moves of a command cursor: its answers are those of the calls for the n-th command.
use Prim.Native.Nat.{ℕ, zero, suc, ◌+◌, ◌≤◌}
use mathlib.Core.Path.{◌≡◌, refl, sym, ap, ◌∙◌, subst}
use mathlib.Core.Bool.{Bool, true}
use mathlib.Core.List.{List, [], ◌∷◌, ◌++◌, append-nil}
use native.Mathlib.Nat.{add-zero}
use native.Mathlib.Omega.{arith}
use lib.ListN.{length, take, drop, length-append, length-drop, drop_of_length-le}
use lib.Seq.{take-take, drop-drop, length-take-le}
use Rattle.lists.specs.Choice.{pick}
use Rattle.command.specs.Entries.{Entry, commands, entry_bytes, list_bytes, Parsed, unsound, sound, parse, found}
use Rattle.command.specs.Entries.{nth_of, nth_in, Extent}
use Rattle.answer.specs.Answer.{Answer, result, refused}
use Rattle.command.specs.Answers.{part_of, InContents}
use Rattle.command.specs.Commands.{is_wrapper, nth_command, shifted, inside, nth_inside}
use Rattle.command.specs.Traversal.{command_at, index_past, index_after, index_of}
use Rattle.command.proofs.CursorMoves.{nth_from, one_past, next_from}
use Rattle.command.proofs.Extents.{within_command}
use Rattle.command.proofs.Sound.{sound_exactly}

-- ---- the k-th step

kth_from : (s : List ℕ) (k at : ℕ) → command_at s (index_of s k at) ≡ nth_from s at k
unfolding command_at index_of
kth_from s zero at = refl
kth_from s (suc k) at = kth_from s k (index_after s at) ∙ next_from s at k

-- After k moves a new cursor answers as the call with n = k does, for every contents and every k.
pub kth_step : (s : List ℕ) (k : ℕ) → command_at s (index_of s k 0) ≡ nth_command s k
unfolding nth_command
kth_step s k = kth_from s k 0

-- Its data is that call's data.
pub kth_data : (s : List ℕ) (k : ℕ) → part_of s (command_at s (index_of s k 0)) ≡ part_of s (nth_command s k)
kth_data s k = ap (part_of s) (kth_step s k)

-- ---- where the cursor stands

index_from : (s : List ℕ) (at : ℕ) (before rest : List Entry) → parse commands (drop at s) 0 ≡ sound (before ++ rest)
    → index_of s (length before) at ≡ at + length (list_bytes commands before)
unfolding index_of list_bytes
index_from s at [] rest h = sym (add-zero at)
index_from s at (e ∷ before) rest h =
    let o = one_past s at e (before ++ rest) h in
    index_from s (index_after s at) before rest o.1
    ∙ omega (arith, o.0, length-append (entry_bytes commands e) (list_bytes commands before))

-- Moved past the first commands of a sound list, a new cursor stands after their bytes.
pub kth_index : (s : List ℕ) (before rest : List Entry) → parse commands s 0 ≡ sound (before ++ rest)
    → index_of s (length before) 0 ≡ length (list_bytes commands before)
kth_index s before rest h = index_from s 0 before rest h ∙ omega arith

moves_add : (s : List ℕ) (j k at : ℕ) → index_of s (j + k) at ≡ index_of s k (index_of s j at)
unfolding index_of
moves_add s zero k at = let z : 0 + k ≡ k = omega arith in ap (λ (n : ℕ). index_of s n at) z
moves_add s (suc j) k at =
    let z : suc j + k ≡ suc (j + k) = omega arith in
    ap (λ (n : ℕ). index_of s n at) z ∙ moves_add s j k (index_after s at)

-- one move more
pub index_more : (s : List ℕ) (k at : ℕ) → index_of s (suc k) at ≡ index_after s (index_of s k at)
unfolding index_of
index_more s k at =
    let one : suc k ≡ k + 1 = omega arith in ap (λ (n : ℕ). index_of s n at) one ∙ moves_add s k 1 at

-- ---- refusals

-- A cursor whose command is refused stays where it is, however often it is moved, and so it answers the same.
pub refused_stays : (s : List ℕ) (at n : ℕ) → command_at s at ≡ refused n → (k : ℕ) → index_of s k at ≡ at
unfolding index_of index_after
refused_stays s at n h zero = refl
refused_stays s at n h (suc k) = ap (λ (a : Answer Extent). index_of s k (index_past at a)) h ∙ refused_stays s at n h k

-- An index at the end or past it has no command: 15.
pub none_past_end : (s : List ℕ) (at : ℕ) → length s ≤ at → command_at s at ≡ refused 15
unfolding command_at nth_in nth_of parse
none_past_end s at h = ap (λ (l : List ℕ). nth_in commands at (parse commands l 0) 0) (drop_of_length-le s h)

-- Moved past the last command of a sound list, a new cursor stands at the end and answers 15, however often it is
-- moved.
pub end_always : (s : List ℕ) (es : List Entry) → parse commands s 0 ≡ sound es → (k : ℕ)
    → (index_of s (length es + k) 0 ≡ length s) × (command_at s (index_of s (length es + k) 0) ≡ refused 15)
end_always s es h k =
    let w = ap length ((sound_exactly commands s es).0 h).0 in
    let last = kth_index s es [] (h ∙ ap sound (sym (append-nil es))) ∙ w in
    let none = none_past_end s (length s) (omega arith) in
    let stands : index_of s (length es + k) 0 ≡ length s =
    moves_add s (length es) k 0 ∙ ap (index_of s k) last ∙ refused_stays s (length s) 15 none k in
    (stands, ap (command_at s) stands ∙ none)

-- On an unsound list a new cursor answers 7 and stays at the start, however often it is moved.
pub unsound_always : (s : List ℕ) (at : ℕ) → parse commands s 0 ≡ unsound at → (k : ℕ)
    → (index_of s k 0 ≡ 0) × (command_at s (index_of s k 0) ≡ refused 7)
unfolding nth_command nth_in index_of
unsound_always s at h k =
    let seven : (n : ℕ) → command_at s (index_of s n 0) ≡ refused 7 =
    λ n. kth_step s n ∙ ap (λ (p : Parsed). nth_in commands 0 p n) h in
    (refused_stays s 0 7 (seven 0) k, seven k)

-- ---- in a wrapper

-- A new cursor on a wrapper's data answers as the call inside the wrapper does, with indices that count from the data's
-- start.
pub kth_inside : (s : List ℕ) (w k b start len : ℕ) → nth_command s w ≡ result (found b start len) → is_wrapper b ≡ true
    → nth_inside s w k ≡ shifted start (command_at (part_of s (nth_command s w)) (index_of (part_of s (nth_command s w)) k 0))
unfolding nth_inside inside
kth_inside s w k b start len e y =
    let part = part_of s (nth_command s w) in
    let l : take len (drop start s) ≡ part = sym (ap (part_of s) e) in
    ap (λ (a : Answer Extent). inside s a k) e
    ∙ ap (λ (t : Bool). pick t (shifted start (nth_command (take len (drop start s)) k)) (refused 15)) y
    ∙ ap (λ (x : List ℕ). shifted start (nth_command x k)) l ∙ ap (shifted start) (sym (kth_step part k))

part_of_part : (at l len : ℕ) (s : List ℕ) → at + l ≤ len → take l (drop at (take len s)) ≡ take l (drop at s)
part_of_part zero l len s h = take-take l len s (omega arith)
part_of_part (suc at) l zero s h = absurd (omega arith)
part_of_part (suc at) l (suc len) [] h = refl
part_of_part (suc at) l (suc len) (x ∷ s) h = part_of_part at l len s (omega arith)

part_shifted : (s : List ℕ) (start len : ℕ) → start + len ≤ length s → (part : List ℕ) → part ≡ take len (drop start s)
    → (a : Answer Extent) → InContents part a → part_of part a ≡ part_of s (shifted start a)
part_shifted s start len h part d (refused k) w = refl
part_shifted s start len h part d (result (found b at l)) w =
    let n : length part ≡ len = ap length d ∙ length-take-le len (drop start s) (omega (arith, length-drop start s)) in
    ap (λ (x : List ℕ). take l (drop at x)) d ∙ part_of_part at l len (drop start s) (omega arith)
    ∙ ap (take l) (drop-drop at start s)

-- Its data is that call's data, the same part of the whole contents.
pub kth_inside_data : (s : List ℕ) (w k b start len : ℕ) → nth_command s w ≡ result (found b start len)
    → is_wrapper b ≡ true
    → part_of (part_of s (nth_command s w))
    (command_at (part_of s (nth_command s w)) (index_of (part_of s (nth_command s w)) k 0)) ≡ part_of s (nth_inside s w k)
kth_inside_data s w k b start len e y =
    let part = part_of s (nth_command s w) in
    let answer = command_at part (index_of part k 0) in
    let fits : start + len ≤ length s = subst (InContents s) e (within_command s w) in
    part_shifted s start len fits part (ap (part_of s) e) answer
    (subst (InContents part) (sym (kth_step part k)) (within_command part k))
    ∙ sym (ap (part_of s) (kth_inside s w k b start len e y))
