-- The test for contents that stop a workout holds exactly where they are a sound list in which a sound 76 wrapper holds
-- command 13 with data 01 02.
use mathlib.Core.Path.{◌≡◌, refl, ap, ◌∙◌}
use mathlib.Core.Bool.{Bool, true, false, false≢true}
use mathlib.Core.List.{List, [], ◌∷◌}
use Prim.Native.Nat.{ℕ}
use lib.Dec.{eqb}
use borrow.Author.Tests.{eq-eqb, eqb-true}
use Rattle.lists.specs.Choice.{pick, Exactly}
use Rattle.lists.proofs.Cases.{by_bool, both_true}
use Rattle.command.specs.Entries.{Entry, commands, Parsed, unsound, sound, parse}
use Rattle.command.specs.Stop.{any_of, any_in, is_one_two, terminates, stops_within, stops_workout, Among, first, later}
use Rattle.command.specs.Stop.{StopsWorkout}
use Rattle.command.proofs.Table.{sound_list, list_sound}

-- ---- an entry that passes a test

module _ (p : Entry → Bool) where
  any_among : (es : List Entry) → any_of p es ≡ true → (e : Entry) × Among e es × (p e ≡ true)
  unfolding any_of
  any_among [] h = absurd (false≢true h)
  any_among (e ∷ es) h =
      by_bool (p e)
      (λ y. (e, first, y))
      (λ n. let k : (d : Entry) × Among d es × (p d ≡ true) = any_among es (simp n at h) in
      (k.0, later k.1, k.2))

  among_any : {e : Entry} {es : List Entry} → Among e es → p e ≡ true → any_of p es ≡ true
  unfolding any_of
  among_any first y = simp y
  among_any (later {d = d} a) y = let k = among_any a y in simp k (either (p d))
    where
      either : (t : Bool) → pick t true true ≡ true
      either true = refl
      either false = refl

  any_sound : (q : Parsed) → any_in p q ≡ true → (es : List Entry) × (q ≡ sound es) × (any_of p es ≡ true)
  unfolding any_in
  any_sound (unsound at) h = absurd (false≢true h)
  any_sound (sound es) h = (es, refl, h)

  sound_any : (q : Parsed) (es : List Entry) → q ≡ sound es → any_of p es ≡ true → any_in p q ≡ true
  unfolding any_in
  sound_any q es e h = ap (any_in p) e ∙ h

-- ---- command 13 with data 01 02

is_one_two_lem : (s : List ℕ) → is_one_two s ≡ true → s ≡ 0x01 ∷ 0x02 ∷ []
unfolding is_one_two
is_one_two_lem [] h = absurd (false≢true h)
is_one_two_lem (a ∷ []) h = absurd (false≢true h)
is_one_two_lem (a ∷ b ∷ []) h =
    let k = both_true (eqb a 0x01) (eqb b 0x02) h in
    let x : a ≡ 0x01 = eqb-true a 0x01 k.0 in
    let y : b ≡ 0x02 = eqb-true b 0x02 k.1 in
    cc (x, y)
is_one_two_lem (a ∷ b ∷ c ∷ s) h = absurd (false≢true h)

is_terminate : (e : Entry) → terminates e ≡ true → (e.byte ≡ 0x13) × (e.body ≡ 0x01 ∷ 0x02 ∷ [])
unfolding terminates
is_terminate e h =
    let k = both_true (eqb e.byte 0x13) (is_one_two e.body) h in
    (eqb-true e.byte 0x13 k.0, is_one_two_lem e.body k.1)

terminate_is : (e : Entry) → e.byte ≡ 0x13 → e.body ≡ 0x01 ∷ 0x02 ∷ [] → terminates e ≡ true
unfolding terminates is_one_two
terminate_is e p q = simp (eq-eqb e.byte 0x13 p) (ap is_one_two q)

-- ---- the whole

found_stop : (contents : List ℕ) → stops_workout contents ≡ true → StopsWorkout contents
unfolding stops_workout stops_within
found_stop contents h =
    let t = any_sound stops_within (parse commands contents 0) h in
    let w = any_among stops_within t.0 t.2 in
    let k = both_true (eqb w.0.byte 0x76) (any_in terminates (parse commands w.0.body 0)) w.2 in
    let i = any_sound terminates (parse commands w.0.body 0) k.1 in
    let c = any_among terminates i.0 i.2 in
    let d = is_terminate c.0 c.2 in
    record {
      top = t.0;
      is_sound = sound_list commands contents t.0 t.1;
      wrapper = w.0;
      at_top = w.1;
      is_76 = eqb-true w.0.byte 0x76 k.0;
      inner = i.0;
      inner_sound = sound_list commands w.0.body i.0 i.1;
      command = c.0;
      inside = c.1;
      is_13 = d.0;
      data_is = d.1;
    }

stop_found : (contents : List ℕ) → StopsWorkout contents → stops_workout contents ≡ true
unfolding stops_workout stops_within
stop_found contents s =
    let c : any_of terminates s.inner ≡ true =
    among_any terminates s.inside (terminate_is s.command s.is_13 s.data_is) in
    let i : any_in terminates (parse commands s.wrapper.body 0) ≡ true =
    sound_any terminates (parse commands s.wrapper.body 0) s.inner (list_sound s.inner_sound) c in
    let w : stops_within s.wrapper ≡ true = simp (eq-eqb s.wrapper.byte 0x76 s.is_76, i) in
    sound_any stops_within (parse commands contents 0) s.top (list_sound s.is_sound)
    (among_any stops_within s.at_top w)

pub stops_exactly : (contents : List ℕ) → Exactly (stops_workout contents ≡ true) (StopsWorkout contents)
stops_exactly contents = (found_stop contents, stop_found contents)
