-- The theorems of the functions themselves: any call of them, known by nothing but what its contract tells a caller, is
-- answered as document 01's table says, and what a run of calls wrote reads back.
use Prim.Native.Nat.{ℕ, ◌+◌, ◌≤◌, ◌<◌}
use mathlib.Core.Path.{◌≡◌, refl, sym, ap, ◌∙◌, subst}
use mathlib.Core.Bool.{Bool}
use mathlib.Core.List.{List, [], ◌∷◌, ◌++◌, append_assoc, append-nil}
use lib.ListN.{length, take, drop}
use borrow.Author.Tests.{lt-ltb}
use Rattle.std.specs.Prelude.{Result, Ok}
use contract.Lifetimes.{Lfts}
use denote.MutBor.{MutBor}
use denote.Ref.{Bor}
use Rattle.lists.specs.Choice.{Every, Exactly}
use Rattle.lists.specs.Machine.{Ran, ended, call, Answered}
use Rattle.lists.proofs.Cases.{exactly, both_exactly}
use Rattle.lists.proofs.Machines.{ran_every}
use Rattle.answer.specs.Answer.{Answer, result, refused}
use Rattle.answer.specs.Draft.{written_means}
use Rattle.answer.specs.declared.Refusal.{Refusal}
use Rattle.command.specs.Entries.{Entry, entry, items, list_bytes, head_of, Extent, found}
use Rattle.command.specs.Answers.{found_means, part_of}
use Rattle.command.specs.Parts.{StandsAt, start_of}
use Rattle.command.specs.declared.entries.Entry.{Entry as FoundEntry}
use Rattle.command.proofs.Extents.{nth_at}
use Rattle.command.proofs.PartLaws.{stands_as, stands_exactly}
use Rattle.command.proofs.Table.{entry_data}
use Rattle.reply.specs.Status.{status, StatusByte}
use Rattle.reply.specs.Replies.{Reply, reply, reply_in, ReplyOutline, reply_outline, reply_means, nth_item, item_of}
use Rattle.reply.specs.Replies.{reply_answer}
use Rattle.reply.specs.Table.{IsReply, ReplyJudged, ItemJudged, item_refused, absent_item, present_item, ItemData}
use Rattle.reply.specs.Table.{data_of, no_data, StatusWritten, ItemWritten}
use Rattle.reply.specs.declared.Reply.{Reply as ReadReply}
use Rattle.reply.proofs.Table.{is_reply_lem, read_by_table, item_by_table, status_written_by_table}
use Rattle.reply.proofs.Table.{item_written_by_table}
use Rattle.reply.proofs.StatusLaws.{sound_byte}
use Rattle.reply.proofs.ReadsBack.{item_data_is, written_item_reads_back, written_status_reads_back}
use Rattle.reply.proofs.read_reply.Reads as read-reads
use Rattle.reply.proofs.nth_item.Reads as nth-reads
use Rattle.reply.proofs.nth_item_data.Reads as data-reads
use Rattle.reply.proofs.write_status.Reads as status-reads
use Rattle.reply.proofs.write_item.Reads as item-reads

-- ---- a call of each

abbrev pub CalledRead : Lfts 1 → (contents : Bor (List ℕ)) → Result ReadReply Refusal → Type 0
CalledRead κs s r = read-reads.Learnt κs (s, tt) r (s, tt)

abbrev pub CalledNth : Lfts 1 → (contents : Bor (List ℕ)) (n : ℕ) → Result FoundEntry Refusal → Type 0
CalledNth κs s n r = nth-reads.Learnt κs (s, (n, tt)) r (s, (n, tt))

abbrev pub CalledData : Lfts 1 → (contents : Bor (List ℕ)) (n : ℕ) → Bor (List ℕ) → Type 0
CalledData κs s n r = data-reads.Learnt κs (s, (n, tt)) r (s, (n, tt))

-- Of a writer, with the output before and after the call.
abbrev pub CalledStatus : Lfts 1 → ℕ → (out : MutBor (List ℕ)) → Result ℕ Refusal → (last : MutBor (List ℕ)) → Type 0
CalledStatus κs b out r last = status-reads.Learnt κs (b, (out, tt)) r (b, (last, tt))

abbrev pub CalledItem : Lfts 3 → (prior : Bor (List ℕ)) (byte : ℕ) (body : Bor (List ℕ)) (out : MutBor (List ℕ))
    → Result ℕ Refusal → (last : MutBor (List ℕ)) → Type 0
CalledItem κs s b d out r last = item-reads.Learnt κs (s, (b, (d, (out, tt)))) r (s, (b, (d, (last, tt))))

-- ---- exactly when

-- the data that the table gives are the part that the answer names, and start where it says
data_is : {s : List ℕ} {n start : ℕ} {bytes : List ℕ} → ItemData s n start bytes
    → (part_of s (nth_item s n) ≡ bytes) × (start_of (nth_item s n) ≡ start)
data_is (data_of {b = b} {rest = rest} {n = n} {byte = c} {start = start} {len = len} j e) =
    let a = (item_by_table (b ∷ rest) n (result (found c start len))).1 (present_item j e) in (
      ap (part_of (b ∷ rest)) a ∙ ap (λ (x : List ℕ). take len (drop start (b ∷ x))) (sym (append-nil rest))
          ∙ entry_data e (b ∷ []) [] refl,
      ap start_of a,
    )
data_is (no_data {s = s} {n = n} {k = k} j) =
    let a = (item_by_table s n (refused k)).1 j in (ap (part_of s) a, ap start_of a)

-- and it gives some for every number
data_given : (s : List ℕ) (n : ℕ) → (start : ℕ) × (bytes : List ℕ) × ItemData s n start bytes
data_given s n = given ((item_by_table s n (nth_item s n)).0 refl)
  where
    given : {s : List ℕ} {n : ℕ} {a : Answer Extent} → ItemJudged s n a
        → (start : ℕ) × (bytes : List ℕ) × ItemData s n start bytes
    given (item_refused q) = (0, [], no_data (item_refused q))
    given (absent_item q h) = (0, [], no_data (absent_item q h))
    given (present_item {start = start} j e) = (start, e.here.body, data_of j e)

-- `read_reply` gives each answer, a status and the number of items or 4, 8, 7, exactly when the table gives it.
pub read_exactly : (κs : Lfts 1) (s : Bor (List ℕ)) (r : Result ReadReply Refusal) → CalledRead κs s r
    → (a : Answer ReplyOutline)
    → Exactly (reply_means r ≡ a) (ReplyJudged s.now a)
read_exactly κs s r k a = exactly k (read_by_table s.now a)

-- `nth_item` gives each answer, an item with its place or 4, 8, 7, 15, exactly when the table gives it.
pub nth_exactly : (κs : Lfts 1) (s : Bor (List ℕ)) (n : ℕ) (r : Result FoundEntry Refusal) → CalledNth κs s n r
    → (a : Answer Extent)
    → Exactly (found_means r ≡ a) (ItemJudged s.now n a)
nth_exactly κs s n r k a = exactly k (item_by_table s.now n a)

-- `nth_item_data` hands back a part of the contents with these bytes at this index exactly when the table gives them.
pub data_exactly : (κs : Lfts 1) (s : Bor (List ℕ)) (n : ℕ) (r : Bor (List ℕ)) → CalledData κs s n r
    → (start : ℕ) (bytes : List ℕ) → Exactly (StandsAt s r start bytes) (ItemData s.now n start bytes)
data_exactly κs s n r k =
    stands_exactly (ItemData s.now n) (λ start bytes d. stands_as (nth_item s.now n) k (data_is d))
    (data_given s.now n)

-- `write_status` gives each answer, 1 as the length or 8, 1 as refusals, and leaves the output, exactly when the table
-- says so.
pub status_exactly : (κs : Lfts 1) (b : ℕ) (out last : MutBor (List ℕ)) (r : Result ℕ Refusal)
    → CalledStatus κs b out r last
    → (a : Answer ℕ) (o : List ℕ) → Exactly ((written_means r ≡ a) × (last.now ≡ o)) (StatusWritten b out.now a o)
status_exactly κs b out last r k a o = both_exactly k (status_written_by_table b out.now a o)

-- `write_item` gives each answer, a length or 4, 8, 7, 2, 1, and leaves the output, exactly when the table says so.
pub item_exactly : (κs : Lfts 3) (s : Bor (List ℕ)) (b : ℕ) (d : Bor (List ℕ)) (out last : MutBor (List ℕ))
    (r : Result ℕ Refusal) → CalledItem κs s b d out r last → (a : Answer ℕ) (o : List ℕ)
    → Exactly ((written_means r ≡ a) × (last.now ≡ o)) (ItemWritten s.now b d.now out.now a o)
item_exactly κs s b d out last r k a o =
    both_exactly (k.0, k.1.0) (item_written_by_table s.now b d.now out.now a o)

-- ---- what a run of calls wrote

-- A reply that a call of `write_status` with this byte wrote: the first bytes of its output, as many as it answered.
pub data Begun (b : ℕ) : List ℕ → Type 0 where
  begun : (κs : Lfts 1) (out last : MutBor (List ℕ)) (n : ℕ) → CalledStatus κs b out (Ok n) last
      → Begun b (take n last.now)

-- A call of `write_item` that was given the bytes u as the contents so far, and wrote the bytes v, n of them.
pub data Added : (u : List ℕ) → Entry → (n : ℕ) → (v : List ℕ) → Type 0 where
  added : (κs : Lfts 3) (prior body : Bor (List ℕ)) (out last : MutBor (List ℕ)) (b n : ℕ)
      → CalledItem κs prior b body out (Ok n) last
      → Added prior.now (entry b body.now) n (take n last.now)

-- A run: `write_status`, and then `write_item` for each item, each given the bytes that the last one wrote.
abbrev pub Run : ℕ → List Entry → List ℕ → Type 0
Run b es lengths = Answered Added (Begun b) es lengths

-- What is read from bytes that are a reply with this status byte and these items: any call of `read_reply` on them
-- answers the status and the number of the items, any call of `nth_item` the item's byte and where its data stand, any
-- call of `nth_item_data` those data there, and past the last item `nth_item` answers 15.
pub record ReadsBack (b : ℕ) (es : List Entry) (w : List ℕ) : Type 0 where
  pub toggle : Bool
  pub previous : ℕ
  pub state : ℕ
  pub status_is : StatusByte b (status toggle previous state)
  pub reads : (κs : Lfts 1) (s : Bor (List ℕ)) (r : Result ReadReply Refusal) → s.now ≡ w → CalledRead κs s r
      → reply_means r ≡ result (reply_outline toggle previous state (length es))
  pub finds : (before : List Entry) (e : Entry) (after : List Entry) → es ≡ before ++ (e ∷ after)
      → (κs : Lfts 1) (s : Bor (List ℕ)) (r : Result FoundEntry Refusal) → s.now ≡ w → CalledNth κs s (length before) r
      → found_means r ≡ result (found e.byte (1 + length (list_bytes items before) + 2) (length e.body))
  pub hands : (before : List Entry) (e : Entry) (after : List Entry) → es ≡ before ++ (e ∷ after)
      → (κs : Lfts 1) (s r : Bor (List ℕ)) → s.now ≡ w → CalledData κs s (length before) r
      → StandsAt s r (1 + length (list_bytes items before) + 2) e.body
  pub ends : (n : ℕ) → length es ≤ n → (κs : Lfts 1) (s : Bor (List ℕ)) (r : Result FoundEntry Refusal)
      → s.now ≡ w → CalledNth κs s n r
      → found_means r ≡ refused 15

begun_is : {b : ℕ} {w : List ℕ} → Begun b w
    → (t : Bool) × (p : ℕ) × (x : ℕ) × StatusByte b (status t p x) × (reply_in w ≡ result (reply t p x []))
begun_is {b} (begun κs out last n k) =
    let r = written_status_reads_back b out.now n (sym k.0) in
    let e = ap (λ (o : List ℕ). reply_in (take n o)) k.1 in
    (r.0, r.1, r.2, sound_byte b (status r.0 r.1 r.2) r.3, e ∙ r.4)

added_is : {u v : List ℕ} {e : Entry} {n : ℕ} → Added u e n v → (t : Bool) (p x : ℕ) (fs : List Entry)
    → reply_in u ≡ result (reply t p x fs) → reply_in v ≡ result (reply t p x (fs ++ (e ∷ [])))
added_is (added κs prior body out last b n k) t p x fs h =
    let q = written_item_reads_back prior.now b body.now out.now n k.1.1 (sym k.0) in
    let i : result (reply t p x fs) ≡ result (reply q.0 q.1 q.2 q.3) = sym h ∙ q.4 in
    let j : result (reply q.0 q.1 q.2 (q.3 ++ (entry b body.now ∷ [])))
    ≡ result (reply t p x (fs ++ (entry b body.now ∷ []))) = cc in
    ap (λ (o : List ℕ). reply_in (take n o)) k.1.0 ∙ q.5 ∙ j

all_added : {u w : List ℕ} {es : List Entry} {ns : List ℕ} → Ran Added u es ns w
    → (t : Bool) (p x : ℕ) (fs : List Entry) → reply_in u ≡ result (reply t p x fs)
    → reply_in w ≡ result (reply t p x (fs ++ es))
all_added ended t p x fs h = h ∙ ap (λ (gs : List Entry). result (reply t p x gs)) (sym (append-nil fs))
all_added (call u v e n {calls = es} k rest) t p x fs h =
    all_added rest t p x (fs ++ (e ∷ [])) (added_is k t p x fs h)
    ∙ ap (λ (gs : List Entry). result (reply t p x gs)) (append_assoc fs (e ∷ []) es)

-- Items that are added to any reply stand after those that it has, in order, under the same status.
pub added_last : {u w : List ℕ} {es : List Entry} {ns : List ℕ} → Ran Added u es ns w → (t : Bool) (p x : ℕ)
    (fs : List Entry) → IsReply u (reply t p x fs) → IsReply w (reply t p x (fs ++ es))
added_last {u} {w} {es} k t p x fs j =
    (is_reply_lem w (reply t p x (fs ++ es))).0 (all_added k t p x fs ((is_reply_lem u (reply t p x fs)).1 j))

added_byte : (u v : List ℕ) (e : Entry) (n : ℕ) → Added u e n v → e.byte < 256
added_byte u v e n (added κs prior body out last b m k) = k.1.1

every_mid : (P : Entry → Type 0) (before : List Entry) (e : Entry) (after : List Entry)
    → Every P (before ++ (e ∷ after)) → P e
every_mid P [] e after a = a.0
every_mid P (d ∷ before) e after a = every_mid P before e after a.1

-- the n-th item of a reply whose items have bytes
nth_of : (w : List ℕ) (t : Bool) (p x : ℕ) (before : List Entry) (e : Entry) (after : List Entry)
    → reply_in w ≡ result (reply t p x (before ++ (e ∷ after))) → e.byte < 256
    → nth_item w (length before)
    ≡ result (found e.byte (1 + length (list_bytes items before) + 2) (length e.body))
unfolding item_of
nth_of w t p x before e after h l =
    let two : head_of items e.byte ≡ 2 = simp (lt-ltb e.byte 256 l) in
    ap (λ (a : Answer Reply). item_of a (length before)) h ∙ nth_at items 1 before e after
    ∙ ap (λ (k : ℕ). result (found e.byte (1 + length (list_bytes items before) + k) (length e.body))) two

reads_back : (b : ℕ) (es : List Entry) (w : List ℕ) (t : Bool) (p x : ℕ) → StatusByte b (status t p x)
    → reply_in w ≡ result (reply t p x es) → Every (λ e. e.byte < 256) es → ReadsBack b es w
unfolding reply_answer
reads_back b es w t p x j h bytes =
    record {
      toggle = t;
      previous = p;
      state = x;
      status_is = j;
      reads = λ κs s r q c. c ∙ ap (λ (l : List ℕ). reply_answer (reply_in l)) q ∙ ap reply_answer h;
      finds = λ before e after q κs s r i c.
          c ∙ ap (λ (l : List ℕ). nth_item l (length before)) i ∙ at before e after q;
      hands = λ before e after q κs s r i c.
          let a : nth_item s.now (length before)
          ≡ result (found e.byte (1 + length (list_bytes items before) + 2) (length e.body)) =
          ap (λ (l : List ℕ). nth_item l (length before)) i ∙ at before e after q in
          let d : part_of s.now (nth_item s.now (length before)) ≡ e.body =
          ap (λ (l : List ℕ). part_of l (nth_item l (length before))) i
          ∙ item_data_is w t p x before e after (whole before e after q) in
          stands_as (nth_item s.now (length before)) c (d, ap start_of a);
      ends = λ n k κs s r i c.
          c ∙ ap (λ (l : List ℕ). nth_item l n) i
          ∙ (item_by_table w n (refused 15)).1 (absent_item ((is_reply_lem w (reply t p x es)).0 h) k);
    }
  where
    whole : (before : List Entry) (e : Entry) (after : List Entry) → es ≡ before ++ (e ∷ after)
        → reply_in w ≡ result (reply t p x (before ++ (e ∷ after)))
    whole before e after q = h ∙ ap (λ (gs : List Entry). result (reply t p x gs)) q

    at : (before : List Entry) (e : Entry) (after : List Entry) → es ≡ before ++ (e ∷ after)
        → nth_item w (length before)
        ≡ result (found e.byte (1 + length (list_bytes items before) + 2) (length e.body))
    at before e after q =
        nth_of w t p x before e after (whole before e after q)
        (every_mid (λ d. d.byte < 256) before e after (subst (Every (λ d. d.byte < 256)) q bytes))

-- What a run wrote reads back: the status, the number of the items, and each item in order.
pub all_read_back : (b : ℕ) (es : List Entry) (ns : List ℕ) (k : Run b es ns) → ReadsBack b es k.last
all_read_back b es ns k =
    let g = begun_is k.made in
    reads_back b es k.last g.0 g.1 g.2 g.3 (all_added k.ran g.0 g.1 g.2 [] g.4)
    (ran_every Added (λ e. e.byte < 256) added_byte k.ran)
