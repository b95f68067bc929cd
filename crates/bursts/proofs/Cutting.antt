-- A batch that is cut between two entries is two batches: both are accepted, and they come to the same as the one.
-- Assumes nothing.
use Prim.Native.Nat.{ℕ, ◌+◌, ◌-◌, ◌*◌, ◌/◌, ◌≤◌}
use mathlib.Core.Path.{◌≡◌, sym, ap, subst, ◌∙◌}
use mathlib.Core.Bool.{true}
use mathlib.Core.List.{List, ◌++◌}
use native.Mathlib.Nat.{zero-add}
use native.Mathlib.Omega.{arith}
use lib.ListN.{length, take, drop, length-append, length-drop}
use Rattle.paper.specs.Refusals.{none}
use Rattle.slices.specs.Writing.{laid}
use Rattle.slices.proofs.Tails.{laid-length, laid_next}
use Rattle.house.specs.Fields.{record_bytes}
use Rattle.receiver.specs.History.{Sent, after, written}
use Rattle.receiver.specs.declared.Receiver.{Receiver}
use Rattle.intake.specs.Feeding.{answer_numbers, answers_to}
use Rattle.intake.proofs.Taking.{answers-long}
use Rattle.bursts.specs.declared.Batch.{Batch}
use Rattle.bursts.specs.Batch.{messages_in, complete, singly, FeedsAll, ReceivesAll}
use Rattle.bursts.specs.Cutting.{BatchCall, AllowedAll, answers_of, records_of, places_left, output_left, InTwo, AsTwo}
use Rattle.bursts.proofs.Entries.{messages-append, complete-rest, complete-both}
use Rattle.bursts.proofs.Batched.{Batched, batched-both, batched-is}
use Rattle.bursts.proofs.Singly.{singly-length, singly-room, singly-append, after-append, written-append, answers-append}
use Rattle.bursts.proofs.Refusing.{accepted-batch}

-- ---- a write and another where it ended

module _ (d s d₁ : List ℕ) (n : ℕ) (long : length s ≡ n) (room : n ≤ length d) (e : d₁ ≡ laid d s) where
  left-long : length (drop n d₁) ≡ length d - n
  left-long = length-drop n d₁ ∙ (let l = ap length e ∙ laid-length d s 0 (omega (arith, long, room)) in omega (arith, l))

  both-laid : (t d₂ : List ℕ) → d₂ ≡ laid (drop n d₁) t → take n d₁ ++ d₂ ≡ laid d (s ++ t)
  both-laid t d₂ f = rw (f, e) (rw zero-add at (laid_next d s t 0 n long (omega (arith, room))))

-- ---- the first call

-- what stands where the first part of a buffer was fed: how long what it wrote is, and what it left
record First (r : Receiver) (l a₀ o₀ : List ℕ) (c : Batch) (a₁ o₁ : List ℕ) : Type 0 where
  entries : c.entries ≡ length (messages_in l)
  answers : length (answers_to r (singly r (messages_in l) (length o₀))) ≡ answer_numbers * c.entries
  answers-room : answer_numbers * c.entries ≤ length a₀
  records : length (written r (singly r (messages_in l) (length o₀))) ≡ record_bytes * c.records
  records-room : record_bytes * c.records ≤ length o₀
  places-left : length (drop (answer_numbers * c.entries) a₁) ≡ length a₀ - answer_numbers * c.entries
  output-left : length (drop (record_bytes * c.records) o₁) ≡ length o₀ - length (written r (singly r (messages_in l) (length o₀)))

first-fed : (r : Receiver) (l a₀ o₀ : List ℕ) (q : Receiver) (c : Batch) (a₁ o₁ : List ℕ) → FeedsAll r l q c a₀ a₁ o₀ o₁ → length (messages_in l) ≤ length a₀ / answer_numbers
    → First r l a₀ o₀ c a₁ o₁
first-fed r l a₀ o₀ q c a₁ o₁ f few =
    let h : List Sent = singly r (messages_in l) (length o₀) in
    let entries : c.entries ≡ length (messages_in l) = f.fed.entries ∙ singly-length r (messages_in l) (length o₀) in
    let answers : length (answers_to r h) ≡ answer_numbers * c.entries = omega (arith, answers-long r h, f.fed.entries) in
    let answers-room : answer_numbers * c.entries ≤ length a₀ = omega (arith, entries, few) in
    let records : length (written r h) ≡ record_bytes * c.records = sym f.fed.records in
    let records-room : record_bytes * c.records ≤ length o₀ = omega (arith, records, singly-room r l (length o₀)) in
    record {
      entries = entries;
      answers = answers;
      answers-room = answers-room;
      records = records;
      records-room = records-room;
      places-left = left-long a₀ (answers_to r h) a₁ _ answers answers-room f.fed.answers;
      output-left = left-long o₀ (written r h) o₁ _ records records-room f.fed.output ∙ ap (λ (n : ℕ). length o₀ - n) (sym records);
    }

-- ---- the two calls

-- the answer b to the whole buffer, c to its first part and e to the second
module _ (r : Receiver) (l t a₀ o₀ : List ℕ)
    (q : Receiver) (b : Batch) (a o : List ℕ) (one : ReceivesAll r (l ++ t) q b a₀ a o₀ o) (between : complete l ≡ true)
    (q₁ : Receiver) (c : Batch) (a₁ o₁ : List ℕ) (first : ReceivesAll r l q₁ c a₀ a₁ o₀ o₁)
    (q₂ : Receiver) (e : Batch) (a₂ o₂ : List ℕ) (second : ReceivesAll q₁ t q₂ e (drop (answer_numbers * c.entries) a₁) a₂ (drop (record_bytes * c.records) o₁) o₂) where
  messages : length (messages_in (l ++ t)) ≡ length (messages_in l) + length (messages_in t)
  messages = ap length (messages-append l t between) ∙ length-append (messages_in l) (messages_in t)

  -- where the two are accepted, the one is
  joins : c.refusal ≡ none → e.refusal ≡ none → b.refusal ≡ none
  joins k m =
      let x = accepted-batch r l q₁ c a₀ a₁ o₀ o₁ first k in
      let few = (batched-both l (length a₀) x).places in
      let u = first-fed r l a₀ o₀ q₁ c a₁ o₁ (first.fed x) few in
      let y = batched-both t _ (accepted-batch q₁ t q₂ e _ a₂ _ o₂ second m) in
      (one.fed (batched-is (l ++ t) (length a₀) (record { ends = complete-both l t between y.ends; places = omega (arith, messages, few, y.places, u.entries, u.places-left) }))).refusal

  -- and where the one is accepted, the two are
  module _ (accepted : b.refusal ≡ none) where
    whole : Batched (l ++ t) (length a₀)
    whole = batched-both (l ++ t) (length a₀) (accepted-batch r (l ++ t) q b a₀ a o₀ o one accepted)

    fed : FeedsAll r (l ++ t) q b a₀ a o₀ o
    fed = one.fed (batched-is (l ++ t) (length a₀) whole)

    few-first : length (messages_in l) ≤ length a₀ / answer_numbers
    few-first = omega (arith, whole.places, messages)

    fed-first : FeedsAll r l q₁ c a₀ a₁ o₀ o₁
    fed-first = first.fed (batched-is l (length a₀) (record { ends = between; places = few-first }))

    firstly : First r l a₀ o₀ c a₁ o₁
    firstly = first-fed r l a₀ o₀ q₁ c a₁ o₁ fed-first few-first

    fed-second : FeedsAll q₁ t q₂ e (drop (answer_numbers * c.entries) a₁) a₂ (drop (record_bytes * c.records) o₁) o₂
    fed-second =
        second.fed
        (batched-is t _
        (record {
          ends = complete-rest l t between whole.ends;
          places = omega (arith, firstly.places-left, whole.places, messages, firstly.entries);
        }))

    abbrev h : List Sent
    h = singly r (messages_in l) (length o₀)

    abbrev g : List Sent
    g = singly (after r h) (messages_in t) (length o₀ - length (written r h))

    -- the second history is the one that stands behind the first
    second_is : singly q₁ (messages_in t) (length (drop (record_bytes * c.records) o₁)) ≡ g
    second_is i = singly (fed-first.fed.receiver i) (messages_in t) (firstly.output-left i)

    both : singly r (messages_in (l ++ t)) (length o₀) ≡ h ++ g
    both = ap (λ (ms : List (List ℕ)). singly r ms (length o₀)) (messages-append l t between) ∙ singly-append r (messages_in l) (messages_in t) (length o₀)

    same-receiver : q₂ ≡ q
    same-receiver =
        fed-second.fed.receiver
        ∙ ((λ i. after (fed-first.fed.receiver i) (second_is i))
        ∙ sym (fed.fed.receiver ∙ (ap (after r) both ∙ after-append r h g)))

    same_entries : c.entries + e.entries ≡ b.entries
    same_entries =
        omega (
          arith,
          fed.fed.entries,
          fed-first.fed.entries,
          fed-second.fed.entries,
          ap length both,
          ap length second_is,
          length-append h g,
        )

    written-second : written q₁ (singly q₁ (messages_in t) (length (drop (record_bytes * c.records) o₁))) ≡ written (after r h) g
    written-second i = written (fed-first.fed.receiver i) (second_is i)

    written_both : written r (singly r (messages_in (l ++ t)) (length o₀)) ≡ written r h ++ written (after r h) g
    written_both = ap (written r) both ∙ written-append r h g

    same-records : c.records + e.records ≡ b.records
    same-records =
        omega (
          arith,
          fed.fed.records,
          fed-first.fed.records,
          fed-second.fed.records,
          ap length written_both,
          ap length written-second,
          length-append (written r h) (written (after r h) g),
        )

    same-answers : take (answer_numbers * c.entries) a₁ ++ a₂ ≡ a
    same-answers =
        let s : a₂ ≡ laid (drop (answer_numbers * c.entries) a₁) (answers_to (after r h) g) = fed-second.fed.answers ∙ (λ i. laid (drop (answer_numbers * c.entries) a₁) (answers_to (fed-first.fed.receiver i) (second_is i))) in
        both-laid a₀ (answers_to r h) a₁ _ firstly.answers firstly.answers-room fed-first.fed.answers (answers_to (after r h) g) a₂ s
        ∙ sym (fed.fed.answers ∙ ap (laid a₀) (ap (answers_to r) both ∙ answers-append r h g))

    same-output : take (record_bytes * c.records) o₁ ++ o₂ ≡ o
    same-output =
        let s = fed-second.fed.output ∙ ap (laid (drop (record_bytes * c.records) o₁)) written-second in
        both-laid o₀ (written r h) o₁ _ firstly.records firstly.records-room fed-first.fed.output (written (after r h) g) o₂ s
        ∙ sym (fed.fed.output ∙ ap (laid o₀) written_both)

  as-two : AsTwo
      (record { buffer = l ++ t; places = a₀; before = o₀; receiver = q; batch = b; answers = a; after = o })
      (record { buffer = l; places = a₀; before = o₀; receiver = q₁; batch = c; answers = a₁; after = o₁ })
      (record { buffer = t; places = drop (answer_numbers * c.entries) a₁; before = drop (record_bytes * c.records) o₁; receiver = q₂; batch = e; answers = a₂; after = o₂ })
  unfolding answers_of records_of
  as-two =
      record {
        accepted = λ k. ((fed-first k).refusal, (fed-second k).refusal);
        joined = joins;
        same = λ k. record { receiver = same-receiver k; entries = same_entries k; records = same-records k; answers = same-answers k; output = same-output k };
      }

-- ---- "a batch cut between two entries is two batches"

-- a call that was lent these places and this output
lent : (r : Receiver) (k : BatchCall) (a o : List ℕ) → k.places ≡ a → k.before ≡ o → AllowedAll r k → ReceivesAll r k.buffer k.receiver k.batch a k.answers o k.after
lent r k a o ea eo x =
    subst (λ (m : List ℕ). ReceivesAll r k.buffer k.receiver k.batch a k.answers m k.after) eo
    (subst (λ (m : List ℕ). ReceivesAll r k.buffer k.receiver k.batch m k.answers k.before k.after) ea x)

pub a-batch-cut-between-two-entries-is-two-batches : (r : Receiver) (b c d : BatchCall) → InTwo r b c d → AsTwo b c d
unfolding places_left output_left answers_of records_of
a-batch-cut-between-two-entries-is-two-batches r b c d t =
    let one = subst (λ (l : List ℕ). ReceivesAll r l b.receiver b.batch b.places b.answers b.before b.after) t.buffer t.one in
    let first = lent r c b.places b.before t.first_places t.first_output t.first in
    let second = lent c.receiver d (places_left c) (output_left c) t.second_places t.second_output t.second in
    let s = as-two r c.buffer d.buffer b.places b.before _ _ _ _ one t.between _ _ _ _ first _ _ _ _ second in
    record {
      accepted = s.accepted;
      joined = s.joined;
      same = λ k. let u = s.same k in record { receiver = u.receiver; entries = u.entries; records = u.records; answers = u.answers; output = u.output };
    }
