-- The entries that a file gives, and how each turn of the loop over them brings it nearer to the whole.
-- Assumes nothing.
use Rattle.std.specs.Prelude.{Option, Some, None}
use Prim.Native.Nat.{ℕ, zero, suc, ◌+◌, ◌-◌, ◌*◌, ◌/◌, ◌≤◌, ◌<◌}
use mathlib.Core.Path.{◌≡◌, refl, sym, ap, ◌∙◌}
use mathlib.Core.Bool.{Bool, true, false, cond}
use mathlib.Core.List.{List, [], ◌∷◌, ◌++◌}
use native.Mathlib.Nat.{sub-zero}
use native.Mathlib.Omega.{arith}
use borrow.Author.Tests.{leb-true}
use borrow.Rule.Slice.PartMut.{mid_of, put_mid}
use lib.Dec.{leb}
use lib.ListN.{length, take, drop, length-append, length-drop}
use lib.Seq.{length-take-le, drop-drop}
use Rattle.slices.specs.Writing.{laid}
use Rattle.slices.proofs.Tails.{laid_at, laid_none, tail-is, wrote as wrote_on}
use Rattle.entries.specs.Entries.{front_of}
use Rattle.entries.proofs.Laws.{front-inside}
use Rattle.house.specs.Fields.{record_bytes}
use Rattle.machine.specs.Table.{contacts}
use Rattle.receiver.specs.Limits.{most_output}
use Rattle.receiver.specs.Receive.{Receives}
use Rattle.receiver.specs.History.{Sent, messages_of, next, answer_to, wrote, after, written}
use Rattle.receiver.specs.declared.Receiver.{Receiver}
use Rattle.receiver.specs.declared.Answer.{Answer}
use Rattle.receiver.proofs.Histories.{a-step-of-the-contract-is-a-step-of-a-history}
use Rattle.receiver.proofs.Records.{records-written, wrote-room, wrote-small, next-long}
use Rattle.intake.specs.declared.Fed.{Fed}
use Rattle.intake.specs.Feeding.{next_in, sent_from, with_entry, fed_from, entry_bytes, answer_numbers, numbers_of, answers_to, Feeds, TakesEntries}

-- ---- the entry at the front

no_part : {P : Type 0} (n : ℕ) → None ≡ Some n → P
no_part n e = absurd (let z : ◌≡◌ {A = ℕ} 0 1 = cc in omega arith)

-- there is room for it, and it is whole
next-front : (least : ℕ) (file : List ℕ) (room n : ℕ) → next_in least file room ≡ Some n → front_of file ≡ Some n
next-front least file room n e = go (leb least room) e
  where
    go : (b : Bool) → cond b (front_of file) None ≡ Some n → front_of file ≡ Some n
    go true e = e
    go false e = no_part n e

pub next-room : (least : ℕ) (file : List ℕ) (room n : ℕ) → next_in least file room ≡ Some n → least ≤ room
next-room least file room n e = go (leb least room) refl e
  where
    go : (b : Bool) → leb least room ≡ b → cond b (front_of file) None ≡ Some n → least ≤ room
    go true k e = leb-true _ _ k
    go false k e = no_part n e

next-inside : (least : ℕ) (file : List ℕ) (room n : ℕ) → next_in least file room ≡ Some n → 2 + n ≤ length file
next-inside least file room n e = front-inside file n (next-front least file room n e)

pub entry-message-long : (file : List ℕ) (n : ℕ) → 2 + n ≤ length file → length (take n (drop 2 file)) ≡ n
entry-message-long file n h = length-take-le n (drop 2 file) (omega (arith, length-drop 2 file))

-- ---- the entries that are fed

pub by_front : (P : List Sent → Type 0) (f : Option ℕ) (more : ℕ → List Sent) → P [] → ((n : ℕ) → f ≡ Some n → P (more n)) → P (with_entry f more)
by_front P (Some n) more none some = some n refl
by_front P None more none some = none

-- as many as there are places at most
pub fed-few : (least k : ℕ) (r : Receiver) (file : List ℕ) (room : ℕ) → length (fed_from least k r file room) ≤ k
unfolding fed_from
fed-few least zero r file room = omega arith
fed-few least (suc k) r file room =
    by_front (λ h. length h ≤ suc k) (next_in least file room) _ (omega arith) λ n e.
    let x = sent_from n file room in
    omega (arith, fed-few least k (next r x) (drop (n + 2) file) (room - length (wrote r x)))

-- what they write lies within the output
pub fed-room : (least k : ℕ) (r : Receiver) (file : List ℕ) (room : ℕ) → length (written r (fed_from least k r file room)) ≤ room
unfolding fed_from written
fed-room least zero r file room = omega arith
fed-room least (suc k) r file room =
    by_front (λ h. length (written r h) ≤ room) (next_in least file room) _ (omega arith) λ n e.
    let x = sent_from n file room in
    rw length-append (omega (arith, fed-room least k (next r x) (drop (n + 2) file) (room - length (wrote r x)), wrote-room r x))

pub answers-long : (r : Receiver) (h : List Sent) → length (answers_to r h) ≡ answer_numbers * length h
unfolding answers_to
answers-long r [] = refl
answers-long r (x ∷ h) = omega (arith, answers-long (next r x) h)

pub fed-none : (least k : ℕ) (r : Receiver) (file : List ℕ) (room : ℕ) → next_in least file room ≡ None → fed_from least k r file room ≡ []
unfolding fed_from
fed-none least zero r file room e = refl
fed-none least (suc k) r file room e = rw e

pub fed-more : (least k : ℕ) (r : Receiver) (file : List ℕ) (room n : ℕ) → next_in least file room ≡ Some n
    → let x : Sent = sent_from n file room in fed_from least (suc k) r file room ≡ x ∷ fed_from least k (next r x) (drop (n + 2) file) (room - length (wrote r x))
unfolding fed_from
fed-more least k r file room n e = rw e

-- ---- what was fed, and what is still to come

-- of the history h, fed to r, what is to come ends as the whole does
pub record Underway (r : Receiver) (h : List Sent) (a₀ o₀ : List ℕ) (f : Fed) (a o : List ℕ) (more : List Sent) : Type 0 where
  pub receiver : after f.receiver more ≡ after r h
  pub entries : f.entries + length more ≡ length h
  pub used : f.used + entry_bytes (messages_of more) ≡ entry_bytes (messages_of h)
  pub records : record_bytes * f.records + length (written f.receiver more) ≡ length (written r h)
  pub answers : laid_at a (answer_numbers * f.entries) (answers_to f.receiver more) ≡ laid a₀ (answers_to r h)
  pub output : laid_at o (record_bytes * f.records) (written f.receiver more) ≡ laid o₀ (written r h)

-- nothing is fed yet
abbrev pub started : Receiver → Fed
started r = record { receiver = r; entries = 0; used = 0; records = 0 }

underway-first : (r : Receiver) (h : List Sent) (a o : List ℕ) → Underway r h a o (started r) a o h
underway-first r h a o =
    record { receiver = refl; entries = omega arith; used = omega arith; records = omega arith; answers = refl; output = refl }

underway-last : (r : Receiver) (h : List Sent) (a₀ o₀ : List ℕ) (f : Fed) (a o : List ℕ) → Underway r h a₀ o₀ f a o [] → Feeds r h f a₀ a o₀ o
unfolding after written answers_to entry_bytes
underway-last r h a₀ o₀ f a o u =
    record {
      receiver = u.receiver;
      entries = omega (arith, u.entries);
      used = omega (arith, u.used);
      records = omega (arith, u.records);
      answers = sym (laid_none a (answer_numbers * f.entries)) ∙ u.answers;
      output = sym (laid_none o (record_bytes * f.records)) ∙ u.output;
    }

-- one more entry, of a message of n bytes: the receiver after it, and its answer
abbrev pub with_entry_of : Fed → ℕ → Receiver → Answer → Fed
with_entry_of f n q b = record { receiver = q; entries = f.entries + 1; used = f.used + 2 + n; records = f.records + b.records }

-- a message of a history, received: the receiver after it, the answer, and what is left of the output
record Step (r : Receiver) (x : Sent) (before : List ℕ) (q : Receiver) (b : Answer) (l : List ℕ) : Type 0 where
  receiver : q ≡ next r x
  answer : b ≡ answer_to r x
  output : l ≡ laid before (wrote r x)

module _ (r : Receiver) (h : List Sent) (a₀ o₀ : List ℕ) (f : Fed) (a o : List ℕ) (x : Sent) (more : List Sent) (u : Underway r h a₀ o₀ f a o (x ∷ more)) (n : ℕ) (q : Receiver) (b : Answer) (l m : List ℕ)
    (k : Step f.receiver x (mid_of (record_bytes * f.records) (length o - record_bytes * f.records) o) q b l)
    (long : length x.message ≡ n)
    (em : m ≡ laid (mid_of (answer_numbers * f.entries) (length a - answer_numbers * f.entries) a) (numbers_of b))
    (room : record_bytes * f.records + length (wrote f.receiver x ++ written (next f.receiver x) more) ≤ length o)
    (list : answer_numbers * f.entries + length (numbers_of b ++ answers_to (next f.receiver x) more) ≤ length a) where
  underway-next : Underway r h a₀ o₀ (with_entry_of f n q b) (put_mid (answer_numbers * f.entries) (length a - answer_numbers * f.entries) a m) (put_mid (record_bytes * f.records) (length o - record_bytes * f.records) o l) more
  unfolding after written answers_to entry_bytes
  underway-next =
      let e : record_bytes * b.records ≡ length (wrote f.receiver x) = ap (λ (c : Answer). record_bytes * c.records) k.answer ∙ records-written f.receiver x in
      let wa = wrote_on a (answer_numbers * f.entries) answer_numbers m (numbers_of b) (answers_to (next f.receiver x) more) em refl list in
      let wo = wrote_on o (record_bytes * f.records) (record_bytes * b.records) l (wrote f.receiver x) (written (next f.receiver x) more) k.output e room in
      let same = ap (λ (c : Answer). laid_at a (answer_numbers * f.entries) (numbers_of c ++ answers_to (next f.receiver x) more)) k.answer in
      let ka : answer_numbers * (f.entries + 1) ≡ answer_numbers * f.entries + answer_numbers = omega arith in
      let ko : record_bytes * (f.records + b.records) ≡ record_bytes * f.records + record_bytes * b.records = omega arith in
      rw k.receiver
      (record {
        receiver = u.receiver;
        entries = omega (arith, u.entries);
        used = omega (arith, u.used, long);
        records = omega (arith, u.records, length-append (wrote f.receiver x) (written (next f.receiver x) more));
        answers = rw ka (wa.same ∙ (same ∙ u.answers));
        output = rw ko (wo.same ∙ u.output);
      })

-- ---- the loop

-- what is still to come of a file, with `long` bytes of output in all
abbrev pub coming : ℕ → ℕ → List ℕ → Fed → ℕ → List Sent
coming least places file f long = fed_from least (places - f.entries) f.receiver (drop f.used file) (long - record_bytes * f.records)

-- where a run stands: all lies within what was lent, and what is to come ends as the whole does
pub record Stands (least : ℕ) (r : Receiver) (file a₀ o₀ : List ℕ) (f : Fed) (a o : List ℕ) : Type 0 where
  pub states : length f.receiver.states ≡ contacts
  pub used : f.used ≤ length file
  pub entries : f.entries ≤ length a₀ / answer_numbers
  pub records : record_bytes * f.records ≤ length o
  pub list : length a ≡ length a₀
  pub long : length o ≡ length o₀
  pub under : Underway r (fed_from least (length a₀ / answer_numbers) r file (length o₀)) a₀ o₀ f a o (coming least (length a₀ / answer_numbers) file f (length o))

pub stands-first : (least : ℕ) (r : Receiver) (file a o : List ℕ) → length r.states ≡ contacts → Stands least r file a o (started r) a o
stands-first least r file a o h =
    record {
      states = h;
      used = omega arith;
      entries = omega arith;
      records = omega arith;
      list = refl;
      long = refl;
      under = simp sub-zero (underway-first r (fed_from least (length a / answer_numbers) r file (length o)) a o);
    }

-- an answer and its records lie within the output, and they are few
pub record Bounded (o : List ℕ) (f : Fed) (b : Answer) : Type 0 where
  pub records : record_bytes * (f.records + b.records) ≤ length o
  pub small : record_bytes * b.records ≤ most_output

module _ (least : ℕ) (r : Receiver) (file a₀ o₀ : List ℕ) (f : Fed) (a o : List ℕ) (s : Stands least r file a₀ o₀ f a o) where
  -- nothing is to come
  stopped : coming least (length a₀ / answer_numbers) file f (length o) ≡ [] → TakesEntries least r file f a₀ a o₀ o
  stopped e =
      let h = fed_from least (length a₀ / answer_numbers) r file (length o₀) in
      record {
        fed = underway-last r h a₀ o₀ f a o (rw e at s.under);
        used = s.used;
        places = omega (arith, s.entries);
        room = omega (arith, s.records, s.long);
      }

  pub stands-last : length a₀ / answer_numbers ≤ f.entries → TakesEntries least r file f a₀ a o₀ o
  unfolding fed_from
  stands-last h =
      let z : length a₀ / answer_numbers - f.entries ≡ 0 = omega (arith, h) in
      stopped (ap (λ (n : ℕ). fed_from least n f.receiver (drop f.used file) (length o - record_bytes * f.records)) z)

  abbrev rest : List ℕ
  rest = mid_of f.used (length file - f.used) file

  abbrev room : ℕ
  room = length o - record_bytes * f.records

  abbrev space : List ℕ
  space = mid_of (record_bytes * f.records) (length o - record_bytes * f.records) o

  space-long : length space ≡ room
  space-long = ap length (tail-is o (record_bytes * f.records)) ∙ length-drop (record_bytes * f.records) o

  at_rest : (p : Option ℕ) → next_in least rest room ≡ p → next_in least (drop f.used file) room ≡ p
  at_rest p e = (λ i. next_in least (sym (tail-is file f.used) i) room) ∙ e

  pub stands-stop : next_in least rest room ≡ None → TakesEntries least r file f a₀ a o₀ o
  stands-stop e = stopped (fed-none least _ f.receiver (drop f.used file) room (at_rest None e))

  -- an entry at the front, of a message of n bytes
  module _ (n : ℕ) (e : next_in least rest room ≡ Some n) where
    pub found_inside : f.used + 2 + n ≤ length file
    found_inside = omega (arith, s.used, next-inside least (drop f.used file) room n (at_rest (Some n) e), length-drop f.used file)

    abbrev message : List ℕ
    message = take (f.used + 2 + n - (f.used + 2)) (drop (f.used + 2) file)

    abbrev x : Sent
    x = sent_from n (drop f.used file) room

    message-is : message ≡ x.message
    message-is = let z : f.used + 2 + n - (f.used + 2) ≡ n = omega arith in λ i. take (z i) (sym (drop-drop 2 f.used file) i)

    x-long : length x.message ≡ n
    x-long = entry-message-long (drop f.used file) n (next-inside least (drop f.used file) room n (at_rest (Some n) e))

    module _ (q : Receiver) (b : Answer) (l : List ℕ) (k : Receives f.receiver message space q b l) where
      step : Step f.receiver x space q b l
      step =
          let h = a-step-of-the-contract-is-a-step-of-a-history f.receiver message space q b l k in
          let same : record { message = message; room = length space } ≡ x = λ i. record { message = message-is i; room = space-long i } in
          record {
            receiver = h.0 ∙ ap (next f.receiver) same;
            answer = h.1 ∙ ap (answer_to f.receiver) same;
            output = h.2 ∙ ap (λ (y : Sent). laid space (wrote f.receiver y)) same;
          }

      count-is : record_bytes * b.records ≡ length (wrote f.receiver x)
      count-is = ap (λ (c : Answer). record_bytes * c.records) step.answer ∙ records-written f.receiver x

      pub bounded : Bounded o f b
      bounded =
          record {
            records = omega (arith, s.records, count-is, wrote-room f.receiver x);
            small = omega (arith, count-is, wrote-small f.receiver s.states x);
          }

      -- its answer, m, is put where the list comes to
      module _ (m : List ℕ) (places : f.entries < length a₀ / answer_numbers)
          (em : m ≡ laid (mid_of (answer_numbers * f.entries) (length a - answer_numbers * f.entries) a) (numbers_of b)) where
        abbrev a' : List ℕ
        a' = put_mid (answer_numbers * f.entries) (length a - answer_numbers * f.entries) a m

        abbrev o' : List ℕ
        o' = put_mid (record_bytes * f.records) (length o - record_bytes * f.records) o l

        abbrev left : ℕ
        left = length a₀ / answer_numbers - (f.entries + 1)

        abbrev more : List Sent
        more = fed_from least left (next f.receiver x) (drop (n + 2) (drop f.used file)) (room - length (wrote f.receiver x))

        came : coming least (length a₀ / answer_numbers) file f (length o) ≡ x ∷ more
        came =
            let p : length a₀ / answer_numbers - f.entries ≡ suc left = omega (arith, places) in
            ap (λ (j : ℕ). fed_from least j f.receiver (drop f.used file) room) p ∙ fed-more least left f.receiver (drop f.used file) room n (at_rest (Some n) e)

        room-left : record_bytes * f.records + length (wrote f.receiver x ++ written (next f.receiver x) more) ≤ length o
        room-left =
            omega (
              arith,
              s.records,
              wrote-room f.receiver x,
              length-append (wrote f.receiver x) (written (next f.receiver x) more),
              fed-room least left (next f.receiver x) (drop (n + 2) (drop f.used file)) (room - length (wrote f.receiver x)),
            )

        list_left : answer_numbers * f.entries + length (numbers_of b ++ answers_to (next f.receiver x) more) ≤ length a
        list_left =
            omega (
              arith,
              places,
              s.list,
              answers-long (next f.receiver x) more,
              fed-few least left (next f.receiver x) (drop (n + 2) (drop f.used file)) (room - length (wrote f.receiver x)),
            )

        under : Underway r (fed_from least (length a₀ / answer_numbers) r file (length o₀)) a₀ o₀ (with_entry_of f n q b) a' o' more
        under = underway-next r _ a₀ o₀ f a o x more (rw came at s.under) n q b l m step x-long em room-left list_left

        a-long : length a' ≡ length a
        a-long = (wrote_on a (answer_numbers * f.entries) answer_numbers m (numbers_of b) (answers_to (next f.receiver x) more) em refl list_left).long

        o-long : length o' ≡ length o
        o-long = (wrote_on o (record_bytes * f.records) _ l (wrote f.receiver x) (written (next f.receiver x) more) step.output refl room-left).long

        goes_on : more ≡ coming least (length a₀ / answer_numbers) file (with_entry_of f n q b) (length o')
        goes_on =
            let u : f.used + (n + 2) ≡ f.used + 2 + n = omega arith in
            let d : drop (n + 2) (drop f.used file) ≡ drop (f.used + 2 + n) file = drop-drop (n + 2) f.used file ∙ ap (λ (j : ℕ). drop j file) u in
            let z : room - length (wrote f.receiver x) ≡ length o' - record_bytes * (f.records + b.records) = omega (arith, o-long, count-is) in
            λ i. fed_from least left (sym step.receiver i) (d i) (z i)

        pub stands-next : Stands least r file a₀ o₀ (with_entry_of f n q b) a' o'
        stands-next =
            record {
              states = ap (λ (p : Receiver). length p.states) step.receiver ∙ next-long f.receiver s.states x;
              used = found_inside;
              entries = omega (arith, places);
              records = omega (arith, bounded.records, o-long);
              list = a-long ∙ s.list;
              long = o-long ∙ s.long;
              under = rw goes_on at under;
            }
