-- A label that is given what a receiver writes never answers 14.
-- Assumes nothing.
use Prim.Native.Nat.{ℕ, zero, suc, ◌*◌, ◌≤◌, ◌<◌}
use mathlib.Core.Path.{◌≡◌, refl, sym, ap, subst, ◌∙◌}
use mathlib.Core.Bool.{Bool, true, false, cond}
use mathlib.Core.List.{List, [], ◌∷◌, ◌++◌, map, append_assoc, append-nil}
use native.Mathlib.Omega.{arith}
use borrow.Author.Tests.{eqb-true, eqb-false, leb-false}
use lib.Dec.{eqb, leb}
use lib.ListN.{length, get_or, drop, length-replicate, get_or-replicate}
use Rattle.paper.specs.Refusals.{none, no_room, bad_record}
use Rattle.digits.specs.Digits.{Bytes}
use Rattle.states.specs.Table.{out}
use Rattle.house.specs.Layout.{record_of}
use Rattle.house.specs.declared.Record.{Record}
use Rattle.house.proofs.Front.{record-alone}
use Rattle.well_formed.proofs.WellFormed.{all_none, all_join}
use Rattle.framing.specs.Whole.{FramesWhole, ends}
use Rattle.framing.proofs.Whole.{framed_then}
use Rattle.machine.specs.Table.{Table, contacts, state_at, place_at, origin, resting}
use Rattle.machine.proofs.Table.{resting-state}
use Rattle.stream.specs.Asked.{All}
use Rattle.stream.specs.Path.{at}
use Rattle.receiver.specs.Receive.{fresh}
use Rattle.receiver.specs.History.{table_of, path}
use Rattle.receiver.specs.declared.Receiver.{Receiver}
use Rattle.presses.specs.Buttons.{hit_in}
use Rattle.presses.specs.Choosing.{Choice, fresh_label, records_in, is_taken_from, is_taken, kept_of, chosen_in, numbers_of, refusal_of, Chooses}
use Rattle.presses.specs.declared.Label.{Label}
use Rattle.presses.proofs.Putting.{numbers-long}
use Rattle.presses.proofs.Concluding.{chosen-few}
use Rattle.demands.specs.Histories.{Call as Received, Calls as Receipts, History, last, records_left, all_left}
use Rattle.demands.proofs.Demands.{demand-3, whole-frames}
use Rattle.boats.specs.Calls.{LabelCall, LabelCalls, last_label}
use Rattle.boats.specs.Joined.{heard, Fed, NeverAstray}
use Rattle.boats.proofs.Ids.{all_small}
use Rattle.boats.proofs.Parts.{records-append}
use Rattle.boats.proofs.Taking.{takes, leaves, refuses}
use Rattle.boats.proofs.Following.{Sorted, sorted, path-on, Followed, followed}

-- ---- a history and one call more

abbrev grown : List Received → Received → List Received
grown past c = past ++ (c ∷ [])

calls-then : (r : Receiver) (past : List Received) (c : Received) → Receipts r past → Receipts (last r past) (c ∷ []) → Receipts r (grown past c)
unfolding Receipts last
calls-then r [] c k a = a
calls-then r (d ∷ past) c k a = (k.0, calls-then d.receiver past c k.1 a)

last_then : (r : Receiver) (past : List Received) (c : Received) → last r (grown past c) ≡ c.receiver
unfolding last
last_then r [] c = refl
last_then r (d ∷ past) c = last_then d.receiver past c

left-then : (past : List Received) (c : Received) → all_left (grown past c) ≡ all_left past ++ records_left c
unfolding all_left
left-then [] c = append-nil (records_left c)
left-then (d ∷ past) c = ap (λ (s : List ℕ). records_left d ++ s) (left-then past c) ∙ sym (append_assoc (records_left d) (all_left past) (records_left c))

bytes-then : (past : List Received) (c : Received) → All (λ d. Bytes d.message) past → Bytes c.message → All (λ d. Bytes d.message) (grown past c)
bytes-then [] c b h = (h, tt)
bytes-then (d ∷ past) c b h = (b.0, bytes-then past c b.1 h)

-- a call's own records lead each contact from where the receiver had it to where it has it then
call-path : (past : List Received) (c : Received) → History past → FramesWhole (all_left past) → History (grown past c) → (id : ℕ) → id < contacts
    → let t = table_of (last fresh past) in let u = table_of c.receiver in path id (records_in (records_left c)) (state_at t id) (place_at t id) ≡ at (state_at u id) (place_at u id)
call-path past c k w g id i =
    let t = table_of (last fresh past) in
    sym (path-on id (records_in (all_left past)) (records_in (records_left c)) out origin (state_at t id) (place_at t id) (demand-3.legal past k id i))
    ∙ (ap (λ (rs : List Record). path id rs out origin) (sym (ap records_in (left-then past c) ∙ records-append record_of record-alone (records_left c) (length (records_in (all_left past))) (all_left past) (sorted zero (all_left past) w).many))
    ∙ (demand-3.legal (grown past c) g id i ∙ ap (λ (r : Receiver). at (state_at (table_of r) id) (place_at (table_of r) id)) (last_then fresh past c)))

-- ---- one call of a label

module _ (l : Label) (c : LabelCall) (h : Chooses (hit_in c.buttons) l c.records c.chosen c.before c.after) where
  abbrev kept : Label
  kept = kept_of (hit_in c.buttons) l (records_in c.records)

  abbrev chosen : List Choice
  chosen = chosen_in (hit_in c.buttons) l (records_in c.records)

  abbrev fits : Bool
  fits = leb (length (numbers_of chosen)) (length c.before)

  refused-by : c.chosen.refusal ≡ refusal_of (hit_in c.buttons) l c.records (length c.before)
  refused-by = refuses (hit_in c.buttons) l c.records c.chosen c.before c.after h

  label-by : c.chosen.refusal ≡ none → c.chosen.label ≡ kept
  label-by e = (takes (hit_in c.buttons) l c.records c.chosen c.before c.after h e).label

  unheard-by : c.chosen.refusal ≡ no_room → c.chosen.label ≡ l
  unheard-by e =
      (leaves (hit_in c.buttons) l c.records c.chosen c.before c.after h (ap (λ (n : ℕ). eqb n none) e)).label

  -- records that are taken, with room
  taken-by : is_taken l.states c.records ≡ true → (c.chosen.refusal ≡ no_room → ⊥) → c.chosen.refusal ≡ none
  unfolding refusal_of
  taken-by t n = go fits (refused-by ∙ ap (λ (b : Bool). cond b (cond fits none no_room) bad_record) t)
    where
      go : (b : Bool) → c.chosen.refusal ≡ cond b none no_room → c.chosen.refusal ≡ none
      go true e = e
      go false e = absurd (n e)

  -- more choices than there is room for
  crowded-by : c.chosen.refusal ≡ no_room → length c.before < length (numbers_of chosen)
  unfolding refusal_of
  crowded-by e = go (is_taken l.states c.records) fits refl (sym refused-by ∙ e)
    where
      go : (t b : Bool) → fits ≡ b → cond t (cond b none no_room) bad_record ≡ no_room → length c.before < length (numbers_of chosen)
      go true true k z = absurd (omega (arith, z))
      go true false k z = leb-false _ _ k
      go false b k z = absurd (omega (arith, z))

-- ---- room: a choice for each record at the most

room-enough : (l : Label) (c : LabelCall) → LabelCalls l (c ∷ []) → 2 * length (records_in c.records) ≤ length c.before → c.chosen.refusal ≡ no_room → ⊥
unfolding LabelCalls
room-enough l c k h e =
    omega (arith, crowded-by l c k.0 e, numbers-long (chosen l c k.0), chosen-few (hit_in c.buttons) l (records_in c.records), h)

-- ---- the label follows the receiver

record Following (past : List Received) (l : Label) : Type 0 where
  history : History past
  whole : FramesWhole (all_left past)
  long : length l.states ≡ contacts
  states : (id : ℕ) → id < contacts → get_or l.states id out ≡ state_at (table_of (last fresh past)) id

-- one message more, and its records given to the label
module _ (past : List Received) (l : Label) (f : Following past l) (d : Received) (k : Receipts (last fresh past) (d ∷ [])) (b : Bytes d.message)
    (c : LabelCall) (a : Chooses (hit_in c.buttons) l c.records c.chosen c.before c.after) (e : c.records ≡ records_left d) (r : c.chosen.refusal ≡ no_room → ⊥) where
  history-on : History (grown past d)
  history-on =
      record { calls = calls-then fresh past d f.history.calls k; bytes = bytes-then past d f.history.bytes b }

  written-whole : FramesWhole (records_left d)
  written-whole = whole-frames.receiver past f.history d k b

  given-sorted : Sorted zero c.records
  given-sorted = subst (λ (s : List ℕ). Sorted zero s) (sym e) (sorted zero (records_left d) written-whole)

  given-followed : Followed (hit_in c.buttons) l (records_in c.records) (state_at (table_of d.receiver))
  given-followed =
      followed (hit_in c.buttons) l (records_in c.records) (state_at (table_of d.receiver)) f.long (all_small c.records)
      (λ id i.
      let p = place_at (table_of (last fresh past)) id in
      record {
        start = p;
        stop = place_at (table_of d.receiver) id;
        leads = (λ j. path id (records_in (e j)) (f.states id i j) p) ∙ call-path past d f.history f.whole history-on id i;
      })

  given-taken : is_taken l.states c.records ≡ true
  unfolding is_taken_from
  given-taken = all_join _ _ given-sorted.well (all_join _ _ given-sorted.frames (all_join _ [] given-followed.table all_none))

  accepted : c.chosen.refusal ≡ none
  accepted = taken-by l c a given-taken r

  following-on : Following (grown past d) c.chosen.label
  following-on =
      let m = label-by l c a accepted in
      record {
        history = history-on;
        whole = subst FramesWhole (sym (left-then past d)) (framed_then zero (all_left past) (records_left d) f.whole written-whole);
        long = ap (λ (x : Label). length x.states) m ∙ given-followed.long;
        states = λ id i.
            ap (λ (x : Label). get_or x.states id out) m ∙ (given-followed.states id i ∙ ap (λ (q : Receiver). state_at (table_of q) id) (sym (last_then fresh past d)));
      }

-- two numbers that are not the same
apart : {n : ℕ} (a b : ℕ) → (a ≡ b → ⊥) → n ≡ a → n ≡ b → ⊥
apart a b k e f = k (sym e ∙ f)

-- what is promised of a label that followed a receiver up to here: of calls, and of the messages whose records they are given
record Keeps (past : List Received) (l : Label) (h : List Received) (cs : List LabelCall) : Type 0 where
  taken : All (λ c. c.chosen.refusal ≡ bad_record → ⊥) cs
  follows : (id : ℕ) → id < contacts → get_or (last_label l cs).states id out ≡ state_at (table_of (last (last fresh past) h)) id

abbrev Promised : List LabelCall → Type 0
Promised cs = (past : List Received) (l : Label) → Following past l → (h : List Received) → Receipts (last fresh past) h → All (λ d. Bytes d.message) h
    → LabelCalls l cs → heard cs ≡ map records_left h → Keeps past l h cs

-- no call more: there is no message more
fed-none : Promised []
unfolding heard last last_label
fed-none past l f [] k b a e = record { taken = tt; follows = f.states }
fed-none past l f (d ∷ h) k b a e =
    let z : 0 ≡ suc (length (map records_left h)) = ap length e in
    absurd (omega (arith, z))

-- one call more: it lacked room, or it was given the next message's records
fed-on : (c : LabelCall) (cs : List LabelCall) → Promised cs → Promised (c ∷ cs)
unfolding Receipts LabelCalls heard last last_label
fed-on c cs rest past l f h k b a e = go (eqb c.chosen.refusal no_room) refl h k b e
  where
    go : (lacks : Bool) → eqb c.chosen.refusal no_room ≡ lacks → (h : List Received) → Receipts (last fresh past) h → All (λ d. Bytes d.message) h
        → cond lacks (heard cs) (c.records ∷ heard cs) ≡ map records_left h → Keeps past l h (c ∷ cs)
    go true x h k b e =
        let n : c.chosen.refusal ≡ no_room = eqb-true _ _ x in
        let m = rest past c.chosen.label (subst (Following past) (sym (unheard-by l c a.0 n)) f) h k b a.1 e in
        record { taken = (apart no_room bad_record (λ z. omega (arith, z)) n, m.taken); follows = m.follows }
    go false x [] k b e =
        let z : suc (length (heard cs)) ≡ 0 = ap length e in
        absurd (omega (arith, z))
    go false x (d ∷ h) k b e =
        let one : Receipts (last fresh past) (d ∷ []) = (k.0, tt) in
        let same : c.records ≡ records_left d = ap (λ (y : List (List ℕ)). get_or y 0 []) e in
        let room : c.chosen.refusal ≡ no_room → ⊥ = eqb-false _ _ x in
        let on = following-on past l f d one b.0 c a.0 same room in
        let more = subst (λ (q : Receiver). Receipts q h) (sym (last_then fresh past d)) k.1 in
        let m = rest (grown past d) c.chosen.label on h more b.1 a.1 (ap (λ (y : List (List ℕ)). drop 1 y) e) in
        record {
          taken = (apart none bad_record (λ z. omega (arith, z)) (accepted past l f d one b.0 c a.0 same room), m.taken);
          follows = λ id i. m.follows id i ∙ ap (λ (q : Receiver). state_at (table_of (last q h)) id) (last_then fresh past d);
        }

fed : (cs : List LabelCall) → Promised cs
fed [] = fed-none
fed (c ∷ cs) = fed-on c cs (fed cs)

fresh-table : table_of fresh ≡ resting
unfolding fresh
fresh-table = refl

at_first : Following [] fresh_label
unfolding Receipts all_left last fresh_label
at_first =
    record {
      history = record { calls = tt; bytes = tt };
      whole = ends;
      long = length-replicate contacts out;
      states = λ id i. get_or-replicate contacts id out out i ∙ sym (ap (λ (t : Table). state_at t id) fresh-table ∙ resting-state id);
    }

fed-all : (h : List Received) → History h → (cs : List LabelCall) → LabelCalls fresh_label cs → Fed h cs → Keeps [] fresh_label h cs
unfolding last
fed-all h k cs a e = fed cs [] fresh_label at_first h k.calls k.bytes a e

pub a-label-fed-by-a-receiver : NeverAstray
unfolding last
a-label-fed-by-a-receiver = record { taken = λ h k cs a e. (fed-all h k cs a e).taken; follows = λ h k cs a e. (fed-all h k cs a e).follows; roomy = room-enough }
