-- A second instance, so that demand 3 over one stream is seen to be of no message in particular: contacts, records, a state table and rules that
-- no document has. A touch is down or not, one at a time, of the ids below 16; its record has other widths.
-- Assumes nothing.
use Prim.Native.Nat.{ℕ, ◌%◌, ◌^◌, ◌≤◌, ◌<◌}
use mathlib.Core.Path.{◌≡◌, refl, ap, ◌∙◌}
use mathlib.Core.Bool.{Bool, true, false, cond}
use mathlib.Core.List.{List, [], ◌∷◌, ◌++◌}
use native.Mathlib.Nat.{mod-eq_of_lt}
use native.Mathlib.Omega.{arith}
use borrow.Author.Tests.{le-leb, ne_eqb}
use lib.Dec.{eqb, ltb, leb, lit<}
use lib.IntN.{ℤ}
use lib.ListN.{length, take}
use Rattle.states.specs.Table.{out, engaged, illegal}
use Rattle.house.specs.Fields.{Field, field, record_bytes, packed, unpacked, value_at}
use Rattle.house.specs.Twos.{Holds, twos_of, of_twos}
use Rattle.house.specs.Fits.{HeadFits}
use Rattle.house.specs.Layout.{signed, head_bytes, kind_of, head as head_kind}
use Rattle.house.specs.declared.Head.{Head}
use Rattle.house.specs.declared.Point.{Point}
use Rattle.house.proofs.Fields.{field_fit, length-packed, unpacked-packed}
use Rattle.house.proofs.Twos.{twos-lt, of-twos}
use Rattle.house.proofs.Round.{length-head, kind-head}
use Rattle.house.proofs.Front.{front-is, front_long}
use Rattle.framing.specs.Frame.{Frame}
use Rattle.house.specs.Records.{records_in}
use Rattle.well_formed.proofs.WellFormed.{never}
use Rattle.machine.specs.Table.{Table, contacts, state_at, place_at, origin, resting, active}
use Rattle.machine.specs.Rules.{View}
use Rattle.machine.specs.Held.{is_held}
use Rattle.machine.specs.Machine.{running_with, cancel_flags}
use Rattle.machine.proofs.Held.{nobody-length}
use Rattle.stream.specs.Stream.{Profile, Stream, Given, opens, Unopened, Silent, NoneActive, rested, machine_at, after, written, AsRested}
use Rattle.stream.specs.Set.{InSet, log}
use Rattle.stream.specs.Path.{Seen, head, contact, refused, path, at}
use Rattle.stream.specs.Asked.{TableLaw, Laws, All, FrameFits, AllProper}
use Rattle.stream.proofs.Steadiness.{resting-steady}
use Rattle.stream.proofs.Kept.{Kept}
use Rattle.stream.proofs.Demand.{each-contact's-records-are-a-legal-path, from-an-opening-frame-as-if-rested, a-silent-stream-writes-nothing-until-an-opening-frame}
use Rattle.stream.proofs.Set.{the-set-is-the-sentence}

-- ---- contacts and their records

record Tap : Type 0 where
  id : ℕ
  flags : ℕ
  place : Point

-- kind (2), flags (6), id (8), x (20), y (20), 112 zeros
abbrev tap_fields : ℕ → Tap → List Field
tap_fields kind c = field 2 kind ∷ field 6 c.flags ∷ field 8 c.id ∷ signed 20 c.place.x ∷ signed 20 c.place.y ∷ field 112 0 ∷ []

abbrev tap_widths : List ℕ
tap_widths = 2 ∷ 6 ∷ 8 ∷ 20 ∷ 20 ∷ 112 ∷ []

abbrev shown : ℕ → List Field → Seen
shown kind fs = contact kind (value_at 1 fs) (value_at 2 fs) (record { x = of_twos 20 (value_at 3 fs); y = of_twos 20 (value_at 4 fs) })

tap_bytes : ℕ → Tap → List ℕ
tap_bytes kind c = packed (tap_fields kind c)

tap_seen : List ℕ → Seen
tap_seen l =
    let s : List ℕ = take record_bytes l in
    cond (leb record_bytes (length l)) (cond (eqb (kind_of s) head_kind) head (shown (kind_of s) (unpacked tap_widths s))) refused

-- ---- the state table, and what a stream goes by

abbrev leads : Bool → Bool → Bool → ℕ → ℕ
leads down on up s =
    cond down (cond (eqb s out) engaged illegal)
    (cond on (cond (eqb s engaged) engaged illegal)
    (cond up (cond (eqb s engaged) out illegal) illegal))

tap_next : ℕ → ℕ → ℕ
tap_next f s = leads (eqb f 0x19) (eqb f 0x1A) (cond (eqb f 0x04) true (eqb f 0x24)) s

abbrev tap_view : View Tap
tap_view = record { id = λ c. c.id; flags = λ c. c.flags; place = λ c. c.place; bare = λ f i p. record { id = i; flags = f; place = p }; bytes = tap_bytes }

abbrev taps : Profile Unit Tap
taps = record { view = tap_view; rules = λ x. record { next = tap_next; most = 1; passes = λ c. ltb c.id 16 }; untimed = λ x. false }

-- ---- what is asked of the table

data Live : ℕ → Type 0 where
  rests : Live out
  down : Live engaged

from_out : (a b c : Bool) → (leads a b c out ≡ illegal → ⊥) → Live (leads a b c out)
from_out true b c n = down
from_out false true c n = absurd (n refl)
from_out false false true n = absurd (n refl)
from_out false false false n = absurd (n refl)

from-engaged : (a b c : Bool) → (leads a b c engaged ≡ illegal → ⊥) → Live (leads a b c engaged)
from-engaged true b c n = absurd (n refl)
from-engaged false true c n = down
from-engaged false false true n = rests
from-engaged false false false n = absurd (n refl)

tap-step : (f s : ℕ) → Live s → (tap_next f s ≡ illegal → ⊥) → Live (tap_next f s)
unfolding tap_next
tap-step f s rests n = from_out (eqb f 0x19) (eqb f 0x1A) (cond (eqb f 0x04) true (eqb f 0x24)) n
tap-step f s down n = from-engaged (eqb f 0x19) (eqb f 0x1A) (cond (eqb f 0x04) true (eqb f 0x24)) n

tap-cancel : (s : ℕ) → Live s → active s ≡ true → tap_next (cancel_flags s) s ≡ out
unfolding tap_next
tap-cancel s rests a = never a refl
tap-cancel s down a = refl

no-hover : (s : ℕ) → Live s → s ≡ 1 → ⊥
no-hover s rests e = omega (arith, e)
no-hover s down e = omega (arith, e)

tap-table : TableLaw tap_next Live
tap-table = record { start = rests; step = tap-step; cancel = tap-cancel; dismiss = λ l. absurd (no-hover 1 l refl) }

-- ---- what is asked of the records

record Near (p : Point) : Type 0 where
  x : Holds 20 p.x
  y : Holds 20 p.y

record TapFits (c : Tap) : Type 0 where
  flags : c.flags < 64
  id : c.id < contacts
  place : Near c.place

tap-fields : (kind : ℕ) (c : Tap) → unpacked tap_widths (tap_bytes kind c) ≡ tap_fields kind c
unfolding tap_bytes
tap-fields kind c =
    unpacked-packed (tap_fields kind c)
    (field_fit 2 kind, (field_fit 6 c.flags, (field_fit 8 c.id, (field_fit 20 (twos_of 20 c.place.x), (field_fit 20 (twos_of 20 c.place.y), (field_fit 112 0, tt))))))
    refl

kind-first : (s : List ℕ) → kind_of s ≡ value_at 0 (unpacked tap_widths s)
unfolding unpacked kind_of
kind-first s = refl

tap-kind : (kind : ℕ) (c : Tap) → kind < 4 → kind_of (tap_bytes kind c) ≡ kind
tap-kind kind c h = kind-first (tap_bytes kind c) ∙ ap (value_at 0) (tap-fields kind c) ∙ mod-eq_of_lt h

signed_back : (z : ℤ) → Holds 20 z → of_twos 20 (twos_of 20 z % 2 ^ 20) ≡ z
signed_back z h = ap (of_twos 20) (mod-eq_of_lt (twos-lt 20 z)) ∙ of-twos 19 z h

tap-shown : (kind : ℕ) (c : Tap) → TapFits c → shown kind (tap_fields kind c) ≡ contact kind c.flags c.id c.place
tap-shown kind c f =
    λ i. contact kind (mod-eq_of_lt f.flags i) (mod-eq_of_lt f.id i) (record { x = signed_back c.place.x f.place.x i; y = signed_back c.place.y f.place.y i })

tap-long : (kind : ℕ) (c : Tap) → length (tap_bytes kind c) ≡ record_bytes
unfolding tap_bytes
tap-long kind c = length-packed (tap_fields kind c)

tap-head : (h : Head) (rest : List ℕ) → HeadFits h → tap_seen (head_bytes h ++ rest) ≡ head
unfolding tap_seen
tap-head h rest f = rw (le-leb _ _ (front_long (head_bytes h) rest (length-head h)), front-is (head_bytes h) rest (length-head h), kind-head h)

tap-contact : (kind : ℕ) (c : Tap) (rest : List ℕ) → 1 ≤ kind → kind < 4 → TapFits c → tap_seen (tap_bytes kind c ++ rest) ≡ contact kind c.flags c.id c.place
unfolding tap_seen
tap-contact kind c rest l h f =
    rw (le-leb _ _ (front_long (tap_bytes kind c) rest (tap-long kind c)), front-is (tap_bytes kind c) rest (tap-long kind c), tap-kind kind c h, ne_eqb kind 0 (λ z. omega arith), tap-fields kind c)
    (tap-shown kind c f)

tap-law : Laws taps tap_next tap_seen (λ x. x) Live TapFits Near
tap-law =
    record {
      one_table = λ x. refl;
      steps = tap-table;
      records = record {
        long = tap-long;
        head_seen = tap-head;
        contact_seen = tap-contact;
        id_fits = λ c f. f.id;
        place_fits = λ c f. f.place;
        origin-fits = record { x = record { holds = lit< tt }; y = record { holds = lit< tt } };
        bare-fits = λ flags id p hf hi hp. record { flags = hf; id = hi; place = hp };
        bare_flags = λ flags id p. refl;
        bare_id = λ flags id p. refl;
        bare_place = λ flags id p. refl;
      };
    }

rested-kept : Kept taps Live Near (rested tt)
unfolding rested
rested-kept = resting-steady tap-law 1 (running_with resting) refl (λ e. refl) nobody-length

-- ---- THE SENTENCES, OF TAPS

each-tap's-records-are-a-legal-path : (id : ℕ) → id < contacts → (gs : List (Given Unit Tap)) → AllProper taps TapFits (rested tt) gs
    → let t : Table = (after taps (rested tt) gs).machine.table in path tap_next (λ x. x) id (records_in tap_seen (written taps (rested tt) gs)) out origin ≡ at (state_at t id) (place_at t id)
unfolding rested
each-tap's-records-are-a-legal-path id l gs p = each-contact's-records-are-a-legal-path tap-law id l (rested tt) gs refl rested-kept p

taps-from-an-opening-frame-as-if-rested : (s : Stream Unit) → Kept taps Live Near s → (fs : List (Frame Tap)) (f : Frame Tap) (gs : List (Frame Tap)) → All (FrameFits TapFits) (fs ++ (f ∷ gs)) → opens tap_view (machine_at taps s fs) f ≡ true
    → NoneActive (machine_at taps s fs).table → (more : List (Given Unit Tap)) → AsRested taps s fs f gs more
taps-from-an-opening-frame-as-if-rested = from-an-opening-frame-as-if-rested tap-law

silent-taps-write-nothing-until-an-opening-frame : (s : Stream Unit) (gs : List (Given Unit Tap)) → Silent s → Unopened taps s gs → (written taps s gs ≡ []) × Silent (after taps s gs)
silent-taps-write-nothing-until-an-opening-frame = a-silent-stream-writes-nothing-until-an-opening-frame taps

the-set-of-taps-is-the-sentence : (id : ℕ) → id < contacts → (gs : List (Given Unit Tap)) → AllProper taps TapFits (rested tt) gs
    → (is_held (after taps (rested tt) gs).machine.held id ≡ true → InSet tap_view id (log taps (rested tt) gs))
    × (InSet tap_view id (log taps (rested tt) gs) → is_held (after taps (rested tt) gs).machine.held id ≡ true)
unfolding rested
the-set-of-taps-is-the-sentence id l gs p = the-set-is-the-sentence tap-law id l (rested tt) gs refl p rested-kept
