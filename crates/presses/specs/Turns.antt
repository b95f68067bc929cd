-- How a run over records goes, one record a turn, for whoever looks up the buttons between the turns.
use Rattle.std.specs.Prelude.{ℕ, zero, suc, ◌+◌, ◌*◌, ◌-◌, ◌/◌, ◌%◌, ◌^◌, ◌≡◌, Bool, true, false, cond, List, [], ◌∷◌, eqb, leb, ltb, pos, length, drop, set, Result, Ok, Err}
use Rattle.paper.specs.Refusals.{number, none, no_room, bad_record}
use Rattle.paper.specs.declared.Refusal.{Refusal}
use Rattle.house.specs.Fields.{record_bytes}
use Rattle.house.specs.Layout.{record_of}
use Rattle.house.specs.declared.Point.{Point}
use Rattle.house.specs.declared.Contact.{Contact}
use Rattle.house.specs.declared.Record.{Record}
use Rattle.presses.specs.declared.Label.{Label}
use Rattle.presses.specs.declared.Hit.{Hit}
use Rattle.presses.specs.declared.Look.{Look}
use Rattle.presses.specs.declared.Tally.{Tally}
use Rattle.presses.specs.declared.Picked.{Picked}
use Rattle.presses.specs.declared.Chosen.{Chosen}
use Rattle.presses.specs.Buttons.{nowhere}
use Rattle.presses.specs.Choosing.{Choice, looks, point_of, states_after, pressed_in, contact_chosen, record_kept, record_chosen, is_taken}

-- whether a record looks at buttons, and where
abbrev pub looks_in : Record → Bool
looks_in (Record.Head h) = false
looks_in (Record.Contact kind c) = looks c.flags
looks_in (Record.Refused e) = false

abbrev pub no_look : Look
no_look = record { due = false; point = record { x = pos 0; y = pos 0 } }

unfoldable pub look_at : List ℕ → ℕ → Look
look_at l at = let r : Record = record_of (drop at l) in record { due = looks_in r; point = point_of r }

-- what the record at a place looks at
unfoldable pub hit_at : (Point → Hit) → List ℕ → ℕ → Hit
hit_at hit l at = cond (look_at l at).due (hit (look_at l at).point) nowhere

-- choices put into a list of numbers behind n others, each where there is room, or none of them
unfoldable pub put_choices : Bool → ℕ → List Choice → List ℕ → List ℕ
put_choices writing n [] out = out
put_choices writing n (c ∷ cs) out =
    put_choices writing (suc n) cs
    (cond writing (cond (ltb n (length out / 2)) (set (set out (2 * n) c.id) (2 * n + 1) c.item) out) out)

-- a run over records: what is kept, where the next record stands, how many choices there were
pub record Run : Type 0 where
  pub label : Label
  pub at : ℕ
  pub count : ℕ

-- and the list of numbers
pub record Went : Type 0 where
  pub run : Run
  pub out : List ℕ

-- of its parts
abbrev pub went_to : List ℕ → List ℕ → Tally → List ℕ → Went
went_to states pressed t out = record { run = record { label = record { states = states; pressed = pressed }; at = t.at; count = t.count }; out = out }

abbrev pub begun_at : ℕ → Tally
begun_at from = record { at = from; count = 0 }

abbrev pub next_at : ℕ → ℕ → ℕ
next_at n at = cond (leb (at + record_bytes) n) (at + record_bytes) n

-- a run's count is a number of 64 bits
abbrev pub count_on : Bool → ℕ → ℕ
count_on chose n = cond chose ((n + 1) % 2 ^ 64) n

unfoldable pub tallied : List Choice → ℕ → ℕ
tallied [] n = n
tallied (c ∷ cs) n = tallied cs (count_on true n)

-- what becomes of a contact that looks at the button h
pub record TakesContact (h : Hit) (c : Contact) (writing : Bool) (before after : ℕ) (s s' p p' o o' : List ℕ) : Type 0 where
  pub states : s' ≡ states_after s (Record.Contact 1 c)
  pub pressed : p' ≡ pressed_in h p (Record.Contact 1 c)
  pub count : after ≡ tallied (contact_chosen h p c) before
  pub choices : o' ≡ put_choices writing before (contact_chosen h p c) o

-- a turn over a record, which looks at the button h, and behind which the next one stands
unfoldable pub turned_by : Hit → Record → ℕ → Bool → Went → Went
turned_by h r next writing w =
    let cs : List Choice = record_chosen h w.run.label.pressed r in
    record {
      run = record { label = record_kept h w.run.label r; at = next; count = tallied cs w.run.count };
      out = put_choices writing w.run.count cs w.out;
    }

unfoldable pub went_on : Hit → List ℕ → Bool → Went → Went
went_on h l writing w = turned_by h (record_of (drop w.run.at l)) (next_at (length l) w.run.at) writing w

unfoldable pub turns : ℕ → (Point → Hit) → List ℕ → Bool → Went → Went
turns zero hit l writing w = w
turns (suc k) hit l writing w = turns k hit l writing (went_on (hit_at hit l w.run.at) l writing w)

-- as many turns as there are records left
unfoldable pub driven : (Point → Hit) → List ℕ → Bool → Went → Went
driven hit l writing w = turns ((length l - w.run.at + 20) / record_bytes) hit l writing w

-- a call: a run that counts, unless there is room for a choice for each record; the ruling, 14 and then 13; a run that writes, unless it was refused
abbrev pub counting_from : ℕ → ℕ → ℕ
counting_from bytes numbers = cond (ltb (bytes / record_bytes) (numbers / 2)) bytes 0

abbrev pub ruled : List ℕ → List ℕ → ℕ → ℕ → ℕ
ruled states records count numbers = cond (is_taken states records) (cond (leb count (numbers / 2)) none no_room) bad_record

-- the number of a ruling
abbrev pub ruling_number : Result (Unit {0}) Refusal → ℕ
ruling_number (Ok u) = none
ruling_number (Err e) = number e

abbrev pub writing_from : ℕ → ℕ → ℕ
writing_from e bytes = cond (eqb e none) 0 bytes

abbrev pub concluded : ℕ → Tally → Picked
concluded e run = record { refusal = e; count = run.count }

-- the answer and the label that was left
abbrev pub chosen_as : List ℕ → List ℕ → Picked → Chosen
chosen_as states pressed x = record { label = record { states = states; pressed = pressed }; refusal = x.refusal; count = x.count }
