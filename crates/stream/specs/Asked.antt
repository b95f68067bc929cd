-- What is asked of a profile, so that its streams have the sentences of demand 3; and of the messages that they are given.
use Rattle.std.specs.Prelude.{ℕ, ◌≤◌, ◌<◌, ◌≡◌, true, List, [], ◌∷◌, ◌++◌, length}
use Rattle.states.specs.Table.{out, hovering, illegal}
use Rattle.house.specs.Fields.{record_bytes}
use Rattle.house.specs.Fits.{HeadFits}
use Rattle.house.specs.Layout.{head_bytes}
use Rattle.house.specs.declared.Head.{Head}
use Rattle.house.specs.declared.Point.{Point}
use Rattle.framing.specs.Frame.{Frame, head_of}
use Rattle.machine.specs.Table.{contacts, origin, resting, active}
use Rattle.machine.specs.Rules.{View}
use Rattle.machine.specs.Machine.{cancel_flags}
use Rattle.stream.specs.Stream.{Profile, Stream, Given, nothing, settings, frames, dismissal}
use Rattle.stream.specs.Stream as stream
use Rattle.stream.specs.Path.{Seen, head, contact}

-- of a state table: contacts are in some states, its live ones, out of range among them. A legal step leads from a live state to a live one, and
-- the flags of a cancel and of a dismissal lead out of range.
pub record TableLaw (table : ℕ → ℕ → ℕ) (Live : ℕ → Type 0) : Type 0 where
  pub start : Live out
  pub step : (flags s : ℕ) → Live s → (table flags s ≡ illegal → ⊥) → Live (table flags s)
  pub cancel : (s : ℕ) → Live s → active s ≡ true → table (cancel_flags s) s ≡ out
  pub dismiss : Live hovering → table 0x02 hovering ≡ out

-- of contacts and their records: which contacts fit their record and which positions, and that a path sees in a record what the machine sees of
-- the contact
pub record RecordLaw {C R : Type 0} (view : View C) (read : List ℕ → R) (seen : R → Seen) (Fits : C → Type 0) (PlaceFits : Point → Type 0) : Type 0 where
  pub long : (kind : ℕ) (c : C) → length (view.bytes kind c) ≡ record_bytes
  pub head_seen : (h : Head) (rest : List ℕ) → HeadFits h → seen (read (head_bytes h ++ rest)) ≡ head
  pub contact_seen : (kind : ℕ) (c : C) (rest : List ℕ) → 1 ≤ kind → kind < 4 → Fits c
      → seen (read (view.bytes kind c ++ rest)) ≡ contact kind (view.flags c) (view.id c) (view.place c)
  pub id_fits : (c : C) → Fits c → view.id c < contacts
  pub place_fits : (c : C) → Fits c → PlaceFits (view.place c)
  pub origin-fits : PlaceFits origin
  pub bare-fits : (flags id : ℕ) (p : Point) → flags < 64 → id < contacts → PlaceFits p → Fits (view.bare flags id p)
  pub bare_flags : (flags id : ℕ) (p : Point) → view.flags (view.bare flags id p) ≡ flags
  pub bare_id : (flags id : ℕ) (p : Point) → view.id (view.bare flags id p) ≡ id
  pub bare_place : (flags id : ℕ) (p : Point) → view.place (view.bare flags id p) ≡ p

-- of a profile: one state table under all settings
pub record Laws {S C R : Type 0} (profile : Profile S C) (table : ℕ → ℕ → ℕ) (read : List ℕ → R) (seen : R → Seen) (Live : ℕ → Type 0) (Fits : C → Type 0) (PlaceFits : Point → Type 0) : Type 0 where
  pub one_table : (x : S) → (profile.rules x).next ≡ table
  pub steps : TableLaw table Live
  pub records : RecordLaw profile.view read seen Fits PlaceFits

-- ---- of messages

-- each of a list
abbrev pub All : {A : Type 0} → (A → Type 0) → List A → Type 0
All P [] = Unit
All P (a ∷ l) = P a × All P l

-- a frame whose records hold it
pub record FrameFits {C : Type 0} (Fits : C → Type 0) (f : Frame C) : Type 0 where
  pub head : HeadFits (head_of f)
  pub contacts : All Fits f.contacts

-- settings come while every contact is out of range, and frames fit their records
abbrev pub Proper : {S C : Type 0} → (C → Type 0) → Stream S → Given S C → Type 0
Proper Fits s nothing = Unit
Proper Fits s (settings x) = s.machine.table ≡ resting
Proper Fits s (frames fs) = All (FrameFits Fits) fs
Proper Fits s (dismissal id) = Unit

unfoldable pub AllProper : {S C : Type 0} → Profile S C → (C → Type 0) → Stream S → List (Given S C) → Type 0
AllProper profile Fits s [] = Unit
AllProper profile Fits s (g ∷ gs) = Proper Fits s g × AllProper profile Fits (stream.next profile s g) gs
