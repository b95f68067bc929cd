-- Touch keeps what is asked of a profile: document 01's table, and house records.
-- Assumes nothing.
use Prim.Native.Nat.{ℕ, zero, suc, ◌+◌, ◌*◌, ◌≤◌, ◌<◌}
use mathlib.Core.Path.{◌≡◌, refl, ap}
use mathlib.Core.Bool.{Bool, true, false}
use native.Mathlib.Omega.{arith}
use borrow.Author.Tests.{ltb-true, ltb-false, leb-true, leb-false}
use lib.Dec.{leb, ltb, lit<, leb→le}
use lib.IntN.{pos}
use lib.ListN.{get_or}
use Rattle.states.specs.Table.{table, place_of, unlisted, from, out, hovering, engaged, next}
use Rattle.tables.proofs.Below.{below}
use Rattle.states.proofs.Rule.{entries, rule, no-state, no_row}
use Rattle.house.specs.Twos.{Holds}
use Rattle.house.specs.Fits.{ContactFits}
use Rattle.house.specs.Layout.{record_of}
use Rattle.house.specs.declared.Contact.{Contact}
use Rattle.house.specs.declared.Point.{Point}
use Rattle.house.proofs.Round.{length-contact, record-of-head, record-of-contact}
use Rattle.well_formed.specs.WellFormed.{above, place_well, contact_well}
use Rattle.well_formed.proofs.WellFormed.{never, all_split}
use Rattle.touch.proofs.Ranges.{ContactRead}
use Rattle.machine.specs.Table.{contacts, origin, active}
use Rattle.machine.specs.Machine.{cancel_flags}
use Rattle.contacts.specs.Touch.{bare_contact}
use Rattle.stream.specs.Asked.{TableLaw, Laws}
use Rattle.receiver.specs.History.{touch_profile, seen_in}

-- ---- the state table leads to one of three states, or to none

-- out of range, hovering or engaged
abbrev pub OneOfThree : ℕ → Type 0
OneOfThree s = s ≤ engaged

entries-small : (k : ℕ) → k < 24 → get_or entries k 0 ≤ 3
entries-small k h = leb→le _ _ (below 24 (λ k. leb (get_or entries k 0) 3) tt k h)

next_small : (f s : ℕ) → next f s ≤ 3
unfolding next
next_small f s = go (ltb (place_of f table) 8) refl (leb s 2) refl
  where
    go : (a : Bool) → ltb (place_of f table) 8 ≡ a → (b : Bool) → leb s 2 ≡ b → from s (get_or table (place_of f table) unlisted) ≤ 3
    go false ha b hb = rw (no_row (place_of f table) s (ltb-false _ _ ha)) (omega arith)
    go true ha false hb = rw (no-state s (get_or table (place_of f table) unlisted) (leb-false _ _ hb)) (omega arith)
    go true ha true hb =
        let p = ltb-true _ _ ha in
        let q = leb-true _ _ hb in
        rw (← rule (place_of f table) s p q) (entries-small (3 * place_of f table + s) (omega arith))

cancel-next : (s : ℕ) → OneOfThree s → active s ≡ true → next (cancel_flags s) s ≡ out
unfolding next place_of from
cancel-next zero h a = never a refl
cancel-next (suc zero) h a = refl
cancel-next (suc (suc zero)) h a = refl
cancel-next (suc (suc (suc n))) h a = absurd (omega arith)

dismiss-next : next 0x02 hovering ≡ out
unfolding next place_of from
dismiss-next = refl

touch-table : TableLaw next OneOfThree
touch-table =
    record {
      start = omega arith;
      step = λ flags s h n. omega (arith, next_small flags s, n);
      cancel = cancel-next;
      dismiss = λ h. dismiss-next;
    }

-- ---- records

-- a position that a message carries: 30 bits hold it, and neither coordinate is -2^29
pub record PlaceFits (p : Point) : Type 0 where
  pub x : Holds 30 p.x
  pub y : Holds 30 p.y
  pub x-well : place_well p.x ≡ true
  pub y-well : place_well p.y ≡ true

origin-fits : PlaceFits origin
unfolding above
origin-fits = record { x = record { holds = lit< tt }; y = record { holds = lit< tt }; x-well = refl; y-well = refl }

-- a contact whose record holds it, at such a position
pub record Fits (c : Contact) : Type 0 where
  pub fields : ContactFits c
  pub place : PlaceFits c.place

pub bare-fits : (flags id : ℕ) (p : Point) → flags < 64 → id < contacts → PlaceFits p → Fits (bare_contact flags id p)
bare-fits flags id p hf hi hp =
    let none : Holds 15 (pos 0) = record { holds = lit< tt } in
    record {
      fields = record {
        flags = hf;
        present = lit< tt;
        id = hi;
        x = hp.x;
        y = hp.y;
        left = none;
        top = none;
        right = none;
        bottom = none;
        orientation = lit< tt;
        pressure = lit< tt;
      };
      place = hp;
    }

-- what a message carries fits
pub read_fits : (c : Contact) → ContactRead c → Fits c
unfolding contact_well
read_fits c h =
    let x = all_split _ _ (all_split _ _ h.well).1 in
    record { fields = h.fits; place = record { x = h.fits.x; y = h.fits.y; x-well = x.0; y-well = (all_split _ _ x.1).0 } }

pub touch-law : Laws touch_profile next record_of seen_in OneOfThree Fits PlaceFits
touch-law =
    record {
      one_table = λ x. refl;
      steps = touch-table;
      records = record {
        long = length-contact;
        head_seen = λ h rest f. ap seen_in (record-of-head h rest f);
        contact_seen = λ kind c rest low high f. ap seen_in (record-of-contact kind c rest low high f.fields);
        id_fits = λ c f. f.fields.id;
        place_fits = λ c f. f.place;
        origin-fits = origin-fits;
        bare-fits = bare-fits;
        bare_flags = λ flags id p. refl;
        bare_id = λ flags id p. refl;
        bare_place = λ flags id p. refl;
      };
    }
