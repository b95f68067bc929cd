-- Touch, an instance of the machine: what it sees of a touch contact, and document 01's rules.
use Rattle.std.specs.Prelude.{ℕ, true}
use Rattle.states.specs.Table.{next}
use Rattle.house.specs.Layout.{contact_bytes}
use Rattle.house.specs.Fits.{no_sides}
use Rattle.house.specs.declared.Point.{Point}
use Rattle.house.specs.declared.Contact.{Contact}
use Rattle.machine.specs.Rules.{View, Rules}

-- "Kinds 2 and 3 carry the stored position and no optional field."
abbrev pub bare_contact : ℕ → ℕ → Point → Contact
bare_contact flags id p = record { flags = flags; present = 0; id = id; place = p; sides = no_sides; orientation = 0; pressure = 0 }

abbrev pub touch_view : View Contact
touch_view =
    record {
      id = λ c. c.id;
      flags = λ c. c.flags;
      place = λ c. c.place;
      bare = bare_contact;
      bytes = contact_bytes;
    }

-- document 01's table, so many contacts at most, and no test besides
abbrev pub touch_rules : ℕ → Rules Contact
touch_rules most = record { next = next; most = most; passes = λ c. true }
