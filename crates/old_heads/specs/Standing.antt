-- #107, over all heads: "Every stored head therefore reads as it did. An older reader refuses a count above 63 by 14. Prove both facts over all
-- heads."
use Rattle.std.specs.Prelude.{ℕ, ◌≤◌, ◌<◌, ◌≡◌, true, List, ◌++◌, take}
use Rattle.paper.specs.Refusals.{bad_record}
use Rattle.house.specs.Fields.{record_bytes, unpacked, value_at}
use Rattle.house.specs.Layout.{head_widths, head_bytes, record_of}
use Rattle.house.specs.Fits.{HeadFits}
use Rattle.house.specs.declared.Head.{Head}
use Rattle.house.specs.declared.Record.{Record}
use Rattle.house.specs.declared.Record.TheVariants as Record
use Rattle.well_formed.specs.WellFormed.{well_formed}
use Rattle.old_heads.specs.OldHeads.{old_contacts_most, old_head_bytes, old_record_of, old_well_formed, old_reading}

-- ---- one record

-- to today's reader as to the older one: the same record, and well formed or not
pub record ReadsAsItDid (l : List ℕ) : Type 0 where
  pub found : record_of l ≡ old_record_of l
  pub formed : well_formed l ≡ old_well_formed l

-- the three bits that #107 takes of the zeros of a head
unfoldable pub high_bits : List ℕ → ℕ
high_bits l = value_at 3 (unpacked head_widths (take record_bytes l))

pub record HeadsStand : Type 0 where
  -- "Every stored head therefore reads as it did.": whatever was stored of a head, and whatever follows it
  pub stored : (h : Head) (t : List ℕ) → ReadsAsItDid (old_head_bytes h ++ t)
  -- .. so does every record that was well formed
  pub formed : (l : List ℕ) → old_well_formed l ≡ true → ReadsAsItDid l
  -- .. and whatever else has zeros there, well formed or not
  pub zeros : (l : List ℕ) → high_bits l ≡ 0 → ReadsAsItDid l
  -- .. and whatever is not a head
  pub others : (l : List ℕ) → ((h : Head) → record_of l ≡ Record.Head h → ⊥) → ReadsAsItDid l
  -- "An older reader refuses a count above 63 by 14.": whatever today's reader makes a head of such a count of, and so each that is written today
  pub refused : (l : List ℕ) (h : Head) → record_of l ≡ Record.Head h → old_contacts_most < h.count → old_reading l ≡ Record.Refused bad_record
  pub refused_written : (h : Head) (t : List ℕ) → HeadFits h → old_contacts_most < h.count → old_reading (head_bytes h ++ t) ≡ Record.Refused bad_record
  -- a head of up to 63 is written as it was
  pub same : (h : Head) → h.count ≤ old_contacts_most → head_bytes h ≡ old_head_bytes h
