-- The first frame's offset, as it is found in the first record.
-- Assumes nothing.
use Prim.Native.Nat.{ℕ}
use mathlib.Core.Path.{◌≡◌, refl, sym, ap, ◌∙◌}
use mathlib.Core.Bool.{Bool, true, false, cond}
use mathlib.Core.List.{List, [], ◌∷◌}
use native.Mathlib.Omega.{arith}
use lib.Dec.{eqb}
use Rattle.formats.specs.Format.{got}
use Rattle.house.specs.Layout.{record_of}
use Rattle.house.specs.declared.Contact.{Contact}
use Rattle.house.specs.declared.Record.{Record}
use Rattle.framing.specs.Frame.{Frame}
use Rattle.channel.specs.Marks.{judged_by}
use Rattle.recordings.specs.Records.{frames_in, read_all}
use Rattle.panels.specs.Panel.{offset_stands}
use Rattle.panels.specs.declared.Panel.{Panel}
use Rattle.panel_checks.specs.Checks.{offset_in, first_stands}
use Rattle.panel_checks.proofs.Recorded.{parts, first}

-- of the record at the front: not judged, it stands; judged, it is 0
pub stands-free : (flags begun : ℕ) (r : Record) → judged_by flags begun ≡ false → true ≡ first_stands flags begun r
stands-free flags begun r h = sym (ap (λ (b : Bool). cond b (eqb (offset_in r) 0) true) h)

pub stands-judged : (flags begun : ℕ) (r : Record) → judged_by flags begun ≡ true → eqb (offset_in r) 0 ≡ first_stands flags begun r
stands-judged flags begun r h = sym (ap (λ (b : Bool). cond b (eqb (offset_in r) 0) true) h)

-- of frames the same
module _ (p : Panel) where
  -- not judged, it stands
  offset-free : judged_by p.settings.flags p.begun ≡ false → (fs : List (Frame Contact)) → true ≡ offset_stands p fs
  offset-free h [] = refl
  offset-free h (f ∷ fs) = sym (ap (λ (b : Bool). cond b (eqb f.offset.0 0) true) h)

  module _ (h : judged_by p.settings.flags p.begun ≡ true) where
    offset-first : (f : Frame Contact) (fs : List (Frame Contact)) → eqb f.offset.0 0 ≡ offset_stands p (f ∷ fs)
    offset-first f fs = sym (ap (λ (b : Bool). cond b (eqb f.offset.0 0) true) h)

    -- judged, it is 0; where there is no frame, there is no offset
    offset-judged : (l : List ℕ) (fs : List (Frame Contact)) (rest : List ℕ) → frames_in l ≡ got fs rest → eqb (offset_in (record_of l)) 0 ≡ offset_stands p fs
    unfolding frames_in read_all record_of
    offset-judged [] fs rest e =
        let z : [] ≡ fs = cc in
        ap (offset_stands p) z
    offset-judged (x ∷ l) fs rest e =
        let w = first (x ∷ l) fs rest (omega arith) e in
        let o = (parts (x ∷ l) w.frame w.after w.read).offset in
        ap (λ (n : ℕ). eqb n 0) o ∙ offset-first w.frame w.others ∙ ap (offset_stands p) (sym w.all)

  pub first-stands : (l : List ℕ) (fs : List (Frame Contact)) (rest : List ℕ) → frames_in l ≡ got fs rest
      → first_stands p.settings.flags p.begun (record_of l) ≡ offset_stands p fs
  first-stands l fs rest e = go (judged_by p.settings.flags p.begun) refl
    where
      go : (b : Bool) → judged_by p.settings.flags p.begun ≡ b → first_stands p.settings.flags p.begun (record_of l) ≡ offset_stands p fs
      go true h = sym (stands-judged p.settings.flags p.begun (record_of l) h) ∙ offset-judged h l fs rest e
      go false h = sym (stands-free p.settings.flags p.begun (record_of l) h) ∙ offset-free h fs
