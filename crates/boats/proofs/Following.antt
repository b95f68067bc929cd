-- Records of whole frames that lead each contact along a legal path are taken, and the states that a label keeps of them are those where the paths end.
-- Assumes nothing.
use Prim.Native.Nat.{ℕ, zero, suc, ◌*◌, ◌-◌, ◌≤◌, ◌<◌}
use mathlib.Core.Path.{◌≡◌, refl, sym, ap, subst, ◌∙◌}
use mathlib.Core.Bool.{Bool, true, false, cond}
use mathlib.Core.List.{List, [], ◌∷◌, ◌++◌}
use native.Mathlib.Omega.{arith}
use borrow.Author.Tests.{eqb-true, eqb-false, eq-eqb, ne_eqb}
use lib.Dec.{eqb, lit<}
use lib.ListN.{length, get_or, set, take, length-append, length-set}
use lib.Seq.{take_all, get_or-set_same, get_or-set_other}
use Rattle.states.specs.Table.{out, illegal, next}
use Rattle.house.specs.Fields.{record_bytes}
use Rattle.house.specs.Layout.{kind_of, head_in, contact_of, record_of, touched, cancelled, dismissed}
use Rattle.house.specs.Layout as layout
use Rattle.house.specs.Records as house
use Rattle.house.specs.declared.Point.{Point}
use Rattle.house.specs.declared.Contact.{Contact}
use Rattle.house.specs.declared.Record.{Record}
use Rattle.house.specs.declared.Record.TheVariants as Record
use Rattle.house.proofs.Front.{record-head, record-contact, record-alone}
use Rattle.house.proofs.Records.{records-one}
use Rattle.well_formed.specs.WellFormed.{all, well_formed}
use Rattle.well_formed.proofs.WellFormed.{never}
use Rattle.well_formed.proofs.Front.{well-alone}
use Rattle.framing.specs.Whole.{Formed, Framed, ends, head, contact, cancel, dismissal}
use Rattle.machine.specs.Conforms.{place_in}
use Rattle.machine.specs.Table.{contacts}
use Rattle.stream.specs.Asked.{All}
use Rattle.stream.specs.Path.{Path, at, broken, and_on, may_step, stepped, path_step}
use Rattle.stream.specs.Path as paths
use Rattle.receiver.specs.History.{seen_in, path}
use Rattle.presses.specs.Choosing.{records_in, all_well, may_stand, due_after, in_frames, state_after, states_after, by_table, record_kept, point_of, kept_of}
use Rattle.presses.specs.declared.Label.{Label}
use Rattle.presses.specs.declared.Hit.{Hit}
use Rattle.boats.proofs.Ids.{Small}

-- ---- whole frames

-- what they are to a label that n contacts of a frame are still due to
pub record Sorted (n : ℕ) (l : List ℕ) : Type 0 where
  pub well : all_well l ≡ true
  pub frames : in_frames n (records_in l) ≡ true
  pub many : length l ≡ record_bytes * length (records_in l)

whole-front : (s : List ℕ) → length s ≡ record_bytes → take record_bytes s ≡ s
whole-front s e = take_all record_bytes s (omega (arith, e))

sorted_before : (n k : ℕ) (s t : List ℕ) (r : Record) → Formed k s → record_of s ≡ r → may_stand n r ≡ true → Sorted (due_after n r) t → Sorted n (s ++ t)
unfolding all in_frames
sorted_before n k s t r f e m h =
    let long : record_bytes ≤ length s = omega (arith, f.long) in
    let z : records_in (s ++ t) ≡ r ∷ records_in t = records-one record_of s t f.long ∙ ap (λ (x : Record). x ∷ records_in t) (record-alone s t long ∙ e) in
    record {
      well = rw (records-one well_formed s t f.long, well-alone s t long, f.well) h.well;
      frames = rw (z, m) h.frames;
      many = rw (z, length-append s t) (omega (arith, h.many, f.long));
    }

read_head : (s : List ℕ) → Formed layout.head s → record_of s ≡ Record.Head (head_in s)
read_head s f =
    let w = whole-front s f.long in
    record-head s (omega (arith, f.long)) (ap kind_of w ∙ f.kind) ∙ ap (λ (x : List ℕ). Record.Head (head_in x)) w

read-contact : (k : ℕ) (s : List ℕ) → Formed (suc k) s → record_of s ≡ Record.Contact (suc k) (contact_of s)
read-contact k s f =
    let w = whole-front s f.long in
    let kind = ap kind_of w ∙ f.kind in
    record-contact s (omega (arith, f.long)) (λ z. let e : suc k ≡ 0 = sym kind ∙ z in omega (arith, e)) ∙ (λ i. Record.Contact (kind i) (contact_of (w i)))

pub sorted : (n : ℕ) (l : List ℕ) → Framed n l → Sorted n l
unfolding all in_frames house.records_in house.records_from
sorted n l ends = record { well = refl; frames = refl; many = refl }
sorted n l (head s t f k) = sorted_before zero layout.head s t (Record.Head (head_in s)) f (read_head s f) refl (sorted (head_in s).count t k)
sorted n l (contact m s t f k) =
    let e : m ≡ suc m - 1 = omega arith in
    sorted_before (suc m) touched s t (Record.Contact touched (contact_of s)) f (read-contact 0 s f) (rw (ne_eqb (suc m) 0 (λ z. omega (arith, z)))) (subst (λ (i : ℕ). Sorted i t) e (sorted m t k))
sorted n l (cancel s t f k) = sorted_before zero cancelled s t (Record.Contact cancelled (contact_of s)) f (read-contact 1 s f) refl (sorted zero t k)
sorted n l (dismissal s t f k) = sorted_before zero dismissed s t (Record.Contact dismissed (contact_of s)) f (read-contact 2 s f) refl (sorted zero t k)

-- ---- paths

abbrev state_in : Path → ℕ
state_in (at s p) = s
state_in broken = 0

abbrev whole? : Path → ℕ
whole? (at s p) = 1
whole? broken = 0

no_end : {A : Type 0} (s : ℕ) (p : Point) → broken ≡ at s p → A
no_end s p e =
    let z : ◌≡◌ {A = ℕ} 0 1 = ap whole? e in
    absurd (omega (arith, z))

-- a path through some records and then through others
pub path-on : (id : ℕ) (xs ys : List Record) (s : ℕ) (p : Point) (s' : ℕ) (p' : Point) → path id xs s p ≡ at s' p' → path id (xs ++ ys) s p ≡ path id ys s' p'
unfolding paths.path
path-on id [] ys s p s' p' e = ap (λ (q : Path). and_on q (path id ys)) e
path-on id (x ∷ xs) ys s p s' p' e = go (path_step next id (seen_in x) s p) (λ t r. path-on id xs ys t r s' p') e
  where
    go : (q : Path) → ((t : ℕ) (r : Point) → path id xs t r ≡ at s' p' → path id (xs ++ ys) t r ≡ path id ys s' p') → and_on q (path id xs) ≡ at s' p' → and_on q (path id (xs ++ ys)) ≡ path id ys s' p'
    go (at t r) ih e = ih t r e
    go broken ih e = no_end s' p' e

first-false : (a b : Bool) → cond a false b ≡ true → a ≡ false
first-false true b e = never e refl
first-false false b e = refl

-- one contact's record
module _ (kind flags k : ℕ) (q : Point) (s : ℕ) (p : Point) (rest : ℕ → Point → Path) where
  own-step : (end : ℕ) (to : Point) → and_on (path_step next k (paths.contact kind flags k q) s p) rest ≡ at end to
      → (eqb (next flags s) illegal ≡ false) × (rest (next flags s) (place_in (next flags s) q) ≡ at end to)
  unfolding path_step
  own-step end to e =
      go (may_step next kind flags q s p) refl
      (sym (ap (λ (b : Bool). and_on (cond b (cond (may_step next kind flags q s p) (stepped next flags q s) broken) (at s p)) rest) (eq-eqb k k refl)) ∙ e)
    where
      go : (b : Bool) → may_step next kind flags q s p ≡ b → and_on (cond b (stepped next flags q s) broken) rest ≡ at end to
          → (eqb (next flags s) illegal ≡ false) × (rest (next flags s) (place_in (next flags s) q) ≡ at end to)
      go true m e = (first-false _ _ m, e)
      go false m e = no_end end to e

  other_step : (id : ℕ) → (k ≡ id → ⊥) → and_on (path_step next id (paths.contact kind flags k q) s p) rest ≡ rest s p
  unfolding path_step
  other_step id n = rw (ne_eqb k id n)

-- a contact's path, from the state that it has among states to another
pub record Led (states : List ℕ) (rs : List Record) (id end : ℕ) : Type 0 where
  pub start : Point
  pub stop : Point
  pub leads : path id rs (get_or states id out) start ≡ at end stop

-- .. and on from one contact's record
led_on : (states : List ℕ) (kind : ℕ) (c : Contact) (rs : List Record) (to : ℕ → ℕ) → length states ≡ contacts → c.id < contacts
    → ((id : ℕ) → id < contacts → Led states (Record.Contact kind c ∷ rs) id (to id))
    → (eqb (state_after states c) illegal ≡ false) × ((id : ℕ) → id < contacts → Led (set states c.id (state_after states c)) rs id (to id))
unfolding paths.path
led_on states kind c rs to n small h = (own.0, on)
  where
    first : Led states (Record.Contact kind c ∷ rs) c.id (to c.id)
    first = h c.id small

    own : (eqb (state_after states c) illegal ≡ false) × (path c.id rs (state_after states c) (place_in (state_after states c) c.place) ≡ at (to c.id) first.stop)
    own = own-step kind c.flags c.id c.place (get_or states c.id out) first.start (path c.id rs) (to c.id) first.stop first.leads

    on : (id : ℕ) → id < contacts → Led (set states c.id (state_after states c)) rs id (to id)
    on id k = go (eqb c.id id) refl
      where
        s : ℕ
        s = state_after states c

        go : (b : Bool) → eqb c.id id ≡ b → Led (set states c.id (state_after states c)) rs id (to id)
        go true e =
            subst (λ (i : ℕ). Led (set states c.id s) rs i (to i)) (eqb-true c.id id e)
            (record {
              start = place_in s c.place;
              stop = first.stop;
              leads = ap (λ (x : ℕ). path c.id rs x (place_in s c.place)) (get_or-set_same states c.id s out (omega (arith, n, small))) ∙ own.1;
            })
        go false e =
            record {
              start = (h id k).start;
              stop = (h id k).stop;
              leads =
                  ap (λ (x : ℕ). path id rs x (h id k).start) (get_or-set_other states c.id id s out (λ z. eqb-false c.id id e (sym z)))
                  ∙ (sym (other_step kind c.flags c.id c.place (get_or states id out) (h id k).start (path id rs) id (eqb-false c.id id e)) ∙ (h id k).leads);
            }

-- what a label makes of records along which each contact is led
pub record Followed (hit : Point → Hit) (l : Label) (rs : List Record) (to : ℕ → ℕ) : Type 0 where
  pub table : by_table l.states rs ≡ true
  pub long : length (kept_of hit l rs).states ≡ contacts
  pub states : (id : ℕ) → id < contacts → get_or (kept_of hit l rs).states id out ≡ to id

pub followed : (hit : Point → Hit) (l : Label) (rs : List Record) (to : ℕ → ℕ) → length l.states ≡ contacts → All Small rs
    → ((id : ℕ) → id < contacts → Led l.states rs id (to id)) → Followed hit l rs to
unfolding by_table states_after kept_of paths.path path_step
followed hit l [] to n s h = record { table = refl; long = n; states = λ id k. ap state_in (h id k).leads }
followed hit l (Record.Head x ∷ rs) to n s h =
    let k = followed hit (record_kept (hit (point_of (Record.Head x))) l (Record.Head x)) rs to n s.1 (λ id i. record { start = (h id i).start; stop = (h id i).stop; leads = (h id i).leads }) in
    record { table = k.table; long = k.long; states = k.states }
followed hit l (Record.Contact kind c ∷ rs) to n s h =
    let on = led_on l.states kind c rs to n s.0 h in
    let k = followed hit (record_kept (hit c.place) l (Record.Contact kind c)) rs to (length-set l.states c.id (state_after l.states c) ∙ n) s.1 on.1 in
    record { table = rw on.0 k.table; long = k.long; states = k.states }
followed hit l (Record.Refused e ∷ rs) to n s h = no_end (to 0) (h 0 (lit< tt)).stop (h 0 (lit< tt)).leads
