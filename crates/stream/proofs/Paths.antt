-- Each contact's records are a legal path from out of range, which ends where the stream has it.
-- Assumes nothing.
use Prim.Native.Nat.{ℕ, zero, suc, ◌+◌, ◌≤◌, ◌<◌}
use mathlib.Core.Path.{◌≡◌, refl, sym, ap, ◌∙◌}
use mathlib.Core.Bool.{Bool, true, false, cond}
use mathlib.Core.List.{List, [], ◌∷◌, ◌++◌, append_assoc, append-nil}
use native.Mathlib.Omega.{arith}
use borrow.Author.Tests.{eqb-true, eqb-false, eq-eqb, ne_eqb, not-true, ltb-true, ltb-false}
use lib.Dec.{eqb, ltb, lit<, lit≤}
use lib.IntN.{ℤ, pos, negsuc}
use lib.ListN.{length}
use Rattle.states.specs.Table.{out, hovering, illegal}
use Rattle.house.specs.Fields.{record_bytes}
use Rattle.house.specs.Fits.{HeadFits}
use Rattle.house.specs.Layout.{head_bytes, touched, cancelled as cancel_kind, dismissed as dismiss_kind}
use Rattle.house.specs.Records.{records_from, records_in}
use Rattle.house.specs.declared.Point.{Point}
use Rattle.house.specs.declared.Head.{Head}
use Rattle.house.proofs.Records.{records-one}
use Rattle.house.proofs.Round.{length-head}
use Rattle.well_formed.proofs.WellFormed.{never}
use Rattle.framing.specs.Frame.{Frame, head_of, timed_frames, contacts_bytes, frame_bytes}
use Rattle.machine.specs.Table.{Table, contacts, state_at, place_at, with_contact, origin, resting, active}
use Rattle.tables.specs.Same.{same_number}
use Rattle.machine.specs.Conforms.{every, distinct, next_of, legal, same_place, stays, place_in, moved, table_after}
use Rattle.machine.specs.Machine.{Machine, stored_bytes, cancel_flags, cancel_bytes, cancels_from, cancels, step_machine, step_bytes, run_machine, run_bytes, dismiss_table, dismiss_bytes}
use Rattle.machine.proofs.Table.{state-same, place_same, state-other, place_other, resting-state, resting-place}
use Rattle.machine.proofs.Conforms.{every_first, every-others, distinct-first, distinct-others, legal-behind, stays-behind}
use Rattle.machine.proofs.Machine.{cancel-active, cancel-out}
use Rattle.stream.specs.Stream.{Profile, Stream, Given, nothing, settings, frames, dismissal, next, wrote, after, written}
use Rattle.stream.specs.Path.{Seen, head, contact, Path, at, and_on, of_kind, may_step, stepped, path_step, path}
use Rattle.stream.specs.Asked.{Laws, All, FrameFits, Proper, AllProper}
use Rattle.stream.proofs.Steadiness.{Sound, Conforming, conforming, moved-sound, Judged, judged, injects, ignores, Steady, step-steady, beyond}
use Rattle.stream.proofs.Kept.{Kept, next-kept, timed-fit}

-- ---- bytes that lead a contact from one state and position to another, whatever follows

module _ {R : Type 0} (table : ℕ → ℕ → ℕ) (read : List ℕ → R) (seen : R → Seen) where
  pub record Leads (id s : ℕ) (p : Point) (bytes : List ℕ) (s' : ℕ) (p' : Point) : Type 0 where
    pub leads : (rest : List ℕ) → path table seen id (records_in read (bytes ++ rest)) s p ≡ path table seen id (records_in read rest) s' p'

  -- from the one table to the other
  abbrev pub Moves : ℕ → Table → List ℕ → Table → Type 0
  Moves id t bytes u = Leads id (state_at t id) (place_at t id) bytes (state_at u id) (place_at u id)

module _ {R : Type 0} {table : ℕ → ℕ → ℕ} {read : List ℕ → R} {seen : R → Seen} where
  leads-none : (id s : ℕ) (p : Point) → Leads table read seen id s p [] s p
  leads-none id s p = record { leads = λ rest. refl }

  leads-then : (id s : ℕ) (p : Point) (a : List ℕ) (s' : ℕ) (p' : Point) (b : List ℕ) (s'' : ℕ) (p'' : Point) → Leads table read seen id s p a s' p' → Leads table read seen id s' p' b s'' p'' → Leads table read seen id s p (a ++ b) s'' p''
  leads-then id s p a s' p' b s'' p'' h k =
      record { leads = λ rest. rw (append_assoc a b rest) (h.leads (b ++ rest) ∙ k.leads rest) }

  leads_one : (id s : ℕ) (p : Point) (bytes : List ℕ) (x : Seen) (s' : ℕ) (p' : Point) → length bytes ≡ record_bytes → ((rest : List ℕ) → seen (read (bytes ++ rest)) ≡ x) → path_step table id x s p ≡ at s' p' → Leads table read seen id s p bytes s' p'
  unfolding path
  leads_one id s p bytes x s' p' l r e =
      record { leads = λ rest. rw (records-one read bytes rest l, r rest) (ap (λ (q : Path). and_on q (path table seen id (records_in read rest))) e) }

  moves-none : (id : ℕ) (t : Table) → Moves table read seen id t [] t
  moves-none id t = leads-none id (state_at t id) (place_at t id)

  moves-then : (id : ℕ) (t : Table) (a : List ℕ) (u : Table) (b : List ℕ) (v : Table) → Moves table read seen id t a u → Moves table read seen id u b v → Moves table read seen id t (a ++ b) v
  moves-then id t a u b v h k =
      leads-then id (state_at t id) (place_at t id) a (state_at u id) (place_at u id) b (state_at v id) (place_at v id) h k

  -- all that was written, from a resting table on
  pub moves-path : (id : ℕ) (t : Table) (bytes : List ℕ) (u : Table) → t ≡ resting → Moves table read seen id t bytes u → path table seen id (records_in read bytes) out origin ≡ at (state_at u id) (place_at u id)
  unfolding path records_in records_from
  moves-path id t bytes u e h =
      let a = ap (λ (v : Table). state_at v id) e ∙ resting-state id in
      let b = ap (λ (v : Table). place_at v id) e ∙ resting-place id in
      (λ i. path table seen id (records_in read bytes) (sym a i) (sym b i)) ∙ rw append-nil at (h.leads [])

-- ---- a position is the same as itself

same_number_lem : (z : ℤ) → same_number z z ≡ true
unfolding same_number
same_number_lem (pos n) = eq-eqb n n refl
same_number_lem (negsuc n) = eq-eqb n n refl

same_place_lem : (p : Point) → same_place p p ≡ true
same_place_lem p = rw (same_number_lem p.x, same_number_lem p.y)

-- ---- the flags of a cancel

pub cancel-small : (s : ℕ) → cancel_flags s < 64
cancel-small s = go (eqb s 2)
  where
    go : (b : Bool) → cond b 0x24 0x22 < 64
    go true = lit< tt
    go false = lit< tt

out_of : (s : ℕ) → active s ≡ false → s ≡ out
out_of s h = go (eqb s out) refl h
  where
    go : (b : Bool) → eqb s out ≡ b → cond b false true ≡ false → s ≡ out
    go true e k = eqb-true _ _ e
    go false e k = never refl k

module _ {S C R : Type 0} {profile : Profile S C} {table : ℕ → ℕ → ℕ} {read : List ℕ → R} {seen : R → Seen} {Live : ℕ → Type 0} {Fits : C → Type 0} {PlaceFits : Point → Type 0} (law : Laws profile table read seen Live Fits PlaceFits) where
  abbrev LeadsBy : ℕ → ℕ → Point → List ℕ → ℕ → Point → Type 0
  LeadsBy = Leads table read seen

  abbrev MovesBy : ℕ → Table → List ℕ → Table → Type 0
  MovesBy = Moves table read seen

  abbrev SoundBy : Table → Type 0
  SoundBy = Sound Live PlaceFits

  -- ---- one record

  head-leads : (id s : ℕ) (p : Point) (h : Head) → HeadFits h → LeadsBy id s p (head_bytes h) s p
  unfolding path_step
  head-leads id s p h f = leads_one id s p (head_bytes h) head s p (length-head h) (λ rest. law.records.head_seen h rest f) refl

  module _ (kind : ℕ) (c : C) (low : 1 ≤ kind) (high : kind < 4) (f : Fits c) where
    abbrev shown : Seen
    shown = contact kind (profile.view.flags c) (profile.view.id c) (profile.view.place c)

    other-leads : (id s : ℕ) (p : Point) → (profile.view.id c ≡ id → ⊥) → LeadsBy id s p (profile.view.bytes kind c) s p
    unfolding path_step
    other-leads id s p n =
        leads_one id s p (profile.view.bytes kind c) shown s p (law.records.long kind c) (λ rest. law.records.contact_seen kind c rest low high f)
        (rw (ne_eqb (profile.view.id c) id n))

    own-leads : (s : ℕ) (p : Point) (s' : ℕ) (p' : Point) → may_step table kind (profile.view.flags c) (profile.view.place c) s p ≡ true
        → stepped table (profile.view.flags c) (profile.view.place c) s ≡ at s' p' → LeadsBy (profile.view.id c) s p (profile.view.bytes kind c) s' p'
    unfolding path_step
    own-leads s p s' p' m e =
        leads_one (profile.view.id c) s p (profile.view.bytes kind c) shown s' p' (law.records.long kind c) (λ rest. law.records.contact_seen kind c rest low high f)
        (rw (eq-eqb (profile.view.id c) (profile.view.id c) refl, m) e)

  -- ---- the contacts of a frame that conforms

  module _ (id : ℕ) where
    may-step : (t : Table) (c : C) → legal profile.view table t c ≡ true → stays profile.view t c ≡ true
        → may_step table touched (profile.view.flags c) (profile.view.place c) (state_at t (profile.view.id c)) (place_at t (profile.view.id c)) ≡ true
    may-step t c l k = rw (not-true (eqb (next_of profile.view table t c) illegal) l) k

    moved-leads : (t : Table) (c : C) → SoundBy t → Fits c → legal profile.view table t c ≡ true → stays profile.view t c ≡ true
        → MovesBy id t (profile.view.bytes touched c) (moved profile.view table t c)
    unfolding moved
    moved-leads t c h f l k = go (eqb (profile.view.id c) id) refl
      where
        s : ℕ
        s = next_of profile.view table t c

        q : Point
        q = place_in s (profile.view.place c)

        go : (b : Bool) → eqb (profile.view.id c) id ≡ b → MovesBy id t (profile.view.bytes touched c) (with_contact t (profile.view.id c) s q)
        go true e =
            let z : profile.view.id c ≡ id = eqb-true _ _ e in
            rw (← z, state-same t (profile.view.id c) s q h.whole (law.records.id_fits c f), place_same t (profile.view.id c) s q h.whole (law.records.id_fits c f))
            (own-leads touched c (omega arith) (omega arith) f (state_at t (profile.view.id c)) (place_at t (profile.view.id c)) s q (may-step t c l k) refl)
        go false e =
            let n : profile.view.id c ≡ id → ⊥ = eqb-false _ _ e in
            rw (state-other t (profile.view.id c) s q id (λ z. n (sym z)), place_other t (profile.view.id c) s q id (λ z. n (sym z)))
            (other-leads touched c (omega arith) (omega arith) f id (state_at t id) (place_at t id) n)

    contacts-lead : (t : Table) (cs : List C) → SoundBy t → All Fits cs → distinct profile.view cs ≡ true → every (legal profile.view table t) cs ≡ true → every (stays profile.view t) cs ≡ true
        → MovesBy id t (contacts_bytes (profile.view.bytes touched) cs) (table_after profile.view table t cs)
    unfolding contacts_bytes table_after
    contacts-lead t [] h f d l k = moves-none id t
    contacts-lead t (c ∷ cs) h f d l k =
        let u = moved profile.view table t c in
        let lc = every_first (legal profile.view table t) c cs l in
        let o = distinct-first profile.view c cs d in
        let i =
        contacts-lead u cs (moved-sound law t c h f.0 lc) f.1 (distinct-others profile.view c cs d)
        (legal-behind profile.view table t c cs o ∙ every-others (legal profile.view table t) c cs l)
        (stays-behind profile.view table t c cs o ∙ every-others (stays profile.view t) c cs k) in
        moves-then id t (profile.view.bytes touched c) u (contacts_bytes (profile.view.bytes touched) cs) (table_after profile.view table u cs)
        (moved-leads t c h f.0 lc (every_first (stays profile.view t) c cs k)) i

    frame-leads : (x : S) (t : Table) (f : Frame C) → SoundBy t → FrameFits Fits f → Conforming profile.view (profile.rules x) t f.contacts
        → MovesBy id t (frame_bytes (profile.view.bytes touched) f) (table_after profile.view (profile.rules x).next t f.contacts)
    unfolding frame_bytes
    frame-leads x t f h hf c =
        rw (law.one_table x)
        (moves-then id t (head_bytes (head_of f)) t (contacts_bytes (profile.view.bytes touched) f.contacts) (table_after profile.view table t f.contacts)
        (head-leads id (state_at t id) (place_at t id) (head_of f) hf.head)
        (contacts-lead t f.contacts h hf.contacts c.distinct (rw (law.one_table x) at c.legal) c.stays))

  -- ---- records that no message carries: of the stored position, whose flags lead out of range

  module _ (t : Table) (h : SoundBy t) (kind flags id : ℕ) (high : kind < 4) (low : 2 ≤ kind) (hf : flags < 64) (hi : id < contacts) where
    abbrev stored : C
    stored = profile.view.bare flags id (place_at t id)

    stored-fits : Fits stored
    stored-fits = law.records.bare-fits flags id (place_at t id) hf hi (h.fits id)

    stored-flags : profile.view.flags stored ≡ flags
    stored-flags = law.records.bare_flags flags id (place_at t id)

    stored-id : profile.view.id stored ≡ id
    stored-id = law.records.bare_id flags id (place_at t id)

    stored-place : profile.view.place stored ≡ place_at t id
    stored-place = law.records.bare_place flags id (place_at t id)

    stored_other : (k s : ℕ) (p : Point) → (id ≡ k → ⊥) → LeadsBy k s p (stored_bytes profile.view kind flags t id) s p
    stored_other k s p n = other-leads kind stored (omega arith) high stored-fits k s p (λ e. n (sym stored-id ∙ e))

    stored-own : of_kind kind flags (state_at t id) ≡ true → table flags (state_at t id) ≡ out → LeadsBy id (state_at t id) (place_at t id) (stored_bytes profile.view kind flags t id) out origin
    stored-own k e =
        rw stored-id at
        (own-leads kind stored (omega arith) high stored-fits (state_at t id) (place_at t id) out origin
        (rw (stored-flags, stored-place, k, e, ne_eqb kind 1 (λ z. omega arith), same_place_lem (place_at t id)))
        (rw (stored-flags, e)))

  module _ (t : Table) (h : SoundBy t) where
    -- ---- a cancel

    cancel-other : (i : ℕ) → i < contacts → (id s : ℕ) (p : Point) → (i ≡ id → ⊥) → LeadsBy id s p (cancel_bytes profile.view t i) s p
    cancel-other i l id s p n = go (active (state_at t i)) refl
      where
        go : (b : Bool) → active (state_at t i) ≡ b → LeadsBy id s p (cancel_bytes profile.view t i) s p
        go true e = rw (cancel-active profile.view t i e) (stored_other t h cancel_kind (cancel_flags (state_at t i)) i (lit< tt) (lit≤ tt) (cancel-small (state_at t i)) l id s p n)
        go false e = rw (cancel-out profile.view t i e) (leads-none id s p)

    cancel-own : (id : ℕ) → id < contacts → LeadsBy id (state_at t id) (place_at t id) (cancel_bytes profile.view t id) out origin
    cancel-own id l = go (active (state_at t id)) refl
      where
        go : (b : Bool) → active (state_at t id) ≡ b → LeadsBy id (state_at t id) (place_at t id) (cancel_bytes profile.view t id) out origin
        go true e =
            rw (cancel-active profile.view t id e)
            (stored-own t h cancel_kind (cancel_flags (state_at t id)) id (lit< tt) (lit≤ tt) (cancel-small (state_at t id)) l (eq-eqb (cancel_flags (state_at t id)) (cancel_flags (state_at t id)) refl) (law.steps.cancel (state_at t id) (h.states id) e))
        go false e =
            let z = out_of (state_at t id) e in
            rw (cancel-out profile.view t id e, z, h.places id z) (leads-none id out origin)

    -- ids that are not this one
    skipped : (n i id s : ℕ) (p : Point) → i + n ≤ contacts → ((k : ℕ) → i ≤ k → k < i + n → k ≡ id → ⊥) → LeadsBy id s p (cancels_from profile.view t i n) s p
    unfolding cancels_from
    skipped zero i id s p l d = leads-none id s p
    skipped (suc n) i id s p l d =
        leads-then id s p (cancel_bytes profile.view t i) s p (cancels_from profile.view t (suc i) n) s p
        (cancel-other i (omega arith) id s p (d i (omega arith) (omega arith)))
        (skipped n (suc i) id s p (omega arith) (λ k a b. d k (omega arith) (omega arith)))

    -- ids among which it is
    passed : (n i id : ℕ) → i + n ≤ contacts → i ≤ id → id < i + n → LeadsBy id (state_at t id) (place_at t id) (cancels_from profile.view t i n) out origin
    unfolding cancels_from
    passed zero i id l a b = absurd (omega arith)
    passed (suc n) i id l a b = go (eqb i id) refl (λ m. passed n (suc i) id (omega arith) m (omega arith))
      where
        go : (c : Bool) → eqb i id ≡ c → (suc i ≤ id → LeadsBy id (state_at t id) (place_at t id) (cancels_from profile.view t (suc i) n) out origin)
            → LeadsBy id (state_at t id) (place_at t id) (cancel_bytes profile.view t i ++ cancels_from profile.view t (suc i) n) out origin
        go true e ih =
            let z : i ≡ id = eqb-true _ _ e in
            leads-then id (state_at t id) (place_at t id) (cancel_bytes profile.view t i) out origin (cancels_from profile.view t (suc i) n) out origin
            (rw z (cancel-own id (omega arith)))
            (skipped n (suc i) id out origin (omega arith) (λ k x y w. omega arith))
        go false e ih =
            let d : i ≡ id → ⊥ = eqb-false _ _ e in
            leads-then id (state_at t id) (place_at t id) (cancel_bytes profile.view t i) (state_at t id) (place_at t id) (cancels_from profile.view t (suc i) n) out origin
            (cancel-other i (omega arith) id (state_at t id) (place_at t id) d) (ih (omega (arith, d)))

    cancels-lead : (id : ℕ) → id < contacts → MovesBy id t (cancels profile.view t) resting
    cancels-lead id l = rw (resting-state id, resting-place id) (passed contacts 0 id (lit≤ tt) (omega arith) l)

    -- ---- a dismissal

    dismissal-leads : (i id : ℕ) → MovesBy id t (dismiss_bytes profile.view t i) (dismiss_table t i)
    unfolding dismiss_bytes dismiss_table
    dismissal-leads i id = go (eqb (state_at t i) hovering) refl (ltb i contacts) refl
      where
        next-out : state_at t i ≡ hovering → table 0x02 (state_at t i) ≡ out
        next-out e = let l : Live hovering = rw (← e) (h.states i) in rw e (law.steps.dismiss l)

        go : (b : Bool) → eqb (state_at t i) hovering ≡ b → (c : Bool) → ltb i contacts ≡ c
            → MovesBy id t (cond b (stored_bytes profile.view dismiss_kind 0x02 t i) []) (cond b (with_contact t i out origin) t)
        go false e c l = moves-none id t
        go true e false l =
            let z : state_at t i ≡ hovering = eqb-true _ _ e in
            absurd (omega (arith, beyond t i h.whole (ltb-false _ _ l)))
        go true e true l = on (eqb i id) refl
          where
            k : i < contacts
            k = ltb-true _ _ l

            on : (b : Bool) → eqb i id ≡ b → MovesBy id t (stored_bytes profile.view dismiss_kind 0x02 t i) (with_contact t i out origin)
            on true x =
                let z : i ≡ id = eqb-true _ _ x in
                rw (← z, state-same t i out origin h.whole k, place_same t i out origin h.whole k)
                (stored-own t h dismiss_kind 0x02 i (lit< tt) (lit≤ tt) (lit< tt) k refl (next-out (eqb-true _ _ e)))
            on false x =
                let n : i ≡ id → ⊥ = eqb-false _ _ x in
                rw (state-other t i out origin id (λ z. n (sym z)), place_other t i out origin id (λ z. n (sym z)))
                (stored_other t h dismiss_kind 0x02 i (lit< tt) (lit≤ tt) (lit< tt) k id (state_at t id) (place_at t id) n)

  -- ---- frames, messages, histories

  module _ (id : ℕ) (l : id < contacts) where
    step-leads : (x : S) (m : Machine) (f : Frame C) → Steady Live PlaceFits (profile.rules x).most m → FrameFits Fits f
        → MovesBy id m.table (step_bytes profile.view (profile.rules x) m f) (step_machine profile.view (profile.rules x) m f).table
    step-leads x m f h hf = go (judged profile.view (profile.rules x) m f)
      where
        go : {n : Machine} {s : List ℕ} → Judged profile.view (profile.rules x) m f n s → MovesBy id m.table s n.table
        go (injects c) = frame-leads id x m.table f h.table hf (conforming profile.view (profile.rules x) m.table f.contacts c)
        go (ignores i) = moves-none id m.table
        go Judged.cancels = cancels-lead m.table h.table id l

    run-leads : (x : S) (m : Machine) (fs : List (Frame C)) → Steady Live PlaceFits (profile.rules x).most m → All (FrameFits Fits) fs
        → MovesBy id m.table (run_bytes profile.view (profile.rules x) m fs) (run_machine profile.view (profile.rules x) m fs).table
    unfolding run_bytes run_machine
    run-leads x m [] h hf = moves-none id m.table
    run-leads x m (f ∷ fs) h hf =
        let n = step_machine profile.view (profile.rules x) m f in
        moves-then id m.table (step_bytes profile.view (profile.rules x) m f) n.table (run_bytes profile.view (profile.rules x) n fs) (run_machine profile.view (profile.rules x) n fs).table
        (step-leads x m f h hf.0) (run-leads x n fs (step-steady law x m f hf.0 h) hf.1)

    next-leads : (s : Stream S) (g : Given S C) → Proper Fits s g → Kept profile Live PlaceFits s → MovesBy id s.machine.table (wrote profile s g) (next profile s g).machine.table
    unfolding next wrote
    next-leads s nothing p k = moves-none id s.machine.table
    next-leads s (settings x) p k = moves-none id s.machine.table
    next-leads s (frames fs) p k =
        let u = profile.untimed s.settings in
        run-leads s.settings s.machine (timed_frames u fs) k (timed-fit Fits u fs p)
    next-leads s (dismissal i) p k = dismissal-leads s.machine.table k.table i id

    pub written-leads : (s : Stream S) (gs : List (Given S C)) → AllProper profile Fits s gs → Kept profile Live PlaceFits s → MovesBy id s.machine.table (written profile s gs) (after profile s gs).machine.table
    unfolding written after AllProper
    written-leads s [] p k = moves-none id s.machine.table
    written-leads s (g ∷ gs) p k =
        let n = next profile s g in
        moves-then id s.machine.table (wrote profile s g) n.machine.table (written profile n gs) (after profile n gs).machine.table
        (next-leads s g p.0 k) (written-leads n gs p.1 (next-kept law s g p.0 k))
