-- What frames and dismissals keep true of the contacts: whole, in live states, at 0, 0 when out of range, at positions that fit, and not too many;
-- and of the set of ids: a mark for each, and empty while running.
-- Assumes nothing.
use Prim.Native.Nat.{ℕ, ◌≤◌, ◌<◌}
use mathlib.Core.Path.{◌≡◌, refl, sym, ap, ◌∙◌}
use mathlib.Core.Bool.{Bool, true, false, cond}
use mathlib.Core.List.{List, [], ◌∷◌}
use native.Mathlib.Omega.{arith}
use borrow.Author.Tests.{ltb-true, ltb-false, leb-true, eqb-true, eqb-false, not-true}
use lib.Dec.{eqb, ltb}
use lib.IntN.{pos}
use lib.ListN.{length, get_or, replicate, length-replicate, get_or-replicate, get_or-eq_default}
use lib.Seq.{ext_get_or}
use Rattle.states.specs.Table.{out, hovering, illegal}
use Rattle.house.specs.Layout.{touched}
use Rattle.house.specs.declared.Point.{Point}
use Rattle.well_formed.proofs.WellFormed.{never}
use Rattle.framing.specs.Frame.{Frame, frame_bytes}
use Rattle.machine.specs.Table.{Table, contacts, state_at, place_at, with_contact, origin, resting, count_active}
use Rattle.machine.specs.Rules.{View, Rules}
use Rattle.machine.specs.Conforms.{every, distinct, next_of, legal, stays, place_in, moved, table_after, conforms}
use Rattle.machine.specs.Held.{nobody, active_ids, held_without, held_after}
use Rattle.machine.specs.Machine.{Machine, arrays_in, in_mode, is_judged, Verdict, injected, ignored, cancelled, verdict, machine_after, bytes_for, cancels as cancels_of, step_machine, step_bytes, run_machine, dismiss_table, dismiss_arrays}
use Rattle.machine.proofs.Table.{Whole, state-same, state-other, place_same, place_other, with-whole, count_set, resting-whole, resting-state, resting-place, resting-count}
use Rattle.machine.proofs.Conforms.{both_left, both_right, every_first, every-others, distinct-first, distinct-others, legal-behind}
use Rattle.machine.proofs.Held.{nobody-length, active-length, without-length, without-nobody, after-length}
use Rattle.stream.specs.Stream.{Profile, NoneActive}
use Rattle.stream.specs.Path.{Seen}
use Rattle.stream.specs.Asked.{Laws, All, FrameFits}

-- ---- a table that frames leave

pub record Sound (Live : ℕ → Type 0) (PlaceFits : Point → Type 0) (t : Table) : Type 0 where
  pub whole : Whole t
  pub states : (id : ℕ) → Live (state_at t id)
  pub places : (id : ℕ) → state_at t id ≡ out → place_at t id ≡ origin
  pub fits : (id : ℕ) → PlaceFits (place_at t id)

-- "no contact is active" says all: every position is 0, 0
pub none-active-rests : (t : Table) → Whole t → ((id : ℕ) → state_at t id ≡ out → place_at t id ≡ origin) → NoneActive t → t ≡ resting
unfolding resting state_at place_at
none-active-rests t w h z =
    let o : (k : ℕ) → k < 256 → get_or (replicate 256 (pos 0)) k (pos 0) ≡ pos 0 = λ k b. get_or-replicate 256 k (pos 0) (pos 0) b in
    let p : (k : ℕ) → place_at t k ≡ origin = λ k. h k (z k) in
    let states = ext_get_or out t.states (replicate 256 out) (w.states ∙ sym (length-replicate 256 out)) (λ k b. z k ∙ sym (get_or-replicate 256 k out out (omega (arith, w.states)))) in
    let xs = ext_get_or (pos 0) t.xs (replicate 256 (pos 0)) (w.xs ∙ sym (length-replicate 256 (pos 0))) (λ k b. ap (λ q. q.x) (p k) ∙ sym (o k (omega (arith, w.xs)))) in
    let ys = ext_get_or (pos 0) t.ys (replicate 256 (pos 0)) (w.ys ∙ sym (length-replicate 256 (pos 0))) (λ k b. ap (λ q. q.y) (p k) ∙ sym (o k (omega (arith, w.ys)))) in
    λ i. record { states = states i; xs = xs i; ys = ys i }

-- an id that is no byte is out of range
pub beyond : (t : Table) (id : ℕ) → Whole t → contacts ≤ id → state_at t id ≡ out
unfolding state_at
beyond t id w h = get_or-eq_default t.states out {n = id} (omega (arith, w.states))

pub place-in : (s : ℕ) (p : Point) → s ≡ out → place_in s p ≡ origin
place-in s p h = rw h

-- a contact put into it
module _ {Live : ℕ → Type 0} {PlaceFits : Point → Type 0} (t : Table) (id s : ℕ) (p : Point) (h : Sound Live PlaceFits t) (l : id < contacts) (hs : Live s) (hp : s ≡ out → p ≡ origin) (hf : PlaceFits p) where
  with-sound : Sound Live PlaceFits (with_contact t id s p)
  with-sound =
      record {
        whole = with-whole t id s p h.whole;
        states = λ k. states k (eqb k id) refl;
        places = λ k. places k (eqb k id) refl;
        fits = λ k. fits k (eqb k id) refl;
      }
    where
      states : (k : ℕ) (b : Bool) → eqb k id ≡ b → Live (state_at (with_contact t id s p) k)
      states k true e = let z : k ≡ id = eqb-true _ _ e in rw (z, state-same t id s p h.whole l) hs
      states k false e = rw (state-other t id s p k (eqb-false _ _ e)) (h.states k)

      places : (k : ℕ) (b : Bool) → eqb k id ≡ b → state_at (with_contact t id s p) k ≡ out → place_at (with_contact t id s p) k ≡ origin
      places k true e =
          let z : k ≡ id = eqb-true _ _ e in
          rw (z, state-same t id s p h.whole l, place_same t id s p h.whole l) hp
      places k false e = rw (state-other t id s p k (eqb-false _ _ e), place_other t id s p k (eqb-false _ _ e)) (h.places k)

      fits : (k : ℕ) (b : Bool) → eqb k id ≡ b → PlaceFits (place_at (with_contact t id s p) k)
      fits k true e = let z : k ≡ id = eqb-true _ _ e in rw (z, place_same t id s p h.whole l) hf
      fits k false e = rw (place_other t id s p k (eqb-false _ _ e)) (h.fits k)

-- ---- a frame that conforms

module _ {C : Type 0} (view : View C) (rules : Rules C) where
  pub record Conforming (t : Table) (cs : List C) : Type 0 where
    pub distinct : distinct view cs ≡ true
    pub legal : every (legal view rules.next t) cs ≡ true
    pub stays : every (stays view t) cs ≡ true
    pub few : count_active (table_after view rules.next t cs).states ≤ rules.most

  pub conforming : (t : Table) (cs : List C) → conforms view rules t cs ≡ true → Conforming t cs
  unfolding conforms
  conforming t cs h =
      let a = both_right (distinct view cs) _ h in
      let b = both_right (every (legal view rules.next t) cs) _ a in
      let c = both_right (every (stays view t) cs) _ b in
      record {
        distinct = both_left (distinct view cs) _ h;
        legal = both_left (every (legal view rules.next t) cs) _ a;
        stays = both_left (every (stays view t) cs) _ b;
        few = leb-true _ _ (both_right (every rules.passes cs) _ c);
      }

  -- ---- what becomes of a frame: the machine and the bytes

  pub data Judged (m : Machine) (f : Frame C) : Machine → List ℕ → Type 0 where
    injects : conforms view rules m.table f.contacts ≡ true
        → Judged m f (record { table = table_after view rules.next m.table f.contacts; running = true; held = cond m.running m.held nobody }) (frame_bytes (view.bytes touched) f)
    ignores : m.running ≡ false → Judged m f (record { table = m.table; running = m.running; held = held_after view m.held f.contacts }) []
    cancels : Judged m f (record { table = resting; running = false; held = held_after view (active_ids m.table) f.contacts }) (cancels_of view m.table)

  -- a frame that is not judged finds the machine ignoring
  unjudged : (a b : Bool) → cond a true b ≡ false → a ≡ false
  unjudged true b h = never refl h
  unjudged false b h = refl

  pub judged : (m : Machine) (f : Frame C) → Judged m f (step_machine view rules m f) (step_bytes view rules m f)
  unfolding step_machine step_bytes verdict
  judged m f = go (is_judged view m f.contacts) refl (conforms view rules m.table f.contacts) refl
    where
      by : Verdict → Type 0
      by v = Judged m f (machine_after view v rules.next m f.contacts) (bytes_for view v m f)

      go : (a : Bool) → is_judged view m f.contacts ≡ a → (b : Bool) → conforms view rules m.table f.contacts ≡ b → by (cond a (cond b injected cancelled) ignored)
      go true j true h = injects h
      go true j false h = cancels
      go false j b h = ignores (unjudged m.running _ j)

-- ---- a machine that frames leave

pub record Steady (Live : ℕ → Type 0) (PlaceFits : Point → Type 0) (most : ℕ) (m : Machine) : Type 0 where
  pub table : Sound Live PlaceFits m.table
  pub few : count_active m.table.states ≤ most
  pub ignoring : m.running ≡ false → m.table ≡ resting
  pub empty : m.running ≡ true → m.held ≡ nobody
  pub marks : length m.held ≡ contacts

-- what an injected frame leaves of the set
pub emptied : (m : Machine) → (m.running ≡ true → m.held ≡ nobody) → cond m.running m.held nobody ≡ nobody
emptied m h = go m.running refl
  where
    go : (b : Bool) → m.running ≡ b → cond b m.held nobody ≡ nobody
    go true e = h e
    go false e = refl

module _ {S C R : Type 0} {profile : Profile S C} {table : ℕ → ℕ → ℕ} {read : List ℕ → R} {seen : R → Seen} {Live : ℕ → Type 0} {Fits : C → Type 0} {PlaceFits : Point → Type 0} (law : Laws profile table read seen Live Fits PlaceFits) where
  pub resting-sound : Sound Live PlaceFits resting
  resting-sound =
      record {
        whole = resting-whole;
        states = λ id. rw (resting-state id) law.steps.start;
        places = λ id h. resting-place id;
        fits = λ id. rw (resting-place id) law.records.origin-fits;
      }

  pub resting-steady : (most : ℕ) (m : Machine) → m.table ≡ resting → (m.running ≡ true → m.held ≡ nobody) → length m.held ≡ contacts → Steady Live PlaceFits most m
  resting-steady most m e n l =
      record {
        table = rw e resting-sound;
        few = rw (ap (λ (t : Table). count_active t.states) e ∙ resting-count) (omega arith);
        ignoring = λ h. e;
        empty = n;
        marks = l;
      }

  place-in-fits : (s : ℕ) (p : Point) → PlaceFits p → PlaceFits (place_in s p)
  place-in-fits s p h = go (eqb s out)
    where
      go : (b : Bool) → PlaceFits (cond b origin p)
      go true = law.records.origin-fits
      go false = h

  -- ---- contacts that are legal

  pub moved-sound : (t : Table) (c : C) → Sound Live PlaceFits t → Fits c → legal profile.view table t c ≡ true → Sound Live PlaceFits (moved profile.view table t c)
  unfolding moved
  moved-sound t c h f l =
      let s = next_of profile.view table t c in
      let n : s ≡ illegal → ⊥ = eqb-false _ _ (not-true _ l) in
      let live = law.steps.step (profile.view.flags c) (state_at t (profile.view.id c)) (h.states (profile.view.id c)) n in
      with-sound t (profile.view.id c) s (place_in s (profile.view.place c)) h (law.records.id_fits c f) live (place-in s (profile.view.place c)) (place-in-fits s (profile.view.place c) (law.records.place_fits c f))

  after-sound : (t : Table) (cs : List C) → Sound Live PlaceFits t → All Fits cs → distinct profile.view cs ≡ true → every (legal profile.view table t) cs ≡ true
      → Sound Live PlaceFits (table_after profile.view table t cs)
  unfolding table_after
  after-sound t [] h f d l = h
  after-sound t (c ∷ cs) h f d l =
      let m = moved-sound t c h f.0 (every_first (legal profile.view table t) c cs l) in
      let k = legal-behind profile.view table t c cs (distinct-first profile.view c cs d) ∙ every-others (legal profile.view table t) c cs l in
      after-sound (moved profile.view table t c) cs m f.1 (distinct-others profile.view c cs d) k

  -- ---- frames

  module _ (x : S) where
    pub step-steady : (m : Machine) (f : Frame C) → FrameFits Fits f → Steady Live PlaceFits (profile.rules x).most m → Steady Live PlaceFits (profile.rules x).most (step_machine profile.view (profile.rules x) m f)
    step-steady m f hf h = go (judged profile.view (profile.rules x) m f)
      where
        go : {n : Machine} {s : List ℕ} → Judged profile.view (profile.rules x) m f n s → Steady Live PlaceFits (profile.rules x).most n
        go (injects c) =
            let k = conforming profile.view (profile.rules x) m.table f.contacts c in
            record {
              table = rw (law.one_table x) (after-sound m.table f.contacts h.table hf.contacts k.distinct (rw (law.one_table x) at k.legal));
              few = k.few;
              ignoring = λ e. never refl e;
              empty = λ e. emptied m h.empty;
              marks = ap length (emptied m h.empty) ∙ nobody-length;
            }
        go (ignores i) =
            record {
              table = h.table;
              few = h.few;
              ignoring = h.ignoring;
              empty = λ e. never e i;
              marks = after-length profile.view m.held f.contacts ∙ h.marks;
            }
        go cancels =
            let a = active_ids m.table in
            let l = after-length profile.view a f.contacts ∙ (active-length m.table ∙ h.table.whole.states) in
            resting-steady (profile.rules x).most (record { table = resting; running = false; held = held_after profile.view a f.contacts }) refl (λ e. never e refl) l

    pub run-steady : (m : Machine) (fs : List (Frame C)) → All (FrameFits Fits) fs → Steady Live PlaceFits (profile.rules x).most m
        → Steady Live PlaceFits (profile.rules x).most (run_machine profile.view (profile.rules x) m fs)
    unfolding run_machine
    run-steady m [] hf h = h
    run-steady m (f ∷ fs) hf h = run-steady (step_machine profile.view (profile.rules x) m f) fs hf.1 (step-steady m f hf.0 h)

  -- ---- a dismissal

  module _ (t : Table) (id : ℕ) (h : Sound Live PlaceFits t) where
    dismiss-keeps : (P : Table → Type 0) → P t → (state_at t id ≡ hovering → id < contacts → P (with_contact t id out origin)) → P (dismiss_table t id)
    unfolding dismiss_table
    dismiss-keeps P a b = go (eqb (state_at t id) hovering) refl (ltb id contacts) refl
      where
        go : (c : Bool) → eqb (state_at t id) hovering ≡ c → (d : Bool) → ltb id contacts ≡ d → P (cond c (with_contact t id out origin) t)
        go false e d g = a
        go true e true g = b (eqb-true _ _ e) (ltb-true _ _ g)
        go true e false g = let z : state_at t id ≡ hovering = eqb-true _ _ e in absurd (omega (arith, beyond t id h.whole (ltb-false _ _ g)))

    dismiss-sound : Sound Live PlaceFits (dismiss_table t id)
    dismiss-sound = dismiss-keeps (Sound Live PlaceFits) h (λ e l. with-sound t id out origin h l law.steps.start (λ z. refl) law.records.origin-fits)

    dismiss-few : (n : ℕ) → count_active t.states ≤ n → count_active (dismiss_table t id).states ≤ n
    unfolding with_contact
    dismiss-few n k =
        dismiss-keeps (λ u. count_active u.states ≤ n) k
        (λ e l. omega (arith, count_set t.states id out (omega (arith, h.whole.states))))

    dismiss-resting : t ≡ resting → dismiss_table t id ≡ resting
    dismiss-resting e = dismiss-keeps (λ u. u ≡ resting) e (λ k l. absurd (omega (arith, ap (λ u. state_at u id) e ∙ resting-state id)))

  pub dismiss-steady : (most : ℕ) (m : Machine) (id : ℕ) → Steady Live PlaceFits most m → Steady Live PlaceFits most (in_mode m.running (dismiss_arrays (arrays_in m) id))
  dismiss-steady most m id h =
      record {
        table = dismiss-sound m.table id h.table;
        few = dismiss-few m.table id h.table most h.few;
        ignoring = λ e. dismiss-resting m.table id h.table (h.ignoring e);
        empty = λ e. ap (λ l. held_without l id) (h.empty e) ∙ without-nobody id;
        marks = without-length m.held id ∙ h.marks;
      }
