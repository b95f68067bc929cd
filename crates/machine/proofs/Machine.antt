-- What becomes of frames: each alone, and one after the other.
-- Assumes nothing.
use Prim.Native.Nat.{ℕ, zero, suc, ◌+◌, ◌*◌, ◌-◌, ◌≤◌, ◌<◌}
use mathlib.Core.Path.{◌≡◌, refl, sym, ap, ◌∙◌}
use mathlib.Core.Bool.{Bool, true, false, cond}
use mathlib.Core.List.{List, [], ◌∷◌, ◌++◌, append_assoc}
use native.Mathlib.Nat.{add-zero, zero-add, add_assoc}
use native.Mathlib.Numerals.{add-one}
use native.Mathlib.Omega.{arith}
use borrow.Author.Tests.{ne_eqb}
use lib.ListN.{length, take, drop, length-append}
use Rattle.house.specs.Fields.{record_bytes}
use Rattle.house.specs.Layout.{touched, cancelled as cancel_kind, dismissed as dismiss_kind}
use Rattle.framing.specs.Frame.{Frame, frame_bytes}
use Rattle.states.specs.Table.{out, hovering}
use Rattle.machine.specs.Table.{Table, contacts, state_at, with_contact, origin, resting, active, one, count_active}
use Rattle.machine.specs.Rules.{View, Rules}
use Rattle.machine.specs.Conforms.{table_after, conforms}
use Rattle.machine.specs.Held.{nobody, active_ids, held_after, opening}
use Rattle.machine.specs.Machine.{Machine, stored_bytes, cancel_flags, cancel_bytes, cancels_from, cancels, Verdict, injected, ignored, cancelled, verdict, step_machine, step_bytes, Counts, count_of, plus, none, run_machine, run_bytes, run_counts, dismiss_table, dismiss_bytes}
use Rattle.machine.proofs.Table.{count-step, count-all}

-- ---- counts

pub none-plus : (k : Counts) → plus none k ≡ k
none-plus k =
    λ i. record { injected = zero-add k.injected i; ignored = zero-add k.ignored i; cancelled = zero-add k.cancelled i }

pub plus_none : (k : Counts) → plus k none ≡ k
plus_none k =
    λ i. record { injected = add-zero k.injected i; ignored = add-zero k.ignored i; cancelled = add-zero k.cancelled i }

pub plus_assoc : (k l n : Counts) → plus (plus k l) n ≡ plus k (plus l n)
plus_assoc k l n =
    λ i. record {
      injected = add_assoc k.injected l.injected n.injected i;
      ignored = add_assoc k.ignored l.ignored n.ignored i;
      cancelled = add_assoc k.cancelled l.cancelled n.cancelled i;
    }

abbrev pub total : Counts → ℕ
total k = k.injected + k.ignored + k.cancelled

one-frame : (v : Verdict) → total (count_of v) ≡ 1
one-frame injected = refl
one-frame ignored = refl
one-frame cancelled = refl

module _ {C : Type 0} (view : View C) where
  -- ---- one frame

  module _ (rules : Rules C) (m : Machine) where
    -- "Any other frame is ignored."
    pub verdict-other : (cs : List C) → m.running ≡ false → opening view m.held cs ≡ false → verdict view rules m cs ≡ ignored
    unfolding verdict
    verdict-other cs h o =
        ap (λ b. cond (cond b true (opening view m.held cs)) (cond (conforms view rules m.table cs) injected cancelled) ignored) h ∙ rw o

    module _ (f : Frame C) where
      pub injected-machine : verdict view rules m f.contacts ≡ injected
          → step_machine view rules m f ≡ record { table = table_after view rules.next m.table f.contacts; running = true; held = cond m.running m.held nobody }
      unfolding step_machine
      injected-machine h = rw h

      pub injected-bytes : verdict view rules m f.contacts ≡ injected → step_bytes view rules m f ≡ frame_bytes (view.bytes touched) f
      unfolding step_bytes
      injected-bytes h = rw h

      pub ignored-machine : verdict view rules m f.contacts ≡ ignored
          → step_machine view rules m f ≡ record { table = m.table; running = m.running; held = held_after view m.held f.contacts }
      unfolding step_machine
      ignored-machine h = rw h

      pub ignored-bytes : verdict view rules m f.contacts ≡ ignored → step_bytes view rules m f ≡ []
      unfolding step_bytes
      ignored-bytes h = rw h

      pub cancelled-machine : verdict view rules m f.contacts ≡ cancelled
          → step_machine view rules m f ≡ record { table = resting; running = false; held = held_after view (active_ids m.table) f.contacts }
      unfolding step_machine
      cancelled-machine h = rw h

      pub cancelled-bytes : verdict view rules m f.contacts ≡ cancelled → step_bytes view rules m f ≡ cancels view m.table
      unfolding step_bytes
      cancelled-bytes h = rw h

  -- ---- frames one after the other

  module _ (rules : Rules C) where
    pub machine-append : (m : Machine) (fs gs : List (Frame C)) → run_machine view rules m (fs ++ gs) ≡ run_machine view rules (run_machine view rules m fs) gs
    unfolding run_machine
    machine-append m [] gs = refl
    machine-append m (f ∷ fs) gs = machine-append (step_machine view rules m f) fs gs

    pub bytes-append : (m : Machine) (fs gs : List (Frame C)) → run_bytes view rules m (fs ++ gs) ≡ run_bytes view rules m fs ++ run_bytes view rules (run_machine view rules m fs) gs
    unfolding run_machine run_bytes
    bytes-append m [] gs = refl
    bytes-append m (f ∷ fs) gs =
        let n = step_machine view rules m f in
        rw (bytes-append n fs gs) (sym (append_assoc (step_bytes view rules m f) (run_bytes view rules n fs) (run_bytes view rules (run_machine view rules n fs) gs)))

    -- "The three counts add up to frameCount."
    pub counts-total : (m : Machine) (fs : List (Frame C)) → total (run_counts view rules m fs) ≡ length fs
    unfolding run_counts
    counts-total m [] = refl
    counts-total m (f ∷ fs) = omega (arith, one-frame (verdict view rules m f.contacts), counts-total (step_machine view rules m f) fs)

  -- ---- cancelling

  module _ (t : Table) where
    pub cancel-active : (id : ℕ) → active (state_at t id) ≡ true → cancel_bytes view t id ≡ stored_bytes view cancel_kind (cancel_flags (state_at t id)) t id
    unfolding cancel_bytes
    cancel-active id h = rw h

    pub cancel-out : (id : ℕ) → active (state_at t id) ≡ false → cancel_bytes view t id ≡ []
    unfolding cancel_bytes
    cancel-out id h = rw h

    -- in the shape that a loop over the ids asks for
    pub cancels-step : (id : ℕ) → id < contacts → cancels_from view t id (contacts - id) ≡ cancel_bytes view t id ++ cancels_from view t (id + 1) (contacts - (id + 1))
    unfolding cancels_from
    cancels-step id h =
        let e : contacts - id ≡ suc (contacts - (id + 1)) = omega arith in
        rw (e, add-one id)

    pub cancels-end : (id : ℕ) → contacts ≤ id → cancels_from view t id (contacts - id) ≡ []
    unfolding cancels_from
    cancels-end id h =
        let e : contacts - id ≡ 0 = omega arith in
        rw e

    -- where each record is of 21 bytes
    module _ (long : (kind : ℕ) (c : C) → length (view.bytes kind c) ≡ record_bytes) where
      pub cancel-length : (id : ℕ) → length (cancel_bytes view t id) ≡ record_bytes * one (active (state_at t id))
      unfolding cancel_bytes
      cancel-length id = go (active (state_at t id)) (stored_bytes view cancel_kind (cancel_flags (state_at t id)) t id) (long _ _)
        where
          go : (b : Bool) (s : List ℕ) → length s ≡ record_bytes → length (cond b s []) ≡ record_bytes * one b
          go true s h = h
          go false s h = refl

      pub cancels-from-length : (id n : ℕ) → length (cancels_from view t id n) ≡ record_bytes * count_active (take n (drop id t.states))
      unfolding cancels_from state_at count_active
      cancels-from-length id zero = refl
      cancels-from-length id (suc n) =
          let a = cancel-length id in
          let i = cancels-from-length (suc id) n in
          let s = count-step n t.states id in
          length-append (cancel_bytes view t id) (cancels_from view t (suc id) n) ∙ omega (arith, a, i, s)

      pub cancels-length : length t.states ≡ contacts → length (cancels view t) ≡ record_bytes * count_active t.states
      cancels-length h = cancels-from-length 0 contacts ∙ ap (λ k. record_bytes * k) (count-all t.states h)

  -- ---- dismissal

  module _ (t : Table) (id : ℕ) where
    pub dismiss-bytes : state_at t id ≡ hovering → dismiss_bytes view t id ≡ stored_bytes view dismiss_kind 0x02 t id
    unfolding dismiss_bytes
    dismiss-bytes h = rw h

    -- "otherwise nothing happens"
    pub keep-bytes : (state_at t id ≡ hovering → ⊥) → dismiss_bytes view t id ≡ []
    unfolding dismiss_bytes
    keep-bytes h = rw (ne_eqb (state_at t id) hovering h)

module _ (t : Table) (id : ℕ) where
  pub dismiss-table : state_at t id ≡ hovering → dismiss_table t id ≡ with_contact t id out origin
  unfolding dismiss_table
  dismiss-table h = rw h

  pub keep-table : (state_at t id ≡ hovering → ⊥) → dismiss_table t id ≡ t
  unfolding dismiss_table
  keep-table h = rw (ne_eqb (state_at t id) hovering h)
