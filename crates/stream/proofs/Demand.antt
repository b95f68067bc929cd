-- Demand 3, of every stream: of any profile, and of any messages, those that are nothing to it among them.
-- Assumes nothing.
use Prim.Native.Nat.{ℕ, ◌<◌}
use mathlib.Core.Path.{◌≡◌, ◌∙◌}
use mathlib.Core.Bool.{true}
use mathlib.Core.List.{List, [], ◌∷◌, ◌++◌}
use lib.ListN.{length}
use Rattle.states.specs.Table.{out}
use Rattle.house.specs.declared.Point.{Point}
use Rattle.framing.specs.Frame.{Frame, timed_frames}
use Rattle.framing.proofs.Timed.{timed-length}
use Rattle.house.specs.Records.{records_in}
use Rattle.machine.specs.Table.{Table, contacts, state_at, place_at, origin, resting}
use Rattle.machine.specs.Machine.{cancels}
use Rattle.machine.proofs.Machine.{total, counts-total}
use Rattle.stream.specs.Stream.{Profile, Stream, Given, frames_given, opens, Unopened, UnopenedAfter, Silent, SilentAs, NoneActive, machine_at, bytes_at, counts_at, CancelledAfter, next, wrote, after, written, AsRested}
use Rattle.stream.specs.Path.{Seen, path, at}
use Rattle.stream.specs.Asked.{Laws, All, FrameFits, AllProper}
use Rattle.stream.proofs.Steadiness.{none-active-rests}
use Rattle.stream.proofs.Kept.{Kept, all-front, frames-kept, next-kept}
use Rattle.stream.proofs.Quiet.{after-quiet, front-wrote, cancel-wrote, cancel_left, since-cancel}
use Rattle.stream.proofs.Rested.{rested-from}
use Rattle.stream.proofs.Paths.{moves-path, written-leads}

-- ---- of a profile that keeps what is asked of it

module _ {S C R : Type 0} {profile : Profile S C} {table : ℕ → ℕ → ℕ} {read : List ℕ → R} {seen : R → Seen} {Live : ℕ → Type 0} {Fits : C → Type 0} {PlaceFits : Point → Type 0} (law : Laws profile table read seen Live Fits PlaceFits) where
  -- What is always true: all 256 contacts are there, each in a live state, at 0, 0 where it is out of range, at most so many active as may be, and
  -- none where the stream ignores; the set of ids has a mark for each, and is empty where the stream runs.
  pub every-message-keeps-it : (s : Stream S) (gs : List (Given S C)) → AllProper profile Fits s gs → Kept profile Live PlaceFits s → Kept profile Live PlaceFits (after profile s gs)
  unfolding after AllProper
  every-message-keeps-it s [] p k = k
  every-message-keeps-it s (g ∷ gs) p k = every-message-keeps-it (next profile s g) gs p.1 (next-kept law s g p.0 k)

  -- "Each contact's records are a legal path through the three states from out of range": from rest on, and it ends where the stream has that
  -- contact.
  pub each-contact's-records-are-a-legal-path : (id : ℕ) → id < contacts → (s : Stream S) (gs : List (Given S C)) → s.machine.table ≡ resting → Kept profile Live PlaceFits s → AllProper profile Fits s gs
      → let t : Table = (after profile s gs).machine.table in path table seen id (records_in read (written profile s gs)) out origin ≡ at (state_at t id) (place_at t id)
  each-contact's-records-are-a-legal-path id l s gs e k p =
      moves-path id s.machine.table (written profile s gs) (after profile s gs).machine.table e (written-leads law id l s gs p k)

  -- "From any opening frame accepted while no contact is active, the records and the contact table are those of a rested receiver with the same
  -- settings given that frame and all that follows": f is the opening frame, in either mode, after the frames fs of its message.
  pub from-an-opening-frame-as-if-rested : (s : Stream S) → Kept profile Live PlaceFits s → (fs : List (Frame C)) (f : Frame C) (gs : List (Frame C)) → All (FrameFits Fits) (fs ++ (f ∷ gs)) → opens profile.view (machine_at profile s fs) f ≡ true
      → NoneActive (machine_at profile s fs).table → (more : List (Given S C)) → AsRested profile s fs f gs more
  from-an-opening-frame-as-if-rested s k fs f gs h o idle more =
      let m = frames-kept law s fs (all-front (FrameFits Fits) fs (f ∷ gs) h) k in
      rested-from profile s fs f gs o (none-active-rests (machine_at profile s fs).table m.table.whole m.table.places idle) m.empty more

-- ---- of any profile

module _ {S C : Type 0} (profile : Profile S C) where
  -- "After a cancel's own records nothing is written until an opening frame": dismissals included, a stream that ignores and has no active contact
  -- stays so as long as no opening frame is accepted.
  pub a-silent-stream-writes-nothing-until-an-opening-frame : (s : Stream S) (gs : List (Given S C)) → Silent s → Unopened profile s gs → (written profile s gs ≡ []) × Silent (after profile s gs)
  a-silent-stream-writes-nothing-until-an-opening-frame s gs k u = ((after-quiet profile s gs k u).none, (after-quiet profile s gs k u).still)

  -- Also where that frame stands inside a message: of the frames gs and hs, none of gs opening, a silent stream writes what hs write to any silent
  -- stream with the same settings and the set that gs leave.
  pub a-silent-stream-passes-over-frames-that-do-not-open : (s : Stream S) (g : Given S C) (gs hs : List (Frame C)) → Silent s → frames_given g ≡ gs ++ hs → UnopenedAfter profile s [] gs
      → (q : Stream S) → SilentAs profile s gs q → wrote profile s g ≡ bytes_at profile q hs
  a-silent-stream-passes-over-frames-that-do-not-open = front-wrote profile

  -- Of a message with the frames fs, f, gs, hs, where f is cancelled and none of gs opens: the records of fs, the cancel's own, and then what hs
  -- write to any silent stream with the same settings and the set that they leave; and it leaves what they leave of that one.
  pub after-a-cancelled-frame-nothing-until-an-opening-one : (s : Stream S) (g : Given S C) (fs : List (Frame C)) (f : Frame C) (gs hs : List (Frame C))
      → frames_given g ≡ fs ++ (f ∷ (gs ++ hs)) → CancelledAfter profile s fs f → UnopenedAfter profile s (fs ++ (f ∷ [])) gs
      → (q : Stream S) → SilentAs profile s (fs ++ (f ∷ gs)) q
      → (wrote profile s g ≡ (bytes_at profile s fs ++ cancels profile.view (machine_at profile s fs).table) ++ bytes_at profile q hs)
      × ((next profile s g).machine ≡ machine_at profile q hs)
  after-a-cancelled-frame-nothing-until-an-opening-one s g fs f gs hs e v u q a =
      (cancel-wrote profile s g fs f gs hs e v u q a, cancel_left profile s g fs f gs hs e v u q a)

  -- Of a message with the frames fs, f, gs, where f is cancelled and none of gs opens, and of all messages after it, as long as no opening frame is
  -- accepted, nothing is written but the records of fs and the cancel's own.
  pub after-a-cancel-nothing-until-an-opening-frame : (s : Stream S) (g : Given S C) (more : List (Given S C)) (fs : List (Frame C)) (f : Frame C) (gs : List (Frame C))
      → frames_given g ≡ fs ++ (f ∷ gs) → CancelledAfter profile s fs f → UnopenedAfter profile s (fs ++ (f ∷ [])) gs → Unopened profile (next profile s g) more
      → (written profile s (g ∷ more) ≡ bytes_at profile s fs ++ cancels profile.view (machine_at profile s fs).table) × Silent (after profile s (g ∷ more))
  after-a-cancel-nothing-until-an-opening-frame s g more fs f gs e v u k =
      let c = since-cancel profile s g more fs f gs e v u k in
      (c.own, c.silent)

  -- "The three counts add up to frameCount."
  pub counts-add-up-to-frame-count : (s : Stream S) (fs : List (Frame C)) → total (counts_at profile s fs) ≡ length fs
  counts-add-up-to-frame-count s fs =
      let u = profile.untimed s.settings in
      counts-total profile.view (profile.rules s.settings) s.machine (timed_frames u fs) ∙ timed-length u fs
