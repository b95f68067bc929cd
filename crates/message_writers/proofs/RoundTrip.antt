-- THE ROUND TRIP of the five messages: what a writer writes is read back the same, and what a reader accepts is written back to the same bytes.
-- Assumes nothing.
use Prim.Native.Nat.{ℕ, ◌+◌, ◌^◌, ◌≤◌, ◌<◌}
use mathlib.Core.Path.{◌≡◌, refl, sym, ap, ◌∙◌}
use mathlib.Core.List.{List, []}
use lib.Dec.{lit<, lit≤}
use lib.ListN.{length}
use Rattle.paper.specs.Refusals.{bad_field}
use Rattle.digits.specs.Digits.{Bytes}
use Rattle.slices.specs.Writing.{Draft, bytes}
use Rattle.slices.proofs.Drafts.{passed}
use Rattle.formats.specs.Format.{got, Format, byte, write_little}
use Rattle.formats.proofs.Laws.{Law}
use Rattle.messages.specs.Header.{header_bytes, most_bytes, server_ready, client_ready, suspend, resume, dismiss, read_message, write_message}
use Rattle.messages.specs.Bodies.{version, version_listed, flags_listed, ready_by, ready, nothing, server_ready_draft, client_ready_draft, suspend_draft, resume_draft, dismiss_draft}
use Rattle.messages.specs.declared.Ready.{Ready}
use Rattle.messages.proofs.Laws.{message-back, message-exact, message-sound, version-law, ready-law, nothing-law, dismiss-law}
use Rattle.message_writers.proofs.Writing.{server-draft, client-draft}

-- of messages of the event e with the body f, whose writer is given values that Fit their types
pub record RoundTrip {A : Type 0} (e : ℕ) (f : Format A) (draft : A → Draft) (Fit : A → Type 0) : Type 0 where
  pub back : (a : A) (s : List ℕ) → Fit a → draft a ≡ bytes s → read_message e f s ≡ got a []
  pub exact : (l : List ℕ) (a : A) (t : List ℕ) → Bytes l → read_message e f l ≡ got a t → Fit a × (draft a ≡ bytes l)

-- it is enough that the writer writes what holds, and that alone
record Drawn {A : Type 0} (e : ℕ) (f : Format A) (draft : A → Draft) (Fit : A → Type 0) : Type 0 where
  pub long : (a : A) → header_bytes + length (f.write a) ≤ most_bytes
  pub holds : (a : A) (s : List ℕ) → Fit a → draft a ≡ bytes s → f.Holds a
  pub fits : (a : A) → f.Holds a → Fit a
  pub draws : (a : A) → f.Holds a → draft a ≡ bytes (write_message e f a)

trip : {A : Type 0} (e : ℕ) (f : Format A) (draft : A → Draft) (Fit : A → Type 0) → Law (Unit {0}) f → e < 65536 → Drawn e f draft Fit → RoundTrip e f draft Fit
trip e f draft Fit law he d =
    record {
      back = λ a s h w.
          let k = d.holds a s h w in
          let z : bytes (write_message e f a) ≡ bytes s = sym (d.draws a k) ∙ w in
          let y : write_message e f a ≡ s = cc in
          rw y at (message-back f law e a k (d.long a) he);
      exact = λ l a t hl h.
          let k = message-sound f law e l a t hl h in
          (d.fits a k, d.draws a k ∙ ap bytes (sym (message-exact f law e tt l a t hl h)));
    }

-- ---- the five

-- what the types of the code hold
abbrev pub FitVersion : ℕ → Type 0
FitVersion v = v < 256 ^ 4

abbrev pub FitReady : Ready → Type 0
FitReady r = (r.flags < 256 ^ 4) × (r.version < 256 ^ 4) × (r.most < 256 ^ 2)

abbrev pub FitNothing : Unit {0} → Type 0
FitNothing u = Unit {0}

abbrev pub FitId : ℕ → Type 0
FitId i = i < 256

server-drawn : Drawn server_ready version server_ready_draft FitVersion
unfolding server_ready_draft write_little
server-drawn =
    record {
      long = λ v. lit≤ tt;
      holds = λ v s h w. (h, (passed (version_listed v) _ bad_field s w).0);
      fits = λ v h. h.0;
      draws = λ v h. server-draft v h.1;
    }

client-drawn : Drawn client_ready ready client_ready_draft FitReady
unfolding client_ready_draft ready_by write_little
client-drawn =
    record {
      long = λ r. lit≤ tt;
      holds = λ r s h w.
          let f = passed (flags_listed r.flags) _ bad_field s w in
          let v = passed (version_listed r.version) _ bad_field s f.1 in
          ((h.0, f.0), ((h.1, v.0), (h.2, refl)));
      fits = λ r h. (h.0.0, h.1.0.0, h.1.1.0);
      draws = λ r h. client-draft r h.0.1 h.1.0.1;
    }

empty-drawn : (e : ℕ) (d : Draft) → d ≡ bytes (write_message e nothing tt) → Drawn e nothing (λ u. d) FitNothing
empty-drawn e d w =
    record {
      long = λ u. lit≤ tt;
      holds = λ u s h k. refl;
      fits = λ u h. tt;
      draws = λ u h. w;
    }

dismiss-drawn : Drawn dismiss byte dismiss_draft FitId
unfolding dismiss_draft
dismiss-drawn =
    record {
      long = λ i. lit≤ tt;
      holds = λ i s h w. h;
      fits = λ i h. h;
      draws = λ i h. refl;
    }

suspend-is : suspend_draft ≡ bytes (write_message suspend nothing tt)
unfolding suspend_draft
suspend-is = refl

resume-is : resume_draft ≡ bytes (write_message resume nothing tt)
unfolding resume_draft
resume-is = refl

pub record RoundTrips : Type 0 where
  pub server-ready : RoundTrip server_ready version server_ready_draft FitVersion
  pub client-ready : RoundTrip client_ready ready client_ready_draft FitReady
  pub suspends : RoundTrip suspend nothing (λ u. suspend_draft) FitNothing
  pub resumes : RoundTrip resume nothing (λ u. resume_draft) FitNothing
  pub dismisses : RoundTrip dismiss byte dismiss_draft FitId

pub round-trips : RoundTrips
round-trips =
    record {
      server-ready = trip _ _ _ _ version-law (lit< tt) server-drawn;
      client-ready = trip _ _ _ _ ready-law (lit< tt) client-drawn;
      suspends = trip _ _ _ _ nothing-law (lit< tt) (empty-drawn suspend suspend_draft suspend-is);
      resumes = trip _ _ _ _ nothing-law (lit< tt) (empty-drawn resume resume_draft resume-is);
      dismisses = trip _ _ _ _ dismiss-law (lit< tt) dismiss-drawn;
    }
