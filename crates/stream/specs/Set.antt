-- Document 02, #106, over a history: "While ignoring, keep a set of ids: those active at the cancel, the offending frame's, and those of each frame
-- ignored since. An id leaves when an ignored or offending frame lists it last with 0x02, 0x22, 0x04 or 0x24, or by a dismissal. .. The set is emptied
-- when a frame opens, before that frame is judged, and built again if it is cancelled."
use Rattle.std.specs.Prelude.{ℕ, ◌≡◌, Bool, true, false, cond, not, List, [], ◌∷◌, ◌++◌, eqb}
use Rattle.framing.specs.Frame.{Frame}
use Rattle.machine.specs.Table.{Table, state_at, active}
use Rattle.machine.specs.Rules.{View, Rules}
use Rattle.machine.specs.Conforms.{every}
use Rattle.machine.specs.Held.{leaving}
use Rattle.machine.specs.Machine.{Machine, Verdict, injected, ignored, cancelled, verdict, step_machine}
use Rattle.stream.specs.Stream.{Profile, Stream, Given, nothing, settings, frames, dismissal, next}

-- ---- what happened: a frame was injected, was ignored, or was cancelled (of a table, by its contacts); or a contact was dismissed

pub data Happening (C : Type 0) : Type 0 where
  injection : Happening C
  unheard : List C → Happening C
  cancel : Table → List C → Happening C
  dismissing : ℕ → Happening C

-- what becomes of a frame
abbrev pub happening : {C : Type 0} → Verdict → Table → List C → Happening C
happening injected t cs = injection
happening ignored t cs = unheard cs
happening cancelled t cs = cancel t cs

-- "since": neither a frame that opened nor another cancel
abbrev pub goes_on : {C : Type 0} → Happening C → Bool
goes_on injection = false
goes_on (unheard cs) = true
goes_on (cancel t cs) = false
goes_on (dismissing k) = true

module _ {C : Type 0} (view : View C) where
  -- ---- an id in a frame

  unfoldable pub lists : ℕ → List C → Bool
  lists id [] = false
  lists id (c ∷ cs) = cond (eqb (view.id c) id) true (lists id cs)

  -- "lists it last with 0x02, 0x22, 0x04 or 0x24"
  unfoldable pub lists_last_leaving : ℕ → List C → Bool
  lists_last_leaving id [] = false
  lists_last_leaving id (c ∷ cs) = cond (lists id cs) (lists_last_leaving id cs) (cond (eqb (view.id c) id) (leaving (view.flags c)) false)

  -- ---- an id and the set

  -- "those active at the cancel, the offending frame's, and those of each frame ignored since"
  abbrev pub joins : ℕ → Happening C → Bool
  joins id injection = false
  joins id (unheard cs) = lists id cs
  joins id (cancel t cs) = cond (active (state_at t id)) true (lists id cs)
  joins id (dismissing k) = false

  -- "An id leaves when an ignored or offending frame lists it last with .., or by a dismissal."
  abbrev pub leaves : ℕ → Happening C → Bool
  leaves id injection = false
  leaves id (unheard cs) = lists_last_leaving id cs
  leaves id (cancel t cs) = lists_last_leaving id cs
  leaves id (dismissing k) = eqb k id

  -- THE SENTENCE: the id joined the set, and has not left it since
  pub record InSet (id : ℕ) (log : List (Happening C)) : Type 0 where
    pub before : List (Happening C)
    pub joining : Happening C
    pub since : List (Happening C)
    pub whole : log ≡ before ++ (joining ∷ since)
    pub joined : joins id joining ≡ true
    pub stayed : every (λ h. not (leaves id h)) (joining ∷ since) ≡ true
    pub ignoring : every goes_on since ≡ true

  -- ---- what happens by frames, each where those before it have led

  unfoldable pub frames_log : Rules C → Machine → List (Frame C) → List (Happening C)
  frames_log rules m [] = []
  frames_log rules m (f ∷ fs) = happening (verdict view rules m f.contacts) m.table f.contacts ∷ frames_log rules (step_machine view rules m f) fs

-- ---- .. and by the messages of a history

module _ {S C : Type 0} (profile : Profile S C) where
  abbrev pub log_of : Stream S → Given S C → List (Happening C)
  log_of s nothing = []
  log_of s (settings x) = []
  log_of s (frames fs) = frames_log profile.view (profile.rules s.settings) s.machine fs
  log_of s (dismissal id) = dismissing id ∷ []

  unfoldable pub log : Stream S → List (Given S C) → List (Happening C)
  log s [] = []
  log s (g ∷ gs) = log_of s g ++ log (next profile s g) gs
