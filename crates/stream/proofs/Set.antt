-- The set of ids that a stream keeps while it ignores is that of the sentence; while it runs there is none, and once it is empty hovering opens.
-- Assumes nothing.
use Prim.Native.Nat.{ℕ, ◌<◌}
use mathlib.Core.Path.{◌≡◌, refl, sym, ap, ◌∙◌}
use mathlib.Core.Bool.{Bool, true, false, cond, not}
use mathlib.Core.List.{List, [], ◌∷◌, ◌++◌}
use native.Mathlib.Omega.{arith}
use borrow.Author.Tests.{eqb-true, eqb-false, not-true}
use lib.Dec.{eqb}
use lib.ListN.{length}
use Rattle.house.specs.declared.Point.{Point}
use Rattle.well_formed.proofs.WellFormed.{never}
use Rattle.framing.specs.Frame.{Frame}
use Rattle.machine.specs.Table.{contacts, state_at, active}
use Rattle.machine.specs.Rules.{View}
use Rattle.machine.specs.Conforms.{every}
use Rattle.machine.specs.Held.{is_held, nobody, active_ids, leaving, held_without, with_listing, held_after, is_hover, opening}
use Rattle.machine.specs.Machine.{Machine, Verdict, injected, ignored, cancelled, verdict, machine_after, step_machine, run_machine}
use Rattle.machine.proofs.Conforms.{every_first, every-others}
use Rattle.machine.proofs.Held.{nobody-held, none-held, active-held, active-length, without-same, without_other, listing-same, listing-other, listing-length, hovering-opens}
use Rattle.machine.proofs.Conforming.{timed-machine}
use Rattle.stream.specs.Stream.{Profile, Stream, Given, nothing, settings, frames, dismissal, next, after}
use Rattle.stream.specs.Set.{Happening, dismissing, lists, lists_last_leaving, joins, leaves, goes_on, InSet, happening, frames_log, log_of, log}
use Rattle.stream.specs.Path.{Seen}
use Rattle.stream.specs.Asked.{Laws, All, FrameFits, Proper, AllProper}
use Rattle.stream.proofs.Steadiness.{Steady, step-steady, emptied}
use Rattle.stream.proofs.Kept.{Kept, next-kept}
use Rattle.stream.proofs.Demand.{every-message-keeps-it}

-- ---- one id: whether it is in the set after what happened, and what the sentence says

module _ {C : Type 0} (view : View C) (id : ℕ) where
  -- by one happening, from whether it was in it before
  abbrev in_after : Bool → Happening C → Bool
  in_after b h = cond (leaves view id h) false (cond (joins view id h) true (cond (goes_on h) b false))

  -- .. and by all of them, in order
  unfoldable in_since : Bool → List (Happening C) → Bool
  in_since b [] = b
  in_since b (h ∷ hs) = in_since (in_after b h) hs

  since-append : (b : Bool) (hs more : List (Happening C)) → in_since b (hs ++ more) ≡ in_since (in_since b hs) more
  unfolding in_since
  since-append b [] more = refl
  since-append b (h ∷ hs) more = since-append (in_after b h) hs more

  abbrev stays : Happening C → Bool
  stays h = not (leaves view id h)

  -- why it is in it: the sentence, or it was in it before and all since is of one stretch, and it stayed
  data Whence (b : Bool) (hs : List (Happening C)) : Type 0 where
    joined : InSet view id hs → Whence b hs
    was : b ≡ true → every stays hs ≡ true → every goes_on hs ≡ true → Whence b hs

  whence : (b : Bool) (hs : List (Happening C)) → in_since b hs ≡ true → Whence b hs
  unfolding in_since every
  whence b [] e = was e refl refl
  whence b (h ∷ hs) e = go (whence (in_after b h) hs e)
    where
      by : (l j g : Bool) → leaves view id h ≡ l → joins view id h ≡ j → goes_on h ≡ g → cond l false (cond j true (cond g b false)) ≡ true
          → every stays hs ≡ true → every goes_on hs ≡ true → Whence b (h ∷ hs)
      by true j g el ej eg z s o = never z refl
      by false true g el ej eg z s o =
          joined (record { before = []; joining = h; since = hs; whole = refl; joined = ej; stayed = rw el s; ignoring = o })
      by false false true el ej eg z s o = was z (rw el s) (rw eg o)
      by false false false el ej eg z s o = never z refl

      go : Whence (in_after b h) hs → Whence b (h ∷ hs)
      go (joined i) =
          joined (record {
            before = h ∷ i.before;
            joining = i.joining;
            since = i.since;
            whole = ap (λ (l : List (Happening C)). h ∷ l) i.whole;
            joined = i.joined;
            stayed = i.stayed;
            ignoring = i.ignoring;
          })
      go (was z s o) = by (leaves view id h) (joins view id h) (goes_on h) refl refl refl z s o

  -- .. and so it is in it: one that is in it stays, and one that joins was of no matter before
  kept-since : (hs : List (Happening C)) → every stays hs ≡ true → every goes_on hs ≡ true → in_since true hs ≡ true
  unfolding in_since
  kept-since [] s o = refl
  kept-since (h ∷ hs) s o =
      let l = not-true (leaves view id h) (every_first stays h hs s) in
      let g = every_first goes_on h hs o in
      ap (λ b. in_since b hs) (by (joins view id h) l g) ∙ kept-since hs (every-others stays h hs s) (every-others goes_on h hs o)
    where
      by : (j : Bool) → leaves view id h ≡ false → goes_on h ≡ true → cond (leaves view id h) false (cond j true (cond (goes_on h) true false)) ≡ true
      by true l g = rw l
      by false l g = rw (l, g)

  in-since : (b : Bool) (hs : List (Happening C)) → InSet view id hs → in_since b hs ≡ true
  unfolding in_since
  in-since b hs i =
      let l = not-true (leaves view id i.joining) (every_first stays i.joining i.since i.stayed) in
      let e : in_after (in_since b i.before) i.joining ≡ true = rw (l, i.joined) in
      ap (in_since b) i.whole
      ∙ (since-append b i.before (i.joining ∷ i.since)
      ∙ (ap (λ c. in_since c i.since) e ∙ kept-since i.since (every-others stays i.joining i.since i.stayed) i.ignoring))

  -- ---- the marks, where there is one for this id

  -- an id that is not listed is not listed last
  unlisted : (cs : List C) → lists view id cs ≡ false → lists_last_leaving view id cs ≡ false
  unfolding lists lists_last_leaving
  unlisted [] e = refl
  unlisted (c ∷ cs) e = go (eqb (view.id c) id) (lists view id cs) e
    where
      go : (a b : Bool) → cond a true b ≡ false → cond b (lists_last_leaving view id cs) (cond a (leaving (view.flags c)) false) ≡ false
      go true b z = never refl z
      go false true z = never refl z
      go false false z = refl

  -- "lists it last": a later listing overrules an earlier one
  listed-held : (held : List ℕ) (cs : List C) → id < length held → is_held (held_after view held cs) id ≡ cond (lists view id cs) (not (lists_last_leaving view id cs)) (is_held held id)
  unfolding held_after lists lists_last_leaving
  listed-held held [] l = refl
  listed-held held (c ∷ cs) l =
      listed-held (with_listing view held c) cs (omega (arith, listing-length view held c)) ∙ go (eqb (view.id c) id) refl (lists view id cs)
    where
      last : Bool
      last = lists_last_leaving view id cs

      off : Bool
      off = leaving (view.flags c)

      go : (a : Bool) → eqb (view.id c) id ≡ a → (b : Bool)
          → cond b (not last) (is_held (with_listing view held c) id) ≡ cond (cond a true b) (not (cond b last (cond a off false))) (is_held held id)
      go true e true = refl
      go true e false =
          let z : view.id c ≡ id = eqb-true _ _ e in
          rw z at (listing-same view held c (omega (arith, z)))
      go false e true = refl
      go false e false = listing-other view held c id (λ z. eqb-false _ _ e (sym z))

  -- a frame that is ignored or cancelled, of ids that were in the set or active
  frame-held : (held : List ℕ) (cs : List C) → id < length held → is_held (held_after view held cs) id ≡ cond (lists_last_leaving view id cs) false (cond (lists view id cs) true (is_held held id))
  frame-held held cs l = listed-held held cs l ∙ go (lists view id cs) refl (lists_last_leaving view id cs) refl
    where
      go : (a : Bool) → lists view id cs ≡ a → (b : Bool) → lists_last_leaving view id cs ≡ b → cond a (not b) (is_held held id) ≡ cond b false (cond a true (is_held held id))
      go true e true f = refl
      go true e false f = refl
      go false e true f = never f (unlisted cs e)
      go false e false f = refl

  dismissed-held : (held : List ℕ) (k : ℕ) → id < length held → is_held (held_without held k) id ≡ in_since (is_held held id) (dismissing k ∷ [])
  unfolding in_since
  dismissed-held held k l = go (eqb k id) refl
    where
      go : (a : Bool) → eqb k id ≡ a → is_held (held_without held k) id ≡ cond a false (is_held held id)
      go true e =
          let z : k ≡ id = eqb-true _ _ e in
          rw z (without-same held id l)
      go false e = without_other held k id (λ z. eqb-false _ _ e (sym z))

-- ---- what the machine keeps, happening by happening

module _ {S C R : Type 0} {profile : Profile S C} {table : ℕ → ℕ → ℕ} {read : List ℕ → R} {seen : R → Seen} {Live : ℕ → Type 0} {Fits : C → Type 0} {PlaceFits : Point → Type 0} (law : Laws profile table read seen Live Fits PlaceFits) where
  module _ (id : ℕ) (l : id < contacts) where
    step-held : (x : S) (m : Machine) (f : Frame C) → Steady Live PlaceFits (profile.rules x).most m
        → is_held (step_machine profile.view (profile.rules x) m f).held id
        ≡ in_after profile.view id (is_held m.held id) (happening (verdict profile.view (profile.rules x) m f.contacts) m.table f.contacts)
    unfolding step_machine
    step-held x m f h = go (verdict profile.view (profile.rules x) m f.contacts)
      where
        either : (a b : Bool) → cond a true b ≡ cond (cond b true a) true false
        either true true = refl
        either true false = refl
        either false true = refl
        either false false = refl

        go : (v : Verdict) → is_held (machine_after profile.view v (profile.rules x).next m f.contacts).held id
            ≡ in_after profile.view id (is_held m.held id) (happening v m.table f.contacts)
        go injected = ap (λ s. is_held s id) (emptied m h.empty) ∙ nobody-held id
        go ignored = frame-held profile.view id m.held f.contacts (omega (arith, h.marks))
        go cancelled =
            frame-held profile.view id (active_ids m.table) f.contacts (omega (arith, active-length m.table, h.table.whole.states))
            ∙ rw (active-held m.table id)
            (ap (λ b. cond (lists_last_leaving profile.view id f.contacts) false b) (either (lists profile.view id f.contacts) (active (state_at m.table id))))

    run-held : (x : S) (m : Machine) (fs : List (Frame C)) → All (FrameFits Fits) fs → Steady Live PlaceFits (profile.rules x).most m
        → is_held (run_machine profile.view (profile.rules x) m fs).held id ≡ in_since profile.view id (is_held m.held id) (frames_log profile.view (profile.rules x) m fs)
    unfolding run_machine frames_log in_since
    run-held x m [] hf h = refl
    run-held x m (f ∷ fs) hf h =
        let n = step_machine profile.view (profile.rules x) m f in
        run-held x n fs hf.1 (step-steady law x m f hf.0 h)
        ∙ ap (λ b. in_since profile.view id b (frames_log profile.view (profile.rules x) n fs)) (step-held x m f h)

    next-held : (s : Stream S) (g : Given S C) → Proper Fits s g → Kept profile Live PlaceFits s
        → is_held (next profile s g).machine.held id ≡ in_since profile.view id (is_held s.machine.held id) (log_of profile s g)
    unfolding next in_since
    next-held s nothing p k = refl
    next-held s (settings x) p k = refl
    next-held s (frames fs) p k =
        ap (λ (m : Machine). is_held m.held id) (timed-machine profile.view (profile.rules s.settings) (profile.untimed s.settings) s.machine fs)
        ∙ run-held s.settings s.machine fs p k
    next-held s (dismissal i) p k = dismissed-held profile.view id s.machine.held i (omega (arith, k.marks))

    after-held : (s : Stream S) (gs : List (Given S C)) → AllProper profile Fits s gs → Kept profile Live PlaceFits s
        → is_held (after profile s gs).machine.held id ≡ in_since profile.view id (is_held s.machine.held id) (log profile s gs)
    unfolding after log AllProper in_since
    after-held s [] p k = refl
    after-held s (g ∷ gs) p k =
        after-held (next profile s g) gs p.1 (next-kept law s g p.0 k)
        ∙ (ap (λ b. in_since profile.view id b (log profile (next profile s g) gs)) (next-held s g p.0 k)
        ∙ sym (since-append profile.view id (is_held s.machine.held id) (log_of profile s g) (log profile (next profile s g) gs)))

    -- THE SENTENCE, of a stream whose set is empty, and of any messages: "While ignoring, keep a set of ids: those active at the cancel, the offending
    -- frame's, and those of each frame ignored since. An id leaves when an ignored or offending frame lists it last with 0x02, 0x22, 0x04 or 0x24, or
    -- by a dismissal. .. The set is emptied when a frame opens, before that frame is judged, and built again if it is cancelled."
    pub the-set-is-the-sentence : (s : Stream S) (gs : List (Given S C)) → s.machine.held ≡ nobody → AllProper profile Fits s gs → Kept profile Live PlaceFits s
        → (is_held (after profile s gs).machine.held id ≡ true → InSet profile.view id (log profile s gs))
        × (InSet profile.view id (log profile s gs) → is_held (after profile s gs).machine.held id ≡ true)
    the-set-is-the-sentence s gs e p k =
        let b = after-held s gs p k in
        let z : is_held s.machine.held id ≡ false = ap (λ h. is_held h id) e ∙ nobody-held id in
        (λ h. sentence z (whence profile.view id (is_held s.machine.held id) (log profile s gs) (sym b ∙ h)), λ i. b ∙ in-since profile.view id (is_held s.machine.held id) (log profile s gs) i)
      where
        sentence : {a : Bool} {hs : List (Happening C)} → a ≡ false → Whence profile.view id a hs → InSet profile.view id hs
        sentence z (joined i) = i
        sentence z (was y s o) = never y z

  -- "Outside ignoring the set is empty."
  pub running-means-an-empty-set : (s : Stream S) (gs : List (Given S C)) → AllProper profile Fits s gs → Kept profile Live PlaceFits s
      → (after profile s gs).machine.running ≡ true → (after profile s gs).machine.held ≡ nobody
  running-means-an-empty-set s gs p k = (every-message-keeps-it law s gs p k).empty

-- Once no id is in the set, a frame of contacts that all hover opens.
pub once-the-set-is-empty-a-hovering-frame-opens : {C : Type 0} (view : View C) (m : Machine) (c : C) (cs : List C) → length m.held ≡ contacts
    → ((id : ℕ) → id < contacts → is_held m.held id ≡ false) → every (is_hover view) (c ∷ cs) ≡ true → opening view m.held (c ∷ cs) ≡ true
once-the-set-is-empty-a-hovering-frame-opens view m c cs l h e =
    ap (λ s. opening view s (c ∷ cs)) (none-held m.held l h) ∙ hovering-opens view c cs e
