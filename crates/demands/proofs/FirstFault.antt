-- The first fault answers, over the calls of the plain reading and of the strict one.
-- Assumes nothing.
use Prim.Native.Nat.{ℕ, ◌+◌, ◌≤◌}
use mathlib.Core.Path.{◌≡◌, refl, sym, ap, ◌∙◌}
use mathlib.Core.Bool.{Bool, true, false}
use mathlib.Core.List.{List, [], ◌∷◌, ◌++◌}
use native.Mathlib.Omega.{arith}
use lib.Dec.{leb, lit<}
use borrow.Author.Tests.{leb-true, leb-false}
use lib.ListN.{length, length-append}
use Rattle.paper.specs.Refusals.{none, truncated, trailing, no_room}
use Rattle.formats.specs.Format.{Got, got, bad, and_then, ended, whole}
use Rattle.formats.proofs.Laws.{never}
use Rattle.fields.specs.Integers.{taken_by}
use Rattle.messages.specs.Header.{header_bytes, most_bytes}
use Rattle.messages.specs.Header as event
use Rattle.messages.proofs.Laws.{message-whole}
use Rattle.framing.specs.Frame.{frames_bytes}
use Rattle.touch.specs.Touch.{Touch, touch, touch_record}
use Rattle.touch.proofs.Order.{form-touch-ordered}
use Rattle.reading.specs.Plain.{read_by, ReadsBy, refusal}
use Rattle.reading.specs.declared.PlainAnswer.{PlainAnswer}
use Rattle.demands.specs.FirstFault.{touch_message, FirstFault}
use Rattle.demands.specs.RoundTrip.{Refused}
use Rattle.demands.proofs.RoundTrip.{judged, accepted}

module _ (strictly : Bool) where
  abbrev bodies : List ℕ → Got Touch
  bodies l = whole (touch (taken_by strictly) false) trailing l

  -- ---- over what is read of a body and of the same with more behind it

  -- a fault stands
  fault-stands : (body more : List ℕ) (e : ℕ) → (e ≡ truncated → ⊥) → bodies body ≡ bad e → bodies (body ++ more) ≡ bad e
  unfolding ended
  fault-stands body more e other h = go ((touch (taken_by strictly) false).read body) refl h
    where
      go : (x : Got Touch) → (touch (taken_by strictly) false).read body ≡ x → and_then x (ended trailing) ≡ bad e → bodies (body ++ more) ≡ bad e
      go (bad n) w h =
          let z : n ≡ e = cc in
          let q : (touch (taken_by strictly) false).read (body ++ more) ≡ bad n = rw w at ((form-touch-ordered strictly false).stays body more (rw w (λ t. other (sym z ∙ t)))) in
          rw q (ap bad z)
      go (got m []) w h = never e m [] (sym h)
      go (got m (y ∷ u)) w h =
          let q : (touch (taken_by strictly) false).read (body ++ more) ≡ got m ((y ∷ u) ++ more) = rw w at ((form-touch-ordered strictly false).stays body more (rw w tt)) in
          rw q h

  -- and more behind what is accepted trails
  more-trails : (body : List ℕ) (y : ℕ) (more : List ℕ) (m : Touch) (t : List ℕ) → bodies body ≡ got m t → bodies (body ++ (y ∷ more)) ≡ bad trailing
  unfolding ended
  more-trails body y more m t h = go ((touch (taken_by strictly) false).read body) refl h
    where
      go : (x : Got Touch) → (touch (taken_by strictly) false).read body ≡ x → and_then x (ended trailing) ≡ got m t → bodies (body ++ (y ∷ more)) ≡ bad trailing
      go (bad n) w h = never n m t h
      go (got c (z ∷ u)) w h = never trailing m t h
      go (got c []) w h =
          let q : (touch (taken_by strictly) false).read (body ++ (y ∷ more)) ≡ got c (y ∷ more) = rw w at ((form-touch-ordered strictly false).stays body (y ∷ more) (rw w tt)) in
          rw q

  -- ---- over the calls

  -- the message of a body is read as its body is
  by-body : (body : List ℕ) → header_bytes + length body ≤ most_bytes → read_by strictly (touch_message body) ≡ bodies body
  by-body body h = message-whole (touch (taken_by strictly) false) event.touch body h (lit< tt)

  -- a refusal, by its number
  refused-number : (n : ℕ) (a : PlainAnswer) (before after : List ℕ) → Refused n a before after → a.refusal ≡ n
  refused-number n a before after h = ap (λ (v : PlainAnswer). v.refusal) h.answer

  module _ (body more : List ℕ) (a b : PlainAnswer) (before after before' after' : List ℕ) (fits : header_bytes + length (body ++ more) ≤ most_bytes)
      (h : ReadsBy strictly (touch_message body) a before after) (k : ReadsBy strictly (touch_message (body ++ more)) b before' after') where
    alone : read_by strictly (touch_message body) ≡ bodies body
    alone = by-body body (omega (arith, fits, length-append body more))

    stands : (a.refusal ≡ none → ⊥) → (a.refusal ≡ truncated → ⊥) → (a.refusal ≡ no_room → ⊥) → b ≡ a
    stands some long room = go (bodies body) refl
      where
        go : (x : Got Touch) → bodies body ≡ x → b ≡ a
        go (bad e) w =
            let r = (judged strictly (touch_message body) a before after h).refuses e (alone ∙ w) in
            let n = refused-number e a before after r in
            let q = by-body (body ++ more) fits ∙ fault-stands body more e (λ z. long (n ∙ z)) w in
            ((judged strictly (touch_message (body ++ more)) b before' after' k).refuses e q).answer ∙ sym r.answer
        go (got m t) w = by (leb (length (frames_bytes touch_record m.frames)) (length before)) refl
          where
            by : (c : Bool) → leb (length (frames_bytes touch_record m.frames)) (length before) ≡ c → b ≡ a
            by true z =
                let r = (judged strictly (touch_message body) a before after h).accepts m t (alone ∙ w) (leb-true _ _ z) in
                absurd (some (ap (λ (v : PlainAnswer). v.refusal) r.answer))
            by false z = absurd (room (refused-number no_room a before after ((judged strictly (touch_message body) a before after h).lacks_room m t (alone ∙ w) (leb-false _ _ z))))

    trails : a.refusal ≡ none → (more ≡ [] → ⊥) → b ≡ refusal trailing
    trails z some =
        let x = accepted strictly (touch_message body) a before after h z in
        go more refl x.content x.rest (sym alone ∙ x.read)
      where
        go : (l : List ℕ) → more ≡ l → (m : Touch) (t : List ℕ) → bodies body ≡ got m t → b ≡ refusal trailing
        go [] e m t w = absurd (some e)
        go (y ∷ l) e m t w =
            let q = by-body (body ++ more) fits ∙ ap (λ (u : List ℕ). bodies (body ++ u)) e ∙ more-trails body y l m t w in
            ((judged strictly (touch_message (body ++ more)) b before' after' k).refuses trailing q).answer

pub the-first-fault-answers : (strictly : Bool) → FirstFault strictly
the-first-fault-answers strictly =
    record {
      stands = λ body more a b before after before' after' fits h k. stands strictly body more a b before after before' after' fits h k;
      trails = λ body more a b before after before' after' fits h k. trails strictly body more a b before after before' after' fits h k;
    }
