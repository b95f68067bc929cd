-- A receiver makes of a padded message what it makes of the shortest of the same meaning.
-- Assumes nothing.
use Prim.Native.Nat.{ℕ}
use mathlib.Core.Path.{◌≡◌, refl, sym, ap, ◌∙◌}
use mathlib.Core.Bool.{Bool, true, false, cond}
use mathlib.Core.List.{List, [], ◌∷◌}
use lib.ListN.{length, take, drop}
use borrow.Author.Tests.{le-ltb, eq-eqb}
use Rattle.paper.specs.Refusals.{unexpected, trailing}
use Rattle.slices.specs.Writing.{left, given}
use Rattle.formats.specs.Format.{Got, got, bad, and_then, ended}
use Rattle.formats.proofs.Laws.{never}
use Rattle.fields.specs.Integers.{taken}
use Rattle.framing.proofs.Judged.{body-judged}
use Rattle.messages.specs.Header.{headed, one_of, header_bytes}
use Rattle.messages.specs.Header as event
use Rattle.messages.proofs.Laws.{message-got}
use Rattle.touch.specs.Limits.{touch_limits}
use Rattle.touch.specs.Touch.{Touch, contact, touch, body}
use Rattle.touch.proofs.Laws.{form-touch-law}
use Rattle.reading.specs.Plain.{plainly}
use Rattle.receiver.specs.Receive.{judged, takes, touched, body_effect, effect, draft_of, receiver_after, answer_after, Effect}
use Rattle.receiver.specs.declared.Receiver.{Receiver}
use Rattle.demands.specs.Padding.{PaddingChangesNothing}
use Rattle.demands.proofs.RoundTrip.{written-alike}

-- ---- what a receiver is given

-- a message that the plain reading accepts is refused for its event, or its body decides
effect_is : (r : Receiver) (l : List ℕ) (m : Touch) (t : List ℕ) → plainly l ≡ got m t
    → effect r l ≡ cond (one_of (takes r) event.touch) (and_then (body taken (judged r) (drop header_bytes l)) (λ n u. got (touched r n) u)) (bad unexpected)
unfolding effect headed
effect_is r l m t e =
    let g = (message-got (touch taken false) (form-touch-law false false) event.touch l m t e).head in
    rw (le-ltb _ _ g.low, le-ltb _ _ g.high, g.event, eq-eqb _ _ g.long) (go (one_of (takes r) event.touch))
  where
    go : (b : Bool) → and_then (cond b (got event.touch (drop header_bytes l)) (bad unexpected)) (body_effect r) ≡ cond b (and_then (body taken (judged r) (drop header_bytes l)) (λ n u. got (touched r n) u)) (bad unexpected)
    go true = refl
    go false = refl

-- the body of a message that is read ends with it
body-ends : (l : List ℕ) (m : Touch) (t : List ℕ) → plainly l ≡ got m t → body taken false (drop header_bytes l) ≡ got m []
unfolding ended
body-ends l m t e = let w = (message-got (touch taken false) (form-touch-law false false) event.touch l m t e).rest in go ((touch taken false).read (drop header_bytes l)) w
  where
    go : (x : Got Touch) → and_then x (ended trailing) ≡ got m t → and_then x (ended trailing) ≡ got m []
    go (bad n) w = never n m t w
    go (got c (y ∷ u)) w = never trailing m t w
    go (got c []) w = let z : c ≡ m = cc in ap (λ (n : Touch). got n []) z

effects-alike : (r : Receiver) (l k : List ℕ) (m : Touch) (t u : List ℕ) → plainly l ≡ got m t → plainly k ≡ got m u → effect r l ≡ effect r k
effects-alike r l k m t u e d =
    let j = body-judged taken touch_limits (contact taken) (judged r) in
    let b = j (drop header_bytes l) m [] (body-ends l m t e) ∙ sym (j (drop header_bytes k) m [] (body-ends k m u d)) in
    effect_is r l m t e
    ∙ ap (λ (x : Got Touch). cond (one_of (takes r) event.touch) (and_then x (λ n u. got (touched r n) u)) (bad unexpected)) b
    ∙ sym (effect_is r k m u d)

pub padding-changes-nothing : PaddingChangesNothing
padding-changes-nothing =
    record {
      same = λ message p before after w out₀ out₁ hm h z k room r q q' a a' output kept kept' c d.
          let s = written-alike message p before after w out₀ out₁ hm h z k room in
          let e = effects-alike r message (take w.bytes out₁) s.content s.rest [] s.one s.two in (
            c.kept ∙ ap (λ (x : Got Effect). receiver_after r x (length output)) e ∙ sym d.kept,
            c.answered ∙ ap (λ (x : Got Effect). answer_after x (length output)) e ∙ sym d.answered,
            c.output ∙ ap (λ (x : Got Effect). left output (given (length output) (draft_of x))) e ∙ sym d.output,
          );
    }
