-- The frames from one on, of a message that is read, are a message too: the rested receiver can be given it.
-- Assumes nothing.
use Prim.Native.Nat.{ℕ, ◌+◌, ◌≤◌}
use mathlib.Core.Path.{◌≡◌, refl}
use mathlib.Core.Bool.{Bool, true, false, cond}
use mathlib.Core.List.{List, [], ◌∷◌, ◌++◌}
use native.Mathlib.Omega.{arith}
use lib.Dec.{eqb, lit<}
use lib.ListN.{length, drop, length-drop}
use Rattle.paper.specs.Refusals.{none, trailing}
use Rattle.paper.specs.declared.Milliseconds.{Milliseconds}
use Rattle.digits.specs.Digits.{Bytes}
use Rattle.digits.proofs.Laws.{bytes_drop}
use Rattle.formats.specs.Format.{Got, got, bad, and_then}
use Rattle.formats.proofs.Laws.{never, whole-sound, whole-short}
use Rattle.fields.specs.Integers.{taken}
use Rattle.fields.proofs.Laws.{taken-counts, taken-law}
use Rattle.messages.specs.Header.{header_bytes, most_bytes, one_of, headed, touch, dismiss}
use Rattle.messages.specs.declared.Ready.{Ready}
use Rattle.messages.proofs.Laws.{one-of-first, headed-got, headed-good, message-back, message-got}
use Rattle.house.specs.declared.Contact.{Contact}
use Rattle.framing.specs.Frame.{Frame}
use Rattle.framing.proofs.Tail.{part-holds, part-shorter}
use Rattle.touch.specs.Limits.{touch_limits}
use Rattle.touch.specs.Touch.{Touch, body, contact}
use Rattle.touch.specs.Touch as format
use Rattle.touch.proofs.Laws.{touch-law}
use Rattle.receiver.specs.declared.Receiver.{Receiver}
use Rattle.receiver.specs.Receive.{judged, takes, untimed}
use Rattle.receiver.specs.History.{message_of, touch_in, rested}
use Rattle.receiver.proofs.Rested.{touch-body}

-- ---- the message

-- a header that was read
touch-long : (r : Receiver) (l : List ℕ) (m : Touch) (t : List ℕ) → touch_in r l ≡ got m t → (header_bytes ≤ length l) × (length l ≤ most_bytes)
unfolding touch_in
touch-long r l m t h = go (headed (takes r) l) refl h
  where
    go : (x : Got ℕ) → headed (takes r) l ≡ x → and_then x (λ e b. cond (eqb e touch) (body taken (judged r) b) (bad none)) ≡ got m t → (header_bytes ≤ length l) × (length l ≤ most_bytes)
    go (bad n) e k = never n m t k
    go (got x u) e k = let g = headed-got (takes r) l x u e in (g.low, g.high)

-- what can be written is read by a rested receiver
unjudged : (s : Ready) → judged (rested s) ≡ false
unfolding rested
unjudged s = go (untimed (rested s))
  where
    go : (b : Bool) → cond b false false ≡ false
    go true = refl
    go false = refl

takes-touch : (s : Ready) → one_of (takes (rested s)) touch ≡ true
unfolding rested
takes-touch s = one-of-first touch (dismiss ∷ []) touch refl

pub rested-reads : (s : Ready) (m : Touch) → (format.touch taken false).Holds m → header_bytes + length ((format.touch taken false).write m) ≤ most_bytes → touch_in (rested s) (message_of m) ≡ got m []
unfolding touch_in
rested-reads s m h k =
    let l = message_of m in
    let g = message-got (format.touch taken false) (touch-law taken taken-law false) touch l m [] (message-back (format.touch taken false) (touch-law taken taken-law false) touch m h k (lit< tt)) in
    let e = headed-good (takes (rested s)) l g.head.low g.head.high (rw g.head.event (takes-touch s)) g.head.long in
    rw (e, g.head.event, unjudged s) g.rest

pub rest-of-message : (r : Receiver) (l : List ℕ) → Bytes l → (time : Milliseconds) (fs gs : List (Frame Contact)) → touch_in r l ≡ got (record { time = time; frames = fs ++ gs }) []
    → touch_in (rested r.settings) (message_of (record { time = time; frames = gs })) ≡ got (record { time = time; frames = gs }) []
rest-of-message r l hl time fs gs e =
    let b = judged r in
    let m : Touch = record { time = time; frames = fs ++ gs } in
    let k = (touch-body r l m [] e).1 in
    let f = format.touch taken b in
    let law = touch-law taken taken-law b in
    let h = whole-sound f trailing law.sound (drop header_bytes l) m [] (bytes_drop header_bytes l hl) k in
    let y = whole-short f trailing law.short (drop header_bytes l) m [] (bytes_drop header_bytes l hl) k in
    let n = touch-long r l m [] e in
    let w = part-shorter taken touch_limits (contact taken) taken-counts time fs gs b h in
    rested-reads r.settings (record { time = time; frames = gs }) (part-holds taken touch_limits (contact taken) taken-counts time fs gs b h) (omega (arith, length-drop header_bytes l))
