-- RECORD FILES WITH NO FRAME OVER 63 ARE BYTE FOR BYTE WHAT THEY WERE.
-- Assumes nothing.
use Prim.Native.Nat.{ℕ, zero}
use mathlib.Core.Path.{◌≡◌, refl, sym, ap, subst}
use mathlib.Core.List.{List, [], ◌∷◌, ◌++◌, map}
use native.Mathlib.Omega.{arith}
use lib.ListN.{length}
use Rattle.digits.specs.Digits.{Bytes}
use Rattle.stream.specs.Asked.{All}
use Rattle.receiver.specs.Events.{Gives}
use Rattle.receiver.specs.Receive.{fresh}
use Rattle.receiver.specs.declared.Receiver.{Receiver}
use Rattle.receiver.proofs.Invariants.{Kept, fresh_kept, next-kept}
use Rattle.demands.specs.Histories.{Call, Calls, records_left, all_left, accepted}
use Rattle.demands.proofs.Histories.{sent_by, Allowed, call-receiver}
use Rattle.old_files.specs.OldReceiver.{OldReceives, OldCalls, old_effect}
use Rattle.old_files.specs.Files.{NoneOver63, FilesStand}
use Rattle.old_files.proofs.Laid.{Few, file-laid}
use Rattle.old_files.proofs.Message.{beside, calls-alike}

-- ---- one call of each receiver

module _ (r : Receiver) (k : Kept r) (c d : Call) (message : c.message ≡ d.message) (before : c.before ≡ d.before) where
  call-alike : Bytes c.message → Allowed r c → OldReceives r d → All Few (accepted r c) → (c.receiver ≡ d.receiver) × (records_left c ≡ records_left d)
  unfolding accepted
  call-alike b u v f =
      let w = subst (λ (l : List ℕ). Gives r (old_effect r l) d.before (record { receiver = d.receiver; answer = d.answer }) d.after) (sym message) v in
      let x = subst (λ (l : List ℕ). Gives r (old_effect r c.message) l (record { receiver = d.receiver; answer = d.answer }) d.after) (sym before) w in
      calls-alike r c.before (beside r c.message b k) c d (record { kept = u.kept; answered = u.answered; output = u.output }) x f

-- ---- calls one after the other

abbrev messages : List Call → List (List ℕ)
messages h = map (λ (c : Call). c.message) h

abbrev outputs : List Call → List (List ℕ)
outputs h = map (λ (c : Call). c.before) h

left-alike : (r : Receiver) (h k : List Call) → Kept r → Calls r h → All (λ c. Bytes c.message) h → OldCalls r k → messages h ≡ messages k → outputs h ≡ outputs k → NoneOver63 r h
    → all_left h ≡ all_left k
unfolding Calls OldCalls NoneOver63 all_left
left-alike r [] [] kept a b o m p n = refl
left-alike r [] (d ∷ k) kept a b o m p n = absurd (omega (arith, ap length m))
left-alike r (c ∷ h) [] kept a b o m p n = absurd (omega (arith, ap length m))
left-alike r (c ∷ h) (d ∷ k) kept a b o m p n =
    let m0 : c.message ≡ d.message = cc in
    let p0 : c.before ≡ d.before = cc in
    let m1 : messages h ≡ messages k = cc in
    let p1 : outputs h ≡ outputs k = cc in
    let e = call-alike r kept c d m0 p0 b.0 a.0 o.0 n.0 in
    let kept1 = subst Kept (sym (call-receiver r c a.0)) (next-kept r (sent_by c) b.0 kept) in
    let f = left-alike c.receiver h k kept1 a.1 b.1 (subst (λ (q : Receiver). OldCalls q k) (sym e.0) o.1) m1 p1 n.1 in
    λ i. e.1 i ++ f i

pub the-files-stand : FilesStand
the-files-stand =
    record {
      laid = λ l b w a. file-laid zero l w b a;
      written = λ h k c o a n. left-alike fresh h k fresh_kept c.calls c.bytes o a.messages a.outputs n;
    }
