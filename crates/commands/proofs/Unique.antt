-- Two outcomes that the contract of a command allows are equal, in the answer and in the output.
-- Assumes nothing.
use Prim.Native.Nat.{ℕ}
use mathlib.Core.Path.{◌≡◌, sym, ap, ◌∙◌}
use mathlib.Core.List.{List, ◌++◌}
use lib.ListN.{drop}
use Rattle.slices.specs.declared.Written.{Written}
use Rattle.panels.specs.Panel.{Sending, Sends}
use Rattle.panels.specs.declared.Panel.{Panel}
use Rattle.sending.proofs.Unique.{Same, calls-unique}
use Rattle.commands.specs.Commands.{Command, arrives, declares, touches, dismisses, unknown, Lends, Hears, Obeys}
use Rattle.commands.specs.declared.Obeyed.{Obeyed}

-- a call that leaves no choice leaves none where it is lent a part of the output
lends-unique : (n : ℕ) (p : Panel) (s : Sending) (r q : Obeyed) (before after after' : List ℕ)
    → ((x y : Panel) (v w : Written) (b a a' : List ℕ) → Sends p s x v b a → Sends p s y w b a' → Same x y v w a a')
    → Lends n p s r before after → Lends n p s q before after' → (r ≡ q) × (after ≡ after')
lends-unique n p s r q b a a' one h k =
    let same = one _ _ _ _ _ _ _ h.sends k.sends in
    let known = h.known ∙ sym k.known in
    (λ i. record { panel = same.panel i; known = known i; written = same.answer i }, h.output ∙ (ap (λ (l : List ℕ). l ++ drop n b) same.output ∙ sym k.output))

hears-unique : (p : Panel) (message : List ℕ) (r q : Obeyed) (before after after' : List ℕ) → Hears p message r before after → Hears p message q before after' → (r ≡ q) × (after ≡ after')
hears-unique p message r q b a a' h k =
    let same = calls-unique.take _ _ _ _ _ _ h.takes k.takes in
    let known = h.known ∙ sym k.known in
    let none = h.bytes ∙ sym k.bytes in
    (λ i. record { panel = same.0 i; known = known i; written = record { refusal = same.1 i; bytes = none i } }, h.output ∙ sym k.output)

pub obeys-unique : (p : Panel) (asked : Command) (r q : Obeyed) (before after after' : List ℕ) → Obeys p asked r before after → Obeys p asked q before after' → (r ≡ q) × (after ≡ after')
obeys-unique p (arrives message) r q b a a' h k = hears-unique p message r q b a a' h k
obeys-unique p (declares room settings) r q b a a' h k = lends-unique _ _ _ r q b a a' (calls-unique.write-ready p settings) h k
obeys-unique p (touches room time records) r q b a a' h k = lends-unique _ _ _ r q b a a' (calls-unique.write-touch p time records) h k
obeys-unique p (dismisses room id) r q b a a' h k = lends-unique _ _ _ r q b a a' (calls-unique.write-dismiss p id) h k
obeys-unique p unknown r q b a a' h k = (h.answer ∙ sym k.answer, h.output ∙ sym k.output)
