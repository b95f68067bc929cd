-- Two outcomes that a contract of this crate allows are equal, in the answer and in the output.
-- Assumes nothing.
use Prim.Native.Nat.{ℕ}
use mathlib.Core.Path.{◌≡◌}
use mathlib.Core.List.{List}
use Rattle.slices.specs.Writing.{bytes, Writes}
use Rattle.slices.specs.declared.Written.{Written}
use Rattle.slices.proofs.Laws.{writes-unique}
use Rattle.house.specs.Layout.{head_bytes, contact_bytes}
use Rattle.house.specs.declared.Head.{Head}
use Rattle.house.specs.declared.Contact.{Contact}

pub write-head-unique : (h : Head) (v w : Written) (before after after' : List ℕ)
    → Writes (bytes (head_bytes h)) v before after → Writes (bytes (head_bytes h)) w before after' → (v ≡ w) × (after ≡ after')
write-head-unique h = writes-unique (bytes (head_bytes h))

pub write-contact-unique : (kind : ℕ) (c : Contact) (v w : Written) (before after after' : List ℕ)
    → Writes (bytes (contact_bytes kind c)) v before after → Writes (bytes (contact_bytes kind c)) w before after' → (v ≡ w) × (after ≡ after')
write-contact-unique kind c = writes-unique (bytes (contact_bytes kind c))
