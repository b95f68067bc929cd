-- Two outcomes that a public call's contract allows are equal: the contracts decide the answer.
-- Assumes nothing.
use Prim.Native.Nat.{ℕ}
use mathlib.Core.Path.{◌≡◌, sym, ◌∙◌}
use mathlib.Core.Bool.{Bool}
use mathlib.Core.List.{List, [], ◌∷◌}
use Rattle.std.specs.Prelude.{Result}
use Rattle.std.specs.Borrow.{Bor}
use Rattle.paper.specs.Refusals.{trailing}
use Rattle.paper.specs.declared.Refusal.{Refusal}
use Rattle.formats.specs.Format.{Got, whole, byte}
use Rattle.formats.specs.Answer.{whole_of}
use Rattle.formats.proofs.Unique.{Answers, read-once, whole-once}
use Rattle.messages.specs.Header.{headed, read_message, server_ready, client_ready, suspend, resume, dismiss}
use Rattle.messages.specs.Bodies.{version_listed, version, ready, nothing}

-- of a call that reads all of l, and has to find what P finds there
abbrev One : {A : Type 0} → (List ℕ → Got A) → Type 0
One {A} P = (l : List ℕ) (r s : Result A Refusal) → whole_of r ≡ P l → whole_of s ≡ P l → r ≡ s

pub record Readers : Type 0 where
  pub read-header : (first second : ℕ) (l : Bor (List ℕ)) (r s : Result (ℕ × Bor (List ℕ)) Refusal) → Answers (headed (first ∷ second ∷ []) l.now) l r → Answers (headed (first ∷ second ∷ []) l.now) l s → r ≡ s
  pub is-version : (v : ℕ) (r s : Bool) → r ≡ version_listed v → s ≡ version_listed v → r ≡ s
  pub read-server-ready-body : One (whole version trailing)
  pub read-ready-body : One (whole ready trailing)
  pub read-empty-body : One (whole nothing trailing)
  pub read-dismiss-body : One (whole byte trailing)
  pub read-server-ready : One (read_message server_ready version)
  pub read-client-ready : One (read_message client_ready ready)
  pub read-suspend : One (read_message suspend nothing)
  pub read-resume : One (read_message resume nothing)
  pub read-dismiss : One (read_message dismiss byte)

one : {A : Type 0} (P : List ℕ → Got A) → One P
one P l = whole-once (P l)

pub readers-unique : Readers
readers-unique =
    record {
      read-header = λ first second l. read-once _ l;
      is-version = λ v r s h k. h ∙ sym k;
      read-server-ready-body = one _;
      read-ready-body = one _;
      read-empty-body = one _;
      read-dismiss-body = one _;
      read-server-ready = one _;
      read-client-ready = one _;
      read-suspend = one _;
      read-resume = one _;
      read-dismiss = one _;
    }
