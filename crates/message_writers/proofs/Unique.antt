-- Two outcomes that a public call's contract allows are equal: the contracts decide the answer and the output.
-- Assumes nothing.
use Prim.Native.Nat.{ℕ}
use mathlib.Core.Path.{◌≡◌}
use mathlib.Core.List.{List}
use Rattle.slices.specs.Writing.{Draft, bytes, Writes}
use Rattle.slices.specs.declared.Written.{Written}
use Rattle.slices.proofs.Laws.{writes-unique}
use Rattle.messages.specs.Header.{header}
use Rattle.messages.specs.Bodies.{server_ready_draft, client_ready_draft, suspend_draft, resume_draft, dismiss_draft}
use Rattle.messages.specs.declared.Ready.{Ready}

abbrev Same : Draft → Type 0
Same d = (v w : Written) (before after after' : List ℕ) → Writes d v before after → Writes d w before after' → (v ≡ w) × (after ≡ after')

pub record Writers : Type 0 where
  pub write-header : (event total : ℕ) → Same (bytes (header event total))
  pub write-server-ready : (v : ℕ) → Same (server_ready_draft v)
  pub write-client-ready : (r : Ready) → Same (client_ready_draft r)
  pub write-suspend : Same suspend_draft
  pub write-resume : Same resume_draft
  pub write-dismiss : (id : ℕ) → Same (dismiss_draft id)

pub writers-unique : Writers
writers-unique =
    record {
      write-header = λ event total. writes-unique (bytes (header event total));
      write-server-ready = λ v. writes-unique (server_ready_draft v);
      write-client-ready = λ r. writes-unique (client_ready_draft r);
      write-suspend = writes-unique suspend_draft;
      write-resume = writes-unique resume_draft;
      write-dismiss = λ id. writes-unique (dismiss_draft id);
    }
