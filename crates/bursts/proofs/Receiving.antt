-- The two ways of meeting the contract: all entries fed, and none.
-- Assumes nothing.
use Prim.Native.Nat.{ℕ}
use mathlib.Core.Path.{◌≡◌, refl, sym, ap, ◌∙◌}
use mathlib.Core.Bool.{true, false}
use mathlib.Core.List.{List}
use lib.ListN.{length}
use Rattle.paper.specs.Refusals.{none, bad_batch}
use Rattle.receiver.specs.History.{Sent}
use Rattle.receiver.specs.declared.Receiver.{Receiver}
use Rattle.intake.specs.declared.Fed.{Fed}
use Rattle.intake.specs.Feeding.{entry_bytes, Feeds, TakesEntries}
use Rattle.bursts.specs.Batch.{messages_in, batched, singly, ReceivesAll}
use Rattle.bursts.proofs.Entries.{complete-bytes}
use Rattle.bursts.proofs.Batched.{not-both, batched-both}
use Rattle.bursts.proofs.Singly.{singly-messages, fed-singly}

pub receives-none : (r : Receiver) (buffer a o : List ℕ) → batched buffer (length a) ≡ false → ReceivesAll r buffer r (record { refusal = bad_batch; entries = 0; records = 0 }) a a o o
receives-none r buffer a o h =
    record {
      fed = λ t. absurd (not-both _ t h);
      refused = λ _. record { batch = refl; receiver = refl; answers = refl; output = refl };
    }

-- what the loop fed is what the contract asks for
pub receives-all : (r : Receiver) (buffer : List ℕ) (f : Fed) (a₀ a o₀ o : List ℕ) → batched buffer (length a₀) ≡ true → TakesEntries 0 r buffer f a₀ a o₀ o
    → ReceivesAll r buffer f.receiver (record { refusal = none; entries = f.entries; records = f.records }) a₀ a o₀ o
receives-all r buffer f a₀ a o₀ o h t =
    let b = batched-both buffer (length a₀) h in
    let hs : List Sent = singly r (messages_in buffer) (length o₀) in
    let fed : Feeds r hs f a₀ a o₀ o = rw (fed-singly _ r buffer (length o₀) b.places) at t.fed in
    let used : entry_bytes (messages_in buffer) ≡ length buffer = complete-bytes buffer b.ends in
    record {
      fed = λ _.
          record {
            refusal = refl;
            fed = record {
              receiver = fed.receiver;
              entries = fed.entries;
              used = sym (ap entry_bytes (singly-messages r (messages_in buffer) (length o₀)) ∙ used);
              records = fed.records;
              answers = fed.answers;
              output = fed.output;
            };
          };
      refused = λ w. absurd (not-both _ h w);
    }
