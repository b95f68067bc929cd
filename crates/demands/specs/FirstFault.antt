-- "The body is judged left to right, field by field, and the first fault answers", over the calls of the plain reading and of the strict one: what
-- they answer of a message hangs on no byte behind the fault.
use Rattle.std.specs.Prelude.{ℕ, ◌+◌, ◌≤◌, ◌≡◌, Bool, List, [], ◌++◌, length}
use Rattle.paper.specs.Refusals.{none, truncated, trailing, no_room}
use Rattle.messages.specs.Header.{header, header_bytes, most_bytes}
use Rattle.messages.specs.Header as event
use Rattle.reading.specs.Plain.{ReadsBy, refusal}
use Rattle.reading.specs.declared.PlainAnswer.{PlainAnswer}

-- the touch message of a body
abbrev pub touch_message : List ℕ → List ℕ
touch_message body = header event.touch (header_bytes + length body) ++ body

-- a body, and the same with more behind it, both in messages that are not too long
pub record FirstFault (strictly : Bool) : Type 0 where
  -- a refusal that is not for an end that came too soon, or for lack of room, stands whatever follows
  pub stands : (body more : List ℕ) (a b : PlainAnswer) (before after before' after' : List ℕ) → header_bytes + length (body ++ more) ≤ most_bytes
      → ReadsBy strictly (touch_message body) a before after → ReadsBy strictly (touch_message (body ++ more)) b before' after'
      → (a.refusal ≡ none → ⊥) → (a.refusal ≡ truncated → ⊥) → (a.refusal ≡ no_room → ⊥)
      → b ≡ a
  -- and what follows a body that is accepted is 12, and nothing else
  pub trails : (body more : List ℕ) (a b : PlainAnswer) (before after before' after' : List ℕ) → header_bytes + length (body ++ more) ≤ most_bytes
      → ReadsBy strictly (touch_message body) a before after → ReadsBy strictly (touch_message (body ++ more)) b before' after'
      → a.refusal ≡ none → (more ≡ [] → ⊥)
      → b ≡ refusal trailing
