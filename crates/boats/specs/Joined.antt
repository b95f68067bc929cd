-- A label that is given what a receiver writes: "from a fresh receiver and a fresh label, feeding each message's records, `choose` never answers 14".
use Rattle.std.specs.Prelude.{ℕ, ◌*◌, ◌≤◌, ◌<◌, ◌≡◌, cond, List, [], ◌∷◌, map, eqb, length, get_or}
use Rattle.paper.specs.Refusals.{no_room, bad_record}
use Rattle.states.specs.Table.{out}
use Rattle.machine.specs.Table.{contacts, state_at}
use Rattle.stream.specs.Asked.{All}
use Rattle.receiver.specs.Receive.{fresh}
use Rattle.receiver.specs.History.{table_of}
use Rattle.presses.specs.Choosing.{fresh_label, records_in}
use Rattle.presses.specs.declared.Label.{Label}
use Rattle.demands.specs.Histories.{Call as Received, History, last, records_left}
use Rattle.boats.specs.Calls.{LabelCall, LabelCalls, last_label}

-- the records that calls were given, without those that lacked room: they are given again
unfoldable pub heard : List LabelCall → List (List ℕ)
heard [] = []
heard (c ∷ cs) = cond (eqb c.chosen.refusal no_room) (heard cs) (c.records ∷ heard cs)

-- each message's records are given to the label
abbrev pub Fed : List Received → List LabelCall → Type 0
Fed h cs = heard cs ≡ map records_left h

pub record NeverAstray : Type 0 where
  -- 14 is never answered
  pub taken : (h : List Received) → History h → (cs : List LabelCall) → LabelCalls fresh_label cs → Fed h cs → All (λ c. c.chosen.refusal ≡ bad_record → ⊥) cs
  -- and each contact has the state that the receiver has it in
  pub follows : (h : List Received) → History h → (cs : List LabelCall) → LabelCalls fresh_label cs → Fed h cs
      → (id : ℕ) → id < contacts → get_or (last_label fresh_label cs).states id out ≡ state_at (table_of (last fresh h)) id
  -- 13 is not answered where there are two numbers for each record, of any label and any records
  pub roomy : (l : Label) (c : LabelCall) → LabelCalls l (c ∷ []) → 2 * length (records_in c.records) ≤ length c.before → c.chosen.refusal ≡ no_room → ⊥
