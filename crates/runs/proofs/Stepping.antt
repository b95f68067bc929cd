-- What becomes of one frame, by its ruling: each of the three functions does what the ruling says.
-- Assumes nothing.
use Prim.Native.Nat.{ℕ}
use mathlib.Core.Path.{◌≡◌, subst}
use mathlib.Core.Bool.{Bool}
use mathlib.Core.List.{List, []}
use native.Mathlib.Omega.{arith}
use Rattle.house.specs.declared.Head.{Head}
use Rattle.machine.specs.Table.{Table}
use Rattle.machine.specs.Held.{active_ids}
use Rattle.machine.specs.Machine.{Arrays}
use Rattle.contacts.specs.Ruling.{table_from}
use Rattle.contacts.specs.declared.Ruling.{Ruling}
use Rattle.openings.specs.Openings.{Lists}
use Rattle.runs.specs.declared.Run.{Run}
use Rattle.runs.specs.Runs.{Injects, Ignores, Cancels, Steps}
use Rattle.runs.proofs.Laying.{lays-none}

-- a frame's contacts, listed beside those who were active
pub lists-active : (n : ℕ) (l rest : List ℕ) (t : Table) (marks after : List ℕ) → marks ≡ active_ids (table_from t.states [] []) → Lists n l rest marks after
    → Lists n l rest (active_ids t) after
unfolding active_ids
lists-active n l rest t marks after e h = subst (λ (k : List ℕ). Lists n l rest k after) e h

module _ (g : Ruling) (head : Head) (l : List ℕ) (wet : Bool) (run r : Run) (rest : List ℕ) (a b : Arrays) (before after : List ℕ) where
  pub steps-injected : (k : ℕ) → Ruling.Injected k ≡ g → Injects head k l wet run r rest a b before after → Steps g head l wet run r rest a b before after
  steps-injected k q i =
      let x = i.answer in
      let c = i.small in
      subst (λ (v : Ruling). Steps v head l wet run r rest a b before after) q (record {
        frames = rw x (omega arith);
        small = rw x (omega arith);
        more = rw x (omega arith);
        answer = x;
        arrays = λ j. record { table = i.carried.table.table j; held = i.held j };
        output = i.carried.output;
        passed = i.carried.table.passed;
      })

  pub steps-cancelled : Ruling.Cancelled ≡ g → Cancels head.count l wet run r rest a b before after → Steps g head l wet run r rest a b before after
  steps-cancelled q i =
      let x = i.answer in
      let c = i.small in
      subst (λ (v : Ruling). Steps v head l wet run r rest a b before after) q (record {
        frames = rw x (omega arith);
        small = rw x (omega arith);
        more = rw x (omega arith);
        answer = x;
        arrays = λ j. record { table = i.table j; held = i.held.held j };
        output = i.output;
        passed = i.held.passed;
      })

pub steps-ignored : (g : Ruling) (head : Head) (l : List ℕ) (wet : Bool) (run r : Run) (rest : List ℕ) (a : Arrays) (held before : List ℕ) → Ruling.Ignored ≡ g
    → Ignores head.count l run r rest a.held held → Steps g head l wet run r rest a (record { table = a.table; held = held }) before before
steps-ignored g head l wet run r rest a held before q i =
    let x = i.answer in
    subst (λ (v : Ruling). Steps v head l wet run r rest a (record { table = a.table; held = held }) before before) q (record {
      frames = rw x (omega arith);
      small = rw x (omega arith);
      more = rw x (omega arith);
      answer = x;
      arrays = λ j. record { table = a.table; held = i.held.held j };
      output = lays-none wet before;
      passed = i.held.passed;
    })
