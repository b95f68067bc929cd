-- `spelling::optional_bytes` meets its contract: the bytes of the sides, of orientation and of pressure, each where it is there.
-- Assumes nothing.
use mathlib.Core.Path.{◌≡◌}
use mathlib.Core.Bool.{cond}
use mathlib.Core.List.{[]}
use native.Mathlib.Omega.{arith}
use lib.ListN.{length}
use Rattle.fields.specs.Integers.{taken}
use Rattle.house.specs.declared.Contact.{Contact}
use Rattle.well_formed.specs.WellFormed.{has}
use Rattle.touch.specs.Touch.{sides}
use Rattle.spelling.proofs.Measured.{optional-sized}
use Rattle.spelling.proofs.optional_bytes.Goals as goal

pub overflow_add-result : goal.overflow_add-result
overflow_add-result c =
    let touch : Contact =
    c.args.touch in
    let four : let t = touch in c.sides_bytes-four.result ≡ length (cond (has 1 t.present) ((sides taken).write t.sides) []) =
    rw c.has_field.ensures at c.sides_bytes-four.ensures in
    let turn : let t = touch in c.number_bytes-turn.result ≡ length (cond (has 2 t.present) (taken.u4.write t.orientation) []) =
    rw c.has_field-2.ensures at c.number_bytes-turn.ensures in
    let whole : Contact =
    touch in
    omega (arith, four, turn, (optional-sized whole).bound)

pub overflow_add-result-2 : goal.overflow_add-result-2
overflow_add-result-2 c =
    let touch : Contact =
    c.args.touch in
    let four : let t = touch in c.sides_bytes-four.result ≡ length (cond (has 1 t.present) ((sides taken).write t.sides) []) =
    rw c.has_field.ensures at c.sides_bytes-four.ensures in
    let turn : let t = touch in c.number_bytes-turn.result ≡ length (cond (has 2 t.present) (taken.u4.write t.orientation) []) =
    rw c.has_field-2.ensures at c.number_bytes-turn.ensures in
    let whole : Contact =
    touch in
    let press : c.number_bytes-press.result ≡ length (cond (has 4 whole.present) (taken.u4.write whole.pressure) []) =
    rw c.has_field-3.ensures at c.number_bytes-press.ensures in
    omega (arith, four, turn, press, (optional-sized whole).bound)

pub returns : goal.returns
returns c =
    let touch : Contact =
    c.args.touch in
    let four : let t = touch in c.sides_bytes-four.result ≡ length (cond (has 1 t.present) ((sides taken).write t.sides) []) =
    rw c.has_field.ensures at c.sides_bytes-four.ensures in
    let turn : let t = touch in c.number_bytes-turn.result ≡ length (cond (has 2 t.present) (taken.u4.write t.orientation) []) =
    rw c.has_field-2.ensures at c.number_bytes-turn.ensures in
    let whole : Contact =
    touch in
    let press : c.number_bytes-press.result ≡ length (cond (has 4 whole.present) (taken.u4.write whole.pressure) []) =
    rw c.has_field-3.ensures at c.number_bytes-press.ensures in
    omega (arith, four, turn, press, (optional-sized whole).sum)
