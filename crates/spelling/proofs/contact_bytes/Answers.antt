-- `spelling::contact_bytes` meets its contract: the bytes of its fields.
-- Assumes nothing.
use native.Mathlib.Omega.{arith}
use Rattle.spelling.proofs.Measured.{u2-most, u4-most, point-sized, contact-sized}
use Rattle.spelling.proofs.contact_bytes.Goals as goal

pub overflow_add-lead : goal.overflow_add-lead
overflow_add-lead c = omega (arith, c.bytes-lead.ensures, u2-most c.args.touch.present)

pub overflow_add-place : goal.overflow_add-place
overflow_add-place c =
    let t = c.args.touch in
    omega (arith, c.point_bytes.ensures, (point-sized t.place).sum, (point-sized t.place).bound, c.bytes.ensures, u4-most t.flags)

pub overflow_add-result : goal.overflow_add-result
overflow_add-result c =
    omega (arith, c.bytes-lead.ensures, c.point_bytes.ensures, c.bytes.ensures, (contact-sized c.args.touch).bound)

pub overflow_add-result-2 : goal.overflow_add-result-2
overflow_add-result-2 c =
    omega (arith, c.bytes-lead.ensures, c.point_bytes.ensures, c.bytes.ensures, c.optional_bytes.ensures, (contact-sized c.args.touch).bound)

pub returns : goal.returns
returns c =
    omega (arith, c.bytes-lead.ensures, c.point_bytes.ensures, c.bytes.ensures, c.optional_bytes.ensures, (contact-sized c.args.touch).sum)
