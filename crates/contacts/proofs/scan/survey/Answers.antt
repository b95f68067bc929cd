-- The loop keeps: what is found of the contacts that are left, with the ids that were seen and what was counted, is what is found of all.
use Prim.Native.Nat.{◌<◌, ◌+◌, ◌-◌}
use mathlib.Core.Path.{◌≡◌, refl, sym, ap, ◌∙◌}
use mathlib.Core.List.{List, ◌∷◌}
use native.Mathlib.Omega.{arith}
use lib.ListN.{length-set}
use Rattle.std.specs.Prelude.{Option, None}
use Rattle.house.specs.declared.Contact.{Contact}
use Rattle.machine.specs.Table.{active, one}
use Rattle.contacts.specs.Ruling.{source, contacts_by}
use Rattle.contacts.specs.declared.Survey.{Survey}
use Rattle.contacts.proofs.Reading.{read_same, kept, read-end, read-stop, read-on, read_off}
use Rattle.contacts.proofs.Scanning.{surveyed_from, survey-start, survey-end, survey-on, survey-twice, survey-off}
use Rattle.contacts.proofs.scan.survey.Goals.{then-seen-i-via-then-seen-i, then-seen-i-via-else-seen-i+then-not-is_allowed}
use Rattle.contacts.proofs.scan.survey.Goals as goal

pub loop-init : goal.loop-init
loop-init c =
    let a = c.args in
    let k : a.n - 0 ≡ a.n = omega arith in
    (refl, omega arith, omega arith, rw k (read_same None _ _ (survey-start a.states.now a.xs.now a.ys.now) (contacts_by (source a.recorded) a.n a.rest.now)))

pub returns-in_err-contact : goal.returns-in_err-contact
returns-in_err-contact c =
    let a = c.args in
    let p = c.loop in
    let left-of : List Contact → Option Survey = surveyed_from a.states.now a.xs.now a.ys.now p.seen p.came p.gone in
    c.from_residual.ensures ∙ sym (read-stop (source a.recorded) None (λ cs u. left-of cs) (a.n - p.counter) p.left.now _ (omega arith) c.read_contact.ensures.value (sym c.ok.ensures.value ∙ c.in_err-contact.was)) ∙ p.invariant.3

pub returns-then-seen-i : goal.returns-then-seen-i
returns-then-seen-i c =
    let a = c.args in
    let p = c.loop in
    let d = c.in_ok-contact.contact in
    let left-of : List Contact → Option Survey = surveyed_from a.states.now a.xs.now a.ys.now p.seen p.came p.gone in
    let this = kept _ _ _ _ c.read_contact.ensures.value (sym c.ok.ensures.value ∙ c.in_ok-contact.was) in
    let off : (cs : List Contact) → left-of (d ∷ cs) ≡ None =
    elim c.then-seen-i.branch [
      | then-seen-i-via-then-seen-i w ↦ survey-twice a.states.now a.xs.now a.ys.now p.seen p.came p.gone d w.if-seen-i.true
      | then-seen-i-via-else-seen-i+then-not-is_allowed w ↦ survey-off a.states.now a.xs.now a.ys.now p.seen p.came p.gone d (sym w.is_allowed.ensures ∙ w.if-not-is_allowed.true)
    ] in
    sym (read_off (source a.recorded) None (λ cs u. left-of cs) (a.n - p.counter) (a.n - (p.counter + 1)) p.left.now d _ (omega arith) this (λ cs u. off cs)) ∙ p.invariant.3

pub loop-preserved : goal.loop-preserved
loop-preserved c =
    let a = c.args in
    let p = c.loop in
    let d = c.in_ok-contact.contact in
    let left-of : List Contact → Option Survey = surveyed_from a.states.now a.xs.now a.ys.now p.seen p.came p.gone in
    let this = kept _ _ _ _ c.read_contact.ensures.value (sym c.ok.ensures.value ∙ c.in_ok-contact.was) in
    let id-in : d.id < 256 = omega arith in
    let up = c.one_if_active-came.ensures.0 ∙ ap (λ s. one (active s)) c.next_state.ensures in
    let on = survey-on a.states.now a.xs.now a.ys.now p.seen p.came p.gone d _ _ (omega (arith, id-in, p.invariant.0)) c.if-seen-i.false (sym c.is_allowed.ensures ∙ c.if-not-is_allowed.false) up c.one_if_active-gone.ensures.0 in (
      simp length-set p.invariant.0,
      omega arith,
      omega arith,
      sym (read-on (source a.recorded) None (λ cs u. left-of cs) _ (a.n - p.counter) (a.n - (p.counter + 1)) p.left.now d _ (omega arith) this (λ cs u. on cs)) ∙ p.invariant.3,
    )

pub returns : goal.returns
returns c =
    let a = c.args in
    let p = c.loop in
    let left-of : List Contact → Option Survey = surveyed_from a.states.now a.xs.now a.ys.now p.seen p.came p.gone in
    survey-end a.states.now a.xs.now a.ys.now p.seen p.came p.gone ∙ sym (read-end (source a.recorded) None (λ cs u. left-of cs) (a.n - p.counter) p.left.now (omega arith)) ∙ p.invariant.3
