-- `contacts::judging::judge` meets its contract: what the pass finds, and then the count.
-- Assumes nothing.
use mathlib.Core.Path.{◌∙◌}
use Rattle.contacts.specs.Ruling.{source, contacts_by}
use Rattle.contacts.proofs.Judgement.{judged-on-read}
use Rattle.contacts.proofs.judging.judge.Goals as goal

pub returns : goal.returns
returns c =
    let a = c.args in
    c.settle.ensures ∙ judged-on-read a.most a.states.now a.xs.now a.ys.now a.active (contacts_by (source a.recorded) a.n a.rest.now) _ c.survey-found.ensures
