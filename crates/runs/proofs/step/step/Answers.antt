use Rattle.runs.proofs.Stepping.{steps-injected, steps-ignored, steps-cancelled}
use Rattle.runs.proofs.step.step.Goals as goal

pub returns-in-Injected : goal.returns-in-Injected
returns-in-Injected c = steps-injected _ _ _ _ _ _ _ _ _ _ _ _ c.in-Injected.ensures c.inject.ensures

pub returns-in-Ignored : goal.returns-in-Ignored
returns-in-Ignored c = steps-ignored _ _ _ _ _ _ _ _ _ _ c.in-Ignored.ensures c.ignore.ensures

pub returns-in-Cancelled : goal.returns-in-Cancelled
returns-in-Cancelled c = steps-cancelled _ _ _ _ _ _ _ _ _ _ _ c.in-Cancelled.ensures c.cancel.ensures
