-- `frame_records::find::find_frame` meets its contract: a head and as many contacts as it says.
-- Assumes nothing.
use Rattle.frame_records.proofs.Finding.{read-some, read-none, left-some, left-none, headless, unfinished, complete}
use Rattle.frame_records.proofs.find.find_frame.Goals as goal

pub returns-in_err-head-clause-value : goal.returns-in_err-head-clause-value
returns-in_err-head-clause-value c =
    let n = read-none _ c.read_frame_head.result c.read_frame_head.ensures.value c.in_err-head.ensures.value in
    rw c.from_residual.ensures (n.0, headless c.args.rest.now n.0 n.1)

pub returns-in_err-behind-clause-value : goal.returns-in_err-behind-clause-value
returns-in_err-behind-clause-value c =
    let h = read-some _ c.read_frame_head.result c.in_ok-head.head c.in_ok-head.contacts c.read_frame_head.ensures.value c.in_ok-head.ensures.value in
    let n = left-none _ c.skip_contacts.result c.skip_contacts.ensures.value c.in_err-behind.ensures.value in
    rw c.from_residual-in_err-behind.ensures (n.0, unfinished _ _ _ h n.0 n.1)

pub returns-clause-value : goal.returns-clause-value
returns-clause-value c =
    let h = read-some _ c.read_frame_head.result c.in_ok-head.head c.in_ok-head.contacts c.read_frame_head.ensures.value c.in_ok-head.ensures.value in
    let n = left-some _ c.skip_contacts.result c.in_ok-behind.behind c.skip_contacts.ensures.value c.in_ok-behind.ensures.value in
    complete _ _ _ h _ n
