-- The name was appended, and then the counts, whole or cut.
use Rattle.std.proofs.Common.{◌++◌, codes}
use Rattle.srv_alone.proofs.PieceLemmas.{Appends-then}
use Rattle.srv_closing.specs.Closing.{changes_text, left_text}
use Rattle.srv_closing.specs.Lines.{collection_line}
use Rattle.srv_closing.proofs.lines.put_collection.Goals as goal

pub returns-clause-put : goal.returns-clause-put
unfolding collection_line
returns-clause-put g c =
    let taken = c.args.taken.now in
    let closed = c.args.closed.now in
    let counts = changes_text taken.published taken.retracted c.args.expired
    ++ left_text closed.tally closed.revision in
    Appends-then (c.args.name.now ++ codes " ") counts (g.S.Sink.shown c.args.sink.now).held
    (g.S.Sink.shown c.put_name.new.sink).held (g.S.Sink.shown c.put_counts.new.sink).held c.put_counts.result
    c.in_ok-put_name.ensures.put c.put_counts.ensures.put
