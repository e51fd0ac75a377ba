-- Only a put may pass a limit.
use Rattle.fm_model.specs.Collection.{coll}
use Rattle.fm_model.proofs.FullLemmas.{full-expire}
use Rattle.pub_look.proofs.HistoryLemmas.{within_limits}
use Rattle.pub_snap.proofs.desk.Desk.expire.Goals as goal

pub take_out-requires-clause-within : goal.take_out-requires-clause-within
take_out-requires-clause-within g c = full-expire (coll c.args.self.now) _
    (within_limits c.edition.result.now c.args.self.now c.edition.ensures.stands)
