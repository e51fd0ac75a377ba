-- The slice that is held begins later.
use Rattle.std.proofs.Common.{rules, arith, ap, ◌∙◌, drop}
use Rattle.web_frame.proofs.StoreLemmas.{slice_range_later}
use Rattle.web_frame.proofs.store.Store.skip.Goals as goal

pub returns : goal.returns
returns c = slice_range_later c.self.inside.bytes.items c.self.inside.start c.self.inside.end c.args.count (omega arith)
    (search rules) ∙ ap (λ l. drop c.args.count l) c.self.view_is
