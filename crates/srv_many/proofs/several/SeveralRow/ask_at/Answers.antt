-- A look at the first one, or at one of the others.
use Rattle.std.proofs.Common.{[], IfOk, sym, subst}
use Rattle.fm_edition.specs.Held.{Held}
use Rattle.srv_many.proofs.RowLemmas.{held-of, nth-next}
use Rattle.srv_many.proofs.several.SeveralRow.ask_at.Goals as goal

pub returns-else-index-eq0-clause-answer : goal.returns-else-index-eq0-clause-answer
returns-else-index-eq0-clause-answer g c = λ proto.
    subst (λ (h : Held). IfOk c.ask_at.result (λ found. g.Q.Query.says c.args.query.now h found.1 found.0))
    (held-of (sym (nth-next proto (g.K.Look.proto c.args.self.now.first) (g.F.Row.known c.ask_at.new.self).protos
    c.args.index c.if-index-eq0.false))
    (sym (nth-next [] (g.K.Look.log c.args.self.now.first) (g.F.Row.known c.ask_at.new.self).seen c.args.index
    c.if-index-eq0.false)))
    (c.ask_at.ensures.answer proto)
