-- The collections stay, as their prototypes do.
use Rattle.std.proofs.Common.{Bool, List, ap}
use Rattle.fm_model.specs.declared.proto.Proto.{Proto}
use Rattle.srv_many.specs.Several.{nth, row_with}
use Rattle.srv_many.proofs.RowLemmas.{same-collections}
use Rattle.srv_many.proofs.several.SeveralLooks.ask_in.Goals as goal

pub returns-clause-same : goal.returns-clause-same
returns-clause-same g c =
    same-collections (g.K.Look.proto c.args.self.now.first) (g.K.Look.proto c.ask_at.new.self.first)
    (g.K.Look.still c.args.self.now.first) (g.K.Look.still c.ask_at.new.self.first)
    (row_with g.K.Look.proto g.K.Look.still g.K.Look.log g.K.Look.looks g.F.Row.known c.args.self.now)
    (row_with g.K.Look.proto g.K.Look.still g.K.Look.log g.K.Look.looks g.F.Row.known c.ask_at.new.self)
    (ap (λ (l : List Proto). nth (g.K.Look.proto c.ask_at.new.self.first) l 0) c.ask_at.ensures.protos)
    (ap (λ (l : List Bool). nth (g.K.Look.still c.ask_at.new.self.first) l 0) c.ask_at.ensures.stills)
    c.ask_at.ensures.protos c.ask_at.ensures.stills

pub returns-clause-answer : goal.returns-clause-answer
returns-clause-answer g c = c.ask_at.ensures.answer (g.K.Look.proto c.ask_at.new.self.first)
