-- The list has the one that was asked in its place.
use Rattle.std.proofs.Common.{◌≡◌, ◌∙◌, List, [], IfOk, drop, length, map, subst, sym, arith}
use Rattle.std.proofs.lemmas.List.{take_all, take-append-le}
use Rattle.fm_edition.specs.Log.{held_of}
use Rattle.srv_many.specs.Several.{nth}
use Rattle.srv_many.proofs.row.ListRow.ask_at.Goals as goal

pub returns-clause-answer : goal.returns-clause-answer
returns-clause-answer g c = λ proto.
    let long : c.self.inside.items.len ≡ length c.ask_in.new.looks =
    omega (arith, c.as_mut_slice.ensures.len, c.ask_in.auto.looks) in
    let back = take-append-le c.self.inside.items.len c.ask_in.new.looks
    (drop (length c.ask_in.new.looks) c.self.inside.items.items) (omega (arith, long))
    ∙ take_all c.self.inside.items.len c.ask_in.new.looks (omega (arith, long)) in
    subst (λ (l : List _). IfOk c.ask_in.result (λ found. g.Q.Query.says c.args.query.now
    (held_of (nth proto (map g.K.Look.proto l) c.args.index) (nth [] (map g.K.Look.log l) c.args.index))
    found.1 found.0))
    (sym back) (c.ask_in.ensures.answer proto)
