-- A look at the one of an index.
use Rattle.std.proofs.Common.{[], IfOk, sym, subst, ◌∙◌}
use Rattle.fm_edition.specs.Held.{Held}
use Rattle.srv_many.specs.Several.{nth}
use Rattle.srv_many.proofs.RowLemmas.{held-of, map-set, nth-get, nth-set, nth-set-other}
use Rattle.srv_many.proofs.row.ask_in.Goals as goal

pub returns-clause-answer : goal.returns-clause-answer
returns-clause-answer g c = λ proto.
    subst (λ (h : Held). IfOk c.ask.result (λ found. g.Q.Query.says c.args.query.now h found.1 found.0))
    (sym (held-of (nth-set g.K.Look.proto proto c.args.looks.now c.args.index c.ask.new.self c.requires.some)
    (nth-set g.K.Look.log [] c.args.looks.now c.args.index c.ask.new.self c.requires.some))) c.ask.ensures.answer

pub returns-clause-number : goal.returns-clause-number
returns-clause-number g c =
    rw (nth-set g.K.Look.log [] c.args.looks.now c.args.index c.ask.new.self c.requires.some) c.ask.ensures.number

pub returns-clause-looked : goal.returns-clause-looked
returns-clause-looked g c = rw (
  nth-set g.K.Look.looks [] c.args.looks.now c.args.index c.ask.new.self c.requires.some,
  nth-set g.K.Look.log [] c.args.looks.now c.args.index c.ask.new.self c.requires.some,
  nth-get g.K.Look.looks [] c.args.looks.now c.args.index c.index-looks-index.result
      c.requires.some,
) c.ask.ensures.looked

pub returns-clause-err : goal.returns-clause-err
returns-clause-err g c = rw (
  nth-set g.K.Look.looks [] c.args.looks.now c.args.index c.ask.new.self c.requires.some,
  nth-set g.K.Look.log [] c.args.looks.now c.args.index c.ask.new.self c.requires.some,
  nth-get g.K.Look.looks [] c.args.looks.now c.args.index c.index-looks-index.result
      c.requires.some,
) c.ask.ensures.err

pub returns-clause-later : goal.returns-clause-later
returns-clause-later g c = rw (
  nth-set g.K.Look.log [] c.args.looks.now c.args.index c.ask.new.self c.requires.some,
  nth-get g.K.Look.log [] c.args.looks.now c.args.index c.index-looks-index.result
      c.requires.some,
) c.ask.ensures.later

pub returns-clause-stays : goal.returns-clause-stays
returns-clause-stays g c = λ still is.
    nth-set g.K.Look.log [] c.args.looks.now c.args.index c.ask.new.self c.requires.some
    ∙ c.ask.ensures.stays (sym (nth-get g.K.Look.still still c.args.looks.now c.args.index
    c.index-looks-index.result c.requires.some) ∙ is)
    ∙ sym (nth-get g.K.Look.log [] c.args.looks.now c.args.index c.index-looks-index.result c.requires.some)

pub returns-clause-others_seen : goal.returns-clause-others_seen
returns-clause-others_seen g c = λ other differs.
    nth-set-other g.K.Look.log [] c.args.looks.now c.args.index other c.ask.new.self differs

pub returns-clause-others_looks : goal.returns-clause-others_looks
returns-clause-others_looks g c = λ other differs.
    nth-set-other g.K.Look.looks [] c.args.looks.now c.args.index other c.ask.new.self differs

pub returns-clause-protos : goal.returns-clause-protos
returns-clause-protos g c =
    map-set g.K.Look.proto c.args.looks.now c.args.index c.index-looks-index.result c.ask.new.self
    c.ask.ensures.same_proto

pub returns-clause-stills : goal.returns-clause-stills
returns-clause-stills g c =
    map-set g.K.Look.still c.args.looks.now c.args.index c.index-looks-index.result c.ask.new.self
    c.ask.ensures.same_still
