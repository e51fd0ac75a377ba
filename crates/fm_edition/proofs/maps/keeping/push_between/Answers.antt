-- Between one index and itself there is no row.
use Rattle.std.proofs.Common.{OnOk, ◌≡◌, ◌++◌, [], List, ap, sym, ◌∙◌, subst, take, drop, length, arith}
use Rattle.std.proofs.lemmas.List.{append-nil, drop_all, length-take}
use Rattle.fm_model.specs.declared.row.Row.{Row}
use Rattle.fm_edition.proofs.maps.keeping.push_between.Goals as goal

pub returns-then-from-to : goal.returns-then-from-to
returns-then-from-to c =
    let front = take c.args.to c.args.kept.now.rows in
    let none : drop c.args.from front ≡ [] =
    drop_all c.args.from front (omega (arith, c.if-from-to.true, length-take c.args.to c.args.kept.now.rows)) in
    sym (ap (λ l. c.args.rows.now ++ l) none ∙ append-nil c.args.rows.now)

pub push_part-requires-clause-order : goal.push_part-requires-clause-order
push_part-requires-clause-order c = c.requires.order

pub push_part-requires-clause-within : goal.push_part-requires-clause-within
push_part-requires-clause-within c = omega (arith, c.requires.within, ap length c.in_ok-share.ensures)

pub returns : goal.returns
returns c =
    subst (λ (rows : List Row). OnOk c.push_part.result
    (c.push_part.new.self ≡ c.args.rows.now ++ drop c.args.from (take c.args.to rows)))
    c.in_ok-share.ensures c.push_part.ensures.ok
