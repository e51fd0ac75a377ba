-- There is a row where the valid time lies that far after the least run of its files, and none where it doesn't.
use Rattle.std.proofs.Common.{◌≡◌, ◌∷◌, [], false, ap, rules, sym, ◌∙◌, SFits, w64}
use Rattle.std.proofs.lemmas.Int.{to_z-of_z}
use Rattle.std.proofs.lemmas.List.{append-nil}
use Rattle.fm_model.specs.Cell.{has_least_offset}
use Rattle.fm_edition.specs.Indexes.{found_in, oldest_run}
use Rattle.fm_edition.proofs.EarlyLemmas.{late_row}
use Rattle.fm_edition.proofs.LatestLemmas.{leads_stays}
use Rattle.fm_edition.proofs.maps.early.push_one.Goals as goal

pub returns-then-not-lies_after-clause-made : goal.returns-then-not-lies_after-clause-made
returns-then-not-lies_after-clause-made c =
    let valid = c.args.time.now.valid in
    let files = found_in c.args.page.now valid in
    let late : has_least_offset c.args.least (oldest_run files) valid ≡ false =
    ap (λ run. has_least_offset c.args.least run valid) (sym c.requires.oldest)
    ∙ sym c.lies_after.ensures ∙ c.if-not-lies_after.true in
    let none = late_row c.args.least (valid, files) c.requires.timed late in
    rw none (sym (append-nil c.args.rows.now))

pub push_reached-requires-clause-timed : goal.push_reached-requires-clause-timed
push_reached-requires-clause-timed c =
    let a : SFits w64 c.args.time.now.valid = search rules in
    simp to_z-of_z c.requires.timed

pub push_reached-requires-clause-leads : goal.push_reached-requires-clause-leads
push_reached-requires-clause-leads c =
    let valid = c.args.time.now.valid in
    let a : SFits w64 valid = search rules in
    simp to_z-of_z (leads_stays c.args.latest.now c.pass.new.self ((valid, found_in c.args.page.now valid) ∷ [])
    c.pass.ensures.stays c.requires.leads)

pub push_reached-requires-clause-stops : goal.push_reached-requires-clause-stops
push_reached-requires-clause-stops c = c.pass.ensures.stops

pub returns-clause-made : goal.returns-clause-made
returns-clause-made c =
    let a : SFits w64 c.args.time.now.valid = search rules in
    simp to_z-of_z at c.push_reached.ensures.made

pub returns-clause-stays : goal.returns-clause-stays
returns-clause-stays c = λ held is. c.push_reached.ensures.stays held (c.pass.ensures.stays held is)
