-- Each row that may be wanted has its function.
use Rattle.std.proofs.Common.{◌≡◌, ◌++◌, OnOk, sym, subst, rules, SFits, w64}
use Rattle.std.specs.Option.{option_to_list}
use Rattle.std.proofs.lemmas.Int.{to_z-of_z}
use Rattle.fm_edition.specs.declared.maps.wanted.Wanted.{Wanted}
use Rattle.fm_edition.specs.Indexes.{entry_row}
use Rattle.fm_edition.proofs.maps.entry.push_wanted.Goals as goal

pub returns-in-After : goal.returns-in-After
returns-in-After c =
    let a : SFits w64 c.args.key = search rules in
    let b : SFits w64 c.in-After.seconds = search rules in
    subst (λ (w : Wanted). OnOk c.push_after.result (c.push_after.new.rows ≡ c.args.rows.now
    ++ option_to_list (entry_row w (c.args.key, c.args.files.now)))) (sym c.in-After.is)
    (simp to_z-of_z at c.push_after.ensures)

pub returns-in-At : goal.returns-in-At
returns-in-At c =
    let a : SFits w64 c.args.key = search rules in
    let b : SFits w64 c.in-At.valid = search rules in
    subst (λ (w : Wanted). OnOk c.push_row.result (c.push_row.new.rows ≡ c.args.rows.now
    ++ option_to_list (entry_row w (c.args.key, c.args.files.now)))) (sym c.in-At.is)
    (simp to_z-of_z at c.push_row.ensures)
