-- A sum that doesn't fit is no instant.
use Rattle.std.proofs.Common.{◌≡◌, ◌+ℤ◌, None, rules, sym, SFits, w64}
use Rattle.std.proofs.lemmas.Int.{to_z-of_z}
use Rattle.std.proofs.lemmas.List.{append-nil}
use Rattle.fm_model.specs.Rows.{row_at}
use Rattle.fm_edition.proofs.RunLemmas.{row_at-past}
use Rattle.fm_edition.proofs.maps.entry.push_after.Goals as goal

pub returns-in-None : goal.returns-in-None
returns-in-None c =
    let a : SFits w64 c.args.run = search rules in
    let b : SFits w64 c.args.seconds = search rules in
    let past = simp to_z-of_z at c.in-None.ensures in
    let none : row_at c.args.files.now c.args.run (c.args.run +ℤ c.args.seconds) ≡ None =
    row_at-past c.args.files.now c.args.run (c.args.run +ℤ c.args.seconds) c.requires past in
    rw none (sym (append-nil c.args.rows.now))
