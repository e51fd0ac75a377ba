-- Files are lost only where their run is that of a file that went, or lies before the cutoff.
use Rattle.std.proofs.Common.{◌≡◌, rules, sym, subst, ◌∙◌, SFits, w64}
use Rattle.std.specs.Prelude.{filter}
use Rattle.std.proofs.lemmas.Int.{to_z-of_z}
use Rattle.fm_list.specs.Change.{keeps}
use Rattle.fm_edition.proofs.PieceLemmas.{kept-by_cutoff, kept-by_run}
use Rattle.fm_edition.proofs.maps.roll.may_lose.Goals as goal

pub returns-in-Put : goal.returns-in-Put
returns-in-Put c none = kept-by_run c.args.op.now c.args.files.now c.args.went.now c.requires
    (sym c.shares_run.ensures ∙ none)

pub returns-in-Expire : goal.returns-in-Expire
returns-in-Expire c none =
    let cutoff = c.in-Expire.cutoff in
    let a : SFits w64 cutoff = search rules in
    let older = simp to_z-of_z at c.has_older.ensures in
    subst (λ o. filter (keeps o) c.args.files.now ≡ c.args.files.now) (sym c.in-Expire.is)
    (kept-by_cutoff c.args.files.now cutoff (sym older ∙ none))

pub returns-in-Retract : goal.returns-in-Retract
returns-in-Retract c none = kept-by_run c.args.op.now c.args.files.now c.args.went.now c.requires
    (sym c.shares_run-in-Retract.ensures ∙ none)
