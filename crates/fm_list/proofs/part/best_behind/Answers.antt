-- One more file, behind the others and those before it.
use Rattle.std.proofs.Common.{◌++◌, ◌∷◌, [], take, ap, sym, rules, ◌∙◌, SFits, w64}
use Rattle.std.proofs.lemmas.Int.{to_z-of_z}
use Rattle.std.proofs.lemmas.List.{append-nil, append_assoc, take_all, take_more}
use Rattle.fm_model.specs.Cell.{best}
use Rattle.fm_list.proofs.part.best_behind.Goals as goal

pub loop-file-init : goal.loop-file-init
loop-file-init c = λ others is.
    let a : SFits w64 c.args.valid = search rules in
    let start = simp to_z-of_z at is in
    simp to_z-of_z (ap (λ l. best l c.args.valid c.args.least) (append-nil others) ∙ start)

pub loop-file-preserved : goal.loop-file-preserved
loop-file-preserved c = λ others is.
    let a : SFits w64 c.args.valid = search rules in
    let files = c.args.files.now in
    let i = c.loop-file.file-index in
    let item = c.file-item.result in
    let before = simp to_z-of_z at (c.loop-file.invariant others is) in
    let step = simp to_z-of_z at (c.raised_by-raised.ensures (others ++ take i files)) in
    simp to_z-of_z (ap (λ l. best (others ++ l) c.args.valid c.args.least) (take_more files i item c.loop-file-test.true
    ∙ ap (λ f. take i files ++ f ∷ []) (sym c.file-item.is))
    ∙ ap (λ l. best l c.args.valid c.args.least) (sym (append_assoc others (take i files) (item ∷ [])))
    ∙ step before)

pub returns : goal.returns
returns c = λ others is.
    let a : SFits w64 c.args.valid = search rules in
    let all = simp to_z-of_z at (c.loop-file.invariant others (simp to_z-of_z is)) in
    ap (λ l. best (others ++ l) c.args.valid c.args.least)
    (sym (take_all c.loop-file.file-index c.args.files.now c.loop-file-test.false)) ∙ all
