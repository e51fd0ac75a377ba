-- One index more.
use Rattle.std.proofs.Common.{ℕ, List, [], ◌∷◌, ◌++◌, ap, sym, ◌∙◌}
use Rattle.std.proofs.lemmas.List.{map_more}
use Rattle.fm_load.proofs.run.first_index.Goals as goal

pub loop-id-preserved : goal.loop-id-preserved
loop-id-preserved c = c.in_ok-push.ensures.ok ∙ ap (λ (l : List ℕ). l ++ 0 ∷ []) c.loop-id.invariant
    ∙ sym (map_more (λ (id : ℕ). 0) c.args.ids.now c.loop-id._id-index 0 c.loop-id-test.true)
