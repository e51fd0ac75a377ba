use Rattle.std.proofs.Common.{◌∙◌, ◌++◌, ◌∷◌, [], ap, arith, length, sum, sym, List, ℕ}
use Rattle.pub_snap.specs.declared.desk.Closed.{Closed}
use Rattle.srv_workers.proofs.OneLemmas.{closed-is}
use Rattle.srv_workers.proofs.one.DeskDesks.close.Goals as goal

-- all shares are back
pub close-end-requires : goal.close-end-requires
close-end-requires g c = ap (λ (l : List ℕ). length l) c.into_list.ensures ∙ c.requires.all 0 (omega arith)

-- its end is behind the others
pub returns-clause-closed : goal.returns-clause-closed
returns-clause-closed g c =
    c.put.ensures.items
    ∙ ap (λ (end : Closed). c.args.closed.now.items ++ end ∷ []) (closed-is c.args.self c.close-end.result
    c.close-end.ensures.tally c.close-end.ensures.revision c.close-end.ensures.whole)

-- each operation was counted by one share
pub returns-clause-counted : goal.returns-clause-counted
returns-clause-counted g c number below =
    ap (λ (l : List ℕ). sum l) (sym c.into_list.ensures) ∙ sym c.close-end.ensures.total ∙ c.close-end.ensures.whole
    ∙ c.close-end.ensures.revision
