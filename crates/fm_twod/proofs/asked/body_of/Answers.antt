-- Where no values are asked for, no part is sent.
use Rattle.std.proofs.Common.{sym, subst, All, List, length, ◌<◌, ◌^◌}
use Rattle.dap_model.specs.declared.projection.Sent.{Sent}
use Rattle.fm_twod.specs.Parts.{IsSentOf}
use Rattle.fm_twod.proofs.SentLemmas.{few-asked, sent-asked}
use Rattle.fm_twod.proofs.asked.body_of.Goals as goal

pub within_limit-requires-clause-sent : goal.within_limit-requires-clause-sent
within_limit-requires-clause-sent c =
    subst (All (IsSentOf c.args.grid)) (sym c.sent_of-sent.ensures)
    (sent-asked c.args.with_values c.args.grid c.args.projected c.requires.sent)

pub within_limit-requires-clause-few : goal.within_limit-requires-clause-few
within_limit-requires-clause-few c =
    subst (λ (l : List Sent). length l < 2 ^ 28) (sym c.sent_of-sent.ensures)
    (few-asked c.args.with_values c.args.projected c.requires.few)
