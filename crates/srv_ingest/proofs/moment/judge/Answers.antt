-- The instant's text was made, or memory ran out before anything was done.
use Rattle.std.proofs.Common.{◌≡◌, ◌∙◌, ap, subst, List, ℕ, ◌+ℤ◌, arith}
use Rattle.std.proofs.lemmas.Int.{to_z-of_z}
use Rattle.srv_ingest.specs.Lines.{expiry_lines, shown_instant}
use Rattle.srv_ingest.specs.Telling.{TellsClock}
use Rattle.srv_verdict.proofs.DecidingLemmas.{Decides-itself}
use Rattle.srv_ingest.proofs.moment.judge.Goals as goal

pub returns-in_default-clause-decides : goal.returns-in_default-clause-decides
returns-in_default-clause-decides g c = Decides-itself

pub returns-clause-lines : goal.returns-clause-lines
returns-clause-lines g c =
    let at = c.instant_at.ensures in
    let text = c.in-Ok.ensures in
    let is : c.in-Ok.instant ≡ shown_instant (c.args.cutoff +ℤ c.args.epoch) =
    text ∙ ap shown_instant (grind (arith, at, to_z-of_z)) in
    subst (λ (l : List ℕ). TellsClock (expiry_lines l c.decide-verdict.result) (g.C.Clock.shown c.args.clock.now)
    (g.C.Clock.shown c.note_expiry-2.new.clock)) (c.as_slice.ensures ∙ is) c.note_expiry-2.ensures
