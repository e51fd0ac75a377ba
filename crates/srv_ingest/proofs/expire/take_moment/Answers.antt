-- The moment that the clock gave waits for its verdict, which was told, and settles it.
use Rattle.std.proofs.Common.{◌≡◌, ◌∙◌, ap₂, subst, ℤ, ◌+ℤ◌, w64, to_z, of_z, rules}
use Rattle.srv_ingest.specs.Lines.{expiry_lines, shown_instant}
use Rattle.srv_ingest.specs.Telling.{TellsClock}
use Rattle.srv_verdict.specs.Verdicts.{IsExpiry}
use Rattle.srv_ingest.specs.Verdicts.{cutoff_at}
use Rattle.srv_ingest.proofs.MomentLemmas.{SettlesMoment-given, waits-some}
use Rattle.srv_ingest.proofs.expire.take_moment.Goals as goal

pub settle-requires : goal.settle-requires
settle-requires g c = waits-some _ c.in_ok-moment.moment c.in_ok-moment.ensures.taken c.judge-verdict.ensures.lines

pub returns-clause-takes : goal.returns-clause-takes
returns-clause-takes g c =
    let given = c.in_ok-moment.ensures in
    let judged = c.judge-verdict.ensures in
    let verdict = c.judge-verdict.result in
    let moment_is : to_z w64 (of_z w64 c.in_ok-moment.moment) ≡ c.in_ok-moment.moment = search rules in
    let epoch_is : to_z w64 (of_z w64 c.args.site.now.epoch) ≡ c.args.site.now.epoch = search rules in
    let number_is : to_z w64 (of_z w64 c.cutoff_at-cutoff.result) ≡ c.cutoff_at-cutoff.result = search rules in
    let cutoff : c.cutoff_at-cutoff.result ≡ cutoff_at c.in_ok-moment.moment c.args.keep c.args.site.now.epoch =
    c.cutoff_at-cutoff.ensures ∙ ap₂ (λ (m e : ℤ). cutoff_at m c.args.keep e) moment_is epoch_is in
    let is = subst (λ (n : ℤ). IsExpiry c.judge-verdict.new.seat.pass.now.seen n verdict) number_is judged.is in
    let lines = subst (λ (n : ℤ). TellsClock (expiry_lines (shown_instant n) verdict) (g.C.Clock.shown c.next.new.self)
    (g.C.Clock.shown c.judge-verdict.new.clock)) (ap₂ (λ (x y : ℤ). x +ℤ y) number_is epoch_is) judged.lines in
    SettlesMoment-given c.in_ok-moment.moment given.next given.taken cutoff is judged.decides lines c.settle.ensures
