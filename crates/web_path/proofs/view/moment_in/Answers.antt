-- A text of sixteen bytes is read with its marks put in.
use Rattle.std.proofs.Common.{◌≡◌, ◌∙◌, ◌≤◌, ◌<◌, length, ap, sym, arith}
use Rattle.std.proofs.lemmas.Bool.{cond-true, eq-eqb}
use Rattle.nc_model.specs.Instant.{instant_of}
use Rattle.web_path.specs.Reading.{moment_of}
use Rattle.web_path.proofs.MomentLemmas.{marked, with_marks-marked}
use Rattle.web_path.proofs.view.moment_in.Goals as goal

pub returns-in-len16 : goal.returns-in-len16
unfolding moment_of
returns-in-len16 c =
    let text = c.args.text.now in
    let low : 16 ≤ length text = c.in-len16.len_at_least in
    let high : length text < 17 = c.in-len16.len_below in
    let long : length text ≡ 16 = omega (arith, low, high) in
    let read : c.read_instant.result ≡ instant_of (marked text) = c.read_instant.ensures.value in
    read ∙ ap instant_of (sym (with_marks-marked text long)) ∙ sym (cond-true _ _ _ (eq-eqb _ 16 long))
