-- As many zero bytes as fit are written.
use Rattle.std.proofs.Common.{ℕ, length, min, ap, ◌∙◌}
use Rattle.nc_writer.proofs.ZeroLemmas.{put-zeros}
use Rattle.nc_writer.proofs.zeros.put_fill.Goals as goal

pub returns : goal.returns
returns c =
    put-zeros c.args.len c.args.from c.min-count.result c.args.out.now c.clear.new.out
    (c.min-count.ensures ∙ ap (λ (n : ℕ). min n (length c.args.out.now)) c.saturating_sub-left.ensures) c.clear.ensures
