-- What is asked for is what is kept.
use Rattle.fm_twod.proofs.twod.Twod.new.Goals as goal

pub invariant_of-result : goal.invariant_of-result
invariant_of-result c =
    record { sent_fits = c.requires.sent; len_is = c.requires.len; few = c.requires.few }
