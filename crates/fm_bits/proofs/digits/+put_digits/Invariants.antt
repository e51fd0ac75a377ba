-- There is one digit less to write at each call.
use Rattle.fm_bits.proofs.digits.+put_digits.Given as goal

abbrev pub decreases-put_digits : goal.decreases-put_digits
decreases-put_digits l = l.count
