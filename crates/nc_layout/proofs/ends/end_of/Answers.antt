-- The end of the last part, if there is one, which 128 bits hold.
use Rattle.std.proofs.Common.{◌^◌, arith}
use Rattle.std.proofs.lemmas.Nat.{mul-le}
use Rattle.nc_layout.proofs.ends.end_of.Goals as goal

pub overflow_mul-result : goal.overflow_mul-result
overflow_mul-result c =
    let most = mul-le c.from-2.result c.args.recsize (2 ^ 32) (2 ^ 73) (omega arith) (omega arith) in omega arith

pub overflow_add-result : goal.overflow_add-result
overflow_add-result c =
    let most = mul-le c.from-2.result c.args.recsize (2 ^ 32) (2 ^ 73) (omega arith) (omega arith) in omega arith

pub overflow_add-result-2 : goal.overflow_add-result-2
overflow_add-result-2 c =
    let most = mul-le c.from-2.result c.args.recsize (2 ^ 32) (2 ^ 73) (omega arith) (omega arith) in omega arith
