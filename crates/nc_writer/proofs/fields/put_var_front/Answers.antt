-- The rank is that of the variable's own dimensions.
use Rattle.std.proofs.lemmas.Result.{on_ok_weaker}
use Rattle.nc_writer.proofs.HeaderLemmas.{front-written}
use Rattle.nc_writer.proofs.fields.put_var_front.Goals as goal

pub returns : goal.returns
returns c =
    on_ok_weaker c.put_ids.result (λ written.
    front-written c.args.name.now c.args.dims.now c.args.own.now c.args.out.now c.put_counted.new.out
    c.put_word.new.out c.put_ids.new.out c.in_ok-put_counted.ensures c.in_ok-put_word.ensures written)
    c.put_ids.ensures
