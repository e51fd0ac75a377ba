-- By the definition of each case.
use Rattle.std.proofs.Common.{◌++◌, codes, ap, sym, ◌∙◌}
use Rattle.dap_reply.specs.Fault.{projection_message}
use Rattle.dap_reply.proofs.MessageLemmas.{on_ok}
use Rattle.dap_reply.proofs.message.put_projection.Goals as goal

pub returns-in-NoSuchVariable : goal.returns-in-NoSuchVariable
unfolding projection_message
returns-in-NoSuchVariable c =
    on_ok c.put_named.result (λ new. new
    ∙ ap (λ name. c.args.out.now ++ (codes "no variable " ++ name)) c.as_slice.ensures
    ∙ ap (λ fault. c.args.out.now ++ projection_message fault) (sym c.in-NoSuchVariable.is)) c.put_named.ensures
