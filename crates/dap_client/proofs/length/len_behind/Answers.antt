-- The length is that behind the head that the spans cover.
use Rattle.std.proofs.Common.{Some, ap₂, subst, sym, ◌∙◌, ◌≤◌, IfOk}
use Rattle.dap_client.specs.Reply.{MAX_BODY, body_len}
use Rattle.dap_client.proofs.LengthLemmas.{few-len}
use Rattle.dap_client.proofs.length.len_behind.Goals as goal

pub returns-clause-len : goal.returns-clause-len
returns-clause-len c =
    let at = c.in-Some.ensures.some in
    record {
      head = Some at.head;
      head_is = at.is;
      len_is = c.body_len.ensures ∙ ap₂ body_len at.parts.code at.parts.fields;
    }

pub returns-clause-few : goal.returns-clause-few
returns-clause-few c = subst (λ r. IfOk r (λ len. len ≤ MAX_BODY)) (sym c.body_len.ensures) (few-len _ _)
