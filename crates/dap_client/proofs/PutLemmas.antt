-- What was put of a request, and what is pulled behind it.
use Rattle.std.proofs.Common.{◌≡◌, ℕ, List, [], ◌++◌, length, drop, Option, Some, None, Result, refl, sym, ap, subst, ◌∙◌, append-nil, arith}
use Rattle.std.specs.Prelude.{IfSome}
use Rattle.std.proofs.lemmas.List.{take_all}
use Rattle.dev_traits.specs.Link.{Wire, after_put}
use Rattle.dev_traits.specs.Moved.{AreNext, moved}
use Rattle.dev_traits.proofs.LinkLemmas.{after_put_nothing}
use Rattle.dap_client.specs.declared.fault.ClientFault.{ClientFault}
use Rattle.dap_client.specs.declared.message.Message.{Message}
use Rattle.dap_client.specs.Pull.{Pulls, PutsFront, put_of}
use Rattle.dap_client.specs.Reply.{Says}

-- nothing was put
pub puts-none : (bytes : List ℕ) (held : Option Wire) → PutsFront bytes held held
puts-none bytes held = record {
  count = 0;
  within = omega arith;
  put_is = ap put_of (after_put_nothing bytes held);
}

-- all was put, and nothing behind it
pub puts-whole : (bytes : List ℕ) (held mid now : Option Wire) → mid ≡ after_put bytes held
    → put_of now ≡ put_of mid → PutsFront bytes held now
puts-whole bytes held mid now is same = record {
  count = length bytes;
  within = omega arith;
  put_is = same ∙ ap put_of is
      ∙ ap (λ (l : List ℕ). put_of (after_put l held)) (sym (take_all (length bytes) bytes (omega arith)));
}

-- bytes are taken after others were put
moved-after_put : (taken request : List ℕ) (held : Option Wire)
    → moved taken [] (after_put request held) ≡ moved taken request held
moved-after_put taken request None = refl
moved-after_put taken request (Some w) =
    ap (λ (put : List ℕ). Some (record {
      taken = w.taken ++ taken;
      left = drop (length taken) w.left;
      put = put;
    })) (append-nil (w.put ++ request))

-- what is pulled once the request was put
pub pulls-put : (request : List ℕ) (held mid now : Option Wire) (outcome : Result Message ClientFault)
    → mid ≡ after_put request held → Pulls [] mid now outcome → Pulls request held now outcome
pulls-put request None mid now outcome is pulls = record {
  taken = pulls.taken;
  next = tt;
  now_is = pulls.now_is ∙ ap (moved pulls.taken []) is;
  says = tt;
}
pulls-put request (Some w) mid now outcome is pulls = record {
  taken = pulls.taken;
  next = subst (AreNext pulls.taken) is pulls.next;
  now_is = pulls.now_is ∙ ap (moved pulls.taken []) is ∙ moved-after_put pulls.taken request (Some w);
  says = subst (λ (held : Option Wire). IfSome held (λ wire. Says wire.left (length pulls.taken) outcome)) is
      pulls.says;
}
