use Rattle.srv_workers.proofs.last.DeskBehind.back.Goals as goal

-- room for the shares of the only desk
pub returns : goal.returns
returns g c = record {
  none = λ number below. c.in_ok-back.ensures.items;
  free = λ number below. c.in_ok-back.ensures.free;
}
