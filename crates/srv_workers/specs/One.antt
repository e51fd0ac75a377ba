-- One desk.
use Rattle.std.specs.Prelude.{◌≡◌, [], ◌∷◌, false}
use Rattle.fm_model.specs.declared.proto.Proto.{Proto}
use Rattle.pub_look.specs.History.{History}
use Rattle.pub_snap.specs.declared.desk.Closed.{Closed}
use Rattle.dap_reply.specs.Collections.{alone}
use Rattle.srv_conn.specs.Sight.{views_of}
use Rattle.srv_many.specs.Several.{Rowed}
use Rattle.srv_workers.specs.declared.one.OwnHand.{OwnHand}
use Rattle.srv_workers.specs.declared.outcome.Outcome.{Outcome}
use Rattle.srv_workers.specs.declared.outcome.Outcomes.{Outcomes}
use Rattle.srv_workers.specs.Desks.{Means}
use Rattle.srv_workers.specs.Work.{sight}

-- what workers have of one desk: a pass, or a pass and a share
abbrev pub one_means : {N : Type 0} → Proto → Means History (OwnHand N)
one_means proto = record {
  them = alone proto false;
  views = λ pass. views_of (sight pass);
  publisher = λ hand. record { desk = 0; pass = hand.own; share = hand.share };
}

-- an outcome is that over one desk
pub record IsOfOne (outcomes : Outcomes) (outcome : Outcome) : Type 0 where
  pub doors : outcome.doors ≡ outcomes.doors
  pub inboxes : outcome.inboxes ≡ outcomes.inboxes
  pub clocks : outcome.clocks ≡ outcomes.clocks
  pub tally : (closed : Closed) → outcomes.desks ≡ closed ∷ [] → outcome.tally ≡ closed.tally
  pub revision : (closed : Closed) → outcomes.desks ≡ closed ∷ [] → outcome.revision ≡ closed.revision

-- a pass as a row of one
abbrev pub row_of_one : Proto → History → Rowed
row_of_one proto own =
    record { protos = proto ∷ []; stills = false ∷ []; seen = own.seen ∷ []; looks = own.looks ∷ [] }
