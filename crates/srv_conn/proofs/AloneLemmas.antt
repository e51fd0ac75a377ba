-- A link that is served over several collections, where there is but one.
use Rattle.std.proofs.Common.{ℕ, Bool}
use Rattle.fm_model.specs.declared.proto.Proto.{Proto}
use Rattle.dap_reply.specs.declared.served.Stop.{Stop}
use Rattle.dap_reply.specs.Collections.{alone}
use Rattle.dap_reply.proofs.ManyLemmas.{alone-many}
use Rattle.srv_conn.specs.Serves.{call_of, Moment, Serves}
use Rattle.srv_conn.specs.ServesMany.{point_of, Point, ServesMany}
use Rattle.srv_conn.specs.Sight.{views_of}

-- a moment as a point over one collection
abbrev pub point_at_one : Moment → Point
point_at_one m = point_of m.link (views_of (record { seen = m.seen; looks = m.looks })) m.session m.trail

pub serves-alone : {proto : Proto} {still : Bool} {before after : Moment} {most : ℕ} {stop : Stop}
    → ServesMany (alone proto still) (point_at_one before) (point_at_one after) most stop
    → Serves proto still before after most stop
serves-alone {proto} {still} {before} {after} {most} {stop} s = record {
  moves = s.moves;
  served = alone-many (call_of proto still before after s.moves most stop) s.served;
  moved_is = s.moved_is;
  next = s.next;
  over_is = s.over_is;
  calm = s.calm;
}
