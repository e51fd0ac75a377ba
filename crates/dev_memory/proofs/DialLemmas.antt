-- A dialer in memory has one link at most, and one is out where it says so.
use Rattle.std.proofs.Common.{◌≡◌, ◌≤◌, Bool, Option, Some, None, IsTrue, ap, arith}
use Rattle.dev_memory.specs.Dialling.{links_left, links_out}

pub one_left : {L : Type 0} (link : Option L) → links_left link ≤ 1
one_left None = omega arith
one_left (Some link) = omega arith

pub one_out : (out : Bool) → IsTrue out → links_out out ≡ 1
one_out out is = ap links_out is

pub ruleset dials = (one_left, one_out)
