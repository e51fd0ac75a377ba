-- Each takes the passes that it needs, and leaves those of the next.
use Rattle.std.proofs.Common.{arith, length}
use Rattle.pub_snap.specs.Opening.{unused}
use Rattle.srv_workers.proofs.GivenLemmas.{many-length, of-many}
use Rattle.srv_workers.proofs.places.given_at.Goals as goal

-- there are as many passes and prototypes
pub eyes_of-eyes-requires-clause-passes : goal.eyes_of-eyes-requires-clause-passes
eyes_of-eyes-requires-clause-passes g c =
    of-many _ (length c.args.passes) (unused g.N.Name.proto) c.args.passes c.requires.passes
    (omega (arith, many-length _ (unused g.N.Name.proto) c.args.passes c.requires.passes))

pub eyes_of-eyes-requires-clause-protos : goal.eyes_of-eyes-requires-clause-protos
eyes_of-eyes-requires-clause-protos g c =
    of-many _ (length c.args.passes) g.N.Name.proto c.args.places.protos c.requires.places.protos_are
    (omega (arith, many-length _ (unused g.N.Name.proto) c.args.passes c.requires.passes))

pub eyes_of-eyes-requires-clause-count : goal.eyes_of-eyes-requires-clause-count
eyes_of-eyes-requires-clause-count g c =
    omega (arith, many-length _ (unused g.N.Name.proto) c.args.passes c.requires.passes)

-- those that are left are as many as the shares
pub hands_of-taken-requires-clause-passes : goal.hands_of-taken-requires-clause-passes
hands_of-taken-requires-clause-passes g c =
    of-many _ (length c.args.shares) (unused g.N.Name.proto) c.eyes_of-eyes.new.passes c.eyes_of-eyes.ensures.passes
    (omega (
      arith,
      many-length _ (unused g.N.Name.proto) c.args.passes c.requires.passes,
      many-length _ 0 c.args.shares c.requires.shares,
    ))

pub hands_of-taken-requires-clause-protos : goal.hands_of-taken-requires-clause-protos
hands_of-taken-requires-clause-protos g c =
    of-many _ (length c.args.shares) g.N.Name.proto c.eyes_of-eyes.new.protos c.eyes_of-eyes.ensures.protos
    (omega (
      arith,
      many-length _ (unused g.N.Name.proto) c.args.passes c.requires.passes,
      many-length _ 0 c.args.shares c.requires.shares,
    ))

pub hands_of-taken-requires-clause-shares : goal.hands_of-taken-requires-clause-shares
hands_of-taken-requires-clause-shares g c =
    of-many _ (length c.args.shares) 0 c.args.shares c.requires.shares
    (omega (arith, many-length _ 0 c.args.shares c.requires.shares))

pub hands_of-taken-requires-clause-count : goal.hands_of-taken-requires-clause-count
hands_of-taken-requires-clause-count g c = omega (arith, many-length _ 0 c.args.shares c.requires.shares)

-- and then as many as the clocks
pub hands_of-gone-requires-clause-passes : goal.hands_of-gone-requires-clause-passes
hands_of-gone-requires-clause-passes g c =
    of-many _ (length c.hands_of-taken.new.shares) (unused g.N.Name.proto) c.hands_of-taken.new.passes
    c.hands_of-taken.ensures.passes
    (omega (arith, many-length _ 0 c.hands_of-taken.new.shares c.hands_of-taken.ensures.shares))

pub hands_of-gone-requires-clause-protos : goal.hands_of-gone-requires-clause-protos
hands_of-gone-requires-clause-protos g c =
    of-many _ (length c.hands_of-taken.new.shares) g.N.Name.proto c.hands_of-taken.new.protos
    c.hands_of-taken.ensures.protos
    (omega (arith, many-length _ 0 c.hands_of-taken.new.shares c.hands_of-taken.ensures.shares))

pub hands_of-gone-requires-clause-shares : goal.hands_of-gone-requires-clause-shares
hands_of-gone-requires-clause-shares g c =
    of-many _ (length c.hands_of-taken.new.shares) 0 c.hands_of-taken.new.shares c.hands_of-taken.ensures.shares
    (omega (arith, many-length _ 0 c.hands_of-taken.new.shares c.hands_of-taken.ensures.shares))

pub hands_of-gone-requires-clause-count : goal.hands_of-gone-requires-clause-count
hands_of-gone-requires-clause-count g c = omega (
  arith,
  many-length _ 0 c.hands_of-taken.new.shares c.hands_of-taken.ensures.shares,
  many-length _ 0 c.args.shares c.requires.shares,
)
