use Rattle.std.proofs.Common.{ℕ, ◌∙◌, ap, arith, length, replicate}
use Rattle.pub_look.specs.History.{History}
use Rattle.pub_snap.specs.Opening.{unused}
use Rattle.srv_workers.specs.Places.{new_hand}
use Rattle.srv_workers.proofs.PlaceLemmas.{equal-first, equals-next, equals-some, hands-put}
use Rattle.srv_workers.proofs.places.hands_of.Goals as goal

-- no place yet
pub loop-number-init : goal.loop-number-init
loop-number-init g c = (
  c.requires.empty,
  c.requires.passes ∙ ap (λ (k : ℕ). replicate k (unused g.N.Name.proto)) (omega arith),
  c.requires.protos ∙ ap (λ (k : ℕ). replicate k g.N.Name.proto) (omega arith),
  c.requires.shares ∙ ap (λ (k : ℕ). replicate k 0) (omega arith),
  omega arith,
)

-- a pass, a prototype, a share and room are left
pub take_off-pass-requires : goal.take_off-pass-requires
take_off-pass-requires g c =
    equals-some (length c.args.shares.now) c.loop-number._number (unused g.N.Name.proto) c.loop-number.passes
    (omega (arith, c.requires.count)) c.loop-number.invariant.1

pub take_off-proto-requires : goal.take_off-proto-requires
take_off-proto-requires g c =
    equals-some (length c.args.shares.now) c.loop-number._number g.N.Name.proto c.loop-number.protos
    (omega (arith, c.requires.count)) c.loop-number.invariant.2

pub take_off-share-requires : goal.take_off-share-requires
take_off-share-requires g c =
    equals-some (length c.args.shares.now) c.loop-number._number 0 c.loop-number.shares
    (omega (arith, c.requires.count)) c.loop-number.invariant.3

pub put-requires : goal.put-requires
put-requires g c = omega (arith, c.requires.free, c.loop-number.invariant.4)

-- they are of this desk
pub of-requires-clause-pass : goal.of-requires-clause-pass
of-requires-clause-pass g c =
    ap (λ (h : History). h.proto) (equal-first (length c.args.shares.now) c.loop-number._number
    (unused g.N.Name.proto) c.loop-number.passes c.take_off-pass.new.list c.take_off-pass.result
    c.loop-number.invariant.1 c.take_off-pass.ensures)

pub of-requires-clause-proto : goal.of-requires-clause-proto
of-requires-clause-proto g c =
    equal-first (length c.args.shares.now) c.loop-number._number g.N.Name.proto c.loop-number.protos
    c.take_off-proto.new.list c.take_off-proto.result c.loop-number.invariant.2 c.take_off-proto.ensures

-- one place more
pub loop-number-preserved : goal.loop-number-preserved
loop-number-preserved g c = (
  hands-put c.loop-number._number c.of.result (unused g.N.Name.proto) c.take_off-share.result
      c.loop-number.hands.items c.put.new.self.items c.loop-number.invariant.0
      (c.of.ensures ∙ equal-first (length c.args.shares.now) c.loop-number._number (unused g.N.Name.proto)
      c.loop-number.passes c.take_off-pass.new.list c.take_off-pass.result c.loop-number.invariant.1
      c.take_off-pass.ensures) (equal-first (length c.args.shares.now) c.loop-number._number 0 c.loop-number.shares
      c.take_off-share.new.list c.take_off-share.result c.loop-number.invariant.3 c.take_off-share.ensures)
      c.put.ensures.items,
  equals-next (length c.args.shares.now) c.loop-number._number (unused g.N.Name.proto) c.loop-number.passes
      c.take_off-pass.new.list c.take_off-pass.result c.loop-number.invariant.1 c.take_off-pass.ensures,
  equals-next (length c.args.shares.now) c.loop-number._number g.N.Name.proto c.loop-number.protos
      c.take_off-proto.new.list c.take_off-proto.result c.loop-number.invariant.2 c.take_off-proto.ensures,
  equals-next (length c.args.shares.now) c.loop-number._number 0 c.loop-number.shares c.take_off-share.new.list
      c.take_off-share.result c.loop-number.invariant.3 c.take_off-share.ensures,
  omega (arith, c.put.ensures.free, c.loop-number.invariant.4),
)

-- all places
pub returns-clause-hands : goal.returns-clause-hands
returns-clause-hands g c =
    c.into_list.ensures ∙ c.loop-number.invariant.0
    ∙ ap (λ (k : ℕ). replicate k (new_hand g.N.Name.proto)) (omega arith)

pub returns-clause-passes : goal.returns-clause-passes
returns-clause-passes g c =
    c.loop-number.invariant.1 ∙ ap (λ (k : ℕ). replicate k (unused g.N.Name.proto)) (omega arith)

pub returns-clause-protos : goal.returns-clause-protos
returns-clause-protos g c =
    c.loop-number.invariant.2 ∙ ap (λ (k : ℕ). replicate k g.N.Name.proto) (omega arith)

pub returns-clause-shares : goal.returns-clause-shares
returns-clause-shares g c = c.loop-number.invariant.3 ∙ ap (λ (k : ℕ). replicate k 0) (omega arith)
