use Rattle.std.proofs.Common.{◌∙◌, ℕ, ◌+◌, List, [], ap, arith, length, replicate}
use Rattle.std.proofs.lemmas.List.{length_push}
use Rattle.std.proofs.lemmas.List.Elements.{All-nil, All-push, All-rest, All-same}
use Rattle.srv_many.specs.Several.{views_in}
use Rattle.srv_workers.specs.Desks.{first_of, IsUnseen}
use Rattle.srv_workers.proofs.JoinLemmas.{less-left, some-left}
use Rattle.srv_workers.proofs.PlaceLemmas.{equal-first, equals-next, equals-some}
use Rattle.srv_workers.proofs.StaffLemmas.{All-front}
use Rattle.srv_workers.proofs.eyes.eyes_with.Goals as goal

-- all passes are left
pub loop-number-init : goal.loop-number-init
loop-number-init g c = (
  All-same (λ those. IsUnseen (g.X.Desks.means.views those)) c.args.room.items [] c.requires.room.0
      (All-nil (λ those. IsUnseen (g.X.Desks.means.views those))),
  ap (λ (l : List _). length l) c.requires.room.0,
  c.requires.unseen,
  omega arith,
  c.requires.copies ∙ ap (λ (k : ℕ). replicate k (first_of g.X.Desks.means.them.count g.X.Desks.means.them.proto))
      (omega arith),
  omega arith,
)

-- one is left, a copy, and room
pub take_off-row-requires : goal.take_off-row-requires
take_off-row-requires g c =
    some-left c.loop-number.passes (length c.args.passes) c.loop-number._number (omega arith)
    c.loop-number.invariant.3

pub take_off-protos-requires : goal.take_off-protos-requires
take_off-protos-requires g c =
    equals-some (length c.args.passes) c.loop-number._number _ c.loop-number.copies (omega arith)
    c.loop-number.invariant.4

pub put-requires : goal.put-requires
put-requires g c = omega (arith, c.requires.room.1, c.loop-number.invariant.5)

-- they are of all desks, and have seen nothing
pub eyes-those-requires-clause-protos : goal.eyes-those-requires-clause-protos
eyes-those-requires-clause-protos g c =
    equal-first (length c.args.passes) c.loop-number._number _ c.loop-number.copies c.take_off-protos.new.list
    c.take_off-protos.result c.loop-number.invariant.4 c.take_off-protos.ensures

pub eyes-those-requires-clause-few : goal.eyes-those-requires-clause-few
eyes-those-requires-clause-few g c = c.requires.few

pub eyes-those-requires-clause-unseen : goal.eyes-those-requires-clause-unseen
eyes-those-requires-clause-unseen g c =
    All-front (λ row. IsUnseen (views_in (g.X.Passes.Row.known row))) c.loop-number.passes c.take_off-row.new.list
    c.take_off-row.result c.loop-number.invariant.2 c.take_off-row.ensures

-- one more has eyes
pub loop-number-preserved : goal.loop-number-preserved
loop-number-preserved g c = (
  All-same (λ those. IsUnseen (g.X.Desks.means.views those)) c.put.new.self.items _ c.put.ensures.items
      (All-push (λ those. IsUnseen (g.X.Desks.means.views those)) c.loop-number.eyes.items c.eyes-those.result
      c.loop-number.invariant.0 c.eyes-those.ensures),
  ap (λ (l : List _). length l) c.put.ensures.items ∙ length_push c.loop-number.eyes.items c.eyes-those.result
      ∙ ap (λ (k : ℕ). k + 1) c.loop-number.invariant.1,
  All-rest (λ row. IsUnseen (views_in (g.X.Passes.Row.known row))) c.take_off-row.result c.take_off-row.new.list
      c.loop-number.passes c.take_off-row.ensures c.loop-number.invariant.2,
  less-left c.loop-number.passes c.take_off-row.new.list c.take_off-row.result (length c.args.passes)
      c.loop-number._number c.loop-number.invariant.3 c.take_off-row.ensures,
  equals-next (length c.args.passes) c.loop-number._number _ c.loop-number.copies c.take_off-protos.new.list
      c.take_off-protos.result c.loop-number.invariant.4 c.take_off-protos.ensures,
  omega (arith, c.loop-number.invariant.5, c.put.ensures.free),
)

-- all have
pub returns-clause-each : goal.returns-clause-each
returns-clause-each g c =
    ap (λ (l : List _). length l) c.into_list.ensures ∙ c.loop-number.invariant.1 ∙ omega arith

pub returns-clause-unseen : goal.returns-clause-unseen
returns-clause-unseen g c =
    All-same (λ those. IsUnseen (g.X.Desks.means.views those)) c.into_list.result c.loop-number.eyes.items
    c.into_list.ensures c.loop-number.invariant.0
