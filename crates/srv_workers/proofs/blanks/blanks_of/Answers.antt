use Rattle.std.proofs.Common.{List, arith, subst}
use Rattle.std.proofs.lemmas.List.{take_all}
use Rattle.fm_model.specs.declared.proto.Proto.{Proto}
use Rattle.fm_model.specs.Site.{IsPrototype}
use Rattle.srv_workers.specs.Opened.{AreBlanks}
use Rattle.srv_workers.proofs.BlankLemmas.{AreBlanks-more, AreBlanks-none}
use Rattle.srv_workers.proofs.CollectLemmas.{all-at}
use Rattle.srv_workers.proofs.blanks.blanks_of.Goals as goal

pub loop-proto-init : goal.loop-proto-init
loop-proto-init c = AreBlanks-none c.args.doors c.args.clocks _ c.new-blanks.ensures

pub blank_of-requires-clause-proto : goal.blank_of-requires-clause-proto
blank_of-requires-clause-proto c =
    all-at IsPrototype c.args.protos.now c.loop-proto.proto-index c.proto-item.result c.requires.prototypes
    c.loop-proto-test.true c.proto-item.is

pub blank_of-requires-clause-few : goal.blank_of-requires-clause-few
blank_of-requires-clause-few c = c.requires.few

-- one blank more was made
pub loop-proto-preserved : goal.loop-proto-preserved
loop-proto-preserved c =
    AreBlanks-more c.args.doors c.args.clocks c.loop-proto.proto-index c.args.protos.now c.proto-item.result
    c.loop-proto.blanks _ _ c.loop-proto.invariant c.loop-proto-test.true c.proto-item.is
    c.in_ok-blank_of.ensures.proto c.in_ok-blank_of.ensures.sized c.in_ok-push.ensures.ok

pub returns : goal.returns
returns c =
    subst (λ (l : List Proto). AreBlanks c.args.doors c.args.clocks l c.loop-proto.blanks)
    (take_all c.loop-proto.proto-index c.args.protos.now (omega arith)) c.loop-proto.invariant
