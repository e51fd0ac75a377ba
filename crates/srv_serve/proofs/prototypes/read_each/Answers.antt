-- One prototype more was read, or the next wasn't.
use Rattle.std.proofs.Common.{◌∙◌, All, List, rules, subst, sym, arith}
use Rattle.std.proofs.lemmas.List.Elements.{All-push}
use Rattle.fm_model.specs.Site.{IsPrototype}
use Rattle.fm_model.specs.declared.proto.Proto.{Proto}
use Rattle.srv_serve.proofs.PrototypeLemmas.{ends-at, none-read, OpensEach-more, sound-at, unread}
use Rattle.srv_serve.proofs.prototypes.read_each.Goals as goal

-- memory ran out before any was read
pub returns-in_default-clause-reads : goal.returns-in_default-clause-reads
returns-in_default-clause-reads g c =
    none-read c.args.specs.now (g.F.Files.shown c.args.files.now) c.reserve.new.self.items
    (search (rules, c.reserve.ensures.items, c.requires.empty))

pub returns-in_default-clause-ends : goal.returns-in_default-clause-ends
returns-in_default-clause-ends g c =
    unread c.args.specs.now c.reserve.new.self.items (g.F.Files.shown c.args.files.now)
    (search (rules, c.reserve.ensures.items, c.requires.empty)) c.requires.some

-- the site of the next may be one
pub read_shared-requires : goal.read_shared-requires
read_shared-requires g c =
    sound-at c.args.specs.now c.loop-number.number c.index-specs-number.result c.requires.sound c.loop-number-test.true
    c.index-specs-number.is

-- the next wasn't read
pub returns-in-Err-clause-ends : goal.returns-in-Err-clause-ends
returns-in-Err-clause-ends g c =
    ends-at c.args.specs.now c.loop-number.protos-inside.items.items c.loop-number.number c.index-specs-number.result
    (g.F.Files.shown c.args.files.now) (g.F.Files.shown c.loop-number.files)
    (g.F.Files.shown c.read_shared.new.files) c.in-Err.end c.loop-number.invariant.count c.loop-number-test.true
    c.index-specs-number.is c.loop-number.invariant.same (rw c.as_slice.ensures at c.in-Err.ensures.ends)

pub loop-number-preserved : goal.loop-number-preserved
loop-number-preserved g c = record {
  reads = OpensEach-more c.args.specs.now c.loop-number.protos-inside.items.items _ c.loop-number.number
      c.index-specs-number.result c.in-Ok-read_shared.proto (g.F.Files.shown c.args.files.now)
      (g.F.Files.shown c.loop-number.files) c.loop-number.invariant.reads c.loop-number-test.true
      c.index-specs-number.is c.loop-number.invariant.same
      (rw c.as_slice.ensures at c.in-Ok-read_shared.ensures.opens) c.push_reserved.ensures.items;
  sound = subst (λ (l : List Proto). All IsPrototype l) (sym c.push_reserved.ensures.items)
      (All-push IsPrototype _ _ c.loop-number.invariant.sound c.in-Ok-read_shared.ensures.sound);
  count = search rules;
  room = omega (
    arith,
    c.loop-number.invariant.room,
    c.loop-number-test.true,
    c.push_reserved.ensures.len,
    c.push_reserved.ensures.capacity,
  );
  same = c.in-Ok-read_shared.ensures.same ∙ c.loop-number.invariant.same;
}
