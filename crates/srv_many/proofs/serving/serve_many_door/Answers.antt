-- The prototypes are those of the looks.
use Rattle.std.proofs.Common.{arith}
use Rattle.srv_many.specs.Several.{row_with}
use Rattle.srv_many.proofs.RowLemmas.{are-protos}
use Rattle.srv_many.proofs.serving.serve_many_door.Goals as goal

pub serve_door_looks-requires : goal.serve_door_looks-requires
serve_door_looks-requires g c = record {
  fits = are-protos (g.K.Look.proto c.args.looks.now.first) (g.K.Look.still c.args.looks.now.first)
      (row_with g.K.Look.proto g.K.Look.still g.K.Look.log g.K.Look.looks g.F.Row.known c.args.looks.now)
      c.args.protos.now c.requires.protos (omega arith) c.requires.few;
}
