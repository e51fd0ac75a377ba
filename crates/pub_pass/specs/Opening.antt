-- What a pass begins with.
use Rattle.std.specs.Prelude.{[], pos}
use Rattle.fm_model.specs.declared.proto.Proto.{Proto}
use Rattle.pub_look.specs.History.{History}

-- a pass that has seen nothing
abbrev pub unused : Proto → History
unused proto = record { proto = proto; seen = []; looks = [] }

-- the prototype of a desk that no proof has named
abbrev pub no_proto : Proto
no_proto = record { site = record { name = []; epoch = pos 0; mark = [] }; axis = []; dims = []; attrs = []; vars = [] }
