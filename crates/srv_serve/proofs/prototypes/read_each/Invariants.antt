-- The prototypes of the first collections were read, and there is room for the others.
use Rattle.std.proofs.Common.{◌≡◌, ◌≤◌, ◌+◌, ◌-◌, All, length, take, vec_capacity, vec_len}
use Rattle.fm_model.specs.Site.{IsPrototype}
use Rattle.srv_serve.specs.Many.{OpensEach}
use Rattle.srv_serve.proofs.prototypes.read_each.Given as goal

abbrev pub invariant-loop-number : goal.invariant-loop-number
invariant-loop-number g l = record {
  reads : OpensEach (take l.number l.specs) (g.F.Files.shown l.fn.files) l.protos-inside.items.items;
  sound : All IsPrototype l.protos-inside.items.items;
  count : length l.protos-inside.items.items ≡ l.number;
  room : vec_len l.protos-inside.items + (length l.specs - l.number) ≤ vec_capacity l.protos-inside.items;
  same : g.F.Files.shown l.files ≡ g.F.Files.shown l.fn.files;
}
