-- The attributes so far are copied.
use Rattle.std.proofs.Common.{◌≡◌, take}
use Rattle.fm_proto.proofs.copies.copy_attrs.Given as goal

abbrev pub invariant-loop-attr : goal.invariant-loop-attr
invariant-loop-attr l = l.copies ≡ take l.attr-index l.attrs
