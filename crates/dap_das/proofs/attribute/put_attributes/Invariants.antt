-- The attributes before the index were written.
use Rattle.std.proofs.Common.{◌≡◌, ◌++◌, take}
use Rattle.dap_das.specs.AttributeText.{attributes_text}
use Rattle.dap_das.proofs.attribute.put_attributes.Given as goal

abbrev pub invariant-loop-attr : goal.invariant-loop-attr
invariant-loop-attr l = l.out ≡ l.fn.out ++ attributes_text (take l.attr-index l.attrs)
