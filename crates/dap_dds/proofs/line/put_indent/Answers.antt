-- The spaces are the first of some.
use Rattle.std.proofs.Common.{OnOk, ◌≡◌, ◌*◌, ◌++◌, ℕ, List, subst, ◌∙◌, arith}
use Rattle.std.proofs.lemmas.List.{take-replicate}
use Rattle.dap_model.specs.StructureText.{indent}
use Rattle.dap_dds.proofs.line.put_indent.Goals as goal

pub returns-clause-ok : goal.returns-clause-ok
unfolding indent
returns-clause-ok c =
    subst (λ (l : List ℕ). OnOk c.append.result (c.append.new.self ≡ c.args.out.now ++ l))
    (c.split_at.ensures.front ∙ take-replicate (4 * c.args.depth) 28 32 (omega (arith, c.requires))) c.append.ensures.ok
