-- No declaration before those that are left is named.
use Rattle.std.proofs.Common.{◌≡◌, ℕ, drop}
use Rattle.dap_model.specs.Picking.{decl_named}
use Rattle.dap_project.proofs.BucketLemmas.{AreLeft}
use Rattle.dap_project.proofs.picked.index_named.Given as goal

abbrev pub invariant-loop-at : goal.invariant-loop-at
invariant-loop-at l = (from : ℕ) × AreLeft l.decls l.path (drop l.at-index l.indices) from
    × (decl_named (drop from l.decls) l.path ≡ decl_named l.decls l.path)
