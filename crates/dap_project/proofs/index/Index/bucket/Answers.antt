-- Without declarations there are no indices.
use Rattle.std.proofs.Common.{◌≡◌, ap, length, sym, ◌∙◌}
use Rattle.std.proofs.lemmas.Bool.{eqb-true}
use Rattle.dap_project.specs.Buckets.{bucket_of, is_of}
use Rattle.dap_project.proofs.FilledLemmas.{no_decls}
use Rattle.dap_project.proofs.index.Index.bucket.Goals as goal

pub returns-then-is_empty : goal.returns-then-is_empty
returns-then-is_empty c = λ decls are.
    let none : length c.as_slice-buckets.result.now ≡ 0 =
    eqb-true (length c.as_slice-buckets.result.now) 0 (sym c.is_empty.ensures ∙ c.if-is_empty.true) in
    no_decls (is_of (length decls) (bucket_of (length decls) c.args.name.now)) decls
    (sym are.count ∙ ap length (sym c.as_slice-buckets.ensures) ∙ none)
