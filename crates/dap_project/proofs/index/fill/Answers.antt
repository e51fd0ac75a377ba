-- One more index is in its bucket.
use Rattle.std.proofs.Common.{ap, arith, sym, ◌∙◌, ◌++◌, ◌∷◌, [], List, ℕ, length}
use Rattle.dap_project.specs.Buckets.{bucket_of}
use Rattle.dap_project.proofs.FilledLemmas.{all_filled, filled_more, none_filled}
use Rattle.dap_project.proofs.index.fill.Goals as goal

pub loop-at-init : goal.loop-at-init
loop-at-init c = none_filled c.args.decls.now c.args.buckets.now c.requires.empty

pub loop-at-preserved : goal.loop-at-preserved
loop-at-preserved c =
    let decls = c.args.decls.now in
    let bucket = c.bucket_of-bucket.result in
    let within = c.bucket_of-bucket.ensures.within in
    filled_more decls c.loop-at.buckets c.loop-at.at bucket c.index-decls-at.result c.index-buckets-bucket.result
    c.push.new.self c.loop-at-test.true c.index-decls-at.is
    (c.bucket_of-bucket.ensures.bucket ∙ ap (bucket_of (length decls)) c.name_of.ensures)
    (omega (arith, within, c.loop-at.auto.buckets, c.requires.count)) c.index-buckets-bucket.is
    (c.in_ok-push.ensures.ok ∙ ap (λ (l : List ℕ). l ++ c.loop-at.at ∷ []) (sym c.index-buckets-bucket.is))
    c.loop-at.invariant

pub returns : goal.returns
returns c =
    all_filled c.args.decls.now c.loop-at.buckets c.loop-at.at
    (omega (arith, c.loop-at.auto.buckets, c.requires.count)) (omega (arith, c.loop-at-test.false)) c.loop-at.invariant
