-- A name more, after a dot unless it is the first.
use Rattle.std.proofs.Common.{List, ℕ, ◌++◌, ap, ◌∙◌}
use Rattle.dap_project.proofs.IndexLemmas.{dotted, first_name}
use Rattle.dap_project.proofs.check.path_text.Goals as goal
use Rattle.dap_project.proofs.check.path_text.Goals.{then-at-gt0+in_ok-append, else-at-gt0}

pub loop-at-preserved : goal.loop-at-preserved
loop-at-preserved c =
    let then_name = c.in_ok-append-2.ensures.ok ∙ ap (λ (l : List ℕ). c.if-at-gt0.text ++ l) c.as_slice.ensures in
    elim c.if-at-gt0.branch [
      | then-at-gt0+in_ok-append w ↦
          dotted c.args.path.now c.loop-at.at c.index-path-at.result c.loop-at.text c.if-at-gt0.text
          c.append-in-loop-at.new.self c.loop-at-test.true c.index-path-at.is w.if-at-gt0.true c.loop-at.invariant
          (w.text-is ∙ w.in_ok-append.ensures.ok) then_name
      | else-at-gt0 w ↦
          first_name c.args.path.now c.loop-at.at c.index-path-at.result c.loop-at.text c.append-in-loop-at.new.self
          c.loop-at-test.true c.index-path-at.is w.if-at-gt0.false c.loop-at.invariant
          (then_name ∙ ap (λ (l : List ℕ). l ++ c.index-path-at.result) w.text-is)
    ]
