-- Each turn starts a slab again or moves it on, and the slabs don't all start again.
use Rattle.std.proofs.Common.{ℕ, ◌≡◌, ◌-◌, ◌∙◌, ap, subst, length, take, drop, arith}
use Rattle.std.proofs.Math.ListN.{length-set}
use Rattle.dap_model.proofs.BoxLemmas.{length-index_at}
use Rattle.dap_slab.proofs.WalkLemmas.{Carried, Carried-begun, Carried-last, turn_before}
use Rattle.dap_slab.proofs.walk.advance.Goals as goal
use Rattle.dap_slab.proofs.walk.advance.Goals.{else-loop-at-test, then-loop-at-test+then-slab-index}

pub loop-at-init : goal.loop-at-init
loop-at-init c =
    let slabs = c.args.slabs.now in (
      omega arith,
      ap length c.requires.index ∙ length-index_at slabs (c.args.given - 1),
      Carried-begun slabs c.args.index.now c.args.given c.requires.index c.requires.begun c.requires.more,
    )

pub overflow_sub-slab : goal.overflow_sub-slab
overflow_sub-slab c =
    let s = c.loop-at.invariant in
    (turn_before c.args.slabs.now c.loop-at.index c.args.given c.loop-at.at c.requires.slabs
    c.loop-at-test.true s.0 s.2).high

pub loop-at-preserved : goal.loop-at-preserved
loop-at-preserved c =
    let s = c.loop-at.invariant in
    let turn =
    turn_before c.args.slabs.now c.loop-at.index c.args.given c.loop-at.at c.requires.slabs
    c.loop-at-test.true s.0 s.2 in (
      omega (arith, s.0),
      length-set c.loop-at.index _ _ ∙ s.1,
      turn.again (omega (arith, c.if-slab-index.false, turn.high)),
    )

pub returns-clause-index : goal.returns-clause-index
returns-clause-index c =
    let slabs = c.args.slabs.now in
    let s = c.loop-at.invariant in
    elim c.loop-at-test.branch [
      | else-loop-at-test w ↦
          let none : c.loop-at.at ≡ 0 = omega (arith, w.loop-at-test.false) in
          absurd (Carried-last slabs c.loop-at.index c.args.given c.requires.more
          (subst (λ (n : ℕ). Carried (take n slabs) (drop n slabs) c.loop-at.index c.args.given) none s.2))
      | then-loop-at-test+then-slab-index w ↦
          let turn =
          turn_before slabs c.loop-at.index c.args.given c.loop-at.at c.requires.slabs w.loop-at-test.true s.0 s.2 in
          w.index-is ∙ turn.moved (omega (arith, w.if-slab-index.true, turn.high))
    ]
