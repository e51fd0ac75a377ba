-- The time that stands where it has to is one more that lies apart.
use Rattle.std.proofs.Common.{◌≡◌, ◌*◌, Some, get_or, pos, ◌+ℤ◌, sym, ap, ◌∙◌, arith, rules, below_more, SFits, w64, to_z}
use Rattle.std.specs.Int.{w128}
use Rattle.std.specs.Prelude.{slice_get}
use Rattle.std.proofs.lemmas.Int.{ints, to_z-of_z}
use Rattle.std.proofs.lemmas.Option.{slice_get-get_or}
use Rattle.fm_list.proofs.spacing.lie_apart.Goals as goal

pub loop-time-preserved : goal.loop-time-preserved
loop-time-preserved c =
    let times = c.args.times.now in
    let first = c.args.first in
    let step = c.args.step in
    let i = c.loop-time.time-index in
    let own = get_or times i (pos 0) in
    let a : SFits w64 first = search rules in
    let b : SFits w64 own = search rules in
    let d : SFits w128 c.from-own.result = search rules in
    let e : SFits w128 c.from.result = search rules in
    let f : SFits w128 (c.from-own.result +ℤ c.from.result) = search rules in
    let next : to_z w128 c.loop-time.next-bits ≡ first +ℤ pos (i * step) =
    simp to_z-of_z at c.loop-time.invariant.next in
    let same : c.from-own.result ≡ to_z w128 c.loop-time.next-bits =
    simp to_z-of_z at (ap (to_z w128) c.if-own-next.false) in
    let item : c.from-own.result ≡ own = simp to_z-of_z at c.from-own.ensures in
    let here : own ≡ first +ℤ pos (i * step) = sym item ∙ same ∙ next in
    record {
      next = simp to_z-of_z (omega (arith, ints, c.from.ensures));
      apart = simp to_z-of_z (below_more (λ k. slice_get times k ≡ Some (first +ℤ pos (k * step))) i
          (simp to_z-of_z at c.loop-time.invariant.apart)
          (slice_get-get_or times i (pos 0) c.loop-time-test.true ∙ ap Some here));
    }
