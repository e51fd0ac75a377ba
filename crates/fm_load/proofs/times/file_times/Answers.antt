-- A time that was found before, and one more time.
use Rattle.std.proofs.Common.{◌≡◌, ◌≤ℤ◌, ◌+◌, ◌-◌, ◌∷◌, ◌++◌, [], All, length, List, ℤ, ℕ, Bool, true, false, Result, Err, w64, FitsSigned, sym, ap, ap₂, subst, ◌∙◌, rules, arith}
use Rattle.std.specs.List.{list_any}
use Rattle.std.specs.Ordering.{int_eq}
use Rattle.std.proofs.lemmas.Int.{to_z-of_z}
use Rattle.std.proofs.lemmas.List.{length_push}
use Rattle.fm_model.specs.declared.loaded.LoadFault.{LoadFault}
use Rattle.fm_model.specs.declared.loaded.LoadFault.TheVariants.{TimeRepeated}
use Rattle.fm_model.specs.LoadTimes.{file_times, time_at, times_from}
use Rattle.fm_load.proofs.TimeLemmas.{times-twice, times-more, none_later}
use Rattle.fm_load.proofs.times.file_times.Goals as goal

-- an instant is among those that were found
abbrev is_among : ℤ → List ℤ → Bool
is_among instant found = list_any (λ earlier. int_eq earlier instant) found

pub returns-then-is_repeated : goal.returns-then-is_repeated
unfolding file_times
returns-then-is_repeated c =
    let time : ℕ → Result ℤ LoadFault =
    time_at c.args.site.now c.args.file.now.bytes c.args.file.now.layout.header
    c.args.axis.now.var.now c.args.axis.now.units in
    let fits : FitsSigned w64 c.in_ok-instant.instant = search rules in
    let same = to_z-of_z w64 c.in_ok-instant.instant fits in
    let twice : is_among c.in_ok-instant.instant c.loop-k.found ≡ true =
    ap₂ is_among (sym same) (sym c.as_slice.ensures) ∙ sym c.is_repeated.ensures ∙ c.if-is_repeated.true in
    times-twice time c.args.axis.now.count c.loop-k.k c.loop-k.found
    (times_from time c.args.axis.now.count []) c.in_ok-instant.instant
    c.loop-k-test.true c.loop-k.invariant.many c.loop-k.invariant.left c.in_ok-instant.ensures twice
    ∙ ap (λ k. Err (TimeRepeated k)) (sym c.from.ensures)

pub loop-k-preserved : goal.loop-k-preserved
loop-k-preserved c =
    let time : ℕ → Result ℤ LoadFault =
    time_at c.args.site.now c.args.file.now.bytes c.args.file.now.layout.header
    c.args.axis.now.var.now c.args.axis.now.units in
    let all = times_from time c.args.axis.now.count [] in
    let latest = c.max-latest.result in
    let fits : FitsSigned w64 c.in_ok-instant.instant = search rules in
    let fits_latest : FitsSigned w64 latest = search rules in
    let same = to_z-of_z w64 c.in_ok-instant.instant fits in
    let new : is_among c.in_ok-instant.instant c.loop-k.found ≡ false =
    ap₂ is_among (sym same) (sym c.as_slice.ensures) ∙ sym c.is_repeated.ensures ∙ c.if-is_repeated.false in
    let pushed = c.in_ok-push.ensures.ok ∙ ap (λ instant. c.loop-k.found ++ instant ∷ []) same in
    let left = times-more time c.args.axis.now.count c.loop-k.k c.loop-k.found all c.in_ok-instant.instant
    c.loop-k-test.true c.loop-k.invariant.many c.loop-k.invariant.left c.in_ok-instant.ensures new in
    let at_most = none_later c.loop-k.found _ c.in_ok-instant.instant latest c.loop-k.invariant.at_most
    c.max-latest.ensures.self_bound (subst (λ instant. instant ≤ℤ latest) same c.max-latest.ensures.other_bound) in
    record {
      many = omega (arith, ap length pushed, length_push c.loop-k.found c.in_ok-instant.instant);
      at_most = subst (λ next. All (λ earlier. earlier ≤ℤ next) c.push.new.self)
          (sym (to_z-of_z w64 latest fits_latest))
          (subst (λ found. All (λ earlier. earlier ≤ℤ latest) found) (sym pushed) at_most);
      left = subst (λ found. times_from time (c.args.axis.now.count - (c.loop-k.k + 1)) found ≡ all) (sym pushed) left;
    }
