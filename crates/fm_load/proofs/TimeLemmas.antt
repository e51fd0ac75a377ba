-- One more time, as a step of all times.
use Rattle.std.proofs.Common.{◌≡◌, ℕ, suc, ◌+◌, ◌-◌, ◌<◌, true, false, List, [], ◌∷◌, ◌++◌, length, ℤ, Result, Ok, Err, All, ◌≤ℤ◌, sym, ap, ◌∙◌, arith}
use Rattle.std.specs.List.{list_any}
use Rattle.std.specs.Ordering.{int_eq}
use Rattle.std.proofs.lemmas.Int.{ints}
use Rattle.std.proofs.lemmas.List.Elements.{All-push, All-weaker}
use Rattle.fm_base.specs.Answer.{Answers}
use Rattle.fm_base.specs.declared.fail.Fail.{Fail}
use Rattle.fm_base.specs.declared.fail.Fail.TheVariants as fails
use Rattle.fm_base.specs.Chain.{◌>>=◌, ◌>>◌, refuse_if}
use Rattle.fm_model.specs.declared.loaded.LoadFault.{LoadFault}
use Rattle.fm_model.specs.declared.loaded.LoadFault.TheVariants.{TimeRepeated}
use Rattle.fm_model.specs.LoadTimes.{times_from}

at_most_more : (earlier latest next : ℤ) → earlier ≤ℤ latest → latest ≤ℤ next → earlier ≤ℤ next
at_most_more earlier latest next at_most later = omega (arith, ints)

module _ (time : ℕ → Result ℤ LoadFault) (count k : ℕ) (found : List ℤ) (all : Result (List ℤ) LoadFault) where
  -- what is done with a time
  abbrev after : ℤ → Result (List ℤ) LoadFault
  after instant =
      refuse_if (list_any (λ earlier. int_eq earlier instant) found) (TimeRepeated (length found))
      >> times_from time (count - (k + 1)) (found ++ instant ∷ [])

  opened : k < count → length found ≡ k → times_from time (count - k) found ≡ (time k >>= after)
  unfolding times_from
  opened below many =
      let left : count - k ≡ suc (count - (k + 1)) = omega arith in
      ap (λ n. times_from time n found) left ∙ ap (λ n. time n >>= after) many

  pub times-fault : (fault : LoadFault) → k < count → length found ≡ k → times_from time (count - k) found ≡ all
      → time k ≡ Err fault → all ≡ Err fault
  times-fault fault below many is bad = sym is ∙ opened below many ∙ ap (λ r. r >>= after) bad

  pub times-refused : (fail : Fail LoadFault) → k < count → length found ≡ k → times_from time (count - k) found ≡ all
      → Answers (time k) (Err fail) → Answers all (Err fail)
  times-refused fails.NoMemory below many is bad = tt
  times-refused (fails.Fault fault) below many is bad = times-fault fault below many is bad

  pub times-twice : (instant : ℤ) → k < count → length found ≡ k → times_from time (count - k) found ≡ all
      → time k ≡ Ok instant → list_any (λ earlier. int_eq earlier instant) found ≡ true → all ≡ Err (TimeRepeated k)
  times-twice instant below many is good twice =
      sym is ∙ opened below many ∙ ap (λ r. r >>= after) good
      ∙ ap (λ b. refuse_if b (TimeRepeated (length found)) >>
      times_from time (count - (k + 1)) (found ++ instant ∷ [])) twice
      ∙ ap (λ n. Err (TimeRepeated n)) many

  pub times-more : (instant : ℤ) → k < count → length found ≡ k → times_from time (count - k) found ≡ all
      → time k ≡ Ok instant → list_any (λ earlier. int_eq earlier instant) found ≡ false
      → times_from time (count - (k + 1)) (found ++ instant ∷ []) ≡ all
  times-more instant below many is good new =
      sym (sym is ∙ opened below many ∙ ap (λ r. r >>= after) good
      ∙ ap (λ b. refuse_if b (TimeRepeated (length found)) >>
      times_from time (count - (k + 1)) (found ++ instant ∷ [])) new)

-- none of the times with one more is later than what neither is later than
pub none_later : (found : List ℤ) (latest instant next : ℤ) → All (λ earlier. earlier ≤ℤ latest) found
    → latest ≤ℤ next → instant ≤ℤ next → All (λ earlier. earlier ≤ℤ next) (found ++ instant ∷ [])
none_later found latest instant next all later more =
    All-push (λ earlier. earlier ≤ℤ next) found instant
    (All-weaker (λ earlier. earlier ≤ℤ latest) (λ earlier. earlier ≤ℤ next)
    (λ earlier at_most. at_most_more earlier latest next at_most later) found all) more

pub ruleset timings = (times-refused, times-twice, times-more)
