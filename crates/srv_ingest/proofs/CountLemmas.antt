-- A report that counts one name more.
use Rattle.std.proofs.Common.{◌≡◌, ℕ, ◌+◌, ◌&&◌, Bool, cond, List, [], ◌∷◌, ◌++◌, Option, Some, None, is_none, is_some, count_by, refl, sym, ap, ◌∙◌, append-nil, arith}
use Rattle.std.proofs.lemmas.List.Sums.{sum_by_push}
use Rattle.dev_traits.specs.declared.inbox.Verdict.{Verdict}
use Rattle.dev_traits.specs.declared.inbox.Verdict.TheVariants as kinds
use Rattle.dev_traits.specs.Cause.{capped}
use Rattle.srv_ingest.specs.declared.report.IngestReport.{IngestReport}
use Rattle.srv_ingest.specs.Ingests.{Counts, found_with, has_come, is_published, is_refused, is_retracted, is_short, Settlement}
use Rattle.srv_ingest.specs.Turns.{with_published, with_settled, with_untaken}
use Rattle.srv_ingest.specs.Verdicts.{taken_back}

-- a report after a name's turn
abbrev after_turn : IngestReport → Option (List ℕ) → Verdict → IngestReport
after_turn report back verdict = with_settled (with_published report back verdict) verdict

-- how many of a kind there are, with one more
count-more : (is : Settlement → Bool) (settled : List Settlement) (it : Settlement)
    → count_by is (settled ++ it ∷ []) ≡ count_by is settled + cond (is it) 1 0
count-more is settled it = sum_by_push (λ x. cond (is x) 1 0) settled it

-- the files that came, with one name more
come-turn : (report : IngestReport) (back : Option (List ℕ)) (verdict : Verdict)
    → (after_turn report back verdict).published ≡ report.published + cond (is_published verdict && is_none back) 1 0
unfolding with_published with_settled is_published
come-turn report None (kinds.Published number) = refl
come-turn report (Some back) (kinds.Published number) = omega arith
come-turn report None (kinds.Refused code) = omega arith
come-turn report (Some back) (kinds.Refused code) = omega arith
come-turn report None (kinds.Full count) = omega arith
come-turn report (Some back) (kinds.Full count) = omega arith
come-turn report None verdict = omega arith
come-turn report (Some back) verdict = omega arith

-- the names that took a file back, with one name more
retracted-turn : (report : IngestReport) (back : Option (List ℕ)) (verdict : Verdict)
    → (after_turn report back verdict).retracted ≡ report.retracted + cond (is_published verdict && is_some back) 1 0
unfolding with_published with_settled is_published
retracted-turn report None (kinds.Published number) = omega arith
retracted-turn report (Some back) (kinds.Published number) = refl
retracted-turn report None (kinds.Refused code) = omega arith
retracted-turn report (Some back) (kinds.Refused code) = omega arith
retracted-turn report None (kinds.Full count) = omega arith
retracted-turn report (Some back) (kinds.Full count) = omega arith
retracted-turn report None verdict = omega arith
retracted-turn report (Some back) verdict = omega arith

-- the names that were refused, with one name more
refused-turn : (report : IngestReport) (back : Option (List ℕ)) (verdict : Verdict) (count : ℕ)
    → report.refused ≡ capped count
    → (after_turn report back verdict).refused ≡ capped (count + cond (is_refused verdict) 1 0)
unfolding with_published with_settled is_refused
refused-turn report None (kinds.Published number) count is = omega (arith, is)
refused-turn report (Some back) (kinds.Published number) count is = omega (arith, is)
refused-turn report None (kinds.Refused code) count is = omega (arith, is)
refused-turn report (Some back) (kinds.Refused code) count is = omega (arith, is)
refused-turn report None (kinds.Full full) count is = omega (arith, is)
refused-turn report (Some back) (kinds.Full full) count is = omega (arith, is)
refused-turn report None verdict count is = omega (arith, is)
refused-turn report (Some back) verdict count is = omega (arith, is)

-- the names at which memory ran out, with one name more
short-turn : (report : IngestReport) (back : Option (List ℕ)) (verdict : Verdict) (count : ℕ)
    → report.short ≡ capped count
    → (after_turn report back verdict).short ≡ capped (count + cond (is_short verdict) 1 0)
unfolding with_published with_settled is_short
short-turn report None (kinds.Published number) count is = omega (arith, is)
short-turn report (Some back) (kinds.Published number) count is = omega (arith, is)
short-turn report None (kinds.Refused code) count is = omega (arith, is)
short-turn report (Some back) (kinds.Refused code) count is = omega (arith, is)
short-turn report None kinds.Short count is = omega (arith, is)
short-turn report (Some back) kinds.Short count is = omega (arith, is)
short-turn report None verdict count is = omega (arith, is)
short-turn report (Some back) verdict count is = omega (arith, is)

-- a verdict that the inbox did not take is counted as an operation alone
found-turn : (report : IngestReport) (back : Option (List ℕ)) (verdict : Verdict)
    → ((with_published report back verdict).published ≡ report.published
    + cond (is_published verdict && is_none back) 1 0)
    × ((with_published report back verdict).retracted ≡ report.retracted
    + cond (is_published verdict && is_some back) 1 0)
    × ((with_published report back verdict).refused ≡ report.refused)
    × ((with_published report back verdict).short ≡ report.short)
unfolding with_published is_published
found-turn report None (kinds.Published number) = (refl, omega arith, refl, refl)
found-turn report (Some back) (kinds.Published number) = (omega arith, refl, refl, refl)
found-turn report None verdict = (omega arith, omega arith, refl, refl)
found-turn report (Some back) verdict = (omega arith, omega arith, refl, refl)

-- no name was settled yet
pub Counts-none : (report : IngestReport) → report.refused ≡ 0 → report.short ≡ 0 → report.published ≡ 0
    → report.retracted ≡ 0 → Counts [] [] report
Counts-none report refused_is short_is published_is retracted_is = record {
  refused_is = refused_is;
  short_is = short_is;
  published_is = published_is;
  retracted_is = retracted_is;
}

-- one more name was settled
pub Counts-more : (settled : List Settlement) (it : Settlement) (report : IngestReport) → Counts settled settled report
    → Counts (settled ++ it ∷ []) (settled ++ it ∷ []) (after_turn report (taken_back it.name) it.verdict)
Counts-more settled it report counts =
    let back : Option (List ℕ) = taken_back it.name in
    let refused : Settlement → Bool = λ x. is_refused x.verdict in
    let short : Settlement → Bool = λ x. is_short x.verdict in
    record {
      refused_is = refused-turn report back it.verdict (count_by refused settled) counts.refused_is
          ∙ ap capped (sym (count-more refused settled it));
      short_is = short-turn report back it.verdict (count_by short settled) counts.short_is
          ∙ ap capped (sym (count-more short settled it));
      published_is = come-turn report back it.verdict
          ∙ ap (λ (n : ℕ). n + cond (has_come it) 1 0) counts.published_is
          ∙ sym (count-more has_come settled it);
      retracted_is = retracted-turn report back it.verdict
          ∙ ap (λ (n : ℕ). n + cond (is_retracted it) 1 0) counts.retracted_is
          ∙ sym (count-more is_retracted settled it);
    }

-- a verdict was found that the inbox did not take, or none was
pub Counts-found : (settled : List Settlement) (untaken : Option Settlement) (report : IngestReport)
    → Counts settled settled report → Counts settled (found_with settled untaken) (with_untaken report untaken)
Counts-found settled None report counts = record {
  refused_is = counts.refused_is;
  short_is = counts.short_is;
  published_is = counts.published_is ∙ ap (λ (l : List Settlement). count_by has_come l) (sym (append-nil settled));
  retracted_is = counts.retracted_is
      ∙ ap (λ (l : List Settlement). count_by is_retracted l) (sym (append-nil settled));
}
Counts-found settled (Some it) report counts =
    let turn = found-turn report (taken_back it.name) it.verdict in
    record {
      refused_is = turn.2 ∙ counts.refused_is;
      short_is = turn.3 ∙ counts.short_is;
      published_is = turn.0 ∙ ap (λ (n : ℕ). n + cond (has_come it) 1 0) counts.published_is
          ∙ sym (count-more has_come settled it);
      retracted_is = turn.1 ∙ ap (λ (n : ℕ). n + cond (is_retracted it) 1 0) counts.retracted_is
          ∙ sym (count-more is_retracted settled it);
    }
