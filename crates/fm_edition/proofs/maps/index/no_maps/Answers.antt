-- Maps without entries.
use Rattle.std.proofs.Common.{[], refl, subst, sym}
use Rattle.fm_edition.specs.Indexes.{AreMaps}
use Rattle.fm_edition.specs.declared.maps.best.Best.{Best}
use Rattle.fm_edition.specs.declared.maps.index.Index.{Index}
use Rattle.fm_edition.proofs.IndexLemmas.{AreMaps-none}
use Rattle.fm_edition.proofs.maps.index.no_maps.Goals as goal

pub returns : goal.returns
returns c =
    let index : Best → Index = λ best. record {
      by_run = c.new-2.result;
      by_time = c.new-3.result;
      by_name = c.new-4.result;
      best = best;
    } in
    subst (λ best. AreMaps [] (index best)) (sym c.in_ok-best.ensures)
    (AreMaps-none (index _) c.new-2.ensures.empty c.new-2.ensures.ordered c.new-3.ensures.empty c.new-3.ensures.ordered
    c.new-4.ensures.empty c.new-4.ensures.ordered c.new.ensures.empty c.new.ensures.ordered refl)
