-- The page of one more instant has its rows.
use Rattle.std.proofs.Common.{rules, ◌≡◌, arith, get_or, refl, if◌then◌else◌, true, pos, subst, take, SFits, w64}
use Rattle.std.specs.BTreeMap.{get}
use Rattle.std.specs.Ordering.{int_cmp}
use Rattle.std.proofs.lemmas.Int.{to_z-of_z}
use Rattle.std.proofs.lemmas.List.{take_all}
use Rattle.fm_edition.specs.Indexes.{page_of, rows_at, touches}
use Rattle.fm_edition.proofs.BestLemmas.{all_made, same_step, set_step, touches-more}
use Rattle.fm_edition.proofs.PageLemmas.{same_entries}
use Rattle.fm_edition.proofs.maps.best.best_after.Goals as goal
use Rattle.fm_edition.proofs.maps.best.best_after.Goals.{then-begins_page+in_ok-set_rows, else-begins_page}

pub loop-at-init : goal.loop-at-init
loop-at-init c =
    let same : c.in_ok-next.next.entries ≡ c.args.best.now.entries = same_entries c.args.best.now.entries
    c.in_ok-next.next.entries c.in_ok-next.ensures.cases in
    record {
      within = omega arith;
      ordered = rw same c.requires.best;
      made = λ number. rw same refl;
    }

pub loop-at-preserved : goal.loop-at-preserved
loop-at-preserved c =
    let touched = c.args.touched.now in
    let key = get_or touched c.loop-at.at (pos 0) in
    let number = c.page_of-number.result in
    let a : SFits w64 key = search rules in
    let b : SFits w64 number = search rules in
    let own : number ≡ page_of key = simp to_z-of_z at c.page_of-number.ensures in
    let rows = rows_at c.args.pages.now in
    elim c.if-begins_page.branch [
      | then-begins_page+in_ok-set_rows w ↦ record {
        within = omega (arith, c.loop-at-test.true);
        ordered = rw w.next-is w.in_ok-set_rows.ensures.ordered;
        made = λ other.
            let more = touches-more touched c.loop-at.at (pos 0) other c.loop-at-test.true in
            let set = simp to_z-of_z at (w.in_ok-set_rows.ensures.set other) in
            rw (w.next-is, more, ← own) (set_step rows number other (touches (take c.loop-at.at touched) other)
            (get int_cmp c.args.best.now other) (get int_cmp c.loop-at.next other)
            (get int_cmp w.set_rows.new.best other) (c.loop-at.invariant.made other) set);
      }
      | else-begins_page w ↦ record {
        within = omega (arith, c.loop-at-test.true);
        ordered = rw w.next-is c.loop-at.invariant.ordered;
        made = λ other.
            let more = touches-more touched c.loop-at.at (pos 0) other c.loop-at-test.true in
            let known = simp to_z-of_z at (c.begins_page.ensures w.if-begins_page.false) in
            rw (w.next-is, more, ← own) (same_step rows number other (touches (take c.loop-at.at touched) other)
            (get int_cmp c.args.best.now other) (get int_cmp c.loop-at.next other)
            (λ is. subst (λ n. touches (take c.loop-at.at touched) n ≡ true) is known)
            (c.loop-at.invariant.made other));
      }
    ]

pub returns : goal.returns
returns c =
    let rows = rows_at c.args.pages.now in
    let first = get int_cmp c.args.best.now in
    let touched = c.args.touched.now in
    record {
      ordered = c.loop-at.invariant.ordered;
      shown = λ number.
          let made = subst (λ l. get int_cmp c.loop-at.next number
          ≡ (if touches l number then rows number else first number))
          (take_all c.loop-at.at touched c.loop-at-test.false) (c.loop-at.invariant.made number) in
          all_made (rows number) (first number) (touches touched number) (get int_cmp c.loop-at.next number)
          (c.requires.same number) made;
    }
