-- Each value of `many` lies in its range.
use Rattle.std.proofs.Common.{◌≡◌, ◌≤◌, ℕ, ◌&&◌, List, length, Option, Some, subst, arith, codes}
use Rattle.std.specs.Prelude.{nat_le}
use Rattle.std.proofs.lemmas.Bool.{and_parts}
use Rattle.std.proofs.lemmas.Option.{same_Some}
use Rattle.clap.specs.Walk.{Row, Text, all_of}
use Rattle.srv_words.specs.declared.job.Job.{Job}
use Rattle.srv_words.specs.declared.job.Job.TheVariants.{Many}
use Rattle.srv_words.specs.Collections.{specs_of}
use Rattle.srv_words.specs.Jobs.{IsJob, many_of}
use Rattle.srv_words.specs.Many.{serving_of, spec_words_of}
use Rattle.srv_words.specs.Serve.{doors_of, ticking_of}
use Rattle.srv_words.proofs.CollectionLemmas.{specs_of-some}
use Rattle.srv_words.proofs.ServeLemmas.{doors_of-some, ticking_of-some}
use Rattle.srv_words.proofs.SomeLemmas.{step_some, so_some, within}

spec_words_of-some : (rows : List Row) (words : List Text) → spec_words_of rows ≡ Some words
    → (2 ≤ length words) × (length words ≤ 4)
unfolding spec_words_of
spec_words_of-some rows words is =
    let read = step_some (all_of (codes "SPEC") rows) _ words is in
    let there = so_some (nat_le 2 (length read.0) && nat_le (length read.0) 4) read.0 words read.2 in
    let parts = and_parts (nat_le 2 (length read.0)) (nat_le (length read.0) 4) there.0 in
    subst (λ (list : List Text). (2 ≤ length list) × (length list ≤ 4)) there.1
    (within 2 (length read.0) parts.0, within (length read.0) 4 parts.1)

-- the values of `many` lie in their ranges
pub many_of-some : (rows : List Row) (job : Job) → many_of rows ≡ Some job → IsJob job
unfolding many_of
many_of-some rows job is =
    let list = step_some (spec_words_of rows) _ job is in
    let ticking = step_some (ticking_of rows) _ job list.2 in
    let doors = step_some (doors_of rows) _ job ticking.2 in
    let specs = step_some (specs_of list.0) _ job doors.2 in
    let count = spec_words_of-some rows list.0 list.1 in
    let door = doors_of-some rows doors.0 doors.1 in
    let clock = ticking_of-some rows ticking.0 ticking.1 in
    let each = specs_of-some list.0 specs.0 specs.1 in
    subst IsJob (same_Some (Many (serving_of doors.0 ticking.0 specs.0)) job specs.2) (record {
      some_workers = door.0;
      few_workers = door.1;
      connections = door.2;
      keep = clock.0;
      ticks = clock.1;
      some_specs = omega (arith, count.0, each.2);
      few_specs = omega (arith, count.1, each.2);
      each = each.0;
      differ = each.1;
    })
