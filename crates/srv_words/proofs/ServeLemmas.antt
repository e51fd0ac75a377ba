-- Each value of `serve` lies in its range.
use Rattle.std.proofs.Common.{◌≡◌, ◌<◌, ◌≤◌, ◌^◌, ℕ, ◌&&◌, List, length, Option, Some, None, subst, arith, codes}
use Rattle.std.proofs.lemmas.Bool.{and_parts, ltb-true}
use Rattle.std.proofs.lemmas.Option.{same_Some}
use Rattle.clap.specs.Walk.{Row, Text, all_of, first_of}
use Rattle.srv_words.specs.declared.job.Job.{Job}
use Rattle.srv_words.specs.declared.job.Job.TheVariants.{Serve}
use Rattle.srv_words.specs.Jobs.{IsJob, serve_of}
use Rattle.srv_words.specs.Sites.{site_of}
use Rattle.srv_words.specs.Values.{number_in}
use Rattle.std.specs.Prelude.{IfSome, nat_le, nat_lt}
use Rattle.srv_words.specs.declared.serve.Doors.{Doors}
use Rattle.srv_words.specs.declared.serve.Ticking.{Ticking}
use Rattle.srv_words.specs.Serve.{doors_of, inboxes_of, keep_of, number_or, serving_of, ticking_of}
use Rattle.srv_words.proofs.SomeLemmas.{step_some, so_some, within, number_in-some}
use Rattle.srv_words.proofs.SiteLemmas.{site_of-some}

-- 1 to 2^30 - 1 seconds, or none
abbrev pub IsKept : Option ℕ → Type 0
IsKept keep = IfSome keep (λ seconds. (0 < seconds) × (seconds < 2 ^ 30))

number_or-some : (default least most n : ℕ) (given : Option (List ℕ))
    → (least ≤ default) × (default ≤ most) × (default < 2 ^ 32) → number_or default least most given ≡ Some n
    → (least ≤ n) × (n ≤ most) × (n < 2 ^ 32)
unfolding number_or
number_or-some default least most n None range is =
    subst (λ (k : ℕ). (least ≤ k) × (k ≤ most) × (k < 2 ^ 32)) (same_Some default n is) range
number_or-some default least most n (Some text) range is = number_in-some least most n text is

keep_of-some : (given : Option (List ℕ)) (keep : Option ℕ) → keep_of given ≡ Some keep → IsKept keep
unfolding keep_of
keep_of-some None keep is = subst IsKept (same_Some None keep is) tt
keep_of-some (Some text) keep is =
    let read = step_some (number_in 1 1_073_741_823 text) (λ (n : ℕ). Some (Some n)) keep is in
    let range = number_in-some 1 1_073_741_823 read.0 text read.1 in
    let most : read.0 ≤ 1073741823 = range.1 in
    subst IsKept (same_Some (Some read.0) keep read.2) (omega (arith, range.0), omega (arith, most))

pub doors_of-some : (rows : List Row) (doors : Doors) → doors_of rows ≡ Some doors
    → (0 < doors.workers) × (doors.workers ≤ 16) × (doors.connections < 2 ^ 32)
unfolding doors_of
doors_of-some rows doors is =
    let listen = step_some (first_of (codes "listen") rows) _ doors is in
    let workers = step_some (number_or 4 1 16 (first_of (codes "workers") rows))
    _ doors listen.2 in
    let connections = step_some (number_or 0 0 4_294_967_295 (first_of (codes "connections") rows)) _ doors workers.2 in
    let range = number_or-some 4 1 16 workers.0 (first_of (codes "workers") rows)
    (omega arith, omega arith, omega arith) workers.1 in
    let count = number_or-some 0 0 4_294_967_295 connections.0 (first_of (codes "connections") rows)
    (omega arith, omega arith, omega arith) connections.1 in
    subst (λ (d : Doors). (0 < d.workers) × (d.workers ≤ 16) × (d.connections < 2 ^ 32))
    (same_Some (record { listen = listen.0; workers = workers.0; connections = connections.0 }) doors connections.2)
    (omega (arith, range.0), range.1, count.2)

pub ticking_of-some : (rows : List Row) (ticking : Ticking) → ticking_of rows ≡ Some ticking
    → IsKept ticking.keep × (ticking.ticks < 2 ^ 32)
unfolding ticking_of
ticking_of-some rows ticking is =
    let keep = step_some (keep_of (first_of (codes "keep") rows)) _ ticking is in
    let ticks = step_some (number_or 0 0 4_294_967_295 (first_of (codes "ticks") rows)) _ ticking keep.2 in
    let count = number_or-some 0 0 4_294_967_295 ticks.0 (first_of (codes "ticks") rows)
    (omega arith, omega arith, omega arith) ticks.1 in
    subst (λ (t : Ticking). IsKept t.keep × (t.ticks < 2 ^ 32))
    (same_Some (record { keep = keep.0; ticks = ticks.0 }) ticking ticks.2)
    (keep_of-some (first_of (codes "keep") rows) keep.0 keep.1, count.2)

inboxes_of-some : (rows : List Row) (words : List Text) → inboxes_of rows ≡ Some words
    → (0 < length words) × (length words ≤ 8)
unfolding inboxes_of
inboxes_of-some rows words is =
    let read = step_some (all_of (codes "INBOX") rows) _ words is in
    let there = so_some (nat_lt 0 (length read.0) && nat_le (length read.0) 8) read.0 words read.2 in
    let parts = and_parts (nat_lt 0 (length read.0)) (nat_le (length read.0) 8) there.0 in
    subst (λ (list : List Text). (0 < length list) × (length list ≤ 8)) there.1
    (ltb-true 0 (length read.0) parts.0, within (length read.0) 8 parts.1)

-- the values of `serve` lie in their ranges
pub serve_of-some : (rows : List Row) (job : Job) → serve_of rows ≡ Some job → IsJob job
unfolding serve_of
serve_of-some rows job is =
    let proto = step_some (first_of (codes "proto") rows) _ job is in
    let inboxes = step_some (inboxes_of rows) _ job proto.2 in
    let ticking = step_some (ticking_of rows) _ job inboxes.2 in
    let site = step_some (site_of rows) _ job ticking.2 in
    let doors = step_some (doors_of rows) _ job site.2 in
    let sound = site_of-some rows site.0 site.1 in
    let door = doors_of-some rows doors.0 doors.1 in
    let clock = ticking_of-some rows ticking.0 ticking.1 in
    let folders = inboxes_of-some rows inboxes.0 inboxes.1 in
    subst IsJob (same_Some (Serve (serving_of site.0 proto.0 doors.0 ticking.0 inboxes.0)) job doors.2) (record {
      site = sound.0;
      mark = sound.1;
      some_workers = door.0;
      few_workers = door.1;
      connections = door.2;
      keep = clock.0;
      ticks = clock.1;
      some_inboxes = folders.0;
      few_inboxes = folders.1;
    })
