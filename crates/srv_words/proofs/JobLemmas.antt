-- Each value of a job lies in its range.
use Rattle.std.proofs.Common.{◌≡◌, ◌≤◌, ℕ, Bool, true, false, List, Option, Some, None, subst, arith, codes}
use Rattle.std.proofs.lemmas.Option.{same_Some}
use Rattle.std.specs.Prelude.{if◌then◌else◌, IsTrue}
use Rattle.std.specs.List.{list_all}
use Rattle.std.specs.Option.{option_and_then}
use Rattle.std.specs.Str.{bytes_eq, is_utf8}
use Rattle.fm_base.proofs.OptionLemmas.{mapped_some}
use Rattle.clap.specs.Walk.{Row, Text, first_of}
use Rattle.srv_words.specs.declared.job.Command.{Command}
use Rattle.srv_words.specs.declared.job.Command.TheVariants as commands
use Rattle.srv_words.specs.declared.job.Job.{Job}
use Rattle.srv_words.specs.declared.job.Job.TheVariants.{Once, Twod, Extract, Pull, Check, Load}
use Rattle.srv_words.specs.Asked.{command_named}
use Rattle.srv_words.specs.Command.{is_taken, used}
use Rattle.srv_words.specs.Jobs.{IsJob, once_of, twod_of, extract_of, pull_of, check_of, load_of, serve_of, many_of, job_as, job_in, job_of, job_of_found, job_of_texts}
use Rattle.srv_words.specs.Reads.{◌>>=◌, if_so}
use Rattle.srv_words.specs.Stepping.{changing_of, stepping_of}
use Rattle.srv_words.specs.Values.{is_visible, number_in, visible_of}
use Rattle.srv_words.specs.Views.{constraint_of, is_view, service_of, version_of, view_of}
use Rattle.srv_words.proofs.ManyLemmas.{many_of-some}
use Rattle.srv_words.proofs.ServeLemmas.{serve_of-some}
use Rattle.srv_words.proofs.SomeLemmas.{so_some, step_some, then_some, number_in-some}
use Rattle.srv_words.proofs.SteppingLemmas.{changing_of-some, stepping_of-some}

if_some : {A P : Type 0} (test : Bool) (first second : Option A) (x : A)
    → (if test then first else second) ≡ Some x → (first ≡ Some x → P) → (second ≡ Some x → P) → P
if_some true first second x is by_first by_second = by_first is
if_some false first second x is by_first by_second = by_second is

none_is : {P : Type 0} (job : Job) → None ≡ Some job → P
none_is job is = absurd cc

-- a text that is there only where a test passes passes it
passed : (test : List ℕ → Bool) (x y : List ℕ) → if_so (test x) x ≡ Some y → IsTrue (test y)
passed test x y is =
    let there = so_some (test x) x y is in subst (λ (z : List ℕ). IsTrue (test z)) there.1 there.0

check_of-some : (rows : List Row) (job : Job) → check_of rows ≡ Some job → IsJob job
unfolding check_of
check_of-some rows job is =
    let read = mapped_some Check (first_of (codes "FILE") rows) job is in
    subst IsJob read.2 tt

load_of-some : (rows : List Row) (job : Job) → load_of rows ≡ Some job → IsJob job
unfolding load_of
load_of-some rows job is =
    let seed = step_some (option_and_then (number_in 0 4_294_967_295) (first_of (codes "SEED") rows)) (λ (seed : ℕ).
    option_and_then (number_in 1 400) (first_of (codes "FILES") rows) >>= λ (files : ℕ). Some (Load seed files))
    job is in
    let files = step_some (option_and_then (number_in 1 400) (first_of (codes "FILES") rows)) (λ (files : ℕ).
    Some (Load seed.0 files)) job seed.2 in
    let first = then_some (number_in 0 4_294_967_295) (first_of (codes "SEED") rows) seed.0 seed.1 in
    let second = then_some (number_in 1 400) (first_of (codes "FILES") rows) files.0 files.1 in
    let sound = number_in-some 0 4_294_967_295 seed.0 first.0 first.2 in
    let few = number_in-some 1 400 files.0 second.0 second.2 in
    subst IsJob (same_Some (Load seed.0 files.0) job files.2) (sound.2, omega (arith, few.0), few.1)

pull_of-some : (rows : List Row) (job : Job) → pull_of rows ≡ Some job → IsJob job
unfolding pull_of visible_of
pull_of-some rows job is =
    let address = step_some (option_and_then (visible_of 255) (first_of (codes "connect") rows)) _ job is in
    let target = step_some (option_and_then (visible_of 8_000) (first_of (codes "TARGET") rows)) _ job address.2 in
    let first = then_some (visible_of 255) (first_of (codes "connect") rows) address.0 address.1 in
    let second = then_some (visible_of 8_000) (first_of (codes "TARGET") rows) target.0 target.1 in
    subst IsJob (same_Some (Pull address.0 target.0) job target.2)
    (passed (is_visible 255) first.0 address.0 first.2, passed (is_visible 8_000) second.0 target.0 second.2)

twod_of-some : (rows : List Row) (job : Job) → twod_of rows ≡ Some job → IsJob job
unfolding twod_of
twod_of-some rows job is =
    let service = step_some (option_and_then service_of (first_of (codes "service") rows)) _ job is in
    let stepping = step_some (changing_of rows) _ job service.2 in
    let constraint = constraint_of (first_of (codes "ask") rows) in
    subst IsJob (same_Some (Twod stepping.0 service.0 constraint) job stepping.2)
    (changing_of-some rows stepping.0 stepping.1)

version_of-some : (text : List ℕ) (version : ℕ) → version_of text ≡ Some version → (1 ≤ version) × (version ≤ 2)
unfolding version_of
version_of-some text version is =
    if_some (bytes_eq text (codes "1")) (Some 1) _ version is
    (λ first. let same : 1 ≡ version = same_Some 1 version first in (omega (arith, same), omega (arith, same)))
    (λ others. if_some (bytes_eq text (codes "2")) (Some 2) None version others
    (λ second. let same : 2 ≡ version = same_Some 2 version second in (omega (arith, same), omega (arith, same)))
    (λ none. absurd cc))

view_of-some : (rows : List Row) (view : List ℕ) → view_of rows ≡ Some view → IsTrue (is_view view)
unfolding view_of
view_of-some rows view is =
    let read = step_some (first_of (codes "view") rows) _ view is in passed is_view read.0 view read.2

extract_of-some : (rows : List Row) (job : Job) → extract_of rows ≡ Some job → IsJob job
unfolding extract_of
extract_of-some rows job is =
    let view = step_some (view_of rows) _ job is in
    let version = step_some (option_and_then version_of (first_of (codes "format") rows)) _ job view.2 in
    let stepping = step_some (changing_of rows) _ job version.2 in
    let read = then_some version_of (first_of (codes "format") rows) version.0 version.1 in
    let range = version_of-some read.0 version.0 read.2 in
    let constraint = constraint_of (first_of (codes "ask") rows) in
    subst IsJob (same_Some (Extract stepping.0 view.0 constraint version.0) job stepping.2)
    (changing_of-some rows stepping.0 stepping.1, view_of-some rows view.0 view.1, range.0, range.1)

once_of-some : (rows : List Row) (job : Job) → once_of rows ≡ Some job → IsJob job
unfolding once_of
once_of-some rows job is =
    let read = mapped_some Once (stepping_of rows) job is in
    subst IsJob read.2 (stepping_of-some rows read.0 read.1)

job_as-some : (command : Command) (rows : List Row) (job : Job) → job_as command rows ≡ Some job → IsJob job
job_as-some commands.Once rows job is = once_of-some rows job is
job_as-some commands.Twod rows job is = twod_of-some rows job is
job_as-some commands.Extract rows job is = extract_of-some rows job is
job_as-some commands.Pull rows job is = pull_of-some rows job is
job_as-some commands.Check rows job is = check_of-some rows job is
job_as-some commands.Load rows job is = load_of-some rows job is
job_as-some commands.Serve rows job is = serve_of-some rows job is
job_as-some commands.Many rows job is = many_of-some rows job is

job_in-some : (name : Text) (rows : List Row) (job : Job) → job_in name rows ≡ Some job → IsJob job
unfolding job_in
job_in-some name rows job is =
    let read = then_some (λ (command : Command). job_as command rows) (command_named name) job is in
    job_as-some read.0 rows job read.2

job_of_found-some : (found : Option (Text × List Row)) (job : Job) → job_of_found found ≡ Some job → IsJob job
unfolding job_of_found
job_of_found-some found job is =
    let read = then_some (λ (f : Text × List Row). job_in f.0 f.1) found job is in
    job_in-some read.0.0 read.0.1 job read.2

job_of_texts-some : (texts : List Text) (job : Job) → job_of_texts texts ≡ Some job → IsJob job
unfolding job_of_texts
job_of_texts-some texts job is =
    if_some (is_taken texts) (job_of_found (used texts)) None job is (job_of_found-some (used texts) job)
    (λ (never : None ≡ Some job). none_is job never)

-- each value of a job lies in its range
pub IsJob_of : (words : List (List ℕ)) (job : Job) → job_of words ≡ Some job → IsJob job
unfolding job_of
IsJob_of words job is =
    if_some (list_all is_utf8 words) (job_of_texts words) None job is (job_of_texts-some words job)
    (λ (never : None ≡ Some job). none_is job never)
