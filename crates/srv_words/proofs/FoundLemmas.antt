-- The job of words, by what was found in them.
use Rattle.std.proofs.Common.{◌≡◌, ℕ, Bool, true, false, List, Option, Some, None, sym, ap, ◌∙◌}
use Rattle.std.specs.Prelude.{if◌then◌else◌}
use Rattle.std.specs.List.{list_all}
use Rattle.std.specs.Option.{option_and_then}
use Rattle.std.specs.Str.{is_utf8}
use Rattle.clap.specs.Walk.{Row, Text}
use Rattle.srv_words.specs.Command.{is_taken, used}
use Rattle.srv_words.specs.Jobs.{job_in, job_of, job_of_found, job_of_texts}

pub job_unread : (words : List (List ℕ)) → list_all is_utf8 words ≡ false → job_of words ≡ None
unfolding job_of
job_unread words is = ap (λ (b : Bool). if b then job_of_texts words else None) is

pub job_read : (words texts : List (List ℕ)) → list_all is_utf8 words ≡ true → texts ≡ words
    → job_of words ≡ job_of_texts texts
unfolding job_of
job_read words texts is same =
    ap (λ (b : Bool). if b then job_of_texts words else None) is ∙ ap job_of_texts (sym same)

pub job_refused : (texts : List Text) → is_taken texts ≡ false → job_of_texts texts ≡ None
unfolding job_of_texts
job_refused texts is = ap (λ (b : Bool). if b then job_of_found (used texts) else None) is

pub job_taken : (texts : List Text) (found : Option (Text × List Row)) → is_taken texts ≡ true → found ≡ used texts
    → job_of_texts texts ≡ job_of_found found
unfolding job_of_texts
job_taken texts found is same =
    ap (λ (b : Bool). if b then job_of_found (used texts) else None) is ∙ ap job_of_found (sym same)

pub job_found : (found : Option (Text × List Row)) (name : Text) (rows : List Row) → Some (name, rows) ≡ found
    → job_of_found found ≡ job_in name rows
unfolding job_of_found
job_found found name rows is = sym (ap (option_and_then (λ (f : Text × List Row). job_in f.0 f.1)) is)

pub job_none : (found : Option (Text × List Row)) → None ≡ found → job_of_found found ≡ None
unfolding job_of_found
job_none found is = sym (ap (option_and_then (λ (f : Text × List Row). job_in f.0 f.1)) is)

pub ruleset found = (job_unread, job_read, job_refused, job_taken, job_found, job_none)
