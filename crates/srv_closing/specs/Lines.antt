-- The lines of what was served of several collections.
use Rattle.std.specs.Prelude.{ℕ, ◌+◌, List, [], ◌∷◌, ◌++◌, codes, slice_get}
use Rattle.std.specs.List.{flat_map}
use Rattle.pub_snap.specs.declared.desk.Closed.{Closed}
use Rattle.srv_ingest.specs.declared.report.ExpireReport.{ExpireReport}
use Rattle.srv_ingest.specs.declared.report.IngestReport.{IngestReport}
use Rattle.srv_words.specs.declared.job.Spec.{Spec}
use Rattle.srv_workers.specs.declared.outcome.Outcomes.{Outcomes}
use Rattle.srv_workers.specs.Several.{gone_by}
use Rattle.srv_closing.specs.Closing.{changes_text, left_text}

-- what there is to say of a collection: its name, what the worker of its inbox tells, how often runs went, and the end
-- of its desk
pub record Served : Type 0 where
  pub name : List ℕ
  pub taken : IngestReport
  pub expired : ℕ
  pub closed : Closed

-- the same of the collections from a number on, each with the reports of its inbox and of the clock of its number, and
-- with the end of its desk
unfoldable pub served_from : ℕ → List Spec → List IngestReport → List ExpireReport → List Closed → List Served
served_from number (spec ∷ specs) (taken ∷ inboxes) clocks (closed ∷ desks) =
    record {
      name = spec.site.name;
      taken = taken;
      expired = gone_by (slice_get clocks number);
      closed = closed;
    } ∷ served_from (number + 1) specs inboxes clocks desks
served_from number specs inboxes clocks desks = []

-- the line of a collection: its name, and what was served of it
unfoldable pub collection_line : Served → List ℕ
collection_line served = (served.name ++ codes " ")
    ++ (changes_text served.taken.published served.taken.retracted served.expired
    ++ left_text served.closed.tally served.closed.revision)

-- the lines of all collections
abbrev pub many_lines : List Spec → Outcomes → List ℕ
many_lines specs outcomes =
    flat_map (λ (served : Served). collection_line served)
    (served_from 0 specs outcomes.inboxes outcomes.clocks outcomes.desks)
