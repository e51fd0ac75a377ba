-- The end of a run of `serve` by its workers' reports.
use Rattle.std.specs.Prelude.{◌≡◌, ℕ, ◌+◌, if◌then◌else◌, nat_lt, List, [], ◌∷◌, ◌++◌, codes, sum_by, Option, Some, None}
use Rattle.std.specs.Option.{option_or}
use Rattle.srv_door.specs.declared.door_report.DoorEnd.TheVariants as door_ends
use Rattle.srv_door.specs.declared.door_report.DoorReport.{DoorReport}
use Rattle.srv_ingest.specs.declared.report.ExpireReport.{ExpireReport}
use Rattle.srv_ingest.specs.declared.report.IngestEnd.{IngestEnd}
use Rattle.srv_ingest.specs.declared.report.IngestEnd.TheVariants as inbox_ends
use Rattle.srv_ingest.specs.declared.report.IngestReport.{IngestReport}
use Rattle.srv_door.specs.declared.door_report.DoorEnd.{DoorEnd}
use Rattle.fm_model.specs.declared.full.Tally.{Tally}
use Rattle.dev_traits.specs.Shown.{SinkShown}
use Rattle.srv_workers.specs.declared.outcome.Outcome.{Outcome}
use Rattle.srv_alone.specs.declared.end.End.{End}
use Rattle.srv_alone.specs.declared.end.End.TheVariants.{Done, NoMemory, SinkFault, DoorFault, InboxFault}
use Rattle.srv_alone.specs.Load.{field}
use Rattle.srv_alone.specs.Report.{CutsLine, Reports, WritesLine}

-- memory ran out, if it did so at least once
abbrev pub short_end : ℕ → Option End
short_end short = if nat_lt 0 short then Some NoMemory else None

-- the end of a run at the door of this number, if serving it ended otherwise than by its close, or memory ran out
abbrev pub end_at_door : ℕ → DoorEnd → ℕ → Option End
end_at_door number door_ends.DoorFault short = Some (DoorFault number)
end_at_door number door_ends.Closed short = short_end short

abbrev pub door_end : ℕ → DoorReport → Option End
door_end number report = end_at_door number report.end report.short

-- the end of a run at the inbox of this number, if it failed or memory ran out
abbrev pub end_at_inbox : ℕ → IngestEnd → ℕ → Option End
end_at_inbox number inbox_ends.InboxFault short = Some (InboxFault number)
end_at_inbox number inbox_ends.NoMemory short = Some NoMemory
end_at_inbox number inbox_ends.Done short = short_end short

abbrev pub inbox_end : ℕ → IngestReport → Option End
inbox_end number report = end_at_inbox number report.end report.short

-- the end of a run at a clock, if memory ran out
abbrev pub clock_end : ℕ → ExpireReport → Option End
clock_end number report = short_end report.short

-- the first end at devices that are numbered from here
unfoldable pub first_from : {R : Type 0} → (ℕ → R → Option End) → ℕ → List R → Option End
first_from end_of number [] = None
first_from end_of number (report ∷ more) = option_or (end_of number report) (first_from end_of (number + 1) more)

-- the first end of a run at the doors, the inboxes and the clocks that these reports are of
abbrev pub first_end_of : List DoorReport → List IngestReport → List ExpireReport → Option End
first_end_of doors inboxes clocks =
    option_or (first_from door_end 0 doors) (option_or (first_from inbox_end 0 inboxes) (first_from clock_end 0 clocks))

abbrev pub first_end : Outcome → Option End
first_end outcome = first_end_of outcome.doors outcome.inboxes outcome.clocks

-- how many files came, were taken back, and how many times runs went
unfoldable pub changes_text : ℕ → ℕ → ℕ → List ℕ
changes_text published retracted expired = field (codes "published ") published
    ++ field (codes " retracted ") retracted ++ field (codes " expired ") expired

-- how many files and times are held at the end, and how many operations were published
unfoldable pub left_text : Tally → ℕ → List ℕ
left_text tally revision = field (codes " held ") tally.files ++ field (codes " rows ") tally.rows
    ++ field (codes " revision ") revision ++ codes "\n"

-- the line of what was served
abbrev pub serve_line : Outcome → List ℕ
serve_line outcome =
    changes_text (sum_by (λ (report : IngestReport). report.published) outcome.inboxes)
    (sum_by (λ (report : IngestReport). report.retracted) outcome.inboxes)
    (sum_by (λ (report : ExpireReport). report.expired) outcome.clocks)
    ++ left_text outcome.tally outcome.revision

-- How a run ended and what was written: where all workers ended well, the text of what was served, or a front of it
-- where the sink failed; else the line of the first end.
abbrev pub EndsWith : List ℕ → Option End → End → SinkShown → SinkShown → Type 0
EndsWith text None Done sink sink' = WritesLine text sink sink'
EndsWith text None SinkFault sink sink' = CutsLine text sink sink'
EndsWith text None end sink sink' = ⊥
EndsWith text (Some found) end sink sink' = (end ≡ found) × Reports found [] sink sink'

abbrev pub EndsServing : Outcome → Option End → End → SinkShown → SinkShown → Type 0
EndsServing outcome = EndsWith (serve_line outcome)
