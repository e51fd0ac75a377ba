-- The steps of a publication, each as the publication after it.
use Rattle.std.specs.Prelude.{◌+◌, ℕ, Bool, true, false, List, [], ◌∷◌, ◌++◌, length, slice_set}
use Rattle.logbook.specs.Pages.{Book}
use Rattle.fm_model.specs.declared.op.Op.{Op}
use Rattle.fm_model.specs.declared.proto.Proto.{Proto}
use Rattle.fm_edition.specs.Log.{held_of}
use Rattle.pub_pass.specs.declared.rule.Known.{Known}
use Rattle.pub_pass.specs.Copies.{longer, Copy}
use Rattle.pub_snap.specs.Rule.{Publication}

-- the copy that stands for a log
abbrev pub copy_of : Book → Proto → List Op → Copy
copy_of book proto log = record { held = held_of proto log; book = book; log = log }

-- a seat that has seen nothing
abbrev pub unseated : Known
unseated = record { seen = []; looks = [] }

-- a publication at its opening, with no seat but the writer's yet
abbrev pub opened : Book → Proto → Publication
opened book proto = record {
  log = [];
  shown = copy_of book proto [];
  other = copy_of book proto [];
  writer = unseated;
  seats = unseated ∷ [];
  learnt = [];
  booked = 0;
}

-- a pass is made
abbrev pub with_seat : Publication → Publication
with_seat now = record now { seats = now.seats ++ unseated ∷ [] }

-- the lengths at the looks of a seat after it entered a copy with a log, for a look or not
abbrev pub looks_after : List ℕ → List Op → Bool → List ℕ
looks_after looks log true = looks ++ length log ∷ []
looks_after looks log false = looks

-- a seat's knowledge after it entered a copy with a log, for a look or not
abbrev pub seat_after : Known → List Op → Bool → Known
seat_after before log looking = record { seen = log; looks = looks_after before.looks log looking }

-- a seat that has this knowledge enters the copy that is shown, for a look or not
abbrev pub entered : Publication → ℕ → Known → Bool → Publication
entered now seat before looking =
    record now { seats = slice_set now.seats seat (seat_after before now.shown.log looking) }

-- the writer's knowledge once an operation is published
abbrev pub writer_after : Publication → Op → Known
writer_after now op = record { seen = now.log ++ op ∷ []; looks = now.writer.looks }

-- the writer, at its seat, adds an operation to the log, shows the copy that stands for the log, and books it
abbrev pub published : Book → Proto → Publication → ℕ → Op → Publication
published book proto now seat op = record {
  log = now.log ++ op ∷ [];
  shown = copy_of book proto (now.log ++ op ∷ []);
  other = now.shown;
  writer = writer_after now op;
  seats = slice_set now.seats seat (writer_after now op);
  learnt = now.learnt;
  booked = now.booked + 1;
}

-- the other copy comes to hold what readers see, and what it held goes
abbrev pub caught_up : Publication → Publication
caught_up now = record now { other = now.shown }

-- a receipt is made of the whole log
abbrev pub receipted : Publication → Publication
receipted now = record now { learnt = now.learnt ++ now.log ∷ [] }

-- a pass that knows one list learns another
abbrev pub with_learnt : Publication → ℕ → List Op → List Op → Publication
with_learnt now index own told = record now { learnt = slice_set now.learnt index (longer own told) }
