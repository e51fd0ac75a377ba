-- The operations of the steps of `once`: a file that comes to the collection, runs that go, and a file that is taken
-- back.
use Rattle.std.specs.Prelude.{◌≡◌, ℕ, List, if◌then◌else◌, Result, Ok, IfSome, ℤ}
use Rattle.fm_base.specs.Chain.{◌>>=◌}
use Rattle.fm_model.specs.declared.loaded.Loaded.{Loaded}
use Rattle.fm_model.specs.declared.op.Op.TheVariants as ops
use Rattle.fm_model.specs.Collection.{coll, full_at, holds, holds_older}
use Rattle.dev_traits.specs.Shown.{FilesShown}
use Rattle.pub_look.specs.History.{History, with_op}
use Rattle.srv_alone.specs.declared.end.End.{End}
use Rattle.srv_alone.specs.Reading.{file_or_end, file_faults_after, IsEndAtFile, IsEndOf, loaded_or_end, unless_no_room}

-- the history once a file has come to the collection, or the end of the run
unfoldable pub published_or_end : History → Loaded → Result History End
published_or_end history file =
    unless_no_room (full_at (coll history.seen) (ops.Put file)) (with_op history (ops.Put file))

-- the same of the bytes at a path
unfoldable pub put_or_end : History → List ℕ → List ℕ → Result History End
put_or_end history path bytes = loaded_or_end history.proto path bytes >>= published_or_end history

-- the history once the runs below a cutoff have gone, which is the same where there is none
abbrev pub expired : ℤ → History → History
expired cutoff history =
    if holds_older (coll history.seen) cutoff then with_op history (ops.Expire cutoff) else history

-- the history once the file of a name was taken back, which is the same where there is none
abbrev pub retracted : List ℕ → History → History
retracted name history = if holds (coll history.seen) name then with_op history (ops.Retract name) else history

-- A file was read and came to the collection.
pub record Puts (path : List ℕ) (files files' : FilesShown) (history history' : History) : Type 0 where
  pub bytes : List ℕ
  pub read : IfSome files.held (λ held. file_or_end (held path) ≡ Ok bytes)
  pub put : put_or_end history path bytes ≡ Ok history'
  pub files_are : files' ≡ files

-- A file wasn't read, or didn't come to the collection: memory ran out, the files failed once more, or, where the
-- content is known, it is as defined.
pub record EndsPut (path : List ℕ) (files files' : FilesShown) (history history' : History) (end : End) : Type 0 where
  pub at_file : IsEndAtFile end
  pub found : IfSome files.held (λ held. IsEndOf end (file_or_end (held path) >>= put_or_end history path))
  pub held_is : files'.held ≡ files.held
  pub faults_are : files'.faults ≡ file_faults_after files.faults end
  pub history_is : history' ≡ history
