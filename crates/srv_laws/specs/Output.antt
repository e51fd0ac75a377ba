-- What a run of `once` writes to its link: one script over its whole log.
use Rattle.std.specs.Prelude.{◌≡◌, ◌≢◌, ℕ, ◌≤◌, List, [], ◌∷◌, ◌++◌, length, replicate, take, Option, Some, Result, Ok, Err}
use Rattle.fm_base.specs.Chain.{◌>>=◌}
use Rattle.fm_model.specs.declared.op.Op.{Op}
use Rattle.fm_model.specs.declared.proto.Proto.{Proto}
use Rattle.dev_traits.specs.Link.{Wire}
use Rattle.dev_traits.specs.Shown.{LinkShown}
use Rattle.pub_look.specs.History.{History}
use Rattle.web_frame.specs.Items.{Item}
use Rattle.dap_reply.specs.Head.{no_memory_reply}
use Rattle.dap_reply.specs.Script.{script_of}
use Rattle.srv_words.specs.declared.job.Step.{Step}
use Rattle.srv_words.specs.declared.job.Step.TheVariants.{Put, Expire, Retract, Ask}
use Rattle.srv_alone.specs.declared.end.End.{End}
use Rattle.srv_alone.specs.declared.end.End.TheVariants.{Done, NoMemory, LinkFault}
use Rattle.srv_alone.specs.Publishing.{expired, put_or_end, retracted}
use Rattle.srv_alone.specs.Reading.{file_or_end}

-- what was published after a put, which adds nothing where it ends the run
abbrev pub left_by : History → Result History End → History
left_by history (Ok next) = next
left_by history (Err end) = history

-- what was published after a step, where the files hold this
abbrev pub history_after : (List ℕ → Option (List ℕ)) → History → Step → History
history_after held history (Put path) = left_by history (file_or_end (held path) >>= put_or_end history path)
history_after held history (Expire cutoff) = expired cutoff history
history_after held history (Retract name) = retracted name history
history_after held history (Ask count) = history

-- the number of replies that a step asks for
abbrev pub replies_of : Step → ℕ
replies_of (Ask count) = count
replies_of step = 0

-- the revisions of the replies that steps ask for: of each, the number of operations that the steps before its own
-- added
unfoldable pub revisions_of : (List ℕ → Option (List ℕ)) → History → List Step → List ℕ
revisions_of held history [] = []
revisions_of held history (step ∷ steps) =
    replicate (replies_of step) (length history.seen) ++ revisions_of held (history_after held history step) steps

-- Bytes are a script: the replies to the first items, in order, over a log and with the first of these revisions; the
-- first has the number after `before`. Where every step was done, it has all of them. Where the link failed, it may be
-- cut. Where memory ran out, the text that says so may follow, or its front.
pub record IsOneScript (proto : Proto) (log : List Op) (revisions : List ℕ) (items : List Item) (before : ℕ)
    (end : End) (output : List ℕ) : Type 0 where
  pub count : ℕ
  pub few : count ≤ length revisions
  pub read : count ≤ length items
  pub all : end ≡ Done → count ≡ length revisions
  pub script : List ℕ
  pub script_is : script ≡ script_of proto log (take count revisions) items before
  pub cut : ℕ
  pub farewell : List ℕ
  pub output_is : output ≡ take cut script ++ farewell
  pub whole : end ≢ LinkFault → length script ≤ cut
  pub only_short : end ≢ NoMemory → farewell ≡ []
  pub front : farewell ≡ take (length farewell) no_memory_reply

-- The bytes that were put on a link since it held this are a script.
pub record WritesScript (proto : Proto) (log : List Op) (revisions : List ℕ) (items : List Item) (before : ℕ)
    (end : End) (wire : Wire) (link' : LinkShown) : Type 0 where
  pub after : Wire
  pub after_is : link'.held ≡ Some after
  pub output : List ℕ
  pub put : after.put ≡ wire.put ++ output
  pub script : IsOneScript proto log revisions items before end output
