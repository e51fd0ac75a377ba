-- What the steps of a run write to its link.
use Rattle.std.proofs.Common.{◌≡◌, ◌⊎◌, inl, inr, ◌≤◌, ℕ, ◌+◌, List, [], ◌∷◌, ◌++◌, length, take, Option, Some, refl, sym, ap, subst, ◌∙◌, arith, append-nil}
use Rattle.std.specs.Prelude.{IfSome, replicate}
use Rattle.std.proofs.lemmas.List.{drop-drop, take_all}
use Rattle.fm_model.specs.declared.op.Op.{Op}
use Rattle.fm_model.specs.declared.proto.Proto.{Proto}
use Rattle.fm_model.specs.declared.site.Site.{Site}
use Rattle.dev_traits.specs.Link.{Wire}
use Rattle.dev_traits.specs.Shown.{FilesShown, LinkShown}
use Rattle.pub_look.specs.History.{Continues, History}
use Rattle.web_frame.specs.Items.{heads_of, Item, ReadsTo}
use Rattle.web_session.specs.State.{fresh, State}
use Rattle.dap_reply.specs.Script.{script_of}
use Rattle.dap_reply.specs.Served.{held_bytes, IsAtRest}
use Rattle.srv_words.specs.declared.job.Step.{Step}
use Rattle.srv_words.specs.declared.job.Step.TheVariants.{Put, Expire, Retract, Ask}
use Rattle.srv_alone.specs.declared.end.End.{End}
use Rattle.srv_alone.specs.declared.end.End.TheVariants.{Done, NoMemory, LinkFault}
use Rattle.srv_alone.specs.Once.{opened, RunsSteps}
use Rattle.srv_laws.specs.Output.{history_after, replies_of, revisions_of, WritesScript}
use Rattle.srv_alone.specs.Steps.{Connection, DoesSteps, EndsAt, IsDone, LeavesLink, progress, Progress}
use Rattle.srv_laws.proofs.AskedLemmas.{IsOpen}
use Rattle.srv_laws.proofs.LaterLemmas.{end-later, IsLater, later-on, same-later, step-later}
use Rattle.srv_laws.proofs.LeftLemmas.{left-steps}
use Rattle.srv_laws.proofs.OutputLemmas.{writes-none, writes-then}
use Rattle.srv_laws.proofs.QuietLemmas.{quiet-done, quiet-ends, step-alike, step-files}
use Rattle.srv_laws.proofs.ReplyLemmas.{ask-ended, ask-wrote, items_from, Wrote}
use Rattle.srv_laws.proofs.TakenLemmas.{IsAlike}
use Rattle.srv_laws.proofs.WellUsedLemmas.{opens-link}

-- a step that doesn't ask writes nothing
wrote-none : {input : List ℕ} {before : ℕ} (proto : Proto) (n : ℕ) (at next : Connection)
    → (o : IsOpen input before at.link at.session) → LeavesLink at next → Wrote input before proto n 0 o.wire next
unfolding script_of
wrote-none {input} {before} proto n at next o leaves = record {
  after = o.wire;
  after_is = ap (λ (l : LinkShown). l.held) leaves.link_is ∙ o.wire_is;
  first = [];
  put = sym (append-nil o.wire.put);
  there = omega arith;
  script = λ log grows. refl;
  goes = inl (
    record {
      so_far = o.so_far;
      wire = o.wire;
      wire_is = ap (λ (l : LinkShown). l.held) leaves.link_is ∙ o.wire_is;
      input_is = o.input_is;
      done = o.done;
      reads = subst (λ (s : State). ReadsTo o.so_far o.done (held_bytes s)) (sym leaves.session_is) o.reads;
      count = omega (arith, o.count);
      counted = omega (arith, ap (λ (s : State). s.before) leaves.session_is, o.counted);
      rests = subst IsAtRest (sym leaves.session_is) o.rests;
    },
    refl,
  );
}

-- what a step that is done writes
step-wrote : {input : List ℕ} {before : ℕ} (proto : Proto) (n : ℕ) (step : Step) (at next : Progress)
    → at.at.history.proto ≡ proto → n ≡ length at.at.history.seen
    → (o : IsOpen input before at.at.link at.at.session) → IsDone step at next
    → Wrote input before proto n (replies_of step) o.wire next.at
step-wrote proto n (Put path) at next proto_is n_is o done =
    wrote-none proto n at.at next.at o (quiet-done (Put path) at next tt done)
step-wrote proto n (Expire cutoff) at next proto_is n_is o done =
    wrote-none proto n at.at next.at o (quiet-done (Expire cutoff) at next tt done)
step-wrote proto n (Retract name) at next proto_is n_is o done =
    wrote-none proto n at.at next.at o (quiet-done (Retract name) at next tt done)
step-wrote proto n (Ask count) at next proto_is n_is o done =
    ask-wrote proto n count at.at next.at proto_is n_is o done.0

-- a step that isn't done, and doesn't ask, writes nothing
ended-none : {input : List ℕ} {before : ℕ} (proto : Proto) (log : List Op) (marks : List ℕ) (at after : Connection)
    (end : End) → (o : IsOpen input before at.link at.session) → (after.link ≡ at.link) × (end ≡ Done → ⊥)
    → WritesScript proto log marks (items_from input before) before end o.wire after.link
ended-none {input} {before} proto log marks at after end o quiet =
    writes-none proto log marks (items_from input before) before end o.wire after.link
    (ap (λ (l : LinkShown). l.held) quiet.0 ∙ o.wire_is) (λ done. absurd (quiet.1 done))

-- what the step that isn't done writes
step-ended : {input : List ℕ} {before : ℕ} (proto : Proto) (n : ℕ) (more : List ℕ) (step : Step) (at after : Progress)
    (end : End) → at.at.history.proto ≡ proto → n ≡ length at.at.history.seen
    → (o : IsOpen input before at.at.link at.at.session) → EndsAt step at after end
    → WritesScript proto after.at.history.seen (replicate (replies_of step) n ++ more) (items_from input before)
    before end o.wire after.at.link
step-ended proto n more (Put path) at after end proto_is n_is o ends =
    ended-none proto after.at.history.seen (replicate 0 n ++ more) at.at after.at end o
    (quiet-ends (Put path) at after end tt ends)
step-ended proto n more (Expire cutoff) at after end proto_is n_is o ends =
    ended-none proto after.at.history.seen (replicate 0 n ++ more) at.at after.at end o
    (quiet-ends (Expire cutoff) at after end tt ends)
step-ended proto n more (Retract name) at after end proto_is n_is o ends =
    ended-none proto after.at.history.seen (replicate 0 n ++ more) at.at after.at end o
    (quiet-ends (Retract name) at after end tt ends)
step-ended proto n more (Ask count) at after end proto_is n_is o ends =
    ask-ended proto n count more at.at after.at end proto_is n_is o ends.0

-- ---- all steps

-- steps from here publish more, and write a script
record Writes (proto : Proto) (marks : List ℕ) (items : List Item) (before : ℕ) (end : End) (wire : Wire)
    (at after : Connection) : Type 0 where
  later : IsLater at.history after.history
  script : WritesScript proto after.history.seen marks items before end wire after.link

-- the step that is done, and those after it
wrote-then : {input : List ℕ} {before : ℕ} (proto : Proto) (n count : ℕ) (more : List ℕ) (log : List Op) (end : End)
    (wire : Wire) (next after : Connection) (wrote : Wrote input before proto n count wire next)
    → Continues next.history.seen log
    → WritesScript proto log more (items_from input (before + count)) (before + count) end wrote.after after.link
    → WritesScript proto log (replicate count n ++ more) (items_from input before) before end wire after.link
wrote-then {input} {before} proto n count more log end wire next after wrote grows rest =
    writes-then proto log count n more (items_from input before) before end wire wrote.after wrote.first after.link
    wrote.put (wrote.script log grows) wrote.there
    (subst (λ (items : List Item). WritesScript proto log more items (before + count) end wrote.after after.link)
    (sym (drop-drop count before (heads_of input).items)) rest)

steps-write : (held : List ℕ → Option (List ℕ)) (input : List ℕ) (proto : Proto) (steps : List Step)
    (history : History) (before : ℕ) (at after : Progress) (end : End) (path : List ℕ) → at.files.held ≡ Some held
    → IsAlike history at.at.history → at.at.history.proto ≡ proto
    → (o : IsOpen input before at.at.link at.at.session) → DoesSteps steps at after end path
    → Writes proto (revisions_of held history steps) (items_from input before) before end o.wire at.at after.at
unfolding DoesSteps revisions_of
steps-write held input proto [] history before at after end path shows alike proto_is o does = record {
  later = same-later at.at.history after.at.history (ap (λ (now : Progress). now.at.history) does.0);
  script = writes-none proto after.at.history.seen [] (items_from input before) before end o.wire after.at.link
      (ap (λ (now : Progress). now.at.link.held) does.0 ∙ o.wire_is) (λ done. refl);
}
steps-write held input proto (step ∷ steps) history before at after end path shows alike proto_is o
    (inr (ends, is)) = record {
      later = end-later step at after end ends;
      script = step-ended proto (length history.seen) (revisions_of held (history_after held history step) steps) step
          at after end proto_is (ap length alike.seen_is) o ends;
    }
steps-write held input proto (step ∷ steps) history before at after end path shows alike proto_is o
    (inl (next, done, does)) =
    let n : ℕ = length history.seen in
    let count : ℕ = replies_of step in
    let others : History = history_after held history step in
    let later : IsLater at.at.history next.at.history = step-later step at next done in
    let wrote : Wrote input before proto n count o.wire next.at =
    step-wrote proto n step at next proto_is (ap length alike.seen_is) o done in
    let on = λ (rest : Writes proto (revisions_of held others steps) (items_from input (before + count))
    (before + count) end wrote.after next.at after.at). so n count others later wrote rest in
    elim wrote.goes [
      | inl (o', same) ↦ on (subst (λ (w : Wire). Writes proto (revisions_of held others steps)
          (items_from input (before + count)) (before + count) end w next.at after.at) same
          (steps-write held input proto steps others (before + count) next after end path
          (step-files step at next done ∙ shows) (step-alike step held history at next shows alike done)
          (later.proto_is ∙ proto_is) o' does))
      | inr ended ↦
          let left = left-steps held steps others next after end path ended does in
          on (record {
            later = left.later;
            script = writes-none proto after.at.history.seen (revisions_of held others steps)
                (items_from input (before + count)) (before + count) end wrote.after after.at.link
                (ap (λ (l : LinkShown). l.held) left.link_is ∙ wrote.after_is) left.none;
          })
    ]
  where
    so : (n count : ℕ) (others : History) → IsLater at.at.history next.at.history
        → (wrote : Wrote input before proto n count o.wire next.at)
        → Writes proto (revisions_of held others steps) (items_from input (before + count)) (before + count) end
        wrote.after next.at after.at
        → Writes proto (replicate count n ++ revisions_of held others steps) (items_from input before) before end o.wire
        at.at after.at
    so n count others later wrote rest = record {
      later = later-on at.at.history next.at.history after.at.history later rest.later;
      script = wrote-then proto n count (revisions_of held others steps) after.at.history.seen end o.wire next.at
          after.at wrote rest.later.grows rest.script;
    }

-- a run that did steps on a collection at its start
pub one-script : (site : Site) (path : List ℕ) (steps : List Step) (end : End) (at : List ℕ) (files files' : FilesShown)
    (link link' : LinkShown) (held : List ℕ → Option (List ℕ)) (wire : Wire) → files.held ≡ Some held
    → link.held ≡ Some wire → (runs : RunsSteps site path steps files files' link link' end at)
    → WritesScript runs.proto runs.history.seen (revisions_of held (opened runs.proto) steps)
    (heads_of wire.left).items 0 end wire link'
unfolding opens-link
one-script site path steps end at files files' link link' held wire holds shows runs =
    (steps-write held wire.left runs.proto steps (opened runs.proto) 0
    (progress files (opened runs.proto) fresh link) (progress files' runs.history runs.session link') end at holds
    (record { proto_is = refl; seen_is = refl }) refl (opens-link link wire shows) runs.does).script

-- a run that did all of them
pub whole-script : (site : Site) (path : List ℕ) (steps : List Step) (end : End) (at : List ℕ)
    (files files' : FilesShown) (link link' : LinkShown) (held : List ℕ → Option (List ℕ)) (wire : Wire)
    → files.held ≡ Some held → link.held ≡ Some wire
    → (runs : RunsSteps site path steps files files' link link' end at) → end ≡ Done
    → IfSome link'.held (λ after. after.put ≡ wire.put
    ++ script_of runs.proto runs.history.seen (revisions_of held (opened runs.proto) steps)
    (heads_of wire.left).items 0)
whole-script site path steps end at files files' link link' held wire holds shows runs done =
    let writes = one-script site path steps end at files files' link link' held wire holds shows runs in
    let is = writes.script in
    let revisions : List ℕ = revisions_of held (opened runs.proto) steps in
    let items : List Item = (heads_of wire.left).items in
    let all : take is.count revisions ≡ revisions = take_all is.count revisions (omega (arith, is.all done)) in
    let output : writes.output ≡ script_of runs.proto runs.history.seen revisions items 0 =
    is.output_is ∙ ap (λ (l : List ℕ). take is.cut is.script ++ l) (is.only_short (λ other. ample (sym done ∙ other)))
    ∙ append-nil (take is.cut is.script)
    ∙ take_all is.cut is.script (is.whole (λ other. sound (sym done ∙ other)))
    ∙ is.script_is ∙ ap (λ (l : List ℕ). script_of runs.proto runs.history.seen l items 0) all in
    subst (λ (o : Option Wire). IfSome o (λ after. after.put ≡ wire.put
    ++ script_of runs.proto runs.history.seen revisions items 0)) (sym writes.after_is)
    (writes.put ∙ ap (λ (l : List ℕ). wire.put ++ l) output)
  where
    ample : Done ≡ NoMemory → ⊥
    ample same = cc

    sound : Done ≡ LinkFault → ⊥
    sound same = cc
