-- A world of one session: what is published, and what happens to the session.
use Rattle.std.proofs.Common.{◌≡◌, ◌≤◌, ℕ, cond, List, [], ◌∷◌, ◌++◌, length, map, Option, None, refl, sym, ap, ◌∙◌, arith, append_assoc, append-nil}
use Rattle.std.specs.Prelude.{is_none}
use Rattle.std.specs.List.{All}
use Rattle.std.proofs.lemmas.List.Sums.{fold-append}
use Rattle.std.proofs.lemmas.List.Elements.{All-append, All-cons, All-nil}
use Rattle.fm_model.specs.declared.full.Full.{Full as TooMany}
use Rattle.fm_model.specs.declared.op.Op.{Op}
use Rattle.fm_model.specs.declared.proto.Proto.{Proto}
use Rattle.fm_model.specs.Collection.{coll, full_at}
use Rattle.pub_core.specs.declared.event.Event.{Event}
use Rattle.pub_core.specs.declared.event.Event.TheVariants.{Publish, Look, Learn, Bytes, Sent}
use Rattle.pub_core.specs.World.{output_of, waits, SessionState, World}
use Rattle.pub_core.specs.Happening.{after, after_at, happens, happens_to, published, run}
use Rattle.pub_core.specs.Running.{first_output, first_waits, AreTakenInTurn}
use Rattle.pub_core.specs.Standing.{Rests}
use Rattle.pub_core.proofs.SoFar.{script-published}

-- a log and one session
abbrev pub one : List Op → SessionState → World
one log s = record { log = log; sessions = s ∷ [] }

pub run-append : (proto : Proto) (world : World) (events more : List Event)
    → run proto world (events ++ more) ≡ run proto (run proto world events) more
unfolding run
run-append proto world events more = fold-append (happens proto) world events more

pub run-none : (proto : Proto) (world : World) → run proto world [] ≡ world
unfolding run
run-none proto world = refl

pub run-cons : (proto : Proto) (world : World) (event : Event) (events : List Event)
    → run proto world (event ∷ events) ≡ run proto (happens proto world event) events
unfolding run
run-cons proto world event events = refl

pub run-one : (proto : Proto) (world : World) (event : Event) → run proto world (event ∷ []) ≡ happens proto world event
unfolding run
run-one proto world event = refl

-- ---- what happens to the session

pub happens-feed : (proto : Proto) (log : List Op) (s : SessionState) (piece : List ℕ)
    → happens proto (one log s) (Bytes 0 piece) ≡ one log (after proto log (Bytes 0 piece) s)
unfolding happens happens_to after_at
happens-feed proto log s piece = refl

pub happens-look : (proto : Proto) (log : List Op) (s : SessionState)
    → happens proto (one log s) (Look 0) ≡ one log (after proto log (Look 0) s)
unfolding happens happens_to after_at
happens-look proto log s = refl

pub happens-sent : (proto : Proto) (log : List Op) (s : SessionState) (count : ℕ)
    → happens proto (one log s) (Sent 0 count) ≡ one log (after proto log (Sent 0 count) s)
unfolding happens happens_to after_at
happens-sent proto log s count = refl

pub happens-learn : (proto : Proto) (log : List Op) (s : SessionState) (count : ℕ)
    → happens proto (one log s) (Learn 0 count) ≡ one log (after proto log (Learn 0 count) s)
unfolding happens happens_to after_at
happens-learn proto log s count = refl

pub waits-one : (proto : Proto) (log : List Op) (s : SessionState) → first_waits proto (one log s) ≡ waits proto log s
unfolding first_waits
waits-one proto log s = refl

pub output-one : (proto : Proto) (log : List Op) (s : SessionState)
    → first_output proto (one log s) ≡ output_of proto log s
unfolding first_output
output-one proto log s = refl

-- ---- what is published

publish-one : (proto : Proto) (log : List Op) (s : SessionState) (op : Op) → full_at (coll log) op ≡ None
    → happens proto (one log s) (Publish op) ≡ one (log ++ op ∷ []) s
unfolding happens published
publish-one proto log s op none =
    ap (λ (o : Option TooMany). cond (is_none o) (one (log ++ op ∷ []) s) (one log s)) none

-- operations that are taken in turn are published
pub publishes : (proto : Proto) (s : SessionState) (ops log rest all : List Op) → all ≡ log ++ ops ++ rest
    → AreTakenInTurn all → run proto (one log s) (map Publish ops) ≡ one (log ++ ops) s
publishes proto s [] log rest all is taken =
    run-none proto (one log s) ∙ ap (λ (l : List Op). one l s) (sym (append-nil log))
publishes proto s (op ∷ ops) log rest all is taken =
    run-cons proto (one log s) (Publish op) (map Publish ops)
    ∙ ap (λ (w : World). run proto w (map Publish ops))
    (publish-one proto log s op (taken log (ops ++ rest) op (is ∙ append_assoc log (op ∷ ops) rest)))
    ∙ publishes proto s ops (log ++ op ∷ []) rest all
    (is ∙ ap (λ (l : List Op). l ++ rest) (sym (append_assoc log (op ∷ []) ops))) taken
    ∙ ap (λ (l : List Op). one l s) (append_assoc log (op ∷ []) ops)

-- ---- what is published later

pub all-le : (revs : List ℕ) (n m : ℕ) → n ≤ m → All (λ (revision : ℕ). revision ≤ n) revs
    → All (λ (revision : ℕ). revision ≤ m) revs
all-le revs n m le within = λ index d below. omega (arith, within index d below)

pub all-more : (revs : List ℕ) (n m : ℕ) → n ≤ m → All (λ (revision : ℕ). revision ≤ n) revs
    → All (λ (revision : ℕ). revision ≤ m) (revs ++ m ∷ [])
all-more revs n m le within =
    All-append (λ (revision : ℕ). revision ≤ m) revs (m ∷ []) (all-le revs n m le within)
    (All-cons (λ (revision : ℕ). revision ≤ m) m [] (omega arith) (All-nil (λ (revision : ℕ). revision ≤ m)))

-- a session that rests still rests
pub rest-published : {proto : Proto} {log : List Op} {s : SessionState} {left : List ℕ} (more : List Op)
    → All (λ (revision : ℕ). revision ≤ length log) s.revs → Rests proto log s left → Rests proto (log ++ more) s left
rest-published {proto} {log} {s} more within r = record {
  done = r.done;
  reads = r.reads;
  count = r.count;
  all_sent = r.all_sent ∙ ap length (sym (script-published proto log more s within));
  goes_on = r.goes_on;
  stays = r.stays;
}
