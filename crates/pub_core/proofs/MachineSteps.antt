-- A machine stands for a world, also after something was published or happened to a session. It is long by
-- a few lines, since a statement is made for each function of the machine.
use Rattle.std.proofs.Common.{◌≡◌, ℕ, List, [], ◌∷◌, ◌++◌, map, replicate, take, length, get_or, ◌<◌, ◌≤◌, ◌+◌, IfOk, Option, Some, None, Result, Ok, Err, Bool, false, cond, refl, sym, ap, ap₂, subst, ◌∙◌}
use Rattle.std.specs.Prelude.{is_none}
use Rattle.std.proofs.lemmas.List.Sums.{fold_more}
use Rattle.std.proofs.lemmas.List.{take_all}
use Rattle.fm_model.specs.declared.full.Full.{Full as TooMany}
use Rattle.fm_model.specs.declared.loaded.Loaded.{Loaded}
use Rattle.fm_model.specs.declared.op.Op.{Op}
use Rattle.fm_model.specs.declared.proto.Proto.{Proto}
use Rattle.fm_model.specs.Collection.{coll, full_at}
use Rattle.fm_model.proofs.CollectionLemmas.{coll-push}
use Rattle.fm_edition.specs.Held.{held_after, next_or_full, unless_full, Held}
use Rattle.fm_edition.specs.Log.{held_of}
use Rattle.pub_core.specs.declared.connection.Connection.{Connection}
use Rattle.pub_core.specs.declared.event.Event.{Event}
use Rattle.pub_core.specs.declared.machine.Machine.{Machine}
use Rattle.pub_core.specs.declared.outcome.Outcome.{Outcome}
use Rattle.pub_core.specs.Happening.{after_at, happens, happens_to, published, run}
use Rattle.pub_core.specs.Machine.{IsMachine}
use Rattle.pub_core.specs.Outcome.{outcome_of}
use Rattle.pub_core.specs.Shown.{AreShown}
use Rattle.pub_core.specs.World.{start, untouched, World}
use Rattle.pub_core.proofs.ManyShown.{all-published, outputs-shown, seen-shown}

taken-by : (full : Option TooMany) (held next : Held) → unless_full full held ≡ Ok next
    → (full ≡ None) × (held ≡ next)
taken-by None held next is = (refl, cc)
taken-by (Some why) held next is = absurd (cc)

full-by : (full : Option TooMany) (held : Held) (why : TooMany) → unless_full full held ≡ Err why
    → is_none full ≡ false
full-by None held why is = absurd (cc)
full-by (Some other) held why is = refl

published-taken : (world : World) (op : Op) → full_at (coll world.log) op ≡ None
    → published world op ≡ record world { log = world.log ++ op ∷ [] }
unfolding published
published-taken world op is =
    ap (λ (o : Option TooMany). cond (is_none o) (record world { log = world.log ++ op ∷ [] }) world) is

published-full : (world : World) (op : Op) → is_none (full_at (coll world.log) op) ≡ false
    → published world op ≡ world
unfolding published
published-full world op is = ap (λ (b : Bool). cond b (record world { log = world.log ++ op ∷ [] }) world) is

pub machine-published : (proto : Proto) (m : Machine) (world : World) (next : Held) (log : List Op) (op : Op)
    → IsMachine proto m world → next_or_full m.edition op ≡ Ok next → log ≡ m.log ++ op ∷ []
    → IsMachine proto (record m { edition = next; log = log }) (published world op)
machine-published proto m world next log op is taken more =
    let same : next_or_full (held_of proto world.log) op ≡ Ok next =
    ap (λ (h : Held). next_or_full h op) (sym is.edition_is) ∙ taken in
    let both = taken-by (full_at (coll world.log) op) (held_after (held_of proto world.log) op) next same in
    subst (IsMachine proto (record m { edition = next; log = log })) (sym (published-taken world op both.0)) (record {
      edition_is = sym both.1 ∙ ap (λ (l : List Loaded). record { proto = proto; files = l })
          (sym (coll-push world.log op));
      log_is = more ∙ ap (λ (l : List Op). l ++ op ∷ []) is.log_is;
      shown = all-published proto world.log (op ∷ []) m.connections world.sessions is.shown;
    })

pub machine-full : (proto : Proto) (m : Machine) (world : World) (why : TooMany) (op : Op)
    → IsMachine proto m world → next_or_full m.edition op ≡ Err why → IsMachine proto m (published world op)
machine-full proto m world why op is full =
    let same : next_or_full (held_of proto world.log) op ≡ Err why =
    ap (λ (h : Held). next_or_full h op) (sym is.edition_is) ∙ full in
    subst (IsMachine proto m) (sym (published-full world op
    (full-by (full_at (coll world.log) op) (held_after (held_of proto world.log) op) why same))) is

pub machine-happens : (proto : Proto) (m : Machine) (world : World) (number : ℕ) (event : Event)
    (connections : List Connection) → IsMachine proto m world
    → AreShown proto world.log connections (after_at proto world.log world.sessions number event)
    → IsMachine proto (record m { connections = connections }) (happens_to proto world number event)
unfolding happens_to
machine-happens proto m world number event connections is shown = record {
  edition_is = is.edition_is;
  log_is = is.log_is;
  shown = shown;
}

pub machine-new : (proto : Proto) (sessions : ℕ) (edition : Held) (log : List Op) (connections : List Connection)
    → edition ≡ record { proto = proto; files = [] } → log ≡ []
    → AreShown proto [] connections (replicate sessions untouched)
    → IsMachine proto (record { edition = edition; log = log; connections = connections }) (start sessions)
unfolding start coll
machine-new proto sessions edition log connections empty none shown = record {
  edition_is = empty;
  log_is = none;
  shown = shown;
}

pub machine-outcome : (proto : Proto) (m : Machine) (world : World) (outputs : List (List ℕ)) (seen : List ℕ)
    → IsMachine proto m world → outputs ≡ map (λ (c : Connection). c.output) m.connections
    → seen ≡ map (λ (c : Connection). c.seen) m.connections
    → record { log = m.log; outputs = outputs; seen = seen } ≡ outcome_of proto world
unfolding outcome_of
machine-outcome proto m world outputs seen is outputs_are seen_are =
    ap (λ (l : List Op). told l outputs seen) is.log_is
    ∙ ap₂ (told world.log) (outputs_are ∙ outputs-shown proto world.log m.connections world.sessions is.shown)
    (seen_are ∙ seen-shown proto world.log m.connections world.sessions is.shown)
  where
    told : List Op → List (List ℕ) → List ℕ → Outcome
    told log outputs seen = record { log = log; outputs = outputs; seen = seen }

-- an event of a session is one of its own number
pub own-event : (proto : Proto) (world : World) (number : ℕ) (event : Event) {given : Event} → event ≡ given
    → happens proto world given ≡ happens_to proto world number given
    → happens_to proto world number event ≡ happens proto world event
own-event proto world number event is own =
    ap (happens_to proto world number) is ∙ sym own ∙ ap (happens proto world) (sym is)

-- one event more
pub run-more : (proto : Proto) (world : World) (events : List Event) (index : ℕ) (event : Event)
    → index < length events
    → run proto world (take (index + 1) events)
    ≡ happens proto (run proto world (take index events)) (get_or events index event)
unfolding run
run-more proto world events index event below = fold_more (happens proto) world events index event below

-- the prototype of a machine
pub machine-proto : {proto : Proto} {m : Machine} {world : World} → IsMachine proto m world → m.edition.proto ≡ proto
machine-proto is = ap (λ (h : Held). h.proto) is.edition_is

-- a machine after one event more
pub machine-more : (proto : Proto) (m now : Machine) (world : World) (events : List Event) (index : ℕ) (event : Event)
    → IsMachine proto m (run proto world (take index events)) → event ≡ get_or events index event
    → index < length events
    → ((w : World) → IsMachine m.edition.proto m w → IsMachine m.edition.proto now (happens m.edition.proto w event))
    → IsMachine proto now (run proto world (take (index + 1) events))
machine-more proto m now world events index event is event_is below leads =
    let own : (w : World) → IsMachine proto m w → IsMachine proto now (happens proto w event) =
    subst (λ (p : Proto). (w : World) → IsMachine p m w → IsMachine p now (happens p w event)) (machine-proto is)
    leads in
    subst (IsMachine proto now)
    (ap (happens proto (run proto world (take index events))) event_is
    ∙ sym (run-more proto world events index event below))
    (own (run proto world (take index events)) is)

if-ok : {T E : Type 0} (P Q : T → Type 0) (result : Result T E) → ((t : T) → P t → Q t) → IfOk result P
    → IfOk result Q
if-ok P Q (Ok t) follows is = follows t is
if-ok P Q (Err e) follows is = is

-- the outcome once all events were run
pub machine-ends : {E : Type 0} (proto : Proto) (m : Machine) (world : World) (items events : List Event) (index : ℕ)
    (result : Result Outcome E) → IsMachine proto m (run proto world (take index items)) → items ≡ events
    → length items ≤ index
    → IfOk result (λ outcome. (w : World) → IsMachine m.edition.proto m w → outcome ≡ outcome_of m.edition.proto w)
    → IfOk result (λ outcome. outcome ≡ outcome_of proto (run proto world events))
machine-ends proto m world items events index result is same past told =
    let all : take index items ≡ events = take_all index items past ∙ same in
    let here : IsMachine proto m (run proto world events) =
    subst (λ (l : List Event). IsMachine proto m (run proto world l)) all is in
    if-ok (λ outcome. (w : World) → IsMachine m.edition.proto m w → outcome ≡ outcome_of m.edition.proto w)
    (λ outcome. outcome ≡ outcome_of proto (run proto world events)) result
    (λ outcome says.
    subst (λ (p : Proto). (w : World) → IsMachine p m w → outcome ≡ outcome_of p w) (machine-proto is) says
    (run proto world events) here) told
