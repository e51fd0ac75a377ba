-- Events of one session make no difference to another. It is long, since each kind of event is a case.
use Rattle.std.proofs.Common.{◌≡◌, zero, suc, ℕ, Bool, true, false, cond, ◌==◌, List, [], ◌∷◌, ◌++◌, set, filter, fold, Option, Some, None, refl, sym, ap, ap₂, subst, ◌∙◌}
use Rattle.std.specs.Prelude.{is_none, slice_get, option_map}
use Rattle.std.proofs.lemmas.Bool.{eqb-true, eqb-false}
use Rattle.fm_model.specs.declared.op.Op.{Op}
use Rattle.fm_model.specs.declared.proto.Proto.{Proto}
use Rattle.fm_model.specs.Collection.{coll, full_at}
use Rattle.pub_core.specs.declared.event.Event.{Event}
use Rattle.pub_core.specs.declared.event.Event.TheVariants.{Publish, Look, Learn, Bytes, Sent, End, Fault}
use Rattle.pub_core.specs.Apart.{concerns}
use Rattle.pub_core.specs.Happening.{after, after_at, happens, happens_to, published, run}
use Rattle.pub_core.specs.World.{start, SessionState, World}

-- ---- one index of a list

get-set : {A : Type 0} (all : List A) (index : ℕ) (a b : A) → slice_get all index ≡ Some b
    → slice_get (set all index a) index ≡ Some a
get-set [] index a b is = absurd (cc)
get-set (c ∷ all) zero a b is = refl
get-set (c ∷ all) (suc index) a b is = get-set all index a b is

get-other : {A : Type 0} (all : List A) (index other : ℕ) (a : A) → (index ≡ other → ⊥)
    → slice_get (set all index a) other ≡ slice_get all other
get-other [] index other a differ = refl
get-other (c ∷ all) zero zero a differ = absurd (differ refl)
get-other (c ∷ all) zero (suc other) a differ = refl
get-other (c ∷ all) (suc index) zero a differ = refl
get-other (c ∷ all) (suc index) (suc other) a differ = get-other all index other a (λ same. differ (ap suc same))

-- ---- an event of a session

own-by : (proto : Proto) (log : List Op) (sessions : List SessionState) (number : ℕ) (event : Event)
    (there : Option SessionState) → slice_get sessions number ≡ there
    → slice_get (after_at proto log sessions number event) number ≡ option_map (after proto log event) there
unfolding after_at
own-by proto log sessions number event None is =
    ap (λ (o : Option SessionState). slice_get (elim o [
      | None ↦ sessions
      | Some s ↦
          set sessions number (after proto log event s)
    ]) number) is ∙ is
own-by proto log sessions number event (Some s) is =
    ap (λ (o : Option SessionState). slice_get (elim o [
      | None ↦ sessions
      | Some s ↦
          set sessions number (after proto log event s)
    ]) number) is
    ∙ get-set sessions number (after proto log event s) s is

other-by : (proto : Proto) (log : List Op) (sessions : List SessionState) (number other : ℕ) (event : Event)
    (there : Option SessionState) → slice_get sessions number ≡ there → (number ≡ other → ⊥)
    → slice_get (after_at proto log sessions number event) other ≡ slice_get sessions other
unfolding after_at
other-by proto log sessions number other event None is differ =
    ap (λ (o : Option SessionState). slice_get (elim o [
      | None ↦ sessions
      | Some s ↦
          set sessions number (after proto log event s)
    ]) other) is
other-by proto log sessions number other event (Some s) is differ =
    ap (λ (o : Option SessionState). slice_get (elim o [
      | None ↦ sessions
      | Some s ↦
          set sessions number (after proto log event s)
    ]) other) is
    ∙ get-other sessions number other (after proto log event s) differ

-- two worlds have the same log, and the same session of a number
pub record Alike (number : ℕ) (v w : World) : Type 0 where
  pub logs : v.log ≡ w.log
  pub sessions : slice_get v.sessions number ≡ slice_get w.sessions number

alike-own : (proto : Proto) (number : ℕ) (event : Event) (v w : World) → Alike number v w
    → Alike number (happens_to proto v number event) (happens_to proto w number event)
unfolding happens_to
alike-own proto number event v w alike = record {
  logs = alike.logs;
  sessions = own-by proto v.log v.sessions number event (slice_get v.sessions number) refl
      ∙ ap₂ (λ (l : List Op) (o : Option SessionState). option_map (after proto l event) o) alike.logs alike.sessions
      ∙ sym (own-by proto w.log w.sessions number event (slice_get w.sessions number) refl);
}

alike-mine : (proto : Proto) (number other : ℕ) (event : Event) (v w : World) → (other == number) ≡ true
    → Alike number v w → Alike number (happens_to proto v other event) (happens_to proto w other event)
alike-mine proto number other event v w mine alike =
    subst (λ (n : ℕ). Alike number (happens_to proto v n event) (happens_to proto w n event))
    (sym (eqb-true other number mine)) (alike-own proto number event v w alike)

alike-other : (proto : Proto) (number other : ℕ) (event : Event) (v w : World) → (other == number) ≡ false
    → Alike number v w → Alike number v (happens_to proto w other event)
unfolding happens_to
alike-other proto number other event v w differ alike = record {
  logs = alike.logs;
  sessions = alike.sessions ∙ sym (other-by proto w.log w.sessions other number event (slice_get w.sessions other) refl
      (eqb-false other number differ));
}

published-by : (op : Op) (number : ℕ) (v w : World) (free : Bool) → is_none (full_at (coll v.log) op) ≡ free
    → Alike number v w → Alike number (published v op) (published w op)
unfolding published
published-by op number v w true is alike =
    let also : is_none (full_at (coll w.log) op) ≡ true =
    ap (λ (l : List Op). is_none (full_at (coll l) op)) (sym alike.logs) ∙ is in
    let first : published v op ≡ record v { log = v.log ++ op ∷ [] } =
    ap (λ (b : Bool). cond b (record v { log = v.log ++ op ∷ [] }) v) is in
    let second : published w op ≡ record w { log = w.log ++ op ∷ [] } =
    ap (λ (b : Bool). cond b (record w { log = w.log ++ op ∷ [] }) w) also in
    subst (λ (x : World). Alike number x (published w op)) (sym first)
    (subst (Alike number (record v { log = v.log ++ op ∷ [] })) (sym second) (record {
      logs = ap (λ (l : List Op). l ++ op ∷ []) alike.logs;
      sessions = alike.sessions;
    }))
published-by op number v w false is alike =
    let also : is_none (full_at (coll w.log) op) ≡ false =
    ap (λ (l : List Op). is_none (full_at (coll l) op)) (sym alike.logs) ∙ is in
    let first : published v op ≡ v = ap (λ (b : Bool). cond b (record v { log = v.log ++ op ∷ [] }) v) is in
    let second : published w op ≡ w = ap (λ (b : Bool). cond b (record w { log = w.log ++ op ∷ [] }) w) also in
    subst (λ (x : World). Alike number x (published w op)) (sym first) (subst (Alike number v) (sym second) alike)

alike-published : (op : Op) (number : ℕ) (v w : World) → Alike number v w
    → Alike number (published v op) (published w op)
alike-published op number v w alike = published-by op number v w (is_none (full_at (coll v.log) op)) refl alike

-- an event that concerns the session
concerned : (proto : Proto) (number : ℕ) (event : Event) (v w : World) → concerns number event ≡ true
    → Alike number v w → Alike number (happens proto v event) (happens proto w event)
unfolding concerns happens
concerned proto number (Publish op) v w is alike = alike-published op number v w alike
concerned proto number (Look other) v w is alike = alike-mine proto number other (Look other) v w is alike
concerned proto number (Learn other count) v w is alike =
    alike-mine proto number other (Learn other count) v w is alike
concerned proto number (Bytes other piece) v w is alike =
    alike-mine proto number other (Bytes other piece) v w is alike
concerned proto number (Sent other count) v w is alike =
    alike-mine proto number other (Sent other count) v w is alike
concerned proto number (End other) v w is alike = alike-mine proto number other (End other) v w is alike
concerned proto number (Fault other) v w is alike = alike-mine proto number other (Fault other) v w is alike

-- one that doesn't
unconcerned : (proto : Proto) (number : ℕ) (event : Event) (v w : World) → concerns number event ≡ false
    → Alike number v w → Alike number v (happens proto w event)
unfolding concerns happens
unconcerned proto number (Publish op) v w is alike = absurd (cc)
unconcerned proto number (Look other) v w is alike = alike-other proto number other (Look other) v w is alike
unconcerned proto number (Learn other count) v w is alike =
    alike-other proto number other (Learn other count) v w is alike
unconcerned proto number (Bytes other piece) v w is alike =
    alike-other proto number other (Bytes other piece) v w is alike
unconcerned proto number (Sent other count) v w is alike =
    alike-other proto number other (Sent other count) v w is alike
unconcerned proto number (End other) v w is alike = alike-other proto number other (End other) v w is alike
unconcerned proto number (Fault other) v w is alike = alike-other proto number other (Fault other) v w is alike

-- one event more, by whether it concerns the session
own-step : (proto : Proto) (number : ℕ) (event : Event) (events own_events : List Event) (v w : World) (own : Bool)
    → ((v w : World) → Alike number v w
    → Alike number (fold (happens proto) v own_events) (fold (happens proto) w events))
    → concerns number event ≡ own → Alike number v w
    → Alike number (fold (happens proto) v (cond own (event ∷ own_events) own_events))
    (fold (happens proto) (happens proto w event) events)
own-step proto number event events own_events v w true rest is alike =
    rest (happens proto v event) (happens proto w event) (concerned proto number event v w is alike)
own-step proto number event events own_events v w false rest is alike =
    rest v (happens proto w event) (unconcerned proto number event v w is alike)

own-events : (proto : Proto) (number : ℕ) (events : List Event) (v w : World) → Alike number v w
    → Alike number (fold (happens proto) v (filter (concerns number) events)) (fold (happens proto) w events)
own-events proto number [] v w alike = alike
own-events proto number (event ∷ events) v w alike =
    own-step proto number event events (filter (concerns number) events) v w (concerns number event)
    (own-events proto number events) refl alike

own-run : (proto : Proto) (number : ℕ) (events : List Event) (v : World)
    → Alike number (run proto v (filter (concerns number) events)) (run proto v events)
unfolding run
own-run proto number events v = own-events proto number events v v (record { logs = refl; sessions = refl })

pub same-log : (proto : Proto) (sessions number : ℕ) (events : List Event)
    → (run proto (start sessions) (filter (concerns number) events)).log ≡ (run proto (start sessions) events).log
same-log proto sessions number events = (own-run proto number events (start sessions)).logs

pub same-session : (proto : Proto) (sessions number : ℕ) (events : List Event)
    → slice_get (run proto (start sessions) (filter (concerns number) events)).sessions number
    ≡ slice_get (run proto (start sessions) events).sessions number
same-session proto sessions number events = (own-run proto number events (start sessions)).sessions

pub ruleset apart = (same-log, same-session)
