-- The revisions of a session never fall. It is long, since each kind of event is a case.
use Rattle.std.proofs.Common.{◌≡◌, ◌≤◌, ◌⊎◌, inl, inr, zero, suc, ℕ, max, Bool, true, false, ◌&&◌, cond, List, [], ◌∷◌, ◌++◌, length, take, set, fold, replicate, Option, Some, None, refl, ap, subst, ◌∙◌, arith, length-append}
use Rattle.std.specs.Prelude.{is_none, option_map, slice_get}
use Rattle.std.proofs.lemmas.Bool.{leb-true}
use Rattle.std.proofs.lemmas.List.Elements.{All-nil}
use Rattle.std.proofs.lemmas.List.Quantifiers.{all_pairs_push}
use Rattle.std.proofs.lemmas.Option.{slice_get-map}
use Rattle.fm_model.specs.declared.op.Op.{Op}
use Rattle.fm_model.specs.declared.proto.Proto.{Proto}
use Rattle.fm_model.specs.Collection.{coll, full_at}
use Rattle.web_frame.specs.Items.{heads_of}
use Rattle.dap_reply.specs.Script.{script_of}
use Rattle.pub_core.specs.declared.event.Event.{Event}
use Rattle.pub_core.specs.declared.event.Event.TheVariants.{Publish, Look, Learn, Bytes, Sent, End, Fault}
use Rattle.pub_core.specs.Apart.{NeverFall}
use Rattle.pub_core.specs.Happening.{after, after_at, begun, closed, effect_of, happens, happens_to, is_last_before, is_possible_to, published, run, settled}
use Rattle.pub_core.specs.Outcome.{outcome_of}
use Rattle.pub_core.specs.World.{is_due, items_fed, output_of, rests, script_in, start, untouched, SessionState, World}
use Rattle.pub_core.proofs.OneSession.{all-le, all-more}

-- what a session keeps
record Keeps (log : List Op) (s : SessionState) : Type 0 where
  never : NeverFall s.revs s.seen
  known : s.seen ≤ length log

-- one revision more
never-more : (revs : List ℕ) (seen more : ℕ) → seen ≤ more → NeverFall revs seen → NeverFall (revs ++ more ∷ []) more
never-more revs seen more le n = record {
  rise = all_pairs_push (λ (earlier later : ℕ). earlier ≤ later) revs more n.rise (all-le revs seen more le n.within);
  within = all-more revs seen more le n.within;
}

never-le : (revs : List ℕ) (seen more : ℕ) → seen ≤ more → NeverFall revs seen → NeverFall revs more
never-le revs seen more le n = record { rise = n.rise; within = all-le revs seen more le n.within }

keeps-either : (log : List Op) (b : Bool) (s t : SessionState) → Keeps log s → Keeps log t → Keeps log (cond b s t)
keeps-either log true s t one two = one
keeps-either log false s t one two = two

keeps-settled : (proto : Proto) (log : List Op) (s : SessionState) → Keeps log s → Keeps log (settled proto log s)
unfolding settled begun closed
keeps-settled proto log s keeps =
    let close : Keeps log (closed proto log s) =
    keeps-either log (rests proto log s && is_last_before (items_fed s) (length s.revs)) (record s { ended = true }) s
    (record { never = keeps.never; known = keeps.known }) keeps in
    let c : SessionState = closed proto log s in
    keeps-either log (is_due proto log c) (record c { revs = c.revs ++ c.seen ∷ [] }) c
    (record { never = never-more c.revs c.seen c.seen (omega arith) close.never; known = close.known }) close

keeps-effect : (proto : Proto) (log : List Op) (event : Event) (s : SessionState)
    → is_possible_to proto log event s ≡ true → Keeps log s → Keeps log (effect_of log event s)
unfolding effect_of is_possible_to
keeps-effect proto log (Publish op) s possible keeps = keeps
keeps-effect proto log (Look number) s possible keeps = record {
  never = never-more s.revs s.seen (length log) keeps.known keeps.never;
  known = omega arith;
}
keeps-effect proto log (Learn number count) s possible keeps =
    let count_known : count ≤ length log = leb-true count (length log) possible in
    record {
      never = never-le s.revs s.seen (max s.seen count) (omega arith) keeps.never;
      known = omega (arith, count_known, keeps.known);
    }
keeps-effect proto log (Bytes number piece) s possible keeps = record { never = keeps.never; known = keeps.known }
keeps-effect proto log (Sent number count) s possible keeps = record { never = keeps.never; known = keeps.known }
keeps-effect proto log (End number) s possible keeps = record { never = keeps.never; known = keeps.known }
keeps-effect proto log (Fault number) s possible keeps = record { never = keeps.never; known = keeps.known }

keeps-by : (proto : Proto) (log : List Op) (event : Event) (s : SessionState) (possible : Bool)
    → is_possible_to proto log event s ≡ possible → Keeps log s
    → Keeps log (cond possible (settled proto log (effect_of log event s)) s)
keeps-by proto log event s true is keeps =
    keeps-settled proto log (effect_of log event s) (keeps-effect proto log event s is keeps)
keeps-by proto log event s false is keeps = keeps

keeps-after : (proto : Proto) (log : List Op) (event : Event) (s : SessionState) → Keeps log s
    → Keeps log (after proto log event s)
unfolding after
keeps-after proto log event s keeps = keeps-by proto log event s (is_possible_to proto log event s) refl keeps

-- ---- a world

KeepAll : World → Type 0
KeepAll world = (number : ℕ) (s : SessionState) → slice_get world.sessions number ≡ Some s → Keeps world.log s

set-cases : {A : Type 0} (all : List A) (index number : ℕ) (a b : A) → slice_get (set all index a) number ≡ Some b
    → (a ≡ b) ⊎ (slice_get all number ≡ Some b)
set-cases [] index number a b is = inr is
set-cases (c ∷ all) zero zero a b is = inl (cc)
set-cases (c ∷ all) zero (suc number) a b is = inr is
set-cases (c ∷ all) (suc index) zero a b is = inr is
set-cases (c ∷ all) (suc index) (suc number) a b is = set-cases all index number a b is

keep-set : (proto : Proto) (log : List Op) (sessions : List SessionState) (index : ℕ) (event : Event)
    (there : Option SessionState) → slice_get sessions index ≡ there
    → ((number : ℕ) (s : SessionState) → slice_get sessions number ≡ Some s → Keeps log s)
    → (number : ℕ) (s : SessionState)
    → slice_get (elim there [ None ↦ sessions | Some t ↦ set sessions index (after proto log event t) ]) number ≡ Some s
    → Keeps log s
keep-set proto log sessions index event None here keeps number s is = keeps number s is
keep-set proto log sessions index event (Some t) here keeps number s is =
    elim (set-cases sessions index number (after proto log event t) s is) [
      | inl same ↦ subst (Keeps log) same (keeps-after proto log event t (keeps index t here))
      | inr other ↦ keeps number s other
    ]

keep-to : (proto : Proto) (world : World) (number : ℕ) (event : Event) → KeepAll world
    → KeepAll (happens_to proto world number event)
unfolding KeepAll happens_to after_at
keep-to proto world number event keeps =
    keep-set proto world.log world.sessions number event (slice_get world.sessions number) refl keeps

keep-either : (b : Bool) (v w : World) → KeepAll v → KeepAll w → KeepAll (cond b v w)
keep-either true v w one two = one
keep-either false v w one two = two

keep-published : (world : World) (op : Op) → KeepAll world → KeepAll (published world op)
unfolding KeepAll published
keep-published world op keeps =
    keep-either (is_none (full_at (coll world.log) op)) (record world { log = world.log ++ op ∷ [] }) world
    (λ number s is.
    let before = keeps number s is in
    record { never = before.never; known = omega (arith, before.known, length-append world.log (op ∷ [])) }) keeps

keep-happens : (proto : Proto) (world : World) (event : Event) → KeepAll world → KeepAll (happens proto world event)
unfolding happens
keep-happens proto world (Publish op) keeps = keep-published world op keeps
keep-happens proto world (Look number) keeps = keep-to proto world number (Look number) keeps
keep-happens proto world (Learn number count) keeps = keep-to proto world number (Learn number count) keeps
keep-happens proto world (Bytes number piece) keeps = keep-to proto world number (Bytes number piece) keeps
keep-happens proto world (Sent number count) keeps = keep-to proto world number (Sent number count) keeps
keep-happens proto world (End number) keeps = keep-to proto world number (End number) keeps
keep-happens proto world (Fault number) keeps = keep-to proto world number (Fault number) keeps

keep-fold : (proto : Proto) (events : List Event) (world : World) → KeepAll world
    → KeepAll (fold (happens proto) world events)
keep-fold proto [] world keeps = keeps
keep-fold proto (event ∷ events) world keeps =
    keep-fold proto events (happens proto world event) (keep-happens proto world event keeps)

replicate-get : {A : Type 0} (n number : ℕ) (a b : A) → slice_get (replicate n a) number ≡ Some b → a ≡ b
replicate-get zero number a b is = absurd (cc)
replicate-get (suc n) zero a b is = cc
replicate-get (suc n) (suc number) a b is = replicate-get n number a b is

keep-start : (sessions : ℕ) → KeepAll (start sessions)
unfolding KeepAll start
keep-start sessions number s is =
    subst (Keeps []) (replicate-get sessions number untouched s is) (record {
      never = record {
        rise = λ i j d less below. absurd (omega (arith, below));
        within = All-nil (λ (revision : ℕ). revision ≤ 0);
      };
      known = omega arith;
    })

keep-run : (proto : Proto) (sessions : ℕ) (events : List Event) → KeepAll (run proto (start sessions) events)
unfolding run
keep-run proto sessions events = keep-fold proto events (start sessions) (keep-start sessions)

pub never-falls : (proto : Proto) (sessions number : ℕ) (events : List Event) (s : SessionState)
    → slice_get (run proto (start sessions) events).sessions number ≡ Some s → NeverFall s.revs s.seen
unfolding KeepAll
never-falls proto sessions number events s is = (keep-run proto sessions events number s is).never

pub sees-published : (proto : Proto) (sessions number : ℕ) (events : List Event) (s : SessionState)
    → slice_get (run proto (start sessions) events).sessions number ≡ Some s
    → s.seen ≤ length (run proto (start sessions) events).log
unfolding KeepAll
sees-published proto sessions number events s is = (keep-run proto sessions events number s is).known

output-script : (proto : Proto) (log : List Op) (s : SessionState)
    → output_of proto log s ≡ take s.sent (script_of proto log s.revs (heads_of s.fed).items 0)
unfolding output_of script_in
output-script proto log s = refl

pub output-of-run : (proto : Proto) (sessions number : ℕ) (events : List Event) (s : SessionState)
    → slice_get (run proto (start sessions) events).sessions number ≡ Some s
    → slice_get (outcome_of proto (run proto (start sessions) events)).outputs number
    ≡ Some (take s.sent (script_of proto (run proto (start sessions) events).log s.revs (heads_of s.fed).items 0))
unfolding outcome_of
output-of-run proto sessions number events s is =
    let world : World = run proto (start sessions) events in
    slice_get-map (output_of proto world.log) world.sessions number
    ∙ ap (option_map (output_of proto world.log)) is
    ∙ ap Some (output-script proto world.log s)

pub ruleset rising = (never-falls, sees-published, output-of-run)
