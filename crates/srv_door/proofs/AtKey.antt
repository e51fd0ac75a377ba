-- The links of a door after the turn of the one that a key names.
use Rattle.std.proofs.Common.{◌≡◌, ℕ, ◌+◌, Bool, Option, Some, None, sym, ap, subst, ◌∙◌}
use Rattle.std.specs.Prelude.{if◌then◌else◌}
use Rattle.slab.specs.Slab.{get, slab_len, SameValues, Slab, Updates}
use Rattle.dev_traits.specs.Cause.{one_more}
use Rattle.dev_traits.specs.Door.{after_done, Doorway}
use Rattle.dev_traits.specs.Shown.{LinkShown}
use Rattle.web_session.specs.declared.action.End.{End}
use Rattle.dap_reply.specs.Collections.{Collections, Views}
use Rattle.srv_conn.specs.declared.connection.Connection.{Connection}
use Rattle.srv_door.specs.declared.hall.Hall.{Hall}
use Rattle.srv_door.specs.AtDoor.{AtDoor}
use Rattle.srv_door.specs.DoorTurns.{is_short}
use Rattle.srv_conn.specs.Out.{HasEnded, IsOut, Own, StaysOut}
use Rattle.srv_conn.specs.ServesMany.{Point}
use Rattle.srv_conn.specs.Sight.{AreBehind}
use Rattle.srv_door.proofs.KeyLemmas.{at-ended, at-stays}
use Rattle.srv_conn.proofs.OutSteps.{rested}

-- what is put in under a key that was emptied stands in place of what was there
updates-back : {A : Type 0} (s emptied now : Slab A) (key taken : ℕ) (value : A) → Updates s emptied key None
    → taken ≡ key → Updates emptied now taken (Some value) → Updates s now key (Some value)
updates-back {A} s emptied now key taken value out same back =
    let u = subst (λ (k : ℕ). Updates emptied now k (Some value)) same back in
    record { changed = u.changed; others = λ other differs. u.others other differs ∙ out.others other differs }

-- a table with the same values is emptied too
pub updates-still : {A : Type 0} {s emptied now : Slab A} {key : ℕ} → Updates s emptied key None
    → SameValues emptied now → Updates s now key None
updates-still {A} {s} {emptied} {now} {key} out same = record {
  changed = same key ∙ out.changed;
  others = λ other differs. same other ∙ out.others other differs;
}

module _ {L : Type 0} {shown : L → LinkShown} {them : Collections} where
  -- it waits
  pub at-rested : (first door door' : Option (Doorway L)) (views views' views'' : Views) (hall hall' : Hall L)
      (emptied : Slab (Connection L)) (key taken : ℕ) (connection connection' : Connection L) (link : L)
      → AtDoor shown them first door views views' hall → get hall.links key ≡ Some connection
      → ((start : Point) (own : Own) → IsOut shown them start views'.seen own connection
      → StaysOut shown them start own connection' views' views'')
      → AreBehind them views'.seen views''.seen → shown link ≡ shown connection'.link → door' ≡ door
      → Updates hall.links emptied key None → slab_len emptied + 1 ≡ slab_len hall.links → taken ≡ key
      → Updates emptied hall'.links taken (Some (record connection' { link = link }))
      → slab_len hall'.links ≡ slab_len emptied + 1 → hall'.served ≡ hall.served → hall'.short ≡ hall.short
      → AtDoor shown them first door' views views'' hall'
  at-rested first door door' views views' views'' hall hall' emptied key taken connection connection' link at is went
      behind same_link same_door out fewer same back len served short =
      subst (λ (d : Option (Doorway L)). AtDoor shown them first d views views'' hall') (sym same_door)
      (at-stays first door views views' views'' hall hall' key connection (record connection' { link = link }) at is
      (λ start own there. rested own connection' link views' views'' same_link (went start own there)) behind
      (updates-back hall.links emptied hall'.links key taken (record connection' { link = link }) out same back)
      (len ∙ fewer) served short)

  -- its session has ended, and the door gets it back
  pub at-removed : (first door door' : Option (Doorway L)) (views views' views'' : Views) (hall hall' : Hall L)
      (emptied : Slab (Connection L)) (key : ℕ) (connection connection' : Connection L) (end : End)
      → AtDoor shown them first door views views' hall → get hall.links key ≡ Some connection
      → ((start : Point) (own : Own) → IsOut shown them start views'.seen own connection
      → HasEnded shown them start own connection' views' views'' end)
      → AreBehind them views'.seen views''.seen → Updates hall.links emptied key None
      → slab_len emptied + 1 ≡ slab_len hall.links → hall'.links ≡ emptied → hall'.served ≡ one_more hall.served
      → hall'.short ≡ (if is_short (Some end) then one_more hall.short else hall.short)
      → door' ≡ after_done connection'.link door
      → AtDoor shown them first door' views views'' hall'
  at-removed first door door' views views' views'' hall hall' emptied key connection connection' end at is ended behind
      out fewer links served short given =
      at-ended first door door' views views' views'' hall hall' key connection connection' end at is ended behind
      (subst (λ (s : Slab (Connection L)). Updates hall.links s key None) (sym links) out)
      (ap (λ (s : Slab (Connection L)). slab_len s + 1) links ∙ fewer) served short given
