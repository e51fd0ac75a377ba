-- The links that are held under keys, after one more came.
use Rattle.std.proofs.Common.{◌≡◌, ◌≢◌, ◌⊎◌, inl, inr, ⊎_elim, ◌<◌, ℕ, ◌+◌, Bool, List, [], ◌∷◌, ◌++◌, length, Option, Some, None, refl, sym, ap, subst, ◌∙◌, append-nil, arith}
use Rattle.std.specs.Prelude.{count_by, is_some, slice_get, slice_index_or, true, All, IfSome}
use Rattle.std.proofs.lemmas.Bool.{cases_eq}
use Rattle.std.proofs.lemmas.List.Elements.{All-append, All-cons, All-nil}
use Rattle.std.proofs.lemmas.Option.{same_Some, slice_get_within}
use Rattle.slab.specs.Slab.{get, slab_len, ContainsKey, Updates}
use Rattle.fm_base.proofs.ListLemmas.{slice_get-push}
use Rattle.fm_model.specs.declared.op.Op.{Op}
use Rattle.dev_traits.specs.Cause.{capped, one_more}
use Rattle.dev_traits.specs.Door.{after_coming, after_done, first_of, Doorway, IsFresh}
use Rattle.dev_traits.specs.declared.door.Coming.TheVariants.{Came}
use Rattle.dev_traits.specs.Shown.{LinkShown}
use Rattle.pub_look.specs.History.{MayHaveLooked}
use Rattle.pub_look.proofs.HistoryLemmas.{continues_itself}
use Rattle.web_session.specs.State.{fresh}
use Rattle.dap_reply.specs.Collections.{Collections, Views}
use Rattle.srv_conn.specs.declared.connection.Connection.{Connection}
use Rattle.srv_action.specs.declared.doing.Doing.TheVariants as does
use Rattle.srv_door.specs.declared.hall.Hall.{Hall}
use Rattle.srv_door.specs.AtDoor.{with_out, AtDoor, IsHeld}
use Rattle.srv_door.specs.DoorTurns.{after_turns, IsTurn, Tag, Turn}
use Rattle.srv_conn.specs.Out.{came_at, first_looks, AreRevisions, IsOut}
use Rattle.srv_conn.specs.Sight.{AreBehind}
use Rattle.srv_conn.proofs.ViewLemmas.{behind-itself, behind-on, looks_made, looks_made-are, looks_made-few}
use Rattle.srv_door.proofs.DoorLemmas.{apart-more, held-later, numbers-below, index-later, turns-later}
use Rattle.srv_door.proofs.FreshLemmas.{fresh-rests}
use Rattle.srv_door.proofs.HallLemmas.{capped-more, looks-more, numbered, numbered-other, numbered-same, short-more}
use Rattle.srv_conn.proofs.Serving.{Serving-start}
use Rattle.srv_door.proofs.TagLemmas.{below-later, below-more, looks_of-none, looks_of-own, tags_with}
use Rattle.srv_door.proofs.DoorwayLemmas.{door-came, door-done, came-more, length-more}

module _ {L : Type 0} {shown : L → LinkShown} {them : Collections} where
  -- ---- a link comes

  -- a fresh session over what is seen
  fresh-out : (link : L) (seen log : ℕ → List Op) (connection : Connection L) → connection.link ≡ link
      → connection.session ≡ fresh → connection.doing ≡ does.Reading → AreRevisions them connection.revisions seen
      → AreBehind them seen log
      → IsOut shown them (came_at shown them link seen) log (record {
        views = record { seen = seen; looks = first_looks them.count seen };
        trail = [];
      }) connection
  fresh-out link seen log connection link_is session_is doing_is revisions_are behind = record {
    was_fresh = refl;
    so_far = rw (link_is, session_is, doing_is)
        ((Serving-start them (came_at shown them link seen) refl fresh-rests, omega arith));
    behind = behind;
    revisions_are = rw doing_is revisions_are;
    few = rw session_is (omega arith);
  }

  pub at-admitted : (door door' door'' : Option (Doorway L)) (views views' views'' : Views) (hall hall' : Hall L)
      (key : ℕ) (link : L) (connection : Connection L) → AtDoor shown them door door' views views' hall
      → IfSome door' (λ it. first_of it.left ≡ Some link) → door'' ≡ after_coming (Came link) door'
      → IsFresh (shown link) → connection.link ≡ link → connection.session ≡ fresh
      → connection.doing ≡ does.Reading → AreRevisions them connection.revisions views''.seen
      → AreBehind them views'.seen views''.seen
      → ((collection : ℕ) → views''.looks collection
      ≡ views'.looks collection ++ first_looks them.count views''.seen collection)
      → get hall.links key ≡ None → Updates hall.links hall'.links key (Some connection)
      → slab_len hall'.links ≡ slab_len hall.links + 1
      → hall'.served ≡ hall.served → hall'.short ≡ hall.short
      → AtDoor shown them door door'' views views'' hall'
  at-admitted door door' door'' views views' views'' hall hall' key link connection at next coming unused link_is
      session_is doing_is revisions_are behind looked vacant updates len served short = record {
        came = came';
        turns = at.turns;
        tags = tags';
        number_at = numbered at.number_at key number;
        came_is = came-more at.came (slab_len hall.links) at.turns link door at.came_is
            (subst (λ (d : Option (Doorway L)). IfSome d (λ it. first_of it.left ≡ Some link)) at.door_is next);
        unused = All-append (λ (l : L). IsFresh (shown l)) at.came (link ∷ []) at.unused
            (All-cons (λ (l : L). IsFresh (shown l)) link [] unused (All-nil (λ (l : L). IsFresh (shown l))));
        each = turns-later at.came came' at.tags views views' views'' number more at.turns keeps
            (numbers-below at.came at.tags views views' at.turns at.each) behind at.each;
        once = at.once;
        held = held;
        apart = apart;
        all = omega (arith, at.all, len, length-more at.came link);
        below = λ collection. subst (λ (n : ℕ). All (λ (tag : Tag). tag.number < n) (tags' collection))
            (sym (length-more at.came link))
            (below-more number (length at.came + 1) (at.tags collection) (more collection) (omega arith)
            (below-later (length at.came) (at.tags collection) (at.below collection)));
        looks_are = λ collection. looks-more (views.looks collection) (at.tags collection) number
            (views'.looks collection) (views''.looks collection) (more collection) (at.looks_are collection)
            (looked collection);
        behind = behind-on them views.seen views'.seen views''.seen at.behind behind;
        door_is = coming ∙ ap (after_coming (Came link)) at.door_is
            ∙ door-came (length at.came) (slab_len hall.links) at.turns link door
            ∙ ap (λ (n : ℕ). with_out n (after_turns (length at.came + 1) at.turns door)) (sym len)
            ∙ ap (λ (n : ℕ). with_out (slab_len hall'.links) (after_turns n at.turns door))
            (sym (length-more at.came link));
        served_is = served ∙ at.served_is;
        short_is = short ∙ at.short_is;
      }
    where
      number : ℕ
      number = length at.came

      came' : List L
      came' = at.came ++ link ∷ []

      more : ℕ → List ℕ
      more = first_looks them.count views''.seen

      tags' : ℕ → List Tag
      tags' = tags_with at.tags number more

      keeps : (n : ℕ) (x : L) → slice_get at.came n ≡ Some x → slice_get came' n ≡ Some x
      keeps n x is = index-later at.came (link ∷ []) n x is

      this : (one : Connection L) → one ≡ connection
          → IsHeld shown them came' at.turns tags' views views'' number one
      this one same = subst (IsHeld shown them came' at.turns tags' views views'' number) (sym same) (record {
        link = link;
        seen = views''.seen;
        own = record { views = record { seen = views''.seen; looks = more }; trail = [] };
        came_is = slice_get-push at.came link;
        from = λ collection. (behind-on them views.seen views'.seen views''.seen at.behind behind collection).grows;
        is_out = fresh-out link views''.seen views''.seen connection link_is session_is doing_is revisions_are
            (behind-itself them views''.seen);
        looks_are = λ collection. sym (looks_of-own number (at.tags collection) (more collection)
            ∙ ap (λ (l : List ℕ). l ++ more collection)
            (looks_of-none number (at.tags collection) (at.below collection)));
        apart = numbers-below at.came at.tags views views' at.turns at.each;
      })

      -- the number of a link that was held before
      earlier : (other : ℕ) (one : Connection L) → get hall.links other ≡ Some one → at.number_at other ≢ number
      earlier other one is =
          let h = at.held other one is in
          let below : at.number_at other < length at.came =
          slice_get_within at.came (at.number_at other) h.link h.came_is in
          λ same. omega (arith, below, same)

      held : (other : ℕ) (one : Connection L) → get hall'.links other ≡ Some one
          → IsHeld shown them came' at.turns tags' views views'' (numbered at.number_at key number other) one
      held other one there = ⊎_elim
          (λ same. subst (λ (k : ℕ). IsHeld shown them came' at.turns tags' views views''
          (numbered at.number_at key number k) one) (sym same)
          (subst (λ (n : ℕ). IsHeld shown them came' at.turns tags' views views'' n one)
          (sym (numbered-same at.number_at key number))
          (this one (same_Some one connection (sym there ∙ ap (get hall'.links) same ∙ updates.changed)))))
          (λ differs.
          let before : get hall.links other ≡ Some one = sym (updates.others other differs) ∙ there in
          subst (λ (n : ℕ). IsHeld shown them came' at.turns tags' views views'' n one)
          (sym (numbered-other at.number_at key number other differs))
          (held-later at.came came' at.turns at.turns at.tags views views' views'' number more (at.number_at other) one
          keeps (λ all. all) (earlier other one before) behind (at.held other one before)))
          (cases_eq other key)

      -- a key other than the new one had its value before
      value_at : (other : ℕ) → other ≢ key → ContainsKey hall'.links other
          → (one : Connection L) × (get hall.links other ≡ Some one)
      value_at other differs there = of_some (get hall.links other)
          (ap is_some (sym (updates.others other differs)) ∙ there)
        where
          of_some : (o : Option (Connection L)) → is_some o ≡ true → (one : Connection L) × (o ≡ Some one)
          of_some (Some one) is = (one, refl)
          of_some None is = absurd (cc)

      apart : (one other : ℕ) → ContainsKey hall'.links one → ContainsKey hall'.links other → one ≢ other
          → numbered at.number_at key number one ≢ numbered at.number_at key number other
      apart one other there here differs = ⊎_elim
          (λ same. ⊎_elim
          (λ equal. absurd (differs (same ∙ sym equal)))
          (λ apart.
          let v = value_at other apart here in
          λ together. earlier other v.0 v.1
          (sym (sym (numbered-same at.number_at key number)
          ∙ ap (numbered at.number_at key number) (sym same) ∙ together
          ∙ numbered-other at.number_at key number other apart)))
          (cases_eq other key))
          (λ one_apart. ⊎_elim
          (λ equal.
          let v = value_at one one_apart there in
          λ together. earlier one v.0 v.1
          (sym (numbered-other at.number_at key number one one_apart) ∙ together
          ∙ ap (numbered at.number_at key number) equal ∙ numbered-same at.number_at key number))
          (λ other_apart.
          let v = value_at one one_apart there in
          let u = value_at other other_apart here in
          λ together. at.apart one other (ap is_some v.1) (ap is_some u.1) differs
          (sym (numbered-other at.number_at key number one one_apart) ∙ together
          ∙ numbered-other at.number_at key number other other_apart))
          (cases_eq other key))
          (cases_eq one key)

  -- ---- a link is given back at once

  pub at-alone : (door door' door'' door''' : Option (Doorway L)) (views views' views'' : Views) (hall hall' : Hall L)
      (link : L) → AtDoor shown them door door' views views' hall
      → IfSome door' (λ it. first_of it.left ≡ Some link) → door'' ≡ after_coming (Came link) door'
      → IsFresh (shown link) → AreBehind them views'.seen views''.seen
      → ((collection : ℕ) → MayHaveLooked (views'.looks collection) (length (views''.seen collection))
      (views''.looks collection))
      → hall'.links.slots ≡ hall.links.slots
      → hall'.served ≡ one_more hall.served → hall'.short ≡ one_more hall.short
      → door''' ≡ after_done link door''
      → AtDoor shown them door door''' views views'' hall'
  at-alone door door' door'' door''' views views' views'' hall hall' link at next coming unused behind looked slots
      served short given = record {
        came = came';
        turns = at.turns ++ turn ∷ [];
        tags = tags';
        number_at = at.number_at;
        came_is = came-more at.came (slab_len hall.links) at.turns link door at.came_is
            (subst (λ (d : Option (Doorway L)). IfSome d (λ it. first_of it.left ≡ Some link)) at.door_is next);
        unused = All-append (λ (l : L). IsFresh (shown l)) at.came (link ∷ []) at.unused
            (All-cons (λ (l : L). IsFresh (shown l)) link [] unused (All-nil (λ (l : L). IsFresh (shown l))));
        each = All-append (IsTurn shown them came' tags' views views'') at.turns (turn ∷ [])
            (turns-later at.came came' at.tags views views' views'' number more at.turns keeps none behind at.each)
            (All-cons (IsTurn shown them came' tags' views views'') turn [] is_turn
            (All-nil (IsTurn shown them came' tags' views views'')));
        once = apart-more at.turns turn at.once none;
        held = λ key one is.
            let before : get hall.links key ≡ Some one = sym (same key) ∙ is in
            let h = at.held key one before in
            let below : at.number_at key < length at.came =
            slice_get_within at.came (at.number_at key) h.link h.came_is in
            held-later at.came came' at.turns (at.turns ++ turn ∷ []) at.tags views views' views'' number more
            (at.number_at key) one keeps
            (λ all. All-append (λ (t : Turn L). t.number ≢ at.number_at key) at.turns (turn ∷ []) all
            (All-cons (λ (t : Turn L). t.number ≢ at.number_at key) turn [] (λ equal. omega (arith, below, equal))
            (All-nil (λ (t : Turn L). t.number ≢ at.number_at key))))
            (λ equal. omega (arith, below, equal)) behind h;
        apart = λ key other there here differs.
            at.apart key other (ap is_some (sym (same key)) ∙ there) (ap is_some (sym (same other)) ∙ here) differs;
        all = omega (arith, at.all, len, length-more at.came link, length-more at.turns turn);
        below = λ collection. subst (λ (n : ℕ). All (λ (tag : Tag). tag.number < n) (tags' collection))
            (sym (length-more at.came link))
            (below-more number (length at.came + 1) (at.tags collection) (more collection) (omega arith)
            (below-later (length at.came) (at.tags collection) (at.below collection)));
        looks_are = λ collection. looks-more (views.looks collection) (at.tags collection) number
            (views'.looks collection) (views''.looks collection) (more collection) (at.looks_are collection)
            (looks_made-are (views'.looks collection) (length (views''.seen collection)) (views''.looks collection)
            (looked collection));
        behind = behind-on them views.seen views'.seen views''.seen at.behind behind;
        door_is = given ∙ ap (after_done link) (coming ∙ ap (after_coming (Came link)) at.door_is
            ∙ door-came (length at.came) (slab_len hall.links) at.turns link door)
            ∙ door-done (length at.came + 1) (slab_len hall.links) at.turns turn door
            ∙ ap (λ (n : ℕ). with_out n (after_turns (length at.came + 1) (at.turns ++ turn ∷ []) door)) (sym len)
            ∙ ap (λ (n : ℕ). with_out (slab_len hall'.links) (after_turns n (at.turns ++ turn ∷ []) door))
            (sym (length-more at.came link));
        served_is = served ∙ ap one_more at.served_is ∙ capped-more (length at.turns)
            ∙ ap capped (sym (length-more at.turns turn));
        short_is = short ∙ ap one_more at.short_is ∙ sym (short-more at.turns turn);
      }
    where
      number : ℕ
      number = length at.came

      came' : List L
      came' = at.came ++ link ∷ []

      keeps : (n : ℕ) (x : L) → slice_get at.came n ≡ Some x → slice_get came' n ≡ Some x
      keeps n x is = index-later at.came (link ∷ []) n x is

      same : (key : ℕ) → get hall'.links key ≡ get hall.links key
      same key = ap (λ (l : List (Option (Connection L))). slice_index_or l key None) slots

      len : slab_len hall'.links ≡ slab_len hall.links
      len = ap (count_by is_some) slots

      more : ℕ → List ℕ
      more collection = looks_made (views'.looks collection) (length (views''.seen collection))
          (views''.looks collection) (looked collection)

      tags' : ℕ → List Tag
      tags' = tags_with at.tags number more

      turn : Turn L
      turn = record {
        number = number;
        came = link;
        left = link;
        seen = views''.seen;
        seen_after = views''.seen;
        looks = more;
        end = None;
      }

      none : All (λ (t : Turn L). t.number ≢ number) at.turns
      none = numbers-below at.came at.tags views views' at.turns at.each

      is_turn : IsTurn shown them came' tags' views views'' turn
      is_turn = record {
        came_is = slice_get-push at.came link;
        looks_are = λ collection. sym (looks_of-own number (at.tags collection) (more collection)
            ∙ ap (λ (l : List ℕ). l ++ more collection)
            (looks_of-none number (at.tags collection) (at.below collection)));
        from = λ collection. (behind-on them views.seen views'.seen views''.seen at.behind behind collection).grows;
        to = λ collection. continues_itself (views''.seen collection);
        served = record {
          link = refl;
          looks_are = λ collection. looks_made-few (views'.looks collection) (length (views''.seen collection))
              (views''.looks collection) (looked collection);
        };
      }
