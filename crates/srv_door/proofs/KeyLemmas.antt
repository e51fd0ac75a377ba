-- The links that are held under keys, after the one of a key went on or was given back.
use Rattle.std.proofs.Common.{◌≡◌, ◌≢◌, ⊎_elim, ℕ, ◌+◌, Bool, List, [], ◌∷◌, ◌++◌, length, Option, Some, None, sym, ap, subst, ◌∙◌, arith}
use Rattle.std.specs.Prelude.{is_some, if◌then◌else◌}
use Rattle.std.proofs.lemmas.Bool.{cases_eq}
use Rattle.std.proofs.lemmas.List.Elements.{All-append, All-cons, All-nil}
use Rattle.std.proofs.lemmas.Option.{none-some, same_Some, slice_get_within}
use Rattle.slab.specs.Slab.{get, slab_len, ContainsKey, Updates}
use Rattle.dev_traits.specs.Cause.{capped, one_more}
use Rattle.dev_traits.specs.Door.{after_done, Doorway}
use Rattle.dev_traits.specs.Shown.{LinkShown}
use Rattle.web_session.specs.declared.action.End.{End}
use Rattle.dap_reply.specs.Collections.{Collections, Views}
use Rattle.srv_conn.specs.declared.connection.Connection.{Connection}
use Rattle.srv_door.specs.declared.hall.Hall.{Hall}
use Rattle.srv_door.specs.AtDoor.{with_out, AtDoor, IsHeld}
use Rattle.srv_door.specs.DoorTurns.{after_turns, is_short, IsTurn, Tag, Turn}
use Rattle.srv_conn.specs.Out.{HasEnded, IsOut, Own, StaysOut, came_at}
use Rattle.srv_conn.specs.ServesMany.{Point}
use Rattle.srv_conn.specs.Sight.{AreBehind}
use Rattle.srv_conn.proofs.ViewLemmas.{behind-on}
use Rattle.srv_door.proofs.DoorLemmas.{apart-more, held-later, turns-later}
use Rattle.srv_door.proofs.HallLemmas.{capped-more, looks-more, short-more}
use Rattle.srv_door.proofs.TagLemmas.{below-more, looks_of-own, tags_with}
use Rattle.srv_door.proofs.DoorwayLemmas.{door-done, length-more}

module _ {L : Type 0} {shown : L → LinkShown} {them : Collections} where
  -- ---- a link goes on

  pub at-stays : (door door' : Option (Doorway L)) (views views' views'' : Views) (hall hall' : Hall L) (key : ℕ)
      (connection connection' : Connection L) → AtDoor shown them door door' views views' hall
      → get hall.links key ≡ Some connection
      → ((start : Point) (own : Own) → IsOut shown them start views'.seen own connection
      → StaysOut shown them start own connection' views' views'')
      → AreBehind them views'.seen views''.seen
      → Updates hall.links hall'.links key (Some connection') → slab_len hall'.links ≡ slab_len hall.links
      → hall'.served ≡ hall.served → hall'.short ≡ hall.short
      → AtDoor shown them door door' views views'' hall'
  at-stays door door' views views' views'' hall hall' key connection connection' at is went behind updates len served
      short = record {
        came = at.came;
        turns = at.turns;
        tags = tags';
        number_at = at.number_at;
        came_is = at.came_is;
        unused = at.unused;
        each = turns-later at.came at.came at.tags views views' views'' number more at.turns (λ n link p. p) h.apart
            behind at.each;
        once = at.once;
        held = held;
        apart = λ one other there here differs. at.apart one other (back one there) (back other here) differs;
        all = omega (arith, at.all, len);
        below = λ collection. below-more number (length at.came) (at.tags collection) (more collection)
            (slice_get_within at.came number h.link h.came_is) (at.below collection);
        looks_are = λ collection. looks-more (views.looks collection) (at.tags collection) number
            (views'.looks collection) (views''.looks collection) (more collection) (at.looks_are collection)
            (w.looks.looks_are collection);
        behind = behind-on them views.seen views'.seen views''.seen at.behind behind;
        door_is = at.door_is
            ∙ ap (λ (n : ℕ). with_out n (after_turns (length at.came) at.turns door)) (sym len);
        served_is = served ∙ at.served_is;
        short_is = short ∙ at.short_is;
      }
    where
      number : ℕ
      number = at.number_at key

      h : IsHeld shown them at.came at.turns at.tags views views' number connection
      h = at.held key connection is

      w : StaysOut shown them (came_at shown them h.link h.seen) h.own connection' views' views''
      w = went (came_at shown them h.link h.seen) h.own h.is_out

      more : ℕ → List ℕ
      more = w.looks.more

      tags' : ℕ → List Tag
      tags' = tags_with at.tags number more

      present : ContainsKey hall.links key
      present = ap is_some is

      back : (other : ℕ) → ContainsKey hall'.links other → ContainsKey hall.links other
      back other there = ⊎_elim
          (λ same. subst (ContainsKey hall.links) (sym same) present)
          (λ differs. ap is_some (sym (updates.others other differs)) ∙ there) (cases_eq other key)

      this : (one : Connection L) → one ≡ connection'
          → IsHeld shown them at.came at.turns tags' views views'' number one
      this one same = subst (IsHeld shown them at.came at.turns tags' views views'' number) (sym same) (record {
        link = h.link;
        seen = h.seen;
        own = w.own';
        came_is = h.came_is;
        from = h.from;
        is_out = w.is_out;
        looks_are = λ collection. w.looks.own_is collection
            ∙ ap (λ (l : List ℕ). l ++ more collection) (h.looks_are collection)
            ∙ sym (looks_of-own number (at.tags collection) (more collection));
        apart = h.apart;
      })

      held : (other : ℕ) (one : Connection L) → get hall'.links other ≡ Some one
          → IsHeld shown them at.came at.turns tags' views views'' (at.number_at other) one
      held other one there = ⊎_elim
          (λ same. subst (λ (k : ℕ). IsHeld shown them at.came at.turns tags' views views'' (at.number_at k) one)
          (sym same) (this one (same_Some one connection'
          (sym there ∙ ap (get hall'.links) same ∙ updates.changed))))
          (λ differs.
          let before : get hall.links other ≡ Some one = sym (updates.others other differs) ∙ there in
          held-later at.came at.came at.turns at.turns at.tags views views' views'' number more (at.number_at other) one
          (λ n link p. p) (λ all. all)
          (at.apart other key (ap is_some before) present differs) behind (at.held other one before))
          (cases_eq other key)

  -- ---- a link is given back

  pub at-ended : (door door' door'' : Option (Doorway L)) (views views' views'' : Views) (hall hall' : Hall L)
      (key : ℕ) (connection connection' : Connection L) (end : End)
      → AtDoor shown them door door' views views' hall
      → get hall.links key ≡ Some connection
      → ((start : Point) (own : Own) → IsOut shown them start views'.seen own connection
      → HasEnded shown them start own connection' views' views'' end)
      → AreBehind them views'.seen views''.seen
      → Updates hall.links hall'.links key None → slab_len hall'.links + 1 ≡ slab_len hall.links
      → hall'.served ≡ one_more hall.served
      → hall'.short ≡ (if is_short (Some end) then one_more hall.short else hall.short)
      → door'' ≡ after_done connection'.link door'
      → AtDoor shown them door door'' views views'' hall'
  at-ended door door' door'' views views' views'' hall hall' key connection connection' end at is ended behind updates
      len served short given = record {
        came = at.came;
        turns = turns';
        tags = tags';
        number_at = at.number_at;
        came_is = at.came_is;
        unused = at.unused;
        each = All-append (IsTurn shown them at.came tags' views views'') at.turns (turn ∷ [])
            (turns-later at.came at.came at.tags views views' views'' number more at.turns (λ n link p. p) h.apart
            behind at.each)
            (All-cons (IsTurn shown them at.came tags' views views'') turn [] is_turn
            (All-nil (IsTurn shown them at.came tags' views views'')));
        once = apart-more at.turns turn at.once h.apart;
        held = held;
        apart = λ one other there here differs. at.apart one other (back one there) (back other here) differs;
        all = omega (arith, at.all, len, length-more at.turns turn);
        below = λ collection. below-more number (length at.came) (at.tags collection) (more collection)
            (slice_get_within at.came number h.link h.came_is) (at.below collection);
        looks_are = λ collection. looks-more (views.looks collection) (at.tags collection) number
            (views'.looks collection) (views''.looks collection) (more collection) (at.looks_are collection)
            (w.looks.looks_are collection);
        behind = behind-on them views.seen views'.seen views''.seen at.behind behind;
        door_is = given ∙ ap (after_done connection'.link) (at.door_is
            ∙ ap (λ (n : ℕ). with_out n (after_turns (length at.came) at.turns door)) (sym len))
            ∙ door-done (length at.came) (slab_len hall'.links) at.turns turn door;
        served_is = served ∙ ap one_more at.served_is ∙ capped-more (length at.turns)
            ∙ ap capped (sym (length-more at.turns turn));
        short_is = short
            ∙ ap (λ (n : ℕ). if is_short (Some end) then one_more n else n) at.short_is
            ∙ sym (short-more at.turns turn);
      }
    where
      number : ℕ
      number = at.number_at key

      h : IsHeld shown them at.came at.turns at.tags views views' number connection
      h = at.held key connection is

      w : HasEnded shown them (came_at shown them h.link h.seen) h.own connection' views' views'' end
      w = ended (came_at shown them h.link h.seen) h.own h.is_out

      more : ℕ → List ℕ
      more = w.looks.more

      tags' : ℕ → List Tag
      tags' = tags_with at.tags number more

      turn : Turn L
      turn = record {
        number = number;
        came = h.link;
        left = connection'.link;
        seen = h.seen;
        seen_after = w.own'.views.seen;
        looks = w.own'.views.looks;
        end = Some end;
      }

      turns' : List (Turn L)
      turns' = at.turns ++ turn ∷ []

      is_turn : IsTurn shown them at.came tags' views views'' turn
      is_turn = record {
        came_is = h.came_is;
        looks_are = λ collection. w.looks.own_is collection
            ∙ ap (λ (l : List ℕ). l ++ more collection) (h.looks_are collection)
            ∙ sym (looks_of-own number (at.tags collection) (more collection));
        from = h.from;
        to = λ collection. (w.behind collection).grows;
        served = record { session = connection'.session; trail = w.own'.trail; serves = w.serves };
      }

      present : ContainsKey hall.links key
      present = ap is_some is

      back : (other : ℕ) → ContainsKey hall'.links other → ContainsKey hall.links other
      back other there = ⊎_elim
          (λ same. subst (ContainsKey hall.links) (sym same) present)
          (λ differs. ap is_some (sym (updates.others other differs)) ∙ there) (cases_eq other key)

      held : (other : ℕ) (one : Connection L) → get hall'.links other ≡ Some one
          → IsHeld shown them at.came turns' tags' views views'' (at.number_at other) one
      held other one there = ⊎_elim
          (λ same. absurd (none-some one (sym updates.changed ∙ ap (get hall'.links) (sym same) ∙ there)))
          (λ differs.
          let before : get hall.links other ≡ Some one = sym (updates.others other differs) ∙ there in
          let apart : at.number_at other ≢ number = at.apart other key (ap is_some before) present differs in
          held-later at.came at.came at.turns turns' at.tags views views' views'' number more (at.number_at other) one
          (λ n link p. p)
          (λ all. All-append (λ (t : Turn L). t.number ≢ at.number_at other) at.turns (turn ∷ []) all
          (All-cons (λ (t : Turn L). t.number ≢ at.number_at other) turn [] (λ same. apart (sym same))
          (All-nil (λ (t : Turn L). t.number ≢ at.number_at other)))) apart behind (at.held other one before))
          (cases_eq other key)
