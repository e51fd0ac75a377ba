-- The links of a door after a look that was made for one of them.
use Rattle.std.proofs.Common.{◌≡◌, ◌≢◌, ◌<◌, ℕ, Bool, List, [], ◌∷◌, ◌++◌, length, Some, sym, ◌∙◌, arith}
use Rattle.std.specs.Prelude.{slice_get, All}
use Rattle.std.proofs.lemmas.List.Elements.{All-append, All-cons, All-head, All-nil, All-tail}
use Rattle.std.proofs.lemmas.Option.{slice_get_within}
use Rattle.fm_base.proofs.ListLemmas.{slice_get-append}
use Rattle.dev_traits.specs.Shown.{LinkShown}
use Rattle.pub_look.proofs.HistoryLemmas.{continues_on}
use Rattle.dap_reply.specs.Collections.{Collections, Views}
use Rattle.srv_conn.specs.declared.connection.Connection.{Connection}
use Rattle.srv_door.specs.AtDoor.{IsHeld}
use Rattle.srv_door.specs.DoorTurns.{AreApart, IsTurn, Tag, Turn}
use Rattle.srv_conn.specs.Sight.{AreBehind}
use Rattle.srv_conn.proofs.ViewLemmas.{behind-on}
use Rattle.srv_door.proofs.TagLemmas.{looks_of-other, tags_with}

-- an item keeps its index where others follow
pub index-later : {A : Type 0} (xs ys : List A) (n : ℕ) (x : A) → slice_get xs n ≡ Some x
    → slice_get (xs ++ ys) n ≡ Some x
index-later xs ys n x is = slice_get-append xs ys n (slice_get_within xs n x is) ∙ is

-- one turn more, of a number that none has
pub apart-more : {L : Type 0} (turns : List (Turn L)) (turn : Turn L) → AreApart turns
    → All (λ (other : Turn L). other.number ≢ turn.number) turns → AreApart (turns ++ turn ∷ [])
apart-more {L} [] turn apart none = (All-nil (λ (other : Turn L). other.number ≢ turn.number), tt)
apart-more {L} (first ∷ more) turn apart none = (
  All-append (λ (other : Turn L). other.number ≢ first.number) more (turn ∷ []) apart.0
      (All-cons (λ (other : Turn L). other.number ≢ first.number) turn []
      (λ same. All-head (λ (other : Turn L). other.number ≢ turn.number) first more none (sym same))
      (All-nil (λ (other : Turn L). other.number ≢ first.number))),
  apart-more more turn apart.1 (All-tail (λ (other : Turn L). other.number ≢ turn.number) first more none),
)

module _ {L : Type 0} {shown : L → LinkShown} {them : Collections} where
  -- the turn of a link stays what it was where more links come, and looks are made for another
  turn-later : (came came' : List L) (tags : ℕ → List Tag) (views views' views'' : Views) (number : ℕ)
      (looks : ℕ → List ℕ) (turn : Turn L)
      → ((n : ℕ) (link : L) → slice_get came n ≡ Some link → slice_get came' n ≡ Some link)
      → turn.number ≢ number → AreBehind them views'.seen views''.seen
      → IsTurn shown them came tags views views' turn
      → IsTurn shown them came' (tags_with tags number looks) views views'' turn
  turn-later came came' tags views views' views'' number looks turn keeps apart behind t = record {
    came_is = keeps turn.number turn.came t.came_is;
    looks_are = λ collection. t.looks_are collection
        ∙ sym (looks_of-other number turn.number (tags collection) (looks collection) (λ same. apart (sym same)));
    from = t.from;
    to = λ collection. continues_on (turn.seen_after collection) (views'.seen collection) (views''.seen collection)
        (t.to collection) (behind collection).grows;
    served = t.served;
  }

  pub turns-later : (came came' : List L) (tags : ℕ → List Tag) (views views' views'' : Views) (number : ℕ)
      (looks : ℕ → List ℕ) (turns : List (Turn L))
      → ((n : ℕ) (link : L) → slice_get came n ≡ Some link → slice_get came' n ≡ Some link)
      → All (λ (turn : Turn L). turn.number ≢ number) turns
      → AreBehind them views'.seen views''.seen → All (IsTurn shown them came tags views views') turns
      → All (IsTurn shown them came' (tags_with tags number looks) views views'') turns
  turns-later came came' tags views views' views'' number looks [] keeps apart behind all =
      All-nil (IsTurn shown them came' (tags_with tags number looks) views views'')
  turns-later came came' tags views views' views'' number looks (turn ∷ turns) keeps apart behind all =
      All-cons (IsTurn shown them came' (tags_with tags number looks) views views'') turn turns
      (turn-later came came' tags views views' views'' number looks turn keeps
      (All-head (λ (t : Turn L). t.number ≢ number) turn turns apart) behind
      (All-head (IsTurn shown them came tags views views') turn turns all))
      (turns-later came came' tags views views' views'' number looks turns keeps
      (All-tail (λ (t : Turn L). t.number ≢ number) turn turns apart) behind
      (All-tail (IsTurn shown them came tags views views') turn turns all))

  -- a link that is held stays so too, where others come or have their turns
  pub held-later : (came came' : List L) (turns turns' : List (Turn L)) (tags : ℕ → List Tag)
      (views views' views'' : Views) (number : ℕ) (looks : ℕ → List ℕ) (own : ℕ) (connection : Connection L)
      → ((n : ℕ) (link : L) → slice_get came n ≡ Some link → slice_get came' n ≡ Some link)
      → (All (λ (turn : Turn L). turn.number ≢ own) turns → All (λ (turn : Turn L). turn.number ≢ own) turns')
      → own ≢ number → AreBehind them views'.seen views''.seen
      → IsHeld shown them came turns tags views views' own connection
      → IsHeld shown them came' turns' (tags_with tags number looks) views views'' own connection
  held-later came came' turns turns' tags views views' views'' number looks own connection keeps ended apart behind h =
      record {
        link = h.link;
        seen = h.seen;
        own = h.own;
        came_is = keeps own h.link h.came_is;
        from = h.from;
        is_out = record {
          was_fresh = h.is_out.was_fresh;
          so_far = h.is_out.so_far;
          behind = behind-on them h.own.views.seen views'.seen views''.seen h.is_out.behind behind;
          revisions_are = h.is_out.revisions_are;
          few = h.is_out.few;
        };
        looks_are = λ collection. h.looks_are collection
            ∙ sym (looks_of-other number own (tags collection) (looks collection) (λ same. apart (sym same)));
        apart = ended h.apart;
      }

  -- a number that hasn't come is that of no turn
  pub numbers-below : (came : List L) (tags : ℕ → List Tag) (views views' : Views) (turns : List (Turn L))
      → All (IsTurn shown them came tags views views') turns
      → All (λ (turn : Turn L). turn.number ≢ length came) turns
  numbers-below came tags views views' [] all = All-nil (λ (turn : Turn L). turn.number ≢ length came)
  numbers-below came tags views views' (turn ∷ turns) all =
      let first : IsTurn shown them came tags views views' turn =
      All-head (IsTurn shown them came tags views views') turn turns all in
      let below : turn.number < length came = slice_get_within came turn.number turn.came first.came_is in
      All-cons (λ (t : Turn L). t.number ≢ length came) turn turns (λ same. omega (arith, below, same))
      (numbers-below came tags views views' turns
      (All-tail (IsTurn shown them came tags views views') turn turns all))
