-- The links of a door after one of them came, went on or was given back.
use Rattle.std.proofs.Common.{◌≡◌, ◌≢◌, ◌<◌, ℕ, ◌+◌, Bool, true, false, List, [], ◌∷◌, ◌++◌, length, map, filter, take, Option, Some, None, refl, sym, ap, subst, ◌∙◌, append-nil, append_assoc, arith, length-append}
use Rattle.std.specs.Prelude.{count_by, is_some, nat_eq, slice_index_or, IfSome, if◌then◌else◌}
use Rattle.std.proofs.lemmas.Bool.{eq-eqb, ne_eqb}
use Rattle.std.proofs.lemmas.List.{map-append}
use Rattle.std.proofs.lemmas.List.Elements.{All-nil, filter-append}
use Rattle.std.proofs.lemmas.Option.{none-some, same_Some}
use Rattle.slab.specs.Slab.{get, slab_len, ContainsKey, Slab, Updates}
use Rattle.dev_traits.specs.Cause.{capped, one_more}
use Rattle.dev_traits.specs.Door.{after_coming, Doorway, DoorShown, IsFresh}
use Rattle.dev_traits.specs.declared.door.Coming.TheVariants.{Came, Closed, Ready}
use Rattle.dev_traits.specs.Shown.{LinkShown}
use Rattle.dap_reply.specs.Collections.{Collections, Views}
use Rattle.srv_conn.specs.declared.connection.Connection.{Connection}
use Rattle.srv_door.specs.declared.door_next.Next.{Next}
use Rattle.srv_door.specs.declared.door_next.Next.TheVariants as nexts
use Rattle.srv_door.specs.declared.door_report.DoorEnd.{DoorEnd}
use Rattle.srv_door.specs.declared.door_report.DoorEnd.TheVariants as door_ends
use Rattle.srv_door.specs.declared.hall.Hall.{Hall}
use Rattle.srv_door.specs.AtDoor.{end_of, failed_by, faults_after, with_out, AreReady, AtDoor, FaultsSo, IsOutSome}
use Rattle.srv_door.specs.DoorTurns.{after_turns, is_short, short_count, EndsDoor, IsTurn, ServesEachMany, Tag, Turn}
use Rattle.srv_conn.proofs.ViewLemmas.{behind-itself}
use Rattle.srv_conn.proofs.OutLemmas.{out-ready}
use Rattle.srv_door.proofs.TagLemmas.{counts-tagged, tagged}
use Rattle.srv_door.proofs.DoorwayLemmas.{door-all, out-some, len-some}

-- ---- counts

pub capped-more : (count : ℕ) → one_more (capped count) ≡ capped (count + 1)
capped-more count = omega arith

-- the turns in which memory ran out, with one turn more
pub short-more : {L : Type 0} (turns : List (Turn L)) (turn : Turn L)
    → capped (short_count (turns ++ turn ∷ []))
    ≡ (if is_short turn.end then one_more (capped (short_count turns)) else capped (short_count turns))
short-more {L} turns turn =
    ap (λ (l : List (Turn L)). capped (length l)) (filter-append (λ it. is_short it.end) turns (turn ∷ []))
    ∙ ap capped (length-append (filter (λ it. is_short it.end) turns) (filter (λ it. is_short it.end) (turn ∷ [])))
    ∙ by_test (is_short turn.end) (short_count turns)
  where
    by_test : (b : Bool) (count : ℕ) → capped (count + length (if b then turn ∷ [] else []))
        ≡ (if b then one_more (capped count) else capped count)
    by_test true count = omega arith
    by_test false count = omega arith

-- ---- numbers of keys

-- the number at a key, with that of one key more
abbrev pub numbered : (ℕ → ℕ) → ℕ → ℕ → ℕ → ℕ
numbered at key number other = if nat_eq other key then number else at other

pub numbered-same : (at : ℕ → ℕ) (key number : ℕ) → numbered at key number key ≡ number
numbered-same at key number = ap (λ (b : Bool). if b then number else at key) (eq-eqb key key refl)

pub numbered-other : (at : ℕ → ℕ) (key number other : ℕ) → other ≢ key → numbered at key number other ≡ at other
numbered-other at key number other apart =
    ap (λ (b : Bool). if b then number else at other) (ne_eqb other key apart)

-- room that is made changes no value
pub reserved : {A : Type 0} {old mid new : Slab A} {capacity key : ℕ} {slot : Option A}
    → mid ≡ record old { capacity = capacity } → Updates mid new key slot → Updates old new key slot
reserved {A} {old} {mid} {new} {capacity} {key} {slot} is updates =
    let u = subst (λ (s : Slab A). Updates s new key slot) is updates in
    record { changed = u.changed; others = u.others }

pub reserved-vacant : {A : Type 0} (old mid : Slab A) (capacity key : ℕ) (slot : Option A)
    → mid ≡ record old { capacity = capacity } → get mid key ≡ slot → get old key ≡ slot
reserved-vacant {A} old mid capacity key slot is at = subst (λ (s : Slab A). get s key ≡ slot) is at

pub reserved-len : {A : Type 0} (old mid : Slab A) (capacity count : ℕ) → mid ≡ record old { capacity = capacity }
    → count ≡ slab_len mid + 1 → count ≡ slab_len old + 1
reserved-len {A} old mid capacity count is len = subst (λ (s : Slab A). count ≡ slab_len s + 1) is len

-- the looks of all links, with these for the link of a number
pub looks-more : (looks : List ℕ) (tags : List Tag) (number : ℕ) (before after more : List ℕ)
    → before ≡ looks ++ map (λ (tag : Tag). tag.count) tags → after ≡ before ++ more
    → after ≡ looks ++ map (λ (tag : Tag). tag.count) (tags ++ tagged number more)
looks-more looks tags number before after more is then_is =
    then_is ∙ ap (λ (l : List ℕ). l ++ more) is
    ∙ append_assoc looks (map (λ (tag : Tag). tag.count) tags) more
    ∙ ap (λ (l : List ℕ). looks ++ (map (λ (tag : Tag). tag.count) tags ++ l)) (sym (counts-tagged number more))
    ∙ ap (λ (l : List ℕ). looks ++ l) (sym (map-append (λ (tag : Tag). tag.count) tags (tagged number more)))

-- a link that came is out
pub coming-out : {L : Type 0} (link : L) (door door' : Option (Doorway L)) → door' ≡ after_coming (Came link) door
    → IfSome door' IsOutSome
coming-out {L} link None door' is = subst (λ (d : Option (Doorway L)). IfSome d IsOutSome) (sym is) tt
coming-out {L} link (Some doorway) door' is =
    let out : 0 < doorway.out + 1 = omega arith in
    subst (λ (d : Option (Doorway L)). IfSome d IsOutSome) (sym is) out

-- a door that gave no link is as it was
pub same-ready : {L : Type 0} (key : ℕ) (door : Option (Doorway L)) → after_coming (Ready key) door ≡ door
same-ready key None = refl
same-ready key (Some doorway) = refl

pub same-closed : {L : Type 0} (door : Option (Doorway L)) → after_coming Closed door ≡ door
same-closed None = refl
same-closed (Some doorway) = refl

-- a door that closed has no link left
pub closed-none : {L : Type 0} (door door' : Option (Doorway L)) → IfSome door (λ it. (it.left ≡ []) × (it.out ≡ 0))
    → door' ≡ after_coming Closed door → IfSome door' (λ it. it.left ≡ [])
closed-none {L} None door' next is = subst (λ (d : Option (Doorway L)). IfSome d (λ it. it.left ≡ [])) (sym is) tt
closed-none {L} (Some doorway) door' next is =
    subst (λ (d : Option (Doorway L)). IfSome d (λ it. it.left ≡ [])) (sym is) next.0

-- ---- the end

-- the count of failed calls, after this came next
pub faults-next : (failed : Bool) (next : Next) (before mid now : ℕ) → FaultsSo failed before mid
    → now ≡ faults_after next mid → FaultsSo (failed_by failed next) before now
faults-next true nexts.Turn before mid now so is = omega (arith, so, is)
faults-next true nexts.Closed before mid now so is = omega (arith, so, is)
faults-next true nexts.Failed before mid now so is = omega (arith, so, is)
faults-next false nexts.Turn before mid now so is = is ∙ so
faults-next false nexts.Closed before mid now so is = is ∙ so
faults-next false nexts.Failed before mid now so is = omega (arith, so, is)

-- where serving a door stops, no link is out
pub end-empty : (failed : Bool) (next : Next) (empty : Bool) (end : DoorEnd) → end_of failed next empty ≡ Some end
    → empty ≡ true
end-empty failed next true end is = refl
end-empty failed next false end is = absurd (none-some end is)

-- and it stops so
pub ends-so : {L : Type 0} (door door' : DoorShown L) (failed : Bool) (next : Next) (end : DoorEnd)
    → end_of failed next true ≡ Some end → FaultsSo failed door.faults door'.faults
    → (next ≡ nexts.Closed → IfSome door'.held (λ it. it.left ≡ [])) → EndsDoor door door' end
ends-so door door' true next end is so closed =
    subst (EndsDoor door door') (same_Some door_ends.DoorFault end is) so
ends-so door door' false nexts.Turn end is so closed = absurd (none-some end is)
ends-so door door' false nexts.Failed end is so closed = absurd (none-some end is)
ends-so door door' false nexts.Closed end is so closed =
    subst (EndsDoor door door') (same_Some door_ends.Closed end is) (so, closed refl)

-- what came next follows over the collections of the beginning
pub at-next : {L : Type 0} {shown : L → LinkShown} {them first : Collections}
    {door door' door'' : Option (Doorway L)} {views views' views'' : Views} {hall hall' : Hall L} → them ≡ first
    → (AtDoor shown them door door' views views' hall → AtDoor shown them door door'' views views'' hall')
    → AtDoor shown first door door' views views' hall → AtDoor shown first door door'' views views'' hall'
at-next {shown = shown} {door = door} {door' = door'} {door'' = door''} {views = views} {views' = views'}
    {views'' = views''} {hall = hall} {hall' = hall'} same step at =
    subst (λ (them : Collections). AtDoor shown them door door'' views views'' hall') same
    (step (subst (λ (them : Collections). AtDoor shown them door door' views views' hall) (sym same) at))

module _ {L : Type 0} {shown : L → LinkShown} {them : Collections} where
  -- ---- what holds of all of them

  -- each link that is held may go on
  pub at-ready : {door door' : Option (Doorway L)} {views views' : Views} {hall : Hall L}
      → AtDoor shown them door door' views views' hall → AreReady hall.links
  at-ready {views' = views'} at key connection is =
      let held = at.held key connection is in out-ready views'.seen held.own connection held.is_out

  -- and is out
  pub at-out : {door door' : Option (Doorway L)} {views views' : Views} {hall : Hall L} (key : ℕ)
      → AtDoor shown them door door' views views' hall → ContainsKey hall.links key
      → IfSome door' IsOutSome
  at-out {door = door} {hall = hall} key at there =
      subst (λ (d : Option (Doorway L)). IfSome d IsOutSome) (sym at.door_is)
      (out-some (length at.came) (slab_len hall.links) at.turns door (len-some hall.links key there))

  -- no link came yet
  pub at-start : (door : Option (Doorway L)) (views : Views) (hall : Hall L) → hall.links.slots ≡ []
      → hall.served ≡ 0 → hall.short ≡ 0 → AtDoor shown them door door views views hall
  at-start door views hall none served short = record {
    came = [];
    turns = [];
    tags = λ collection. [];
    number_at = λ key. key;
    came_is = nothing door;
    unused = All-nil (λ (link : L). IsFresh (shown link));
    each = All-nil (IsTurn shown them [] (λ collection. []) views views);
    once = tt;
    held = λ key connection is. absurd (none-some connection
        (ap (λ (slots : List (Option (Connection L))). slice_index_or slots key None) (sym none) ∙ is));
    apart = λ key other there here differs. differs;
    all = omega (arith, ap (count_by is_some) none);
    below = λ collection. All-nil (λ (tag : Tag). tag.number < 0);
    looks_are = λ collection. sym (append-nil (views.looks collection));
    behind = behind-itself them views.seen;
    door_is = sym (ap (λ (n : ℕ). with_out n (after_turns 0 [] door)) (ap (count_by is_some) none)
        ∙ door-all 0 [] door ∙ untouched door);
    served_is = served;
    short_is = short;
  }
    where
      nothing : (d : Option (Doorway L)) → IfSome d (λ it. [] ≡ take 0 it.left)
      nothing None = tt
      nothing (Some doorway) = refl

      untouched : (d : Option (Doorway L)) → after_turns 0 [] d ≡ d
      untouched None = refl
      untouched (Some doorway) =
          ap (λ (l : List L). Some (record doorway { given = l })) (append-nil doorway.given)

  -- all were given back
  pub at-end : (door door' : Option (Doorway L)) (views views' : Views) (hall : Hall L) (served short : ℕ)
      → AtDoor shown them door door' views views' hall → slab_len hall.links ≡ 0
      → served ≡ hall.served → short ≡ hall.short
      → ServesEachMany shown them door door' views views' served short
  at-end door door' views views' hall served short at none served_is short_is = record {
    came = at.came;
    turns = at.turns;
    tags = at.tags;
    came_is = at.came_is;
    unused = at.unused;
    each = at.each;
    once = at.once;
    all = omega (arith, at.all, none);
    below = at.below;
    looks_are = at.looks_are;
    grows = λ collection. (at.behind collection).grows;
    door_is = at.door_is
        ∙ ap (λ (n : ℕ). with_out n (after_turns (length at.came) at.turns door)) none
        ∙ door-all (length at.came) at.turns door;
    served_is = served_is ∙ at.served_is;
    short_is = short_is ∙ at.short_is;
  }
