-- A door that is served over several collections, where there is but one.
use Rattle.std.proofs.Common.{◌≡◌, ℕ, zero, suc, All, Bool, List, [], ◌∷◌, map, Option, Some, None, MatchOption, refl, ap, subst, ◌∙◌, arith}
use Rattle.std.proofs.lemmas.List.Elements.{All-weaker}
use Rattle.fm_model.specs.declared.op.Op.{Op}
use Rattle.fm_model.specs.declared.proto.Proto.{Proto}
use Rattle.dev_traits.specs.Shown.{LinkShown}
use Rattle.dev_traits.specs.Door.{Doorway}
use Rattle.pub_look.specs.History.{Continues}
use Rattle.web_session.specs.declared.action.End.{End}
use Rattle.web_session.specs.State.{fresh}
use Rattle.dap_reply.specs.declared.served.Stop.TheVariants.{Ended}
use Rattle.dap_reply.specs.Collections.{alone, only, Views}
use Rattle.srv_door.specs.DoorOfOne.{IsTurnOfOne, ServesEachLink, ServesLink}
use Rattle.srv_door.specs.DoorTurns.{looks_of, IsLeftAlone, IsServed, IsTurn, ServesEach, ServesEachMany, Tag, Turn}
use Rattle.srv_conn.specs.Out.{came_at, first_looks, MOST_REPLIES}
use Rattle.srv_conn.specs.ServesMany.{point_of, ServesMany}
use Rattle.srv_conn.specs.Sight.{sight_in, views_of, Sight}
use Rattle.srv_conn.proofs.AloneLemmas.{serves-alone}
use Rattle.srv_conn.proofs.GlanceLemmas.{first-past}

-- ---- of a collection that isn't there nothing is seen

begins-nothing : (ops : List Op) → Continues ops [] → ops ≡ []
begins-nothing [] begins = refl
begins-nothing (op ∷ ops) (more, same) = absurd (cc same)

no-tags : (tags : List Tag) → [] ≡ map (λ tag. tag.count) tags → tags ≡ []
no-tags [] none = refl
no-tags (tag ∷ tags) none = absurd (cc none)

-- so all that is seen is seen of the first
views-of-one : (views : Views) → ((number : ℕ) → views.seen (suc number) ≡ [])
    → ((number : ℕ) → views.looks (suc number) ≡ []) → views ≡ views_of (sight_in views 0)
views-of-one views none none' = λ i. record { seen = λ n. seen n i; looks = λ n. looks n i }
  where
    seen : (number : ℕ) → views.seen number ≡ only (views.seen 0) number
    seen zero = refl
    seen (suc number) = none number

    looks : (number : ℕ) → views.looks number ≡ only (views.looks 0) number
    looks zero = refl
    looks (suc number) = none' number

-- ---- a turn

module _ {L : Type 0} (shown : L → LinkShown) (proto : Proto) (still : Bool) (turn : Turn L)
    (seen_none : (number : ℕ) → turn.seen_after (suc number) ≡ [])
    (looks_none : (number : ℕ) → turn.looks (suc number) ≡ []) where
  link-served : (end : End) → IsServed shown (alone proto still) turn end → ServesLink shown proto still turn end
  link-served end s = record {
    session = s.session;
    trail = s.trail;
    serves = serves-alone (
        subst (λ (views : Views). ServesMany (alone proto still) (point_of (shown turn.came) views fresh [])
        (point_of (shown turn.left) (views_of (record { seen = turn.seen_after 0; looks = turn.looks 0 })) s.session
        s.trail) MOST_REPLIES (Ended end))
        (views-of-one (record { seen = turn.seen; looks = first_looks 1 turn.seen }) seen_first
        (λ number. first-past 1 turn.seen (suc number) (omega arith)))
        (subst (λ (views : Views). ServesMany (alone proto still)
        (came_at shown (alone proto still) turn.came turn.seen)
        (point_of (shown turn.left) views s.session s.trail) MOST_REPLIES (Ended end))
        (views-of-one (record { seen = turn.seen_after; looks = turn.looks }) seen_none looks_none) s.serves));
  }
    where
      seen_first : (number : ℕ) → turn.seen (suc number) ≡ []
      seen_first number = begins-nothing (turn.seen (suc number))
          (subst (λ (ops : List Op). Continues (turn.seen (suc number)) ops) (seen_none number)
          ((s.serves.served.sees.each (suc number)).grows))

  link-ended : (end : Option End) → MatchOption end (IsLeftAlone turn) (IsServed shown (alone proto still) turn)
      → MatchOption end (turn.left ≡ turn.came) (ServesLink shown proto still turn)
  link-ended None alone = alone.link
  link-ended (Some end) served = link-served end served

-- ---- a door

module _ {L : Type 0} (shown : L → LinkShown) (proto : Proto) (still : Bool) (came : List L) (tags : ℕ → List Tag)
    (sight sight' : Sight) (none : (number : ℕ) → tags (suc number) ≡ []) where
  turn-of-one : (turn : Turn L) → IsTurn shown (alone proto still) came tags (views_of sight) (views_of sight') turn
      → IsTurnOfOne shown proto still came (tags 0) sight sight' turn
  turn-of-one turn is = record {
    came_is = is.came_is;
    looks_are = is.looks_are 0;
    from = is.from 0;
    to = is.to 0;
    served = link-ended shown proto still turn
        (λ number. begins-nothing (turn.seen_after (suc number)) (is.to (suc number)))
        (λ number. is.looks_are (suc number) ∙ ap (λ (l : List Tag). looks_of turn.number l) (none number))
        turn.end is.served;
  }

each-link : {L : Type 0} (shown : L → LinkShown) (proto : Proto) (still : Bool) (door door' : Option (Doorway L))
    (sight sight' : Sight) (served short : ℕ)
    → ServesEachMany shown (alone proto still) door door' (views_of sight) (views_of sight') served short
    → ServesEachLink shown proto still door door' sight sight'
each-link shown proto still door door' sight sight' served short s = record {
  came = s.came;
  turns = s.turns;
  tags = s.tags 0;
  each = All-weaker (IsTurn shown (alone proto still) s.came s.tags (views_of sight) (views_of sight'))
      (IsTurnOfOne shown proto still s.came (s.tags 0) sight sight')
      (turn-of-one shown proto still s.came s.tags sight sight'
      (λ number. no-tags (s.tags (suc number)) (s.looks_are (suc number)))) s.turns s.each;
  once = s.once;
  all = s.all;
  door_is = s.door_is;
  looks_are = s.looks_are 0;
}

pub door-of-one : {L : Type 0} (shown : L → LinkShown) (proto : Proto) (still : Bool) (door door' : Option (Doorway L))
    (sight sight' : Sight) (served short : ℕ) → ServesEach shown proto still door door' sight sight' served short
    → ServesEachLink shown proto still door door' sight sight'
unfolding ServesEach
door-of-one shown proto still door door' sight sight' served short s =
    each-link shown proto still door door' sight sight' served short s
