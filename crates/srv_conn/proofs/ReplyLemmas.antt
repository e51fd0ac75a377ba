-- The reply to a session's question.
use Rattle.std.proofs.Common.{◌≡◌, ℕ, ◌+◌, List, ◌++◌, length, Bool, false, refl, sym, ap, ap₂, ◌∙◌}
use Rattle.fm_model.specs.declared.loaded.Loaded.{Loaded}
use Rattle.fm_model.specs.declared.proto.Proto.{Proto}
use Rattle.fm_model.specs.declared.site.Site.{Site}
use Rattle.fm_model.specs.Collection.{coll}
use Rattle.web_frame.specs.Items.{item_of, Item}
use Rattle.web_frame.specs.Stream.{target_in, Held}
use Rattle.web_session.specs.declared.action.Asked.{Asked}
use Rattle.web_session.specs.declared.action.Asked.TheVariants as says
use Rattle.web_session.specs.declared.phase.Phase.{Phase}
use Rattle.web_session.specs.declared.phase.Phase.TheVariants.{Asking}
use Rattle.web_session.specs.Run.{item_asked}
use Rattle.web_session.specs.State.{ends_link, State}
use Rattle.dap_reply.specs.Order.{item_by}
use Rattle.dap_reply.specs.Parts.{bytes_of, Parts}
use Rattle.dap_reply.specs.Reply.{answer_to, has_head_alone, is_last, is_wanted, reply_of, reply_text}
use Rattle.srv_action.specs.declared.doing.Doing.TheVariants.{Replying}
use Rattle.srv_conn.specs.Begins.{looks_for, revision_for, IsReplyTo}
use Rattle.srv_conn.specs.Sight.{Sight}
use Rattle.srv_conn.proofs.GoingOn.{last-said}

-- the item by the target that a session says
item-said : (asked : Asked) (held : Held) (target : List ℕ) → target ≡ target_in (item_of held.head)
    → item_by asked target ≡ item_asked asked held
item-said (says.Head r) held target is = ap (λ (l : List ℕ). item_by (says.Head r) l) is
item-said says.BadHead held target is = refl
item-said says.HeadTooLong held target is = refl

last-in : (s : State) (asked : Asked) → s.phase ≡ Asking asked
    → ends_link s.phase s.before ≡ is_last (item_asked asked s.held) (s.before + 1)
unfolding ends_link
last-in s asked phase = ap (λ (p : Phase). ends_link p s.before) phase ∙ sym (last-said asked s.held s.before)

pub reply-begun : {revision seen : ℕ} {bytes : List ℕ} (proto : Proto) (files : List Loaded) (s : State) (asked : Asked)
    (target : List ℕ) (last : Bool) → s.phase ≡ Asking asked → target ≡ target_in (item_of s.held.head)
    → last ≡ ends_link s.phase s.before
    → bytes ≡ reply_text (answer_to proto files (item_by asked target)) revision
    (has_head_alone (item_by asked target)) last → revision ≡ seen
    → bytes ≡ reply_of proto files seen (item_asked asked s.held) (s.before + 1)
unfolding reply_of
reply-begun {revision} {seen} {bytes} proto files s asked target last phase target_is last_is reply is =
    reply
    ∙ ap (λ (item : Item). reply_text (answer_to proto files item) revision (has_head_alone item) last)
    (item-said asked s.held target target_is)
    ∙ ap₂ (λ (n : ℕ) (end : Bool). reply_text (answer_to proto files (item_asked asked s.held)) n
    (has_head_alone (item_asked asked s.held)) end) is (last_is ∙ last-in s asked phase)

-- a reply that was begun to what a session asks
pub reply-to : (proto proto' : Proto) (site : Site) (s : State) (asked : Asked) (target : List ℕ) (last : Bool)
    (plan : Parts) (revision before : ℕ) (sight sight' : Sight) → proto' ≡ proto → site ≡ proto.site
    → s.phase ≡ Asking asked → target ≡ target_in (item_of s.held.head) → last ≡ ends_link s.phase s.before
    → bytes_of plan ≡ reply_text (answer_to proto' (coll sight'.seen) (item_by asked target)) revision
    (has_head_alone (item_by asked target)) last
    → revision ≡ revision_for (is_wanted site (item_by asked target)) (length sight'.seen) before
    → sight'.looks ≡ sight.looks ++ looks_for (is_wanted site (item_by asked target)) (length sight'.seen)
    → (is_wanted site (item_by asked target) ≡ false → sight'.seen ≡ sight.seen)
    → IsReplyTo proto (item_asked asked s.held) before s s (Replying plan 0) sight sight' revision
reply-to proto proto' site s asked target last plan revision before sight sight' same site_is phase target_is last_is
    reply revision_is looks unwanted = record {
      plan = plan;
      doing_is = refl;
      bytes_are = reply-begun proto' (coll sight'.seen) s asked target last phase target_is last_is reply refl
          ∙ ap (λ (p : Proto). reply_of p (coll sight'.seen) revision (item_asked asked s.held) (s.before + 1)) same;
      revision_is = revision_is ∙ ap (λ (b : Bool). revision_for b (length sight'.seen) before) wanted;
      looks_are = looks ∙ ap (λ (b : Bool). sight.looks ++ looks_for b (length sight'.seen)) wanted;
      unwanted = λ no. unwanted (wanted ∙ no);
      session_is = refl;
    }
  where
    wanted : is_wanted site (item_by asked target) ≡ is_wanted proto.site (item_asked asked s.held)
    wanted = ap₂ is_wanted site_is (item-said asked s.held target target_is)
