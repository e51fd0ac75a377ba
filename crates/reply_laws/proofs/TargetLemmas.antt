-- The label of what is asked for is a word.
use Rattle.std.proofs.Common.{◌≡◌, ℕ, Bool, true, false, List, Ok, Err, inl, inr, refl, sym, subst, ◌∙◌}
use Rattle.nc_model.proofs.SoundLaws.{ok-fault_as}
use Rattle.fm_model.specs.declared.site.Site.{Site}
use Rattle.fm_model.specs.Site.{IsSite}
use Rattle.web_frame.specs.declared.request.Method.{Method as Verb}
use Rattle.web_frame.specs.declared.request.Method.TheVariants as methods
use Rattle.web_frame.specs.Items.{bad_head, head_too_long, request, Item}
use Rattle.web_path.specs.declared.target.Target.{Target}
use Rattle.web_path.specs.Target.{target_of}
use Rattle.web_path.proofs.TargetLemmas.{target-written}
use Rattle.dap_reply.specs.declared.fault.DapFault.TheVariants.{BadHead, BodyNotTaken, HeadTooLong, Method, Path}
use Rattle.dap_reply.specs.Reply.{target_wanted}
use Rattle.dap_reply.proofs.WellFormedLemmas.{body-second, method-first, path-third}
use Rattle.dap_client.specs.Message.{is_label_byte, IsWord}
use Rattle.reply_laws.proofs.LabelLemmas.{label-word}

read_label : (site : Site) (is : IsSite site) (text : List ℕ) (target : Target) → target_of site text ≡ Ok target
    → IsWord is_label_byte target.label
read_label site is text target read =
    let url = target-written site text target read in
    subst (IsWord is_label_byte) (sym url.label_is) (label-word site is url.spelling target.view url.written)

-- the label of a target that an item asks for
pub wanted_label : (site : Site) → IsSite site → (item : Item) (target : Target)
    → target_wanted site item ≡ Ok target → IsWord is_label_byte target.label
unfolding target_wanted
wanted_label site is (request said text) target wanted = by_verb said.method refl said.has_body refl
  where
    by_verb : (verb : Verb) → said.method ≡ verb → (body : Bool) → said.has_body ≡ body
        → IsWord is_label_byte target.label
    by_verb methods.Get get true has =
        let clash : Err BodyNotTaken ≡ Ok target = sym (body-second site said text (inl get) has) ∙ wanted in
        absurd (cc)
    by_verb methods.Get get false has = read_label site is text target
        (ok-fault_as Path (target_of site text) target (sym (path-third site said text (inl get) has) ∙ wanted))
    by_verb methods.Head head true has =
        let clash : Err BodyNotTaken ≡ Ok target = sym (body-second site said text (inr head) has) ∙ wanted in
        absurd (cc)
    by_verb methods.Head head false has = read_label site is text target
        (ok-fault_as Path (target_of site text) target (sym (path-third site said text (inr head) has) ∙ wanted))
    by_verb methods.Other other body has =
        absurd (let clash : Err Method ≡ Ok target = sym (method-first site said text other) ∙ wanted in cc)
wanted_label site is bad_head target wanted = absurd (let clash : Err BadHead ≡ Ok target = wanted in cc)
wanted_label site is head_too_long target wanted = absurd (let clash : Err HeadTooLong ≡ Ok target = wanted in cc)
