-- A reply in parts, and the reply to HEAD.
use Rattle.std.proofs.Common.{◌≡◌, ◌≢◌, ℕ, List, [], ◌++◌, Bool, true, false, if◌then◌else◌, refl, ap, ◌∙◌}
use Rattle.std.proofs.lemmas.List.{append_assoc, append-nil}
use Rattle.fm_model.specs.declared.loaded.Loaded.{Loaded}
use Rattle.fm_model.specs.declared.proto.Proto.{Proto}
use Rattle.web_frame.specs.declared.request.Method.TheVariants as methods
use Rattle.web_frame.specs.declared.request.Method.{Method as Verb}
use Rattle.web_frame.specs.declared.request.Request.{Request}
use Rattle.web_frame.specs.Items.{request, Item}
use Rattle.dap_reply.specs.declared.body.Answer.{Answer}
use Rattle.dap_reply.specs.Head.{head_text}
use Rattle.dap_plan.specs.Parts.{bytes_of, data_behind}
use Rattle.dap_reply.specs.Reply.{answer_to, has_head_alone, answer_head, headed, is_last, reply_of, reply_parts, reply_text}

pub parts-bytes : (answer : Answer) (revision : ℕ) (head_alone last : Bool)
    → bytes_of (reply_parts answer revision head_alone last) ≡ reply_text answer revision head_alone last
unfolding reply_parts headed reply_text bytes_of data_behind
parts-bytes answer revision true last = refl
parts-bytes answer revision false last =
    append_assoc (head_text (answer_head answer revision last)) answer.body.bytes.front
    (data_behind answer.body.bytes.source answer.body.bytes.sent)

pub ruleset parts = (parts-bytes)

-- ---- the reply to HEAD

alone : (said : Request) (text : List ℕ) → said.method ≡ methods.Head → has_head_alone (request said text) ≡ true
alone said text method = rw method refl

not-alone : (said : Request) (text : List ℕ) → said.method ≢ methods.Head → has_head_alone (request said text) ≡ false
not-alone said text other = by_method said.method refl
  where
    by_method : (method : Verb) → said.method ≡ method → has_head_alone (request said text) ≡ false
    by_method methods.Get same = rw same refl
    by_method methods.Head same = absurd (other same)
    by_method methods.Other same = rw same refl

pub head-reply : (proto : Proto) (files : List Loaded) (said : Request) (text : List ℕ) (revision number : ℕ)
    → said.method ≡ methods.Head → reply_of proto files revision (request said text) number
    ≡ head_text (answer_head (answer_to proto files (request said text)) revision (is_last (request said text) number))
unfolding reply_of reply_text
head-reply proto files said text revision number method =
    let item : Item = request said text in
    let answer : Answer = answer_to proto files item in
    ap (λ (a : Bool). head_text (answer_head answer revision (is_last item number))
    ++ (if a then [] else bytes_of answer.body.bytes)) (alone said text method)
    ∙ append-nil (head_text (answer_head answer revision (is_last item number)))

pub other-reply : (proto : Proto) (files : List Loaded) (said : Request) (text : List ℕ) (revision number : ℕ)
    → said.method ≢ methods.Head → reply_of proto files revision (request said text) number
    ≡ head_text (answer_head (answer_to proto files (request said text)) revision (is_last (request said text) number))
    ++ bytes_of (answer_to proto files (request said text)).body.bytes
unfolding reply_of reply_text
other-reply proto files said text revision number other =
    let item : Item = request said text in
    let answer : Answer = answer_to proto files item in
    ap (λ (a : Bool). head_text (answer_head answer revision (is_last item number))
    ++ (if a then [] else bytes_of answer.body.bytes)) (not-alone said text other)

pub ruleset heads = (head-reply, other-reply)
