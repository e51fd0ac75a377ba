-- The reply to an item of a connection (RFC 9112; RFC 9110), over the collection that some operations left.
use Rattle.std.specs.Prelude.{ℕ, ◌==◌, List, [], ◌++◌, length, Bool, true, false, ◌||◌, if◌then◌else◌, Result, Ok, Err, is_ok}
use Rattle.fm_base.specs.Chain.{◌>>=◌, fault_as}
use Rattle.fm_model.specs.declared.loaded.Loaded.{Loaded}
use Rattle.fm_model.specs.declared.proto.Proto.{Proto}
use Rattle.fm_model.specs.declared.site.Site.{Site}
use Rattle.web_frame.specs.declared.request.Method.TheVariants as methods
use Rattle.web_frame.specs.declared.request.Method.{Method as Verb}
use Rattle.web_frame.specs.declared.request.Request.{Request}
use Rattle.web_frame.specs.Items.{Item, request, bad_head, head_too_long}
use Rattle.web_path.specs.declared.target.Target.{Target}
use Rattle.web_path.specs.Target.{target_of}
use Rattle.web_session.specs.State.{MAX_REPLIES}
use Rattle.dap_reply.specs.declared.fault.DapFault.{DapFault}
use Rattle.dap_reply.specs.declared.fault.DapFault.TheVariants.{Path, Method, BodyNotTaken, BadHead, HeadTooLong}
use Rattle.dap_reply.specs.declared.body.Answer.{Answer}
use Rattle.dap_reply.specs.declared.body.Body.{Body}
use Rattle.dap_reply.specs.declared.body.BodyKind.TheVariants.{Error}
use Rattle.dap_reply.specs.declared.head.Head.{Head}
use Rattle.dap_reply.specs.declared.status.Status.TheVariants.{Fine}
use Rattle.dap_reply.specs.Body.{body_of, text_body}
use Rattle.dap_reply.specs.Fault.{error_text, fault_status}
use Rattle.dap_reply.specs.Head.{head_text}
use Rattle.dap_plan.specs.Parts.{bytes_of, ready, Parts}

-- what a request asks for, or the first fault that no collection has to be looked at for
unfoldable pub target_asked : Site → Request → List ℕ → Result Target DapFault
target_asked site r target = by_method r.method
  where
    by_body : Bool → Result Target DapFault
    by_body true = Err BodyNotTaken
    by_body false = fault_as Path (target_of site target)

    by_method : Verb → Result Target DapFault
    by_method methods.Get = by_body r.has_body
    by_method methods.Head = by_body r.has_body
    by_method methods.Other = Err Method

-- the same of an item
unfoldable pub target_wanted : Site → Item → Result Target DapFault
target_wanted site (request r target) = target_asked site r target
target_wanted site bad_head = Err BadHead
target_wanted site head_too_long = Err HeadTooLong

-- whether a collection has to be looked at for an item
abbrev pub is_wanted : Site → Item → Bool
is_wanted site item = is_ok (target_wanted site item)

-- whether a reply has its head alone
abbrev pub has_head_alone : Item → Bool
has_head_alone (request r target) = is_head_method r.method
  where
    is_head_method : Verb → Bool
    is_head_method methods.Head = true
    is_head_method verb = false
has_head_alone bad_head = false
has_head_alone head_too_long = false

-- whether a reply is a connection's last, by its number from 1
unfoldable pub is_last : Item → ℕ → Bool
is_last (request r target) number = r.close || r.has_body || (number == MAX_REPLIES)
is_last bad_head number = true
is_last head_too_long number = true

-- what is answered to a fault, and to what was asked
unfoldable pub refusal_of : DapFault → Answer
refusal_of fault = record { status = fault_status fault; body = text_body Error (error_text fault) }

abbrev pub fine_with : Body → Answer
fine_with body = record { status = Fine; body = body }

abbrev pub answered : Result Body DapFault → Answer
answered (Ok body) = fine_with body
answered (Err fault) = refusal_of fault

-- what is answered to an item over a collection
unfoldable pub answer_to : Proto → List Loaded → Item → Answer
answer_to proto files item = answered (do
  target ← target_wanted proto.site item
  body_of proto files target)

-- the head of a reply with an answer, of a collection that `revision` operations left
abbrev pub answer_head : Answer → ℕ → Bool → Head
answer_head answer revision last = record {
  status = answer.status;
  kind = answer.body.kind;
  len = length (bytes_of answer.body.bytes);
  revision = revision;
  last = last;
}

-- a reply: its head, and its body but to HEAD
unfoldable pub reply_text : Answer → ℕ → Bool → Bool → List ℕ
reply_text answer revision head_alone last =
    head_text (answer_head answer revision last) ++ (if head_alone then [] else bytes_of answer.body.bytes)

-- a head, and a body in parts behind it but to HEAD
unfoldable pub headed : List ℕ → Parts → Bool → Parts
headed text body true = ready text
headed text body false = record { front = text ++ body.front; source = body.source; sent = body.sent }

-- a reply with the data left in its dataset
unfoldable pub reply_parts : Answer → ℕ → Bool → Bool → Parts
reply_parts answer revision head_alone last =
    headed (head_text (answer_head answer revision last)) answer.body.bytes head_alone

-- the reply to an item, by its number in its connection from 1, over the collection that `revision` operations left
unfoldable pub reply_of : Proto → List Loaded → ℕ → Item → ℕ → List ℕ
reply_of proto files revision item number =
    reply_text (answer_to proto files item) revision (has_head_alone item) (is_last item number)
