-- A run of `pull` over a dialer, by what its links show.
use Rattle.std.proofs.Common.{◌≡◌, ◌∷◌, ℕ, List, [], false, Option, Some, None, option_map, IfSome, Result, Ok, Err, refl, ap, ◌∙◌, inl, inr}
use Rattle.std.proofs.lemmas.List.{map-append}
use Rattle.fm_base.specs.declared.fail.Fail.{Fail}
use Rattle.fm_base.specs.declared.fail.Fail.TheVariants as fails
use Rattle.dev_traits.specs.declared.faults.Failed.{Failed}
use Rattle.dev_traits.specs.Dial.{DialShown, Exchange, after_dial, after_return}
use Rattle.dev_traits.specs.Shown.{LinkShown, SinkShown}
use Rattle.dap_client.specs.declared.fault.PullEnd.{PullEnd}
use Rattle.dap_client.specs.declared.message.Message.{Message}
use Rattle.srv_alone.specs.declared.end.End.{End}
use Rattle.srv_pull.specs.Pull.{Dials, LacksLink, RunsPull, UsesLink}
use Rattle.srv_serve.specs.Stage.{exchange_shown, shown_by}

-- what a dialer holds
abbrev held_by : {L : Type 0} → (L → LinkShown) → Option (Exchange L) → Option (Exchange LinkShown)
held_by show held = option_map (exchange_shown show) held

-- after a dial that gave no link
failed-by : {L : Type 0} (show : L → LinkShown) (address : List ℕ) (fail : Fail Failed) (held : Option (Exchange L))
    → held_by show (after_dial address (Err fail) held) ≡ after_dial address (Err fail) (held_by show held)
failed-by show address fail None = refl
failed-by show address fails.NoMemory (Some exchange) = refl
failed-by show address (fails.Fault failed) (Some exchange) = refl

-- after a dial that gave this link
dialled-by : {L : Type 0} (show : L → LinkShown) (address : List ℕ) (link : L) (held : Option (Exchange L))
    → held_by show (after_dial {E = Failed} address (Ok link) held)
    ≡ after_dial {E = Failed} address (Ok (show link)) (held_by show held)
dialled-by show address link None = refl
dialled-by show address link (Some exchange) = refl

-- after this link was given back
returned-by : {L : Type 0} (show : L → LinkShown) (left : L) (held : Option (Exchange L))
    → held_by show (after_return left held) ≡ after_return (show left) (held_by show held)
returned-by show left None = refl
returned-by show left (Some exchange) =
    ap (λ (given : List LinkShown). Some (record (exchange_shown show exchange) { out = false; given = given }))
    (map-append show exchange.given (left ∷ []))

-- the link that a dialer gives
next-by : {L : Type 0} (show : L → LinkShown) (link : L) (held : Option (Exchange L))
    → IfSome held (λ exchange. exchange.link ≡ Some link)
    → IfSome (held_by show held) (λ exchange. exchange.link ≡ Some (show link))
next-by show link None next = next
next-by show link (Some exchange) next = ap (option_map show) next

lacks-by : {L : Type 0} (show : L → LinkShown) (address : List ℕ) (pulled : Result Message PullEnd)
    (dial dial' : DialShown L) → LacksLink address pulled dial dial'
    → LacksLink address pulled (shown_by show dial) (shown_by show dial')
lacks-by show address pulled dial dial' lacks = record {
  fail = lacks.fail;
  pulled_is = lacks.pulled_is;
  held = ap (held_by show) lacks.held ∙ failed-by show address lacks.fail dial.held;
  faults = lacks.faults;
}

uses-by : {L : Type 0} (show : L → LinkShown) (address target : List ℕ) (pulled : Result Message PullEnd)
    (dial dial' : DialShown L) → UsesLink show address target pulled dial dial'
    → UsesLink (λ (link : LinkShown). link) address target pulled (shown_by show dial) (shown_by show dial')
uses-by show address target pulled dial dial' uses = record {
  link = show uses.link;
  left = show uses.left;
  next = next-by show uses.link dial.held uses.next;
  fresh = uses.fresh;
  over = uses.over;
  held = ap (held_by show) uses.held
      ∙ returned-by show uses.left (after_dial {E = Failed} address (Ok uses.link) dial.held)
      ∙ ap (after_return (show uses.left)) (dialled-by show address uses.link dial.held);
  faults = uses.faults;
}

dials-by : {L : Type 0} (show : L → LinkShown) (address target : List ℕ) (pulled : Result Message PullEnd)
    (dial dial' : DialShown L) → Dials show address target pulled dial dial'
    → Dials (λ (link : LinkShown). link) address target pulled (shown_by show dial) (shown_by show dial')
dials-by show address target pulled dial dial' (inl lacks) = inl (lacks-by show address pulled dial dial' lacks)
dials-by show address target pulled dial dial' (inr uses) = inr (uses-by show address target pulled dial dial' uses)

-- a run, by what the links of its dialer show
pub pull-by : {L : Type 0} {show : L → LinkShown} {address target : List ℕ} {end : End} {dial dial' : DialShown L}
    {sink sink' : SinkShown} → RunsPull show address target end dial dial' sink sink'
    → RunsPull (λ (link : LinkShown). link) address target end (shown_by show dial) (shown_by show dial') sink sink'
pull-by {L} {show} {address} {target} {end} {dial} {dial'} {sink} {sink'} runs = record {
  pulled = runs.pulled;
  dials = dials-by show address target runs.pulled dial dial' runs.dials;
  says = runs.says;
}
