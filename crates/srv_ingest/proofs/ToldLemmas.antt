-- Lines that devices were told.
use Rattle.std.proofs.Common.{◌≡◌, ℕ, List, [], ◌∷◌, Option, Some, None, IfSome, refl, subst}
use Rattle.dev_traits.specs.Clock.{clock_lines, Moments, with_clock_lines}
use Rattle.dev_traits.specs.Inbox.{inbox_lines, InboxShown, Post, with_lines}
use Rattle.dev_traits.specs.Lines.{Notes, Tells, Told}
use Rattle.dev_traits.proofs.TellLemmas.{Tells-none, Tells-one}
use Rattle.srv_ingest.specs.Telling.{TellsClock, TellsInbox}

-- an inbox with its own lines
with-own : (held : Option Post) → held ≡ with_lines (inbox_lines held) held
with-own None = refl
with-own (Some post) = refl

-- a clock with its own lines
with-own-clock : (clock : Option Moments) → clock ≡ with_clock_lines (clock_lines clock) clock
with-own-clock None = refl
with-own-clock (Some moments) = refl

-- an inbox was told a line
pub TellsInbox-one : (line : List ℕ) (inbox inbox' : InboxShown)
    → inbox'.held ≡ with_lines (inbox_lines inbox'.held) inbox.held
    → Notes line (inbox_lines inbox.held) (inbox_lines inbox'.held) → inbox'.faults ≡ inbox.faults
    → TellsInbox (line ∷ []) inbox inbox'
TellsInbox-one line inbox inbox' same noted faults = record {
  told = inbox_lines inbox'.held;
  tells = Tells-one line (inbox_lines inbox.held) (inbox_lines inbox'.held) noted;
  held_is = same;
  faults_are = faults;
}

-- an inbox was told nothing
pub TellsInbox-none : (inbox : InboxShown) → TellsInbox [] inbox inbox
TellsInbox-none inbox = record {
  told = inbox_lines inbox.held;
  tells = Tells-none (inbox_lines inbox.held);
  held_is = with-own inbox.held;
  faults_are = refl;
}

-- a clock was told a line
pub TellsClock-one : (line : List ℕ) (clock clock' : Option Moments)
    → clock' ≡ with_clock_lines (clock_lines clock') clock → Notes line (clock_lines clock) (clock_lines clock')
    → TellsClock (line ∷ []) clock clock'
TellsClock-one line clock clock' same noted = record {
  told = clock_lines clock';
  tells = Tells-one line (clock_lines clock) (clock_lines clock') noted;
  clock_is = same;
}

-- a clock was told nothing
pub TellsClock-none : (clock : Option Moments) → TellsClock [] clock clock
TellsClock-none clock = record {
  told = clock_lines clock;
  tells = Tells-none (clock_lines clock);
  clock_is = with-own-clock clock;
}

-- the lines that were told, for an inbox that was as another one
pub told-by : (P : Post → List (List ℕ)) (held held' : Option Post) (lines : List (List ℕ)) (told : Told)
    → held' ≡ held → Tells lines (inbox_lines held') told → IfSome held (λ post. lines ≡ P post)
    → IfSome held (λ post. Tells (P post) post.lines told)
told-by P None held' lines told same tells is = tt
told-by P (Some post) held' lines told same tells is =
    subst (λ (l : List (List ℕ)). Tells l post.lines told) is
    (subst (λ (h : Option Post). Tells lines (inbox_lines h) told) same tells)

pub ruleset told = (TellsInbox-one, TellsInbox-none, TellsClock-one, TellsClock-none)
