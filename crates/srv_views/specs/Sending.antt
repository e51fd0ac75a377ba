-- How a command that sends bytes over the link ends.
use Rattle.std.specs.Prelude.{◌≡◌, ◌≤◌, ℕ, List, length, take, Result, Ok, Err}
use Rattle.dev_traits.specs.Cause.{one_more}
use Rattle.dev_traits.specs.Link.{after_put}
use Rattle.dev_traits.specs.Shown.{LinkShown}
use Rattle.srv_alone.specs.declared.end.End.{End}
use Rattle.srv_alone.specs.declared.end.End.TheVariants.{Done, Refused, NoMemory, LinkFault}

-- All the bytes were sent, and no call of the link failed. None was taken.
pub record SendsAll (bytes : List ℕ) (link link' : LinkShown) : Type 0 where
  pub put : link'.held ≡ after_put bytes link.held
  pub faults : link'.faults ≡ link.faults

-- The first n bytes were sent, and then one call of the link failed. None was taken.
pub record SendsFront (bytes : List ℕ) (link link' : LinkShown) : Type 0 where
  pub count : ℕ
  pub within : count ≤ length bytes
  pub put : link'.held ≡ after_put (take count bytes) link.held
  pub faults : link'.faults ≡ one_more link.faults

-- What is defined was sent, all of it or a front; or it is refused by its number, or memory ran out before the first
-- byte.
abbrev pub Delivers : End → Result (List ℕ) ℕ → LinkShown → LinkShown → Type 0
Delivers Done (Ok bytes) link link' = SendsAll bytes link link'
Delivers LinkFault (Ok bytes) link link' = SendsFront bytes link link'
Delivers (Refused found) (Err code) link link' = (found ≡ code) × (link' ≡ link)
Delivers NoMemory defined link link' = link' ≡ link
Delivers end defined link link' = ⊥
