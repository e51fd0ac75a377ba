-- The bytes that moved over a link.
use Rattle.std.specs.Prelude.{◌≡◌, ℕ, List, [], ◌++◌, length, take, drop, Option, Some, None, IfSome}
use Rattle.dev_traits.specs.Link.{Wire}

-- a link after these bytes were taken from it, and these were written to it
abbrev pub moved : List ℕ → List ℕ → Option Wire → Option Wire
moved taken written None = None
moved taken written (Some wire) = Some (record {
  taken = wire.taken ++ taken;
  left = drop (length taken) wire.left;
  put = wire.put ++ written;
})

-- these are the next bytes of a link, where it says what it holds
abbrev pub AreNext : List ℕ → Option Wire → Type 0
AreNext taken held = IfSome held (λ wire. take (length taken) wire.left ≡ taken)

-- nothing is left of a link's input, where it says what it holds
abbrev pub IsOver : Option Wire → Type 0
IsOver held = IfSome held (λ wire. wire.left ≡ [])
