-- Lists with room that was made beforehand.
use Rattle.std.specs.Prelude.{◌≡◌, ℕ, ◌-◌, List, ◌++◌, length}

-- the items, and how many more there is room for
pub record Slotted (T : Type 0) : Type 0 where
  pub items : List T
  pub free : ℕ

-- items were put behind others, in room that was there
pub record PutsItems {T : Type 0} (items : List T) (before after : Slotted T) : Type 0 where
  pub items_are : after.items ≡ before.items ++ items
  pub free_is : after.free ≡ before.free - length items
