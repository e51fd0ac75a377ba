-- What an operation leaves of some pages, step by step.
use Rattle.std.specs.Prelude.{◌≡◌, ◌≢◌, ◌<◌, ◌≤◌, ℕ, ℤ, List, false, get_or, if◌then◌else◌, length}
use Rattle.std.specs.BTreeMap.{BTreeMap, get}
use Rattle.std.specs.List.{AllWithin}
use Rattle.std.specs.Ordering.{int_cmp, int_eq}
use Rattle.fm_model.specs.declared.loaded.Loaded.{Loaded}
use Rattle.fm_model.specs.declared.op.Op.{Op}
use Rattle.fm_list.specs.declared.by.By.{By}
use Rattle.fm_list.specs.Change.{HasGone}
use Rattle.fm_edition.specs.Indexes.{in_page, or_none, page_of, page_set, touches, AreOrdered, Pages}

-- what an operation takes out of the files by each instant is among those that went
abbrev pub HaveGone : List Loaded → Op → Pages → Type 0
HaveGone went op pages = (number key : ℤ) → HasGone went op (or_none (in_page pages number key))

-- one page has this number, and the others are as before
pub record HasPage (number : ℤ) (page : BTreeMap ℤ (List Loaded)) (pages next : Pages) : Type 0 where
  pub ordered : AreOrdered next
  pub set : (other key : ℤ) → in_page next other key
      ≡ if int_eq number other then get int_cmp page key else in_page pages other key
  pub others : (other : ℤ) → int_eq number other ≡ false → get int_cmp next other ≡ get int_cmp pages other

-- from an index up to another the touched instants are of the page of a number, and that at the other one isn't
pub record IsPageEnd (touched : List ℤ) (from : ℕ) (number : ℤ) (end : ℕ) : Type 0 where
  pub some : from < end
  pub within : end ≤ length touched
  pub own : AllWithin (λ key. page_of key ≡ number) touched from end
  pub other : end < length touched → page_of (get_or touched end number) ≢ number

-- an operation is done to some instants, and the pages of no others are changed
pub record AreDone (by : By) (touched : List ℤ) (op : Op) (pages next : Pages) : Type 0 where
  pub ordered : AreOrdered next
  pub set : (number key : ℤ) → in_page next number key ≡ page_set by touched op (in_page pages) number key
  pub same : (number : ℤ) → touches touched number ≡ false → get int_cmp next number ≡ get int_cmp pages number
