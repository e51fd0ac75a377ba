-- The heads of a stream of bytes, one after the other.
use Rattle.std.specs.Prelude.{ℕ, zero, suc, if◌then◌else◌, ◌≡◌, List, [], ◌∷◌, ◌++◌, length, take, drop}
use Rattle.web_frame.specs.declared.request.Request.{Request}
use Rattle.web_frame.specs.Cut.{cut_of, Cut, none_yet, whole, too_long}
use Rattle.web_frame.specs.Head.{head_of, is_head}
use Rattle.web_frame.specs.Said.{request_of}

-- an item of a stream: a head with its target, bytes that end as a head does and aren't one, or a head that is too
-- long
pub data Item : Type 0 where
  request : Request → List ℕ → Item
  bad_head : Item
  head_too_long : Item

-- the item that the bytes of one head are
unfoldable pub item_of : List ℕ → Item
item_of bytes = if is_head bytes then request (request_of (head_of bytes)) (head_of bytes).target else bad_head

-- the items of some bytes, and the bytes after the last item
pub record Heads : Type 0 where
  pub items : List Item
  pub rest : List ℕ

-- one item more, before the others; nothing is read after a bad head
abbrev pub item_before : Item → List ℕ → Heads → Heads
item_before (request r target) rest heads = record { items = request r target ∷ heads.items; rest = heads.rest }
item_before bad_head rest heads = record { items = bad_head ∷ []; rest = rest }
item_before head_too_long rest heads = record { items = head_too_long ∷ []; rest = rest }

-- the heads of some bytes, by what stands at their front and the heads of what follows it
abbrev pub heads_by : Cut → List ℕ → (ℕ → Heads) → Heads
heads_by none_yet bytes after = record { items = []; rest = bytes }
heads_by (whole len) bytes after = item_before (item_of (take len bytes)) (drop len bytes) (after len)
heads_by too_long bytes after = record { items = head_too_long ∷ []; rest = bytes }

-- at most n heads
unfoldable pub heads_within : ℕ → List ℕ → Heads
heads_within zero bytes = record { items = []; rest = bytes }
heads_within (suc n) bytes = heads_by (cut_of bytes) bytes (λ len. heads_within n (drop len bytes))

-- the heads of some bytes: each head has a byte, so there are at most as many
unfoldable pub heads_of : List ℕ → Heads
heads_of bytes = heads_within (length bytes) bytes

-- some items, before the heads of what follows
abbrev pub items_before : List Item → Heads → Heads
items_before items heads = record { items = items ++ heads.items; rest = heads.rest }

-- the bytes after the head at their front, where one is whole
abbrev pub past_cut : Cut → List ℕ → List ℕ
past_cut none_yet bytes = bytes
past_cut (whole len) bytes = drop len bytes
past_cut too_long bytes = bytes

-- the bytes after the first n heads
unfoldable pub bytes_after : ℕ → List ℕ → List ℕ
bytes_after zero bytes = bytes
bytes_after (suc n) bytes = past_cut (cut_of (bytes_after n bytes)) (bytes_after n bytes)

-- once these items of the bytes are read, these bytes are left to read, whatever follows
pub record ReadsTo (bytes : List ℕ) (items : List Item) (left : List ℕ) : Type 0 where
  pub reads : (more : List ℕ) → heads_of (bytes ++ more) ≡ items_before items (heads_of (left ++ more))

-- some items are the first of others
abbrev pub AreFirst : List Item → List Item → Type 0
AreFirst items all = take (length items) all ≡ items
