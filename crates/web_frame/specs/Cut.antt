-- Where the head of a request ends (RFC 9112, sections 2.1 and 2.2). A line ends in CR LF or in LF alone, empty lines
-- may stand before a head, and an empty line ends it.
use Rattle.std.specs.Prelude.{ℕ, suc, Bool, true, false, ◌&&◌, ◌||◌, ◌==◌, nat_lt, nat_le, if◌then◌else◌, List, [], ◌∷◌, length, Option, Some, None, option_map}
use Rattle.httparse.specs.Ascii.{line_feed, carriage_return}
use Rattle.web_frame.specs.Limit.{MAX_HEAD}

-- the bytes begin with LF
unfoldable pub begins_with_line_feed : List ℕ → Bool
begins_with_line_feed [] = false
begins_with_line_feed (b ∷ bytes) = b == line_feed

-- the bytes begin with an empty line, which is LF or CR LF
unfoldable pub begins_with_empty_line : List ℕ → Bool
begins_with_empty_line [] = false
begins_with_empty_line (b ∷ bytes) = b == line_feed || (b == carriage_return && begins_with_line_feed bytes)

-- the length of the empty line that they begin with
unfoldable pub empty_line_len : List ℕ → ℕ
empty_line_len bytes = if begins_with_line_feed bytes then 1 else 2

-- how many bytes there are up to the end of the first line that an empty line follows, with that empty line
unfoldable pub lines_len : List ℕ → Option ℕ
lines_len [] = None
lines_len (b ∷ bytes) = if b == line_feed && begins_with_empty_line bytes then Some (suc (empty_line_len bytes))
    else option_map suc (lines_len bytes)

-- how many bytes the first head has, with the empty lines before it and the one that ends it
unfoldable pub head_len : List ℕ → Option ℕ
head_len [] = None
head_len (b ∷ bytes) =
    if begins_with_empty_line (b ∷ bytes) then option_map suc (head_len bytes) else lines_len (b ∷ bytes)

-- the bytes after the empty lines at the front
unfoldable pub after_blank : List ℕ → List ℕ
after_blank [] = []
after_blank (b ∷ bytes) = if begins_with_empty_line (b ∷ bytes) then after_blank bytes else b ∷ bytes

-- what stands at the front of some bytes: no whole head yet, a head of this many bytes, or one that is too long
pub data Cut : Type 0 where
  none_yet : Cut
  whole : ℕ → Cut
  too_long : Cut

-- the cut, by where the first head ends and how many bytes there are
abbrev pub cut_at : Option ℕ → ℕ → Cut
cut_at (Some len) count = if nat_le len MAX_HEAD then whole len else too_long
cut_at None count = if nat_lt count MAX_HEAD then none_yet else too_long

-- what stands at the front of the bytes
unfoldable pub cut_of : List ℕ → Cut
cut_of bytes = cut_at (head_len bytes) (length bytes)
