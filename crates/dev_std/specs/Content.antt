-- What a file that is read to its end is found to be, where its bytes are known.
use Rattle.std.specs.Prelude.{◌≡◌, ⊤, ◌<◌, ℕ, List, length}
use Rattle.dev_traits.specs.declared.files.Found.{Found}
use Rattle.dev_traits.specs.declared.files.Found.TheVariants.{Content, Absent, TooLong}

-- All these bytes were read, or there are more than the limit.
abbrev pub IsAllOf : List ℕ → ℕ → Found → Type 0
IsAllOf bytes limit (Content content) = content ≡ bytes
IsAllOf bytes limit Absent = ⊥
IsAllOf bytes limit (TooLong len) = limit < length bytes

-- A content that was found is all these bytes, and some file was found. A length is as the system says it.
abbrev pub IsFoundIn : List ℕ → Found → Type 0
IsFoundIn bytes (Content content) = content ≡ bytes
IsFoundIn bytes Absent = ⊥
IsFoundIn bytes (TooLong len) = ⊤
