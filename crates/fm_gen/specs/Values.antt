-- The values of a made file.
use Rattle.std.specs.Prelude.{ℕ, zero, suc, ◌+◌, ◌*◌, ◌/◌, ◌%◌, ◌^◌, List, [], ◌++◌}
use Rattle.fm_gen.specs.Fields.{word}

-- the number after a number of the sequence
unfoldable pub next : ℕ → ℕ
next x = (1664525 * x + 1013904223) % 2 ^ 32

-- the n-th number after a number of the sequence
unfoldable pub number_after : ℕ → ℕ → ℕ
number_after x zero = x
number_after x (suc n) = next (number_after x n)

-- the first number of the sequence of file k
unfoldable pub first_number : ℕ → ℕ → ℕ
first_number seed k = (seed + k) % 2 ^ 32

-- the i-th number of the sequence of file k
abbrev pub number_at : ℕ → ℕ → ℕ → ℕ
number_at seed k i = number_after (first_number seed k) i

-- the bits of the value that a number of the sequence gives
unfoldable pub bits_of : ℕ → ℕ
bits_of x = 0x3f800000 + x / 512

-- the first n values after a number of the sequence, and with it
unfoldable pub values_text : ℕ → ℕ → List ℕ
values_text x zero = []
values_text x (suc n) = values_text x n ++ word (bits_of (number_after x n))

-- time j of file k, in seconds from the epoch
abbrev pub time_of : ℕ → ℕ → ℕ
time_of k j = 21600 * k + 3600 * j

-- record j of file k: its time, and the 64 values of its latitudes and longitudes
unfoldable pub record_text : ℕ → ℕ → ℕ → List ℕ
record_text seed k j = word (time_of k j) ++ values_text (number_at seed k (64 * j)) 64

-- the first n records of file k
unfoldable pub records_text : ℕ → ℕ → ℕ → List ℕ
records_text seed k zero = []
records_text seed k (suc n) = records_text seed k n ++ record_text seed k n

-- the numbers from 0 to below n
unfoldable pub steps_text : ℕ → List ℕ
steps_text zero = []
steps_text (suc n) = steps_text n ++ word n
