-- Columns that are counted and summed one after the other.
use Rattle.std.proofs.Common.{◌≡◌, ◌<◌, ◌≤◌, ℕ, ◌+◌, ◌*◌, ◌%◌, ◌^◌, List, length, take, get_or, arith}
use Rattle.std.specs.Prelude.{sum_by}
use Rattle.std.proofs.lemmas.List.Sums.{sum_by_more}
use Rattle.dap_client.specs.declared.message.Column.{Column}
use Rattle.srv_pull.specs.Sums.{bits_in, count_in}

-- the values of the first n columns were counted, fewer than 2^64 in each
pub record Counts (columns : List Column) (n count : ℕ) : Type 0 where
  pub count_is : count ≡ sum_by count_in (take n columns)
  pub few : count ≤ n * 2 ^ 64

-- the numbers of the first n columns were added
pub record Adds (columns : List Column) (n total : ℕ) : Type 0 where
  pub total_is : total ≡ sum_by bits_in (take n columns) % 2 ^ 64

pub Counts-next : (columns : List Column) (n count more : ℕ) (d : Column) → Counts columns n count → n < length columns
    → more ≡ count_in (get_or columns n d) → more < 2 ^ 64 → Counts columns (n + 1) (count + more)
Counts-next columns n count more d so_far below is small =
    let next = sum_by_more count_in columns n d below in
    record { count_is = omega (arith, next, so_far.count_is, is); few = omega (arith, so_far.few, small) }

pub Adds-next : (columns : List Column) (n total next : ℕ) (d : Column) → Adds columns n total → n < length columns
    → next ≡ (total + bits_in (get_or columns n d)) % 2 ^ 64 → Adds columns (n + 1) next
Adds-next columns n total next d so_far below is =
    let more = sum_by_more bits_in columns n d below in
    record { total_is = omega (arith, more, so_far.total_is, is) }

pub ruleset counts = (Counts-next)

pub ruleset sums = (Adds-next)
