-- How much is held where some files go and some come.
use Rattle.std.specs.Prelude.{◌+◌, ◌-◌, ◌≤◌, length}
use Rattle.fm_model.specs.declared.full.Tally.{Tally}
use Rattle.fm_model.specs.declared.op.Op.{Op}
use Rattle.fm_model.specs.declared.op.Op.TheVariants.{Put, Expire, Retract}

-- no more than what is held
pub record IsPartOf (held part : Tally) : Type 0 where
  pub files : part.files ≤ held.files
  pub rows : part.rows ≤ held.rows
  pub size : part.size ≤ held.size

-- two amounts together
abbrev pub plus : Tally → Tally → Tally
plus one other = record {
  files = one.files + other.files;
  rows = one.rows + other.rows;
  size = one.size + other.size;
}

-- what is left of what is held
abbrev pub less : Tally → Tally → Tally
less held part = record {
  files = held.files - part.files;
  rows = held.rows - part.rows;
  size = held.size - part.size;
}

-- how much there is once an operation has added its file
abbrev pub with_added : Op → Tally → Tally
with_added (Put file) left = record {
  files = left.files + 1;
  rows = left.rows + length file.times;
  size = left.size + length file.content;
}
with_added (Expire cutoff) left = left
with_added (Retract name) left = left
