-- Names, in this crate, of the definitions of others that the check computes in worked examples.
unfoldable pub use Rattle.std.specs.Char.{encode_utf8}
unfoldable pub use Rattle.std.specs.Int.Count.{count_trailing_zeros}
unfoldable pub use Rattle.std.specs.Str.{chars, is_utf8}
unfoldable pub use Rattle.jiff_core.specs.Calendar.{day_count, days_from_civil, days_of_months, days_of_years}
