-- The search begins, goes on, and ends at a bad escape or with the last byte.
use Rattle.std.proofs.Common.{arith, sym, ◌∙◌}
use Rattle.web_path.proofs.ScanLemmas.{escape_first, escape_found, escape_next, escape_none, no_percent, with_digits}
use Rattle.web_path.proofs.escape.bad_escape.Goals as goal
use Rattle.web_path.proofs.escape.bad_escape.Goals.{else-byte-eq37-via-then-byte-eq37+else-not-begins_with_two_digits, else-byte-eq37-via-else-byte-eq37}

pub loop-left-init : goal.loop-left-init
loop-left-init c = (escape_first c.args.bytes.now, omega arith)

pub loop-left-preserved : goal.loop-left-preserved
loop-left-preserved c = elim c.else-byte-eq37.branch [
  | else-byte-eq37-via-then-byte-eq37+else-not-begins_with_two_digits w ↦
      escape_next c.loop-left.at c.loop-left.left.now c.args.bytes.now c.in-len1-up.len_at_least
      (with_digits _ _ (sym w.begins_with_two_digits.ensures ∙ w.if-not-begins_with_two_digits.false))
      c.loop-left.invariant
  | else-byte-eq37-via-else-byte-eq37 w ↦
      escape_next c.loop-left.at c.loop-left.left.now c.args.bytes.now c.in-len1-up.len_at_least
      (no_percent _ _ w.if-byte-eq37.false) c.loop-left.invariant
]

pub returns-then-not-begins_with_two_digits : goal.returns-then-not-begins_with_two_digits
returns-then-not-begins_with_two_digits c =
    escape_found c.loop-left.at c.loop-left.left.now c.args.bytes.now c.in-len1-up.len_at_least c.if-byte-eq37.true
    (sym c.begins_with_two_digits.ensures ∙ c.if-not-begins_with_two_digits.true) c.loop-left.invariant.0

pub returns : goal.returns
returns c = escape_none c.loop-left.at c.loop-left.left.now c.args.bytes.now c.in_default.len_below
    c.loop-left.invariant.0
