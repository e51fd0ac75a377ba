-- A comparison that ignores case decides whether the lowered texts are the same.
use Rattle.std.proofs.lemmas.Bool.Decides.{same_from_decides}
use Rattle.std.proofs.lemmas.Slice.Eq.{bytes_eq-Decides}
use Rattle.web_frame.specs.Said.{same_word}
use Rattle.dap_client.proofs.length.same_word.Goals as goal

pub returns : goal.returns
unfolding same_word
returns c = same_from_decides _ _ c.eq_ignore_ascii_case.ensures.test (bytes_eq-Decides _ _)
