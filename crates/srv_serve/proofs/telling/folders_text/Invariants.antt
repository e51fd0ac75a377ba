-- The folders before the index were appended.
use Rattle.std.proofs.Common.{◌≡◌, take}
use Rattle.srv_serve.specs.Telling.{folders_text}
use Rattle.srv_serve.proofs.telling.folders_text.Given as goal

abbrev pub invariant-loop-folder : goal.invariant-loop-folder
invariant-loop-folder l = l.text ≡ folders_text (take l.folder-index l.folders)
