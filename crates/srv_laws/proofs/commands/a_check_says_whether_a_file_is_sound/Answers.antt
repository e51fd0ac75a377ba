-- The status of a check.
use Rattle.srv_laws.proofs.CheckLemmas.{found-status, sound-status}
use Rattle.srv_laws.proofs.commands.a_check_says_whether_a_file_is_sound.Goals as goal

pub returns-clause-sound : goal.returns-clause-sound
returns-clause-sound g c = sound-status

pub returns-clause-found : goal.returns-clause-found
returns-clause-found g c = found-status
