-- A lemma on the definitions.
use Rattle.fm_model.proofs.FitLemmas.{IsFit-from_Fits}
use Rattle.fm_model.proofs.laws.load.a_fit_file_is_sound.Goals as goal

pub returns : goal.returns
returns c = IsFit-from_Fits
