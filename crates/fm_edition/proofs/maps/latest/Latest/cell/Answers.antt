-- What is found among the files of the run, which stays.
use Rattle.fm_edition.proofs.maps.latest.Latest.cell.Goals as goal

pub returns-clause-stays : goal.returns-clause-stays
returns-clause-stays c = λ held is. record {
  before = is.before;
  runs = is.runs;
  own = is.own;
  rest = is.rest;
  sound = is.sound;
}
