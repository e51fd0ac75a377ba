-- A run of the job that the words are blames what failed.
use Rattle.srv_words.specs.Jobs.{job_of}
use Rattle.srv_run.proofs.BlameLemmas.{Ends-Runs}
use Rattle.srv_run.proofs.program.run.Goals as goal

pub returns : goal.returns
returns g c = Ends-Runs (record {
  end = c.do_found.result;
  status_is = c.status.ensures;
  does = c.do_found.ensures (job_of c.args.words.now) c.job_or_end-found.ensures.job;
})
