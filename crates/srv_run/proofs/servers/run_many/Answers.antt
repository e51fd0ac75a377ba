-- A run of the job that the words are blames what failed.
use Rattle.srv_words.specs.declared.job.Command.TheVariants as commands
use Rattle.srv_words.specs.Jobs.{job_of}
use Rattle.srv_run.specs.Run.{only}
use Rattle.srv_run.proofs.BlameLemmas.{Ends-Runs}
use Rattle.srv_run.proofs.servers.run_many.Goals as goal

pub returns : goal.returns
returns g c = Ends-Runs (record {
  end = c.do_found.result;
  status_is = c.status.ensures;
  does = c.do_found.ensures (only commands.Many (job_of c.args.words.now)) c.command_or_end-found.ensures.job;
})
