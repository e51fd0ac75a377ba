-- The job that was found was done, or it was said why there is none.
use Rattle.srv_run.proofs.JobLemmas.{does-found, says-found}
use Rattle.srv_run.proofs.job.do_found.Goals as goal

pub returns-in-Ok : goal.returns-in-Ok
returns-in-Ok g c = λ job is. does-found _ job c.in-Ok.job c.do_job.result _ _ (rw c.in-Ok.is at is) c.do_job.ensures

pub returns-in-Err : goal.returns-in-Err
returns-in-Err g c = λ job is.
    says-found _ job c.in-Err.end c.say.result _ _ (rw c.in-Err.is at is) c.say.ensures.end c.say.ensures.says
