-- The job of some words, where it is of a command.
use Rattle.std.proofs.Common.{◌≡◌, inl, inr, Bool, true, false, if◌then◌else◌, Option, Some, None, Ok, Err, refl, sym, ap, subst, ◌∙◌}
use Rattle.srv_words.specs.declared.job.Command.{Command}
use Rattle.srv_words.specs.declared.job.Command.TheVariants as commands
use Rattle.srv_words.specs.declared.job.Job.{Job}
use Rattle.srv_words.specs.Jobs.{command_of}
use Rattle.srv_alone.specs.declared.end.End.{End}
use Rattle.srv_alone.specs.declared.end.End.TheVariants.{BadWords, NoMemory}
use Rattle.srv_serve.specs.Shows.{Shows}
use Rattle.srv_serve.specs.Stage.{Says, Stage}
use Rattle.srv_run.specs.Run.{DoesJob, IsAlone, IsAloneCommand, IsJobOrEnd, RunsTo, is_same, only}

-- a job of the command
pub only-same : (command : Command) (found : Option Job) (job : Job) → found ≡ Some job
    → is_same command (command_of job) ≡ true → only command found ≡ Some job
only-same command found job is same =
    ap (only command) is ∙ ap (λ (b : Bool). if b then Some job else None) same

-- a job of another command
pub only-other : (command : Command) (found : Option Job) (job : Job) → found ≡ Some job
    → is_same command (command_of job) ≡ false → only command found ≡ None
only-other command found job is other =
    ap (only command) is ∙ ap (λ (b : Bool). if b then Some job else None) other

-- no job
pub only-end : (command : Command) (found : Option Job) (end : End) → IsJobOrEnd found (Err end)
    → IsJobOrEnd (only command found) (Err end)
only-end command found BadWords is = ap (only command) is
only-end command found NoMemory is = tt
only-end command found end is = absurd is

-- commands that are the same by the test
same_command : (command other : Command) → is_same command other ≡ true → command ≡ other
same_command commands.Once commands.Once is = refl
same_command commands.Twod commands.Twod is = refl
same_command commands.Extract commands.Extract is = refl
same_command commands.Pull commands.Pull is = refl
same_command commands.Check commands.Check is = refl
same_command commands.Load commands.Load is = refl
same_command commands.Serve commands.Serve is = refl
same_command commands.Many commands.Many is = refl
same_command command other is = absurd cc

-- a job of a command that waits for nobody waits for nobody
pub alone-as : (command : Command) (job : Job) → is_same command (command_of job) ≡ true → IsAloneCommand command
    → IsAlone job
alone-as command job same is = subst IsAloneCommand (same_command command (command_of job) same) is

-- the job that was found was done
pub does-found : {D I C L : Type 0} (show : Shows D I C L) (job : Option Job) (work : Job) (end : End)
    (stage stage' : Stage D I C) → IsJobOrEnd job (Ok work) → DoesJob show (Some work) end stage stage'
    → RunsTo show job end stage stage'
does-found show job work end stage stage' is does =
    inl (subst (λ (found : Option Job). DoesJob show found end stage stage') (sym is) does)

-- it was said why there is none
pub says-found : {D I C L : Type 0} (show : Shows D I C L) (job : Option Job) (end end' : End)
    (stage stage' : Stage D I C) → IsJobOrEnd job (Err end) → end' ≡ end → Says end stage stage'
    → RunsTo show job end' stage stage'
says-found show job BadWords end' stage stage' is same says =
    inl (subst (λ (found : Option Job). DoesJob show found end' stage stage') (sym is) (same, says))
says-found show job NoMemory end' stage stage' is same says = inr (same, says)
says-found show job end end' stage stage' is same says = absurd is

pub ruleset jobs = (only-same, only-other, only-end, alone-as)
