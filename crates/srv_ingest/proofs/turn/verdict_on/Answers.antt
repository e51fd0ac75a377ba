-- The verdict on a name by what was found under it, or on the name that it takes back, with its line.
use Rattle.std.proofs.Common.{◌≡◌, None}
use Rattle.srv_ingest.specs.Verdicts.{taken_back}
use Rattle.srv_ingest.proofs.VerdictLemmas.{DecidesName-back, DecidesName-file, DecidesName-refused, DecidesName-short}
use Rattle.srv_ingest.proofs.turn.verdict_on.Goals as goal

pub returns-in-Some-clause-finds : goal.returns-in-Some-clause-finds
returns-in-Some-clause-finds g c =
    DecidesName-back c.in-Some.ensures c.decide-verdict.ensures.verdict c.decide-verdict.ensures.decides
    c.note_back.ensures

pub returns-in-Err-NoMemory-clause-finds : goal.returns-in-Err-NoMemory-clause-finds
returns-in-Err-NoMemory-clause-finds g c =
    let cause = rw c.in-Err-NoMemory.field-0-is at c.in-Err-NoMemory.ensures.cause in
    DecidesName-short c.fetch.ensures.same cause c.short.ensures.verdict c.short.ensures.lines

pub returns-in-Ok-file_of-clause-finds : goal.returns-in-Ok-file_of-clause-finds
returns-in-Ok-file_of-clause-finds g c =
    let exact = rw c.get.ensures at c.in-Ok-file_of.ensures.exact in
    let none : None ≡ taken_back c.args.name.now = c.in_default.ensures in
    DecidesName-file _ _ none c.in-Ok.ensures.found exact c.decide-verdict-in-Ok-file_of.ensures.verdict
    c.decide-verdict-in-Ok-file_of.ensures.decides c.decide-verdict-in-Ok-file_of.ensures.held c.fetch.ensures.same
    c.in-Ok.ensures.cause c.note_put.ensures

pub returns-in-Err-NoMemory-file_of-clause-finds : goal.returns-in-Err-NoMemory-file_of-clause-finds
returns-in-Err-NoMemory-file_of-clause-finds g c =
    let told = c.short-in-Err-NoMemory-file_of.ensures in
    DecidesName-short c.fetch.ensures.same c.in-Ok.ensures.cause told.verdict told.lines

pub returns-in-Err-Fault-file_of-clause-finds : goal.returns-in-Err-Fault-file_of-clause-finds
returns-in-Err-Fault-file_of-clause-finds g c =
    let exact = rw (c.in-Err-Fault-file_of.field-0-is, c.get.ensures) at c.in-Err-Fault-file_of.ensures.exact in
    let none : None ≡ taken_back c.args.name.now = c.in_default.ensures in
    let verdict = rw c.in-Err-Fault-file_of.field-0-is at c.refused.ensures.verdict in
    let lines = rw c.in-Err-Fault-file_of.field-0-is at c.refused.ensures.lines in
    DecidesName-refused _ none c.in-Ok.ensures.found exact verdict c.fetch.ensures.same c.in-Ok.ensures.cause lines
