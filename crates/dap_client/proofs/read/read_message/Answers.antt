-- What is read is spelled, what is spelled is read, and a fault stands where no message goes on.
use Rattle.dap_client.proofs.AnswerLemmas.{Answers-from_Reads, bad-from_Answers, read-from_Answers, spelled-from_Answers}
use Rattle.dap_client.proofs.read.read_message.Goals as goal

pub returns-clause-spelled : goal.returns-clause-spelled
returns-clause-spelled c =
    spelled-from_Answers c.args.bytes.now c.read_whole.result (λ i. (c.type_inv.bytes i).fits)
    (Answers-from_Reads _ _ _ _ c.new-cursor.ensures c.read_whole.ensures)

pub returns-clause-read : goal.returns-clause-read
returns-clause-read c =
    read-from_Answers c.args.bytes.now c.read_whole.result
    (Answers-from_Reads _ _ _ _ c.new-cursor.ensures c.read_whole.ensures)

pub returns-clause-refused : goal.returns-clause-refused
returns-clause-refused c =
    bad-from_Answers c.args.bytes.now c.read_whole.result (λ i. (c.type_inv.bytes i).fits)
    (Answers-from_Reads _ _ _ _ c.new-cursor.ensures c.read_whole.ensures)
