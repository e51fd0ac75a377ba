-- What is answered is data, its bytes are the text of its message, and a reader reads what is spelled.
use Rattle.reply_laws.proofs.MessageLemmas.{data-read, data-spelled}
use Rattle.reply_laws.proofs.replies.a_data_reply_spells_its_message.Goals as goal

pub returns-clause-spelled : goal.returns-clause-spelled
returns-clause-spelled c = data-spelled

pub returns-clause-read : goal.returns-clause-read
returns-clause-read c = data-read
