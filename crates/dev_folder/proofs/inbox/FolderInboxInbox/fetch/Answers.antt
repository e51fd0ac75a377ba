-- What couldn't be read keeps each limit.
use Rattle.dev_folder.proofs.inbox.FolderInboxInbox.fetch.Goals as goal

pub returns-in-Err-clause-limit : goal.returns-in-Err-clause-limit
returns-in-Err-clause-limit g c = c.unread.ensures.limit _
