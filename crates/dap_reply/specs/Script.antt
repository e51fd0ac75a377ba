-- What a connection is sent: the replies to its items,
-- each over the collection that some prefix of the operations left.
use Rattle.std.specs.Prelude.{ℕ, ◌+◌, List, [], ◌∷◌, ◌++◌, take}
use Rattle.fm_model.specs.declared.op.Op.{Op}
use Rattle.fm_model.specs.declared.proto.Proto.{Proto}
use Rattle.fm_model.specs.Collection.{coll}
use Rattle.web_frame.specs.Items.{Item}
use Rattle.dap_reply.specs.Reply.{reply_of}

-- the replies to some items, the first of them with the number after `before`, each over as many of the operations as
-- its revision says; there is one for each revision
unfoldable pub script_of : Proto → List Op → List ℕ → List Item → ℕ → List ℕ
script_of proto ops [] items before = []
script_of proto ops (revision ∷ revisions) [] before = []
script_of proto ops (revision ∷ revisions) (item ∷ items) before =
    reply_of proto (coll (take revision ops)) revision item (before + 1)
    ++ script_of proto ops revisions items (before + 1)
