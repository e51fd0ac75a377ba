-- The revisions of a link's last replies.
use Rattle.std.specs.Prelude.{ℕ, get_or}
use Rattle.srv_conn.specs.declared.revisions.Revisions.{Revisions}

-- the revision of a collection
abbrev pub revision_at : Revisions → ℕ → ℕ
revision_at revisions number = get_or revisions.numbers number 0
