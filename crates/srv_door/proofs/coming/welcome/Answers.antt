-- Memory runs out before the look, within it, or not at all.
use Rattle.std.proofs.Common.{inl, refl}
use Rattle.srv_conn.proofs.ViewLemmas.{behind-itself}
use Rattle.srv_door.proofs.coming.welcome.Goals as goal

pub returns-in-Err-clause-err : goal.returns-in-Err-clause-err
returns-in-Err-clause-err g c = λ number. inl refl

pub returns-in-Err-clause-later : goal.returns-in-Err-clause-later
returns-in-Err-clause-later g c = behind-itself (g.K.Looks.them c.args.looks.now)
    (g.K.Looks.views c.args.looks.now).seen
