-- Workers that did their tasks and then learnt the logs.
use Rattle.std.proofs.Common.{◌≡◌, ℕ, suc, List, [], ◌∷◌, length, All, refl, ap}
use Rattle.std.specs.List.{AllZip, filter_map}
use Rattle.fm_model.specs.declared.op.Op.{Op}
use Rattle.srv_workers.specs.declared.worker.Worker.{Worker}
use Rattle.srv_workers.specs.declared.worker.Worker.TheVariants.{Serve, TakeIn, LetGo}
use Rattle.srv_workers.specs.Course.{Begins, Keeps}
use Rattle.srv_workers.specs.Desks.{Means}
use Rattle.srv_workers.specs.Does.{Does, Shows}
use Rattle.srv_workers.specs.Done.{HaveWorked}
use Rattle.srv_workers.specs.Workers.{door_of}

-- workers that did their tasks, had seen beginnings of the logs, and kept what they had
pub HaveWorked-is : {D I C L E H : Type 0} (shown : Shows D I C L) (keep : ℕ) (means : Means E H)
    (log : ℕ → List Op) (before middle after : List (Worker D I C E H)) → AllZip (Does shown keep means) before middle
    → All (Begins means log) middle → AllZip (Keeps means) middle after
    → HaveWorked shown keep means log before after
HaveWorked-is shown keep means log before middle after worked begin kept = record {
  middle = middle;
  worked = worked;
  begin = begin;
  kept = kept;
}

-- as many doors after the work as before
pub doors-worked : {D I C L E H : Type 0} (shown : Shows D I C L) (keep : ℕ) (means : Means E H)
    (vs ws : List (Worker D I C E H)) → AllZip (Does shown keep means) vs ws
    → length (filter_map door_of ws) ≡ length (filter_map door_of vs)
doors-worked shown keep means [] [] worked = refl
doors-worked shown keep means [] (w ∷ ws) worked = absurd worked
doors-worked shown keep means (v ∷ vs) [] worked = absurd worked
doors-worked shown keep means (Serve d n e r ∷ vs) (Serve d' n' e' r' ∷ ws) worked =
    ap suc (doors-worked shown keep means vs ws worked.1)
doors-worked shown keep means (TakeIn i h r ∷ vs) (TakeIn i' h' r' ∷ ws) worked =
    doors-worked shown keep means vs ws worked.1
doors-worked shown keep means (LetGo c h r ∷ vs) (LetGo c' h' r' ∷ ws) worked =
    doors-worked shown keep means vs ws worked.1
doors-worked shown keep means (Serve d n e r ∷ vs) (TakeIn i h r' ∷ ws) worked = absurd worked.0
doors-worked shown keep means (Serve d n e r ∷ vs) (LetGo c h r' ∷ ws) worked = absurd worked.0
doors-worked shown keep means (TakeIn i h r ∷ vs) (Serve d n e r' ∷ ws) worked = absurd worked.0
doors-worked shown keep means (TakeIn i h r ∷ vs) (LetGo c h' r' ∷ ws) worked = absurd worked.0
doors-worked shown keep means (LetGo c h r ∷ vs) (Serve d n e r' ∷ ws) worked = absurd worked.0
doors-worked shown keep means (LetGo c h r ∷ vs) (TakeIn i h' r' ∷ ws) worked = absurd worked.0
