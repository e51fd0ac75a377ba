-- Devices that are opened one kind after the other.
use Rattle.std.proofs.Common.{◌≡◌, ◌∙◌, inl, ℕ, List, [], refl, sym, ap, subst}
use Rattle.dev_traits.specs.Opener.{OpenerShown}
use Rattle.dev_traits.specs.Shown.{SinkShown}
use Rattle.dev_traits.specs.declared.world.Devices.{Devices}
use Rattle.srv_alone.specs.declared.end.End.{End}
use Rattle.srv_alone.specs.declared.end.End.TheVariants.{NoMemory}
use Rattle.srv_open.specs.Devices.{AreAllOpened, OpensDevices, StopsAt, Wanted}
use Rattle.srv_alone.specs.Report.{Reports}
use Rattle.srv_serve.specs.Serve.{EndsUnserved, HasOpened, HasStopped}
use Rattle.srv_open.specs.Shows.{Shows}
use Rattle.srv_closing.specs.Stage.{Says, Stage}
use Rattle.srv_serve.specs.Telling.{TellsLines}
use Rattle.srv_serve.proofs.TellingLemmas.{AreAllOpened-told}

-- all were opened that these words ask for, and the opener was told so
pub HasOpened-as : {D I C L : Type 0} {show : Shows D I C L} {lines : List (List ℕ)} {wanted wanted' : Wanted}
    {opener opened opener' : OpenerShown D I C} {devices : Devices D I C} → wanted ≡ wanted'
    → OpensDevices show wanted opener.held opened.held devices → AreAllOpened wanted devices opener.faults opened.faults
    → TellsLines lines opened opener' → HasOpened show lines wanted' opener opener' devices
HasOpened-as {D} {I} {C} {L} {show} {lines} {wanted} {wanted'} {opener} {opened} {opener'} {devices} is opens all told =
    record {
      opened = opened;
      told = told;
      opens = subst (λ (w : Wanted). OpensDevices show w opener.held opened.held devices) is opens;
      all = subst (λ (w : Wanted). AreAllOpened w devices opener.faults opener'.faults) is
          (AreAllOpened-told all told);
    }

-- not all were opened that these words ask for
pub HasStopped-as : {D I C L : Type 0} {show : Shows D I C L} {lines : List (List ℕ)} {wanted wanted' : Wanted}
    {opener opener' : OpenerShown D I C} {left : Devices D I C} {end : End} → wanted ≡ wanted'
    → OpensDevices show wanted opener.held opener'.held left → StopsAt wanted left opener.faults opener'.faults end
    → HasStopped show lines wanted' opener opener' left end
HasStopped-as {D} {I} {C} {L} {show} {lines} {opener} {opener'} {left} {end} is opens stops = record {
  opened = opener';
  told = inl refl;
  opens = subst (λ (w : Wanted). OpensDevices show w opener.held opener'.held left) is opens;
  stops = subst (λ (w : Wanted). StopsAt w left opener.faults opener'.faults end) is stops;
}

-- all were opened, and memory ran out before a worker ran
pub HasStopped-short : {D I C L : Type 0} {show : Shows D I C L} {lines : List (List ℕ)} {wanted wanted' : Wanted}
    {opener opened opener' : OpenerShown D I C} {left : Devices D I C} → wanted ≡ wanted'
    → OpensDevices show wanted opener.held opened.held left → AreAllOpened wanted left opener.faults opened.faults
    → opener' ≡ opened → HasStopped show lines wanted' opener opener' left NoMemory
HasStopped-short {D} {I} {C} {L} {show} {lines} {opener} {opened} {opener'} {left} is opens all same =
    record {
      opened = opened;
      told = inl same;
      opens = subst (λ (w : Wanted). OpensDevices show w opener.held opened.held left) is opens;
      stops = ap (λ (o : OpenerShown D I C). o.faults) same ∙ all.calm;
    }

-- a run that stopped only said how it ended
pub EndsUnserved-said : {D I C L : Type 0} {show : Shows D I C L} {lines : List (List ℕ)} {wanted : Wanted}
    {stage left stage' : Stage D I C} {end : End}
    → HasStopped show lines wanted stage.opener left.opener left.devices end → Says end left stage'
    → left.outside.sink ≡ stage.outside.sink → EndsUnserved show lines wanted stage stage' end
EndsUnserved-said {D} {I} {C} {L} {show} {lines} {wanted} {stage} {left} {stage'} {end} stopped said same = record {
  stopped = subst (λ (devices : Devices D I C). HasStopped show lines wanted stage.opener stage'.opener devices end)
      (sym said.leaves.devices_are)
      (subst (λ (opener : OpenerShown D I C). HasStopped show lines wanted stage.opener opener left.devices end)
      (sym said.leaves.opener_is) stopped);
  reports = subst (λ (sink : SinkShown). Reports end [] sink stage'.outside.sink) same said.reports;
}
