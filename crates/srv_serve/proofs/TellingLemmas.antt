-- Lines that an opener was told.
use Rattle.std.proofs.Common.{◌≡◌, ◌<◌, ◌∙◌, ◌+◌, ℕ, List, [], ◌∷◌, ◌++◌, append-nil, codes, decimal, get_or, length, map, take, Option, Some, None, refl, sym, ap, subst}
use Rattle.std.specs.List.{flat_map}
use Rattle.std.proofs.lemmas.List.{map-append, take_more}
use Rattle.dev_traits.specs.Lines.{Notes, Tells}
use Rattle.dev_traits.specs.Opener.{opener_lines, OpenerShown, Stock, with_opener_lines}
use Rattle.dev_traits.proofs.TellLemmas.{Tells-none, Tells-one, Tells-then}
use Rattle.dev_traits.specs.declared.world.Devices.{Devices}
use Rattle.srv_words.specs.declared.job.ServingMany.{ServingMany}
use Rattle.srv_words.specs.declared.job.Spec.{Spec}
use Rattle.srv_open.specs.Devices.{AreAllOpened, Wanted}
use Rattle.srv_serve.specs.Many.{spec_line}
use Rattle.srv_serve.specs.Telling.{folders_text, open_line, TellsLines}

-- an opener was told a line
pub TellsLines-one : {D I C : Type 0} {line : List ℕ} {opener opener' : OpenerShown D I C}
    → opener'.held ≡ with_opener_lines (opener_lines opener'.held) opener.held
    → Notes line (opener_lines opener.held) (opener_lines opener'.held) → opener'.faults ≡ opener.faults
    → TellsLines (line ∷ []) opener opener'
TellsLines-one {D} {I} {C} {line} {opener} {opener'} same noted faults = record {
  told = opener_lines opener'.held;
  tells = Tells-one line (opener_lines opener.held) (opener_lines opener'.held) noted;
  held_is = same;
  faults_are = faults;
}

-- all that were opened, where the opener was told lines after it
pub AreAllOpened-told : {D I C : Type 0} {lines : List (List ℕ)} {wanted : Wanted} {devices : Devices D I C}
    {faults : ℕ} {opener opener' : OpenerShown D I C} → AreAllOpened wanted devices faults opener.faults
    → TellsLines lines opener opener' → AreAllOpened wanted devices faults opener'.faults
AreAllOpened-told all told = record {
  doors = all.doors;
  inboxes = all.inboxes;
  clocks = all.clocks;
  calm = told.faults_are ∙ all.calm;
}

-- no line was told
pub TellsLines-none : {D I C : Type 0} (opener : OpenerShown D I C) → TellsLines [] opener opener
TellsLines-none {D} {I} {C} opener = record {
  told = opener_lines opener.held;
  tells = Tells-none (opener_lines opener.held);
  held_is = same opener.held;
  faults_are = refl;
}
  where
    same : (held : Option (Stock D I C)) → held ≡ with_opener_lines (opener_lines held) held
    same None = refl
    same (Some stock) = refl

-- some lines were told, and then others
pub TellsLines-then : {D I C : Type 0} (xs ys : List (List ℕ)) (before now after : OpenerShown D I C)
    → TellsLines xs before now → TellsLines ys now after → TellsLines (xs ++ ys) before after
TellsLines-then {D} {I} {C} xs ys before now after first second = record {
  told = second.told;
  tells = both before.held first.tells
      (subst (λ (held : Option (Stock D I C)). Tells ys (opener_lines held) second.told) first.held_is second.tells);
  held_is = second.held_is ∙ ap (with_opener_lines second.told) first.held_is ∙ once before.held;
  faults_are = second.faults_are ∙ first.faults_are;
}
  where
    both : (held : Option (Stock D I C)) → Tells xs (opener_lines held) first.told
        → Tells ys (opener_lines (with_opener_lines first.told held)) second.told
        → Tells (xs ++ ys) (opener_lines held) second.told
    both None told then = then
    both (Some stock) told then = Tells-then xs ys stock.lines first.told second.told told then

    once : (held : Option (Stock D I C))
        → with_opener_lines second.told (with_opener_lines first.told held) ≡ with_opener_lines second.told held
    once None = refl
    once (Some stock) = refl

-- the line of one collection more was told
pub TellsLines-more : {D I C : Type 0} (serving : ServingMany) (specs : List Spec) (n : ℕ) (spec : Spec)
    (before now after : OpenerShown D I C) → n < length specs → spec ≡ get_or specs n spec
    → TellsLines (map (λ (s : Spec). spec_line serving s) (take n specs)) before now
    → TellsLines (spec_line serving spec ∷ []) now after
    → TellsLines (map (λ (s : Spec). spec_line serving s) (take (n + 1) specs)) before after
TellsLines-more serving specs n spec before now after below at told more =
    subst (λ (lines : List (List ℕ)). TellsLines lines before after) (sym all)
    (TellsLines-then (map line (take n specs)) (line spec ∷ []) before now after told more)
  where
    line : Spec → List ℕ
    line s = spec_line serving s

    all : map line (take (n + 1) specs) ≡ map line (take n specs) ++ line spec ∷ []
    all = ap (map line) (take_more specs n spec below ∙ ap (λ (s : Spec). take n specs ++ s ∷ []) (sym at))
        ∙ map-append line (take n specs) (spec ∷ [])

-- a folder, with a blank before it
pub with-blank : {D I C : Type 0} (name listen folder : List ℕ) (workers : ℕ) {opener opener' : OpenerShown D I C}
    → TellsLines (flat_map (λ part. part) (codes "serving " ∷ name ∷ codes " at " ∷ listen ∷ codes ", "
    ∷ decimal workers ∷ codes " workers, folders " ∷ folder ∷ []) ∷ []) opener opener'
    → TellsLines (open_line name listen workers (folders_text (folder ∷ [])) ∷ []) opener opener'
unfolding open_line
with-blank {D} {I} {C} name listen folder workers {opener} {opener'} told =
    subst (λ (text : List ℕ). TellsLines ((codes "serving " ++ (name ++ (codes " at " ++ (listen ++ (codes ", "
    ++ (decimal workers ++ (codes " workers, folders " ++ text))))))) ∷ []) opener opener')
    (sym (append-nil (folder ++ []))) told
