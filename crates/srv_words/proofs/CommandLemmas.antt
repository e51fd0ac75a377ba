-- The command is one of which `clap` says exactly which words it takes.
use Rattle.std.proofs.Common.{◌≡◌, ◌==◌, ◌⊎◌, ◌∙◌, ◌||◌, Bool, inl, inr, true, false, List, [], ◌∷◌, length, Result, Ok, Err, All, IfOk, map, refl, sym, ap, subst, arith}
use Rattle.std.proofs.lemmas.Bool.{and_parts, cases_Bool, eqb-true}
use Rattle.std.proofs.lemmas.List.Elements.{All-head, All-tail}
use Rattle.std.specs.Prelude.{⊤}
use Rattle.clap.specs.Built.{AddsArg, AddsInTurn, AddsSubcommand}
use Rattle.clap.specs.Kinds.{FailsBy, IsAmong, Kinds}
use Rattle.clap.specs.declared.builder.arg.Arg.{Arg}
use Rattle.clap.specs.declared.builder.command.Command.{Command}
use Rattle.clap.specs.declared.builder.command.Command.TheViews.{out-Command}
use Rattle.clap.specs.declared.error.Error.{Error}
use Rattle.clap.specs.declared.error.kind.ErrorKind.{ErrorKind}
use Rattle.clap.specs.declared.error.kind.ErrorKind.TheVariants as kind
use Rattle.clap.specs.declared.parser.matches.ArgMatches.{ArgMatches}
use Rattle.clap.specs.Faults.{fault_of, is_free_app, is_simple_and_free}
use Rattle.clap.specs.Simple.{App, HasMatchesOf, app_of, built, is_simple, subcommand_of, subcommand_rows_of, with_subcommand}
use Rattle.clap.specs.Walk.{Text}
use Rattle.srv_words.specs.Command.{are_plain, commands, fmrcd, rules_in, subcommand, top, used, with_arguments, with_clock, with_collections, with_door, with_rules, with_server, with_site}

-- a result whose value is seen as one thing is seen as what equals it
pub ok_as : {A E : Type 0} {x y : App} (f : A → App) (r : Result A E) → x ≡ y → IfOk r (λ k. f k ≡ x)
    → IfOk r (λ k. f k ≡ y)
ok_as f r is seen = subst (λ (z : App). IfOk r (λ k. f k ≡ z)) is seen

neither : (a b c : Bool) → c ≡ (a || b) → a ≡ false → b ≡ false → c ≡ false
neither a b c is first second = is ∙ ap (λ (x : Bool). x || b) first ∙ second

-- a command to which arguments were added has their rules, one after the other
pub args_in_turn : (old new : Command) (args : List Arg) → AddsInTurn AddsArg old args new
    → All (λ (arg : Arg). arg.global ≡ false) args → (out-Command old).has_globals ≡ false
    → (app_of new ≡ with_rules (app_of old) (rules_in args)) × ((out-Command new).has_globals ≡ false)
args_in_turn old new [] is local plain =
    (sym (ap app_of is), subst (λ (c : Command). (out-Command c).has_globals ≡ false) is plain)
args_in_turn old new (arg ∷ args) adds local plain =
    let here = All-head (λ (arg : Arg). arg.global ≡ false) arg args local in
    let next = adds.0 in
    let rest = args_in_turn next new args adds.2 (All-tail (λ (arg : Arg). arg.global ≡ false) arg args local)
    (neither _ _ _ adds.1.globals plain here) in
    (rest.0 ∙ ap (λ (app : App). with_rules app (rules_in args)) (adds.1.shape here), rest.1)

-- the same, where memory sufficed
pub args_made : {E F : Type 0} (old : Command) (args : List Arg) (added : Result Command E) (made : Result Command F)
    → IfOk made (λ new. added ≡ Ok new) → IfOk added (AddsInTurn AddsArg old args)
    → All (λ (arg : Arg). arg.global ≡ false) args → (out-Command old).has_globals ≡ false
    → IfOk made (λ new. app_of new ≡ with_rules (app_of old) (rules_in args))
    × IfOk made (λ new. (out-Command new).has_globals ≡ false)
args_made old args added (Ok new) is adds local plain = args_in_turn old new args (rw is at adds) local plain
args_made old args added (Err fault) is adds local plain = (tt, tt)

-- a command with these subcommands more, one after the other
abbrev with_each : App → List App → App
with_each app [] = app
with_each app (next ∷ rest) = with_each (with_subcommand app next.top) rest

-- a command to which subcommands were added has them, one after the other
in_turn : (old new : Command) (subs : List Command) → AddsInTurn AddsSubcommand old subs new → are_plain subs
    → app_of new ≡ with_each (app_of old) (map app_of subs)
in_turn old new [] is plain = sym (ap app_of is)
in_turn old new (sub ∷ subs) adds plain =
    in_turn adds.0 new subs adds.2 (All-tail (λ (c : Command). (out-Command c).has_globals ≡ false) sub subs plain)
    ∙ ap (λ (app : App). with_each app (map app_of subs))
    (adds.1.shape (All-head (λ (c : Command). (out-Command c).has_globals ≡ false) sub subs plain))

-- these are the commands of the program, where memory sufficed
pub all_made : {E F : Type 0} (old : Command) (subs : List Command) (added : Result Command E)
    (made : Result Command F) → IfOk made (λ new. added ≡ Ok new) → IfOk added (AddsInTurn AddsSubcommand old subs)
    → app_of old ≡ top → map app_of subs ≡ map subcommand commands → are_plain subs
    → IfOk made (λ new. app_of new ≡ fmrcd)
unfolding fmrcd with_collections
all_made old subs added (Ok new) is adds first apps plain =
    in_turn old new subs (rw is at adds) plain
    ∙ ap (λ (app : App). with_each app (map app_of subs)) first
    ∙ ap (with_each top) apps
all_made old subs added (Err fault) is adds first apps plain = tt

-- what the command's definition stands on, for proofs that compute on it
unfoldable pub fmrcd_on_literals : ⊤
unfolding fmrcd with_collections subcommand with_arguments with_site with_server with_door with_clock
fmrcd_on_literals = tt

pub fmrcd_is_free : is_simple_and_free fmrcd ≡ true
unfolding fmrcd_on_literals
fmrcd_is_free = refl

pub fmrcd_is_simple : is_simple fmrcd ≡ true
fmrcd_is_simple = (and_parts (is_simple fmrcd) (is_free_app (built fmrcd)) fmrcd_is_free).0

-- a command like it has the same matches
pub used_by : (a : App) (words : List Text) (r : Result ArgMatches Error) → a ≡ fmrcd → IfOk r (HasMatchesOf a words)
    → IfOk r (λ m. subcommand_rows_of m ≡ used words)
unfolding used
used_by a words (Ok m) is has =
    (has (ap is_simple is ∙ fmrcd_is_simple)).1 ∙ ap (λ (b : App). subcommand_of b words) is
used_by a words (Err e) is has = tt

-- and it fails as it does
pub fails_by : (a : App) (words : List Text) (r : Result ArgMatches Error) → a ≡ fmrcd
    → (is_simple_and_free a ≡ true → FailsBy (fault_of a words) r) → FailsBy (fault_of fmrcd words) r
fails_by a words r is has =
    subst (λ (b : App). FailsBy (fault_of b words) r) is (has (ap is_simple_and_free is ∙ fmrcd_is_free))

-- where an error of the words is none of these, there was one
pub some_kind : (kinds : Kinds) (k : ErrorKind) → (k ≡ kind.OutOfMemory) ⊎ IsAmong k kinds → (k ≡ kind.OutOfMemory → ⊥)
    → (length kinds == 0) ≡ false
some_kind [] k among other =
    elim among [
      | inl is ↦ absurd (other is)
      | inr never ↦ absurd never
    ]
some_kind (first ∷ kinds) k among other =
    elim (cases_Bool (length (first ∷ kinds) == 0)) [
      | inl is ↦ absurd (let none : length (first ∷ kinds) ≡ 0 = eqb-true _ 0 is in omega (arith, none))
      | inr is ↦ is
    ]

pub ruleset kinds = (some_kind)
