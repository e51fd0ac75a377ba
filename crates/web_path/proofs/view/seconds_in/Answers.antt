-- A text that parses is read where it is the decimal of what it parses as.
use Rattle.std.proofs.Common.{List, ℕ, ℤ, Err, w64, FitsSigned, ap, sym, subst, ◌∙◌}
use Rattle.std.proofs.lemmas.Bool.{false≢true}
use Rattle.std.proofs.lemmas.Int.{to_z-of_z}
use Rattle.std.specs.Fmt.{signed_decimal}
use Rattle.std.specs.Str.Parse.{ParsesSigned}
use Rattle.web_path.proofs.NumberLemmas.{none_not_parsed, none_not_same, none_not_utf8, some_same}
use Rattle.web_path.proofs.view.seconds_in.Goals as goal

pub returns-in-Ok-parse : goal.returns-in-Ok-parse
returns-in-Ok-parse c =
    let number : ℤ = c.in-Ok-parse.number in
    let value = c.in-Ok-parse.ensures.value.0 in
    let fits = subst (FitsSigned w64) (sym value.1) value.0.1 in
    let same = to_z-of_z w64 number fits in
    some_same c.args.text.now _ (subst (FitsSigned w64) (sym same) fits) (c.is_decimal.ensures.0 c.if-is_decimal.true)

pub returns-in-Err-parse : goal.returns-in-Err-parse
returns-in-Err-parse c =
    let fault = c.in-Err-parse.field-0 in
    none_not_parsed c.args.text.now fault
    (subst (λ (text : List ℕ). ParsesSigned w64 10 text (Err fault)) c.in-Ok.ensures.cases.0
    c.in-Err-parse.ensures.value.0)

pub returns-in-Ok-2 : goal.returns-in-Ok-2
returns-in-Ok-2 c =
    let number : ℤ = c.in-Ok-parse.number in
    let value = c.in-Ok-parse.ensures.value.0 in
    let fits = subst (FitsSigned w64) (sym value.1) value.0.1 in
    let same = to_z-of_z w64 number fits in
    none_not_same c.args.text.now number c.parse.result
    (subst (λ (text : List ℕ). ParsesSigned w64 10 text c.parse.result) c.in-Ok.ensures.cases.0
    c.parse.ensures.value.0) c.in-Ok-parse.is
    (λ e. false≢true (c.if-is_decimal.ensures.1 (e ∙ ap signed_decimal (sym same))))

pub returns-in-Err : goal.returns-in-Err
returns-in-Err c = none_not_utf8 c.args.text.now c.in-Err.ensures.cases.0
