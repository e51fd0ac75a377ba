-- A text that doesn't parse is no decimal.
use Rattle.std.proofs.Common.{List, ℕ, Err, subst}
use Rattle.std.specs.Str.Parse.{ParsesUnsigned}
use Rattle.srv_words.proofs.NumberLemmas.{none_not_parsed}
use Rattle.srv_words.proofs.number.decimal_in.Goals as goal

pub returns-in-Err-parse : goal.returns-in-Err-parse
returns-in-Err-parse c =
    let fault = c.in-Err-parse.field-0 in
    none_not_parsed c.args.text.now fault
    (subst (λ (text : List ℕ). ParsesUnsigned 32 10 text (Err fault)) c.in-Ok.ensures.cases.0
    c.in-Err-parse.ensures.value.0)
