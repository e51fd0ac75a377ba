-- The product is that of the number of marks and the spacing.
use Rattle.std.proofs.Common.{◌≡◌, ◌*◌, ◌∙◌, ℕ, length, ap₂, arith}
use Rattle.dap_xdr.proofs.len.is_next.Goals as goal

pub returns-clause-next : goal.returns-clause-next
returns-clause-next c = λ holds.
    let same : c.from-3.result ≡ c.from.result * c.from-2.result = omega arith in
    let many : c.from.result ≡ length c.args.marks.now = omega arith in
    let each : c.from-2.result ≡ c.args.every = omega arith in
    let here : c.args.element ≡ c.from-3.result = omega arith in
    here ∙ same ∙ ap₂ (λ (a b : ℕ). a * b) many each
