-- The digits fit 128 bits, so no bit is shifted out.
use Rattle.std.proofs.Common.{◌≡◌, ℕ, ◌+◌, ◌-◌, ◌*◌, ◌/◌, ◌%◌, ◌^◌, List, [], ◌∷◌, ◌++◌, OnOk, ap, sym, ◌∙◌, subst}
use Rattle.std.proofs.lemmas.Bool.{cond-false, ne_eqb}
use Rattle.std.proofs.lemmas.List.{append_assoc}
use Rattle.fm_bits.specs.Digits.{fixed_digits}
use Rattle.fm_bits.specs.Text.{hex_fraction, high_index}
use Rattle.fm_bits.proofs.Powers.{hex_digits_fit}
use Rattle.fm_bits.proofs.hexadecimal.put_fraction.Goals as goal

pub returns : goal.returns
unfolding hex_fraction high_index
returns c =
    let width = high_index c.args.odd in
    let count = (width + 3) / 4 in
    let digits = λ (n : ℕ). fixed_digits 16 count n in
    let whole : (c.from.result * 2 ^ (4 * count - width)) % 2 ^ 128 ≡ c.args.odd * 2 ^ (4 * count - width) =
    ap (λ x. (x * 2 ^ (4 * count - width)) % 2 ^ 128) c.from.ensures
    ∙ hex_digits_fit c.args.odd width c.ranges.odd.fits in
    let written : c.push.new.self ++ digits ((c.from.result * 2 ^ (4 * count - width)) % 2 ^ 128)
    ≡ c.args.out.now ++ hex_fraction c.args.odd =
    ap (λ x. x ++ digits ((c.from.result * 2 ^ (4 * count - width)) % 2 ^ 128)) c.in_ok-push.ensures.ok
    ∙ append_assoc c.args.out.now (46 ∷ []) _
    ∙ ap (λ x. c.args.out.now ++ (46 ∷ [] ++ digits x)) whole
    ∙ ap (λ x. c.args.out.now ++ x) (sym (cond-false _ _ _ (ne_eqb width 0 c.if-width-eq0.false))) in
    subst (λ (x : List ℕ). OnOk c.put_digits.result (c.put_digits.new.out ≡ x)) written c.put_digits.ensures
