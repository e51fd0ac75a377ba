-- The four parts, one after the other.
use Rattle.std.proofs.Common.{◌≡◌, List, ℕ, ℤ, ◌++◌, OnOk, SFits, w32, w64, codes, rules, ap, ◌∙◌, subst}
use Rattle.std.proofs.lemmas.Int.{to_z-of_z}
use Rattle.std.proofs.lemmas.List.{append_assoc}
use Rattle.fm_bits.specs.Text.{exponent_text, hex_fraction, hex_text}
use Rattle.fm_bits.proofs.hexadecimal.put_hexadecimal.Goals as goal

-- four texts after a first one
append_four : (out a b c d : List ℕ) → out ++ a ++ b ++ c ++ d ≡ out ++ (a ++ b ++ c ++ d)
append_four out a b c d =
    ap (λ l. l ++ d) (ap (λ l. l ++ c) (append_assoc out a b) ∙ append_assoc out (a ++ b) c)
    ∙ append_assoc out (a ++ b ++ c) d

pub returns : goal.returns
unfolding hex_text
returns c =
    let out = c.args.out.now in
    let fraction = hex_fraction c.args.odd in
    let text = λ (e : ℤ). exponent_text e in
    let before : c.push.new.self ≡ out ++ codes "0x1" ++ fraction ++ codes "p" =
    c.in_ok-push.ensures.ok
    ∙ ap (λ l. l ++ codes "p") (c.in_ok-put_fraction.ensures ∙ ap (λ l. l ++ fraction) c.in_ok-append.ensures.ok) in
    let fits : SFits w32 c.args.exponent = c.ranges.exponent in
    let high_fits : SFits w64 c.high_exponent.result = search rules in
    let high = simp to_z-of_z at c.high_exponent.ensures in
    let put = simp to_z-of_z at c.put_exponent.ensures in
    let written : c.push.new.self ++ text c.high_exponent.result ≡ out ++ hex_text c.args.odd c.args.exponent =
    ap (λ l. l ++ text c.high_exponent.result) before
    ∙ append_four out (codes "0x1") fraction (codes "p") (text c.high_exponent.result)
    ∙ ap (λ e. out ++ (codes "0x1" ++ fraction ++ codes "p" ++ text e)) high in
    subst (λ (x : List ℕ). OnOk c.put_exponent.result (c.put_exponent.new.out ≡ x)) written put
