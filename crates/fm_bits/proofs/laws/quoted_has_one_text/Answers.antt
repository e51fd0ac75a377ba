-- Quoted texts that are the same come from the same bytes, by the lemma on quoted texts.
use Rattle.fm_bits.proofs.QuotedLemmas.{quoted_injective}
use Rattle.fm_bits.proofs.laws.quoted_has_one_text.Goals as goal

pub returns : goal.returns
returns c =
    λ same. quoted_injective c.args.a.now c.args.b.now (λ i. (c.type_inv.a i).fits) (λ i. (c.type_inv.b i).fits) same
