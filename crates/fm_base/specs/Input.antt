-- What a reader reads from.
use Rattle.std.specs.Prelude.{ℕ, List, refl}
use Rattle.std.specs.Coded.{Coded, code_by, coded×, coded_ℕ, coded_list}

-- the remaining bytes, and the offset of the first of them in the whole
pub record Input : Type 0 where
  pub at : ℕ
  pub rest : List ℕ

-- an input is stored as the pair of its fields
abbrev pub input_code : Coded Input
input_code = code_by (ℕ × List ℕ) (coded× coded_ℕ (coded_list coded_ℕ)) (λ i. (i.at, i.rest))
    (λ p. record { at = p.0; rest = p.1 }) (λ _. refl)

-- all of the bytes, from offset 0
abbrev pub whole : List ℕ → Input
whole bytes = record { at = 0; rest = bytes }
