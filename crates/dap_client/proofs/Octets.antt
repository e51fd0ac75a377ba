-- A byte as a number is read exactly.
use Rattle.std.proofs.Common.{◌≡◌, ℕ, ◌<◌, List, [], ◌∷◌, refl, arith, slice_index}
use Rattle.dap_client.specs.DataReading.{octet_at}
use Rattle.dap_client.specs.Reading.{bytes_at}
use Rattle.dap_client.proofs.Exactly.{ExactTo}
use Rattle.dap_client.proofs.Joined.{ExactTo-made}
use Rattle.dap_client.proofs.Fixed.{AreBytes, IsBytes-cons, no_bytes, ExactTo-bytes}

-- one byte as a number
pub record IsOctet (text : List ℕ) (bits : ℕ) : Type 0 where
  pub small : bits < 256
  pub text_is : text ≡ bits ∷ []

octet_of : (text bytes : List ℕ) → AreBytes 1 text bytes → IsOctet text (slice_index bytes 0)
octet_of text [] s = absurd (let size = s.size in omega arith)
octet_of text (b ∷ []) s = record { small = s.bytes_are 0; text_is = s.text_is }
octet_of text (b ∷ c ∷ bytes) s = absurd (let size = s.size in omega arith)

pub ExactTo-octet : (n : ℕ) → ExactTo n IsOctet octet_at
unfolding octet_at
ExactTo-octet n =
    ExactTo-made n (AreBytes 1) IsOctet (bytes_at 1) (λ bytes. slice_index bytes 0)
    octet_of
    (λ text bits t.
    (bits ∷ [], record { size = refl; bytes_are = IsBytes-cons bits [] t.small no_bytes; text_is = t.text_is }, refl))
    (ExactTo-bytes n 1)
