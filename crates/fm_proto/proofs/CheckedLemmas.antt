-- A prototype is made once each step was passed.
use Rattle.std.proofs.Common.{◌≡◌, ℕ, List, Result, Ok, Err, refl}
use Rattle.fm_base.specs.Chain.{Check, ◌>>=◌, ◌>>◌}
use Rattle.nc_model.specs.declared.header.Header.{Header}
use Rattle.nc_model.specs.declared.header.NcVar.{NcVar}
use Rattle.fm_model.specs.declared.proto.Proto.{Proto}
use Rattle.fm_model.specs.declared.proto.ProtoFault.{ProtoFault}
use Rattle.fm_model.specs.declared.site.Site.{Site}
use Rattle.fm_model.specs.Prototype.{dims_have_lengths, names_are_free, names_are_plain, proto_axis, proto_header, proto_of, proto_with, time_stands_first}
use Rattle.fm_proto.specs.Checked.{checked_axis, proto_over}

-- what is made of a value after a check
made : {A B E : Type 0} (check : Check E) (a : A) (make : A → B) → (check >> Ok (make a))
    ≡ ((check >> Ok a) >>= (λ x. Ok (make x)))
made (Ok tt) a make = refl
made (Err fault) a make = refl

-- a check before others
after : {A B E : Type 0} (check : Check E) (next : Result B E) (last : Result A E) (make : A → B)
    → next ≡ (last >>= (λ x. Ok (make x))) → (check >> next) ≡ ((check >> last) >>= (λ x. Ok (make x)))
after (Ok tt) next last make same = same
after (Err fault) next last make same = refl

-- the prototype over a header is that of the steps
over : (bytes : List ℕ) (site : Site) (header : Header) (found : Result NcVar ProtoFault)
    → (found >>= (λ axis. time_stands_first header axis >> (names_are_plain header >> (names_are_free header axis
    >> (dims_have_lengths header axis >> Ok (proto_with bytes site header axis))))))
    ≡ ((found >>= (λ axis. time_stands_first header axis >> (names_are_plain header >> (names_are_free header axis
    >> (dims_have_lengths header axis >> Ok axis))))) >>= (λ axis. Ok (proto_with bytes site header axis)))
over bytes site header (Ok axis) =
    let make = λ (a : NcVar). proto_with bytes site header a in
    let lengths = made (dims_have_lengths header axis) axis make in
    let free = after (names_are_free header axis) _ _ make lengths in
    let plain = after (names_are_plain header) _ _ make free in
    after (time_stands_first header axis) _ _ make plain
over bytes site header (Err fault) = refl

-- and the prototype of some bytes is the one over their header
pub proto_of-over : (bytes : List ℕ) (site : Site) → proto_of bytes site
    ≡ (proto_header bytes >>= (λ header. proto_over bytes site header))
unfolding proto_of proto_over checked_axis
proto_of-over bytes site = by_header (proto_header bytes)
  where
    by_header : (found : Result Header ProtoFault)
        → (found >>= (λ header. proto_axis header >>= (λ axis. time_stands_first header axis >> (names_are_plain header
        >> (names_are_free header axis >> (dims_have_lengths header axis
        >> Ok (proto_with bytes site header axis))))))) ≡ (found >>= (λ header. proto_over bytes site header))
    by_header (Ok header) = over bytes site header (proto_axis header)
    by_header (Err fault) = refl

pub ruleset steps = (proto_of-over)
