-- What bytes are at a site that a collection may have is a prototype of a collection.
use Rattle.std.specs.Prelude.{◌≡◌, ◌≤◌, ℕ, List, Result, Ok, Err, IfOk, length}
use Rattle.std.proofs.Common.{subst, sym}
use Rattle.fm_base.specs.Answer.{Answers}
use Rattle.fm_base.specs.declared.fail.Fail.{Fail}
use Rattle.fm_model.specs.declared.proto.ProtoFault.{ProtoFault}
use Rattle.fm_model.specs.declared.limit.TheConstants.{MAX_FILE_BYTES}
use Rattle.fm_model.specs.declared.proto.Proto.{Proto}
use Rattle.fm_model.specs.declared.site.Site.{Site}
use Rattle.fm_model.specs.Prototype.{proto_of}
use Rattle.fm_model.specs.Site.{IsPrototype, IsSite}
use Rattle.fm_model.proofs.ProtoLemmas.{site-proto_of}

pub prototype_of_bytes : (bytes : List ℕ) (site : Site) (proto : Proto) → proto_of bytes site ≡ Ok proto
    → IsSite site → length bytes ≤ MAX_FILE_BYTES → IsPrototype proto
prototype_of_bytes bytes site proto made at few = let same = site-proto_of bytes site proto made in
    record {
      bytes = bytes;
      few = few;
      at = subst IsSite (sym same) at;
      made = subst (λ (s : Site). proto_of bytes s ≡ Ok proto) (sym same) made;
    }

-- and so is what a call returns that gives it
pub prototype_of_answer : (bytes : List ℕ) (site : Site) (result : Result Proto (Fail ProtoFault))
    → Answers (proto_of bytes site) result → IsSite site → length bytes ≤ MAX_FILE_BYTES → IfOk result IsPrototype
prototype_of_answer bytes site (Ok proto) made at few = prototype_of_bytes bytes site proto made at few
prototype_of_answer bytes site (Err fail) made at few = tt
