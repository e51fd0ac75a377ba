-- The command is the one whose matches are defined.
use Rattle.std.proofs.Common.{List, ℕ, Bor, map}
use Rattle.clap.specs.Simple.{app_of}
use Rattle.srv_words.proofs.CommandLemmas.{fails_by, used_by}
use Rattle.srv_words.proofs.matches.matched.Goals as goal

pub returns : goal.returns
returns c =
    let words : List (List ℕ) = map (λ (word : Bor (List ℕ)). word.now) c.args.words.now in
    let call = c.try_get_matches_from in
    record {
      used = used_by (app_of c.args.command) words call.result c.requires call.ensures.matches;
      kinds = fails_by (app_of c.args.command) words call.result c.requires call.ensures.kinds;
    }
