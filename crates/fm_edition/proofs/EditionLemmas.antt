-- What an edition keeps: at the start, after an operation, and after a log.
use Rattle.std.proofs.Common.{◌≤◌, List, [], ◌∷◌, ◌++◌, get_or, arith}
use Rattle.std.specs.Prelude.{All, fold, not, int_le}
use Rattle.std.specs.Str.{bytes_eq}
use Rattle.std.proofs.lemmas.List.Elements.{All-append, All-filter, All-nil}
use Rattle.fm_model.specs.declared.full.Which.{Which}
use Rattle.fm_model.specs.declared.full.Which.TheVariants.{Files, Rows, Size}
use Rattle.fm_model.specs.declared.loaded.Loaded.{Loaded}
use Rattle.fm_model.specs.declared.op.Op.{Op}
use Rattle.fm_model.specs.declared.op.Op.TheVariants.{Put, Expire, Retract}
use Rattle.fm_model.specs.declared.proto.Proto.{Proto}
use Rattle.fm_model.specs.Collection.{after_op, coll, kept_from, tally, without, limit_of, number_of, DifferInName}
use Rattle.fm_model.specs.Load.{Fits}
use Rattle.fm_model.specs.Site.{IsPrototype}
use Rattle.fm_model.proofs.CollectionLemmas.{differ_after}
use Rattle.fm_model.proofs.FullLemmas.{full_at-none}
use Rattle.fm_model.proofs.Members.{All-from_each, AllPairs-from_each, each_from_AllPairs}
use Rattle.fm_model.proofs.TimeLemmas.{few-times, times_are_instants, times_differ}
use Rattle.fm_edition.specs.Held.{Held, held_after, IsEdition, OpFits}
use Rattle.fm_list.specs.Selected.{AreSound}
use Rattle.fm_edition.specs.Log.{CanFollow, held_of, IsLog, IsLogFrom}

within_none : (which : Which) → number_of which (tally []) ≤ limit_of which
unfolding tally
within_none Files = omega arith
within_none Rows = omega arith
within_none Size = omega arith

-- no files are an edition of each prototype
pub IsEdition-none : (proto : Proto) → IsPrototype proto → IsEdition (record { proto = proto; files = [] })
IsEdition-none proto is = record {
  prototype = is;
  fit = All-nil (λ file. Fits file proto);
  differ = AllPairs-from_each DifferInName [] tt;
  within = within_none;
}

fit_after : (proto : Proto) (files : List Loaded) (op : Op) → All (λ file. Fits file proto) files → OpFits proto op
    → All (λ file. Fits file proto) (after_op files op)
unfolding after_op without kept_from
fit_after proto files (Put file) all fits =
    let P = λ (f : Loaded). Fits f proto in
    All-append P (without file.name files) (file ∷ [])
    (All-filter (λ (f : Loaded). not (bytes_eq f.name file.name)) P files all)
    (All-from_each P (file ∷ []) (fits, tt))
fit_after proto files (Expire cutoff) all fits = All-filter (λ (f : Loaded). int_le cutoff f.run)
    (λ f. Fits f proto) files all
fit_after proto files (Retract name) all fits = All-filter (λ (f : Loaded). not (bytes_eq f.name name))
    (λ f. Fits f proto) files all

-- what an operation leaves is an edition, where it can be done
pub IsEdition-after : (held : Held) (op : Op) → IsEdition held → CanFollow held.proto held.files op
    → IsEdition (held_after held op)
IsEdition-after held op is can = record {
  prototype = is.prototype;
  fit = fit_after held.proto held.files op is.fit can.fits;
  differ = AllPairs-from_each DifferInName (after_op held.files op)
      (differ_after held.files op (each_from_AllPairs DifferInName held.files is.differ));
  within = (full_at-none held.files op).0 can.within;
}

-- what a log leaves is an edition
edition_from : (held : Held) (ops : List Op) → IsEdition held → IsLogFrom held.proto held.files ops
    → IsEdition (record { proto = held.proto; files = fold after_op held.files ops })
edition_from held [] is log = is
edition_from held (op ∷ ops) is log = edition_from (held_after held op) ops (IsEdition-after held op is log.0) log.1

-- what the operations of a log leave is an edition
pub IsEdition-from_log : (proto : Proto) (ops : List Op) → IsPrototype proto → IsLog proto ops
    → IsEdition (held_of proto ops)
unfolding coll
IsEdition-from_log proto ops is log = edition_from (record { proto = proto; files = [] }) ops
    (IsEdition-none proto is) log

log_push : (proto : Proto) (files : List Loaded) (ops : List Op) (op : Op) → IsLogFrom proto files ops
    → CanFollow proto (fold after_op files ops) op → IsLogFrom proto files (ops ++ op ∷ [])
log_push proto files [] op log can = (can, tt)
log_push proto files (first ∷ ops) op log can = (log.0, log_push proto (after_op files first) ops op log.1 can)

-- a log grows by an operation that can be done to what it leaves
pub IsLog-push : (proto : Proto) (ops : List Op) (op : Op) → IsLog proto ops → CanFollow proto (coll ops) op
    → IsLog proto (ops ++ op ∷ [])
unfolding coll
IsLog-push proto ops op log can = log_push proto [] ops op log can

log_front : (proto : Proto) (files : List Loaded) (ops more : List Op) → IsLogFrom proto files (ops ++ more)
    → IsLogFrom proto files ops
log_front proto files [] more log = tt
log_front proto files (op ∷ ops) more log = (log.0, log_front proto (after_op files op) ops more log.1)

-- the front of a log is one
pub IsLog-front : (proto : Proto) (ops more : List Op) → IsLog proto (ops ++ more) → IsLog proto ops
IsLog-front proto ops more log = log_front proto [] ops more log

follows : (proto : Proto) (files : List Loaded) (before after : List Op) (op : Op)
    → IsLogFrom proto files (before ++ op ∷ after) → CanFollow proto (fold after_op files before) op
follows proto files [] after op log = log.0
follows proto files (first ∷ before) after op log = follows proto (after_op files first) before after op log.1

-- each operation of a log can be done to what those before it leave
pub CanFollow-from_log : (proto : Proto) (before after : List Op) (op : Op) → IsLog proto (before ++ op ∷ after)
    → CanFollow proto (coll before) op
unfolding coll
CanFollow-from_log proto before after op log = follows proto [] before after op log

-- files that fit have sound times
pub times_are_sound : (proto : Proto) (files : List Loaded) → All (λ file. Fits file proto) files → AreSound files
times_are_sound proto files fit = λ k d lt.
    let file = get_or files k d in
    record {
      few = few-times file proto (fit k d lt);
      differ = times_differ file proto (fit k d lt);
      instants = times_are_instants file proto (fit k d lt);
    }
