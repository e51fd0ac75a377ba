-- Files that are taken, whatever was looked at before.
use Rattle.std.proofs.Common.{◌≡◌, ℕ, List, [], ◌∷◌, ◌++◌, Bool, true, false, cond, Option, Some, None, Result, Ok, Err, refl, sym, ap, ◌∙◌}
use Rattle.fm_base.specs.Chain.{◌>>=◌}
use Rattle.fm_base.proofs.ChainLemmas.{same_Ok}
use Rattle.fm_model.specs.declared.full.Full.{Full as TooMany}
use Rattle.fm_model.specs.declared.loaded.Loaded.{Loaded}
use Rattle.fm_model.specs.declared.op.Op.{Op}
use Rattle.fm_model.specs.declared.op.Op.TheVariants.{Put, Expire, Retract}
use Rattle.fm_model.specs.declared.proto.Proto.{Proto}
use Rattle.fm_model.specs.Collection.{coll, full_at, holds, holds_older}
use Rattle.pub_look.specs.History.{History, with_op}
use Rattle.srv_alone.specs.declared.end.End.{End}
use Rattle.srv_alone.specs.declared.end.End.TheVariants.{Done, NoMemory, FileFault, LinkFault}
use Rattle.srv_alone.specs.Publishing.{expired, published_or_end, put_or_end, retracted}
use Rattle.srv_alone.specs.Reading.{IsEndOf, loaded_or_end, unless_no_room}
use Rattle.std.specs.Prelude.{⊤, ℤ}

-- every step was done, or memory ran out or a device failed
abbrev pub IsExcused : End → Type 0
IsExcused Done = ⊤
IsExcused NoMemory = ⊤
IsExcused FileFault = ⊤
IsExcused LinkFault = ⊤
IsExcused end = ⊥

-- where there is a value, the end is no other
pub excused-value : {Y : Type 0} (end : End) (defined : Result Y End) (value : Y) → defined ≡ Ok value
    → IsEndOf end defined → IsExcused end
excused-value Done defined value is ends = tt
excused-value NoMemory defined value is ends = tt
excused-value FileFault defined value is ends = tt
excused-value LinkFault defined value is ends = tt
excused-value end defined value is ends = absurd (apart value end (sym is ∙ ends))
  where
    apart : {Y : Type 0} (value : Y) (end : End) → ◌≡◌ {A = Result Y End} (Ok value) (Err end) → ⊥
    apart value end same = cc

-- the same but for the looks
pub record IsAlike (history other : History) : Type 0 where
  pub proto_is : history.proto ≡ other.proto
  pub seen_is : history.seen ≡ other.seen

-- what comes of one comes of the other
pub record Follows (defined : Result History End) (next : History) : Type 0 where
  pub history : History
  pub is : defined ≡ Ok history
  pub alike : IsAlike history next

with_op-alike : (history other : History) (op : Op) → IsAlike history other
    → IsAlike (with_op history op) (with_op other op)
with_op-alike history other op alike = record {
  proto_is = alike.proto_is;
  seen_is = ap (λ (ops : List Op). ops ++ op ∷ []) alike.seen_is;
}

room-alike : (history other next : History) (op : Op) (full : Option TooMany) → IsAlike history other
    → unless_no_room full (with_op other op) ≡ Ok next → Follows (unless_no_room full (with_op history op)) next
room-alike history other next op None alike is = record {
  history = with_op history op;
  is = refl;
  alike = rw (sym (same_Ok (with_op other op) next is)) (with_op-alike history other op alike);
}
room-alike history other next op (Some full) alike is = absurd (apart full next is)
  where
    apart : (full : TooMany) (next : History) → unless_no_room (Some full) next ≡ Ok next → ⊥
    apart full next same = cc

published-alike : (history other next : History) (file : Loaded) → IsAlike history other
    → published_or_end other file ≡ Ok next → Follows (published_or_end history file) next
unfolding published_or_end
published-alike history other next file alike is =
    let same : full_at (coll history.seen) (Put file) ≡ full_at (coll other.seen) (Put file) =
    ap (λ (ops : List Op). full_at (coll ops) (Put file)) alike.seen_is in
    rw same (room-alike history other next (Put file) (full_at (coll other.seen) (Put file)) alike is)

loaded-alike : (history other next : History) (loaded : Result Loaded End) → IsAlike history other
    → (loaded >>= published_or_end other) ≡ Ok next → Follows (loaded >>= published_or_end history) next
loaded-alike history other next (Ok file) alike is = published-alike history other next file alike is
loaded-alike history other next (Err end) alike is = absurd cc

put-alike : (history other next : History) (path bytes : List ℕ) → IsAlike history other
    → put_or_end other path bytes ≡ Ok next → Follows (put_or_end history path bytes) next
unfolding put_or_end
put-alike history other next path bytes alike is =
    let same : loaded_or_end history.proto path bytes ≡ loaded_or_end other.proto path bytes =
    ap (λ (proto : Proto). loaded_or_end proto path bytes) alike.proto_is in
    rw same (loaded-alike history other next (loaded_or_end other.proto path bytes) alike is)

-- a file that one takes, the other takes
pub content-alike : (history other next : History) (path : List ℕ) (content : Result (List ℕ) End)
    → IsAlike history other → (content >>= put_or_end other path) ≡ Ok next
    → Follows (content >>= put_or_end history path) next
content-alike history other next path (Ok bytes) alike is = put-alike history other next path bytes alike is
content-alike history other next path (Err end) alike is = absurd cc

-- an operation that is done only where a test says so
tested-alike : (history other : History) (op : Op) (test : Bool) → IsAlike history other
    → IsAlike (cond test (with_op history op) history) (cond test (with_op other op) other)
tested-alike history other op true alike = with_op-alike history other op alike
tested-alike history other op false alike = alike

pub expired-alike : (history other : History) (cutoff : ℤ) → IsAlike history other
    → IsAlike (expired cutoff history) (expired cutoff other)
expired-alike history other cutoff alike =
    let same : holds_older (coll history.seen) cutoff ≡ holds_older (coll other.seen) cutoff =
    ap (λ (ops : List Op). holds_older (coll ops) cutoff) alike.seen_is in
    rw same (tested-alike history other (Expire cutoff) (holds_older (coll other.seen) cutoff) alike)

pub retracted-alike : (history other : History) (name : List ℕ) → IsAlike history other
    → IsAlike (retracted name history) (retracted name other)
retracted-alike history other name alike =
    let same : holds (coll history.seen) name ≡ holds (coll other.seen) name =
    ap (λ (ops : List Op). holds (coll ops) name) alike.seen_is in
    rw same (tested-alike history other (Retract name) (holds (coll other.seen) name) alike)
