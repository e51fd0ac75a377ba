-- What a target asks for, both ways.
use Rattle.std.proofs.Common.{◌≡◌, ⊎_elim, ℕ, ◌+◌, Bool, true, false, cond, ◌==◌, List, [], ◌∷◌, ◌++◌, length, take, drop, codes, Option, Some, None, Result, Ok, refl, sym, ap, ap₂, ◌∙◌, take_all, append_assoc, arith}
use Rattle.std.proofs.lemmas.Option.{same_Some}
use Rattle.std.proofs.Math.Seq.{take-append_seam}
use Rattle.std.specs.List.{list_any}
use Rattle.std.specs.Path.{rsplit_once}
use Rattle.std.specs.Str.{bytes_eq}
use Rattle.percent_encoding.specs.Percent.{percent_decode}
use Rattle.fm_base.proofs.ChainLemmas.{same_Ok}
use Rattle.fm_base.proofs.ListLemmas.{bytes_same}
use Rattle.fm_model.specs.declared.row.ViewName.{ViewName}
use Rattle.fm_model.specs.declared.site.Site.{Site}
use Rattle.web_path.specs.declared.fault.PathFault.{PathFault}
use Rattle.web_path.specs.declared.target.Service.{Service}
use Rattle.web_path.specs.declared.target.Service.TheVariants.{Dds, Das, Dods}
use Rattle.web_path.specs.declared.target.Target.{Target}
use Rattle.web_path.specs.Escape.{bad_escape}
use Rattle.web_path.specs.Path.{path_of, CanBeWritten, IsPathOf, Spelling}
use Rattle.web_path.specs.Reading.{view_of}
use Rattle.web_path.specs.Target.{asked_at, asked_of, asked_of_parts, asked_unless, dot, has_scheme, label_of, path_and_query, question, question_of, served, service_of, slash, target_of, viewed}
use Rattle.web_path.specs.Url.{word_of, IsCut, IsTargetOf}
use Rattle.web_path.proofs.AbsoluteLemmas.{absolute-asked, asked-found, no-scheme, plain-asked}
use Rattle.web_path.proofs.CutLemmas.{after-seam, cut-found, first-cut, first-none, nothing-left, plain-front, rsplit-joined, rsplit-parts}
use Rattle.web_path.proofs.SpelledLemmas.{view_of-path}
use Rattle.web_path.proofs.ViewLemmas.{view_of-some}

-- ---- the word of a service

no-dot : (service : Service) → list_any (λ b. b == dot) (word_of service) ≡ false
no-dot Dds = refl
no-dot Das = refl
no-dot Dods = refl

service-read : (service : Service) → service_of (word_of service) ≡ Some service
unfolding service_of
service-read Dds = refl
service-read Das = refl
service-read Dods = refl

service-said : (word : List ℕ) (service : Service) → service_of word ≡ Some service → word ≡ word_of service
unfolding service_of
service-said word service is =
    by_tests (bytes_eq word (codes "dds")) (bytes_eq word (codes "das")) (bytes_eq word (codes "dods")) refl refl refl
    is
  where
    by_tests : (dds das dods : Bool) → bytes_eq word (codes "dds") ≡ dds → bytes_eq word (codes "das") ≡ das
        → bytes_eq word (codes "dods") ≡ dods
        → cond dds (Some Dds) (cond das (Some Das) (cond dods (Some Dods) None)) ≡ Some service
        → word ≡ word_of service
    by_tests true das dods one two three found =
        bytes_same word (codes "dds") one ∙ ap word_of (same_Some Dds service found)
    by_tests false true dods one two three found =
        bytes_same word (codes "das") two ∙ ap word_of (same_Some Das service found)
    by_tests false false true one two three found =
        bytes_same word (codes "dods") three ∙ ap word_of (same_Some Dods service found)
    by_tests false false false one two three found = absurd (cc)

-- ---- a text that asks for a target is read so

-- the target of a view and a service
target_with : Target → List ℕ → Result Target PathFault
target_with target label = Ok (record target { label = label })

asked-path : (site : Site) (spelling : Spelling) (target : Target) → CanBeWritten site target.view
    → asked_of site (path_of site spelling target.view ++ codes "." ++ word_of target.service) target.constraint
    ≡ target_with target (label_of (path_of site spelling target.view))
unfolding asked_of target_with
asked-path site spelling target written =
    let path : List ℕ = path_of site spelling target.view in
    ap (λ (text : List ℕ). asked_of site text target.constraint)
    (append_assoc path (codes ".") (word_of target.service))
    ∙ ap (asked_of_parts site target.constraint)
    (rsplit-joined dot path (word_of target.service) (no-dot target.service))
    ∙ ap (viewed path (word_of target.service) target.constraint) (view_of-path site spelling target.view written)
    ∙ ap (served path target.constraint target.view) (service-read target.service)

-- what a path and query ask for, cut in two
asked-cut : (site : Site) (text path query : List ℕ) → question_of text ≡ length path
    → take (length path) text ≡ path → drop (length path + 1) text ≡ query
    → asked_at site text ≡ asked_of site (percent_decode path) (percent_decode query)
unfolding asked_at
asked-cut site text path query at front back =
    ap (λ (n : ℕ). asked_of site (percent_decode (take n text)) (percent_decode (drop (n + 1) text))) at
    ∙ ap₂ (λ (l r : List ℕ). asked_of site (percent_decode l) (percent_decode r)) front back

asked-parts : (site : Site) (text path query : List ℕ) → IsCut text path query
    → list_any (λ b. b == question) path ≡ false
    → asked_at site text ≡ asked_of site (percent_decode path) (percent_decode query)
asked-parts site text path query cut plain = ⊎_elim with_query alone cut
  where
    with_query : text ≡ path ++ question ∷ query
        → asked_at site text ≡ asked_of site (percent_decode path) (percent_decode query)
    with_query is = ap (asked_at site) is
        ∙ asked-cut site (path ++ question ∷ query) path query (first-cut question path query plain)
        (take-append_seam path (question ∷ query)) (after-seam question path query)

    alone : (text ≡ path) × (query ≡ [])
        → asked_at site text ≡ asked_of site (percent_decode path) (percent_decode query)
    alone all = ap (asked_at site) all.0
        ∙ asked-cut site path path query (first-none question path plain)
        (take_all (length path) path (omega arith)) (nothing-left path ∙ sym all.1)

-- the path of each view begins with a `/`
path-first : (site : Site) (spelling : Spelling) (target : Target)
    → path_of site spelling target.view ++ codes "." ++ word_of target.service
    ≡ slash ∷ drop 1 (path_of site spelling target.view ++ codes "." ++ word_of target.service)
unfolding path_of
path-first site spelling target = refl

pub target-read : (site : Site) (text : List ℕ) (target : Target) → IsTargetOf site text target
    → target_of site text ≡ Ok target
unfolding target_of target_with
target-read site text target of =
    ap (asked_unless site text) of.escapes
    ∙ ap (asked_at site) (⊎_elim plain (absolute-asked text of.asked) of.asked_is)
    ∙ asked-parts site of.asked of.path of.query of.cut of.plain
    ∙ ap₂ (asked_of site) of.path_is of.query_is
    ∙ asked-path site of.spelling target of.written
    ∙ ap (target_with target) (sym of.label_is)
  where
    plain : of.asked ≡ text → path_and_query text ≡ of.asked
    plain same = plain-asked text (ap has_scheme (sym same)
        ∙ no-scheme of.asked of.path of.query _ of.cut (of.path_is ∙ path-first site of.spelling target)) ∙ sym same

-- ---- a text that is read so asks for the target

-- the parts of a path that asks for a target
record Parts (site : Site) (path constraint : List ℕ) (target : Target) : Type 0 where
  front : List ℕ
  word : List ℕ
  path_is : path ≡ front ++ dot ∷ word
  view_is : view_of site front ≡ Some target.view
  service_is : service_of word ≡ Some target.service
  constraint_is : constraint ≡ target.constraint
  label_is : target.label ≡ label_of front

parts-of : (site : Site) (path constraint : List ℕ) (target : Target) → asked_of site path constraint ≡ Ok target
    → Parts site path constraint target
unfolding asked_of
parts-of site path constraint target is = by_dot (rsplit_once dot path) refl is
  where
    by_service : (parts : List ℕ × List ℕ) (view : ViewName) (service : Option Service)
        → rsplit_once dot path ≡ Some parts → view_of site parts.0 ≡ Some view → service_of parts.1 ≡ service
        → served parts.0 constraint view service ≡ Ok target → Parts site path constraint target
    by_service parts view None cut seen named asked = absurd (cc)
    by_service parts view (Some service) cut seen named asked =
        let same : record { view = view; service = service; constraint = constraint; label = label_of parts.0 }
        ≡ target = same_Ok _ target asked in
        record {
          front = parts.0;
          word = parts.1;
          path_is = rsplit-parts dot path parts cut;
          view_is = seen ∙ ap (λ (t : Target). Some t.view) same;
          service_is = named ∙ ap (λ (t : Target). Some t.service) same;
          constraint_is = ap (λ (t : Target). t.constraint) same;
          label_is = sym (ap (λ (t : Target). t.label) same);
        }

    by_view : (parts : List ℕ × List ℕ) (view : Option ViewName) → rsplit_once dot path ≡ Some parts
        → view_of site parts.0 ≡ view → viewed parts.0 parts.1 constraint view ≡ Ok target
        → Parts site path constraint target
    by_view parts None cut seen asked = absurd (cc)
    by_view parts (Some view) cut seen asked =
        by_service parts view (service_of parts.1) cut seen refl asked

    by_dot : (parts : Option (List ℕ × List ℕ)) → rsplit_once dot path ≡ parts
        → asked_of_parts site constraint parts ≡ Ok target → Parts site path constraint target
    by_dot None cut asked = absurd (cc)
    by_dot (Some parts) cut asked = by_view parts (view_of site parts.0) cut refl asked

pub target-written : (site : Site) (text : List ℕ) (target : Target) → target_of site text ≡ Ok target
    → IsTargetOf site text target
unfolding target_of asked_at
target-written site text target is = by_escape (bad_escape text) refl is
  where
    asked : List ℕ
    asked = path_and_query text

    path : List ℕ
    path = take (question_of asked) asked

    query : List ℕ
    query = drop (question_of asked + 1) asked

    from_parts : bad_escape text ≡ None → Parts site (percent_decode path) (percent_decode query) target
        → IsTargetOf site text target
    from_parts sound parts =
        let at : IsPathOf site parts.front target.view = view_of-some site parts.front target.view parts.view_is in
        record {
          asked = asked;
          path = path;
          query = query;
          spelling = at.spelling;
          asked_is = asked-found text;
          escapes = sound;
          cut = cut-found question asked;
          plain = plain-front question asked;
          path_is = parts.path_is ∙ ap₂ (λ (l r : List ℕ). l ++ dot ∷ r) at.path_is
              (service-said parts.word target.service parts.service_is)
              ∙ sym (append_assoc (path_of site at.spelling target.view) (codes ".") (word_of target.service));
          query_is = parts.constraint_is;
          written = at.written;
          label_is = parts.label_is ∙ ap label_of at.path_is;
        }

    by_escape : (found : Option ℕ) → bad_escape text ≡ found → asked_unless site text found ≡ Ok target
        → IsTargetOf site text target
    by_escape (Some at) same asked = absurd (cc)
    by_escape None same asked =
        from_parts same (parts-of site (percent_decode path) (percent_decode query) target asked)
