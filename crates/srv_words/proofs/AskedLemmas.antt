-- Words that ask for a text are no job.
use Rattle.std.proofs.Common.{◌≡◌, ◌∙◌, ◌⊎◌, ℕ, Bool, true, false, List, [], ◌∷◌, Option, Some, None, refl, ap, codes, inl, inr}
use Rattle.std.proofs.lemmas.Bool.{cases_Bool}
use Rattle.std.specs.Prelude.{if◌then◌else◌, is_some, option_map}
use Rattle.std.specs.List.{list_all}
use Rattle.std.specs.Str.{bytes_eq, is_utf8}
use Rattle.fm_base.proofs.ListLemmas.{bytes_same}
use Rattle.clap.proofs.OnLiterals.{clap_on_literals}
use Rattle.clap.specs.Walk.{Text}
use Rattle.srv_words.specs.declared.asked.Asked.{Asked}
use Rattle.srv_words.specs.declared.asked.Asked.TheVariants.{Help, HelpOf, Version}
use Rattle.srv_words.specs.declared.job.Command.{Command}
use Rattle.srv_words.specs.declared.job.Command.TheVariants.{Once, Twod, Extract, Pull, Check, Load, Serve, Many}
use Rattle.srv_words.specs.Asked.{asked_alone, asked_behind, asked_of, command_named}
use Rattle.srv_words.specs.Command.{is_taken, name_of}
use Rattle.srv_words.specs.Jobs.{job_of, job_of_texts}
use Rattle.srv_words.proofs.CommandLemmas.{fmrcd_on_literals}
use Rattle.srv_words.proofs.FoundLemmas.{job_refused, job_unread}

-- words that the command doesn't take are no job
refused : (words : List Text) → is_taken words ≡ false → job_of words ≡ None
unfolding job_of
refused words is =
    elim (cases_Bool (list_all is_utf8 words)) [
      | inl read ↦ ap (λ (b : Bool). if b then job_of_texts words else None) read ∙ job_refused words is
      | inr unread ↦ job_unread words unread
    ]

help_alone : is_taken (codes "--help" ∷ []) ≡ false
unfolding clap_on_literals is_taken fmrcd_on_literals
help_alone = refl

version_alone : is_taken (codes "--version" ∷ []) ≡ false
unfolding clap_on_literals is_taken fmrcd_on_literals
version_alone = refl

help_behind : (command : Command) → is_taken (name_of command ∷ codes "--help" ∷ []) ≡ false
unfolding clap_on_literals is_taken fmrcd_on_literals
help_behind Once = refl
help_behind Twod = refl
help_behind Extract = refl
help_behind Pull = refl
help_behind Check = refl
help_behind Load = refl
help_behind Serve = refl
help_behind Many = refl

-- what is there by a test or by the rest
either : {A : Type 0} (test : Bool) (x : A) (rest : Option A) → is_some (if test then Some x else rest) ≡ true
    → (test ≡ true) ⊎ (is_some rest ≡ true)
either true x rest is = inl refl
either false x rest is = inr is

-- what is there only where a test passes
only : {A : Type 0} (test : Bool) (x : Option A) → is_some (if test then x else None) ≡ true
    → (test ≡ true) × (is_some x ≡ true)
only true x is = (refl, is)
only false x is = absurd cc

mapped : {A B : Type 0} (f : A → B) (x : Option A) → is_some (option_map f x) ≡ true → is_some x ≡ true
mapped f (Some x) is = refl
mapped f None is = absurd cc

-- a name that is the word of a command, or names a command by the rest
word_or : {P : Type 0} (command : Command) (name : Text) (rest : Option Command)
    → is_some (if bytes_eq name (name_of command) then Some command else rest) ≡ true
    → ((found : Command) × (name ≡ name_of found) → P) → (is_some rest ≡ true → P) → P
word_or command name rest is by_word by_rest =
    elim (either (bytes_eq name (name_of command)) command rest is) [
      | inl same ↦ by_word (command, bytes_same name (name_of command) same)
      | inr others ↦ by_rest others
    ]

-- a name that names a command is its word
named : (name : Text) → is_some (command_named name) ≡ true → (command : Command) × (name ≡ name_of command)
unfolding command_named
named name is =
    word_or Once name _ is (λ found. found) (λ others.
    word_or Twod name _ others (λ found. found) (λ others.
    word_or Extract name _ others (λ found. found) (λ others.
    word_or Pull name _ others (λ found. found) (λ others.
    word_or Check name _ others (λ found. found) (λ others.
    word_or Load name _ others (λ found. found) (λ others.
    word_or Serve name _ others (λ found. found) (λ others.
    word_or Many name None others (λ found. found) (λ none. absurd cc))))))))

refused_as : (word text : Text) → bytes_eq word text ≡ true → is_taken (text ∷ []) ≡ false → job_of (word ∷ []) ≡ None
refused_as word text same is =
    ap (λ (w : Text). job_of (w ∷ [])) (bytes_same word text same) ∙ refused (text ∷ []) is

alone : (word : Text) → is_some (asked_alone word) ≡ true → job_of (word ∷ []) ≡ None
unfolding asked_alone
alone word is =
    elim (either (bytes_eq word (codes "--help")) Help _ is) [
      | inl help ↦ refused_as word (codes "--help") help help_alone
      | inr others ↦
          let version = (only (bytes_eq word (codes "--version")) (Some Version) others).0 in
          refused_as word (codes "--version") version version_alone
    ]

behind : (name word : Text) → is_some (asked_behind name word) ≡ true → job_of (name ∷ word ∷ []) ≡ None
unfolding asked_behind
behind name word is =
    let parts = only (bytes_eq word (codes "--help")) (option_map HelpOf (command_named name)) is in
    let command = named name (mapped HelpOf (command_named name) parts.1) in
    ap (λ (w : Text). job_of (name ∷ w ∷ [])) (bytes_same word (codes "--help") parts.0)
    ∙ ap (λ (n : Text). job_of (n ∷ codes "--help" ∷ [])) command.1 ∙ refused _ (help_behind command.0)

-- words that ask for a text are no job
pub asked_none : (words : List Text) → is_some (asked_of words) ≡ true → job_of words ≡ None
unfolding asked_of
asked_none [] is = absurd cc
asked_none (word ∷ []) is = alone word is
asked_none (name ∷ word ∷ []) is = behind name word is
asked_none (first ∷ second ∷ third ∷ more) is = absurd cc
