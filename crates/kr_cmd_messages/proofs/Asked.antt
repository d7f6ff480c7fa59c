-- What the words of a command line ask for.
use Rattle.std.proofs.Common.{◌≡◌, ℕ, ◌≤◌, ◌⊎◌, List, [], length, codes, Option, None, Some, sym, ◌∙◌, ap, subst, inl, inr, arith}
use Rattle.std.specs.Option.{option_map}
use Rattle.std.specs.Prelude.{IfSome}
use Rattle.kr_base.specs.Limits.{path_limit}
use Rattle.kr_base.specs.Rules.{IsPath, IsResource}
use Rattle.kr_words.specs.Grammar.{Means, HasFewReplicas, IsWithinPage, IsWithinSize}
use Rattle.kr_words.specs.Options.{value_of}
use Rattle.kr_words.specs.Rules.{IsCommand, MayHaveEmptyPath}
use Rattle.kr_words.specs.declared.command.Verb.{Verb}
use Rattle.kr_words.specs.declared.command.Verb.TheVariants.{Decrypt, Encrypt, Put}
use Rattle.kr_words.specs.declared.name.OptionName.TheVariants.{Path, Resource}
use Rattle.kr_words.proofs.Values.{value_rule}
use Rattle.kr_words.proofs.Meanings.{mean_one}
use Rattle.kr_cmd_messages.specs.Command.{verb_command, Asks, AskNothing}
use Rattle.kr_cmd_messages.specs.declared.command.Command.{Command}
use Rattle.kr_cmd_messages.proofs.OneCommand.{one_size}

-- a path has at most 1,024 bytes, and the empty one none
short_path : (verb : Verb) (o : Option (List ℕ)) (value : List ℕ) → o ≡ Some value
    → IfSome o (λ v. IsPath v ⊎ (MayHaveEmptyPath verb × (v ≡ []))) → length value ≤ path_limit
short_path verb None value e h = absurd cc
short_path verb (Some v) value e (inl h) = let same : v ≡ value =
    cc in omega (arith, h.1, ap length same)
short_path verb (Some v) value e (inr h) =
    let same : v ≡ value = cc in omega (arith, ap length h.1, ap length same)

pub path_fits : {verb : Verb} {options : List (List ℕ × List ℕ)} → IsCommand verb options
    → {A : Type 0} (value : Option A) (now : A → List ℕ)
    → option_map now value ≡ value_of options (codes "path")
    → IfSome value (λ path. length (now path) ≤ path_limit)
path_fits {verb} {options} command None now e = tt
path_fits {verb} {options} command (Some path) now e = short_path verb _ (now path) (sym e)
    (value_rule {verb = verb} {options = options} Path command)

-- the path and the resource of a value that is put keep their rules
is_path : {verb : Verb} → verb ≡ Put → (o : Option (List ℕ))
    → IfSome o (λ v. IsPath v ⊎ (MayHaveEmptyPath verb × (v ≡ []))) → IfSome o IsPath
is_path e None h = tt
is_path e (Some v) (inl h) = h
is_path e (Some v) (inr (inl m, n)) = absurd (let x : Encrypt ≡ Put = sym m ∙ e in cc)
is_path e (Some v) (inr (inr m, n)) = absurd (let x : Decrypt ≡ Put = sym m ∙ e in cc)

pub put_path : {verb : Verb} {options : List (List ℕ × List ℕ)} → IsCommand verb options
    → verb ≡ Put → (path : Option (List ℕ)) → path ≡ value_of options (codes "path")
    → IfSome path IsPath
put_path {verb} {options} command e path is = subst (λ o. IfSome o IsPath) (sym is)
    (is_path e _ (value_rule {verb = verb} {options = options} Path command))

pub put_resource : {verb : Verb} {options : List (List ℕ × List ℕ)} → IsCommand verb options
    → (resource : Option (List ℕ)) → resource ≡ value_of options (codes "resource")
    → IfSome resource IsResource
put_resource {verb} {options} command resource is = subst (λ o. IfSome o IsResource) (sym is)
    (value_rule {verb = verb} {options = options} Resource command)

module _ {words : List (List ℕ)} {verb : Verb} {options : List (List ℕ × List ℕ)}
    (command : Option Command) (means : Means words verb options)
    (is : command ≡ verb_command verb options) where
  pub asks_nothing : IsWithinSize options × IsWithinPage options → command ≡ None
      → AskNothing words
  asks_nothing (small, page) none other o m =
      let same = mean_one words verb other options o means m in (
        ap (λ v. verb_command v o) (sym same.0) ∙ ap (λ p. verb_command verb p) (sym same.1)
            ∙ sym is ∙ none,
        λ large. one_size (value_of o (codes "size")) (subst IsWithinSize same.1 small) large,
        λ large. one_size (value_of o (codes "limit")) (subst IsWithinPage same.1 page) large,
      )

  pub asks : {some : Command} → HasFewReplicas options → IsWithinSize options
      → IsWithinPage options → command ≡ Some some → Asks words some
  asks few small page found = record {
    verb = verb;
    options = options;
    means = means;
    few = few;
    small = small;
    page = page;
    is = sym is ∙ found;
  }
