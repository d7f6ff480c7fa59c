-- What a command's options give at a name: the value of a required one, by its rule.
use Rattle.std.proofs.Common.{◌≡◌, ℕ, ◌+◌, ◌≤◌, List, [], ◌∷◌, Bool, true, false, cond, Option}
use Rattle.std.proofs.Common.{Some, IfSome, IsSome, All, Contains, codes, refl, sym, ap, ◌∙◌, subst}
use Rattle.std.proofs.Common.{arith, if◌then◌else◌}
use Rattle.std.specs.List.{find}
use Rattle.std.specs.Option.{option_map}
use Rattle.std.specs.Str.{bytes_eq}
use Rattle.std.proofs.lemmas.List.Elements.{All-head, All-tail, All-contains}
use Rattle.std.proofs.lemmas.List.Sums.{sum_by-cons}
use Rattle.std.proofs.lemmas.Slice.Eq.{bytes_eq-Decides}
use Rattle.kr_words.specs.declared.command.Verb.{Verb}
use Rattle.kr_words.specs.declared.name.OptionName.{OptionName}
use Rattle.kr_words.specs.declared.name.OptionName.TheVariants.{Config, Resource, Path, Plugin}
use Rattle.kr_words.specs.declared.name.OptionName.TheVariants.{Store, Replica, Reload, File, Seed}
use Rattle.kr_words.specs.declared.name.OptionName.TheVariants.{Size, To, From, Replicas, Show}
use Rattle.kr_words.specs.declared.name.OptionName.TheVariants.{Limit, Since}
use Rattle.kr_words.specs.Names.{option_text, required_options}
use Rattle.kr_words.specs.Options.{is_named, value_of, count_options}
use Rattle.kr_words.specs.Rules.{IsOptionValue, IsOption, IsCommand}

name_at : List ℕ → OptionName
name_at text =
    if bytes_eq text (codes "config") then Config else (
    if bytes_eq text (codes "resource") then Resource else (
    if bytes_eq text (codes "path") then Path else (
    if bytes_eq text (codes "plugin") then Plugin else (
    if bytes_eq text (codes "store") then Store else (
    if bytes_eq text (codes "replica") then Replica else (
    if bytes_eq text (codes "reload") then Reload else (
    if bytes_eq text (codes "file") then File else (
    if bytes_eq text (codes "seed") then Seed else (
    if bytes_eq text (codes "from") then From else (
    if bytes_eq text (codes "replicas") then Replicas else (
    if bytes_eq text (codes "show") then Show else (
    if bytes_eq text (codes "to") then To else (
    if bytes_eq text (codes "limit") then Limit else (
    if bytes_eq text (codes "since") then Since else Size))))))))))))))

name_at-text : (name : OptionName) → name_at (option_text name) ≡ name
unfolding name_at
name_at-text Config = refl
name_at-text other = refl

-- two names have two texts
pub name_once : (a b : OptionName) → option_text a ≡ option_text b → a ≡ b
name_once a b e = sym (name_at-text a) ∙ ap name_at e ∙ name_at-text b

pub option_rule : (verb : Verb) (replicas : ℕ) (name : OptionName) (option : List ℕ × List ℕ)
    → IsOption verb replicas option → option.0 ≡ option_text name → IsOptionValue verb replicas name option.1
option_rule verb replicas name option is e =
    subst (λ n. IsOptionValue verb replicas n option.1) (name_once is.0 name (sym is.1 ∙ e)) is.3

first_rule : (P : List ℕ → Type 0) (option : List ℕ × List ℕ) (found : Bool)
    (behind : Option (List ℕ × List ℕ)) → (found ≡ true → P option.1)
    → IfSome (option_map (λ o. o.1) behind) P
    → IfSome (option_map (λ o. o.1) (cond found (Some option) behind)) P
first_rule P option true behind here next = here refl
first_rule P option false behind here next = next

each_rule : (verb : Verb) (replicas : ℕ) (name : OptionName) (options : List (List ℕ × List ℕ))
    → All (IsOption verb replicas) options
    → IfSome (value_of options (option_text name)) (IsOptionValue verb replicas name)
each_rule verb replicas name [] each = tt
each_rule verb replicas name (option ∷ options) each =
    first_rule (IsOptionValue verb replicas name) option (is_named (option_text name) option)
    (find (is_named (option_text name)) options)
    (λ e. option_rule verb replicas name option
    (All-head (IsOption verb replicas) option options each)
    ((bytes_eq-Decides option.0 (option_text name)).0 e))
    (each_rule verb replicas name options (All-tail (IsOption verb replicas) option options each))

-- the value at a name keeps the name's rule
pub value_rule : {verb : Verb} {options : List (List ℕ × List ℕ)} (name : OptionName)
    → IsCommand verb options → IfSome (value_of options (option_text name))
    (IsOptionValue verb (count_options options (option_text Replica)) name)
value_rule {verb} {options} name m =
    each_rule verb (count_options options (option_text Replica)) name options m.each

first_some : (option : List ℕ × List ℕ) (found : Bool) (behind : Option (List ℕ × List ℕ)) (n : ℕ)
    → 1 ≤ cond found 1 0 + n → (1 ≤ n → IsSome (option_map (λ o. o.1) behind))
    → IsSome (option_map (λ o. o.1) (cond found (Some option) behind))
first_some option true behind n h next = refl
first_some option false behind n h next = next (omega (arith, h))

counted_some : (name : List ℕ) (options : List (List ℕ × List ℕ)) → 1 ≤ count_options options name
    → IsSome (value_of options name)
counted_some name [] h = absurd (omega (arith, h))
counted_some name (option ∷ options) h =
    first_some option (is_named name option) (find (is_named name) options) (count_options options name)
    (subst (λ n. 1 ≤ n) (sum_by-cons (λ o. cond (is_named name o) 1 0) option options) h)
    (counted_some name options)

-- a command has a value at each name that it requires
pub value_some : {verb : Verb} {options : List (List ℕ × List ℕ)} (name : OptionName)
    → IsCommand verb options → Contains (required_options verb) name
    → IsSome (value_of options (option_text name))
value_some {verb} {options} name m has =
    counted_some (option_text name) options
    (All-contains (λ n. 1 ≤ count_options options (option_text n)) (required_options verb) name m.whole has)
