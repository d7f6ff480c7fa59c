-- The rules of a command, one by one.
use Rattle.std.proofs.Common.{◌≡◌, ℕ, ◌≤◌, ◌⊎◌, List, [], ◌∷◌, All, AllPairs, Contains, length, eqb, inl, inr, arith, Bool}
use Rattle.std.proofs.Common.{true, false, not, IsTrue, ◌↔◌, leb, refl, sym, ◌∙◌, subst}
use Rattle.std.proofs.lemmas.Bool.{false≢true, leb-true, le-leb}
use Rattle.std.proofs.lemmas.Bool.Decides.{Decides-eqb}
use Rattle.std.proofs.lemmas.Slice.Eq.{bytes_eq-Decides}
use Rattle.std.specs.Str.{bytes_eq}
use Rattle.kr_words.specs.declared.command.Verb.{Verb}
use Rattle.kr_words.specs.Names.{option_text, required_options, optional, IsRepeatable}
use Rattle.kr_words.specs.Options.{count_options}
use Rattle.kr_words.specs.Rules.{before_equals, after_equals, IsPlugin, IsOption, IsOptionValue, HaveTwoNames, IsCommand}
use Rattle.kr_base.specs.Rules.{IsName}
use Rattle.kr_words.proofs.Values.{name_once, option_rule}
use Rattle.kr_words.specs.declared.name.OptionName.{OptionName}
use Rattle.kr_words.specs.declared.name.OptionName.TheVariants.{Config, Resource, Path, Plugin}
use Rattle.kr_words.specs.declared.name.OptionName.TheVariants.{Store, Replica, Reload, File, Seed}
use Rattle.kr_words.specs.declared.name.OptionName.TheVariants.{Size, To, From, Replicas, Show}
use Rattle.kr_words.specs.declared.name.OptionName.TheVariants.{Limit, Since}

abbrev pub all_names : List OptionName
all_names = Config ∷ Resource ∷ Path ∷ Plugin ∷ Store ∷ Replica ∷ Reload ∷ File ∷ Seed ∷ Size
    ∷ To ∷ From ∷ Replicas ∷ Show ∷ Limit ∷ Since ∷ []

-- what holds of each name of the list holds of each name
pub each_name : (P : OptionName → Type 0) → All P all_names → (name : OptionName) → P name
each_name P h Config = h 0 Config (omega arith)
each_name P h Resource = h 1 Config (omega arith)
each_name P h Path = h 2 Config (omega arith)
each_name P h Plugin = h 3 Config (omega arith)
each_name P h Store = h 4 Config (omega arith)
each_name P h Replica = h 5 Config (omega arith)
each_name P h Reload = h 6 Config (omega arith)
each_name P h File = h 7 Config (omega arith)
each_name P h Seed = h 8 Config (omega arith)
each_name P h Size = h 9 Config (omega arith)
each_name P h To = h 10 Config (omega arith)
each_name P h From = h 11 Config (omega arith)
each_name P h Replicas = h 12 Config (omega arith)
each_name P h Show = h 13 Config (omega arith)
each_name P h Limit = h 14 Config (omega arith)
each_name P h Since = h 15 Config (omega arith)

pub or_few : (P : Type 0) (b : Bool) (n m : ℕ) → IsTrue b ↔ P → b ≡ false → n ≡ m
    → IsTrue (leb n 1) ↔ (P ⊎ (m ≤ 1))
or_few P b n m is no_p e = (
  λ t. inr (omega (arith, e, leb-true n 1 t)),
  elim [ inl p ↦ (let a = is.1 p in cc) | inr few ↦ le-leb n 1 (omega (arith, e, few)) ],
)

module _ (verb : Verb) (replicas : ℕ) (option : List ℕ × List ℕ) where
  -- a text that names no option
  pub not_named : {text : List ℕ} → text ≡ option.0
      → ((name : OptionName) → text ≡ option_text name → ⊥)
      → IsTrue false ↔ IsOption verb replicas option
  not_named is none = (λ e. absurd (false≢true e), λ o. absurd (none o.0 (is ∙ o.1)))

  module _ (name : OptionName) (is : option.0 ≡ option_text name) where
    -- an option that isn't the command's
    pub not_its : {may : Bool}
        → IsTrue may ↔ (Contains (required_options verb) name ⊎ Contains (optional verb) name)
        → may ≡ false → IsTrue may ↔ IsOption verb replicas option
    not_its decides no_may = (
      λ e. absurd (false≢true (sym no_may ∙ e)),
      λ o. absurd (let may = decides.1 (subst
          (λ n. Contains (required_options verb) n ⊎ Contains (optional verb) n)
          (name_once o.0 name (sym o.1 ∙ is)) o.2) in cc),
    )

    -- one that is, by its value
    pub its_value : {text : List ℕ} {value : Bool} → text ≡ option.1
        → Contains (required_options verb) name ⊎ Contains (optional verb) name
        → IsTrue value ↔ IsOptionValue verb replicas name text
        → IsTrue value ↔ IsOption verb replicas option
    its_value at may decides = (
      λ t. (name, is, may, subst (IsOptionValue verb replicas name) at (decides.0 t)),
      λ o. decides.1 (subst (IsOptionValue verb replicas name) (sym at)
          (option_rule verb replicas name option o is)),
    )

has_some : (program : List ℕ) (empty : Bool) → empty ≡ eqb (length program) 0
    → IsTrue (not empty) ↔ (1 ≤ length program)
has_some program true e = (
  λ t. absurd (false≢true t),
  λ h. absurd (omega (arith, h, (Decides-eqb (length program) 0).0 (sym e))),
)
has_some [] false e = absurd (false≢true (e ∙ (Decides-eqb 0 0).1 refl))
has_some (byte ∷ program) false e = (λ _. omega arith, λ _. refl)

-- what a value says before and behind its first `=`
module _ (value : List ℕ) {name program : List ℕ} (parts : Contains value 0x3D
    × (name ≡ before_equals value) × (program ≡ after_equals value)) {named : Bool}
    (decides : IsTrue named ↔ IsName name) where
  pub is_plugin : {empty : Bool} → named ≡ true → empty ≡ eqb (length program) 0
      → IsTrue (not empty) ↔ IsPlugin value
  is_plugin {empty} is e = let some = has_some program empty e in (
    λ t. (
      parts.0,
      subst IsName parts.1 (decides.0 is),
      subst (λ l. 1 ≤ length l) parts.2 (some.0 t),
    ),
    λ p. some.1 (subst (λ l. 1 ≤ length l) (sym parts.2) p.2),
  )

  pub not_plugin : named ≡ false → IsTrue named ↔ IsPlugin value
  not_plugin unnamed = (
    λ t. absurd (false≢true (sym unnamed ∙ t)),
    λ p. decides.1 (subst IsName (sym parts.1) p.1),
  )

-- an option that is no plugin has another name than each
pub no_plugin : (later : List ℕ × List ℕ) (before : List (List ℕ × List ℕ)) (a b : List ℕ)
    (r : Bool) → r ≡ not (bytes_eq a b) → r ≡ true → a ≡ later.0 → b ≡ option_text Plugin
    → IsTrue true ↔ All (λ earlier. HaveTwoNames earlier later) before
no_plugin later before a b r is other this that = (
  λ _ k d below first second. absurd (let same =
      (bytes_eq-Decides a b).1 (this ∙ second ∙ sym that) in cc),
  λ _. refl,
)

pub joins : {verb : Verb} {options : List (List ℕ × List ℕ)}
    → All (IsOption verb (count_options options (option_text Replica))) options
    → All (λ name. 1 ≤ count_options options (option_text name)) (required_options verb)
    → ((name : OptionName) → IsRepeatable name ⊎ (count_options options (option_text name) ≤ 1))
    → AllPairs HaveTwoNames options → IsCommand verb options
joins each whole once plugins =
    record { each = each; whole = whole; once = once; plugins = plugins }
