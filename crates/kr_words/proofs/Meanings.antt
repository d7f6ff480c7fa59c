-- Words mean at most one command, and what follows for each refusal.
use Rattle.std.proofs.Common.{◌≡◌, ℕ, ◌≤◌, ◌<◌, inl, inr, List, ◌∷◌, Option, Some, None, IfSome, IsSomeAnd}
use Rattle.std.proofs.Common.{codes, refl, sym, ap, ◌∙◌, subst, arith, if◌then◌else◌}
use Rattle.std.specs.Str.{bytes_eq}
use Rattle.std.proofs.lemmas.List.Elements.{All-weaker, recursion_from_All}
use Rattle.kr_words.specs.declared.command.Verb.TheVariants.{Verify}
use Rattle.kr_words.specs.declared.command.Verb.{Verb}
use Rattle.kr_words.specs.declared.command.Verb.TheVariants.{Encrypt, Decrypt, Check, Inspect, Put}
use Rattle.kr_words.specs.declared.command.Verb.TheVariants.{Get, Rows, Migrate, Judge, Plan, Rewrite}
use Rattle.kr_words.specs.declared.command.Verb.TheVariants.{Fleet, Gen, Watch}
use Rattle.kr_words.specs.declared.name.OptionName.{OptionName}
use Rattle.kr_words.specs.declared.name.OptionName.TheVariants.{Config, Resource, Path, Plugin}
use Rattle.kr_words.specs.declared.name.OptionName.TheVariants.{Store, Replica, Reload, File, Seed}
use Rattle.kr_words.specs.declared.name.OptionName.TheVariants.{Size, To, From, Replicas, Show}
use Rattle.kr_words.specs.declared.name.OptionName.TheVariants.{Limit, Since}
use Rattle.kr_words.specs.Names.{word_of, option_text}
use Rattle.kr_words.specs.Options.{value_of, count_options}
use Rattle.kr_words.specs.Numerals.{IsDecimal}
use Rattle.kr_words.specs.Rules.{IsOption, IsCommand}
use Rattle.kr_words.specs.Grammar.{SpellsOptions, Means, HasManyReplicas, IsAbovePage, IsAboveSize}
use Rattle.kr_words.specs.inner.Spelling.{IsPlain, ArePlain, HasNoSmall, HasNoFewReplicas}
use Rattle.kr_words.proofs.Spellings.{spelled_once}
use Rattle.kr_words.proofs.Values.{value_rule}

verb_at : List ℕ → Verb
verb_at word =
    if bytes_eq word (codes "encrypt") then Encrypt else (
    if bytes_eq word (codes "decrypt") then Decrypt else (
    if bytes_eq word (codes "check") then Check else (
    if bytes_eq word (codes "inspect") then Inspect else (
    if bytes_eq word (codes "put") then Put else (
    if bytes_eq word (codes "get") then Get else (
    if bytes_eq word (codes "verify") then Verify else (
    if bytes_eq word (codes "list") then Rows else (
    if bytes_eq word (codes "judge") then Judge else (
    if bytes_eq word (codes "rewrite") then Rewrite else (
    if bytes_eq word (codes "fleet") then Fleet else (
    if bytes_eq word (codes "plan") then Plan else (
    if bytes_eq word (codes "migrate") then Migrate else (
    if bytes_eq word (codes "watch") then Watch else Gen)))))))))))))

verb_at-word : (verb : Verb) → verb_at (word_of verb) ≡ verb
unfolding verb_at
verb_at-word Encrypt = refl
verb_at-word other = refl

-- two commands have two words
word_once : (verb verb' : Verb) → word_of verb ≡ word_of verb' → verb ≡ verb'
word_once verb verb' e = sym (verb_at-word verb) ∙ ap verb_at e ∙ verb_at-word verb'

plain_text : (name : OptionName) → IsPlain (option_text name)
plain_text Config = grind arith
plain_text other = grind arith

-- the options of a command have plain names
plain_options : {verb : Verb} {options : List (List ℕ × List ℕ)} → IsCommand verb options
    → ArePlain options
plain_options {verb} {options} m =
    recursion_from_All (λ option. IsPlain option.0) options
    (All-weaker (IsOption verb (count_options options (option_text Replica))) (λ option. IsPlain option.0)
    (λ option is. subst IsPlain (sym is.1) (plain_text is.0)) options m.each)

-- words that mean a command mean no other
agree : (words : List (List ℕ)) (verb verb' : Verb) (rest : List (List ℕ))
    (options options' : List (List ℕ × List ℕ)) → words ≡ word_of verb ∷ rest → ArePlain options
    → SpellsOptions rest options → Means words verb' options' → (verb ≡ verb') × (options ≡ options')
agree words verb verb' rest options options' e plain spelled m =
    let f = m.word in
    let same_word : word_of verb ≡ word_of verb' = cc in
    let same_rest : m.rest ≡ rest = cc in (
      word_once verb verb' same_word,
      spelled_once rest options options' plain (plain_options m.command) spelled
          (subst (λ r. SpellsOptions r options') same_rest m.spelled),
    )

pub mean_one : (words : List (List ℕ)) (verb verb' : Verb)
    (options options' : List (List ℕ × List ℕ)) → Means words verb options
    → Means words verb' options' → (verb ≡ verb') × (options ≡ options')
mean_one words verb verb' options options' m m' =
    agree words verb verb' m.rest options options' m.word (plain_options m.command) m.spelled m'

pub unspelled : (words : List (List ℕ)) (word : List ℕ) (rest : List (List ℕ)) → words ≡ word ∷ rest
    → ((options : List (List ℕ × List ℕ)) → ArePlain options → SpellsOptions rest options → ⊥)
    → (verb : Verb) (options : List (List ℕ × List ℕ)) → Means words verb options → ⊥
unspelled words word rest e none verb options m =
    let f = m.word in
    let same_rest : m.rest ≡ rest = cc in
    none options (plain_options m.command) (subst (λ r. SpellsOptions r options) same_rest m.spelled)

pub misruled : (words : List (List ℕ)) (verb : Verb) (rest : List (List ℕ))
    (options : List (List ℕ × List ℕ)) → words ≡ word_of verb ∷ rest → ArePlain options
    → SpellsOptions rest options → (IsCommand verb options → ⊥)
    → (verb' : Verb) (options' : List (List ℕ × List ℕ)) → Means words verb' options' → ⊥
misruled words verb rest options e plain spelled none verb' options' m =
    let same = agree words verb verb' rest options options' e plain spelled m in
    none (subst (λ v. IsCommand v options) (sym same.0)
    (subst (IsCommand verb') (sym same.1) m.command))

-- Words that were taken apart mean the command with the options, and what is known besides of these
-- holds of them. `seen` are the options as they were lent.
pub means_with : (P : List (List ℕ × List ℕ) → Type 0) {words rest : List (List ℕ)}
    {first word : List ℕ} {verb : Verb} {options seen : List (List ℕ × List ℕ)}
    → words ≡ first ∷ rest → word ≡ first → word ≡ word_of verb → SpellsOptions rest options
    → seen ≡ options → IsCommand verb seen → (IsCommand verb options → P options)
    → (v : Verb) × (o : List (List ℕ × List ℕ)) × Means words v o × P o
means_with P {words} {rest} {first} {word} {verb} {options} e is said spelled same command besides =
    let front : words ≡ word_of verb ∷ rest = cc in
    let made : IsCommand verb options = subst (IsCommand verb) same command in (
      verb,
      options,
      record { rest = rest; word = front; spelled = spelled; command = made },
      besides made,
    )

larger : (limit : ℕ) (size : Option (List ℕ))
    → IfSome size (λ text. (n : ℕ) × IsDecimal text n × (1 ≤ n))
    → IsSomeAnd size (λ text. (n : ℕ) → IsDecimal text n → limit < n)
    → IsSomeAnd size (λ text. (n : ℕ) × IsDecimal text n × (limit < n))
larger limit None rule none = none
larger limit (Some text) rule none = (rule.0, rule.1, none rule.0 rule.1)

-- a size is a number, so that one with no small number is one above
pub above : {verb : Verb} {options : List (List ℕ × List ℕ)} → IsCommand verb options
    → HasNoSmall options (option_text Size) 10000 → IsAboveSize options
above {verb} {options} m none =
    larger 10000 (value_of options (option_text Size)) (value_rule Size m) none

-- and where there are no few replicas there are many
pub many : {verb : Verb} {options : List (List ℕ × List ℕ)} → IsCommand verb options
    → HasNoFewReplicas options → HasManyReplicas options
many {verb} {options} m (inl files) = inl files
many {verb} {options} m (inr none) =
    inr (larger 16 (value_of options (option_text Replicas)) (value_rule Replicas m) none)

-- and so is the number of a page's items
pub above_page : {verb : Verb} {options : List (List ℕ × List ℕ)} → IsCommand verb options
    → HasNoSmall options (option_text Limit) 10000 → IsAbovePage options
above_page {verb} {options} m none =
    larger 10000 (value_of options (option_text Limit)) (value_rule Limit m) none
