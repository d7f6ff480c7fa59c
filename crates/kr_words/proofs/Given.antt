-- What a command's options give is there: the numbers and the reload of a command that was read.
use Rattle.std.proofs.Common.{◌≡◌, ℕ, ◌^◌, ◌<◌, ◌≤◌, List, Option, Some, None, IfSome, IsSome}
use Rattle.std.proofs.Common.{IsSomeAnd, MatchOption, refl, sym, subst, arith, Contains}
use Rattle.kr_words.specs.declared.command.Verb.{Verb}
use Rattle.kr_words.specs.declared.command.Verb.TheVariants.{Judge, Plan, Gen, Watch}
use Rattle.kr_words.specs.declared.name.OptionName.{OptionName}
use Rattle.kr_words.specs.declared.name.OptionName.TheVariants.{Limit, Reload, Seed, Since, Size, Replicas}
use Rattle.kr_words.specs.Names.{option_text, required_options}
use Rattle.kr_words.specs.Numerals.{IsDecimal}
use Rattle.kr_words.specs.Options.{value_of}
use Rattle.kr_words.specs.Rules.{IsReloadOption, IsCommand, after_equals}
use Rattle.kr_words.specs.Arguments.{ReadsNumberAt, IsReloadOf, IsWithin}
use Rattle.kr_words.specs.Grammar.{replicas_of, HasFewReplicas}
use Rattle.kr_words.proofs.Values.{value_rule, value_some}

both : (P : List ℕ → Type 0) (o : Option (List ℕ)) → IsSome o → IfSome o P → IsSomeAnd o P
both P None s p = cc
both P (Some v) s p = p

-- the value at a required option, by its rule
given : (P : List ℕ → Type 0) (options : List (List ℕ × List ℕ)) (verb wanted : Verb)
    (name : OptionName) → IsCommand verb options → verb ≡ wanted → Contains (required_options wanted) name
    → IfSome (value_of options (option_text name)) P → IsSomeAnd (value_of options (option_text name)) P
given P options verb wanted name command e has rule =
    both P (value_of options (option_text name))
    (value_some {verb = verb} {options = options} name command
    (subst (λ v. Contains (required_options v) name) (sym e) has)) rule

abbrev ReadsNumber : Option (List ℕ) → Option ℕ → Type 0
ReadsNumber o r = MatchOption r ((n : ℕ) → IsSomeAnd o (λ t. IsDecimal t n) → 2 ^ 64 ≤ n)
    (λ n. IsSomeAnd o (λ t. IsDecimal t n))

some_number : (o : Option (List ℕ)) (r : Option ℕ) (most : ℕ) → most < 2 ^ 64
    → ReadsNumber o r → IsSomeAnd o (λ t. (n : ℕ) × IsDecimal t n × (n ≤ most)) → IsSome r
some_number None r most small m h = absurd h
some_number (Some t) (Some n) most small m h = refl
some_number (Some t) None most small m h = absurd (omega (arith, m h.0 h.1, h.2))

-- a number up to the limit at a required option is read
within_given : (wanted : Verb) (name : OptionName) → Contains (required_options wanted) name
    → {verb : Verb} {options : List (List ℕ × List ℕ)} (r : Option ℕ)
    → ReadsNumberAt options (option_text name) r → IsCommand verb options → verb ≡ wanted
    → IsWithin options (option_text name) 10000 → IsSome r
within_given wanted name has {verb} {options} r m command e within =
    some_number (value_of options (option_text name)) r 10000 (omega arith) m
    (given (λ t. (n : ℕ) × IsDecimal t n × (n ≤ 10000)) options verb wanted name command e has within)

pub size_given : {verb : Verb} {options : List (List ℕ × List ℕ)} (r : Option ℕ)
    → ReadsNumberAt options (option_text Size) r → IsCommand verb options → verb ≡ Gen
    → IsWithin options (option_text Size) 10000 → IsSome r
size_given = within_given Gen Size (1, omega arith, refl)

pub limit_given : {verb : Verb} {options : List (List ℕ × List ℕ)} (r : Option ℕ)
    → ReadsNumberAt options (option_text Limit) r → IsCommand verb options → verb ≡ Watch
    → IsWithin options (option_text Limit) 10000 → IsSome r
limit_given = within_given Watch Limit (3, omega arith, refl)

pub seed_given : {verb : Verb} {options : List (List ℕ × List ℕ)} (r : Option ℕ)
    → ReadsNumberAt options (option_text Seed) r → IsCommand verb options → verb ≡ Gen → IsSome r
seed_given {verb} {options} r m command e =
    some_number (value_of options (option_text Seed)) r 18446744073709551615 (omega arith) m
    (given (λ t. (n : ℕ) × IsDecimal t n × (n ≤ 18446744073709551615)) options verb Gen Seed command
    e (0, omega arith, refl) (value_rule {verb = verb} {options = options} Seed command))

pub since_given : {verb : Verb} {options : List (List ℕ × List ℕ)} (r : Option ℕ)
    → ReadsNumberAt options (option_text Since) r → IsCommand verb options
    → IsSome (value_of options (option_text Since)) → IsSome r
since_given {verb} {options} r m command some =
    some_number (value_of options (option_text Since)) r 18446744073709551615 (omega arith) m
    (both (λ t. (n : ℕ) × IsDecimal t n × (n ≤ 18446744073709551615))
    (value_of options (option_text Since)) some
    (value_rule {verb = verb} {options = options} Since command))

some_between : (o : Option (List ℕ)) (r : Option ℕ)
    → ReadsNumber o r → IsSomeAnd o (λ t. (n : ℕ) × IsDecimal t n × (1 ≤ n))
    → IfSome o (λ t. (n : ℕ) × IsDecimal t n × (n ≤ 16))
    → IsSomeAnd r (λ n. (1 ≤ n) × (n ≤ 16))
some_between None r m h w = absurd h
some_between (Some t) (Some n) m h w =
    (omega (arith, m.1, h.1.1, h.2), omega (arith, m.1, w.1.1, w.2))
some_between (Some t) None m h w = absurd (omega (arith, m w.0 w.1, w.2))

pub planned_given : {verb : Verb} {options : List (List ℕ × List ℕ)} (r : Option ℕ)
    → ReadsNumberAt options (option_text Replicas) r → IsCommand verb options → verb ≡ Plan
    → HasFewReplicas options → IsSomeAnd r (λ n. (1 ≤ n) × (n ≤ 16))
planned_given {verb} {options} r m command e few =
    some_between (value_of options (option_text Replicas)) r m
    (given (λ t. (n : ℕ) × IsDecimal t n × (1 ≤ n)) options verb Plan Replicas command e
    (2, omega arith, refl) (value_rule {verb = verb} {options = options} Replicas command)) few.1

small_reload : {R : Type 0} (number : R → ℕ) (file : R → List ℕ) (o : Option (List ℕ))
    (r : Option R) (replicas : ℕ) → replicas ≤ 16
    → MatchOption r ((n : ℕ) (f : List ℕ) → IsSomeAnd o (λ v. IsReloadOf v n × (f ≡ after_equals v))
    → 2 ^ 64 ≤ n) (λ x. IsSomeAnd o (λ v. IsReloadOf v (number x) × (file x ≡ after_equals v)))
    → IsSomeAnd o (IsReloadOption replicas) → IsSomeAnd r (λ x. number x < replicas)
small_reload number file None r replicas few m h = absurd h
small_reload number file (Some v) (Some x) replicas few m h = omega (arith, m.0.1.1, h.2.1, h.3)
small_reload number file (Some v) None replicas few m h =
    absurd (omega (arith, m h.1 (after_equals v) ((h.0, h.2), refl), h.3))

pub reload_given : {R : Type 0} (number : R → ℕ) (file : R → List ℕ) (verb : Verb)
    (options : List (List ℕ × List ℕ)) (r : Option R) → IsCommand verb options → verb ≡ Judge
    → replicas_of options ≤ 16
    → MatchOption r ((n : ℕ) (f : List ℕ)
    → IsSomeAnd (value_of options (option_text Reload)) (λ v. IsReloadOf v n × (f ≡ after_equals v))
    → 2 ^ 64 ≤ n)
    (λ x. IsSomeAnd (value_of options (option_text Reload))
    (λ v. IsReloadOf v (number x) × (file x ≡ after_equals v)))
    → IsSomeAnd r (λ x. number x < replicas_of options)
reload_given number file verb options r command e few m =
    small_reload number file (value_of options (option_text Reload)) r (replicas_of options) few m
    (given (IsReloadOption (replicas_of options)) options verb Judge Reload command e
    (2, omega arith, refl) (value_rule {verb = verb} {options = options} Reload command))
