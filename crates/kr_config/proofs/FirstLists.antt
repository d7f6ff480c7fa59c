-- The first entry with a pattern, as a loop finds it.
use Rattle.std.proofs.Common.{◌≡◌, ℕ, ◌+◌, ◌<◌, ◌≤◌, Bool, true, false, List, [], ◌∷◌, length}
use Rattle.std.proofs.Common.{get_or, drop, sym, ◌∙◌, ap, drop-cons, suc, add-one}
use Rattle.std.specs.Prelude.{if◌then◌else◌}
use Rattle.std.specs.List.{list_any}
use Rattle.std.proofs.lemmas.List.{drop_all}
use Rattle.kr_config.specs.declared.pattern.Pattern.{Pattern}
use Rattle.kr_config.specs.declared.settings.Entry.{Entry}
use Rattle.kr_config.specs.declared.who.Who.TheVariants.{Identity}
use Rattle.kr_config.specs.Kept.{entry_lists, rows_of}
use Rattle.kr_config.specs.Lists.{first_list}

at_drop : (test : Pattern → Bool) (entries : List Entry) (i : ℕ) (e : Entry) → i < length entries
    → e ≡ get_or entries i e
    → first_list test (rows_of (drop i entries))
    ≡ first_list test (entry_lists e ∷ rows_of (drop (i + 1) entries))
at_drop test entries i e h is = ap (λ l. first_list test (rows_of l)) (drop-cons entries i e h)
    ∙ ap (λ x. first_list test (entry_lists x ∷ rows_of (drop (suc i) entries))) (sym is)
    ∙ ap (λ n. first_list test (entry_lists e ∷ rows_of (drop n entries))) (sym (add-one i))

pub first_more : (test : Pattern → Bool) (entries : List Entry) (i : ℕ) (e : Entry)
    → i < length entries → e ≡ get_or entries i e → list_any test e.patterns.0 ≡ false
    → first_list test (rows_of (drop i entries)) ≡ first_list test (rows_of (drop (i + 1) entries))
first_more test entries i e h is none =
    at_drop test entries i e h is
    ∙ ap (λ b. if b then e.providers.0 else first_list test (rows_of (drop (i + 1) entries))) none

pub first_found : (test : Pattern → Bool) (entries : List Entry) (i : ℕ) (e : Entry)
    → i < length entries → e ≡ get_or entries i e → list_any test e.patterns.0 ≡ true
    → first_list test (rows_of (drop i entries)) ≡ e.providers.0
first_found test entries i e h is some =
    at_drop test entries i e h is
    ∙ ap (λ b. if b then e.providers.0 else first_list test (rows_of (drop (i + 1) entries))) some

pub first_none : (test : Pattern → Bool) (entries : List Entry) (i : ℕ) → length entries ≤ i
    → first_list test (rows_of (drop i entries)) ≡ Identity ∷ []
first_none test entries i h = ap (λ l. first_list test (rows_of l)) (drop_all i entries h)
