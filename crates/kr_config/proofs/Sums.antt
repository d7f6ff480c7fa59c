-- Sums over entries, as loops make them.
use Rattle.std.proofs.Common.{◌≡◌, ℕ, ◌+◌, ◌<◌, ◌≤◌, ◌^◌, List, length, get_or, take, count_by}
use Rattle.std.proofs.Common.{Bool, ap, ◌∙◌, arith, Fits, w64}
use Rattle.std.specs.List.{sum_by}
use Rattle.std.proofs.lemmas.List.{take_all}
use Rattle.std.proofs.lemmas.List.Folds.{fold-map}
use Rattle.std.proofs.lemmas.List.Sums.{sum_by_more, sum_by_more_le}
use Rattle.kr_config.specs.declared.settings.Entry.{Entry}
use Rattle.kr_config.specs.declared.who.Who.{Who}
use Rattle.kr_config.specs.Kept.{ConfigEntry, entry_lists, rows_of}

abbrev amount : (Who → Bool) → ConfigEntry → ℕ
amount test row = count_by test row.providers

by_entries : (test : Who → Bool) (entries : List Entry)
    → sum_by (amount test) (rows_of entries) ≡ sum_by (λ e. amount test (entry_lists e)) entries
by_entries test entries = fold-map (λ s row. s + amount test row) entry_lists 0 entries

pub sum_more : (test : Who → Bool) (entries : List Entry) (i : ℕ) (entry : Entry) (sum n : ℕ)
    → sum ≡ sum_by (amount test) (rows_of (take i entries)) → i < length entries
    → entry ≡ get_or entries i entry → n ≡ count_by test entry.providers.0
    → sum + n ≡ sum_by (amount test) (rows_of (take (i + 1) entries))
sum_more test entries i entry sum n was h is counted =
    let a = by_entries test (take i entries) in
    let b = by_entries test (take (i + 1) entries) in
    let s = sum_by_more (λ (e : Entry). amount test (entry_lists e)) entries i entry h in
    let own : amount test (entry_lists entry) ≡ amount test (entry_lists (get_or entries i entry)) =
    ap (λ (e : Entry). amount test (entry_lists e)) is in
    omega (arith, was, a, b, s, own, counted)

pub sum_fits : (test : Who → Bool) (entries : List Entry) (i : ℕ) (entry : Entry) (sum n most : ℕ)
    → sum ≡ sum_by (amount test) (rows_of (take i entries)) → i < length entries
    → entry ≡ get_or entries i entry → n ≡ count_by test entry.providers.0
    → sum_by (amount test) (rows_of entries) < most → sum + n < most
sum_fits test entries i entry sum n most was h is counted small =
    let a = by_entries test (take i entries) in
    let b = by_entries test entries in
    let s = sum_by_more_le (λ (e : Entry). amount test (entry_lists e)) entries i entry h in
    let own : amount test (entry_lists entry) ≡ amount test (entry_lists (get_or entries i entry)) =
    ap (λ (e : Entry). amount test (entry_lists e)) is in
    omega (arith, was, a, b, s, own, counted, small)

pub sum_in_word : (test : Who → Bool) (entries : List Entry) (i : ℕ) {entry : Entry} {sum n : ℕ}
    → sum ≡ sum_by (amount test) (rows_of (take i entries)) → i < length entries
    → entry ≡ get_or entries i entry → n ≡ count_by test entry.providers.0
    → sum_by (amount test) (rows_of entries) < 2 ^ 32 → Fits w64 (sum + n)
sum_in_word test entries i {entry} {sum} {n} was h is counted small =
    let fits = sum_fits test entries i entry sum n (2 ^ 32) was h is counted small in
    omega (arith, fits)

pub sum_end : (test : Who → Bool) (entries : List Entry) (i sum : ℕ)
    → sum ≡ sum_by (amount test) (rows_of (take i entries)) → length entries ≤ i
    → sum ≡ sum_by (amount test) (rows_of entries)
sum_end test entries i sum was h =
    was ∙ ap (λ l. sum_by (amount test) (rows_of l)) (take_all i entries h)
