-- The secrets of a configuration's keys, in the order of the file.
use Rattle.std.proofs.Common.{◌≡◌, ℕ, zero, suc, ◌+◌, ◌<◌, ◌≤◌, List, [], ◌∷◌, ◌++◌, Bool, true, false, length, get_or, drop, map, drop-cons, add-one, Option, Some, None, refl, sym, ◌∙◌, ap, subst, arith}
use Rattle.std.specs.Prelude.{◌||◌, if◌then◌else◌, cond, count_by, IfSome}
use Rattle.std.specs.List.{list_all, list_any}
use Rattle.std.specs.Option.{is_some}
use Rattle.std.specs.Str.{bytes_eq}
use Rattle.std.proofs.lemmas.List.{drop_all, length-append, length-map, get_or-map}
use Rattle.std.proofs.lemmas.List.Folds.{list_any-append}
use Rattle.std.proofs.lemmas.List.Recursion.{is_count_by, is_sum_by}
use Rattle.std.proofs.lemmas.Slice.Eq.{bytes_eq-Decides}
use Rattle.kr_aes.specs.KeyExpansion.{padded_schedule}
use Rattle.kr_config.specs.declared.settings.Entry.{Entry}
use Rattle.kr_config.specs.declared.who.Who.{Who}
use Rattle.kr_config.specs.declared.who.Who.TheVariants.{Identity, Aescbc, Aesgcm, Kms}
use Rattle.kr_config.specs.Kept.{ConfigEntry, keeps_row, count_entry_keys, entry_lists, rows_of}
use Rattle.kr_config.specs.Lists.{list_of}
use Rattle.kr_config.specs.Patterns.{matches}
use Rattle.kr_config.specs.Providers.{is_key, is_provider}
use Rattle.kr_config.proofs.Inversions.{left as and_left, right as and_right}
use Rattle.kr_pages.specs.Pool.{page_words}
use Rattle.kr_provider.specs.KeyPages.{HoldKeys, KeyPages, words_out, key_secret, secrets_among, secrets_in}
use Rattle.kr_provider.specs.Publication.{Publication}
use Rattle.kr_provider.specs.Readers.{writer_of}
use Rattle.kr_provider.specs.inner.Scan.{AreAmong, HasWords, IsAmong, place_from}
use Rattle.kr_provider.proofs.Lists.{each_at, of_row, first_has}

-- ---- what is left of a list behind an item

pub rows_more : (entries : List Entry) (i : ℕ) (e : Entry) → i < length entries
    → e ≡ get_or entries i e → rows_of (drop i entries) ≡ entry_lists e ∷ rows_of (drop (i + 1) entries)
rows_more entries i e h is = ap rows_of (drop-cons entries i e h)
    ∙ ap (λ x. entry_lists x ∷ rows_of (drop (suc i) entries)) (sym is)
    ∙ ap (λ k. entry_lists e ∷ rows_of (drop k entries)) (sym (add-one i))

pub rows_end : (entries : List Entry) (i : ℕ) → length entries ≤ i → rows_of (drop i entries) ≡ []
rows_end entries i h = ap rows_of (drop_all i entries h)

pub whos_more : (providers : List Who) (i : ℕ) (who : Who) → i < length providers
    → who ≡ get_or providers i who → drop i providers ≡ who ∷ drop (i + 1) providers
whos_more providers i who h is = drop-cons providers i who h
    ∙ ap (λ w. w ∷ drop (suc i) providers) (sym is)
    ∙ ap (λ k. who ∷ drop k providers) (sym (add-one i))

-- ---- counts

one_more : (n : ℕ) → suc n ≡ 1 + n
one_more n = omega arith

secrets_first : (who : Who) (rest : List Who)
    → length (secrets_among (who ∷ rest)) ≡ cond (is_key who) (1 + length (secrets_among rest))
    (length (secrets_among rest))
secrets_first Identity rest = refl
secrets_first (Aescbc name secret) rest = one_more (length (secrets_among rest))
secrets_first (Aesgcm name secret) rest = one_more (length (secrets_among rest))
secrets_first (Kms name) rest = refl

pub secrets_count : (providers : List Who) → length (secrets_among providers)
    ≡ count_by is_key providers
secrets_count providers = is_count_by (λ l. length (secrets_among l)) is_key refl secrets_first
    providers

pub secrets_counted : (rows : List ConfigEntry) → length (secrets_in rows) ≡ count_entry_keys rows
secrets_counted rows = is_sum_by (λ l. length (secrets_in l))
    (λ row. count_by is_key row.providers) refl
    (λ row rest. length-append (secrets_among row.providers) (secrets_in rest)
    ∙ ap (λ n. n + length (secrets_in rest)) (secrets_count row.providers)) rows

-- ---- keys of their rules

pub row_at : (entries : List Entry) (i : ℕ) (e : Entry)
    → list_all keeps_row (rows_of entries) ≡ true → i < length entries → e ≡ get_or entries i e
    → list_all is_provider e.providers.0 ≡ true
row_at [] i e rules h is = absurd (omega (arith, h))
row_at (x ∷ xs) zero e rules h is = let each =
    and_left (keeps_row (entry_lists x)) (list_all keeps_row (rows_of xs)) rules in
    subst (λ (y : Entry). list_all is_provider y.providers.0 ≡ true) (sym is)
    (of_row (entry_lists x) each).providers
row_at (x ∷ xs) (suc i) e rules h is = row_at xs i e
    (and_right (keeps_row (entry_lists x)) (list_all keeps_row (rows_of xs)) rules) (omega (arith, h)) is

-- ---- pages that are filled one after another

-- there is room for what is still to come
pub room_for : (pages : KeyPages) (first rest : List (List ℕ)) (whole : List (List ℕ)) (n : ℕ)
    → words_out pages ++ map padded_schedule (first ++ rest) ≡ whole → length whole ≤ n
    → length pages.out + length first ≤ n
room_for pages first rest whole n e h =
    let a = ap (λ (l : List (List ℕ)). length l) e in
    let b = length-append (words_out pages) (map padded_schedule (first ++ rest)) in
    let c = length-map pages.out (λ number. page_words pages.pool number) in
    let d = length-map (first ++ rest) padded_schedule in
    let f = length-append first rest in
    omega (arith, a, b, c, d, f, h)

pub room_whole : (pages : KeyPages) (secrets : List (List ℕ)) (n : ℕ)
    → length pages.out + length secrets ≤ n → length
    (words_out pages ++ map padded_schedule secrets) ≤ n
room_whole pages secrets n h =
    let b = length-append (words_out pages) (map padded_schedule secrets) in
    let c = length-map pages.out (λ number. page_words pages.pool number) in
    let d = length-map secrets padded_schedule in
    omega (arith, b, c, d, h)

-- ---- the place of a secret

pub place_first : (n : ℕ) (first : List ℕ) (rest : List (List ℕ)) (secret : List ℕ)
    → bytes_eq first secret ≡ true → place_from n (first ∷ rest) secret ≡ Some n
place_first n first rest secret e = ap (λ (b : Bool).
    if b then Some n else place_from (suc n) rest secret) e

pub place_later : (n : ℕ) (first : List ℕ) (rest : List (List ℕ)) (secret : List ℕ)
    → bytes_eq first secret ≡ false → place_from n (first ∷ rest) secret
    ≡ place_from (n + 1) rest secret
place_later n first rest secret e = ap (λ (b : Bool).
    if b then Some n else place_from (suc n) rest secret) e
    ∙ ap (λ k. place_from k rest secret) (sym (add-one n))

pub place_in_first : (n p : ℕ) (xs ys : List (List ℕ)) (secret : List ℕ)
    → place_from n xs secret ≡ Some p → place_from n (xs ++ ys) secret ≡ Some p
place_in_first n p [] ys secret e = absurd (cc)
place_in_first n p (x ∷ xs) ys secret e = chosen (bytes_eq x secret)
    (place_in_first (suc n) p xs ys secret) e
  where
    chosen : (b : Bool) → (place_from (suc n) xs secret ≡ Some p
        → place_from (suc n) (xs ++ ys) secret ≡ Some p)
        → (if b then Some n else place_from (suc n) xs secret) ≡ Some p
        → (if b then Some n else place_from (suc n) (xs ++ ys) secret) ≡ Some p
    chosen true r e = e
    chosen false r e = r e

shift : (n m : ℕ) → suc n + m ≡ n + suc m
shift n m = omega arith

pub place_in_rest : (n : ℕ) (xs ys : List (List ℕ)) (secret : List ℕ)
    → place_from n xs secret ≡ None → place_from n (xs ++ ys) secret
    ≡ place_from (n + length xs) ys secret
place_in_rest n [] ys secret e = ap (λ k. place_from k ys secret) (omega arith)
place_in_rest n (x ∷ xs) ys secret e = chosen (bytes_eq x secret)
    (place_in_rest (suc n) xs ys secret) e
  where
    chosen : (b : Bool) → (place_from (suc n) xs secret ≡ None
        → place_from (suc n) (xs ++ ys) secret ≡ place_from (suc n + length xs) ys secret)
        → (if b then Some n else place_from (suc n) xs secret) ≡ None
        → (if b then Some n else place_from (suc n) (xs ++ ys) secret)
        ≡ place_from (n + suc (length xs)) ys secret
    chosen true r e = absurd (cc)
    chosen false r e = r e ∙ ap (λ k. place_from k ys secret) (shift n (length xs))

-- ---- the place of a secret, an entry at a time

rows_split : (entries : List Entry) (i : ℕ) (e : Entry) → i < length entries
    → e ≡ get_or entries i e → secrets_in (rows_of (drop i entries))
    ≡ secrets_among e.providers.0 ++ secrets_in (rows_of (drop (i + 1) entries))
rows_split entries i e h is = ap secrets_in (rows_more entries i e h is)

pub scan_counts : (entries : List Entry) (i before : ℕ) (e : Entry) → i < length entries
    → e ≡ get_or entries i e
    → before + length (secrets_in (rows_of (drop i entries)))
    ≡ length (secrets_in (rows_of entries))
    → before + count_by is_key e.providers.0 + length (secrets_in (rows_of (drop (i + 1) entries)))
    ≡ length (secrets_in (rows_of entries))
scan_counts entries i before e h is inv =
    let a = ap (λ (l : List (List ℕ)). length l) (rows_split entries i e h is) in
    let b = length-append (secrets_among e.providers.0)
    (secrets_in (rows_of (drop (i + 1) entries))) in
    let c = secrets_count e.providers.0 in
    omega (arith, a, b, c, inv)

pub scan_room : (entries : List Entry) (i before n : ℕ) (e : Entry) → i < length entries
    → e ≡ get_or entries i e
    → before + length (secrets_in (rows_of (drop i entries)))
    ≡ length (secrets_in (rows_of entries)) → count_entry_keys (rows_of entries) ≤ n
    → before + length (secrets_among e.providers.0) ≤ n
scan_room entries i before n e h is inv few =
    let a = scan_counts entries i before e h is inv in
    let b = secrets_counted (rows_of entries) in
    let c = secrets_count e.providers.0 in
    omega (arith, a, b, c, few)

pub scan_found : (entries : List Entry) (i before place : ℕ) (e : Entry) (secret : List ℕ)
    (whole : Option ℕ) → i < length entries → e ≡ get_or entries i e
    → place_from before (secrets_in (rows_of (drop i entries))) secret ≡ whole
    → place_from before (secrets_among e.providers.0) secret ≡ Some place → Some place ≡ whole
scan_found entries i before place e secret whole h is inv at =
    sym (ap (λ l. place_from before l secret) (rows_split entries i e h is)
    ∙ place_in_first before place (secrets_among e.providers.0)
    (secrets_in (rows_of (drop (i + 1) entries))) secret at) ∙ inv

pub scan_some : (entries : List Entry) (i before : ℕ) (e : Entry) (secret : List ℕ)
    (o whole : Option ℕ) → i < length entries → e ≡ get_or entries i e
    → place_from before (secrets_in (rows_of (drop i entries))) secret ≡ whole
    → o ≡ place_from before (secrets_among e.providers.0) secret → is_some o ≡ true → o ≡ whole
scan_some entries i before e secret (Some place) whole h is inv at t =
    scan_found entries i before place e secret whole h is inv (sym at)
scan_some entries i before e secret None whole h is inv at t = absurd (cc)

pub none_of : (o : Option ℕ) → is_some o ≡ false → o ≡ None
none_of (Some place) e = absurd (cc)
none_of None e = refl

pub scan_on : (entries : List Entry) (i before : ℕ) (e : Entry) (secret : List ℕ) (whole : Option ℕ)
    → i < length entries → e ≡ get_or entries i e
    → place_from before (secrets_in (rows_of (drop i entries))) secret ≡ whole
    → place_from before (secrets_among e.providers.0) secret ≡ None
    → place_from (before + count_by is_key e.providers.0)
    (secrets_in (rows_of (drop (i + 1) entries))) secret ≡ whole
scan_on entries i before e secret whole h is inv none =
    let rest = secrets_in (rows_of (drop (i + 1) entries)) in
    sym (ap (λ l. place_from before l secret) (rows_split entries i e h is)
    ∙ place_in_rest before (secrets_among e.providers.0) rest secret none
    ∙ ap (λ n. place_from (before + n) rest secret) (secrets_count e.providers.0)) ∙ inv

-- a secret that is there has a place
record Found (n : ℕ) (secrets : List (List ℕ)) (secret : List ℕ) : Type 0 where
  place : ℕ
  is : place_from n secrets secret ≡ Some (n + place)
  within : place < length secrets
  same : get_or secrets place [] ≡ secret

found_in : (n : ℕ) (secrets : List (List ℕ)) (secret : List ℕ)
    → list_any (λ s. bytes_eq s secret) secrets ≡ true → Found n secrets secret
found_in n [] secret e = absurd (cc)
found_in n (first ∷ rest) secret e = chosen (bytes_eq first secret) refl
    (found_in (n + 1) rest secret) e
  where
    chosen : (b : Bool) → bytes_eq first secret ≡ b
        → (list_any (λ s. bytes_eq s secret) rest ≡ true → Found (n + 1) rest secret)
        → (b || list_any (λ s. bytes_eq s secret) rest) ≡ true → Found n (first ∷ rest) secret
    chosen true is r h = record {
      place = 0;
      is = place_first n first rest secret is ∙ ap (λ k. Some k) (omega arith);
      within = omega arith;
      same = (bytes_eq-Decides first secret).0 is;
    }
    chosen false is r h = let f = r h in let w = f.within in record {
      place = suc f.place;
      is = place_later n first rest secret is ∙ f.is ∙ ap (λ k. Some k) (omega arith);
      within = omega (arith, w);
      same = f.same;
    }

-- and the page at that place holds its schedule
pub place_holds : (secrets : List (List ℕ)) (pages : KeyPages) (secret : List ℕ) (place : ℕ)
    → HoldKeys secrets pages → list_any (λ s. bytes_eq s secret) secrets ≡ true
    → Some place ≡ place_from 0 secrets secret
    → (place < length pages.out) × (page_words pages.pool (get_or pages.out place 0)
    ≡ padded_schedule secret)
place_holds secrets pages secret place h a e =
    let f = found_in 0 secrets secret a in
    let at : f.place ≡ place = some_is (sym f.is ∙ sym e) in
    let long = sym (length-map pages.out (λ number. page_words pages.pool number))
    ∙ ap (λ (l : List (List ℕ)). length l) h.held ∙ length-map secrets padded_schedule in
    let within : place < length secrets = (let w = f.within in omega (arith, at, w)) in
    let there : place < length pages.out = omega (arith, long, within) in (
      there,
      sym (get_or-map (page_words pages.pool) pages.out place 0 [] there)
          ∙ ap (λ l. get_or l place []) h.held
          ∙ get_or-map padded_schedule secrets place [] [] within
          ∙ ap padded_schedule (ap (λ k. get_or secrets k []) (sym at) ∙ f.same),
    )
  where
    some_is : {a b : ℕ} → Some (0 + a) ≡ Some b → a ≡ b
    some_is {a} {b} e = let same : 0 + a ≡ b = cc in omega (arith, same)

pub place_some : (secrets : List (List ℕ)) (secret : List ℕ)
    → list_any (λ s. bytes_eq s secret) secrets ≡ true → None ≡ place_from 0 secrets secret → ⊥
place_some secrets secret a e = let f = found_in 0 secrets secret a in let is = f.is in cc

-- ---- the provider of a key

pub its_words : (who : Who) (secret words : List ℕ) → key_secret who ≡ secret ∷ []
    → words ≡ padded_schedule secret → HasWords who words
its_words Identity secret words e w = tt
its_words (Aescbc name own) secret words e w = let same : secret ≡ own = cc in
    w ∙ ap padded_schedule same
its_words (Aesgcm name own) secret words e w = let same : secret ≡ own = cc in
    w ∙ ap padded_schedule same
its_words (Kms name) secret words e w = tt

pub its_secret : (who : Who) (secrets : List (List ℕ)) (secret : List ℕ)
    → key_secret who ≡ secret ∷ [] → IsAmong secrets who
    → list_any (λ s. bytes_eq s secret) secrets ≡ true
its_secret (Aescbc name own) secrets secret e a = let same : own ≡ secret = cc in
    subst (λ t. list_any (λ s. bytes_eq s t) secrets ≡ true) same a
its_secret (Aesgcm name own) secrets secret e a = let same : own ≡ secret = cc in
    subst (λ t. list_any (λ s. bytes_eq s t) secrets ≡ true) same a
its_secret other secrets secret e a = absurd (cc)

-- ---- the keys of a list are among those of the settings

or_true : (a b : Bool) → b ≡ true → (a || b) ≡ true
or_true true b e = refl
or_true false b e = e

or_first : (a b : Bool) → a ≡ true → (a || b) ≡ true
or_first true b e = refl
or_first false b e = absurd (cc)

-- secrets that are among others
among_by : (secrets others : List (List ℕ))
    → ((secret : List ℕ) → list_any (λ s. bytes_eq s secret) secrets ≡ true
    → list_any (λ s. bytes_eq s secret) others ≡ true) → (who : Who)
    → IsAmong secrets who → IsAmong others who
among_by secrets others more Identity a = tt
among_by secrets others more (Aescbc name secret) a = more secret a
among_by secrets others more (Aesgcm name secret) a = more secret a
among_by secrets others more (Kms name) a = tt

all_among_by : (secrets others : List (List ℕ))
    → ((secret : List ℕ) → list_any (λ s. bytes_eq s secret) secrets ≡ true
    → list_any (λ s. bytes_eq s secret) others ≡ true) → (list : List Who)
    → AreAmong secrets list → AreAmong others list
all_among_by secrets others more [] a = tt
all_among_by secrets others more (who ∷ list) a =
    (among_by secrets others more who a.0, all_among_by secrets others more list a.1)

any_behind : (before secrets : List (List ℕ)) (secret : List ℕ)
    → list_any (λ s. bytes_eq s secret) secrets ≡ true
    → list_any (λ s. bytes_eq s secret) (before ++ secrets) ≡ true
any_behind before secrets secret a =
    list_any-append (λ s. bytes_eq s secret) before secrets ∙ or_true _ _ a

any_ahead : (secrets behind : List (List ℕ)) (secret : List ℕ)
    → list_any (λ s. bytes_eq s secret) secrets ≡ true
    → list_any (λ s. bytes_eq s secret) (secrets ++ behind) ≡ true
any_ahead secrets behind secret a =
    list_any-append (λ s. bytes_eq s secret) secrets behind ∙ or_first _ _ a

same_bytes : (secret : List ℕ) → bytes_eq secret secret ≡ true
same_bytes secret = (bytes_eq-Decides secret secret).1 refl

own_secret : (who : Who) → IsAmong (key_secret who) who
own_secret Identity = tt
own_secret (Aescbc name secret) = or_first _ _ (same_bytes secret)
own_secret (Aesgcm name secret) = or_first _ _ (same_bytes secret)
own_secret (Kms name) = tt

own_secrets : (list : List Who) → AreAmong (secrets_among list) list
own_secrets [] = tt
own_secrets (who ∷ list) = (
  among_by (key_secret who) (key_secret who ++ secrets_among list)
      (any_ahead (key_secret who) (secrets_among list)) who (own_secret who),
  all_among_by (secrets_among list) (key_secret who ++ secrets_among list)
      (any_behind (key_secret who) (secrets_among list)) list (own_secrets list),
)

pub list_among : (rows : List ConfigEntry) (resource : List ℕ)
    → AreAmong (secrets_in rows) (list_of rows resource)
list_among rows resource =
    first_has (λ rows list. AreAmong (secrets_in rows) list) (tt, tt)
    (λ row rows. all_among_by (secrets_among row.providers) (secrets_in (row ∷ rows))
    (any_ahead (secrets_among row.providers) (secrets_in rows)) row.providers
    (own_secrets row.providers))
    (λ row rows. all_among_by (secrets_in rows) (secrets_in (row ∷ rows))
    (any_behind (secrets_among row.providers) (secrets_in rows)))
    (λ pattern. matches pattern resource) rows

pub adopted_among : (adopted : Option Publication) (list : List Who) (i : ℕ) (who : Who)
    → IfSome adopted (λ p. AreAmong (secrets_in p.rows) list) → i < length list
    → who ≡ get_or list i who → IfSome adopted (λ p. IsAmong (secrets_in p.rows) who)
adopted_among None list i who a h is = tt
adopted_among (Some p) list i who a h is =
    let secrets : List (List ℕ) = secrets_in p.rows in
    each_at (IsAmong secrets) (AreAmong secrets) (λ x xs all. (all.0, all.1)) list i who a h is

pub writer_among : (secrets : List (List ℕ)) (list : List Who) → AreAmong secrets list
    → IsAmong secrets (writer_of list)
writer_among secrets [] a = tt
writer_among secrets (who ∷ rest) a = a.0
