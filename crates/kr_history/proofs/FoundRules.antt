-- Each put of a legal history keeps the rules of its parts, and so does each row that is found.
use Rattle.std.proofs.Common.{◌≡◌, ℕ, zero, suc, ◌<◌, ◌/◌, ◌^◌, List, [], ◌∷◌, ◌++◌, length, get_or, Option, None, Some, IfSome, refl, sym, ap, subst, ◌∙◌, arith, inl, inr, mod-lt}
use Rattle.std.specs.Prelude.{All, ⊤}
use Rattle.std.specs.Int.{w32, w64, byte_at, bytes_high_first, from_be_bytes, to_be_bytes}
use Rattle.std.specs.List.{slice_get, slice_index}
use Rattle.std.proofs.lemmas.Bool.{cases_lt}
use Rattle.std.proofs.lemmas.List.{get_or_past}
use Rattle.std.proofs.lemmas.List.Elements.{All-append, All-cons, All-get_or, All-nil, All-replicate, All-take}
use Rattle.std.proofs.lemmas.Option.{none-some, same_Some}
use Rattle.sha2.specs.Sha256.{digest_bytes, sha256}
use Rattle.kr_hkdf.specs.Hmac.{hmac}
use Rattle.kr_base.specs.Rules.{IsPath, IsResource}
use Rattle.kr_store.specs.declared.format.Format.{Format}
use Rattle.kr_store.specs.declared.format.Format.TheVariants.{One, Two}
use Rattle.kr_store.specs.declared.rows.Change.{Change}
use Rattle.kr_store.specs.declared.rows.Change.TheVariants as change
use Rattle.kr_store.specs.declared.rows.LogRow.{LogRow}
use Rattle.kr_store.specs.declared.rows.Row.{Row}
use Rattle.kr_store.specs.Rows.{AllFollow, HasCheck, IsPut, IsRow, MayChange, put_of, delete_of, row_of, live_row, with_revision, put_at}
use Rattle.kr_store.proofs.Places.{live_at_revision}
use Rattle.kr_config.specs.declared.who.Who.{Who}
use Rattle.kr_config.specs.declared.who.Who.TheVariants.{Identity, Aescbc, Aesgcm, Kms}
use Rattle.kr_provider.specs.Checks.{provider_check}
use Rattle.kr_provider.specs.Publication.{Publication, IsPublished, writer_at}
use Rattle.kr_provider.proofs.SealedSizes.{sealing_is_sized}
use Rattle.kr_rollout.specs.declared.line.Did.{Did}
use Rattle.kr_rollout.specs.declared.line.Did.TheVariants as did
use Rattle.kr_rollout.specs.declared.line.Gave.{Gave}
use Rattle.kr_rollout.specs.declared.line.Gave.TheVariants.{Written}
use Rattle.kr_opening.specs.declared.generation.Generation.{Generation}
use Rattle.kr_rollout.specs.declared.opening.Entry.{Entry}
use Rattle.kr_rollout.specs.declared.opening.Opening.{Opening}
use Rattle.kr_opening.specs.Checks.{store_check, written_check}
use Rattle.kr_rollout.specs.Entries.{published_at, generation_named_in, revision_in}
use Rattle.kr_rollout.specs.States.{State}
use Rattle.kr_rollout.specs.Openings.{start_of}
use Rattle.kr_rollout.specs.Steps.{IsStep, KeepsRules, after, new_rows, put_row, row_written_by}
use Rattle.kr_rollout.specs.Writes.{IsSealedPut, WouldWrite, Writes}
use Rattle.kr_rollout.specs.Histories.{IsLegal, IsRun, state_from, state_of}
use Rattle.kr_rollout.specs.Callers.{found_in}
use Rattle.kr_history.specs.CallLaws.{FoundKeepsRules, HandedOutKeepsRules}
use Rattle.kr_rollout.proofs.Findings.{IsIn, found_there}
use Rattle.kr_history.proofs.HeldFacts.{IsAdmittedIn, admitted_after, start_admitted, published_admitted, there_holds}

-- ---- a check has 8 bytes

abbrev IsByte : ℕ → Type 0
IsByte byte = byte < 256

byte_at-lt : (i n : ℕ) → byte_at i n < 256
byte_at-lt zero n = mod-lt n (omega arith)
byte_at-lt (suc i) n = mod-lt (n / 256 ^ suc i) (omega arith)

are_bytes : (k n : ℕ) → All IsByte (bytes_high_first k n)
are_bytes zero n = All-nil IsByte
are_bytes (suc k) n =
    All-cons IsByte (byte_at k n) (bytes_high_first k n) (byte_at-lt k n) (are_bytes k n)

digest_is_bytes : (words : List ℕ) (n : ℕ) → All IsByte (digest_bytes words n)
unfolding digest_bytes
digest_is_bytes words zero = All-nil IsByte
digest_is_bytes words (suc n) = All-append IsByte (digest_bytes words n)
    (to_be_bytes w32 (slice_index words n)) (digest_is_bytes words n)
    (are_bytes 4 (slice_index words n))

hash_is_bytes : (message : List ℕ) → All IsByte (sha256 message)
unfolding sha256
hash_is_bytes message = digest_is_bytes _ 8

code_is_bytes : (key text : List ℕ) → All IsByte (hmac key text)
unfolding hmac
code_is_bytes key text = hash_is_bytes _

zero_is_byte : 0 < 256
zero_is_byte = omega arith

check_is_bytes : (who : Who) → All IsByte (provider_check who)
check_is_bytes Identity = All-replicate IsByte 8 0 zero_is_byte
check_is_bytes (Aescbc name secret) =
    All-take IsByte 8 (hmac secret name) (code_is_bytes secret name)
check_is_bytes (Aesgcm name secret) =
    All-take IsByte 8 (hmac secret name) (code_is_bytes secret name)
check_is_bytes (Kms name) = All-replicate IsByte 8 0 zero_is_byte

byte_there : (bytes : List ℕ) → All IsByte bytes → (i : ℕ) → get_or bytes i 0 < 256
byte_there bytes all i = elim (cases_lt i (length bytes)) [
  | inl lt ↦ All-get_or IsByte bytes i 0 lt all
  | inr ge ↦ rw (get_or_past bytes i 0 ge) (omega arith)
]

fits_64 : (b : List ℕ) → ((i : ℕ) → get_or b i 0 < 256) → from_be_bytes w64 b < 2 ^ 64
fits_64 b k = omega (arith, k 0, k 1, k 2, k 3, k 4, k 5, k 6, k 7)

check_fits : (who : Who) → (store_check who).value < 2 ^ 64
check_fits who = fits_64 (provider_check who) (byte_there (provider_check who) (check_is_bytes who))

has_check : (format : Format) (p : Publication) (resource : List ℕ)
    → HasCheck format (written_check format p resource)
has_check One p resource = refl
has_check Two p resource = (refl, check_fits (writer_at p resource))

-- ---- the rules of rows

abbrev KeepsPut : Format → List ℕ → Change → Type 0
KeepsPut format path (change.Put resource stored check) =
    IsPath path × IsPut format resource stored check
KeepsPut format path change.Delete = ⊤

abbrev pub KeepsRow : Format → LogRow → Type 0
KeepsRow format row = KeepsPut format row.path row.change

follows_keep : (format : Format) (before : List LogRow) (path : List ℕ) (done : Change)
    → IsPath path → MayChange format before path done → KeepsPut format path done
follows_keep format before path (change.Put resource stored check) is m = (is, m)
follows_keep format before path change.Delete is m = tt

rows_keep : (format : Format) (before rows : List LogRow) → AllFollow format before rows
    → All (KeepsRow format) rows
rows_keep format before [] f = All-nil (KeepsRow format)
rows_keep format before (row ∷ rows) f = All-cons (KeepsRow format) row rows
    (follows_keep format before row.path row.change f.0.path f.0.change)
    (rows_keep format (before ++ row ∷ []) rows f.1)

kept_row : (format : Format) (k : ℕ) (path : List ℕ) (done : Change) (row : Row)
    → KeepsPut format path done → row_of k path done ≡ Some row → IsRow format row
kept_row format k path (change.Put resource stored check) row r e =
    subst (IsRow format) (same_Some (record {
      path = path;
      resource = resource;
      revision = k;
      stored = stored;
      check = check;
    }) row e) r
kept_row format k path change.Delete row r e = absurd (none-some row e)

-- a row by its revision
pub row_keeps : (format : Format) (rows : List LogRow) (k : ℕ) (row : Row)
    → All (KeepsRow format) rows → put_at rows k ≡ Some row → IsRow format row
row_keeps format rows zero row a e = absurd (none-some row e)
row_keeps format rows (suc k) row a e = by (slice_get rows k) refl e
  where
    by : (x : Option LogRow) → slice_get rows k ≡ x
        → live_row (with_revision (suc k) x) ≡ Some row → IsRow format row
    by None is e = absurd (none-some row e)
    by (Some own) is e = kept_row format (suc k) own.path own.change row
        (there_holds (KeepsRow format) rows k own a is) e

-- ---- one entry

module _ (o : Opening) (rows : List LogRow) (a : All (KeepsRow o.format) rows)
    (published : Option Publication)
    (rules : (p : Publication) → published ≡ Some p → IsPublished p) (revision : ℕ)
    (written : Option Row) where
  put_keeps : (p : Publication) (path resource plain : List ℕ) (row : LogRow)
      → published ≡ Some p → IsPath path → IsResource resource
      → IsSealedPut o.format p resource path plain row
      → written ≡ row_of revision row.path row.change
      → All (KeepsRow o.format) (put_row written)
  put_keeps p path resource plain row held is_path is_resource sealed is =
      let check = written_check o.format p resource in
      let put = put_of path resource sealed.stored check in
      let few = sealing_is_sized.few p resource path plain sealed.stored (rules p held)
      sealed.sealing in
      subst (λ w. All (KeepsRow o.format) (put_row w))
      (sym (is ∙ ap (λ (x : LogRow). row_of revision x.path x.change) sealed.row_is))
      (All-cons (KeepsRow o.format) put []
      (is_path, (is_resource, few, has_check o.format p resource))
      (All-nil (KeepsRow o.format)))

  written_keeps : (done : Did) (row : LogRow) → KeepsRules done o
      → WouldWrite o.format done rows published row
      → written ≡ row_of revision row.path row.change
      → All (KeepsRow o.format) (row_written_by done written)
  written_keeps (did.Put path resource plain) row k w is =
      put_keeps w.0 path resource plain row w.1 k.0 k.1 w.2 is
  written_keeps (did.Delete path) row k w is =
      All-cons (KeepsRow o.format) (delete_of path) [] tt (All-nil (KeepsRow o.format))
  written_keeps (did.Replace path from) row k w is =
      let old = row_keeps o.format rows w.1.revision w.1 a
      (live_at_revision rows path w.1 w.3).0 in
      put_keeps w.0 path w.1.resource w.5.plain row w.2 k old.1.0 w.5.sealed is
  written_keeps other row k w is = absurd w

named_admitted : (o : Opening) (generations : List Generation) (number : Option ℕ)
    (published : Option Publication) (p : Publication)
    → All (IsAdmittedIn o.names) generations → published ≡ published_at generations number
    → published ≡ Some p → IsPublished p
named_admitted o generations None published p a is e = absurd (none-some p (sym is ∙ e))
named_admitted o generations (Some number) published p a is e =
    (published_admitted o generations number p a (sym is ∙ e)).0

-- what holds of each state of a legal history
pub record KeepsAll (o : Opening) (st : State) : Type 0 where
  pub rows : All (KeepsRow o.format) st.rows
  pub generations : All (IsAdmittedIn o.names) st.generations

module _ (o : Opening) (st : State) (e : Entry) (s : IsStep o st e) (k : KeepsAll o st) where
  generations_keep : All (IsAdmittedIn o.names) (after st e).generations
  generations_keep = admitted_after o st e s.rules k.generations

  by_step : (gave : Gave) → Writes gave o st e
      → All (KeepsRow o.format) (new_rows gave e.line.did e.row)
  by_step (Written revision) w =
      written_keeps o st.rows k.rows e.published
      (λ p is. named_admitted o (after st e).generations (generation_named_in e.line) e.published
      p generations_keep (ap (λ (x : Entry). x.published) s.payload) is)
      revision e.row e.line.did w.0 s.rules w.1 w.3
  by_step other w = All-nil (KeepsRow o.format)

  keeps_after : KeepsAll o (after st e)
  keeps_after = record {
    rows = All-append (KeepsRow o.format) st.rows (new_rows e.line.gave e.line.did e.row) k.rows
        (by_step e.line.gave s.writes);
    generations = generations_keep;
  }

keeps_run : (o : Opening) (st : State) (history : List Entry) → KeepsAll o st
    → IsRun o st history → KeepsAll o (state_from st history)
keeps_run o st [] k r = k
keeps_run o st (e ∷ history) k r =
    keeps_run o (after st e) history (keeps_after o st e r.0 k) r.1

all_keep : (o : Opening) (history : List Entry) → IsLegal o history
    → KeepsAll o (state_of o history)
all_keep o history l = keeps_run o (start_of o) history (record {
  rows = rows_keep o.format [] o.rows l.opens.rows;
  generations = start_admitted o l.opens.admitted;
}) l.runs

-- ---- callers

pub found_keeps_rules : FoundKeepsRules
found_keeps_rules c row k h =
    let i = subst (λ r. IfSome r (IsIn (state_of c.opening c.seen).rows)) (ap found_in k.own ∙ h)
    (found_there c.opening c.seen c.seat k.legal) in
    row_keeps c.opening.format (state_of c.opening c.seen).rows row.revision row
    (all_keep c.opening c.seen k.legal).rows i.is

pub handed_out_keeps_rules : HandedOutKeepsRules
handed_out_keeps_rules old new asked row k a =
    let st = state_of old.opening (old.seen ++ a.others) in
    let next = after st a.entry in
    row_keeps old.opening.format next.rows (revision_in a.entry.line.gave) row
    (keeps_after old.opening st a.entry a.step
    (all_keep old.opening (old.seen ++ a.others) a.legal)).rows
    (sym (ap (λ (x : Entry). x.row) a.step.payload) ∙ a.records.shows)
