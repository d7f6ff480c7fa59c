-- The source and the target of a migration, whose tapes are out.
use Rattle.std.proofs.Common.{◌≡◌, ℕ, zero, suc, ◌<◌, ◌≤◌, List, [], ◌∷◌, ◌++◌, length, Bool, true, false, Option, None, Some, Result, Ok, Err, refl, sym, ◌∙◌, ap, subst, inl, inr, length-append, arith}
use Rattle.std.specs.Prelude.{IfErr, IfOk, IfSome, codes, decimal, map, nat_lt, if◌then◌else◌}
use Rattle.std.proofs.lemmas.Bool.{lt-ltb}
use Rattle.kr_base.specs.Faults.{Rose}
use Rattle.kr_base.specs.Told.{Agrees}
use Rattle.kr_config.specs.Kept.{ConfigEntry}
use Rattle.kr_store.specs.File.{IsFile, magic, rows_bytes}
use Rattle.kr_store.specs.Stores.{Kept}
use Rattle.kr_store.specs.declared.format.Format.{Format}
use Rattle.kr_store.specs.declared.format.Format.TheVariants.{One, Two}
use Rattle.kr_store.specs.declared.rows.LogRow.{LogRow}
use Rattle.kr_cmd_steps.specs.Environment.{Environment, IsStateOf, StepsEndAt, Ends}
use Rattle.kr_cmd_steps.specs.Phases.{by_result, silently, stored_on, with_memory}
use Rattle.kr_cmd_steps.specs.StoreSteps.{copied_into, copying, migrated_line, migrated_row, source_on, target_on, target_read}
use Rattle.kr_cmd_steps.specs.Steps.{Steps, read_tape, find, give, and_then, scanning, Point, StepState, RunTo}
use Rattle.kr_cmd_steps.specs.StoreFiles.{Stored, IsSource, IsStored, IsTarget, begins_new, none_there, unless_there}
use Rattle.kr_cmd_steps.specs.inner.Lent.{with_lent_tape}
use Rattle.kr_cmd_store.specs.inner.Migrating.{all_grown, has_new_bytes}
use Rattle.kr_cmd_steps.specs.inner.Phases.{Does}
use Rattle.kr_cmd_steps.specs.inner.Tapes.{IsLoaded, answered, stored_of}
use Rattle.kr_cmd_messages.specs.declared.refusal.Object.{Object}
use Rattle.kr_cmd_messages.specs.declared.refusal.Object.TheVariants.{Store, Target}
use Rattle.kr_cmd_messages.specs.declared.refusal.Outcome.{Outcome}
use Rattle.kr_cmd_messages.specs.declared.refusal.Refusal.{Refusal}
use Rattle.kr_cmd_messages.specs.declared.refusal.Refusal.TheVariants.{NotEmpty, NotOld}
use Rattle.kr_cmd_messages.specs.declared.refusal.Stop.{Stop}
use Rattle.kr_cmd_messages.specs.declared.refusal.Stop.TheVariants.{Words, Refused, Fault, NoMemory}
use Rattle.kr_cmd_steps.proofs.RunTo.{reach, by_point, by_goes, given, goes_on, home_refl, stops}
use Rattle.kr_cmd_steps.proofs.Loading.{agrees_there, count_here, counted_tape, tape_here, tape_home, tape_rose}
use Rattle.kr_cmd_steps.proofs.Points.{IsShort}
use Rattle.kr_cmd_steps.proofs.ValueRead.{no_bytes}
use Rattle.kr_cmd_steps.proofs.EmptyFiles.{empty_file}

-- ---- what a file is

-- a file begins with the name of the second format where it has bytes of that
pub begins : (format : Format) (rows : List LogRow) (bytes : List ℕ) (size : ℕ)
    → IsFile format rows bytes → size ≡ length bytes
    → begins_new bytes ≡ has_new_bytes format size
begins One rows bytes size (are, inl (two, none, nothing)) e =
    absurd (let t : One ≡ Two = two in cc)
begins One rows bytes size (are, inr same) e = ap begins_new same
begins Two rows bytes size (are, inl (two, none, nothing)) e =
    ap begins_new nothing ∙ sym (ap (λ n. nat_lt 0 n) (e ∙ ap length nothing))
begins Two rows bytes size (are, inr same) e = ap begins_new same
    ∙ sym (lt-ltb 0 size (omega (
      arith,
      e,
      ap length same,
      length-append (magic Two) (rows_bytes 1 rows),
    )))

there : (bytes : List ℕ) (store : Stored) → 0 < length bytes
    → unless_there bytes (Ok store) ≡ Err (NotEmpty (length bytes))
there [] store some = absurd (omega (arith, some))
there (byte ∷ bytes) store some = refl

some_there : (bytes : List ℕ) → 0 < length bytes
    → none_there bytes ≡ Err (NotEmpty (length bytes))
some_there [] some = absurd (omega (arith, some))
some_there (byte ∷ bytes) some = refl

-- ---- steps that end the command as others do

module _ {A : Type 0} (first second : Steps A)
    (short : (p : Point A) (end left : StepState) → IsShort p → RunTo p end first left
    → RunTo p end second left) where
  stopped_at : (left : StepState) (old new : Environment) (stop : Stop) → Ends first left old new (Err stop)
      → Ends second left old new (Err stop)
  stopped_at left old new (Words why) r = r
  stopped_at left old new (Refused why) r = reach r.end (short _ _ _ tt r.goes) r.stays
  stopped_at left old new (Fault object count) (call, r, f) =
      (call, reach r.end (short _ _ _ tt r.goes) r.stays, f)
  stopped_at left old new NoMemory (inl (call, may, r)) =
      inl (call, may, reach r.end (short _ _ _ tt r.goes) r.stays)
  stopped_at left old new NoMemory (inr r) = inr (reach r.end (short _ _ _ tt r.goes) r.stays)

  stopped_as : {old new : Environment} (stop : Stop) → Does first old new (Err stop)
      → Does second old new (Err stop)
  stopped_as {old} {new} stop d = record {
    home = d.home;
    ends = λ left s. stopped_at left old new stop (d.ends left s);
  }

source_short : (name : List ℕ) (p : Point Stored) (end left : StepState) → IsShort p
    → RunTo p end (stored_on Store name) left → RunTo p end (source_on name) left
source_short name p end left short (inl at) = inl at
source_short name p end left short (inr (bytes, agrees, inl at)) = inr (bytes, agrees, inl at)
source_short name p end left short (inr (bytes, agrees, inr (Ok store, is, at))) =
    absurd (subst IsShort at.0 short)
source_short name p end left short (inr (bytes, agrees, inr (Err why, is, at))) =
    inr (bytes, agrees, inr (Err why, (Err why, is, refl), at))

pub source_stops : (name : List ℕ) {old new : Environment} (stop : Stop)
    → Does (stored_on Store name) old new (Err stop) → Does (source_on name) old new (Err stop)
source_stops name stop d =
    stopped_as (stored_on Store name) (source_on name) (source_short name) stop d

broken_there : (bytes : List ℕ) (why : Refusal) → unless_there bytes (Err why) ≡ Err why
broken_there [] why = refl
broken_there (byte ∷ bytes) why = refl

target_short : (name : List ℕ) (p : Point Stored) (end left : StepState) → IsShort p
    → RunTo p end (stored_on Target name) left → RunTo p end (target_read name) left
target_short name p end left short (inl at) = inl at
target_short name p end left short (inr (bytes, agrees, inl at)) = inr (bytes, agrees, inl at)
target_short name p end left short (inr (bytes, agrees, inr (Ok store, is, at))) =
    absurd (subst IsShort at.0 short)
target_short name p end left short (inr (bytes, agrees, inr (Err why, is, at))) = inr (
  bytes,
  agrees,
  inr (Err why, (Err why, is, sym (broken_there bytes why)), at),
)

pub target_stops : (name : List ℕ) {old new : Environment} (stop : Stop)
    → Does (stored_on Target name) old new (Err stop)
    → Does (target_read name) old new (Err stop)
target_stops name stop d =
    stopped_as (stored_on Target name) (target_read name) (target_short name) stop d

-- ---- a tape that was read

abbrev bytes_of : ℕ → List ℕ
bytes_of zero = []
bytes_of (suc n) = 0 ∷ bytes_of n

length_of : (n : ℕ) → length (bytes_of n) ≡ n
length_of zero = refl
length_of (suc n) = ap suc (length_of n)

-- bytes that the tape may have, of the length that it tells
some_bytes : (told : Option (List ℕ)) (size : ℕ) → IfSome told (λ bytes. size ≡ length bytes)
    → (bytes : List ℕ) × Agrees told bytes × (length bytes ≡ size)
some_bytes None size e = (bytes_of size, tt, length_of size)
some_bytes (Some bytes) size e = (bytes, refl, sym e)

-- its length is asked, and is 0 or refused
abbrev pub sizing : (name : List ℕ) → Steps (Unit {0})
sizing name = read_tape Target name (λ bytes. by_result (none_there bytes))

module _ (name : List ℕ) (told : Option (List ℕ)) (before : ℕ) (a : Environment) where
  abbrev Lent : ℕ → Environment
  Lent count = with_lent_tape name told count a

  -- what was made of all its bytes
  module _ (object : Object) (Is : List ℕ → Result Stored Refusal → Type 0) where
    abbrev reading : Steps Stored
    reading = read_tape object name (λ bytes. find (Result Stored Refusal) (Is bytes) by_result)

    reads : {left : StepState} (bytes : List ℕ) (count : ℕ) (read : Result Stored Refusal)
        → before ≤ count → Agrees told bytes → Is bytes read → IsStateOf left (Lent before)
        → StepsEndAt reading left (Lent count) (by_point read)
    reads {left} bytes count read later is so s = reach left (inr (
      bytes,
      subst (λ t. Agrees t (Some bytes)) (sym (tape_here name told before a s))
          (agrees_there told bytes is),
      inr (read, so, by_goes read left),
    ))
        (counted_tape name told before a count later s)

    pub gives_read : (store : Kept) (l : IsLoaded told before store) (x : Stored)
        → Is l.bytes (Ok x)
        → Does reading (Lent before) (with_lent_tape name store.told store.count a) (Ok x)
    gives_read store l x is = subst (λ t. Does reading (Lent before)
        (with_lent_tape name t store.count a) (Ok x)) (sym l.told_is) (record {
          home = tape_home name told before a store.count l.later;
          ends = λ left s. reads l.bytes store.count (Ok x) l.later l.agrees is s;
        })

    pub refuses_read : (store : Kept) (l : IsLoaded told before store) (why : Refusal)
        → Is l.bytes (Err why)
        → Does reading (Lent before) (with_lent_tape name store.told store.count a)
        (Err (Refused why))
    refuses_read store l why is = subst (λ t. Does reading (Lent before)
        (with_lent_tape name t store.count a) (Err (Refused why))) (sym l.told_is) (record {
          home = tape_home name told before a store.count l.later;
          ends = λ left s. reads l.bytes store.count (Err why) l.later l.agrees is s;
        })

  -- ---- the source

  stored_is : (store : Kept) (l : IsLoaded told before store)
      → IsStored l.bytes (Ok (stored_of store))
  stored_is store l = (l.within, l.file)

  begins_so : (store : Kept) (l : IsLoaded told before store)
      → begins_new l.bytes ≡ has_new_bytes store.format store.length
  begins_so store l = begins store.format store.rows l.bytes store.length l.file l.length_is

  pub source_given : (store : Kept) → IsLoaded told before store
      → has_new_bytes store.format store.length ≡ false
      → Does (source_on name) (Lent before) (with_lent_tape name store.told store.count a)
      (Ok (stored_of store))
  source_given store l old = gives_read Store IsSource store l (stored_of store) (
    Ok (stored_of store),
    stored_is store l,
    sym (ap (λ (q : Bool). if q then Err NotOld else Ok (stored_of store))
        (begins_so store l ∙ old)),
  )

  pub source_new : (store : Kept) → IsLoaded told before store
      → has_new_bytes store.format store.length ≡ true
      → Does (source_on name) (Lent before) (with_lent_tape name store.told store.count a)
      (Err (Refused NotOld))
  source_new store l new = refuses_read Store IsSource store l NotOld (
    Ok (stored_of store),
    stored_is store l,
    sym (ap (λ (q : Bool). if q then Err NotOld else Ok (stored_of store))
        (begins_so store l ∙ new)),
  )

  -- ---- the target

  pub target_given : (store : Kept) → IsLoaded told before store → store.length ≡ 0
      → Does (target_read name) (Lent before) (with_lent_tape name store.told store.count a)
      (Ok (stored_of store))
  target_given store l none = gives_read Target IsTarget store l (stored_of store) (
    Ok (stored_of store),
    stored_is store l,
    sym (ap (λ b. unless_there b (Ok (stored_of store)))
        (no_bytes l.bytes (sym l.length_is ∙ none))),
  )

  pub target_filled : (store : Kept) → IsLoaded told before store → (size : ℕ)
      → size ≡ store.length → 0 < size
      → Does (target_read name) (Lent before) (with_lent_tape name store.told store.count a)
      (Err (Refused (NotEmpty size)))
  target_filled store l size same some =
      let long : size ≡ length l.bytes = same ∙ l.length_is in
      refuses_read Target IsTarget store l (NotEmpty size) (
        Ok (stored_of store),
        stored_is store l,
        sym (there l.bytes (stored_of store) (omega (arith, long, some))
            ∙ ap (λ n. Err (NotEmpty n)) (sym long)),
      )

  -- ---- its length

  sizes : {left : StepState} (bytes : List ℕ) (count : ℕ) → before ≤ count → Agrees told bytes
      → IsStateOf left (Lent before)
      → StepsEndAt (sizing name) left (Lent count) (by_point (none_there bytes))
  sizes {left} bytes count later is s = reach left (inr (
    bytes,
    subst (λ t. Agrees t (Some bytes)) (sym (tape_here name told before a s))
        (agrees_there told bytes is),
    by_goes (none_there bytes) left,
  ))
      (counted_tape name told before a count later s)

  sized : (count : ℕ) → before ≤ count → IfSome told (λ bytes. 0 ≡ length bytes)
      → Does (sizing name) (Lent before) (Lent count) (Ok tt)
  sized count later none =
      let given = some_bytes told 0 none in record {
        home = tape_home name told before a count later;
        ends = λ left s. subst (λ b. StepsEndAt (sizing name) left (Lent count)
            (by_point (none_there b))) (no_bytes given.0 given.2)
            (sizes given.0 count later given.1 s);
      }

  pub sized_then : (now : Option (List ℕ)) (count size : ℕ) {new : Environment}
      {result : Result Stored Stop} → before ≤ count → now ≡ told → size ≡ 0
      → IfSome told (λ bytes. size ≡ length bytes)
      → Does (target_read name) (with_lent_tape name now count a) new result
      → Does (target_on name) (Lent before) new result
  sized_then now count size {new} {result} later same none told_size d =
      goes_on (sizing name) (λ u. target_read name) tt
      (sized count later
      (subst (λ n. IfSome told (λ bytes. n ≡ length bytes)) none told_size))
      (subst (λ t. Does (target_read name) (with_lent_tape name t count a) new result) same d)

  filled : (count size : ℕ) → before ≤ count → IfSome told (λ bytes. size ≡ length bytes)
      → 0 < size
      → Does (sizing name) (Lent before) (Lent count) (Err (Refused (NotEmpty size)))
  filled count size later told_size some =
      let given = some_bytes told size told_size in record {
        home = tape_home name told before a count later;
        ends = λ left s. subst (λ r. StepsEndAt (sizing name) left (Lent count) (by_point r))
            (some_there given.0 (omega (arith, given.2, some))
            ∙ ap (λ n. Err (NotEmpty n)) given.2)
            (sizes given.0 count later given.1 s);
      }

  -- as it stands behind the call
  behind : (now : Option (List ℕ)) (count : ℕ) (stop : Stop) → now ≡ told
      → Does (target_on name) (Lent before) (Lent count) (Err stop)
      → Does (target_on name) (Lent before) (with_lent_tape name now count a) (Err stop)
  behind now count stop same d = subst (λ t. Does (target_on name) (Lent before)
      (with_lent_tape name t count a) (Err stop)) (sym same) d

  pub size_refused : (now : Option (List ℕ)) (count size : ℕ) → before ≤ count → now ≡ told
      → IfSome told (λ bytes. size ≡ length bytes) → 0 < size
      → Does (target_on name) (Lent before) (with_lent_tape name now count a)
      (Err (Refused (NotEmpty size)))
  size_refused now count size later same told_size some =
      behind now count (Refused (NotEmpty size)) same
      (stops (sizing name) (λ u. target_read name) (Refused (NotEmpty size))
      (filled count size later told_size some))

  pub size_failed : (now : Option (List ℕ)) (count given : ℕ) → before ≤ count → now ≡ told
      → Rose before count → given ≡ count
      → Does (target_on name) (Lent before) (with_lent_tape name now count a)
      (Err (Fault Target given))
  size_failed now count given later same rose is =
      behind now count (Fault Target given) same
      (stops (sizing name) (λ u. target_read name) (Fault Target given) (record {
        home = tape_home name told before a count later;
        ends = λ left s. (
          scanning Target name,
          reach left (inl (refl, refl)) (counted_tape name told before a count later s),
          (
            refl,
            tape_rose name told before a count rose,
            is ∙ sym (count_here name told before a count),
          ),
        );
      }))

pub target_new : {told : Option (List ℕ)} {before : ℕ} (store : Kept)
    → IsLoaded told before store → store.length ≡ 0 → (store.format ≡ Two) × (store.rows ≡ [])
target_new store l none =
    empty_file store.format store.rows l.bytes l.file (sym l.length_is ∙ none)

-- what was read behind the length, as the whole
module _ (told : Option (List ℕ)) (before : ℕ) (now : Option (List ℕ)) (count size : ℕ)
    (later : before ≤ count) (same : now ≡ told) (none : size ≡ 0)
    (told_size : IfSome told (λ bytes. size ≡ length bytes)) where
  pub sized_ok : {T : Type 0} (result : Result Kept (Stop × T))
      → IfOk result (λ store. (name : List ℕ) (a : Environment) → Does (target_read name)
      (with_lent_tape name now count a) (with_lent_tape name store.told store.count a)
      (Ok (stored_of store)))
      → IfOk result (λ store. (name : List ℕ) (a : Environment) → Does (target_on name)
      (with_lent_tape name told before a) (with_lent_tape name store.told store.count a)
      (Ok (stored_of store)))
  sized_ok (Ok store) d = λ name a.
      sized_then name told before a now count size later same none told_size (d name a)
  sized_ok (Err refused) d = tt

  pub sized_err : {T : Type 0} (told_of : T → Option (List ℕ)) (count_of : T → ℕ)
      (result : Result Kept (Stop × T))
      → IfErr result (λ refused. (name : List ℕ) (a : Environment) → Does (target_read name)
      (with_lent_tape name now count a)
      (with_lent_tape name (told_of refused.1) (count_of refused.1) a) (Err refused.0))
      → IfErr result (λ refused. (name : List ℕ) (a : Environment) → Does (target_on name)
      (with_lent_tape name told before a)
      (with_lent_tape name (told_of refused.1) (count_of refused.1) a) (Err refused.0))
  sized_err told_of count_of (Ok store) d = tt
  sized_err told_of count_of (Err refused) d = λ name a.
      sized_then name told before a now count size later same none told_size (d name a)

-- ---- what `migrate` answers

remembered : {A : Type 0} (next : Steps A) {old new : Environment} {result : Result A Stop}
    → Does next old new result → Does (with_memory next) old new result
remembered next {old} d = goes_on (with_memory (give tt)) (λ (u : Unit {0}). next) tt
    (record { home = home_refl old; ends = λ left s. reach left (inr (tt, tt, (refl, refl))) s }) d

pub migrated_all : (name : List ℕ) (config : List ConfigEntry) (source target : Stored)
    {old new : Environment} (copied : Result (Unit {0}) Stop) (line : List ℕ) (count : ℕ)
    → count ≡ length source.rows → line ≡ codes "migrated " ++ (decimal count ++ codes "\n")
    → Does (copying name target (map (migrated_row config) source.rows)) old new
    (all_grown (map (migrated_row config) source.rows) target copied)
    → Does (copied_into name config source target) old new (answered copied line)
migrated_all name config source target {old} {new} copied line count same is d =
    remembered (and_then copies next) (by_cases copied d)
  where
    copies : Steps Stored
    copies = copying name target (map (migrated_row config) source.rows)

    next : Stored → Steps Outcome
    next copied = give (silently (migrated_line source.rows))

    line_is : migrated_line source.rows ≡ line
    line_is = ap (λ n. codes "migrated " ++ (decimal n ++ codes "\n")) (sym same) ∙ sym is

    by_cases : (copied : Result (Unit {0}) Stop)
        → Does copies old new
        (all_grown (map (migrated_row config) source.rows) target copied)
        → Does (and_then copies next) old new (answered copied line)
    by_cases (Ok done) d = goes_on copies next (record {
      format = target.format;
      rows = target.rows ++ map (migrated_row config) source.rows;
    }) d
        (subst (λ l. Does (give (silently (migrated_line source.rows))) new new
        (Ok (silently l))) line_is (given (silently (migrated_line source.rows)) new))
    by_cases (Err stop) d = stops copies next stop d
