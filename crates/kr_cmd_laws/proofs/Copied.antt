-- What a migration leaves of the tapes, by the rows that it copies.
use Rattle.std.proofs.Common.{◌≡◌, ◌≢◌, ℕ, List, [], ◌∷◌, ◌++◌, length, map, Bool, true, false, Option, None, Some, Result, Ok, Err, refl, sym, ◌∙◌, ap, subst, inl, inr}
use Rattle.std.specs.Prelude.{◌⊎◌, nat_lt, if◌then◌else◌}
use Rattle.std.specs.Option.{option_map}
use Rattle.std.proofs.lemmas.List.{append_assoc}
use Rattle.kr_base.specs.Limits.{store_limit}
use Rattle.kr_base.specs.Told.{Agrees}
use Rattle.kr_config.specs.Kept.{ConfigEntry}
use Rattle.kr_kms.specs.Outside.{same_name}
use Rattle.kr_kms.specs.declared.world.WorldCall.TheVariants.{File, Tape}
use Rattle.kr_kms.specs.declared.world.Access.TheVariants.{ToRead, ToMake}
use Rattle.kr_store.specs.File.{file_bytes}
use Rattle.kr_store.specs.declared.format.Format.TheVariants.{Two}
use Rattle.kr_store.specs.declared.rows.LogRow.{LogRow}
use Rattle.kr_cmd_steps.specs.Afterwards.{IsUngrown, OthersStay, ToldTape, new_store}
use Rattle.kr_cmd_steps.specs.Phases.{by_result, silently}
use Rattle.kr_cmd_steps.specs.StoreSteps.{copied_into, copying, migrated_line, migrated_row, migrating_into, source_on, target_on}
use Rattle.kr_cmd_steps.specs.Commands.{migrating}
use Rattle.kr_cmd_steps.specs.Configuration.{IsConfiguration}
use Rattle.kr_cmd_steps.specs.Steps.{Steps, write_row, give, settle, and_then, or_empty, tapes_with, with_asked, with_tape, with_told, Point, awaits, amid, refuses, gives, StepState, IsAt, RunTo}
use Rattle.kr_cmd_steps.specs.StoreFiles.{BeginsWith, HoldsRows, IsStored, Stored, begins_new, unless_new, unless_there, with_row}
use Rattle.kr_cmd_messages.specs.declared.command.Migration.{Migration}
use Rattle.kr_cmd_messages.specs.declared.refusal.Limit.TheVariants as limit
use Rattle.kr_cmd_messages.specs.declared.refusal.Object.TheVariants.{Target}
use Rattle.kr_cmd_messages.specs.declared.refusal.Outcome.{Outcome}
use Rattle.kr_cmd_messages.specs.declared.refusal.Refusal.{Refusal}
use Rattle.kr_cmd_messages.specs.declared.refusal.Refusal.TheVariants.{Limit, NotOld}
use Rattle.kr_cmd_steps.proofs.EmptyFiles.{empty_file}
use Rattle.kr_cmd_steps.proofs.Points.{IsAmidRows, IsShort, IsThrough, IsTorn}
use Rattle.kr_cmd_steps.proofs.RunTo.{Further}
use Rattle.kr_cmd_laws.proofs.Behind.{parted}
use Rattle.kr_cmd_steps.proofs.Tapes.{own_name}

-- ---- rows that are copied

-- of all rows so many were copied
pub record IsCopied (name : List ℕ) (all : List LogRow) (old new : List ℕ → ToldTape)
    : Type 0 where
  pub copied : List LogRow
  pub rest : List LogRow
  pub told : Option (List ℕ)
  pub others : OthersStay name old new
  pub parts : copied ++ rest ≡ all
  pub is_told : new name ≡ option_map Some told

-- how the tape is left, by where the steps come to
abbrev pub IsLeft : (name : List ℕ) (all : List LogRow) (p : Point Outcome)
    (old new : List ℕ → ToldTape) → Type 0
IsLeft name all p old new = (c : IsCopied name all old new)
    × ((IsTorn Target name p × (c.rest ≢ []) × BeginsWith (new_store c.copied) c.told)
    ⊎ (IsThrough Target name p × (c.rest ≡ []) × HoldsRows (new_store c.copied) c.told)
    ⊎ (IsAmidRows p × (c.rest ≢ []) × HoldsRows (new_store c.copied) c.told))

-- where a tape tells this
abbrev telling : (name : List ℕ) → Option (List ℕ) → (List ℕ → ToldTape) → List ℕ → ToldTape
telling name told tapes = λ other. if same_name name other then option_map Some told
    else tapes other

module _ (name : List ℕ) (all : List LogRow) (line : List ℕ) (p : Point Outcome) (end : StepState) where
  told_here : (told : Option (List ℕ)) (tapes : List ℕ → ToldTape)
      → telling name told tapes name ≡ option_map Some told
  told_here told tapes =
      ap (λ q. if q then option_map Some told else tapes name) (own_name name)

  told_there : (told : Option (List ℕ)) (tapes : List ℕ → ToldTape)
      → OthersStay name tapes (telling name told tapes)
  told_there told tapes other f =
      ap (λ q. if q then option_map Some told else tapes other) f

  -- the others stay so far, too
  others_since : {a b c : List ℕ → ToldTape} → OthersStay name a b → OthersStay name b c
      → OthersStay name a c
  others_since h k other f = k other f ∙ h other f

  ended : {old : List ℕ → ToldTape} {here : Point Outcome} {last : StepState} → IsAt p end here last
      → OthersStay name old last.tapes → OthersStay name old end.tapes
  ended {old} at h = subst (λ (l : StepState). OthersStay name old l.tapes) (sym at.1) h

  so_many : (copied rest : List LogRow) (told : Option (List ℕ)) (old : List ℕ → ToldTape)
      {here : Point Outcome} {last : StepState} → IsAt p end here last → copied ++ rest ≡ all
      → OthersStay name old last.tapes → last.tapes name ≡ option_map Some told
      → IsCopied name all old end.tapes
  so_many copied rest told old at parts others is_told = record {
    copied = copied;
    rest = rest;
    told = told;
    others = ended at others;
    parts = parts;
    is_told = ap (λ (l : StepState). l.tapes name) at.1 ∙ is_told;
  }

  -- so many rows are there, and these are still to come
  pub copies_left : (copied rest : List LogRow) (told : Option (List ℕ))
      (old : List ℕ → ToldTape) (left : StepState) → copied ++ rest ≡ all
      → OthersStay name old left.tapes → left.tapes name ≡ option_map Some told
      → HoldsRows (new_store copied) told
      → RunTo p end (and_then (copying name (new_store copied) rest)
      (λ copied. give (silently line))) left
      → IsLeft name all p old end.tapes
  unfolding so_many
  copies_left copied [] told old left parts others is_told holds at = (
    so_many copied [] told old at parts others is_told,
    inr (inl (subst (IsThrough Target name) (sym at.0) refl, refl, holds)),
  )
  copies_left copied (row ∷ rest) told old left parts others is_told holds (inl at) = (
    so_many copied (row ∷ rest) told old at parts others is_told,
    inr (inr (subst IsAmidRows (sym at.0) tt, (λ none. absurd cc), holds)),
  )
  copies_left copied (row ∷ rest) told old left parts others is_told holds (inr (u, v, goes)) =
      by_limit (nat_lt store_limit (length (file_bytes Two (copied ++ row ∷ []))))
      (λ now grown goes. copies_left (copied ++ row ∷ []) rest now old (with_told name now left)
      (append_assoc copied (row ∷ []) rest ∙ parts)
      (others_since others (told_there now left.tapes)) (told_here now left.tapes) grown goes)
      goes
    where
      by_limit : (large : Bool)
          → ((now : Option (List ℕ)) → HoldsRows (new_store (copied ++ row ∷ [])) now
          → RunTo p end (and_then (copying name (new_store (copied ++ row ∷ [])) rest)
          (λ copied. give (silently line))) (with_told name now left)
          → IsLeft name all p old end.tapes)
          → RunTo p end (and_then (and_then (and_then
          (by_result (if large then Err (Limit limit.Store)
          else Ok (with_row row (new_store copied))))
          (λ grown. write_row Target name (new_store copied) row (give grown)))
          (λ grown. copying name grown rest))
          (λ copied. give (silently line))) left
          → IsLeft name all p old end.tapes
      by_limit true further at = (
        so_many copied (row ∷ rest) told old at parts others is_told,
        inr (inr (
          subst IsAmidRows (sym at.0) (limit.Store, refl),
          (λ none. absurd cc),
          holds,
        )),
      )
      by_limit false further (inl (now, begins, at)) = (
        so_many copied (row ∷ rest) now old at parts
            (others_since others (told_there now left.tapes)) (told_here now left.tapes),
        inl (subst (IsTorn Target name) (sym at.0) refl, (λ none. absurd cc), begins),
      )
      by_limit false further (inr (now, grown, goes)) = further now grown goes

-- ---- the phases before

-- a source that isn't refused is its file
old_of : (bytes : List ℕ) (source : Stored) (read : Result Stored Refusal) → IsStored bytes read
    → Ok source ≡ unless_new bytes read → IsStored bytes (Ok source)
old_of bytes source (Err why) is e = absurd cc
old_of bytes source (Ok store) is e = by_name (begins_new bytes) e
  where
    by_name : (new : Bool) → Ok source ≡ (if new then Err NotOld else Ok store)
        → IsStored bytes (Ok source)
    by_name true e = absurd cc
    by_name false e = let same : store ≡ source = cc in
        subst (λ s. IsStored bytes (Ok s)) same is

-- a target that isn't refused is a new store
new_of : (bytes : List ℕ) (target : Stored) (read : Result Stored Refusal) → IsStored bytes read
    → Ok target ≡ unless_there bytes read → target ≡ new_store []
new_of [] target (Ok store) is e =
    let same : store ≡ target = cc in
    let empty = empty_file store.format store.rows [] is.1 refl in
    sym same ∙ (λ i. record { format = empty.0 i; rows = empty.1 i })
new_of [] target (Err why) is e = absurd cc
new_of (byte ∷ bytes) target (Ok store) is e = absurd cc
new_of (byte ∷ bytes) target (Err why) is e = absurd cc

-- what is told of a tape that is empty, as a store
empty_told : (tape : ToldTape) → Agrees tape (Some [])
    → (told : Option (List ℕ)) × (tape ≡ option_map Some told) × HoldsRows (new_store []) told
empty_told None e = (None, refl, tt)
empty_told (Some held) e = (Some [], ap Some e, (tt, inl (refl, refl, refl)))

-- what a migration goes by: its configuration, the rows of its store, and an empty target
pub record MigratesFrom (words : Migration) (left : StepState) : Type 0 where
  pub file : Option (List ℕ)
  pub rows : List ConfigEntry
  pub bytes : List ℕ
  pub source : Stored
  pub configured : Agrees (left.file words.config) file
  pub means : IsConfiguration words.config file (Ok rows)
  pub held : Agrees (left.tapes words.store) (Some bytes)
  pub read : IsStored bytes (Ok source)
  pub empty : Agrees (or_empty (left.tapes words.to)) (Some [])

-- how it leaves the tapes, by where its steps come to
pub record IsMigrated (words : Migration) (p : Point Outcome) (left : StepState)
    (new : List ℕ → ToldTape) : Type 0 where
  pub from : MigratesFrom words left
  pub is_left : IsLeft words.to (map (migrated_row from.rows) from.source.rows) p left.tapes new

abbrev pub Migrates : Migration → Point Outcome → StepState → (List ℕ → ToldTape) → Type 0
Migrates words p left new =
    (IsShort p × OthersStay words.to left.tapes new
    × IsUngrown (left.tapes words.to) (new words.to))
    ⊎ IsMigrated words p left new

module _ (words : Migration) (p : Point Outcome) (end left : StepState) where
  abbrev Leaves : Type 0
  Leaves = Migrates words p left end.tapes

  -- the target's tape is out
  abbrev out : List ℕ → ToldTape
  out = tapes_with true words.to left.tapes

  out_here : out words.to ≡ or_empty (left.tapes words.to)
  out_here = ap (λ q. if q then or_empty (left.tapes words.to) else left.tapes words.to)
      (own_name words.to)

  out_there : OthersStay words.to left.tapes out
  out_there other f = ap (λ q. if q then or_empty (left.tapes words.to) else left.tapes other) f

  -- they are as they were
  same : {here : Point Outcome} {last : StepState} → IsAt p end here last → IsShort here
      → last.tapes ≡ left.tapes → Leaves
  same at short e =
      let ends : end.tapes ≡ left.tapes = ap (λ l. l.tapes) at.1 ∙ e in inl (
        subst IsShort (sym at.0) short,
        (λ other f. ap (λ t. t other) ends),
        inl (ap (λ t. t words.to) ends),
      )

  -- the target was made, where it was absent
  made : {here : Point Outcome} {last : StepState} → IsAt p end here last → IsShort here
      → last.tapes ≡ out → Leaves
  made at short e =
      let ends : end.tapes ≡ out = ap (λ l. l.tapes) at.1 ∙ e in inl (
        subst IsShort (sym at.0) short,
        (λ other f. ap (λ t. t other) ends ∙ out_there other f),
        inr (ap (λ t. t words.to) ends ∙ out_here),
      )

  module _ (file : Option (List ℕ)) (rows : List ConfigEntry) (bytes : List ℕ) (source : Stored)
      (configured : Agrees (left.file words.config) file)
      (means : IsConfiguration words.config file (Ok rows))
      (held : Agrees (left.tapes words.store) (Some bytes))
      (read : IsStored bytes (Ok source)) where
    at_copy : (target : Stored) (mid : StepState) → target ≡ new_store [] → mid.tapes ≡ out
        → Agrees (or_empty (left.tapes words.to)) (Some [])
        → RunTo p end (copied_into words.to rows source target) mid → Leaves
    at_copy target mid new e empty (inl at) = made at tt e
    at_copy target mid new e empty (inr (u, v, goes)) =
        let told = empty_told (or_empty (left.tapes words.to)) empty in
        let lines = map (migrated_row rows) source.rows in inr (record {
          from = record {
            file = file;
            rows = rows;
            bytes = bytes;
            source = source;
            configured = configured;
            means = means;
            held = held;
            read = read;
            empty = empty;
          };
          is_left = copies_left words.to lines (migrated_line source.rows) p end [] lines told.0
              left.tapes mid refl (λ other f. ap (λ t. t other) e ∙ out_there other f)
              (ap (λ t. t words.to) e ∙ out_here ∙ told.1) told.2
              (subst (λ s. RunTo p end (and_then (copying words.to s lines)
              (λ copied. give (silently (migrated_line source.rows)))) mid) new goes);
        })

    at_target : (mid : StepState) → mid.tapes ≡ out
        → RunTo p end (and_then (target_on words.to) (copied_into words.to rows source)) mid
        → Leaves
    at_target mid e (inl at) = made at tt e
    at_target mid e (inr (byte ∷ more, agrees, at)) = made at tt e
    at_target mid e (inr ([], agrees, inl at)) = made at tt e
    at_target mid e (inr ([], agrees, inr (again, there, inl at))) = made at tt e
    at_target mid e (inr ([], agrees, inr (again, there, inr (Err why, is, at)))) =
        made at tt e
    at_target mid e (inr ([], agrees, inr (again, there, inr (Ok target, is, goes)))) =
        at_copy target mid (new_of again target is.0 is.1 is.2) e
        (subst (λ t. Agrees t (Some [])) (ap (λ t. t words.to) e ∙ out_here) agrees) goes

module _ (words : Migration) (p : Point Outcome) (end left : StepState) where
  abbrev settling_it : Outcome → Steps Outcome
  settling_it made = settle Target words.to (give made)

  -- since the steps before the settling were left so
  through : (new : List ℕ → ToldTape) (q : Point Outcome)
      → (IsThrough Target words.to q → IsThrough Target words.to p) → (IsShort q → IsShort p)
      → (IsTorn Target words.to q → IsTorn Target words.to p) → (IsAmidRows q → IsAmidRows p)
      → Migrates words q left new → Migrates words p left new
  through new q whole short torn amid_rows (inl none) = inl (short none.0, none.1, none.2)
  through new q whole short torn amid_rows (inr m) = inr (record {
    from = m.from;
    is_left = (
      m.is_left.0,
      elim m.is_left.1 [
        | inl t ↦ inl (torn t.0, t.1, t.2)
        | inr more ↦ elim more [
          | inl w ↦ inr (inl (whole w.0, w.1, w.2))
          | inr s ↦ inr (inr (amid_rows s.0, s.1, s.2))
        ]
      ],
    );
  })

  ended_so : (q : Point Outcome) (mid : StepState) → (p ≡ q) × (end ≡ mid)
      → Migrates words q left mid.tapes → Leaves words p end left
  ended_so q mid at m = subst (λ (l : StepState). Migrates words p left l.tapes) (sym at.1)
      (subst (λ r. Migrates words r left mid.tapes) (sym at.0) m)

  settled_on : (q : Point Outcome) (mid : StepState) → Migrates words q left mid.tapes
      → Further p end settling_it q mid → Leaves words p end left
  settled_on (awaits call) mid m at = ended_so (awaits call) mid at m
  settled_on amid mid m at = ended_so amid mid at m
  settled_on (refuses why) mid m at = ended_so (refuses why) mid at m
  settled_on (gives x) mid m (inl at) =
      subst (λ (l : StepState). Migrates words p left l.tapes) (sym at.1)
      (through mid.tapes (gives x) (λ is. subst (IsThrough Target words.to) (sym at.0) refl)
      (λ none. absurd none) (λ none. absurd none) (λ none. absurd none) m)
  settled_on (gives x) mid m (inr at) =
      subst (λ (l : StepState). Migrates words p left l.tapes) (sym at.1)
      (through mid.tapes (gives x) (λ is. subst (IsThrough Target words.to) (sym at.0) is)
      (λ none. absurd none) (λ none. absurd none) (λ none. absurd none) m)

  at_tape : (file : Option (List ℕ)) (rows : List ConfigEntry) (bytes : List ℕ) (source : Stored)
      → Agrees (left.file words.config) file → IsConfiguration words.config file (Ok rows)
      → Agrees (left.tapes words.store) (Some bytes) → IsStored bytes (Ok source) → (mid : StepState)
      → mid.tapes ≡ left.tapes → RunTo p end (migrating_into words.to rows source) mid
      → Leaves words p end left
  at_tape file rows bytes source configured means held read mid e (inl at) =
      same words p end left at tt e
  at_tape file rows bytes source configured means held read mid e (inr (inl at)) =
      same words p end left at tt e
  at_tape file rows bytes source configured means held read mid e
      (inr (inr (inl (never, agrees, at)))) =
      absurd (let t : true ≡ false = never in cc)
  at_tape file rows bytes source configured means held read mid e
      (inr (inr (inr (may, goes)))) =
      let out : StepState = with_tape true words.to (with_asked (Tape words.to ToMake) mid) in
      let r = parted settling_it p end
      (and_then (target_on words.to) (copied_into words.to rows source)) out goes in
      settled_on r.0 r.1 (at_target words r.0 r.1 left file rows bytes source configured means held
      read out (ap (tapes_with true words.to) e) r.2) r.3

  unchanged : {here : Point Outcome} {last : StepState} → IsAt p end here last → IsShort here
      → last.tapes ≡ left.tapes → Leaves words p end left
  unchanged at short e = same words p end left at short e

  -- the store's tape is lent
  abbrev lent : StepState
  lent = with_tape false words.store (with_asked (Tape words.store ToRead)
      (with_asked (File words.config) left))

  at_source : (file : Option (List ℕ)) (rows : List ConfigEntry)
      → Agrees (left.file words.config) file → IsConfiguration words.config file (Ok rows)
      → RunTo p end (and_then (source_on words.store) (migrating_into words.to rows)) lent
      → Leaves words p end left
  at_source file rows agrees is (inl at) = unchanged at tt refl
  at_source file rows agrees is (inr (bytes, held, inl at)) = unchanged at tt refl
  at_source file rows agrees is (inr (bytes, held, inr (Err why, read, at))) =
      unchanged at tt refl
  at_source file rows agrees is (inr (bytes, held, inr (Ok source, read, goes))) =
      at_tape file rows bytes source agrees is held
      (old_of bytes source read.0 read.1 read.2) lent refl goes

  pub migrate_leaves : RunTo p end (migrating words) left → Leaves words p end left
  migrate_leaves (inl at) = unchanged at tt refl
  migrate_leaves (inr (inl at)) = unchanged at tt refl
  migrate_leaves (inr (inr (file, agrees, inl at))) = unchanged at tt refl
  migrate_leaves (inr (inr (file, agrees, inr (Err why, is, at)))) = unchanged at tt refl
  migrate_leaves (inr (inr (file, agrees, inr (Ok rows, is, inl at)))) = unchanged at tt refl
  migrate_leaves (inr (inr (file, agrees, inr (Ok rows, is, inr (inl at))))) = unchanged at tt refl
  migrate_leaves (inr (inr (file, agrees, inr (Ok rows, is, inr (inr (inl (f, none, at))))))) =
      unchanged at tt refl
  migrate_leaves (inr (inr (file, agrees, inr (Ok rows, is, inr (inr (inr (may, goes))))))) =
      at_source file rows agrees is goes
