-- What a value reads as: one thing by what plugins answered, whatever was published and kept; so it
-- would be read again with the same answers from where nothing is kept.
use Rattle.std.proofs.Common.{◌≡◌, ℕ, suc, zero, Bool, true, false, List, [], ◌∷◌, map, Option, None, Some, Result, Ok, Err, Contains, refl, sym, ◌∙◌, ap, subst, inl, inr, arith, ◌++◌, All, append-nil}
use Rattle.std.specs.Prelude.{IsSome, cond, if◌then◌else◌}
use Rattle.std.specs.Str.{bytes_eq}
use Rattle.std.proofs.lemmas.Slice.Eq.{bytes_eq-Decides}
use Rattle.std.proofs.lemmas.List.Elements.{All-cons, All-head, All-nil, All-tail}
use Rattle.std.proofs.lemmas.Option.{none-some, same_Some}
use Rattle.kr_config.specs.declared.who.Who.{Who}
use Rattle.kr_config.specs.declared.who.Who.TheVariants as who
use Rattle.kr_envelope.specs.declared.object.EncryptedObject.{EncryptedObject}
use Rattle.kr_envelope.specs.declared.object.ObjectNo.{ObjectNo}
use Rattle.kr_kms.specs.Cache.{key_eq, CacheState, seed_at, with_used}
use Rattle.kr_kms.specs.Exchanges.{UnwrapCall, AgreesWith, Exchange}
use Rattle.kr_kms.specs.Health.{breach_in}
use Rattle.kr_kms.specs.Opens.{Opens, OpenAll, key_of}
use Rattle.kr_kms.specs.declared.health.Field.{Field}
use Rattle.kr_kms.specs.declared.seeds.SeedRow.{SeedRow}
use Rattle.kr_kms.proofs.Keys.{same_key}
use Rattle.kr_provider.specs.Envelopes.{Envelope, HasEnvelope, HasObject, seed_key}
use Rattle.kr_provider.specs.Publication.{seed_of}
use Rattle.kr_provider.specs.Reading.{HasReading, Reading, data_of, refused, unopened, value_reading, is_stale}
use Rattle.kr_provider.specs.Readers.{reader_in}
use Rattle.kr_provider.specs.declared.refusal.Opened.{Opened}
use Rattle.kr_provider.specs.declared.refusal.ValueNo.{ValueNo}
use Rattle.kr_provider.proofs.OneReading.{one_reading}
use Rattle.kr_cmd_steps.specs.ValueSteps.{opening, published_source, reading_given, source_steps, value_read, value_with, fetching, none_kept}
use Rattle.kr_cmd_steps.specs.Plugins.{make_seed, make_seeds, unless_breach, wrap_seed}
use Rattle.kr_cmd_steps.specs.Steps.{RunTo, StepState, Steps, and_then, give, gives, with_heard}
use Rattle.kr_cmd_laws.proofs.Joints.{joint, no_value, one_value}
use Rattle.kr_kms.specs.declared.seeds.SeedKey.{SeedKey}
use Rattle.kr_kms.proofs.Fetching.{found_there}
use Rattle.kr_cmd_laws.proofs.HeardBefore.{AllTold, earlier}
use Rattle.kr_cmd_laws.proofs.Kept.{AreHeld, answer_held, seed_held, used_held}

-- ---- the names of seeds that were made

-- the seed of a plugin has its name
seed_named : (plugin : List ℕ) (row : SeedRow) (end left : StepState)
    → RunTo (gives row) end (make_seed plugin) left → row.name ≡ plugin
seed_named plugin row end left (inl at) = absurd (no_value at refl)
seed_named plugin row end left (inr (inl (answer, at))) = absurd (no_value at refl)
seed_named plugin row end left (inr (inr (inl at))) = absurd (no_value at refl)
seed_named plugin row end left (inr (inr (inr (status, agrees, goes)))) =
    by_breach (breach_in status) _ goes
  where
    by_breach : (breach : Option (Field × List ℕ)) (now : StepState)
        → RunTo (gives row) end (unless_breach plugin breach (wrap_seed plugin)) now
        → row.name ≡ plugin
    by_breach (Some breach) now at = absurd (no_value at refl)
    by_breach None now (inl at) = absurd (no_value at refl)
    by_breach None now (inr (seed, rest, c, fits, inl at)) = absurd (no_value at refl)
    by_breach None now (inr (seed, rest, c, fits, inr (inl (answer, at)))) =
        absurd (no_value at refl)
    by_breach None now (inr (seed, rest, c, fits, inr (inr (inl at)))) =
        absurd (no_value at refl)
    by_breach None now (inr (seed, rest, c, fits, inr (inr (inr (wrapped, within, at))))) =
        ap (λ (r : SeedRow). r.name) (one_value at)

abbrev names_of : List SeedRow → List (List ℕ)
names_of seeds = map (λ row. row.name) seeds

pub seeds_named : (plugins : List (List ℕ)) (seeds : List SeedRow) (end left : StepState)
    → RunTo (gives seeds) end (make_seeds plugins) left → map (λ row. row.name) seeds ≡ plugins
seeds_named [] seeds end left at = ap names_of (one_value at)
seeds_named (plugin ∷ plugins) seeds end left goes =
    let j = joint (λ row. and_then (make_seeds plugins) (λ rows. give (row ∷ rows))) seeds end
    (make_seed plugin) left goes in
    let k = joint (λ rows. give (j.0 ∷ rows)) seeds end (make_seeds plugins) j.1 j.3 in
    ap names_of (one_value k.3)
    ∙ (λ i. seed_named plugin j.0 j.1 left j.2 i ∷ seeds_named plugins k.0 k.1 j.1 k.2 i)

-- the seed of a name is one of them
pub seed_opens : (opens : Opens) (name : List ℕ) (seeds : List SeedRow) (row : SeedRow)
    → OpenAll opens seeds → seed_of name seeds ≡ Some row → opens (key_of row) ≡ Some row.seed
seed_opens opens name [] row all is = absurd (none-some row is)
seed_opens opens name (first ∷ seeds) row all is = at (bytes_eq first.name name) is
    (seed_opens opens name seeds row
    (All-tail (λ r. opens (key_of r) ≡ Some r.seed) first seeds all))
  where
    at : (b : Bool) → cond b (Some first) (seed_of name seeds) ≡ Some row
        → (seed_of name seeds ≡ Some row → opens (key_of row) ≡ Some row.seed)
        → opens (key_of row) ≡ Some row.seed
    at true is further = subst (λ (r : SeedRow). opens (key_of r) ≡ Some r.seed)
        (same_Some first row is) (All-head (λ r. opens (key_of r) ≡ Some r.seed) first seeds all)
    at false is further = further is

pub seed_there : (seeds : List SeedRow) (name : List ℕ)
    → Contains (map (λ row. row.name) seeds) name → IsSome (seed_of name seeds)
seed_there [] name c = absurd (omega (arith, c.1))
seed_there (row ∷ rows) name c = at (bytes_eq row.name name) refl (seed_there rows name) c
  where
    at : (b : Bool) → bytes_eq row.name name ≡ b
        → (Contains (map (λ r. r.name) rows) name → IsSome (seed_of name rows))
        → Contains (map (λ r. r.name) (row ∷ rows)) name
        → IsSome (cond b (Some row) (seed_of name rows))
    at true t more c = refl
    at false t more (zero, lt, e) =
        let s = (bytes_eq-Decides row.name name).1 e in absurd (cc)
    at false t more (suc k, lt, e) = more (k, omega (arith, lt), e)

-- ---- a value

-- the reading was answered so
abbrev pub IsReadAs : Reading → Result Opened ValueNo → Type 0
IsReadAs (data_of plain) (Ok opened) = opened.plain ≡ plain
IsReadAs (refused why) (Err cause) = cause ≡ why
IsReadAs reading read = ⊥

-- the value's one reading was answered so
abbrev pub IsTrueReading : Opens → List Who → (path bytes : List ℕ) → Result Opened ValueNo → Type 0
IsTrueReading opens list path bytes read =
    (reading : Reading) × HasReading opens list path bytes reading × IsReadAs reading read

-- nothing is kept at first
none_there : (key : SeedKey) → seed_at none_kept.rows key ≡ None
none_there key = by (seed_at none_kept.rows key) refl
  where
    by : (x : Option (List ℕ)) → seed_at none_kept.rows key ≡ x → x ≡ None
    by None is = refl
    by (Some seed) is =
        let there = found_there none_kept.rows key seed is in absurd (omega (arith, there.1))

module _ (P : Exchange → Type 0) (seeds : List SeedRow) (list : List Who) (path bytes : List ℕ)
    (read : Result Opened ValueNo) where
  abbrev Read : Type 0
  Read = Result Opened ValueNo × CacheState

  abbrev pub Answered : SeedKey → List ℕ → Type 0
  Answered key seed = P (UnwrapCall key (Ok seed))

  -- plugins that answer so agree with the openings
  abbrev Agreed : Opens → Type 0
  Agreed opens = (e : Exchange) → P e → AgreesWith opens e

  abbrev envelope : Result EncryptedObject ObjectNo → Option (List ℕ) → Envelope
  envelope object source = record { object = object; source = source }

  abbrev behind : CacheState → Result Opened ValueNo → Steps Read
  behind kept given = give (given, kept)

  abbrev again : StepState → List Exchange → StepState
  again l heard = record l { heard = Some heard }

  -- with this object and source the value reads so; and it would be read so by these steps, from
  -- where nothing is kept, by answers of which this holds too
  pub record Found (steps : Steps Read) (reader : Option Who)
      (object : Result EncryptedObject ObjectNo) (end left : StepState) (later : CacheState)
      : Type 0 where
    pub held : AreHeld Answered later
    pub own : List Exchange
    pub all : All P own
    pub after : CacheState
    pub goes : (l : StepState) (h : List Exchange)
        → RunTo (gives (read, after)) (again l (h ++ own)) steps (again l h)
    pub source : Option (List ℕ)
    pub has : (opens : Opens) → Agreed opens → OpenAll opens seeds
        → HasEnvelope opens reader bytes (envelope object source)
    pub is_read : IsReadAs (value_reading (envelope object source) list path bytes) read

  -- what a reading gives leaves all as it is, whatever is kept
  abbrev Given : Reading → Bool → (kept later : CacheState) → (end now : StepState) → Type 0
  Given reading stale kept later end now = (later ≡ kept) × (end ≡ now)
      × ((k : CacheState) (l : StepState)
      → RunTo (gives (read, k)) l (and_then (reading_given reading stale) (behind k)) l)
      × IsReadAs reading read

  given_by : (given : Result Opened ValueNo) (kept later : CacheState)
      → ◌≡◌ {A = Read} (read, later) (given, kept) → (later ≡ kept) × (read ≡ given)
  given_by given kept later e =
      (ap (λ (x : Read). x.1) e, ap (λ (x : Read). x.0) e)

  given_so : (reading : Reading) (stale : Bool) (kept later : CacheState) (end now : StepState)
      → RunTo (gives (read, later)) end (and_then (reading_given reading stale) (behind kept)) now
      → Given reading stale kept later end now
  given_so (data_of plain) stale kept later end now at =
      let is = given_by (Ok (record { plain = plain; stale = stale })) kept later (one_value at) in (
        is.0,
        at.1,
        λ k l. ((λ i. gives (is.1 i, k)), refl),
        subst (IsReadAs (data_of plain)) (sym is.1) refl,
      )
  given_so (refused why) stale kept later end now at =
      let is = given_by (Err why) kept later (one_value at) in (
        is.0,
        at.1,
        λ k l. ((λ i. gives (is.1 i, k)), refl),
        subst (IsReadAs (refused why)) (sym is.1) refl,
      )
  given_so unopened stale kept later end now (inl at) = absurd (no_value at refl)
  given_so unopened stale kept later end now (inr (e, is, goes)) = absurd e

  module _ (object : Result EncryptedObject ObjectNo) (reader : Option Who) where
    abbrev next : Option (List ℕ) → CacheState → Steps Read
    next = value_with seeds list path bytes object

    abbrev HasSource : Option (List ℕ) → Type 0
    HasSource source = (opens : Opens) → Agreed opens → OpenAll opens seeds
        → HasEnvelope opens reader bytes (envelope object source)

    given : (source : Option (List ℕ)) (kept later : CacheState) (end now : StepState)
        → RunTo (gives (read, later)) end (next source kept) now
        → Given (value_reading (envelope object source) list path bytes)
        (is_stale (envelope object source) seeds list bytes) kept later end now
    given source = given_so (value_reading (envelope object source) list path bytes)
        (is_stale (envelope object source) seeds list bytes)

    -- no plugin is asked
    unasked : (source : Option (List ℕ)) → HasSource source → (kept later : CacheState)
        (end left : StepState) → AreHeld Answered kept
        → RunTo (gives (read, later)) end (next source kept) left
        → Found (next source none_kept) reader object end left later
    unasked source has kept later end left held goes =
        let g = given source kept later end left goes in record {
          held = subst (AreHeld Answered) (sym g.0) held;
          own = [];
          all = All-nil P;
          after = none_kept;
          goes = λ l h. subst (λ es. RunTo (gives (read, none_kept)) (again l es)
              (next source none_kept) (again l h)) (sym (append-nil h))
              (g.2 none_kept (again l h));
          source = source;
          has = has;
          is_read = g.3;
        }

    module _ (key : SeedKey) (has : (source : List ℕ) → Answered key source
        → HasSource (Some source)) (kept later : CacheState) (end left : StepState)
        (held : AreHeld Answered kept) where
      abbrev Again : Type 0
      Again = Found (source_steps None none_kept key next) reader object end left later

      -- the plugin unwraps the source, from where nothing is kept
      asked : (seed : List ℕ) → ((l : StepState) → RunTo (gives (read, none_kept)) l
          (next (Some seed) none_kept) l) → (l : StepState) (h : List Exchange)
          → RunTo (gives (read, none_kept)) (again l (h ++ UnwrapCall key (Ok seed) ∷ []))
          (source_steps None none_kept key next) (again l h)
      asked seed goes l h = subst (λ (x : Option (List ℕ)). RunTo (gives (read, none_kept))
          (again l (h ++ UnwrapCall key (Ok seed) ∷ [])) (fetching x none_kept key next)
          (again l h)) (sym (none_there key)) (inr (inr (inr (
            seed,
            inr (none_kept, inl refl, goes (again l (h ++ UnwrapCall key (Ok seed) ∷ []))),
          ))))

      by_kept : AllTold P end.heard → (x : Option (List ℕ)) → seed_at kept.rows key ≡ x
          → RunTo (gives (read, later)) end (fetching x kept key next) left → Again
      by_kept told (Some seed) is goes =
          let g = given (Some seed) (with_used kept key) later end left goes in
          let so = seed_held Answered kept key seed is held in record {
            held = subst (AreHeld Answered) (sym g.0) (used_held Answered kept key seed is held);
            own = UnwrapCall key (Ok seed) ∷ [];
            all = All-cons P (UnwrapCall key (Ok seed)) [] so (All-nil P);
            after = none_kept;
            goes = asked seed (g.2 none_kept);
            source = Some seed;
            has = has seed so;
            is_read = g.3;
          }
      by_kept told None is (inl at) = absurd (no_value at refl)
      by_kept told None is (inr (inl (answer, at))) = absurd (no_value at refl)
      by_kept told None is (inr (inr (inl at))) = absurd (no_value at refl)
      by_kept told None is (inr (inr (inr (seed, inl at)))) = absurd (no_value at refl)
      by_kept told None is (inr (inr (inr (seed, inr (after, keeps, goes))))) =
          let x = UnwrapCall key (Ok seed) in
          let g = given (Some seed) after later end (with_heard x left) goes in
          let so = (earlier P x left.heard
          (subst (λ (l : StepState). AllTold P l.heard) g.1 told)).1 in record {
            held = subst (AreHeld Answered) (sym g.0)
                (answer_held Answered kept after key seed is keeps so held);
            own = x ∷ [];
            all = All-cons P x [] so (All-nil P);
            after = none_kept;
            goes = asked seed (g.2 none_kept);
            source = Some seed;
            has = has seed so;
            is_read = g.3;
          }

      -- it was published, or isn't
      by_known : AllTold P end.heard → (known : Option (List ℕ))
          → ((seed : List ℕ) → known ≡ Some seed → HasSource (Some seed))
          → RunTo (gives (read, later)) end (source_steps known kept key next) left
          → Found (source_steps known none_kept key next) reader object end left later
      by_known told (Some seed) known goes =
          let f = unasked (Some seed) (known seed refl) kept later end left held goes in record {
            held = f.held;
            own = f.own;
            all = f.all;
            after = f.after;
            goes = f.goes;
            source = f.source;
            has = f.has;
            is_read = f.is_read;
          }
      by_known told None known goes = by_kept told (seed_at kept.rows key) refl goes

  -- ---- by the value's reader

  -- the published seed of a plugin opens
  module _ (name : List ℕ) (object : EncryptedObject)
      (has : HasObject (Some (who.Kms name)) bytes (Ok object)) where
    abbrev key : SeedKey
    key = seed_key name object

    abbrev Opened_to : List ℕ → Type 0
    Opened_to seed = (opens : Opens) → Agreed opens → OpenAll opens seeds
        → HasEnvelope opens (Some (who.Kms name)) bytes (envelope (Ok object) (Some seed))

    answered_opens : (seed : List ℕ) → Answered key seed → Opened_to seed
    answered_opens seed so = λ opens agreed all. (has, sym (agreed (UnwrapCall key (Ok seed)) so))

    by_test : (row : SeedRow) (q : Bool) → key_eq (key_of row) key ≡ q
        → ((opens : Opens) → OpenAll opens seeds → opens (key_of row) ≡ Some row.seed)
        → (seed : List ℕ) → (if q then Some row.seed else None) ≡ Some seed → Opened_to seed
    by_test row false is opens_to seed e = absurd (none-some seed e)
    by_test row true is opens_to seed e = λ opens agreed all. (
      has,
      sym e ∙ sym (opens_to opens all)
          ∙ ap opens ((same_key (key_of row) key).0 is),
    )

    published_opens : (row : Option SeedRow) → seed_of name seeds ≡ row → (seed : List ℕ)
        → published_source row key ≡ Some seed → Opened_to seed
    published_opens None is seed e = absurd (none-some seed e)
    published_opens (Some row) is seed e = by_test row (key_eq (key_of row) key) refl
        (λ opens all. seed_opens opens name seeds row all is) seed e

  opening_found : (reader : Option Who) (object : Result EncryptedObject ObjectNo)
      → HasObject reader bytes object → (kept later : CacheState) (end left : StepState)
      → AreHeld Answered kept → AllTold P end.heard
      → RunTo (gives (read, later)) end
      (opening seeds reader object kept (value_with seeds list path bytes object)) left
      → Found (opening seeds reader object none_kept (value_with seeds list path bytes object))
      reader object end left later
  opening_found None object has kept later end left held told goes =
      unasked object None None (λ opens agreed all. tt) kept later end left held goes
  opening_found (Some who.Identity) object has kept later end left held told goes =
      unasked object (Some who.Identity) None (λ opens agreed all. tt) kept later end left held
      goes
  opening_found (Some (who.Aescbc name secret)) object has kept later end left held told goes =
      unasked object (Some (who.Aescbc name secret)) None (λ opens agreed all. tt) kept later end
      left held goes
  opening_found (Some (who.Aesgcm name secret)) object has kept later end left held told goes =
      unasked object (Some (who.Aesgcm name secret)) None (λ opens agreed all. tt) kept later end
      left held goes
  opening_found (Some (who.Kms name)) (Err why) has kept later end left held told goes =
      unasked (Err why) (Some (who.Kms name)) None (λ opens agreed all. (has, refl)) kept later end
      left held goes
  opening_found (Some (who.Kms name)) (Ok object) has kept later end left held told goes =
      by_known (Ok object) (Some (who.Kms name)) (seed_key name object)
      (answered_opens name object has) kept later end left held told
      (published_source (seed_of name seeds) (seed_key name object))
      (published_opens name object has (seed_of name seeds) refl) goes

  -- ---- all of it

  pub record ReadsAgain (end left : StepState) (later : CacheState) : Type 0 where
    pub held : AreHeld Answered later
    pub own : List Exchange
    pub all : All P own
    pub after : CacheState
    pub goes : (l : StepState) (h : List Exchange) → RunTo (gives (read, after)) (again l (h ++ own))
        (value_read seeds list path bytes none_kept) (again l h)
    pub truly : (opens : Opens) → Agreed opens → OpenAll opens seeds
        → IsTrueReading opens list path bytes read

  pub value_again : (kept later : CacheState) (end left : StepState) → AreHeld Answered kept
      → AllTold P end.heard
      → RunTo (gives (read, later)) end (value_read seeds list path bytes kept) left
      → ReadsAgain end left later
  value_again kept later end left held told (inl at) = absurd (no_value at refl)
  value_again kept later end left held told (inr (object, has, goes)) =
      let f = opening_found (reader_in list bytes) object has kept later end left held told goes in
      record {
        held = f.held;
        own = f.own;
        all = f.all;
        after = f.after;
        goes = λ l h. inr (object, has, f.goes l h);
        truly = λ opens agreed all. (
          value_reading (envelope object f.source) list path bytes,
          (envelope object f.source, f.has opens agreed all, refl),
          f.is_read,
        );
      }

-- data that are read once are read again
data_again : (reading : Reading) (opened : Opened) (read : Result Opened ValueNo)
    → IsReadAs reading (Ok opened) → IsReadAs reading read
    → (again : Opened) × (read ≡ Ok again) × (again.plain ≡ opened.plain)
data_again (data_of plain) opened (Ok again) a b = (again, refl, b ∙ sym a)
data_again (data_of plain) opened (Err cause) a b = absurd b
data_again other opened read a b = absurd a

pub read_again : (opens : Opens) (list : List Who) (path bytes : List ℕ) (opened : Opened)
    (read : Result Opened ValueNo) → IsTrueReading opens list path bytes (Ok opened)
    → IsTrueReading opens list path bytes read
    → (again : Opened) × (read ≡ Ok again) × (again.plain ≡ opened.plain)
read_again opens list path bytes opened read (first, has, is) (second, also, so) =
    data_again first opened read is (subst (λ r. IsReadAs r read)
    (one_reading opens list path bytes second first also has) so)
