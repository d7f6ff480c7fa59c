-- The exchanges by which `refresh` compares key ids and publishes anew.
use Rattle.std.proofs.Common.{◌≡◌, inl, inr, ℕ, suc, ◌<◌, ◌+◌, Bool, true, false, List, [], ◌∷◌, ◌++◌, drop-cons, get_or, Option, Result, Ok, Err, refl, sym, ap, subst, ◌∙◌, arith, append-nil, append_assoc}
use Rattle.std.specs.Prelude.{not, length, drop, ◌≤◌}
use Rattle.std.specs.Str.{bytes_eq}
use Rattle.std.proofs.lemmas.Bool.{false≢true}
use Rattle.std.proofs.lemmas.List.{drop_all}
use Rattle.std.proofs.lemmas.Slice.Eq.{bytes_eq-Decides}
use Rattle.kr_base.specs.Walks.{Talk}
use Rattle.kr_base.proofs.Walks.{talk_none, talk_so, talk_then}
use Rattle.kr_config.specs.Kept.{ConfigEntry}
use Rattle.kr_kms.specs.Exchanges.{Exchange}
use Rattle.kr_kms.specs.declared.seeds.SeedRow.{SeedRow}
use Rattle.kr_provider.specs.Exchanges.{PublishesBy, TellsKeyIdAt}
use Rattle.kr_provider.specs.Publication.{Publication}
use Rattle.kr_provider.specs.declared.refusal.PublishNo.{PublishNo}
use Rattle.kr_rollout.specs.declared.answer.Answer.TheVariants as answer
use Rattle.kr_rollout.specs.declared.event.Event.TheVariants as event
use Rattle.kr_history.specs.Acting.{Caller, AddsEntry}
use Rattle.kr_history.specs.Calls.{LetsGo}
use Rattle.kr_history.specs.declared.call.CallNo.{CallNo}
use Rattle.kr_history.specs.declared.call.CallNo.TheVariants as refusal
use Rattle.kr_history.proofs.Meanwhile.{held_meanwhile}
use Rattle.kr_fleet.specs.CallExchanges.{ComparesKeysBy, IsRefreshBy, RefreshesBy, all_same, changed, told_none, went_on}
use Rattle.kr_fleet.specs.CallForms.{publish_refusal}
use Rattle.kr_fleet.specs.declared.outcome.Loaded.{Loaded}
use Rattle.kr_fleet.specs.declared.outcome.Loaded.TheVariants as loaded
use Rattle.kr_fleet.specs.inner.Stages.{ComparesKeyBy}
use Rattle.kr_fleet.proofs.Renewed.{Renewed}

-- ---- one plugin

pub key_told : (row : SeedRow) (name : List ℕ) → name ≡ row.name → (key_id a b : List ℕ)
    → a ≡ key_id → b ≡ row.key_id → (es : List Exchange) → TellsKeyIdAt name (Ok key_id) es
    → ComparesKeyBy row (Ok (not (bytes_eq a b))) es
key_told row name named key_id a b is at es told = by (bytes_eq a b) refl
  where
    by : (same : Bool) → bytes_eq a b ≡ same → ComparesKeyBy row (Ok (not same)) es
    by true e = subst (λ k. TellsKeyIdAt row.name (Ok k) es)
        (sym is ∙ (bytes_eq-Decides a b).0 e ∙ at)
        (subst (λ n. TellsKeyIdAt n (Ok key_id) es) named told)
    by false e = (
      key_id,
      λ same. false≢true (sym e ∙ (bytes_eq-Decides a b).1 (is ∙ same ∙ sym at)),
      subst (λ n. TellsKeyIdAt n (Ok key_id) es) named told,
    )

pub none_told : (row : SeedRow) (name : List ℕ) → name ≡ row.name → (why : PublishNo)
    (refused : CallNo) → refused ≡ publish_refusal why → (es : List Exchange)
    → TellsKeyIdAt name (Err why) es → ComparesKeyBy row (Err refused) es
none_told row name named why refused is es told =
    (why, is, subst (λ n. TellsKeyIdAt n (Err why) es) named told)

-- ---- plugins, one behind another

-- whatever comparing the seeds from this one on comes to completes what came before
abbrev pub Completes : List SeedRow → ℕ → List Exchange → Type 0
Completes seeds n es = (result : Result Bool CallNo) (fs : List Exchange)
    → ComparesKeysBy (drop n seeds) result fs → ComparesKeysBy seeds result (es ++ fs)

module _ {S : Type 0} (step : S → Exchange → S → Type 0) (seeds : List SeedRow) where
  pub none_compared : (links : S) → Talk step links links (Completes seeds 0)
  none_compared links = talk_none step (Completes seeds 0) links (λ result fs h. h)

  -- none is left
  pub all_compared : (n : ℕ) (olds mids : S) → Talk step olds mids (Completes seeds n)
      → length seeds ≤ n → Talk step olds mids (ComparesKeysBy seeds (Ok false))
  all_compared n olds mids t end = talk_so step (Completes seeds n)
      (ComparesKeysBy seeds (Ok false)) olds mids t (λ es completes.
      let none : drop n seeds ≡ [] = drop_all n seeds end in
      subst (ComparesKeysBy seeds (Ok false)) (append-nil es)
      (completes (Ok false) [] (subst (λ s. ComparesKeysBy s (Ok false) []) (sym none) all_same)))

  module _ (row : SeedRow) (k : ℕ) (below : k < length seeds) (at : row ≡ get_or seeds k row)
      (olds mids news : S) (so_far : Talk step olds mids (Completes seeds k)) where
    rows_are : drop k seeds ≡ row ∷ drop (suc k) seeds
    rows_are = drop-cons seeds k row below
        ∙ ap (λ (r : SeedRow). r ∷ drop (suc k) seeds) (sym at)

    -- a plugin ends it
    changed_by : (result : Result Bool CallNo) → result ≡ Ok true → (es : List Exchange)
        → ComparesKeyBy row result es → ComparesKeysBy (row ∷ drop (suc k) seeds) (Ok true) es
    changed_by result is es c =
        let told = subst (λ r. ComparesKeyBy row r es) is c in
        changed row (drop (suc k) seeds) told.0 told.2 told.1

    pub changed_talk : (b : Bool) → b ≡ true → Talk step mids news (ComparesKeyBy row (Ok b))
        → Talk step olds news (ComparesKeysBy seeds (Ok true))
    changed_talk b is t = talk_then step (Completes seeds k) (ComparesKeyBy row (Ok b))
        (ComparesKeysBy seeds (Ok true)) olds mids news so_far t (λ es fs completes c.
        completes (Ok true) fs (subst (λ s. ComparesKeysBy s (Ok true) fs) (sym rows_are)
        (changed_by (Ok b) (ap Ok is) fs c)))

    stopped_by : (why : CallNo) (es : List Exchange) → ComparesKeyBy row (Err why) es
        → ComparesKeysBy (row ∷ drop (suc k) seeds) (Err why) es
    stopped_by why es c = told_none row (drop (suc k) seeds) c.0 why c.2 c.1

    pub stopped_talk : (why : CallNo) → Talk step mids news (ComparesKeyBy row (Err why))
        → Talk step olds news (ComparesKeysBy seeds (Err why))
    stopped_talk why t = talk_then step (Completes seeds k) (ComparesKeyBy row (Err why))
        (ComparesKeysBy seeds (Err why)) olds mids news so_far t (λ es fs completes c.
        completes (Err why) fs (subst (λ s. ComparesKeysBy s (Err why) fs) (sym rows_are)
        (stopped_by why fs c)))

    -- or it goes on
    pub same_talk : (b : Bool) → b ≡ false → Talk step mids news (ComparesKeyBy row (Ok b))
        → Talk step olds news (Completes seeds (k + 1))
    same_talk b is t = talk_then step (Completes seeds k) (ComparesKeyBy row (Ok b))
        (Completes seeds (k + 1)) olds mids news so_far t (λ es fs completes c result gs rest.
        let next : suc k ≡ k + 1 = omega arith in
        let others : ComparesKeysBy (drop (suc k) seeds) result gs =
        subst (λ n. ComparesKeysBy (drop n seeds) result gs) (sym next) rest in
        let told : TellsKeyIdAt row.name (Ok row.key_id) fs =
        subst (λ r. ComparesKeyBy row (Ok r) fs) is c in
        subst (ComparesKeysBy seeds result) (sym (append_assoc es fs gs))
        (completes result (fs ++ gs) (subst (λ s. ComparesKeysBy s result (fs ++ gs)) (sym rows_are)
        (went_on row (drop (suc k) seeds) told others))))

-- ---- by a held generation

module _ {S D : Type 0} (step : S → Exchange → S → Type 0) (left : D → Option (List ℕ))
    (count : D → ℕ) (replica number : ℕ) (p : Publication) (seeds : List SeedRow)
    (seeds_are : seeds ≡ p.seeds) (old : Caller) (olds mids : S) (dice between : D)
    (dice_is : between ≡ dice) where
  -- nothing is published
  pub unchanged_talk : (b : Bool) → b ≡ false → Talk step olds mids (ComparesKeysBy seeds (Ok b))
      → Talk step olds mids (RefreshesBy left count replica number p old dice
      (Ok (loaded.Unchanged number)) old between)
  unchanged_talk b is t = talk_so step (ComparesKeysBy seeds (Ok b))
      (RefreshesBy left count replica number p old dice (Ok (loaded.Unchanged number)) old between)
      olds mids t (λ es c. (
        refl,
        subst (λ s. ComparesKeysBy s (Ok false) es) seeds_are
            (subst (λ r. ComparesKeysBy seeds (Ok r) es) is c),
        refl,
        dice_is,
      ))

  pub untold_talk : (why : CallNo) → Talk step olds mids (ComparesKeysBy seeds (Err why))
      → Talk step olds mids
      (RefreshesBy left count replica number p old dice (Err why) old between)
  untold_talk why t = talk_so step (ComparesKeysBy seeds (Err why))
      (RefreshesBy left count replica number p old dice (Err why) old between) olds mids t (λ es c.
      inl (subst (λ s. ComparesKeysBy s (Err why) es) seeds_are c, refl, dice_is))

  module _ (b : Bool) (is : b ≡ true) (compares : Talk step olds mids (ComparesKeysBy seeds (Ok b)))
    where
      has_changed : (es : List Exchange) → ComparesKeysBy seeds (Ok b) es
          → ComparesKeysBy p.seeds (Ok true) es
      has_changed es c = subst (λ s. ComparesKeysBy s (Ok true) es) seeds_are
          (subst (λ r. ComparesKeysBy seeds (Ok r) es) is c)

      pub unowned_talk : Talk step olds mids
          (RefreshesBy left count replica number p old dice (Err refusal.NoMemory) old between)
      unowned_talk = talk_so step (ComparesKeysBy seeds (Ok b))
          (RefreshesBy left count replica number p old dice (Err refusal.NoMemory) old between) olds
          mids compares (λ es c. inr (inl (has_changed es c, refl, refl, dice_is)))

      -- the settings are published anew
      module _ (rows : List ConfigEntry) (rows_are : rows ≡ p.rows) (new : Caller) (news : S) (after : D)
        where
          abbrev Anew : List ConfigEntry → D → Result Loaded CallNo → List Exchange → Type 0
          Anew published first result fs = Renewed
              (λ made. PublishesBy left count published first made after fs) replica number p old
              new result

          renewed_by : (result : Result Loaded CallNo) (es fs : List Exchange)
              → ComparesKeysBy p.seeds (Ok true) es → Anew p.rows dice result fs
              → RefreshesBy left count replica number p old dice result new after (es ++ fs)
          renewed_by (Ok (loaded.Generation made)) es fs c w =
              record { asked = es; others = fs; exchanges_are = refl; compares = c; brings = w }
          renewed_by (Ok (loaded.Moved current)) es fs c w =
              record { asked = es; others = fs; exchanges_are = refl; compares = c; brings = w }
          renewed_by (Err why) es fs c w = inr (inr
              (record { asked = es; others = fs; exchanges_are = refl; compares = c; brings = w }))
          renewed_by (Ok other) es fs c w = absurd w

          pub renewed_talk : (result : Result Loaded CallNo)
              → Talk step mids news (Anew rows between result)
              → Talk step olds news
              (RefreshesBy left count replica number p old dice result new after)
          renewed_talk result t = talk_then step (ComparesKeysBy seeds (Ok b))
              (Anew rows between result)
              (RefreshesBy left count replica number p old dice result new after) olds mids news
              compares t (λ es fs c w. renewed_by result es fs (has_changed es c)
              (subst (λ d. Anew p.rows d result fs) dice_is
              (subst (λ r. Anew r between result fs) rows_are w)))

-- the stages of a call, one behind another
pub refresh_talk : {S D : Type 0} (step : S → Exchange → S → Type 0) (left : D → Option (List ℕ))
    (count : D → ℕ) (replica : ℕ) (old adopted acted new : Caller) (links news : S) (dice after : D)
    (held : ℕ × Publication) (lent : Publication) (done result : Result Loaded CallNo)
    → lent ≡ held.1 → AddsEntry old (event.Adopt replica) (answer.Adopted held.0 held.1) adopted
    → Talk step links news
    (RefreshesBy left count replica held.0 lent adopted dice done acted after)
    → LetsGo acted done result new
    → Talk step links news (IsRefreshBy left count replica old dice result new after)
refresh_talk step left count replica old adopted acted new links news dice after held lent done
    result same a t g =
    talk_so step (RefreshesBy left count replica held.0 lent adopted dice done acted after)
    (IsRefreshBy left count replica old dice result new after) links news t
    (λ es does. inr (held_meanwhile
    (λ number p from done to. RefreshesBy left count replica number p from dice done to after es)
    replica held old adopted acted new done result a
    (subst (λ p. RefreshesBy left count replica held.0 p adopted dice done acted after es) same
    does) g))
