-- A line that brings a configuration asks plugins for statuses, and to wrap what it draws.
use Rattle.std.specs.Prelude.{All, true, false}
use Rattle.std.proofs.Common.{◌≡◌, ℕ, ◌≤◌, Bool, List, [], ◌∷◌, ◌++◌, length, Option, None, Some, Result, Ok, Err, inl, inr, refl, sym, ap, subst, ◌∙◌, append-nil, arith}
use Rattle.std.specs.Io.KnownBytes.{Consumes, Keeps}
use Rattle.std.proofs.lemmas.List.{append_assoc}
use Rattle.std.proofs.lemmas.List.Elements.{All-append, All-cons, All-nil}
use Rattle.kr_config.specs.Kept.{ConfigEntry as setting, plugins_in}
use Rattle.kr_kms.specs.Exchanges.{Exchange, StatusCall, UnwrapCall, WrapCall}
use Rattle.kr_kms.specs.Health.{TellsKeyIdBy, judged, no_status as tells_none}
use Rattle.kr_kms.specs.Seeds.{MakesSeedBy, dice_failed, made, no_memory as makes_nothing, no_status, not_wrapped, unhealthy}
use Rattle.kr_kms.specs.declared.health.SeedNo.{SeedNo}
use Rattle.kr_kms.specs.declared.seeds.SeedRow.{SeedRow}
use Rattle.kr_provider.specs.Exchanges.{MakesSeedsBy, PublishesBy, all_made, no_name, no_room, refused, went_on}
use Rattle.kr_provider.specs.Publication.{Publication}
use Rattle.kr_provider.specs.declared.refusal.PublishNo.{PublishNo}
use Rattle.kr_history.specs.Acting.{Caller}
use Rattle.kr_history.specs.declared.call.CallNo.{CallNo}
use Rattle.kr_fleet.specs.CallExchanges.{ComparesKeysBy, IsRefreshBy, RefreshesBy, RenewsAfter, StopsBy, all_same, changed, told_none, went_on as compared_on}
use Rattle.kr_fleet.specs.CallForms.{reload_of}
use Rattle.kr_fleet.specs.declared.outcome.Loaded.{Loaded}
use Rattle.kr_fleet.specs.declared.outcome.Loaded.TheVariants as loaded
use Rattle.kr_workers.specs.LineExchanges.{DoesJoinBy, DoesReloadBy}
use Rattle.kr_workers.specs.Replies.{Reply}
use Rattle.kr_workers.specs.ScriptLines.{Workplace}
use Rattle.kr_headline.proofs.Published.{cut_gives, join_gives, reload_gives}
use Rattle.kr_cmd_laws.specs.LineQuestions.{wrapped_in}
use Rattle.kr_cmd_laws.specs.PluginLaws.{IsQuestion}

-- a status, or to wrap 32 bytes
abbrev pub IsLoad : Exchange → Type 0
IsLoad = IsQuestion (λ value. ⊥)

-- ---- what was to be wrapped

pub wrapped_append : (es fs : List Exchange)
    → wrapped_in (es ++ fs) ≡ wrapped_in es ++ wrapped_in fs
wrapped_append [] fs = refl
wrapped_append (StatusCall name answer ∷ es) fs = wrapped_append es fs
wrapped_append (WrapCall name plain answer ∷ es) fs =
    ap (λ bytes. plain ++ bytes) (wrapped_append es fs)
    ∙ sym (append_assoc plain (wrapped_in es) (wrapped_in fs))
wrapped_append (UnwrapCall key answer ∷ es) fs = wrapped_append es fs

-- ---- known bytes that are drawn

kept_bytes : (old new : Option (List ℕ)) → Keeps old new → Consumes old new []
kept_bytes None new k = tt
kept_bytes (Some xs) None k = absurd k
kept_bytes (Some xs) (Some ys) k = sym k

same_bytes : (old : Option (List ℕ)) → Consumes old old []
same_bytes None = tt
same_bytes (Some xs) = refl

both_drawn : (old between new : Option (List ℕ)) (xs ys : List ℕ) → Consumes old between xs
    → Consumes between new ys → Consumes old new (xs ++ ys)
both_drawn None between new xs ys a b = tt
both_drawn (Some us) None new xs ys a b = absurd a
both_drawn (Some us) (Some vs) None xs ys a b = absurd b
both_drawn (Some us) (Some vs) (Some ws) xs ys a b =
    a ∙ ap (λ rest. xs ++ rest) b ∙ sym (append_assoc xs ys ws)

-- ---- statuses alone

record Statuses (es : List Exchange) : Type 0 where
  asks : All IsLoad es
  wraps : wrapped_in es ≡ []

no_statuses : Statuses []
no_statuses = record { asks = All-nil IsLoad; wraps = refl }

key_statuses : (name : List ℕ) (result : Result (List ℕ) SeedNo) (es : List Exchange)
    → TellsKeyIdBy name result es → Statuses es
key_statuses name result _ (tells_none why is) = record {
  asks = All-cons IsLoad (StatusCall name (Err why)) [] tt (All-nil IsLoad);
  wraps = refl;
}
key_statuses name result _ (judged status j) = record {
  asks = All-cons IsLoad (StatusCall name (Ok status)) [] tt (All-nil IsLoad);
  wraps = refl;
}

more_statuses : (es fs : List Exchange) → Statuses es → Statuses fs → Statuses (es ++ fs)
more_statuses es fs a b = record {
  asks = All-append IsLoad es fs a.asks b.asks;
  wraps = wrapped_append es fs ∙ ap (λ bytes. bytes ++ wrapped_in fs) a.wraps ∙ b.wraps;
}

keys_statuses : (seeds : List SeedRow) (result : Result Bool CallNo) (es : List Exchange)
    → ComparesKeysBy seeds result es → Statuses es
keys_statuses _ _ _ all_same = no_statuses
keys_statuses _ _ _ (changed {exchanges = es} row rest key_id tells other) =
    key_statuses row.name tells.0 es tells.1
keys_statuses _ _ _ (told_none {exchanges = es} row rest cause why (inl tells) is) =
    key_statuses row.name tells.0 es tells.1
keys_statuses _ _ _ (told_none row rest cause why (inr lacks) is) =
    subst Statuses (sym lacks.1) no_statuses
keys_statuses _ _ _ (compared_on {exchanges = es} {others = fs} {result = result} row rest tells
    more) = more_statuses es fs (key_statuses row.name tells.0 es tells.1)
    (keys_statuses rest result fs more)

module _ {D : Type 0} (left : D → Option (List ℕ)) (count : D → ℕ) where
  -- ---- statuses, and wraps of what was drawn

  pub record Loads (dice : D) (es : List Exchange) (after : D) : Type 0 where
    pub asks : All IsLoad es
    pub unused : List ℕ
    pub few : length unused ≤ 32
    pub drawn : Consumes (left dice) (left after) (wrapped_in es ++ unused)

  -- nothing was drawn
  still_loads : (dice after : D) (es : List Exchange) → Statuses es
      → Consumes (left dice) (left after) [] → Loads dice es after
  still_loads dice after es s none = record {
    asks = s.asks;
    unused = [];
    few = omega arith;
    drawn = subst (λ bytes. Consumes (left dice) (left after) (bytes ++ [])) (sym s.wraps) none;
  }

  same_loads : (dice after : D) (es : List Exchange) → Statuses es → after ≡ dice
      → Loads dice es after
  same_loads dice after es s same = still_loads dice after es s
      (subst (λ d. Consumes (left dice) (left d) []) (sym same) (same_bytes (left dice)))

  none_loads : (dice after : D) (es : List Exchange) → es ≡ [] → after ≡ dice
      → Loads dice es after
  none_loads dice after es none same =
      same_loads dice after es (subst Statuses (sym none) no_statuses) same

  -- statuses come before
  loads_behind : (dice after : D) (es fs : List Exchange) → Statuses es → Loads dice fs after
      → Loads dice (es ++ fs) after
  loads_behind dice after es fs s l = record {
    asks = All-append IsLoad es fs s.asks l.asks;
    unused = l.unused;
    few = l.few;
    drawn = subst (λ bytes. Consumes (left dice) (left after) (bytes ++ l.unused))
        (sym (wrapped_append es fs ∙ ap (λ bytes. bytes ++ wrapped_in fs) s.wraps)) l.drawn;
  }

  -- ---- a seed

  module _ (name : List ℕ) (dice after : D) where
    one_status : (exchange : Exchange) → IsLoad exchange → wrapped_in (exchange ∷ []) ≡ []
        → Statuses (exchange ∷ [])
    one_status exchange is none = record {
      asks = All-cons IsLoad exchange [] is (All-nil IsLoad);
      wraps = none;
    }

    seed_wraps : (status wrap : Exchange) (seed : List ℕ) → IsLoad status → IsLoad wrap
        → wrapped_in (status ∷ wrap ∷ []) ≡ seed ++ [] → Consumes (left dice) (left after) seed
        → Loads dice (status ∷ wrap ∷ []) after
    seed_wraps status wrap seed is wraps are drawn = record {
      asks = All-cons IsLoad status (wrap ∷ []) is
          (All-cons IsLoad wrap [] wraps (All-nil IsLoad));
      unused = [];
      few = omega arith;
      drawn = subst (Consumes (left dice) (left after))
          (sym (append-nil (wrapped_in (status ∷ wrap ∷ [])) ∙ are ∙ append-nil seed)) drawn;
    }

    seed_loads : (result : Result SeedRow SeedNo) (es : List Exchange)
        → MakesSeedBy left count name dice result after es → Loads dice es after
    seed_loads result _ (no_status why is same) =
        same_loads dice after _ (one_status (StatusCall name (Err why)) tt refl) same
    seed_loads result _ (unhealthy status field text breach is same) =
        same_loads dice after _ (one_status (StatusCall name (Ok status)) tt refl) same
    seed_loads result _ (makes_nothing status none is (inl same)) =
        same_loads dice after _ (one_status (StatusCall name (Ok status)) tt refl) same
    seed_loads result _ (makes_nothing status none is (inr drew)) =
        let long = drew.1.0 in
        record {
          asks = All-cons IsLoad (StatusCall name (Ok status)) [] tt (All-nil IsLoad);
          unused = drew.0;
          few = omega (arith, long);
          drawn = drew.1.1;
        }
    seed_loads result _ (dice_failed status none is fails) =
        still_loads dice after _ (one_status (StatusCall name (Ok status)) tt refl)
        (kept_bytes (left dice) (left after) fails.0)
    seed_loads result _ (not_wrapped status seed why none draws is) =
        seed_wraps (StatusCall name (Ok status)) (WrapCall name seed (Err why)) seed tt draws.0
        refl draws.1
    seed_loads result _ (made status seed wrapped none draws is) =
        seed_wraps (StatusCall name (Ok status)) (WrapCall name seed (Ok wrapped)) seed tt draws.0
        refl draws.1

    -- a seed that was made is all that was drawn
    seed_drawn : (row : SeedRow) (es : List Exchange)
        → MakesSeedBy left count name dice (Ok row) after es
        → Consumes (left dice) (left after) (wrapped_in es)
    seed_drawn row _ (no_status why is same) = absurd (cc)
    seed_drawn row _ (unhealthy status field text breach is same) = absurd (cc)
    seed_drawn row _ (makes_nothing status none is drew) = absurd (cc)
    seed_drawn row _ (dice_failed status none is fails) = absurd (cc)
    seed_drawn row _ (not_wrapped status seed why none draws is) = absurd (cc)
    seed_drawn row _ (made status seed wrapped none draws is) =
        subst (Consumes (left dice) (left after)) (sym (append-nil seed)) draws.1

  -- ---- seeds, one after another

  seed_then : (dice between after : D) (es fs : List Exchange) → Loads dice es between
      → Consumes (left dice) (left between) (wrapped_in es) → Loads between fs after
      → Loads dice (es ++ fs) after
  seed_then dice between after es fs a drawn b = record {
    asks = All-append IsLoad es fs a.asks b.asks;
    unused = b.unused;
    few = b.few;
    drawn = subst (Consumes (left dice) (left after))
        (sym (ap (λ bytes. bytes ++ b.unused) (wrapped_append es fs)
        ∙ append_assoc (wrapped_in es) (wrapped_in fs) b.unused))
        (both_drawn (left dice) (left between) (left after) (wrapped_in es)
        (wrapped_in fs ++ b.unused) drawn b.drawn);
  }

  module _ (names : List (List ℕ)) where
    seeds_load : (passed : List ℕ) (dice : D) (result : Result (List SeedRow) PublishNo)
        (after : D) (es : List Exchange)
        → MakesSeedsBy left count names passed dice result after es → Loads dice es after
    seeds_load passed dice _ _ _ (all_made none) = same_loads dice dice [] no_statuses refl
    seeds_load passed dice _ _ _ (refused {after = after} {exchanges = es} name why cause next
        makes told) = seed_loads name dice after (Err why) es makes
    seeds_load passed dice _ _ _ (no_name name next) = same_loads dice dice [] no_statuses refl
    seeds_load passed dice _ _ _ (no_room {after = after} {exchanges = es} name row next makes) =
        seed_loads name dice after (Ok row) es makes
    seeds_load passed dice _ _ _ (went_on {between = between} {after = after} {exchanges = es}
        {others = fs} {result = result} name row next makes rest) =
        seed_then dice between after es fs (seed_loads name dice between (Ok row) es makes)
        (seed_drawn name dice between row es makes)
        (seeds_load name between result after fs rest)

  -- ---- settings

  module _ (rows : List setting) (dice after : D) (es : List Exchange) where
    publish_loads : (published : Result Publication PublishNo)
        → PublishesBy left count rows dice published after es → Loads dice es after
    publish_loads (Ok p) by = seeds_load (plugins_in rows) [] dice (Ok p.seeds) after es by.1
    publish_loads (Err why) by = seeds_load (plugins_in rows) [] dice (Err why) after es by

  -- ---- a refresh

  module _ (replica : ℕ) (dice after : D) (es : List Exchange) where
    renews_load : (seeds : List SeedRow) (Brings : List Exchange → Type 0)
        → ((others : List Exchange) → Brings others → Loads dice others after)
        → RenewsAfter seeds es Brings → Loads dice es after
    renews_load seeds Brings all r = subst (λ asked. Loads dice asked after) (sym r.exchanges_are)
        (loads_behind dice after r.asked r.others (keys_statuses seeds (Ok true) r.asked r.compares)
        (all r.others r.brings))

    stops_load : (number : ℕ) (p : Publication) (old new : Caller) (why : CallNo)
        → StopsBy left count replica number p old dice why new after es → Loads dice es after
    stops_load number p old new why (inl c) =
        same_loads dice after es (keys_statuses p.seeds (Err why) es c.0) c.2
    stops_load number p old new why (inr (inl c)) =
        same_loads dice after es (keys_statuses p.seeds (Ok true) es c.0) c.3
    stops_load number p old new why (inr (inr r)) = renews_load p.seeds _ (λ others c.
        cut_gives (λ made. PublishesBy left count p.rows dice made after others)
        (Loads dice others after) (publish_loads p.rows dice after others)
        (reload_of replica (Some number)) replica old new why c) r

    refreshes_load : (number : ℕ) (p : Publication) (old new : Caller)
        (result : Result Loaded CallNo)
        → RefreshesBy left count replica number p old dice result new after es
        → Loads dice es after
    refreshes_load number p old new (Ok (loaded.Unchanged same)) r =
        same_loads dice after es (keys_statuses p.seeds (Ok false) es r.1) r.3
    refreshes_load number p old new (Ok (loaded.Refused verdict)) r = absurd r
    refreshes_load number p old new (Ok other) r = renews_load p.seeds _
        (λ others b. publish_loads p.rows dice after others (Ok b.p) b.publishes) r
    refreshes_load number p old new (Err why) r = stops_load number p old new why r

    pub refresh_loads : (old new : Caller) (result : Result Loaded CallNo)
        → IsRefreshBy left count replica old dice result new after es → Loads dice es after
    refresh_loads old new (Ok done) (inl e) = absurd e
    refresh_loads old new (Err why) (inl e) = none_loads dice after es e.1.1 e.1.0
    refresh_loads old new result (inr h) =
        refreshes_load h.number h.p h.adopted h.acted h.done h.does

-- ---- lines

module _ {L D : Type 0} (left : D → Option (List ℕ)) (count : D → ℕ) (old new : Workplace L D)
    (reply : Reply) (es : List Exchange) (named : ℕ) where
  lacks_loads : new ≡ old → es ≡ [] → Loads left count old.dice es new.dice
  lacks_loads same none = none_loads left count old.dice new.dice es none
      (ap (λ (place : Workplace L D). place.dice) same)

  pub reloaded_loads : (rows : List setting) → DoesReloadBy left count named rows old reply new es
      → Loads left count old.dice es new.dice
  reloaded_loads rows (inl d) = lacks_loads d.0.1 d.1
  reloaded_loads rows (inr d) =
      reload_gives (λ made. PublishesBy left count rows old.dice made new.dice es)
      (Loads left count old.dice es new.dice) (publish_loads left count rows old.dice new.dice es) named
      old.caller new.caller d.0 d.2

  pub joined_loads : (rows : List setting) → DoesJoinBy left count named rows old reply new es
      → Loads left count old.dice es new.dice
  joined_loads rows (inl d) = lacks_loads d.0.1 d.1
  joined_loads rows (inr d) =
      join_gives (λ made. PublishesBy left count rows old.dice made new.dice es)
      (Loads left count old.dice es new.dice) (publish_loads left count rows old.dice new.dice es) named
      old.caller new.caller d.0 d.2
