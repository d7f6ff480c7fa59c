-- How `refresh` compares key ids.
use Rattle.std.proofs.Common.{◌≡◌, ◌≢◌, ℕ, suc, zero, ◌<◌, Bool, true, false, List, [], ◌∷◌, ◌++◌, drop-cons, get_or, below_more, ◌+◌, Some, Result, Ok, Err, refl, sym, ap, subst, ◌∙◌, arith}
use Rattle.std.specs.Prelude.{not, length, take, drop, Contains}
use Rattle.std.specs.Str.{bytes_eq}
use Rattle.std.proofs.lemmas.Bool.{false≢true}
use Rattle.std.proofs.lemmas.Slice.Eq.{bytes_eq-Decides}
use Rattle.std.proofs.lemmas.List.{get_or_default, take-append-drop}
use Rattle.std.proofs.lemmas.List.Elements.{All-cons, All-nil}
use Rattle.kr_base.specs.Told.{Agrees}
use Rattle.kr_kms.specs.Calls.{Link, IsSameLink}
use Rattle.kr_kms.specs.Health.{HasBreach, TellsKeyId}
use Rattle.kr_kms.specs.declared.health.SeedNo.{SeedNo}
use Rattle.kr_kms.specs.declared.health.SeedNo.TheVariants as failing
use Rattle.kr_kms.specs.declared.seeds.SeedRow.{SeedRow}
use Rattle.kr_provider.specs.AskedLinks.{AskedOnly, FaultRose, HasLinkWith}
use Rattle.kr_provider.specs.BenchState.{BenchState}
use Rattle.kr_provider.specs.Names.{names_of}
use Rattle.kr_provider.specs.Publishing.{TellsKeyIdOf}
use Rattle.kr_provider.specs.declared.refusal.PublishNo.{PublishNo}
use Rattle.kr_provider.specs.declared.refusal.PublishNo.TheVariants as publishing
use Rattle.kr_history.specs.declared.call.CallNo.{CallNo}
use Rattle.kr_history.specs.declared.call.CallNo.TheVariants as refusal
use Rattle.kr_fleet.specs.LoadCalls.{AreKeysSame, AsksUpTo, MayTellKey, plugin_names}
use Rattle.kr_fleet.specs.CallForms.{publish_refusal}
use Rattle.kr_fleet.specs.inner.Stages.{ComparesKeys}
use Rattle.kr_provider.proofs.AskedLists.{asked_then, breach_back, had, has_at, names_stay, rose_at, rose_later}
use Rattle.kr_fleet.proofs.Asked.{asked_among}

key_back : (key_id : List ℕ) (a b : Link) → IsSameLink a b → MayTellKey key_id b
    → MayTellKey key_id a
key_back key_id a b s h = (h.0, subst (λ told. Agrees told h.0) s.status h.1, h.2, h.3)

named_at : (seeds : List SeedRow) (k : ℕ) (d : SeedRow) → k < length seeds
    → Contains (plugin_names seeds) (get_or seeds k d).name
named_at [] k d l = absurd (omega (arith, l))
named_at (x ∷ seeds) zero d l = (0, omega arith, refl)
named_at (x ∷ seeds) (suc k) d l =
    let t = named_at seeds k d (omega (arith, l)) in (suc t.0, omega (arith, t.1), t.2)

-- the first so many seeds' plugins tell their key ids
abbrev pub AreSameBelow : {L : Type 0} → (L → Link) → List L → List SeedRow → ℕ → Type 0
AreSameBelow link links seeds n = (k : ℕ) → k < n → (d : SeedRow)
    → HasLinkWith link (get_or seeds k d).name (MayTellKey (get_or seeds k d).key_id) links

-- so those before a row do
same_before : {L : Type 0} (link : L → Link) (links : List L) (seeds : List SeedRow) (n : ℕ)
    → AreSameBelow link links seeds n → AreKeysSame link links (take n seeds)
same_before link links seeds zero same =
    All-nil (λ r. HasLinkWith link r.name (MayTellKey r.key_id) links)
same_before link links [] (suc n) same =
    All-nil (λ r. HasLinkWith link r.name (MayTellKey r.key_id) links)
same_before link links (x ∷ seeds) (suc n) same =
    All-cons (λ r. HasLinkWith link r.name (MayTellKey r.key_id) links) x (take n seeds)
    (same 0 (omega arith) x)
    (same_before link links seeds n (λ k l d. same (suc k) (omega (arith, l)) d))

abbrev first_row : SeedRow → List SeedRow → SeedRow
first_row d [] = d
first_row d (x ∷ seeds) = x

-- of one seed, it is this
only_row : (row r : SeedRow) (before rest : List SeedRow) → row ∷ [] ≡ before ++ r ∷ rest
    → row ≡ r
only_row row r [] rest e = ap (first_row row) e
only_row row r (x ∷ []) rest e = absurd (omega (arith, ap (λ s. length s) e))
only_row row r (x ∷ (y ∷ before)) rest e = absurd (omega (arith, ap (λ s. length s) e))

-- ---- a row of a list

module _ {L : Type 0} (link : L → Link) (seeds : List SeedRow) (row : SeedRow) (k : ℕ)
    (below : k < length seeds) (at : row ≡ get_or seeds k row) (olds mids news : List L)
    (asked : AskedOnly link (plugin_names seeds) olds mids) where
  among : (x : SeedRow) → Contains (row ∷ []) x → Contains seeds x
  among x (zero, l, is) = subst (Contains seeds) is (k, below, sym at)
  among x (suc n, l, is) = absurd (omega (arith, l))

  named : Contains (plugin_names seeds) row.name
  named = subst (λ (r : SeedRow). Contains (plugin_names seeds) r.name) (sym at)
      (named_at seeds k row below)

  -- its plugin has a link still
  pub linked : ((name : List ℕ) → Contains (plugin_names seeds) name
      → Contains (names_of link olds) name) → Contains (names_of link mids) row.name
  linked f = subst (λ ns. Contains ns row.name)
      (sym (names_stay link (plugin_names seeds) olds mids asked)) (f row.name named)

  -- what ends it at one of them, behind others
  pub changed_later : (changed : Bool) → changed ≡ true
      → ComparesKeys link (row ∷ []) mids (Ok changed) news
      → ComparesKeys link seeds olds (Ok true) news
  changed_later changed is compared =
      let c = subst (λ b. ComparesKeys link (row ∷ []) mids (Ok b) news) is compared in record {
        row = c.row;
        there = among c.row c.there;
        key_id = c.key_id;
        other = c.other;
        tells = had link (plugin_names seeds) c.row.name (MayTellKey c.key_id) olds mids
            (key_back c.key_id) asked c.tells;
      }

  -- those before it tell the key ids of their seeds
  asks_up_to : AreSameBelow link olds seeds k → (name : List ℕ)
      → AsksUpTo link mids (row ∷ []) name → AsksUpTo link olds seeds name
  asks_up_to before name u = record {
    before = take k seeds;
    row = row;
    rest = drop (suc k) seeds;
    seeds_are = sym (take-append-drop k seeds)
        ∙ ap (λ s. take k seeds ++ s) (drop-cons seeds k row below)
        ∙ ap (λ (r : SeedRow). take k seeds ++ r ∷ drop (suc k) seeds) (sym at);
    named = ap (λ (r : SeedRow). r.name) (only_row row u.row u.before u.rest u.seeds_are) ∙ u.named;
    same = same_before link olds seeds k before;
  }

  pub stopped_later : AreSameBelow link olds seeds k → (why : CallNo)
      → ComparesKeys link (row ∷ []) mids (Err why) news
      → ComparesKeys link seeds olds (Err why) news
  stopped_later before (refusal.PluginFailed name) c = (
    asks_up_to before name c.0,
    rose_later link (plugin_names seeds) name olds mids news asked c.1,
  )
  stopped_later before (refusal.Unhealthy name field text) c = (
    asks_up_to before name c.0,
    had link (plugin_names seeds) name (λ it. HasBreach it (Some (field, text))) olds mids
        (breach_back (Some (field, text))) asked c.1,
  )
  stopped_later before refusal.NoMemory c = tt
  stopped_later before other c = c

  -- its key hasn't changed
  pub same_later : (changed : Bool) → changed ≡ false
      → ComparesKeys link (row ∷ []) mids (Ok changed) news
      → AreSameBelow link olds seeds k → AreSameBelow link olds seeds (k + 1)
  same_later changed is compared before =
      let c = subst (λ b. ComparesKeys link (row ∷ []) mids (Ok b) news) is compared in
      let tells = had link (plugin_names seeds) row.name (MayTellKey row.key_id) olds mids
      (key_back row.key_id) asked (c 0 row (omega arith)) in
      below_more _ _ before (λ d. subst
      (λ (r : SeedRow). HasLinkWith link r.name (MayTellKey r.key_id) olds)
      (at ∙ get_or_default seeds k row d below) tells)

  pub asked_later : AskedOnly link (row.name ∷ []) mids news
      → AskedOnly link (plugin_names seeds) olds news
  asked_later a = asked_then link (plugin_names seeds) olds mids news asked
      (asked_among link (row.name ∷ []) (plugin_names seeds) mids news only a)
    where
      only : (name : List ℕ) → Contains (row.name ∷ []) name → Contains (plugin_names seeds) name
      only name (zero, l, is) = subst (Contains (plugin_names seeds)) is named
      only name (suc n, l, is) = absurd (omega (arith, l))

-- a bench whose links alone change
pub bench_kept : {L D : Type 0} (first middle last : BenchState L D)
    → middle ≡ record first { links = middle.links } → last ≡ record middle { links = last.links }
    → last ≡ record first { links = last.links }
bench_kept {L} {D} first middle last e f =
    f ∙ ap (λ (b : BenchState L D). record b { links = last.links }) e

-- ---- one plugin

module _ {L : Type 0} (link : L → Link) (row : SeedRow) (name : List ℕ) (olds news : List L)
    (named : name ≡ row.name) where
  abbrev Tells : Result (List ℕ) SeedNo → L → L → Type 0
  Tells answer old new = TellsKeyId (link old) answer (link new)

  there : Contains (row ∷ []) row
  there = (0, omega arith, refl)

  key_same : (key_id : List ℕ) → key_id ≡ row.key_id
      → TellsKeyIdOf link name olds (Ok key_id) news
      → ComparesKeys link (row ∷ []) olds (Ok false) news
  key_same key_id same a =
      let has = has_at link name (Tells (Ok key_id)) olds news (MayTellKey key_id) a a.asks in
      All-cons (λ r. HasLinkWith link r.name (MayTellKey r.key_id) olds) row []
      (subst (λ n. HasLinkWith link n (MayTellKey row.key_id) olds) named
      (subst (λ k. HasLinkWith link name (MayTellKey k) olds) same has))
      (All-nil (λ r. HasLinkWith link r.name (MayTellKey r.key_id) olds))

  key_other : (key_id : List ℕ) → key_id ≢ row.key_id
      → TellsKeyIdOf link name olds (Ok key_id) news
      → ComparesKeys link (row ∷ []) olds (Ok true) news
  key_other key_id other a = record {
    row = row;
    there = there;
    key_id = key_id;
    other = other;
    tells = subst (λ n. HasLinkWith link n (MayTellKey key_id) olds) named
        (has_at link name (Tells (Ok key_id)) olds news (MayTellKey key_id) a a.asks);
  }

  pub key_compared : (key_id a b : List ℕ) → a ≡ key_id → b ≡ row.key_id
      → TellsKeyIdOf link name olds (Ok key_id) news
      → ComparesKeys link (row ∷ []) olds (Ok (not (bytes_eq a b))) news
  key_compared key_id a b is at told = by (bytes_eq a b) refl
    where
      by : (same : Bool) → bytes_eq a b ≡ same
          → ComparesKeys link (row ∷ []) olds (Ok (not same)) news
      by true e = key_same key_id (sym is ∙ (bytes_eq-Decides a b).0 e ∙ at) told
      by false e = key_other key_id
          (λ same. false≢true (sym e ∙ (bytes_eq-Decides a b).1 (is ∙ same ∙ sym at))) told

  up_to : (other : List ℕ) → other ≡ name → AsksUpTo link olds (row ∷ []) other
  up_to other is = record {
    before = [];
    row = row;
    rest = [];
    seeds_are = refl;
    named = sym named ∙ sym is;
    same = All-nil (λ r. HasLinkWith link r.name (MayTellKey r.key_id) olds);
  }

  key_refused : (why : PublishNo) → TellsKeyIdOf link name olds (Err why) news
      → ComparesKeys link (row ∷ []) olds (Err (publish_refusal why)) news
  key_refused (publishing.PluginFailed other) a = (
    up_to other a.0,
    subst (λ n. FaultRose link n olds news) (sym a.0)
        (rose_at link name (Tells (Err failing.Failed)) olds news a.1 a.1.asks),
  )
  key_refused publishing.DiceFailed a = absurd a
  key_refused (publishing.Unhealthy other field text) a = (
    up_to other a.0,
    subst (λ n. HasLinkWith link n (λ it. HasBreach it (Some (field, text))) olds) (sym a.0)
        (has_at link name (Tells (Err (failing.Unhealthy field text))) olds news
        (λ it. HasBreach it (Some (field, text))) a.1 a.1.asks),
  )
  key_refused publishing.NoMemory a = tt

  pub key_failed : (why : PublishNo) (refused : CallNo) → refused ≡ publish_refusal why
      → TellsKeyIdOf link name olds (Err why) news
      → ComparesKeys link (row ∷ []) olds (Err refused) news
  key_failed why refused is a =
      subst (λ r. ComparesKeys link (row ∷ []) olds (Err r) news) (sym is) (key_refused why a)
