-- What the replicas publish, one behind another.
use Rattle.std.proofs.Common.{◌≡◌, ℕ, suc, ◌+◌, ◌<◌, ◌≤◌, Bool, true, false, List, [], ◌∷◌, ◌++◌, length, take, drop, get_or, set, drop-cons, add-one, Option, None, Some, Result, Ok, Err, refl, sym, ◌∙◌, ap, subst, inl, inr, arith, Contains}
use Rattle.std.specs.Prelude.{All, IfOk, IfSome, IsSome, map, if◌then◌else◌}
use Rattle.std.specs.Option.{option_map}
use Rattle.std.specs.Str.{bytes_eq}
use Rattle.std.proofs.lemmas.List.{drop_all, take_all, take_more}
use Rattle.std.proofs.lemmas.List.Elements.{All-append, All-cons, All-nil}
use Rattle.kr_config.specs.Kept.{ConfigEntry, rows_of}
use Rattle.kr_config.specs.declared.settings.Settings.{Settings}
use Rattle.kr_base.specs.Walks.{Talk, Walk}
use Rattle.kr_base.proofs.Walks.{talk_none, talk_so, talk_then}
use Rattle.kr_kms.specs.Calls.{Link}
use Rattle.kr_kms.specs.Exchanges.{AgreeAll, Exchange}
use Rattle.kr_kms.specs.Opens.{Opens}
use Rattle.kr_kms.proofs.Opening.{agree_parts}
use Rattle.kr_kms.specs.declared.seeds.SeedRow.{SeedRow}
use Rattle.kr_provider.specs.AskedLinks.{Among, AskedOnly}
use Rattle.kr_provider.specs.Names.{HasLinks, names_of}
use Rattle.kr_provider.specs.PluginOrder.{plugin_order}
use Rattle.kr_provider.specs.Publication.{Publication}
use Rattle.kr_provider.proofs.AskedLists.{asked_none, asked_then, names_stay}
use Rattle.kr_history.specs.Honesty.{SeedsOpen}
use Rattle.kr_rollout.specs.Openings.{AreAmong, NamesAmong}
use Rattle.kr_opening.specs.Replicas.{IsFirstIn, settings_of}
use Rattle.kr_workers.specs.Files as workers
use Rattle.kr_workers.specs.declared.files.SettingsFile.{SettingsFile}
use Rattle.kr_cmd_steps.specs.Environment.{Environment, with_exchanges}
use Rattle.kr_cmd_steps.specs.Phases.{with_memory}
use Rattle.kr_cmd_fleet.specs.FleetFiles.{NamedRows, no_file, file_entries}
use Rattle.kr_cmd_fleet.specs.Fleets.{Replicas, publishes, publishing, rows_of_replica}
use Rattle.kr_cmd_steps.specs.Plugins.{make_seeds}
use Rattle.kr_cmd_steps.specs.Steps.{Steps, give}
use Rattle.kr_cmd_fleet.specs.declared.fleet_file.LoadedFleet.{LoadedFleet}
use Rattle.kr_cmd_fleet.specs.declared.outfit.Outfit.{Outfit}
use Rattle.kr_cmd_messages.specs.declared.refusal.Stop.{Stop}
use Rattle.kr_cmd_messages.specs.declared.refusal.Stop.TheVariants.{NoMemory}
use Rattle.kr_cmd_fleet.specs.inner.Beginnings.{MayPublish, PublishesNext, with_first}
use Rattle.kr_cmd_fleet.specs.inner.Plans.{IsWholePlan, named, plan_of}
use Rattle.kr_cmd_fleet.specs.inner.FleetOutcomes.{ArePublished, IsPublishedBy}
use Rattle.kr_cmd_fleet.specs.StartExchanges.{AsksFirst, OpenBy}
use Rattle.kr_cmd_fleet.specs.inner.Outfits.{AreLater, AreNamed, IsLater, links_of, with_outfits}
use Rattle.kr_cmd_steps.specs.inner.ProgramNames.{names_in}
use Rattle.kr_cmd_steps.specs.inner.Phases.{Does}
use Rattle.kr_cmd_fleet.proofs.FleetLoads.{same_rows}
use Rattle.kr_cmd_steps.proofs.Hearing.{around_more, around_none}
use Rattle.kr_cmd_steps.proofs.RunTo.{given, goes_on, home_refl, reach, stops}
use Rattle.kr_cmd_steps.proofs.Made.{remembers}
use Rattle.kr_cmd_fleet.proofs.Outfits.{later_refl, outfits_exchanges}
use Rattle.kr_cmd_fleet.proofs.Plans.{plan_links, plan_read}
use Rattle.kr_cmd_steps.proofs.Works.{lacks}

-- ---- what opens by what was asked

abbrev IsOpen : Opens → Option Publication → Type 0
IsOpen opens p = IfSome p (SeedsOpen opens)

pub open_none : (es : List Exchange) → OpenBy es []
open_none es opens agree = All-nil (IsOpen opens)

pub open_one : (es : List Exchange) (p : Option Publication)
    → ((opens : Opens) → AgreeAll opens es → IfSome p (SeedsOpen opens)) → OpenBy es (p ∷ [])
open_one es p so opens agree =
    All-cons (IsOpen opens) p [] (so opens agree) (All-nil (IsOpen opens))

-- by more exchanges too
pub open_on : (es fs : List Exchange) (made : Replicas) → OpenBy es made → OpenBy (es ++ fs) made
open_on es fs made so opens agree = so opens (agree_parts opens es fs agree).0

open_more : (es fs : List Exchange) (made : Replicas) (p : Option Publication) → OpenBy es made
    → OpenBy fs (p ∷ []) → OpenBy (es ++ fs) (made ++ p ∷ [])
open_more es fs made p so own opens agree =
    let parts = agree_parts opens es fs agree in
    All-append (IsOpen opens) made (p ∷ []) (so opens parts.0) (own opens parts.1)

-- ---- one replica

-- memory lacks for what is still to come
lacks_by : (files : List NamedRows) (made : Replicas) (others : List (List ℕ × List ℕ))
    (a : Environment) (rows : Option (List ConfigEntry))
    → Does (publishing files (made ++ None ∷ []) others) a a (Err NoMemory)
    → Does (publishes rows made (λ more. publishing files more others)) a a (Err NoMemory)
lacks_by files made others a None rest = rest
lacks_by files made others a (Some rows) rest =
    record { home = home_refl a; ends = λ left s. inr (reach left (inl (refl, refl)) s) }

pub lacks_rest : (files : List NamedRows) (made : Replicas) (replicas : List (List ℕ × List ℕ))
    (a : Environment) → Does (publishing files made replicas) a a (Err NoMemory)
lacks_rest files made [] a = lacks (give made) a
lacks_rest files made (replica ∷ others) a =
    lacks_by files made others a (rows_of_replica files replica)
    (lacks_rest files (made ++ None ∷ []) others a)

module _ (files : List NamedRows) (replica : List ℕ × List ℕ) where
  rows_gap : bytes_eq replica.1 no_file ≡ true → rows_of_replica files replica ≡ None
  rows_gap gap =
      ap {B = Option (List ConfigEntry)} (λ b. if b then None else file_entries files replica.1) gap

  pub rows_in_file : (rows : List ConfigEntry) → bytes_eq replica.1 no_file ≡ false
      → file_entries files replica.1 ≡ Some rows → rows_of_replica files replica ≡ Some rows
  rows_in_file rows there is =
      ap {B = Option (List ConfigEntry)} (λ b. if b then None else file_entries files replica.1)
      there ∙ is

  -- it isn't in
  pub next_gap : bytes_eq replica.1 no_file ≡ true → (a : Environment)
      → PublishesNext files replica a a (Ok None)
  next_gap gap a made others end result d =
      subst (λ r. Does (publishes r made (λ more. publishing files more others)) a end result)
      (sym (rows_gap gap)) d

  pub published_gap : bytes_eq replica.1 no_file ≡ true → IsPublishedBy files replica None
  published_gap gap = sym (rows_gap gap)

  pub next_lacks : (a : Environment) → PublishesNext files replica a a (Err NoMemory)
  next_lacks a made others = lacks_rest files made (replica ∷ others) a

  module _ (rows : List ConfigEntry) (is : rows_of_replica files replica ≡ Some rows) where
    -- the others, behind what was published
    abbrev behind : Replicas → List (List ℕ × List ℕ) → List SeedRow → Steps Replicas
    behind made others seeds =
        publishing files (made ++ Some (record { rows = rows; seeds = seeds }) ∷ []) others

    pub published_by : (p shared : Publication) → shared ≡ p → p.rows ≡ rows
        → IsPublishedBy files replica (Some shared)
    published_by p shared one same =
        subst (λ q. IsPublishedBy files replica (Some q)) (sym one)
        (ap (λ r. Some r) same ∙ sym is)

    by_rows : {old : Environment} (made : Replicas) (others : List (List ℕ × List ℕ)) {end : Environment}
        {result : Result Replicas Stop}
        → Does (publishes (Some rows) made (λ more. publishing files more others)) old end result
        → Does (publishing files made (replica ∷ others)) old end result
    by_rows {old} made others {end} {result} d = subst (λ r.
        Does (publishes r made (λ more. publishing files more others)) old end result) (sym is) d

    module _ (old new : Environment) where
      pub next_published : (p shared : Publication) → shared ≡ p → p.rows ≡ rows
          → Does (make_seeds (plugin_order rows)) old new (Ok p.seeds)
          → PublishesNext files replica old new (Ok (Some shared))
      next_published p shared one same d made others end result e = by_rows made others
          (goes_on (with_memory (make_seeds (plugin_order rows))) (behind made others) p.seeds
          (remembers d)
          (subst (λ r. Does (publishing files
          (made ++ Some (record { rows = r; seeds = p.seeds }) ∷ []) others) new end result)
          same
          (subst (λ q. Does (publishing files (made ++ Some q ∷ []) others) new end result) one
          e)))

      pub next_fails : (stop : Stop)
          → Does (make_seeds (plugin_order rows)) old new (Err stop)
          → PublishesNext files replica old new (Err stop)
      next_fails stop d made others = by_rows made others
          (stops (with_memory (make_seeds (plugin_order rows))) (behind made others) stop
          (remembers d))

      -- it was published, and memory lacked to keep it
      pub next_unkept : (seeds : List SeedRow)
          → Does (make_seeds (plugin_order rows)) old new (Ok seeds)
          → PublishesNext files replica old new (Err NoMemory)
      next_unkept seeds d made others = by_rows made others
          (goes_on (with_memory (make_seeds (plugin_order rows))) (behind made others) seeds
          (remembers d)
          (lacks_rest files (made ++ Some (record { rows = rows; seeds = seeds }) ∷ []) others new))

-- nothing was asked
pub none_next : {L : Type 0} (step : L → Exchange → L → Type 0)
    (files : List NamedRows) (replica : List ℕ × List ℕ) (links : List L)
    (with_parts : Environment → Environment) (result : Result (Option Publication) Stop)
    → ((a : Environment) → PublishesNext files replica a a result)
    → IfOk result (λ published. OpenBy [] (published ∷ []))
    → Talk (Among step) links links (λ es. ((a : Environment)
    → PublishesNext files replica (with_parts a) (with_parts (with_exchanges es a)) result)
    × IfOk result (λ published. OpenBy es (published ∷ [])))
none_next step files replica links with_parts result next so =
    talk_none (Among step) (λ es. ((a : Environment)
    → PublishesNext files replica (with_parts a) (with_parts (with_exchanges es a)) result)
    × IfOk result (λ published. OpenBy es (published ∷ []))) links (
      λ a. subst (λ b. PublishesNext files replica (with_parts a) (with_parts b) result)
          (sym (around_none a)) (next (with_parts a)),
      so,
    )

-- ---- the file of a replica

pub read_rows : (files : List SettingsFile) (text file : List ℕ) (settings shared : Settings)
    → text ≡ file → Some (rows_of settings.entries.0) ≡ workers.rows_at files text
    → shared ≡ settings → file_entries (named files) file ≡ Some (rows_of shared.entries.0)
read_rows files text file settings shared e is same = same_rows files file
    ∙ ap (λ n. workers.rows_at files n) (sym e) ∙ sym is
    ∙ ap (λ (s : Settings). Some (rows_of s.entries.0)) (sym same)

pub has_links : (names : List (List ℕ)) (files : List NamedRows) (file : List ℕ)
    (rows : List ConfigEntry) → MayPublish names files file → bytes_eq file no_file ≡ false
    → file_entries files file ≡ Some rows → HasLinks names rows
has_links names files file rows may there is =
    let m = may there in
    let same : m.0 ≡ rows = let e : Some m.0 ≡ Some rows = sym m.1 ∙ is in cc in
    subst (λ r. HasLinks names r) same m.2

pub read_there : (names : List (List ℕ)) (files : List SettingsFile) (text file : List ℕ)
    → MayPublish names (named files) file → bytes_eq file no_file ≡ false → text ≡ file
    → None ≡ workers.rows_at files text → ⊥
read_there names files text file may there e none =
    let m = may there in
    let no : None ≡ Some m.0 = none ∙ ap (λ n. workers.rows_at files n) e
    ∙ sym (same_rows files file) ∙ m.1 in cc

-- ---- links that were asked

pub asked_wider : {L : Type 0} (link : L → Link) (names more : List (List ℕ))
    → ((name : List ℕ) → Contains names name → Contains more name) → (xs ys : List L)
    → AskedOnly link names xs ys → AskedOnly link more xs ys
asked_wider link names more all [] [] a = tt
asked_wider link names more all (x ∷ xs) (y ∷ ys) a = (
  a.0,
  λ n. a.1 (λ c. n (all (link x).name c)),
  asked_wider link names more all xs ys a.2,
)
asked_wider link names more all other another a = absurd a

-- ---- all replicas

pub published_more : (files : List NamedRows)
    (replicas : List (List ℕ × List ℕ)) (made : Replicas) (replica : List ℕ × List ℕ)
    (p : Option Publication) → ArePublished files replicas made
    → IsPublishedBy files replica p
    → ArePublished files (replicas ++ replica ∷ []) (made ++ p ∷ [])
published_more files [] [] replica p all is = (is, tt)
published_more files (r ∷ replicas) (q ∷ made) replica p all is =
    (all.0, published_more files replicas made replica p all.1 is)
published_more files other another replica p all is = absurd all

module _ {L D : Type 0} (link : L → Link) (step : L → Exchange → L → Type 0)
    (left : D → Option (List ℕ)) (count : D → ℕ) (files : List NamedRows)
    (replicas : List (List ℕ × List ℕ)) where
  -- while the first seat has these links and this random source
  abbrev First : List L → D → Environment → Environment
  First links dice a = with_first link links (left dice) (count dice) a

  -- behind these exchanges, what the others do completes it; and by them what was published opens
  abbrev pub Onward : (number : ℕ) (made : Replicas) (olds mids : List L) (old mid : D)
      → List Exchange → Type 0
  Onward number made olds mids old mid es = ((a : Environment) (end : Environment)
      (result : Result Replicas Stop)
      → Does (publishing files made (drop number replicas)) (First mids mid (with_exchanges es a))
      end result
      → Does (publishing files [] replicas) (First olds old a) end result) × OpenBy es made

  -- so many were gone through
  pub record IsPublishing (number : ℕ) (made : Replicas) (olds mids : List L) (old mid : D)
      : Type 0 where
    pub onward : Talk (Among step) olds mids (Onward number made olds mids old mid)
    pub published : ArePublished files (take number replicas) made
    pub asked : AskedOnly link (names_of link olds) olds mids
    pub later : count old ≤ count mid

  pub publishing_none : (links : List L) (dice : D) → IsPublishing 0 [] links links dice dice
  publishing_none links dice = record {
    onward = talk_none (Among step) (Onward 0 [] links links dice dice) links (
      λ a end result d. subst (λ b. Does (publishing files [] replicas) (First links dice b) end
          result) (around_none a) d,
      open_none [],
    );
    published = tt;
    asked = asked_none link (names_of link links) links;
    later = omega arith;
  }

  module _ {number : ℕ} {made : Replicas} {olds mids : List L} {old mid : D}
      (so_far : IsPublishing number made olds mids old mid) where
    pub same_names : names_of link mids ≡ names_of link olds
    same_names = names_stay link (names_of link olds) olds mids so_far.asked

    pub may_publish : (file : List ℕ) → MayPublish (names_of link olds) files file
        → MayPublish (names_of link mids) files file
    may_publish file may = subst (λ n. MayPublish n files file) (sym same_names) may

    -- how all of it is said of what was asked
    abbrev pub Ended : (news : List L) (new : D) → Result Replicas Stop → List Exchange → Type 0
    Ended news new result es = ((a : Environment) → Does (publishing files [] replicas)
        (First olds old a) (First news new (with_exchanges es a)) result)
        × IfOk result (OpenBy es)

    module _ (news : List L) (new : D) where
      pub asked_further : AskedOnly link (names_of link mids) mids news
          → AskedOnly link (names_of link olds) olds news
      asked_further a = asked_then link (names_of link olds) olds mids news so_far.asked
          (subst (λ n. AskedOnly link n mids news) same_names a)

      pub later_further : count mid ≤ count new → count old ≤ count new
      later_further h = omega (arith, so_far.later, h)

      module _ (replica : List ℕ × List ℕ) (below : number < length replicas)
          (is : replica ≡ get_or replicas number replica) where
        next_is : drop number replicas ≡ replica ∷ drop (number + 1) replicas
        next_is = drop-cons replicas number replica below
            ∙ ap (λ r. r ∷ drop (suc number) replicas) (sym is)
            ∙ ap (λ k. replica ∷ drop k replicas) (sym (add-one number))

        -- the next one, and then these steps
        onward_by : (es : List Exchange) → Onward number made olds mids old mid es → (a : Environment)
            → (end : Environment) (result : Result Replicas Stop)
            → Does (publishing files made (replica ∷ drop (number + 1) replicas))
            (First mids mid (with_exchanges es a)) end result
            → Does (publishing files [] replicas) (First olds old a) end result
        onward_by es onward a end result d = onward.0 a end result
            (subst (λ l. Does (publishing files made l) (First mids mid (with_exchanges es a)) end
            result) (sym next_is) d)

        -- what the next one's exchanges lead to
        abbrev Next : Result (Option Publication) Stop → List Exchange → Type 0
        Next result es = ((a : Environment) → PublishesNext files replica (First mids mid a)
            (First news new (with_exchanges es a)) result)
            × IfOk result (λ published. OpenBy es (published ∷ []))

        -- it ended there
        both_end : (stop : Stop) (first others : List Exchange)
            → ((a : Environment) → Does (publishing files [] replicas)
            (First olds old a)
            (First news new (with_exchanges others (with_exchanges first a))) (Err stop))
            → Ended news new (Err stop) (first ++ others)
        both_end stop first others does = (
          λ a. subst (λ b. Does (publishing files [] replicas) (First olds old a)
              (First news new b) (Err stop)) (around_more first others a) (does a),
          tt,
        )

        module _ (p : Option Publication) (next : Talk (Among step) mids news (Next (Ok p))) where
          pub publishing_more : IsPublishedBy files replica p
              → AskedOnly link (names_of link mids) mids news → count mid ≤ count new
              → (all : Replicas) → all ≡ made ++ p ∷ []
              → IsPublishing (number + 1) all olds news old new
          publishing_more by asked later all e = subst
              (λ m. IsPublishing (number + 1) m olds news old new) (sym e)
              (record {
                onward = talk_then (Among step) (Onward number made olds mids old mid) (Next (Ok p))
                    (Onward (number + 1) (made ++ p ∷ []) olds news old new) olds mids news
                    so_far.onward next (λ es fs so goes. (
                      λ a end result d. onward_by es so a end result
                          (goes.0 (with_exchanges es a) made (drop (number + 1) replicas) end
                          result (subst (λ b. Does
                          (publishing files (made ++ p ∷ []) (drop (number + 1) replicas))
                          (First news new b) end result) (sym (around_more es fs a)) d)),
                      open_more es fs made p so.1 goes.1,
                    ));
                published = subst (λ l. ArePublished files l (made ++ p ∷ []))
                    (ap (λ r. take number replicas ++ r ∷ []) is
                    ∙ sym (take_more replicas number replica below))
                    (published_more files (take number replicas) made replica p
                    so_far.published by);
                asked = asked_further asked;
                later = later_further later;
              })

          pub publishing_unkept : Talk (Among step) olds news (Ended news new (Err NoMemory))
          publishing_unkept = talk_then (Among step) (Onward number made olds mids old mid)
              (Next (Ok p)) (Ended news new (Err NoMemory)) olds mids news so_far.onward next
              (λ es fs so goes. both_end NoMemory es fs (λ a.
              let end = First news new (with_exchanges fs (with_exchanges es a)) in
              onward_by es so a end (Err NoMemory)
              (goes.0 (with_exchanges es a) made (drop (number + 1) replicas) end (Err NoMemory)
              (lacks_rest files (made ++ p ∷ []) (drop (number + 1) replicas) end))))

        pub publishing_stops : (stop : Stop) → Talk (Among step) mids news (Next (Err stop))
            → Talk (Among step) olds news (Ended news new (Err stop))
        publishing_stops stop next = talk_then (Among step) (Onward number made olds mids old mid)
            (Next (Err stop)) (Ended news new (Err stop)) olds mids news so_far.onward next
            (λ es fs so goes. both_end stop es fs (λ a. onward_by es so a
            (First news new (with_exchanges fs (with_exchanges es a))) (Err stop)
            (goes.0 (with_exchanges es a) made (drop (number + 1) replicas))))

    module _ (past : length replicas ≤ number) where
      pub publishing_all : Talk (Among step) olds mids (Ended mids mid (Ok made))
      publishing_all = talk_so (Among step) (Onward number made olds mids old mid)
          (Ended mids mid (Ok made)) olds mids so_far.onward (λ es so. (
            λ a. let end = First mids mid (with_exchanges es a) in
                so.0 a end (Ok made)
                (subst (λ l. Does (publishing files made l) end end (Ok made))
                (sym (drop_all number replicas past)) (remembers (given made end))),
            so.1,
          ))

      pub published_all : ArePublished files replicas made
      published_all = subst (λ l. ArePublished files l made) (take_all number replicas past)
          so_far.published

-- ---- what all of them published

module _ (files : List NamedRows) where
  pub published_many : (replicas : List (List ℕ × List ℕ)) (made : Replicas)
      → ArePublished files replicas made → length made ≡ length replicas
  published_many [] [] all = refl
  published_many (replica ∷ replicas) (p ∷ made) all =
      ap (λ n. suc n) (published_many replicas made all.1)
  published_many other another all = absurd all

  -- in order, the settings of their files
  pub published_settings : (replicas : List (List ℕ × List ℕ)) (made : Replicas)
      → ArePublished files replicas made
      → settings_of made ≡ map (rows_of_replica files) replicas
  published_settings [] [] all = refl
  published_settings (replica ∷ replicas) (p ∷ made) all =
      λ i. all.0 i ∷ published_settings replicas made all.1 i
  published_settings other another all = absurd all

  is_in : (p : Option Publication) (rows : Option (List ConfigEntry))
      → option_map (λ (q : Publication). q.rows) p ≡ rows → IsSome rows → IsSome p
  is_in (Some p) rows e some = refl
  is_in None rows e some = subst (λ (r : Option (List ConfigEntry)). IsSome r) (sym e) some

  pub published_first : (replicas : List (List ℕ × List ℕ)) (made : Replicas)
      → ArePublished files replicas made → 1 ≤ length replicas
      → ((replica : List ℕ × List ℕ) (others : List (List ℕ × List ℕ))
      → replicas ≡ replica ∷ others → IsSome (rows_of_replica files replica))
      → IsFirstIn made
  published_first [] made all some first = absurd (omega (arith, some))
  published_first (replica ∷ replicas) [] all some first = absurd all
  published_first (replica ∷ replicas) (p ∷ made) all some first =
      is_in p (rows_of_replica files replica) all.0 (first replica replicas refl)

  module _ (names : List (List ℕ)) (among : (name : List ℕ) (rows : List ConfigEntry)
      → file_entries files name ≡ Some rows → NamesAmong names rows) where
    names_by : (file : List ℕ) (rows : List ConfigEntry) (gap : Bool)
        → Some rows ≡ (if gap then None else file_entries files file) → NamesAmong names rows
    names_by file rows true e = absurd cc
    names_by file rows false e = among file rows (sym e)

    among_one : (replica : List ℕ × List ℕ) (p : Option Publication)
        → IsPublishedBy files replica p → IfSome p (λ q. NamesAmong names q.rows)
    among_one replica None by = tt
    among_one replica (Some p) by =
        names_by replica.1 p.rows (bytes_eq replica.1 no_file) by

    pub published_among : (replicas : List (List ℕ × List ℕ)) (made : Replicas)
        → ArePublished files replicas made → AreAmong names made
    published_among [] [] all = All-nil (λ p. IfSome p (λ q. NamesAmong names q.rows))
    published_among (replica ∷ replicas) (p ∷ made) all =
        All-cons (λ r. IfSome r (λ q. NamesAmong names q.rows)) p made
        (among_one replica p all.0) (published_among replicas made all.1)
    published_among other another all = absurd all

-- ---- by the first worker's outfit

-- each replica that is in has its file, and there is a link to each plugin that it names
module _ (plan : LoadedFleet) (whole : IsWholePlan (plan_of plan)) (names : List (List ℕ))
    (names_are : names ≡ names_in plan.programs) where
  may_by : (file : List ℕ) (read : Option (List ConfigEntry))
      → file_entries (named plan.files.0) file ≡ read
      → IsSome read
      → (rows : List ConfigEntry) × (file_entries (named plan.files.0) file ≡ Some rows)
      × HasLinks names rows
  may_by file (Some rows) e some =
      (rows, e, subst (λ n. HasLinks n rows) (sym names_are) (plan_links plan whole file rows e))
  may_by file None e some = absurd (let f : false ≡ true = some in cc)

  pub may_each : (files : List SettingsFile) (replicas : List (List ℕ × List ℕ))
      → files ≡ plan.files.0 → replicas ≡ plan.script.replicas.0
      → All (λ replica. MayPublish names (named files) replica.1) replicas
  may_each files replicas f r =
      subst (λ fs. All (λ replica. MayPublish names (named fs) replica.1) replicas) (sym f)
      (subst (λ rs. All (λ replica. MayPublish names (named plan.files.0) replica.1) rs) (sym r)
      (λ k d below there. may_by (get_or plan.script.replicas.0 k d).1 _ refl
      (plan_read plan whole k d below there)))

module _ {L D : Type 0} (link : L → Link) (left : D → Option (List ℕ))
    (count : D → ℕ) where
  abbrev With : List (Outfit L D) → Environment → Environment
  With outfits a = with_outfits link left count 0 outfits a

  -- what was done with the first outfit, with all of them
  pub heard_first : {A : Type 0} (next : Steps A) (result : Result A Stop)
      (outfits : List (Outfit L D)) (first new : Outfit L D) (es : List Exchange)
      → 1 ≤ length outfits → first ≡ get_or outfits 0 first
      → ((b : Environment) → Does next
      (with_first link first.links (left first.dice) (count first.dice) b)
      (with_first link new.links (left new.dice) (count new.dice) (with_exchanges es b)) result)
      → (a : Environment)
      → Does next (With outfits a) (With (set outfits 0 new) (with_exchanges es a)) result
  heard_first next result [] first new es some is does a = absurd (omega (arith, some))
  heard_first next result (outfit ∷ rest) first new es some is does a =
      let b = with_outfits link left count 1 rest a in
      subst (λ (c : Environment). Does next
      (with_first link outfit.links (left outfit.dice) (count outfit.dice) b)
      (with_first link new.links (left new.dice) (count new.dice) c) result)
      (sym (outfits_exchanges link left count es 1 rest a))
      (subst (λ (f : Outfit L D). Does next
      (with_first link f.links (left f.dice) (count f.dice) b)
      (with_first link new.links (left new.dice) (count new.dice) (with_exchanges es b)) result) is
      (does b))

  pub first_asks : (step : L → Exchange → L → Type 0) (outfits : List (Outfit L D))
      (first new : Outfit L D) (es : List Exchange) → 1 ≤ length outfits
      → first ≡ get_or outfits 0 first → Walk (Among step) first.links es new.links
      → AsksFirst step es (links_of outfits) (links_of (set outfits 0 new))
  first_asks step [] first new es some is walk = absurd (omega (arith, some))
  first_asks step (outfit ∷ rest) first new es some is walk = record {
    old = outfit.links;
    new = new.links;
    others = links_of rest;
    olds_are = refl;
    news_are = refl;
    walk = subst (λ (f : Outfit L D). Walk (Among step) f.links es new.links) is walk;
  }

  pub first_later : (outfits : List (Outfit L D)) (first new : Outfit L D) → 1 ≤ length outfits
      → first ≡ get_or outfits 0 first
      → AskedOnly link (names_of link first.links) first.links new.links
      → count first.dice ≤ count new.dice
      → AreLater link count outfits (set outfits 0 new)
  first_later [] first new some is asked later = absurd (omega (arith, some))
  first_later (outfit ∷ rest) first new some is asked later = (
    subst (λ (f : Outfit L D). IsLater link count f new) is
        (record { links = asked; dice = later }),
    later_refl link left count rest,
  )

  pub first_named : (names : List (List ℕ)) (outfits : List (Outfit L D)) (first : Outfit L D)
      → 1 ≤ length outfits → first ≡ get_or outfits 0 first → AreNamed link names outfits
      → names_of link first.links ≡ names
  first_named names outfits first some is named =
      ap (λ (f : Outfit L D). names_of link f.links) is ∙ named 0 first some
