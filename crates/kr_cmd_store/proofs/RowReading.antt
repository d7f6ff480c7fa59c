-- What the value of a row is found to be, and those of the rows one behind another.
use Rattle.std.proofs.Common.{◌≡◌, ℕ, suc, ◌+◌, ◌≤◌, ◌<◌, List, [], ◌∷◌, ◌++◌, length, drop, get_or, append-nil, append_assoc, Option, None, Some, Result, Ok, Err, refl, sym, ◌∙◌, ap, subst, drop-cons, add-one, length-append}
use Rattle.std.specs.Prelude.{IfErr, IfOk, IfSome, IsSome}
use Rattle.std.proofs.lemmas.List.{drop_all}
use Rattle.kr_config.specs.Lists.{list_of}
use Rattle.kr_kms.specs.Calls.{Link}
use Rattle.kr_base.specs.Walks.{Talk}
use Rattle.kr_base.proofs.Walks.{talk_none, talk_so, talk_then}
use Rattle.kr_kms.specs.Cache.{CacheState}
use Rattle.kr_kms.specs.Exchanges.{Exchange}
use Rattle.kr_provider.specs.AskedLinks.{Among}
use Rattle.kr_provider.specs.Exchanges.{ReadsBy}
use Rattle.kr_provider.specs.BenchState.{BenchState}
use Rattle.kr_provider.specs.Names.{AreDistinct, names_of}
use Rattle.kr_provider.specs.Publication.{Publication, list_at}
use Rattle.kr_provider.specs.Unsealing.{UnsealsBy}
use Rattle.kr_provider.specs.declared.refusal.Opened.{Opened}
use Rattle.kr_provider.specs.declared.refusal.UnsealNo.{UnsealNo}
use Rattle.kr_provider.specs.declared.refusal.UnsealNo.TheVariants as unseal
use Rattle.kr_provider.specs.declared.refusal.ValueNo.{ValueNo}
use Rattle.kr_store.specs.declared.rows.Row.{Row}
use Rattle.kr_cmd_messages.specs.declared.refusal.Stop.{Stop}
use Rattle.kr_cmd_messages.specs.declared.refusal.Stop.TheVariants as stop
use Rattle.kr_cmd_steps.specs.Environment.{Environment, with_exchanges}
use Rattle.kr_cmd_steps.specs.StoreSteps.{row_finding, row_findings}
use Rattle.kr_cmd_steps.specs.ValueSteps.{value_read}
use Rattle.kr_cmd_steps.specs.Phases.{with_memory}
use Rattle.kr_cmd_steps.specs.RowFindings.{finding_of}
use Rattle.kr_cmd_steps.specs.Steps.{Steps, and_then, give}
use Rattle.kr_cmd_steps.specs.declared.finding.Finding.{Finding}
use Rattle.kr_cmd_steps.specs.inner.Phases.{Does}
use Rattle.kr_cmd_steps.specs.inner.Plugins.{NamesAnUnread}
use Rattle.kr_cmd_steps.proofs.Frames.{Seen}
use Rattle.kr_cmd_steps.proofs.RunTo.{given, goes_on, stops}
use Rattle.kr_cmd_steps.proofs.Made.{remembers}
use Rattle.kr_cmd_steps.proofs.Hearing.{around_more, around_none}
use Rattle.kr_cmd_steps.proofs.ValueRead.{IsValueEnd, keeping, value_does}
use Rattle.kr_cmd_steps.proofs.Works.{lacks, names_unread}
use Rattle.kr_cmd_store.specs.declared.reading.Unread.{Unread}
use Rattle.kr_cmd_store.specs.declared.reading.Unread.TheVariants.{PluginFailed, NoMemory}
use Rattle.kr_cmd_store.specs.inner.Verifying.{IsRowRead, IsUnreadStop, NamesUnread, value_finding}

-- ---- one row

module _ {L : Type 0} (link : L → Link) (row : Row) (p : Publication)
    (olds news : List L) (distinct : AreDistinct link olds) (dice : Option (List ℕ)) (count : ℕ)
    (a : Environment) (cache after : CacheState) (es : List Exchange) where
  abbrev Value : Steps (Result Opened ValueNo × CacheState)
  Value = value_read p.seeds (list_of p.rows row.resource) row.path row.stored cache

  abbrev next : Result Opened ValueNo × CacheState → Steps (Finding × CacheState)
  next read = give (finding_of read.0, read.1)

  abbrev Before : Environment
  Before = Seen link a olds dice count

  abbrev After : Environment
  After = with_exchanges es (Seen link a news dice count)

  abbrev Unseals : Result Opened UnsealNo → Type 0
  Unseals opened = UnsealsBy link p.seeds (list_at p row.resource) row.path row.stored olds
      opened news
      × ReadsBy p.seeds (list_at p row.resource) row.path row.stored cache opened after es

  value_so : (opened : Result Opened UnsealNo) (made : Result (Result Opened ValueNo) Stop)
      → Unseals opened → IsValueEnd link news opened made
      → Does Value Before After (keeping after made)
  value_so opened made u e = value_does link p.seeds (list_of p.rows row.resource) row.path
      row.stored olds news distinct dice count a cache opened made u.0 e after es u.1

  reads : (opened : Result Opened UnsealNo) (read : Result Opened ValueNo) (finding : Finding)
      → finding_of read ≡ finding → Does Value Before After (Ok (read, after))
      → Does (row_finding p row cache) Before After (Ok (finding, after))
  reads opened read finding is d = goes_on Value next (read, after) d
      (subst (λ f. Does (next (read, after)) After After (Ok (f, after))) is
      (given (finding_of read, after) After))

  pub finds : (opened : Result Opened UnsealNo) (finding : Finding) → Unseals opened
      → Ok finding ≡ value_finding opened
      → Does (row_finding p row cache) Before After (Ok (finding, after))
  finds (Ok opened) finding u is = reads (Ok opened) (Ok opened) finding (cc)
      (value_so (Ok opened) (Ok (Ok opened)) u refl)
  finds (Err (unseal.Refused why)) finding u is =
      reads (Err (unseal.Refused why)) (Err why) finding (cc)
      (value_so (Err (unseal.Refused why)) (Ok (Err why)) u refl)
  finds (Err other) finding u is = absurd (cc)

  pub finds_none : (opened : Result Opened UnsealNo) (why : Unread) (end : Stop) → Unseals opened
      → Err why ≡ value_finding opened → IsUnreadStop link news why end
      → Does (row_finding p row cache) Before After (Err end)
  finds_none (Err (unseal.PluginFailed name)) why end u is h =
      let same : why ≡ PluginFailed name = cc in
      let l = subst (λ w. IsUnreadStop link news w end) same h in
      stops Value next end
      (value_so (Err (unseal.PluginFailed name)) (Err end) u
      (record { it = l.it; there = l.there; named = l.named; has = ap (λ s. Err s) l.has }))
  finds_none (Err unseal.NoMemory) why end u is h =
      let same : why ≡ NoMemory = cc in
      stops Value next end
      (value_so (Err unseal.NoMemory) (Err end) u
      (ap (λ s. Err s) (subst (λ w. IsUnreadStop link news w end) same h)))
  finds_none other why end u is h = absurd (cc)

-- there is a link to the plugin that failed
pub unread_named : (names : List (List ℕ)) (opened : Result Opened UnsealNo) (why : Unread)
    → NamesAnUnread names opened → Err why ≡ value_finding opened → NamesUnread names why
unread_named names (Err (unseal.PluginFailed name)) why n is =
    let same : PluginFailed name ≡ why = cc in subst (NamesUnread names) same n
unread_named names (Err unseal.NoMemory) why n is =
    let same : NoMemory ≡ why = cc in subst (NamesUnread names) same tt
unread_named names other why n is = absurd (cc)

-- ---- rows

-- what was found before stands in front
abbrev pub behind : List Finding → Result (List Finding) Stop → Result (List Finding) Stop
behind before (Ok findings) = Ok (before ++ findings)
behind before (Err why) = Err why

behind_none : (result : Result (List Finding) Stop) → behind [] result ≡ result
behind_none (Ok findings) = refl
behind_none (Err why) = refl

behind_more : (before : List Finding) (finding : Finding) (result : Result (List Finding) Stop)
    → behind before (behind (finding ∷ []) result) ≡ behind (before ++ finding ∷ []) result
behind_more before finding (Ok findings) =
    ap (λ l. Ok l) (sym (append_assoc before (finding ∷ []) findings))
behind_more before finding (Err why) = refl

module _ (p : Publication) (row : Row) (rest : List Row) (first : CacheState) where
  abbrev put_before : Finding → List Finding → Steps (List Finding)
  put_before finding findings = give (finding ∷ findings)

  abbrev others : Finding × CacheState → Steps (List Finding)
  others found = with_memory (and_then (row_findings p rest found.1) (put_before found.0))

  in_front : {mid new : Environment} (finding : Finding) (kept : CacheState)
      (result : Result (List Finding) Stop) → Does (row_findings p rest kept) mid new result
      → Does (and_then (row_findings p rest kept) (put_before finding)) mid new
      (behind (finding ∷ []) result)
  in_front {new = new} finding kept (Ok findings) d = goes_on (row_findings p rest kept)
      (put_before finding) findings d (given (finding ∷ findings) new)
  in_front finding kept (Err why) d =
      stops (row_findings p rest kept) (put_before finding) why d

  module _ {old mid : Environment} where
    row_then : {new : Environment} (finding : Finding) (kept : CacheState)
        (result : Result (List Finding) Stop)
        → Does (row_finding p row first) old mid (Ok (finding, kept))
        → Does (row_findings p rest kept) mid new result
        → Does (row_findings p (row ∷ rest) first) old new (behind (finding ∷ []) result)
    row_then finding kept result d e = goes_on (row_finding p row first) others (finding, kept) d
        (remembers (in_front finding kept result e))

    row_lacks : (finding : Finding) (kept : CacheState)
        → Does (row_finding p row first) old mid (Ok (finding, kept))
        → Does (row_findings p (row ∷ rest) first) old mid (Err stop.NoMemory)
    row_lacks finding kept d = goes_on (row_finding p row first) others (finding, kept) d
        (lacks (and_then (row_findings p rest kept) (put_before finding)) mid)

    row_stops : (why : Stop) → Does (row_finding p row first) old mid (Err why)
        → Does (row_findings p (row ∷ rest) first) old mid (Err why)
    row_stops why d = stops (row_finding p row first) others why d

-- what reading the rest of the rows does, with what is kept then, completes what reading all of
-- them does, with what was kept first
abbrev pub Completes : List Row → (first : CacheState) → (at : ℕ) → List Finding
    → (kept : CacheState) → Environment → Environment → Publication → Type 0
Completes rows first at findings kept old now p =
    (new : Environment) (result : Result (List Finding) Stop)
    → Does (row_findings p (drop at rows) kept) now new result
    → Does (row_findings p rows first) old new (behind findings result)

abbrev pub Finds : List Row → CacheState → Environment → Environment → Result (List Finding) Stop
    → Publication → Type 0
Finds rows first old new result p = Does (row_findings p rows first) old new result

completes_none : (p : Publication) (rows : List Row) (first : CacheState) (a : Environment)
    → Completes rows first 0 [] first a a p
completes_none p rows first a = λ new result d.
    subst (λ r. Does (row_findings p rows first) a new r) (sym (behind_none result)) d

module _ (p : Publication) (rows : List Row) (first : CacheState) (row : Row) (at : ℕ)
    (next_is : drop at rows ≡ row ∷ drop (at + 1) rows) (findings : List Finding)
    (kept : CacheState) {old now next : Environment}
    (so_far : Completes rows first at findings kept old now p) where
  completes_more : (finding : Finding) (then : CacheState)
      → Does (row_finding p row kept) now next (Ok (finding, then))
      → Completes rows first (at + 1) (findings ++ finding ∷ []) then old next p
  completes_more finding then d = λ new result e.
      subst (λ r. Does (row_findings p rows first) old new r) (behind_more findings finding result)
      (so_far new (behind (finding ∷ []) result)
      (subst (λ l. Does (row_findings p l kept) now new (behind (finding ∷ []) result))
      (sym next_is) (row_then p row (drop (at + 1) rows) kept finding then result d e)))

  completes_lacking : (finding : Finding) (then : CacheState)
      → Does (row_finding p row kept) now next (Ok (finding, then))
      → Finds rows first old next (Err stop.NoMemory) p
  completes_lacking finding then d = so_far next (Err stop.NoMemory)
      (subst (λ l. Does (row_findings p l kept) now next (Err stop.NoMemory)) (sym next_is)
      (row_lacks p row (drop (at + 1) rows) kept finding then d))

  completes_stopped : (why : Stop) → Does (row_finding p row kept) now next (Err why)
      → Finds rows first old next (Err why) p
  completes_stopped why d = so_far next (Err why)
      (subst (λ l. Does (row_findings p l kept) now next (Err why)) (sym next_is)
      (row_stops p row (drop (at + 1) rows) kept why d))

completes_all : (p : Publication) (rows : List Row) (first : CacheState) (at : ℕ)
    (findings : List Finding) (kept : CacheState) {old now : Environment}
    → Completes rows first at findings kept old now p → length rows ≤ at
    → Finds rows first old now (Ok findings) p
completes_all p rows first at findings kept {old} {now} so_far whole =
    subst (λ l. Does (row_findings p rows first) old now (Ok l)) (append-nil findings)
    (so_far now (Ok []) (subst (λ l. Does (row_findings p l kept) now now (Ok []))
    (sym (drop_all at rows whole)) (given [] now)))

-- ---- by a bench

module _ {L D : Type 0} (link : L → Link) (left : D → Option (List ℕ))
    (count : D → ℕ) where
  abbrev pub Held : BenchState L D → Environment → Environment
  Held bench a = Seen link a bench.links (left bench.dice) (count bench.dice)

  -- ---- one row of the bench

  module _ (row : Row) (old new : BenchState L D)
      (kept : new ≡ record old { links = new.links; cache = new.cache })
      (distinct : AreDistinct link old.links) (opened : Result Opened UnsealNo) where
    abbrev Unsealed : (resource path stored : List ℕ) → Publication → Type 0
    Unsealed resource path stored p = UnsealsBy link p.seeds (list_at p resource) path stored
        old.links opened new.links

    abbrev Read : (resource path stored : List ℕ) → List Exchange → Publication → Type 0
    Read resource path stored es p =
        ReadsBy p.seeds (list_at p resource) path stored old.cache opened new.cache es

    pub unsealed_of : (published : Option Publication) {resource path stored : List ℕ}
        → resource ≡ row.resource → path ≡ row.path → stored ≡ row.stored
        → IfSome published (Unsealed resource path stored)
        → IfSome published (Unsealed row.resource row.path row.stored)
    unsealed_of published {resource} {path} {stored} r p s u =
        subst (λ x. IfSome published (Unsealed row.resource row.path x)) s
        (subst (λ x. IfSome published (Unsealed row.resource x stored)) p
        (subst (λ x. IfSome published (Unsealed x path stored)) r u))

    pub parse_read : (published : Option Publication) {resource path stored : List ℕ}
        (es : List Exchange) → resource ≡ row.resource → path ≡ row.path → stored ≡ row.stored
        → IfSome published (Read resource path stored es)
        → IfSome published (Read row.resource row.path row.stored es)
    parse_read published {resource} {path} {stored} es r p s u =
        subst (λ x. IfSome published (Read row.resource row.path x es)) s
        (subst (λ x. IfSome published (Read row.resource x stored es)) p
        (subst (λ x. IfSome published (Read x path stored es)) r u))

    module _ (es : List Exchange) where
      abbrev Reads : Environment → Result (Finding × CacheState) Stop → Publication → Type 0
      Reads a result p = Does (row_finding p row old.cache) (Held old a)
          (Held new (with_exchanges es a)) result

      same_dice : (p : Publication) (a : Environment) (result : Result (Finding × CacheState) Stop)
          → Does (row_finding p row old.cache) (Held old a)
          (with_exchanges es (Seen link a new.links (left old.dice) (count old.dice))) result
          → Reads a result p
      same_dice p a result = subst (λ d. Does (row_finding p row old.cache) (Held old a)
          (with_exchanges es (Seen link a new.links (left d) (count d))) result)
          (sym (ap (λ (b : BenchState L D). b.dice) kept))

      row_found : (published : Option Publication)
          → IfSome published (Unsealed row.resource row.path row.stored)
          → IfSome published (Read row.resource row.path row.stored es)
          → (result : Result Finding Unread) → result ≡ value_finding opened
          → IfOk result (λ finding. (a : Environment)
          → IfSome published (Reads a (Ok (finding, new.cache))))
      row_found None u r (Ok finding) is = λ a. tt
      row_found (Some p) u r (Ok finding) is = λ a. same_dice p a (Ok (finding, new.cache))
          (finds link row p old.links new.links distinct (left old.dice) (count old.dice) a
          old.cache new.cache es opened finding (u, r) is)
      row_found published u r (Err why) is = tt

      row_unread : (published : Option Publication)
          → IfSome published (Unsealed row.resource row.path row.stored)
          → IfSome published (Read row.resource row.path row.stored es)
          → (result : Result Finding Unread) → result ≡ value_finding opened
          → IfErr result (λ why. (end : Stop) (a : Environment) → IsUnreadStop link new.links why end
          → IfSome published (Reads a (Err end)))
      row_unread published u r (Ok finding) is = tt
      row_unread None u r (Err why) is = λ end a s. tt
      row_unread (Some p) u r (Err why) is = λ end a s. same_dice p a (Err end)
          (finds_none link row p old.links new.links distinct (left old.dice)
          (count old.dice) a old.cache new.cache es opened why end (u, r) is s)

      pub row_read : (published : Option Publication) → published ≡ old.published
          → IfSome published (Unsealed row.resource row.path row.stored)
          → IfSome published (Read row.resource row.path row.stored es)
          → (result : Result Finding Unread) → result ≡ value_finding opened
          → IsRowRead link left count row old new result es
      row_read published same u r result is = subst
          (λ o. IfSome o (Unsealed row.resource row.path row.stored)
          → IfSome o (Read row.resource row.path row.stored es)
          → IsRowRead link left count row old new result es) (sym same)
          (λ x y. record {
            found = row_found old.published x y result is;
            unread = row_unread old.published x y result is;
          }) u r

    pub row_named : (published : Option Publication) (resource path stored : List ℕ)
        → IsSome published → IfSome published (Unsealed resource path stored)
        → (result : Result Finding Unread) → result ≡ value_finding opened
        → IfErr result (NamesUnread (names_of link new.links))
    row_named published resource path stored some u (Ok finding) is = tt
    row_named published resource path stored some u (Err why) is =
        unread_named (names_of link new.links) opened why
        (names_unread link resource path stored published old.links new.links opened some u)
        is

  -- ---- all rows of the bench

  -- what holds of a publication by two things that hold of it
  by_both : (o : Option Publication) {P Q R : Publication → Type 0}
      → ((p : Publication) → P p → Q p → R p) → IfSome o P → IfSome o Q → IfSome o R
  by_both None f x y = tt
  by_both (Some p) f x y = f p x y

  by_one : (o : Option Publication) {P R : Publication → Type 0}
      → ((p : Publication) → P p → R p) → IfSome o P → IfSome o R
  by_one None f x = tt
  by_one (Some p) f x = f p x

  module _ (step : L → Exchange → L → Type 0) (rows : List Row) (initial : BenchState L D) where
    -- so many rows were read by these exchanges
    abbrev pub IsSoFar : (at : ℕ) → List Finding → BenchState L D → List Exchange → Type 0
    IsSoFar at findings bench es = (a : Environment) → IfSome initial.published
        (Completes rows initial.cache at findings bench.cache (Held initial a)
        (Held bench (with_exchanges es a)))

    pub record HasRead (at : ℕ) (findings : List Finding) (bench : BenchState L D)
        : Type 0 where
      pub talk : Talk (Among step) initial.links bench.links (IsSoFar at findings bench)
      pub published : bench.published ≡ initial.published
      pub names : names_of link bench.links ≡ names_of link initial.links
      pub all : length findings ≡ at

    -- what all of them come to
    abbrev pub FindsAll : List L → D → Result (List Finding) Stop → List Exchange → Type 0
    FindsAll links dice result es = (a : Environment) → IfSome initial.published
        (Finds rows initial.cache (Held initial a)
        (Seen link (with_exchanges es a) links (left dice) (count dice)) result)

  module _ (step : L → Exchange → L → Type 0) (rows : List Row) where
    pub none_read : (bench : BenchState L D) → (findings : List Finding) → findings ≡ []
        → HasRead step rows bench 0 findings bench
    none_read bench findings none = record {
      talk = talk_none (Among step) (IsSoFar step rows bench 0 findings bench) bench.links
          (λ a. subst (λ l. IfSome bench.published (Completes rows bench.cache 0 l bench.cache
          (Held bench a) (Held bench (with_exchanges [] a)))) (sym none)
          (subst (λ b. IfSome bench.published (Completes rows bench.cache 0 [] bench.cache
          (Held bench a) (Held bench b))) (sym (around_none a)) (each bench.published a)));
      published = refl;
      names = refl;
      all = ap (λ l. length l) none;
    }
      where
        each : (published : Option Publication) (a : Environment) → IfSome published
            (Completes rows bench.cache 0 [] bench.cache (Held bench a) (Held bench a))
        each None a = tt
        each (Some p) a = completes_none p rows bench.cache (Held bench a)

  module _ (step : L → Exchange → L → Type 0) (rows : List Row) (initial : BenchState L D)
      (at : ℕ) (findings : List Finding) (bench : BenchState L D)
      (so_far : HasRead step rows initial at findings bench) where
    pub all_read : length rows ≤ at
        → Talk (Among step) initial.links bench.links
        (FindsAll step rows initial bench.links bench.dice (Ok findings))
    all_read whole = talk_so (Among step) (IsSoFar step rows initial at findings bench)
        (FindsAll step rows initial bench.links bench.dice (Ok findings)) initial.links bench.links
        so_far.talk (λ es so a. by_one initial.published
        (λ p c. completes_all p rows initial.cache at findings bench.cache c whole) (so a))

    module _ (row item : Row) (below : at < length rows) (item_is : item ≡ get_or rows at item)
        (row_is : row ≡ item) (after : BenchState L D) (result : Result Finding Unread)
        (read : Talk (Among step) bench.links after.links
        (IsRowRead link left count row bench after result)) where
      next_row : drop at rows ≡ row ∷ drop (at + 1) rows
      next_row = drop-cons rows at item below
          ∙ ap (λ r. r ∷ drop (suc at) rows) (sym item_is ∙ sym row_is)
          ∙ ap (λ n. row ∷ drop n rows) (sym (add-one at))

      -- both talks
      behind_it : (Be : List Exchange → Type 0)
          → ((es fs : List Exchange) → IsSoFar step rows initial at findings bench es
          → IsRowRead link left count row bench after result fs → Be (es ++ fs))
          → Talk (Among step) initial.links after.links Be
      behind_it Be so = talk_then (Among step) (IsSoFar step rows initial at findings bench)
          (IsRowRead link left count row bench after result) Be initial.links bench.links
          after.links so_far.talk read so

      abbrev Found : Result (Finding × CacheState) Stop → Environment → List Exchange → Publication
          → Type 0
      Found end a fs p = Does (row_finding p row bench.cache) (Held bench a)
          (Held after (with_exchanges fs a)) end

      found_first : (end : Result (Finding × CacheState) Stop) (a : Environment) (fs : List Exchange)
          → IfSome bench.published (Found end a fs) → IfSome initial.published (Found end a fs)
      found_first end a fs = subst (λ o. IfSome o (Found end a fs)) so_far.published

      -- a finding, where one was made
      found_so : (finding : Finding) → result ≡ Ok finding → (a : Environment) (fs : List Exchange)
          → IsRowRead link left count row bench after result fs
          → IfSome initial.published (Found (Ok (finding, after.cache)) a fs)
      found_so finding is a fs one = found_first (Ok (finding, after.cache)) a fs
          (subst (λ r. IfOk r (λ finding. (a : Environment)
          → IfSome bench.published (Found (Ok (finding, after.cache)) a fs))) is one.found a)

      in_one : (Is : Environment → Type 0) (es fs : List Exchange) (a : Environment)
          → Is (with_exchanges fs (with_exchanges es a)) → Is (with_exchanges (es ++ fs) a)
      in_one Is es fs a = subst Is (around_more es fs a)

      pub one_more_read : (finding : Finding) → result ≡ Ok finding → (new : List Finding)
          → new ≡ findings ++ finding ∷ []
          → after ≡ record bench { links = after.links; cache = after.cache }
          → names_of link after.links ≡ names_of link bench.links
          → HasRead step rows initial (at + 1) new after
      one_more_read finding is new new_is kept names = record {
        talk = behind_it (IsSoFar step rows initial (at + 1) new after) (λ es fs so one a.
            in_one (λ b. IfSome initial.published (Completes rows initial.cache (at + 1) new
            after.cache (Held initial a) (Held after b))) es fs a
            (subst (λ l. IfSome initial.published (Completes rows initial.cache (at + 1) l
            after.cache (Held initial a) (Held after (with_exchanges fs (with_exchanges es a)))))
            (sym new_is)
            (by_both initial.published (λ p c d. completes_more p rows initial.cache row at
            next_row findings bench.cache c finding after.cache d)
            (so a) (found_so finding is (with_exchanges es a) fs one))));
        published = ap (λ (b : BenchState L D). b.published) kept ∙ so_far.published;
        names = names ∙ so_far.names;
        all = ap (λ l. length l) new_is ∙ length-append findings (finding ∷ [])
            ∙ ap (λ n. n + 1) so_far.all;
      }

      -- the links and the random source come back
      module _ (back : List L) (dice : D) (made : Result (List Finding) Stop) (end : Stop)
          (links_are : back ≡ after.links) (dice_is : dice ≡ after.dice)
          (made_is : made ≡ Err end) where
        given_back : Talk (Among step) initial.links after.links
            (FindsAll step rows initial after.links after.dice (Err end))
            → Talk (Among step) initial.links back (FindsAll step rows initial back dice made)
        given_back x = subst (λ r. Talk (Among step) initial.links back
            (FindsAll step rows initial back dice r)) (sym made_is)
            (subst (λ l. Talk (Among step) initial.links l
            (FindsAll step rows initial l dice (Err end))) (sym links_are)
            (subst (λ d. Talk (Among step) initial.links after.links
            (FindsAll step rows initial after.links d (Err end))) (sym dice_is) x))

        pub stopped_at : (why : Unread) → result ≡ Err why
            → IsUnreadStop link after.links why end
            → Talk (Among step) initial.links back (FindsAll step rows initial back dice made)
        stopped_at why is h = given_back (behind_it
            (FindsAll step rows initial after.links after.dice (Err end)) (λ es fs so one a.
            in_one (λ b. IfSome initial.published (Finds rows initial.cache (Held initial a)
            (Held after b) (Err end))) es fs a (by_both initial.published
            (λ p c d. completes_stopped p rows initial.cache row at next_row findings bench.cache
            c end d)
            (so a) (found_first (Err end) (with_exchanges es a) fs
            (subst (λ r. IfErr r (λ why. (end : Stop) (a : Environment)
            → IsUnreadStop link after.links why end
            → IfSome bench.published (Found (Err end) a fs))) is one.unread end
            (with_exchanges es a) h)))))

        pub lacking_at : end ≡ stop.NoMemory → (finding : Finding) → result ≡ Ok finding
            → Talk (Among step) initial.links back (FindsAll step rows initial back dice made)
        lacking_at lacked finding is = given_back (behind_it
            (FindsAll step rows initial after.links after.dice (Err end)) (λ es fs so one a.
            in_one (λ b. IfSome initial.published (Finds rows initial.cache (Held initial a)
            (Held after b) (Err end))) es fs a (by_both initial.published
            (λ p c d. subst (λ s. Finds rows initial.cache (Held initial a)
            (Held after (with_exchanges fs (with_exchanges es a))) (Err s) p) (sym lacked)
            (completes_lacking p rows initial.cache row at next_row findings bench.cache c finding
            after.cache d))
            (so a) (found_so finding is (with_exchanges es a) fs one))))
