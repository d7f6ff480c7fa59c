-- The live rows, as the first replica's configuration reads them with the first worker's outfit.
use Rattle.std.proofs.Common.{◌≡◌, ℕ, suc, ◌-◌, ◌<◌, ◌≤◌, Bool, true, false, List, [], ◌∷◌, ◌++◌, length, get_or, Option, None, Some, Result, Ok, Err, refl, sym, ◌∙◌, ap, subst, inl, inr, arith, Contains}
use Rattle.std.specs.Prelude.{All, IfOk, IfSome, reverse}
use Rattle.std.specs.List.{last_or}
use Rattle.kr_base.specs.Walks.{Talk, Walk}
use Rattle.std.proofs.lemmas.List.{reverse-append, reverse-reverse}
use Rattle.std.proofs.lemmas.List.Elements.{All-append, All-contains, All-cons, All-head, All-nil}
use Rattle.kr_config.specs.Kept.{plugins_in}
use Rattle.kr_kms.specs.Calls.{Link}
use Rattle.kr_kms.specs.Exchanges.{Exchange}
use Rattle.kr_provider.specs.AskedLinks.{Among, AskedOnly}
use Rattle.kr_provider.specs.Names.{names_of}
use Rattle.kr_provider.specs.Publication.{Publication}
use Rattle.kr_rollout.specs.Openings.{NamesAmong}
use Rattle.kr_opening.proofs.Walking as walking
use Rattle.kr_store.specs.Laws.{FollowEachOther}
use Rattle.kr_store.specs.Rows.{AreRows, IsRow}
use Rattle.kr_store.specs.Stores.{IsListing, IsNext}
use Rattle.kr_store.specs.declared.format.Format.{Format}
use Rattle.kr_store.specs.declared.rows.LogRow.{LogRow}
use Rattle.kr_store.specs.declared.rows.Row.{Row}
use Rattle.kr_store.proofs.Listings.{nexts_are_listing}
use Rattle.kr_watch.specs.declared.item.Item.{Item}
use Rattle.kr_cmd_messages.specs.declared.refusal.Stop.{Stop}
use Rattle.kr_cmd_messages.specs.declared.refusal.Stop.TheVariants.{NoMemory}
use Rattle.kr_cmd_steps.specs.Environment.{Environment, with_exchanges}
use Rattle.kr_cmd_steps.specs.ValueSteps.{none_kept}
use Rattle.kr_cmd_steps.specs.inner.Phases.{Does}
use Rattle.kr_cmd_steps.specs.inner.ProgramNames.{names_in}
use Rattle.kr_cmd_fleet.specs.FirstItems.{reading_live, reading_rows, watching}
use Rattle.kr_cmd_fleet.specs.declared.fleet_file.LoadedFleet.{LoadedFleet}
use Rattle.kr_cmd_fleet.specs.declared.outfit.Outfit.{Outfit}
use Rattle.kr_cmd_fleet.specs.inner.Beginnings.{with_first}
use Rattle.kr_cmd_fleet.specs.inner.FleetOutcomes.{ArePublished}
use Rattle.kr_cmd_fleet.specs.StartExchanges.{AsksFirst}
use Rattle.kr_cmd_fleet.specs.declared.watch_start.WatchStart.{WatchStart}
use Rattle.kr_cmd_fleet.specs.inner.Outfits.{AreLater, AreNamed, links_of, with_outfits}
use Rattle.kr_cmd_fleet.specs.inner.Plans.{IsWholePlan, named, plan_of}
use Rattle.kr_cmd_fleet.specs.inner.Readings.{AreReadOf, HasFirst, IsFirst, IsReadable, KnowsItems, first_in, items_in, read_in}
use Rattle.kr_cmd_steps.specs.Steps.{Steps, find, give}
use Rattle.kr_cmd_steps.specs.inner.Tapes.{walk_path}
use Rattle.kr_cmd_steps.proofs.RunTo.{given, goes_on, home_refl, reach}
use Rattle.kr_cmd_fleet.proofs.Plans.{plan_names}
use Rattle.kr_cmd_steps.proofs.Hearing.{around_none}
use Rattle.kr_cmd_fleet.proofs.Publishings.{first_asks, first_later, heard_first, published_among}
use Rattle.kr_cmd_fleet.proofs.RowReads.{Leaves, reads_behind}

-- ---- what the first replica published, and the first outfit

pub is_first : (replicas : List (Option Publication)) (p : Publication)
    → first_in replicas ≡ Some p → IsFirst p replicas
is_first [] p e = absurd (let x : None ≡ Some p = e in cc)
is_first (replica ∷ others) p e = (others, ap (λ r. r ∷ others) e)

module _ {L D : Type 0} (link : L → Link) (plan : LoadedFleet)
    (whole : IsWholePlan (plan_of plan)) where
  pub has_first : (outfits : List (Outfit L D)) (made : List (Option Publication))
      → AreNamed link (names_in plan.programs) outfits
      → ArePublished (named plan.files.0) plan.script.replicas.0 made
      → HasFirst link outfits made
  has_first outfits made are_named all p others outfit more is has =
      let names = names_in plan.programs in
      let among : NamesAmong names p.rows = All-head
      (λ r. IfSome r (λ q. NamesAmong names q.rows)) (Some p) others
      (subst (All (λ r. IfSome r (λ q. NamesAmong names q.rows))) is
      (published_among (named plan.files.0) names (plan_names plan whole)
      plan.script.replicas.0 made all)) in
      let own : names_of link outfit.links ≡ names = All-head
      (λ (o : Outfit L D). names_of link o.links ≡ names) outfit more
      (subst (All (λ (o : Outfit L D). names_of link o.links ≡ names)) has are_named) in
      λ name c. subst (λ ns. Contains ns name) (sym own)
      (All-contains (λ n. Contains names n) (plugins_in p.rows) name among c)

-- ---- the live rows

-- from a path on, these rows follow each other up to the path of the last one
abbrev pub Passes : List LogRow → List ℕ → List Row → List ℕ → Type 0
Passes rows from [] path = path ≡ from
Passes rows from (row ∷ more) path =
    IsNext rows from (Some row) × Passes rows row.path more path

passes_more : (rows : List LogRow) (from path : List ℕ) (passed : List Row) (row : Row)
    → Passes rows from passed path → IsNext rows path (Some row)
    → Passes rows from (passed ++ row ∷ []) row.path
passes_more rows from path [] row e next =
    (subst (λ p. IsNext rows p (Some row)) e next, refl)
passes_more rows from path (first ∷ passed) row p next =
    (p.0, passes_more rows first.path path passed row p.1 next)

follow : (rows : List LogRow) (from path : List ℕ) (passed : List Row)
    → Passes rows from passed path → IsNext rows path None → FollowEachOther rows from passed
follow rows from path [] e end = subst (λ p. IsNext rows p None) e end
follow rows from path (first ∷ passed) p end =
    (p.0, follow rows first.path path passed p.1 end)

-- where a walk is that has passed these rows
abbrev pub end_of : List Row → List ℕ
end_of passed = walk_path (last_or None passed)

-- its last row stands at the end
last_stands : (first : Row) (more : List Row) (d : Row)
    → last_or None (first ∷ more) ≡ Some (get_or (first ∷ more) (length more) d)
last_stands first [] d = refl
last_stands first (next ∷ more) d = last_stands next more d

pub end_is : (passed : List Row) (row : Row) → 0 < length passed
    → row ≡ get_or passed (length passed - 1) row → row.path ≡ end_of passed
end_is [] row some is = absurd (omega (arith, some))
end_is (first ∷ more) row some is =
    let place : suc (length more) - 1 ≡ length more = omega arith in
    ap (λ (r : Row). r.path) (is ∙ ap (λ n. get_or (first ∷ more) n row) place)
    ∙ sym (ap walk_path (last_stands first more row))

end_push : (first : Option Row) (passed : List Row) (row : Row)
    → walk_path (last_or first (passed ++ row ∷ [])) ≡ row.path
end_push first [] row = refl
end_push first (other ∷ passed) row = end_push (Some other) passed row

end_more : (passed all : List Row) (row : Row) → all ≡ passed ++ row ∷ []
    → end_of all ≡ row.path
end_more passed all row e = ap end_of e ∙ end_push None passed row

-- the row that was asked for by this path is the next one
pub next_to : (rows : List LogRow) (passed asked : List Row) (path : List ℕ)
    {found : Option Row} (next : Option Row) → path ≡ end_of asked → asked ≡ passed → found ≡ next
    → IsNext rows path found → IsNext rows (end_of passed) next
next_to rows passed asked path next at same is so =
    subst (λ p. IsNext rows p next) (at ∙ ap end_of same)
    (subst (λ o. IsNext rows path o) is so)

-- so many rows, each readable
pub record IsPassed (rows : List LogRow) (passed : List Row) : Type 0 where
  pub passes : Passes rows [] passed (end_of passed)
  pub readable : All IsReadable passed

pub passed_none : (rows : List LogRow) → IsPassed rows []
passed_none rows = record { passes = refl; readable = All-nil IsReadable }

module _ (rows : List LogRow) (passed all : List Row) (row : Row)
    (next : IsNext rows (end_of passed) (Some row)) (e : all ≡ passed ++ row ∷ []) where
  pub passed_more : IsPassed rows passed → IsReadable row → IsPassed rows all
  passed_more so_far may = record {
    passes = subst (λ p. Passes rows [] all p) (sym (end_more passed all row e))
        (subst (λ l. Passes rows [] l row.path) (sym e)
        (passes_more rows [] (end_of passed) passed row so_far.passes next));
    readable = subst (All IsReadable) (sym e)
        (All-append IsReadable passed (row ∷ []) so_far.readable
        (All-cons IsReadable row [] may (All-nil IsReadable)));
  }

  pub fewer_left : walking.left_after (end_of all) rows
      < walking.left_after (end_of passed) rows
  fewer_left = subst (λ p. walking.left_after p rows
      < walking.left_after (end_of passed) rows)
      (sym (end_more passed all row e)) (walking.goes_on rows (end_of passed) row next)

pub passed_all : (format : Format) (rows : List LogRow) (passed : List Row)
    → AreRows format rows → IsPassed rows passed → IsNext rows (end_of passed) None
    → IsListing rows passed
passed_all format rows passed are so_far end = nexts_are_listing format rows passed are
    (follow rows [] (end_of passed) passed so_far.passes end)

-- ---- the steps

pub lacks_live : (rows : List LogRow) (p : Publication) (others : List (Option Publication))
    (a : Environment) → Does (reading_live rows (Some p ∷ others)) a a (Err NoMemory)
lacks_live rows p others a =
    record { home = home_refl a; ends = λ l s. inr (reach l (inl (refl, refl)) s) }

-- this listing was found, and then its rows were read so
pub live_does : (rows : List LogRow) (p : Publication) (others : List (Option Publication))
    (listing : List Row) → IsListing rows listing → (old new : Environment)
    (result : Result (List Item) Stop)
    → Does (reading_rows p listing [] none_kept) old new result
    → Does (reading_live rows (Some p ∷ others)) old new result
live_does rows p others listing is old new result d =
    goes_on (find (List Row) (IsListing rows) give) (λ l. reading_rows p l [] none_kept) listing
    (record { home = home_refl old; ends = λ l s. reach l (inr (listing, is, (refl, refl))) s }) d

-- ---- the outfits

reverse_last : {X : Type 0} (xs front : List X) (x : X) → reverse xs ≡ front ++ x ∷ []
    → xs ≡ x ∷ reverse front
reverse_last xs front x e =
    sym (reverse-reverse xs) ∙ ap reverse e ∙ reverse-append front (x ∷ [])

pub first_out : {X : Type 0} (xs turned front : List X) (x : X) → turned ≡ reverse xs
    → turned ≡ front ++ x ∷ [] → xs ≡ x ∷ reverse front
first_out xs turned front x t e = reverse_last xs front x (sym t ∙ e)

pub first_back : {X : Type 0} (back front now : List X) (y : X) → now ≡ front ++ y ∷ []
    → back ≡ reverse now → back ≡ y ∷ reverse front
first_back back front now y e b =
    b ∙ ap reverse e ∙ reverse-append front (y ∷ [])

-- a watch begins with the rows as they were read
abbrev pub IsReadAs : Result (List Item × ℕ) Stop → Result WatchStart Stop → Type 0
IsReadAs made (Ok start) =
    (items : List Item × ℕ) × (made ≡ Ok items) × (start.items.0 ≡ items.0)
IsReadAs made (Err stop) = made ≡ Err stop

module _ {L D : Type 0} (link : L → Link) (step : L → Exchange → L → Type 0)
    (left : D → Option (List ℕ)) (count : D → ℕ) where
  abbrev With : List (Outfit L D) → Environment → Environment
  With outfits a = with_outfits link left count 0 outfits a

  abbrev First : Outfit L D → List L → Environment → Environment
  First first links a = with_first link links (left first.dice) (count first.dice) a

  -- how the live rows were read with these outfits, by what was asked
  abbrev pub ReadsLive : (watched : Bool) → List LogRow → List (Option Publication)
      → (outfits back : List (Outfit L D)) → Result WatchStart Stop → Type 0
  ReadsLive watched rows replicas outfits back result = (es : List Exchange)
      × AsksFirst step es (links_of outfits) (links_of back)
      × ((a : Environment) → Does (watching watched rows replicas) (With outfits a)
      (With back (with_exchanges es a)) (read_in result))
      × IfOk result (λ start. KnowsItems watched es rows replicas start.items.0)

  -- nothing was asked
  none_asks : (outfits : List (Outfit L D)) → 1 ≤ length outfits
      → AsksFirst step [] (links_of outfits) (links_of outfits)
  none_asks [] some = absurd (omega (arith, some))
  none_asks (outfit ∷ rest) some = record {
    old = outfit.links;
    new = outfit.links;
    others = links_of rest;
    olds_are = refl;
    news_are = refl;
    walk = refl;
  }

  none_heard : (watched : Bool) (rows : List LogRow) (replicas : List (Option Publication))
      (outfits : List (Outfit L D)) (result : Result (List Item) Stop)
      → ((a : Environment) → Does (watching watched rows replicas) a a result) → (a : Environment)
      → Does (watching watched rows replicas) (With outfits a)
      (With outfits (with_exchanges [] a)) result
  none_heard watched rows replicas outfits result does a =
      subst (λ b. Does (watching watched rows replicas) (With outfits a) (With outfits b) result)
      (sym (around_none a)) (does (With outfits a))

  -- no one watches
  pub reads_none : (watched : Bool) → watched ≡ false → (rows : List LogRow)
      (replicas : List (Option Publication)) (outfits : List (Outfit L D)) → 1 ≤ length outfits
      → (start : WatchStart) → start.items.0 ≡ []
      → ReadsLive watched rows replicas outfits outfits (Ok start)
  reads_none watched off rows replicas outfits some start none = (
    [],
    none_asks outfits some,
    none_heard watched rows replicas outfits (Ok start.items.0) (λ a.
        subst (λ w. Does (watching w rows replicas) a a (Ok start.items.0)) (sym off)
        (subst (λ items. Does (give []) a a (Ok items)) (sym none) (given [] a))),
    λ on. absurd (let no : true ≡ false = sym on ∙ off in cc),
  )

  -- memory lacked before a row was read
  pub lacks_live_rows : (watched : Bool) → watched ≡ true → (rows : List LogRow)
      (replicas : List (Option Publication)) (p : Publication) → IsFirst p replicas
      → (outfits : List (Outfit L D)) → 1 ≤ length outfits
      → ReadsLive watched rows replicas outfits outfits (Err NoMemory)
  lacks_live_rows watched on rows replicas p (others, is) outfits some = (
    [],
    none_asks outfits some,
    none_heard watched rows replicas outfits (Err NoMemory) (λ a.
        subst (λ w. Does (watching w rows replicas) a a (Err NoMemory)) (sym on)
        (subst (λ rs. Does (reading_live rows rs) a a (Err NoMemory)) (sym is)
        (lacks_live rows p others a))),
    tt,
  )

  module _ (outfits back rest : List (Outfit L D)) (first new : Outfit L D)
      (is : outfits ≡ first ∷ rest) (now : back ≡ new ∷ rest) (same : new.dice ≡ first.dice)
    where
      pub reads_later : AskedOnly link (names_of link first.links) first.links new.links
          → AreLater link count outfits back
      reads_later asked = subst (λ os. AreLater link count os back) (sym is)
          (subst (λ os. AreLater link count (first ∷ rest) os) (sym now)
          (first_later link left count (first ∷ rest) first new (omega arith) refl asked
          (omega (arith, ap count same))))

      module _ (watched : Bool) (on : watched ≡ true) (rows : List LogRow)
          (replicas : List (Option Publication)) (p : Publication) (is_first : IsFirst p replicas)
          (listing : List Row) (lists : IsListing rows listing) where
        abbrev Reading : Steps (List Item)
        Reading = reading_rows p listing [] none_kept

        asks : (es : List Exchange) → Walk (Among step) first.links es new.links
            → AsksFirst step es (links_of outfits) (links_of back)
        asks es walk = subst (λ os. AsksFirst step es (links_of os) (links_of back)) (sym is)
            (subst (λ os. AsksFirst step es (links_of (first ∷ rest)) (links_of os)) (sym now)
            (first_asks link left count step (first ∷ rest) first new es (omega arith) refl walk))

        -- the live rows were read with the first outfit
        reads_out : (es : List Exchange) (result : Result (List Item) Stop)
            → ((b : Environment) → Does Reading (First first first.links b)
            (First first new.links (with_exchanges es b)) result) → (a : Environment)
            → Does (watching watched rows replicas) (With outfits a) (With back (with_exchanges es a))
            result
        reads_out es result d a =
            let steps = reading_live rows (Some p ∷ is_first.0) in
            subst (λ w. Does (watching w rows replicas) (With outfits a)
            (With back (with_exchanges es a)) result) (sym on)
            (subst (λ rs. Does (reading_live rows rs) (With outfits a)
            (With back (with_exchanges es a)) result) (sym is_first.1)
            (subst (λ os. Does steps (With os a) (With back (with_exchanges es a)) result) (sym is)
            (subst (λ os. Does steps (With (first ∷ rest) a) (With os (with_exchanges es a)) result)
            (sym now)
            (live_does rows p is_first.0 listing lists (With (first ∷ rest) a)
            (With (new ∷ rest) (with_exchanges es a)) result
            (heard_first link left count Reading result (first ∷ rest) first new es (omega arith)
            refl (λ b. subst (λ (x : D). Does Reading (First first first.links b)
            (with_first link new.links (left x) (count x) (with_exchanges es b)) result) (sym same)
            (d b)) a)))))

        known : (es : List Exchange) (items : List Item) → AreReadOf es p listing items
            → KnowsItems watched es rows replicas items
        known es items reads is_on = record {
          first = p;
          others = is_first.0;
          replicas_are = is_first.1;
          listing = listing;
          lists = lists;
          reads = reads;
        }

        module _ (made : Result (List Item × ℕ) Stop)
            (talk : Talk (Among step) first.links new.links
            (Leaves link step p listing first.links (left first.dice) (count first.dice) new.links
            made)) where
          reads_ok : (items : List Item × ℕ) → made ≡ Ok items → (start : WatchStart)
              → start.items.0 ≡ items.0 → ReadsLive watched rows replicas outfits back (Ok start)
          reads_ok items e start same_items = (
            talk.steps,
            asks talk.steps talk.walk,
            λ a. subst (λ l. Does (watching watched rows replicas) (With outfits a)
                (With back (with_exchanges talk.steps a)) (Ok l)) (sym same_items)
                (reads_out talk.steps (Ok items.0) (λ b. subst (λ m. Does Reading
                (First first first.links b) (First first new.links (with_exchanges talk.steps b))
                (items_in m)) e (talk.are.0 b)) a),
            known talk.steps start.items.0
                (subst (λ l. AreReadOf talk.steps p listing l) (sym same_items)
                (subst (λ m. IfOk m (λ items. AreReadOf talk.steps p listing items.0)) e
                talk.are.1)),
          )

          reads_err : (stop : Stop) → made ≡ Err stop
              → ReadsLive watched rows replicas outfits back (Err stop)
          reads_err stop e = (
            talk.steps,
            asks talk.steps talk.walk,
            reads_out talk.steps (Err stop) (λ b. subst (λ m. Does Reading
                (First first first.links b) (First first new.links (with_exchanges talk.steps b))
                (items_in m)) e (talk.are.0 b)),
            tt,
          )

          pub reads_so : (result : Result WatchStart Stop) → IsReadAs made result
              → ReadsLive watched rows replicas outfits back result
          reads_so (Ok start) (items, e, same) = reads_ok items e start same
          reads_so (Err stop) e = reads_err stop e

-- what was asked before is among what was asked
pub knows_behind : (watched : Bool) (es fs : List Exchange) (rows : List LogRow)
    (replicas : List (Option Publication)) (items : List Item)
    → KnowsItems watched fs rows replicas items → KnowsItems watched (es ++ fs) rows replicas items
knows_behind watched es fs rows replicas items k on = let f = k on in record {
  first = f.first;
  others = f.others;
  replicas_are = f.replicas_are;
  listing = f.listing;
  lists = f.lists;
  reads = reads_behind es fs f.first f.listing items f.reads;
}

-- a row that keeps the rules of its parts can be read
pub readable : (format : Format) (row : Row) → IsRow format row → IsReadable row
readable format row (path, put) = (path.1, put.1)
