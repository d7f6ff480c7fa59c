-- The items of an opening's live rows are what is shown of the opening.
use Rattle.std.proofs.Common.{◌≡◌, ℕ, zero, suc, ◌<◌, Bool, true, false, List, [], ◌∷◌, length, get_or, map, Option, None, Some, refl, sym, ◌∙◌, ap, subst, arith, Contains}
use Rattle.std.specs.Prelude.{All, if◌then◌else◌}
use Rattle.std.specs.List.{AllByRecursion}
use Rattle.std.specs.Option.{option_and_then}
use Rattle.std.specs.List.Sorted.{IsStrictlySortedBy}
use Rattle.std.specs.Cmp.Lexicographic.{slice_cmp}
use Rattle.std.specs.Ordering.{nat_cmp}
use Rattle.std.specs.Str.{bytes_eq}
use Rattle.std.specs.declared.cmp.Ordering.TheVariants.{Less}
use Rattle.std.proofs.lemmas.List.Elements.{All-head, All-tail}
use Rattle.std.proofs.lemmas.Option.{same_Some}
use Rattle.kr_config.specs.Lists.{list_of}
use Rattle.kr_kms.specs.Exchanges.{AgreeAll, Exchange}
use Rattle.kr_kms.specs.Opens.{OpenAll, Opens}
use Rattle.kr_provider.specs.Publication.{Publication, list_at, names_plugin}
use Rattle.kr_provider.specs.Reading.{HasReading, Reading}
use Rattle.kr_provider.proofs.WithoutPlugins.{none_listed}
use Rattle.kr_store.specs.Rows.{live}
use Rattle.kr_store.specs.Stores.{IsListing}
use Rattle.kr_store.specs.declared.rows.LogRow.{LogRow}
use Rattle.kr_store.specs.declared.rows.Row.{Row}
use Rattle.kr_store.proofs.Places.{live_at_revision}
use Rattle.kr_opening.specs.Replicas.{first_rows, settings_of}
use Rattle.kr_rollout.specs.Openings.{first_of}
use Rattle.kr_rollout.specs.declared.opening.Opening.{Opening}
use Rattle.kr_history.specs.Contents.{IsContent, OpeningContent}
use Rattle.kr_history.proofs.WithoutPlugin.{some_reads}
use Rattle.kr_watch.specs.Laws.{AreApart, AreLiveItems}
use Rattle.kr_watch.specs.Shown.{AreInOrder, IsItemFor, IsShown, item_at, plain_at, plain_in}
use Rattle.kr_watch.specs.declared.item.Item.{Item}
use Rattle.kr_watch.proofs.Orders.{IsBelow, Rise, below_itself, equal_paths, path_cmp, rise, same_path}
use Rattle.kr_cmd_fleet.specs.inner.Readings.{AreFirstItems, AreReadOf, IsReadOf}

-- ---- order

at_place : (P : Item → Type 0) (items : List Item) → AllByRecursion P items → (j : ℕ) (d : Item)
    → j < length items → P (get_or items j d)
at_place P [] h j d below = absurd (omega (arith, below))
at_place P (x ∷ items) h zero d below = h.0
at_place P (x ∷ items) h (suc j) d below = at_place P items h.1 j d (omega (arith, below))

rise_apart : (items : List Item) → Rise items → AreApart items
rise_apart [] r i j d before below = absurd (omega (arith, below))
rise_apart (x ∷ items) r zero (suc j) d before below = λ same.
    let l = at_place (IsBelow x) items r.0 j d (omega (arith, below)) in
    below_itself x.path (subst (λ p. path_cmp x.path p ≡ Less) (sym same) l)
rise_apart (x ∷ items) r (suc i) (suc j) d before below =
    rise_apart items r.1 i j d (omega (arith, before)) (omega (arith, below))
rise_apart (x ∷ items) r other zero d before below = absurd (omega (arith, before))

-- ---- the items

abbrev own_item : Bool → Item → Option Item → Option Item
own_item b item others = if b then Some item else others

module _ (es : List Exchange) (p : Publication) where
  paths_are : (listing : List Row) (items : List Item) → AreReadOf es p listing items
      → map (λ (row : Row). row.path) listing ≡ map (λ (item : Item). item.path) items
  paths_are [] [] r = refl
  paths_are (row ∷ listing) (item ∷ items) r =
      let own : row.path ≡ item.path = sym (ap (λ (i : Item). i.path) r.0.item_is) in
      let others = paths_are listing items r.1 in
      λ i. own i ∷ others i
  paths_are other another r = absurd r

  module _ (rows : List LogRow) where
    -- where nothing lives there is no item
    none_at : (listing : List Row) (items : List Item) → AreReadOf es p listing items
        → All (λ row. live rows row.path ≡ Some row) listing → (path : List ℕ)
        → live rows path ≡ None → item_at items path ≡ None
    none_at [] [] r all path none = refl
    none_at (row ∷ listing) (item ∷ items) r all path none =
        by (bytes_eq item.path path) refl
        (none_at listing items r.1
        (All-tail (λ row. live rows row.path ≡ Some row) row listing all) path none)
      where
        by : (b : Bool) → bytes_eq item.path path ≡ b → item_at items path ≡ None
            → own_item b item (item_at items path) ≡ None
        by true e again = absurd (
            let own : row.path ≡ path = sym (ap (λ (i : Item). i.path) r.0.item_is)
            ∙ same_path item.path path e in
            let lives = All-head (λ row. live rows row.path ≡ Some row) row listing all in
            let x : None ≡ Some row = sym none ∙ ap (live rows) (sym own) ∙ lives in cc)
        by false e again = again
    none_at other another r all path none = absurd r

    -- the item of a row
    pub record HasItem (items : List Item) (row : Row) : Type 0 where
      pub item : Item
      pub is : item_at items row.path ≡ Some item
      pub reads : IsReadOf es p row item

    item_of : (listing : List Row) (items : List Item) → AreReadOf es p listing items
        → All (λ row. live rows row.path ≡ Some row) listing → (row : Row)
        → live rows row.path ≡ Some row → Contains listing row → HasItem items row
    item_of [] items r all row lives (k, below, is) = absurd (omega (arith, below))
    item_of (first ∷ listing) [] r all row lives c = absurd r
    item_of (first ∷ listing) (item ∷ items) r all row lives c =
        by (bytes_eq item.path row.path) refl c
        (λ d. item_of listing items r.1
        (All-tail (λ row. live rows row.path ≡ Some row) first listing all) row lives d)
      where
        first_lives : live rows first.path ≡ Some first
        first_lives = All-head (λ row. live rows row.path ≡ Some row) first listing all

        own : first.path ≡ item.path
        own = sym (ap (λ (i : Item). i.path) r.0.item_is)

        here : first ≡ row → bytes_eq item.path row.path ≡ true
        here e = equal_paths item.path row.path (sym own ∙ ap (λ (x : Row). x.path) e)

        by : (b : Bool) → bytes_eq item.path row.path ≡ b → Contains (first ∷ listing) row
            → (Contains listing row → HasItem items row) → HasItem (item ∷ items) row
        by true e c again =
            let at : first.path ≡ row.path = own ∙ same_path item.path row.path e in
            let same : first ≡ row = same_Some first row
            (sym first_lives ∙ ap (live rows) at ∙ lives) in
            record {
              item = item;
              is = ap (λ b. own_item b item (item_at items row.path)) e;
              reads = subst (λ x. IsReadOf es p x item) same r.0;
            }
        by false e (zero, below, is) again = absurd (
            let x : true ≡ false = sym (here is) ∙ e in cc)
        by false e (suc k, below, is) again =
            let rest = again (k, omega (arith, below), is) in
            record {
              item = rest.item;
              is = ap (λ b. own_item b item (item_at items row.path)) e ∙ rest.is;
              reads = rest.reads;
            }

  -- ---- all live rows

  module _ (o : Opening) (listing : List Row) (lists : IsListing o.rows listing)
      (items : List Item) (reads : AreReadOf es p listing items) where
    in_order : AreInOrder items
    in_order = subst (IsStrictlySortedBy (slice_cmp nat_cmp)) (paths_are listing items reads)
        lists.sorted

    at_row : (path : List ℕ) (row : Row) → live o.rows path ≡ Some row
        → (row.path ≡ path) × HasItem o.rows items row
    at_row path row e =
        let same : row.path ≡ path = (live_at_revision o.rows path row e).1 in (
          same,
          item_of o.rows listing items reads lists.are_live row
              (subst (λ q. live o.rows q ≡ Some row) (sym same) e) (lists.whole path row e),
        )

    plain_of : (path : List ℕ) (row : Row) → (has : HasItem o.rows items row) → row.path ≡ path
        → plain_at items path ≡ has.item.plain
    plain_of path row has same =
        ap (λ q. plain_at items q) (sym same)
        ∙ ap (option_and_then (λ (i : Item). i.plain)) has.is

    item_for : (path : List ℕ) (row : Row) → (has : HasItem o.rows items row) → row.path ≡ path
        → (plain : Option (List ℕ)) → plain ≡ has.item.plain
        → IsItemFor path (Some row) plain (item_at items path)
    item_for path row has same plain e =
        ap (λ q. item_at items q) (sym same) ∙ has.is
        ∙ ap (λ i. Some i) (has.reads.item_is
        ∙ (λ i. record {
          path = same i;
          resource = row.resource;
          revision = row.revision;
          plain = (sym (ap (λ (x : Item). x.plain) has.reads.item_is) ∙ sym e) i;
        }))

    pub live_items : AreLiveItems o items
    live_items = record {
      apart = rise_apart items (rise items in_order);
      each = λ path. by path (live o.rows path) refl;
    }
      where
        by : (path : List ℕ) (found : Option Row) → live o.rows path ≡ found
            → IsItemFor path found (plain_at items path) (item_at items path)
        by path None e = none_at o.rows listing items reads lists.are_live path e
        by path (Some row) e =
            let at = at_row path row e in
            item_for path row at.1 at.0 (plain_at items path) (plain_of path row at.1 at.0)

    -- where their readings are those by these openings, they are what is shown
    pub shown_by : (opens : Opens) → first_of o ≡ p.rows
        → ((row : Row) (item : Item) → (r : IsReadOf es p row item)
        → HasReading opens (list_at p row.resource) row.path row.stored r.reading)
        → IsShown opens o [] items
    shown_by opens first reads_so = record {
      in_order = in_order;
      each = λ path. by path (live o.rows path) refl;
    }
      where
        Shows : (path : List ℕ) → Option Row → Type 0
        Shows path found = (content : Option Reading)
            × OpeningContent opens (first_of o) path found content
            × IsItemFor path found (plain_in content) (item_at items path)

        by : (path : List ℕ) (found : Option Row) → live o.rows path ≡ found
            → (content : Option Reading) × IsContent opens o [] path content
            × IsItemFor path (live o.rows path) (plain_in content) (item_at items path)
        by path None e = subst (Shows path) (sym e)
            (None, refl, none_at o.rows listing items reads lists.are_live path e)
        by path (Some row) e =
            let at = at_row path row e in
            let r = at.1.reads in
            let reading = r.reading in
            subst (Shows path) (sym e) (
              Some reading,
              (
                reading,
                subst (λ rows. HasReading opens (list_of rows row.resource) path row.stored
                    reading) (sym first)
                    (subst (λ q. HasReading opens (list_at p row.resource) q row.stored reading)
                    at.0 (reads_so row at.1.item r)),
                refl,
              ),
              item_for path row at.1 at.0 (plain_in (Some reading))
                  (sym (ap (λ (x : Item). x.plain) r.item_is)),
            )

-- ---- of a fleet

first_is : (o : Opening) (p : Publication) (others : List (Option Publication))
    → o.replicas ≡ Some p ∷ others → first_of o ≡ p.rows
first_is o p others e = ap (λ replicas. first_rows (settings_of replicas)) e

module _ (es : List Exchange) (o : Opening) (items : List Item)
    (f : AreFirstItems es o.rows o.replicas items) where
  pub first_live : AreLiveItems o items
  first_live = live_items es f.first o f.listing f.lists items f.reads

  pub first_agreed : (opens : Opens) → AgreeAll opens es → OpenAll opens f.first.seeds
      → IsShown opens o [] items
  first_agreed opens agree all = shown_by es f.first o f.listing f.lists items f.reads opens
      (first_is o f.first f.others f.replicas_are)
      (λ row item r. r.agreed opens agree all)

  pub first_bare : names_plugin f.first.rows ≡ false → (any : Opens) → IsShown any o [] items
  first_bare none any = shown_by es f.first o f.listing f.lists items f.reads any
      (first_is o f.first f.others f.replicas_are)
      (λ row item r. some_reads any (list_at f.first row.resource) row.path row.stored r.reading
      (none_listed f.first.rows row.resource none) r.some)
