-- Seeds that are made one after another, in the order of their plugins' names.
use Rattle.std.proofs.Common.{◌≡◌, ℕ, zero, suc, ◌≤◌, Bool, true, false, List, [], ◌∷◌, ◌++◌, map, refl, sym, ◌∙◌, ap, subst, arith, Contains, inl, inr, append-nil, append_assoc}
use Rattle.std.specs.Prelude.{◌⊎◌, not, Option, Some, None, Result, Ok, Err}
use Rattle.std.specs.Io.KnownBytes.{Consumes, Keeps}
use Rattle.std.specs.List.Sorted.{IsStrictlySortedBy}
use Rattle.std.proofs.KnownBytes.{Consumes-kept, Consumes-nil, Consumes-trans}
use Rattle.std.proofs.lemmas.List.{map-append}
use Rattle.std.proofs.lemmas.List.Elements.{All-contains, All-nil, All-push, Contains-append_cases, Contains-append_left, Contains-append_right}
use Rattle.kr_config.specs.Kept.{ConfigEntry, plugins_in}
use Rattle.kr_config.specs.Nexts.{IsNextName, name_cmp}
use Rattle.kr_kms.specs.Calls.{Link}
use Rattle.kr_kms.specs.Health.{HasBreach}
use Rattle.kr_kms.specs.Seeds.{DrawsSeed, IsSeedRow, MakesSeed}
use Rattle.kr_kms.specs.declared.health.SeedNo.{SeedNo}
use Rattle.kr_kms.specs.declared.health.SeedNo.TheVariants as seed
use Rattle.kr_kms.specs.declared.seeds.SeedRow.{SeedRow}
use Rattle.kr_provider.specs.AskedLinks.{AskedOnly, HasLinkWith}
use Rattle.kr_provider.specs.Publishing.{AreSeedsOf, EndsAt, EndsWithin, IsHealthy, Publishes, bytes_of_seeds}
use Rattle.kr_provider.specs.declared.refusal.PublishNo.{PublishNo}
use Rattle.kr_provider.specs.declared.refusal.PublishNo.TheVariants.{PluginFailed, DiceFailed, Unhealthy, NoMemory}
use Rattle.kr_provider.specs.Exchanges.{plugin_refusal, IsRefusalAt}
use Rattle.kr_provider.specs.inner.Making.{MakesAt, MakesOne}
use Rattle.kr_provider.proofs.AskedLists.{asked_none, asked_one, asked_then, breach_back, had, has_at, rose_at, rose_from, rose_later}
use Rattle.kr_provider.proofs.NameOrder.{IsStrictlySortedBy-none, ascend_more, before_next, comes_earlier, is_less, neither, none_between, not_itself, then_before, to_false}

-- whether a name doesn't come after another
abbrev pub is_passed : List ℕ → List ℕ → Bool
is_passed after other = not (comes_earlier after other)

passed : (b : Bool) → not b ≡ true → b ≡ false
passed true e = absurd (cc)
passed false e = refl

unpassed : (b : Bool) → b ≡ false → not b ≡ true
unpassed true e = absurd (cc)
unpassed false e = refl

module _ {L : Type 0} (link : L
    → Link) (links : List L) (names : List (List ℕ)) where
  -- none is made yet, and no name is passed
  pub seeds_none : ((name : List ℕ) → Contains names name → comes_earlier [] name ≡ true)
      → AreSeedsOf link links names (is_passed []) []
  seeds_none all = record {
    ascend = IsStrictlySortedBy-none;
    named = λ name. (
      λ c. absurd (omega (arith, c.1)),
      λ c. let t = all name c.0 in
          let f = passed (comes_earlier [] name) c.1 in absurd (cc),
    );
    rows = All-nil IsSeedRow;
    healthy = All-nil (λ row. HasLinkWith link row.name IsHealthy links);
  }

  -- another test that the same names pass
  pub seeds_by : (p q : List ℕ → Bool) (made : List SeedRow)
      → ((name : List ℕ) → Contains names name → p name ≡ true → q name ≡ true)
      → ((name : List ℕ) → Contains names name → q name ≡ true → p name ≡ true)
      → AreSeedsOf link links names p made → AreSeedsOf link links names q made
  seeds_by p q made there back s = record {
    ascend = s.ascend;
    named = λ name. (
      λ c. let n = (s.named name).0 c in (n.0, there name n.0 n.1),
      λ c. (s.named name).1 (c.0, back name c.0 c.1),
    );
    rows = s.rows;
    healthy = s.healthy;
  }

  -- at the next name, the seeds are those of the names before it
  pub seeds_before : (after next : List ℕ) (made : List SeedRow)
      → IsNextName names after (Some next) → AreSeedsOf link links names
      (is_passed after) made → AreSeedsOf link links names
      (λ other. comes_earlier other next) made
  seeds_before after next made n s = seeds_by (is_passed after) (λ other. comes_earlier other next) made
      (λ other c e. before_next after next other n.1 (passed (comes_earlier after other) e))
      (λ other c e. unpassed (comes_earlier after other) (none_between names after next other n c e)) s

  -- where no name is next, they are those of all
  pub seeds_all : (after : List ℕ) (made : List SeedRow) → IsNextName names after None
      → AreSeedsOf link links names (is_passed after) made
      → AreSeedsOf link links names (λ name. true) made
  seeds_all after made n s = seeds_by (is_passed after) (λ name. true) made (λ other c e. refl)
      (λ other c e. unpassed (comes_earlier after other)
      (All-contains (λ x. comes_earlier after x ≡ false) names other n c)) s

  -- the seed of the next joins them
  pub seeds_more : (after next : List ℕ) (made : List SeedRow) (row : SeedRow)
      → IsNextName names after (Some next) → row.name ≡ next → IsSeedRow row
      → HasLinkWith link next IsHealthy links
      → AreSeedsOf link links names (is_passed after) made
      → AreSeedsOf link links names (is_passed next) (made ++ row ∷ [])
  seeds_more after next made row n is keeps healthy s =
      let joined : map (λ r. r.name) (made ++ row ∷ []) ≡ map (λ r. r.name) made ++ next ∷ [] =
      map-append (λ (r : SeedRow). r.name) made (row ∷ [])
      ∙ ap (λ m. map (λ (r : SeedRow). r.name) made ++ m ∷ []) is in
      let before : (other : List ℕ) → Contains (map (λ r. r.name) made) other
      → comes_earlier other next ≡ true =
      λ other c. before_next after next other n.1
      (passed (comes_earlier after other) ((s.named other).0 c).1) in record {
        ascend = subst (IsStrictlySortedBy name_cmp) (sym joined)
            (ascend_more (map (λ r. r.name) made) next s.ascend
            (λ other c. is_less other next (before other c)));
        named = λ other. (
          λ c. elim (Contains-append_cases (map (λ r. r.name) made) (next ∷ []) other
              (subst (λ l. Contains l other) joined c)) [
                | inl d ↦ (
                  ((s.named other).0 d).0,
                  unpassed (comes_earlier next other)
                      (to_false (comes_earlier next other)
                      (λ t. not_itself next (then_before next other next t (before other d)))),
                )
                | inr d ↦ (
                  subst (Contains names) (one next other d) n.0,
                  unpassed
                      (comes_earlier next other) (to_false (comes_earlier next other)
                      (λ t. not_itself next (subst (λ o. comes_earlier next o ≡ true)
                      (sym (one next other d)) t))),
                )
              ],
          λ c. subst (λ l. Contains l other) (sym joined)
              (found other c.0 (passed (comes_earlier next other) c.1) (comes_earlier after other) refl),
        );
        rows = All-push IsSeedRow made row s.rows keeps;
        healthy = All-push (λ r. HasLinkWith link r.name IsHealthy links) made row s.healthy
            (subst (λ m. HasLinkWith link m IsHealthy links) (sym is) healthy);
      }
    where
      one : (x y : List ℕ) → Contains (x ∷ []) y → x ≡ y
      one x y (zero, lt, e) = e
      one x y (suc k, lt, e) = absurd (omega (arith, lt))

      found : (other : List ℕ) → Contains names other → comes_earlier next other ≡ false → (b : Bool)
          → comes_earlier after other ≡ b → Contains (map (λ r. r.name) made ++ next ∷ []) other
      found other c f false e = Contains-append_left (map (λ r. r.name) made) (next ∷ []) other
          ((s.named other).1 (c, unpassed (comes_earlier after other) e))
      found other c f true e =
          let same : next ≡ other = neither next other f
          (to_false (comes_earlier other next)
          (λ t. let g = none_between names after next other n c t in cc)) in
          Contains-append_right (map (λ r. r.name) made) (next ∷ []) other (0, omega arith, same)

-- ---- the bytes that were drawn

pub bytes_more : (made : List SeedRow) (row : SeedRow)
    → bytes_of_seeds (made ++ row ∷ []) ≡ bytes_of_seeds made ++ row.seed
bytes_more [] row = append-nil row.seed
bytes_more (first ∷ made) row = ap (λ l. first.seed ++ l) (bytes_more made row)
    ∙ sym (append_assoc first.seed (bytes_of_seeds made) row.seed)

module _ {L D : Type 0} (link : L → Link) (left : D → Option (List ℕ)) (count : D
    → ℕ) where
  -- how far publishing has come
  pub record ComesTo (rows : List ConfigEntry) (links : List L) (dice : D) (name : List ℕ)
      (made : List SeedRow) (mids : List L) (mid : D) : Type 0 where
    pub seeds : AreSeedsOf link links (plugins_in rows) (is_passed name) made
    pub asked : AskedOnly link (plugins_in rows) links mids
    pub drawn : Consumes (left dice) (left mid) (bytes_of_seeds made)
    pub later : count dice ≤ count mid

  pub begins_at : (rows : List ConfigEntry) (links : List L) (dice : D)
      → ((name : List ℕ) → Contains (plugins_in rows) name → comes_earlier [] name ≡ true)
      → ComesTo rows links dice [] [] links dice
  begins_at rows links dice all = record {
    seeds = seeds_none link links (plugins_in rows) all;
    asked = asked_none link (plugins_in rows) links;
    drawn = Consumes-nil (left dice);
    later = omega arith;
  }

  module _ (rows : List ConfigEntry) (links : List L) (dice : D) (name next : List ℕ) (made : List SeedRow)
      (mids news : List L) (mid after : D) where
    healthy_before : (breach : _) (answer : Result SeedRow SeedNo)
        → ComesTo rows links dice name made mids mid
        → (a : MakesOne link left count next mids mid answer news after)
        → HasBreach (link a.old) breach → HasLinkWith link next (λ l. HasBreach l breach) links
    healthy_before breach answer to a h = had link (plugins_in rows) next
        (λ l. HasBreach l breach) links mids (breach_back breach) to.asked
        (has_at link next (λ old new. MakesSeed left count (link old) mid answer
        (link new) after) mids news (λ l. HasBreach l breach) a h)

    pub goes_on : (row : SeedRow) → IsNextName (plugins_in rows) name (Some next)
        → ComesTo rows links dice name made mids mid → count mid ≤ count after
        → MakesAt link left count next mids mid (Ok row) news after
        → ComesTo rows links dice next (made ++ row ∷ []) news after
    goes_on row n to l a = record {
      seeds = seeds_more link links (plugins_in rows) name next made row n
          (a.asks.1 ∙ a.named) a.asks.2
          (healthy_before None (Ok row) to a a.asks.0) to.seeds;
      asked = asked_then link (plugins_in rows) links mids news to.asked
          (asked_one link next (λ old new. MakesSeed left count (link old) mid (Ok row)
          (link new) after) mids news (plugins_in rows) a n.0);
      drawn = subst (Consumes (left dice) (left after)) (sym (bytes_more made row))
          (Consumes-trans (left dice) (left mid) (left after)
          (bytes_of_seeds made) row.seed to.drawn a.asks.3);
      later = omega (arith, to.later, l);
    }

    ends_at : (drawn : List ℕ) → IsNextName (plugins_in rows) name (Some next)
        → ComesTo rows links dice name made mids mid → Consumes (left mid) (left after) drawn
        → EndsAt link left count rows links dice after next drawn
    ends_at drawn n to c = record {
      there = n.0;
      made = made;
      seeds = seeds_before link links (plugins_in rows) name next made n to.seeds;
      draws = Consumes-trans (left dice) (left mid) (left after)
          (bytes_of_seeds made) drawn to.drawn c;
    }

    undrawn : after ≡ mid → Consumes (left mid) (left after) []
    undrawn e = subst (λ d. Consumes (left mid) (left d) []) (sym e) (Consumes-nil (left mid))

    -- where the next plugin ended it, whatever that answered
    within_by : (answer : Result SeedRow SeedNo) → IsNextName (plugins_in rows) name (Some next)
        → ComesTo rows links dice name made mids mid
        → (a : MakesOne link left count next mids mid answer news after)
        → (after ≡ mid) ⊎ (HasBreach (link a.old) None × DrawsSeed left count mid after)
        → EndsWithin link left count rows links dice after next
    within_by answer n to a (inl e) = inl (ends_at [] n to (undrawn e))
    within_by answer n to a (inr d) = inr (
      d.1.0,
      d.1.1,
      ends_at d.1.0 n to d.1.2,
      healthy_before None answer to a d.0,
    )

    still : Keeps (left mid) (left after) → Consumes (left mid) (left after) []
    still k = Consumes-kept (left mid) (left mid) (left after) [] (Consumes-nil (left mid)) k

    pub within : (answer : Result SeedRow SeedNo) → IsNextName (plugins_in rows) name (Some next)
        → ComesTo rows links dice name made mids mid
        → MakesOne link left count next mids mid answer news after
        → EndsWithin link left count rows links dice after next
    within (Ok row) n to a =
        within_by (Ok row) n to a (inr (a.asks.0, (row.seed, a.asks.2.seed, a.asks.3, a.asks.4)))
    within (Err seed.Failed) n to a = within_by (Err seed.Failed) n to a a.asks.1
    within (Err seed.DiceFailed) n to a = inl (ends_at [] n to (still a.asks.2))
    within (Err (seed.Unhealthy field text)) n to a = inl (ends_at [] n to (undrawn a.asks.1))
    within (Err seed.NoMemory) n to a = within_by (Err seed.NoMemory) n to a a.asks

    pub ends : (why : PublishNo) → IsNextName (plugins_in rows) name (Some next)
        → ComesTo rows links dice name made mids mid
        → MakesAt link left count next mids mid (Err why) news after
        → Publishes link left count rows links dice (Err why) news after
    ends (PluginFailed other) n to (is, a) =
        let rose = rose_later link (plugins_in rows) next links mids news to.asked
        (rose_at link next (λ old new. MakesSeed left count (link old) mid
        (Err seed.Failed) (link new) after) mids news a a.asks.0) in
        subst (λ m. Publishes link left count rows links dice
        (Err (PluginFailed m)) news after) (sym is) (rose, within (Err seed.Failed) n to a)
    ends DiceFailed n to a = (
      next,
      ends_at [] n to (still a.asks.2),
      healthy_before None (Err seed.DiceFailed) to a a.asks.0,
      rose_from (count dice) (count mid) (count after) to.later a.asks.1,
    )
    ends (Unhealthy other field text) n to (is, a) =
        subst (λ m. Publishes link left count rows links dice
        (Err (Unhealthy m field text)) news after) (sym is) (
          ends_at [] n to (undrawn a.asks.1),
          healthy_before (Some (field, text)) (Err (seed.Unhealthy field text)) to a a.asks.0,
        )
    ends NoMemory n to (inl a) = (next, within (Err seed.NoMemory) n to a)
    ends NoMemory n to (inr unasked) = (next, inl (ends_at [] n to (undrawn unasked.1)))

    -- every answer asked the next plugin alone
    pub asked_next : (answer : Result SeedRow PublishNo)
        → IsNextName (plugins_in rows) name (Some next) → ComesTo rows links dice name made mids mid
        → MakesAt link left count next mids mid answer news after
        → AskedOnly link (plugins_in rows) links news
    asked_next answer n to a = asked_then link (plugins_in rows) links mids news to.asked
        (by answer a)
      where
        one : (r : Result SeedRow SeedNo) → MakesOne link left count next mids mid r news
            after → AskedOnly link (plugins_in rows) mids news
        one r a = asked_one link next (λ old new.
            MakesSeed left count (link old) mid r (link new) after) mids news
            (plugins_in rows) a n.0

        by : (answer : Result SeedRow PublishNo)
            → MakesAt link left count next mids mid answer news after
            → AskedOnly link (plugins_in rows) mids news
        by (Ok row) a = one (Ok row) a
        by (Err (PluginFailed other)) a = one (Err seed.Failed) a.1
        by (Err DiceFailed) a = one (Err seed.DiceFailed) a
        by (Err (Unhealthy other field text)) a = one (Err (seed.Unhealthy field text)) a.1
        by (Err NoMemory) (inl a) = one (Err seed.NoMemory) a
        by (Err NoMemory) (inr unasked) = subst (λ l. AskedOnly link (plugins_in rows) mids l)
            (sym unasked.0) (asked_none link (plugins_in rows) mids)

  -- all are made where no plugin is next
  pub all_made : (rows : List ConfigEntry) (links : List L) (dice : D) (name : List ℕ) (made : List SeedRow)
      (news : List L) (after : D) → IsNextName (plugins_in rows) name None
      → ComesTo rows links dice name made news after
      → Publishes link left count rows links dice
      (Ok (record { rows = rows; seeds = made })) news after
  all_made rows links dice name made news after n to =
      (refl, seeds_all link links (plugins_in rows) name made n to.seeds, to.drawn)

  -- the answer of one plugin, with its name where it refuses
  pub answers_at : (name : List ℕ) (links : List L) (dice : D) (why : SeedNo) (refusal : PublishNo)
      (news : List L) (after : D) → IsRefusalAt name why refusal
      → MakesOne link left count name links dice (Err why) news after
      → MakesAt link left count name links dice (Err refusal) news after
  answers_at name links dice why refusal news after told a =
      subst (λ r. MakesAt link left count name links dice (Err r) news after) (sym told) (by why a)
    where
      by : (why : SeedNo) → MakesOne link left count name links dice (Err why) news after
          → MakesAt link left count name links dice (Err (plugin_refusal name why)) news after
      by seed.Failed a = (refl, a)
      by seed.DiceFailed a = a
      by (seed.Unhealthy field text) a = (refl, a)
      by seed.NoMemory a = inl a
