-- No object is named as failed more often than its count rose.
use Rattle.std.specs.Prelude.{cond, is_some}
use Rattle.std.specs.List.{AllByRecursion, IsDistinct, filter, slice_get}
use Rattle.std.specs.Str.{bytes_eq}
use Rattle.std.proofs.Common.{◌≡◌, ◌==◌, ℕ, zero, suc, ◌<◌, ◌≤◌, ◌+◌, ◌-◌, ◌^◌, Bool, true, false, List, [], ◌∷◌, ◌++◌, count_by, Contains, Option, Some, inl, inr, refl, ap, sym, subst, ◌∙◌, arith}
use Rattle.std.proofs.lemmas.Bool.{eq-eqb, false≢true}
use Rattle.std.proofs.lemmas.List.{append_assoc, append_cancel_left}
use Rattle.std.proofs.lemmas.List.Elements.{filter-append}
use Rattle.std.proofs.lemmas.List.Sums.{sum_by-append, sum_by-cons}
use Rattle.std.proofs.lemmas.Option.{same_Some}
use Rattle.std.proofs.lemmas.Slice.Eq.{bytes_eq-Decides}
use Rattle.kr_base.specs.Faults.{Rose}
use Rattle.kr_base.specs.Lines.{of_seat}
use Rattle.kr_kms.specs.Calls.{IsSameLink, Link}
use Rattle.kr_kms.specs.Exchanges.{Exchange}
use Rattle.kr_provider.specs.AskedLinks.{AskedOnly, FaultRose}
use Rattle.kr_provider.specs.BenchState.{BenchState}
use Rattle.kr_provider.specs.Names.{AreDistinct, names_of}
use Rattle.kr_provider.proofs.AskedLists.{distinct_stay}
use Rattle.kr_rollout.specs.declared.opening.Entry.{Entry}
use Rattle.kr_history.specs.Acting.{Caller}
use Rattle.kr_rollout.specs.Entries.{seat_of}
use Rattle.kr_history.specs.Parts.{Adds}
use Rattle.kr_script.specs.declared.script.Part.{Part}
use Rattle.kr_script.specs.declared.script.ScriptLine.{ScriptLine}
use Rattle.kr_script.specs.declared.told.Told.{Told}
use Rattle.kr_script.specs.declared.told.Told.TheVariants as told
use Rattle.kr_workers.specs.declared.files.SettingsFile.{SettingsFile}
use Rattle.kr_workers.specs.Causes.{AreCounted, CountsFaults, StoreFails, has_store_failed, is_failed, names_dice, tells_plugin, names_store}
use Rattle.kr_workers.specs.Histories.{StandsIn}
use Rattle.kr_workers.specs.Runs.{DoesAll, LineDone, entries_in, replies_in}
use Rattle.kr_workers.specs.ScriptLines.{Workplace}
use Rattle.kr_workers.proofs.Causing.{HasCauseAt}
use Rattle.kr_workers.proofs.CausingRewrites.{line_caused}
use Rattle.kr_workers.proofs.DrawnJust.{all_drawn}

-- ---- links to different plugins

there : {X : Type 0} (xs : List X) (at : ℕ) (x : X) → slice_get xs at ≡ Some x → Contains xs x
there [] at x is = absurd (false≢true (ap is_some is))
there (y ∷ xs) zero x is = (0, omega arith, same_Some y x is)
there (y ∷ xs) (suc at) x is =
    let c = there xs at x is in (suc c.0, omega (arith, c.1), c.2)

module _ {L : Type 0} (link : L → Link) where
  none_named : (name : List ℕ) (xs : List L)
      → AllByRecursion (λ n. bytes_eq name n ≡ false) (names_of link xs) → (x : L)
      → Contains xs x → name ≡ (link x).name → ⊥
  none_named name [] a x c e = absurd (omega (arith, c.1))
  none_named name (y ∷ xs) a x (zero, l, is) e = absurd (false≢true (sym a.0
      ∙ (bytes_eq-Decides name (link y).name).1 (e ∙ ap (λ z. (link z).name) (sym is))))
  none_named name (y ∷ xs) a x (suc k, l, is) e =
      none_named name xs a.1 x (k, omega (arith, l), is) e

  -- the link of a name is one alone
  one_named : (xs : List L) → AreDistinct link xs → (a x : L) (at : ℕ) → Contains xs a
      → slice_get xs at ≡ Some x → (link a).name ≡ (link x).name → a ≡ x
  unfolding IsDistinct
  one_named [] d a x at c is e = absurd (omega (arith, c.1))
  one_named (y ∷ xs) d a x zero (zero, l, same) is e = sym same ∙ same_Some y x is
  one_named (y ∷ xs) d a x zero (suc k, l, same) is e =
      absurd (none_named (link y).name xs d.0 a (k, omega (arith, l), same)
      (ap (λ z. (link z).name) (same_Some y x is) ∙ sym e))
  one_named (y ∷ xs) d a x (suc at) (zero, l, same) is e =
      absurd (none_named (link y).name xs d.0 x (there xs at x is)
      (ap (λ z. (link z).name) same ∙ e))
  one_named (y ∷ xs) d a x (suc at) (suc k, l, same) is e =
      one_named xs d.1 a x at (k, omega (arith, l), same) is e

  -- at its place it stays the same link
  still_there : (names : List (List ℕ)) (xs ys : List L) (x : L) (at : ℕ)
      → AskedOnly link names xs ys → slice_get xs at ≡ Some x
      → (y : L) × (slice_get ys at ≡ Some y) × IsSameLink (link x) (link y)
  still_there names [] ys x at a is = absurd (false≢true (ap is_some is))
  still_there names (z ∷ xs) [] x at a is = absurd a
  still_there names (z ∷ xs) (y ∷ ys) x zero a is =
      (y, refl, subst (λ v. IsSameLink (link v) (link y)) (same_Some z x is) a.0)
  still_there names (z ∷ xs) (y ∷ ys) x (suc at) a is = still_there names xs ys x at a.2 is

  -- the count that rose is that of the link at the place
  rose_there : (names : List (List ℕ)) (xs ys : List L) (x y : L) (at : ℕ)
      → AskedOnly link names xs ys → AreDistinct link xs → slice_get xs at ≡ Some x
      → slice_get ys at ≡ Some y → IsSameLink (link x) (link y)
      → FaultRose link (link x).name xs ys → Rose (link x).count (link y).count
  rose_there names xs ys x y at a d x_is y_is same f =
      let old_is : f.old ≡ x = one_named xs d f.old x at f.old_there x_is f.old_named in
      let new_is : f.new ≡ y = one_named ys (distinct_stay link names xs ys a d) f.new y at
      f.new_there y_is (f.new_named ∙ sym same.name) in
      subst (λ v. Rose (link v).count (link y).count) old_is
      (subst (λ v. Rose (link f.old).count (link v).count) new_is f.rose)

-- ---- one reply more

by_rose : (rest a b c : ℕ) → Rose a b → b + rest ≤ c → c < 2 ^ 64 - 1 → a + (1 + rest) ≤ c
by_rose rest a b c (inl r) l s = omega (arith, r, l)
by_rose rest a b c (inr r) l s = absurd (omega (arith, r.1, l, s))

counts_more : (names : Bool) (rest a b c : ℕ) → (names ≡ true → Rose a b) → a ≤ b
    → CountsFaults rest b c → CountsFaults (cond names 1 0 + rest) a c
counts_more true rest a b c rose l h = λ small. by_rose rest a b c (rose refl) (h small) small
counts_more false rest a b c rose l h = λ small. let e = h small in omega (arith, l, e)

module _ {L D : Type 0} (link : L → Link) (count : D → ℕ) (asked : ScriptLine)
    (old new : Workplace L D) where
  dice_rose : (reply : Told) → HasCauseAt link count asked old reply new
      → names_dice reply ≡ true → Rose (count old.dice) (count new.dice)
  dice_rose (told.FaultDice seat) h e = h.2
  dice_rose other h e = absurd (false≢true e)

  plugin_rose : (name : List ℕ) (reply : Told) → HasCauseAt link count asked old reply new
      → tells_plugin name reply ≡ true → FaultRose link name old.links new.links
  plugin_rose name (told.FaultPlugin other) h e =
      subst (λ n. FaultRose link n old.links new.links) ((bytes_eq-Decides other name).0 e) h.1
  plugin_rose name other h e = absurd (false≢true e)

  store_fails : (reply : Told) → HasCauseAt link count asked old reply new
      → names_store reply ≡ true → StoreFails old.caller new.caller.seen
  store_fails told.FaultStore h e = h.1
  store_fails other h e = absurd (false≢true e)

-- ---- entries that say that the store failed

-- of a part, where a line's reply names the store
failed_in : (old new : Caller) (part : List Entry) → Adds old part new
    → StoreFails old new.seen → 1 ≤ count_by has_store_failed part
failed_in old new part a f =
    let own : Entry → Bool = λ e. seat_of e == old.seat in
    let more_is : a.more ≡ f.before ++ f.entry ∷ f.behind =
    append_cancel_left old.seen a.more (f.before ++ f.entry ∷ f.behind)
    (sym (ap (λ (c : Caller). c.seen) a.new_is) ∙ f.there
    ∙ append_assoc old.seen f.before (f.entry ∷ f.behind)) in
    let here : filter own (f.entry ∷ f.behind) ≡ f.entry ∷ filter own f.behind =
    ap (λ b. cond b (f.entry ∷ filter own f.behind) (filter own f.behind))
    (eq-eqb f.entry.line.seat old.seat f.own) in
    let part_is : part ≡ filter own f.before ++ f.entry ∷ filter own f.behind =
    sym a.own ∙ ap (filter own) more_is ∙ filter-append own f.before (f.entry ∷ f.behind)
    ∙ ap (λ l. filter own f.before ++ l) here in
    let whole : count_by has_store_failed part ≡ count_by has_store_failed (filter own f.before)
    + count_by has_store_failed (f.entry ∷ filter own f.behind) = ap (count_by has_store_failed) part_is
    ∙ sum_by-append (λ (e : Entry). cond (has_store_failed e) 1 0) (filter own f.before)
    (f.entry ∷ filter own f.behind) in
    let first : count_by has_store_failed (f.entry ∷ filter own f.behind)
    ≡ cond (has_store_failed f.entry) 1 0 + count_by has_store_failed (filter own f.behind) =
    sum_by-cons (λ (e : Entry). cond (has_store_failed e) 1 0) f.entry (filter own f.behind) in
    let failed : cond (has_store_failed f.entry) 1 0 ≡ 1 =
    ap {B = ℕ} (λ g. cond (is_failed g) 1 0) f.says in
    omega (arith, whole, first, failed)

stores_more : (names : Bool) (rest part more : ℕ) → (names ≡ true → 1 ≤ part) → rest ≤ more
    → cond names 1 0 + rest ≤ part + more
stores_more true rest part more named l = let e = named refl in omega (arith, e, l)
stores_more false rest part more named l = omega (arith, l)

-- ---- all replies of a run

module _ {L D : Type 0} (link : L → Link) (step : L → Exchange → L → Type 0) (left : D → Option (List ℕ))
    (count : D → ℕ) (files : List SettingsFile) (replica : ℕ) where
  dice_counted : (first : Workplace L D) (run : List LineDone) (last : Workplace L D)
      → DoesAll link step left count files replica first run last
      → CountsFaults (count_by names_dice (replies_in run)) (count first.dice) (count last.dice)
  dice_counted first [] last same = λ small.
      omega (arith, ap (λ (w : Workplace L D). count w.dice) same)
  dice_counted first (done ∷ run) last all =
      let next : Workplace L D = all.0 in
      subst (λ n. CountsFaults n (count first.dice) (count last.dice))
      (sym (sum_by-cons (λ (t : Told). cond (names_dice t) 1 0) done.reply (replies_in run)))
      (counts_more (names_dice done.reply) (count_by names_dice (replies_in run))
      (count first.dice) (count next.dice) (count last.dice)
      (dice_rose link count done.line first next done.reply
      (line_caused link left count files replica done.line first next done.reply
      all.1.does)) all.1.later (dice_counted next run last all.2))

  stores_counted : (first : Workplace L D) (run : List LineDone) (last : Workplace L D)
      → DoesAll link step left count files replica first run last
      → count_by names_store (replies_in run) ≤ count_by has_store_failed (entries_in run)
  stores_counted first [] last same = omega arith
  stores_counted first (done ∷ run) last all =
      let next : Workplace L D = all.0 in
      let named : names_store done.reply ≡ true → 1 ≤ count_by has_store_failed done.part =
      λ is. failed_in first.caller next.caller done.part all.1.adds
      (store_fails link count done.line first next done.reply
      (line_caused link left count files replica done.line first next done.reply
      all.1.does) is) in
      let most : cond (names_store done.reply) 1 0 + count_by names_store (replies_in run)
      ≤ count_by has_store_failed done.part + count_by has_store_failed (entries_in run) =
      stores_more (names_store done.reply) (count_by names_store (replies_in run))
      (count_by has_store_failed done.part) (count_by has_store_failed (entries_in run)) named
      (stores_counted next run last all.2) in
      let more_told : count_by names_store (done.reply ∷ replies_in run)
      ≡ cond (names_store done.reply) 1 0 + count_by names_store (replies_in run) =
      sum_by-cons (λ (t : Told). cond (names_store t) 1 0) done.reply (replies_in run) in
      let added : count_by has_store_failed (done.part ++ entries_in run)
      ≡ count_by has_store_failed done.part + count_by has_store_failed (entries_in run) =
      sum_by-append (λ (e : Entry). cond (has_store_failed e) 1 0) done.part (entries_in run) in
      let all_told : count_by names_store (done.reply ∷ replies_in run)
      ≤ count_by has_store_failed (done.part ++ entries_in run) =
      omega (arith, most, more_told, added) in
      all_told

  plugins_counted : (first : Workplace L D) (run : List LineDone) (last : Workplace L D)
      → DoesAll link step left count files replica first run last → AreDistinct link first.links
      → (at : ℕ) (it now : L) → slice_get first.links at ≡ Some it
      → slice_get last.links at ≡ Some now
      → CountsFaults (count_by (tells_plugin (link it).name) (replies_in run)) (link it).count
      (link now).count
  plugins_counted first [] last same d at it now it_is now_is = λ small.
      let e : it ≡ now = same_Some it now (sym it_is
      ∙ ap (λ (w : Workplace L D). slice_get w.links at) (sym same) ∙ now_is) in
      omega (arith, ap (λ v. (link v).count) e)
  plugins_counted first (done ∷ run) last all d at it now it_is now_is =
      let next : Workplace L D = all.0 in
      let names = names_of link first.links in
      let m = still_there link names first.links next.links it at all.1.asked_only it_is in
      let rest : CountsFaults (count_by (tells_plugin (link it).name) (replies_in run))
      (link m.0).count (link now).count =
      subst (λ n. CountsFaults (count_by (tells_plugin n) (replies_in run)) (link m.0).count
      (link now).count) m.2.name
      (plugins_counted next run last all.2
      (distinct_stay link names first.links next.links all.1.asked_only d) at m.0 now m.1 now_is) in
      subst (λ n. CountsFaults n (link it).count (link now).count)
      (sym (sum_by-cons (λ (t : Told). cond (tells_plugin (link it).name t) 1 0) done.reply
      (replies_in run)))
      (counts_more (tells_plugin (link it).name done.reply)
      (count_by (tells_plugin (link it).name) (replies_in run)) (link it).count (link m.0).count
      (link now).count
      (λ is. rose_there link names first.links next.links it m.0 at all.1.asked_only d it_is m.1 m.2
      (plugin_rose link count done.line first next (link it).name done.reply
      (line_caused link left count files replica done.line first next done.reply
      all.1.does) is)) m.2.later rest)

pub often_caused : {L D : Type 0} → (link : L → Link) (step : L → Exchange → L → Type 0)
    (left : D → Option (List ℕ)) (count : D → ℕ) (files : List SettingsFile)
    (history : List Entry) (part : Part) (first : Workplace L D) (replies : List Told)
    (after : BenchState L D)
    → (stands : StandsIn link step left count files history part first replies after)
    → AreCounted link count replies (of_seat seat_of first.caller.seat history) first.links
    first.dice after.links after.dice
often_caused {L} {D} link step left count files history part first replies after stands =
    let its = of_seat seat_of first.caller.seat history in
    subst (λ (ts : List Told). AreCounted link count ts its first.links first.dice after.links
    after.dice) (sym stands.replies_are)
    (subst (λ (ls : List L). AreCounted link count (replies_in stands.run) its first.links
    first.dice ls after.dice) (sym stands.links_are)
    (subst (λ (d : D). AreCounted link count (replies_in stands.run) its first.links first.dice
    stands.last.links d) (sym stands.dice_are) (record {
      stored = subst (λ (es : List Entry). count_by names_store (replies_in stands.run)
          ≤ count_by has_store_failed es) stands.parts_are
          (stores_counted link step left count files part.replica first stands.run stands.last
          stands.does);
      drawn = dice_counted link step left count files part.replica first stands.run stands.last
          stands.does;
      drawn_just = all_drawn link left count files part.replica step first stands.run stands.last
          stands.does;
      asked = plugins_counted link step left count files part.replica first stands.run stands.last
          stands.does;
    })))
