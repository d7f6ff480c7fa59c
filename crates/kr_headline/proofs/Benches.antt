-- The links and the random source of a worker, behind each of its lines, and the exchanges of each.
use Rattle.std.specs.Prelude.{flat_map, map, slice_get, Ok}
use Rattle.std.proofs.Common.{◌≡◌, ℕ, zero, suc, ◌≤◌, List, [], ◌∷◌, ◌++◌, length, Option, Some, refl, ap, sym, subst, ◌∙◌, append-nil}
use Rattle.std.proofs.lemmas.List.{append_assoc}
use Rattle.std.proofs.lemmas.Option.{none-some, same_Some}
use Rattle.kr_base.specs.Walks.{Walk}
use Rattle.kr_kms.specs.Calls.{Link}
use Rattle.kr_kms.specs.Exchanges.{Exchange}
use Rattle.kr_provider.specs.AskedLinks.{Among, AskedOnly}
use Rattle.kr_provider.specs.Names.{names_of}
use Rattle.kr_rollout.specs.declared.opening.Entry.{Entry}
use Rattle.kr_history.specs.Acting.{Caller}
use Rattle.kr_script.specs.declared.script.ScriptLine.{ScriptLine}
use Rattle.kr_workers.specs.Runs.{DoesAll, IsDone, LineDone, entries_in, exchanges_in, lines_in}
use Rattle.kr_workers.specs.ScriptLines.{Workplace}
use Rattle.kr_workers.specs.declared.files.SettingsFile.{SettingsFile}
use Rattle.kr_headline.specs.Outside.{AsksOf}
use Rattle.kr_headline.proofs.LineAsks.{line_asks}

-- the exchanges of each line
abbrev pub exchanges_of : List LineDone → List (List Exchange)
exchanges_of run = map (λ (done : LineDone). done.exchanges) run

-- one behind another
pub exchanges_joined : (run : List LineDone)
    → exchanges_in run ≡ flat_map (λ (asked : List Exchange). asked) (exchanges_of run)
exchanges_joined [] = refl
exchanges_joined (done ∷ run) =
    ap (λ (l : List Exchange). done.exchanges ++ l) (exchanges_joined run)

module _ {L D : Type 0} (link : L → Link) (step : L → Exchange → L → Type 0)
    (left : D → Option (List ℕ))
    (count : D → ℕ) (files : List SettingsFile) (replica : ℕ) where
  abbrev Chain : Workplace L D → List LineDone → Workplace L D → Type 0
  Chain first run last = DoesAll link step left count files replica first run last

  abbrev pub bench_of : Workplace L D → List L × D
  bench_of place = (place.links, place.dice)

  abbrev pub benches_of : (first : Workplace L D) (run : List LineDone) (last : Workplace L D)
      → Chain first run last → List (List L × D)
  benches_of first [] last all = bench_of first ∷ []
  benches_of first (done ∷ run) last all = bench_of first ∷ benches_of all.0 run last all.2

  pub many_benches : (first : Workplace L D) (run : List LineDone) (last : Workplace L D)
      → (all : Chain first run last) → length (benches_of first run last all) ≡ suc (length run)
  many_benches first [] last all = refl
  many_benches first (done ∷ run) last all = ap suc (many_benches all.0 run last all.2)

  pub first_bench : (first : Workplace L D) (run : List LineDone) (last : Workplace L D)
      → (all : Chain first run last)
      → slice_get (benches_of first run last all) 0 ≡ Some (bench_of first)
  first_bench first [] last all = refl
  first_bench first (done ∷ run) last all = refl

  pub last_bench : (first : Workplace L D) (run : List LineDone) (last : Workplace L D)
      → (all : Chain first run last)
      → slice_get (benches_of first run last all) (length run) ≡ Some (bench_of last)
  last_bench first [] last all = ap (λ (place : Workplace L D). Some (bench_of place)) (sym all)
  last_bench first (done ∷ run) last all = last_bench all.0 run last all.2

  -- what a worker saw stays
  seen_later : (first : Workplace L D) (run : List LineDone) (last : Workplace L D)
      → Chain first run last
      → (more : List Entry) × (last.caller.seen ≡ first.caller.seen ++ more)
  seen_later first [] last all = (
    [],
    ap (λ (place : Workplace L D). place.caller.seen) all ∙ sym (append-nil first.caller.seen),
  )
  seen_later first (done ∷ run) last all =
      let d = seen_later all.0 run last all.2 in
      let a = all.1.adds in (
        a.more ++ d.0,
        d.1 ∙ ap (λ (c : Caller). c.seen ++ d.0) a.new_is
            ∙ append_assoc first.caller.seen a.more d.0,
      )

  -- what was done at a place
  pub record DoneThere (first last : Workplace L D) (benches : List (List L × D))
      (ahead : List LineDone) (done : LineDone) : Type 0 where
    pub before : Workplace L D
    pub after : Workplace L D
    pub before_is : slice_get benches (length ahead) ≡ Some (bench_of before)
    pub after_is : slice_get benches (suc (length ahead)) ≡ Some (bench_of after)
    pub seat_is : before.caller.seat ≡ first.caller.seat
    pub opening_is : before.caller.opening ≡ first.caller.opening
    pub mine_is : before.caller.mine ≡ first.caller.mine ++ entries_in ahead
    pub more : List Entry
    pub seen_is : last.caller.seen ≡ after.caller.seen ++ more
    pub is : IsDone link step left count files replica before done after
    pub does_ahead : Chain first ahead before

  pub done_there : (first : Workplace L D) (ahead : List LineDone) (done : LineDone)
      (behind : List LineDone) (last : Workplace L D)
      → (all : Chain first (ahead ++ done ∷ behind) last)
      → DoneThere first last (benches_of first (ahead ++ done ∷ behind) last all) ahead done
  done_there first [] done behind last all =
      let later = seen_later all.0 behind last all.2 in record {
        before = first;
        after = all.0;
        before_is = refl;
        after_is = first_bench all.0 behind last all.2;
        seat_is = refl;
        opening_is = refl;
        mine_is = sym (append-nil first.caller.mine);
        more = later.0;
        seen_is = later.1;
        is = all.1;
        does_ahead = refl;
      }
  done_there first (other ∷ ahead) done behind last all =
      let d = done_there all.0 ahead done behind last all.2 in record {
        before = d.before;
        after = d.after;
        before_is = d.before_is;
        after_is = d.after_is;
        seat_is = d.seat_is ∙ ap (λ (c : Caller). c.seat) all.1.adds.new_is;
        opening_is = d.opening_is ∙ ap (λ (c : Caller). c.opening) all.1.adds.new_is;
        mine_is = d.mine_is
            ∙ ap (λ (c : Caller). c.mine ++ entries_in ahead) all.1.adds.new_is
            ∙ append_assoc first.caller.mine other.part (entries_in ahead);
        more = d.more;
        seen_is = d.seen_is;
        is = d.is;
        does_ahead = (all.0, all.1, d.does_ahead);
      }

  pub done_in_run : (first : Workplace L D) (run : List LineDone) (last : Workplace L D)
      (ahead : List LineDone) (done : LineDone) (behind : List LineDone)
      → run ≡ ahead ++ done ∷ behind → (all : Chain first run last)
      → DoneThere first last (benches_of first run last all) ahead done
  done_in_run first run last ahead done behind is = subst (λ (r : List LineDone).
      (all : Chain first r last) → DoneThere first last (benches_of first r last all) ahead done)
      (sym is) (done_there first ahead done behind last)

  -- each line asked what lines of its kind ask
  pub lines_ask : (first : Workplace L D) (run : List LineDone) (last : Workplace L D)
      → Chain first run last → (at : ℕ) (asked : ScriptLine) (its : List Exchange)
      → slice_get (lines_in run) at ≡ Some asked → slice_get (exchanges_of run) at ≡ Some its
      → AsksOf asked its
  lines_ask first [] last all at asked its l e = absurd (none-some its e)
  lines_ask first (done ∷ run) last all zero asked its l e =
      subst (λ (a : ScriptLine). AsksOf a its) (same_Some done.line asked l)
      (subst (AsksOf done.line) (same_Some done.exchanges its e)
      (line_asks left count files replica first all.0 (Ok done.reply) done.exchanges done.line
      all.1.asks))
  lines_ask first (done ∷ run) last all (suc at) asked its l e =
      lines_ask all.0 run last all.2 at asked its l e

  -- each link stays the same plugin's, by these exchanges, and no count falls
  abbrev Stays : (before : List L × D) → List Exchange → (after : List L × D) → Type 0
  Stays before asked after = AskedOnly link (names_of link before.0) before.0 after.0
      × Walk (Among step) before.0 asked after.0 × (count before.1 ≤ count after.1)

  pub benches_stay : (first : Workplace L D) (run : List LineDone) (last : Workplace L D)
      → (all : Chain first run last) (at : ℕ) (before after : List L × D) (asked : List Exchange)
      → slice_get (benches_of first run last all) at ≡ Some before
      → slice_get (exchanges_of run) at ≡ Some asked
      → slice_get (benches_of first run last all) (suc at) ≡ Some after → Stays before asked after
  benches_stay first [] last all at before after asked b e a = absurd (none-some asked e)
  benches_stay first (done ∷ run) last all zero before after asked b e a =
      subst (λ (x : List L × D). Stays x asked after) (same_Some (bench_of first) before b)
      (subst (λ (l : List Exchange). Stays (bench_of first) l after)
      (same_Some done.exchanges asked e)
      (subst (λ (x : List L × D). Stays (bench_of first) done.exchanges x)
      (same_Some (bench_of all.0) after (sym (first_bench all.0 run last all.2) ∙ a))
      (all.1.asked_only, all.1.walk, all.1.later)))
  benches_stay first (done ∷ run) last all (suc at) before after asked b e a =
      benches_stay all.0 run last all.2 at before after asked b e a
