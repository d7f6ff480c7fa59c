-- The cause of a reply, by the whole of its worker's run.
use Rattle.std.proofs.Common.{◌≡◌, ℕ, zero, suc, ◌≤◌, List, [], ◌∷◌, ◌++◌, get_or, Contains, Option, Some, inl, inr, refl, ap, sym, subst, ◌∙◌, arith}
use Rattle.std.proofs.Math.Nat.{eq-or-lt_of_le}
use Rattle.std.proofs.lemmas.List.{append_assoc}
use Rattle.kr_base.proofs.Counting.{Rose-later}
use Rattle.kr_base.specs.Faults.{Rose}
use Rattle.kr_base.specs.Told.{Agrees}
use Rattle.kr_kms.specs.Calls.{IsSameLink, Link}
use Rattle.kr_kms.specs.Exchanges.{Exchange}
use Rattle.kr_kms.specs.Health.{HasBreach}
use Rattle.kr_kms.specs.declared.seeds.SeedRow.{SeedRow}
use Rattle.kr_provider.specs.AskedLinks.{AskedOnly, FaultRose}
use Rattle.kr_provider.specs.BenchState.{BenchState}
use Rattle.kr_provider.specs.Names.{names_of}
use Rattle.kr_provider.proofs.AskedLists.{asked_none, asked_then, breach_back, had, names_stay, rose_later}
use Rattle.kr_rollout.specs.declared.opening.Entry.{Entry}
use Rattle.kr_history.specs.Acting.{Caller}
use Rattle.kr_history.specs.Parts.{Adds}
use Rattle.kr_history.proofs.PartsAdd.{parts_follow}
use Rattle.kr_fleet.specs.LoadCalls.{AreKeysSame, MayTellKey}
use Rattle.kr_script.specs.declared.script.Part.{Part}
use Rattle.kr_script.specs.declared.script.ScriptLine.{ScriptLine}
use Rattle.kr_script.specs.declared.told.Told.{Told}
use Rattle.kr_script.specs.declared.told.Told.TheVariants as told
use Rattle.kr_workers.specs.declared.files.SettingsFile.{SettingsFile}
use Rattle.kr_workers.specs.Causes.{HasCause, OwnGave, RepliesHaveCauses, TellsAnswer}
use Rattle.kr_workers.specs.Histories.{StandsIn}
use Rattle.kr_workers.specs.Runs.{DoesAll, IsDone, LineDone}
use Rattle.kr_workers.specs.ScriptLines.{Workplace}
use Rattle.kr_workers.proofs.Causing.{HasCauseAt, adopted_within, gave_within, store_within}
use Rattle.kr_workers.proofs.CausingRewrites.{line_caused}
use Rattle.kr_workers.proofs.CausingCounts.{often_caused}

-- ---- a count that rose stays risen

rose_still : (a b c : ℕ) → Rose a b → b ≤ c → Rose a c
rose_still a b c (inl r) h = inl (omega (arith, r, h))
rose_still a b c (inr r) h = elim (eq-or-lt_of_le h) [
  | inl e ↦ inr (r.0, omega (arith, e, r.1))
  | inr l ↦ inl (omega (arith, r.0, r.1, l))
]

-- the link that this one became
became : {L : Type 0} (link : L → Link) (names : List (List ℕ)) (xs ys : List L) (x : L)
    → AskedOnly link names xs ys → Contains xs x
    → (y : L) × Contains ys y × IsSameLink (link x) (link y)
became link names [] ys x a c = absurd (omega (arith, c.1))
became link names (z ∷ zs) [] x a c = absurd a
became link names (z ∷ zs) (y ∷ ys) x a (zero, l, e) =
    (y, (0, omega arith, refl), subst (λ v. IsSameLink (link v) (link y)) e a.0)
became link names (z ∷ zs) (y ∷ ys) x a (suc k, l, e) =
    let t = became link names zs ys x a.2 (k, omega (arith, l), e) in
    (t.0, (suc t.1.0, omega (arith, t.1.1), t.1.2), t.2)

fault_still : {L : Type 0} (link : L → Link) (names : List (List ℕ)) (name : List ℕ)
    (xs ys zs : List L) → FaultRose link name xs ys → AskedOnly link names ys zs
    → FaultRose link name xs zs
fault_still link names name xs ys zs f a = let t = became link names ys zs f.new a f.new_there in
    record {
      old = f.old;
      new = t.0;
      old_there = f.old_there;
      new_there = t.1;
      old_named = f.old_named;
      new_named = t.2.name ∙ f.new_named;
      rose = rose_still (link f.old).count (link f.new).count (link t.0).count f.rose t.2.later;
    }

-- the key ids that plugins may tell stay
tells_back : (key_id : List ℕ) (a b : Link) → IsSameLink a b → MayTellKey key_id b
    → MayTellKey key_id a
tells_back key_id a b s h = (h.0, subst (λ told. Agrees told h.0) s.status h.1, h.2, h.3)

keys_back : {L : Type 0} (link : L → Link) (names : List (List ℕ)) (xs ys : List L)
    (seeds : List SeedRow) → AskedOnly link names xs ys → AreKeysSame link ys seeds
    → AreKeysSame link xs seeds
keys_back link names xs ys seeds a same k d l = let row = get_or seeds k d in
    had link names row.name (MayTellKey row.key_id) xs ys (tells_back row.key_id) a (same k d l)

-- ---- a workplace later on

record HasGone {L D : Type 0} (link : L → Link) (count : D → ℕ) (old new : Workplace L D)
    : Type 0 where
  part : List Entry
  adds : Adds old.caller part new.caller
  asked : AskedOnly link (names_of link old.links) old.links new.links
  later : count old.dice ≤ count new.dice

-- what is seen and had still later, at whatever place
record IsFurther {L D : Type 0} (link : L → Link) (count : D → ℕ) (old : Workplace L D)
    (seen : List Entry) (links : List L) (dice : D) : Type 0 where
  rest : List Entry
  seen_is : seen ≡ old.caller.seen ++ rest
  asked : AskedOnly link (names_of link old.links) old.links links
  later : count old.dice ≤ count dice

module _ {L D : Type 0} (link : L → Link) (count : D → ℕ) where
  gone_none : (w : Workplace L D) → HasGone link count w w
  gone_none w = record {
    part = [];
    adds = parts_follow.none w.caller;
    asked = asked_none link (names_of link w.links) w.links;
    later = omega arith;
  }

  gone_then : (a b c : Workplace L D) → HasGone link count a b → HasGone link count b c
      → HasGone link count a c
  gone_then a b c s t = record {
    part = s.part ++ t.part;
    adds = parts_follow.both a.caller b.caller c.caller s.part t.part s.adds t.adds;
    asked = asked_then link (names_of link a.links) a.links b.links c.links s.asked
        (subst (λ names. AskedOnly link names b.links c.links)
        (names_stay link (names_of link a.links) a.links b.links s.asked) t.asked);
    later = omega (arith, s.later, t.later);
  }

  further_then : (a b : Workplace L D) (seen : List Entry) (links : List L) (dice : D)
      → HasGone link count a b → IsFurther link count b seen links dice
      → IsFurther link count a seen links dice
  further_then a b seen links dice s t = record {
    rest = s.adds.more ++ t.rest;
    seen_is = t.seen_is ∙ ap (λ l. l ++ t.rest) (ap (λ (c : Caller). c.seen) s.adds.new_is)
        ∙ append_assoc a.caller.seen s.adds.more t.rest;
    asked = asked_then link (names_of link a.links) a.links b.links links s.asked
        (subst (λ names. AskedOnly link names b.links links)
        (names_stay link (names_of link a.links) a.links b.links s.asked) t.asked);
    later = omega (arith, s.later, t.later);
  }

  -- so is an own entry's answer
  own_within : (a b c : Workplace L D) (reply : Told) (seen : List Entry) (links : List L)
      (dice : D) → HasGone link count a b → IsFurther link count c seen links dice
      → OwnGave b.caller c.caller.seen (TellsAnswer reply)
      → OwnGave a.caller seen (TellsAnswer reply)
  own_within a b c reply seen links dice s t g = gave_within a.caller b.caller s.part c.caller.seen
      t.rest seen (TellsAnswer reply) s.adds g t.seen_is

  -- a cause in the midst is one of the whole
  cause_within : (asked : ScriptLine) (a b c : Workplace L D) (reply : Told) (seen : List Entry)
      (links : List L) (dice : D) → HasGone link count a b → IsFurther link count c seen links dice
      → HasCauseAt link count asked b reply c → HasCause link count asked a reply seen links dice
  cause_within asked a b c told.Unchanged seen links dice s t h = (
    h.0,
    h.1,
    adopted_within a.caller b.caller s.part c.caller.seen t.rest seen h.1 s.adds h.2 t.seen_is,
    keys_back link (names_of link a.links) a.links b.links h.1.seeds s.asked h.3,
  )
  cause_within asked a b c (told.Unhealthy name field text) seen links dice s t h = (
    h.0,
    had link (names_of link a.links) name (λ it. HasBreach it (Some (field, text))) a.links b.links
        (breach_back (Some (field, text))) s.asked h.1,
  )
  cause_within asked a b c (told.FaultPlugin name) seen links dice s t h = (
    h.0,
    fault_still link (names_of link c.links) name a.links c.links links
        (rose_later link (names_of link a.links) name a.links b.links c.links s.asked h.1) t.asked,
  )
  cause_within asked a b c (told.FaultDice seat) seen links dice s t h = (
    h.0,
    h.1 ∙ ap (λ (w : Caller). w.seat) s.adds.new_is,
    rose_still (count a.dice) (count c.dice) (count dice)
        (Rose-later (count a.dice) (count b.dice) (count c.dice) s.later h.2) t.later,
  )
  cause_within asked a b c told.FaultStore seen links dice s t h = (
    h.0,
    store_within a.caller b.caller s.part c.caller.seen t.rest seen s.adds h.1 t.seen_is,
  )
  cause_within asked a b c told.Memory seen links dice s t h = h
  cause_within asked a b c (told.Value why) seen links dice s t h = h
  cause_within asked a b c (told.Rewritten rewritten fresh changed left) seen links dice s t h = h
  cause_within asked a b c other seen links dice s t h =
      (h.0, own_within a b c other seen links dice s t h.1)

-- ---- a run

module _ {L D : Type 0} (link : L → Link) (step : L → Exchange → L → Type 0) (left : D → Option (List ℕ))
    (count : D → ℕ) (files : List SettingsFile) (replica : ℕ) where
  gone_by : (old new : Workplace L D) (done : LineDone)
      → IsDone link step left count files replica old done new → HasGone link count old new
  gone_by old new done d = record {
    part = done.part;
    adds = d.adds;
    asked = d.asked_only;
    later = d.later;
  }

  gone_all : (first : Workplace L D) (run : List LineDone) (last : Workplace L D)
      → DoesAll link step left count files replica first run last
      → HasGone link count first last
  gone_all first [] last same =
      subst (λ w. HasGone link count first w) (sym same) (gone_none link count first)
  gone_all first (done ∷ run) last does = gone_then link count first does.0 last
      (gone_by first does.0 done does.1) (gone_all does.0 run last does.2)

  run_caused : (first now : Workplace L D) → HasGone link count first now
      → (run : List LineDone) (last : Workplace L D)
      → DoesAll link step left count files replica now run last → (done : LineDone)
      → Contains run done → (seen : List Entry) (links : List L) (dice : D)
      → IsFurther link count last seen links dice
      → HasCause link count done.line first done.reply seen links dice
  run_caused first now gone [] last does done c seen links dice f = absurd (omega (arith, c.1))
  run_caused first now gone (one ∷ run) last does done (zero, l, e) seen links dice f =
      subst (λ (o : LineDone). HasCause link count o.line first o.reply seen links dice) e
      (cause_within link count one.line first now does.0 one.reply seen links dice gone
      (further_then link count does.0 last seen links dice (gone_all does.0 run last does.2) f)
      (line_caused link left count files replica one.line now does.0 one.reply
      does.1.does))
  run_caused first now gone (one ∷ run) last does done (suc k, l, e) seen links dice f =
      run_caused first does.0 (gone_then link count first now does.0 gone
      (gone_by now does.0 one does.1)) run last does.2 done (k, omega (arith, l), e) seen links
      dice f

  whole_caused : (history : List Entry) (part : Part) (first : Workplace L D)
      (replies : List Told) (after : BenchState L D)
      → (stands : StandsIn link step left count files history part first replies after)
      → part.replica ≡ replica → (done : LineDone) → Contains stands.run done
      → HasCause link count done.line first done.reply history after.links after.dice
  whole_caused history part first replies after stands same done there = run_caused first first
      (gone_none link count first) stands.run stands.last
      (subst (λ r. DoesAll link step left count files r first stands.run stands.last) same
      stands.does) done there history after.links after.dice (record {
        rest = stands.front.0;
        seen_is = sym stands.front.1;
        asked = subst (λ ls. AskedOnly link (names_of link stands.last.links) stands.last.links ls)
            (sym stands.links_are)
            (asked_none link (names_of link stands.last.links) stands.last.links);
        later = omega (arith, ap count stands.dice_are);
      })

pub replies_have_causes : {L D : Type 0} → (link : L → Link) (step : L → Exchange → L → Type 0)
    (left : D → Option (List ℕ)) (count : D → ℕ) (files : List SettingsFile)
    → RepliesHaveCauses link step left count files
replies_have_causes link step left count files = record {
  each = λ replica old new done d. line_caused link left count files replica done.line old
      new done.reply d.does;
  whole = λ history part first replies after stands done there. whole_caused link step left count
      files part.replica history part first replies after stands refl done there;
  often = λ history part first replies after stands. often_caused link step left count files
      history part first replies after stands;
}
