-- Lines one behind another.
use Rattle.std.proofs.Common.{◌≡◌, ℕ, suc, ◌<◌, ◌≤◌, ◌+◌, List, [], ◌∷◌, ◌++◌, length, take, drop, drop-cons, get_or, Option, Result, Ok, Err, refl, ap, sym, subst, ◌∙◌, arith}
use Rattle.std.proofs.lemmas.List.{take_more, map-append, take-append-drop}
use Rattle.kr_base.specs.declared.errors.Spent.{Spent}
use Rattle.kr_kms.specs.Calls.{Link}
use Rattle.kr_kms.specs.Exchanges.{Exchange}
use Rattle.kr_provider.specs.AskedLinks.{AskedOnly}
use Rattle.kr_provider.specs.BenchKeys.{adoption_of}
use Rattle.kr_provider.specs.BenchState.{BenchState}
use Rattle.kr_provider.specs.Names.{names_of}
use Rattle.kr_provider.proofs.AskedLists.{asked_none, asked_then, names_stay}
use Rattle.kr_rollout.specs.declared.opening.Opening.{Opening}
use Rattle.kr_history.specs.Acting.{Caller, IsCaller}
use Rattle.kr_rollout.specs.Callers.{reloads_in}
use Rattle.kr_history.specs.Calls.{AreServed}
use Rattle.kr_history.proofs.PartsAdd.{parts_sum_to_whole}
use Rattle.kr_script.specs.declared.script.ScriptLine.{ScriptLine}
use Rattle.kr_script.specs.declared.told.Told.{Told}
use Rattle.kr_workers.specs.declared.files.SettingsFile.{SettingsFile}
use Rattle.kr_workers.specs.Budgets.{brought_count, reloads_of}
use Rattle.kr_workers.specs.Runs.{DoesAll, IsDone, LineDone}
use Rattle.kr_workers.specs.inner.WholeRuns.{AreReady, Runs}
use Rattle.kr_workers.specs.ScriptLines.{MayDo, Workplace}
use Rattle.kr_workers.specs.inner.Serving.{IsReadyFor, Serves, place_of}
use Rattle.kr_workers.specs.inner.Going.{IsGoing}
use Rattle.kr_workers.proofs.Making.{made}
use Rattle.kr_workers.proofs.MovedKeys.{moves_on}

module _ {L D : Type 0} (link : L → Link) (step : L → Exchange → L → Type 0) (left : D → Option (List ℕ))
    (count : D → ℕ) (files : List SettingsFile) (replica : ℕ) where
  pub does_more : (old : Workplace L D) (run : List LineDone) (middle : Workplace L D)
      (done : LineDone) (new : Workplace L D)
      → DoesAll link step left count files replica old run middle
      → IsDone link step left count files replica middle done new
      → DoesAll link step left count files replica old (run ++ done ∷ []) new
  does_more old [] middle done new all one =
      (new, subst (λ m. IsDone link step left count files replica m done new) all one, refl)
  does_more old (first ∷ run) middle done new all one =
      (all.0, all.1, does_more all.0 run middle done new all.2 one)

  module _ (lines : List ScriptLine) (old : Caller) (bench : BenchState L D)
      (ready : AreReady link files replica lines old bench) where
    pub begins : IsGoing link step left count files replica lines 0 old bench [] old bench
    begins = record {
      run = [];
      replies_are = refl;
      lines_are = refl;
      does = refl;
      opening = refl;
      seat = refl;
      idle = ready.idle;
      room = ready.room;
      asked_only = asked_none link (names_of link bench.links) bench.links;
      later = omega arith;
      pages = refl;
      keys = refl;
    }

    module _ (asked : ScriptLine) (k : ℕ) (below : k < length lines)
        (at : asked ≡ get_or lines k asked) (replies : List Told) (c : Caller)
        (now : BenchState L D)
        (going : IsGoing link step left count files replica lines k old bench replies c now)
      where
        rest_is : drop k lines ≡ asked ∷ drop (suc k) lines
        rest_is = drop-cons lines k asked below
            ∙ ap (λ a. a ∷ drop (suc k) lines) (sym at)

        room_is : reloads_in c.mine + (brought_count asked + reloads_of (drop (suc k) lines))
            ≤ get_or old.opening.reloads old.seat 0
        room_is = subst (λ rest. reloads_in c.mine + reloads_of rest
            ≤ get_or old.opening.reloads old.seat 0) rest_is going.room

        -- the next line may be done
        pub next_ready : IsReadyFor link files replica asked c now
        next_ready = record {
          may = subst (λ (o : Opening). MayDo o files asked) (sym going.opening)
              (subst (λ a. MayDo old.opening files a) (sym at) (ready.may k asked below));
          there = subst (λ (o : Opening). replica < length o.replicas) (sym going.opening)
              ready.there;
          idle = going.idle;
          room = subst (λ (o : Opening). reloads_in c.mine + brought_count asked ≤ get_or o.reloads
              c.seat 0)
              (sym going.opening) (subst (λ s. reloads_in c.mine + brought_count asked
              ≤ get_or old.opening.reloads s 0) (sym going.seat) (omega (arith, room_is)));
          links = subst (λ (o : Opening). AreServed o.names (names_of link now.links))
              (sym going.opening)
              (subst (λ names. AreServed old.opening.names names)
              (sym (names_stay link (names_of link bench.links) bench.links now.links
              going.asked_only)) ready.links);
          pages = subst (λ size. 64 ≤ size) (sym going.pages) ready.pages;
        }

        module _ (new : Caller) (after : BenchState L D) where
          asked_on : (reply : Result Told Spent)
              → Serves link step left count files replica asked c now reply new after
              → AskedOnly link (names_of link bench.links) bench.links after.links
          asked_on reply s = asked_then link (names_of link bench.links) bench.links now.links
              after.links going.asked_only (subst
              (λ names. AskedOnly link names now.links after.links)
              (names_stay link (names_of link bench.links) bench.links now.links going.asked_only)
              s.asked_only)

          -- it was done
          pub goes_on : (reply : Told) → IsCaller c
              → Serves link step left count files replica asked c now (Ok reply) new after
              → IsGoing link step left count files replica lines (k + 1) old bench
              (replies ++ reply ∷ []) new after
          goes_on reply is_caller s =
              let part = s.adds.0 in
              let done : LineDone = record {
                line = asked;
                part = part;
                reply = reply;
                exchanges = s.asks.steps;
              } in
              let brought : reloads_in new.mine ≡ reloads_in c.mine + reloads_in part =
              ap (λ (d : Caller). reloads_in d.mine) s.adds.1.new_is
              ∙ parts_sum_to_whole.reloads c.mine part in record {
                run = going.run ++ done ∷ [];
                replies_are = ap (λ rs. rs ++ reply ∷ []) going.replies_are
                    ∙ sym (map-append (λ (d : LineDone). d.reply) going.run (done ∷ []));
                lines_are = map-append (λ (d : LineDone). d.line) going.run (done ∷ [])
                    ∙ (λ i. going.lines_are i ++ at i ∷ [])
                    ∙ sym (take_more lines k asked below);
                does = does_more (place_of old bench) going.run (place_of c now) done
                    (place_of new after) going.does
                    (record {
                      does = s.does;
                      known = is_caller;
                      idle = going.idle;
                      made = made link left count files replica asked reply
                          (place_of c now) (place_of new after) part is_caller s.adds.1 s.does;
                      adds = s.adds.1;
                      within = s.adds.2;
                      asked_only = s.asked_only;
                      later = s.later;
                      walk = s.asks.walk;
                      asks = s.asks.are;
                    });
                opening = ap (λ (d : Caller). d.opening) s.adds.1.new_is ∙ going.opening;
                seat = ap (λ (d : Caller). d.seat) s.adds.1.new_is ∙ going.seat;
                idle = s.idle;
                room = subst (λ n. reloads_in new.mine + reloads_of (drop n lines)
                    ≤ get_or old.opening.reloads old.seat 0)
                    (let one : suc k ≡ k + 1 = omega arith in
                    one) (omega (arith, room_is, brought, s.adds.2.brings_few));
                asked_only = asked_on (Ok reply) s;
                later = omega (arith, going.later, s.later);
                pages = s.pages ∙ going.pages;
                keys = moves_on going.run done c new (adoption_of bench) (adoption_of now)
                    (adoption_of after) (ap (λ (d : Caller). d.mine) s.adds.1.new_is) s.idle
                    going.keys s.keys;
              }

          -- it was cut short
          pub cut_short : Serves link step left count files replica asked c now
              (Err (record {})) new after
              → Runs link step left count files replica lines old bench replies (Err (record {}))
              new
              after
          cut_short s = record {
            run = going.run;
            replies_are = going.replies_are;
            middle = place_of c now;
            does = going.does;
            ends = record {
              line = asked;
              rest = drop (suc k) lines;
              lines_are = sym (take-append-drop k lines)
                  ∙ ap (λ l. take k lines ++ l) (drop-cons lines k asked below)
                  ∙ (λ i. sym going.lines_are i ++ sym at i ∷ drop (suc k) lines);
              does = s.does;
              part = s.adds.0;
              adds = s.adds.1;
              within = s.adds.2;
              spent = s.spent;
            };
            opening = ap (λ (d : Caller). d.opening) s.adds.1.new_is ∙ going.opening;
            seat = ap (λ (d : Caller). d.seat) s.adds.1.new_is ∙ going.seat;
            asked_only = asked_on (Err (record {})) s;
            later = omega (arith, going.later, s.later);
            pages = s.pages ∙ going.pages;
            keys = tt;
          }

    -- all were done
    pub ends_well : (k : ℕ) (replies : List Told) (new : Caller) (after : BenchState L D)
        → take k lines ≡ lines
        → IsGoing link step left count files replica lines k old bench replies new after
        → Runs link step left count files replica lines old bench replies (Ok tt) new after
    ends_well k replies new after whole going = record {
      run = going.run;
      replies_are = going.replies_are;
      middle = place_of new after;
      does = going.does;
      ends = (going.lines_are ∙ whole, refl);
      opening = going.opening;
      seat = going.seat;
      asked_only = going.asked_only;
      later = going.later;
      pages = going.pages;
      keys = going.keys;
    }
