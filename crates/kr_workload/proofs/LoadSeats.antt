-- What one worker of a load replies.
use Rattle.std.specs.Prelude.{All, Contains}
use Rattle.std.specs.List.{range_with_len}
use Rattle.std.proofs.Common.{◌≡◌, ℕ, ◌+◌, ◌*◌, ◌<◌, ◌≤◌, ◌==◌, false, List, [], ◌∷◌, ◌++◌, length, map, get_or, Option, Some, Ok, inl, inr, refl, ap, sym, subst, ◌∙◌, arith}
use Rattle.std.proofs.lemmas.List.{append_assoc, length-map}
use Rattle.std.proofs.lemmas.List.Elements.{All-append, All-contains, All-cons, All-head, All-map, All-nil, All-tail, Contains-append_left, Contains-append_right, Contains-get_or}
use Rattle.kr_base.specs.Lines.{of_seat}
use Rattle.kr_kms.specs.Calls.{Link}
use Rattle.kr_kms.specs.Exchanges.{Exchange}
use Rattle.kr_kms.specs.declared.seeds.SeedKey.{SeedKey}
use Rattle.kr_provider.specs.BenchState.{BenchState}
use Rattle.kr_history.specs.ContentLaws.{NamesNoPlugin}
use Rattle.kr_history.specs.Contents.{last_change, puts}
use Rattle.kr_rollout.specs.Entries.{seat_of}
use Rattle.kr_rollout.specs.declared.line.Did.{Did}
use Rattle.kr_rollout.specs.declared.opening.Entry.{Entry}
use Rattle.kr_rollout.specs.declared.opening.Opening.{Opening}
use Rattle.kr_script.specs.declared.script.Part.{Part}
use Rattle.kr_script.specs.declared.script.ScriptLine.{ScriptLine}
use Rattle.kr_script.specs.declared.told.Told.{Told}
use Rattle.kr_script.specs.declared.told.Told.TheVariants as told
use Rattle.kr_workers.specs.Budgets.{line_entries}
use Rattle.kr_workers.specs.Causes.{HasCause}
use Rattle.kr_workers.specs.Endings.{is_same, reply_ending}
use Rattle.kr_workers.specs.Gets.{TellContents, heard_by}
use Rattle.kr_workers.specs.Histories.{StandsIn, first_place}
use Rattle.kr_workers.specs.Runs.{LineDone, entries_in}
use Rattle.kr_workers.specs.ScriptLines.{Does}
use Rattle.kr_workers.specs.declared.ending.Ending.TheVariants as ending
use Rattle.kr_workers.specs.declared.files.SettingsFile.{SettingsFile}
use Rattle.kr_workers.proofs.CausingRuns.{replies_have_causes}
use Rattle.kr_workers.proofs.HonestPlugins.{at_middle}
use Rattle.kr_workload.specs.Loads.{load_get_line, lines_of, object_path, plain_of, put_of, load_reloads}
use Rattle.kr_workload.proofs.LineParts.{IsOf, line_makes}
use Rattle.kr_workload.proofs.LoadContents.{stays_put}
use Rattle.kr_workload.proofs.LoadHistories.{IsLoadEntry, front_all, secrets}
use Rattle.kr_workload.proofs.LoadLines.{IsLoadLine, IsReloading, lines_are, lines_few, load_simple, reloading}
use Rattle.kr_workload.proofs.LoadReplies.{IsCalm, IsFullReply, IsReply, get_ends, no_fault, put_ends, reload_ends}
use Rattle.kr_workload.proofs.LoadTexts.{one_number}
use Rattle.kr_workload.proofs.PutParts.{HasWritten, TellsPut, part_is, put_tells}
use Rattle.kr_workload.proofs.Ruling.{piece_long}
use Rattle.kr_workload.proofs.RunParts.{IsNumbered, Splits, WasDone, all_by_parts, all_done, all_entries, entries_behind, entry_there, few_entries, numbered_all, numbered_at, passed_there}

-- ---- lists

-- what holds of each image holds of what it is of
pub mapped_all : {X Y : Type 0} (P : Y → Type 0) (f : X → Y) (xs : List X) → All P (map f xs)
    → All (λ x. P (f x)) xs
mapped_all P f [] all = All-nil (λ x. P (f x))
mapped_all P f (x ∷ xs) all = All-cons (λ y. P (f y)) x xs (All-head P (f x) (map f xs) all)
    (mapped_all P f xs (All-tail P (f x) (map f xs) all))

-- one fact of each from two
both_all : {X : Type 0} (P Q R : X → Type 0) (xs : List X) → ((x : X) → P x → Q x → R x)
    → All P xs → All Q xs → All R xs
both_all P Q R xs f p q = λ k d below. f (get_or xs k d) (p k d below) (q k d below)

-- ---- what a worker may be told

-- a `get` tells what the worker put
abbrev pub IsSaid : (seed size worker : ℕ) → (path plain : List ℕ) → Type 0
IsSaid seed size worker path plain = (number : ℕ) → number < size
    → path ≡ object_path worker number → plain ≡ plain_of seed size worker number

abbrev pub IsFullLine : (seed size worker : ℕ) → LineDone → Type 0
IsFullLine seed size worker done =
    IsFullReply (IsSaid seed size worker) done.line done.reply

abbrev pub IsLine : (seed size worker : ℕ) → LineDone → Type 0
IsLine seed size worker done = IsReply (IsSaid seed size worker) done.line done.reply

-- ---- the entries of a worker

module _ {L D : Type 0} (link : L → Link) (step : L → Exchange → L → Type 0)
    (left : D → Option (List ℕ))
    (count : D → ℕ) (files : List SettingsFile) (history : List Entry) (o : Opening)
    (seed size worker budget : ℕ) (part : Part) (bench after : BenchState L D)
    (replies : List Told)
    (s : StandsIn link step left count files history part (first_place o worker budget bench)
    replies after) (lines : part.lines.0 ≡ lines_of seed size worker) where
  run_lines : All (λ (done : LineDone). IsLoadLine seed size worker done.line) s.run
  run_lines = mapped_all (IsLoadLine seed size worker) (λ (d : LineDone). d.line) s.run
      (subst (λ l. All (IsLoadLine seed size worker) l) (sym (s.lines_are ∙ lines))
      (lines_are seed size worker))

  run_done : All (WasDone link step left count files part.replica) s.run
  run_done = all_done link step left count files part.replica
      (first_place o worker budget bench) s.run s.last s.does

  -- what each of them does is so, where it is by its line
  module _ (P : Did → Type 0) (of_line : (asked : ScriptLine)
      → IsLoadLine seed size worker asked → (done : Did) → IsOf files asked done → P done) where
    part_owned : (done : LineDone) → IsLoadLine seed size worker done.line
        → WasDone link step left count files part.replica done
        → All (λ (e : Entry). P e.line.did) done.part
    part_owned done own w =
        let m = line_makes link left count files done.line part.replica done.line refl
        (load_simple seed size worker done.line own) w.old w.new (Ok done.reply) w.is.does in
        let same : done.part ≡ m.part =
        part_is w.old.caller w.new.caller done.part m.part w.is.adds m.mine_is in
        subst (λ l. All (λ (e : Entry). P e.line.did) l) (sym same)
        (λ k d below. of_line done.line own (get_or m.part k d).line.did (m.all k d below))

    pub entries_owned : All (λ (e : Entry). P e.line.did) (of_seat seat_of worker history)
    entries_owned =
        let Is : Entry → Type 0 = λ e. P e.line.did in
        subst (λ l. All Is l) s.parts_are (all_entries Is s.run
        (both_all (λ (done : LineDone). IsLoadLine seed size worker done.line)
        (WasDone link step left count files part.replica)
        (λ (done : LineDone). All Is done.part) s.run part_owned run_lines run_done))

  -- what the reply to a put tells of its line's part
  pub put_told : (done : LineDone) → Contains s.run done → (number : ℕ)
      → done.line ≡ put_of seed size worker number
      → TellsPut secrets (object_path worker number) (plain_of seed size worker number) done.part
      done.reply
  put_told done there number is =
      let w = All-contains (WasDone link step left count files part.replica) s.run done
      run_done
      there in
      let does = subst (λ (l : ScriptLine). Does link left count files part.replica l w.old
      (Ok done.reply) w.new) is w.is.does in
      put_tells left count secrets (object_path worker number) (plain_of seed size worker number)
      part.replica w.old.caller w.new.caller done.part w.is.adds w.old.dice w.new.dice
      w.old.caller.seat does.0 done.reply does.1 does.2

  -- an entry of a line stands in the history
  pub entry_in : (done : LineDone) → Contains s.run done → (e : Entry) → Contains done.part e
      → Contains history e
  entry_in done there e c = passed_there (λ (x : Entry). seat_of x == worker) history e
      (subst (λ l. Contains l e) s.parts_are (entry_there s.run done e there c))

  part_few : (done : LineDone) → IsLoadLine seed size worker done.line
      → WasDone link step left count files part.replica done → length done.part ≤ 3
  part_few done (inl (number, below, is)) w =
      subst (λ (asked : ScriptLine). length done.part ≤ line_entries (length done.part) asked) is
      w.is.within.few
  part_few done (inr (inl (number, below, is))) w =
      subst (λ (asked : ScriptLine). length done.part ≤ line_entries (length done.part) asked) is
      w.is.within.few
  part_few done (inr (inr (replica, file, is, named))) w =
      let one : length done.part ≤ 1 =
      subst (λ (asked : ScriptLine). length done.part ≤ line_entries (length done.part) asked) is
      w.is.within.few in omega (arith, one)

  -- and few
  pub seat_few : length (of_seat seat_of worker history) ≤ 3 * (2 * size + 4)
  seat_few =
      let many : length s.run ≡ length (lines_of seed size worker) =
      sym (length-map s.run (λ (d : LineDone). d.line)) ∙ ap length (s.lines_are ∙ lines) in
      let few = few_entries s.run (both_all
      (λ (done : LineDone). IsLoadLine seed size worker done.line)
      (WasDone link step left count files part.replica)
      (λ (done : LineDone). length done.part ≤ 3) s.run part_few run_lines run_done) in
      omega (arith, few, many, lines_few seed size worker, ap length s.parts_are)

  -- ---- its replies

  module _ {kept : List (SeedKey × List ℕ)} (tell : TellContents kept o history worker s.run)
      (small : size ≤ 10000)
      (few : worker < 4)
      (calm : IsCalm link count history (first_place o worker budget bench) after.dice)
      (all : All (IsLoadEntry seed size) history)
      (no_names : (front rest : List Entry) → history ≡ front ++ rest → NamesNoPlugin o front)
    where
      caused : (done : LineDone) → Contains s.run done → HasCause link count done.line
          (first_place o worker budget bench) done.reply history after.links after.dice
      caused done there = (replies_have_causes link step left count files).whole history part
          (first_place o worker budget bench) replies after s done there

      -- none is a fault
      pub none_failed : All (λ (reply : Told). is_same (reply_ending reply) ending.Fault ≡ false) replies
      none_failed =
          let P : Told → Type 0 = λ reply. is_same (reply_ending reply) ending.Fault ≡ false in
          subst (λ l. All P l) (sym s.replies_are)
          (All-map P (λ (d : LineDone). d.reply) s.run (λ k d below.
          let done = get_or s.run k d in
          no_fault link count history (first_place o worker budget bench) after.links after.dice calm
          done.line done.reply (caused done (Contains-get_or s.run k d below))))

      -- ---- the puts

      module _ (p : Splits s.run (map (put_of seed size worker) (range_with_len 0 size))
          (load_reloads worker ++ map (load_get_line worker) (range_with_len 0 size)))
          (q : Splits p.rest (load_reloads worker) (map (load_get_line worker) (range_with_len 0 size)))
        where
          front_there : (done : LineDone) → Contains p.front done → Contains s.run done
          front_there done c = subst (λ l. Contains l done) (sym p.is)
              (Contains-append_left p.front p.rest done c)

          rest_there : (done : LineDone) → Contains p.rest done → Contains s.run done
          rest_there done c = subst (λ l. Contains l done) (sym p.is)
              (Contains-append_right p.front p.rest done c)

          puts_numbered : All (IsNumbered (put_of seed size worker) size) p.front
          puts_numbered = numbered_all (put_of seed size worker) size p.front p.front_is

          gets_numbered : All (IsNumbered (load_get_line worker) size) q.rest
          gets_numbered = numbered_all (load_get_line worker) size q.rest q.rest_is

          put_part : (done : LineDone) → Contains s.run done → (number : ℕ)
              → done.line ≡ put_of seed size worker number
              → TellsPut secrets (object_path worker number) (plain_of seed size worker number) done.part
              done.reply
          put_part = put_told

          inside : (done : LineDone) → Contains s.run done → (e : Entry) → Contains done.part e
              → Contains history e
          inside = entry_in

          put_replied : (done : LineDone) → Contains s.run done
              → IsNumbered (put_of seed size worker) size done → IsLine seed size worker done
          put_replied done there n = subst
              (λ (l : ScriptLine). IsReply (IsSaid seed size worker) l done.reply) (sym n.line_is)
              (put_ends link count history (first_place o worker budget bench) after.links
              after.dice calm (IsSaid seed size worker) (object_path worker n.number)
              (plain_of seed size worker n.number)
              (piece_long seed (2 + worker * size + n.number)) done.part (inside done there)
              done.reply
              (subst (λ (l : ScriptLine). HasCause link count l (first_place o worker budget bench)
              done.reply history after.links after.dice) n.line_is (caused done there))
              (put_part done there n.number n.line_is))

          -- ---- the reloads

          reload_replied : (done : LineDone) → Contains s.run done → IsReloading done.line
              → IsLine seed size worker done
          reload_replied done there (replica, file, is, named) = subst
              (λ (l : ScriptLine). IsReply (IsSaid seed size worker) l done.reply) (sym is)
              (reload_ends link count history (first_place o worker budget bench) after.links
              after.dice calm (IsSaid seed size worker) replica file done.reply
              (subst (λ (l : ScriptLine). HasCause link count l (first_place o worker budget bench)
              done.reply history after.links after.dice) is (caused done there)))

          pub reloads_lines : All (λ (done : LineDone). IsReloading done.line) q.front
          reloads_lines = mapped_all IsReloading (λ (d : LineDone). d.line) q.front
              (subst (λ l. All IsReloading l) (sym q.front_is) (reloading worker))

          -- ---- the gets, where memory lacked for none

          module _ (enough : (done : LineDone) → Contains s.run done → done.reply ≡ told.Memory → ⊥)
            where
              full_of : (done : LineDone) → Contains s.run done → IsLine seed size worker done
                  → IsFullLine seed size worker done
              full_of done there (inl lacks) = absurd (enough done there lacks)
              full_of done there (inr full) = full

              puts_full : All (IsFullLine seed size worker) p.front
              puts_full = λ k d below.
                  let done = get_or p.front k d in
                  let there = front_there done (Contains-get_or p.front k d below) in
                  full_of done there (put_replied done there (puts_numbered k d below))

              reloads_full : All (IsFullLine seed size worker) q.front
              reloads_full = λ k d below.
                  let done = get_or q.front k d in
                  let there = rest_there done (subst (λ l. Contains l done) (sym q.is)
                  (Contains-append_left q.front q.rest done (Contains-get_or q.front k d below))) in
                  full_of done there (reload_replied done there (reloads_lines k d below))

              -- the put's own entry
              has_written : (done : LineDone) (number : ℕ)
                  → done.line ≡ put_of seed size worker number → IsFullLine seed size worker done
                  → TellsPut secrets (object_path worker number) (plain_of seed size worker number)
                  done.part
                  done.reply
                  → (revision : ℕ) × HasWritten secrets (object_path worker number)
                  (plain_of seed size worker number) done.part revision
              has_written done number is full tells = by done.reply
                  (subst (λ (l : ScriptLine). IsFullReply (IsSaid seed size worker) l done.reply) is
                  full)
                  tells
                where
                  by : (reply : Told) → IsFullReply (IsSaid seed size worker)
                      (put_of seed size worker number) reply
                      → TellsPut secrets (object_path worker number) (plain_of seed size worker number)
                      done.part reply
                      → (revision : ℕ) × HasWritten secrets (object_path worker number)
                      (plain_of seed size worker number) done.part revision
                  by (told.Put revision) f t = (revision, t)
                  by reply f t = absurd f

              module _ (front : List LineDone) (done : LineDone) (rest : List LineDone)
                  (is : q.rest ≡ front ++ done ∷ rest) (number : ℕ) (below : number < size)
                  (asked : done.line ≡ load_get_line worker number) where
                run_is : s.run ≡ (p.front ++ (q.front ++ front)) ++ done ∷ rest
                run_is = p.is ∙ ap (λ l. p.front ++ l) (q.is ∙ ap (λ l. q.front ++ l) is
                    ∙ sym (append_assoc q.front front (done ∷ rest)))
                    ∙ sym (append_assoc p.front (q.front ++ front) (done ∷ rest))

                own_put : (it : LineDone) × Contains p.front it
                    × (it.line ≡ put_of seed size worker number)
                own_put = numbered_at (put_of seed size worker) size p.front p.front_is number below

                -- it stands before the line's Fetch
                known : (upto : List Entry) (fetch : Entry) (more : List Entry) (adopt : Entry)
                    → history ≡ upto ++ fetch ∷ more
                    → of_seat seat_of worker upto
                    ≡ entries_in (p.front ++ (q.front ++ front)) ++ adopt ∷ []
                    → last_change upto (object_path worker number)
                    ≡ Some (puts (plain_of seed size worker number))
                known upto fetch more adopt there its =
                    let w = has_written own_put.0 number own_put.2
                    (All-contains (IsFullLine seed size worker) p.front own_put.0 puts_full own_put.1)
                    (put_part own_put.0 (front_there own_put.0 own_put.1) number own_put.2) in
                    let e = w.1.entry in
                    let ahead : Contains (entries_in (p.front ++ (q.front ++ front))) e =
                    subst (λ l. Contains l e) (sym (entries_behind p.front (q.front ++ front)))
                    (Contains-append_left (entries_in p.front) (entries_in (q.front ++ front)) e
                    (entry_there p.front own_put.0 e own_put.1 w.1.there)) in
                    let in_it : Contains upto e = passed_there (λ (x : Entry). seat_of x == worker)
                    upto e
                    (subst (λ l. Contains l e) (sym its)
                    (Contains-append_left (entries_in (p.front ++ (q.front ++ front))) (adopt ∷ []) e
                    ahead)) in
                    stays_put seed size worker number small few below upto
                    (front_all (IsLoadEntry seed size) upto (fetch ∷ more)
                    (subst (λ l. All (IsLoadEntry seed size) l) there all)) e in_it secrets w.0
                    w.1.did_is w.1.gave_is

                said : IsSaid seed size worker (object_path worker number)
                    (plain_of seed size worker number)
                said other less same = ap (plain_of seed size worker)
                    (one_number worker worker number other few few (omega (arith, below, small))
                    (omega (arith, less, small)) same)

                get_full : IsFullLine seed size worker done
                get_full =
                    let there : Contains s.run done = subst (λ l. Contains l done) (sym run_is)
                    (Contains-append_right (p.front ++ (q.front ++ front)) (done ∷ rest) done
                    (0, omega arith, refl)) in
                    full_of done there (subst
                    (λ (l : ScriptLine). IsReply (IsSaid seed size worker) l done.reply) (sym asked)
                    (get_ends link count history (first_place o worker budget bench) after.links
                    after.dice calm (IsSaid seed size worker)
                    (heard_by kept (p.front ++ (q.front ++ front)) done) o worker
                    (object_path worker number)
                    (plain_of seed size worker number)
                    (entries_in (p.front ++ (q.front ++ front))) done.part no_names known said
                    done.reply
                    (subst (λ (l : ScriptLine).
                    HasCause link count l (first_place o worker budget bench)
                    done.reply history after.links after.dice) asked (caused done there))
                    (tell (p.front ++ (q.front ++ front)) done rest run_is (object_path worker number)
                    asked)))

              gets_full : All (IsFullLine seed size worker) q.rest
              gets_full = all_by_parts (IsFullLine seed size worker) q.rest
                  (λ front done rest is.
                  let n = at_middle (IsNumbered (load_get_line worker) size) front done rest
                  (subst (λ l. All (IsNumbered (load_get_line worker) size) l) is gets_numbered) in
                  get_full front done rest is n.number n.below n.line_is)

              -- ---- all of them

              pub run_full : All (IsFullLine seed size worker) s.run
              run_full = subst (λ l. All (IsFullLine seed size worker) l)
                  (sym (p.is ∙ ap (λ l. p.front ++ l) q.is))
                  (All-append (IsFullLine seed size worker) p.front (q.front ++ q.rest) puts_full
                  (All-append (IsFullLine seed size worker) q.front q.rest reloads_full gets_full))
