-- What the replies of lines that were all done come to: counts, what was got, and no other kind.
use Rattle.std.specs.Prelude.{All}
use Rattle.std.specs.List.{list_any, range_with_len}
use Rattle.std.proofs.Common.{◌≡◌, ℕ, zero, suc, ◌+◌, ◌<◌, ◌≤◌, Bool, true, false, List, [], ◌∷◌, ◌++◌, length, map, get_or, count_by, refl, ap, sym, subst, ◌∙◌, arith}
use Rattle.std.proofs.lemmas.List.{append_assoc, length-map}
use Rattle.std.proofs.lemmas.List.Elements.{All-cons, All-head, All-nil, All-tail}
use Rattle.std.proofs.lemmas.List.Folds.{list_any_none}
use Rattle.kr_script.specs.declared.script.ScriptLine.{ScriptLine}
use Rattle.kr_script.specs.declared.script.ScriptLine.TheVariants as line
use Rattle.kr_script.specs.declared.told.Told.{Told}
use Rattle.kr_script.specs.declared.told.Told.TheVariants as told
use Rattle.kr_judge.specs.declared.verdict.Verdict.{Verdict}
use Rattle.kr_workers.specs.Runs.{LineDone, lines_in, replies_in}
use Rattle.kr_workload.specs.FullLoads.{objects_at}
use Rattle.kr_workload.specs.Loads.{load_get_line, lines_of, object_path, plain_of, put_of, load_reloads}
use Rattle.kr_workload.specs.Summaries.{GotObjects, replied_objects, objects_in, is_got, is_put_reply}
use Rattle.kr_workload.proofs.LoadHistories.{front_all, secrets}
use Rattle.kr_workload.proofs.LoadLines.{IsReloading, long}
use Rattle.kr_workload.proofs.LoadReplies.{IsFullReply}
use Rattle.kr_workload.proofs.LoadSeats.{IsFullLine, IsSaid}
use Rattle.kr_workload.proofs.RunParts.{IsNumbered, Splits, count_all, count_behind, count_none, head_line, numbered_all, tail_lines}

-- ---- one reply

-- a test that fails at the replies of lines that were done
pub record IsElse (test : Told → Bool) : Type 0 where
  pub put : (revision : ℕ) → test (told.Put revision) ≡ false
  pub got : (revision : ℕ) (plain : List ℕ) → test (told.Got revision plain) ≡ false
  pub reloaded : (generation : ℕ) → test (told.Reloaded generation) ≡ false
  pub refused : (verdict : Verdict) → test (told.Refused verdict) ≡ false

module _ (Said : List ℕ → List ℕ → Type 0) where
  else_fails : (test : Told → Bool) → IsElse test → (asked : ScriptLine) (reply : Told)
      → IsFullReply Said asked reply → test reply ≡ false
  else_fails test e (line.Put resource path plain) (told.Put revision) f = e.put revision
  else_fails test e (line.Get path) (told.Got revision plain) f = e.got revision plain
  else_fails test e (line.Reload replica file) (told.Reloaded generation) f =
      e.reloaded generation
  else_fails test e (line.Reload replica file) (told.Refused verdict) f = e.refused verdict
  else_fails test e asked reply f = absurd f

  put_is : (resource path plain : List ℕ) (reply : Told)
      → IsFullReply Said (line.Put resource path plain) reply
      → (is_put_reply reply ≡ true) × (is_got reply ≡ false)
  unfolding is_put_reply is_got
  put_is resource path plain (told.Put revision) f = (refl, refl)
  put_is resource path plain reply f = absurd f

  reload_is : (replica : ℕ) (file : List ℕ) (reply : Told)
      → IsFullReply Said (line.Reload replica file) reply
      → (is_put_reply reply ≡ false) × (is_got reply ≡ false)
  unfolding is_put_reply is_got
  reload_is replica file (told.Reloaded generation) f = (refl, refl)
  reload_is replica file (told.Refused verdict) f = (refl, refl)
  reload_is replica file reply f = absurd f

  get_is : (path plain : List ℕ) → ((found : List ℕ) → Said path found → found ≡ plain)
      → (reply : Told) → IsFullReply Said (line.Get path) reply
      → (is_put_reply reply ≡ false) × (is_got reply ≡ true)
      × (replied_objects (line.Get path) reply ≡ (path, plain) ∷ [])
  unfolding is_put_reply is_got
  get_is path plain says (told.Got revision found) f =
      (refl, refl, ap (λ (d : List ℕ). (path, d) ∷ []) (says found f))
  get_is path plain says reply f = absurd f

-- ---- of some lines

-- what was got, line by line
abbrev objects_run : List LineDone → GotObjects
objects_run [] = []
objects_run (done ∷ run) = replied_objects done.line done.reply ++ objects_run run

objects_is : (run : List LineDone) → objects_in (lines_in run) (replies_in run) ≡ objects_run run
objects_is [] = refl
objects_is (done ∷ run) = ap (λ l. replied_objects done.line done.reply ++ l) (objects_is run)

objects_behind : (run more : List LineDone)
    → objects_run (run ++ more) ≡ objects_run run ++ objects_run more
objects_behind [] more = refl
objects_behind (done ∷ run) more =
    ap (λ l. replied_objects done.line done.reply ++ l) (objects_behind run more)
    ∙ sym (append_assoc (replied_objects done.line done.reply) (objects_run run) (objects_run more))

nothing_got : (run : List LineDone)
    → All (λ (done : LineDone). replied_objects done.line done.reply ≡ []) run → objects_run run ≡ []
nothing_got [] all = refl
nothing_got (done ∷ run) all =
    let Is : LineDone → Type 0 = λ d. replied_objects d.line d.reply ≡ [] in
    λ i. All-head Is done run all i ++ nothing_got run (All-tail Is done run all) i

replies_behind : (run more : List LineDone)
    → replies_in (run ++ more) ≡ replies_in run ++ replies_in more
replies_behind [] more = refl
replies_behind (done ∷ run) more = ap (λ l. done.reply ∷ l) (replies_behind run more)

back_all : {X : Type 0} (P : X → Type 0) (xs ys : List X) → All P (xs ++ ys) → All P ys
back_all P [] ys a = a
back_all P (x ∷ xs) ys a = back_all P xs ys (All-tail P x (xs ++ ys) a)

-- ---- of a worker

-- what a worker of a load told in all
pub record IsFullWorker (seed size worker : ℕ) (replies : List Told) : Type 0 where
  pub puts : count_by is_put_reply replies ≡ size
  pub gets : count_by is_got replies ≡ size
  pub objects : objects_in (lines_of seed size worker) replies ≡ objects_at seed size worker
  pub quiet : (test : Told → Bool) → IsElse test → list_any test replies ≡ false

quiet_run : (seed size worker : ℕ) (run : List LineDone)
    → All (IsFullLine seed size worker) run → (test : Told → Bool) → IsElse test
    → All (λ (reply : Told). test reply ≡ false) (replies_in run)
quiet_run seed size worker [] all test e = All-nil (λ (reply : Told). test reply ≡ false)
quiet_run seed size worker (done ∷ run) all test e =
    let Is : LineDone → Type 0 = λ d. IsFullLine seed size worker d in
    All-cons (λ (reply : Told). test reply ≡ false) done.reply (replies_in run)
    (else_fails (IsSaid seed size worker) test e done.line done.reply
    (All-head Is done run all))
    (quiet_run seed size worker run (All-tail Is done run all) test e)

module _ (seed size worker : ℕ) where
  record IsPut (done : LineDone) : Type 0 where
    put : is_put_reply done.reply ≡ true
    got : is_got done.reply ≡ false
    objects : replied_objects done.line done.reply ≡ []

  record IsOther (done : LineDone) : Type 0 where
    put : is_put_reply done.reply ≡ false
    got : is_got done.reply ≡ false
    objects : replied_objects done.line done.reply ≡ []

  record IsGet (done : LineDone) : Type 0 where
    put : is_put_reply done.reply ≡ false
    got : is_got done.reply ≡ true

  put_so : (done : LineDone) → IsNumbered (put_of seed size worker) size done
      → IsFullLine seed size worker done → IsPut done
  put_so done n f =
      let p = put_is (IsSaid seed size worker) secrets (object_path worker n.number)
      (plain_of seed size worker n.number) done.reply
      (subst (λ (l : ScriptLine). IsFullReply (IsSaid seed size worker) l done.reply) n.line_is f)
      in record {
        put = p.0;
        got = p.1;
        objects = ap (λ (l : ScriptLine). replied_objects l done.reply) n.line_is;
      }

  reload_so : (done : LineDone) → IsReloading done.line → IsFullLine seed size worker done
      → IsOther done
  reload_so done (replica, file, is, named) f =
      let p = reload_is (IsSaid seed size worker) replica file done.reply
      (subst (λ (l : ScriptLine). IsFullReply (IsSaid seed size worker) l done.reply) is f) in
      record {
        put = p.0;
        got = p.1;
        objects = ap (λ (l : ScriptLine). replied_objects l done.reply) is;
      }

  module _ (done : LineDone) (number : ℕ) (below : number < size)
      (is : done.line ≡ load_get_line worker number) (f : IsFullLine seed size worker done) where
    get_parts : (is_put_reply done.reply ≡ false) × (is_got done.reply ≡ true)
        × (replied_objects (load_get_line worker number) done.reply
        ≡ (object_path worker number, plain_of seed size worker number) ∷ [])
    get_parts = get_is (IsSaid seed size worker) (object_path worker number)
        (plain_of seed size worker number) (λ found says. says number below refl) done.reply
        (subst (λ (l : ScriptLine). IsFullReply (IsSaid seed size worker) l done.reply) is f)

    get_so : IsGet done
    get_so = record { put = get_parts.0; got = get_parts.1 }

    got_so : replied_objects done.line done.reply
        ≡ (object_path worker number, plain_of seed size worker number) ∷ []
    got_so = ap (λ (l : ScriptLine). replied_objects l done.reply) is ∙ get_parts.2

  all_got : (first count : ℕ) → first + count ≤ size → (run : List LineDone)
      → lines_in run ≡ map (load_get_line worker) (range_with_len first count)
      → All (IsFullLine seed size worker) run
      → objects_run run ≡ map (λ number. (object_path worker number, plain_of seed size worker number))
      (range_with_len first count)
  all_got first zero few [] is all = refl
  all_got first (suc count) few (done ∷ run) is all =
      let Is : LineDone → Type 0 = λ d. IsFullLine seed size worker d in
      let one = got_so done first (omega (arith, few)) (ap (head_line done.line) is)
      (All-head Is done run all) in
      let more = all_got (first + 1) count (omega (arith, few)) run (ap tail_lines is)
      (All-tail Is done run all) in λ i. one i ++ more i
  all_got first other few another is all = absurd (let e = ap length is in omega (arith, e))

  module _ (run : List LineDone) (all : All (IsFullLine seed size worker) run)
      (p : Splits run (map (put_of seed size worker) (range_with_len 0 size))
      (load_reloads worker ++ map (load_get_line worker) (range_with_len 0 size)))
      (q : Splits p.rest (load_reloads worker) (map (load_get_line worker) (range_with_len 0 size)))
      (reloads : All (λ (done : LineDone). IsReloading done.line) q.front) where
    run_is : run ≡ p.front ++ (q.front ++ q.rest)
    run_is = p.is ∙ ap (λ l. p.front ++ l) q.is

    all_so : All (IsFullLine seed size worker) (p.front ++ (q.front ++ q.rest))
    all_so = subst (λ l. All (IsFullLine seed size worker) l) run_is all

    all_rest : All (IsFullLine seed size worker) (q.front ++ q.rest)
    all_rest = back_all (IsFullLine seed size worker) p.front (q.front ++ q.rest) all_so

    puts_so : All IsPut p.front
    puts_so = λ k d below. put_so (get_or p.front k d)
        (numbered_all (put_of seed size worker) size p.front p.front_is k d below)
        (front_all (IsFullLine seed size worker) p.front (q.front ++ q.rest) all_so k d below)

    others_so : All IsOther q.front
    others_so = λ k d below. reload_so (get_or q.front k d) (reloads k d below)
        (front_all (IsFullLine seed size worker) q.front q.rest all_rest k d below)

    gets_all : All (IsFullLine seed size worker) q.rest
    gets_all = back_all (IsFullLine seed size worker) q.front q.rest all_rest

    gets_so : All IsGet q.rest
    gets_so = λ k d below.
        let n = numbered_all (load_get_line worker) size q.rest q.rest_is k d below in
        get_so (get_or q.rest k d) n.number n.below n.line_is (gets_all k d below)

    replies_are : replies_in run ≡ replies_in p.front ++ (replies_in q.front ++ replies_in q.rest)
    replies_are = ap replies_in run_is ∙ replies_behind p.front (q.front ++ q.rest)
        ∙ ap (λ l. replies_in p.front ++ l) (replies_behind q.front q.rest)

    front_long : length p.front ≡ size
    front_long = sym (length-map p.front (λ (d : LineDone). d.line)) ∙ ap length p.front_is
        ∙ long (put_of seed size worker) 0 size

    rest_long : length q.rest ≡ size
    rest_long = sym (length-map q.rest (λ (d : LineDone). d.line)) ∙ ap length q.rest_is
        ∙ long (load_get_line worker) 0 size

    counted : (test : Told → Bool) → count_by test (replies_in run)
        ≡ count_by test (replies_in p.front) + (count_by test (replies_in q.front)
        + count_by test (replies_in q.rest))
    counted test = ap (count_by test) replies_are
        ∙ count_behind test (replies_in p.front) (replies_in q.front ++ replies_in q.rest)
        ∙ ap (λ n. count_by test (replies_in p.front) + n)
        (count_behind test (replies_in q.front) (replies_in q.rest))

    puts_are : count_by is_put_reply (replies_in run) ≡ size
    puts_are = omega (
      arith,
      counted is_put_reply,
      count_all is_put_reply p.front (λ k d below. (puts_so k d below).put),
      count_none is_put_reply q.front (λ k d below. (others_so k d below).put),
      count_none is_put_reply q.rest (λ k d below. (gets_so k d below).put),
      front_long,
    )

    gets_are : count_by is_got (replies_in run) ≡ size
    gets_are = omega (
      arith,
      counted is_got,
      count_none is_got p.front (λ k d below. (puts_so k d below).got),
      count_none is_got q.front (λ k d below. (others_so k d below).got),
      count_all is_got q.rest (λ k d below. (gets_so k d below).got),
      rest_long,
    )

    objects_are : objects_run run ≡ objects_at seed size worker
    objects_are = ap objects_run run_is ∙ objects_behind p.front (q.front ++ q.rest)
        ∙ ap (λ l. l ++ objects_run (q.front ++ q.rest))
        (nothing_got p.front (λ k d below. (puts_so k d below).objects))
        ∙ objects_behind q.front q.rest
        ∙ ap (λ l. l ++ objects_run q.rest)
        (nothing_got q.front (λ k d below. (others_so k d below).objects))
        ∙ all_got 0 size (omega arith) q.rest q.rest_is gets_all

    pub full_worker : (replies : List Told) → replies ≡ replies_in run
        → lines_in run ≡ lines_of seed size worker → IsFullWorker seed size worker replies
    full_worker replies is lines = record {
      puts = ap (count_by is_put_reply) is ∙ puts_are;
      gets = ap (count_by is_got) is ∙ gets_are;
      objects = (λ i. objects_in (sym lines i) (is i)) ∙ objects_is run ∙ objects_are;
      quiet = λ test e. list_any_none test replies
          (subst (λ l. All (λ (reply : Told). test reply ≡ false) l) (sym is)
          (quiet_run seed size worker run all test e));
    }
