-- The answer for a text is what it means.
use Rattle.std.proofs.Common.{◌≡◌, ℕ, suc, ◌+◌, ◌<◌, ◌≤◌, Bool, true, false, List, [], ◌∷◌}
use Rattle.std.proofs.Common.{◌++◌, length, map, take, Option, None, Some, Result, Ok, Err, refl, sym}
use Rattle.std.proofs.Common.{ap, ◌∙◌, subst, arith, inl, inr}
use Rattle.std.specs.Prelude.{◌&&◌, ◌||◌, nat_lt, is_some, option_and_then, if◌then◌else◌}
use Rattle.std.specs.List.{list_any, list_all, filter}
use Rattle.std.specs.Option.{option_map, option_to_list}
use Rattle.std.specs.Str.{is_utf8}
use Rattle.std.specs.Str.Lines.{lines}
use Rattle.std.proofs.lemmas.Bool.{and_parts, and_from, both_ways, ltb-true, ltb-false}
use Rattle.std.proofs.lemmas.List.{append_assoc, append-nil, map-append, length-append}
use Rattle.std.proofs.lemmas.List.{take_all}
use Rattle.std.proofs.lemmas.List.Folds.{list_all-append, list_any-append}
use Rattle.kr_script.specs.declared.script.Script.{Script}
use Rattle.kr_script.specs.declared.script.ScriptNo.{ScriptNo}
use Rattle.kr_script.specs.declared.script.ScriptNo.TheVariants.{Breach, Replicas, Workers, TooLarge}
use Rattle.kr_script.specs.declared.script.ScriptNo.TheVariants.{NoMemory}
use Rattle.kr_script.specs.declared.script.ScriptLine.{ScriptLine}
use Rattle.kr_script.specs.declared.statement.Statement.{Statement}
use Rattle.kr_script.specs.declared.statement.Statement.TheVariants as statement
use Rattle.kr_script.specs.declared.line_error.ScriptLineError.{ScriptLineError}
use Rattle.kr_script.specs.declared.line_error.ScriptLineError.TheVariants as line_error
use Rattle.kr_script.specs.Fleets.{Fleet, Worker}
use Rattle.kr_script.specs.Rows.{Row, words_of, word_rows, is_spoken}
use Rattle.kr_script.specs.Statements.{WriteAll, statements_of}
use Rattle.kr_script.specs.Rules.{IsWhole, KeepsFleetLimits, is_long, replica_limit}
use Rattle.kr_script.specs.Rules.{worker_limit, is_worker, is_line}
use Rattle.kr_script.specs.Meanings.{Say, IsBegun, IsNoBeginning, ExceedsLimit, HasReplicas}
use Rattle.kr_script.specs.Meanings.{HasWorkers, HasData, LinesMean, MeansScript, ReadsScript}
use Rattle.kr_script.specs.inner.Drafts.{Draft, start, fleet_in, workers_in, statement_of, step}
use Rattle.kr_script.specs.inner.Drafts.{with_statement, with_line, new_worker, passes, draft_within}
use Rattle.kr_script.specs.inner.Drafts.{step_by}
use Rattle.kr_script.specs.inner.Reading.{goes_on, fleet_at_end, answer, at_line, Gives}
use Rattle.kr_base.specs.Rules.{is_name}
use Rattle.kr_script.proofs.Lists.{then_some, or_none, any_parts, any_one, none_some}
use Rattle.kr_script.proofs.Nexts.{MayCome, reads_next}
use Rattle.kr_script.proofs.Keys.{Replicas as Listed}
use Rattle.kr_script.proofs.Sound.{run, Holds, Stands, sound_step, sound}
use Rattle.kr_script.proofs.Complete.{complete}

abbrev pub Text : Type 0
Text = List (List ℕ)

-- ---- rows of lines

filter_append : (p : Row → Bool) (xs ys : List Row)
    → filter p (xs ++ ys) ≡ filter p xs ++ filter p ys
filter_append p [] ys = refl
filter_append p (x ∷ xs) ys = by (p x) (filter_append p xs ys)
  where
    by : (b : Bool) → filter p (xs ++ ys) ≡ filter p xs ++ filter p ys
        → (if b then x ∷ filter p (xs ++ ys) else filter p (xs ++ ys))
        ≡ (if b then x ∷ filter p xs else filter p xs) ++ filter p ys
    by true more = ap (λ (l : List Row). x ∷ l) more
    by false more = more

pub rows_append : (text more : Text) → word_rows (text ++ more) ≡ word_rows text ++ word_rows more
rows_append text more = ap (filter is_spoken) (map-append words_of text more)
    ∙ filter_append is_spoken (map words_of text) (map words_of more)

spoken : (line : List ℕ) → is_spoken (words_of line) ≡ true
    → word_rows (line ∷ []) ≡ words_of line ∷ []
spoken line e = ap (λ b. if b then words_of line ∷ [] else []) e

silent : (line : List ℕ) → is_spoken (words_of line) ≡ false → word_rows (line ∷ []) ≡ []
silent line e = ap (λ b. if b then words_of line ∷ [] else []) e

pub utf8_push : (text : Text) (line : List ℕ) → list_all is_utf8 text ≡ true → is_utf8 line ≡ true
    → list_all is_utf8 (text ++ line ∷ []) ≡ true
utf8_push text line e f = list_all-append is_utf8 text (line ∷ [])
    ∙ and_from (list_all is_utf8 text) (is_utf8 line && true) e
    (and_from (is_utf8 line) true f refl)

pub utf8_last : (text : Text) (line : List ℕ) → list_all is_utf8 (text ++ line ∷ []) ≡ true
    → is_utf8 line ≡ true
utf8_last text line e =
    let parts = and_parts (list_all is_utf8 text) (is_utf8 line && true)
    (sym (list_all-append is_utf8 text (line ∷ [])) ∙ e) in
    (and_parts (is_utf8 line) true parts.1).0

-- ---- limits

pub within_start : KeepsFleetLimits (fleet_in start)
within_start = record { replicas = omega arith; workers = omega arith; lines = refl }

pub long_push : (ws : List Worker) (w : Worker) → list_any (λ (x : Worker). list_any is_long x.lines) ws
    ≡ false → list_any is_long w.lines ≡ false
    → list_any (λ (x : Worker). list_any is_long x.lines) (ws ++ w ∷ []) ≡ false
long_push ws w e f = list_any-append (λ (x : Worker). list_any is_long x.lines) ws (w ∷ [])
    ∙ or_none (list_any (λ (x : Worker). list_any is_long x.lines) ws)
    (list_any is_long w.lines || false) e (or_none (list_any is_long w.lines) false f refl)

pub long_parts : (ws : List Worker) (w : Worker)
    → list_any (λ (x : Worker). list_any is_long x.lines) (ws ++ w ∷ []) ≡ false
    → (list_any (λ (x : Worker). list_any is_long x.lines) ws ≡ false)
    × (list_any is_long w.lines ≡ false)
long_parts ws w e =
    let parts = any_parts
    (λ (x : Worker). list_any is_long x.lines) ws (w ∷ []) e in (
      parts.0,
      any_one
          (λ (x : Worker). list_any is_long x.lines) w parts.1,
    )

lines_push : (lines : List ScriptLine) (line : ScriptLine) (b : Bool) → is_long line ≡ b
    → list_any is_long lines ≡ false → list_any is_long (lines ++ line ∷ []) ≡ b
lines_push lines line true e f = list_any-append is_long lines (line ∷ [])
    ∙ ap (λ x. x || (is_long line || false)) f ∙ ap (λ x. x || false) e
lines_push lines line false e f = list_any-append is_long lines (line ∷ [])
    ∙ ap (λ x. x || (is_long line || false)) f ∙ ap (λ x. x || false) e

long_here : (ws : List Worker) (w : Worker) → list_any is_long w.lines ≡ true
    → list_any (λ (x : Worker). list_any is_long x.lines) (ws ++ w ∷ []) ≡ true
long_here ws w e = list_any-append (λ (x : Worker). list_any is_long x.lines) ws (w ∷ [])
    ∙ ap (λ b. list_any (λ (x : Worker). list_any is_long x.lines) ws || (b || false)) e
    ∙ any_true (list_any (λ (x : Worker). list_any is_long x.lines) ws)
  where
    any_true : (b : Bool) → (b || (true || false)) ≡ true
    any_true true = refl
    any_true false = refl

pub one_more : {T : Type 0} (xs : List T) (x : T) → length (xs ++ x ∷ []) ≡ length xs + 1
one_more xs x = length-append xs (x ∷ [])

-- what a step leaves: within the limits, or past the one that it names
abbrev pub Left : Option ScriptLineError → Fleet → Type 0
Left None fleet = KeepsFleetLimits fleet
Left (Some line_error.Form) fleet = ⊥
Left (Some line_error.Replicas) fleet = HasReplicas fleet
Left (Some line_error.Workers) fleet = HasWorkers fleet
Left (Some line_error.TooLarge) fleet = HasData fleet
Left (Some line_error.NoMemory) fleet = ⊥

left_replica : (d : Draft) (name file : List ℕ) (b : Bool)
    → nat_lt (length d.replicas) replica_limit ≡ b → KeepsFleetLimits (fleet_in d)
    → Left (if b then None else Some line_error.Replicas)
    (fleet_in (with_statement d (statement.Replica name file)))
left_replica d name file true e h = record {
  replicas = let l = ltb-true (length d.replicas) replica_limit e in
      let m = one_more d.replicas (name, file) in omega (arith, l, m);
  workers = h.workers;
  lines = h.lines;
}
left_replica d name file false e h =
    let l = ltb-false (length d.replicas) replica_limit e in
    let m = one_more d.replicas (name, file) in omega (arith, l, m)

left_worker : (d : Draft) (name : List ℕ) (k : ℕ) (b : Bool)
    → nat_lt (length (workers_in d)) worker_limit ≡ b → KeepsFleetLimits (fleet_in d)
    → Left (if b then None else Some line_error.Workers)
    (fleet_in (with_statement d (statement.Worker name k)))
left_worker d name k true e h = record {
  replicas = h.replicas;
  workers = let l = ltb-true (length (workers_in d)) worker_limit e in
      let m = one_more (workers_in d) (new_worker name k) in omega (arith, l, m);
  lines = long_push (workers_in d) (new_worker name k) h.lines refl;
}
left_worker d name k false e h =
    let l = ltb-false (length (workers_in d)) worker_limit e in
    let m = one_more (workers_in d) (new_worker name k) in (h.replicas, omega (arith, l, m))

left_last : (rs : Listed) (ws : List Worker) (w : Worker) (line : ScriptLine) (b : Bool)
    → is_long line ≡ b → KeepsFleetLimits (record { replicas = rs; workers = ws ++ w ∷ [] })
    → Left (if b then Some line_error.TooLarge else None)
    (record { replicas = rs; workers = ws ++ with_line line w ∷ [] })
left_last rs ws w line b e h =
    let parts = long_parts ws w h.lines in
    let m = one_more ws w in
    let n = one_more ws (with_line line w) in
    let few : length (ws ++ with_line line w ∷ []) ≤ worker_limit
    = let k = h.workers in omega (arith, k, m, n) in
    by b (lines_push w.lines line b e parts.1) parts.0 few
  where
    by : (b : Bool) → list_any is_long (w.lines ++ line ∷ []) ≡ b
        → list_any (λ (x : Worker). list_any is_long x.lines) ws ≡ false
        → length (ws ++ with_line line w ∷ []) ≤ worker_limit
        → Left (if b then Some line_error.TooLarge else None)
        (record { replicas = rs; workers = ws ++ with_line line w ∷ [] })
    by true long none few = (h.replicas, few, long_here ws (with_line line w) long)
    by false long none few = record {
      replicas = h.replicas;
      workers = few;
      lines = long_push ws (with_line line w) none long;
    }

left_line : (rs : Listed) (ws : List Worker) (last : Option Worker) (line : ScriptLine)
    → is_some last ≡ true
    → KeepsFleetLimits (record { replicas = rs; workers = ws ++ option_to_list last })
    → Left (if is_long line then Some line_error.TooLarge else None)
    (record { replicas = rs; workers = ws ++ option_to_list (option_map (with_line line) last) })
left_line rs ws None line some h = absurd (both_ways false refl some)
left_line rs ws (Some w) line some h = left_last rs ws w line (is_long line) refl h

pub left_by : (d : Draft) (st : Statement) → KeepsFleetLimits (fleet_in d)
    → MayCome d st
    → Left (passes d st) (fleet_in (with_statement d st))
left_by d statement.Head h may = record {
  replicas = h.replicas;
  workers = h.workers;
  lines = h.lines;
}
left_by d (statement.Replica name file) h may =
    left_replica d name file (nat_lt (length d.replicas) replica_limit) refl h
left_by d (statement.Worker name k) h may =
    left_worker d name k (nat_lt (length (workers_in d)) worker_limit) refl h
left_by d (statement.Line line) h may = left_line d.replicas d.workers d.last line may.1 h

-- ---- what stands so far

-- the first lines, as they were read
pub record Stood (text : Text) (d : Draft) : Type 0 where
  pub utf8 : list_all is_utf8 text ≡ true
  pub ran : run start (word_rows text) ≡ Some d
  pub within : KeepsFleetLimits (fleet_in d)

stands_text : (text : Text) (d : Draft) → list_all is_utf8 text ≡ true → Stands (word_rows text) d
    → KeepsFleetLimits (fleet_in d) → IsBegun text
stands_text text d utf8 (inl (none, is)) within = inl (record { utf8 = utf8; blank = none })
stands_text text d utf8 (inr h) within =
    inr (fleet_in d, record { utf8 = utf8; written = h.written; rules = h.rules }, within)

pub begun : (text : Text) (d : Draft) → Stood text d → IsBegun text
begun text d s = stands_text text d s.utf8 (sound (word_rows text) d s.ran) s.within

run_append : (d : Draft) (rows more : List Row) (e : Draft) → run d rows ≡ Some e
    → run d (rows ++ more) ≡ run e more
run_append d [] more e ran = let same : d ≡ e = cc in ap (λ (x : Draft). run x more) same
run_append d (row ∷ rows) more e ran =
    let (st, read, after) = then_some (λ said. run (with_statement d said) rows)
    (statement_of d row) e ran in
    ap (option_and_then (λ said. run (with_statement d said) (rows ++ more))) read
    ∙ run_append (with_statement d st) rows more e after

pub run_push : (text : Text) (line : List ℕ) (d : Draft) → run start (word_rows text) ≡ Some d
    → is_spoken (words_of line) ≡ true
    → run start (word_rows (text ++ line ∷ []))
    ≡ option_and_then (λ said. Some (with_statement d said)) (statement_of d (words_of line))
run_push text line d ran spoke =
    ap (run start) (rows_append text (line ∷ []))
    ∙ run_append start (word_rows text) (word_rows (line ∷ [])) d ran
    ∙ ap (run d) (spoken line spoke)

pub run_silent : (text : Text) (line : List ℕ) (d : Draft) → run start (word_rows text) ≡ Some d
    → is_spoken (words_of line) ≡ false → run start (word_rows (text ++ line ∷ [])) ≡ Some d
run_silent text line d ran silence =
    ap (run start) (rows_append text (line ∷ []) ∙ ap (λ (l : List Row). word_rows text ++ l)
    (silent line silence) ∙ append-nil (word_rows text)) ∙ ran

-- where reading stops, no fleet is written
none_written : (text : Text) → run start (word_rows text) ≡ None → IsNoBeginning text
none_written text stop = (
  λ s. let bad : None ≡ Some start = sym stop ∙ ap (run start) s.blank in
      none_some start bad,
  λ fleet s. let r = complete (word_rows text) fleet s.written s.rules in
      none_some r.draft (sym stop ∙ r.ran),
)

not_text : (text : Text) (line : List ℕ) → is_utf8 line ≡ false → IsNoBeginning (text ++ line ∷ [])
not_text text line e = (
  λ s. both_ways (is_utf8 line) e (utf8_last text line s.utf8),
  λ fleet s. both_ways (is_utf8 line) e (utf8_last text line s.utf8),
)

-- the text in front of a line, and with it
taken_next : (text : Text) (line : List ℕ) (more : Text)
    → take (suc (length text)) (text ++ line ∷ more) ≡ text ++ line ∷ []
taken_next [] line more = refl
taken_next (x ∷ text) line more = ap (λ (l : Text). x ∷ l) (taken_next text line more)

taken_at : (text : Text) (line : List ℕ) (more : Text)
    → take (length text + 1) (text ++ line ∷ more) ≡ text ++ line ∷ []
taken_at text line more =
    let one : length text + 1 ≡ suc (length text) = omega arith in
    ap (λ n. take n (text ++ line ∷ more)) one ∙ taken_next text line more

taken_front : (text : Text) (more : Text) → take (length text) (text ++ more) ≡ text
taken_front [] more = refl
taken_front (x ∷ text) more = ap (λ (l : Text). x ∷ l) (taken_front text more)

inside : (text : Text) (line : List ℕ) (more : Text) → length text < length (text ++ line ∷ more)
inside text line more = let e = length-append text (line ∷ more) in omega (arith, e)

breach_at : (text : Text) (line : List ℕ) (more : Text) (d : Draft) (n : ℕ) → Stood text d
    → n ≡ length text + 1 → IsNoBeginning (text ++ line ∷ [])
    → LinesMean (text ++ line ∷ more) (Err (Breach n))
breach_at text line more d n s number none = (
  length text,
  number,
  subst IsBegun (sym (taken_front text (line ∷ more))) (begun text d s),
  inl (inside text line more, subst IsNoBeginning (sym (taken_at text line more)) none),
)

limit_at : (text : Text) (line : List ℕ) (more : Text) (d : Draft) (Limit : Fleet → Type 0)
    (fleet : Fleet) → Stood text d → Say (text ++ line ∷ []) fleet → Limit fleet
    → (at : ℕ) × IsBegun (take at (text ++ line ∷ more)) × ExceedsLimit (text ++ line ∷ more) at Limit
limit_at text line more d Limit fleet s say limit = (
  length text,
  subst IsBegun (sym (taken_front text (line ∷ more))) (begun text d s),
  (
    inside text line more,
    (
      fleet,
      subst (λ (l : Text). Say l fleet) (sym (taken_at text line more)) say,
      limit,
    ),
  ),
)

stopped : (text : Text) (line : List ℕ) (more : Text) (d : Draft) (n : ℕ) (fleet : Fleet)
    (why : ScriptLineError) → Stood text d → Say (text ++ line ∷ []) fleet → Left (Some why) fleet
    → LinesMean (text ++ line ∷ more) (Err (at_line n why))
stopped text line more d n fleet line_error.Replicas s say left =
    limit_at text line more d HasReplicas fleet s say left
stopped text line more d n fleet line_error.Workers s say left =
    limit_at text line more d HasWorkers fleet s say left
stopped text line more d n fleet line_error.TooLarge s say left =
    limit_at text line more d HasData fleet s say left
stopped text line more d n fleet other s say left = absurd left

-- ---- line by line

one_fleet : (text : Text) (d : Draft) (fleet : Fleet) → Stood text d → Say text fleet
    → fleet_in d ≡ fleet
one_fleet text d fleet s say =
    let r = complete (word_rows text) fleet say.written say.rules in
    let both : Some d ≡ Some r.draft = sym s.ran ∙ r.ran in
    let same : d ≡ r.draft = cc in ap fleet_in same ∙ r.is

pub ends_by : (text : Text) (d : Draft) (n : ℕ) (b : Bool) → is_some d.last ≡ b → Stood text d
    → n ≡ length text + 1
    → LinesMean text (if b then Ok (fleet_in d) else Err (Breach n))
ends_by text d n true some s number = whole (sound (word_rows text) d s.ran)
  where
    first : (o : Option Worker) (ws : List Worker) → is_some o ≡ true
        → 1 ≤ length (ws ++ option_to_list o)
    first None ws e = absurd (both_ways false refl e)
    first (Some w) ws e = let m = one_more ws w in omega (arith, m)

    placed : (count : ℕ) (ws : List Worker) → 1 ≤ length ws → list_all (is_worker count) ws ≡ true
        → 1 ≤ count
    placed count [] some all = absurd (omega (arith, some))
    placed count (w ∷ ws) some all =
        let one = (and_parts (is_worker count w) (list_all (is_worker count) ws) all).0 in
        let two = and_parts (is_name w.name && nat_lt w.replica count)
        (list_all (is_line count) w.lines) one in
        let three = and_parts (is_name w.name) (nat_lt w.replica count)
        two.0 in
        let l = ltb-true w.replica count three.1 in omega (arith, l)

    whole : Stands (word_rows text) d → LinesMean text (Ok (fleet_in d))
    whole (inl (none, is)) = let e : is_some d.last ≡ false = ap (λ (x : Draft). is_some x.last) is in
        absurd (both_ways (is_some d.last) e some)
    whole (inr h) = (
      record { utf8 = s.utf8; written = h.written; rules = h.rules },
      s.within,
      record {
        replicas = placed (length d.replicas) (workers_in d) (first d.last d.workers some)
            h.rules.workers;
        workers = first d.last d.workers some;
      },
    )
ends_by text d n false none s number = (
  length text,
  number,
  subst IsBegun (sym (take_all (length text) text (omega arith))) (begun text d s),
  inr (refl, λ fleet say whole. no_worker fleet say whole),
)
  where
    empty : Stands (word_rows text) d → workers_in d ≡ []
    empty (inl (blank, is)) = ap workers_in is
    empty (inr h) = ap (λ (l : List Worker). l ++ option_to_list d.last) (h.closed none)
        ∙ no_last d.last none
      where
        no_last : (o : Option Worker) → is_some o ≡ false → option_to_list o ≡ []
        no_last None e = refl
        no_last (Some w) e = absurd (both_ways true e refl)

    no_worker : (fleet : Fleet) → Say text fleet → IsWhole fleet → ⊥
    no_worker fleet say whole =
        let same = one_fleet text d fleet s say in
        let none : length fleet.workers ≡ 0 = sym (ap (λ (f : Fleet). length f.workers) same)
        ∙ ap (λ (ws : List Worker). length ws) (empty (sound (word_rows text) d s.ran)) in
        let some = whole.workers in omega (arith, none, some)

shifted : (text : Text) (line : List ℕ) (n : ℕ) → n ≡ length text + 1
    → n + 1 ≡ length (text ++ line ∷ []) + 1
shifted text line n e = let m = one_more text line in omega (arith, e, m)

-- the lines from here on, behind those before
abbrev Goes : Text → Text → ℕ → Draft → Type 0
Goes text more n d = Stood text d → n ≡ length text + 1
    → LinesMean (text ++ more) (answer n d more)

spoken_line : (text : Text) (line : List ℕ) (more : Text) (n : ℕ) (d : Draft)
    (o : Option Statement) → statement_of d (words_of line) ≡ o → Stood text d
    → n ≡ length text + 1 → is_utf8 line ≡ true → is_spoken (words_of line) ≡ true
    → ((e : Draft) → Stood (text ++ line ∷ []) e
    → LinesMean (text ++ line ∷ more) (answer (n + 1) e more))
    → LinesMean (text ++ line ∷ more)
    (goes_on n (step_by d o) (λ e. answer (n + 1) e more))
spoken_line text line more n d None read s number utf8 spoke rest =
    breach_at text line more d n s number (none_written (text ++ line ∷ [])
    (run_push text line d s.ran spoke
    ∙ ap (option_and_then (λ said. Some (with_statement d said))) read))
spoken_line text line more n d (Some st) read s number utf8 spoke rest =
    by (passes d st) (left_by d st s.within
    (reads_next d (words_of line) st read).0)
  where
    ran : run start (word_rows (text ++ line ∷ [])) ≡ Some (with_statement d st)
    ran = run_push text line d s.ran spoke
        ∙ ap (option_and_then (λ said. Some (with_statement d said))) read

    holds : Stands (word_rows (text ++ line ∷ [])) (with_statement d st)
    holds = sound (word_rows (text ++ line ∷ [])) (with_statement d st) ran

    texts : list_all is_utf8 (text ++ line ∷ []) ≡ true
    texts = utf8_push text line s.utf8 utf8

    says : Holds (word_rows text ++ words_of line ∷ []) (with_statement d st)
        → Say (text ++ line ∷ []) (fleet_in (with_statement d st))
    says h = record {
      utf8 = texts;
      written = subst (λ (rows : List Row). WriteAll
          (with_statement d st).replicas rows (statements_of (fleet_in (with_statement d st))))
          (sym (rows_append text (line ∷ []) ∙ ap (λ (l : List Row). word_rows text ++ l)
          (spoken line spoke))) h.written;
      rules = h.rules;
    }

    by : (limit : Option ScriptLineError) → Left limit (fleet_in (with_statement d st))
        → LinesMean (text ++ line ∷ more)
        (goes_on n (draft_within d st limit) (λ e. answer (n + 1) e more))
    by None left = rest (with_statement d st)
        (record { utf8 = texts; ran = ran; within = left })
    by (Some why) left = stopped text line more d n (fleet_in (with_statement d st)) why s
        (says (sound_step (word_rows text) d (words_of line) st
        (sound (word_rows text) d s.ran) read)) left

line_by : (text : Text) (line : List ℕ) (more : Text) (n : ℕ) (d : Draft) (u v : Bool)
    → is_utf8 line ≡ u → is_spoken (words_of line) ≡ v → Stood text d → n ≡ length text + 1
    → ((e : Draft) → Stood (text ++ line ∷ []) e
    → LinesMean (text ++ line ∷ more) (answer (n + 1) e more))
    → LinesMean (text ++ line ∷ more)
    (goes_on n (if u then (if v then step d (words_of line) else Ok d) else Err line_error.Form)
    (λ e. answer (n + 1) e more))
line_by text line more n d false v utf8 spoke s number rest =
    breach_at text line more d n s number (not_text text line utf8)
line_by text line more n d true false utf8 spoke s number rest =
    rest d (record {
      utf8 = utf8_push text line s.utf8 utf8;
      ran = run_silent text line d s.ran spoke;
      within = s.within;
    })
line_by text line more n d true true utf8 spoke s number rest =
    spoken_line text line more n d (statement_of d (words_of line)) refl s number utf8 spoke rest

lines_mean : (text more : Text) (n : ℕ) (d : Draft) → Stood text d → n ≡ length text + 1
    → LinesMean (text ++ more) (answer n d more)
lines_mean text [] n d s number =
    subst (λ (l : Text). LinesMean l (fleet_at_end n d)) (sym (append-nil text))
    (ends_by text d n (is_some d.last) refl s number)
lines_mean text (line ∷ more) n d s number =
    line_by text line more n d (is_utf8 line) (is_spoken (words_of line)) refl refl s number
    (λ e t. subst (λ (l : Text). LinesMean l (answer (n + 1) e more))
    (append_assoc text (line ∷ []) more)
    (lines_mean (text ++ line ∷ []) more (n + 1) e t (shifted text line n number)))

pub answer_meant : (bytes : List ℕ) → MeansScript bytes (answer 1 start (lines bytes))
answer_meant bytes = lines_mean [] (lines bytes) 1 start
    (record { utf8 = refl; ran = refl; within = within_start }) refl

-- what is given is what the bytes mean

pub reads : (bytes : List ℕ) (result : Result Script ScriptNo)
    → Gives (answer 1 start (lines bytes)) result → ReadsScript bytes result
reads bytes (Err NoMemory) e = tt
reads bytes other e = subst (MeansScript bytes) e (answer_meant bytes)
