-- What was said so far, statement by statement, is a fleet in the making that the rows write.
use Rattle.std.proofs.Common.{◌≡◌, ℕ, ◌<◌, Bool, true, false, List, [], ◌∷◌, ◌++◌, length, map}
use Rattle.std.proofs.Common.{Option, None, Some, refl, sym, ap, ◌∙◌, subst, ◌⊎◌, inl, inr}
use Rattle.std.specs.Prelude.{◌&&◌, not, nat_lt, is_some, option_and_then}
use Rattle.std.specs.List.{list_all, flat_map}
use Rattle.std.specs.Option.{option_map, option_to_list}
use Rattle.std.specs.Str.{bytes_eq}
use Rattle.std.proofs.lemmas.Bool.{and_parts, and_from, not-true, both_ways, lt-ltb}
use Rattle.std.proofs.lemmas.List.{append_assoc, append-nil, map-append}
use Rattle.std.proofs.lemmas.List.Concat.{flat_map-append}
use Rattle.std.proofs.lemmas.List.Folds.{list_all-append}
use Rattle.kr_base.specs.Rules.{is_name}
use Rattle.kr_script.specs.declared.script.ScriptLine.{ScriptLine}
use Rattle.kr_script.specs.declared.statement.Statement.{Statement}
use Rattle.kr_script.specs.declared.statement.Statement.TheVariants as statement
use Rattle.kr_script.specs.Fleets.{Worker}
use Rattle.kr_script.specs.Rows.{Row}
use Rattle.kr_script.specs.Statements.{WritesStatement, WriteAll, replica_statement, worker_statements}
use Rattle.kr_script.specs.Statements.{statements_of}
use Rattle.kr_script.specs.Rules.{IsFleet, are_distinct, first_is_in, is_gap, is_line, is_worker}
use Rattle.kr_script.specs.inner.Drafts.{Draft, start, fleet_in, workers_in, statement_of}
use Rattle.kr_script.specs.inner.Drafts.{with_statement, with_line, new_worker, may_be_replica}
use Rattle.kr_script.specs.inner.Drafts.{may_be_worker, knows_replica, knows_worker, is_empty}
use Rattle.kr_script.proofs.Lists.{then_some, all_push, all_push_map, distinct_push_map, any_both}
use Rattle.kr_script.proofs.Keys.{Replicas}
use Rattle.kr_script.proofs.Nexts.{IsNext, reads_next}

-- rows one after the other
abbrev pub run : Draft → List Row → Option Draft
run draft [] = Some draft
run draft (row ∷ rows) =
    option_and_then (λ said. run (with_statement draft said) rows) (statement_of draft row)

pub record Holds (rows : List Row) (d : Draft) : Type 0 where
  pub written : WriteAll d.replicas rows (statements_of (fleet_in d))
  pub rules : IsFleet (fleet_in d)
  pub begun : d.begun ≡ true
  pub closed : is_some d.last ≡ false → d.workers ≡ []

abbrev pub Stands : List Row → Draft → Type 0
Stands rows d = ((rows ≡ []) × (d ≡ start)) ⊎ Holds rows d

pub write_push : (rs : Replicas) (rows : List Row) (ss : List Statement) (row : Row)
    (s : Statement) → WriteAll rs rows ss → WritesStatement rs row s
    → WriteAll rs (rows ++ row ∷ []) (ss ++ s ∷ [])
write_push rs [] [] row s h w = (w, tt)
write_push rs (r ∷ rows) (t ∷ ss) row s h w = (h.0, write_push rs rows ss row s h.1 w)
write_push rs other another row s h w = absurd h

-- rows of replicas name none by its number
heads_stay : (rs qs : Replicas) (rows : List Row) (xs : Replicas)
    → WriteAll rs rows (map replica_statement xs) → WriteAll qs rows (map replica_statement xs)
heads_stay rs qs [] [] h = tt
heads_stay rs qs (row ∷ rows) (x ∷ xs) h = (h.0, heads_stay rs qs rows xs h.1)
heads_stay rs qs other another h = absurd h

front_stays : (rs qs : Replicas) (rows : List Row) (xs : Replicas)
    → WriteAll rs rows (statement.Head ∷ map replica_statement xs)
    → WriteAll qs rows (statement.Head ∷ map replica_statement xs)
front_stays rs qs [] xs h = absurd h
front_stays rs qs (row ∷ rows) xs h = (h.0, heads_stay rs qs rows xs h.1)

no_list : (o : Option Worker) → is_some o ≡ false → option_to_list o ≡ []
no_list None e = refl
no_list (Some w) e = absurd (both_ways true e refl)

no_workers : (d : Draft) → (is_some d.last ≡ false → d.workers ≡ []) → is_some d.last ≡ false
    → workers_in d ≡ []
no_workers d closed none =
    ap (λ l. d.workers ++ l) (no_list d.last none) ∙ append-nil d.workers ∙ closed none

first_push : (rs : Replicas) (name file : List ℕ) → first_is_in rs ≡ true
    → not (is_empty rs && is_gap file) ≡ true → first_is_in (rs ++ (name, file) ∷ []) ≡ true
first_push [] name file e h = h
first_push (r ∷ rs) name file e h = e

sound_replica : (rows : List Row) (d : Draft) (row : Row) (name file : List ℕ) → Holds rows d
    → may_be_replica d name file ≡ true → WritesStatement d.replicas row (statement.Replica name file)
    → Holds (rows ++ row ∷ []) (with_statement d (statement.Replica name file))
sound_replica rows d row name file h may w =
    let rs = d.replicas in
    let more = rs ++ (name, file) ∷ [] in
    let parts = and_parts (not (is_some d.last)) (is_name name
    && (not (knows_replica rs name) && not (is_empty rs && is_gap file))) may in
    let rest = and_parts (is_name name)
    (not (knows_replica rs name) && not (is_empty rs && is_gap file)) parts.1 in
    let last = and_parts (not (knows_replica rs name)) (not (is_empty rs && is_gap file)) rest.1 in
    let none = not-true (is_some d.last) parts.0 in
    let empty = no_workers d h.closed none in
    let before : WriteAll rs rows (statement.Head ∷ map replica_statement rs) =
    subst (WriteAll rs rows) (ap (λ (l : List Statement). statement.Head ∷ l)
    (ap (λ (ws : List Worker). map replica_statement rs ++ flat_map worker_statements ws) empty
    ∙ append-nil (map replica_statement rs))) h.written in
    let after = write_push more rows (statement.Head ∷ map replica_statement rs) row
    (statement.Replica name file) (front_stays rs more rows rs before) w in
    let is : statement.Head ∷ (map replica_statement rs ++ statement.Replica name file ∷ [])
    ≡ statement.Head ∷ (map replica_statement more ++ flat_map worker_statements (workers_in d))
    = ap (λ (l : List Statement). statement.Head ∷ l)
    (sym (ap (λ (ws : List Worker). map replica_statement more ++ flat_map worker_statements ws)
    empty ∙ append-nil (map replica_statement more)
    ∙ map-append replica_statement rs ((name, file) ∷ []))) in
    record {
      written = subst (WriteAll more (rows ++ row ∷ [])) is after;
      rules = record {
        replicas = all_push_map is_name (λ (r : List ℕ × List ℕ). r.0) rs (name, file)
            h.rules.replicas rest.0;
        apart = distinct_push_map (λ (r : List ℕ × List ℕ). r.0) rs (name, file) h.rules.apart
            (not-true (knows_replica rs name) last.0);
        first = first_push rs name file h.rules.first last.1;
        workers = subst (λ (ws : List Worker). list_all (is_worker (length more)) ws ≡ true)
            (sym empty) refl;
        workers_apart = subst
            (λ (ws : List Worker). are_distinct (map (λ (w : Worker). w.name) ws) ≡ true)
            (sym empty) refl;
      };
      begun = h.begun;
      closed = h.closed;
    }

worker_push : (rs : Replicas) (ws : List Worker) (w : Worker)
    → statement.Head ∷ (map replica_statement rs ++ flat_map worker_statements (ws ++ w ∷ []))
    ≡ statement.Head ∷ ((map replica_statement rs ++ flat_map worker_statements ws)
    ++ worker_statements w)
worker_push rs ws w = ap (λ (l : List Statement). statement.Head ∷ l)
    (ap (λ (l : List Statement). map replica_statement rs ++ l)
    (flat_map-append worker_statements ws (w ∷ [])
    ∙ ap (λ (l : List Statement). flat_map worker_statements ws ++ l)
    (append-nil (worker_statements w)))
    ∙ sym (append_assoc (map replica_statement rs) (flat_map worker_statements ws)
    (worker_statements w)))

sound_worker : (rows : List Row) (d : Draft) (row : Row) (name : List ℕ) (k : ℕ) → Holds rows d
    → may_be_worker d name ≡ true → k < length d.replicas
    → WritesStatement d.replicas row (statement.Worker name k)
    → Holds (rows ++ row ∷ []) (with_statement d (statement.Worker name k))
sound_worker rows d row name k h may there w =
    let rs = d.replicas in
    let ws = workers_in d in
    let new = new_worker name k in
    let parts = and_parts (is_name name) (not (knows_worker d.workers name)
    && not (knows_worker (option_to_list d.last) name)) may in
    let last = and_parts (not (knows_worker d.workers name))
    (not (knows_worker (option_to_list d.last) name)) parts.1 in
    let unknown = any_both (λ (x : Worker). bytes_eq x.name name) d.workers (option_to_list d.last)
    (not-true (knows_worker d.workers name) last.0)
    (not-true (knows_worker (option_to_list d.last) name) last.1) in
    record {
      written = subst (WriteAll rs (rows ++ row ∷ [])) (sym (worker_push rs ws new))
          (write_push rs rows (statements_of (fleet_in d)) row (statement.Worker name k)
          h.written w);
      rules = record {
        replicas = h.rules.replicas;
        apart = h.rules.apart;
        first = h.rules.first;
        workers = all_push (is_worker (length rs)) ws new h.rules.workers
            (and_from (is_name name && nat_lt k (length rs)) true
            (and_from (is_name name) (nat_lt k (length rs)) parts.0 (lt-ltb k (length rs) there))
            refl);
        workers_apart = distinct_push_map (λ (x : Worker). x.name) ws new h.rules.workers_apart
            unknown;
      };
      begun = h.begun;
      closed = λ e. absurd (both_ways true e refl);
    }

line_push : (rs : Replicas) (ws : List Worker) (w : Worker) (line : ScriptLine)
    → statement.Head ∷ (map replica_statement rs
    ++ flat_map worker_statements (ws ++ with_line line w ∷ []))
    ≡ (statement.Head ∷ (map replica_statement rs
    ++ flat_map worker_statements (ws ++ w ∷ []))) ++ statement.Line line ∷ []
line_push rs ws w line =
    let front = map replica_statement rs ++ flat_map worker_statements ws in
    worker_push rs ws (with_line line w)
    ∙ ap (λ (l : List Statement). statement.Head ∷ (front
    ++ statement.Worker w.name w.replica ∷ l)) (map-append statement.Line w.lines (line ∷ []))
    ∙ ap (λ (l : List Statement). statement.Head ∷ l)
    (sym (append_assoc front (worker_statements w) (statement.Line line ∷ [])))
    ∙ ap (λ (l : List Statement). l ++ statement.Line line ∷ []) (sym (worker_push rs ws w))

more_lines : (n : ℕ) (ws : List Worker) (w : Worker) (line : ScriptLine)
    → list_all (is_worker n) (ws ++ w ∷ []) ≡ true → is_line n line ≡ true
    → list_all (is_worker n) (ws ++ with_line line w ∷ []) ≡ true
more_lines n ws w line all rule =
    let parts = and_parts (list_all (is_worker n) ws) (is_worker n w && true)
    (sym (list_all-append (is_worker n) ws (w ∷ [])) ∙ all) in
    let one = and_parts (is_worker n w) true parts.1 in
    let of = and_parts (is_name w.name && nat_lt w.replica n) (list_all (is_line n) w.lines)
    one.0 in
    all_push (is_worker n) ws (with_line line w) parts.0
    (and_from (is_name w.name && nat_lt w.replica n)
    (list_all (is_line n) (w.lines ++ line ∷ [])) of.0
    (all_push (is_line n) w.lines line of.1 rule))

same_names : (ws : List Worker) (w : Worker) (line : ScriptLine)
    → map (λ (x : Worker). x.name) (ws ++ w ∷ [])
    ≡ map (λ (x : Worker). x.name) (ws ++ with_line line w ∷ [])
same_names ws w line = map-append (λ (x : Worker). x.name) ws (w ∷ [])
    ∙ sym (map-append (λ (x : Worker). x.name) ws (with_line line w ∷ []))

sound_last : (rows : List Row) (rs : Replicas) (ws : List Worker) (w : Worker) (row : Row)
    (line : ScriptLine)
    → Holds rows (record { begun = true; replicas = rs; workers = ws; last = Some w })
    → is_line (length rs) line ≡ true → WritesStatement rs row (statement.Line line)
    → Holds (rows ++ row ∷ [])
    (record { begun = true; replicas = rs; workers = ws; last = Some (with_line line w) })
sound_last rows rs ws w row line h rule writes = record {
  written = subst (WriteAll rs (rows ++ row ∷ [])) (sym (line_push rs ws w line))
      (write_push rs rows (statement.Head ∷ (map replica_statement rs
      ++ flat_map worker_statements (ws ++ w ∷ []))) row (statement.Line line) h.written writes);
  rules = record {
    replicas = h.rules.replicas;
    apart = h.rules.apart;
    first = h.rules.first;
    workers = more_lines (length rs) ws w line h.rules.workers rule;
    workers_apart = subst (λ names. are_distinct names ≡ true) (same_names ws w line)
        h.rules.workers_apart;
  };
  begun = refl;
  closed = λ e. absurd (both_ways true e refl);
}

sound_by : (rows : List Row) (rs : Replicas) (ws : List Worker) (last : Option Worker) (row : Row)
    (line : ScriptLine)
    → Holds rows (record { begun = true; replicas = rs; workers = ws; last = last })
    → is_some last ≡ true → is_line (length rs) line ≡ true
    → WritesStatement rs row (statement.Line line)
    → Holds (rows ++ row ∷ [])
    (record { begun = true; replicas = rs; workers = ws; last = option_map (with_line line) last })
sound_by rows rs ws None row line h some rule writes = absurd (both_ways false refl some)
sound_by rows rs ws (Some w) row line h some rule writes =
    sound_last rows rs ws w row line h rule writes

sound_line : (rows : List Row) (b : Bool) (rs : Replicas) (ws : List Worker)
    (last : Option Worker) (row : Row) (line : ScriptLine)
    → Holds rows (record { begun = b; replicas = rs; workers = ws; last = last })
    → is_some last ≡ true → is_line (length rs) line ≡ true
    → WritesStatement rs row (statement.Line line)
    → Holds (rows ++ row ∷ [])
    (record { begun = b; replicas = rs; workers = ws; last = option_map (with_line line) last })
sound_line rows true rs ws last row line h some rule writes =
    sound_by rows rs ws last row line h some rule writes
sound_line rows false rs ws last row line h some rule writes =
    absurd (both_ways false refl h.begun)

sound_head : (rows : List Row) (row : Row) → rows ≡ [] → WritesStatement [] row statement.Head
    → Holds (rows ++ row ∷ []) (with_statement start statement.Head)
sound_head rows row none w = record {
  written = subst (λ (l : List Row). WriteAll [] (l ++ row ∷ []) (statement.Head ∷ [])) (sym none)
      (w, tt);
  rules = record {
    replicas = refl;
    apart = refl;
    first = refl;
    workers = refl;
    workers_apart = refl;
  };
  begun = refl;
  closed = λ e. refl;
}

begun_not : (d : Draft) → d ≡ start → d.begun ≡ true → ⊥
begun_not d is e = let f : d.begun ≡ false = ap (λ (x : Draft). x.begun) is in
    both_ways d.begun f e

step_from : (rows : List Row) (d : Draft) (row : Row) (st : Statement) → Stands rows d
    → IsNext d row st → Holds (rows ++ row ∷ []) (with_statement d st)
step_from rows d row statement.Head (inl (none, is)) (begun, w) =
    subst (λ (x : Draft). Holds (rows ++ row ∷ []) (with_statement x statement.Head)) (sym is)
    (sound_head rows row none w)
step_from rows d row (statement.Replica name file) (inl (none, is)) ((begun, may), w) =
    absurd (begun_not d is begun)
step_from rows d row (statement.Worker name k) (inl (none, is)) ((begun, may, there), w) =
    absurd (begun_not d is begun)
step_from rows d row (statement.Line line) (inl (none, is)) ((begun, some, rule), w) =
    absurd (begun_not d is begun)
step_from rows d row statement.Head (inr h) (begun, w) =
    absurd (both_ways d.begun begun h.begun)
step_from rows d row (statement.Replica name file) (inr h) ((begun, may), w) =
    sound_replica rows d row name file h may w
step_from rows d row (statement.Worker name k) (inr h) ((begun, may, there), w) =
    sound_worker rows d row name k h may there w
step_from rows d row (statement.Line line) (inr h) ((begun, some, rule), w) =
    sound_line rows d.begun d.replicas d.workers d.last row line h some rule w

pub sound_step : (rows : List Row) (d : Draft) (row : Row) (st : Statement) → Stands rows d
    → statement_of d row ≡ Some st → Holds (rows ++ row ∷ []) (with_statement d st)
sound_step rows d row st stands e = step_from rows d row st stands (reads_next d row st e)

pub sound_from : (rows more : List Row) (d e : Draft) → Stands rows d → run d more ≡ Some e
    → Stands (rows ++ more) e
sound_from rows [] d e stands ran =
    let same : d ≡ e = cc in
    subst (λ (x : Draft). Stands (rows ++ []) x) same
    (subst (λ (l : List Row). Stands l d) (sym (append-nil rows)) stands)
sound_from rows (row ∷ more) d e stands ran =
    let (st, read, ran) = then_some (λ said. run (with_statement d said) more) (statement_of d row)
    e ran in
    subst (λ (l : List Row). Stands l e) (append_assoc rows (row ∷ []) more)
    (sound_from (rows ++ row ∷ []) more (with_statement d st) e
    (inr (sound_step rows d row st stands read)) ran)

pub sound : (rows : List Row) (d : Draft) → run start rows ≡ Some d → Stands rows d
sound rows d ran = sound_from [] rows start d (inl (refl, refl)) ran
