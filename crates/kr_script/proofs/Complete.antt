-- Rows that write a fleet are read as that fleet.
use Rattle.std.proofs.Common.{◌≡◌, ℕ, ◌<◌, true, false, List, [], ◌∷◌, ◌++◌, length, map}
use Rattle.std.proofs.Common.{None, Some, refl, sym, ap, ◌∙◌, subst}
use Rattle.std.specs.Prelude.{◌&&◌, not, nat_lt, option_and_then, ⊤}
use Rattle.std.specs.List.{list_any, list_all, flat_map}
use Rattle.std.specs.Option.{option_to_list}
use Rattle.std.specs.Str.{bytes_eq}
use Rattle.std.proofs.lemmas.Bool.{and_parts, and_from, not-true, ltb-true}
use Rattle.std.proofs.lemmas.List.{append_assoc, append-nil, map-append}
use Rattle.kr_base.specs.Rules.{is_name}
use Rattle.kr_script.specs.declared.script.ScriptLine.{ScriptLine}
use Rattle.kr_script.specs.declared.statement.Statement.{Statement}
use Rattle.kr_script.specs.declared.statement.Statement.TheVariants as statement
use Rattle.kr_script.specs.Fleets.{Fleet, Worker}
use Rattle.kr_script.specs.Rows.{Row}
use Rattle.kr_script.specs.Statements.{WritesStatement, WriteAll, replica_statement, worker_statements}
use Rattle.kr_script.specs.Statements.{statements_of}
use Rattle.kr_script.specs.Rules.{IsFleet, are_distinct, first_is_in, is_gap, is_line, is_worker}
use Rattle.kr_script.specs.inner.Drafts.{Draft, start, fleet_in, workers_in}
use Rattle.kr_script.specs.inner.Drafts.{with_statement, with_line, new_worker}
use Rattle.kr_script.specs.inner.Drafts.{knows_replica, knows_worker, is_empty}
use Rattle.kr_script.proofs.Lists.{all_at, distinct_at, any_parts, not_false}
use Rattle.kr_script.proofs.Keys.{Replicas}
use Rattle.kr_script.proofs.Nexts.{MayCome, next_reads}
use Rattle.kr_script.proofs.Sound.{run}

-- what statements make of a draft
abbrev pub after : Draft → List Statement → Draft
after draft [] = draft
after draft (said ∷ more) = after (with_statement draft said) more

-- a statement that may come next, with the replicas by which it is written
record Suits (rs : Replicas) (d : Draft) (st : Statement) : Type 0 where
  may : MayCome d st
  apart : are_distinct (map (λ replica. replica.0) d.replicas) ≡ true
  same : (row : Row) → WritesStatement rs row st → WritesStatement d.replicas row st

abbrev Follow : Replicas → Draft → List Statement → Type 0
Follow rs d [] = ⊤
Follow rs d (st ∷ more) = Suits rs d st × Follow rs (with_statement d st) more

along : (rs : Replicas) (d : Draft) (rows : List Row) (ss : List Statement)
    → WriteAll rs rows ss → Follow rs d ss → run d rows ≡ Some (after d ss)
along rs d [] [] w f = refl
along rs d (row ∷ rows) (st ∷ ss) w f =
    ap (option_and_then (λ said. run (with_statement d said) rows))
    (next_reads d row st f.0.apart (f.0.may, f.0.same row w.0))
    ∙ along rs (with_statement d st) rows ss w.1 f.1
along rs d other another w f = absurd w

after_append : (d : Draft) (ss more : List Statement)
    → after d (ss ++ more) ≡ after (after d ss) more
after_append d [] more = refl
after_append d (st ∷ ss) more = after_append (with_statement d st) ss more

follow_append : (rs : Replicas) (d : Draft) (ss more : List Statement) → Follow rs d ss
    → Follow rs (after d ss) more → Follow rs d (ss ++ more)
follow_append rs d [] more f g = g
follow_append rs d (st ∷ ss) more f g =
    (f.0, follow_append rs (with_statement d st) ss more f.1 g)

-- ---- replicas

abbrev listing : Replicas → Draft
listing rs = record { begun = true; replicas = rs; workers = []; last = None }

after_replicas : (done rs : Replicas) → after (listing done) (map replica_statement rs)
    ≡ listing (done ++ rs)
after_replicas done [] = ap listing (sym (append-nil done))
after_replicas done (r ∷ rs) = after_replicas (done ++ r ∷ []) rs
    ∙ ap listing (append_assoc done (r ∷ []) rs)

first_at : (done : Replicas) (r : List ℕ × List ℕ) (rs : Replicas)
    → first_is_in (done ++ r ∷ rs) ≡ true → not (is_empty done && is_gap r.1) ≡ true
first_at [] r rs e = e
first_at (d ∷ done) r rs e = refl

apart_front : (done : List (List ℕ)) (more : List (List ℕ)) → are_distinct (done ++ more) ≡ true
    → are_distinct done ≡ true
apart_front [] more e = refl
apart_front (name ∷ done) more e =
    let parts = and_parts (not (list_any (bytes_eq name) (done ++ more)))
    (are_distinct (done ++ more)) e in
    and_from (not (list_any (bytes_eq name) done)) (are_distinct done)
    (not_false (list_any (bytes_eq name) done) (any_parts (bytes_eq name) done more
    (not-true (list_any (bytes_eq name) (done ++ more)) parts.0)).0)
    (apart_front done more parts.1)

record AreReplicas (rs : Replicas) : Type 0 where
  names : list_all is_name (map (λ replica. replica.0) rs) ≡ true
  apart : are_distinct (map (λ replica. replica.0) rs) ≡ true
  first : first_is_in rs ≡ true

follow_replicas : (all done rs : Replicas) → AreReplicas (done ++ rs)
    → Follow all (listing done) (map replica_statement rs)
follow_replicas all done [] h = tt
follow_replicas all done (r ∷ rs) h =
    let new = distinct_at (λ (x : List ℕ × List ℕ). x.0) done r rs h.apart in
    let named = all_at is_name (λ (x : List ℕ × List ℕ). x.0) done r rs h.names in (
      record {
        may = (
          refl,
          and_from true (is_name r.0 && (not (knows_replica done r.0)
              && not (is_empty done && is_gap r.1))) refl
              (and_from (is_name r.0) (not (knows_replica done r.0)
              && not (is_empty done && is_gap r.1)) named
              (and_from (not (knows_replica done r.0)) (not (is_empty done && is_gap r.1))
              (not_false (knows_replica done r.0) new) (first_at done r rs h.first))),
        );
        apart = apart_front (map (λ (x : List ℕ × List ℕ). x.0) done)
            (map (λ (x : List ℕ × List ℕ). x.0) (r ∷ rs))
            (ap are_distinct (sym (map-append (λ (x : List ℕ × List ℕ). x.0) done (r ∷ rs)))
            ∙ h.apart);
        same = λ row w. w;
      },
      follow_replicas all (done ++ r ∷ []) rs
          (subst AreReplicas (sym (append_assoc done (r ∷ []) rs)) h),
    )

-- ---- lines of a worker

abbrev working : Replicas → List Worker → Worker → Draft
working rs ws w = record { begun = true; replicas = rs; workers = ws; last = Some w }

abbrev with_lines : Worker → List ScriptLine → Worker
with_lines w lines = record w { lines = w.lines ++ lines }

after_lines : (rs : Replicas) (ws : List Worker) (w : Worker) (lines : List ScriptLine)
    → after (working rs ws w) (map statement.Line lines) ≡ working rs ws (with_lines w lines)
after_lines rs ws w [] = ap (λ (ls : List ScriptLine). working rs ws (record w { lines = ls }))
    (sym (append-nil w.lines))
after_lines rs ws w (line ∷ lines) = after_lines rs ws (with_line line w) lines
    ∙ ap (λ (ls : List ScriptLine). working rs ws (record w { lines = ls }))
    (append_assoc w.lines (line ∷ []) lines)

follow_lines : (rs : Replicas) (ws : List Worker) (w : Worker) (lines : List ScriptLine)
    → are_distinct (map (λ replica. replica.0) rs) ≡ true
    → list_all (is_line (length rs)) lines ≡ true
    → Follow rs (working rs ws w) (map statement.Line lines)
follow_lines rs ws w [] apart all = tt
follow_lines rs ws w (line ∷ lines) apart all =
    let parts = and_parts (is_line (length rs) line) (list_all (is_line (length rs)) lines) all in (
      record { may = (refl, refl, parts.0); apart = apart; same = λ row w. w },
      follow_lines rs ws (with_line line w) lines apart parts.1,
    )

-- ---- workers

-- the replicas are read, and perhaps some workers
record IsReading (rs : Replicas) (ws : List Worker) (d : Draft) : Type 0 where
  begun : d.begun ≡ true
  replicas : d.replicas ≡ rs
  workers : workers_in d ≡ ws

opens : (rs : Replicas) (ws : List Worker) (d : Draft) (w : Worker) → IsReading rs ws d
    → with_statement d (statement.Worker w.name w.replica)
    ≡ working rs ws (new_worker w.name w.replica)
opens rs ws d w h = λ i. record {
  begun = h.begun i;
  replicas = h.replicas i;
  workers = h.workers i;
  last = Some (new_worker w.name w.replica);
}

after_worker : (rs : Replicas) (ws : List Worker) (d : Draft) (w : Worker) → IsReading rs ws d
    → after d (worker_statements w) ≡ working rs ws w
after_worker rs ws d w h =
    ap (λ (x : Draft). after x (map statement.Line w.lines)) (opens rs ws d w h)
    ∙ after_lines rs ws (new_worker w.name w.replica) w.lines

follow_worker : (rs : Replicas) (ws : List Worker) (d : Draft) (w : Worker) → IsReading rs ws d
    → are_distinct (map (λ replica. replica.0) rs) ≡ true
    → is_worker (length rs) w ≡ true
    → list_any (λ (x : Worker). bytes_eq x.name w.name) ws ≡ false
    → Follow rs d (worker_statements w)
follow_worker rs ws d w h apart rule new =
    let parts = and_parts (is_name w.name && nat_lt w.replica (length rs))
    (list_all (is_line (length rs)) w.lines) rule in
    let more = and_parts (is_name w.name) (nat_lt w.replica (length rs)) parts.0 in
    let unknown = any_parts (λ (x : Worker). bytes_eq x.name w.name) d.workers
    (option_to_list d.last)
    (ap (list_any (λ (x : Worker). bytes_eq x.name w.name)) h.workers ∙ new) in (
      record {
        may = (
          h.begun,
          and_from (is_name w.name) (not (knows_worker d.workers w.name)
              && not (knows_worker (option_to_list d.last) w.name)) more.0
              (and_from (not (knows_worker d.workers w.name))
              (not (knows_worker (option_to_list d.last) w.name))
              (not_false (knows_worker d.workers w.name) unknown.0)
              (not_false (knows_worker (option_to_list d.last) w.name) unknown.1)),
          subst (λ (x : Replicas). w.replica < length x) (sym h.replicas)
              (ltb-true w.replica (length rs) more.1),
        );
        apart = subst (λ (x : Replicas). are_distinct (map (λ replica. replica.0) x) ≡ true)
            (sym h.replicas) apart;
        same = λ row s. subst (λ (x : Replicas). WritesStatement x row (statement.Worker w.name w.replica))
            (sym h.replicas) s;
      },
      subst (λ (x : Draft). Follow rs x (map statement.Line w.lines))
          (sym (opens rs ws d w h))
          (follow_lines rs ws (new_worker w.name w.replica) w.lines apart parts.1),
    )

reading_on : (rs : Replicas) (ws : List Worker) (d : Draft) (w : Worker) → IsReading rs ws d
    → IsReading rs (ws ++ w ∷ []) (after d (worker_statements w))
reading_on rs ws d w h = subst (IsReading rs (ws ++ w ∷ [])) (sym (after_worker rs ws d w h))
    (record { begun = refl; replicas = refl; workers = refl })

record AreWorkers (rs : Replicas) (ws : List Worker) : Type 0 where
  rules : list_all (is_worker (length rs)) ws ≡ true
  apart : are_distinct (map (λ (worker : Worker). worker.name) ws) ≡ true

map_self : (ws : List Worker) → map (λ (x : Worker). x) ws ≡ ws
map_self [] = refl
map_self (w ∷ ws) = ap (λ (l : List Worker). w ∷ l) (map_self ws)

after_workers : (rs : Replicas) (done : List Worker) (d : Draft) (ws : List Worker)
    → IsReading rs done d → IsReading rs (done ++ ws) (after d (flat_map worker_statements ws))
after_workers rs done d [] h =
    subst (λ (l : List Worker). IsReading rs l d) (sym (append-nil done)) h
after_workers rs done d (w ∷ ws) h =
    subst (IsReading rs (done ++ w ∷ ws))
    (sym (after_append d (worker_statements w) (flat_map worker_statements ws)))
    (subst (λ (l : List Worker). IsReading rs l
    (after (after d (worker_statements w)) (flat_map worker_statements ws)))
    (append_assoc done (w ∷ []) ws)
    (after_workers rs (done ++ w ∷ []) (after d (worker_statements w)) ws
    (reading_on rs done d w h)))

follow_workers : (rs : Replicas) (done : List Worker) (d : Draft) (ws : List Worker)
    → are_distinct (map (λ replica. replica.0) rs) ≡ true
    → AreWorkers rs (done ++ ws) → IsReading rs done d
    → Follow rs d (flat_map worker_statements ws)
follow_workers rs done d [] apart h is = tt
follow_workers rs done d (w ∷ ws) apart h is =
    let rule = all_at (is_worker (length rs)) (λ (x : Worker). x) done w ws
    (ap (list_all (is_worker (length rs))) (map_self (done ++ w ∷ ws)) ∙ h.rules) in
    let new = distinct_at (λ (x : Worker). x.name) done w ws h.apart in
    follow_append rs d (worker_statements w) (flat_map worker_statements ws)
    (follow_worker rs done d w is apart rule new)
    (follow_workers rs (done ++ w ∷ []) (after d (worker_statements w)) ws apart
    (subst (AreWorkers rs) (sym (append_assoc done (w ∷ []) ws)) h)
    (reading_on rs done d w is))

-- ---- the whole

follow_all : (fleet : Fleet) → IsFleet fleet → Follow fleet.replicas start (statements_of fleet)
follow_all fleet h =
    let rs = fleet.replicas in (
      record { may = refl; apart = refl; same = λ row w. w },
      follow_append rs (listing []) (map replica_statement rs)
          (flat_map worker_statements fleet.workers)
          (follow_replicas rs [] rs
          (record { names = h.replicas; apart = h.apart; first = h.first }))
          (subst (λ (x : Draft). Follow rs x (flat_map worker_statements fleet.workers))
          (sym (after_replicas [] rs))
          (follow_workers rs [] (listing rs) fleet.workers h.apart
          (record { rules = h.workers; apart = h.workers_apart })
          (record { begun = refl; replicas = refl; workers = refl }))),
    )

after_all : (fleet : Fleet) → IsReading fleet.replicas fleet.workers
    (after start (statements_of fleet))
after_all fleet =
    let rs = fleet.replicas in
    subst (IsReading rs fleet.workers)
    (sym (after_append (listing []) (map replica_statement rs)
    (flat_map worker_statements fleet.workers)
    ∙ ap (λ (x : Draft). after x (flat_map worker_statements fleet.workers))
    (after_replicas [] rs)))
    (after_workers rs [] (listing rs) fleet.workers
    (record { begun = refl; replicas = refl; workers = refl }))

-- the draft that rows of a fleet come to
pub record Reaches (rows : List Row) (fleet : Fleet) : Type 0 where
  pub draft : Draft
  pub ran : run start rows ≡ Some draft
  pub is : fleet_in draft ≡ fleet
  pub begun : draft.begun ≡ true

pub complete : (rows : List Row) (fleet : Fleet) → WriteAll fleet.replicas rows (statements_of fleet)
    → IsFleet fleet → Reaches rows fleet
complete rows fleet w h =
    let all = after_all fleet in record {
      draft = after start (statements_of fleet);
      ran = along fleet.replicas start rows (statements_of fleet) w (follow_all fleet h);
      is = λ i. record { replicas = all.replicas i; workers = all.workers i };
      begun = all.begun;
    }
