-- What a text means is its answer, so it means one thing alone.
use Rattle.std.proofs.Common.{◌≡◌, ℕ, zero, suc, ◌+◌, ◌<◌, Bool, true, false, List, [], ◌∷◌}
use Rattle.std.proofs.Common.{◌++◌, length}
use Rattle.std.proofs.Common.{take, Option, None, Some, Result, Ok, Err, refl, sym, ap, ◌∙◌}
use Rattle.std.proofs.Common.{subst, arith, inl, inr}
use Rattle.std.specs.Prelude.{is_some, option_and_then, if◌then◌else◌}
use Rattle.std.specs.List.{list_all}
use Rattle.std.specs.Option.{option_map, option_to_list}
use Rattle.std.specs.Str.{is_utf8}
use Rattle.std.specs.Str.Lines.{lines}
use Rattle.std.proofs.lemmas.Bool.{and_parts, both_ways}
use Rattle.std.proofs.lemmas.List.{append-nil}
use Rattle.std.proofs.lemmas.List.{take_all}
use Rattle.kr_script.specs.declared.script.ScriptNo.{ScriptNo}
use Rattle.kr_script.specs.declared.script.ScriptNo.TheVariants.{Breach, Replicas, Workers, TooLarge}
use Rattle.kr_script.specs.declared.script.ScriptNo.TheVariants.{NoMemory}
use Rattle.kr_script.specs.declared.script.ScriptLine.{ScriptLine}
use Rattle.kr_script.specs.declared.statement.Statement.{Statement}
use Rattle.kr_script.specs.declared.statement.Statement.TheVariants as statement
use Rattle.kr_script.specs.declared.line_error.ScriptLineError.{ScriptLineError}
use Rattle.kr_script.specs.declared.line_error.ScriptLineError.TheVariants as line_error
use Rattle.kr_script.specs.Fleets.{Fleet, Worker}
use Rattle.kr_script.specs.Rows.{words_of, word_rows, is_spoken}
use Rattle.kr_script.specs.Rules.{IsWhole, KeepsFleetLimits, is_long}
use Rattle.kr_script.specs.Meanings.{Say, IsBegun, IsNoBeginning, ExceedsLimit, LinesMean}
use Rattle.kr_script.specs.Laws.{OneFleetMeaning, SomeFleetMeaning}
use Rattle.kr_script.specs.inner.Drafts.{Draft, start, fleet_in, workers_in, statement_of, step}
use Rattle.kr_script.specs.inner.Drafts.{with_statement, with_line, new_worker, passes, draft_within}
use Rattle.kr_script.specs.inner.Drafts.{step_by}
use Rattle.kr_script.specs.inner.Reading.{row_step, line_step, goes_on, answer, at_line}
use Rattle.kr_script.proofs.Lists.{then_some, any_parts, none_some}
use Rattle.kr_script.proofs.Keys.{Replicas as Listed}
use Rattle.kr_script.proofs.Nexts.{MayCome, reads_next}
use Rattle.kr_script.proofs.Sound.{run, Stands, sound}
use Rattle.kr_script.proofs.Complete.{Reaches, complete}
use Rattle.kr_script.proofs.Meant.{Text, Left, Stood, left_by, within_start, long_parts, long_push}
use Rattle.kr_script.proofs.Meant.{one_more, utf8_last, utf8_push, run_push, run_silent, ends_by}
use Rattle.kr_script.proofs.Meant.{answer_meant}

-- ---- limits that aren't passed weren't before

back_last : (rs : Listed) (ws : List Worker) (w : Worker) (line : ScriptLine)
    → KeepsFleetLimits (record { replicas = rs; workers = ws ++ with_line line w ∷ [] })
    → KeepsFleetLimits (record { replicas = rs; workers = ws ++ w ∷ [] })
back_last rs ws w line h =
    let parts = long_parts ws (with_line line w) h.lines in
    let front = any_parts is_long w.lines (line ∷ []) parts.1 in
    let k = h.workers in
    let m = one_more ws w in
    let n = one_more ws (with_line line w) in record {
      replicas = h.replicas;
      workers = omega (arith, k, m, n);
      lines = long_push ws w parts.0 front.0;
    }

back_line : (rs : Listed) (ws : List Worker) (last : Option Worker) (line : ScriptLine)
    → KeepsFleetLimits (record {
      replicas = rs;
      workers = ws ++ option_to_list (option_map (with_line line) last);
    })
    → KeepsFleetLimits (record { replicas = rs; workers = ws ++ option_to_list last })
back_line rs ws None line h = h
back_line rs ws (Some w) line h = back_last rs ws w line h

back : (d : Draft) (st : Statement) → KeepsFleetLimits (fleet_in (with_statement d st))
    → KeepsFleetLimits (fleet_in d)
back d statement.Head h = record {
  replicas = h.replicas;
  workers = h.workers;
  lines = h.lines;
}
back d (statement.Replica name file) h =
    let k = h.replicas in
    let m = one_more d.replicas (name, file) in
    record { replicas = omega (arith, k, m); workers = h.workers; lines = h.lines }
back d (statement.Worker name number) h =
    let k = h.workers in
    let m = one_more (workers_in d) (new_worker name number) in record {
      replicas = h.replicas;
      workers = omega (arith, k, m);
      lines = (long_parts (workers_in d) (new_worker name number) h.lines).0;
    }
back d (statement.Line line) h = back_line d.replicas d.workers d.last line h

not_within : (why : ScriptLineError) (fleet : Fleet) → Left (Some why) fleet → KeepsFleetLimits fleet → ⊥
not_within line_error.Form fleet left h = left
not_within line_error.Replicas fleet left h = let k = h.replicas in omega (arith, left, k)
not_within line_error.Workers fleet left h =
    let k = h.workers in let l = left.1 in omega (arith, l, k)
not_within line_error.TooLarge fleet left h =
    both_ways _ h.lines left.2
not_within line_error.NoMemory fleet left h = left

not_passed : (d : Draft) (st : Statement) → MayCome d st → KeepsFleetLimits (fleet_in (with_statement d st))
    → passes d st ≡ None
not_passed d st may h = by (passes d st) (left_by d st (back d st h) may)
  where
    by : (o : Option ScriptLineError) → Left o (fleet_in (with_statement d st)) → o ≡ None
    by None left = refl
    by (Some why) left = absurd (not_within why (fleet_in (with_statement d st)) left h)

-- ---- lines that were read

rows_cons : (line : List ℕ) (front : Text) (v : Bool) → is_spoken (words_of line) ≡ v
    → word_rows (line ∷ front) ≡ (if v then words_of line ∷ word_rows front else word_rows front)
rows_cons line front v e = ap (λ b. if b then words_of line ∷ word_rows front else word_rows front) e

step_is : (d : Draft) (line : List ℕ) (st : Statement) → is_utf8 line ≡ true
    → is_spoken (words_of line) ≡ true → statement_of d (words_of line) ≡ Some st
    → passes d st ≡ None → line_step d line ≡ Ok (with_statement d st)
step_is d line st utf8 spoke read free =
    ap (λ b. if b then row_step d (words_of line) else Err line_error.Form) utf8
    ∙ ap (λ b. if b then step d (words_of line) else Ok d) spoke
    ∙ ap (step_by d) read ∙ ap (draft_within d st) free

stays : (d : Draft) (line : List ℕ) → is_utf8 line ≡ true → is_spoken (words_of line) ≡ false
    → line_step d line ≡ Ok d
stays d line utf8 silence =
    ap (λ b. if b then row_step d (words_of line) else Err line_error.Form) utf8
    ∙ ap (λ b. if b then step d (words_of line) else Ok d) silence

record Ran (n : ℕ) (d : Draft) (front : Text) (e : Draft) : Type 0 where
  goes : (rest : Text) → answer n d (front ++ rest) ≡ answer (n + length front) e rest
  within : KeepsFleetLimits (fleet_in d)

moved : (n k : ℕ) (e : Draft) (rest : Text)
    → answer (n + 1 + k) e rest ≡ answer (n + suc k) e rest
moved n k e rest = ap (λ m. answer m e rest) (omega arith)

answer_runs : (n : ℕ) (d : Draft) (front : Text) (e : Draft) → list_all is_utf8 front ≡ true
    → run d (word_rows front) ≡ Some e → KeepsFleetLimits (fleet_in e) → Ran n d front e
answer_runs n d [] e utf8 ran within =
    let same : d ≡ e = cc in record {
      goes = λ rest. ap (λ (x : Draft). answer n x rest) same
          ∙ ap (λ m. answer m e rest) (omega arith);
      within = subst (λ (x : Draft). KeepsFleetLimits (fleet_in x)) (sym same) within;
    }
answer_runs n d (line ∷ front) e utf8 ran within =
    by (is_spoken (words_of line)) refl
    (λ f after. answer_runs (n + 1) f front e texts.1 after within)
  where
    texts : (is_utf8 line ≡ true) × (list_all is_utf8 front ≡ true)
    texts = and_parts (is_utf8 line) (list_all is_utf8 front) utf8

    by : (v : Bool) → is_spoken (words_of line) ≡ v
        → ((f : Draft) → run f (word_rows front) ≡ Some e → Ran (n + 1) f front e)
        → Ran n d (line ∷ front) e
    by true spoke more =
        let (st, read, after) = then_some
        (λ said. run (with_statement d said) (word_rows front)) (statement_of d (words_of line)) e
        (sym (ap (run d) (rows_cons line front true spoke)) ∙ ran) in
        let r = more (with_statement d st) after in
        let may = (reads_next d (words_of line) st read).0 in
        record {
          goes = λ rest. ap (λ x. goes_on n x (λ f. answer (n + 1) f (front ++ rest)))
              (step_is d line st texts.0 spoke read (not_passed d st may r.within))
              ∙ r.goes rest ∙ moved n (length front) e rest;
          within = back d st r.within;
        }
    by false silence more =
        let r = more d (sym (ap (run d) (rows_cons line front false silence)) ∙ ran) in
        record {
          goes = λ rest. ap (λ x. goes_on n x (λ f. answer (n + 1) f (front ++ rest)))
              (stays d line texts.0 silence) ∙ r.goes rest ∙ moved n (length front) e rest;
          within = r.within;
        }

record Begin (text : Text) : Type 0 where
  draft : Draft
  stood : Stood text draft

stood : (text : Text) → IsBegun text → Begin text
stood text (inl h) = record {
  draft = start;
  stood = record { utf8 = h.utf8; ran = ap (run start) h.blank; within = within_start };
}
stood text (inr (fleet, say, within)) =
    let r = complete (word_rows text) fleet say.written say.rules in record {
      draft = r.draft;
      stood = record {
        utf8 = say.utf8;
        ran = r.ran;
        within = subst KeepsFleetLimits (sym r.is) within;
      };
    }

-- ---- refusals

says : (text : Text) (d : Draft) → list_all is_utf8 text ≡ true → Stands (word_rows text) d
    → IsNoBeginning text → ⊥
says text d utf8 (inl (blank, is)) none = none.0 (record { utf8 = utf8; blank = blank })
says text d utf8 (inr h) none =
    none.1 (fleet_in d) (record { utf8 = utf8; written = h.written; rules = h.rules })

ran_none : (text : Text) (d : Draft) → list_all is_utf8 text ≡ true
    → run start (word_rows text) ≡ Some d → IsNoBeginning text → ⊥
ran_none text d utf8 ran none = says text d utf8 (sound (word_rows text) d ran) none

none_stops : (front : Text) (line : List ℕ) (d : Draft) → Stood front d
    → IsNoBeginning (front ++ line ∷ []) → line_step d line ≡ Err line_error.Form
none_stops front line d s none = by (is_utf8 line) refl
  where
    said : is_utf8 line ≡ true → is_spoken (words_of line) ≡ true → (o : Option Statement)
        → statement_of d (words_of line) ≡ o → step_by d o ≡ Err line_error.Form
    said utf8 spoke None read = refl
    said utf8 spoke (Some st) read = absurd (ran_none (front ++ line ∷ []) (with_statement d st)
        (utf8_push front line s.utf8 utf8)
        (run_push front line d s.ran spoke
        ∙ ap (option_and_then (λ x. Some (with_statement d x))) read) none)

    spoken : is_utf8 line ≡ true → (v : Bool) → is_spoken (words_of line) ≡ v
        → (if v then step d (words_of line) else Ok d) ≡ Err line_error.Form
    spoken utf8 true spoke = said utf8 spoke (statement_of d (words_of line)) refl
    spoken utf8 false silence = absurd (ran_none (front ++ line ∷ []) d
        (utf8_push front line s.utf8 utf8) (run_silent front line d s.ran silence) none)

    by : (u : Bool) → is_utf8 line ≡ u
        → (if u then row_step d (words_of line) else Err line_error.Form) ≡ Err line_error.Form
    by false e = refl
    by true e = spoken e (is_spoken (words_of line)) refl

-- no fleet passes two limits first
one_limit : (why other : ScriptLineError) (f : Fleet) → Left (Some why) f → Left (Some other) f
    → why ≡ other
one_limit line_error.Replicas line_error.Replicas f left h = refl
one_limit line_error.Workers line_error.Workers f left h = refl
one_limit line_error.TooLarge line_error.TooLarge f left h = refl
one_limit line_error.Replicas line_error.Workers f left h =
    let k = h.0 in absurd (omega (arith, k, left))
one_limit line_error.Replicas line_error.TooLarge f left h =
    let k = h.0 in absurd (omega (arith, k, left))
one_limit line_error.Workers line_error.Replicas f left h =
    let k = left.0 in absurd (omega (arith, k, h))
one_limit line_error.Workers line_error.TooLarge f left h =
    let k = h.1 in let l = left.1 in absurd (omega (arith, k, l))
one_limit line_error.TooLarge line_error.Replicas f left h =
    let k = left.0 in absurd (omega (arith, k, h))
one_limit line_error.TooLarge line_error.Workers f left h =
    let k = left.1 in let l = h.1 in absurd (omega (arith, k, l))
one_limit line_error.Form other f left h = absurd left
one_limit line_error.NoMemory other f left h = absurd left
one_limit why other f left h = absurd h

-- the fleet that a line more writes, past a limit
limit_stops : (front : Text) (line : List ℕ) (d : Draft) (fleet : Fleet) (limit : ScriptLineError)
    → Stood front d → Say (front ++ line ∷ []) fleet → (KeepsFleetLimits fleet → ⊥)
    → ((why : ScriptLineError) → Left (Some why) fleet → why ≡ limit)
    → line_step d line ≡ Err limit
limit_stops front line d fleet limit s say past only =
    ap (λ b. if b then row_step d (words_of line) else Err line_error.Form) utf8
    ∙ spoken (is_spoken (words_of line)) refl
  where
    utf8 : is_utf8 line ≡ true
    utf8 = utf8_last front line say.utf8

    reaches : Reaches (word_rows (front ++ line ∷ [])) fleet
    reaches = complete (word_rows (front ++ line ∷ [])) fleet say.written say.rules

    by_limit : (st : Statement) → fleet_in (with_statement d st) ≡ fleet → (o : Option ScriptLineError)
        → Left o (fleet_in (with_statement d st)) → draft_within d st o ≡ Err limit
    by_limit st same None left = absurd (past (subst KeepsFleetLimits same left))
    by_limit st same (Some why) left =
        ap (λ w. Err w) (only why (subst (Left (Some why)) same left))

    said : is_spoken (words_of line) ≡ true → (o : Option Statement)
        → statement_of d (words_of line) ≡ o → step_by d o ≡ Err limit
    said spoke None read = absurd (none_some reaches.draft (sym (run_push front line d s.ran spoke
        ∙ ap (option_and_then (λ x. Some (with_statement d x))) read) ∙ reaches.ran))
    said spoke (Some st) read =
        let both : Some (with_statement d st) ≡ Some reaches.draft =
        sym (run_push front line d s.ran spoke
        ∙ ap (option_and_then (λ x. Some (with_statement d x))) read) ∙ reaches.ran in
        let same : with_statement d st ≡ reaches.draft = cc in
        by_limit st (ap fleet_in same ∙ reaches.is) (passes d st)
        (left_by d st s.within (reads_next d (words_of line) st read).0)

    spoken : (v : Bool) → is_spoken (words_of line) ≡ v
        → (if v then step d (words_of line) else Ok d) ≡ Err limit
    spoken true spoke = said spoke (statement_of d (words_of line)) refl
    spoken false silence =
        let both : Some d ≡ Some reaches.draft =
        sym (run_silent front line d s.ran silence) ∙ reaches.ran in
        let same : d ≡ reaches.draft = cc in
        absurd (past (subst KeepsFleetLimits (ap fleet_in same ∙ reaches.is) s.within))

-- ---- a text at a line

record At (text : Text) (at : ℕ) : Type 0 where
  front : Text
  line : List ℕ
  more : Text
  split : text ≡ front ++ line ∷ more
  before : take at text ≡ front
  with : take (at + 1) text ≡ front ++ line ∷ []
  size : length front ≡ at

at_line_of : (text : Text) (at : ℕ) → at < length text → At text at
at_line_of [] at h = absurd (omega (arith, h))
at_line_of (line ∷ text) zero h = record {
  front = [];
  line = line;
  more = text;
  split = refl;
  before = refl;
  with = refl;
  size = refl;
}
at_line_of (first ∷ text) (suc at) h =
    let a = at_line_of text at (omega (arith, h)) in record {
      front = first ∷ a.front;
      line = a.line;
      more = a.more;
      split = ap (λ (l : Text). first ∷ l) a.split;
      before = ap (λ (l : Text). first ∷ l) a.before;
      with = ap (λ n. take n (first ∷ text)) (let one : suc at + 1 ≡ suc (at + 1) = omega arith in one)
          ∙ ap (λ (l : Text). first ∷ l) a.with;
      size = ap suc a.size;
    }

answered_at : (text : Text) (at : ℕ) (a : At text at) (d : Draft) (why : ScriptLineError)
    → Stood a.front d → line_step d a.line ≡ Err why
    → answer 1 start text ≡ Err (at_line (1 + at) why)
answered_at text at a d why s stops =
    let r = answer_runs 1 start a.front d s.utf8 s.ran s.within in
    ap (answer 1 start) a.split ∙ r.goes (a.line ∷ a.more)
    ∙ ap (λ x. goes_on (1 + length a.front) x (λ f. answer (1 + length a.front + 1) f a.more)) stops
    ∙ ap (λ n. Err (at_line (1 + n) why)) a.size

whole_text : (text : Text) (fleet : Fleet) (d : Draft) → Stands (word_rows text) d
    → fleet_in d ≡ fleet → IsWhole fleet → is_some d.last ≡ true
whole_text text fleet d stands is whole = by (is_some d.last) refl stands
  where
    no_last : (o : Option Worker) → is_some o ≡ false → option_to_list o ≡ []
    no_last None e = refl
    no_last (Some w) e = absurd (both_ways true e refl)

    none : workers_in d ≡ [] → ⊥
    none empty = let e : length fleet.workers ≡ 0 = sym (ap (λ (f : Fleet). length f.workers) is)
        ∙ ap (λ (ws : List Worker). length ws) empty in
        let k = whole.workers in omega (arith, e, k)

    by : (b : Bool) → is_some d.last ≡ b → Stands (word_rows text) d → is_some d.last ≡ true
    by true e s = e
    by false e (inl (blank, same)) = absurd (none (ap workers_in same))
    by false e (inr h) = absurd (none (ap (λ (l : List Worker). l ++ option_to_list d.last)
        (h.closed e) ∙ no_last d.last e))

-- a line with which the fleet passes a limit
at_limit : (text : Text) (limit : ScriptLineError) (at : ℕ) → IsBegun (take at text)
    → ExceedsLimit text at (Left (Some limit)) → answer 1 start text ≡ Err (at_line (1 + at) limit)
at_limit text limit at front (inside, (fleet, say, past)) =
    let a = at_line_of text at inside in
    let b = stood a.front (subst IsBegun a.before front) in
    answered_at text at a b.draft limit b.stood
    (limit_stops a.front a.line b.draft fleet limit b.stood
    (subst (λ (l : Text). Say l fleet) a.with say)
    (λ h. not_within limit fleet past h)
    (λ why left. one_limit why limit fleet left past))

answered : (text : Text) (x : Result Fleet ScriptNo) → LinesMean text x → answer 1 start text ≡ x
answered text (Ok fleet) (say, within, whole) =
    let r = complete (word_rows text) fleet say.written say.rules in
    let ran = answer_runs 1 start text r.draft say.utf8 r.ran (subst KeepsFleetLimits (sym r.is) within) in
    let last = whole_text text fleet r.draft (sound (word_rows text) r.draft r.ran) r.is whole in
    ap (answer 1 start) (sym (append-nil text)) ∙ ran.goes []
    ∙ ap (λ b. if b then Ok (fleet_in r.draft) else Err (Breach (1 + length text))) last
    ∙ ap (λ f. Ok f) r.is
answered text (Err (Breach n)) (at, number, front, inl (inside, none)) =
    let a = at_line_of text at inside in
    let b = stood a.front (subst IsBegun a.before front) in
    answered_at text at a b.draft line_error.Form b.stood
    (none_stops a.front a.line b.draft b.stood (subst IsNoBeginning a.with none))
    ∙ ap (λ m. Err (Breach m)) (omega (arith, number))
answered text (Err (Breach n)) (at, number, front, inr (end, none)) =
    let b = stood text (subst IsBegun (take_all at text (omega (arith, end))) front) in
    let ran = answer_runs 1 start text b.draft b.stood.utf8 b.stood.ran b.stood.within in
    ap (answer 1 start) (sym (append-nil text)) ∙ ran.goes []
    ∙ ends b.draft b.stood (is_some b.draft.last) refl
    ∙ ap (λ m. Err (Breach m)) (omega (arith, number, end))
  where
    ends : (d : Draft) → Stood text d → (v : Bool) → is_some d.last ≡ v
        → (if v then Ok (fleet_in d) else Err (Breach (1 + length text)))
        ≡ Err (Breach (1 + length text))
    ends d s false e = refl
    ends d s true e =
        let (say, within, whole) = ends_by text d (length text + 1) true e s refl in
        absurd (none (fleet_in d) say whole)
answered text (Err Replicas) (at, front, past) = at_limit text line_error.Replicas at front past
answered text (Err Workers) (at, front, past) = at_limit text line_error.Workers at front past
answered text (Err TooLarge) (at, front, past) = at_limit text line_error.TooLarge at front past
answered text (Err NoMemory) h = absurd h

pub one_meaning : OneFleetMeaning
one_meaning bytes one other a b =
    sym (answered (lines bytes) one a) ∙ answered (lines bytes) other b

pub some_meaning : SomeFleetMeaning
some_meaning bytes = (answer 1 start (lines bytes), answer_meant bytes)
