-- A reply to a `get` tells what plugins told the worker, and so the content.
use Rattle.std.specs.Prelude.{cond, ⊤}
use Rattle.std.proofs.Common.{◌≡◌, ℕ, suc, ◌+◌, ◌==◌, Bool, true, false, List, [], ◌∷◌, ◌++◌, length, Option, Result, Ok, Err, refl, ap, sym, subst, ◌∙◌, arith}
use Rattle.std.proofs.lemmas.Bool.{eq-eqb}
use Rattle.kr_base.specs.Lines.{of_seat}
use Rattle.kr_kms.specs.Cache.{AreOpenBy, CacheState}
use Rattle.kr_kms.specs.Calls.{Link}
use Rattle.kr_kms.specs.Exchanges.{AgreeAll, Exchange}
use Rattle.kr_kms.specs.Opens.{Opens}
use Rattle.kr_kms.proofs.Opening.{agree_parts}
use Rattle.kr_provider.specs.Publication.{Publication}
use Rattle.kr_provider.specs.Reading.{data_of, refused}
use Rattle.kr_rollout.specs.declared.answer.Answer.TheVariants as answer
use Rattle.kr_rollout.specs.declared.event.Event.TheVariants as event
use Rattle.kr_rollout.specs.declared.opening.Entry.{Entry}
use Rattle.kr_rollout.specs.declared.opening.Opening.{Opening}
use Rattle.kr_rollout.specs.Entries.{seat_of}
use Rattle.kr_history.specs.declared.call.CallNo.{CallNo}
use Rattle.kr_history.specs.declared.call.CallNo.TheVariants as refusal
use Rattle.kr_history.specs.Acting.{Caller, IsCaller}
use Rattle.kr_history.proofs.Following.{adopted_law}
use Rattle.kr_history.proofs.Nexts.{caller_next}
use Rattle.kr_fleet.specs.CallExchanges.{AsksNone, FindsBy}
use Rattle.kr_fleet.proofs.AgreeingReads.{refusal_is, value_is}
use Rattle.kr_fleet.specs.declared.outcome.Read.{Read}
use Rattle.kr_fleet.specs.declared.outcome.Read.TheVariants as found
use Rattle.kr_script.specs.declared.told.Told.{Told}
use Rattle.kr_script.specs.declared.told.Told.TheVariants as told
use Rattle.kr_workers.specs.declared.files.SettingsFile.{SettingsFile}
use Rattle.kr_workers.specs.Gets.{FetchesWhere, GetsTellContent, IsHeardContent, TellsGotContent, heard_by}
use Rattle.kr_workers.specs.Heard.{AgreesWithHeard, Heard}
use Rattle.kr_workers.specs.LineExchanges.{DoesBy}
use Rattle.kr_workers.specs.Replies.{told_of_read}
use Rattle.kr_workers.specs.Runs.{entries_in, exchanges_in}
use Rattle.kr_workers.proofs.Shaping.{IfTold}
use Rattle.kr_workers.proofs.Getting.{IsLineIn, ToldContent, call_tells, call_there, done_there, fetch_there, get_told}
use Rattle.kr_workers.proofs.Hearing.{run_keeps}

-- ---- a seat's entry with as many of the seat before it

module _ (seat : ℕ) where
  -- how many entries the seat has
  abbrev many : List Entry → ℕ
  many entries = length (of_seat seat_of seat entries)

  -- one, where the entry is the seat's
  abbrev own_count : Bool → ℕ
  own_count true = 1
  own_count false = 0

  many_more : (e : Entry) (rest : List Entry)
      → many (e ∷ rest) ≡ own_count (seat_of e == seat) + many rest
  many_more e rest = by (seat_of e == seat)
    where
      by : (b : Bool)
          → length (cond b (e ∷ of_seat seat_of seat rest) (of_seat seat_of seat rest))
          ≡ own_count b + many rest
      by true = omega arith
      by false = omega arith

  its_own : (e : Entry) (rest : List Entry) → e.line.seat ≡ seat → many (e ∷ rest) ≡ 1 + many rest
  its_own e rest own =
      many_more e rest ∙ ap (λ b. own_count b + many rest) (eq-eqb e.line.seat seat own)

  same_front : (xs ys : List Entry) (e f : Entry) (rest more : List Entry)
      → xs ++ e ∷ rest ≡ ys ++ f ∷ more → e.line.seat ≡ seat → f.line.seat ≡ seat
      → many xs ≡ many ys → xs ≡ ys
  same_front [] [] e f rest more is own other counts = refl
  same_front [] (y ∷ ys) e f rest more is own other counts =
      let same : y ≡ e = cc is in
      let one = its_own y ys (ap (λ (x : Entry). x.line.seat) same ∙ own) in
      absurd (omega (arith, counts, one))
  same_front (x ∷ xs) [] e f rest more is own other counts =
      let same : x ≡ f = cc is in
      let one = its_own x xs (ap (λ (z : Entry). z.line.seat) same ∙ other) in
      absurd (omega (arith, counts, one))
  same_front (x ∷ xs) (y ∷ ys) e f rest more is own other counts =
      let same : x ≡ y = cc is in
      let behind : xs ++ e ∷ rest ≡ ys ++ f ∷ more = cc is in
      let a = many_more x xs in
      let b = many_more y ys in
      let one : own_count (seat_of x == seat) ≡ own_count (seat_of y == seat) =
      ap (λ (z : Entry). own_count (seat_of z == seat)) same in
      let rest_is = same_front xs ys e f rest more behind own other
      (omega (arith, counts, a, b, one)) in
      λ i. same i ∷ rest_is i

module _ (history : List Entry) (seat : ℕ) (path : List ℕ) (ahead part : List Entry) where
  -- a line has one Fetch alone, so what holds before it holds together
  pub both_hold : {First Both : (front : List Entry) → (fetch : Entry) → Type 0}
      {Second : List Entry → Type 0}
      → ((front : List Entry) (fetch : Entry) → First front fetch → Second front
      → Both front fetch) → FetchesWhere history seat path ahead part First
      → FetchesWhere history seat path ahead part (λ front fetch. Second front)
      → FetchesWhere history seat path ahead part Both
  both_hold {Second = Second} both a b = record {
    front = a.front;
    adopt = a.adopt;
    fetch = a.fetch;
    let_go = a.let_go;
    rest = a.rest;
    there = a.there;
    own = a.own;
    fetches = a.fetches;
    part_is = a.part_is;
    its = a.its;
    holds = both a.front a.fetch a.holds (subst Second
        (same_front seat b.front a.front b.fetch a.fetch b.rest a.rest (sym b.there ∙ a.there)
        b.own a.own (same_many ahead a.adopt b.adopt a.front b.front a.its b.its)) b.holds);
  }
    where
      long : (ahead : List Entry) (x y : Entry)
          → length (ahead ++ x ∷ []) ≡ length (ahead ++ y ∷ [])
      long [] x y = refl
      long (z ∷ ahead) x y = ap suc (long ahead x y)

      same_many : (ahead : List Entry) (x y : Entry) (front other : List Entry)
          → of_seat seat_of seat front ≡ ahead ++ x ∷ []
          → of_seat seat_of seat other ≡ ahead ++ y ∷ [] → many seat other ≡ many seat front
      same_many ahead x y front other is was =
          ap length was ∙ long ahead y x ∙ sym (ap length is)

-- ---- what was heard of a line's Fetch

module _ (history : List Entry) (o : Opening) (seat : ℕ) (ahead part : List Entry)
    (path : List ℕ) (heard : Heard) where
  abbrev HeardContent : Told → Type 0
  HeardContent (told.Got revision plain) = FetchesWhere history seat path ahead part
      (λ front fetch. IsHeardContent heard o path (data_of plain) front)
  HeardContent (told.Value why) = FetchesWhere history seat path ahead part
      (λ front fetch. IsHeardContent heard o path (refused why) front)
  HeardContent reply = ⊤

  module _ (cache kept : CacheState) (exchanges : List Exchange)
      (agree : (opens : Opens) → AgreesWithHeard opens heard
      → AgreeAll opens exchanges × AreOpenBy opens cache.rows) where
    adopter : (before adopted acted after : Caller) (p : Publication)
        → IsLineIn history o seat ahead part p before adopted acted after → IsCaller adopted
    adopter before adopted acted after p it = caller_next before adopted (event.Adopt it.replica)
        (answer.Adopted it.number p) it.adopts it.known

    found_heard : (number : ℕ) (p : Publication) (before adopted acted after : Caller)
        → IsLineIn history o seat ahead part p before adopted acted after
        → (done : Result Read CallNo) → FindsBy path p adopted cache done acted kept exchanges
        → IfTold HeardContent (told_of_read number done)
    found_heard number p before adopted acted after it (Ok found.Absent) d = tt
    found_heard number p before adopted acted after it (Ok (found.Value revision plain stale)) d =
        fetch_there history o seat ahead part p before adopted acted after path (answer.Found d.0)
        d.1.found it (λ o front fetch. IsHeardContent heard o path (data_of plain) front)
        (λ opens agrees honest. value_is opens cache kept exchanges (agree opens agrees).0
        (agree opens agrees).1 path it.number p adopted acted
        (adopter before adopted acted after p it)
        (adopted_law before adopted it.replica it.number p it.adopts) d.0
        (record { plain = plain; stale = stale }) d.1 honest)
    found_heard number p before adopted acted after it (Err (refusal.Value why)) d =
        fetch_there history o seat ahead part p before adopted acted after path (answer.Found d.0)
        d.1.found it (λ o front fetch. IsHeardContent heard o path (refused why) front)
        (λ opens agrees honest. refusal_is opens cache kept exchanges (agree opens agrees).0
        (agree opens agrees).1 path it.number p adopted acted
        (adopter before adopted acted after p it)
        (adopted_law before adopted it.replica it.number p it.adopts) d.0 why d.1 honest)
    found_heard number p before adopted acted after it (Err why) d = tt

  -- with all else that the reply tells
  all_told : (reply : Told)
      → ToldContent o history seat path ahead part reply → HeardContent reply
      → TellsGotContent heard o history seat path ahead part reply
  all_told (told.Got revision plain) t h = both_hold history seat path ahead part
      {Second = λ front. IsHeardContent heard o path (data_of plain) front}
      (λ front fetch first second. (first.0, first.1, second)) t h
  all_told told.Absent t h = t
  all_told (told.Value why) t h = both_hold history seat path ahead part
      {Second = λ front. IsHeardContent heard o path (refused why) front}
      (λ front fetch first second. (first.0, first.1, first.2, second)) t h
  all_told reply t h = tt

pub gets_tell_content : {L D : Type 0} → (link : L → Link)
    (step : L → Exchange → L → Type 0) (left : D → Option (List ℕ)) (count : D → ℕ)
    (files : List SettingsFile) → GetsTellContent link step left count files
gets_tell_content link step left count files history part first replies after stands nothing
    ahead done behind run_is path asked =
    let w = done_there link step left count files history part first replies after stands
    ahead done behind run_is in
    let c = call_there link step left count files history part first replies after stands
    ahead done behind run_is w nothing in
    let heard = heard_by first.cache.rows ahead done in
    let o = first.caller.opening in
    let seat = first.caller.seat in
    let entries = entries_in ahead in
    let asks = subst (λ l. DoesBy left count files part.replica l w.before (Ok done.reply) w.after
    done.exchanges) asked w.is_done.asks in
    let agree : (opens : Opens) → AgreesWithHeard opens heard
    → AgreeAll opens done.exchanges × AreOpenBy opens w.before.cache.rows = λ opens agrees.
    let parts = agree_parts opens (exchanges_in ahead) done.exchanges agrees.answers in (
      parts.1,
      (run_keeps link step left count files opens part.replica first ahead w.before
          w.does_ahead parts.0 agrees.kept).0,
    ) in
    all_told history o seat entries done.part path heard done.reply
    (get_told link step left count files history part first replies after stands ahead done
    behind run_is w nothing path asked)
    (call_tells history o seat entries done.part
    (λ p from found to. FindsBy path p from w.before.cache found to w.after.cache done.exchanges)
    (AsksNone w.before.cache w.after.cache done.exchanges) w.before.caller.seat
    (HeardContent history o seat entries done.part path heard) tt tt
    (found_heard history o seat entries done.part path heard w.before.cache w.after.cache
    done.exchanges agree w.before.caller.seat) part.replica w.before.caller w.after.caller c.more
    c.is c.opening c.own c.seen_own w.is_done.adds w.is_done.known done.reply asks.0 asks.1 asks.2)
