-- What a write leaves of a store.
use Rattle.std.proofs.Common.{◌≡◌, ℕ, ◌+◌, ◌^◌, ◌<◌, ◌≤◌, Bool, true, false, List, [], ◌∷◌, ◌++◌, length, take, Option, None, Some, Ok, Err, IfSome, IsSome, is_some, refl, sym, ◌∙◌, ap, subst, arith, nat_eq, length-append, inl, inr}
use Rattle.std.proofs.lemmas.List.{append-nil}
use Rattle.std.proofs.lemmas.Bool.{ne_eqb}
use Rattle.std.proofs.Math.Seq.{take-append_seam}
use Rattle.std.specs.Option.{option_map}
use Rattle.std.specs.Str.{bytes_eq}
use Rattle.std.proofs.lemmas.Slice.Eq.{bytes_eq-Decides}
use Rattle.kr_base.specs.Faults.{Rose}
use Rattle.kr_base.specs.Numbering.{next_number}
use Rattle.kr_store.specs.declared.format.Format.{Format}
use Rattle.kr_store.specs.declared.rows.Change.{Change}
use Rattle.kr_store.specs.declared.rows.Change.TheVariants.{Put, Delete}
use Rattle.kr_store.specs.declared.rows.LogRow.{LogRow}
use Rattle.kr_store.specs.Rows.{latest, live, live_row, row_of, MayChange, MayFollow}
use Rattle.kr_store.specs.inner.KeptRows.{log_row_of, log_rows_of, IsKeptRow, IsChange}
use Rattle.kr_store.specs.File.{byte_kind, magic, row_bytes, rows_bytes, file_bytes, IsFile}
use Rattle.kr_store.specs.inner.Log.{Tail, Tears, Extends}
use Rattle.kr_store.specs.inner.Store.{IsStore, kept_of}
use Rattle.kr_store.specs.inner.Writing.{lead, Writes, put_refusal}
use Rattle.kr_store.specs.declared.write.RowWriteNo.{RowWriteNo}
use Rattle.kr_store.specs.declared.write.RowWriteNo.TheVariants.{Failed, NoMemory}
use Rattle.kr_store.specs.inner.Index.{IsIndexOf, Stands, StandsAt, Adds, StaysAs, Same, SameBut, live_at, gone_at}
use Rattle.kr_store.specs.Stores.{Kept, length_with, Wrote, Fails, Puts}
use Rattle.kr_store.specs.declared.index.Index.{Index}
use Rattle.kr_store.specs.declared.kept_row.RowKind.{RowKind}
use Rattle.kr_store.specs.declared.kept_row.KeptRow.{KeptRow}
use Rattle.kr_store.proofs.Indexes.{adds_indexed, stands_as, bool_cases, some_live}
use Rattle.kr_store.proofs.Loading.{log_rows_more, log_rows_length, file_more, rows_follow, kept_rows_more, rows_long}

-- what a row has behind the end of a file
abbrev pub behind_end : Format → ℕ → ℕ → LogRow → List ℕ
behind_end format end k line = lead format (nat_eq end 0) ++ row_bytes k line

-- a row appended to the file gives the file with the row
pub appended : (format : Format) (rows : List LogRow) (file : List ℕ) (line : LogRow) (k : ℕ)
    → IsFile format rows file → k ≡ length rows + 1
    → file ++ behind_end format (length file) k line ≡ file_bytes format (rows ++ line ∷ [])
appended format rows file line k f is = elim f.1 [
  | inl none ↦
      subst (λ (r : List LogRow). file ++ behind_end format (length file) k line
      ≡ file_bytes format (r ++ line ∷ [])) (sym none.1)
      (subst (λ (l : List ℕ). l ++ behind_end format (length l) k line
      ≡ file_bytes format (line ∷ [])) (sym none.2)
      (ap (λ l. magic format ++ l)
      (ap (λ n. row_bytes n line) (is ∙ ap (λ (r : List LogRow). length r + 1) none.1)
      ∙ sym (append-nil (row_bytes 1 line)))))
  | inr same ↦
      let some : nat_eq (length (file_bytes format rows)) 0 ≡ false =
      ne_eqb (length (file_bytes format rows)) 0
      (λ e. absurd (omega (arith, e, length-append (magic format) (rows_bytes 1 rows)))) in
      subst (λ (l : List ℕ). l ++ behind_end format (length l) k line
      ≡ file_bytes format (rows ++ line ∷ [])) (sym same)
      (ap (λ b. file_bytes format rows ++ (lead format b ++ row_bytes k line)) some
      ∙ sym (file_more format rows line k is))
]

pub needed_is : (format : Format) (rows : List KeptRow) (index : Index) (limit : ℕ) (log : Tail)
    (line : LogRow) (k e : ℕ) → IsStore format rows index limit log → k ≡ length rows + 1
    → e ≡ log.end
    → length (file_bytes format (log_rows_of rows ++ line ∷ []))
    ≡ e + length (behind_end format e k line)
needed_is format rows index limit log line k e s is ends =
    sym (ap length (appended format (log_rows_of rows) s.file line k s.is
    (omega (arith, log_rows_length rows))))
    ∙ length-append s.file (behind_end format (length s.file) k line)
    ∙ ap (λ n. n + length (behind_end format n k line)) (sym (ends ∙ s.end))

-- the tape after an append
told_more : (told : Option (List ℕ)) (file rest_bytes : List ℕ) (end : ℕ) (now : Option (List ℕ))
    (torn : Bool) → end ≡ length file
    → IfSome told (λ held. (rest : List ℕ) × (held ≡ file ++ rest) × (torn ≡ false → rest ≡ []))
    → now ≡ option_map (λ held. take end held ++ rest_bytes) told
    → IfSome now (λ held. held ≡ file ++ rest_bytes)
told_more None file more end now torn e t n = subst (λ o. IfSome o (λ held. held ≡ file ++ more))
    (sym n) tt
told_more (Some held) file more end now torn e t n =
    subst (λ o. IfSome o (λ held. held ≡ file ++ more)) (sym n)
    (ap (λ l. l ++ more) (ap (take end) t.1 ∙ ap (λ m. take m (file ++ t.0)) e
    ∙ take-append_seam file t.0))

told_whole : (now : Option (List ℕ)) (file whole : List ℕ) (torn : Bool)
    → IfSome now (λ held. held ≡ file) → file ≡ whole → IfSome now (λ held. (rest : List ℕ)
    × (held ≡ whole ++ rest) × (torn ≡ false → rest ≡ []))
told_whole None file whole torn t e = tt
told_whole (Some held) file whole torn t e = ([], t ∙ e ∙ sym (append-nil whole), λ _. refl)

told_torn : (now : Option (List ℕ)) (file more : List ℕ) (torn : Bool) → torn ≡ true
    → IfSome now (λ held. held ≡ file ++ more) → IfSome now (λ held. (rest : List ℕ)
    × (held ≡ file ++ rest) × (torn ≡ false → rest ≡ []))
told_torn None file more torn e t = tt
told_torn (Some held) file more torn e t = (more, t, λ f. let x : true ≡ false = sym e ∙ f in cc)

-- the index after a write that failed
live_stands : (found : Option (ℕ × LogRow)) (l g h : Option ℕ) → IsSome (live_row found)
    → Stands found l g → Stands found l h
live_stands None l g h s t = cc
live_stands (Some found) l g h s t = by found.1.change s t
  where
    by : (change : Change) → IsSome (row_of found.0 found.1.path change)
        → StandsAt found.0 change l g → StandsAt found.0 change l h
    by (Put resource stored check) s t = t
    by Delete s t = cc

pub stays_put : (rows : List LogRow) (before after : Index) → Same before after
    → IsIndexOf rows before → IsIndexOf rows after
stays_put rows before after same i q = stands_as (latest rows q) (live_at after q)
    (live_at before q) (gone_at after q) (gone_at before q) (same.0 q) (same.1 q) (i q)

pub stays_deleted : (rows : List LogRow) (path : List ℕ) (before after : Index)
    → IsSome (live rows path) → SameBut before after path → IsIndexOf rows before
    → IsIndexOf rows after
stays_deleted rows path before after s same i q = elim (bool_cases (bytes_eq path q)) [
  | inl here ↦ live_stands (latest rows q) (live_at after q) (gone_at before q) (gone_at after q)
      (subst (λ p. IsSome (live rows p)) ((bytes_eq-Decides path q).0 here) s)
      (subst (λ l. Stands (latest rows q) l (gone_at before q)) (sym (same.0 q)) (i q))
  | inr other ↦ stands_as (latest rows q) (live_at after q) (live_at before q) (gone_at after q)
      (gone_at before q) (same.0 q) (same.1 q other) (i q)
]

-- whatever row was to be written, the index stands for the same rows
stays : (format : Format) (rows : List LogRow) (path : List ℕ) (change : Change)
    (kind : RowKind) (before after : Index) → kind ≡ byte_kind change
    → MayChange format rows path change → StaysAs before after path kind
    → IsIndexOf rows before → IsIndexOf rows after
stays format rows path (Put resource stored check) kind before after e m s i =
    stays_put rows before after (subst (λ (k : RowKind). StaysAs before after path k) e s) i
stays format rows path Delete kind before after e m s i =
    stays_deleted rows path before after m
    (subst (λ (k : RowKind). StaysAs before after path k) e s) i

pub change_rules : (format : Format) (rows : List LogRow) (path : List ℕ) (change : Change)
    → MayChange format rows path change → IsChange format change
change_rules format rows path (Put resource stored check) m = m
change_rules format rows path Delete m = tt

store_failed : (format : Format) (rows : List KeptRow) (before after : Index) (limit : ℕ)
    (log now : Tail) → IsStore format rows before limit log → Tears log now
    → IsIndexOf (log_rows_of rows) after → IsStore format rows after limit now
store_failed format rows before after limit log now s x i = record {
  kept_rows = s.kept_rows;
  indexed = i;
  file = s.file;
  is = s.is;
  end = x.1 ∙ s.end;
  within = s.within;
  small = s.small;
  told = told_torn now.told s.file x.0.0 now.torn x.2
      (told_more log.told s.file x.0.0 log.end now.told log.torn s.end s.told x.0.1);
}

pub store_written : (format : Format) (rows : List KeptRow) (before after : Index) (limit : ℕ)
    (log now : Tail) (bytes : List ℕ) (e : KeptRow) (line : LogRow) (k n : ℕ)
    → IsStore format rows before limit log
    → Extends {T = ℕ} {E = ℕ} log now bytes (Ok 0) → k ≡ length rows + 1 → n ≡ log.end
    → bytes ≡ behind_end format n k line → Adds before after k line → log_row_of e ≡ line
    → IsKeptRow format k e → MayFollow format (log_rows_of rows) line
    → n + length (behind_end format n k line) ≤ limit
    → IsStore format (rows ++ e ∷ []) after limit now
store_written format rows before after limit log now bytes e line k n s x is ends b a same i m l =
    let old : List LogRow = log_rows_of rows in
    let lines : log_rows_of (rows ++ e ∷ []) ≡ old ++ line ∷ [] =
    log_rows_more rows e ∙ ap (λ (x : LogRow). old ++ x ∷ []) same in
    let more : k ≡ length old + 1 = omega (arith, log_rows_length rows) in
    let new : List ℕ = file_bytes format (old ++ line ∷ []) in
    let whole : s.file ++ bytes ≡ new =
    ap (λ z. s.file ++ z) (b ∙ ap (λ z. behind_end format z k line) (ends ∙ s.end))
    ∙ appended format old s.file line k s.is more in
    let size : length new ≡ n + length (behind_end format n k line) =
    needed_is format rows before limit log line k n s is ends in
    record {
      kept_rows = kept_rows_more format 1 rows e k (omega arith) s.kept_rows i;
      indexed = subst (λ (z : List LogRow). IsIndexOf z after) (sym lines)
          (adds_indexed old line before after k more a s.indexed);
      file = new;
      is = subst (λ (z : List LogRow). IsFile format z new) (sym lines)
          (rows_follow format old line s.is.0 m, inr refl);
      end = x.1 ∙ ap (λ z. z + length bytes) s.end ∙ sym (length-append s.file bytes)
          ∙ ap length whole;
      within = omega (arith, size);
      small = s.small;
      told = told_whole now.told (s.file ++ bytes) new now.torn
          (told_more log.told s.file bytes log.end now.told log.torn s.end s.told x.0) whole;
    }

-- each row has a byte at least, so their number fits
pub next_fits : (format : Format) (rows : List KeptRow) (index : Index) (limit : ℕ) (log : Tail)
    → IsStore format rows index limit log → length rows < 2 ^ 63
next_fits format rows index limit log s = elim s.is.1 [
  | inl none ↦ omega (arith, log_rows_length rows, ap length none.1)
  | inr same ↦ omega (
    arith,
    log_rows_length rows,
    rows_long 1 (log_rows_of rows),
    ap length same,
    length-append (magic format) (rows_bytes 1 (log_rows_of rows)),
    s.within,
    s.small,
  )
]

-- the answers

-- how long the file is with one more row
sized : (format : Format) (rows : List KeptRow) (index : Index) (limit : ℕ) (log : Tail)
    (line : LogRow) (e n : ℕ) → IsStore format rows index limit log → e ≡ log.end
    → n ≡ length (behind_end format e (length rows + 1) line)
    → e + n ≡ length_with (kept_of format rows limit log) line
sized format rows index limit log line e n i ends size =
    ap (λ m. e + m) size
    ∙ sym (needed_is format rows index limit log line (length rows + 1) e i refl ends)

pub full_at : (format : Format) (rows : List KeptRow) (index : Index) (limit : ℕ) (log : Tail)
    (s : Kept) (line : LogRow) (e n : ℕ) → IsStore format rows index limit log
    → kept_of format rows limit log ≡ s → e ≡ log.end
    → n ≡ length (behind_end format e (length rows + 1) line) → limit < e + n
    → (s ≡ s) × (e + n ≡ length_with s line) × (s.limit < e + n)
full_at format rows index limit log s line e n i v ends size over =
    subst (λ (z : Kept). (z ≡ z) × (e + n ≡ length_with z line) × (z.limit < e + n)) v
    (refl, sized format rows index limit log line e n i ends size, over)

fails_at : (format : Format) (rows : List KeptRow) (index : Index) (limit : ℕ)
    (log now : Tail) (s : Kept) (line : LogRow) (e n : ℕ)
    → IsStore format rows index limit log → kept_of format rows limit log ≡ s → e ≡ log.end
    → n ≡ length (behind_end format e (length rows + 1) line) → e + n ≤ limit
    → now.end ≡ log.end → now.torn ≡ true → Rose log.count now.count → log.count ≤ now.count
    → now.count ≡ next_number log.count
    → Fails s (kept_of format rows limit now) line
fails_at format rows index limit log now s line e n i v ends size fits d t r l o =
    subst (λ (z : Kept). Fails z (kept_of format rows limit now) line) v (record {
      rows = refl;
      format = refl;
      limit = refl;
      length = d;
      within = omega (arith, sized format rows index limit log line e n i ends size);
      torn = t;
      rose = r;
      later = l;
      once = o;
    })

pub wrote_at : (format : Format) (rows : List KeptRow) (index : Index) (limit : ℕ)
    (log now : Tail) (s : Kept) (line : LogRow) (row : KeptRow) (e n k : ℕ)
    → IsStore format rows index limit log → kept_of format rows limit log ≡ s → e ≡ log.end
    → n ≡ length (behind_end format e (length rows + 1) line) → e + n ≤ limit
    → log_row_of row ≡ line → k ≡ length rows + 1 → now.end ≡ e + n → now.torn ≡ false
    → log.count ≤ now.count → now.count ≡ log.count
    → Wrote s (kept_of format (rows ++ row ∷ []) limit now) line k
wrote_at format rows index limit log now s line row e n k i v ends size fits same is d t l o =
    subst (λ (z : Kept). Wrote z (kept_of format (rows ++ row ∷ []) limit now) line k) v (record {
      revision_is = omega (arith, log_rows_length rows);
      rows = log_rows_more rows row ∙ ap (λ (x : LogRow). log_rows_of rows ++ x ∷ []) same;
      format = refl;
      limit = refl;
      length = omega (arith, d, sized format rows index limit log line e n i ends size);
      within = omega (arith, sized format rows index limit log line e n i ends size);
      whole = t;
      later = l;
      same_count = o;
    })

-- the index has a live row, so the rows have
pub was_live : (rows : List LogRow) (index : Index) (path : List ℕ) (k : ℕ) → IsIndexOf rows index
    → live_at index path ≡ Some k → IsSome (live rows path)
was_live rows index path k i e = sym (some_live (latest rows path) (live_at index path)
    (gone_at index path) (i path)) ∙ ap is_some e

pub live_seen : (format : Format) (rows : List KeptRow) (limit : ℕ) (log : Tail) (s : Kept)
    (index : Index) (path : List ℕ) (k : ℕ) → kept_of format rows limit log ≡ s
    → IsIndexOf (log_rows_of rows) index → live_at index path ≡ Some k
    → IsSome (live s.rows path)
live_seen format rows limit log s index path k v i e =
    subst (λ (z : Kept). IsSome (live z.rows path)) v (was_live (log_rows_of rows) index path k i e)

stays_memory : (format : Format) (rows : List KeptRow) (before after : Index) (limit : ℕ)
    (log now : Tail) → IsStore format rows before limit log → now ≡ log
    → IsIndexOf (log_rows_of rows) after → IsStore format rows after limit now
stays_memory format rows before after limit log now s e i =
    subst (λ (z : Tail). IsStore format rows after limit z) (sym e) (record {
      kept_rows = s.kept_rows;
      indexed = i;
      file = s.file;
      is = s.is;
      end = s.end;
      within = s.within;
      small = s.small;
      told = s.told;
    })

-- a row that wasn't written leaves the store as it was
module _ (format : Format) (rows : List KeptRow) (before after : Index) (limit : ℕ)
    (log now : Tail) (s : Kept) (path : List ℕ) (kind : RowKind) (k : ℕ) (bytes : List ℕ)
    (store : IsStore format rows before limit log) (is : kept_of format rows limit log ≡ s)
  where
    pub not_written : (change : Change) (made : KeptRow) (why : RowWriteNo)
        → kind ≡ byte_kind (log_row_of made).change
        → log_row_of made ≡ record { path = path; change = change }
        → MayChange s.format s.rows path change
        → Writes {A = Unit {0}} log now before after k path kind bytes (Err why)
        → IsStore format rows after limit now
    not_written change made why kind_is made_is may = by why
      where
        indexed : StaysAs before after path kind → IsIndexOf (log_rows_of rows) after
        indexed same = stays format (log_rows_of rows) path change kind before after
            (kind_is ∙ ap (λ (row : LogRow). byte_kind row.change) made_is)
            (subst (λ (s : Kept). MayChange s.format s.rows path change) (sym is) may) same
            store.indexed

        by : (why : RowWriteNo)
            → Writes {A = Unit {0}} log now before after k path kind bytes (Err why)
            → IsStore format rows after limit now
        by Failed w = store_failed format rows before after limit log now store w.0 (indexed w.1)
        by NoMemory w = stays_memory format rows before after limit log now store w.0 (indexed w.1)

    pub put_not_written : (line : LogRow) (e n : ℕ) (why : RowWriteNo) → e ≡ log.end
        → n ≡ length (behind_end format e (length rows + 1) line) → e + n ≤ limit
        → Writes {A = Unit {0}} log now before after k path kind bytes (Err why)
        → Puts s (kept_of format rows limit now) line (Err (put_refusal why))
    put_not_written line e n Failed ends size fits w =
        fails_at format rows before limit log now s line e n store is ends size fits w.0.1 w.0.2
        w.2 w.3 w.4
    put_not_written line e n NoMemory ends size fits w = ap (kept_of format rows limit) w.0 ∙ is
