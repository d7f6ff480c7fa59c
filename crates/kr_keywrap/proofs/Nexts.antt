-- What is made of the next line.
use Rattle.std.proofs.Common.{◌≡◌, ◌==◌, ℕ, zero, suc, true, false, ◌+◌, ◌<◌, ◌≤◌, inl, inr, List, [], ◌∷◌, ◌++◌, length, take, drop, Option, Some, None, Result, Ok, Err, refl, sym, ap, subst, ◌∙◌, arith}
use Rattle.std.proofs.KnownBytes.{Appends-nil}
use Rattle.std.specs.Io.KnownBytes.{Appends, IsAtEnd}
use Rattle.std.proofs.lemmas.Bool.Decides.{Decides-eqb}
use Rattle.std.proofs.lemmas.List.Elements.{All-nil}
use Rattle.kr_base.specs.Streams.{AppendsFront}
use Rattle.std.proofs.lemmas.List.{append-nil, append_assoc, drop_more, length-take-le, nil_from_length, take-append-drop}
use Rattle.std.proofs.lemmas.List.Concat.{flat_map-cons}
use Rattle.kr_keywrap.specs.Answer.{Plugin, answer}
use Rattle.kr_keywrap.specs.Serving.{HasNoBreak, Serves, answers, last_line, line_limit, lines_limit}
use Rattle.kr_keywrap.specs.declared.serving.Served.{Served}
use Rattle.kr_keywrap.specs.declared.serving.Served.TheVariants.{Done, Failed, NoMemory, TooLong}
use Rattle.kr_keywrap.specs.inner.Lines.{Finds, HasServed, Grows, IsBreak, NextPart, ServesLast, ServesLine, ServesNext, ServesOne, WritesAnswer, WritesLast}
use Rattle.kr_keywrap.proofs.Lines.{grows_none, no_break, no_break_all}
use Rattle.kr_keywrap.proofs.Loops.{goes_none, served_end, served_failed, served_long, served_starved}

-- the last bytes, behind which nothing stands
abbrev last_part : (all last : List ℕ) → last ≡ all → HasNoBreak all → length all ≤ line_limit
    → NextPart all
last_part all last same unbroken short = record {
  next = last;
  behind = [];
  is = sym same ∙ sym (append-nil last);
  unbroken = subst HasNoBreak (sym same) unbroken;
  short = omega (arith, ap length same, short);
}

-- there is no line
pub none_found : (plugin : Plugin) (left held : Option (List ℕ)) (all new : List ℕ) (R Q : Type 0) (why : Served)
    → Finds left all R (Err why) → ServesNext plugin left held held all new R Q (Err why)
none_found plugin left held all new R Q Failed finds = record {
  part = last_part all all refl (no_break_all all finds.1) finds.2;
  wrote = inl (finds.0, refl, Appends-nil held);
}
none_found plugin left held all new R Q TooLong finds = record {
  unbroken = no_break_all all finds.0;
  long = finds.1;
  wrote = Appends-nil held;
}
none_found plugin left held all new R Q other finds = absurd finds

-- ---- the source's end

one_answer : (plugin : Plugin) (all : List ℕ) → 0 < length all → answer plugin all ≡ answers plugin (last_line all)
one_answer plugin [] some = absurd (omega arith)
one_answer plugin (byte ∷ bytes) some = sym (flat_map-cons (answer plugin) (byte ∷ bytes) [] ∙ append-nil (answer plugin (byte ∷ bytes)))

-- a last line
last_written : (plugin : Plugin) (held_old held : Option (List ℕ)) (last : List ℕ) → 0 < length last → Appends held_old held (answer plugin last)
    → Appends held_old held (answers plugin (last_line last))
last_written plugin held_old held last some wrote = subst (Appends held_old held) (one_answer plugin last some) wrote

-- or why it isn't written
pub last_answered : (plugin : Plugin) (held_old held : Option (List ℕ)) (last : List ℕ) → 0 < length last → (Q : Type 0) (result : Result (Unit {0}) Served)
    → WritesAnswer plugin last held_old held Q result → WritesLast plugin last held_old held Q result
last_answered plugin held_old held last some Q (Ok done) writes = last_written plugin held_old held last some writes
last_answered plugin held_old held last some Q (Err why) writes = writes

pub nothing_written : (plugin : Plugin) (held : Option (List ℕ)) (last : List ℕ) → length last ≡ 0 → Appends held held (answers plugin (last_line last))
nothing_written plugin held last none =
    subst (λ (l : List ℕ). Appends held held (answers plugin (last_line l))) (sym (nil_from_length last none)) (Appends-nil held)

pub last_served : (plugin : Plugin) (left held_old held : Option (List ℕ)) (all last : List ℕ) (R : Type 0) → Finds left all R (Ok None) → last ≡ all
    → Appends held_old held (answers plugin (last_line last)) → ServesLast plugin left held_old held all
last_served plugin left held_old held all last R finds same wrote = record {
  ends = finds.0;
  unbroken = no_break_all all finds.1;
  short = finds.2;
  wrote = subst (λ (l : List ℕ). Appends held_old held (answers plugin (last_line l))) same wrote;
}

-- what was written of an answer, where the bytes are that answer
pub answer_written : (plugin : Plugin) (held_old held : Option (List ℕ)) (line bytes slice : List ℕ) → slice ≡ bytes → bytes ≡ answer plugin line
    → Appends held_old held slice → Appends held_old held (answer plugin line)
answer_written plugin held_old held line bytes slice same is wrote = subst (Appends held_old held) (same ∙ is) wrote

pub answer_begun : (plugin : Plugin) (held_old held : Option (List ℕ)) (line bytes slice : List ℕ) → slice ≡ bytes → bytes ≡ answer plugin line
    → AppendsFront held_old held slice → (n : ℕ) × Appends held_old held (take n (answer plugin line))
answer_begun plugin held_old held line bytes slice same is front =
    (front.0, subst (λ (l : List ℕ). Appends held_old held (take front.0 l)) (same ∙ is) front.2)

pub last_failed : (plugin : Plugin) (left held_old held : Option (List ℕ)) (all new last : List ℕ) (R Q : Type 0) (why : Served)
    → Finds left all R (Ok None) → last ≡ all → WritesAnswer plugin last held_old held Q (Err why)
    → ServesNext plugin left held_old held all new R Q (Err why)
last_failed plugin left held_old held all new last R Q Failed finds same writes = record {
  part = last_part all last same (no_break_all all finds.1) finds.2;
  wrote = inr (writes.0, inr (refl, finds.0), writes.1);
}
last_failed plugin left held_old held all new last R Q NoMemory finds same writes = record {
  part = last_part all last same (no_break_all all finds.1) finds.2;
  stops = inr refl;
  wrote = writes;
}
last_failed plugin left held_old held all new last R Q other finds same writes = absurd writes

-- ---- a line with its LF

-- the bytes at an LF
at_break : (all : List ℕ) (place : ℕ) → IsBreak all place → drop place all ≡ 0x0A ∷ drop (place + 1) all
at_break all place is =
    drop_more all place 0 is.within ∙ ap (λ (byte : ℕ). byte ∷ drop (place + 1) all) is.found

-- a line up to its LF
abbrev line_part : (all line : List ℕ) (place : ℕ) → IsBreak all place → place ≤ line_limit
    → line ≡ take place all → NextPart all
line_part all line place is most at = record {
  next = line;
  behind = drop place all;
  is = sym (ap (λ (l : List ℕ). l ++ drop place all) at ∙ take-append-drop place all);
  unbroken = subst HasNoBreak (sym at) (no_break all place (omega (arith, is.within)) is.unbroken);
  short = omega (arith, ap length at, length-take-le place all (omega (arith, is.within)), most);
}

pub line_failed : (plugin : Plugin) (left held_old held : Option (List ℕ)) (all new line : List ℕ) (place : ℕ) (R Q : Type 0) (why : Served)
    → IsBreak all place → place ≤ line_limit → line ≡ take place all → WritesAnswer plugin line held_old held Q (Err why)
    → ServesNext plugin left held_old held all new R Q (Err why)
line_failed plugin left held_old held all new line place R Q Failed is most at writes = record {
  part = line_part all line place is most at;
  wrote = inr (writes.0, inl (drop (place + 1) all, at_break all place is), writes.1);
}
line_failed plugin left held_old held all new line place R Q NoMemory is most at writes = record {
  part = line_part all line place is most at;
  stops = inl (drop (place + 1) all, at_break all place is);
  wrote = writes;
}
line_failed plugin left held_old held all new line place R Q other is most at writes = absurd writes

pub line_served : (plugin : Plugin) (held_old held : Option (List ℕ)) (all new line : List ℕ) (place : ℕ)
    → IsBreak all place → place ≤ line_limit → line ≡ take place all → new ≡ drop (place + 1) all → Appends held_old held (answer plugin line)
    → ServesLine plugin held_old held all new
line_served plugin held_old held all new line place is short at rest wrote =
    let whole : all ≡ (line ++ 0x0A ∷ []) ++ new =
    sym (take-append-drop place all) ∙ ap (λ (l : List ℕ). take place all ++ l) (at_break all place is)
    ∙ (λ i. sym at i ++ (0x0A ∷ sym rest i)) ∙ sym (append_assoc line (0x0A ∷ []) new) in record {
      line = line;
      is = whole;
      unbroken = subst HasNoBreak (sym at) (no_break all place (omega (arith, is.within)) is.unbroken);
      short = omega (arith, ap length at, length-take-le place all (omega (arith, is.within)), short);
      wrote = wrote;
    }

-- ---- the whole loop

stopped : (plugin : Plugin) (a b c h i j : Option (List ℕ)) (pending all new : List ℕ) (count : ℕ) (R Q Source Sink : Type 0) (why : Served)
    → HasServed plugin a b h i pending count → Grows b c pending all → ServesNext plugin c i j all new R Q (Err why) → (R → Source) → (Q → Sink)
    → count ≤ lines_limit → Serves plugin a c h j Source Sink why
stopped plugin a b c h i j pending all new count R Q Source Sink Done before grows one source sink few = absurd one
stopped plugin a b c h i j pending all new count R Q Source Sink Failed before grows one source sink few =
    served_failed plugin a b c h i j pending all count before grows R Q Source Sink one source sink few
stopped plugin a b c h i j pending all new count R Q Source Sink NoMemory before grows one source sink few =
    served_starved plugin a b c h i j pending all count before grows Source Sink one few
stopped plugin a b c h i j pending all new count R Q Source Sink TooLong before grows one source sink few =
    served_long plugin a b c h i j pending all count before grows Source Sink one few

pub stops : (plugin : Plugin) (a b c h i j : Option (List ℕ)) (pending new : List ℕ) (count : ℕ) (R Q Source Sink : Type 0) (why : Served)
    → HasServed plugin a b h i pending count → ServesOne plugin b c i j pending new R Q (Err why) → (R → Source) → (Q → Sink) → count ≤ lines_limit
    → Serves plugin a c h j Source Sink why
stops plugin a b c h i j pending new count R Q Source Sink why before one source sink few =
    stopped plugin a b c h i j pending one.all new count R Q Source Sink why before one.grows one.serves source sink few

-- the lines are all answered, and there is no further one
pub stops_behind : (plugin : Plugin) (a b c h i : Option (List ℕ)) (pending all : List ℕ) (count : ℕ) (R Source Sink : Type 0) (why : Served)
    → HasServed plugin a b h i pending count → Grows b c pending all → Finds c all R (Err why) → (R → Source) → count ≤ lines_limit
    → Serves plugin a c h i Source Sink why
stops_behind plugin a b c h i pending all count R Source Sink why before grows finds source few =
    stopped plugin a b c h i i pending all all count R Sink Source Sink why before grows (none_found plugin c i all all R Sink why finds) source (λ s. s) few

at_end : (left : Option (List ℕ)) (all : List ℕ) (R : Type 0) (found : Option ℕ) → Finds left all R (Ok found) → length all ≡ 0 → IsAtEnd left
at_end left all R None finds none = finds.0
at_end left all R (Some place) finds none = absurd (omega (arith, finds.0.within, none))

pub ends_behind : (plugin : Plugin) (a b c h i : Option (List ℕ)) (pending all : List ℕ) (count : ℕ) (R Source Sink : Type 0) (found : Option ℕ)
    → HasServed plugin a b h i pending count → Grows b c pending all → Finds c all R (Ok found) → length all ≡ 0 → count ≤ lines_limit
    → Serves plugin a c h i Source Sink Done
ends_behind plugin a b c h i pending all count R Source Sink found before grows finds none few =
    served_end plugin a b c h i i pending all count before grows Source Sink (at_end c all R found finds none) none (Appends-nil i) few

-- ---- before the first line

pub nothing_starves : (plugin : Plugin) (left held : Option (List ℕ)) (Source Sink : Type 0) → Serves plugin left left held held Source Sink NoMemory
nothing_starves plugin left held Source Sink =
    served_starved plugin left left left held held held [] [] 0 (goes_none plugin left held) (grows_none left []) Source Sink
    (record {
      part = last_part [] [] refl (All-nil (λ (byte : ℕ). byte ≡ 0x0A → ⊥)) (omega arith);
      stops = inr refl;
      wrote = Appends-nil held;
    }) (omega arith)

-- ---- whether there are any

pub some_of : (n : ℕ) → false ≡ (n == 0) → 0 < n
some_of zero e = absurd (cc)
some_of (suc n) e = omega arith

pub none_of : (n : ℕ) → true ≡ (n == 0) → n ≡ 0
none_of n e = (Decides-eqb n 0).0 (sym e)
