-- Lines that are answered, one after another.
use Rattle.std.proofs.Common.{◌≡◌, ℕ, ◌+◌, ◌<◌, ◌≤◌, inl, inr, List, [], ◌∷◌, ◌++◌, length, take, Option, refl, sym, ap, subst, ◌∙◌, arith}
use Rattle.std.proofs.KnownBytes.{Appends-nil, Appends-trans, Consumes-nil, Consumes-trans}
use Rattle.std.specs.Io.KnownBytes.{Appends, Consumes, IsAtEnd}
use Rattle.std.proofs.lemmas.List.{append-nil, append_assoc, flat_map_more, length-append, nil_from_length}
use Rattle.std.proofs.lemmas.List.Elements.{All-nil, All-push}
use Rattle.std.proofs.lemmas.Grind.{flat_map-append}
use Rattle.kr_keywrap.specs.Answer.{Plugin, answer}
use Rattle.kr_keywrap.specs.Serving.{AreServedLines, HasNoBreak, Serves, answers, last_line, line_limit, lines_limit, served_text, ServingEnds}
use Rattle.kr_keywrap.specs.declared.serving.Served.{Served}
use Rattle.kr_keywrap.specs.declared.serving.Served.TheVariants.{Done, Failed, NoMemory, TooLong}
use Rattle.kr_keywrap.specs.inner.Lines.{Fails, HasServed, Grows, NextPart, Passes, ServesLast, ServesLine, Starves}

pub goes_none : (plugin : Plugin) (left held : Option (List ℕ)) → HasServed plugin left left held held [] 0
goes_none plugin left held = record {
  lines = [];
  took = Consumes-nil left;
  breaks = All-nil HasNoBreak;
  short = All-nil (λ (line : List ℕ). length line ≤ line_limit);
  size = refl;
  wrote = Appends-nil held;
}

module _ (plugin : Plugin) (a b c h i j : Option (List ℕ)) (pending all : List ℕ) (count : ℕ)
    (before : HasServed plugin a b h i pending count) (grows : Grows b c pending all) where
  -- all that was taken
  took_all : Consumes a c (served_text before.lines ++ all)
  took_all =
      subst (Consumes a c) (append_assoc (served_text before.lines) pending grows.bytes ∙ ap (λ (l : List ℕ). served_text before.lines ++ l) (sym grows.behind))
      (Consumes-trans a b c (served_text before.lines ++ pending) grows.bytes before.took grows.took)

  took_parts : (next behind : List ℕ) → all ≡ next ++ behind → Consumes a c (served_text before.lines ++ (next ++ behind))
  took_parts next behind is = subst (λ (l : List ℕ). Consumes a c (served_text before.lines ++ l)) is took_all

  are_lines : count ≤ lines_limit → AreServedLines before.lines
  are_lines few = record { breaks = before.breaks; short = before.short; few = omega (arith, before.size, few) }

  -- nothing more was written
  wrote_nothing : Appends i j [] → Appends h j (answers plugin before.lines)
  wrote_nothing w = subst (Appends h j) (append-nil (answers plugin before.lines)) (Appends-trans h i j (answers plugin before.lines) [] before.wrote w)

  pub goes_more : (new : List ℕ) → ServesLine plugin i j all new → HasServed plugin a c h j new (count + 1)
  goes_more new one =
      let lines : List (List ℕ) = before.lines in
      let text : served_text lines ++ all ≡ served_text (lines ++ one.line ∷ []) ++ new =
      ap (λ (l : List ℕ). served_text lines ++ l) one.is ∙ sym (append_assoc (served_text lines) (one.line ++ 0x0A ∷ []) new)
      ∙ ap (λ (l : List ℕ). l ++ new) (flat_map_more (λ (line : List ℕ). line ++ 0x0A ∷ []) [] lines one.line) in record {
        lines = lines ++ one.line ∷ [];
        took = subst (Consumes a c) text took_all;
        breaks = All-push HasNoBreak lines one.line before.breaks one.unbroken;
        short = All-push (λ (line : List ℕ). length line ≤ line_limit) lines one.line before.short one.short;
        size = omega (arith, length-append lines (one.line ∷ []), before.size);
        wrote =
            subst (Appends h j) (flat_map_more (answer plugin) [] lines one.line)
            (Appends-trans h i j (answers plugin lines) (answer plugin one.line) before.wrote one.wrote);
      }

  last_lines : (next : List ℕ) → HasNoBreak next → length next ≤ line_limit → count < lines_limit → AreServedLines (before.lines ++ last_line next)
  last_lines [] unbroken short few =
      subst AreServedLines (sym (append-nil before.lines)) (are_lines (omega arith))
  last_lines (byte ∷ bytes) unbroken short few = record {
    breaks = All-push HasNoBreak before.lines (byte ∷ bytes) before.breaks unbroken;
    short = All-push (λ (line : List ℕ). length line ≤ line_limit) before.lines (byte ∷ bytes) before.short short;
    few = omega (arith, length-append before.lines ((byte ∷ bytes) ∷ []), before.size, few);
  }

  pub served_done : (R Q : Type 0) → ServesLast plugin c i j all → count < lines_limit → Serves plugin a c h j R Q Done
  served_done R Q last few = record {
    lines = before.lines;
    next = all;
    behind = [];
    took = took_parts all [] (sym (append-nil all));
    are_lines = are_lines (omega arith);
    unbroken = last.unbroken;
    ends = (
      refl,
      last.ends,
      last_lines all last.unbroken last.short few,
      subst (Appends h j) (sym (flat_map-append (answer plugin) before.lines (last_line all)))
          (Appends-trans h i j (answers plugin before.lines) (answers plugin (last_line all)) before.wrote last.wrote),
    );
  }

  -- nothing is left where the source is at its end
  pub served_end : (R Q : Type 0) → IsAtEnd c → length all ≡ 0 → Appends i j [] → count ≤ lines_limit → Serves plugin a c h j R Q Done
  served_end R Q ends none wrote few = record {
    lines = before.lines;
    next = [];
    behind = [];
    took = subst (λ (l : List ℕ). Consumes a c (served_text before.lines ++ l)) (nil_from_length all none) took_all;
    are_lines = are_lines few;
    unbroken = All-nil (λ (byte : ℕ). byte ≡ 0x0A → ⊥);
    ends = (
      refl,
      ends,
      subst AreServedLines (sym (append-nil before.lines)) (are_lines few),
      subst (λ (l : List (List ℕ)). Appends h j (answers plugin l)) (sym (append-nil before.lines)) (wrote_nothing wrote),
    );
  }

  serves_part : (Source Sink : Type 0) (why : Served) (part : NextPart all) → count ≤ lines_limit
      → ServingEnds plugin before.lines part.next part.behind c h j Source Sink why
      → Serves plugin a c h j Source Sink why
  serves_part Source Sink why part few ends = record {
    lines = before.lines;
    next = part.next;
    behind = part.behind;
    took = took_parts part.next part.behind part.is;
    are_lines = are_lines few;
    unbroken = part.unbroken;
    ends = ends;
  }

  pub served_failed : (R Q Source Sink : Type 0) → Fails plugin c i j all R Q → (R → Source) → (Q → Sink) → count ≤ lines_limit
      → Serves plugin a c h j Source Sink Failed
  served_failed R Q Source Sink fails source sink few = serves_part Source Sink Failed fails.part few (
    fails.part.short,
    elim fails.wrote [
      | inl nothing ↦ inl (source nothing.0, nothing.1, wrote_nothing nothing.2)
      | inr some ↦ inr (
        sink some.0,
        some.1,
        (
          some.2.0,
          Appends-trans h i j (answers plugin before.lines) (take some.2.0 (answer plugin fails.part.next)) before.wrote some.2.1,
        ),
      )
    ],
  )

  pub served_starved : (R Q : Type 0) → Starves i j all → count ≤ lines_limit → Serves plugin a c h j R Q NoMemory
  served_starved R Q starves few =
      serves_part R Q NoMemory starves.part few (starves.part.short, starves.stops, wrote_nothing starves.wrote)

  pub served_long : (R Q : Type 0) → Passes i j all → count ≤ lines_limit → Serves plugin a c h j R Q TooLong
  served_long R Q passes few = record {
    lines = before.lines;
    next = all;
    behind = [];
    took = took_parts all [] (sym (append-nil all));
    are_lines = are_lines few;
    unbroken = passes.unbroken;
    ends = (inl passes.long, wrote_nothing passes.wrote);
  }

  -- the source goes on behind the last line that is answered
  pub served_many : (R Q : Type 0) → Appends i j [] → 0 < length all → count ≡ lines_limit → Serves plugin a c h j R Q TooLong
  served_many R Q wrote some full = record {
    lines = before.lines;
    next = [];
    behind = all;
    took = took_parts [] all refl;
    are_lines = are_lines (omega arith);
    unbroken = All-nil (λ (byte : ℕ). byte ≡ 0x0A → ⊥);
    ends = (inr (before.size ∙ full, omega arith), wrote_nothing wrote);
  }
