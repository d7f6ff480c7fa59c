-- Texts that are written one behind another.
use Rattle.std.proofs.Common.{◌≡◌, ℕ, suc, ◌+◌, ◌-◌, ◌^◌, ◌<◌, ◌≤◌, List, [], ◌∷◌, ◌++◌, length}
use Rattle.std.proofs.Common.{take, drop, map, Option, Result, Ok, Err, refl, sym, ap, ◌∙◌, subst, arith}
use Rattle.std.proofs.Common.{get_or, inl, inr}
use Rattle.std.specs.Prelude.{IsErrOf, codes}
use Rattle.std.proofs.Math.Seq.{drop-cons, take-append-add}
use Rattle.std.proofs.lemmas.Bool.{cases_lt}
use Rattle.std.proofs.lemmas.List.{take-append-le, append_assoc, append-nil, length-append, take_all}
use Rattle.std.proofs.lemmas.List.{drop_all}
use Rattle.std.specs.Io.KnownBytes.{Appends}
use Rattle.std.proofs.KnownBytes.{Appends-trans, Appends-nil}
use Rattle.kr_base.specs.Faults.{Rose, counted}
use Rattle.kr_base.specs.Streams.{AppendsFront}
use Rattle.kr_rollout.specs.declared.line.Line.{Line}
use Rattle.kr_script.specs.declared.script.Part.{Part}
use Rattle.kr_script.specs.declared.told.Told.{Told}
use Rattle.kr_script.specs.declared.told.WriteNo.{WriteNo}
use Rattle.kr_script.specs.declared.told.WriteNo.TheVariants.{Failed, NoMemory}
use Rattle.kr_script.specs.Fleets.{Fleet, worker_of}
use Rattle.kr_script.specs.Output.{Replies, journal_text, journal_texts, told_text, told_texts}
use Rattle.kr_script.specs.Output.{all_texts, told_at, lines_text, fleet_output, write_failed}
use Rattle.kr_script.specs.inner.Writing.{Wrote}

-- the front of a whole text was written, and this rest is still to come
pub record Spoke (before now : Option (List ℕ)) (whole rest : List ℕ) (faults count : ℕ)
    : Type 0 where
  pub written : List ℕ
  pub appended : Appends before now written
  pub split : whole ≡ written ++ rest
  pub later : faults ≤ count
  pub calm : count ≡ faults

pub spoke_start : (a : Option (List ℕ)) (whole : List ℕ) (faults : ℕ)
    → Spoke a a whole whole faults faults
spoke_start a whole faults = record {
  written = [];
  appended = Appends-nil a;
  split = refl;
  later = omega arith;
  calm = refl;
}

pub spoke_more : {a b : Option (List ℕ)} {whole : List ℕ} {faults count : ℕ} {T : Type 0}
    (c : Option (List ℕ)) (next rest : List ℕ) (after : ℕ) (done : T)
    → Spoke a b whole (next ++ rest) faults count → Wrote b c count after next (Ok done)
    → Spoke a c whole rest faults after
spoke_more {a} {b} {whole} {faults} {count} c next rest after done s w = record {
  written = s.written ++ next;
  appended = Appends-trans a b c s.written next s.appended w.ok;
  split = s.split ∙ sym (append_assoc s.written next rest);
  later = let l = s.later in let m = w.later in omega (arith, l, m);
  calm = w.once ∙ s.calm;
}

front_at : (written next rest whole : List ℕ) (n : ℕ) → whole ≡ written ++ (next ++ rest)
    → n ≤ length next → take (length written + n) whole ≡ written ++ take n next
front_at written next rest whole n e short = ap (take (length written + n)) e
    ∙ take-append-add written (next ++ rest) n
    ∙ ap (λ l. written ++ l) (take-append-le n next rest short)

spoke_front : {a b : Option (List ℕ)} {whole : List ℕ} {faults count : ℕ} (c : Option (List ℕ))
    (next rest : List ℕ) → Spoke a b whole (next ++ rest) faults count → AppendsFront b c next
    → AppendsFront a c whole
spoke_front {a} {b} {whole} c next rest s (n, short, appended) = (
  length s.written + n,
  omega (
    arith,
    short,
    ap length s.split,
    length-append s.written (next ++ rest),
    length-append next rest,
  ),
  subst (Appends a c) (sym (front_at s.written next rest whole n s.split short))
      (Appends-trans a b c s.written (take n next) s.appended appended),
)

later_rose : (f g h : ℕ) → f ≤ g → Rose g h → Rose f h
later_rose f g h le (inl rose) = inl (omega (arith, le, rose))
later_rose f g h le (inr (old, new)) = elim (cases_lt f (2 ^ 64 - 1)) [
  | inl below ↦ inl (omega (arith, below, new))
  | inr above ↦ inr (omega (arith, above, le, old), new)
]

-- a refusal in what comes next, behind what was written

pub spoke_fails : {a b : Option (List ℕ)} {whole : List ℕ} {faults count : ℕ} {T S : Type 0}
    (c : Option (List ℕ)) (next rest : List ℕ) (after : ℕ) (why : WriteNo)
    → Spoke a b whole (next ++ rest) faults count
    → Wrote {T = T} b c count after next (Err why)
    → Wrote {T = S} a c faults after whole (Err why)
spoke_fails {a} {b} {whole} {faults} {count} c next rest after why s w = record {
  ok = tt;
  err = spoke_front c next rest s w.err;
  later = let l = s.later in let m = w.later in omega (arith, l, m);
  failed = λ e. later_rose faults count after s.later (w.failed (same why e));
  once = w.once ∙ ap (counted (write_failed why)) s.calm;
}
  where
    same : {S T : Type 0} (why : WriteNo) → IsErrOf {T = S} {E = WriteNo} (Err why) Failed
        → IsErrOf {T = T} {E = WriteNo} (Err why) Failed
    same Failed e = refl
    same NoMemory e = cc

-- want of memory, before anything more was written
pub spoke_stops : {a b : Option (List ℕ)} {whole rest : List ℕ} {faults count : ℕ} {S : Type 0}
    → Spoke a b whole rest faults count → Wrote {T = S} a b faults count whole (Err NoMemory)
spoke_stops {a} {b} {whole} {rest} s = record {
  ok = tt;
  err = (
    length s.written,
    omega (arith, ap length s.split, length-append s.written rest),
    subst (Appends a b) (sym (ap (take (length s.written)) s.split
        ∙ take-append-le (length s.written) s.written rest (omega arith)
        ∙ take_all (length s.written) s.written (omega arith))) s.appended,
  );
  later = s.later;
  failed = λ e. cc;
  once = s.calm;
}

pub spoke_all : {a b : Option (List ℕ)} {whole : List ℕ} {faults count : ℕ} {S : Type 0} (done : S)
    → Spoke a b whole [] faults count → Wrote a b faults count whole (Ok done)
spoke_all {a} {b} {whole} done s = record {
  ok = subst (Appends a b) (sym (s.split ∙ append-nil s.written)) s.appended;
  err = tt;
  later = s.later;
  failed = λ e. cc;
  once = s.calm;
}

-- the last text of a whole
pub spoke_last : {a b : Option (List ℕ)} {whole : List ℕ} {faults count : ℕ} {S : Type 0}
    (c : Option (List ℕ)) (next : List ℕ) (after : ℕ) (result : Result S WriteNo)
    → Spoke a b whole next faults count → Wrote b c count after next result
    → Wrote a c faults after whole result
spoke_last {a} {b} {whole} {faults} {count} c next after (Ok done) s w =
    spoke_all done (spoke_more c next [] after done (ended s) w)
  where
    ended : Spoke a b whole next faults count → Spoke a b whole (next ++ []) faults count
    ended s = subst (λ l. Spoke a b whole l faults count) (sym (append-nil next)) s
spoke_last {a} {b} {whole} {faults} {count} c next after (Err why) s w =
    spoke_fails c next [] after why
    (subst (λ l. Spoke a b whole l faults count) (sym (append-nil next)) s) w

-- what is still to come of the lines, the replies and the workers

pub ended_append : (xs ys : List (List ℕ)) → lines_text (xs ++ ys) ≡ lines_text xs ++ lines_text ys
ended_append [] ys = refl
ended_append (x ∷ xs) ys =
    ap (λ l. x ++ (codes "\n" ++ l)) (ended_append xs ys)
    ∙ sym (append_assoc x (codes "\n" ++ lines_text xs) (lines_text ys))

ended_cons : (x : List ℕ) (xs : List (List ℕ))
    → lines_text (x ∷ xs) ≡ (x ++ codes "\n") ++ lines_text xs
ended_cons x xs = sym (append_assoc x (codes "\n") (lines_text xs))

-- the lines of a list from a place on, where each line is written of its number and its element
part_from : {X : Type 0} (text : ℕ → X → List ℕ) (texts : ℕ → List X → List (List ℕ))
    → ((n : ℕ) (x : X) (xs : List X) → texts n (x ∷ xs) ≡ text n x ∷ texts (n + 1) xs)
    → (n : ℕ) (xs : List X) (i : ℕ) (d : X) → i < length xs
    → lines_text (texts n (drop i xs))
    ≡ (text n (get_or xs i d) ++ codes "\n") ++ lines_text (texts (n + 1) (drop (i + 1) xs))
part_from text texts cons n xs i d h =
    let one : suc i ≡ i + 1 = omega arith in
    ap (λ l. lines_text (texts n l)) (drop-cons xs i d h)
    ∙ ap lines_text (cons n (get_or xs i d) (drop (suc i) xs))
    ∙ ap (λ k. lines_text (text n (get_or xs i d) ∷ texts (n + 1) (drop k xs))) one
    ∙ ended_cons (text n (get_or xs i d)) (texts (n + 1) (drop (i + 1) xs))

pub lines_from : (fleet : Fleet) (journal : List Line) (i : ℕ) (d : Line) → i < length journal
    → lines_text (journal_texts fleet i (drop i journal))
    ≡ (journal_text fleet i (get_or journal i d) ++ codes "\n")
    ++ lines_text (journal_texts fleet (i + 1) (drop (i + 1) journal))
lines_from fleet journal i d h =
    part_from (journal_text fleet) (journal_texts fleet) (λ n line more. refl) i journal i d h

pub replies_from : (worker : List ℕ) (n : ℕ) (replies : List Told) (i : ℕ) (d : Told)
    → i < length replies → lines_text (told_texts worker n (drop i replies))
    ≡ (told_text worker n (get_or replies i d) ++ codes "\n")
    ++ lines_text (told_texts worker (n + 1) (drop (i + 1) replies))
replies_from worker n replies i d h =
    part_from (told_text worker) (told_texts worker) (λ n reply more. refl) n replies i d h

pub workers_from : (replies : Replies) (parts : List Part) (i : ℕ) (d : Part) → i < length parts
    → lines_text (all_texts i replies (map worker_of (drop i parts)))
    ≡ lines_text (told_texts (get_or parts i d).name 1 (told_at replies i))
    ++ lines_text (all_texts (i + 1) replies (map worker_of (drop (i + 1) parts)))
workers_from replies parts i d h =
    let one : suc i ≡ i + 1 = omega arith in
    ap (λ l. lines_text (all_texts i replies (map worker_of l))) (drop-cons parts i d h)
    ∙ ap (λ k. lines_text (told_texts (get_or parts i d).name 1 (told_at replies i)
    ++ all_texts (i + 1) replies (map worker_of (drop k parts)))) one
    ∙ ended_append (told_texts (get_or parts i d).name 1 (told_at replies i))
    (all_texts (i + 1) replies (map worker_of (drop (i + 1) parts)))

-- the whole in its five parts
pub in_parts : (fleet : Fleet) (journal : List Line) (replies : Replies)
    → fleet_output fleet journal replies
    ≡ codes "journal\n" ++ (lines_text (journal_texts fleet 0 journal)
    ++ (codes "replies\n" ++ (lines_text (all_texts 0 replies fleet.workers)
    ++ codes "end\n")))
in_parts fleet journal replies =
    let told = all_texts 0 replies fleet.workers in
    ap (λ l. codes "journal\n" ++ l)
    (ended_append (journal_texts fleet 0 journal) (codes "replies" ∷ (told ++ codes "end" ∷ []))
    ∙ ap (λ l. lines_text (journal_texts fleet 0 journal) ++ (codes "replies\n" ++ l))
    (ended_append told (codes "end" ∷ [])))

-- ---- the loops

line_here : (fleet : Fleet) (journal : List Line) (n : ℕ) (line : Line) → n < length journal
    → line ≡ get_or journal n line → lines_text (journal_texts fleet n (drop n journal))
    ≡ (journal_text fleet n line ++ codes "\n")
    ++ lines_text (journal_texts fleet (n + 1) (drop (n + 1) journal))
line_here fleet journal n line h is = lines_from fleet journal n line h
    ∙ ap (λ l. (journal_text fleet n l ++ codes "\n")
    ++ lines_text (journal_texts fleet (n + 1) (drop (n + 1) journal))) (sym is)

reply_here : (worker : List ℕ) (n : ℕ) (replies : List Told) (i : ℕ) (reply : Told)
    → i < length replies → reply ≡ get_or replies i reply
    → lines_text (told_texts worker n (drop i replies))
    ≡ (told_text worker n reply ++ codes "\n")
    ++ lines_text (told_texts worker (n + 1) (drop (i + 1) replies))
reply_here worker n replies i reply h is = replies_from worker n replies i reply h
    ∙ ap (λ l. (told_text worker n l ++ codes "\n")
    ++ lines_text (told_texts worker (n + 1) (drop (i + 1) replies))) (sym is)

-- nothing was written
pub nothing_wrote : {S : Type 0} {a : Option (List ℕ)} {faults : ℕ} {text : List ℕ}
    → Wrote {T = S} a a faults faults text (Err NoMemory)
nothing_wrote {a = a} {faults = faults} {text = text} = spoke_stops (spoke_start a text faults)

pub wrote_as : {S : Type 0} {a b : Option (List ℕ)} {faults count : ℕ} {text other : List ℕ}
    {result : Result S WriteNo} → text ≡ other → Wrote a b faults count text result
    → Wrote a b faults count other result
wrote_as {a = a} {b = b} {faults = faults} {count = count} {result = result} e w =
    subst (λ t. Wrote a b faults count t result) e w

pub journal_more : {a b : Option (List ℕ)} {f g : ℕ} {whole : List ℕ} {T : Type 0}
    (fleet : Fleet) (journal : List Line) (n : ℕ) (c : Option (List ℕ)) (line : Line) (after : ℕ)
    (done : T) → n < length journal → line ≡ get_or journal n line
    → Spoke a b whole (lines_text (journal_texts fleet n (drop n journal))) f g
    → Wrote b c g after (journal_text fleet n line ++ codes "\n") (Ok done)
    → Spoke a c whole (lines_text (journal_texts fleet (n + 1) (drop (n + 1) journal))) f after
journal_more {a} {b} {f} {g} {whole} fleet journal n c line after done h is s w =
    spoke_more c (journal_text fleet n line ++ codes "\n")
    (lines_text (journal_texts fleet (n + 1) (drop (n + 1) journal))) after done
    (subst (λ l. Spoke a b whole l f g) (line_here fleet journal n line h is) s) w

pub journal_fails : {a b : Option (List ℕ)} {f g : ℕ} {whole : List ℕ} {T S : Type 0}
    (fleet : Fleet) (journal : List Line) (n : ℕ) (c : Option (List ℕ)) (line : Line) (after : ℕ)
    (why : WriteNo) → n < length journal → line ≡ get_or journal n line
    → Spoke a b whole (lines_text (journal_texts fleet n (drop n journal))) f g
    → Wrote {T = T} b c g after (journal_text fleet n line ++ codes "\n") (Err why)
    → Wrote {T = S} a c f after whole (Err why)
journal_fails {a} {b} {f} {g} {whole} fleet journal n c line after why h is s w =
    spoke_fails c (journal_text fleet n line ++ codes "\n")
    (lines_text (journal_texts fleet (n + 1) (drop (n + 1) journal))) after why
    (subst (λ l. Spoke a b whole l f g) (line_here fleet journal n line h is) s) w

pub journal_ends : {a b : Option (List ℕ)} {f g : ℕ} {whole : List ℕ} {S : Type 0}
    (fleet : Fleet) (journal : List Line) (n : ℕ) (done : S) → length journal ≤ n
    → Spoke a b whole (lines_text (journal_texts fleet n (drop n journal))) f g
    → Wrote a b f g whole (Ok done)
journal_ends {a} {b} {f} {g} {whole} fleet journal n done h s = spoke_all done
    (subst (λ l. Spoke a b whole (lines_text (journal_texts fleet n l)) f g)
    (drop_all n journal h) s)

pub replies_more : {a b : Option (List ℕ)} {f g : ℕ} {whole : List ℕ} {T : Type 0}
    (worker : List ℕ) (replies : List Told) (n i : ℕ) (c : Option (List ℕ)) (reply : Told)
    (after : ℕ) (done : T) → i < length replies → reply ≡ get_or replies i reply
    → Spoke a b whole (lines_text (told_texts worker n (drop i replies))) f g
    → Wrote b c g after (told_text worker n reply ++ codes "\n") (Ok done)
    → Spoke a c whole (lines_text (told_texts worker (n + 1) (drop (i + 1) replies))) f after
replies_more {a} {b} {f} {g} {whole} worker replies n i c reply after done h is s w =
    spoke_more c (told_text worker n reply ++ codes "\n")
    (lines_text (told_texts worker (n + 1) (drop (i + 1) replies))) after done
    (subst (λ l. Spoke a b whole l f g) (reply_here worker n replies i reply h is) s) w

pub replies_fail : {a b : Option (List ℕ)} {f g : ℕ} {whole : List ℕ} {T S : Type 0}
    (worker : List ℕ) (replies : List Told) (n i : ℕ) (c : Option (List ℕ)) (reply : Told)
    (after : ℕ) (why : WriteNo) → i < length replies → reply ≡ get_or replies i reply
    → Spoke a b whole (lines_text (told_texts worker n (drop i replies))) f g
    → Wrote {T = T} b c g after (told_text worker n reply ++ codes "\n") (Err why)
    → Wrote {T = S} a c f after whole (Err why)
replies_fail {a} {b} {f} {g} {whole} worker replies n i c reply after why h is s w =
    spoke_fails c (told_text worker n reply ++ codes "\n")
    (lines_text (told_texts worker (n + 1) (drop (i + 1) replies))) after why
    (subst (λ l. Spoke a b whole l f g) (reply_here worker n replies i reply h is) s) w

pub replies_end : {a b : Option (List ℕ)} {f g : ℕ} {whole : List ℕ} {S : Type 0}
    (worker : List ℕ) (replies : List Told) (n i : ℕ) (done : S) → length replies ≤ i
    → Spoke a b whole (lines_text (told_texts worker n (drop i replies))) f g
    → Wrote a b f g whole (Ok done)
replies_end {a} {b} {f} {g} {whole} worker replies n i done h s = spoke_all done
    (subst (λ l. Spoke a b whole (lines_text (told_texts worker n l)) f g)
    (drop_all i replies h) s)

-- what is to come of the workers begins with the replies of this one
worker_here : (replies : Replies) (parts : List Part) (i : ℕ) (part : Part) (name : List ℕ)
    (told : List Told) → i < length parts → part ≡ get_or parts i part → name ≡ part.name
    → told ≡ told_at replies i
    → lines_text (all_texts i replies (map worker_of (drop i parts)))
    ≡ lines_text (told_texts name 1 told)
    ++ lines_text (all_texts (i + 1) replies (map worker_of (drop (i + 1) parts)))
worker_here replies parts i part name told h is p q =
    workers_from replies parts i part h
    ∙ ap (λ x. lines_text (told_texts x 1 (told_at replies i))
    ++ lines_text (all_texts (i + 1) replies (map worker_of (drop (i + 1) parts))))
    (sym (p ∙ ap (λ (x : Part). x.name) is))
    ∙ ap (λ x. lines_text (told_texts name 1 x)
    ++ lines_text (all_texts (i + 1) replies (map worker_of (drop (i + 1) parts)))) (sym q)

pub workers_more : {a b : Option (List ℕ)} {f g : ℕ} {whole : List ℕ} {T : Type 0}
    (replies : Replies) (parts : List Part) (i : ℕ) (c : Option (List ℕ)) (part : Part)
    (after : ℕ) (done : T) (name : List ℕ) (told : List Told) → i < length parts
    → part ≡ get_or parts i part
    → Spoke a b whole (lines_text (all_texts i replies (map worker_of (drop i parts)))) f g
    → name ≡ part.name → told ≡ told_at replies i
    → Wrote b c g after (lines_text (told_texts name 1 told)) (Ok done)
    → Spoke a c whole (lines_text (all_texts (i + 1) replies (map worker_of (drop (i + 1) parts))))
    f after
workers_more {a} {b} {f} {g} {whole} replies parts i c part after done name told h is s p q w =
    spoke_more c (lines_text (told_texts name 1 told))
    (lines_text (all_texts (i + 1) replies (map worker_of (drop (i + 1) parts)))) after done
    (subst (λ l. Spoke a b whole l f g) (worker_here replies parts i part name told h is p q) s) w

pub workers_fail : {a b : Option (List ℕ)} {f g : ℕ} {whole : List ℕ} {T S : Type 0}
    (replies : Replies) (parts : List Part) (i : ℕ) (c : Option (List ℕ)) (part : Part)
    (after : ℕ) (why : WriteNo) (name : List ℕ) (told : List Told) → i < length parts
    → part ≡ get_or parts i part
    → Spoke a b whole (lines_text (all_texts i replies (map worker_of (drop i parts)))) f g
    → name ≡ part.name → told ≡ told_at replies i
    → Wrote {T = T} b c g after (lines_text (told_texts name 1 told)) (Err why)
    → Wrote {T = S} a c f after whole (Err why)
workers_fail {a} {b} {f} {g} {whole} replies parts i c part after why name told h is s p q w =
    spoke_fails c (lines_text (told_texts name 1 told))
    (lines_text (all_texts (i + 1) replies (map worker_of (drop (i + 1) parts)))) after why
    (subst (λ l. Spoke a b whole l f g) (worker_here replies parts i part name told h is p q) s) w

pub workers_end : {a b : Option (List ℕ)} {f g : ℕ} {whole : List ℕ} {S : Type 0}
    (replies : Replies) (parts : List Part) (i : ℕ) (done : S) → length parts ≤ i
    → Spoke a b whole (lines_text (all_texts i replies (map worker_of (drop i parts)))) f g
    → Wrote a b f g whole (Ok done)
workers_end {a} {b} {f} {g} {whole} replies parts i done h s = spoke_all done
    (subst (λ l. Spoke a b whole (lines_text (all_texts i replies (map worker_of l))) f g)
    (drop_all i parts h) s)

pub parts_start : (a : Option (List ℕ)) (faults : ℕ) (fleet : Fleet) (journal : List Line)
    (replies : Replies)
    → Spoke a a (fleet_output fleet journal replies)
    (codes "journal\n" ++ (lines_text (journal_texts fleet 0 journal)
    ++ (codes "replies\n" ++ (lines_text (all_texts 0 replies fleet.workers)
    ++ codes "end\n")))) faults faults
parts_start a faults fleet journal replies =
    subst (λ l. Spoke a a (fleet_output fleet journal replies) l faults faults)
    (in_parts fleet journal replies) (spoke_start a (fleet_output fleet journal replies) faults)

-- the parts, one after the other

pub behind_head : {T : Type 0} (fleet : Fleet) (journal : List Line) (replies : Replies)
    (a b : Option (List ℕ)) (f g : ℕ) (done : T)
    → Wrote a b f g (codes "journal\n") (Ok done)
    → Spoke a b (fleet_output fleet journal replies) (lines_text (journal_texts fleet 0 journal)
    ++ (codes "replies\n" ++ (lines_text (all_texts 0 replies fleet.workers)
    ++ codes "end\n"))) f g
behind_head fleet journal replies a b f g done w =
    spoke_more b (codes "journal\n") (lines_text (journal_texts fleet 0 journal)
    ++ (codes "replies\n" ++ (lines_text (all_texts 0 replies fleet.workers)
    ++ codes "end\n"))) g done (parts_start a f fleet journal replies) w

pub behind_journal : {T S : Type 0} (fleet : Fleet) (journal : List Line) (replies : Replies)
    (a b c : Option (List ℕ)) (f g h : ℕ) (done : T) (more : S)
    → Wrote a b f g (codes "journal\n") (Ok done)
    → Wrote b c g h (lines_text (journal_texts fleet 0 journal)) (Ok more)
    → Spoke a c (fleet_output fleet journal replies) (codes "replies\n"
    ++ (lines_text (all_texts 0 replies fleet.workers) ++ codes "end\n")) f h
behind_journal fleet journal replies a b c f g h done more w v =
    spoke_more c (lines_text (journal_texts fleet 0 journal)) (codes "replies\n"
    ++ (lines_text (all_texts 0 replies fleet.workers) ++ codes "end\n")) h more
    (behind_head fleet journal replies a b f g done w) v

pub behind_middle : {T S R : Type 0} (fleet : Fleet) (journal : List Line) (replies : Replies)
    (a b c d : Option (List ℕ)) (f g h i : ℕ) (done : T) (more : S) (yet : R)
    → Wrote a b f g (codes "journal\n") (Ok done)
    → Wrote b c g h (lines_text (journal_texts fleet 0 journal)) (Ok more)
    → Wrote c d h i (codes "replies\n") (Ok yet)
    → Spoke a d (fleet_output fleet journal replies)
    (lines_text (all_texts 0 replies fleet.workers) ++ codes "end\n") f i
behind_middle fleet journal replies a b c d f g h i done more yet w v u =
    spoke_more d (codes "replies\n")
    (lines_text (all_texts 0 replies fleet.workers) ++ codes "end\n") i yet
    (behind_journal fleet journal replies a b c f g h done more w v) u

pub behind_replies : {T S R Q : Type 0} (fleet : Fleet) (journal : List Line) (replies : Replies)
    (a b c d e : Option (List ℕ)) (f g h i j : ℕ) (done : T) (more : S) (yet : R) (last : Q)
    → Wrote a b f g (codes "journal\n") (Ok done)
    → Wrote b c g h (lines_text (journal_texts fleet 0 journal)) (Ok more)
    → Wrote c d h i (codes "replies\n") (Ok yet)
    → Wrote d e i j (lines_text (all_texts 0 replies fleet.workers)) (Ok last)
    → Spoke a e (fleet_output fleet journal replies) (codes "end\n") f j
behind_replies fleet journal replies a b c d e f g h i j done more yet last w v u t =
    spoke_more e (lines_text (all_texts 0 replies fleet.workers)) (codes "end\n") j last
    (behind_middle fleet journal replies a b c d f g h i done more yet w v u) t
