-- Reading part by part: how one part's answer and the next one's give that of both.
use Rattle.std.proofs.Common.{◌≡◌, ℕ, ◌+◌, ◌-◌, ◌<◌, ◌≤◌, min, List, [], ◌∷◌, ◌++◌, length, take, drop, Bool, false, Option, None, Some, Result, Ok, Err, IfSome, refl, sym, ◌∙◌, ap, subst, arith, length-append, length-take, length-drop, inl, inr}
use Rattle.std.proofs.lemmas.List.{append-nil, drop_all, drop_at, take_at, take-append-drop, length-take-le, take_all, take-take}
use borrow.Rule.Slice.PartMut.{put_mid}
use Rattle.std.proofs.Math.Seq.{take-append-add, take-append_seam}
use Rattle.std.specs.Option.{option_map}
use Rattle.std.specs.Io.KnownBytes.{Consumes}
use Rattle.std.proofs.KnownBytes.{Consumes-trans}
use Rattle.kr_base.proofs.Counting.{Rose-later}
use Rattle.kr_base.specs.Faults.{counted, tells_fault}
use Rattle.kr_base.specs.Told.{Agrees}
use Rattle.kr_base.specs.Tapes.{ReadsAt}
use Rattle.kr_store.specs.Breaches.{Read, behind, part}
use Rattle.kr_store.specs.inner.Reading.{Ahead, Moves, Breaks, Takes, Begins, Reads, IsShort, IsNamed, Names, MayBreak}
use Rattle.kr_store.specs.declared.format.Format.{Format}
use Rattle.kr_store.specs.File.{store_name, magic}
use Rattle.kr_store.specs.Stores.{load_failed}
use Rattle.kr_store.specs.declared.answers.StoreNo.{StoreNo}
use Rattle.kr_store.specs.declared.answers.StoreNo.TheVariants as no
use Rattle.kr_store.proofs.Parts.{part_torn}
use Rattle.kr_store.specs.declared.answers.LoadStop.{LoadStop}
use Rattle.kr_store.specs.declared.answers.LoadStop.TheVariants.{Breach, Failed, NoMemory}
use Rattle.kr_store.specs.declared.answers.Cause.{Cause}
use Rattle.kr_store.specs.declared.answers.Cause.TheVariants.{Torn}

-- the tape's bytes from a place on
abbrev pub rest_of : ℕ → Option (List ℕ) → Option (List ℕ)
rest_of place told = option_map (λ bytes. drop place bytes) told

-- nothing was read although the tape doesn't end there: it tells nothing
pub untold : (told : Option (List ℕ)) (place end : ℕ) (into : List ℕ) (n : ℕ)
    → IfSome told (λ bytes. end ≡ length bytes) → place < end → 0 < length into → n ≡ 0
    → ReadsAt told place n into → rest_of place told ≡ None
untold None place end into n e w s z r = refl
untold (Some bytes) place end into n e w s z r = absurd (omega (arith, e, w, s, z, r.0))

-- any bytes may be left where none are told; else those that are
pub any_left : (told : Option (List ℕ)) (place end : ℕ) → IfSome told (λ bytes. end ≡ length bytes)
    → place ≤ end → (bytes : List ℕ) × Agrees (rest_of place told) bytes
    × (place + length bytes ≤ end) × (length bytes ≤ end - place)
any_left None place end e w = ([], tt, omega arith, omega arith)
any_left (Some held) place end e w = (
  drop place held,
  refl,
  omega (arith, length-drop place held),
  omega (arith, length-drop place held),
)

-- what a reader is seen as
abbrev pub seen : Option (List ℕ) → ℕ → ℕ → ℕ → Ahead
seen told place end count = record {
  told = told;
  left = rest_of place told;
  place = place;
  end = end;
  count = count;
}

-- fewer bytes are left than were asked
pub torn : (told : Option (List ℕ)) (place end count n : ℕ)
    → IfSome told (λ bytes. end ≡ length bytes) → place ≤ end → end - place < n
    → Breaks (seen told place end count) (part n) Torn
torn told place end count n e w l =
    let any = any_left told place end e w in
    record {
      bytes = any.0;
      agrees = any.1;
      within = any.2;
      breaks = part_torn any.0 n (omega (arith, any.3));
    }

-- no more is left than up to the end
pub left_known : (told : Option (List ℕ)) (place end : ℕ)
    → IfSome told (λ bytes. end ≡ length bytes) → place ≤ end → IfSome (rest_of place told)
    (λ bytes. place + length bytes ≡ end)
left_known None place end e w = tt
left_known (Some held) place end e w = omega (arith, length-drop place held)

-- a reader that hasn't moved
pub stays : (told : Option (List ℕ)) (place end count : ℕ)
    → IfSome told (λ bytes. end ≡ length bytes) → place ≤ end
    → Moves false (seen told place end count) (seen told place end count)
stays told place end count e w = record {
  told = refl;
  end = refl;
  within = w;
  known = left_known told place end e w;
  later = omega arith;
  rose = λ e. cc;
  once = refl;
}

-- some bytes are left
pub some_left : (left : Option (List ℕ)) (place end : ℕ) → place ≤ end
    → IfSome left (λ bytes. place + length bytes ≡ end) → (bytes : List ℕ) × Agrees left bytes
    × (place + length bytes ≤ end)
some_left None place end w k = ([], tt, omega arith)
some_left (Some held) place end w k = (held, refl, omega arith)

-- what an untold tape left was untold
pub untold_first : (a b : Option (List ℕ)) (front : List ℕ) → Consumes a b front → b ≡ None
    → a ≡ None
untold_first None b front c u = refl
untold_first (Some xs) None front c u = absurd c
untold_first (Some xs) (Some ys) front c u = cc

pub moves_both : {failed : Bool} (a b c : Ahead) → Moves false a b → Moves failed b c
    → Moves failed a c
moves_both {failed} a b c m n = record {
  told = n.told ∙ m.told;
  end = n.end ∙ m.end;
  within = n.within;
  known = n.known;
  later = omega (arith, m.later, n.later);
  rose = λ e. Rose-later a.count b.count c.count m.later (n.rose e);
  once = n.once ∙ ap (counted failed) m.once;
}

-- the bytes that were taken come first
pub agrees_behind : (a b : Option (List ℕ)) (front bytes : List ℕ) → Consumes a b front
    → Agrees b bytes → Agrees a (front ++ bytes)
agrees_behind None b front bytes c g = tt
agrees_behind (Some xs) None front bytes c g = absurd c
agrees_behind (Some xs) (Some ys) front bytes c g = c ∙ ap (λ l. front ++ l) g

-- a part was read, and the next one breaks
pub breaks_behind : {A B : Type 0} (old mid : Ahead) (front : List ℕ) (first : List ℕ → Read A)
    (next : A → List ℕ → Read B) (x : A) (cause : Cause)
    → Takes old mid front → mid.end ≡ old.end → ((rest : List ℕ) → first (front ++ rest) ≡ Ok
    (x, rest)) → Breaks mid (next x) cause
    → Breaks old (λ bytes. behind (first bytes) next) cause
breaks_behind old mid front first next x cause t e r b = record {
  bytes = front ++ b.bytes;
  agrees = agrees_behind old.left mid.left front b.bytes t.consumed b.agrees;
  within = omega (arith, length-append front b.bytes, t.place, b.within);
  breaks = ap (λ s. behind s next) (r b.bytes) ∙ b.breaks;
}

-- a part was read, and breaks its rule
pub breaks_here : {B : Type 0} (old mid : Ahead) (front : List ℕ) (reads : List ℕ → Read B)
    (cause : Cause) → Takes old mid front → Moves false old mid
    → ((rest : List ℕ) → reads (front ++ rest) ≡ Err cause) → Breaks old reads cause
breaks_here old mid front reads cause t m r =
    let some = some_left mid.left mid.place mid.end m.within m.known in
    record {
      bytes = front ++ some.0;
      agrees = agrees_behind old.left mid.left front some.0 t.consumed some.1;
      within = omega (arith, length-append front some.0, t.place, m.end, some.2);
      breaks = r some.0;
    }

-- a part was read whole
pub was_read : {A B : Type 0} (old new : Ahead) (w : A → List ℕ) (reads : List ℕ → Read B) (x : A)
    → Moves false old new → Takes old new (w x) → Reads {A = A} {B = B} old new w reads (Ok x)
was_read old new w reads x m t = record {
  advances = m;
  gives = t;
}

-- a part breaks
pub was_broken : {A B : Type 0} (old new : Ahead) (w : A → List ℕ) (reads : List ℕ → Read B)
    (cause : Cause) → Moves false old new → Breaks old reads cause
    → Reads {A = A} {B = B} old new w reads (Err (Breach cause))
was_broken old new w reads cause m b = record {
  advances = m;
  gives = b;
}

-- the first part breaks
pub breaks_first : {A B : Type 0} (old : Ahead) (first : List ℕ → Read A) (next : A → List ℕ
    → Read B) (cause : Cause) → Breaks old first cause
    → Breaks old (λ bytes. behind (first bytes) next) cause
breaks_first old first next cause b = record {
  bytes = b.bytes;
  agrees = b.agrees;
  within = b.within;
  breaks = ap (λ s. behind s next) b.breaks;
}

pub takes_both : (a b c : Ahead) (front more : List ℕ) → Takes a b front → Takes b c more
    → Takes a c (front ++ more)
takes_both a b c front more t u = record {
  consumed = Consumes-trans a.left b.left c.left front more t.consumed u.consumed;
  place = omega (arith, t.place, u.place, length-append front more);
}

-- a buffer is filled from the front: what stands in it was taken
pub record Filling (first now : Ahead) (into : List ℕ) (done : ℕ) : Type 0 where
  pub moves : Moves false first now
  pub takes : Takes first now (take done into)
  pub within : done ≤ length into
  pub room : now.place + (length into - done) ≤ now.end

take_two : (into piece : List ℕ) (done n : ℕ) → done ≤ length into → take (done + n)
    (take done into ++ piece) ≡ take done into ++ take n piece
take_two into piece done n d = ap (λ k. take (k + n) (take done into ++ piece))
    (sym (length-take-le done into d)) ∙ take-append-add (take done into) piece n

pub filling_more : (first now next : Ahead) (into piece : List ℕ) (done n : ℕ)
    → Filling first now into done → done ≤ length into → length piece ≡ length into - done
    → n ≤ length piece
    → Moves false now next → Takes now next (take n piece) → Filling first next (take done into ++ piece)
    (done + n)
filling_more first now next into piece done n f d e k m t = record {
  moves = moves_both first now next f.moves m;
  takes = subst (λ l. Takes first next l) (sym (take_two into piece done n d))
      (takes_both first now next (take done into) (take n piece) f.takes t);
  within = omega (arith, length-append (take done into) piece, length-take-le done into d);
  room = omega (
    arith,
    length-append (take done into) piece,
    length-take-le done into d,
    f.room,
    t.place,
    m.end,
    length-take-le n piece k,
  );
}

pub filled : (first now : Ahead) (into : List ℕ) (done : ℕ) → Filling first now into done
    → length into ≤ done → Takes first now into
filled first now into done f l = subst (λ b. Takes first now b) (take_all done into l) f.takes

put_end : (xs zs ys : List ℕ) (a k : ℕ) → length xs ≡ a → length zs ≤ k
    → put_mid a k (xs ++ zs) ys ≡ xs ++ ys
put_end xs zs ys a k size most =
    let front : take a (xs ++ zs) ≡ xs = take_at xs zs a size in
    let rest : drop k (drop a (xs ++ zs)) ≡ [] = ap (drop k) (drop_at xs zs a size)
    ∙ drop_all k zs most in
    (λ i. front i ++ (ys ++ rest i)) ∙ ap (λ (s : List ℕ). xs ++ s) (append-nil ys)

-- what is written over the rest of a buffer stands behind its front
pub over : (into piece : List ℕ) (done : ℕ) → done ≤ length into → put_mid done
    (length into - done) into piece ≡ take done into ++ piece
over into piece done d =
    ap (λ l. put_mid done (length into - done) l piece) (sym (take-append-drop done into))
    ∙ put_end (take done into) (drop done into) piece done (length into - done)
    (length-take-le done into d) (omega (arith, length-drop done into))

pub rest_length : (into : List ℕ) (done : ℕ) → length (take (length into - done) (drop done into))
    ≡ length into - done
rest_length into done = omega (
  arith,
  length-drop done into,
  length-take (length into - done)
      (drop done into),
)

-- the next part stops, and so does the whole
pub stops_behind : {A B C D : Type 0} (old mid new : Ahead) (front : List ℕ) (first : List ℕ
    → Read A) (next : A → List ℕ → Read B) (x : A) (w : C → List ℕ) (v : D → List ℕ) (stop : LoadStop)
    → Takes old mid front → Moves false old mid → ((rest : List ℕ) → first (front ++ rest) ≡ Ok
    (x, rest)) → Reads {A = C} {B = B} mid new w (next x) (Err stop)
    → Reads {A = D} {B = B} old new v (λ bytes. behind (first bytes) next) (Err stop)
stops_behind old mid new front first next x w v (Breach cause) t m r b = was_broken old new v
    (λ bytes. behind (first bytes) next) cause (moves_both old mid new m b.advances)
    (breaks_behind old mid front first next x cause t m.end r b.gives)
stops_behind old mid new front first next x w v Failed t m r b =
    record { advances = moves_both old mid new m b.advances; gives = tt }
stops_behind old mid new front first next x w v NoMemory t m r b =
    record { advances = moves_both old mid new m b.advances; gives = tt }

-- the first part stops
pub stops_first : {A B C D : Type 0} (old new : Ahead) (first : List ℕ → Read A) (next : A → List ℕ
    → Read B) (w : C → List ℕ) (v : D → List ℕ) (stop : LoadStop)
    → Reads {A = C} {B = A} old new w first (Err stop) → Reads {A = D} {B = B} old new v
    (λ bytes. behind (first bytes) next) (Err stop)
stops_first old new first next w v (Breach cause) b = was_broken old new v
    (λ bytes. behind (first bytes) next) cause b.advances
    (breaks_first old first next cause b.gives)
stops_first old new first next w v Failed b = record { advances = b.advances; gives = tt }
stops_first old new first next w v NoMemory b = record { advances = b.advances; gives = tt }

-- a buffer that wasn't filled
pub short_behind : (first now next : Ahead) (into : List ℕ) (done n : ℕ) (piece : List ℕ)
    (stop : LoadStop) → Filling first now into done → Begins now next piece (Err stop)
    → IsShort {A = Unit {0}} first n (Err stop)
short_behind first now next into done n piece (Breach cause) f b = inr
    (untold_first first.left now.left (take done into) f.takes.consumed b.0)
short_behind first now next into done n piece Failed f b = tt
short_behind first now next into done n piece NoMemory f b = b

-- an untold tape may have had one byte of the magic
pub untold_magic : (old : Ahead) → old.left ≡ None → 0 < old.end → MayBreak old (no.Torn 0)
untold_magic old u s = record {
  bytes = 0x4B ∷ [];
  agrees = subst (λ t. Agrees t (0x4B ∷ [])) (sym u) tt;
  within = omega arith;
  breach = inl (refl, (omega arith, omega arith, refl));
}

pub nothing_more : (front rest : List ℕ) → length rest ≡ 0 → front ++ rest ≡ front
nothing_more front [] e = append-nil front
nothing_more front (x ∷ rest) e = absurd (omega arith)

-- the first bytes of a magic are those of the name
pub begins_name : (format : Format) (n : ℕ) → n ≤ length store_name
    → take n store_name ≡ take n (magic format)
begins_name format n l = take-take n (length store_name) (magic format) l

-- a front that isn't that of the name begins no magic
pub other_short : (front : List ℕ) → length front ≤ length store_name
    → (front ≡ take (length front) store_name → ⊥)
    → (format : Format) → front ≡ take (length front) (magic format) → ⊥
other_short front l n format e = n (e ∙ sym (begins_name format (length front) l))

-- where the first bytes of all are as the magic's, those that were read are
same_front : (named front rest : List ℕ) → length front ≤ length named
    → take (length named) (front ++ rest) ≡ take (length (front ++ rest)) named
    → front ≡ take (length front) named
same_front named front rest l same =
    sym (take-append_seam front rest)
    ∙ sym (take-take (length front) (length named) (front ++ rest) l)
    ∙ ap (take (length front)) same
    ∙ take-take (length front) (length (front ++ rest)) named
    (omega (arith, length-append front rest))

-- the front of the file was read, and is no magic
unnamed : (old new : Ahead) (front : List ℕ) (why : StoreNo) → Takes old new front
    → Moves false old new → old.place ≡ 0 → 0 < length front → length front ≡ min old.end 8
    → IsNamed front (Err why) → Names old new (Err why)
unnamed old new front no.Magic t m s l e i =
    let some = some_left new.left new.place new.end m.within m.known in record {
      bytes = front ++ some.0;
      agrees = agrees_behind old.left new.left front some.0 t.consumed some.1;
      within = omega (arith, length-append front some.0, t.place, m.end, some.2);
      breach = λ format same.
          i format (same_front (magic format) front some.0 (omega (arith, e)) same);
    }
unnamed old new front (no.Torn at) t m s l e i =
    let some = some_left new.left new.place new.end m.within m.known in
    let none : length some.0 ≡ 0 = omega (arith, some.2, t.place, m.end, e, i.1) in record {
      bytes = front;
      agrees = subst (λ b. Agrees old.left b) (nothing_more front some.0 none)
          (agrees_behind old.left new.left front some.0 t.consumed some.1);
      within = omega (arith, e);
      breach = inl (i.0, (l, i.1, i.2));
    }
unnamed old new front no.Failed t m s l e i = tt
unnamed old new front no.NoMemory t m s l e i = tt
unnamed old new front other t m s l e i = i

-- what names no format isn't a fault of the tape
pub named_calm : (front : List ℕ) (result : Result Format StoreNo) → IsNamed front result
    → tells_fault load_failed result ≡ false
named_calm front (Ok format) i = refl
named_calm front (Err no.Failed) i = absurd i
named_calm front (Err other) i = refl

pub named_by : (old new : Ahead) (front : List ℕ) (result : Result Format StoreNo)
    → Takes old new front → Moves false old new → old.place ≡ 0 → 0 < length front
    → length front ≡ min old.end 8 → IsNamed front result → Names old new result
named_by old new front (Ok format) t m s l e i = subst (λ b. Takes old new b) i t
named_by old new front (Err why) t m s l e i = unnamed old new front why t m s l e i
