-- What a file holds behind a part of a read or of a write.
use Rattle.std.proofs.Common.{◌≡◌, ℕ, ◌+◌, ◌-◌, ◌≤◌, List, [], ◌++◌, length, take, drop, replicate, Option, None, Some, true, inr, refl, sym, ◌∙◌, ap, subst, arith}
use Rattle.std.specs.Prelude.{IfSome, Result, Ok, Err, is_ok}
use Rattle.std.specs.Option.{option_map}
use Rattle.std.proofs.lemmas.List.{append_assoc, append-nil, drop-drop, length-append, length-drop, length-replicate, length-take, length-take-le, take-append-drop, take_all}
use Rattle.std.proofs.lemmas.List.Edits.{paste_all, paste-paste}
use Rattle.std.proofs.Math.Seq.{paste, take-add, take-append-add}
use Rattle.kr_base.specs.Tapes.{KeepsFront, with_bytes_at}
use Rattle.kr_edge.specs.Placed.{LengthCall, ReadsSome, Restores, SetsLength, fitted_length, with_length_call}
use Rattle.kr_edge.proofs.Lines.{next_bytes}
use borrow.Rule.Slice.PartMut.{put_mid, take_put}

-- ---- reads

-- the front of the buffer has the bytes from the place on
abbrev pub IsFilled : Option (List ℕ) → ℕ → ℕ → List ℕ → Type 0
IsFilled told at filled into = IfSome told (λ bytes.
    (filled ≤ length bytes - at) × (take filled into ≡ take filled (drop at bytes)))

-- so it is behind a read of the next of them
pub filled_more : (told : Option (List ℕ)) (at filled k n place : ℕ) (into piece : List ℕ)
    → place ≡ at + filled → filled ≤ length into → n ≤ length piece → IsFilled told at filled into
    → ReadsSome told place n piece → IsFilled told at (filled + n) (put_mid filled k into piece)
filled_more None at filled k n place into piece is h m old read = old
filled_more (Some bytes) at filled k n place into piece is h m old read =
    let next : take n piece ≡ take n (drop filled (drop at bytes)) =
    read.read ∙ ap (take n) (ap (λ j. drop j bytes) is ∙ sym (drop-drop filled at bytes)) in (
      omega (arith, old.0, read.within, is),
      next_bytes into piece filled k n h m ∙ (λ i. old.1 i ++ next i)
          ∙ sym (take-add filled n (drop at bytes)),
    )

-- what stands behind it is no matter
pub filled_still : (told : Option (List ℕ)) (at filled k : ℕ) (into piece : List ℕ)
    → filled ≤ length into → IsFilled told at filled into
    → IsFilled told at filled (put_mid filled k into piece)
filled_still None at filled k into piece h old = old
filled_still (Some bytes) at filled k into piece h old = (old.0, take_put filled k into piece h ∙ old.1)

-- ---- writes

-- so many of the bytes stand at the place
abbrev pub IsPut : Option (List ℕ) → Option (List ℕ) → ℕ → ℕ → List ℕ → Type 0
IsPut old new at done bytes =
    new ≡ option_map (λ held. with_bytes_at held at (take done bytes)) old

pub put_none : (told : Option (List ℕ)) (at : ℕ) (bytes : List ℕ) → IsPut told told at 0 bytes
put_none None at bytes = refl
put_none (Some held) at bytes =
    let none : at + 0 ≡ at = omega arith in
    ap Some (sym (take-append-drop at held) ∙ ap (λ n. take at held ++ drop n held) (sym none))

-- bytes at a place and others behind them are both at the place
together : (held : List ℕ) (at : ℕ) (x y : List ℕ) → at ≤ length held
    → with_bytes_at (with_bytes_at held at x) (at + length x) y ≡ with_bytes_at held at (x ++ y)
together held at x y fits =
    sym (paste_all (with_bytes_at held at x) (at + length x) y (length y) refl)
    ∙ ap (λ l. paste l (at + length x) y (length y)) (sym (paste_all held at x (length x) refl))
    ∙ paste-paste held at x y (length x) (length y) refl refl fits
    ∙ paste_all held at (x ++ y) (length x + length y) (sym (length-append x y))
    ∙ ap (λ n. take at held ++ ((x ++ y) ++ drop (at + n) held)) (sym (length-append x y))

put_more : (old now next : Option (List ℕ)) (at done n place : ℕ) (bytes : List ℕ)
    → place ≡ at + done → done ≤ length bytes → IfSome old (λ held. at ≤ length held)
    → IsPut old now at done bytes
    → next ≡ option_map (λ held. with_bytes_at held place (take n (drop done bytes))) now
    → IsPut old next at (done + n) bytes
put_more None now next at done n place bytes is within fits put step =
    step ∙ ap (option_map (λ held. with_bytes_at held place (take n (drop done bytes)))) put
put_more (Some held) now next at done n place bytes is within fits put step =
    let y : List ℕ = take n (drop done bytes) in
    let x : List ℕ = with_bytes_at held at (take done bytes) in
    let long : length (take done bytes) ≡ done = length-take-le done bytes within in
    let at_end : place ≡ at + length (take done bytes) = omega (arith, is, long) in
    step ∙ ap (option_map (λ held. with_bytes_at held place y)) put
    ∙ ap Some (ap (λ p. with_bytes_at x p y) at_end ∙ together held at (take done bytes) y fits
    ∙ ap (λ l. with_bytes_at held at l) (sym (take-add done n bytes)))

-- what a slice from there on had of them was put
pub put_next : (old now next : Option (List ℕ)) (at done n place : ℕ) (bytes : List ℕ)
    → place ≡ at + done → done ≤ length bytes → IfSome old (λ held. at ≤ length held)
    → IsPut old now at done bytes
    → next ≡ option_map (λ held. with_bytes_at held place
    (take n (take (length bytes - done) (drop done bytes)))) now
    → IsPut old next at (done + n) bytes
put_next old now next at done n place bytes is within fits put step =
    let rest : take (length bytes - done) (drop done bytes) ≡ drop done bytes =
    take_all (length bytes - done) (drop done bytes) (omega (arith, length-drop done bytes)) in
    put_more old now next at done n place bytes is within fits put
    (step ∙ ap (λ l. option_map (λ held. with_bytes_at held place (take n l)) now) rest)

-- ---- faults

-- bytes at a place leave those before it
pub front_of_put : (old new : Option (List ℕ)) (at : ℕ) (x : List ℕ)
    → new ≡ option_map (λ held. with_bytes_at held at x) old → KeepsFront old new at
front_of_put None new at x is = ([], is)
front_of_put (Some held) new at x is = (x ++ drop (at + length x) held, is)

pub front_of_all : (old new : Option (List ℕ)) (at : ℕ) → new ≡ old → KeepsFront old new at
front_of_all None new at is = ([], is)
front_of_all (Some held) new at is = (drop at held, is ∙ ap Some (sym (take-append-drop at held)))

-- so does what leaves those before a place behind it
pub front_stays : (old mid new : Option (List ℕ)) (at later : ℕ)
    → IfSome old (λ held. at ≤ length held) → IfSome old (λ held. at ≤ later)
    → KeepsFront old mid at → KeepsFront mid new later → KeepsFront old new at
front_stays None mid new at later fits after first second =
    ([], second.1 ∙ ap (option_map (λ bytes. take later bytes ++ second.0)) first.1)
front_stays (Some held) mid new at later fits after first second =
    let whole : later ≡ length (take at held) + (later - at) =
    omega (arith, after, length-take-le at held fits) in (
      take (later - at) first.0 ++ second.0,
      second.1 ∙ ap (option_map (λ bytes. take later bytes ++ second.0)) first.1
          ∙ ap Some (ap (λ j. take j (take at held ++ first.0) ++ second.0) whole
          ∙ ap (λ l. l ++ second.0) (take-append-add (take at held) first.0 (later - at))
          ∙ append_assoc (take at held) (take (later - at) first.0) second.0),
    )

pub whatever : {P : Type 0} (told : Option (List ℕ)) → P → IfSome told (λ bytes. P)
whatever None h = record {}
whatever (Some bytes) h = h

-- a length that was asked for leaves the bytes before it, whatever came of it
front_of_length : {T E : Type 0} (old new : Option (List ℕ)) (len : ℕ) (result : Result T E)
    → SetsLength old new len result → KeepsFront old new len
front_of_length None new len (Ok done) is = ([], is)
front_of_length (Some bytes) new len (Ok done) is = (replicate (len - length bytes) 0, is)
front_of_length old new len (Err why) keeps = keeps

-- the bytes before the place stay when the old length was brought back
pub front_restored : {T E : Type 0} (old mid new : Option (List ℕ)) (at before : ℕ)
    (result : Result T E) → IfSome old (λ held. at ≤ length held)
    → IfSome old (λ held. before ≡ length held) → KeepsFront old mid at
    → SetsLength mid new before result → KeepsFront old new at
front_restored None mid new at before result fits is keeps sets =
    front_stays None mid new at before fits is keeps
    (front_of_length mid new before result sets)
front_restored (Some held) mid new at before result fits is keeps sets =
    front_stays (Some held) mid new at before fits (omega (arith, fits, is)) keeps
    (front_of_length mid new before result sets)

-- a length that the file has at least cuts it
pub cut_by_length : (old new : Option (List ℕ)) (len : ℕ)
    → IfSome old (λ bytes. len ≤ length bytes) → new ≡ option_map (fitted_length len) old
    → new ≡ option_map (λ bytes. take len bytes) old
cut_by_length None new len fits is = is
cut_by_length (Some bytes) new len fits is =
    let none : len - length bytes ≡ 0 = omega (arith, fits) in
    is ∙ ap Some (ap (λ n. take len bytes ++ replicate n 0) none ∙ append-nil (take len bytes))

-- ---- the old length

-- a length that was set is that of the file
length_set : {T E : Type 0} (old new : Option (List ℕ)) (len : ℕ) (result : Result T E)
    → SetsLength old new len result → is_ok result ≡ true
    → IfSome new (λ held. length held ≡ len)
length_set old new len (Err why) sets done = absurd cc
length_set None new len (Ok t) sets done =
    subst (λ n. IfSome n (λ held. length held ≡ len)) (sym sets) tt
length_set (Some held) new len (Ok t) sets done =
    subst (λ n. IfSome n (λ held. length held ≡ len)) (sym sets) (omega (
      arith,
      length-append (take len held) (replicate (len - length held) 0),
      length-take len held,
      length-replicate {A = ℕ} (len - length held) 0,
    ))

-- the file was to have its old length again
pub length_restored : {T E : Type 0} (old mid new : Option (List ℕ)) (len : ℕ) (result : Result T E)
    {first second last : Option (List LengthCall)} → IfSome old (λ held. len ≡ length held)
    → SetsLength mid new len result → second ≡ first
    → last ≡ with_length_call len (is_ok result) second → Restores old new first last
length_restored old mid new len result is sets same call = inr (
  len,
  is_ok result,
  is,
  call ∙ ap (with_length_call len (is_ok result)) same,
  length_set mid new len result sets,
)
