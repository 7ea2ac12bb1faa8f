-- Bytes laid over memory one after another. Assumes nothing.
use Rattle.std.specs.Prelude.{◌≡◌, ℕ, ◌+◌, ◌≤◌, List, [], ◌∷◌, ◌++◌, length, take, drop, Some, None, Ok, Option, nat_le}
use Rattle.std.proofs.Common.{sym, ap, ◌∙◌, append_assoc, add_assoc, add-zero, arith}
use borrow.Rule.Slice.PartMut.{put_mid}
use Rattle.std.proofs.lemmas.List.{drop-drop, length-append, length-take-le, length-drop, take-append-drop, take_at, drop_at}
use Rattle.std.proofs.lemmas.Bool.{le-leb, cond-true}
use Rattle.std.specs.List.{flat_map}
use Rattle.wire.specs.declared.counted.Counted.{Counted}
use Rattle.wire.specs.Bytes.{bytes_of}
use Rattle.wire.specs.Rows.{entries, counted_put, counted_bytes, optional_put, optional_bytes}
use Rattle.wire.specs.Writing.{Written, laid, put_at, then_put, rows_put}
use Rattle.wire.specs.Laws.{Puts}

pub fits : (bs out : List ℕ) (at : ℕ) → at + length bs ≤ length out → put_at bs out at ≡ (Ok (at + length bs), laid bs out at)
fits bs out at room = cond-true (nat_le (at + length bs) (length out)) _ _ (le-leb (at + length bs) (length out) room)

-- bytes written where they fit are laid there
pub puts_bytes : (bs : List ℕ) → Puts (put_at bs) bs
puts_bytes bs out at room = fits bs out at room

-- a part of a slice that holds other bytes now
pub laid_part : (bs out ys : List ℕ) (at k : ℕ) → ys ≡ bs → k ≡ length bs → put_mid at k out ys ≡ laid bs out at
laid_part bs out ys at k e n = ap (λ l. take at out ++ (l ++ drop k (drop at out))) e ∙ ap (λ l. take at out ++ (bs ++ l)) (drop-drop k at out ∙ ap (λ m. drop (at + m) out) n)

pub length-laid : (bs out : List ℕ) (at : ℕ) → at + length bs ≤ length out → length (laid bs out at) ≡ length out
length-laid bs out at room =
    let front : length (take at out) ≡ at = length-take-le at out (omega arith) in
    length-append (take at out) (bs ++ drop (at + length bs) out) ∙ omega (arith, front, length-append bs (drop (at + length bs) out), length-drop (at + length bs) out)

-- bytes laid behind others are laid with them
pub laid_then : (bs cs out : List ℕ) (at : ℕ) → at + length bs + length cs ≤ length out → laid cs (laid bs out at) (at + length bs) ≡ laid (bs ++ cs) out at
laid_then bs cs out at room =
    let front : length (take at out) ≡ at = length-take-le at out (omega arith) in
    let L : List ℕ = take at out ++ bs in
    let D : List ℕ = drop (at + length bs) out in
    let long : length L ≡ at + length bs = length-append (take at out) bs ∙ ap (λ k. k + length bs) front in
    let whole : laid bs out at ≡ L ++ D = sym (append_assoc (take at out) bs D) in
    let before : take (at + length bs) (laid bs out at) ≡ L = ap (take (at + length bs)) whole ∙ take_at L D (at + length bs) long in
    let behind : drop (at + length bs + length cs) (laid bs out at) ≡ drop (at + length (bs ++ cs)) out =
    sym (drop-drop (length cs) (at + length bs) (laid bs out at)) ∙ ap (λ l. drop (length cs) (drop (at + length bs) l)) whole ∙ ap (drop (length cs)) (drop_at L D (at + length bs) long)
    ∙ drop-drop (length cs) (at + length bs) out ∙ ap (λ k. drop k out) (add_assoc at (length bs) (length cs) ∙ ap (λ k. at + k) (sym (length-append bs cs))) in
    ap (λ l. l ++ (cs ++ drop (at + length bs + length cs) (laid bs out at))) before ∙ ap (λ l. L ++ (cs ++ l)) behind
    ∙ append_assoc (take at out) bs (cs ++ drop (at + length (bs ++ cs)) out) ∙ ap (λ l. take at out ++ l) (sym (append_assoc bs cs (drop (at + length (bs ++ cs)) out)))

-- nothing laid changes nothing
pub laid_none : (out : List ℕ) (at : ℕ) → laid [] out at ≡ out
laid_none out at = ap (λ k. take at out ++ drop k out) (add-zero at) ∙ take-append-drop at out

puts_none : Puts (λ out at. (Ok at, out)) []
puts_none out at room = sym (λ j. (Ok (add-zero at j), laid_none out at j))

-- one thing written after another
pub puts_then : (w v : List ℕ → ℕ → Written) (bs cs : List ℕ) → Puts w bs → Puts v cs → Puts (λ out at. then_put (w out at) v) (bs ++ cs)
puts_then w v bs cs W V out at room =
    let long = length-append bs cs in
    let first : at + length bs ≤ length out = omega arith in
    let second : at + length bs + length cs ≤ length (laid bs out at) = omega (arith, length-laid bs out at first) in
    let both : at + length bs + length cs ≤ length out = omega arith in
    ap (λ r. then_put r v) (W out at first) ∙ V (laid bs out at) (at + length bs) second
    ∙ (λ j. (Ok ((add_assoc at (length bs) (length cs) ∙ ap (λ k. at + k) (sym long)) j), laid_then bs cs out at both j))

pub puts_rows : {A : Type 0} (put : A → List ℕ → ℕ → Written) (f : A → List ℕ) → ((x : A) → Puts (put x) (f x)) → (xs : List A) → Puts (rows_put put xs) (flat_map f xs)
puts_rows put f each [] = puts_none
puts_rows put f each (x ∷ xs) = puts_then (put x) (rows_put put xs) (f x) (flat_map f xs) (each x) (puts_rows put f each xs)

pub puts_counted : {A : Type 0} {n : ℕ} (put : A → List ℕ → ℕ → Written) (f : A → List ℕ) → ((x : A) → Puts (put x) (f x)) → (c : Counted A n) → Puts (counted_put put c) (counted_bytes f c)
puts_counted put f each c = puts_then (put_at (bytes_of 1 c.count)) (rows_put put (entries c)) (bytes_of 1 c.count) (flat_map f (entries c)) (puts_bytes (bytes_of 1 c.count)) (puts_rows put f each (entries c))

pub puts_optional : {A : Type 0} (put : A → List ℕ → ℕ → Written) (f : A → List ℕ) → ((x : A) → Puts (put x) (f x)) → (o : Option A) → Puts (optional_put put o) (optional_bytes f o)
puts_optional put f each None = puts_none
puts_optional put f each (Some x) = each x
