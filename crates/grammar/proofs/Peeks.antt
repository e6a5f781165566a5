-- The items of a stack from its top.
use Rattle.std.proofs.Common.{◌≡◌, ◌<◌, ◌≤◌, ◌-◌, ℕ, List, length, reverse, get_or, Option, Some, None, sym, ◌∙◌, arith}
use Rattle.std.specs.List.{slice_get}
use Rattle.std.proofs.lemmas.List.{get_or-reverse, length-reverse}
use Rattle.std.proofs.lemmas.Option.{slice_get_read, slice_get_past}

pub reversed_length : {X : Type 0} (xs : List X) → length (reverse xs) ≡ length xs
reversed_length xs = length-reverse xs

pub peeked : {X : Type 0} (xs : List X) (n k : ℕ) (x : X) → k < length xs → n ≡ length xs - 1 - k → x ≡ get_or xs n x → slice_get (reverse xs) k ≡ Some x
peeked xs n k x l e h =
    slice_get_read (reverse xs) (length xs) k x (sym (length-reverse xs)) l (h ∙ rw e (sym (get_or-reverse xs k x l)))

pub past : {X : Type 0} (xs : List X) (k : ℕ) → length xs ≤ k → slice_get (reverse xs) k ≡ None
past xs k l = slice_get_past (reverse xs) k (rw (length-reverse xs) l)
