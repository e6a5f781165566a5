-- Types by their parts.
use Rattle.std.proofs.Common.{◌≡◌, Bool, List, map, sym, ap, ◌∙◌}
use Rattle.std.specs.Prelude.{◌&&◌}
use Rattle.kotlin_types.specs.declared.kinds.KClassRef.{KClassRef}
use Rattle.kotlin_types.specs.declared.kinds.KHead.{KHead}
use Rattle.kotlin_types.specs.declared.kinds.Nullability.{Nullability}
use Rattle.kotlin_types.specs.declared.kinds.KKind.{KKind, roll-KKind, out-KKind, map-KKind, fold-roll-KKind, out-roll-KKind, roll-out-KKind}
use Rattle.kotlin_types.specs.declared.kinds.KKind.TheOpen.{KKind-F}
use Rattle.kotlin_types.specs.Types.{arguments_of, head_of, nullability_of, put, put_head, same, same_by, same_each, same_head, same_nullability, type}

pub out_type : (h : KHead) (args : List KKind) (n : Nullability) → out-KKind (type h args n) ≡ record { head = h; arguments = args; nullability = n }
out_type h args n = out-roll-KKind (record { head = h; arguments = args; nullability = n })

pub parts_of : (x : KKind) → x ≡ type (head_of x) (arguments_of x) (nullability_of x)
parts_of x = sym (roll-out-KKind x)

-- types of the same parts are one
pub one_type : (x y : KKind) → head_of x ≡ head_of y → arguments_of x ≡ arguments_of y → nullability_of x ≡ nullability_of y → x ≡ y
one_type x y h a n =
    parts_of x
    ∙ (ap (λ z. type z (arguments_of x) (nullability_of x)) h
    ∙ (ap (λ z. type (head_of y) z (nullability_of x)) a
    ∙ (ap (type (head_of y) (arguments_of y)) n ∙ sym (parts_of y))))

pub same_at : (x : KKind-F KKind) (y : KKind) → same (roll-KKind x) y ≡ same_by (map-KKind KKind (KKind → Bool) same x) (out-KKind y)
unfolding same
same_at x y = ap (λ (f : KKind → Bool). f y) (fold-roll-KKind (KKind → Bool) (λ x y. same_by x (out-KKind y)) x)

pub put_at : (own : KClassRef) (args : List KKind) (h : KHead) (inner : List KKind) (n : Nullability) →
    put own args (type h inner n) ≡ put_head own args h (map (put own args) inner) n
unfolding put
put_at own args h inner n = fold-roll-KKind KKind (λ x. put_head own args x.head x.arguments x.nullability) (record { head = h; arguments = inner; nullability = n })

-- of types whose parts are known
pub same_types : (g h : KHead) (xs ys : List KKind) (n m : Nullability) →
    same (type g xs n) (type h ys m) ≡ (same_head g h && (same_each (map same xs) ys && same_nullability n m))
same_types g h xs ys n m =
    same_at (record { head = g; arguments = xs; nullability = n }) (type h ys m)
    ∙ ap (same_by (record { head = g; arguments = map same xs; nullability = n })) (out_type h ys m)
