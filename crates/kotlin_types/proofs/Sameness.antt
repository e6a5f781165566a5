-- Types are the same exactly where they are equal.
use Rattle.std.proofs.Common.{◌≡◌, Bool, true, false, List, [], ◌∷◌, map, refl, sym, ap, subst, ◌∙◌}
use Rattle.std.specs.Prelude.{◌&&◌, ◌==◌}
use Rattle.std.proofs.lemmas.Bool.{eq-eqb, eqb-true}
use Rattle.j2k_base.specs.declared.constants.Kind.{Kind}
use Rattle.j2k_base.specs.declared.constants.Kind.TheVariants as kind
use Rattle.kotlin_types.specs.declared.kinds.KClassRef.{KClassRef}
use Rattle.kotlin_types.specs.declared.kinds.KClassRef.TheVariants as class
use Rattle.kotlin_types.specs.declared.kinds.KHead.{KHead}
use Rattle.kotlin_types.specs.declared.kinds.KHead.TheVariants as head
use Rattle.kotlin_types.specs.declared.kinds.Nullability.{Nullability}
use Rattle.kotlin_types.specs.declared.kinds.KKind.{KKind, roll-KKind, out-KKind, map-KKind, out-roll-KKind, ind-KKind}
use Rattle.kotlin_types.specs.declared.kinds.KKind.TheOpen.{KKind-F}
use Rattle.kotlin_types.specs.Types.{arguments_of, head_of, nullable, same, same_but_null, same_by, same_class, same_each, same_head, same_kind, same_nullability}
use Rattle.kotlin_types.proofs.Forms.{one_type, out_type, same_at}
use Rattle.kotlin_types.proofs.Nulls.{within_both, within_itself}

pub and_tells : (a b : Bool) → (a && b) ≡ true → (a ≡ true) × (b ≡ true)
and_tells true b h = (refl, h)
and_tells false b h = cc

pub and_holds : (a b : Bool) → a ≡ true → b ≡ true → (a && b) ≡ true
and_holds true b h g = g
and_holds false b h g = cc

kind_tells : (k l : Kind) → same_kind k l ≡ true → k ≡ l
kind_tells kind.Byte kind.Byte h = refl
kind_tells kind.Short kind.Short h = refl
kind_tells kind.Char kind.Char h = refl
kind_tells kind.Int kind.Int h = refl
kind_tells kind.Long kind.Long h = refl
kind_tells k l h = cc

kind_same : (k : Kind) → same_kind k k ≡ true
kind_same kind.Byte = refl
kind_same kind.Short = refl
kind_same kind.Char = refl
kind_same kind.Int = refl
kind_same kind.Long = refl

pub class_tells : (c d : KClassRef) → same_class c d ≡ true → c ≡ d
class_tells (class.Library a) (class.Library b) h = ap class.Library (eqb-true a b h)
class_tells (class.Project a) (class.Project b) h = ap class.Project (eqb-true a b h)
class_tells c d h = cc

pub class_same : (c : KClassRef) → same_class c c ≡ true
class_same (class.Library a) = eq-eqb a a refl
class_same (class.Project a) = eq-eqb a a refl

pub head_tells : (g h : KHead) → same_head g h ≡ true → g ≡ h
head_tells head.Nothing head.Nothing e = refl
head_tells head.Unit head.Unit e = refl
head_tells (head.Class c) (head.Class d) e = ap head.Class (class_tells c d e)
head_tells head.Array head.Array e = refl
head_tells head.Booleans head.Booleans e = refl
head_tells (head.Numbers k) (head.Numbers l) e = ap head.Numbers (kind_tells k l e)
head_tells (head.Variable c n) (head.Variable d m) e =
    let both : (same_class c d ≡ true) × ((n == m) ≡ true) = and_tells _ _ e in
    ap (λ z. head.Variable z n) (class_tells c d both.0) ∙ ap (head.Variable d) (eqb-true n m both.1)
head_tells g h e = cc

pub head_same : (h : KHead) → same_head h h ≡ true
head_same head.Nothing = refl
head_same head.Unit = refl
head_same (head.Class c) = class_same c
head_same head.Array = refl
head_same head.Booleans = refl
head_same (head.Numbers k) = kind_same k
head_same (head.Variable c n) = and_holds _ _ (class_same c) (eq-eqb n n refl)

nulls_tell : (n m : Nullability) → same_nullability n m ≡ true → n ≡ m
nulls_tell n m e =
    let both = and_tells _ _ e in
    within_both n m both.0 both.1

nulls_same : (n : Nullability) → same_nullability n n ≡ true
nulls_same n = and_holds _ _ (within_itself n) (within_itself n)

-- ---- what is the same is equal

abbrev Tells : KKind → Type 0
Tells x = (y : KKind) → same x y ≡ true → x ≡ y

abbrev Part : Type 0
Part = (x : KKind) × Tells x

abbrev own : Part → KKind
own x = x.0

each_tells : (xs : List Part) (ys : List KKind) → same_each (map same (map own xs)) ys ≡ true → map own xs ≡ ys
each_tells [] [] h = refl
each_tells [] (y ∷ ys) h = cc
each_tells (x ∷ xs) [] h = cc
each_tells (x ∷ xs) (y ∷ ys) h =
    let both : (same x.0 y ≡ true) × (same_each (map same (map own xs)) ys ≡ true) = and_tells _ _ h in
    ap (λ z. z ∷ map own xs) (x.1 y both.0) ∙ ap (λ zs. y ∷ zs) (each_tells xs ys both.1)

rolled_tells : (x : KKind-F Part) → Tells (roll-KKind (map-KKind Part KKind own x))
rolled_tells x y h =
    let z : KKind-F KKind = map-KKind Part KKind own x in
    let e : same_by (map-KKind KKind (KKind → Bool) same z) (out-KKind y) ≡ true = sym (same_at z y) ∙ h in
    let two = and_tells (same_head x.head (head_of y)) _ e in
    let three = and_tells (same_each (map same (map own x.arguments)) (arguments_of y)) _ two.1 in
    one_type (roll-KKind z) y
    (ap (λ (o : KKind-F KKind). o.head) (out-roll-KKind z) ∙ head_tells _ _ two.0)
    (ap (λ (o : KKind-F KKind). o.arguments) (out-roll-KKind z) ∙ each_tells x.arguments (arguments_of y) three.0)
    (ap (λ (o : KKind-F KKind). o.nullability) (out-roll-KKind z) ∙ nulls_tell x.nullability _ three.1)

pub same_tells : (x y : KKind) → same x y ≡ true → x ≡ y
same_tells = ind-KKind Tells (λ x y is. subst (λ (z : KKind-F KKind). Tells (roll-KKind z)) is (rolled_tells y))

-- ---- what is equal is the same

abbrev IsSame : KKind → Type 0
IsSame x = same x x ≡ true

abbrev Same : Type 0
Same = (x : KKind) × IsSame x

abbrev whole : Same → KKind
whole x = x.0

each_same : (xs : List Same) → same_each (map same (map whole xs)) (map whole xs) ≡ true
each_same [] = refl
each_same (x ∷ xs) = and_holds _ _ x.1 (each_same xs)

rolled_same : (x : KKind-F Same) → IsSame (roll-KKind (map-KKind Same KKind whole x))
rolled_same x =
    let z : KKind-F KKind = map-KKind Same KKind whole x in
    same_at z (roll-KKind z) ∙ ap (same_by (map-KKind KKind (KKind → Bool) same z)) (out-roll-KKind z)
    ∙ and_holds _ _ (head_same x.head) (and_holds _ _ (each_same x.arguments) (nulls_same x.nullability))

pub same_itself : (x : KKind) → same x x ≡ true
same_itself = ind-KKind IsSame (λ x y is. subst (λ (z : KKind-F KKind). IsSame (roll-KKind z)) is (rolled_same y))

pub equal_same : (x y : KKind) → x ≡ y → same x y ≡ true
equal_same x y e = subst (λ z. same x z ≡ true) e (same_itself x)

-- ---- but for the `?`

pub but_null_tells : (x y : KKind) → same_but_null x y ≡ true → (head_of x ≡ head_of y) × (arguments_of x ≡ arguments_of y)
but_null_tells x y e =
    let one : nullable x ≡ nullable y = same_tells (nullable x) (nullable y) e in (
      sym (ap (λ (o : KKind-F KKind). o.head) (out_type _ _ _)) ∙ (ap head_of one ∙ ap (λ (o : KKind-F KKind). o.head) (out_type _ _ _)),
      sym (ap (λ (o : KKind-F KKind). o.arguments) (out_type _ _ _)) ∙ (ap arguments_of one ∙ ap (λ (o : KKind-F KKind). o.arguments) (out_type _ _ _)),
    )

pub but_null_same : (x y : KKind) → head_of x ≡ head_of y → arguments_of x ≡ arguments_of y → same_but_null x y ≡ true
but_null_same x y h a =
    equal_same (nullable x) (nullable y) (one_type (nullable x) (nullable y)
    (ap (λ (o : KKind-F KKind). o.head) (out_type _ _ _) ∙ (h ∙ sym (ap (λ (o : KKind-F KKind). o.head) (out_type _ _ _))))
    (ap (λ (o : KKind-F KKind). o.arguments) (out_type _ _ _) ∙ (a ∙ sym (ap (λ (o : KKind-F KKind). o.arguments) (out_type _ _ _))))
    (ap (λ (o : KKind-F KKind). o.nullability) (out_type _ _ _) ∙ sym (ap (λ (o : KKind-F KKind). o.nullability) (out_type _ _ _))))
