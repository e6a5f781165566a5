-- Types are the same exactly where they are equal.
use Rattle.std.proofs.Common.{◌≡◌, Bool, true, false, List, [], ◌∷◌, map, refl, sym, ap, subst, ◌∙◌}
use Rattle.std.specs.Prelude.{◌&&◌, ◌==◌}
use Rattle.std.proofs.lemmas.Bool.{eq-eqb, eqb-true}
use Rattle.j2k_base.specs.declared.constants.Kind.{Kind}
use Rattle.j2k_base.specs.declared.constants.Kind.TheVariants as kind
use Rattle.java_typed.specs.declared.types.ClassRef.{ClassRef}
use Rattle.java_typed.specs.declared.types.ClassRef.TheVariants as class
use Rattle.java_typed.specs.declared.types.TType.{TType, roll-TType, out-TType, map-TType, out-roll-TType, roll-out-TType, ind-TType}
use Rattle.java_typed.specs.declared.types.TType.TheOpen.{TType-F}
use Rattle.java_type_relations.specs.Types.{same, same_class, same_each, same_forms, same_kind}
use Rattle.java_type_relations.proofs.Forms.{same_at}

pub and_tells : (a b : Bool) → (a && b) ≡ true → (a ≡ true) × (b ≡ true)
and_tells true b h = (refl, h)
and_tells false b h = cc

pub and_holds : (a b : Bool) → a ≡ true → b ≡ true → (a && b) ≡ true
and_holds true b h g = g
and_holds false b h g = cc

kind_tells : (k l : Kind) → same_kind k l ≡ true → k ≡ l
kind_tells kind.Byte kind.Byte h = refl
kind_tells kind.Short kind.Short h = refl
kind_tells kind.Char kind.Char h = refl
kind_tells kind.Int kind.Int h = refl
kind_tells kind.Long kind.Long h = refl
kind_tells k l h = cc

kind_same : (k : Kind) → same_kind k k ≡ true
kind_same kind.Byte = refl
kind_same kind.Short = refl
kind_same kind.Char = refl
kind_same kind.Int = refl
kind_same kind.Long = refl

pub class_tells : (c d : ClassRef) → same_class c d ≡ true → c ≡ d
class_tells (class.Library a) (class.Library b) h = ap class.Library (eqb-true a b h)
class_tells (class.Project a) (class.Project b) h = ap class.Project (eqb-true a b h)
class_tells c d h = cc

pub class_same : (c : ClassRef) → same_class c c ≡ true
class_same (class.Library a) = eq-eqb a a refl
class_same (class.Project a) = eq-eqb a a refl

-- ---- what is the same is equal

abbrev Tells : TType → Type 0
Tells x = (y : TType) → same x y ≡ true → x ≡ y

abbrev Part : Type 0
Part = (x : TType) × Tells x

abbrev own : Part → TType
own x = x.0

each_tells : (xs : List Part) (ys : List TType) → same_each (map same (map own xs)) ys ≡ true → map own xs ≡ ys
each_tells [] [] h = refl
each_tells [] (y ∷ ys) h = cc
each_tells (x ∷ xs) [] h = cc
each_tells (x ∷ xs) (y ∷ ys) h =
    let both : (same x.0 y ≡ true) × (same_each (map same (map own xs)) ys ≡ true) = and_tells _ _ h in
    ap (λ z. z ∷ map own xs) (x.1 y both.0) ∙ ap (λ zs. y ∷ zs) (each_tells xs ys both.1)

forms_tell : (x : TType-F Part) (y : TType-F TType) → same_forms (map-TType TType (TType → Bool) same (map-TType Part TType own x)) y ≡ true → map-TType Part TType own x ≡ y
forms_tell (TType-F.Number k) (TType-F.Number l) h = ap TType-F.Number (kind_tells k l h)
forms_tell TType-F.Boolean TType-F.Boolean h = refl
forms_tell TType-F.Null TType-F.Null h = refl
forms_tell (TType-F.Class c xs) (TType-F.Class d ys) h =
    let both : (same_class c d ≡ true) × (same_each (map same (map own xs)) ys ≡ true) = and_tells _ _ h in
    ap (λ z. TType-F.Class z (map own xs)) (class_tells c d both.0) ∙ ap (λ zs. TType-F.Class d zs) (each_tells xs ys both.1)
forms_tell (TType-F.Variable c n) (TType-F.Variable d m) h =
    let both : (same_class c d ≡ true) × ((n == m) ≡ true) = and_tells _ _ h in
    ap (λ z. TType-F.Variable z n) (class_tells c d both.0) ∙ ap (λ z. TType-F.Variable d z) (eqb-true n m both.1)
forms_tell (TType-F.Array x) (TType-F.Array y) h = ap TType-F.Array (x.1 y h)
forms_tell x y h = cc

rolled_tells : (x : TType-F Part) → Tells (roll-TType (map-TType Part TType own x))
rolled_tells x y h =
    ap roll-TType (forms_tell x (out-TType y) (sym (same_at (map-TType Part TType own x) y) ∙ h)) ∙ roll-out-TType y

pub same_tells : (x y : TType) → same x y ≡ true → x ≡ y
same_tells = ind-TType Tells (λ x y is. subst (λ (z : TType-F TType). Tells (roll-TType z)) is (rolled_tells y))

-- ---- what is equal is the same

abbrev IsSame : TType → Type 0
IsSame x = same x x ≡ true

abbrev Same : Type 0
Same = (x : TType) × IsSame x

abbrev whole : Same → TType
whole x = x.0

each_same : (xs : List Same) → same_each (map same (map whole xs)) (map whole xs) ≡ true
each_same [] = refl
each_same (x ∷ xs) = and_holds _ _ x.1 (each_same xs)

forms_same : (x : TType-F Same) → same_forms (map-TType TType (TType → Bool) same (map-TType Same TType whole x)) (map-TType Same TType whole x) ≡ true
forms_same (TType-F.Number k) = kind_same k
forms_same TType-F.Boolean = refl
forms_same TType-F.Null = refl
forms_same (TType-F.Class c xs) = and_holds _ _ (class_same c) (each_same xs)
forms_same (TType-F.Variable c n) = and_holds _ _ (class_same c) (eq-eqb n n refl)
forms_same (TType-F.Array x) = x.1

rolled_same : (x : TType-F Same) → IsSame (roll-TType (map-TType Same TType whole x))
rolled_same x =
    let z : TType-F TType = map-TType Same TType whole x in
    same_at z (roll-TType z) ∙ ap (same_forms (map-TType TType (TType → Bool) same z)) (out-roll-TType z) ∙ forms_same x

pub same_itself : (x : TType) → same x x ≡ true
same_itself = ind-TType IsSame (λ x y is. subst (λ (z : TType-F TType). IsSame (roll-TType z)) is (rolled_same y))

pub equal_same : (x y : TType) → x ≡ y → same x y ≡ true
equal_same x y e = subst (λ z. same x z ≡ true) e (same_itself x)
