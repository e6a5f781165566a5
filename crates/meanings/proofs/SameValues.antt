-- The tests of equality decide equality.
use Rattle.std.proofs.Common.{◌≡◌, ℕ, ℤ, pos, negsuc, Bool, true, false, ◌&&◌, ◌==◌, [], ◌∷◌, refl, ap, ◌∙◌, subst}
use Rattle.std.proofs.lemmas.Bool.{eq-eqb, eqb-true}
use Rattle.meanings.specs.Laws.{SameIsEqual}
use Rattle.meanings.specs.Values.{Name, same_name, same_flag, ClassName, Simple, Anonymous, same_class, Field, same_field, Site, same_site, Kind, Byte, Short, Char, Int, Long, kind_number, same_integer, Elements, Integers, Booleans, Objects, Arrays, same_elements, Value, Null, Integer, Boolean, Units, Class, Companion, Object, Array, Lambda, Captured, NoMore, Capture, same_value, same_captured}

pub both : (a b : Bool) → (a && b) ≡ true → (a ≡ true) × (b ≡ true)
both true true e = (refl, refl)
both true false e = cc
both false b e = cc

and_true : (a b : Bool) → a ≡ true → b ≡ true → (a && b) ≡ true
and_true true true h g = refl
and_true true false h g = cc
and_true false b h g = cc

pub same_name_true : (x y : Name) → same_name x y ≡ true → x ≡ y
same_name_true [] [] e = refl
same_name_true [] (c ∷ y) e = cc
same_name_true (b ∷ x) [] e = cc
same_name_true (b ∷ x) (c ∷ y) e =
    let h : ((b == c) ≡ true) × (same_name x y ≡ true) = both (b == c) (same_name x y) e in
    let head : b ≡ c = eqb-true b c h.0 in
    let tail : x ≡ y = same_name_true x y h.1 in cc

pub same_name_self : (x : Name) → same_name x x ≡ true
same_name_self [] = refl
same_name_self (b ∷ x) = and_true (b == b) (same_name x x) (eq-eqb b b refl) (same_name_self x)

same_flag_true : (a b : Bool) → same_flag a b ≡ true → a ≡ b
same_flag_true true true e = refl
same_flag_true true false e = cc
same_flag_true false true e = cc
same_flag_true false false e = refl

same_flag_self : (a : Bool) → same_flag a a ≡ true
same_flag_self true = refl
same_flag_self false = refl

same_kind_true : (k l : Kind) → (kind_number k == kind_number l) ≡ true → k ≡ l
same_kind_true Byte Byte e = refl
same_kind_true Short Short e = refl
same_kind_true Char Char e = refl
same_kind_true Int Int e = refl
same_kind_true Long Long e = refl
same_kind_true _ _ e = cc

same_integer_true : (x y : ℤ) → same_integer x y ≡ true → x ≡ y
same_integer_true (pos m) (pos n) e = ap pos (eqb-true m n e)
same_integer_true (pos m) (negsuc n) e = cc
same_integer_true (negsuc m) (pos n) e = cc
same_integer_true (negsuc m) (negsuc n) e = ap negsuc (eqb-true m n e)

same_integer_self : (x : ℤ) → same_integer x x ≡ true
same_integer_self (pos m) = eq-eqb m m refl
same_integer_self (negsuc m) = eq-eqb m m refl

pub same_class_true : (c d : ClassName) → same_class c d ≡ true → c ≡ d
same_class_true (Simple c) (Simple d) e = ap Simple (same_name_true c d e)
same_class_true (Anonymous c s k) (Anonymous d t l) e =
    let h : ((same_class c d && same_flag s t) ≡ true) × ((k == l) ≡ true) = both _ _ e in
    let g : (same_class c d ≡ true) × (same_flag s t ≡ true) = both _ _ h.0 in
    let around : c ≡ d = same_class_true c d g.0 in
    let part : s ≡ t = same_flag_true s t g.1 in
    let number : k ≡ l = eqb-true k l h.1 in cc
same_class_true _ _ e = cc

pub same_class_self : (c : ClassName) → same_class c c ≡ true
same_class_self (Simple c) = same_name_self c
same_class_self (Anonymous c s k) = and_true _ _ (and_true _ _ (same_class_self c) (same_flag_self s)) (eq-eqb k k refl)

abbrev site : ClassName → Bool → ℕ → Site
site class is_static ordinal = record { class = class; is_static = is_static; ordinal = ordinal }

same_site_true : (a b : Site) → same_site a b ≡ true → a ≡ b
same_site_true a b e =
    let h : ((same_class a.class b.class && same_flag a.is_static b.is_static) ≡ true) × ((a.ordinal == b.ordinal) ≡ true) = both _ _ e in
    let g : (same_class a.class b.class ≡ true) × (same_flag a.is_static b.is_static ≡ true) = both _ _ h.0 in
    let class : a.class ≡ b.class = same_class_true a.class b.class g.0 in
    let flag : a.is_static ≡ b.is_static = same_flag_true a.is_static b.is_static g.1 in
    let ordinal : a.ordinal ≡ b.ordinal = eqb-true a.ordinal b.ordinal h.1 in
    ap (λ (x : ClassName). site x a.is_static a.ordinal) class ∙ ap (λ (x : Bool). site b.class x a.ordinal) flag ∙ ap (λ (x : ℕ). site b.class b.is_static x) ordinal

pub same_site_self : (a : Site) → same_site a a ≡ true
same_site_self a = and_true _ _ (and_true _ _ (same_class_self a.class) (same_flag_self a.is_static)) (eq-eqb a.ordinal a.ordinal refl)

abbrev field : ClassName → Name → Field
field class name = record { class = class; name = name }

pub same_field_true : (f g : Field) → same_field f g ≡ true → f ≡ g
same_field_true f g e =
    let h : (same_class f.class g.class ≡ true) × (same_name f.name g.name ≡ true) = both _ _ e in
    let class : f.class ≡ g.class = same_class_true f.class g.class h.0 in
    let name : f.name ≡ g.name = same_name_true f.name g.name h.1 in
    ap (λ (x : ClassName). field x f.name) class ∙ ap (λ (x : Name). field g.class x) name

pub same_field_self : (f : Field) → same_field f f ≡ true
same_field_self f = and_true _ _ (same_class_self f.class) (same_name_self f.name)

same_elements_true : (e f : Elements) → same_elements e f ≡ true → e ≡ f
same_elements_true (Integers k) (Integers l) h = ap Integers (same_kind_true k l h)
same_elements_true Booleans Booleans h = refl
same_elements_true (Objects c) (Objects d) h = ap Objects (same_name_true c d h)
same_elements_true (Arrays e) (Arrays f) h = ap Arrays (same_elements_true e f h)
same_elements_true _ _ h = cc

same_elements_self : (e : Elements) → same_elements e e ≡ true
same_elements_self (Integers k) = eq-eqb (kind_number k) (kind_number k) refl
same_elements_self Booleans = refl
same_elements_self (Objects c) = same_name_self c
same_elements_self (Arrays e) = same_elements_self e

mutual
  pub same_value_true : (v w : Value) → same_value v w ≡ true → v ≡ w
  same_value_true Null Null e = refl
  same_value_true (Integer k x) (Integer l y) e =
      let h : ((kind_number k == kind_number l) ≡ true) × (same_integer x y ≡ true) = both _ _ e in
      let kinds : k ≡ l = same_kind_true k l h.0 in
      let numbers : x ≡ y = same_integer_true x y h.1 in cc
  same_value_true (Boolean a) (Boolean b) e = ap Boolean (same_flag_true a b e)
  same_value_true (Units a) (Units b) e = ap Units (same_name_true a b e)
  same_value_true (Class c) (Class d) e = ap Class (same_name_true c d e)
  same_value_true (Companion c) (Companion d) e = ap Companion (same_name_true c d e)
  same_value_true (Object c m xs) (Object d n ys) e =
      let h : ((same_class c d && (m == n)) ≡ true) × (same_captured xs ys ≡ true) = both _ _ e in
      let g : (same_class c d ≡ true) × ((m == n) ≡ true) = both _ _ h.0 in
      let classes : c ≡ d = same_class_true c d g.0 in
      let numbers : m ≡ n = eqb-true m n g.1 in
      let captured : xs ≡ ys = same_captured_true xs ys h.1 in cc
  same_value_true (Array a k m) (Array b l n) e =
      let h : ((same_elements a b && (k == l)) ≡ true) × ((m == n) ≡ true) = both _ _ e in
      let g : (same_elements a b ≡ true) × ((k == l) ≡ true) = both _ _ h.0 in
      let elements : a ≡ b = same_elements_true a b g.0 in
      let lengths : k ≡ l = eqb-true k l g.1 in
      let numbers : m ≡ n = eqb-true m n h.1 in cc
  same_value_true (Lambda a m xs) (Lambda b n ys) e =
      let h : ((same_site a b && (m == n)) ≡ true) × (same_captured xs ys ≡ true) = both _ _ e in
      let g : (same_site a b ≡ true) × ((m == n) ≡ true) = both _ _ h.0 in
      let sites : a ≡ b = same_site_true a b g.0 in
      let numbers : m ≡ n = eqb-true m n g.1 in
      let captured : xs ≡ ys = same_captured_true xs ys h.1 in cc
  same_value_true _ _ e = cc

  same_captured_true : (xs ys : Captured) → same_captured xs ys ≡ true → xs ≡ ys
  same_captured_true NoMore NoMore e = refl
  same_captured_true (Capture v xs) (Capture w ys) e =
      let h : (same_value v w ≡ true) × (same_captured xs ys ≡ true) = both _ _ e in
      let heads : v ≡ w = same_value_true v w h.0 in
      let tails : xs ≡ ys = same_captured_true xs ys h.1 in cc
  same_captured_true _ _ e = cc

mutual
  pub same_value_self : (v : Value) → same_value v v ≡ true
  same_value_self Null = refl
  same_value_self (Integer k x) = and_true _ _ (eq-eqb (kind_number k) (kind_number k) refl) (same_integer_self x)
  same_value_self (Boolean a) = same_flag_self a
  same_value_self (Units a) = same_name_self a
  same_value_self (Class c) = same_name_self c
  same_value_self (Companion c) = same_name_self c
  same_value_self (Object c m xs) = and_true _ _ (and_true _ _ (same_class_self c) (eq-eqb m m refl)) (same_captured_self xs)
  same_value_self (Array a k m) = and_true _ _ (and_true _ _ (same_elements_self a) (eq-eqb k k refl)) (eq-eqb m m refl)
  same_value_self (Lambda a m xs) = and_true _ _ (and_true _ _ (same_site_self a) (eq-eqb m m refl)) (same_captured_self xs)

  same_captured_self : (xs : Captured) → same_captured xs xs ≡ true
  same_captured_self NoMore = refl
  same_captured_self (Capture v xs) = and_true _ _ (same_value_self v) (same_captured_self xs)

pub same_is_equal : SameIsEqual
same_is_equal v w = (same_value_true v w, λ e. subst (λ (x : Value). same_value v x ≡ true) e (same_value_self v))
