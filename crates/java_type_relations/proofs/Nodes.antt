-- Types by the class or the type parameter that they are of.
use Rattle.std.proofs.Common.{◌≡◌, ℕ, true, List, map, refl, sym, ap, ◌∙◌}
use Rattle.std.specs.Prelude.{◌==◌}
use Rattle.std.proofs.lemmas.Bool.{eq-eqb, eqb-true}
use Rattle.java_typed.specs.declared.types.ClassRef.{ClassRef}
use Rattle.java_typed.specs.declared.types.TType.{TType, out-TType}
use Rattle.java_typed.specs.declared.types.TType.TheOpen.{TType-F}
use Rattle.java_typed.specs.declared.types.TType.TheVariants as t
use Rattle.java_type_relations.specs.declared.supers.Sought.{Sought}
use Rattle.java_type_relations.specs.declared.supers.Sought.TheVariants as sought
use Rattle.java_type_relations.specs.Types.{put, same_class}
use Rattle.java_type_relations.specs.Supers.{alike_forms, is_alike, is_sought, is_sought_form}
use Rattle.java_type_relations.proofs.Forms.{class_from, out_class, out_variable, put_at, variable_from}
use Rattle.java_type_relations.proofs.Sameness.{and_holds, and_tells, class_same, class_tells}

abbrev pub IsNode : Sought → TType → Type 0
IsNode (sought.Class c) x = (args : List TType) × (x ≡ t.Class c args)
IsNode (sought.Variable c n) x = x ≡ t.Variable c n

node_form : (s : Sought) (x : TType) (f : TType-F TType) → out-TType x ≡ f → is_sought_form s f ≡ true → IsNode s x
node_form (sought.Class c) x (TType-F.Class d args) e h = (args, class_from x d args e ∙ ap (λ z. t.Class z args) (sym (class_tells c d h)))
node_form (sought.Variable c n) x (TType-F.Variable d m) e h =
    let both : (same_class c d ≡ true) × ((n == m) ≡ true) = and_tells _ _ h in
    variable_from x d m e ∙ ap (λ z. t.Variable z m) (sym (class_tells c d both.0)) ∙ ap (t.Variable c) (sym (eqb-true n m both.1))
node_form s x f e h = absurd (cc)

pub node_tells : (s : Sought) (x : TType) → is_sought s x ≡ true → IsNode s x
node_tells s x h = node_form s x (out-TType x) refl h

pub class_sought : (s : Sought) (c : ClassRef) (args : List TType) → is_sought s (t.Class c args) ≡ is_sought_form s (TType-F.Class c args)
class_sought s c args = ap (is_sought_form s) (out_class c args)

pub variable_sought : (s : Sought) (c : ClassRef) (n : ℕ) → is_sought s (t.Variable c n) ≡ is_sought_form s (TType-F.Variable c n)
variable_sought s c n = ap (is_sought_form s) (out_variable c n)

pub class_is_node : (c : ClassRef) (args : List TType) → is_sought (sought.Class c) (t.Class c args) ≡ true
class_is_node c args = class_sought (sought.Class c) c args ∙ class_same c

pub variable_is_node : (c : ClassRef) (n : ℕ) → is_sought (sought.Variable c n) (t.Variable c n) ≡ true
variable_is_node c n = variable_sought (sought.Variable c n) c n ∙ and_holds _ _ (class_same c) (eq-eqb n n refl)

any_arguments : (s : Sought) (c : ClassRef) (xs ys : List TType) → is_sought_form s (TType-F.Class c xs) ≡ is_sought_form s (TType-F.Class c ys)
any_arguments (sought.Class d) c xs ys = refl
any_arguments (sought.Variable d n) c xs ys = refl

put_class : (c : ClassRef) (args : List TType) (d : ClassRef) (inner : List TType) → put c args (t.Class d inner) ≡ t.Class d (map (put c args) inner)
put_class c args d inner = ap (put c args) (sym (t.rolls-Class d inner)) ∙ put_at c args (TType-F.Class d inner)

-- with whatever arguments a supertype is of one class
pub sought_put : (s : Sought) (c : ClassRef) (xs ys : List TType) (d : ClassRef) (inner : List TType) → is_sought s (put c xs (t.Class d inner)) ≡ is_sought s (put c ys (t.Class d inner))
sought_put s c xs ys d inner =
    ap (is_sought s) (put_class c xs d inner)
    ∙ class_sought s d (map (put c xs) inner)
    ∙ any_arguments s d (map (put c xs) inner) (map (put c ys) inner)
    ∙ sym (class_sought s d (map (put c ys) inner))
    ∙ sym (ap (is_sought s) (put_class c ys d inner))

-- ---- alike types

alike_on : (s : Sought) (f g : TType-F TType) → is_sought_form s f ≡ true → alike_forms f g ≡ true → is_sought_form s g ≡ true
alike_on (sought.Class c) (TType-F.Class d xs) (TType-F.Class e ys) h k = ap (same_class c) (sym (class_tells d e k)) ∙ h
alike_on (sought.Variable c n) (TType-F.Variable d m) (TType-F.Variable e o) h k =
    let one : (same_class c d ≡ true) × ((n == m) ≡ true) = and_tells _ _ h in
    let two : (same_class d e ≡ true) × ((m == o) ≡ true) = and_tells _ _ k in
    and_holds _ _ (ap (same_class c) (sym (class_tells d e two.0)) ∙ one.0) (eq-eqb n o (eqb-true n m one.1 ∙ eqb-true m o two.1))
alike_on s f g h k = cc

pub alike_sought : (s : Sought) (x y : TType) → is_sought s x ≡ true → is_alike x y ≡ true → is_sought s y ≡ true
alike_sought s x y h k = alike_on s (out-TType x) (out-TType y) h k

alike_from : (s : Sought) (f g : TType-F TType) → is_sought_form s f ≡ true → is_sought_form s g ≡ true → alike_forms f g ≡ true
alike_from (sought.Class c) (TType-F.Class d xs) (TType-F.Class e ys) h k = ap (λ z. same_class z e) (sym (class_tells c d h)) ∙ k
alike_from (sought.Variable c n) (TType-F.Variable d m) (TType-F.Variable e o) h k =
    let one : (same_class c d ≡ true) × ((n == m) ≡ true) = and_tells _ _ h in
    let two : (same_class c e ≡ true) × ((n == o) ≡ true) = and_tells _ _ k in
    and_holds _ _ (ap (λ z. same_class z e) (sym (class_tells c d one.0)) ∙ two.0) (eq-eqb m o (sym (eqb-true n m one.1) ∙ eqb-true n o two.1))
alike_from s f g h k = cc

pub sought_alike : (s : Sought) (x y : TType) → is_sought s x ≡ true → is_sought s y ≡ true → is_alike x y ≡ true
sought_alike s x y h k = alike_from s (out-TType x) (out-TType y) h k
