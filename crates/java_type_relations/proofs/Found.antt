-- What stands above is found, where no way up is too long.
use Rattle.std.proofs.Common.{◌≡◌, ◌⊎◌, ◌<◌, ℕ, zero, suc, Bool, true, false, if◌then◌else◌, List, [], ◌∷◌, ◌++◌, Option, Some, None, find, inl, inr, refl, sym, ap, subst, ◌∙◌, arith}
use Rattle.std.specs.Prelude.{◌||◌}
use Rattle.std.specs.List.{list_any}
use Rattle.java_typed.specs.declared.types.ClassRef.{ClassRef}
use Rattle.java_typed.specs.declared.types.TType.{TType, out-TType}
use Rattle.java_typed.specs.declared.types.TType.TheOpen.{TType-F}
use Rattle.java_typed.specs.declared.types.TType.TheVariants as t
use Rattle.java_type_relations.specs.declared.heads.Heads.{Heads}
use Rattle.java_type_relations.specs.declared.supers.Sought.{Sought}
use Rattle.java_type_relations.specs.declared.supers.Sought.TheVariants as sought
use Rattle.java_type_relations.specs.Types.{put}
use Rattle.java_type_relations.specs.Heads.{bound_in, supers_in}
use Rattle.java_type_relations.specs.Supers.{added, added_bound, added_by, added_puts, added_supers, climbed, is_alike, is_sought, next_from, next_level, onward, step_by, supertype}
use Rattle.java_type_relations.specs.Above.{Above, Climbs, Direct, HasClassesAbove, HasOneOfEach, IsBounded, IsIn, here, itself, of_class, of_parameter, on, up}
use Rattle.java_type_relations.proofs.Forms.{out_class, out_variable}
use Rattle.java_type_relations.proofs.Sameness.{class_tells}
use Rattle.java_type_relations.proofs.Nodes.{alike_sought, class_is_node, class_sought, node_tells, sought_alike, sought_put, variable_is_node, variable_sought}
use Rattle.java_type_relations.proofs.Ways.{supertype_is}

-- ---- lists that grow

in_ended : (z x : TType) (found : List TType) → IsIn z found → IsIn z (found ++ x ∷ [])
in_ended z x [] i = absurd i
in_ended z x (y ∷ ys) (inl e) = inl e
in_ended z x (y ∷ ys) (inr i) = inr (in_ended z x ys i)

in_last : (x : TType) (found : List TType) → IsIn x (found ++ x ∷ [])
in_last x [] = inl refl
in_last x (y ∷ ys) = inr (in_last x ys)

in_if : (z : TType) (b : Bool) (xs ys : List TType) → IsIn z xs → IsIn z ys → IsIn z (if b then xs else ys)
in_if z true xs ys i j = i
in_if z false xs ys i j = j

-- one of the list is what is sought
abbrev Has : Sought → List TType → Type 0
Has s level = (z : TType) × IsIn z level × (is_sought s z ≡ true)

or_tells : (a b : Bool) → (a || b) ≡ true → (a ≡ true) ⊎ (b ≡ true)
or_tells true b h = inl refl
or_tells false b h = inr h

alike_in : (s : Sought) (x : TType) (found : List TType) → is_sought s x ≡ true → list_any (is_alike x) found ≡ true → Has s found
alike_in s x [] h a = absurd (cc)
alike_in s x (y ∷ ys) h a =
    elim (or_tells (is_alike x y) (list_any (is_alike x) ys) a) [
      | inl e ↦ (y, inl refl, alike_sought s x y h e)
      | inr e ↦ (let found : Has s ys = alike_in s x ys h e in (found.0, inr found.1, found.2))
    ]

module _ (heads : Heads) where
  kept_added : (z x : TType) (found : List TType) → IsIn z found → IsIn z (added found x)
  kept_added z x found i = in_if z (list_any (is_alike x) found) found (found ++ x ∷ []) i (in_ended z x found i)

  kept_puts : (z : TType) (c : ClassRef) (args found ss : List TType) → IsIn z found → IsIn z (added_puts c args found ss)
  kept_puts z c args found [] i = i
  kept_puts z c args found (s ∷ ss) i = kept_puts z c args (added found (put c args s)) ss (kept_added z (put c args s) found i)

  kept_bound : (z : TType) (found : List TType) (o : Option TType) → IsIn z found → IsIn z (added_bound found o)
  kept_bound z found None i = i
  kept_bound z found (Some b) i = kept_added z b found i

  kept_by : (z : TType) (found : List TType) (f : TType-F TType) → IsIn z found → IsIn z (added_by heads found f)
  kept_by z found (TType-F.Class c args) i = kept_puts z c args found (supers_in heads c) i
  kept_by z found (TType-F.Variable c n) i = kept_bound z found (bound_in heads c n) i
  kept_by z found (TType-F.Number k) i = i
  kept_by z found TType-F.Boolean i = i
  kept_by z found TType-F.Null i = i
  kept_by z found (TType-F.Array y) i = i

  kept_next : (z : TType) (found level : List TType) → IsIn z found → IsIn z (next_from heads found level)
  kept_next z found [] i = i
  kept_next z found (y ∷ ys) i = kept_next z (added_supers heads found y) ys (kept_by z found (out-TType y) i)

  -- ---- a direct supertype, or one like it, is in the next level

  has_if : (s : Sought) (x : TType) (found : List TType) (b : Bool) → is_sought s x ≡ true → list_any (is_alike x) found ≡ b → Has s (if b then found else found ++ x ∷ [])
  has_if s x found true h e = alike_in s x found h e
  has_if s x found false h e = (x, in_last x found, h)

  has_added : (s : Sought) (x : TType) (found : List TType) → is_sought s x ≡ true → Has s (added found x)
  has_added s x found h = has_if s x found (list_any (is_alike x) found) h refl

  has_puts : (s : Sought) (c : ClassRef) (args found ss : List TType) (x : TType) → IsIn x ss → is_sought s (put c args x) ≡ true → Has s (added_puts c args found ss)
  has_puts s c args found [] x i h = absurd i
  has_puts s c args found (y ∷ ys) x (inl e) h =
      let one : Has s (added found (put c args y)) = has_added s (put c args y) found (subst (λ z. is_sought s (put c args z) ≡ true) e h) in
      (one.0, kept_puts one.0 c args (added found (put c args y)) ys one.1, one.2)
  has_puts s c args found (y ∷ ys) x (inr i) h = has_puts s c args (added found (put c args y)) ys x i h

  has_supers : (s : Sought) (found : List TType) (z w : TType) → Direct heads z w → is_sought s w ≡ true → Has s (added_supers heads found z)
  has_supers s found _ _ (of_class c args x i) h =
      subst (λ f. Has s (added_by heads found f)) (sym (out_class c args)) (has_puts s c args found (supers_in heads c) x i h)
  has_supers s found _ _ (of_parameter c n b e) h =
      subst (λ f. Has s (added_by heads found f)) (sym (out_variable c n))
      (subst (λ o. Has s (added_bound found o)) (sym e) (has_added s b found h))

  has_next : (s : Sought) (found level : List TType) (z w : TType) → IsIn z level → Direct heads z w → is_sought s w ≡ true → Has s (next_from heads found level)
  has_next s found [] z w i d h = absurd i
  has_next s found (y ∷ ys) z w (inl e) d h =
      let one : Has s (added_supers heads found y) = has_supers s found y w (subst (λ v. Direct heads v w) e d) h in
      (one.0, kept_next one.0 (added_supers heads found y) ys one.1, one.2)
  has_next s found (y ∷ ys) z w (inr i) d h = has_next s (added_supers heads found y) ys z w i d h

  -- ---- types of one class have supertypes of the same classes

  abbrev Next : TType → Sought → Type 0
  Next z s = (w : TType) × Direct heads z w × (is_sought s w ≡ true)

  class_next : HasClassesAbove heads → (k : Sought) (c : ClassRef) (args : List TType) (x z : TType) (s : Sought) → IsIn x (supers_in heads c) →
      is_sought k (t.Class c args) ≡ true → is_sought k z ≡ true → is_sought s (put c args x) ≡ true → Next z s
  class_next above (sought.Class d) c args x z s i h g e =
      let one : d ≡ c = class_tells d c (sym (class_sought (sought.Class d) c args) ∙ h) in
      let node : (xs : List TType) × (z ≡ t.Class d xs) = node_tells (sought.Class d) z g in
      let is : z ≡ t.Class c node.0 = node.1 ∙ ap (λ v. t.Class v node.0) one in
      let form : (e : ClassRef) × (inner : List TType) × (x ≡ t.Class e inner) = above c x i in
      let found : is_sought s (put c node.0 x) ≡ true =
      ap (λ v. is_sought s (put c node.0 v)) form.2 ∙ sought_put s c node.0 args form.0 form.1 ∙ sym (ap (λ v. is_sought s (put c args v)) form.2) ∙ e in
      (put c node.0 x, subst (λ v. Direct heads v (put c node.0 x)) (sym is) (of_class c node.0 x i), found)
  class_next above (sought.Variable d m) c args x z s i h g e =
      let no : false ≡ true = sym (class_sought (sought.Variable d m) c args) ∙ h in absurd (cc)

  parameter_next : (k : Sought) (c : ClassRef) (n : ℕ) (b z : TType) (s : Sought) → bound_in heads c n ≡ Some b →
      is_sought k (t.Variable c n) ≡ true → is_sought k z ≡ true → is_sought s b ≡ true → Next z s
  parameter_next (sought.Class d) c n b z s i h g e =
      let no : false ≡ true = sym (variable_sought (sought.Class d) c n) ∙ h in absurd (cc)
  parameter_next (sought.Variable d m) c n b z s i h g e =
      let one : t.Variable c n ≡ t.Variable d m = node_tells (sought.Variable d m) (t.Variable c n) h in
      let two : z ≡ t.Variable d m = node_tells (sought.Variable d m) z g in
      (b, subst (λ v. Direct heads v b) (one ∙ sym two) (of_parameter c n b i), e)

  -- what has a direct supertype is a class or a type parameter, and another of that has one like it
  go_on : HasClassesAbove heads → (y w : TType) → Direct heads y w →
      (k : Sought) × (is_sought k y ≡ true) × ((z : TType) (s : Sought) → is_sought k z ≡ true → is_sought s w ≡ true → Next z s)
  go_on above _ _ (of_class c args x i) =
      (sought.Class c, class_is_node c args, λ z s g e. class_next above (sought.Class c) c args x z s i (class_is_node c args) g e)
  go_on above _ _ (of_parameter c n b i) =
      (sought.Variable c n, variable_is_node c n, λ z s g e. parameter_next (sought.Variable c n) c n b z s i (variable_is_node c n) g e)

  -- ---- level by level

  abbrev nth_level : ℕ → List TType → List TType
  nth_level zero level = level
  nth_level (suc n) level = nth_level n (next_level heads level)

  next_nth : (n : ℕ) (level : List TType) → next_level heads (nth_level n level) ≡ nth_level (suc n) level
  next_nth zero level = refl
  next_nth (suc n) level = next_nth n (next_level heads level)

  in_level : HasClassesAbove heads → (x y : TType) (n : ℕ) → Climbs heads x n y → (s : Sought) → is_sought s y ≡ true → Has s (nth_level n (x ∷ []))
  in_level above x _ _ here s h = (x, inl refl, h)
  in_level above x _ _ (on n y z c d) s h =
      let next : (k : Sought) × (is_sought k y ≡ true) × ((w : TType) (s : Sought) → is_sought k w ≡ true → is_sought s z ≡ true → Next w s) = go_on above y z d in
      let one : Has next.0 (nth_level n (x ∷ [])) = in_level above x y n c next.0 next.1 in
      let two : Next one.0 s = next.2 one.0 s one.2 h in
      subst (Has s) (next_nth n (x ∷ [])) (has_next s [] (nth_level n (x ∷ [])) one.0 two.0 one.1 two.1 two.2)

  -- ---- the search

  found_if : (s : Sought) (a : TType) (o : Option TType) (b : Bool) → ((b ≡ true) ⊎ ((w : TType) × (o ≡ Some w))) → (w : TType) × ((if b then Some a else o) ≡ Some w)
  found_if s a o true e = (a, refl)
  found_if s a o false (inl e) = absurd (cc)
  found_if s a o false (inr e) = e

  find_in : (s : Sought) (level : List TType) (z : TType) → IsIn z level → is_sought s z ≡ true → (w : TType) × (find (is_sought s) level ≡ Some w)
  find_in s [] z i h = absurd i
  find_in s (a ∷ rest) z (inl e) h = found_if s a (find (is_sought s) rest) (is_sought s a) (inl (subst (λ v. is_sought s v ≡ true) e h))
  find_in s (a ∷ rest) z (inr i) h = found_if s a (find (is_sought s) rest) (is_sought s a) (inr (find_in s rest z i h))

  none_in : (n : ℕ) (z : TType) → IsIn z (nth_level n []) → ⊥
  none_in zero z i = i
  none_in (suc n) z i = none_in n z i

  found_on : (s : Sought) (m : ℕ) (level : List TType) (o : Option TType) → ((w : TType) × (climbed heads s m (next_level heads level) ≡ Some w)) →
      (w : TType) × (onward (climbed heads s m) (step_by heads level o) ≡ Some w)
  found_on s m level None g = g
  found_on s m level (Some w) g = (w, refl)

  found_at : (s : Sought) (n m : ℕ) (level : List TType) (z : TType) → n < m → IsIn z (nth_level n level) → is_sought s z ≡ true → (w : TType) × (climbed heads s m level ≡ Some w)
  found_at s n zero level z l i h = absurd (omega arith)
  found_at s zero (suc m) [] z l i h = absurd i
  found_at s zero (suc m) (a ∷ rest) z l i h =
      let one : (w : TType) × (find (is_sought s) (a ∷ rest) ≡ Some w) = find_in s (a ∷ rest) z i h in
      (one.0, ap (λ o. onward (climbed heads s m) (step_by heads (a ∷ rest) o)) one.1)
  found_at s (suc n) (suc m) [] z l i h = absurd (none_in n z i)
  found_at s (suc n) (suc m) (a ∷ rest) z l i h =
      found_on s m (a ∷ rest) (find (is_sought s) (a ∷ rest)) (found_at s n m (next_level heads (a ∷ rest)) z (omega arith) i h)

  climbs : (x y : TType) → Above heads x y → (n : ℕ) × Climbs heads x n y
  climbs _ _ (itself x) = (zero, here)
  climbs _ _ (up x y z a d) = let one : (n : ℕ) × Climbs heads x n y = climbs x y a in (suc one.0, on one.0 y z one.1 d)

pub is_found : (heads : Heads) → HasClassesAbove heads → IsBounded heads → (s : Sought) (x y : TType) → Above heads x y → is_sought s y ≡ true →
    (z : TType) × (supertype heads s x ≡ Some z) × (is_sought s z ≡ true)
unfolding supertype
is_found heads above bounded s x y a h =
    let way : (n : ℕ) × Climbs heads x n y = climbs heads x y a in
    let one : Has s (nth_level heads way.0 (x ∷ [])) = in_level heads above x y way.0 way.1 s h in
    let two : (z : TType) × (climbed heads s heads.steps (x ∷ []) ≡ Some z) = found_at heads s way.0 heads.steps (x ∷ []) one.0 (bounded x y way.0 way.1) one.1 one.2 in
    (two.0, two.1, (supertype_is heads s x two.0 two.1).1)

pub is_it : (heads : Heads) → HasClassesAbove heads → IsBounded heads → HasOneOfEach heads → (s : Sought) (x y : TType) → Above heads x y → is_sought s y ≡ true → supertype heads s x ≡ Some y
is_it heads above bounded each s x y a h =
    let one : (z : TType) × (supertype heads s x ≡ Some z) × (is_sought s z ≡ true) = is_found heads above bounded s x y a h in
    one.1 ∙ ap Some (sym (each x y one.0 a (supertype_is heads s x one.0 one.1).0 (sought_alike s y one.0 h one.2)))
