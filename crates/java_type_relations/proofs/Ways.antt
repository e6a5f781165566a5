-- What the walk up finds stands above.
use Rattle.std.proofs.Common.{◌≡◌, ℕ, zero, suc, Bool, true, false, if◌then◌else◌, List, [], ◌∷◌, ◌++◌, Option, Some, None, find, inl, inr, refl, sym, ap, subst, ◌∙◌}
use Rattle.std.specs.List.{list_any}
use Rattle.java_typed.specs.declared.types.ClassRef.{ClassRef}
use Rattle.java_typed.specs.declared.types.TType.{TType, roll-TType, out-TType, roll-out-TType}
use Rattle.java_typed.specs.declared.types.TType.TheOpen.{TType-F}
use Rattle.java_typed.specs.declared.types.TType.TheVariants as t
use Rattle.java_type_relations.specs.declared.heads.Heads.{Heads}
use Rattle.java_type_relations.specs.declared.supers.Sought.{Sought}
use Rattle.java_type_relations.specs.Types.{put}
use Rattle.java_type_relations.specs.Heads.{bound_in, supers_in}
use Rattle.java_type_relations.specs.Supers.{added, added_bound, added_by, added_puts, added_supers, climbed, is_alike, is_sought, next_from, next_level, onward, step_by, supertype}
use Rattle.java_type_relations.specs.Above.{Above, IsIn, itself, of_class, of_parameter, up}

module _ (heads : Heads) (x : TType) where
  abbrev AllAbove : List TType → Type 0
  AllAbove [] = Unit {0}
  AllAbove (y ∷ ys) = Above heads x y × AllAbove ys

  all_ended : (ys : List TType) (z : TType) → AllAbove ys → Above heads x z → AllAbove (ys ++ z ∷ [])
  all_ended [] z h a = (a, tt)
  all_ended (y ∷ ys) z h a = (h.0, all_ended ys z h.1 a)

  all_if : (b : Bool) (ys zs : List TType) → AllAbove ys → AllAbove zs → AllAbove (if b then ys else zs)
  all_if true ys zs h g = h
  all_if false ys zs h g = g

  all_added : (found : List TType) (z : TType) → AllAbove found → Above heads x z → AllAbove (added found z)
  all_added found z h a = all_if (list_any (is_alike z) found) found (found ++ z ∷ []) h (all_ended found z h a)

  all_puts : (c : ClassRef) (args found ss : List TType) → AllAbove found → Above heads x (t.Class c args) →
      ((s : TType) → IsIn s ss → IsIn s (supers_in heads c)) → AllAbove (added_puts c args found ss)
  all_puts c args found [] h a within = h
  all_puts c args found (s ∷ ss) h a within =
      all_puts c args (added found (put c args s)) ss
      (all_added found (put c args s) h (up x (t.Class c args) (put c args s) a (of_class c args s (within s (inl refl)))))
      a (λ r i. within r (inr i))

  all_bound : (c : ClassRef) (n : ℕ) (found : List TType) (o : Option TType) → bound_in heads c n ≡ o → AllAbove found →
      Above heads x (t.Variable c n) → AllAbove (added_bound found o)
  all_bound c n found None e h a = h
  all_bound c n found (Some b) e h a = all_added found b h (up x (t.Variable c n) b a (of_parameter c n b e))

  all_by : (found : List TType) (z : TType) (f : TType-F TType) → out-TType z ≡ f → AllAbove found → Above heads x z → AllAbove (added_by heads found f)
  all_by found z (TType-F.Class c args) e h a =
      let same : z ≡ t.Class c args = sym (roll-out-TType z) ∙ ap roll-TType e ∙ t.rolls-Class c args in
      all_puts c args found (supers_in heads c) h (subst (λ w. Above heads x w) same a) (λ s i. i)
  all_by found z (TType-F.Variable c n) e h a =
      let same : z ≡ t.Variable c n = sym (roll-out-TType z) ∙ ap roll-TType e ∙ t.rolls-Variable c n in
      all_bound c n found (bound_in heads c n) refl h (subst (λ w. Above heads x w) same a)
  all_by found z (TType-F.Number k) e h a = h
  all_by found z TType-F.Boolean e h a = h
  all_by found z TType-F.Null e h a = h
  all_by found z (TType-F.Array y) e h a = h

  all_supers : (found : List TType) (z : TType) → AllAbove found → Above heads x z → AllAbove (added_supers heads found z)
  all_supers found z h a = all_by found z (out-TType z) refl h a

  all_next : (found level : List TType) → AllAbove found → AllAbove level → AllAbove (next_from heads found level)
  all_next found [] h g = h
  all_next found (y ∷ ys) h g = all_next (added_supers heads found y) ys (all_supers found y h g.0) g.1

  abbrev IsFound : Sought → TType → Type 0
  IsFound s y = Above heads x y × (is_sought s y ≡ true)

  found_step : (s : Sought) (z : TType) (zs : List TType) (y : TType) (b : Bool) → is_sought s z ≡ b → Above heads x z →
      (find (is_sought s) zs ≡ Some y → IsFound s y) → (if b then Some z else find (is_sought s) zs) ≡ Some y → IsFound s y
  found_step s z zs y true e a go h =
      let same : z ≡ y = cc in
      (subst (λ w. Above heads x w) same a, subst (λ w. is_sought s w ≡ true) same e)
  found_step s z zs y false e a go h = go h

  found_is : (s : Sought) (level : List TType) (y : TType) → AllAbove level → find (is_sought s) level ≡ Some y → IsFound s y
  found_is s [] y g h = cc
  found_is s (z ∷ zs) y g h = found_step s z zs y (is_sought s z) refl g.0 (λ k. found_is s zs y g.1 k) h

  climb_by : (s : Sought) (n : ℕ) (level : List TType) (y : TType) (o : Option TType) → find (is_sought s) level ≡ o → AllAbove level →
      (climbed heads s n (next_level heads level) ≡ Some y → IsFound s y) → onward (climbed heads s n) (step_by heads level o) ≡ Some y → IsFound s y
  climb_by s n level y None e g go h = go h
  climb_by s n level y (Some w) e g go h = found_is s level y g (e ∙ h)

  climb_is : (s : Sought) (n : ℕ) (level : List TType) (y : TType) → AllAbove level → climbed heads s n level ≡ Some y → IsFound s y
  climb_is s zero level y g h = cc
  climb_is s (suc n) [] y g h = cc
  climb_is s (suc n) (z ∷ zs) y g h =
      climb_by s n (z ∷ zs) y (find (is_sought s) (z ∷ zs)) refl g
      (λ k. climb_is s n (next_level heads (z ∷ zs)) y (all_next [] (z ∷ zs) tt g) k) h

pub supertype_is : (heads : Heads) (s : Sought) (x y : TType) → supertype heads s x ≡ Some y → Above heads x y × (is_sought s y ≡ true)
unfolding supertype
supertype_is heads s x y h = climb_is heads x s heads.steps (x ∷ []) y (itself x, tt) h
