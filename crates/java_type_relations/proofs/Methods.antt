-- Which methods are applicable.
use Rattle.std.proofs.Common.{◌≡◌, ◌⊎◌, Bool, true, false, if◌then◌else◌, List, [], ◌∷◌, inl, inr, refl, sym, subst}
use Rattle.std.specs.Prelude.{◌||◌}
use Rattle.std.specs.List.{filter}
use Rattle.java_typed.specs.declared.types.TType.{TType}
use Rattle.java_type_relations.specs.declared.heads.Heads.{Heads}
use Rattle.java_type_relations.specs.Above.{IsIn}
use Rattle.java_type_relations.specs.Subtypes.{is_subtype}
use Rattle.java_type_relations.specs.Contexts.{is_boxed, is_unboxed}
use Rattle.java_type_relations.specs.Applicable.{applicable, or_later, takes_loosely, takes_strictly}
use Rattle.java_type_relations.proofs.Sameness.{and_holds, and_tells}

abbrev Params : Type 0
Params = List TType

in_cond : (b : Bool) (m x : Params) (rest : List Params) → IsIn m (if b then x ∷ rest else rest) → ((b ≡ true) × (m ≡ x)) ⊎ IsIn m rest
in_cond true m x rest (inl e) = inl (refl, e)
in_cond true m x rest (inr i) = inr i
in_cond false m x rest i = inr i

in_filter : (p : Params → Bool) (xs : List Params) (m : Params) → IsIn m (filter p xs) → IsIn m xs × (p m ≡ true)
in_filter p [] m i = absurd i
in_filter p (x ∷ xs) m i =
    elim (in_cond (p x) m x (filter p xs) i) [
      | inl e ↦ (inl e.1, subst (λ v. p v ≡ true) (sym e.1) e.0)
      | inr r ↦ (let one : IsIn m xs × (p m ≡ true) = in_filter p xs m r in (inr one.0, one.1))
    ]

first_kept : (b : Bool) (n x : Params) (rest : List Params) → b ≡ true → n ≡ x → IsIn n (if b then x ∷ rest else rest)
first_kept true n x rest h e = inl e
first_kept false n x rest h e = absurd (cc)

rest_kept : (b : Bool) (n x : Params) (rest : List Params) → IsIn n rest → IsIn n (if b then x ∷ rest else rest)
rest_kept true n x rest i = inr i
rest_kept false n x rest i = i

kept : (p : Params → Bool) (xs : List Params) (n : Params) → IsIn n xs → p n ≡ true → IsIn n (filter p xs)
kept p [] n i h = absurd i
kept p (x ∷ xs) n (inl e) h = first_kept (p x) n x (filter p xs) (subst (λ v. p v ≡ true) e h) e
kept p (x ∷ xs) n (inr i) h = rest_kept (p x) n x (filter p xs) (kept p xs n i h)

first_phase : (ms later : List Params) (m n : Params) → IsIn n ms → IsIn m (or_later ms later) → IsIn m ms
first_phase [] later m n i j = absurd i
first_phase (a ∷ rest) later m n i j = j

one_phase : (ms later : List Params) (m : Params) → IsIn m (or_later ms later) → IsIn m ms ⊎ IsIn m later
one_phase [] later m j = inr j
one_phase (a ∷ rest) later m j = inl j

loose_if : (a b c : Bool) → a ≡ true → (a || b || c) ≡ true
loose_if true b c h = refl
loose_if false b c h = cc

module _ (heads : Heads) where
  loosely : (args params : List TType) → takes_strictly heads args params ≡ true → takes_loosely heads args params ≡ true
  loosely [] [] h = refl
  loosely [] (p ∷ ps) h = cc
  loosely (a ∷ args) [] h = cc
  loosely (a ∷ args) (p ∷ ps) h =
      let both : (is_subtype heads a p ≡ true) × (takes_strictly heads args ps ≡ true) = and_tells _ _ h in
      and_holds _ _ (loose_if (is_subtype heads a p) (is_unboxed a p) (is_boxed heads a p) both.0) (loosely args ps both.1)

  pub strict_first : (args : List TType) (methods : List Params) (m n : Params) → IsIn m (applicable heads args methods) → IsIn n methods →
      takes_strictly heads args n ≡ true → takes_strictly heads args m ≡ true
  strict_first args methods m n j i h =
      let strict : List Params = filter (takes_strictly heads args) methods in
      (in_filter (takes_strictly heads args) methods m
      (first_phase (filter (takes_strictly heads args) methods) (filter (takes_loosely heads args) methods) m n (kept (takes_strictly heads args) methods n i h) j)).1

  pub takes : (args : List TType) (methods : List Params) (m : Params) → IsIn m (applicable heads args methods) → IsIn m methods × (takes_loosely heads args m ≡ true)
  takes args methods m j =
      elim (one_phase (filter (takes_strictly heads args) methods) (filter (takes_loosely heads args) methods) m j) [
        | inl i ↦ (let one : IsIn m methods × (takes_strictly heads args m ≡ true) = in_filter (takes_strictly heads args) methods m i in (one.0, loosely args m one.1))
        | inr i ↦ in_filter (takes_loosely heads args) methods m i
      ]
