-- What it comes to that nothing is noted.
use Rattle.std.proofs.Common.{◌≡◌, ℕ, Bool, true, false, not, List, [], ◌∷◌, ◌++◌, map, Some, refl, subst, if◌then◌else◌}
use Rattle.std.specs.List.{AllByRecursion}
use Rattle.kotlin_tree.specs.declared.statements.KBlock.{KBlock}
use Rattle.kotlin_tree.specs.declared.members.KTyped.{KTyped}
use Rattle.kotlin_tree.specs.declared.members.KParams.{KParams}
use Rattle.kotlin_tree.specs.declared.members.KMember.{KMember}
use Rattle.kotlin_tree.specs.declared.files.KClass.{KClass}
use Rattle.kotlin_flow.specs.Variables.{Variable, OfThis, same_variable, KotlinUse, KotlinAct, Declaration, Blank}
use Rattle.kotlin_flow.specs.Faults.{unassigned_reads, assigned_again, FlowCode, NotAssigned, AssignedAgain, told, blank_faults, blanks_faults}
use Rattle.kotlin_flow.specs.Members.{Bare, bare, Constructor, constructors, calls_this, constructor_does, initializers, function_does, functions, blank_properties, companions}
use Rattle.kotlin_flow.specs.Files.{member_blanks, member_ends, member_faults, members_faults, ends, missing, missing_behind, missing_in, again_behind, again_in, again_in_functions, property_faults, properties_faults, object_texts, companion_faults, companions_faults, class_faults}
use Rattle.kotlin_flow.specs.Promises.{AssignsOnce, AssignsNever, IsAssigned, NeverEnds, Kept}
use Rattle.kotlin_flow.proofs.Runs.{reads_assigned, once, never, at_the_end, no_end}

module _ {A : Type 0} where
  left : (xs ys : List A) → xs ++ ys ≡ [] → xs ≡ []
  left [] ys h = refl
  left (x ∷ xs) ys h = cc

  right : (xs ys : List A) → xs ++ ys ≡ [] → ys ≡ []
  right [] ys h = h
  right (x ∷ xs) ys h = cc

  where_true : (b : Bool) (xs : List A) → b ≡ true → (if b then xs else []) ≡ [] → xs ≡ []
  where_true true xs q h = h
  where_true false xs q h = cc

  where_false : (b : Bool) (xs : List A) → b ≡ false → (if b then [] else xs) ≡ [] → xs ≡ []
  where_false true xs q h = cc
  where_false false xs q h = h

  not_noted : (b : Bool) (x : A) → (if b then x ∷ [] else []) ≡ [] → b ≡ false
  not_noted true x h = cc
  not_noted false x h = refl

  noted_else : (b : Bool) (x : A) → (if b then [] else x ∷ []) ≡ [] → b ≡ true
  noted_else true x h = refl
  noted_else false x h = cc

untold : (code : FlowCode) (xs : List KotlinUse) → told code xs ≡ [] → xs ≡ []
untold code [] h = refl
untold code (x ∷ xs) h = cc

-- ---- members

kept : (b : Blank) → blank_faults b ≡ [] → Kept b
kept b h = record {
  reads = λ es e p. reads_assigned b.does (same_variable b.variable) false es e p (untold NotAssigned _ (left _ _ h));
  once = λ v. once b.does (same_variable b.variable) (untold AssignedAgain _ (where_true b.declared.is_val _ v (right (told NotAssigned (unassigned_reads (same_variable b.variable) false b.does)) _ h)));
}

kept_all : (bs : List Blank) → blanks_faults bs ≡ [] → AllByRecursion Kept bs
kept_all [] h = tt
kept_all (b ∷ more) h = (kept b (left (blank_faults b) _ h), kept_all more (right (blank_faults b) _ h))

pub locals_kept : (x : Bare) → member_faults x ≡ [] → AllByRecursion Kept (member_blanks x)
locals_kept x h = kept_all (member_blanks x) (left _ (member_ends x) h)

pub result_comes : (kind : KTyped) (params : KParams) (body : KBlock) → ends (Some kind) params body ≡ [] → NeverEnds (function_does params body)
result_comes kind params body h = no_end _ (not_noted _ _ h)

-- ---- properties

module _ (is : Variable → Bool) (d : Declaration) (parts : KotlinAct) where
  assigned_behind : (ks : List Constructor) → missing_behind is d parts ks ≡ [] → AllByRecursion (λ (k : Constructor). calls_this k.first ≡ false → IsAssigned is (constructor_does parts k)) ks
  assigned_behind [] h = tt
  assigned_behind (k ∷ more) h = (
    λ q. at_the_end _ is (noted_else _ _ (where_false _ (missing is d (constructor_does parts k)) q (left _ (missing_behind is d parts more) h))),
    assigned_behind more (right (if calls_this k.first then [] else missing is d (constructor_does parts k)) _ h),
  )

  assigned_in : (ks : List Constructor) → missing_in is d parts ks ≡ [] → AllByRecursion (λ (k : Constructor). calls_this k.first ≡ false → IsAssigned is (constructor_does parts k)) ks
  assigned_in [] h = tt
  assigned_in (k ∷ more) h = assigned_behind (k ∷ more) h

  assigned_by_parts : (ks : List Constructor) → missing_in is d parts ks ≡ [] → ks ≡ [] → IsAssigned is parts
  assigned_by_parts [] h q = at_the_end _ is (noted_else _ _ h)
  assigned_by_parts (k ∷ more) h q = cc

module _ (is : Variable → Bool) (parts : KotlinAct) where
  once_behind : (ks : List Constructor) → again_behind is parts ks ≡ [] → AllByRecursion (λ (k : Constructor). calls_this k.first ≡ false → AssignsOnce is (constructor_does parts k)) ks
  once_behind [] h = tt
  once_behind (k ∷ more) h = (
    λ q. once _ is (subst (λ b. assigned_again is (not b) (constructor_does parts k) ≡ []) q (untold AssignedAgain _ (left _ (again_behind is parts more) h))),
    once_behind more (right (told AssignedAgain (assigned_again is (not (calls_this k.first)) (constructor_does parts k))) _ h),
  )

  never_behind : (ks : List Constructor) → again_behind is parts ks ≡ [] → AllByRecursion (λ (k : Constructor). calls_this k.first ≡ true → AssignsNever is (constructor_does parts k)) ks
  never_behind [] h = tt
  never_behind (k ∷ more) h = (
    λ q. never _ is (subst (λ b. assigned_again is (not b) (constructor_does parts k) ≡ []) q (untold AssignedAgain _ (left _ (again_behind is parts more) h))),
    never_behind more (right (told AssignedAgain (assigned_again is (not (calls_this k.first)) (constructor_does parts k))) _ h),
  )

  once_in : (ks : List Constructor) → again_in is parts ks ≡ [] → AllByRecursion (λ (k : Constructor). calls_this k.first ≡ false → AssignsOnce is (constructor_does parts k)) ks
  once_in [] h = tt
  once_in (k ∷ more) h = once_behind (k ∷ more) h

  never_in : (ks : List Constructor) → again_in is parts ks ≡ [] → AllByRecursion (λ (k : Constructor). calls_this k.first ≡ true → AssignsNever is (constructor_does parts k)) ks
  never_in [] h = tt
  never_in (k ∷ more) h = never_behind (k ∷ more) h

  once_by_parts : (ks : List Constructor) → again_in is parts ks ≡ [] → ks ≡ [] → AssignsOnce is parts
  once_by_parts [] h q = once _ is (untold AssignedAgain _ h)
  once_by_parts (k ∷ more) h q = cc

  never_in_functions : (xs : List KotlinAct) → again_in_functions is xs ≡ [] → AllByRecursion (AssignsNever is) xs
  never_in_functions [] h = tt
  never_in_functions (x ∷ more) h = (never x is (untold AssignedAgain _ (left _ (again_in_functions is more) h)), never_in_functions more (right (told AssignedAgain (assigned_again is false x)) _ h))

module _ (own : List ℕ → Variable) (members : List Bare) (others : List KotlinAct) (d : Declaration) (h : property_faults own members others d ≡ []) where
  abbrev is : Variable → Bool
  is = same_variable (own d.name)

  abbrev parts : KotlinAct
  parts = initializers own members

  abbrev ks : List Constructor
  ks = constructors members

  nothing_missing : missing_in is d parts ks ≡ []
  nothing_missing = left _ (if d.is_val then again_in is parts ks ++ again_in_functions is (functions members ++ others) else []) h

  nothing_again : d.is_val ≡ true → again_in is parts ks ++ again_in_functions is (functions members ++ others) ≡ []
  nothing_again v = where_true d.is_val _ v (right (missing_in is d parts ks) _ h)

  pub assigned : AllByRecursion (λ (k : Constructor). calls_this k.first ≡ false → IsAssigned is (constructor_does parts k)) ks
  assigned = assigned_in is d parts ks nothing_missing

  pub assigned_bare : ks ≡ [] → IsAssigned is parts
  assigned_bare q = assigned_by_parts is d parts ks nothing_missing q

  pub once_each : d.is_val ≡ true → AllByRecursion (λ (k : Constructor). calls_this k.first ≡ false → AssignsOnce is (constructor_does parts k)) ks
  once_each v = once_in is parts ks (left _ (again_in_functions is (functions members ++ others)) (nothing_again v))

  pub never_behind_this : d.is_val ≡ true → AllByRecursion (λ (k : Constructor). calls_this k.first ≡ true → AssignsNever is (constructor_does parts k)) ks
  never_behind_this v = never_in is parts ks (left _ (again_in_functions is (functions members ++ others)) (nothing_again v))

  pub once_bare : d.is_val ≡ true → ks ≡ [] → AssignsOnce is parts
  once_bare v q = once_by_parts is parts ks (left _ (again_in_functions is (functions members ++ others)) (nothing_again v)) q

  pub never_elsewhere : d.is_val ≡ true → AllByRecursion (AssignsNever is) (functions members ++ others)
  never_elsewhere v = never_in_functions is parts (functions members ++ others) (right (again_in is parts ks) _ (nothing_again v))

-- ---- classes

each_member : (xs : List Bare) → members_faults xs ≡ [] → AllByRecursion (λ (m : Bare). member_faults m ≡ []) xs
each_member [] h = tt
each_member (x ∷ more) h = (left (member_faults x) _ h, each_member more (right (member_faults x) _ h))

each_property : (own : List ℕ → Variable) (members : List Bare) (others : List KotlinAct) (ds : List Declaration) → properties_faults own members others ds ≡ [] → AllByRecursion (λ (d : Declaration). property_faults own members others d ≡ []) ds
each_property own members others [] h = tt
each_property own members others (d ∷ more) h = (left (property_faults own members others d) _ h, each_property own members others more (right (property_faults own members others d) _ h))

each_companion : (class : List ℕ) (others : List KotlinAct) (xs : List (List KMember)) → companions_faults class others xs ≡ [] → AllByRecursion (λ (ms : List KMember). companion_faults class others (map bare ms) ≡ []) xs
each_companion class others [] h = tt
each_companion class others (x ∷ more) h = (left (companion_faults class others (map bare x)) _ h, each_companion class others more (right (companion_faults class others (map bare x)) _ h))

module _ (x : KClass) (h : class_faults x ≡ []) where
  abbrev bares : List Bare
  bares = map bare x.members

  behind_properties : members_faults bares ++ companions_faults x.name.name (object_texts bares) (companions bares) ≡ []
  unfolding class_faults
  behind_properties = right (properties_faults OfThis bares [] (blank_properties bares)) _ h

  pub members_quiet : AllByRecursion (λ (m : Bare). member_faults m ≡ []) bares
  members_quiet = each_member bares (left _ _ behind_properties)

  pub properties_quiet : AllByRecursion (λ (d : Declaration). property_faults OfThis bares [] d ≡ []) (blank_properties bares)
  unfolding class_faults
  properties_quiet = each_property OfThis bares [] (blank_properties bares) (left _ (members_faults bares ++ companions_faults x.name.name (object_texts bares) (companions bares)) h)

  pub companions_quiet : AllByRecursion (λ (ms : List KMember). companion_faults x.name.name (object_texts bares) (map bare ms) ≡ []) (companions bares)
  companions_quiet = each_companion x.name.name (object_texts bares) (companions bares) (right (members_faults bares) _ behind_properties)
