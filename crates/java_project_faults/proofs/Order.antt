-- The list is in the order of its faults.
use Rattle.std.proofs.Common.{◌≡◌, ◌≢◌, ◌⊎◌, inl, inr, ℕ, ◌+◌, Bool, true, false, List, [], ◌∷◌, ◌++◌, map, length, Option, Some, None, if◌then◌else◌, refl, sym, ap, subst, ◌∙◌}
use Rattle.std.specs.List.{AllByRecursion}
use Rattle.std.specs.Ordering.{nat_cmp, ordering_then, ordering_reverse, is_gt}
use Rattle.std.specs.Cmp.{IsTotalOrder}
use Rattle.std.specs.Cmp.Lexicographic.{slice_cmp}
use Rattle.std.proofs.lemmas.Cmp.{nat_cmp_total, nat_list_cmp_total, on_total, then_total, upto, tied_itself}
use Rattle.std.specs.declared.cmp.Ordering.{Ordering}
use Rattle.std.specs.declared.cmp.Ordering.TheVariants.{Less, Equal, Greater}
use Rattle.j2k_base.specs.declared.places.Phase.{Phase}
use Rattle.j2k_base.specs.declared.places.Phase.TheVariants.{F, P}
use Rattle.j2k_base.specs.declared.places.Fault.{Fault}
use Rattle.judged.specs.Notes.{AreSame, IsAmong, IsFirst, NoneBefore, fault_cmp, faults_in, rank}
use Rattle.judged.proofs.LawsToCite.{has_first, one_first}
use Rattle.java_typed.specs.declared.types.TWritten.{TWritten}
use Rattle.java_typed.specs.declared.members.MemberRef.{MemberRef}
use Rattle.java_typed.specs.declared.units.TClass.{TClass}
use Rattle.java_typed.specs.declared.units.TUnit.{TUnit}
use Rattle.java_type_relations.specs.declared.heads.Heads.{Heads}
use Rattle.java_flow.specs.Units as flow
use Rattle.java_flow.specs.Units.{FlowFault}
use Rattle.java_profile.specs.Faults as rules
use Rattle.java_project_faults.specs.Order.{IsInOrder, first_of, in_order, noted, placed}
use Rattle.java_project_faults.specs.Project as p
use Rattle.java_project_faults.specs.Project.{flow_fault, flow_from, flow_told, rule_fault}

-- ---- lists

module _ {A : Type 0} (Q : A → Type 0) where
  pub all_left : (xs ys : List A) → AllByRecursion Q (xs ++ ys) → AllByRecursion Q xs
  all_left [] ys h = tt
  all_left (x ∷ xs) ys h = (h.0, all_left xs ys h.1)

  pub all_right : (xs ys : List A) → AllByRecursion Q (xs ++ ys) → AllByRecursion Q ys
  all_right [] ys h = h
  all_right (x ∷ xs) ys h = all_right xs ys h.1

  pub all_both : (xs ys : List A) → AllByRecursion Q xs → AllByRecursion Q ys → AllByRecursion Q (xs ++ ys)
  all_both [] ys h k = k
  all_both (x ∷ xs) ys h k = (h.0, all_both xs ys h.1 k)

-- ---- the order is total

fault_total : IsTotalOrder fault_cmp
fault_total =
    then_total (on_total (λ x. rank x.phase) nat_cmp_total)
    (then_total (on_total (λ x. x.place.path) nat_list_cmp_total)
    (then_total (on_total (λ x. x.place.offset) nat_cmp_total) (on_total (λ x. x.number) nat_cmp_total)))

abbrev Le : Fault → Fault → Type 0
Le a b = is_gt (fault_cmp a b) ≡ false

turned_by : (o : Ordering) → is_gt o ≡ true → is_gt (ordering_reverse o) ≡ false
turned_by Less e = cc
turned_by Equal e = cc
turned_by Greater e = refl

turned : (a b : Fault) → is_gt (fault_cmp b a) ≡ true → Le a b
turned a b e = ap is_gt (fault_total.antisymm a b) ∙ turned_by (fault_cmp b a) e

not_before_by : (o : Ordering) → is_gt (ordering_reverse o) ≡ false → o ≢ Less
not_before_by Less e = λ h. cc
not_before_by Equal e = λ h. cc
not_before_by Greater e = λ h. cc

not_before : (a b : Fault) → Le a b → fault_cmp b a ≢ Less
not_before a b e = not_before_by (fault_cmp b a) (sym (ap is_gt (fault_total.antisymm a b)) ∙ e)

abbrev AllLe : Fault → List Fault → Type 0
AllLe x ys = AllByRecursion (Le x) ys

abbrev Ordered : List Fault → Type 0
Ordered [] = Unit {0}
Ordered (x ∷ xs) = AllLe x xs × Ordered xs

all_upto : (x y : Fault) (ys : List Fault) → Le x y → AllLe y ys → AllLe x ys
all_upto x y [] h k = tt
all_upto x y (z ∷ ys) h k = (upto fault_total x y z h k.0, all_upto x y ys h k.1)

-- ---- what is placed

module _ (Q : Fault → Type 0) where
  placed_all_by : (b : Bool) (x y : Fault) (ys : List Fault) → Q x → Q y → AllByRecursion Q ys → AllByRecursion Q (placed x ys) → AllByRecursion Q (if b then y ∷ placed x ys else x ∷ y ∷ ys)
  placed_all_by true x y ys h k l m = (k, m)
  placed_all_by false x y ys h k l m = (h, (k, l))

  placed_all : (x : Fault) (ys : List Fault) → Q x → AllByRecursion Q ys → AllByRecursion Q (placed x ys)
  placed_all x [] h k = (h, tt)
  placed_all x (y ∷ ys) h k = placed_all_by (is_gt (fault_cmp x y)) x y ys h k.0 k.1 (placed_all x ys h k.1)

  pub order_all : (xs : List Fault) → AllByRecursion Q xs → AllByRecursion Q (in_order xs)
  order_all [] h = tt
  order_all (x ∷ xs) h = placed_all x (in_order xs) h.0 (order_all xs h.1)

  from_placed_by : (b : Bool) (x y : Fault) (ys : List Fault) → (AllByRecursion Q (placed x ys) → Q x × AllByRecursion Q ys) → AllByRecursion Q (if b then y ∷ placed x ys else x ∷ y ∷ ys) → Q x × AllByRecursion Q (y ∷ ys)
  from_placed_by true x y ys go h = let r = go h.1 in (r.0, (h.0, r.1))
  from_placed_by false x y ys go h = (h.0, (h.1.0, h.1.1))

  from_placed : (x : Fault) (ys : List Fault) → AllByRecursion Q (placed x ys) → Q x × AllByRecursion Q ys
  from_placed x [] h = (h.0, tt)
  from_placed x (y ∷ ys) h = from_placed_by (is_gt (fault_cmp x y)) x y ys (from_placed x ys) h

  pub from_order : (xs : List Fault) → AllByRecursion Q (in_order xs) → AllByRecursion Q xs
  from_order [] h = tt
  from_order (x ∷ xs) h = let r = from_placed x (in_order xs) h in (r.0, from_order xs r.1)

  among_all : (x : Fault) (xs : List Fault) → IsAmong x xs → AllByRecursion Q xs → Q x
  among_all x [] i h = absurd i
  among_all x (y ∷ xs) (inl e) h = subst Q (sym e) h.0
  among_all x (y ∷ xs) (inr i) h = among_all x xs i h.1

placed_by : (x y : Fault) (ys : List Fault) (b : Bool) → is_gt (fault_cmp x y) ≡ b → AllLe y ys → Ordered ys → Ordered (placed x ys) → Ordered (if b then y ∷ placed x ys else x ∷ y ∷ ys)
placed_by x y ys true e h o k = (placed_all (Le y) x ys (turned y x e) h, k)
placed_by x y ys false e h o k = ((e, all_upto x y ys e h), (h, o))

placed_ordered : (x : Fault) (ys : List Fault) → Ordered ys → Ordered (placed x ys)
placed_ordered x [] o = (tt, tt)
placed_ordered x (y ∷ ys) o = placed_by x y ys (is_gt (fault_cmp x y)) refl o.0 o.1 (placed_ordered x ys o.1)

ordered : (xs : List Fault) → Ordered (in_order xs)
ordered [] = tt
ordered (x ∷ xs) = placed_ordered x (in_order xs) (ordered xs)

joined : (xs ys : List Fault) → Ordered xs → Ordered ys → AllByRecursion (λ x. AllLe x ys) xs → Ordered (xs ++ ys)
joined [] ys o k h = k
joined (x ∷ xs) ys o k h = (all_both (Le x) xs ys o.0 h.0, joined xs ys o.1 k h.1)

none_before : (x : Fault) (xs : List Fault) → AllLe x xs → NoneBefore x xs
none_before x [] h = tt
none_before x (y ∷ xs) h = (not_before x y h.0, none_before x xs h.1)

is_in_order : (xs : List Fault) → Ordered xs → IsInOrder xs
is_in_order [] o = tt
is_in_order (x ∷ xs) o = (none_before x xs o.0, is_in_order xs o.1)

-- ---- a phase after another

abbrev IsFlow : Fault → Type 0
IsFlow x = x.phase ≡ F

abbrev IsRule : Fault → Type 0
IsRule x = x.phase ≡ P

abbrev further : Fault → Fault → Ordering
further a b = ordering_then (slice_cmp nat_cmp a.place.path b.place.path) (ordering_then (nat_cmp a.place.offset b.place.offset) (nat_cmp a.number b.number))

less : (a b : Fault) → IsFlow a → IsRule b → fault_cmp a b ≡ Less
less a b h k =
    ap (λ (q : Phase). ordering_then (nat_cmp (rank q) (rank b.phase)) (further a b)) h ∙
    ap (λ (q : Phase). ordering_then (nat_cmp (rank F) (rank q)) (further a b)) k

all_less : (a : Fault) (ys : List Fault) → IsFlow a → AllByRecursion IsRule ys → AllLe a ys
all_less a [] h k = tt
all_less a (y ∷ ys) h k = (ap is_gt (less a y h k.0), all_less a ys h k.1)

each_less : (xs ys : List Fault) → AllByRecursion IsFlow xs → AllByRecursion IsRule ys → AllByRecursion (λ x. AllLe x ys) xs
each_less [] ys h k = tt
each_less (x ∷ xs) ys h k = (all_less x ys h.0 k, each_less xs ys h.1 k)

map_flow : (path : List ℕ) (xs : List FlowFault) → AllByRecursion IsFlow (map (flow_fault path) xs)
map_flow path [] = tt
map_flow path (x ∷ xs) = (refl, map_flow path xs)

all_flow : (us : List TUnit) (xs : List (List FlowFault)) → AllByRecursion IsFlow (flow_from us xs)
all_flow [] xs = tt
all_flow (u ∷ us) [] = tt
all_flow (u ∷ us) (x ∷ xs) = all_both IsFlow (map (flow_fault u.path) x) (flow_from us xs) (map_flow u.path x) (all_flow us xs)

map_rules : (path : List ℕ) (xs : List rules.Fault) → AllByRecursion IsRule (map (rule_fault path) xs)
map_rules path [] = tt
map_rules path (x ∷ xs) = (refl, map_rules path xs)

noted_same : (xs : List Fault) → faults_in (noted xs) ≡ xs
noted_same [] = refl
noted_same (x ∷ xs) = ap (λ (z : List Fault). x ∷ z) (noted_same xs)

no_cons : (x : Fault) (xs : List Fault) → (x ∷ xs) ≢ []
no_cons x xs h = cc

first_in : (xs : List Fault) (x : Fault) → Ordered xs → first_of xs ≡ Some x → IsFirst (noted xs) x
first_in [] x o e = cc
first_in (y ∷ xs) x o e = subst (λ (z : Fault). IsFirst (noted (y ∷ xs)) z) (some_same y x e) (record {
  among = inl refl;
  first = (not_before y y (ap is_gt (tied_itself fault_total y)), subst (NoneBefore y) (sym (noted_same xs)) (none_before y xs o.0));
})
  where
    some_same : (a b : Fault) → Some a ≡ Some b → a ≡ b
    some_same a b e = cc

either_in : (xs : List Fault) → Ordered xs → (xs ≡ []) ⊎ ((x : Fault) × IsFirst (noted xs) x)
either_in [] o = inl refl
either_in (x ∷ xs) o = inr (x, first_in (x ∷ xs) x o refl)

module _ (is_accessor : MemberRef → Bool) (heads : Heads) (supers : ℕ → List TWritten) (units : List TUnit) where
  all_classes : (path : List ℕ) (number : ℕ) (cs : List TClass) → AllByRecursion IsRule (p.classes_told is_accessor heads supers units path number cs)
  all_classes path number [] = tt
  all_classes path number (c ∷ cs) = all_both IsRule (map (rule_fault path) (p.class_rules is_accessor heads supers units number c)) (p.classes_told is_accessor heads supers units path (ℕ.suc number) cs) (map_rules path (p.class_rules is_accessor heads supers units number c)) (all_classes path (ℕ.suc number) cs)

  all_rules : (number : ℕ) (us : List TUnit) → AllByRecursion IsRule (p.units_told is_accessor heads supers units number us)
  all_rules number [] = tt
  all_rules number (u ∷ us) = all_both IsRule (p.classes_told is_accessor heads supers units u.path number u.classes) (p.units_told is_accessor heads supers units (number + length u.classes) us) (all_classes u.path number u.classes) (all_rules (number + length u.classes) us)

  all_ordered : Ordered (p.project_faults is_accessor heads supers units)
  all_ordered =
      joined (in_order (flow_told units)) (in_order (p.rules_told is_accessor heads supers units)) (ordered (flow_told units)) (ordered (p.rules_told is_accessor heads supers units))
      (each_less (in_order (flow_told units)) (in_order (p.rules_told is_accessor heads supers units))
      (order_all IsFlow (flow_told units) (all_flow units (flow.project_faults units))) (order_all IsRule (p.rules_told is_accessor heads supers units) (all_rules 0 units)))

  pub order : IsInOrder (p.project_faults is_accessor heads supers units)
  order = is_in_order (p.project_faults is_accessor heads supers units) all_ordered

  pub flow_first : (a b : Fault) → IsAmong a (flow_told units) → IsAmong b (p.rules_told is_accessor heads supers units) → fault_cmp a b ≡ Less
  flow_first a b i j = less a b (among_all IsFlow a (flow_told units) i (all_flow units (flow.project_faults units))) (among_all IsRule b (p.rules_told is_accessor heads supers units) j (all_rules 0 units))

  pub either : (p.project_faults is_accessor heads supers units ≡ []) ⊎ ((x : Fault) × p.IsFirstFault is_accessor heads supers units x)
  either = either_in (p.project_faults is_accessor heads supers units) all_ordered

  pub never_both : (x : Fault) → p.project_faults is_accessor heads supers units ≡ [] → p.IsFirstFault is_accessor heads supers units x → ⊥
  never_both x e h = subst (IsAmong x) (noted_same (p.project_faults is_accessor heads supers units) ∙ e) h.among

  pub one : (a b : Fault) → p.IsFirstFault is_accessor heads supers units a → p.IsFirstFault is_accessor heads supers units b → AreSame a b
  one a b h k = one_first (noted (p.project_faults is_accessor heads supers units)) a b h k

  pub first : (x : Fault) → p.first_fault is_accessor heads supers units ≡ Some x → p.IsFirstFault is_accessor heads supers units x
  first x e = first_in (p.project_faults is_accessor heads supers units) x all_ordered e
