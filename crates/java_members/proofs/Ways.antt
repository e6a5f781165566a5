-- What is found is what a class declares or inherits.
use Rattle.std.proofs.Common.{◌≡◌, ◌⊎◌, inl, inr, ℕ, zero, suc, ◌≤◌, Bool, true, false, ◌&&◌, ◌||◌, not, List, [], ◌∷◌, Option, Some, None, refl, ap, sym, subst, ◌∙◌}
use Rattle.std.specs.Prelude.{slice_get}
use Rattle.std.specs.List.{filter}
use Rattle.std.specs.Str.{bytes_eq}
use Rattle.std.proofs.lemmas.Slice.Eq.{bytes_eq-Decides}
use Rattle.java_members.specs.declared.classes.Class.{Class}
use Rattle.java_members.specs.declared.classes.Member.{Member}
use Rattle.java_members.specs.declared.classes.Sort.{Sort}
use Rattle.java_members.specs.declared.walks.Reached.{Reached}
use Rattle.java_members.specs.declared.inheritance.Found.{Found}
use Rattle.java_members.specs.Members.{IsIn, HasMember, Own, Inherited, named, hides, is_open, is_of_package, stays, passes, is_same_package, home_is, found, own_by, inherited_by, inherited, members, above}
use Rattle.java_members.proofs.Lists.{in_left, in_right, in_split, in_map, map_in, in_filter, filter_in}
use Rattle.java_members.proofs.Levels.{false_true, at, Up, Way, Start, Further, above_complete, above_way}

-- ---- the test of what passes, in truth values

abbrev test : Bool → Bool → Bool → Bool → Bool
test stays shown of_package same = not stays && (shown || (of_package && same))

more : (s o k p q : Bool) → (p ≡ true → q ≡ true) → test s o k p ≡ true → test s o k q ≡ true
more true o k p q f h = absurd (false_true h)
more false true k p q f h = refl
more false false false p q f h = absurd (false_true h)
more false false true p q f h = f h

near_or_open : (s o k p : Bool) → test s o k p ≡ true → (o ≡ true) ⊎ (p ≡ true)
near_or_open true o k p h = absurd (false_true h)
near_or_open false true k p h = inl refl
near_or_open false false false p h = absurd (false_true h)
near_or_open false false true p h = inr h

passing : (s o k p q : Bool) → test s o k p ≡ true → (o ≡ true) ⊎ (q ≡ true) → test s o k q ≡ true
passing true o k p q h c = absurd (false_true h)
passing false true k p q h c = refl
passing false false k p q h (inl e) = absurd (false_true e)
passing false false false p q h (inr e) = absurd (false_true h)
passing false false true p q h (inr e) = e

both : (a b : Bool) → a ≡ true → b ≡ true → (a && b) ≡ true
both a b ea eb = rw ea eb

fst : (a b : Bool) → (a && b) ≡ true → a ≡ true
fst true b h = refl
fst false b h = h

snd : (a b : Bool) → (a && b) ≡ true → b ≡ true
snd true b h = h
snd false b h = absurd (false_true h)

eq_refl : (xs : List ℕ) → bytes_eq xs xs ≡ true
eq_refl xs = (bytes_eq-Decides xs xs).1 refl

eq_trans : (xs ys zs : List ℕ) → bytes_eq xs ys ≡ true → bytes_eq ys zs ≡ true → bytes_eq xs zs ≡ true
eq_trans xs ys zs a b = rw ((bytes_eq-Decides xs ys).0 a) b

some_is : (x y : Class) → Some x ≡ Some y → x ≡ y
some_is x y e = cc

and_true : (a : Bool) → (true && a) ≡ (a && true)
and_true true = refl
and_true false = refl

and_assoc : (a b c : Bool) → ((a && b) && c) ≡ (a && (b && c))
and_assoc true b c = refl
and_assoc false b c = refl

home_of : (home : List ℕ) (o : Option Class) (class : Class) → o ≡ Some class → home_is home o ≡ bytes_eq home class.home
home_of home o class e = ap (home_is home) e

module _ (table : List Class) (sort : Sort) (name : List ℕ) where
  abbrev Has : ℕ → ℕ → ℕ → Member → Type 0
  Has = HasMember table sort name

  -- ---- what stands on a way up from a class is inherited

  lift : {c : ℕ} {declaring : Class} {member : Member} → slice_get table c ≡ Some declaring →
      (a k : ℕ) (r : Reached) (row : Class) (n : ℕ) → Way table sort name a k r → slice_get table r.class ≡ Some row → Has n r.class c member →
      passes sort (r.is_near && bytes_eq row.home declaring.home) declaring member ≡ true → (m : ℕ) × Has m a c member
  lift get_c a _ _ row n Start get has pass = (n, has)
  lift {c} {declaring} {member} get_c a (suc k) _ row n (Further {r = q} way (Up {class} {b} get_q shown up)) get has pass =
      let s : Bool = stays sort declaring member in
      let o : Bool = is_open member.access in
      let p : Bool = is_of_package member.access in
      let home : home_is class.home (slice_get table b) ≡ bytes_eq class.home row.home = home_of class.home (slice_get table b) row get in
      let flag : ((q.is_near && home_is class.home (slice_get table b)) && bytes_eq row.home declaring.home) ≡ true → (q.is_near && bytes_eq class.home declaring.home) ≡ true =
      λ h. (let l : (q.is_near && home_is class.home (slice_get table b)) ≡ true = fst _ (bytes_eq row.home declaring.home) h in
      let near : q.is_near ≡ true = fst q.is_near _ l in
      let one : bytes_eq class.home row.home ≡ true = sym home ∙ snd q.is_near _ l in
      let two : bytes_eq row.home declaring.home ≡ true = snd (q.is_near && home_is class.home (slice_get table b)) _ h in
      both q.is_near (bytes_eq class.home declaring.home) near (eq_trans class.home row.home declaring.home one two)) in
      let pass_q : passes sort (q.is_near && bytes_eq class.home declaring.home) declaring member ≡ true =
      more s o p ((q.is_near && home_is class.home (slice_get table b)) && bytes_eq row.home declaring.home) (q.is_near && bytes_eq class.home declaring.home) flag pass in
      let pass_here : passes sort (is_same_package class declaring) declaring member ≡ true =
      more s o p (q.is_near && bytes_eq class.home declaring.home) (bytes_eq class.home declaring.home) (λ h. snd q.is_near (bytes_eq class.home declaring.home) h) pass_q in
      lift get_c a k q class (suc n) way get_q (Inherited get_q shown up has get_c pass_here) pass_q

  inherited_sound : (a steps : ℕ) (rs : List Reached) (x : Found) → ((r : Reached) → IsIn r rs → (k : ℕ) × Way table sort name a k r) → IsIn x (inherited table sort name rs) →
      (k : ℕ) × (member : Member) × Has k a x.class member × (x ≡ found x.class member)
  inherited_sound a steps [] x ways h = absurd h
  inherited_sound a steps (r ∷ rs) x ways h =
      elim (in_split x (inherited_by sort name r (slice_get table r.class)) (inherited table sort name rs) h) [
        | inr i ↦ inherited_sound a steps rs x (λ q j. ways q (inr j)) i
        | inl i ↦
            ((elim (slice_get table r.class)
            as (λ o. slice_get table r.class ≡ o → IsIn x (inherited_by sort name r o) → (k : ℕ) × (member : Member) × Has k a x.class member × (x ≡ found x.class member)) [
              | None ↦ λ e g. absurd g
              | Some class ↦ λ e g.
                  (let p : (m : Member) × (IsIn m (filter (passes sort r.is_near class) (named sort name class)) × (x ≡ found r.class m)) =
                  map_in (found r.class) x (filter (passes sort r.is_near class) (named sort name class)) g in
                  let q : IsIn p.0 (named sort name class) × (passes sort r.is_near class p.0 ≡ true) = filter_in (passes sort r.is_near class) p.0 (named sort name class) p.1.0 in
                  let w : (k : ℕ) × Way table sort name a k r = ways r (inl refl) in
                  let same : bytes_eq class.home class.home ≡ true = eq_refl class.home in
                  let pass : passes sort (r.is_near && bytes_eq class.home class.home) class p.0 ≡ true =
                  more (stays sort class p.0) (is_open p.0.access) (is_of_package p.0.access) r.is_near (r.is_near && bytes_eq class.home class.home)
                  (λ n. both r.is_near (bytes_eq class.home class.home) n same) q.1 in
                  let l : (m : ℕ) × Has m a r.class p.0 = lift e a w.0 r class zero w.1 e (Own e q.0) pass in
                  let is : x.class ≡ r.class = ap (λ (z : Found). z.class) p.1.1 in
                  (l.0, p.0, subst (λ z. Has l.0 a z p.0) (sym is) l.1, subst (λ z. x ≡ found z p.0) (sym is) p.1.1))
            ]) refl i)
      ]

  pub sound : (steps a : ℕ) (x : Found) → IsIn x (members table sort name steps a) → (k : ℕ) × (member : Member) × Has k a x.class member × (x ≡ found x.class member)
  sound steps a x h =
      elim (in_split x (own_by sort name a (slice_get table a)) (inherited table sort name (above table sort name steps a)) h) [
        | inr i ↦ inherited_sound a steps (above table sort name steps a) x (λ r j. above_way table sort name a steps r j) i
        | inl i ↦
            ((elim (slice_get table a)
            as (λ o. slice_get table a ≡ o → IsIn x (own_by sort name a o) → (k : ℕ) × (member : Member) × Has k a x.class member × (x ≡ found x.class member)) [
              | None ↦ λ e g. absurd g
              | Some class ↦ λ e g.
                  (let p : (m : Member) × (IsIn m (named sort name class) × (x ≡ found a m)) = map_in (found a) x (named sort name class) g in
                  let is : x.class ≡ a = ap (λ (z : Found). z.class) p.1.1 in
                  (zero, p.0, subst (λ z. Has zero a z p.0) (sym is) (Own e p.1.0), subst (λ z. x ≡ found z p.0) (sym is) p.1.1))
            ]) refl i)
      ]

  -- ---- what a class inherits stands on a way up

  -- a step at the beginning of a way
  first : (a b : ℕ) (class : Class) → slice_get table a ≡ Some class → hides sort name class ≡ false → IsIn b class.above → (k : ℕ) (r : Reached) → Way table sort name b k r →
      Way table sort name a (suc k) (at r.class (home_is class.home (slice_get table b) && r.is_near))
  first a b class get shown up _ _ Start = subst (λ z. Way table sort name a 1 (at b z)) (and_true _) (Further Start (Up get shown up))
  first a b class get shown up (suc k) _ (Further {r = q} way (Up {class = other} {b = c} get_q shown_q up_q)) =
      subst (λ z. Way table sort name a (suc (suc k)) (at c z)) (and_assoc (home_is class.home (slice_get table b)) q.is_near (home_is other.home (slice_get table c)))
      (Further (first a b class get shown up k q way) (Up get_q shown_q up_q))

  inside : (k a c : ℕ) (row declaring : Class) (member : Member) → Has k a c member → slice_get table a ≡ Some row → slice_get table c ≡ Some declaring →
      (is_open member.access ≡ true) ⊎ (bytes_eq row.home declaring.home ≡ true)
  inside _ a _ row declaring member (Own get is) get_a get_c =
      let e : Some row ≡ Some declaring = sym get_a ∙ get_c in
      let same : row ≡ declaring = some_is row declaring e in
      inr (subst (λ (z : Class). bytes_eq row.home z.home ≡ true) same (eq_refl row.home))
  inside _ a c row declaring member (Inherited {class} {declaring = other} get shown up has get_d pass) get_a get_c =
      let one : class ≡ row = some_is class row (sym get ∙ get_a) in
      let two : other ≡ declaring = some_is other declaring (sym get_d ∙ get_c) in
      let r : (is_open member.access ≡ true) ⊎ (bytes_eq class.home other.home ≡ true) =
      near_or_open (stays sort other member) (is_open member.access) (is_of_package member.access) (bytes_eq class.home other.home) pass in
      elim r [
        | inl e ↦ inl e
        | inr e ↦ inr (subst (λ (z : Class). bytes_eq row.home z.home ≡ true) two (subst (λ (z : Class). bytes_eq z.home other.home ≡ true) one e))
      ]

  row_of : (k a c : ℕ) (member : Member) → Has k a c member → (row : Class) × (slice_get table a ≡ Some row)
  row_of _ a _ member (Own {class} get is) = (class, get)
  row_of _ a c member (Inherited {class} get shown up has get_d pass) = (class, get)

  way_of : (k a c : ℕ) (declaring : Class) (member : Member) → Has k a c member → slice_get table c ≡ Some declaring →
      (near : Bool) × Way table sort name a k (at c near) × ((is_open member.access ≡ true) ⊎ (near ≡ true))
  way_of _ a _ declaring member (Own get is) get_c = (true, Start, inr refl)
  way_of (suc k) a c declaring member (Inherited {b} {class} {declaring = other} get shown up has get_d pass) get_c =
      let w : (near : Bool) × Way table sort name b k (at c near) × ((is_open member.access ≡ true) ⊎ (near ≡ true)) = way_of k b c declaring member has get_c in
      let row : (row : Class) × (slice_get table b ≡ Some row) = row_of k b c member has in
      let other_is : other ≡ declaring = some_is other declaring (sym get_d ∙ get_c) in
      let here : (is_open member.access ≡ true) ⊎ (bytes_eq class.home other.home ≡ true) =
      near_or_open (stays sort other member) (is_open member.access) (is_of_package member.access) (bytes_eq class.home other.home) pass in
      let there : (is_open member.access ≡ true) ⊎ (bytes_eq row.0.home declaring.home ≡ true) = inside k b c row.0 declaring member has row.1 get_c in (
        home_is class.home (slice_get table b) && w.0,
        first a b class get shown up k (at c w.0) w.1,
        (elim here [
          | inl e ↦ inl e
          | inr e ↦ elim there [
            | inl f ↦ inl f
            | inr f ↦ elim w.2 [
              | inl g ↦ inl g
              | inr g ↦ (let to_c : bytes_eq class.home declaring.home ≡ true = subst (λ (z : Class). bytes_eq class.home z.home ≡ true) other_is e in
                  let to_b : class.home ≡ row.0.home = (bytes_eq-Decides class.home declaring.home).0 to_c ∙ sym ((bytes_eq-Decides row.0.home declaring.home).0 f) in
                  let near : home_is class.home (slice_get table b) ≡ true = home_of class.home (slice_get table b) row.0 row.1 ∙ (bytes_eq-Decides class.home row.0.home).1 to_b in
                  inr (both (home_is class.home (slice_get table b)) w.0 near g))
            ]
          ]
        ]),
      )

  inherited_has : (rs : List Reached) (r : Reached) (class : Class) (member : Member) → IsIn r rs → slice_get table r.class ≡ Some class →
      IsIn member (named sort name class) → passes sort r.is_near class member ≡ true → IsIn (found r.class member) (inherited table sort name rs)
  inherited_has [] r class member h get is pass = absurd h
  inherited_has (q ∷ rs) r class member (inl e) get is pass =
      let g : slice_get table q.class ≡ Some class = sym (ap (λ (z : Reached). slice_get table z.class) e) ∙ get in
      let near : passes sort q.is_near class member ≡ true = sym (ap (λ (z : Reached). passes sort z.is_near class member) e) ∙ pass in
      let i : IsIn (found q.class member) (inherited_by sort name q (slice_get table q.class)) =
      rw g (in_map (found q.class) member (filter (passes sort q.is_near class) (named sort name class)) (in_filter (passes sort q.is_near class) member (named sort name class) is near)) in
      let j : IsIn (found r.class member) (inherited_by sort name q (slice_get table q.class)) = subst (λ (z : Reached). IsIn (found z.class member) (inherited_by sort name q (slice_get table q.class))) (sym e) i in
      in_left (found r.class member) (inherited_by sort name q (slice_get table q.class)) (inherited table sort name rs) j
  inherited_has (q ∷ rs) r class member (inr h) get is pass =
      in_right (found r.class member) (inherited_by sort name q (slice_get table q.class)) (inherited table sort name rs) (inherited_has rs r class member h get is pass)

  declares : (k a c : ℕ) (declaring : Class) (member : Member) → Has k a c member → slice_get table c ≡ Some declaring → IsIn member (named sort name declaring)
  declares _ a _ declaring member (Own {class} get is) get_c = subst (λ z. IsIn member (named sort name z)) (some_is class declaring (sym get ∙ get_c)) is
  declares (suc k) a c declaring member (Inherited {b} get shown up has get_d pass) get_c = declares k b c declaring member has get_c

  pub complete : (steps k a c : ℕ) (member : Member) → Has k a c member → k ≤ steps → IsIn (found c member) (members table sort name steps a)
  complete steps _ a _ member (Own {class} get is) few =
      in_left (found a member) (own_by sort name a (slice_get table a)) (inherited table sort name (above table sort name steps a))
      (rw get (in_map (found a) member (named sort name class) is))
  complete steps (suc k) a c member (Inherited {b} {class} {declaring} get shown up has get_d pass) few =
      let whole : Has (suc k) a c member = Inherited get shown up has get_d pass in
      let w : (near : Bool) × Way table sort name a (suc k) (at c near) × ((is_open member.access ≡ true) ⊎ (near ≡ true)) = way_of (suc k) a c declaring member whole get_d in
      let near : passes sort w.0 declaring member ≡ true =
      passing (stays sort declaring member) (is_open member.access) (is_of_package member.access) (bytes_eq class.home declaring.home) w.0 pass w.2 in
      in_right (found c member) (own_by sort name a (slice_get table a)) (inherited table sort name (above table sort name steps a))
      (inherited_has (above table sort name steps a) (at c w.0) declaring member (above_complete table sort name a steps k (at c w.0) w.1 few) get_d (declares k b c declaring member has get_d) near)
