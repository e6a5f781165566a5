-- Each table is made of the declarations.
use Rattle.std.proofs.Common.{◌≡◌, ℕ, ◌+◌, List, [], ◌∷◌, ◌++◌, Option, Some, None, suc, zero, map, length, slice_get, option_map, refl, ap, sym, ◌∙◌, arith, length-append, append_assoc, append-nil}
use Rattle.std.specs.List.{enumerate_from}
use Rattle.std.proofs.lemmas.Option.{none-some}
use Rattle.java_unit_grammar.specs.declared.statements.JBody.{JBody}
use Rattle.java_unit_grammar.specs.declared.statements.JCase.{JCase}
use Rattle.java_unit_grammar.specs.declared.statements.JCaseGroup.{JCaseGroup}
use Rattle.java_unit_grammar.specs.declared.statements.JCatch.{JCatch}
use Rattle.java_unit_grammar.specs.declared.statements.JMember.{JMember, out-JMember}
use Rattle.java_unit_grammar.specs.declared.statements.JStatement.{JStatement}
use Rattle.java_unit_grammar.specs.declared.statements.JBody.TheOpen.{JMember-F}
use Rattle.java_unit_grammar.specs.declared.units.JUnit.{JUnit}
use Rattle.java_classes.specs.Classes.{class_rows, each_rows, package_name, rows_by, rows_from, type_rows, unit_rows}
use Rattle.java_class_names.specs.Places.{class_places, place_by, place_in, places_from, units_from}
use Rattle.java_type_names.specs.declared.classes.World.{World}
use Rattle.java_type_names.specs.declared.scopes.FileScope.{FileScope}
use Rattle.java_type_names.specs.Imports.{file_scope}
use Rattle.java_supertypes.specs.declared.heads.Heading.{Heading}
use Rattle.java_supertypes.specs.Supertypes.{heading_by, headings, headings_from, type_heading, types_headings, unit_headings}
use Rattle.java_members.specs.declared.classes.Class.{Class}
use Rattle.java_member_tables.specs.Library.{library_classes}
use Rattle.java_member_tables.specs.Tables.{class_table, with_by, with_type, with_types, with_units}
use Rattle.java_class_numbers.specs.Declarations.{Declaration, declarations, declared_by, declared_from, declared_in, files_from}
use Rattle.java_class_numbers.specs.Numbers.{AreScopes, class_of, heading_of, place_of, row_of}
use Rattle.java_class_numbers.proofs.Lists.{joined, map_long}

abbrev Form : Type 0
Form = JMember-F JBody JMember JStatement JCase JCaseGroup JCatch

-- ---- rows

row_by : (number : ℕ) (file : JUnit) (top : ℕ) (x : Form) → rows_by number file.path (package_name file.package) x ≡ map row_of (declared_by number file top x)
row_by number file top (JMember-F.Type head left constants bodies members right) = refl
row_by number file top (JMember-F.Declared h bodies end) = refl
row_by number file top (JMember-F.Bodied h left xs right) = refl

row_in : (number : ℕ) (file : JUnit) (top : ℕ) (x : JMember) → type_rows number file.path (package_name file.package) x ≡ map row_of (declared_in number file top x)
unfolding type_rows declared_in
row_in number file top x = row_by number file top (out-JMember x)

rows_in : (number : ℕ) (file : JUnit) (top : ℕ) (xs : List JMember) → each_rows number file.path (package_name file.package) xs ≡ map row_of (declared_from number file top xs)
rows_in number file top [] = refl
rows_in number file top (x ∷ xs) =
    joined row_of (type_rows number file.path (package_name file.package) x) (each_rows number file.path (package_name file.package) xs)
    (declared_in number file top x) (declared_from number file (top + 1) xs) (row_in number file top x) (rows_in number file (top + 1) xs)

rows_of : (number : ℕ) (units : List JUnit) → rows_from number units ≡ map row_of (files_from number units)
rows_of number [] = refl
rows_of number (x ∷ xs) =
    joined row_of (unit_rows number x) (rows_from (number + 1) xs) (declared_from number x 0 x.types) (files_from (number + 1) xs)
    (rows_in number x 0 x.types) (rows_of (number + 1) xs)

pub rows_are : (units : List JUnit) → class_rows units ≡ map row_of (declarations units)
rows_are units = rows_of 0 units

-- ---- places

place_form : (number : ℕ) (file : JUnit) (top : ℕ) (x : Form) → place_by number top x ≡ map place_of (declared_by number file top x)
place_form number file top (JMember-F.Type head left constants bodies members right) = refl
place_form number file top (JMember-F.Declared h bodies end) = refl
place_form number file top (JMember-F.Bodied h left xs right) = refl

place_at : (number : ℕ) (file : JUnit) (top : ℕ) (x : JMember) → place_in number top x ≡ map place_of (declared_in number file top x)
unfolding place_in declared_in
place_at number file top x = place_form number file top (out-JMember x)

places_in : (number : ℕ) (file : JUnit) (top : ℕ) (xs : List JMember) → places_from number top xs ≡ map place_of (declared_from number file top xs)
places_in number file top [] = refl
places_in number file top (x ∷ xs) =
    joined place_of (place_in number top x) (places_from number (top + 1) xs) (declared_in number file top x)
    (declared_from number file (top + 1) xs) (place_at number file top x) (places_in number file (top + 1) xs)

places_of : (number : ℕ) (units : List JUnit) → units_from number units ≡ map place_of (files_from number units)
places_of number [] = refl
places_of number (x ∷ xs) =
    joined place_of (places_from number 0 x.types) (units_from (number + 1) xs) (declared_from number x 0 x.types) (files_from (number + 1) xs)
    (places_in number x 0 x.types) (places_of (number + 1) xs)

pub places_are : (units : List JUnit) → class_places units ≡ map place_of (declarations units)
places_are units = places_of 0 units

-- ---- headings

module _ (world : World) where
  heading_form : (number : ℕ) (file : JUnit) (top : ℕ) (x : Form) → heading_by world (file_scope world number file) x ≡ map (heading_of world) (declared_by number file top x)
  heading_form number file top (JMember-F.Type head left constants bodies members right) = refl
  heading_form number file top (JMember-F.Declared h bodies end) = refl
  heading_form number file top (JMember-F.Bodied h left xs right) = refl

  heading_at : (number : ℕ) (file : JUnit) (top : ℕ) (x : JMember) → type_heading world (file_scope world number file) x ≡ map (heading_of world) (declared_in number file top x)
  unfolding type_heading declared_in
  heading_at number file top x = heading_form number file top (out-JMember x)

  headings_in : (number : ℕ) (file : JUnit) (top : ℕ) (xs : List JMember) → types_headings world (file_scope world number file) xs ≡ map (heading_of world) (declared_from number file top xs)
  headings_in number file top [] = refl
  headings_in number file top (x ∷ xs) =
      joined (heading_of world) (type_heading world (file_scope world number file) x) (types_headings world (file_scope world number file) xs)
      (declared_in number file top x) (declared_from number file (top + 1) xs) (heading_at number file top x) (headings_in number file (top + 1) xs)

  module _ (scopes : List FileScope) where
    abbrev Follow : ℕ → List JUnit → Type 0
    Follow number units = (i j : ℕ) (x : JUnit) → j ≡ number + i → slice_get units i ≡ Some x → slice_get scopes j ≡ Some (file_scope world j x)

    later : (number : ℕ) (x : JUnit) (xs : List JUnit) → Follow number (x ∷ xs) → Follow (number + 1) xs
    later number x xs h i j y e get = let k : j ≡ number + suc i = omega (arith, e) in h (suc i) j y k get

    headings_of : (number : ℕ) (units : List JUnit) → Follow number units → headings_from world scopes number units ≡ map (heading_of world) (files_from number units)
    headings_of number [] h = refl
    headings_of number (x ∷ xs) h =
        let k : number ≡ number + 0 = omega arith in
        let here : slice_get scopes number ≡ Some (file_scope world number x) = h 0 number x k refl in
        joined (heading_of world) (unit_headings world scopes (slice_get scopes number) x) (headings_from world scopes (number + 1) xs)
        (declared_from number x 0 x.types) (files_from (number + 1) xs)
        (ap (λ z. unit_headings world scopes z x) here ∙ headings_in number x 0 x.types) (headings_of (number + 1) xs (later number x xs h))

    pub headings_are : (units : List JUnit) → AreScopes world scopes units → headings world scopes units ≡ map (heading_of world) (declarations units)
    headings_are units h =
        headings_of 0 units
        (λ i j x e get. let k : i ≡ j = omega (arith, e) in h.each j x (ap (λ z. slice_get units z) (sym k) ∙ get))

-- ---- members

module _ (hs : List Heading) where
  abbrev classes : ℕ → List Declaration → List Class
  classes number xs = map (class_of hs) (enumerate_from number xs)

  pub classes_long : (number : ℕ) (xs : List Declaration) → length (map (class_of hs) (enumerate_from number xs)) ≡ length xs
  classes_long number [] = refl
  classes_long number (x ∷ xs) = ap suc (classes_long (number + 1) xs)

  classes_joined : (number : ℕ) (xs ys : List Declaration) → classes number (xs ++ ys) ≡ classes number xs ++ classes (number + length xs) ys
  classes_joined number [] ys = let e : number ≡ number + 0 = omega arith in ap (λ z. classes z ys) e
  classes_joined number (x ∷ xs) ys =
      let e : (number + 1) + length xs ≡ number + suc (length xs) = omega arith in
      ap (λ zs. class_of hs (number, x) ∷ zs) (classes_joined (number + 1) xs ys ∙ ap (λ z. classes (number + 1) xs ++ classes z ys) e)

  -- so many are in the table, and these behind it
  abbrev behind : List Class → List Declaration → List Class
  behind table xs = table ++ classes (length table) xs

  behind_long : (table : List Class) (xs : List Declaration) → length (behind table xs) ≡ length table + length xs
  behind_long table xs = length-append table (classes (length table) xs) ∙ ap (λ z. length table + z) (classes_long (length table) xs)

  behind_joined : (table : List Class) (xs ys : List Declaration) → behind (behind table xs) ys ≡ behind table (xs ++ ys)
  behind_joined table xs ys =
      append_assoc table (classes (length table) xs) (classes (length (behind table xs)) ys)
      ∙ ap (λ z. table ++ (classes (length table) xs ++ classes z ys)) (behind_long table xs)
      ∙ ap (λ zs. table ++ zs) (sym (classes_joined (length table) xs ys))

  with_form : (number : ℕ) (file : JUnit) (top : ℕ) (table : List Class) (x : Form) → with_by hs (package_name file.package) table x ≡ behind table (declared_by number file top x)
  with_form number file top table (JMember-F.Type head left constants bodies members right) = refl
  with_form number file top table (JMember-F.Declared h bodies end) = sym (append-nil table)
  with_form number file top table (JMember-F.Bodied h left xs right) = sym (append-nil table)

  with_at : (number : ℕ) (file : JUnit) (top : ℕ) (table : List Class) (x : JMember) → with_type hs (package_name file.package) table x ≡ behind table (declared_in number file top x)
  unfolding with_type declared_in
  with_at number file top table x = with_form number file top table (out-JMember x)

  with_in : (number : ℕ) (file : JUnit) (top : ℕ) (table : List Class) (xs : List JMember) → with_types hs (package_name file.package) table xs ≡ behind table (declared_from number file top xs)
  with_in number file top table [] = sym (append-nil table)
  with_in number file top table (x ∷ xs) =
      with_in number file (top + 1) (with_type hs (package_name file.package) table x) xs
      ∙ ap (λ z. behind z (declared_from number file (top + 1) xs)) (with_at number file top table x)
      ∙ behind_joined table (declared_in number file top x) (declared_from number file (top + 1) xs)

  with_of : (number : ℕ) (table : List Class) (units : List JUnit) → with_units hs table units ≡ behind table (files_from number units)
  with_of number table [] = sym (append-nil table)
  with_of number table (x ∷ xs) =
      with_of (number + 1) (with_types hs (package_name x.package) table x.types) xs
      ∙ ap (λ z. behind z (files_from (number + 1) xs)) (with_in number x 0 table x.types)
      ∙ behind_joined table (declared_from number x 0 x.types) (files_from (number + 1) xs)

  pub table_is : (units : List JUnit) → class_table hs units ≡ map (class_of hs) (enumerate_from 0 (declarations units)) ++ library_classes (length hs)
  table_is units = ap (λ z. z ++ library_classes (length hs)) (with_of 0 [] units)

  pub table_get : (number : ℕ) (xs : List Declaration) (ys : List Class) (k : ℕ) (x : Declaration) → slice_get xs k ≡ Some x → slice_get (map (class_of hs) (enumerate_from number xs) ++ ys) k ≡ Some (class_of hs (number + k, x))
  table_get number [] ys k x get = absurd (none-some x get)
  table_get number (y ∷ xs) ys zero x get = let e : number ≡ number + 0 = omega arith in ap (option_map (λ z. class_of hs (number, z))) get ∙ ap (λ z. Some (class_of hs (z, x))) e
  table_get number (y ∷ xs) ys (suc k) x get =
      let e : (number + 1) + k ≡ number + suc k = omega arith in
      table_get (number + 1) xs ys k x get ∙ ap (λ z. Some (class_of hs (z, x))) e
