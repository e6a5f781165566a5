-- The four tables under one number.
use Rattle.std.proofs.Common.{◌≡◌, ℕ, ◌+◌, ◌<◌, List, [], ◌∷◌, ◌++◌, Option, Some, map, length, get_or, slice_get, refl, ap, sym, subst, ◌∙◌, arith, length-append}
use Rattle.std.specs.List.{enumerate_from}
use Rattle.std.proofs.lemmas.Option.{same_Some}
use Rattle.java_unit_grammar.specs.declared.statements.JMember.{JMember}
use Rattle.java_unit_grammar.specs.declared.units.JUnit.{JUnit}
use Rattle.java_classes.specs.Classes.{class_rows}
use Rattle.java_class_names.specs.declared.places.ClassPlace.{ClassPlace}
use Rattle.java_class_names.specs.Places.{class_places}
use Rattle.java_type_names.specs.declared.classes.World.{World}
use Rattle.java_type_names.specs.declared.scopes.FileScope.{FileScope}
use Rattle.java_supertypes.specs.declared.heads.Heading.{Heading}
use Rattle.java_supertypes.specs.Supertypes.{headings}
use Rattle.java_members.specs.declared.classes.Class.{Class}
use Rattle.java_member_tables.specs.Library.{library_classes}
use Rattle.java_member_tables.specs.Tables.{class_table}
use Rattle.java_class_numbers.specs.Declarations.{Declaration, StandsIn, declarations, declared_in}
use Rattle.java_class_numbers.specs.Numbers.{AreScopes, IsClass, class_of, heading_of, place_of, row_of}
use Rattle.java_class_numbers.proofs.Lists.{get_by, get_some, long_by}
use Rattle.java_class_numbers.proofs.Standing.{declarations_stand, there_in}
use Rattle.java_class_numbers.proofs.Tables.{classes_long, headings_are, places_are, rows_are, table_get, table_is}

pub rows_long : (units : List JUnit) → length (class_rows units) ≡ length (declarations units)
rows_long units = long_by row_of (class_rows units) (declarations units) (rows_are units)

pub places_long : (units : List JUnit) → length (class_places units) ≡ length (declarations units)
places_long units = long_by place_of (class_places units) (declarations units) (places_are units)

pub headings_long : (world : World) (scopes : List FileScope) (units : List JUnit) → AreScopes world scopes units → length (headings world scopes units) ≡ length (declarations units)
headings_long world scopes units h = long_by (heading_of world) (headings world scopes units) (declarations units) (headings_are world scopes units h)

pub table_long : (hs : List Heading) (units : List JUnit) → length (class_table hs units) ≡ length (declarations units) + length (library_classes (length hs))
table_long hs units =
    ap length (table_is hs units)
    ∙ length-append (map (class_of hs) (enumerate_from 0 (declarations units))) (library_classes (length hs))
    ∙ ap (λ z. z + length (library_classes (length hs))) (classes_long hs 0 (declarations units))

is_class : (world : World) (scopes : List FileScope) (units : List JUnit) (number : ℕ) (x : Declaration) → AreScopes world scopes units → slice_get (declarations units) number ≡ Some x → IsClass world scopes units number x
is_class world scopes units number x h get =
    let hs : List Heading = headings world scopes units in
    let e : 0 + number ≡ number = omega arith in
    record {
      stands = declarations_stand units number x get;
      row = get_by row_of (class_rows units) (declarations units) number x (rows_are units) get;
      place = get_by place_of (class_places units) (declarations units) number x (places_are units) get;
      heading = get_by (heading_of world) (headings world scopes units) (declarations units) number x (headings_are world scopes units h) get;
      members =
          ap (λ z. slice_get z number) (table_is hs units)
          ∙ table_get hs 0 (declarations units) (library_classes (length hs)) number x get
          ∙ ap (λ z. Some (class_of hs (z, x))) e;
    }

pub one_class : (world : World) (scopes : List FileScope) (units : List JUnit) (number : ℕ) → AreScopes world scopes units → number < length (class_rows units) → (x : Declaration) × IsClass world scopes units number x
one_class world scopes units number h low =
    let k : number < length (declarations units) = subst (λ z. number < z) (rows_long units) low in
    let r : (x : Declaration) × (slice_get (declarations units) number ≡ Some x) = get_some (declarations units) number k in
    (r.0, is_class world scopes units number r.0 h r.1)

pub same_class : (world : World) (scopes : List FileScope) (units : List JUnit) (number : ℕ) (x y : Declaration) → IsClass world scopes units number x → IsClass world scopes units number y → x ≡ y
same_class world scopes units number x y a b =
    let p : place_of x ≡ place_of y = same_Some (place_of x) (place_of y) (sym a.place ∙ b.place) in
    let n : x.number ≡ y.number = ap (λ (z : ClassPlace). z.unit) p in
    let t : x.top ≡ y.top = ap (λ (z : ClassPlace). z.top) p in
    let f : x.file ≡ y.file = same_Some x.file y.file (sym a.stands.file ∙ ap (λ z. slice_get units z) n ∙ b.stands.file) in
    let m : a.stands.declared ≡ b.stands.declared =
    same_Some a.stands.declared b.stands.declared
    (sym a.stands.place ∙ ap (λ (z : JUnit). slice_get z.types x.top) f ∙ ap (λ z. slice_get y.file.types z) t ∙ b.stands.place)
    in
    same_Some x y
    (sym (there_in x a.stands.declared a.stands.is)
    ∙ ap (λ z. slice_get (declared_in z x.file x.top a.stands.declared) 0) n
    ∙ ap (λ z. slice_get (declared_in y.number z x.top a.stands.declared) 0) f
    ∙ ap (λ z. slice_get (declared_in y.number y.file z a.stands.declared) 0) t
    ∙ ap (λ z. slice_get (declared_in y.number y.file y.top z) 0) m
    ∙ there_in y b.stands.declared b.stands.is)
