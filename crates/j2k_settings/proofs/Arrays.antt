-- Arrays of strings, and tables with one.
use Rattle.std.proofs.Common.{◌≡◌, ◌<◌, ◌≤◌, ◌+◌, inl, inr, ℕ, suc, zero, List, [], ◌∷◌, ◌++◌, length, get_or, take, slice_get, Option, Some, None, Result, Ok, Err, IfOk, IfSome, IfNone, String, Global, string_bytes, true, false, not, refl, sym, ◌∙◌, ap, subst, arith}
use Rattle.std.specs.Str.{bytes_eq}
use Rattle.std.proofs.lemmas.List.{take_more}
use Rattle.std.proofs.lemmas.Bool.Decides.{nat_tests}
use Rattle.std.proofs.lemmas.Slice.Eq.{bytes_eq-Decides}
use Rattle.toml.proofs.Views.{Entry, items_view-push}
use Rattle.toml.specs.Parse.{parse_document}
use Rattle.toml.specs.Data.{Data, Items, item, Members, no_members, member, string, integer, float, boolean, datetime, array, table, as_str, as_array, push_item}
use Rattle.toml.specs.declared.value.Value.{Value}
use Rattle.toml.specs.View.{view, items_view, members_view}
use Rattle.std.specs.Prelude.{codes}
use Rattle.j2k_settings.specs.Settings.{array_of, SetsTable, Sets}

-- one more string at the end
pub array_push : (texts : List (List ℕ)) (text : List ℕ) → array_of (texts ++ text ∷ []) ≡ push_item (array_of texts) (string text)
array_push [] text = refl
array_push (first ∷ texts) text = ap (item (string first)) (array_push texts text)

-- what has a text is a string
pub is_string : (d : Data) (text : List ℕ) → as_str d ≡ Some text → d ≡ string text
is_string (string s) text e = cc
is_string (integer z) text e = cc
is_string (float x) text e = cc
is_string (boolean b) text e = cc
is_string (datetime t) text e = cc
is_string (array ds) text e = cc
is_string (table ms) text e = cc

-- what has items is an array
pub is_array : (d : Data) (items : Items) → as_array d ≡ Some items → d ≡ array items
is_array (string s) items e = cc
is_array (integer z) items e = cc
is_array (float x) items e = cc
is_array (boolean b) items e = cc
is_array (datetime t) items e = cc
is_array (array ds) items e = cc
is_array (table ms) items e = cc

-- one more value that is a string
pub one_more : (values : List Value) (i : ℕ) (value : Value) (texts : List (List ℕ)) (text : List ℕ) → i < length values → value ≡ get_or values i value → items_view (take i values) ≡ array_of texts → Some text ≡ as_str (view value)
    → items_view (take (i + 1) values) ≡ array_of (texts ++ text ∷ [])
one_more values i value texts text h is before string_is =
    ap items_view (take_more values i value h) ∙ ap (λ (v : Value). items_view (take i values ++ v ∷ [])) (sym is) ∙ items_view-push (take i values) value
    ∙ ap (λ (ds : Items). push_item ds (view value)) before ∙ ap (push_item (array_of texts)) (is_string (view value) text (sym string_is)) ∙ sym (array_push texts text)

-- each item of an array of strings has a text
pub item_is_string : (values : List Value) (texts : List (List ℕ)) (i : ℕ) (d : Value) → items_view values ≡ array_of texts → i < length values → as_str (view (get_or values i d)) ≡ None → ⊥
item_is_string [] texts i d is h none = absurd (omega arith)
item_is_string (value ∷ values) [] i d is h none = cc
item_is_string (value ∷ values) (text ∷ texts) zero d is h none = let same : view value ≡ string text = cc in cc
item_is_string (value ∷ values) (text ∷ texts) (suc i) d is h none = let more : items_view values ≡ array_of texts = cc in item_is_string values texts i d more (omega arith) none

-- arrays of strings differ where the strings do
pub array_once : (texts others : List (List ℕ)) → array_of texts ≡ array_of others → texts ≡ others
array_once [] [] e = refl
array_once [] (other ∷ others) e = cc
array_once (text ∷ texts) [] e = cc
array_once (text ∷ texts) (other ∷ others) e =
    let here : text ≡ other = cc in
    let more : array_of texts ≡ array_of others = cc in
    let rest = array_once texts others more in cc

-- a table of settings has one list of entries
pub table_once : (content : Members) (entries others : List (List ℕ)) → SetsTable content entries → SetsTable content others → entries ≡ others
table_once content entries others (inl p) (inl q) = p.1 ∙ sym q.1
table_once content entries others (inl p) (inr q) = let apart : no_members ≡ member (codes "entries") (array (array_of others)) no_members = sym p.0 ∙ q in cc
table_once content entries others (inr p) (inl q) = let apart : no_members ≡ member (codes "entries") (array (array_of entries)) no_members = sym q.0 ∙ p in cc
table_once content entries others (inr p) (inr q) =
    let same : member (codes "entries") (array (array_of entries)) no_members ≡ member (codes "entries") (array (array_of others)) no_members = sym p ∙ q in
    let arrays : array_of entries ≡ array_of others = cc in array_once entries others arrays

-- and so do bytes
pub sets_once : (bytes : List ℕ) (entries others : List (List ℕ)) → Sets bytes entries → Sets bytes others → entries ≡ others
sets_once bytes entries others p q =
    let same : p.1.0 ≡ q.1.0 = (let e = sym p.1.1 ∙ q.1.1 in cc) in
    table_once q.1.0 entries others (subst (λ (t : Members). SetsTable t entries) same p.1.2) q.1.2

-- ---- the entries of a table

pub two_keys : (es : List Entry) → 1 < length es → (entries : List (List ℕ)) → SetsTable (members_view es) entries → ⊥
two_keys [] h entries sets = absurd (omega arith)
two_keys (e ∷ []) h entries sets = absurd (omega arith)
two_keys (e ∷ f ∷ es) h entries (inl p) = let apart = p.0 in cc
two_keys (e ∷ f ∷ es) h entries (inr p) = cc

-- the first key and its value
head_is : (es : List Entry) (key : String Global) (value : Value) (entries : List (List ℕ)) → slice_get es 0 ≡ Some (key, value) → SetsTable (members_view es) entries
    → (string_bytes key ≡ (codes "entries")) × (view value ≡ array (array_of entries))
head_is [] key value entries first sets = cc
head_is (e ∷ es) key value entries first (inl p) = let apart = p.0 in cc
head_is (e ∷ es) key value entries first (inr p) =
    let same : e ≡ (key, value) = cc in
    let name : string_bytes e.0 ≡ (codes "entries") = cc in
    let value_is : view e.1 ≡ array (array_of entries) = cc in
    (ap (λ (x : Entry). string_bytes x.0) (sym same) ∙ name, ap (λ (x : Entry). view x.1) (sym same) ∙ value_is)

pub other_key : (es : List Entry) (key : String Global) (value : Value) (name : List ℕ) → slice_get es 0 ≡ Some (key, value) → name ≡ string_bytes key → true ≡ not (bytes_eq name (codes "entries")) → (entries : List (List ℕ)) → SetsTable (members_view es) entries → ⊥
other_key es key value name first is apart entries sets =
    let same : name ≡ (codes "entries") = is ∙ (head_is es key value entries first sets).0 in
    grind (arith, nat_tests, bytes_eq-Decides name (codes "entries"), same, apart)

pub no_array : (es : List Entry) (key : String Global) (value : Value) → slice_get es 0 ≡ Some (key, value) → None ≡ as_array (view value) → (entries : List (List ℕ)) → SetsTable (members_view es) entries → ⊥
no_array es key value first none entries sets = let is : view value ≡ array (array_of entries) = (head_is es key value entries first sets).1 in
    let some : as_array (view value) ≡ Some (array_of entries) = ap as_array is in cc

one_key : (es : List Entry) (key : String Global) (value : Value) → length es ≤ 1 → slice_get es 0 ≡ Some (key, value) → es ≡ (key, value) ∷ []
one_key [] key value short first = cc
one_key (e ∷ []) key value short first = cc
one_key (e ∷ f ∷ es) key value short first = absurd (omega arith)

pub array_found : {E : Type 0} (es : List Entry) (key : String Global) (value : Value) (name : List ℕ) (items : Items) (result : Result (Option (List (List ℕ))) E) → length es ≤ 1 → slice_get es 0 ≡ Some (key, value) → name ≡ string_bytes key → false ≡ not (bytes_eq name (codes "entries"))
    → Some items ≡ as_array (view value) → IfOk result (λ found. IfSome found (λ entries. items ≡ array_of entries)) → IfOk result (λ found. IfSome found (λ entries. SetsTable (members_view es) entries))
array_found es key value name items (Err e) short first named same is found = tt
array_found es key value name items (Ok None) short first named same is found = tt
array_found es key value name items (Ok (Some entries)) short first named same is found =
    let key_is : name ≡ (codes "entries") = grind (arith, nat_tests, bytes_eq-Decides name (codes "entries"), same) in
    inr (ap members_view (one_key es key value short first) ∙ ap (λ (n : List ℕ). member n (view value) no_members) (sym named ∙ key_is)
    ∙ ap (λ (d : Data). member (codes "entries") d no_members) (is_array (view value) items (sym is)) ∙ ap (λ (ds : Items). member (codes "entries") (array ds) no_members) found)

pub array_none : {E : Type 0} (es : List Entry) (key : String Global) (value : Value) (items : Items) (result : Result (Option (List (List ℕ))) E) → slice_get es 0 ≡ Some (key, value)
    → Some items ≡ as_array (view value) → IfOk result (λ found. IfNone found ((entries : List (List ℕ)) → items ≡ array_of entries → ⊥)) → IfOk result (λ found. IfNone found ((entries : List (List ℕ)) → SetsTable (members_view es) entries → ⊥))
array_none es key value items (Err e) first is none = tt
array_none es key value items (Ok (Some entries)) first is none = tt
array_none es key value items (Ok None) first is none = λ entries sets.
    let same : view value ≡ array (array_of entries) = (head_is es key value entries first sets).1 in
    let some : as_array (view value) ≡ Some (array_of entries) = ap as_array same in
    let both : items ≡ array_of entries = cc in none entries both

-- ---- bytes

-- bytes that spell no table of settings have no entries
pub bad_table : (bytes : List ℕ) (members : Members) → parse_document bytes ≡ Some members → ((entries : List (List ℕ)) → SetsTable members entries → ⊥) → (entries : List (List ℕ)) → Sets bytes entries → ⊥
bad_table bytes members is none entries sets =
    let same : sets.1.0 ≡ members = (let e = sym sets.1.1 ∙ is in cc) in
    none entries (subst (λ (t : Members). SetsTable t entries) same sets.1.2)
