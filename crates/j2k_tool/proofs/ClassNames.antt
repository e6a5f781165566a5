-- The classes of files that are taken have the names of their files, and these differ: together the files are well typed.
use Rattle.std.proofs.Common.{◌≡◌, ℕ, ◌-◌, Bool, true, false, cond, ◌&&◌, ◌||◌, not, List, [], ◌∷◌, ◌++◌, length, take, Option, Some, None, refl, sym, ◌∙◌, ap, subst, eqb-true}
use Rattle.std.specs.Prelude.{◌==◌, nat_eq, codes, option_map}
use Rattle.std.specs.List.{All, list_all, ends_with, slice_split, onto_first, cons_option, slice_index}
use Rattle.std.specs.Str.{bytes_eq}
use Rattle.std.proofs.lemmas.Bool.Decides.{Decides-eqb}
use Rattle.std.proofs.lemmas.List.{append_cancel_right}
use Rattle.std.proofs.lemmas.List.Elements.{All-nil, All-cons, All-append}
use Rattle.std.proofs.lemmas.List.Folds.{list_any-append}
use Rattle.std.proofs.lemmas.List.Splits.{slice_split-cons_yes, slice_split-cons_no, slice_split_none}
use Rattle.std.proofs.lemmas.Slice.Eq.{bytes_eq-Decides, ends_is}
use Rattle.j2k_base.specs.declared.series.SourceFile.{SourceFile}
use Rattle.j2k_sources.specs.Sources.{is_java, java_end}
use Rattle.java_tree.specs.Seen.{seen}
use Rattle.java_taken.specs.Names.{is_identifier, is_reserved, is_free, contains_name}
use Rattle.java_taken.specs.Units.{is_file_of, may_name}
use Rattle.java_taken.proofs.LawsToCite.{may_be_named, taken as taken_good}
use Rattle.meanings.specs.Taken.{MainClass, class_in, AllTaken}
use Rattle.meanings.specs.JTyped.{AllAreTyped, class_names, JTyped}
use Rattle.meanings.specs.KSpells.{may_stand}
use Rattle.meanings.specs.Values.{same_name, is_among, Differ}
use Rattle.j2k_tool.specs.declared.files.TakenFile.{TakenFile}
use Rattle.j2k_tool.specs.Paths.{last_or, last_part, base_of, class_name, with_name}
use Rattle.j2k_tool.specs.Projects.{AreTaken, trees_of}
use Rattle.j2k_tool.specs.Sources.{IsTaken}
use Rattle.j2k_tool.specs.Words.{is_slash}
use Rattle.j2k_tool.proofs.Names.{base_is}

both : (a b : Bool) → (a && b) ≡ true → (a ≡ true) × (b ≡ true)
both true true e = (refl, refl)
both true false e = cc
both false b e = cc

neither : (a b : Bool) → (a || b) ≡ false → (a ≡ false) × (b ≡ false)
neither false false e = (refl, refl)
neither false true e = cc
neither true b e = cc

not_true : (a : Bool) → not a ≡ true → a ≡ false
not_true true e = cc
not_true false e = refl

-- ---- a name is that of its file

-- a byte of a part of a path
abbrev IsInner : ℕ → Type 0
IsInner byte = is_slash byte ≡ false

inner : (byte : ℕ) → may_stand byte ≡ true → IsInner byte
inner byte is = by_test (is_slash byte) refl
  where
    by_test : (b : Bool) → is_slash byte ≡ b → b ≡ false
    by_test false e = refl
    by_test true e = let slash : may_stand 47 ≡ true = subst (λ b. may_stand b ≡ true) (eqb-true byte 47 e) is in absurd (cc slash)

all_inner : (name : List ℕ) → list_all may_stand name ≡ true → All IsInner name
all_inner [] is = All-nil IsInner
all_inner (byte ∷ name) is =
    let two = both (may_stand byte) (list_all may_stand name) is in All-cons IsInner byte name (inner byte two.0) (all_inner name two.1)

file_inner : (name : List ℕ) → is_identifier name ≡ true → All IsInner (name ++ java_end)
file_inner name is =
    let two = both (not (length name == 0)) (list_all may_stand name) is in
    All-append IsInner name java_end (all_inner name two.1) (All-cons IsInner 46 (codes "java") refl (all_inner (codes "java") refl))

-- two parts and more, of which this is the last
record End (parts : List (List ℕ)) (last : List ℕ) : Type 0 where
  first : List ℕ
  second : List ℕ
  more : List (List ℕ)
  are : parts ≡ first ∷ second ∷ more
  is : last_or second more ≡ last

parts_end : (front last : List ℕ) → All IsInner last → End (slice_split is_slash (front ++ 47 ∷ last)) last
parts_end [] last all = record {
  first = [];
  second = last;
  more = [];
  are = slice_split-cons_yes is_slash 47 last refl ∙ ap (λ parts. [] ∷ parts) (slice_split_none is_slash last all);
  is = refl;
}
parts_end (byte ∷ front) last all = by_test (is_slash byte) refl (parts_end front last all)
  where
    by_test : (b : Bool) → is_slash byte ≡ b → End (slice_split is_slash (front ++ 47 ∷ last)) last → End (slice_split is_slash (byte ∷ front ++ 47 ∷ last)) last
    by_test true e end = record {
      first = [];
      second = end.first;
      more = end.second ∷ end.more;
      are = slice_split-cons_yes is_slash byte (front ++ 47 ∷ last) e ∙ ap (λ parts. [] ∷ parts) end.are;
      is = end.is;
    }
    by_test false e end = record {
      first = byte ∷ end.first;
      second = end.second;
      more = end.more;
      are = slice_split-cons_no is_slash byte (front ++ 47 ∷ last) e ∙ ap (onto_first byte) end.are;
      is = end.is;
    }

last_behind : (front last : List ℕ) → All IsInner last → last_part (front ++ 47 ∷ last) ≡ last
last_behind front last all = let end = parts_end front last all in ap (last_or (front ++ 47 ∷ last)) end.are ∙ end.is

last_alone : (path : List ℕ) → All IsInner path → last_part path ≡ path
last_alone path all = ap (last_or path) (slice_split_none is_slash path all)

base_back : (name : List ℕ) → base_of (name ++ java_end) ≡ name
base_back name =
    let java = (ends_is Decides-eqb (name ++ java_end) java_end (is_java (name ++ java_end)) refl).1 name refl in
    sym (append_cancel_right name (base_of (name ++ java_end)) java_end (base_is (name ++ java_end) java))

-- the class of a file has the name that its path gives
class_named : (path name : List ℕ) → is_identifier name ≡ true → is_file_of path name ≡ true → class_name path ≡ name
class_named path name identifies is = by_test (bytes_eq path (name ++ java_end)) refl is
  where
    file : List ℕ
    file = codes "/" ++ (name ++ java_end)

    by_test : (b : Bool) → bytes_eq path (name ++ java_end) ≡ b → (b || ends_with nat_eq path file) ≡ true → class_name path ≡ name
    by_test true e h = ap class_name ((bytes_eq-Decides path (name ++ java_end)).0 e) ∙ ap base_of (last_alone (name ++ java_end) (file_inner name identifies)) ∙ base_back name
    by_test false e h =
        let path_is = (ends_is Decides-eqb path file (ends_with nat_eq path file) refl).0 h in
        ap class_name path_is ∙ ap base_of (last_behind (take (length path - length file) path) (name ++ java_end) (file_inner name identifies)) ∙ base_back name

-- ---- names differ

same_bytes : (x y : List ℕ) → same_name x y ≡ bytes_eq x y
same_bytes [] [] = refl
same_bytes [] (c ∷ y) = refl
same_bytes (b ∷ x) [] = refl
same_bytes (b ∷ x) (c ∷ y) = ap (λ t. (b == c) && t) (same_bytes x y)

-- none of the names is one of these
abbrev AreNew : List (List ℕ) → List (List ℕ) → Type 0
AreNew earlier [] = Unit {0}
AreNew earlier (name ∷ names) = (contains_name earlier name ≡ false) × AreNew earlier names

-- nor are two of them the same
abbrev Apart : List (List ℕ) → List (List ℕ) → Type 0
Apart earlier names = AreNew earlier names × Differ names

-- a name that isn't among names with one more
module _ (earlier : List (List ℕ)) (name other : List ℕ) (new : contains_name (with_name earlier name) other ≡ false) where
  new_before : contains_name earlier other ≡ false
  new_before = by_test (contains_name earlier name) new
    where
      by_test : (b : Bool) → contains_name (cond b earlier (earlier ++ name ∷ [])) other ≡ false → contains_name earlier other ≡ false
      by_test true h = h
      by_test false h = (neither (contains_name earlier other) (bytes_eq other name || false) (sym (list_any-append (bytes_eq other) earlier (name ∷ [])) ∙ h)).0

  another : contains_name earlier name ≡ false → same_name other name ≡ false
  another first = same_bytes other name ∙ by_test (contains_name earlier name) first new
    where
      by_test : (b : Bool) → b ≡ false → contains_name (cond b earlier (earlier ++ name ∷ [])) other ≡ false → bytes_eq other name ≡ false
      by_test true e h = cc
      by_test false e h =
          let two = neither (contains_name earlier other) (bytes_eq other name || false) (sym (list_any-append (bytes_eq other) earlier (name ∷ [])) ∙ h) in
          (neither (bytes_eq other name) false two.1).0

all_before : (earlier : List (List ℕ)) (name : List ℕ) (names : List (List ℕ)) → AreNew (with_name earlier name) names → AreNew earlier names
all_before earlier name [] are = tt
all_before earlier name (other ∷ names) are = (new_before earlier name other are.0, all_before earlier name names are.1)

not_among : (earlier : List (List ℕ)) (name : List ℕ) (names : List (List ℕ)) → contains_name earlier name ≡ false → AreNew (with_name earlier name) names → is_among names name ≡ false
not_among earlier name [] first are = refl
not_among earlier name (other ∷ names) first are =
    ap (λ b. cond b true (is_among names name)) (another earlier name other are.0 first) ∙ not_among earlier name names first are.1

-- the names of a file and of those behind it
more_apart : (earlier : List (List ℕ)) (path : List ℕ) (o : Option MainClass) (names : List (List ℕ)) → ((class : MainClass) → o ≡ Some class → may_name earlier path class.name ≡ true) → Apart (with_name earlier (class_name path)) names
    → Apart earlier (cons_option (option_map (λ (class : MainClass). class.name) o) names)
more_apart earlier path None names may apart = (all_before earlier (class_name path) names apart.0, apart.1)
more_apart earlier path (Some class) names may apart =
    let name = class.name in
    let last = both (is_free name && not (contains_name earlier name)) (is_file_of path name) (may class refl) in
    let two = both (is_free name) (not (contains_name earlier name)) last.0 in
    let identifies = (both (is_identifier name) (not (is_reserved name)) two.0).0 in
    let first = not_true (contains_name earlier name) two.1 in
    let are : AreNew (with_name earlier name) names = subst (λ n. AreNew (with_name earlier n) names) (class_named path name identifies last.1) apart.0 in
    ((first, all_before earlier name names are), (not_among earlier name names first are, apart.1))

-- ---- files that are taken

module _ (classes : List (List ℕ)) where
  may_name_class : (earlier : List (List ℕ)) (file : SourceFile) (taken : TakenFile) → IsTaken classes earlier file taken → (class : MainClass) → class_in taken.typed ≡ Some class → may_name earlier file.path class.name ≡ true
  may_name_class earlier file taken is class there =
      subst (λ path. may_name earlier path class.name ≡ true) (is.has.spells.path ∙ is.has.has.path) (may_be_named classes earlier is.spelled taken.typed class is.typed there)

  all_apart : (earlier : List (List ℕ)) (files : List SourceFile) (taken : List TakenFile) → AreTaken classes earlier files taken → Apart earlier (class_names (trees_of taken))
  all_apart earlier [] [] are = (tt, tt)
  all_apart earlier [] (first ∷ taken) are = absurd are
  all_apart earlier (file ∷ files) [] are = absurd are
  all_apart earlier (file ∷ files) (first ∷ taken) are =
      more_apart earlier file.path (class_in first.typed) (class_names (trees_of taken)) (may_name_class earlier file first are.0) (all_apart (with_name earlier (class_name file.path)) files taken are.1)

  all_typed : (earlier : List (List ℕ)) (files : List SourceFile) (taken : List TakenFile) → AreTaken classes earlier files taken → AllAreTyped (trees_of taken)
  all_typed earlier [] [] are = tt
  all_typed earlier [] (first ∷ taken) are = absurd are
  all_typed earlier (file ∷ files) [] are = absurd are
  all_typed earlier (file ∷ files) (first ∷ taken) are =
      let is = are.0 in (
        (taken_good classes earlier is.spelled first.typed (seen is.has.tokens.list) is.typed is.has.spells.spelled).typed,
        all_typed (with_name earlier (class_name file.path)) files taken are.1,
      )

  -- the files of a project are of the forms that are taken
  pub project_taken : (earlier : List (List ℕ)) (files : List SourceFile) (taken : List TakenFile) → AreTaken classes earlier files taken → AllTaken (trees_of taken)
  project_taken earlier [] [] are = tt
  project_taken earlier [] (first ∷ taken) are = absurd are
  project_taken earlier (file ∷ files) [] are = absurd are
  project_taken earlier (file ∷ files) (first ∷ taken) are =
      let is = are.0 in (
        (taken_good classes earlier is.spelled first.typed (seen is.has.tokens.list) is.typed is.has.spells.spelled).taken,
        project_taken (with_name earlier (class_name file.path)) files taken are.1,
      )

  -- the files of a project are well typed
  pub project_typed : (files : List SourceFile) (taken : List TakenFile) → AreTaken classes [] files taken → JTyped (trees_of taken)
  project_typed files taken are = record { classes = all_typed [] files taken are; names = (all_apart [] files taken are).1 }
