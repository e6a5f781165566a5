-- What was read of the files of a folder.
use Rattle.std.proofs.Common.{◌≡◌, ◌<◌, ◌≤◌, inl, inr, ℕ, suc, zero, Bool, true, false, cond, List, [], ◌∷◌, length, get_or, take, drop, map, filter, Option, Some, None, IfSome, refl, sym, ◌∙◌, ap, subst, arith}
use Rattle.std.specs.Prelude.{IsTrue, unwrap_or, ◌||◌, nat_lt, is_some, ◌&&◌}
use Rattle.std.specs.List.{list_any}
use Rattle.std.specs.Str.{bytes_eq}
use Rattle.std.specs.FinMap as finite
use Rattle.std.proofs.lemmas.Bool.Decides.{nat_tests}
use Rattle.std.proofs.lemmas.Slice.Eq.{bytes_eq-Decides}
use Rattle.j2k_base.specs.Lists.{Lists}
use Rattle.j2k_base.specs.declared.series.SourceFile.{SourceFile}
use Rattle.j2k_base.specs.declared.places.Fault.{Fault as FaultAt}
use Rattle.j2k_io.specs.Disks.{Files, in_folder, listing}
use Rattle.j2k_io.proofs.LawsToCite.{listed_is_held}
use Rattle.j2k_settings.specs.Settings.{Sets, bad_settings, settings_file}
use Rattle.j2k_sources.specs.declared.limits.Excess.{Excess}
use Rattle.j2k_sources.specs.Sources.{is_java, bytes_at, source_at, has_settings, SetsWhere, HasEntries, most_settings_bytes, of_limit, settings_excess, files_excess, AreListed}

-- ---- one file after another

module _ (src : List ℕ) (files : Files) where
  listed_at : (paths : List (List ℕ)) (i : ℕ) (d : List ℕ) → AreListed src files paths → i < length paths → IsTrue (finite.contains_key files (in_folder src (get_or paths i d)))
  listed_at [] i d listed h = absurd (omega arith)
  listed_at (path ∷ paths) zero d listed h = listed.0
  listed_at (path ∷ paths) (suc i) d listed h = listed_at paths i d listed.1 (omega arith)

  all_listed : (paths : List (List ℕ)) → ((path : List ℕ) → Lists paths path → IsTrue (finite.contains_key files (in_folder src path))) → AreListed src files (filter is_java paths)
  all_listed [] held = tt
  all_listed (path ∷ paths) held = by_test (is_java path) (all_listed paths (λ other lists. held other (inr lists)))
    where
      by_test : (b : Bool) → AreListed src files (filter is_java paths) → AreListed src files (cond b (path ∷ filter is_java paths) (filter is_java paths))
      by_test true rest = (held path (inl refl), rest)
      by_test false rest = rest

-- the files of which some were read: those that are left decide
abbrev pub HaveRead : List ℕ → Files → List (List ℕ) → ℕ → List SourceFile → ℕ → Type 0
HaveRead src files paths i sources sum = (sources ≡ map (source_at src files) (take i paths)) × (files_excess src files sum (drop i paths) ≡ files_excess src files 0 paths)

pub listed_path : (held now : Option Files) (src path : List ℕ) (paths : List (List ℕ)) (i : ℕ) → now ≡ held → IfSome held (λ files. AreListed src files paths) → i < length paths → path ≡ get_or paths i path
    → IfSome now (λ files. IsTrue (finite.contains_key files (in_folder src path)))
listed_path None now src path paths i same listed h is = subst (λ held. IfSome held (λ files. IsTrue (finite.contains_key files (in_folder src path)))) (sym same) tt
listed_path (Some files) now src path paths i same listed h is =
    subst (λ held. IfSome held (λ files. IsTrue (finite.contains_key files (in_folder src path)))) (sym same)
    (subst (λ (p : List ℕ). IsTrue (finite.contains_key files (in_folder src p))) (sym is) (listed_at src files paths i path listed h))

-- ---- settings

same_bytes : (a b : List ℕ) → bytes_eq a b ≡ true → a ≡ b
same_bytes a b e = grind (arith, nat_tests, bytes_eq-Decides a b)

any_lists : (name : List ℕ) (paths : List (List ℕ)) → list_any (bytes_eq name) paths ≡ true → Lists paths name
any_lists name [] e = cc
any_lists name (path ∷ paths) e = by_test (any_lists name paths) (bytes_eq name path) refl e
  where
    by_test : (list_any (bytes_eq name) paths ≡ true → Lists paths name) → (b : Bool) → bytes_eq name path ≡ b → (b || list_any (bytes_eq name) paths) ≡ true → Lists (path ∷ paths) name
    by_test others true same e = inl (sym (same_bytes name path same))
    by_test others false same e = inr (others e)

pub settings_held : (held : Option Files) (src path : List ℕ) (paths : List (List ℕ)) → IfSome held (λ files. paths ≡ listing src files) → path ≡ settings_file → list_any (bytes_eq settings_file) paths ≡ true
    → IfSome held (λ files. IsTrue (finite.contains_key files (in_folder src path)))
settings_held None src path paths listed is has = tt
settings_held (Some files) src path paths listed is has =
    subst (λ (p : List ℕ). IsTrue (finite.contains_key files (in_folder src p))) (sym is)
    (listed_is_held src settings_file files (subst (λ (ps : List (List ℕ)). Lists ps settings_file) listed (any_lists settings_file paths has)))

-- a file that was read is the one in its place
held_bytes : (file : Option (List ℕ)) (bytes : List ℕ) → IsTrue (is_some file) → IfSome file (λ file. bytes ≡ file) → unwrap_or file [] ≡ bytes
held_bytes None bytes held read = cc
held_bytes (Some file) bytes held read = sym read

held_longer : (file : Option (List ℕ)) (limit : ℕ) → IsTrue (is_some file) → IfSome file (λ file. limit < length file) → nat_lt limit (length (unwrap_or file [])) ≡ true
held_longer None limit held longer = cc
held_longer (Some file) limit held longer = grind (arith, nat_tests)

not_longer : (limit n : ℕ) → n ≤ limit → nat_lt limit n ≡ false
not_longer limit n h = grind (arith, nat_tests)

-- the settings that are listed
module _ (src path : List ℕ) (paths : List (List ℕ)) (files : Files) (listed : paths ≡ listing src files) (is : path ≡ settings_file) (has : list_any (bytes_eq settings_file) paths ≡ true) where
  there : has_settings src files ≡ true
  there = ap (list_any (bytes_eq settings_file)) (sym listed) ∙ has

  is_held : IsTrue (finite.contains_key files (in_folder src path))
  is_held = settings_held (Some files) src path paths listed is has

  too_long : IfSome (finite.get files (in_folder src path)) (λ file. most_settings_bytes < length file) → settings_excess src files ≡ of_limit settings_file most_settings_bytes
  too_long longer =
      let long : nat_lt most_settings_bytes (length (bytes_at src files path)) ≡ true = held_longer (finite.get files (in_folder src path)) most_settings_bytes is_held longer in
      ap (λ (p : List ℕ). cond (has_settings src files && nat_lt most_settings_bytes (length (bytes_at src files p))) (of_limit settings_file most_settings_bytes) None) (sym is)
      ∙ ap (λ b. cond (b && nat_lt most_settings_bytes (length (bytes_at src files path))) (of_limit settings_file most_settings_bytes) None) there
      ∙ ap (λ b. cond b (of_limit settings_file most_settings_bytes) None) long

  bytes_are : (bytes : List ℕ) → IfSome (finite.get files (in_folder src path)) (λ file. bytes ≡ file) → bytes_at src files settings_file ≡ bytes
  bytes_are bytes read = ap (bytes_at src files) (sym is) ∙ held_bytes (finite.get files (in_folder src path)) bytes is_held read

  short : (bytes : List ℕ) → IfSome (finite.get files (in_folder src path)) (λ file. bytes ≡ file) → length bytes ≤ most_settings_bytes → settings_excess src files ≡ None
  short bytes read h =
      ap (λ (bs : List ℕ). cond (has_settings src files && nat_lt most_settings_bytes (length bs)) (of_limit settings_file most_settings_bytes) None) (bytes_are bytes read)
      ∙ ap (λ b. cond (b && nat_lt most_settings_bytes (length bytes)) (of_limit settings_file most_settings_bytes) None) there
      ∙ ap (λ b. cond b (of_limit settings_file most_settings_bytes) None) (not_longer most_settings_bytes (length bytes) h)

  meaning : (bytes : List ℕ) → IfSome (finite.get files (in_folder src path)) (λ file. bytes ≡ file) → (entries : List (List ℕ)) → HasEntries src files entries ≡ Sets bytes entries
  meaning bytes read entries = ap (λ b. SetsWhere b (bytes_at src files settings_file) entries) there ∙ ap (λ (bs : List ℕ). Sets bs entries) (bytes_are bytes read)

pub settings_long : (held : Option Files) (src path : List ℕ) (paths : List (List ℕ)) (excess : Excess) → IfSome held (λ files. paths ≡ listing src files) → path ≡ settings_file → list_any (bytes_eq settings_file) paths ≡ true
    → IfSome held (λ files. IfSome (finite.get files (in_folder src path)) (λ file. most_settings_bytes < length file)) → excess ≡ record { what = settings_file; limit = most_settings_bytes } → IfSome held (λ files. settings_excess src files ≡ Some excess)
settings_long None src path paths excess listed is has longer same = tt
settings_long (Some files) src path paths excess listed is has longer same = too_long src path paths files listed is has longer ∙ ap Some (sym same)

pub settings_read : (held : Option Files) (src path bytes : List ℕ) (paths entries : List (List ℕ)) → IfSome held (λ files. paths ≡ listing src files) → path ≡ settings_file → list_any (bytes_eq settings_file) paths ≡ true
    → IfSome held (λ files. IfSome (finite.get files (in_folder src path)) (λ file. bytes ≡ file)) → length bytes ≤ most_settings_bytes → Sets bytes entries → IfSome held (λ files. HasEntries src files entries × (settings_excess src files ≡ None))
settings_read None src path bytes paths entries listed is has read h sets = tt
settings_read (Some files) src path bytes paths entries listed is has read h sets =
    (subst (λ (T : Type 0). T) (sym (meaning src path paths files listed is has bytes read entries)) sets, short src path paths files listed is has bytes read h)

pub settings_refused : (held : Option Files) (src path bytes : List ℕ) (paths : List (List ℕ)) (fault : FaultAt) → IfSome held (λ files. paths ≡ listing src files) → path ≡ settings_file → list_any (bytes_eq settings_file) paths ≡ true
    → IfSome held (λ files. IfSome (finite.get files (in_folder src path)) (λ file. bytes ≡ file)) → length bytes ≤ most_settings_bytes → (fault ≡ bad_settings) × ((entries : List (List ℕ)) → Sets bytes entries → ⊥)
    → IfSome held (λ files. (fault ≡ bad_settings) × ((entries : List (List ℕ)) → HasEntries src files entries → ⊥) × (settings_excess src files ≡ None))
settings_refused None src path bytes paths fault listed is has read h refused = tt
settings_refused (Some files) src path bytes paths fault listed is has read h refused =
    (refused.0, λ entries has_entries. refused.1 entries (subst (λ (T : Type 0). T) (meaning src path paths files listed is has bytes read entries) has_entries), short src path paths files listed is has bytes read h)

pub no_settings : (held : Option Files) (src : List ℕ) (paths entries : List (List ℕ)) → IfSome held (λ files. paths ≡ listing src files) → list_any (bytes_eq settings_file) paths ≡ false → entries ≡ []
    → IfSome held (λ files. HasEntries src files entries × (settings_excess src files ≡ None))
no_settings None src paths entries listed has none = tt
no_settings (Some files) src paths entries listed has none =
    let absent : has_settings src files ≡ false = ap (list_any (bytes_eq settings_file)) (sym listed) ∙ has in (
      subst (λ b. SetsWhere b (bytes_at src files settings_file) entries) (sym absent) none,
      ap (λ b. cond (b && nat_lt most_settings_bytes (length (bytes_at src files settings_file))) (of_limit settings_file most_settings_bytes) None) absent,
    )

pub java_listed : (held now : Option Files) (src : List ℕ) (paths java : List (List ℕ)) → now ≡ held → IfSome held (λ files. paths ≡ listing src files) → java ≡ filter is_java paths → IfSome now (λ files. AreListed src files java)
java_listed None now src paths java same listed is = subst (λ held. IfSome held (λ files. AreListed src files java)) (sym same) tt
java_listed (Some files) now src paths java same listed is =
    subst (λ held. IfSome held (λ files. AreListed src files java)) (sym same)
    (subst (AreListed src files) (sym is) (all_listed src files paths (λ path lists. listed_is_held src path files (subst (λ (ps : List (List ℕ)). Lists ps path) listed lists))))
