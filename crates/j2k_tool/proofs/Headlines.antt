-- A conversion that was answered is the headline.
use Rattle.std.proofs.Common.{◌≡◌, inl, inr, ℕ, List, [], ◌∷◌, map, Option, Some, None, IfSome, refl, ◌∙◌, ap}
use Rattle.std.proofs.lemmas.List.{map-append}
use Rattle.j2k_base.specs.declared.series.SourceFile.{SourceFile}
use Rattle.j2k_io.specs.Disks.{Files, listing, with_files}
use Rattle.j2k_sources.specs.declared.loading.Loaded.{Loaded}
use Rattle.j2k_sources.specs.declared.loading.Loaded.TheVariants as loaded
use Rattle.j2k_sources.specs.Sources.{IsLoaded}
use Rattle.java_tree.specs.Seen.{seen}
use Rattle.java_taken.proofs.LawsToCite.{taken as taken_good}
use Rattle.meanings.specs.Convert.{file_of, files_of}
use Rattle.meanings.specs.KText.{KText}
use Rattle.meanings.proofs.LawsToCite.{same_steps, entries_are_entered, spells_one, spelling_is_kept, types_are_kept}
use Rattle.j2k_tool.specs.declared.files.TakenFile.{TakenFile}
use Rattle.j2k_tool.specs.declared.status.Status.{Status}
use Rattle.j2k_tool.specs.declared.status.Status.TheVariants.{Done, Usage, NotEmpty, TooLarge, Refused}
use Rattle.j2k_tool.specs.Asks.{Answer, converted, ConvertsLoaded, AsksOver, AsksOf, Asks, Answered}
use Rattle.j2k_tool.specs.Headline.{IsWritten, AreWritten, Headline}
use Rattle.j2k_tool.specs.Paths.{class_name, with_name, names_of}
use Rattle.j2k_tool.specs.Projects.{AreTaken, IsProject, trees_of}
use Rattle.j2k_tool.specs.Sources.{IsTaken}
use Rattle.j2k_tool.specs.Words.{words_mean}
use Rattle.j2k_tool.specs.Written.{placed, kotlin_file, report_file}
use Rattle.j2k_tool.proofs.ClassNames.{project_taken, project_typed}
use Rattle.j2k_tool.proofs.Once.{project_once}

-- what asks for an answer of the status Done
record IsConversion (mean : Option (List ℕ × List ℕ)) (files : Files) (answer : Answer) : Type 0 where
  src : List ℕ
  dst : List ℕ
  means : mean ≡ Some (src, dst)
  java : List TakenFile
  project : IsProject src files java
  is : answer ≡ converted dst java

status_is : (a b : Answer) → a ≡ b → a.status ≡ b.status
status_is a b e = ap (λ (x : Answer). x.status) e

of_what : (src dst : List ℕ) (files : Files) (what : Loaded) (answer : Answer) → IsLoaded src files what → ConvertsLoaded dst what answer → answer.status ≡ Done → IsConversion (Some (src, dst)) files answer
of_what src dst files (loaded.Whole sources) answer is (inl p) done = record { src = src; dst = dst; means = refl; java = p.0; project = record { sources = sources; has = is; takes = p.1 }; is = p.2 }
of_what src dst files (loaded.Whole sources) answer is (inr p) done = let other : answer.status ≡ Refused = status_is answer _ p.2 in cc
of_what src dst files (loaded.TooLarge excess) answer is p done = let other : answer.status ≡ TooLarge = status_is answer _ p in cc
of_what src dst files (loaded.Refused fault) answer is p done = let other : answer.status ≡ Refused = status_is answer _ p in cc

of_over : (there : List (List ℕ)) (src dst : List ℕ) (files : Files) (answer : Answer) → AsksOver there src dst files answer → answer.status ≡ Done → IsConversion (Some (src, dst)) files answer
of_over [] src dst files answer asks done = of_what src dst files asks.0 answer asks.1 asks.2 done
of_over (path ∷ paths) src dst files answer asks done = let other : answer.status ≡ NotEmpty = status_is answer _ asks in cc

of_words : (mean : Option (List ℕ × List ℕ)) (files : Files) (answer : Answer) → AsksOf mean files answer → answer.status ≡ Done → IsConversion mean files answer
of_words None files answer asks done = let other : answer.status ≡ Usage = status_is answer _ asks in cc
of_words (Some folders) files answer asks done = of_over (listing folders.1 files) folders.0 folders.1 files answer asks done

of_asked : (words : List (List ℕ)) (files : Files) (answer : Answer) → Asks words files answer → answer.status ≡ Done → IsConversion (words_mean words) files answer
unfolding Asks
of_asked words files answer asks done = of_words (words_mean words) files answer asks done

-- the Kotlin files of a project, in a folder
abbrev kotlin_files : List ℕ → List TakenFile → List (List ℕ × List ℕ)
kotlin_files dst java = map (placed dst) (map kotlin_file java)

written : (dst : List ℕ) (classes earlier : List (List ℕ)) (file : SourceFile) (taken : TakenFile) → IsTaken classes earlier file taken → IsWritten dst taken (file_of taken.typed) (placed dst (kotlin_file taken))
written dst classes earlier file taken is =
    let good = taken_good classes earlier is.spelled taken.typed (seen is.has.tokens.list) is.typed is.has.spells.spelled in
    let kotlin = file_of taken.typed in
    let spelled = spelling_is_kept taken.typed good.taken good.named in
    record {
      place = refl;
      spelled = spelled;
      one_kotlin = λ other spells. spells_one other kotlin (KText kotlin) spells spelled;
    }

all_written : (dst : List ℕ) (classes earlier : List (List ℕ)) (files : List SourceFile) (java : List TakenFile) → AreTaken classes earlier files java → AreWritten dst java (files_of (trees_of java)) (kotlin_files dst java)
all_written dst classes earlier files [] are = tt
all_written dst classes earlier [] (taken ∷ java) are = absurd are
all_written dst classes earlier (file ∷ files) (taken ∷ java) are =
    (written dst classes earlier file taken are.0, all_written dst classes (with_name earlier (class_name file.path)) files java are.1)

pub headline : (words : List (List ℕ)) (files : Files) (new : Option Files) (status : Status) (text : List ℕ) → Answered (Asks words files) status text (Some files) new → status ≡ Done → Headline words files new
headline words files new status text answered done =
    let c = of_asked words files answered.answer answered.asked (answered.status_is ∙ done) in
    let all = project_taken (names_of c.project.sources.files) [] c.project.sources.files c.java c.project.takes.files in
    record {
      src = c.src;
      dst = c.dst;
      means = c.means;
      java = c.java;
      project = c.project;
      one_java = λ other project. project_once c.src files other c.java project c.project;
      taken = all;
      kotlin = files_of (trees_of c.java);
      written = kotlin_files c.dst c.java;
      made = answered.made ∙ ap (λ (a : Answer). with_files (Some files) a.files) c.is ∙ ap (with_files (Some files)) (map-append (placed c.dst) (map kotlin_file c.java) (report_file c.java ∷ []));
      spelled = all_written c.dst (names_of c.project.sources.files) [] c.project.sources.files c.java c.project.takes.files;
      typed = types_are_kept (trees_of c.java) all (project_typed (names_of c.project.sources.files) c.project.sources.files c.java c.project.takes.files);
      steps = same_steps (trees_of c.java) c.project.sources.entries all;
      entered = entries_are_entered (trees_of c.java) c.project.sources.entries;
    }

-- where the disk tells its files
pub done_headline : (held new : Option Files) (words : List (List ℕ)) (status : Status) (text : List ℕ) → IfSome held (λ files. Answered (Asks words files) status text (Some files) new) → status ≡ Done
    → IfSome held (λ files. Headline words files new)
done_headline None new words status text answered done = tt
done_headline (Some files) new words status text answered done = headline words files new status text answered done
