-- What is found of files, one after the other.
use Rattle.std.proofs.Common.{◌≡◌, ◌<◌, ◌≤◌, ◌-◌, ◌^◌, ◌+◌, inl, inr, ℕ, List, [], ◌∷◌, ◌++◌, length, get_or, take, Option, Some, None, refl, sym, ◌∙◌, ap, subst, MatchResult, Result, Ok, Err}
use Rattle.std.proofs.lemmas.List.{take_more, take_all}
use Rattle.std.proofs.lemmas.List.Elements.{All-get_or}
use Rattle.j2k_base.specs.declared.places.Fault.{Fault}
use Rattle.j2k_base.specs.declared.series.SourceFile.{SourceFile}
use Rattle.java_unit_grammar.specs.declared.units.JUnit.{JUnit}
use Rattle.java_project.specs.declared.files.Found.{Found}
use Rattle.java_project.specs.declared.files.Found.TheVariants as found
use Rattle.java_project.specs.declared.project.Firsts.{Firsts}
use Rattle.java_project.specs.Files.{HasUnit, HasTokenFault, HasSpellingFault, AreShort, AreUnits, AreFirsts, IsFirst, IsFound, IsSpelled, IsRefused, earliest, added, told, outcome, token_fault, spelling_fault}
use Rattle.java_project.proofs.Firsts.{HasOnly, one_more}
use Rattle.java_project.proofs.Once.{no_tokens, unit_apart}

-- ---- one file more

found_tokens : (file : SourceFile) (x : Found) → IsFound file x → HasOnly HasTokenFault file (token_fault x)
found_tokens file (found.Tokens f) h = h
found_tokens file (found.Spelling f) h = λ fault q. no_tokens file h.tokens fault h.has q
found_tokens file (found.Unit u) h = λ fault q. no_tokens file h.tokens fault h.has q

found_spelling : (file : SourceFile) (x : Found) → IsFound file x → HasOnly HasSpellingFault file (spelling_fault x)
found_spelling file (found.Tokens f) h = λ fault q. no_tokens file q.tokens f q.has h
found_spelling file (found.Spelling f) h = h
found_spelling file (found.Unit u) h = λ fault q. unit_apart file u fault h q

left_none : (a b : Option Fault) → earliest a b ≡ None → a ≡ None
left_none None b e = refl
left_none (Some f) b e = e

right_none : (a b : Option Fault) → earliest a b ≡ None → b ≡ None
right_none None b e = e
right_none (Some f) b e = cc

one_unit_more : (files : List SourceFile) (file : SourceFile) (us : List JUnit) (u : JUnit) → AreUnits files us → HasUnit file u → AreUnits (files ++ file ∷ []) (us ++ u ∷ [])
one_unit_more [] file [] u are has = (has, tt)
one_unit_more [] file (v ∷ us) u are has = absurd are
one_unit_more (x ∷ files) file [] u are has = absurd are
one_unit_more (x ∷ files) file (v ∷ us) u are has = (are.0, one_unit_more files file us u are.1 has)

more_units : (files : List SourceFile) (file : SourceFile) (firsts : Firsts) (x : Found) → AreFirsts files firsts → IsFound file x
    → (added firsts x).tokens ≡ None → (added firsts x).spelling ≡ None → AreUnits (files ++ file ∷ []) (added firsts x).units
more_units files file firsts (found.Tokens f) are is no_tokens no_spelling = let e : Some f ≡ None = right_none firsts.tokens (Some f) no_tokens in cc
more_units files file firsts (found.Spelling f) are is no_tokens no_spelling = let e : Some f ≡ None = right_none firsts.spelling (Some f) no_spelling in cc
more_units files file firsts (found.Unit u) are is no_tokens no_spelling =
    one_unit_more files file firsts.units u (are.units (left_none firsts.tokens None no_tokens) (left_none firsts.spelling None no_spelling)) is

more_firsts : (files : List SourceFile) (file : SourceFile) (firsts : Firsts) (x : Found) → AreFirsts files firsts → IsFound file x → AreFirsts (files ++ file ∷ []) (added firsts x)
more_firsts files file firsts x are is = record {
  tokens = one_more HasTokenFault files file firsts.tokens (token_fault x) are.tokens (found_tokens file x is);
  spelling = one_more HasSpellingFault files file firsts.spelling (spelling_fault x) are.spelling (found_spelling file x is);
  units = more_units files file firsts x are is;
}

pub no_firsts : (units : List JUnit) → units ≡ [] → AreFirsts [] (record { tokens = None; spelling = None; units = units })
no_firsts units none = record { tokens = tt; spelling = tt; units = λ a b. subst (AreUnits []) (sym none) tt }

-- ---- one file after another

module _ (files : List SourceFile) (i : ℕ) (file : SourceFile) (h : i < length files) (is : file ≡ get_or files i file) where
  taken_is : take (i + 1) files ≡ take i files ++ file ∷ []
  taken_is = take_more files i file h ∙ ap (λ (f : SourceFile). take i files ++ f ∷ []) (sym is)

  pub firsts_step : (firsts after : Firsts) (x : Found) → AreFirsts (take i files) firsts → IsFound file x → after ≡ added firsts x → AreFirsts (take (i + 1) files) after
  firsts_step firsts after x are found now =
      subst (AreFirsts (take (i + 1) files)) (sym now)
      (subst (λ (fs : List SourceFile). AreFirsts fs (added firsts x)) (sym taken_is) (more_firsts (take i files) file firsts x are found))

  pub short_here : AreShort files → length file.bytes < 2 ^ 32 - 1
  short_here short = subst (λ (f : SourceFile). length f.bytes < 2 ^ 32 - 1) (sym is) (All-get_or (λ (f : SourceFile). length f.bytes < 2 ^ 32 - 1) files i file h short)

pub all_firsts : (files : List SourceFile) (i : ℕ) (firsts : Firsts) → length files ≤ i → AreFirsts (take i files) firsts → AreFirsts files firsts
all_firsts files i firsts h are = subst (λ (fs : List SourceFile). AreFirsts fs firsts) (take_all i files h) are

-- ---- the outcome

abbrev pub IsTold : List SourceFile → Result (List JUnit) Fault → Type 0
IsTold files answer = MatchResult answer (IsSpelled files) (IsRefused files)

told_is : (files : List SourceFile) (tokens spelling : Option Fault) (units : List JUnit) → IsFirst HasTokenFault files tokens → IsFirst HasSpellingFault files spelling
    → (tokens ≡ None → spelling ≡ None → AreUnits files units) → IsTold files (told (earliest tokens spelling) units)
told_is files None None units none none_spelled are = are refl refl
told_is files None (Some fault) units none first are = inr (none, first)
told_is files (Some fault) spelling units first others are = inl first

pub outcome_is : (files : List SourceFile) (firsts : Firsts) → AreFirsts files firsts → IsTold files (outcome firsts)
outcome_is files firsts are = told_is files firsts.tokens firsts.spelling firsts.units are.tokens are.spelling are.units
