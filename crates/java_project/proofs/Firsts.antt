-- The first fault, file after file.
use Rattle.std.proofs.Common.{◌≡◌, inl, inr, List, [], ◌∷◌, ◌++◌, Option, Some, None}
use Rattle.j2k_base.specs.declared.places.Fault.{Fault}
use Rattle.j2k_base.specs.declared.series.SourceFile.{SourceFile}
use Rattle.java_project.specs.Files.{HasNone, NoneIn, FirstIn, IsFirst, earliest}

module _ (faults : SourceFile → Fault → Type 0) where
  -- the fault of one file, or none
  abbrev pub HasOnly : SourceFile → Option Fault → Type 0
  HasOnly file None = HasNone faults file
  HasOnly file (Some fault) = faults file fault

  one : (file : SourceFile) (found : Option Fault) → HasOnly file found → IsFirst faults (file ∷ []) found
  one file None h = (h, tt)
  one file (Some fault) h = inl h

  skipped : (file : SourceFile) (files : List SourceFile) (found : Option Fault) → HasNone faults file → IsFirst faults files found → IsFirst faults (file ∷ files) found
  skipped file files None none rest = (none, rest)
  skipped file files (Some fault) none rest = inr (none, rest)

  pub one_more : (files : List SourceFile) (file : SourceFile) (old found : Option Fault) → IsFirst faults files old → HasOnly file found → IsFirst faults (files ++ file ∷ []) (earliest old found)
  one_more [] file None found first h = one file found h
  one_more [] file (Some fault) found first h = absurd first
  one_more (x ∷ files) file None found first h = skipped x (files ++ file ∷ []) found first.0 (one_more files file None found first.1 h)
  one_more (x ∷ files) file (Some fault) found (inl here) h = inl here
  one_more (x ∷ files) file (Some fault) found (inr later) h = inr (later.0, one_more files file (Some fault) found later.1 h)

  pub none_first : (files : List SourceFile) (fault : Fault) → NoneIn faults files → FirstIn faults files fault → ⊥
  none_first [] fault none first = first
  none_first (x ∷ files) fault none (inl here) = none.0 fault here
  none_first (x ∷ files) fault none (inr later) = none_first files fault none.1 later.1

  pub first_once : ((file : SourceFile) (f g : Fault) → faults file f → faults file g → f ≡ g) → (files : List SourceFile) (f g : Fault) → FirstIn faults files f → FirstIn faults files g → f ≡ g
  first_once once [] f g p q = absurd p
  first_once once (x ∷ files) f g (inl p) (inl q) = once x f g p q
  first_once once (x ∷ files) f g (inl p) (inr q) = absurd (q.0 f p)
  first_once once (x ∷ files) f g (inr p) (inl q) = absurd (p.0 g q)
  first_once once (x ∷ files) f g (inr p) (inr q) = first_once once files f g p.1 q.1
