-- The first fault, file after file.
use Rattle.std.proofs.Common.{◌≡◌, inl, inr, ℕ, List, [], ◌∷◌, ◌++◌, Option, Some, None}
use Rattle.j2k_base.specs.declared.places.Fault.{Fault}
use Rattle.j2k_base.specs.declared.series.SourceFile.{SourceFile}
use Rattle.j2k_tool.specs.Firsts.{HasNone, NoneIn, FirstIn}
use Rattle.j2k_tool.specs.Paths.{class_name, with_name, with_names}
use Rattle.j2k_tool.specs.Projects.{IsFirst, earliest}

module _ (faults : List (List ℕ) → SourceFile → Fault → Type 0) where
  -- the fault of one file, or none
  abbrev pub HasOnly : List (List ℕ) → SourceFile → Option Fault → Type 0
  HasOnly earlier file None = HasNone faults earlier file
  HasOnly earlier file (Some fault) = faults earlier file fault

  one : (earlier : List (List ℕ)) (file : SourceFile) (found : Option Fault) → HasOnly earlier file found → IsFirst faults earlier (file ∷ []) found
  one earlier file None h = (h, tt)
  one earlier file (Some fault) h = inl h

  skipped : (earlier : List (List ℕ)) (file : SourceFile) (files : List SourceFile) (found : Option Fault) → HasNone faults earlier file
      → IsFirst faults (with_name earlier (class_name file.path)) files found → IsFirst faults earlier (file ∷ files) found
  skipped earlier file files None none rest = (none, rest)
  skipped earlier file files (Some fault) none rest = inr (none, rest)

  pub one_more : (earlier : List (List ℕ)) (files : List SourceFile) (file : SourceFile) (old found : Option Fault) → IsFirst faults earlier files old
      → HasOnly (with_names earlier files) file found → IsFirst faults earlier (files ++ file ∷ []) (earliest old found)
  one_more earlier [] file None found first h = one earlier file found h
  one_more earlier [] file (Some fault) found first h = absurd first
  one_more earlier (x ∷ files) file None found first h =
      skipped earlier x (files ++ file ∷ []) found first.0 (one_more (with_name earlier (class_name x.path)) files file None found first.1 h)
  one_more earlier (x ∷ files) file (Some fault) found (inl here) h = inl here
  one_more earlier (x ∷ files) file (Some fault) found (inr later) h =
      inr (later.0, one_more (with_name earlier (class_name x.path)) files file (Some fault) found later.1 h)

  pub none_first : (earlier : List (List ℕ)) (files : List SourceFile) (fault : Fault) → NoneIn faults earlier files → FirstIn faults earlier files fault → ⊥
  none_first earlier [] fault none first = first
  none_first earlier (x ∷ files) fault none (inl here) = none.0 fault here
  none_first earlier (x ∷ files) fault none (inr later) = none_first (with_name earlier (class_name x.path)) files fault none.1 later.1

  pub first_once : ((earlier : List (List ℕ)) (file : SourceFile) (f g : Fault) → faults earlier file f → faults earlier file g → f ≡ g)
      → (earlier : List (List ℕ)) (files : List SourceFile) (f g : Fault) → FirstIn faults earlier files f → FirstIn faults earlier files g → f ≡ g
  first_once once earlier [] f g p q = absurd p
  first_once once earlier (x ∷ files) f g (inl p) (inl q) = once earlier x f g p q
  first_once once earlier (x ∷ files) f g (inl p) (inr q) = absurd (q.0 f p)
  first_once once earlier (x ∷ files) f g (inr p) (inl q) = absurd (p.0 g q)
  first_once once earlier (x ∷ files) f g (inr p) (inr q) = first_once once (with_name earlier (class_name x.path)) files f g p.1 q.1
