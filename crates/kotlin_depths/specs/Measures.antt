-- What code measures, against the definition.
use Rattle.std.specs.Prelude.{◌≡◌, ℕ, Bool, true, false, List, Option, Some, None}
use Rattle.kotlin_grammar.specs.declared.levels.Levels.{Levels}
use Rattle.kotlin_grammar.specs.declared.levels.Level.{Level}
use Rattle.kotlin_grammar.specs.declared.built.Built.{Built}
use Rattle.kotlin_grammar.specs.Depth.{leveled, measured}

-- what is given where it may be
abbrev pub given : {A : Type 0} → Bool → A → Option A
given true x = Some x
given false x = None

-- what a function of a list gives, and what it leaves
abbrev pub Gives : (List ℕ → Option (ℕ × List ℕ)) → List ℕ → List ℕ → Option ℕ → Type 0
Gives f old left None = f old ≡ None
Gives f old left (Some x) = f old ≡ Some (x, left)

abbrev pub Leveled : Level → ℕ → List ℕ → List ℕ → Bool → Type 0
Leveled v d old new may = leveled v d old ≡ given may new

abbrev pub Measures : Levels → Built → Built → Bool → Type 0
Measures l old new may = (measured l old.depths ≡ given may new.depths) × (new ≡ record old { depths = new.depths })
