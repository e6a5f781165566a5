-- Reading, a step at a time.
use Rattle.std.proofs.Common.{◌≡◌, true, false, [], ◌∷◌, Some, None, refl}
use Rattle.java_tree.specs.Seen.{Tokens}
use Rattle.java_expr_grammar.specs.Reading.{whole}
use Rattle.java_type_parser.proofs.LawsToCite.{length_shown}
use Rattle.java_declaration_parser.specs.Found.{is_end}

pub whole_end : {A : Type 0} (x : A) (ts : Tokens) → is_end ts ≡ true → whole (Some (x, ts)) ≡ Some x
whole_end x [] e = refl
whole_end x (t ∷ ts) e = absurd (cc e)

pub whole_more : {A : Type 0} (x : A) (ts : Tokens) → is_end ts ≡ false → whole (Some (x, ts)) ≡ None
whole_more x [] e = absurd (cc e)
whole_more x (t ∷ ts) e = refl

pub ruleset wholes = (whole_end, whole_more)

pub ruleset lists = (length_shown)
