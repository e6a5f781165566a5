-- The tokens of each form.
use Rattle.std.proofs.Common.{◌≡◌, List, [], ◌∷◌, ◌++◌, append_assoc}
use Rattle.std.proofs.lemmas.List.{append-nil}
use Rattle.java_expr_grammar.proofs.LawsToCite.{seen_more, seen_none, expr_parts as depths, type_parts as type_depths, types, texts}
use Rattle.java_expr_printer.proofs.Expanded.{expansions, written_texts}

-- what was there, and then a token
pub mark_joins : {A : Type 0} (a : List A) (x : A) (b : List A) → (a ++ x ∷ []) ++ b ≡ a ++ x ∷ b
mark_joins a x b = append_assoc a (x ∷ []) b

pub ruleset joins = (append_assoc, append-nil, depths, type_depths, types, texts, seen_more, seen_none, written_texts, expansions)
