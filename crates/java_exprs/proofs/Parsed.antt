-- What an answer of the parser promises.
use Rattle.std.proofs.Common.{◌≡◌, List, [], ◌∷◌, Some, None, refl, ap, sym, ◌∙◌, subst}
use Rattle.java_tree.specs.declared.exprs.JExpr.{JExpr}
use Rattle.java_tree.specs.Seen.{Tokens}
use Rattle.java_tree.specs.Trees.{any_level, max_depth, JSpells, JSpellsNone}
use Rattle.java_expr_grammar.specs.Reading as r
use Rattle.java_expr_grammar.proofs.LawsToCite.{is_spelled, is_read}
use Rattle.java_token_cursor.specs.declared.piece.Piece.{Piece}
use Rattle.java_token_cursor.specs.Shown.{shown}

none_shown : (ts : List Piece) → shown ts ≡ [] → ts ≡ []
unfolding shown
none_shown [] e = refl
none_shown (x ∷ ts) e = absurd (cc e)

pub shown_none : shown [] ≡ []
unfolding shown
shown_none = refl

pub spelled_whole : (ts rest : Tokens) (x : JExpr) → r.read max_depth any_level ts ≡ Some (x, rest) → rest ≡ [] → JSpells x ts
spelled_whole ts rest x e none =
    let same : r.read max_depth any_level ts ≡ Some (x, []) = subst (λ us. r.read max_depth any_level ts ≡ Some (x, us)) none e in
    is_spelled ts x (ap r.whole same)

missed : (o : r.Read JExpr) (x : JExpr) → o ≡ None → r.whole o ≡ Some x → ⊥
missed None x e h = cc h
missed (Some y) x e h = cc e

longer : (rest : Tokens) (x y : JExpr) → ¬ (rest ≡ []) → r.whole (Some (y, rest)) ≡ Some x → ⊥
longer [] x y some h = some refl
longer (t ∷ ts) x y some h = cc h

pub none_read : (ts : Tokens) → r.read max_depth any_level ts ≡ None → JSpellsNone ts
none_read ts e = record { none = λ x s. missed (r.read max_depth any_level ts) x e (is_read ts x s) }

pub none_longer : (ts : Tokens) (rest : List Piece) (y : JExpr) → r.read max_depth any_level ts ≡ Some (y, shown rest) → ¬ (rest ≡ []) → JSpellsNone ts
none_longer ts rest y e some = record { none = λ x s. longer (shown rest) x y (λ same. some (none_shown rest same)) (sym (ap r.whole e) ∙ is_read ts x s) }

pub ruleset parsed = (none_read, none_longer)
