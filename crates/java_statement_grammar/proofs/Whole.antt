-- Reading whole lists.
use Rattle.std.proofs.Common.{◌≡◌, ◌<◌, ℕ, [], ◌∷◌, ◌++◌, Option, Some, None, true, refl, ap, sym, ◌∙◌, append_assoc, arith}
use Rattle.std.proofs.lemmas.List.{append-nil}
use Rattle.java_tree.specs.declared.tokens.Position.{Position}
use Rattle.java_tree.specs.declared.tokens.Mark.TheVariants as m
use Rattle.java_tree.specs.Seen.{Token, Tokens}
use Rattle.java_tree.specs.declared.exprs.JExpr.{JExpr}
use Rattle.java_tree.specs.Trees.{tokens, any_level, Stands}
use Rattle.java_expr_grammar.specs.Reading as r
use Rattle.java_expr_grammar.specs.Reading.{Read, Reader, whole}
use Rattle.java_expr_grammar.proofs.LawsToCite.{some_same, sound, again, after, bound_pos}
use Rattle.java_statement_grammar.specs.Reading.{ends_expressions}

pub whole_only : {A : Type 0} (o : Read A) (x : A) → whole o ≡ Some x → o ≡ Some (x, [])
whole_only None x h = absurd (cc h)
whole_only {A} (Some (y, [])) x h = let same : y ≡ x = some_same h in ap (λ (z : A). Option.Some (z, [])) same
whole_only (Some (y, t ∷ ts)) x h = absurd (cc h)

pub whole_again : {A : Type 0} (read : Reader A) (ts : Tokens) (x : A) → read (ts ++ []) ≡ Some (x, []) → whole (read ts) ≡ Some x
whole_again read ts x h = ap (λ us. whole (read us)) (sym (append-nil ts)) ∙ ap whole h

pub three : (a b c e : Tokens) → (a ++ (b ++ c)) ++ e ≡ a ++ (b ++ (c ++ e))
three a b c e = append_assoc a (b ++ c) e ∙ ap (λ r. a ++ r) (append_assoc b c e)

-- ---- expressions

pub read_sound : (d l : ℕ) (ts : Tokens) (x : JExpr) → whole (r.read d l ts) ≡ Some x → (tokens x ≡ ts) × Stands d l x
read_sound d l ts x h = let i = sound d l ts (x, []) (whole_only (r.read d l ts) x h) in (sym (i.0 ∙ append-nil (tokens x)), i.1)

pub any_again : (d : ℕ) (x : JExpr) → Stands d any_level x → (rest : Tokens) → after rest < 2 → r.read d any_level (tokens x ++ rest) ≡ Some (x, rest)
any_again d x s rest h = again d any_level x s rest h (omega (arith, bound_pos x))

pub end_low : (rest : Tokens) → ends_expressions rest ≡ true → after rest < 1
unfolding r.suffix
end_low [] h = omega arith
end_low (Token.Sign m.Semicolon at ∷ rest) h = omega arith
end_low _ h = absurd (cc h)

pub end_no_comma : (rest : Tokens) → ends_expressions rest ≡ true → r.comma rest ≡ None
end_no_comma [] h = refl
end_no_comma (Token.Sign m.Semicolon at ∷ rest) h = refl
end_no_comma _ h = absurd (cc h)

pub commas_low : (at : Position) (rest : Tokens) → after (Token.Sign m.Comma at ∷ rest) < 2
unfolding r.suffix
commas_low at rest = omega arith

pub commas_lower : (at : Position) (rest : Tokens) → after (Token.Sign m.Comma at ∷ rest) < 1
unfolding r.suffix
commas_lower at rest = omega arith

pub read_again : (d : ℕ) (x : JExpr) → Stands d any_level x → whole (r.read d any_level (tokens x)) ≡ Some x
read_again d x s = whole_again (r.read d any_level) (tokens x) x (any_again d x s [] (omega (arith, end_low [] refl)))
