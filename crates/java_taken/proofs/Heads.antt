-- The first token of statements and members.
use Rattle.std.proofs.Common.{◌≡◌, List, [], ◌∷◌, ◌++◌, refl, ap, sym, ◌∙◌}
use Rattle.java_tree.specs.declared.tokens.Position.{Position}
use Rattle.java_tree.specs.declared.exprs.JExpr.{JExpr}
use Rattle.java_tree.specs.declared.types.JType.{JType}
use Rattle.java_tree.specs.Seen.{Token, Tokens}
use Rattle.java_tree.specs.Trees.{tokens, type_tokens, final_tokens}
use Rattle.java_statement_grammar.specs.declared.declarations.JDeclaration.{JDeclaration}
use Rattle.java_member_grammar.specs.declared.modifiers.ModifierKind.{ModifierKind}
use Rattle.java_member_grammar.specs.declared.modifiers.ModifierKind.TheVariants as modifier
use Rattle.java_member_grammar.specs.declared.modifiers.JModifier.{JModifier}
use Rattle.java_member_grammar.specs.Heads.{modifier_tokens}
use Rattle.java_unit_grammar.specs.Tokens.{filled}
use Rattle.java_unit_grammar.proofs.LawsToCite.{tokens_Simple, tokens_Block, tokens_Labeled, tokens_If, tokens_IfElse, tokens_While, tokens_Do, tokens_For, tokens_Switch, tokens_Synchronized, tokens_Try, tokens_TryFinally, tokens_Declared, tokens_Bodied, tokens_Type}
use Rattle.java_taken.specs.Places.{first_or, nowhere, first_at, type_at, declaration_at}
use Rattle.java_taken.proofs.First.{joined_first, first_same, some, type_some}

pub filled_first : (ts : Tokens) (bodies : List Tokens) (p : Position) → first_or (filled ts bodies) p ≡ first_or ts p
filled_first [] bodies p = refl
filled_first (Token.ArrowBody at span ∷ ts) (body ∷ bodies) p = refl
filled_first (Token.ArrowBody at span ∷ ts) [] p = refl
filled_first (Token.CloseBody at span ∷ ts) (body ∷ bodies) p = refl
filled_first (Token.CloseBody at span ∷ ts) [] p = refl
filled_first (Token.Sign mark at ∷ ts) bodies p = refl
filled_first (Token.Word word at ∷ ts) bodies p = refl
filled_first (Token.Id name at ∷ ts) bodies p = refl
filled_first (Token.Literal literal at ∷ ts) bodies p = refl

either : (ts : Tokens) (p q : Position) → first_or (ts ++ []) p ≡ first_or ts p
either [] p q = refl
either (x ∷ ts) p q = refl

pub tokens_or : (x : JExpr) (p : Position) → first_or (tokens x) p ≡ first_at x
unfolding first_at
tokens_or x p = sym (either (tokens x) p nowhere) ∙ first_same (tokens x) [] p nowhere (some x)

pub types_or : (x : JType) (p : Position) → first_or (type_tokens x) p ≡ type_at x
unfolding type_at
types_or x p = sym (either (type_tokens x) p nowhere) ∙ first_same (type_tokens x) [] p nowhere (type_some x)

pub declaration_out : (x : JDeclaration) → declaration_at x ≡ first_or (final_tokens x.is_final) (type_at x.kind)
unfolding declaration_at
declaration_out x =
    joined_first (final_tokens x.is_final) _ nowhere ∙ ap (first_or (final_tokens x.is_final)) (joined_first (type_tokens x.kind) _ nowhere ∙ types_or x.kind _)

kind_or : (kind : ModifierKind) (at p : Position) → first_or (modifier_tokens (record { kind = kind; at = at })) p ≡ at
kind_or modifier.Public at p = refl
kind_or modifier.Protected at p = refl
kind_or modifier.Private at p = refl
kind_or modifier.Abstract at p = refl
kind_or modifier.Static at p = refl
kind_or modifier.Final at p = refl
kind_or modifier.Synchronized at p = refl
kind_or modifier.Volatile at p = refl
kind_or modifier.Default at p = refl
kind_or (modifier.Override name) at p = refl

pub modifier_or : (x : JModifier) (p : Position) → first_or (modifier_tokens x) p ≡ x.at
modifier_or x p = kind_or x.kind x.at p

pub ruleset places = (
  joined_first,
  filled_first,
  tokens_or,
  types_or,
  declaration_out,
  modifier_or,
  tokens_Simple,
  tokens_Block,
  tokens_Labeled,
  tokens_If,
  tokens_IfElse,
  tokens_While,
  tokens_Do,
  tokens_For,
  tokens_Switch,
  tokens_Synchronized,
  tokens_Try,
  tokens_TryFinally,
  tokens_Declared,
  tokens_Bodied,
  tokens_Type,
)
