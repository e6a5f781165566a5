-- The tokens of each form of a type.
use Rattle.std.proofs.Common.{◌≡◌, Bool, List, [], ◌∷◌, ◌++◌, map, ap, sym, ◌∙◌}
use Rattle.java_tree.specs.declared.tokens.Position.{Position}
use Rattle.java_tree.specs.declared.tokens.Mark.TheVariants as m
use Rattle.java_tree.specs.Seen.{Token, Tokens}
use Rattle.java_tree.specs.declared.types.Primitive.{Primitive}
use Rattle.java_tree.specs.declared.types.JQualified.{JQualified}
use Rattle.java_tree.specs.declared.types.JBrackets.{JBrackets}
use Rattle.java_tree.specs.declared.types.JType.{JType, fold-roll-JType}
use Rattle.java_tree.specs.declared.types.JType.TheVariants as ty
use Rattle.java_tree.specs.declared.types.JType.TheOpen.{JType-F}
use Rattle.java_tree.specs.Trees.{listed, closing, primitive_word, qualified_tokens, brackets_tokens, type_tokens, type_tokens_by}

pub tokens_Primitive : (p : Primitive) (at : Position) → type_tokens (ty.Primitive p at) ≡ Token.Word (primitive_word p) at ∷ []
unfolding type_tokens
tokens_Primitive p at = ap type_tokens (sym (ty.rolls-Primitive p at)) ∙ fold-roll-JType Tokens type_tokens_by (JType-F.Primitive p at)

pub tokens_Class : (q : JQualified) → type_tokens (ty.Class q) ≡ qualified_tokens q
unfolding type_tokens
tokens_Class q = ap type_tokens (sym (ty.rolls-Class q)) ∙ fold-roll-JType Tokens type_tokens_by (JType-F.Class q)

pub tokens_Applied : (q : JQualified) (lp : Position) (args : List JType) (commas : List Position) (is_joined : Bool) (close : Position)
    → type_tokens (ty.Applied q lp args commas is_joined close)
    ≡ qualified_tokens q ++ Token.Sign m.Less lp ∷ (listed commas (map type_tokens args) ++ Token.Sign (closing is_joined) close ∷ [])
unfolding type_tokens
tokens_Applied q lp args commas is_joined close =
    ap type_tokens (sym (ty.rolls-Applied q lp args commas is_joined close))
    ∙ fold-roll-JType Tokens type_tokens_by (JType-F.Applied q lp args commas is_joined close)

pub tokens_Array : (x : JType) (pairs : List JBrackets) → type_tokens (ty.Array x pairs) ≡ type_tokens x ++ brackets_tokens pairs
unfolding type_tokens
tokens_Array x pairs = ap type_tokens (sym (ty.rolls-Array x pairs)) ∙ fold-roll-JType Tokens type_tokens_by (JType-F.Array x pairs)

pub ruleset types = (tokens_Primitive, tokens_Class, tokens_Applied, tokens_Array)
