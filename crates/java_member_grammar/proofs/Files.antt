-- Lines of packages and imports: what is read is spelled so, and what is spelled so is read.
use Rattle.std.proofs.Common.{◌≡◌, false, ◌++◌, [], ◌∷◌, Option, Some, None, refl, ap, sym, ◌∙◌, subst}
use Rattle.java_tree.specs.declared.tokens.Position.{Position}
use Rattle.java_tree.specs.declared.tokens.Mark.TheVariants as m
use Rattle.java_tree.specs.declared.tokens.Keyword.TheVariants as w
use Rattle.java_tree.specs.Seen.{Token, Tokens}
use Rattle.java_tree.specs.declared.types.JQualified.{JQualified}
use Rattle.java_tree.specs.Trees.{qualified_tokens}
use Rattle.java_expr_grammar.specs.Reading.{whole, qualified}
use Rattle.java_expr_grammar.proofs.LawsToCite.{bind_some, some_same, qualified_sound, qualified_again, begins_member}
use Rattle.java_statement_grammar.specs.Reading.{semicolon}
use Rattle.java_statement_grammar.proofs.LawsToCite.{whole_only, semicolon_only}
use Rattle.java_member_grammar.specs.declared.lines.JPackage.{JPackage}
use Rattle.java_member_grammar.specs.declared.lines.JStar.{JStar}
use Rattle.java_member_grammar.specs.declared.lines.JImport.{JImport}
use Rattle.java_member_grammar.specs.Heads.{star_tokens, package_tokens, import_tokens}
use Rattle.java_member_grammar.specs.Reading.{star_by, package_by, package_line, import_by, import_line}

-- ---- packages

package_sound : (at : Position) (q : JQualified × Tokens) (x : JPackage) → whole (package_by at q) ≡ Some x → package_tokens x ≡ Token.Word w.Package at ∷ (qualified_tokens q.0 ++ q.1)
package_sound at q x h =
    let s = bind_some (semicolon q.1) _ _ (whole_only (package_by at q) x h) in
    let same : (record { at = at; name = q.0; end = s.0.0 }, s.0.1) ≡ (x, []) = some_same s.2 in
    let P : JPackage × Tokens → Type 0 = λ y. Token.Word w.Package at ∷ (qualified_tokens q.0 ++ q.1) ≡ Token.Word w.Package y.0.at ∷ (qualified_tokens y.0.name ++ Token.Sign m.Semicolon y.0.end ∷ y.1) in
    sym (subst P same (ap (λ r. Token.Word w.Package at ∷ (qualified_tokens q.0 ++ r)) (semicolon_only q.1 s.0 s.1)))

-- A line that is read is spelled so.
pub package_is_spelled : (ts : Tokens) (x : JPackage) → package_line ts ≡ Some x → package_tokens x ≡ ts
package_is_spelled (Token.Word w.Package at ∷ Token.Id n p ∷ rest) x h =
    package_sound at (qualified n p rest) x h ∙ ap (λ r. Token.Word w.Package at ∷ r) (sym (qualified_sound n p rest))
package_is_spelled _ x h = absurd (cc h)

package_again : (x : JPackage) → package_line (package_tokens x) ≡ Some x
package_again x = ap (λ (y : JQualified × Tokens). whole (package_by x.at y)) (qualified_again x.name (Token.Sign m.Semicolon x.end ∷ []) refl)

-- A line that is spelled so is read.
pub package_is_read : (ts : Tokens) (x : JPackage) → package_tokens x ≡ ts → package_line ts ≡ Some x
package_is_read ts x same = subst (λ ts. package_line ts ≡ Some x) same (package_again x)

-- ---- imports

star_text : (ts : Tokens) → ts ≡ star_tokens (star_by ts).0 ++ (star_by ts).1
star_text (Token.Sign m.Dot dot ∷ Token.Sign m.Star at ∷ rest) = refl
star_text _ = refl

import_sound : (at : Position) (q : JQualified × Tokens) (x : JImport) → whole (import_by at q) ≡ Some x → import_tokens x ≡ Token.Word w.Import at ∷ (qualified_tokens q.0 ++ q.1)
import_sound at q x h =
    let s = bind_some (semicolon (star_by q.1).1) _ _ (whole_only (import_by at q) x h) in
    let star : Option JStar = (star_by q.1).0 in
    let same : (record { at = at; name = q.0; star = star; end = s.0.0 }, s.0.1) ≡ (x, []) = some_same s.2 in
    let P : JImport × Tokens → Type 0 = λ y. Token.Word w.Import at ∷ (qualified_tokens q.0 ++ q.1) ≡ Token.Word w.Import y.0.at ∷ (qualified_tokens y.0.name ++ (star_tokens y.0.star ++ Token.Sign m.Semicolon y.0.end ∷ y.1)) in
    sym (subst P same (ap (λ r. Token.Word w.Import at ∷ (qualified_tokens q.0 ++ r)) (star_text q.1 ∙ ap (λ r. star_tokens star ++ r) (semicolon_only (star_by q.1).1 s.0 s.1))))

-- A line that is read is spelled so.
pub import_is_spelled : (ts : Tokens) (x : JImport) → import_line ts ≡ Some x → import_tokens x ≡ ts
import_is_spelled (Token.Word w.Import at ∷ Token.Id n p ∷ rest) x h =
    import_sound at (qualified n p rest) x h ∙ ap (λ r. Token.Word w.Import at ∷ r) (sym (qualified_sound n p rest))
import_is_spelled _ x h = absurd (cc h)

star_no_member : (x : Option JStar) (end : Position) → begins_member (star_tokens x ++ Token.Sign m.Semicolon end ∷ []) ≡ false
star_no_member None end = refl
star_no_member (Some x) end = refl

star_again : (x : Option JStar) (end : Position) → star_by (star_tokens x ++ Token.Sign m.Semicolon end ∷ []) ≡ (x, Token.Sign m.Semicolon end ∷ [])
star_again None end = refl
star_again (Some x) end = refl

import_again : (x : JImport) → import_line (import_tokens x) ≡ Some x
import_again x =
    ap (λ (y : JQualified × Tokens). whole (import_by x.at y)) (qualified_again x.name (star_tokens x.star ++ Token.Sign m.Semicolon x.end ∷ []) (star_no_member x.star x.end))
    ∙ rw (star_again x.star x.end) refl

-- A line that is spelled so is read.
pub import_is_read : (ts : Tokens) (x : JImport) → import_tokens x ≡ ts → import_line ts ≡ Some x
import_is_read ts x same = subst (λ ts. import_line ts ≡ Some x) same (import_again x)
