-- Reading, a step at a time.
use Rattle.std.proofs.Common.{suc, ◌≡◌, ℕ, true, false, if◌then◌else◌, [], ◌∷◌, Option, Some, None, refl}
use Rattle.java_tree.specs.declared.tokens.Position.{Position}
use Rattle.java_tree.specs.declared.tokens.Mark.TheVariants as mark
use Rattle.java_tree.specs.declared.tokens.Keyword.TheVariants as w
use Rattle.java_tree.specs.Seen.{Token, Tokens}
use Rattle.java_tree.specs.declared.exprs.JExpr.{JExpr}
use Rattle.java_expr_grammar.specs.Reading.{Read, Listed, ◌>>=◌, maybe, is_some, comma, close, open_round, ident, type_read, base_read, typed_read, args_from, read}
use Rattle.java_statement_grammar.specs.Reading.{args_read}
use Rattle.java_member_grammar.specs.declared.lines.JArguments.{JArguments}
use Rattle.java_member_grammar.specs.declared.heads.JMemberHead.TheVariants as head
use Rattle.java_member_grammar.specs.Reading as m
use Rattle.java_declaration_parser.proofs.LawsToCite.{whole_end, whole_more}
use Rattle.java_declaration_parser.specs.Found.{is_end}
use Rattle.java_member_parser.specs.Steps.{only_static, star_at, starred, package_at, import_at, end_of, whole_member}

-- ---- looks ahead

pub call_is : (ts : Tokens) → m.begins_call ts ≡ maybe (ident ts) false (λ x. is_some (open_round x.1))
call_is [] = refl
call_is (Token.Id n at ∷ []) = refl
call_is (Token.Id n at ∷ Token.Sign mark.OpenRound p ∷ ts) = refl
call_is (Token.Id n at ∷ _ ∷ ts) = refl
call_is (_ ∷ ts) = refl

name_after : (at : Position) (ts : Tokens) → m.comma_name (Token.Sign mark.Comma at ∷ ts) ≡ (if m.begins_id ts then Some (at, ts) else None)
name_after at [] = refl
name_after at (Token.Id n p ∷ ts) = refl
name_after at (_ ∷ ts) = refl

pub name_is : (ts : Tokens) → m.comma_name ts ≡ (comma ts >>= λ c. if m.begins_id c.1 then Some c else None)
name_is [] = refl
name_is (Token.Sign mark.Comma at ∷ ts) = name_after at ts
name_is (_ ∷ ts) = refl

star_after : (d : Position) (ts : Tokens) → m.star_by (Token.Sign mark.Dot d ∷ ts) ≡ maybe (starred d ts) (None, Token.Sign mark.Dot d ∷ ts) (λ s. (Some s.0, s.1))
star_after d [] = refl
star_after d (Token.Sign mark.Star at ∷ ts) = refl
star_after d (_ ∷ ts) = refl

pub star_is : (ts : Tokens) → m.star_by ts ≡ maybe (star_at ts) (None, ts) (λ s. (Some s.0, s.1))
star_is [] = refl
star_is (Token.Sign mark.Dot d ∷ ts) = star_after d ts
star_is (_ ∷ ts) = refl

pub package_is : (at : Position) (ts : Tokens) → m.package_line (Token.Word w.Package at ∷ ts) ≡ package_at at ts
package_is at [] = refl
package_is at (Token.Id n p ∷ ts) = refl
package_is at (_ ∷ ts) = refl

pub import_is : (at : Position) (ts : Tokens) → m.import_line (Token.Word w.Import at ∷ ts) ≡ import_at at ts
import_is at [] = refl
import_is at (Token.Id n p ∷ ts) = refl
import_is at (_ ∷ ts) = refl

end_after : (at : Position) (ts : Tokens) → m.constants_end (Token.Sign mark.Comma at ∷ ts) ≡ end_of (Some at) ts
end_after at [] = refl
end_after at (Token.Sign mark.Semicolon end ∷ []) = refl
end_after at (Token.Sign mark.Semicolon end ∷ t ∷ ts) = refl
end_after at (_ ∷ ts) = refl

pub constants_end_is : (ts : Tokens) → m.constants_end ts ≡ maybe (comma ts) (end_of None ts) (λ c. end_of (Some c.0) c.1)
constants_end_is [] = refl
constants_end_is (Token.Sign mark.Semicolon end ∷ []) = refl
constants_end_is (Token.Sign mark.Semicolon end ∷ t ∷ ts) = refl
constants_end_is (Token.Sign mark.Comma at ∷ ts) = end_after at ts
constants_end_is (_ ∷ ts) = refl

-- ---- at the end

pub static_end : (at : Position) (ts : Tokens) → is_end ts ≡ true → only_static (Token.Word w.Static at ∷ ts) ≡ Some at
static_end at [] e = refl
static_end at (t ∷ ts) e = absurd (cc e)

pub static_more : (at : Position) (ts : Tokens) → is_end ts ≡ false → only_static (Token.Word w.Static at ∷ ts) ≡ None
static_more at [] e = absurd (cc e)
static_more at (t ∷ ts) e = refl

pub semicolon_end : (more : Option Position) (at : Position) (ts : Tokens) → is_end ts ≡ true → end_of more (Token.Sign mark.Semicolon at ∷ ts) ≡ Some (more, Some at)
semicolon_end more at [] e = refl
semicolon_end more at (t ∷ ts) e = absurd (cc e)

pub semicolon_more : (more : Option Position) (at : Position) (ts : Tokens) → is_end ts ≡ false → end_of more (Token.Sign mark.Semicolon at ∷ ts) ≡ None
semicolon_more more at [] e = absurd (cc e)
semicolon_more more at (t ∷ ts) e = refl

-- ---- before a block

pub block_end : (d e : ℕ) (ts : Tokens) → is_end ts ≡ true → m.before_block d e ts ≡ Some (head.Initializer None)
unfolding m.before_block
block_end d e [] h = refl
block_end d e (t ∷ ts) h = absurd (cc h)

pub block_more : (d e : ℕ) (ts : Tokens) → is_end ts ≡ false → m.before_block d e ts ≡ maybe (only_static ts) (whole_member d e ts) (λ at. Some (head.Initializer (Some at)))
unfolding m.before_block
block_more d e [] h = absurd (cc h)
block_more d e (Token.Word w.Static at ∷ []) h = refl
block_more d e (Token.Word w.Static at ∷ t ∷ ts) h = refl
block_more d e (_ ∷ ts) h = refl

-- ---- arguments

abbrev pub grouped : Position → (Listed JExpr × Position) × Tokens → Read JArguments
grouped lp x = Some (record { opens = lp; items = x.0.0.0; commas = x.0.0.1; closes = x.0.1 }, x.1)

closed : (lp : Position) (args : Listed JExpr) (o : Read Position)
    → (o >>= λ rp. grouped lp ((args, rp.0), rp.1)) ≡ ((o >>= λ rp. Some ((args, rp.0), rp.1)) >>= grouped lp)
closed lp args None = refl
closed lp args (Some rp) = refl

listed : (lp : Position) (o : Read (Listed JExpr))
    → (o >>= λ a. close a.1 >>= λ rp. grouped lp ((a.0, rp.0), rp.1)) ≡ ((o >>= λ a. close a.1 >>= λ rp. Some ((a.0, rp.0), rp.1)) >>= grouped lp)
listed lp None = refl
listed lp (Some a) = closed lp a.0 (close a.1)

pub arguments_is : (d : ℕ) (lp : Position) (ts : Tokens) → m.arguments_of d lp ts ≡ (args_read d ts >>= grouped lp)
unfolding m.arguments_of args_read
arguments_is d lp ts = listed lp (args_from (type_read d) (base_read (suc d)) (typed_read d) (read d) ts)

pub ruleset looks = (call_is, name_is, star_is, package_is, import_is, constants_end_is)

pub ruleset ends = (whole_end, whole_more, static_end, static_more, semicolon_end, semicolon_more)

pub ruleset blocks = (block_end, block_more)

pub ruleset groups = (arguments_is)
