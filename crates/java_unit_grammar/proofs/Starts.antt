-- What statements begin with.
use Rattle.std.proofs.Common.{◌≡◌, ℕ, zero, suc, Bool, true, false, List, [], ◌∷◌, ◌++◌, length, map, Option, Some, None, refl, ap, sym, ◌∙◌, subst, arith}
use Rattle.java_tree.specs.declared.tokens.Position.{Position}
use Rattle.java_tree.specs.declared.tokens.Mark.TheVariants as m
use Rattle.java_tree.specs.declared.tokens.Keyword.{Keyword}
use Rattle.java_tree.specs.declared.tokens.Keyword.TheVariants as w
use Rattle.java_tree.specs.Seen.{Token, Tokens}
use Rattle.java_tree.specs.declared.types.Primitive.{Primitive}
use Rattle.java_tree.specs.declared.types.Primitive.TheVariants as primitive
use Rattle.java_tree.specs.declared.types.JType.{JType, out-JType, map-JType}
use Rattle.java_tree.specs.declared.types.JType.TheOpen.{JType-F}
use Rattle.java_tree.specs.Trees.{primitive_word, type_tokens, type_tokens_by, type_stands_by, TypeStands, final_tokens, any_level}
use Rattle.java_expr_grammar.proofs.LawsToCite.{First, first, starts, type_tokens_out}
use Rattle.java_statement_grammar.specs.declared.statements.JSimple.{JSimple}
use Rattle.java_statement_grammar.specs.declared.statements.JSimple.TheVariants as simple
use Rattle.java_statement_grammar.specs.Heads.{declaration_tokens, simple_tokens, SimpleStands}
use Rattle.java_unit_grammar.specs.Tokens.{filled}
use Rattle.java_unit_grammar.specs.Standing.{counts, Role}
use Rattle.java_unit_grammar.specs.Cutting.{Stop}
use Rattle.java_unit_grammar.specs.Reading as r
use Rattle.java_unit_grammar.proofs.Cuts.{walk, walk_next}

-- whether it may begin what stands before a `;`
abbrev pub leads_word : Keyword → Bool
leads_word w.If = false
leads_word w.While = false
leads_word w.Do = false
leads_word w.For = false
leads_word w.Switch = false
leads_word w.Synchronized = false
leads_word w.Try = false
leads_word w.Else = false
leads_word w.Case = false
leads_word w.Default = false
leads_word w.Catch = false
leads_word w.Finally = false
leads_word _ = true

abbrev pub leads : Token → Bool
leads (Token.Sign m.OpenCurly at) = false
leads (Token.Sign m.CloseCurly at) = false
leads (Token.Sign mark at) = true
leads (Token.Word word at) = leads_word word
leads (Token.ArrowBody at span) = false
leads (Token.CloseBody at span) = false
leads _ = true

pub record Led (ts : Tokens) : Type 0 where
  pub head : Token
  pub tail : Tokens
  pub is : ts ≡ head ∷ tail
  pub leads : leads head ≡ true

led : (x : Token) (ts : Tokens) → leads x ≡ true → Led (x ∷ ts)
led x ts h = record { head = x; tail = ts; is = refl; leads = h }

pub led_further : (a b : Tokens) → Led a → Led (a ++ b)
led_further a b f = record { head = f.head; tail = f.tail ++ b; is = ap (λ (l : Tokens). l ++ b) f.is; leads = f.leads }

primitive_leads : (p : Primitive) → leads_word (primitive_word p) ≡ true
primitive_leads primitive.Byte = refl
primitive_leads primitive.Short = refl
primitive_leads primitive.Char = refl
primitive_leads primitive.Int = refl
primitive_leads primitive.Long = refl
primitive_leads primitive.Boolean = refl

type_layer : (d : ℕ) → ((x : JType) → TypeStands d x → Led (type_tokens x)) → (x : JType-F JType) → type_stands_by (TypeStands d) x → Led (type_tokens_by (map-JType JType Tokens type_tokens x))
type_layer d h (JType-F.Primitive p at) s = led _ _ (primitive_leads p)
type_layer d h (JType-F.Class q) s = led _ _ refl
type_layer d h (JType-F.Applied q lp args commas j rp) s = led _ _ refl
type_layer d h (JType-F.Array element brackets) s = led_further _ _ (h element s.2)

pub type_leads : (d : ℕ) (x : JType) → TypeStands d x → Led (type_tokens x)
unfolding TypeStands
type_leads zero x s = absurd s
type_leads (suc d) x s = subst Led (sym (type_tokens_out x)) (type_layer d (type_leads d) (out-JType x) s)

final_leads : (is_final : Option Position) (ts : Tokens) → Led ts → Led (final_tokens is_final ++ ts)
final_leads None ts f = f
final_leads (Some at) ts f = led _ _ refl

starts_leads : (x : Token) → starts x ≡ true → leads x ≡ true
starts_leads (Token.Sign m.OpenCurly at) h = absurd (cc h)
starts_leads (Token.Sign m.CloseCurly at) h = absurd (cc h)
starts_leads (Token.Sign _ at) h = refl
starts_leads (Token.Word w.This at) h = refl
starts_leads (Token.Word w.Super at) h = refl
starts_leads (Token.Word w.New at) h = refl
starts_leads (Token.Word _ at) h = absurd (cc h)
starts_leads (Token.Id n at) h = refl
starts_leads (Token.Literal x at) h = refl
starts_leads (Token.ArrowBody at span) h = absurd (cc h)
starts_leads (Token.CloseBody at span) h = absurd (cc h)

first_leads : (ts : Tokens) → First ts → Led ts
first_leads ts f = record { head = f.head; tail = f.tail; is = f.is; leads = starts_leads f.head f.starts }

-- what stands before a `;`, and the `;`
pub simple_leads : (d : ℕ) (x : JSimple) (end : Position) (rest : Tokens) → SimpleStands d x → Led (simple_tokens x ++ Token.Sign m.Semicolon end ∷ rest)
simple_leads d simple.Empty end rest s = led _ _ refl
simple_leads d (simple.Declaration x) end rest s = led_further (declaration_tokens x) _ (final_leads x.is_final _ (led_further _ _ (type_leads d x.kind s.kind)))
simple_leads d (simple.Expression x) end rest s = led_further _ _ (first_leads _ (first d any_level x (omega arith) s.stands))
simple_leads d (simple.Break at x) end rest s = led _ _ refl
simple_leads d (simple.Continue at x) end rest s = led _ _ refl
simple_leads d (simple.Return at x) end rest s = led _ _ refl
simple_leads d (simple.Throw at x) end rest s = led _ _ refl
simple_leads d (simple.ThisCall at lp args commas rp) end rest s = led _ _ refl
simple_leads d (simple.SuperCall at lp args commas rp) end rest s = led _ _ refl

-- ---- the same of the tokens with those of the bodies

-- the first token of a head with its bodies
first_stays : (x : Token) (text : Tokens) (bs : List Tokens) (rest : Tokens) → leads x ≡ true → filled (x ∷ text) bs ++ rest ≡ x ∷ (filled text bs ++ rest)
first_stays (Token.Sign mark at) text bs rest h = refl
first_stays (Token.Word word at) text bs rest h = refl
first_stays (Token.Id n at) text bs rest h = refl
first_stays (Token.Literal x at) text bs rest h = refl
first_stays (Token.ArrowBody at span) text bs rest h = absurd (cc h)
first_stays (Token.CloseBody at span) text bs rest h = absurd (cc h)

pub filled_leads : (text : Tokens) (bs : List Tokens) (end : Position) (rest : Tokens) → Led (text ++ Token.Sign m.Semicolon end ∷ rest) → map length bs ≡ counts text
    → Led (filled text bs ++ Token.Sign m.Semicolon end ∷ rest)
filled_leads [] bs end rest f c = led _ _ refl
filled_leads (x ∷ text) bs end rest f c =
    let h : f.head ≡ x = let e = f.is in sym (cc e) in
    let l : leads x ≡ true = ap leads (sym h) ∙ f.leads in
    record { head = x; tail = filled text bs ++ Token.Sign m.Semicolon end ∷ rest; is = first_stays x text bs (Token.Sign m.Semicolon end ∷ rest) l; leads = l }

abbrev pub begins_colon : Tokens → Bool
begins_colon (Token.Sign m.Colon at ∷ rest) = true
begins_colon _ = false

colon_stays : (x : Token) (text : Tokens) (bs : List Tokens) (rest : Tokens) → begins_colon (filled (x ∷ text) bs ++ rest) ≡ begins_colon (x ∷ [])
colon_stays (Token.ArrowBody at span) text [] rest = refl
colon_stays (Token.CloseBody at span) text [] rest = refl
colon_stays (Token.ArrowBody at span) text (b ∷ bs) rest = refl
colon_stays (Token.CloseBody at span) text (b ∷ bs) rest = refl
colon_stays (Token.Sign m.Colon at) text bs rest = refl
colon_stays (Token.Sign _ at) text bs rest = refl
colon_stays (Token.Word word at) text bs rest = refl
colon_stays (Token.Id n at) text bs rest = refl
colon_stays (Token.Literal x at) text bs rest = refl

colon_stops : (x : Token) (flag : Bool) (text : Tokens) → walk Stop.Colon 0 flag (x ∷ text) ≡ Some 0 → begins_colon (x ∷ []) ≡ false
colon_stops (Token.Sign m.Colon at) flag text h = let i = (walk_next Stop.Colon 0 flag (Token.Sign m.Colon at) text 0 h).2 in absurd (cc i)
colon_stops (Token.Sign _ at) flag text h = refl
colon_stops (Token.Word word at) flag text h = refl
colon_stops (Token.Id n at) flag text h = refl
colon_stops (Token.Literal x at) flag text h = refl
colon_stops (Token.ArrowBody at span) flag text h = refl
colon_stops (Token.CloseBody at span) flag text h = refl

no_colon : (flag : Bool) (text : Tokens) (bs : List Tokens) (end : Position) (rest : Tokens) → walk Stop.Colon 0 flag text ≡ Some 0 → begins_colon (filled text bs ++ Token.Sign m.Semicolon end ∷ rest) ≡ false
no_colon flag [] bs end rest h = refl
no_colon flag (x ∷ text) bs end rest h = colon_stays x text bs (Token.Sign m.Semicolon end ∷ rest) ∙ colon_stops x flag text h

-- what the reader takes for what stands before a `;`
abbrev pub goes_simple : Tokens → Bool
goes_simple (Token.Id n at ∷ Token.Sign m.Colon colon ∷ rest) = false
goes_simple (x ∷ rest) = leads x
goes_simple [] = true

behind_id : (n : List ℕ) (at : Position) (ts : Tokens) → begins_colon ts ≡ false → goes_simple (Token.Id n at ∷ ts) ≡ true
behind_id n at (Token.Sign m.Colon colon ∷ rest) h = absurd (cc h)
behind_id n at _ h = refl

behind_first : (x : Token) (text : Tokens) (bs : List Tokens) (end : Position) (rest : Tokens) → leads x ≡ true → walk Stop.Colon 0 false (x ∷ text) ≡ Some 0
    → goes_simple (x ∷ (filled text bs ++ Token.Sign m.Semicolon end ∷ rest)) ≡ true
behind_first (Token.Id n at) text bs end rest l h =
    let i = walk_next Stop.Colon 0 false (Token.Id n at) text 0 h in
    let j : 0 ≡ i.1 = let e = i.2 in cc e in
    behind_id n at (filled text bs ++ Token.Sign m.Semicolon end ∷ rest) (no_colon false text bs end rest (ap (λ k. walk Stop.Colon k false text) j ∙ i.3))
behind_first (Token.Sign mark at) text bs end rest l h = l
behind_first (Token.Word word at) text bs end rest l h = l
behind_first (Token.Literal x at) text bs end rest l h = l
behind_first (Token.ArrowBody at span) text bs end rest l h = l
behind_first (Token.CloseBody at span) text bs end rest l h = l

pub filled_simple : (text : Tokens) (bs : List Tokens) (end : Position) (rest : Tokens) → Led (text ++ Token.Sign m.Semicolon end ∷ rest)
    → walk Stop.Colon 0 false text ≡ Some 0 → goes_simple (filled text bs ++ Token.Sign m.Semicolon end ∷ rest) ≡ true
filled_simple [] bs end rest f h = refl
filled_simple (x ∷ text) bs end rest f h =
    let e : f.head ≡ x = let i = f.is in sym (cc i) in
    let l : leads x ≡ true = ap leads (sym e) ∙ f.leads in
    ap goes_simple (first_stays x text bs (Token.Sign m.Semicolon end ∷ rest) l) ∙ behind_first x text bs end rest l h

module _ (R : r.Readers) (d : ℕ) where
  word_simple : (place : Role) (word : Keyword) (at : Position) (ts : Tokens) → leads_word word ≡ true → r.worded R d place word at ts ≡ r.simple R d place (Token.Word word at ∷ ts)
  word_simple place w.If at ts h = absurd (cc h)
  word_simple place w.While at ts h = absurd (cc h)
  word_simple place w.Do at ts h = absurd (cc h)
  word_simple place w.For at ts h = absurd (cc h)
  word_simple place w.Switch at ts h = absurd (cc h)
  word_simple place w.Synchronized at ts h = absurd (cc h)
  word_simple place w.Try at ts h = absurd (cc h)
  word_simple place _ at ts h = refl

  pub step_simple : (place : Role) (ts : Tokens) → goes_simple ts ≡ true → r.statement_step R d place ts ≡ r.simple R d place ts
  step_simple place (Token.Sign m.OpenCurly at ∷ rest) h = absurd (cc h)
  step_simple place (Token.Word word at ∷ rest) h = word_simple place word at rest h
  step_simple place (Token.Id n at ∷ Token.Sign m.Colon colon ∷ rest) h = absurd (cc h)
  step_simple place _ h = refl
