-- What stands before the end of a head passes: no expression and no head holds what would end it.
use Rattle.std.proofs.Common.{◌≡◌, ◌≤◌, ℕ, zero, suc, Bool, true, false, ◌++◌, List, [], ◌∷◌, length, map, Option, Some, None, refl, ap, sym, ◌∙◌, subst, append_assoc, arith}
use Rattle.std.proofs.lemmas.List.{append-nil}
use Rattle.std.specs.List.{AllByRecursion}
use Rattle.java_tree.specs.declared.tokens.Position.{Position}
use Rattle.java_tree.specs.declared.tokens.Mark.{Mark}
use Rattle.java_tree.specs.declared.tokens.Mark.TheVariants as m
use Rattle.java_tree.specs.Seen.{Token}
use Rattle.java_tree.specs.declared.exprs.PrefixOp.{PrefixOp}
use Rattle.java_tree.specs.declared.exprs.PrefixOp.TheVariants as prefix
use Rattle.java_tree.specs.declared.exprs.PostfixOp.{PostfixOp}
use Rattle.java_tree.specs.declared.exprs.PostfixOp.TheVariants as postfix
use Rattle.java_tree.specs.declared.exprs.BinaryOp.{BinaryOp}
use Rattle.java_tree.specs.declared.exprs.BinaryOp.TheVariants as op
use Rattle.java_tree.specs.declared.exprs.AssignOp.{AssignOp}
use Rattle.java_tree.specs.declared.exprs.AssignOp.TheVariants as assign
use Rattle.java_tree.specs.declared.exprs.Span.{Span}
use Rattle.java_tree.specs.declared.exprs.JCreated.{JCreated}
use Rattle.java_tree.specs.declared.exprs.JCreated.TheVariants as created
use Rattle.java_tree.specs.declared.exprs.JTypedParam.{JTypedParam}
use Rattle.java_tree.specs.declared.exprs.JParam.{JParam}
use Rattle.java_tree.specs.declared.exprs.JParams.{JParams}
use Rattle.java_tree.specs.declared.exprs.JParams.TheVariants as params
use Rattle.java_tree.specs.declared.types.JDotted.{JDotted}
use Rattle.java_tree.specs.declared.types.JQualified.{JQualified}
use Rattle.java_tree.specs.declared.types.JBrackets.{JBrackets}
use Rattle.java_tree.specs.declared.types.JType.{JType, out-JType, map-JType}
use Rattle.java_tree.specs.declared.types.JType.TheOpen.{JType-F}
use Rattle.java_tree.specs.declared.exprs.JExpr.{JExpr, out-JExpr, map-JExpr}
use Rattle.java_tree.specs.declared.exprs.JExpr.TheOpen.{JExpr-F}
use Rattle.java_tree.specs.Seen.{Tokens}
use Rattle.java_tree.specs.Trees.{more_tokens, listed, closing, prefix_mark, postfix_mark, operator_tokens, assign_tokens, init_level, any_level, tokens, tokens_by, type_tokens, type_tokens_by, type_stands_by, TypeStands, TypedStands, stands_by, Stands, params_stand, created_stands, dotted_tokens, qualified_tokens, brackets_tokens, param_tokens, final_tokens, typed_tokens, params_tokens, created_tokens, args_close, trailing, braces_tokens}
use Rattle.java_expr_grammar.proofs.LawsToCite.{First, first, starts, tokens_out, type_tokens_out, Any, any}
use Rattle.java_statement_grammar.specs.declared.declarations.JValue.{JValue}
use Rattle.java_statement_grammar.specs.declared.declarations.JDeclarator.{JDeclarator}
use Rattle.java_statement_grammar.specs.declared.declarations.JDeclaration.{JDeclaration}
use Rattle.java_statement_grammar.specs.declared.statements.JLabelName.{JLabelName}
use Rattle.java_statement_grammar.specs.declared.statements.JSimple.{JSimple}
use Rattle.java_statement_grammar.specs.declared.statements.JSimple.TheVariants as simple
use Rattle.java_statement_grammar.specs.declared.statements.JForStart.{JForStart}
use Rattle.java_statement_grammar.specs.declared.statements.JForStart.TheVariants as start
use Rattle.java_statement_grammar.specs.declared.statements.JForHead.{JForHead}
use Rattle.java_statement_grammar.specs.declared.statements.JForHead.TheVariants as for
use Rattle.java_statement_grammar.specs.declared.statements.JLock.{JLock}
use Rattle.java_statement_grammar.specs.declared.statements.JLock.TheVariants as lock
use Rattle.java_statement_grammar.specs.Heads.{value_tokens, declarator_tokens, declaration_tokens, value_stands, DeclaratorStands, DeclarationStands, StatementStands, label_tokens, maybe_tokens, args_tokens, simple_tokens, maybe_stands, SimpleStands, start_tokens, for_tokens, StartStands, ForStands, lock_tokens, LockStands}
use Rattle.java_unit_grammar.specs.Cutting.{Stop}
use Rattle.java_unit_grammar.proofs.Cuts.{walk}

-- a token that is no bracket, neither `?` nor `:` nor `;`, and no `->`
abbrev is_plain_mark : Mark → Bool
is_plain_mark m.OpenRound = false
is_plain_mark m.CloseRound = false
is_plain_mark m.OpenCurly = false
is_plain_mark m.CloseCurly = false
is_plain_mark m.Question = false
is_plain_mark m.Colon = false
is_plain_mark m.Semicolon = false
is_plain_mark m.Arrow = false
is_plain_mark _ = true

abbrev is_plain : Token → Bool
is_plain (Token.Sign mark at) = is_plain_mark mark
is_plain (Token.CloseBody at body) = false
is_plain _ = true

module _ (stop : Stop) where
  -- how many are open stays, whatever comes behind it and before it,
  pub record Passes (a : Tokens) : Type 0 where
    pub go : (n : ℕ) (flag : Bool) → (out : Bool) × ((rest : Tokens) → walk stop n flag (a ++ rest) ≡ walk stop n out rest)

  -- or where no `{` would open a body
  pub record Begun (a : Tokens) : Type 0 where
    pub go : (n : ℕ) → (out : Bool) × ((rest : Tokens) → walk stop n false (a ++ rest) ≡ walk stop n out rest)

-- brackets that pair, at a stop: how many are open between them
record Pair (stop : Stop) (n : ℕ) (first : Bool) (lp rp : Token) (last : Bool) : Type 0 where
  inside : ℕ
  opens : (rest : Tokens) → walk stop n first (lp ∷ rest) ≡ walk stop inside false rest
  closes : (flag : Bool) (rest : Tokens) → walk stop inside flag (rp ∷ rest) ≡ walk stop n last rest

round_pair : (stop : Stop) (n : ℕ) (flag : Bool) (lp rp : Position) → Pair stop n flag (Token.Sign m.OpenRound lp) (Token.Sign m.CloseRound rp) true
unfolding walk
round_pair Stop.Close n flag lp rp = record { inside = suc n; opens = λ rest. refl; closes = λ flag rest. refl }
round_pair Stop.Semicolon n flag lp rp = record { inside = n; opens = λ rest. refl; closes = λ flag rest. refl }
round_pair Stop.Colon n flag lp rp = record { inside = n; opens = λ rest. refl; closes = λ flag rest. refl }
round_pair Stop.Constants n flag lp rp = record { inside = n; opens = λ rest. refl; closes = λ flag rest. refl }

body_pair : (stop : Stop) (n : ℕ) (flag : Bool) (lp rp : Position) (body : Span) → Pair stop n flag (Token.Sign m.OpenRound lp) (Token.CloseBody rp body) false
unfolding walk
body_pair Stop.Close n flag lp rp body = record { inside = suc n; opens = λ rest. refl; closes = λ flag rest. refl }
body_pair Stop.Semicolon n flag lp rp body = record { inside = n; opens = λ rest. refl; closes = λ flag rest. refl }
body_pair Stop.Colon n flag lp rp body = record { inside = n; opens = λ rest. refl; closes = λ flag rest. refl }
body_pair Stop.Constants n flag lp rp body = record { inside = n; opens = λ rest. refl; closes = λ flag rest. refl }

choice_pair : (stop : Stop) (n : ℕ) (flag : Bool) (lp rp : Position) → Pair stop n flag (Token.Sign m.Question lp) (Token.Sign m.Colon rp) false
unfolding walk
choice_pair Stop.Colon n flag lp rp = record { inside = suc n; opens = λ rest. refl; closes = λ flag rest. refl }
choice_pair Stop.Semicolon n flag lp rp = record { inside = n; opens = λ rest. refl; closes = λ flag rest. refl }
choice_pair Stop.Close n flag lp rp = record { inside = n; opens = λ rest. refl; closes = λ flag rest. refl }
choice_pair Stop.Constants n flag lp rp = record { inside = n; opens = λ rest. refl; closes = λ flag rest. refl }

curly_pair : (stop : Stop) (n : ℕ) (lp rp : Position) → Pair stop n false (Token.Sign m.OpenCurly lp) (Token.Sign m.CloseCurly rp) false
unfolding walk
curly_pair Stop.Constants n lp rp = record { inside = suc n; opens = λ rest. refl; closes = λ flag rest. refl }
curly_pair Stop.Semicolon n lp rp = record { inside = n; opens = λ rest. refl; closes = λ flag rest. refl }
curly_pair Stop.Colon n lp rp = record { inside = n; opens = λ rest. refl; closes = λ flag rest. refl }
curly_pair Stop.Close n lp rp = record { inside = n; opens = λ rest. refl; closes = λ flag rest. refl }

plain_step : (stop : Stop) (x : Token) (n : ℕ) (flag : Bool) (rest : Tokens) → is_plain x ≡ true → walk stop n flag (x ∷ rest) ≡ walk stop n false rest
unfolding walk
plain_step stop (Token.Id x at) n flag rest h = refl
plain_step stop (Token.Literal x at) n flag rest h = refl
plain_step stop (Token.Word x at) n flag rest h = refl
plain_step stop (Token.ArrowBody at body) n flag rest h = refl
plain_step stop (Token.CloseBody at body) n flag rest h = absurd (cc h)
plain_step stop (Token.Sign m.OpenRound at) n flag rest h = absurd (cc h)
plain_step stop (Token.Sign m.CloseRound at) n flag rest h = absurd (cc h)
plain_step stop (Token.Sign m.OpenCurly at) n flag rest h = absurd (cc h)
plain_step stop (Token.Sign m.CloseCurly at) n flag rest h = absurd (cc h)
plain_step stop (Token.Sign m.Question at) n flag rest h = absurd (cc h)
plain_step stop (Token.Sign m.Colon at) n flag rest h = absurd (cc h)
plain_step stop (Token.Sign m.Semicolon at) n flag rest h = absurd (cc h)
plain_step stop (Token.Sign m.Arrow at) n flag rest h = absurd (cc h)
plain_step stop (Token.Sign _ at) n flag rest h = refl

arrow_step : (stop : Stop) (at : Position) (n : ℕ) (flag : Bool) (rest : Tokens) → walk stop n flag (Token.Sign m.Arrow at ∷ rest) ≡ walk stop n true rest
unfolding walk
arrow_step stop at n flag rest = refl

start_step : (stop : Stop) (x : Token) (n : ℕ) (flag : Bool) (rest : Tokens) → starts x ≡ true → walk stop n flag (x ∷ rest) ≡ walk stop n false (x ∷ rest)
unfolding walk
start_step stop (Token.Sign m.OpenCurly at) n flag rest h = absurd (cc h)
start_step stop (Token.Sign _ at) n flag rest h = refl
start_step stop (_) n flag rest h = refl

module _ (stop : Stop) where
  pub none : Passes stop []
  none = record { go = λ n flag. (flag, λ rest. refl) }

  pub weak : {a : Tokens} → Passes stop a → Begun stop a
  weak {a} f = record { go = λ n. f.go n false }

  pub nothing : Begun stop []
  nothing = weak none

  pub both : {a b : Tokens} → Passes stop a → Passes stop b → Passes stop (a ++ b)
  both {a} {b} f g = record { go = λ n flag. let i = f.go n flag in let j = g.go n i.0 in (j.0, λ rest. ap (walk stop n flag) (append_assoc a b rest) ∙ i.1 (b ++ rest) ∙ j.1 rest) }

  pub begun : {a b : Tokens} → Begun stop a → Passes stop b → Begun stop (a ++ b)
  begun {a} {b} f g = record { go = λ n. let i = f.go n in let j = g.go n i.0 in (j.0, λ rest. ap (walk stop n false) (append_assoc a b rest) ∙ i.1 (b ++ rest) ∙ j.1 rest) }

  pub then_plain : {x : Token} {a : Tokens} → is_plain x ≡ true → Begun stop a → Passes stop (x ∷ a)
  then_plain {x} {a} h f = record { go = λ n flag. let i = f.go n in (i.0, λ rest. plain_step stop x n flag (a ++ rest) h ∙ i.1 rest) }

  pub plainly : {x : Token} {a : Tokens} → is_plain x ≡ true → Passes stop a → Passes stop (x ∷ a)
  plainly h f = then_plain h (weak f)

  then_arrow : {at : Position} {a : Tokens} → Passes stop a → Passes stop (Token.Sign m.Arrow at ∷ a)
  then_arrow {at} {a} f = record { go = λ n flag. let i = f.go n true in (i.0, λ rest. arrow_step stop at n flag (a ++ rest) ∙ i.1 rest) }

  lift : {a : Tokens} → First a → Begun stop a → Passes stop a
  lift {a} s f = record { go = λ n flag. let i = f.go n in (i.0, λ rest. at n flag rest ∙ i.1 rest) }
    where
      at : (n : ℕ) (flag : Bool) (rest : Tokens) → walk stop n flag (a ++ rest) ≡ walk stop n false (a ++ rest)
      at n flag rest = subst (λ (l : Tokens). walk stop n flag (l ++ rest) ≡ walk stop n false (l ++ rest)) (sym s.is) (start_step stop s.head n flag (s.tail ++ rest) s.starts)

  paired : (lp rp : Token) (last : Bool) (a b : Tokens) → ((n : ℕ) (flag : Bool) → Pair stop n flag lp rp last) → Begun stop a → ((n : ℕ) → (out : Bool) × ((rest : Tokens) → walk stop n last (b ++ rest) ≡ walk stop n out rest))
      → Passes stop (lp ∷ (a ++ rp ∷ b))
  paired lp rp last a b p f g = record {
    go = λ n flag.
        let q = p n flag in
        let i = f.go q.inside in
        let j = g n in
        (j.0, λ rest. q.opens ((a ++ rp ∷ b) ++ rest) ∙ ap (walk stop q.inside false) (append_assoc a (rp ∷ b) rest) ∙ i.1 (rp ∷ (b ++ rest)) ∙ q.closes i.0 (b ++ rest) ∙ j.1 rest);
  }

  pub opened : (lp rp : Position) (a b : Tokens) → Begun stop a → Passes stop b → Passes stop (Token.Sign m.OpenRound lp ∷ (a ++ Token.Sign m.CloseRound rp ∷ b))
  opened lp rp a b f g = paired (Token.Sign m.OpenRound lp) (Token.Sign m.CloseRound rp) true a b (λ n flag. round_pair stop n flag lp rp) f (λ n. g.go n true)

  pub chosen : (q c : Position) (a b : Tokens) → Begun stop a → Begun stop b → Passes stop (Token.Sign m.Question q ∷ (a ++ Token.Sign m.Colon c ∷ b))
  chosen q c a b f g = paired (Token.Sign m.Question q) (Token.Sign m.Colon c) false a b (λ n flag. choice_pair stop n flag q c) f (λ n. g.go n)

  curled : (lc rc : Position) (a : Tokens) → Begun stop a → Begun stop (Token.Sign m.OpenCurly lc ∷ (a ++ Token.Sign m.CloseCurly rc ∷ []))
  curled lc rc a f = record {
    go = λ n.
        let q = curly_pair stop n lc rc in
        let i = f.go q.inside in
        (false, λ rest. q.opens ((a ++ Token.Sign m.CloseCurly rc ∷ []) ++ rest) ∙ ap (walk stop q.inside false) (append_assoc a (Token.Sign m.CloseCurly rc ∷ []) rest) ∙ i.1 (Token.Sign m.CloseCurly rc ∷ rest) ∙ q.closes i.0 rest);
  }

  -- arguments, and the `)` behind them
  pub args_opened : (lp rp : Position) (body : Option Span) (a : Tokens) → Begun stop a → Passes stop (Token.Sign m.OpenRound lp ∷ (a ++ args_close rp body ∷ []))
  args_opened lp rp None a f = opened lp rp a [] f none
  args_opened lp rp (Some body) a f = paired (Token.Sign m.OpenRound lp) (Token.CloseBody rp body) false a [] (λ n flag. body_pair stop n flag lp rp body) f (λ n. (false, λ rest. refl))

  module _ (A : Type 0) (text : A → Tokens) (P : A → Type 0) (begins : (x : A) → P x → Begun stop (text x)) where
    pub more_pass : (ps : List Position) (xs : List A) → AllByRecursion P xs → Passes stop (more_tokens ps (map text xs))
    more_pass [] xs all = none
    more_pass (p ∷ ps) [] all = none
    more_pass (p ∷ ps) (x ∷ xs) all = then_plain refl (begun (begins x all.0) (more_pass ps xs all.1))

    pub listed_begun : (ps : List Position) (xs : List A) → AllByRecursion P xs → Begun stop (listed ps (map text xs))
    listed_begun ps [] all = nothing
    listed_begun ps (x ∷ xs) all = begun (begins x all.0) (more_pass ps xs all.1)

  module _ (A : Type 0) (text : A → Tokens) (P : A → Type 0) (passes : (x : A) → P x → Passes stop (text x)) where
    pub listed_passes : (ps : List Position) (xs : List A) → AllByRecursion P xs → Passes stop (listed ps (map text xs))
    listed_passes ps [] all = none
    listed_passes ps (x ∷ xs) all = both (passes x all.0) (more_pass A text P (λ x h. weak (passes x h)) ps xs all.1)

  operator_passes : (op : BinaryOp) (at : Position) → Passes stop (operator_tokens op at)
  operator_passes op.OrElse at = plainly refl none
  operator_passes op.AndAlso at = plainly refl none
  operator_passes op.BitOr at = plainly refl none
  operator_passes op.BitXor at = plainly refl none
  operator_passes op.BitAnd at = plainly refl none
  operator_passes op.Equal at = plainly refl none
  operator_passes op.NotEqual at = plainly refl none
  operator_passes op.Less at = plainly refl none
  operator_passes op.LessEqual at = plainly refl none
  operator_passes op.Greater at = plainly refl none
  operator_passes (op.GreaterEqual second) at = plainly refl (plainly refl none)
  operator_passes op.ShiftLeft at = plainly refl none
  operator_passes (op.ShiftRight second) at = plainly refl (plainly refl none)
  operator_passes (op.ShiftUnsigned second third) at = plainly refl (plainly refl (plainly refl none))
  operator_passes op.Add at = plainly refl none
  operator_passes op.Subtract at = plainly refl none
  operator_passes op.Multiply at = plainly refl none
  operator_passes op.Divide at = plainly refl none
  operator_passes op.Remainder at = plainly refl none

  assign_passes : (op : AssignOp) (at : Position) → Passes stop (assign_tokens op at)
  assign_passes assign.Plain at = plainly refl none
  assign_passes assign.Add at = plainly refl none
  assign_passes assign.Subtract at = plainly refl none
  assign_passes assign.Multiply at = plainly refl none
  assign_passes assign.Divide at = plainly refl none
  assign_passes assign.Remainder at = plainly refl none
  assign_passes assign.ShiftLeft at = plainly refl none
  assign_passes (assign.ShiftRight second third) at = plainly refl (plainly refl (plainly refl none))
  assign_passes (assign.ShiftUnsigned second third fourth) at = plainly refl (plainly refl (plainly refl (plainly refl none)))
  assign_passes assign.BitAnd at = plainly refl none
  assign_passes assign.BitOr at = plainly refl none
  assign_passes assign.BitXor at = plainly refl none

prefix_plain : (op : PrefixOp) → is_plain_mark (prefix_mark op) ≡ true
prefix_plain prefix.Plus = refl
prefix_plain prefix.Minus = refl
prefix_plain prefix.Increment = refl
prefix_plain prefix.Decrement = refl
prefix_plain prefix.Complement = refl
prefix_plain prefix.Not = refl

postfix_plain : (op : PostfixOp) → is_plain_mark (postfix_mark op) ≡ true
postfix_plain postfix.Increment = refl
postfix_plain postfix.Decrement = refl

pub closing_plain : (j : Bool) → is_plain_mark (closing j) ≡ true
closing_plain true = refl
closing_plain false = refl

module _ (stop : Stop) where
  dotted_passes : (xs : List JDotted) → Passes stop (dotted_tokens xs)
  dotted_passes [] = none stop
  dotted_passes (x ∷ xs) = plainly stop refl (plainly stop refl (dotted_passes xs))

  pub qualified_passes : (q : JQualified) → Passes stop (qualified_tokens q)
  qualified_passes q = plainly stop refl (dotted_passes q.rest)

  brackets_pass : (xs : List JBrackets) → Passes stop (brackets_tokens xs)
  brackets_pass [] = none stop
  brackets_pass (x ∷ xs) = plainly stop refl (plainly stop refl (brackets_pass xs))

  -- values in braces behind brackets
  brackets_then : (x : JBrackets) (xs : List JBrackets) (b : Tokens) → Begun stop b → Passes stop (brackets_tokens (x ∷ xs) ++ b)
  brackets_then x [] b f = plainly stop refl (then_plain stop refl f)
  brackets_then x (y ∷ ys) b f = plainly stop refl (plainly stop refl (brackets_then y ys b f))

  filled_passes : (xs : List JBrackets) (b : Tokens) → 1 ≤ length xs → Begun stop b → Passes stop (brackets_tokens xs ++ b)
  filled_passes [] b full f = absurd (omega (arith, full))
  filled_passes (x ∷ xs) b full f = brackets_then x xs b f

  type_layer : (d : ℕ) → ((x : JType) → TypeStands d x → Passes stop (type_tokens x)) → (x : JType-F JType) → type_stands_by (TypeStands d) x → Passes stop (type_tokens_by (map-JType JType Tokens type_tokens x))
  type_layer d h (JType-F.Primitive p at) s = plainly stop refl (none stop)
  type_layer d h (JType-F.Class q) s = qualified_passes q
  type_layer d h (JType-F.Applied q lp args commas j rp) s =
      both stop (qualified_passes q) (plainly stop refl (both stop (listed_passes stop JType type_tokens (TypeStands d) h commas args s.2) (plainly stop (closing_plain j) (none stop))))
  type_layer d h (JType-F.Array element brackets) s = both stop (h element s.2) (brackets_pass brackets)

  pub type_passes : (d : ℕ) (x : JType) → TypeStands d x → Passes stop (type_tokens x)
  unfolding TypeStands
  type_passes zero x s = absurd s
  type_passes (suc d) x s = subst (Passes stop) (sym (type_tokens_out x)) (type_layer d (type_passes d) (out-JType x) s)

  pub final_passes : (is_final : Option Position) → Passes stop (final_tokens is_final)
  final_passes None = none stop
  final_passes (Some at) = plainly stop refl (none stop)

  pub typed_passes : (d : ℕ) (p : JTypedParam) → TypedStands d p → Passes stop (typed_tokens p)
  unfolding TypedStands
  typed_passes zero p s = absurd s
  typed_passes (suc d) p s = both stop (final_passes p.is_final) (both stop (type_passes d p.kind s) (plainly stop refl (none stop)))

  pub all_typed_pass : (d : ℕ) (ps : List JTypedParam) (commas : List Position) → AllByRecursion (TypedStands d) ps → Passes stop (listed commas (map typed_tokens ps))
  all_typed_pass d ps commas all = listed_passes stop JTypedParam typed_tokens (TypedStands d) (typed_passes d) commas ps all

  idents_pass : (ps : List JParam) (commas : List Position) → Passes stop (listed commas (map param_tokens ps))
  idents_pass ps commas = listed_passes stop JParam param_tokens Any (λ p s. plainly stop refl (none stop)) commas ps (any ps)

  params_pass : (d : ℕ) (ps : JParams) → params_stand (TypedStands d) ps → Passes stop (params_tokens ps)
  params_pass d (params.One p) s = plainly stop refl (none stop)
  params_pass d (params.Several lp ps commas rp) s = opened stop lp rp _ [] (weak stop (idents_pass ps commas)) (none stop)
  params_pass d (params.Typed lp ps commas rp) s = opened stop lp rp _ [] (weak stop (all_typed_pass d ps commas s.1)) (none stop)

  created_passes : (d : ℕ) (x : JCreated) → created_stands d x → Passes stop (created_tokens x)
  created_passes d (created.Type x) s = type_passes (suc d) x s.0
  created_passes d (created.Inferred q lp j close) s = both stop (qualified_passes q) (plainly stop refl (plainly stop (closing_plain j) (none stop)))

  pub trailing_passes : (more : Option Position) → Passes stop (trailing more)
  trailing_passes None = none stop
  trailing_passes (Some at) = plainly stop refl (none stop)

  module _ (d : ℕ) (h : (l : ℕ) (x : JExpr) → Stands d l x → Begun stop (tokens x)) where
    sub : (l : ℕ) (x : JExpr) → 1 ≤ l → Stands d l x → Passes stop (tokens x)
    sub l x g s = lift stop (first d l x g s) (h l x s)

    all_begun : (l : ℕ) (commas : List Position) (xs : List JExpr) → AllByRecursion (Stands d l) xs → Begun stop (listed commas (map tokens xs))
    all_begun l commas xs all = listed_begun stop JExpr tokens (Stands d l) (h l) commas xs all

    braces_begun : (lc : Position) (inits : List JExpr) (commas : List Position) (more : Option Position) (rc : Position) → AllByRecursion (Stands d init_level) inits
        → Begun stop (braces_tokens lc (map tokens inits) commas more rc)
    braces_begun lc inits commas more rc all =
        subst (Begun stop) (ap (λ (l : Tokens). Token.Sign m.OpenCurly lc ∷ l) (append_assoc (listed commas (map tokens inits)) (trailing more) (Token.Sign m.CloseCurly rc ∷ [])))
        (curled stop lc rc (listed commas (map tokens inits) ++ trailing more) (begun stop (all_begun init_level commas inits all) (trailing_passes more)))

    layer_passes : (x : JExpr-F JExpr) → stands_by d (TypeStands d) (TypedStands d) (Stands d) x → Begun stop (tokens_by (map-JExpr JExpr Tokens tokens x))
    layer_passes (JExpr-F.Name x at) s = weak stop (plainly stop refl (none stop))
    layer_passes (JExpr-F.Literal x at) s = weak stop (plainly stop refl (none stop))
    layer_passes (JExpr-F.This at) s = weak stop (plainly stop refl (none stop))
    layer_passes (JExpr-F.Paren lp inner rp) s = weak stop (opened stop lp rp _ [] (h _ inner s) (none stop))
    layer_passes (JExpr-F.Call x at lp args commas rp) s = weak stop (plainly stop refl (opened stop lp rp _ [] (all_begun any_level commas args s.1) (none stop)))
    layer_passes (JExpr-F.SuperCall above dot x at lp args commas rp) s =
        weak stop (plainly stop refl (plainly stop refl (plainly stop refl (opened stop lp rp _ [] (all_begun any_level commas args s.1) (none stop)))))
    layer_passes (JExpr-F.Field left dot x at) s = begun stop (h _ left s) (plainly stop refl (plainly stop refl (none stop)))
    layer_passes (JExpr-F.Method left dot x at lp args commas rp) s =
        begun stop (h _ left s.0) (plainly stop refl (plainly stop refl (opened stop lp rp _ [] (all_begun any_level commas args s.2) (none stop))))
    layer_passes (JExpr-F.Element left lp index rp) s = begun stop (h _ left s.0) (then_plain stop refl (begun stop (h _ index s.2) (plainly stop refl (none stop))))
    layer_passes (JExpr-F.Postfix left op at) s = begun stop (h _ left s) (plainly stop (postfix_plain op) (none stop))
    layer_passes (JExpr-F.Instanceof left at to) s = begun stop (h _ left s.0) (plainly stop refl (type_passes d to s.1))
    layer_passes (JExpr-F.Prefix op at inner) s = weak stop (then_plain stop (prefix_plain op) (h _ inner s))
    layer_passes (JExpr-F.MinusLeast minus literal at) s = weak stop (plainly stop refl (plainly stop refl (none stop)))
    layer_passes (JExpr-F.Cast lp to rp inner) s = weak stop (opened stop lp rp _ _ (weak stop (type_passes d to s.0)) (sub _ inner (omega arith) s.1))
    layer_passes (JExpr-F.Binary left op at right) s = begun stop (h _ left s.0) (both stop (operator_passes stop op at) (sub _ right (omega arith) s.1))
    layer_passes (JExpr-F.Conditional left question then_ colon else_) s = begun stop (h _ left s.0) (chosen stop question colon _ _ (h _ then_ s.1) (h _ else_ s.2))
    layer_passes (JExpr-F.Assign left op at right) s = begun stop (h _ left s.0) (both stop (assign_passes stop op at) (sub _ right (omega arith) s.2))
    layer_passes (JExpr-F.Lambda params arrow body) s = weak stop (both stop (params_pass d params s.0) (then_arrow stop (sub _ body (omega arith) s.1)))
    layer_passes (JExpr-F.LambdaBlock params arrow body) s = weak stop (both stop (params_pass d params s.0) (plainly stop refl (none stop)))
    layer_passes (JExpr-F.New at made lp args commas rp body) s =
        weak stop (plainly stop refl (both stop (created_passes d made s.0) (args_opened stop lp rp body _ (all_begun any_level commas args s.2))))
    layer_passes (JExpr-F.NewArray at of lb size rb more) s =
        weak stop (plainly stop refl (both stop (type_passes (suc d) of s.0) (then_plain stop refl (begun stop (h _ size s.2) (plainly stop refl (brackets_pass more))))))
    layer_passes (JExpr-F.NewFilled at of brackets lc inits commas more rc) s =
        weak stop (plainly stop refl (both stop (type_passes (suc d) of s.0) (filled_passes brackets _ s.2 (braces_begun lc inits commas more rc s.4))))
    layer_passes (JExpr-F.Braces lc inits commas more rc) s = braces_begun lc inits commas more rc s.1

  pub expr_begun : (d l : ℕ) (x : JExpr) → Stands d l x → Begun stop (tokens x)
  unfolding Stands
  expr_begun zero l x s = absurd s
  expr_begun (suc d) l x s = subst (Begun stop) (sym (tokens_out x)) (layer_passes d (expr_begun d) (out-JExpr x) s.1)

  pub expr_passes : (d : ℕ) (x : JExpr) → Stands d any_level x → Passes stop (tokens x)
  expr_passes d x s = lift stop (first d any_level x (omega arith) s) (expr_begun d any_level x s)

  -- ---- heads

  value_passes : (d : ℕ) (x : Option JValue) → value_stands d x → Passes stop (value_tokens x)
  value_passes d None s = none stop
  value_passes d (Some x) s = then_plain stop refl (expr_begun d init_level x.tree s)

  pub declarator_passes : (d : ℕ) (x : JDeclarator) → DeclaratorStands d x → Passes stop (declarator_tokens x)
  unfolding DeclaratorStands
  declarator_passes zero x s = absurd s
  declarator_passes (suc d) x s = plainly stop refl (value_passes d x.value s)

  pub declaration_passes : (d : ℕ) (x : JDeclaration) → DeclarationStands d x → Passes stop (declaration_tokens x)
  declaration_passes d x s =
      both stop (final_passes x.is_final) (both stop (type_passes d x.kind s.kind) (listed_passes stop JDeclarator declarator_tokens (DeclaratorStands d) (declarator_passes d) x.commas x.names s.all))

  maybe_passes : (d : ℕ) (x : Option JExpr) → maybe_stands d x → Passes stop (maybe_tokens x)
  maybe_passes d None s = none stop
  maybe_passes d (Some x) s = expr_passes d x s

  label_passes : (x : Option JLabelName) → Passes stop (label_tokens x)
  label_passes None = none stop
  label_passes (Some x) = plainly stop refl (none stop)

  pub args_pass : (d : ℕ) (lp : Position) (args : List JExpr) (commas : List Position) (rp : Position) → AllByRecursion (Stands d any_level) args → Passes stop (args_tokens lp args commas rp)
  args_pass d lp args commas rp all = opened stop lp rp _ [] (listed_begun stop JExpr tokens (Stands d any_level) (expr_begun d any_level) commas args all) (none stop)

  pub simple_passes : (d : ℕ) (x : JSimple) → SimpleStands d x → Passes stop (simple_tokens x)
  simple_passes d simple.Empty s = none stop
  simple_passes d (simple.Declaration x) s = declaration_passes d x s
  simple_passes d (simple.Expression x) s = expr_passes d x s.stands
  simple_passes d (simple.Break at x) s = plainly stop refl (label_passes x)
  simple_passes d (simple.Continue at x) s = plainly stop refl (label_passes x)
  simple_passes d (simple.Return at x) s = plainly stop refl (maybe_passes d x s)
  simple_passes d (simple.Throw at x) s = plainly stop refl (expr_passes d x s)
  simple_passes d (simple.ThisCall at lp args commas rp) s = plainly stop refl (args_pass d lp args commas rp s.1)
  simple_passes d (simple.SuperCall at lp args commas rp) s = plainly stop refl (args_pass d lp args commas rp s.1)

  pub lock_passes : (d : ℕ) (x : JLock) → LockStands d x → Passes stop (lock_tokens x)
  lock_passes d (lock.Expression x) s = expr_passes d x s
  lock_passes d (lock.Class q dot at) s = both stop (qualified_passes q) (plainly stop refl (plainly stop refl (none stop)))

-- ---- what stands in the parentheses of a `for`

for_semicolon : (at : Position) (a : Tokens) → Begun Stop.Close a → Passes Stop.Close (Token.Sign m.Semicolon at ∷ a)
unfolding walk
for_semicolon at a f = record { go = λ n flag. let i = f.go n in (i.0, λ rest. i.1 rest) }

for_colon : (at : Position) (a : Tokens) → Begun Stop.Close a → Passes Stop.Close (Token.Sign m.Colon at ∷ a)
unfolding walk
for_colon at a f = record { go = λ n flag. let i = f.go n in (i.0, λ rest. i.1 rest) }

statements_pass : (d : ℕ) (xs : List JExpr) (commas : List Position) → AllByRecursion (StatementStands d) xs → Passes Stop.Close (listed commas (map tokens xs))
statements_pass d xs commas all = listed_passes Stop.Close JExpr tokens (StatementStands d) (λ x s. expr_passes Stop.Close d x s.stands) commas xs all

start_passes : (d : ℕ) (x : JForStart) → StartStands d x → Passes Stop.Close (start_tokens x)
start_passes d (start.Declaration x) s = declaration_passes Stop.Close d x s
start_passes d (start.Expressions xs commas) s = statements_pass d xs commas s.1

pub for_passes : (d : ℕ) (x : JForHead) → ForStands d x → Passes Stop.Close (for_tokens x)
for_passes d (for.Basic start first condition second updates commas) s =
    both Stop.Close (start_passes d start s.0)
    (for_semicolon first _ (weak Stop.Close (both Stop.Close (maybe_passes Stop.Close d condition s.1) (for_semicolon second _ (weak Stop.Close (statements_pass d updates commas s.3))))))
for_passes d (for.Each is_final kind n at colon walked) s =
    both Stop.Close (final_passes Stop.Close is_final)
    (both Stop.Close (type_passes Stop.Close d kind s.0) (plainly Stop.Close refl (for_colon colon _ (weak Stop.Close (expr_passes Stop.Close d walked s.1)))))

-- ---- so that none is open at its end

pub passed : (stop : Stop) (a : Tokens) → Passes stop a → walk stop 0 false a ≡ Some 0
unfolding walk
passed stop a f = let i = f.go 0 false in ap (walk stop 0 false) (sym (append-nil a)) ∙ i.1 []
